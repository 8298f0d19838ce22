use Rattle.ostore_segments.proofs.ListSteps.{Becomes-alone}
use Rattle.ostore_segments.proofs.tests.listed.Goals as goal

pub returns-in-Ok : goal.returns-in-Ok
returns-in-Ok c = (Becomes-alone c.args.pages.now.pages c.pages_of.new.pages.pages c.in-Ok.ensures.lists).0
