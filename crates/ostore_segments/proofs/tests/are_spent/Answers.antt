use Rattle.ostore_segments.proofs.ListSteps.{Becomes-alone}
use Rattle.ostore_segments.proofs.tests.are_spent.Goals as goal

pub returns-clause-same : goal.returns-clause-same
returns-clause-same c = (Becomes-alone c.args.pages.now.pages c.serials_spent.new.pages.pages c.in-Ok.ensures.lists).0

pub returns-clause-spent : goal.returns-clause-spent
returns-clause-spent c = (Becomes-alone c.args.pages.now.pages c.serials_spent.new.pages.pages c.in-Ok.ensures.lists).1
