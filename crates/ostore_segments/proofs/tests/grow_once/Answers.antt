use Rattle.ostore_segments.proofs.ListSteps.{Becomes-alone}
use Rattle.ostore_segments.proofs.TestLaws.{grown_allocated}
use Rattle.ostore_segments.proofs.tests.grow_once.Goals as goal

pub returns : goal.returns
returns c = grown_allocated c.in-Ok.grown c.args.pages.now.pages c.grow.new.pages.pages c.args.segment c.requires.allocated (Becomes-alone c.args.pages.now.pages c.grow.new.pages.pages c.in-Ok.ensures.lists)
