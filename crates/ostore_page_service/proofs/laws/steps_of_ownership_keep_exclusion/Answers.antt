use Rattle.ostore_page_service.proofs.ExclusionLaws.{exclusive_want}
use Rattle.ostore_page_service.proofs.laws.steps_of_ownership_keep_exclusion.Goals as goal

pub returns-clause-want : goal.returns-clause-want
returns-clause-want c = λ new step. exclusive_want c.args.word.0 new c.args.client.0 c.requires.low c.requires.exclusive step
