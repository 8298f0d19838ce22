use Rattle.ostore_page_service.proofs.ExclusionLaws.{exclusive_fetched, exclusive_release, exclusive_give_up}
use Rattle.ostore_page_service.proofs.laws.steps_keep_exclusion.Goals as goal

pub returns-clause-fetched : goal.returns-clause-fetched
returns-clause-fetched c = λ new may step. exclusive_fetched c.args.word.0 new c.args.client.0 c.requires.low c.requires.exclusive may step

pub returns-clause-release : goal.returns-clause-release
returns-clause-release c = λ new may step. exclusive_release c.args.word.0 new c.args.client.0 c.requires.low c.requires.exclusive may.0 may.1 step

pub returns-clause-give_up : goal.returns-clause-give_up
returns-clause-give_up c = λ released new may step. exclusive_give_up c.args.word.0 new c.args.client.0 c.requires.low c.requires.exclusive released may step
