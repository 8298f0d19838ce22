use Rattle.ostore_page_service.proofs.ExclusionLaws.{read_conflict_names, may_own}
use Rattle.ostore_page_service.proofs.ServingLaws.{no_others}
use Rattle.ostore_page_service.proofs.laws.conflicts_name_another.Goals as goal

pub returns-clause-read : goal.returns-clause-read
returns-clause-read c = λ unused conflict. read_conflict_names c.args.word.0 c.args.client.0 c.requires.low c.requires.exclusive unused conflict

pub returns-clause-own : goal.returns-clause-own
returns-clause-own c = λ used not_fetcher not_owner calm. may_own c.args.word.0 c.args.client.0 c.requires.low c.requires.exclusive used not_owner not_fetcher (no_others c.args.word.0 c.args.client.0 calm)
