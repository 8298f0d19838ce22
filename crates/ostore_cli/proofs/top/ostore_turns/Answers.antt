use Rattle.ostore_cli.proofs.PromiseLaws.{promise}
use Rattle.ostore_cli.proofs.top.ostore_turns.Goals as goal

pub returns-clause-promise : goal.returns-clause-promise
returns-clause-promise g c = promise _ c.print_answer-status.result c.answer_to-answer.result c.answer_to-answer.ensures c.print_answer-status.ensures
