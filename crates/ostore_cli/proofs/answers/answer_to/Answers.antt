use Rattle.std.proofs.Common.{ℕ, List, rules, subst}
use Rattle.ostore_cli.specs.inside.Answer.{IsTextAnswer}
use Rattle.ostore_cli.proofs.PromiseLaws.{answer_from}
use Rattle.ostore_cli.proofs.answers.answer_to.Goals as goal

pub returns-in-Ok : goal.returns-in-Ok
returns-in-Ok g c =
    answer_from _ _ _ c.in-Ok.text _ (search rules) c.in-Ok.ensures.read c.in-Ok.ensures.cause
    (subst (λ (t : List ℕ). IsTextAnswer t c.answer_text.result) c.bytes.ensures c.answer_text.ensures)
