use Rattle.std.proofs.Common.{ℕ, subst, sym}
use Rattle.std.specs.Str.{IsValidUpTo}
use Rattle.ostore_text_words.proofs.Utf8Faults.{fault_none, fault_some}
use Rattle.ostore_text_words.proofs.utf8.utf8_fault.Goals as goal

pub returns-in-Ok-clause-at : goal.returns-in-Ok-clause-at
returns-in-Ok-clause-at c = fault_none c.args.text.now c.in-Ok.ensures.cases.1

pub returns-in-Err-clause-at : goal.returns-in-Err-clause-at
returns-in-Err-clause-at c =
    fault_some c.args.text.now c.valid_up_to.result c.in-Err.ensures.cases.0
    (subst (λ (n : ℕ). IsValidUpTo c.args.text.now n) (sym c.valid_up_to.ensures) c.in-Err.ensures.cases.1)
