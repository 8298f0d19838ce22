-- Where a text stops being UTF-8, as a function of its bytes.
use Rattle.std.proofs.Common.{◌≡◌, ℕ, List, Some, None, sym, ◌∙◌, ap, inl, inr}
use Rattle.std.specs.Str.{IsUtf8, IsValidUpTo, is_utf8}
use Rattle.std.specs.Str.Lossy.{utf8_valid_len}
use Rattle.std.proofs.lemmas.Bool.{cases_Bool, cond-true, cond-false}
use Rattle.std.proofs.lemmas.Str.{IsUtf8-from_is_utf8, is_utf8-from_IsUtf8, utf8_valid_len-IsValidUpTo}
use Rattle.ostore_text_words.specs.Lines.{utf8_fault}

pub fault_none : (text : List ℕ) → IsUtf8 text → None ≡ utf8_fault text
fault_none text h = sym (cond-true (is_utf8 text) None (Some (utf8_valid_len text)) (is_utf8-from_IsUtf8 text h))

pub fault_some : (text : List ℕ) (at : ℕ) → (IsUtf8 text → ⊥) → IsValidUpTo text at → Some at ≡ utf8_fault text
fault_some text at bad upto =
    elim (cases_Bool (is_utf8 text)) [
      | inl good ↦ absurd (bad (IsUtf8-from_is_utf8 text good))
      | inr ill ↦ ap (λ (n : ℕ). Some n) (sym (utf8_valid_len-IsValidUpTo text at upto)) ∙ sym (cond-false (is_utf8 text) None (Some (utf8_valid_len text)) ill)
    ]
