-- Bytes that come and go, over several calls.
use Rattle.std.proofs.Common.{◌≡◌, ℕ, ◌+◌, List, [], ◌++◌, take, drop, Option, Some, None, refl, ap, sym, ◌∙◌, append_assoc, arith}
use Rattle.std.proofs.Math.Seq.{take-add}
use Rattle.std.proofs.lemmas.List.{drop-drop}
use Rattle.std.proofs.lemmas.Grind.{common_steps}
use Rattle.ostore_base.specs.Streams.{appended, without, GivesFront}

-- nothing more was written
pub appended-nil : (held : Option (List ℕ)) → appended held [] ≡ held
appended-nil None = refl
appended-nil (Some held) = grind (arith, common_steps)

-- two pieces, one after the other
pub appended-append : (held : Option (List ℕ)) (a b : List ℕ) → appended (appended held a) b ≡ appended held (a ++ b)
appended-append None a b = refl
appended-append (Some held) a b = ap Some (append_assoc held a b)

-- of a piece, n bytes more than m
pub appended-more : (held : Option (List ℕ)) (bytes : List ℕ) (m n : ℕ) → appended (appended held (take m bytes)) (take n (drop m bytes)) ≡ appended held (take (m + n) bytes)
appended-more held bytes m n =
    appended-append held (take m bytes) (take n (drop m bytes)) ∙ ap (appended held) (sym (take-add m n bytes))

-- nothing was taken
pub without-zero : (left : Option (List ℕ)) → without left 0 ≡ left
without-zero None = refl
without-zero (Some left) = refl

-- taken twice
pub without-without : (left : Option (List ℕ)) (m n : ℕ) → without (without left m) n ≡ without left (m + n)
without-without None m n = refl
without-without (Some left) m n = ap Some (drop-drop n m left)

-- what was read first, and what was read then
pub GivesFront-more : (bytes buffer : List ℕ) (m n : ℕ) → GivesFront (drop m bytes) buffer n → take m bytes ++ take n buffer ≡ take (m + n) bytes
GivesFront-more bytes buffer m n gives = ap (λ front. take m bytes ++ front) gives.front ∙ sym (take-add m n bytes)
