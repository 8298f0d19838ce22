-- What a write that was cut short leaves of a disk's bytes.
use Rattle.std.proofs.Common.{◌≡◌, ◌⊎◌, inl, inr, ℕ, zero, suc, ◌+◌, ◌-◌, ◌<◌, ◌≤◌, ap, ◌∙◌, ◌∷◌, length-append, length-drop, List, [], ◌++◌, length, take, drop, Option, Some, None, refl, sym, subst, arith}
use Rattle.std.proofs.lemmas.Bool.{cases_lt}
use Rattle.std.proofs.lemmas.Grind.{common_steps}
use Rattle.std.proofs.lemmas.List.{drop-drop, drop_all, take_all}
use Rattle.ostore_base.specs.Disk.{replaced, IsTornRange, IsTorn}
use Rattle.ostore_base.specs.Images.{Follows, IsSure, OfTold}

drop_past : (xs ys : List ℕ) (m n : ℕ) → m ≡ length xs + n → drop m (xs ++ ys) ≡ drop n ys
drop_past [] ys m n is = let same : m ≡ n = omega arith in ap (λ (k : ℕ). drop k ys) same
drop_past (x ∷ xs) ys zero n is = absurd (omega arith)
drop_past (x ∷ xs) ys (suc m) n is = drop_past xs ys m n (omega arith)

-- it did nothing
pub torn_same : (at n : ℕ) (held : List ℕ) → IsTornRange at n held held
torn_same at n held = record { before = grind (arith, common_steps); after = grind (arith, common_steps); no_shorter = omega arith }

-- it did all
pub torn_replaced : (at : ℕ) (bytes held : List ℕ) → IsTornRange at (length bytes) held (replaced at bytes held)
torn_replaced at bytes held = record { before = grind (arith, common_steps); after = grind (arith, common_steps); no_shorter = grind (arith, common_steps) }

-- it left other bytes in the range
pub torn_front : (at n : ℕ) (piece held : List ℕ) → length piece ≤ n → IsTornRange at n held (replaced at piece held)
torn_front at n piece held short = record { before = grind (arith, common_steps); after = behind (cases_lt (at + n) (length held)); no_shorter = grind (arith, common_steps) }
  where
    behind : (at + n < length held) ⊎ (length held ≤ at + n) → take (length held - (at + n)) (drop (at + n) (replaced at piece held)) ≡ drop (at + n) held
    behind (inr past) =
        let none : length held - (at + n) ≡ 0 = omega (arith, past) in
        ap (λ (k : ℕ). take k (drop (at + n) (replaced at piece held))) none ∙ sym (drop_all (at + n) held past)
    behind (inl inside) =
        let m = length piece in
        let front : length (take at held) ≡ at = grind (arith, common_steps) in
        let far : drop (at + n) (replaced at piece held) ≡ drop (n - m) (drop (at + m) held) = drop_past (take at held ++ piece) (drop (at + m) held) (at + n) (n - m) (omega (arith, front, short, length-append (take at held) piece)) in
        let place : at + m + (n - m) ≡ at + n = omega (arith, short) in
        let there : drop (n - m) (drop (at + m) held) ≡ drop (at + n) held = drop-drop (n - m) (at + m) held ∙ ap (λ (k : ℕ). drop k held) place in
        ap (take (length held - (at + n))) (far ∙ there) ∙ take_all (length held - (at + n)) (drop (at + n) held) (omega (arith, length-drop (at + n) held))

-- the same of a disk that may not tell
pub IsTorn-same : (at n : ℕ) (held : Option (List ℕ)) → IsTorn at n held held
IsTorn-same at n None = refl
IsTorn-same at n (Some held) = (torn_same at n held, omega arith)

-- a disk that is sure is torn nowhere
pub sure_torn : (told : Option (List ℕ)) (images : List ℕ → Type 0) (at n : ℕ) → IsSure told images → (image : List ℕ) → images image → OfTold told (IsTornRange at n) image
sure_torn None images at n sure image left = tt
sure_torn (Some held) images at n sure image left = subst (λ (d : List ℕ). IsTornRange at n held d) (sym (sure image left)) (torn_same at n held)

-- and is torn in one range after a write
pub write_torn : (told : Option (List ℕ)) (old new : List ℕ → Type 0) (at n : ℕ) → IsSure told old → Follows (IsTornRange at n) old new → (image : List ℕ) → new image → OfTold told (IsTornRange at n) image
write_torn None old new at n sure follows image left = tt
write_torn (Some held) old new at n sure follows image left =
    let from = follows image left in
    subst (λ (d : List ℕ). IsTornRange at n d image) (sure from.0 from.1) from.2
