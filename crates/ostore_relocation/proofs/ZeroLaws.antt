-- Pointers that are 0 stay 0, and two runs of pointers, one behind the other.
use Rattle.std.proofs.Common.{◌≡◌, ℕ, zero, suc, ◌+◌, ◌-◌, ◌<◌, ◌≤◌, List, [], ◌∷◌, ◌++◌, length, get_or, drop, refl, sym, ap, ◌∙◌, arith, inl, inr}
use Rattle.std.specs.List.{AllByRecursion}
use Rattle.std.proofs.lemmas.Bool.{cases_lt, cases_eq}
use Rattle.std.proofs.lemmas.List.{same_lists, get_or_default, get_or-drop}
use Rattle.byteorder.specs.Endian.{little_bytes, little_from}
use Rattle.byteorder.specs.Numbers.{length-bytes_low_first}
use Rattle.ostore_page_tags.specs.Numbers.{number_at, with_number}
use Rattle.ostore_page_tags.proofs.bytes.ImageLaws.{get_or-replaced_at, length-replaced_within, SameOn-replaced_before, SameOn-replaced_behind}
use Rattle.ostore_relocation.specs.Places.{IsOneOf, IsOutside, LieBetween}
use Rattle.ostore_relocation.specs.Pointers.{with_pointer, with_pointers}
use Rattle.ostore_relocation.specs.Stores.{AreZeros}
use Rattle.ostore_relocation.proofs.PlaceLaws.{lie_order}

-- ---- pointers that are 0

zero_read : (i n : ℕ) (xs : List ℕ) → little_from i n xs ≡ 0 → (k : ℕ) → i ≤ k → k < i + n → get_or xs k 0 ≡ 0
zero_read i zero xs none k low high = absurd (omega arith)
zero_read i (suc n) xs none k low high =
    let head : get_or xs i 0 ≡ 0 = omega arith in
    let tail : little_from (suc i) n xs ≡ 0 = omega arith in
    elim (cases_eq k i) [
      | inl is ↦ ap (λ (j : ℕ). get_or xs j 0) is ∙ head
      | inr past ↦ zero_read (suc i) n xs tail k (omega arith) (omega arith)
    ]

zeros_read : (j : ℕ) → get_or (little_bytes 4 0) j 0 ≡ 0
zeros_read zero = refl
zeros_read (suc zero) = refl
zeros_read (suc (suc zero)) = refl
zeros_read (suc (suc (suc zero))) = refl
zeros_read (suc (suc (suc (suc j)))) = refl

zero_stays : (at : ℕ) (bytes : List ℕ) → at + 4 ≤ length bytes → number_at 4 at bytes ≡ 0 → with_number 4 at 0 bytes ≡ bytes
zero_stays at bytes within none =
    let size = length-bytes_low_first 0 4 0 in
    let long = length-replaced_within at (little_bytes 4 0) bytes (omega arith) in
    same_lists (with_number 4 at 0 bytes) bytes long (λ k d below.
    get_or_default (with_number 4 at 0 bytes) k d 0 below
    ∙ (elim (cases_lt k at) as (λ _. get_or (with_number 4 at 0 bytes) k 0 ≡ get_or bytes k 0) [
      | inl before ↦ (SameOn-replaced_before at k (k + 1) (little_bytes 4 0) bytes (omega arith) (omega arith)).bytes k (omega arith) (omega arith)
      | inr from ↦ elim (cases_lt k (at + 4)) as (λ _. get_or (with_number 4 at 0 bytes) k 0 ≡ get_or bytes k 0) [
        | inl inside ↦
            let here : k ≡ at + (k - at) = omega arith in
            ap (λ (n : ℕ). get_or (with_number 4 at 0 bytes) n 0) here ∙ get_or-replaced_at at (k - at) (little_bytes 4 0) bytes (omega arith) (omega arith) ∙ zeros_read (k - at)
            ∙ sym (sym (get_or-drop at bytes (k - at) 0) ∙ zero_read 0 4 (drop at bytes) none (k - at) (omega arith) (omega arith)) ∙ ap (λ (n : ℕ). get_or bytes n 0) (sym here)
        | inr behind ↦ (SameOn-replaced_behind at k (k + 1) (little_bytes 4 0) bytes (omega arith) (omega arith)).bytes k (omega arith) (omega arith)
      ]
    ])
    ∙ get_or_default bytes k 0 d (omega arith))

pub zeros_stay : (change : ℕ → ℕ) (low high : ℕ) (places bytes : List ℕ) → change 0 ≡ 0 → LieBetween low places high → high ≤ length bytes → AreZeros bytes places → with_pointers change places bytes ≡ bytes
zeros_stay change low high [] bytes fixed lie within none = refl
zeros_stay change low high (at ∷ places) bytes fixed lie within none =
    let order : at + 4 ≤ high = lie_order (at + 4) high places lie.1 in
    let here : with_pointer change at bytes ≡ bytes = ap (λ (v : ℕ). with_number 4 at v bytes) (ap change none.0 ∙ fixed) ∙ zero_stays at bytes (omega arith) none.0 in
    ap (with_pointers change places) here ∙ zeros_stay change (at + 4) high places bytes fixed lie.1 within none.1

-- ---- two runs of places

pub lie_front : (low high : ℕ) (first second : List ℕ) → LieBetween low (first ++ second) high → LieBetween low first high
lie_front low high [] second lie = lie_order low high second lie
lie_front low high (at ∷ first) second lie = (lie.0, lie_front (at + 4) high first second lie.1)

pub lie_back : (low high : ℕ) (first second : List ℕ) → LieBetween low (first ++ second) high → LieBetween low second high
lie_back low high [] second lie = lie
lie_back low high (at ∷ first) second lie = lie_down (at + 4) low high second (let h = lie.0 in omega arith) (lie_back (at + 4) high first second lie.1)
  where
    lie_down : (least low high : ℕ) (places : List ℕ) → low ≤ least → LieBetween least places high → LieBetween low places high
    lie_down least low high [] h lie = omega arith
    lie_down least low high (at ∷ places) h lie = (let l = lie.0 in omega arith, lie.1)

outside_later : (p k low high : ℕ) (second : List ℕ) → p + 4 ≤ low → low ≤ k → IsOutside k p
outside_later p k low high second h l = inr (omega arith)

-- the bytes of each place of the second run are outside the first run
pub apart_runs : (low high k : ℕ) (first second : List ℕ) → LieBetween low (first ++ second) high → (at : ℕ) → at ≤ k → IsOneOf at second → AllByRecursion (IsOutside k) first
apart_runs low high k [] second lie at from there = tt
apart_runs low high k (p ∷ first) second lie at from there = (inr (let l = least (p + 4) high first second lie.1 at there in omega arith), apart_runs (p + 4) high k first second lie.1 at from there)
  where
    lower : (low high at : ℕ) (places : List ℕ) → LieBetween low places high → IsOneOf at places → low ≤ at
    lower low high at [] lie there = absurd there
    lower low high at (place ∷ places) lie (inl here) = let l = lie.0 in omega arith
    lower low high at (place ∷ places) lie (inr later) = let l = lie.0 in let rest = lower (place + 4) high at places lie.1 later in omega arith

    least : (low high : ℕ) (first second : List ℕ) → LieBetween low (first ++ second) high → (at : ℕ) → IsOneOf at second → low ≤ at
    least low high first second lie at there = lower low high at second (lie_back low high first second lie) there

pub all_one_of : (P : ℕ → Type 0) (places : List ℕ) → ((at : ℕ) → IsOneOf at places → P at) → AllByRecursion P places
all_one_of P [] h = tt
all_one_of P (place ∷ places) h = (h place (inl refl), all_one_of P places (λ at there. h at (inr there)))

pub zero_of : (bytes places : List ℕ) (at : ℕ) → AreZeros bytes places → IsOneOf at places → number_at 4 at bytes ≡ 0
zero_of bytes [] at none there = absurd there
zero_of bytes (place ∷ places) at none (inl here) = ap (λ (n : ℕ). number_at 4 n bytes) (sym here) ∙ none.0
zero_of bytes (place ∷ places) at none (inr later) = zero_of bytes places at none.1 later

pub all_both : (P : ℕ → Type 0) (first second : List ℕ) → AllByRecursion P first → AllByRecursion P second → AllByRecursion P (first ++ second)
all_both P [] second a b = b
all_both P (place ∷ first) second a b = (a.0, all_both P first second a.1 b)
