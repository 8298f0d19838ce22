-- Writes and changes of pointers in either order.
use Rattle.std.proofs.Common.{◌≡◌, ◌⊎◌, ℕ, ◌+◌, ◌-◌, ◌^◌, ◌<◌, ◌≤◌, List, [], ◌∷◌, length, get_or, refl, sym, ap, subst, ◌∙◌, arith, inl, inr}
use Rattle.std.specs.List.{AllByRecursion}
use Rattle.std.proofs.lemmas.Bool.{cases_lt}
use Rattle.std.proofs.lemmas.List.{same_lists, get_or_default}
use Rattle.byteorder.specs.Endian.{little_bytes}
use Rattle.byteorder.specs.Numbers.{length-bytes_low_first}
use Rattle.ostore_base.specs.Disk.{replaced}
use Rattle.ostore_page_tags.specs.Numbers.{number_at, with_number}
use Rattle.ostore_page_tags.proofs.bytes.ImageLaws.{length-replaced_within, get_or-replaced_at, SameOn-replaced_before, SameOn-replaced_behind, number_at-same, number_at-with_number}
use Rattle.ostore_relocation.specs.Places.{IsBeside, IsOneOf, LieBetween}
use Rattle.ostore_relocation.specs.Pointers.{with_pointer, with_pointers}
use Rattle.ostore_relocation.proofs.PlaceLaws.{lie_order}
use Rattle.ostore_relocation.proofs.ChangeLaws.{long_changed}

pub out_kept : (at k : ℕ) (bytes held : List ℕ) → at + length bytes ≤ length held → (k < at) ⊎ (at + length bytes ≤ k) → get_or (replaced at bytes held) k 0 ≡ get_or held k 0
out_kept at k bytes held within (inl before) = (SameOn-replaced_before at k (k + 1) bytes held (omega arith) within).bytes k (omega arith) (omega arith)
out_kept at k bytes held within (inr behind) = (SameOn-replaced_behind at k (k + 1) bytes held behind within).bytes k (omega arith) (omega arith)

pub in_new : (at k : ℕ) (bytes held : List ℕ) → at + length bytes ≤ length held → at ≤ k → k < at + length bytes → get_or (replaced at bytes held) k 0 ≡ get_or bytes (k - at) 0
in_new at k bytes held within low high =
    let here : k ≡ at + (k - at) = omega arith in
    ap (λ (n : ℕ). get_or (replaced at bytes held) n 0) here ∙ get_or-replaced_at at (k - at) bytes held (omega arith) within

-- a byte outside the first range, with the second range replaced, whether the first was or not
same_side : (at place : ℕ) (bytes others held : List ℕ) → at + length bytes ≤ length held → place + length others ≤ length held → (k : ℕ) → (k < at) ⊎ (at + length bytes ≤ k)
    → get_or (replaced place others held) k 0 ≡ get_or (replaced place others (replaced at bytes held)) k 0
same_side at place bytes others held within also k out =
    let long' = length-replaced_within at bytes held within in
    elim (cases_lt k place) as (λ _. get_or (replaced place others held) k 0 ≡ get_or (replaced place others (replaced at bytes held)) k 0) [
      | inl before ↦ out_kept place k others held also (inl before) ∙ sym (out_kept at k bytes held within out) ∙ sym (out_kept place k others (replaced at bytes held) (omega arith) (inl before))
      | inr from ↦ elim (cases_lt k (place + length others)) as (λ _. get_or (replaced place others held) k 0 ≡ get_or (replaced place others (replaced at bytes held)) k 0) [
        | inl inside ↦ in_new place k others held also from inside ∙ sym (in_new place k others (replaced at bytes held) (omega arith) from inside)
        | inr behind ↦ out_kept place k others held also (inr behind) ∙ sym (out_kept at k bytes held within out) ∙ sym (out_kept place k others (replaced at bytes held) (omega arith) (inr behind))
      ]
    ]

-- ranges that are apart can be replaced in either order
pub replaced_comm : (at place : ℕ) (bytes others held : List ℕ) → at + length bytes ≤ length held → place + length others ≤ length held → (at + length bytes ≤ place) ⊎ (place + length others ≤ at)
    → replaced at bytes (replaced place others held) ≡ replaced place others (replaced at bytes held)
replaced_comm at place bytes others held within also apart =
    let long = length-replaced_within place others held also in
    let long' = length-replaced_within at bytes held within in
    let first = length-replaced_within at bytes (replaced place others held) (omega arith) in
    let second = length-replaced_within place others (replaced at bytes held) (omega arith) in
    let one : List ℕ = replaced at bytes (replaced place others held) in
    let two : List ℕ = replaced place others (replaced at bytes held) in
    same_lists one two (omega arith) (λ k d below.
    get_or_default one k d 0 below
    ∙ (elim (cases_lt k at) as (λ _. get_or one k 0 ≡ get_or two k 0) [
      | inl before ↦ out_kept at k bytes (replaced place others held) (omega arith) (inl before) ∙ same_side at place bytes others held within also k (inl before)
      | inr from ↦ elim (cases_lt k (at + length bytes)) as (λ _. get_or one k 0 ≡ get_or two k 0) [
        | inl inside ↦
            in_new at k bytes (replaced place others held) (omega arith) from inside ∙ sym (in_new at k bytes held within from inside)
            ∙ sym (out_kept place k others (replaced at bytes held) (omega arith) (elim apart [ inl early ↦ inl (omega arith) | inr late ↦ inr (omega arith) ]))
        | inr behind ↦ out_kept at k bytes (replaced place others held) (omega arith) (inr behind) ∙ same_side at place bytes others held within also k (inr behind)
      ]
    ])
    ∙ get_or_default two k 0 d (omega arith))

-- the later of two writes to a range stays
pub replaced_again : (at : ℕ) (bytes others held : List ℕ) → at + length bytes ≤ length held → length others ≡ length bytes → replaced at others (replaced at bytes held) ≡ replaced at others held
replaced_again at bytes others held within size =
    let long = length-replaced_within at bytes held within in
    let first = length-replaced_within at others (replaced at bytes held) (omega arith) in
    let second = length-replaced_within at others held (omega arith) in
    let one : List ℕ = replaced at others (replaced at bytes held) in
    let two : List ℕ = replaced at others held in
    same_lists one two (omega arith) (λ k d below.
    get_or_default one k d 0 below
    ∙ (elim (cases_lt k at) as (λ _. get_or one k 0 ≡ get_or two k 0) [
      | inl before ↦ out_kept at k others (replaced at bytes held) (omega arith) (inl before) ∙ out_kept at k bytes held within (inl before) ∙ sym (out_kept at k others held (omega arith) (inl before))
      | inr from ↦ elim (cases_lt k (at + length others)) as (λ _. get_or one k 0 ≡ get_or two k 0) [
        | inl inside ↦ in_new at k others (replaced at bytes held) (omega arith) from inside ∙ sym (in_new at k others held (omega arith) from inside)
        | inr behind ↦ out_kept at k others (replaced at bytes held) (omega arith) (inr behind) ∙ out_kept at k bytes held within (inr (omega arith)) ∙ sym (out_kept at k others held (omega arith) (inr behind))
      ]
    ])
    ∙ get_or_default two k 0 d (omega arith))

-- ---- a write beside a pointer

beside_one : (change : ℕ → ℕ) (at place : ℕ) (bytes held : List ℕ) → at + length bytes ≤ length held → place + 4 ≤ length held → IsBeside at (length bytes) place → with_pointer change place (replaced at bytes held) ≡ replaced at bytes (with_pointer change place held)
beside_one change at place bytes held within also beside =
    let value : ℕ = number_at 4 place held in
    let read : number_at 4 place (replaced at bytes held) ≡ value = number_at-same 4 place (replaced at bytes held) held (record {
      bytes = λ k low high.
          out_kept at k bytes held within (elim beside [ inl early ↦ inl (omega arith) | inr late ↦ inr (omega arith) ]);
    }) in
    let size = length-bytes_low_first 0 4 (change value) in
    ap (λ (v : ℕ). with_number 4 place (change v) (replaced at bytes held)) read
    ∙ sym (replaced_comm at place bytes (little_bytes 4 (change value)) held within (omega arith) (elim beside [ inl early ↦ inr (omega arith) | inr late ↦ inl (omega arith) ]))

pub beside_all : (change : ℕ → ℕ) (low high at : ℕ) (places bytes held : List ℕ) → LieBetween low places high → high ≤ length held → at + length bytes ≤ length held → AllByRecursion (IsBeside at (length bytes)) places
    → with_pointers change places (replaced at bytes held) ≡ replaced at bytes (with_pointers change places held)
beside_all change low high at [] bytes held lie room within beside = refl
beside_all change low high at (place ∷ places) bytes held lie room within beside =
    let order : place + 4 ≤ high = lie_order (place + 4) high places lie.1 in
    let long = long_changed change place held (omega arith) in
    ap (with_pointers change places) (beside_one change at place bytes held within (omega arith) beside.0)
    ∙ beside_all change (place + 4) high at places bytes (with_pointer change place held) lie.1 (omega arith) (omega arith) beside.1

-- ---- a write of a pointer

pub beside_later : (low high at : ℕ) (places : List ℕ) → at + 4 ≤ low → LieBetween low places high → AllByRecursion (IsBeside at 4) places
beside_later low high at [] h lie = tt
beside_later low high at (place ∷ places) h lie = let least = lie.0 in (inr (omega arith), beside_later (place + 4) high at places (omega arith) lie.1)

behind : (low high at : ℕ) (places : List ℕ) → LieBetween low places high → IsOneOf at places → low ≤ at
behind low high at [] lie there = absurd there
behind low high at (place ∷ places) lie (inl here) = let least = lie.0 in omega arith
behind low high at (place ∷ places) lie (inr later) =
    let least = lie.0 in
    let rest = behind (place + 4) high at places lie.1 later in
    omega arith

ends : (low high at : ℕ) (places : List ℕ) → LieBetween low places high → IsOneOf at places → at + 4 ≤ high
ends low high at [] lie there = absurd there
ends low high at (place ∷ places) lie (inl here) = let order = lie_order (place + 4) high places lie.1 in omega arith
ends low high at (place ∷ places) lie (inr later) = ends (place + 4) high at places lie.1 later

pub pointer_all : (change : ℕ → ℕ) (low high at value : ℕ) (places held : List ℕ) → LieBetween low places high → high ≤ length held → value < 256 ^ 4 → IsOneOf at places
    → with_pointers change places (with_number 4 at value held) ≡ with_number 4 at (change value) (with_pointers change places held)
pointer_all change low high at value [] held lie room fits there = absurd there
pointer_all change low high at value (place ∷ places) held lie room fits (inl here) =
    let order : place + 4 ≤ high = lie_order (place + 4) high places lie.1 in
    let size = length-bytes_low_first 0 4 value in
    let size' = length-bytes_low_first 0 4 (change value) in
    let size'' = length-bytes_low_first 0 4 (change (number_at 4 place held)) in
    let new : List ℕ = little_bytes 4 (change value) in
    let long = long_changed change place held (omega arith) in
    let read : number_at 4 place (with_number 4 place value held) ≡ value = number_at-with_number 4 place value held fits (omega arith) in
    let first : with_pointer change place (with_number 4 place value held) ≡ replaced place new held =
    ap (λ (v : ℕ). with_number 4 place (change v) (with_number 4 place value held)) read
    ∙ replaced_again place (little_bytes 4 value) new held (omega arith) (omega arith) in
    let again : replaced place new (with_pointer change place held) ≡ replaced place new held = replaced_again place (little_bytes 4 (change (number_at 4 place held))) new held (omega arith) (omega arith) in
    let four : length new ≡ 4 = size' in
    let later : AllByRecursion (IsBeside place (length new)) places = subst (λ (n : ℕ). AllByRecursion (IsBeside place n) places) (sym four) (beside_later (place + 4) high place places (omega arith) lie.1) in
    let all : with_pointers change places (replaced place new (with_pointer change place held)) ≡ replaced place new (with_pointers change places (with_pointer change place held)) =
    beside_all change (place + 4) high place places new (with_pointer change place held) lie.1 (omega arith) (omega arith) later in
    ap (λ (n : ℕ). with_pointers change (place ∷ places) (with_number 4 n value held)) (sym here)
    ∙ ap (with_pointers change places) (first ∙ sym again) ∙ all
    ∙ ap (λ (n : ℕ). with_number 4 n (change value) (with_pointers change (place ∷ places) held)) here
pointer_all change low high at value (place ∷ places) held lie room fits (inr later) =
    let order : place + 4 ≤ high = lie_order (place + 4) high places lie.1 in
    let past : place + 4 ≤ at = behind (place + 4) high at places lie.1 later in
    let end : at + 4 ≤ high = ends (place + 4) high at places lie.1 later in
    let size = length-bytes_low_first 0 4 value in
    let long = long_changed change place held (omega arith) in
    ap (with_pointers change places) (beside_one change at place (little_bytes 4 value) held (omega arith) (omega arith) (inl past))
    ∙ pointer_all change (place + 4) high at value places (with_pointer change place held) lie.1 (omega arith) fits later
