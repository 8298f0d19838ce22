-- Changing the pointers of an image one after the other changes each of them and nothing else.
use Rattle.std.proofs.Common.{◌≡◌, ◌≢◌, ◌⊎◌, ℕ, zero, suc, ◌+◌, ◌-◌, ◌*◌, ◌%◌, ◌^◌, ◌<◌, ◌≤◌, List, [], ◌∷◌, length, get_or, drop, Option, Some, None, refl, sym, ap, subst, ◌∙◌, arith, inl, inr}
use Rattle.std.specs.List.{AllByRecursion}
use Rattle.std.proofs.lemmas.Bool.{cases_lt, cases_eq, eq-eqb, ne_eqb}
use Rattle.std.proofs.lemmas.List.{get_or-drop, same_lists, get_or_default}
use Rattle.byteorder.specs.Endian.{little_from}
use Rattle.ostore_base.specs.declared.numbers.PageNo.{PageNo}
use Rattle.ostore_page_tags.specs.Numbers.{number_at}
use Rattle.ostore_page_tags.proofs.bytes.ImageLaws.{SameOn, number_at-same, number_at-with_number, length-with_number, SameOn-with_number_before, SameOn-with_number_behind}
use Rattle.ostore_address_space.specs.declared.space.Frame.{Frame}
use Rattle.ostore_address_space.specs.Frames.{frame_of, page_in, AreFrames}
use Rattle.ostore_address_space.proofs.FrameLaws.{frame_within, frame_page}
use Rattle.ostore_relocation.specs.Places.{IsOutside, LieBetween}
use Rattle.ostore_relocation.specs.Pointers.{frame_number, page_number, resident_pointer, same_place_in, stored_pointer, target, with_pointer, with_pointers}
use Rattle.ostore_relocation.proofs.PlaceLaws.{lie_order}

-- the pointer at each place is changed, and each byte of no pointer is as it was
pub record ChangesPointers (change : ℕ → ℕ) (places old new : List ℕ) : Type 0 where
  pub long : length new ≡ length old
  pub pointers : AllByRecursion (λ at. number_at 4 at new ≡ change (number_at 4 at old)) places
  pub others : (k : ℕ) → AllByRecursion (IsOutside k) places → get_or new k 0 ≡ get_or old k 0

-- ---- places and bytes

pub outside_before : (k low high : ℕ) (places : List ℕ) → k < low → LieBetween low places high → AllByRecursion (IsOutside k) places
outside_before k low high [] h lie = tt
outside_before k low high (at ∷ places) h lie =
    let order = lie.0 in
    (inl (omega arith), outside_before k (at + 4) high places (omega arith) lie.1)

pub outside_behind : (k low high : ℕ) (places : List ℕ) → high ≤ k → LieBetween low places high → AllByRecursion (IsOutside k) places
outside_behind k low high [] h lie = tt
outside_behind k low high (at ∷ places) h lie =
    let order = lie_order (at + 4) high places lie.1 in
    (inr (omega arith), outside_behind k (at + 4) high places h lie.1)

-- ---- one pointer

-- all results are numbers of 32 bits
abbrev pub Fits32 : (ℕ → ℕ) → Type 0
Fits32 change = (pointer : ℕ) → change pointer < 2 ^ 32

pub long_changed : (change : ℕ → ℕ) (at : ℕ) (bytes : List ℕ) → at + 4 ≤ length bytes → length (with_pointer change at bytes) ≡ length bytes
long_changed change at bytes within = length-with_number 4 at (change (number_at 4 at bytes)) bytes within

pub number_changed : (change : ℕ → ℕ) (at : ℕ) (bytes : List ℕ) → Fits32 change → at + 4 ≤ length bytes → number_at 4 at (with_pointer change at bytes) ≡ change (number_at 4 at bytes)
number_changed change at bytes fits within =
    let small : change (number_at 4 at bytes) < 256 ^ 4 = fits (number_at 4 at bytes) in
    number_at-with_number 4 at (change (number_at 4 at bytes)) bytes small within

pub byte_kept : (change : ℕ → ℕ) (at k : ℕ) (bytes : List ℕ) → at + 4 ≤ length bytes → IsOutside k at → get_or (with_pointer change at bytes) k 0 ≡ get_or bytes k 0
byte_kept change at k bytes within (inl before) = (SameOn-with_number_before 4 at (change (number_at 4 at bytes)) k (k + 1) bytes (omega arith) within).bytes k (omega arith) (omega arith)
byte_kept change at k bytes within (inr behind) = (SameOn-with_number_behind 4 at (change (number_at 4 at bytes)) k (k + 1) bytes behind within).bytes k (omega arith) (omega arith)

-- ---- all pointers

-- the pointers behind one that was changed, as they were before it was
read_before : (change : ℕ → ℕ) (at low high : ℕ) (places bytes new : List ℕ) → at + 4 ≤ low → at + 4 ≤ length bytes → LieBetween low places high
    → AllByRecursion (λ p. number_at 4 p new ≡ change (number_at 4 p (with_pointer change at bytes))) places → AllByRecursion (λ p. number_at 4 p new ≡ change (number_at 4 p bytes)) places
read_before change at low high [] bytes new h within lie all = tt
read_before change at low high (p ∷ places) bytes new h within lie all =
    let least : low ≤ p = lie.0 in
    let same = number_at-same 4 p (with_pointer change at bytes) bytes (SameOn-with_number_behind 4 at (change (number_at 4 at bytes)) p (p + 4) bytes (omega arith) within) in
    (all.0 ∙ ap change same, read_before change at (p + 4) high places bytes new (omega arith) within lie.1 all.1)

pub changes : (change : ℕ → ℕ) (low high : ℕ) (places bytes : List ℕ) → Fits32 change → LieBetween low places high → high ≤ length bytes → ChangesPointers change places bytes (with_pointers change places bytes)
changes change low high [] bytes fits lie within = record { long = refl; pointers = tt; others = λ k outside. refl }
changes change low high (at ∷ places) bytes fits lie within =
    let order : at + 4 ≤ high = lie_order (at + 4) high places lie.1 in
    let here : at + 4 ≤ length bytes = omega arith in
    let one : List ℕ = with_pointer change at bytes in
    let long : length one ≡ length bytes = long_changed change at bytes here in
    let rest : ChangesPointers change places one (with_pointers change places one) = changes change (at + 4) high places one fits lie.1 (omega arith) in
    let new : List ℕ = with_pointers change places one in
    let stays : SameOn at (at + 4) new one = record { bytes = λ k low' high'. rest.others k (outside_before k (at + 4) high places high' lie.1) } in
    record {
      long = rest.long ∙ long;
      pointers = (number_at-same 4 at new one stays ∙ number_changed change at bytes fits here, read_before change at (at + 4) high places bytes new (omega arith) here lie.1 rest.pointers);
      others = λ k outside. rest.others k outside.1 ∙ byte_kept change at k bytes here outside.0;
    }

-- ---- changing back

-- two lists of bytes of which the numbers from a place on are equal
little_same : (i n : ℕ) (first second : List ℕ) → ((k : ℕ) → get_or first k 0 < 256) → ((k : ℕ) → get_or second k 0 < 256) → little_from i n first ≡ little_from i n second → (k : ℕ) → i ≤ k → k < i + n → get_or first k 0 ≡ get_or second k 0
little_same i zero first second small also same k low high = absurd (omega arith)
little_same i (suc n) first second small also same k low high =
    let x = small i in
    let y = also i in
    let head : get_or first i 0 ≡ get_or second i 0 = omega arith in
    let tail : little_from (suc i) n first ≡ little_from (suc i) n second = omega arith in
    elim (cases_eq k i) [
      | inl is ↦ ap (λ (j : ℕ). get_or first j 0) is ∙ head ∙ ap (λ (j : ℕ). get_or second j 0) (sym is)
      | inr past ↦ little_same (suc i) n first second small also tail k (omega arith) (omega arith)
    ]

abbrev pub AreBytes : List ℕ → Type 0
AreBytes bytes = (k : ℕ) → get_or bytes k 0 < 256

byte_of_number : (at k : ℕ) (first second : List ℕ) → AreBytes first → AreBytes second → number_at 4 at first ≡ number_at 4 at second → at ≤ k → k < at + 4 → get_or first k 0 ≡ get_or second k 0
byte_of_number at k first second small also same low high =
    let here : at + (k - at) ≡ k = omega arith in
    let read : (l : List ℕ) → get_or (drop at l) (k - at) 0 ≡ get_or l k 0 = λ l. get_or-drop at l (k - at) 0 ∙ ap (λ (j : ℕ). get_or l j 0) here in
    sym (read first)
    ∙ little_same 0 4 (drop at first) (drop at second) (λ j. subst (λ (b : ℕ). b < 256) (sym (get_or-drop at first j 0)) (small (at + j))) (λ j. subst (λ (b : ℕ). b < 256) (sym (get_or-drop at second j 0)) (also (at + j))) same (k - at) (omega arith) (omega arith)
    ∙ read second

-- a byte belongs to a pointer at one of the places, or to none
record IsIn (P : ℕ → Type 0) (k : ℕ) : Type 0 where
  at : ℕ
  low : at ≤ k
  high : k < at + 4
  holds : P at

inside_or_out : (P : ℕ → Type 0) (k : ℕ) (places : List ℕ) → AllByRecursion P places → AllByRecursion (IsOutside k) places ⊎ IsIn P k
inside_or_out P k [] all = inl tt
inside_or_out P k (at ∷ places) all = elim (cases_lt k at) [
  | inl before ↦ elim (inside_or_out P k places all.1) [ inl out ↦ inl (inl before, out) | inr here ↦ inr here ]
  | inr from ↦ elim (cases_lt k (at + 4)) [
    | inl within ↦ inr (record { at = at; low = from; high = within; holds = all.0 })
    | inr behind ↦ elim (inside_or_out P k places all.1) [ inl out ↦ inl (inr behind, out) | inr here ↦ inr here ]
  ]
]

back_at : (change back : ℕ → ℕ) (places old mid new : List ℕ) → AllByRecursion (λ at. number_at 4 at mid ≡ change (number_at 4 at old)) places → AllByRecursion (λ at. number_at 4 at new ≡ back (number_at 4 at mid)) places
    → AllByRecursion (λ at. back (change (number_at 4 at old)) ≡ number_at 4 at old) places → AllByRecursion (λ at. number_at 4 at new ≡ number_at 4 at old) places
back_at change back [] old mid new a b c = tt
back_at change back (at ∷ places) old mid new a b c = (b.0 ∙ ap back a.0 ∙ c.0, back_at change back places old mid new a.1 b.1 c.1)

-- what changes every pointer back gives the image back
pub undone : (change back : ℕ → ℕ) (places old mid new : List ℕ) → ChangesPointers change places old mid → ChangesPointers back places mid new
    → AllByRecursion (λ at. back (change (number_at 4 at old)) ≡ number_at 4 at old) places → AreBytes old → AreBytes new → new ≡ old
undone change back places old mid new forth and_back inverse small also =
    let all = back_at change back places old mid new forth.pointers and_back.pointers inverse in
    same_lists new old (and_back.long ∙ forth.long) (λ k d below.
    let long = and_back.long in
    let long' = forth.long in
    get_or_default new k d 0 below
    ∙ (elim (inside_or_out (λ at. number_at 4 at new ≡ number_at 4 at old) k places all) as (λ _. get_or new k 0 ≡ get_or old k 0) [
      | inl out ↦ and_back.others k out ∙ forth.others k out
      | inr here ↦ byte_of_number here.at k new old also small here.holds here.low here.high
    ])
    ∙ get_or_default old k 0 d (omega arith))

-- ---- the two forms of a pointer

pub moved_some : (pointer number : ℕ) → pointer ≢ 0 → same_place_in pointer number ≡ number * 4096 + pointer % 4096
moved_some pointer number some = rw (ne_eqb pointer 0 some) refl

pub moved_none : (pointer number : ℕ) → pointer ≡ 0 → same_place_in pointer number ≡ 0
moved_none pointer number none = rw (eq-eqb pointer 0 none) refl

small_moved : (pointer number : ℕ) → number ≤ 65536 → same_place_in pointer number < 2 ^ 32
small_moved pointer number few = elim (cases_eq pointer 0) [
  | inl none ↦ rw (moved_none pointer number none) (omega arith)
  | inr some ↦ rw (moved_some pointer number some) (omega arith)
]

few_frames : (pages : List (Option PageNo)) (page : ℕ) (o : Option Frame) → AreFrames pages → frame_of pages page ≡ o → frame_number o ≤ 65536
few_frames pages page None are is = omega arith
few_frames pages page (Some frame) are is = (frame_within pages page frame are is).1

few_pages : (pages : List (Option PageNo)) (frame : ℕ) (o : Option PageNo) → AreFrames pages → page_in pages frame ≡ o → page_number o ≤ 65536
few_pages pages frame None are is = omega arith
few_pages pages frame (Some page) are is = let known = are.known frame page is in omega arith

pub resident_fits : (pages : List (Option PageNo)) → AreFrames pages → Fits32 (resident_pointer pages)
resident_fits pages are pointer = small_moved pointer (frame_number (frame_of pages (target pointer))) (few_frames pages (target pointer) (frame_of pages (target pointer)) are refl)

pub stored_fits : (pages : List (Option PageNo)) → AreFrames pages → Fits32 (stored_pointer pages)
stored_fits pages are pointer = small_moved pointer (page_number (page_in pages (target pointer))) (few_pages pages (target pointer) (page_in pages (target pointer)) are refl)

back_some : (pages : List (Option PageNo)) (pointer : ℕ) (o : Option Frame) → AreFrames pages → pointer ≢ 0 → frame_of pages (target pointer) ≡ o → o ≢ None → stored_pointer pages (same_place_in pointer (frame_number o)) ≡ pointer
back_some pages pointer None are some is there = absurd (there refl)
back_some pages pointer (Some frame) are some is there =
    let low = (frame_within pages (target pointer) frame are is).0 in
    let r : ℕ = frame.0 * 4096 + pointer % 4096 in
    let leads : target r ≡ frame.0 = omega arith in
    let place : r % 4096 ≡ pointer % 4096 = omega arith in
    let held : page_in pages (target r) ≡ Some (record { 0 = target pointer }) = ap (page_in pages) leads ∙ frame_page pages (target pointer) frame is in
    let nonzero : r ≢ 0 = omega arith in
    ap (stored_pointer pages) (moved_some pointer frame.0 some)
    ∙ moved_some r (page_number (page_in pages (target r))) nonzero
    ∙ ap (λ (o : Option PageNo). page_number o * 4096 + r % 4096) held
    ∙ (omega arith)

-- the stored form of a resident pointer is the pointer
pub stored_resident : (pages : List (Option PageNo)) (pointer : ℕ) → AreFrames pages → (pointer ≢ 0 → frame_of pages (target pointer) ≢ None) → stored_pointer pages (resident_pointer pages pointer) ≡ pointer
stored_resident pages pointer are there = elim (cases_eq pointer 0) [
  | inl none ↦ ap (stored_pointer pages) (moved_none pointer _ none) ∙ moved_none 0 (page_number (page_in pages (target 0))) refl ∙ sym none
  | inr some ↦ back_some pages pointer (frame_of pages (target pointer)) are some refl (there some)
]
