-- The two forms of a page's image.
use Rattle.std.proofs.Common.{◌≡◌, ◌≢◌, ℕ, zero, suc, ◌+◌, ◌*◌, ◌-◌, ◌/◌, ◌%◌, ◌^◌, ◌<◌, ◌≤◌, Bool, true, false, cond, eqb, leb, ◌&&◌, List, [], ◌∷◌, ◌++◌, length, get_or, set, Option, Some, None, refl, sym, ap, subst, ◌∙◌, arith, inl, inr}
use Rattle.std.specs.Prelude.{Result, is_ok, is_some, nat_lt}
use Rattle.std.specs.Int.{byte_at, bytes_low_first}
use Rattle.std.specs.List.{AllByRecursion, flat_map, range_with_len}
use Rattle.byteorder.specs.Endian.{little_bytes}
use Rattle.byteorder.specs.Numbers.{length-bytes_low_first}
use Rattle.std.proofs.lemmas.Bool.{cases_lt, cases_eq, eq-eqb, ne_eqb, lt-ltb, le-ltb, eqb-true, false≢true}
use Rattle.ostore_base.specs.declared.numbers.PageNo.{PageNo}
use Rattle.ostore_schema_layout.specs.declared.schema.Schema.{Schema}
use Rattle.ostore_page_tags.specs.declared.page_header.PageHeader.{PageHeader}
use Rattle.ostore_page_tags.specs.Header.{header_of}
use Rattle.ostore_page_tags.specs.Numbers.{number_at}
use Rattle.ostore_page_tags.proofs.bytes.ImageLaws.{number_at-same, get_or-replaced_at}
use Rattle.ostore_page_tags.proofs.shape.PageShape.{IsPage-shape}
use Rattle.ostore_address_space.specs.declared.space.Frame.{Frame}
use Rattle.ostore_address_space.specs.declared.space.SpaceFull.{SpaceFull}
use Rattle.ostore_address_space.specs.Frames.{Frames, frame_of, free_frames, page_in, pages_with, reserve, AreFrames, KeepsFrames}
use Rattle.ostore_address_space.proofs.FrameLaws.{free_at, frame_other}
use Rattle.ostore_relocation.specs.Places.{IsOutside, LieBetween, cell_pointers, holds_objects, page_pointers, root_place, root_pointer, root_pointers, row_pointers}
use Rattle.ostore_relocation.specs.Pointers.{HasStored, IsResidentOf, resident_pointer, stored_pointer, target, with_pointer, with_pointers}
use Rattle.ostore_relocation.specs.Fitness.{HasCells, IsFit}
use Rattle.ostore_relocation.specs.Forms.{ComesIn, GoesOut, HaveStored, IsResidentForm, pointers_end, resident_form, stored_form}
use Rattle.ostore_relocation.specs.Reserving.{Reserves, Reserving, reserve_all, reserving, target_of, targets_of}
use Rattle.ostore_relocation.proofs.ChangeLaws.{ChangesPointers}
use Rattle.ostore_address_space.proofs.PairLaws.{keeps_all, keeps_on, reserve_keeps}
use Rattle.ostore_relocation.proofs.PlaceLaws.{lie_higher, lie_order}
use Rattle.ostore_relocation.proofs.LeadLaws.{all_back, all_lead_in, all_resident, all_stored}
use Rattle.ostore_relocation.proofs.ChangeLaws.{AreBytes, Fits32, byte_kept, long_changed, changes, undone, resident_fits, stored_fits, stored_resident}
use Rattle.ostore_relocation.proofs.PageLaws.{StaysPage, changed_page, end_low, lie_cells}
use Rattle.ostore_relocation.proofs.RootLaws.{SameRoots, same_roots, outside_roots, roots_are, lie_roots}

-- each pointer that isn't 0 leads to a page that has a frame
abbrev pub HaveFrames : List (Option PageNo) → Schema → ℕ → List ℕ → Type 0
HaveFrames pages schema page bytes = AllByRecursion (λ at. number_at 4 at bytes ≢ 0 → frame_of pages (target (number_at 4 at bytes)) ≢ None) (page_pointers schema page bytes)

-- ---- all pages have frames where all of them got one

pick_below : (choice count : ℕ) → 0 < count → cond (nat_lt choice count) choice 0 < count
pick_below choice count some = elim (cases_lt choice count) [
  | inl below ↦ rw (lt-ltb choice count below) below
  | inr past ↦ rw (le-ltb choice count past) some
]

-- a page that has a frame keeps it when another gets one
given_stays : (choice : ℕ → ℕ → ℕ → ℕ) (frames : Frames) (page : PageNo) (other : ℕ) (free : List ℕ) → free ≡ free_frames frames.pages → frame_of frames.pages page.0 ≡ None → frame_of frames.pages other ≢ None
    → frame_of (pages_with choice frames page free) other ≢ None
given_stays choice frames page other [] is none there = there
given_stays choice frames page other (frame ∷ free) is none there =
    let count : ℕ = length (frame ∷ free) in
    let index : ℕ = cond (nat_lt (choice frames.client.0 page.0 count) count) (choice frames.client.0 page.0 count) 0 in
    let at : ℕ = get_or (frame ∷ free) index 0 in
    let below : index < count = pick_below (choice frames.client.0 page.0 count) count (omega arith) in
    let is_free = free_at 1 frames.pages index 0 (subst (λ (l : List ℕ). index < length l) is below) in
    let same : get_or (free_frames frames.pages) index 0 ≡ at = ap (λ (l : List ℕ). get_or l index 0) (sym is) in
    let apart : page.0 ≢ other = λ e. there (ap (frame_of frames.pages) (sym e) ∙ none) in
    let stays : frame_of (set frames.pages (at - 1) (Some page)) other ≡ frame_of frames.pages other =
    frame_other 1 frames.pages (at - 1) page other (ap (λ (f : ℕ). get_or frames.pages (f - 1) None) (sym same) ∙ is_free.none) apart in
    λ e. there (sym stays ∙ e)

stays_as : (choice : ℕ → ℕ → ℕ → ℕ) (frames : Frames) (page : PageNo) (other : ℕ) (o : Option Frame) → frame_of frames.pages page.0 ≡ o → frame_of frames.pages other ≢ None
    → frame_of (cond (is_some o) frames.pages (pages_with choice frames page (free_frames frames.pages))) other ≢ None
stays_as choice frames page other None is there = given_stays choice frames page other (free_frames frames.pages) refl is there
stays_as choice frames page other (Some frame) is there = there

reserved_stays : (choice : ℕ → ℕ → ℕ → ℕ) (frames : Frames) (page : PageNo) (other : ℕ) → frame_of frames.pages other ≢ None → frame_of (reserve choice frames page).pages other ≢ None
reserved_stays choice frames page other there = stays_as choice frames page other (frame_of frames.pages page.0) refl there

either : (b : Bool) (x y : Reserving) (other : ℕ) → frame_of x.frames.pages other ≢ None → frame_of y.frames.pages other ≢ None → frame_of (cond b x y).frames.pages other ≢ None
either true x y other h k = h
either false x y other h k = k

all_stays : (choice : ℕ → ℕ → ℕ → ℕ) (frames : Frames) (pages : List PageNo) (other : ℕ) → frame_of frames.pages other ≢ None → frame_of (reserve_all choice frames pages).frames.pages other ≢ None
all_stays choice frames [] other there = there
all_stays choice frames (page ∷ pages) other there =
    let next : Frames = reserve choice frames page in
    let one = reserved_stays choice frames page other there in
    either (is_some (frame_of next.pages page.0)) (reserve_all choice next pages) (reserving next false) other (all_stays choice next pages other one) one

abbrev AllHave : Frames → List PageNo → Type 0
AllHave frames pages = AllByRecursion (λ page. frame_of frames.pages page.0 ≢ None) pages

some_there : (o : Option Frame) → is_some o ≡ true → o ≢ None
some_there None is = λ e. cc
some_there (Some frame) is = λ e. cc

all_have_as : (choice : ℕ → ℕ → ℕ → ℕ) (next : Frames) (page : PageNo) (pages : List PageNo) (b : Bool) → is_some (frame_of next.pages page.0) ≡ b → ((reserve_all choice next pages).all ≡ true → AllHave (reserve_all choice next pages).frames pages)
    → (cond b (reserve_all choice next pages) (reserving next false)).all ≡ true → AllHave (cond b (reserve_all choice next pages) (reserving next false)).frames (page ∷ pages)
all_have_as choice next page pages true is rest all = (all_stays choice next pages page.0 (some_there (frame_of next.pages page.0) is), rest all)
all_have_as choice next page pages false is rest all = absurd cc

pub all_have : (choice : ℕ → ℕ → ℕ → ℕ) (frames : Frames) (pages : List PageNo) → (reserve_all choice frames pages).all ≡ true → AllHave (reserve_all choice frames pages).frames pages
all_have choice frames [] all = tt
all_have choice frames (page ∷ pages) all =
    let next : Frames = reserve choice frames page in
    all_have_as choice next page pages (is_some (frame_of next.pages page.0)) refl (all_have choice next pages) all

have_here : (frames : Frames) (pointer : ℕ) (others : List PageNo) → AllHave frames (target_of pointer ++ others) → (pointer ≢ 0 → frame_of frames.pages (target pointer) ≢ None) × AllHave frames others
have_here frames pointer others all = elim (cases_eq pointer 0) [
  | inl none ↦
      let nil : target_of pointer ≡ [] = rw (eq-eqb pointer 0 none) refl in
      (λ some. absurd (some none), subst (λ (l : List PageNo). AllHave frames (l ++ others)) nil all)
  | inr some ↦
      let one : target_of pointer ≡ record { 0 = target pointer } ∷ [] = rw (ne_eqb pointer 0 some) refl in
      let both : AllHave frames ((record { 0 = target pointer } ∷ []) ++ others) = subst (λ (l : List PageNo). AllHave frames (l ++ others)) one all in
      (λ some'. both.0, both.1)
]

-- the pointers' pages have frames where the targets do
pub have_frames : (frames : Frames) (bytes places : List ℕ) → AllHave frames (targets_of bytes places) → AllByRecursion (λ at. number_at 4 at bytes ≢ 0 → frame_of frames.pages (target (number_at 4 at bytes)) ≢ None) places
have_frames frames bytes [] all = tt
have_frames frames bytes (at ∷ places) all =
    let here = have_here frames (number_at 4 at bytes) (targets_of bytes places) all in
    (here.0, have_frames frames bytes places here.1)

-- ---- where the pointers of a page lie

pub nine_no_data : (page : ℕ) (bytes : List ℕ) → page ≡ 9 → holds_objects page bytes ≡ false
nine_no_data page bytes is = rw is refl

lie_as : (schema : Schema) (page : ℕ) (bytes : List ℕ) (nine holds : Bool) → eqb page 9 ≡ nine → holds_objects page bytes ≡ holds → length bytes ≡ 4096 → (holds ≡ true → HasCells schema bytes)
    → LieBetween 32 (cond nine (root_pointers bytes) (cond holds (cell_pointers schema bytes) [])) (cond holds (4096 - 8 * (header_of bytes).rows) 4096)
lie_as schema page bytes true true is is_holds whole has = absurd (false≢true (sym (nine_no_data page bytes (eqb-true page 9 is)) ∙ is_holds))
lie_as schema page bytes true false is is_holds whole has = lie_higher 32 4072 4096 (root_pointers bytes) (omega arith) (lie_roots bytes)
lie_as schema page bytes false true is is_holds whole has =
    let room = (IsPage-shape bytes (has refl).page).room in
    lie_higher 32 (header_of bytes).end (4096 - 8 * (header_of bytes).rows) (cell_pointers schema bytes) (omega arith) (lie_cells schema bytes (has refl))
lie_as schema page bytes false false is is_holds whole has = omega arith

-- the pointers of a page lie behind its header, before the rows of a page of objects
pub lie_end : (schema : Schema) (page : ℕ) (bytes : List ℕ) → length bytes ≡ 4096 → IsFit schema page bytes → LieBetween 32 (page_pointers schema page bytes) (pointers_end page bytes)
lie_end schema page bytes whole fit = lie_as schema page bytes (eqb page 9) (holds_objects page bytes) refl refl whole fit

pub lie_page : (schema : Schema) (page : ℕ) (bytes : List ℕ) → length bytes ≡ 4096 → IsFit schema page bytes → LieBetween 32 (page_pointers schema page bytes) 4096
lie_page schema page bytes whole fit = lie_higher 32 (pointers_end page bytes) 4096 (page_pointers schema page bytes) (end_low page bytes) (lie_end schema page bytes whole fit)

-- ---- the pointers are where they were

outside_append : (k : ℕ) (first second : List ℕ) → AllByRecursion (IsOutside k) first → AllByRecursion (IsOutside k) second → AllByRecursion (IsOutside k) (first ++ second)
outside_append k [] second a b = b
outside_append k (at ∷ first) second a b = (a.0, outside_append k first second a.1 b)

-- no root's pointer has the byte of a name's length
outside_root : (bytes : List ℕ) (i j : ℕ) → AllByRecursion (IsOutside (root_place j)) (root_pointer bytes i)
outside_root bytes i j = elim (cases_eq (number_at 1 (root_place i) bytes) 0) [
  | inl free ↦ rw (eq-eqb _ 0 free) tt
  | inr used ↦ rw (ne_eqb _ 0 used) (outside_roots i j, tt)
]

outside_roots_from : (bytes : List ℕ) (j a n : ℕ) → AllByRecursion (IsOutside (root_place j)) (flat_map (root_pointer bytes) (range_with_len a n))
outside_roots_from bytes j a zero = tt
outside_roots_from bytes j a (suc n) = outside_append (root_place j) (root_pointer bytes a) _ (outside_root bytes a j) (outside_roots_from bytes j (a + 1) n)

pub outside_all_roots : (bytes : List ℕ) (j rows : ℕ) → rows ≡ 101 → AllByRecursion (IsOutside (root_place j)) (root_pointers bytes)
outside_all_roots bytes j rows is = subst (λ (l : List ℕ). AllByRecursion (IsOutside (root_place j)) l) (roots_are bytes rows is) (outside_roots_from bytes j 0 rows)

roots_stay : (change : ℕ → ℕ) (bytes new : List ℕ) → ChangesPointers change (root_pointers bytes) bytes new → SameRoots new bytes
roots_stay change bytes new changes_all j =
    number_at-same 1 (root_place j) new bytes (record {
      bytes = λ k low high.
          let is : root_place j ≡ k = omega arith in
          subst (λ (n : ℕ). get_or new n 0 ≡ get_or bytes n 0) is (changes_all.others (root_place j) (outside_all_roots bytes j 101 refl));
    })

-- the image after a change: its pointers are where they were, and its cells are still the schema's
pub record StaysFit (schema : Schema) (page : ℕ) (old new : List ℕ) : Type 0 where
  pub places : page_pointers schema page new ≡ page_pointers schema page old
  pub fit : IsFit schema page new

pub is_data_same : (page : ℕ) (old new : List ℕ) → header_of new ≡ header_of old → holds_objects page new ≡ holds_objects page old
is_data_same page old new same = ap (λ (h : PageHeader). leb 10 page && eqb h.kind 2) same

pub pages_of_roots : (schema : Schema) (page : ℕ) (bytes : List ℕ) → eqb page 9 ≡ true → page_pointers schema page bytes ≡ root_pointers bytes
pages_of_roots schema page bytes is = rw is refl

pub pages_of_cells : (schema : Schema) (page : ℕ) (bytes : List ℕ) → eqb page 9 ≡ false → holds_objects page bytes ≡ true → page_pointers schema page bytes ≡ cell_pointers schema bytes
pages_of_cells schema page bytes apart is = rw (apart, is) refl

pub pages_of_none : (schema : Schema) (page : ℕ) (bytes : List ℕ) → eqb page 9 ≡ false → holds_objects page bytes ≡ false → page_pointers schema page bytes ≡ []
pages_of_none schema page bytes apart none = rw (apart, none) refl

stays_fit_as : (change : ℕ → ℕ) (schema : Schema) (page : ℕ) (bytes : List ℕ) (nine holds : Bool) → eqb page 9 ≡ nine → holds_objects page bytes ≡ holds → length bytes ≡ 4096 → Fits32 change → IsFit schema page bytes
    → StaysFit schema page bytes (with_pointers change (page_pointers schema page bytes) bytes)
stays_fit_as change schema page bytes true holds is is_holds whole fits fit =
    let places = pages_of_roots schema page bytes is in
    let new : List ℕ = with_pointers change (root_pointers bytes) bytes in
    let all : ChangesPointers change (root_pointers bytes) bytes new = changes change 32 4072 (root_pointers bytes) bytes fits (lie_roots bytes) (omega arith) in
    let none : holds_objects page new ≡ false = nine_no_data page new (eqb-true page 9 is) in
    subst (λ (l : List ℕ). StaysFit schema page bytes (with_pointers change l bytes)) (sym places) (record {
      places = pages_of_roots schema page new is ∙ same_roots new bytes (roots_stay change bytes new all) ∙ sym places;
      fit = λ data_here. absurd (false≢true (sym none ∙ data_here));
    })
stays_fit_as change schema page bytes false true is is_holds whole fits fit =
    let places = pages_of_cells schema page bytes is is_holds in
    let has : HasCells schema bytes = fit is_holds in
    let new : List ℕ = with_pointers change (cell_pointers schema bytes) bytes in
    let stays : StaysPage schema bytes new = changed_page change schema (cell_pointers schema bytes) bytes has (lie_cells schema bytes has) in
    let holds_new : holds_objects page new ≡ true = is_data_same page bytes new stays.header ∙ is_holds in
    subst (λ (l : List ℕ). StaysFit schema page bytes (with_pointers change l bytes)) (sym places) (record {
      places = pages_of_cells schema page new is holds_new ∙ ap (flat_map (row_pointers schema)) stays.rows ∙ sym places;
      fit = λ data_here. stays.cells;
    })
stays_fit_as change schema page bytes false false is is_holds whole fits fit =
    let places = pages_of_none schema page bytes is is_holds in
    subst (λ (l : List ℕ). StaysFit schema page bytes (with_pointers change l bytes)) (sym places) (record { places = refl; fit = fit })

pub stays_fit : (change : ℕ → ℕ) (schema : Schema) (page : ℕ) (bytes : List ℕ) → length bytes ≡ 4096 → Fits32 change → IsFit schema page bytes → StaysFit schema page bytes (with_pointers change (page_pointers schema page bytes) bytes)
stays_fit change schema page bytes whole fits fit = stays_fit_as change schema page bytes (eqb page 9) (holds_objects page bytes) refl refl whole fits fit

-- ---- bytes

mod_small : (n : ℕ) → n % 256 < 256
mod_small n = omega arith

byte_small : (i n : ℕ) → byte_at i n < 256
byte_small zero n = mod_small n
byte_small (suc i) n = mod_small (n / 256 ^ suc i)

small_bytes : (i n x k : ℕ) → get_or (bytes_low_first i n x) k 0 < 256
small_bytes i zero x k = omega arith
small_bytes i (suc n) x zero = byte_small i x
small_bytes i (suc n) x (suc k) = small_bytes (suc i) n x k

changed_bytes : (change : ℕ → ℕ) (at : ℕ) (bytes : List ℕ) → at + 4 ≤ length bytes → AreBytes bytes → AreBytes (with_pointer change at bytes)
changed_bytes change at bytes within small k =
    let value : ℕ = change (number_at 4 at bytes) in
    let size = length-bytes_low_first 0 4 value in
    elim (cases_lt k at) [
      | inl before ↦ subst (λ (b : ℕ). b < 256) (sym (byte_kept change at k bytes within (inl before))) (small k)
      | inr from ↦ elim (cases_lt k (at + 4)) [
        | inl inside ↦
            let here : at + (k - at) ≡ k = omega arith in
            let read = get_or-replaced_at at (k - at) (little_bytes 4 value) bytes (omega arith) (omega arith) in
            subst (λ (b : ℕ). b < 256) (sym read ∙ ap (λ (n : ℕ). get_or (with_pointer change at bytes) n 0) here) (small_bytes 0 4 value (k - at))
        | inr behind ↦ subst (λ (b : ℕ). b < 256) (sym (byte_kept change at k bytes within (inr behind))) (small k)
      ]
    ]

all_bytes : (change : ℕ → ℕ) (low high : ℕ) (places bytes : List ℕ) → LieBetween low places high → high ≤ length bytes → AreBytes bytes → AreBytes (with_pointers change places bytes)
all_bytes change low high [] bytes lie within small = small
all_bytes change low high (at ∷ places) bytes lie within small =
    let order : at + 4 ≤ high = lie_order (at + 4) high places lie.1 in
    let long = long_changed change at bytes (omega arith) in
    all_bytes change (at + 4) high places (with_pointer change at bytes) lie.1 (omega arith) (changed_bytes change at bytes (omega arith) small)

-- ---- relocation

back_all : (pages : List (Option PageNo)) (bytes places : List ℕ) → AreFrames pages → AllByRecursion (λ at. number_at 4 at bytes ≢ 0 → frame_of pages (target (number_at 4 at bytes)) ≢ None) places
    → AllByRecursion (λ at. stored_pointer pages (resident_pointer pages (number_at 4 at bytes)) ≡ number_at 4 at bytes) places
back_all pages bytes [] are have = tt
back_all pages bytes (at ∷ places) are have = (stored_resident pages (number_at 4 at bytes) are have.0, back_all pages bytes places are have.1)

-- the stored form of a resident form is the image
pub stored_of_resident : (pages : List (Option PageNo)) (schema : Schema) (page : ℕ) (bytes new : List ℕ) → length bytes ≡ 4096 → AreFrames pages → IsFit schema page bytes → HaveFrames pages schema page bytes → AreBytes bytes → new ≡ resident_form pages schema page bytes
    → stored_form pages schema page new ≡ bytes
stored_of_resident pages schema page bytes new whole are fit have small is =
    let places : List ℕ = page_pointers schema page bytes in
    let mid : List ℕ = resident_form pages schema page bytes in
    let lie : LieBetween 32 places 4096 = lie_page schema page bytes whole fit in
    let forth : ChangesPointers (resident_pointer pages) places bytes mid = changes (resident_pointer pages) 32 4096 places bytes (resident_fits pages are) lie (omega arith) in
    let long : length mid ≡ 4096 = forth.long ∙ whole in
    let stays : StaysFit schema page bytes mid = stays_fit (resident_pointer pages) schema page bytes whole (resident_fits pages are) fit in
    let back : ChangesPointers (stored_pointer pages) places mid (with_pointers (stored_pointer pages) places mid) = changes (stored_pointer pages) 32 4096 places mid (stored_fits pages are) lie (omega arith) in
    ap (stored_form pages schema page) is
    ∙ ap (λ (l : List ℕ). with_pointers (stored_pointer pages) l mid) stays.places
    ∙ undone (resident_pointer pages) (stored_pointer pages) places bytes mid (with_pointers (stored_pointer pages) places mid) forth back (back_all pages bytes places are have) small
    (all_bytes (stored_pointer pages) 32 4096 places mid lie (omega arith) (all_bytes (resident_pointer pages) 32 4096 places bytes lie (omega arith) small))

-- after Ok the pages that the pointers lead to have frames
pub have_after : {T : Type 0} (choice : ℕ → ℕ → ℕ → ℕ) (old new : Frames) (first : PageNo) (schema : Schema) (page : ℕ) (bytes : List ℕ) (result : Result T SpaceFull) → Reserves choice old new (first ∷ targets_of bytes (page_pointers schema page bytes)) result → is_ok result ≡ true
    → HaveFrames new.pages schema page bytes
have_after choice old new first schema page bytes result reserves ok =
    let places : List ℕ = page_pointers schema page bytes in
    let all = (all_have choice old (first ∷ targets_of bytes places) (sym reserves.all ∙ ok)).1 in
    have_frames new bytes places (subst (λ (f : Frames). AllHave f (targets_of bytes places)) (sym reserves.frames) all)

-- ---- in and out

pub comes_in : (pages : List (Option PageNo)) (schema : Schema) (page : ℕ) (bytes new : List ℕ) → length bytes ≡ 4096 → AreFrames pages → IsFit schema page bytes → HaveFrames pages schema page bytes → AreBytes bytes → new ≡ resident_form pages schema page bytes
    → ComesIn pages schema page bytes new
comes_in pages schema page bytes new whole are fit have small is =
    let places : List ℕ = page_pointers schema page bytes in
    let all : ChangesPointers (resident_pointer pages) places bytes new = subst (λ (l : List ℕ). ChangesPointers (resident_pointer pages) places bytes l) (sym is)
    (changes (resident_pointer pages) 32 4096 places bytes (resident_fits pages are) (lie_page schema page bytes whole fit) (omega arith)) in
    let stays : StaysFit schema page bytes new = subst (StaysFit schema page bytes) (sym is) (stays_fit (resident_pointer pages) schema page bytes whole (resident_fits pages are) fit) in
    let alike = all_resident pages bytes new places all.pointers have in
    let long : length new ≡ 4096 = all.long ∙ whole in
    record {
      form = record { long = all.long; pointers = alike; others = all.others };
      exact = is;
      undone = stored_of_resident pages schema page bytes new whole are fit have small is;
      fit = stays.fit;
      resident = record {
        whole = long;
        lie = lie_end schema page new long stays.fit;
        frames = subst (λ (l : List ℕ). AllByRecursion (λ at. number_at 4 at new ≢ 0 → page_in pages (target (number_at 4 at new)) ≢ None) l) (sym stays.places) (all_lead_in pages bytes new places alike);
      };
      back = subst (λ (l : List ℕ). AllByRecursion (λ at. HasStored pages (number_at 4 at new)) l) (sym stays.places) (all_back pages bytes new places alike);
    }

out_form : (pages : List (Option PageNo)) (schema : Schema) (page : ℕ) (old new : List ℕ) → ChangesPointers (stored_pointer pages) (page_pointers schema page old) old new → page_pointers schema page new ≡ page_pointers schema page old → HaveStored pages schema page old
    → IsResidentForm pages schema page new old
out_form pages schema page old new all same have = record {
  long = sym all.long;
  pointers = subst (λ (l : List ℕ). AllByRecursion (λ at. IsResidentOf pages (number_at 4 at new) (number_at 4 at old)) l) (sym same) (all_stored pages old new (page_pointers schema page old) all.pointers have);
  others = λ k out. sym (all.others k (subst (AllByRecursion (IsOutside k)) same out));
}

pub goes_out : (pages : List (Option PageNo)) (schema : Schema) (page : ℕ) (old new : List ℕ) → length old ≡ 4096 → AreFrames pages → IsFit schema page old → new ≡ stored_form pages schema page old → GoesOut pages schema page old new
goes_out pages schema page old new whole are fit is =
    let places : List ℕ = page_pointers schema page old in
    let all : ChangesPointers (stored_pointer pages) places old new = subst (λ (l : List ℕ). ChangesPointers (stored_pointer pages) places old l) (sym is)
    (changes (stored_pointer pages) 32 4096 places old (stored_fits pages are) (lie_page schema page old whole fit) (omega arith)) in
    let stays : StaysFit schema page old new = subst (StaysFit schema page old) (sym is) (stays_fit (stored_pointer pages) schema page old whole (stored_fits pages are) fit) in
    record { exact = is; fit = stays.fit; form = out_form pages schema page old new all stays.places }

-- ---- reserving keeps frames

keeps_as : (b : Bool) (x y : Reserving) (pages : List (Option PageNo)) → KeepsFrames pages x.frames.pages → KeepsFrames pages y.frames.pages → KeepsFrames pages (cond b x y).frames.pages
keeps_as true x y pages h k = h
keeps_as false x y pages h k = k

pub all_keep : (choice : ℕ → ℕ → ℕ → ℕ) (frames : Frames) (pages : List PageNo) → KeepsFrames frames.pages (reserve_all choice frames pages).frames.pages
all_keep choice frames [] = keeps_all frames.pages
all_keep choice frames (page ∷ pages) =
    let next : Frames = reserve choice frames page in
    let one = reserve_keeps choice frames page in
    keeps_as (is_some (frame_of next.pages page.0)) (reserve_all choice next pages) (reserving next false) frames.pages (keeps_on one (all_keep choice next pages)) one

pub reserves_keep : {T : Type 0} (choice : ℕ → ℕ → ℕ → ℕ) (old new : Frames) (pages : List PageNo) (result : Result T SpaceFull) → Reserves choice old new pages result → KeepsFrames old.pages new.pages
reserves_keep choice old new pages result reserves = subst (λ (f : Frames). KeepsFrames old.pages f.pages) (sym reserves.frames) (all_keep choice old pages)
