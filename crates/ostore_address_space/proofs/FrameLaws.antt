-- Laws of frames: which are free, and where a page is once it was put into a free one.
use Rattle.std.proofs.Common.{◌≡◌, ◌≢◌, ℕ, zero, suc, ◌+◌, ◌-◌, ◌<◌, ◌≤◌, true, List, [], ◌∷◌, ◌++◌, length, ◌⊎◌, get_or, set, take, replicate, Option, Some, None, refl, sym, ap, ◌∙◌, subst, arith, inl, inr}
use Rattle.std.specs.List.{remove, range_with_len}
use Rattle.std.specs.Prelude.{Result, Ok, Err, IfSome, IsOk, is_ok}
use Rattle.std.proofs.lemmas.Bool.{cases_eq, eq-eqb, ne_eqb}
use Rattle.std.proofs.lemmas.List.{get_or-set_same, get_or-set_other, get_or-replicate, length-set, length-replicate, replicate_more, ext_get_or, get_or_past, get_or_read, take_at}
use Rattle.std.proofs.lemmas.Option.{same_Some}
use Rattle.ostore_base.specs.declared.numbers.PageNo.{PageNo}
use Rattle.ostore_address_space.specs.declared.space.Frame.{Frame}
use Rattle.ostore_address_space.specs.Frames.{page_in, frame_from, frame_of, free_from, free_frames, AreOneToOne, AreFrames}
use Rattle.ostore_address_space.specs.inside.Kept.{AreIndexed}

-- a number past n, as the next of one past n + 1
past : (f n : ℕ) → n + 1 ≤ f → f - n ≡ suc (f - (n + 1))
past f n h = omega arith

-- a free frame is one of the frames, and holds no page
pub record IsFree (n frame : ℕ) (pages : List (Option PageNo)) : Type 0 where
  pub low : n ≤ frame
  pub high : frame < n + length pages
  pub none : get_or pages (frame - n) None ≡ None

free_behind : (n frame : ℕ) (page : Option PageNo) (pages : List (Option PageNo)) → IsFree (n + 1) frame pages → IsFree n frame (page ∷ pages)
free_behind n frame page pages is = record {
  low = let low = is.low in omega arith;
  high = let high = is.high in omega arith;
  none = ap (λ (i : ℕ). get_or (page ∷ pages) i None) (past frame n is.low) ∙ is.none;
}

pub free_at : (n : ℕ) (pages : List (Option PageNo)) (k d : ℕ) → k < length (free_from n pages) → IsFree n (get_or (free_from n pages) k d) pages
free_at n [] k d below = absurd (omega arith)
free_at n (None ∷ pages) zero d below =
    let here : n - n ≡ 0 = omega arith in
    record { low = omega arith; high = omega arith; none = ap (λ (i : ℕ). get_or (None ∷ pages) i None) here }
free_at n (None ∷ pages) (suc k) d below = free_behind n _ None pages (free_at (n + 1) pages k d (omega arith))
free_at n (Some page ∷ pages) k d below = free_behind n _ (Some page) pages (free_at (n + 1) pages k d below)

-- a page that is put into a free frame takes that frame out of the free ones
pub free_given : (n : ℕ) (pages : List (Option PageNo)) (k d : ℕ) (page : PageNo) → k < length (free_from n pages)
    → free_from n (set pages (get_or (free_from n pages) k d - n) (Some page)) ≡ remove (free_from n pages) k
free_given n [] k d page below = absurd (omega arith)
free_given n (None ∷ pages) zero d page below =
    let here : n - n ≡ 0 = omega arith in
    ap (λ (i : ℕ). free_from n (set (None ∷ pages) i (Some page))) here
free_given n (None ∷ pages) (suc k) d page below =
    let frame : ℕ = get_or (free_from (n + 1) pages) k d in
    let is = free_at (n + 1) pages k d (omega arith) in
    ap (λ (i : ℕ). free_from n (set (None ∷ pages) i (Some page))) (past frame n is.low)
    ∙ ap (λ (l : List ℕ). n ∷ l) (free_given (n + 1) pages k d page (omega arith))
free_given n (Some at ∷ pages) k d page below =
    let frame : ℕ = get_or (free_from (n + 1) pages) k d in
    let is = free_at (n + 1) pages k d below in
    ap (λ (i : ℕ). free_from n (set (Some at ∷ pages) i (Some page))) (past frame n is.low)
    ∙ free_given (n + 1) pages k d page below

abbrev pub frame_no : ℕ → Frame
frame_no n = record { 0 = n }

abbrev pub page_no : ℕ → PageNo
page_no n = record { 0 = n }

-- a page that is in none of the frames isn't in the first, nor in the others
pub record IsNowhere (n : ℕ) (at : PageNo) (pages : List (Option PageNo)) (page : ℕ) : Type 0 where
  pub apart : at.0 ≢ page
  pub others : frame_from n pages page ≡ None

pub nowhere_in : (n : ℕ) (at : PageNo) (pages : List (Option PageNo)) (page : ℕ) → frame_from n (Some at ∷ pages) page ≡ None → IsNowhere (n + 1) at pages page
nowhere_in n at pages page nowhere = elim (cases_eq at.0 page) [
  | inl same ↦ let e = rw (eq-eqb at.0 page same) at nowhere in cc
  | inr apart ↦ record { apart = apart; others = rw (ne_eqb at.0 page apart) at nowhere }
]

frame_behind : (n : ℕ) (at : PageNo) (pages : List (Option PageNo)) (page : ℕ) → at.0 ≢ page → frame_from n (Some at ∷ pages) page ≡ frame_from (n + 1) pages page
frame_behind n at pages page apart = rw (ne_eqb at.0 page apart) refl

frame_here : (n : ℕ) (at : PageNo) (pages : List (Option PageNo)) (page : ℕ) → at.0 ≡ page → frame_from n (Some at ∷ pages) page ≡ Some (record { 0 = n })
frame_here n at pages page same = rw (eq-eqb at.0 page same) refl

-- a page that is put into a frame without one is there, if it was nowhere
pub frame_there : (n : ℕ) (pages : List (Option PageNo)) (i : ℕ) (page : PageNo) → i < length pages → get_or pages i None ≡ None → frame_from n pages page.0 ≡ None
    → frame_from n (set pages i (Some page)) page.0 ≡ Some (record { 0 = n + i })
frame_there n [] i page below free nowhere = absurd (omega arith)
frame_there n (None ∷ pages) zero page below free nowhere =
    let here : n ≡ n + 0 = omega arith in
    frame_here n page pages page.0 refl ∙ ap (λ (f : ℕ). Some (frame_no f)) here
frame_there n (Some at ∷ pages) zero page below free nowhere = cc
frame_there n (None ∷ pages) (suc i) page below free nowhere =
    let there : n + 1 + i ≡ n + suc i = omega arith in
    frame_there (n + 1) pages i page (omega arith) free nowhere ∙ ap (λ (f : ℕ). Some (frame_no f)) there
frame_there n (Some at ∷ pages) (suc i) page below free nowhere =
    let there : n + 1 + i ≡ n + suc i = omega arith in
    let no = nowhere_in n at pages page.0 nowhere in
    frame_behind n at (set pages i (Some page)) page.0 no.apart
    ∙ frame_there (n + 1) pages i page (omega arith) free no.others ∙ ap (λ (f : ℕ). Some (frame_no f)) there

-- any other page is where it was
pub frame_other : (n : ℕ) (pages : List (Option PageNo)) (i : ℕ) (page : PageNo) (other : ℕ) → get_or pages i None ≡ None → page.0 ≢ other
    → frame_from n (set pages i (Some page)) other ≡ frame_from n pages other
frame_other n [] i page other free apart = refl
frame_other n (None ∷ pages) zero page other free apart = frame_behind n page pages other apart
frame_other n (Some at ∷ pages) zero page other free apart = cc
frame_other n (None ∷ pages) (suc i) page other free apart = frame_other (n + 1) pages i page other free apart
frame_other n (Some at ∷ pages) (suc i) page other free apart = elim (cases_eq at.0 other) [
  | inl same ↦ frame_here n at (set pages i (Some page)) other same ∙ sym (frame_here n at pages other same)
  | inr not_here ↦ frame_behind n at (set pages i (Some page)) other not_here ∙ frame_other (n + 1) pages i page other free apart ∙ sym (frame_behind n at pages other not_here)
]

-- a page that is in none of the frames
pub not_held : (n : ℕ) (pages : List (Option PageNo)) (page : PageNo) (i : ℕ) → frame_from n pages page.0 ≡ None → get_or pages i None ≡ Some page → ⊥
not_held n [] page i nowhere held = cc
not_held n (None ∷ pages) page zero nowhere held = cc
not_held n (Some at ∷ pages) page zero nowhere held =
    let no = nowhere_in n at pages page.0 nowhere in
    no.apart (ap (λ (p : PageNo). p.0) (same_Some at page held))
not_held n (None ∷ pages) page (suc i) nowhere held = not_held (n + 1) pages page i nowhere held
not_held n (Some at ∷ pages) page (suc i) nowhere held = not_held (n + 1) pages page i (nowhere_in n at pages page.0 nowhere).others held

-- the frame of a page holds it
pub record Holds (n frame : ℕ) (pages : List (Option PageNo)) (page : ℕ) : Type 0 where
  pub low : n ≤ frame
  pub high : frame < n + length pages
  pub held : get_or pages (frame - n) None ≡ Some (record { 0 = page })

holds_behind : (n frame : ℕ) (at : Option PageNo) (pages : List (Option PageNo)) (page : ℕ) → Holds (n + 1) frame pages page → Holds n frame (at ∷ pages) page
holds_behind n frame at pages page is = record {
  low = let low = is.low in omega arith;
  high = let high = is.high in omega arith;
  held = ap (λ (i : ℕ). get_or (at ∷ pages) i None) (past frame n is.low) ∙ is.held;
}

pub frame_holds : (n : ℕ) (pages : List (Option PageNo)) (page : ℕ) (frame : Frame) → frame_from n pages page ≡ Some frame → Holds n frame.0 pages page
frame_holds n [] page frame found = cc
frame_holds n (None ∷ pages) page frame found = holds_behind n frame.0 None pages page (frame_holds (n + 1) pages page frame found)
frame_holds n (Some at ∷ pages) page frame found = elim (cases_eq at.0 page) [
  | inl same ↦
      let e : Some (frame_no n) ≡ Some frame = sym (frame_here n at pages page same) ∙ found in
      let is : n ≡ frame.0 = ap (λ (f : Frame). f.0) (same_Some (frame_no n) frame e) in
      let here : frame.0 - n ≡ 0 = omega arith in
      record {
        low = omega arith;
        high = omega arith;
        held = ap (λ (i : ℕ). get_or (Some at ∷ pages) i None) here ∙ ap (λ (p : ℕ). Some (page_no p)) same;
      }
  | inr apart ↦ holds_behind n frame.0 (Some at) pages page (frame_holds (n + 1) pages page frame (sym (frame_behind n at pages page apart) ∙ found))
]

-- what an index holds once a page was put at i: that page there, and else what it held
set_read : (pages : List (Option PageNo)) (i k : ℕ) (page p : PageNo) → i < length pages → get_or (set pages i (Some page)) k None ≡ Some p → ((k ≡ i) × (page ≡ p)) ⊎ ((k ≢ i) × (get_or pages k None ≡ Some p))
set_read pages i k page p below held = elim (cases_eq k i) [
  | inl same ↦
      let at : get_or (set pages i (Some page)) k None ≡ Some page = ap (λ (n : ℕ). get_or (set pages i (Some page)) n None) same ∙ get_or-set_same pages i (Some page) None below in
      inl (same, same_Some page p (sym at ∙ held))
  | inr apart ↦ inr (apart, sym (get_or-set_other pages i k (Some page) None apart) ∙ held)
]

one_to_one_at : (pages : List (Option PageNo)) (i a b : ℕ) (page p : PageNo) → AreOneToOne pages → i < length pages → frame_of pages page.0 ≡ None
    → get_or (set pages i (Some page)) a None ≡ Some p → get_or (set pages i (Some page)) b None ≡ Some p → a ≡ b
one_to_one_at pages i a b page p one below nowhere first second = elim (set_read pages i a page p below first) [
  | inl x ↦ elim (set_read pages i b page p below second) [
    | inl y ↦ x.0 ∙ sym y.0
    | inr y ↦ absurd (not_held 1 pages page b nowhere (y.1 ∙ ap (λ (q : PageNo). Some q) (sym x.1)))
  ]
  | inr x ↦ elim (set_read pages i b page p below second) [
    | inl y ↦ absurd (not_held 1 pages page a nowhere (x.1 ∙ ap (λ (q : PageNo). Some q) (sym y.1)))
    | inr y ↦ let same : suc a ≡ suc b = one (suc a) (suc b) p x.1 y.1 in omega arith
  ]
]

pub one_to_one_given : (pages : List (Option PageNo)) (i : ℕ) (page : PageNo) → AreOneToOne pages → i < length pages → frame_of pages page.0 ≡ None → AreOneToOne (set pages i (Some page))
one_to_one_given pages i page one below nowhere zero other p first second = cc
one_to_one_given pages i page one below nowhere (suc a) zero p first second = cc
one_to_one_given pages i page one below nowhere (suc a) (suc b) p first second = ap (λ (n : ℕ). suc n) (one_to_one_at pages i a b page p one below nowhere first second)

-- no more frames are free than there are
pub few_free : (n : ℕ) (pages : List (Option PageNo)) → length (free_from n pages) ≤ length pages
few_free n [] = omega arith
few_free n (None ∷ pages) = let few = few_free (n + 1) pages in omega arith
few_free n (Some page ∷ pages) = let few = few_free (n + 1) pages in omega arith

-- ---- giving a frame

-- what comes of taking a frame out of the free ones and putting a page into it
pub record Gives (pages : List (Option PageNo)) (frames : List (Option Frame)) (free : List ℕ) (index frame : ℕ) (page : PageNo) : Type 0 where
  pub low : 1 ≤ frame
  pub high : frame - 1 < length pages
  pub all : AreFrames (set pages (frame - 1) (Some page))
  pub indexed : AreIndexed (set pages (frame - 1) (Some page)) (set frames page.0 (Some (record { 0 = frame })))
  pub left : remove free index ≡ free_frames (set pages (frame - 1) (Some page))
  pub there : frame_of (set pages (frame - 1) (Some page)) page.0 ≡ Some (record { 0 = frame })

indexed_given : (pages : List (Option PageNo)) (frames : List (Option Frame)) (i frame : ℕ) (page : PageNo) → AreIndexed pages frames → i < length pages → page.0 < 16384 → get_or pages i None ≡ None
    → frame_of pages page.0 ≡ None → frame_of (set pages i (Some page)) page.0 ≡ Some (frame_no frame) → AreIndexed (set pages i (Some page)) (set frames page.0 (Some (frame_no frame)))
indexed_given pages frames i frame page indexed below known free nowhere there =
    let long = indexed.long in
    record {
      long = length-set frames page.0 (Some (frame_no frame)) ∙ indexed.long;
      at = λ other least. elim (cases_eq other page.0) [
        | inl same ↦
            ap (λ (n : ℕ). get_or (set frames page.0 (Some (frame_no frame))) n None) same
            ∙ get_or-set_same frames page.0 (Some (frame_no frame)) None (omega arith)
            ∙ sym there ∙ ap (λ (n : ℕ). frame_of (set pages i (Some page)) n) (sym same)
        | inr apart ↦
            get_or-set_other frames page.0 other (Some (frame_no frame)) None apart
            ∙ indexed.at other least ∙ sym (frame_other 1 pages i page other free (λ e. apart (sym e)))
      ];
    }

frames_given : (pages : List (Option PageNo)) (i : ℕ) (page : PageNo) → AreFrames pages → i < length pages → page.0 < 16384 → frame_of pages page.0 ≡ None → AreFrames (set pages i (Some page))
frames_given pages i page are below known nowhere =
    let few = are.few in
    let size = length-set pages i (Some page) in
    record {
      one = one_to_one_given pages i page are.one below nowhere;
      known = λ frame. elim frame as (λ (f : ℕ). (p : PageNo) → page_in (set pages i (Some page)) f ≡ Some p → p.0 < 16384) [
        | zero ↦ λ p held. cc
        | suc k ↦ λ p held. elim (set_read pages i k page p below held) [
          | inl x ↦ subst (λ (q : PageNo). q.0 < 16384) x.1 known
          | inr x ↦ are.known (suc k) p x.1
        ]
      ];
      few = omega arith;
    }

pub gives : (pages : List (Option PageNo)) (frames : List (Option Frame)) (free : List ℕ) (index frame : ℕ) (page : PageNo) → AreFrames pages → AreIndexed pages frames → free ≡ free_frames pages
    → frame_of pages page.0 ≡ None → page.0 < 16384 → index < length (free_frames pages) → frame ≡ get_or free index frame → Gives pages frames free index frame page
gives pages frames free index frame page are indexed is nowhere known below read =
    let at : frame ≡ get_or (free_frames pages) index frame = read ∙ ap (λ (l : List ℕ). get_or l index frame) is in
    let taken : IsFree 1 frame pages = subst (λ (f : ℕ). IsFree 1 f pages) (sym at) (free_at 1 pages index frame below) in
    let low : 1 ≤ frame = taken.low in
    let high : frame < 1 + length pages = taken.high in
    let back : 1 + (frame - 1) ≡ frame = omega arith in
    let there : frame_of (set pages (frame - 1) (Some page)) page.0 ≡ Some (frame_no frame) =
    frame_there 1 pages (frame - 1) page (omega arith) taken.none nowhere ∙ ap (λ (f : ℕ). Some (frame_no f)) back in
    record {
      low = low;
      high = omega arith;
      all = frames_given pages (frame - 1) page are (omega arith) known nowhere;
      indexed = indexed_given pages frames (frame - 1) frame page indexed (omega arith) known taken.none nowhere there;
      left = ap (λ (l : List ℕ). remove l index) is ∙ sym (free_given 1 pages index frame page below) ∙ ap (λ (f : ℕ). free_frames (set pages (f - 1) (Some page))) (sym at);
      there = there;
    }

-- ---- all frames free

pub none_held : (n count page : ℕ) → frame_from n (replicate count None) page ≡ None
none_held n zero page = refl
none_held n (suc count) page = none_held (n + 1) count page

pub all_free : (n count : ℕ) → free_from n (replicate count None) ≡ range_with_len n count
all_free n zero = refl
all_free n (suc count) = ap (λ (l : List ℕ). n ∷ l) (all_free (n + 1) count)

none_at : (count i : ℕ) (d : Option PageNo) → d ≡ None → get_or (replicate count None) i d ≡ None
none_at zero i d e = e
none_at (suc count) zero d e = refl
none_at (suc count) (suc i) d e = none_at count i d e

none_one_to_one : (count : ℕ) → AreOneToOne (replicate count None)
none_one_to_one count zero other p first second = cc
none_one_to_one count (suc a) other p first second = let no = none_at count a None refl in cc

pub none_frames : (count : ℕ) → count ≤ 65536 → AreFrames (replicate count None)
none_frames count few = record {
  one = none_one_to_one count;
  known = λ frame. elim frame as (λ (f : ℕ). (p : PageNo) → page_in (replicate count None) f ≡ Some p → p.0 < 16384) [
    | zero ↦ λ p held. cc
    | suc k ↦ λ p held. let no = none_at count k None refl in cc
  ];
  few = let size = length-replicate {A = Option PageNo} count None in omega arith;
}

pub none_indexed : (count : ℕ) (frames : List (Option Frame)) → frames ≡ replicate 16384 None → AreIndexed (replicate count None) frames
none_indexed count frames is = record {
  long = ap length is ∙ length-replicate {A = Option Frame} 16384 None;
  at = λ page below. ap (λ (l : List (Option Frame)). get_or l page None) is ∙ get_or-replicate 16384 page None None below ∙ sym (none_held 1 count page);
}

-- ---- the list of all frames

pub one_more : (n count at : ℕ) → at ≡ n + count → range_with_len n (suc count) ≡ range_with_len n count ++ at ∷ []
one_more n zero at is = let same : n ≡ at = omega arith in rw same refl
one_more n (suc count) at is = ap (λ (l : List ℕ). n ∷ l) (one_more (n + 1) count at (omega arith))

pub pushed_all : (i : ℕ) (free new : List ℕ) → free ≡ range_with_len 1 i → new ≡ free ++ (i + 1) ∷ [] → new ≡ range_with_len 1 (i + 1)
pushed_all i free new so_far is =
    let next : i + 1 ≡ suc i = omega arith in
    is ∙ ap (λ (l : List ℕ). l ++ (i + 1) ∷ []) so_far ∙ sym (one_more 1 i (i + 1) (omega arith)) ∙ ap (λ (n : ℕ). range_with_len 1 n) (sym next)

pub ok_true : {T E : Type 0} (r : Result T E) → IsOk r → is_ok r ≡ true
ok_true (Ok x) is = refl
ok_true (Err e) is = is

pub all_none : {T : Type 0} (n : ℕ) (slots : List (Option T)) → length slots ≡ n → ((k : ℕ) → k < n → get_or slots k None ≡ None) → slots ≡ replicate n None
all_none {T = T} n slots long none =
    ext_get_or None slots (replicate n None) (long ∙ sym (length-replicate {A = Option T} n None)) (λ i below. none i (omega arith) ∙ sym (get_or-replicate {A = Option T} n i None None (omega arith)))

-- a vector whose slots were lent and all of them emptied
pub lent_all : {T : Type 0} (n m : ℕ) (slots rest : List (Option T)) → length slots ≡ n → ((k : ℕ) → k < n → get_or slots k None ≡ None) → n ≡ m → take m (slots ++ rest) ≡ replicate n None
lent_all n m slots rest long none same = take_at slots rest m (long ∙ same) ∙ all_none n slots long none

pub one_none : {T : Type 0} (n : ℕ) (slots new : List (Option T)) → slots ≡ replicate n None → new ≡ slots ++ None ∷ [] → new ≡ replicate (n + 1) None
one_none n slots new so_far is = is ∙ ap (λ l. l ++ None ∷ []) so_far ∙ replicate_more n None

none_found : {T : Type 0} (o : Option T) → ((x : T) → o ≡ Some x → ⊥) → o ≡ None
none_found None never = refl
none_found (Some x) never = absurd (never x refl)

-- a page that no database has is in no frame
pub unknown_nowhere : (pages : List (Option PageNo)) (page : ℕ) → AreFrames pages → 16384 ≤ page → frame_of pages page ≡ None
unknown_nowhere pages page are past = none_found (frame_of pages page) (λ frame found.
    let holds = frame_holds 1 pages page frame found in
    let low = holds.low in
    let back : suc (frame.0 - 1) ≡ frame.0 = omega arith in
    let least = are.known (suc (frame.0 - 1)) (page_no page) holds.held in
    omega arith)

-- the number of a page's frame is one of the frames'
pub frame_within : (pages : List (Option PageNo)) (page : ℕ) (frame : Frame) → AreFrames pages → frame_of pages page ≡ Some frame → (1 ≤ frame.0) × (frame.0 ≤ 65536)
frame_within pages page frame are found =
    let holds = frame_holds 1 pages page frame found in
    let low = holds.low in
    let high = holds.high in
    let few = are.few in
    (low, omega arith)

-- the frame of a page holds that page
pub frame_page : (pages : List (Option PageNo)) (page : ℕ) (frame : Frame) → frame_of pages page ≡ Some frame → page_in pages frame.0 ≡ Some (page_no page)
frame_page pages page frame found =
    let holds = frame_holds 1 pages page frame found in
    let low = holds.low in
    let back : suc (frame.0 - 1) ≡ frame.0 = omega arith in
    ap (page_in pages) (sym back) ∙ holds.held

if_some : {T : Type 0} (P : T → Type 0) (o : Option T) → ((x : T) → o ≡ Some x → P x) → IfSome o P
if_some P None holds = tt
if_some P (Some x) holds = holds x refl

pub frame_limits : (pages : List (Option PageNo)) (page : ℕ) (o : Option Frame) → AreFrames pages → o ≡ frame_of pages page → IfSome o (λ frame. (1 ≤ frame.0) × (frame.0 ≤ 65536))
frame_limits pages page o are is = if_some (λ (frame : Frame). (1 ≤ frame.0) × (frame.0 ≤ 65536)) o (λ frame found. frame_within pages page frame are (sym is ∙ found))

pub page_limits : (pages : List (Option PageNo)) (frame : ℕ) (o : Option PageNo) → AreFrames pages → o ≡ page_in pages frame → IfSome o (λ page. page.0 < 16384)
page_limits pages frame o are is = if_some (λ (page : PageNo). page.0 < 16384) o (λ page found. are.known frame page (sym is ∙ found))

pub page_read : (pages : List (Option PageNo)) (frame : ℕ) (o : Option PageNo) → frame ≢ 0 → frame - 1 < length pages → o ≡ get_or pages (frame - 1) o → o ≡ page_in pages frame
page_read pages frame o some below read =
    let back : suc (frame - 1) ≡ frame = omega arith in
    get_or_read pages (frame - 1) o below read None ∙ ap (page_in pages) back

pub page_past : (pages : List (Option PageNo)) (frame : ℕ) → length pages < frame → page_in pages frame ≡ None
page_past pages frame past =
    let back : suc (frame - 1) ≡ frame = omega arith in
    ap (page_in pages) (sym back) ∙ get_or_past pages (frame - 1) None (omega arith)

pub frame_read : (pages : List (Option PageNo)) (frames : List (Option Frame)) (page : ℕ) (o : Option Frame) → AreIndexed pages frames → page < 16384 → o ≡ get_or frames page o → o ≡ frame_of pages page
frame_read pages frames page o indexed below read =
    let long = indexed.long in
    get_or_read frames page o (omega arith) read None ∙ indexed.at page below
