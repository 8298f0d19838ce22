-- What can be read of an image that is seen.
use Rattle.std.proofs.Common.{◌≡◌, ℕ, zero, suc, ◌+◌, ◌-◌, ◌*◌, ◌<◌, ◌≤◌, Bool, true, false, cond, eqb, leb, ◌&&◌, List, [], ◌∷◌, ◌++◌, length, map, get_or, Some, refl, sym, ap, subst, ◌∙◌, arith, inl, inr}
use Rattle.std.specs.Prelude.{Option}
use Rattle.std.specs.List.{AllByRecursion, flat_map, range_with_len, slice_get}
use Rattle.std.proofs.lemmas.Option.{get_or_from_slice_get}
use Rattle.std.proofs.lemmas.Bool.{false≢true, leb-true, eqb-true}
use Rattle.ostore_base.specs.declared.page.PageImage.{PageImage}
use Rattle.ostore_page_tags.specs.Numbers.{number_at}
use Rattle.ostore_page_tags.specs.Header.{header_of}
use Rattle.ostore_page_tags.specs.Rows.{row_in}
use Rattle.ostore_page_tags.specs.Cells.{cells_of}
use Rattle.ostore_page_tags.specs.Rules.{IsPage}
use Rattle.ostore_page_tags.specs.PageLists.{bytes_at, header_at, first_of}
use Rattle.ostore_page_tags.specs.PagePointers.{IsOutside, row_pointers, cell_pointers, name_length, root_place, root_pointer, root_pointers, holds_objects, page_pointers}
use Rattle.ostore_page_tags.specs.Allocated.{IsAllocated}
use Rattle.ostore_page_tags.proofs.bytes.ImageLaws.{number_at-same}
use Rattle.ostore_page_tags.proofs.parts.CellLaws.{header_of-same, cells_are}
use Rattle.ostore_page_tags.proofs.shape.PageShape.{rows_in, end_in, offset_in, IsPage-shape, offset_above}
use Rattle.ostore_segments.specs.Seen.{IsSeenAs}
use Rattle.ostore_segments.specs.inside.Fields.{HasHeaderAt}
use Rattle.ostore_segments.proofs.AllocatedLaws.{data_page}

-- ---- places behind the header

all_append : (P : ℕ → Type 0) (first second : List ℕ) → AllByRecursion P first → AllByRecursion P second → AllByRecursion P (first ++ second)
all_append P [] second one two = two
all_append P (at ∷ first) second one two = (one.0, all_append P first second one.1 two)

all_flat : {X : Type 0} (P : ℕ → Type 0) (f : X → List ℕ) (g : ℕ → X) (a n : ℕ) → ((i : ℕ) → a ≤ i → i < a + n → AllByRecursion P (f (g i))) → AllByRecursion P (flat_map f (map g (range_with_len a n)))
all_flat P f g a zero each = tt
all_flat P f g a (suc n) each = all_append P (f (g a)) (flat_map f (map g (range_with_len (a + 1) n))) (each a (omega arith) (omega arith)) (all_flat P f g (a + 1) n (λ i low high. each i (omega arith) (omega arith)))

all_range : (P : ℕ → Type 0) (f : ℕ → List ℕ) (a n : ℕ) → ((i : ℕ) → a ≤ i → i < a + n → AllByRecursion P (f i)) → AllByRecursion P (flat_map f (range_with_len a n))
all_range P f a zero each = tt
all_range P f a (suc n) each = all_append P (f a) (flat_map f (range_with_len (a + 1) n)) (each a (omega arith) (omega arith)) (all_range P f (a + 1) n (λ i low high. each i (omega arith) (omega arith)))

all_if : (P : ℕ → Type 0) (b : Bool) (first second : List ℕ) → (b ≡ true → AllByRecursion P first) → (b ≡ false → AllByRecursion P second) → AllByRecursion P (cond b first second)
all_if P true first second one two = one refl
all_if P false first second one two = two refl

all_moved : (k offset : ℕ) (places : List ℕ) → k < offset → AllByRecursion (IsOutside k) (map (λ at. offset + at) places)
all_moved k offset [] below = tt
all_moved k offset (at ∷ places) below = (inl (omega arith), all_moved k offset places below)

both_true : (a b : Bool) → (a && b) ≡ true → (a ≡ true) × (b ≡ true)
both_true true b all = (refl, all)
both_true false b all = absurd (false≢true all)

cells_above : (pointers : ℕ → List ℕ) (bytes : List ℕ) (k : ℕ) → k < 32 → IsPage bytes → AllByRecursion (IsOutside k) (cell_pointers pointers bytes)
cells_above pointers bytes k below good =
    let shape = IsPage-shape bytes good in
    all_flat (IsOutside k) (row_pointers pointers) (row_in bytes) 0 (rows_in bytes) (λ i low high.
    let above = offset_above (rows_in bytes) (end_in bytes) (offset_in bytes) shape.offsets i (omega arith) in
    all_if (IsOutside k) (row_in bytes i).live _ [] (λ live. all_moved k (row_in bytes i).offset (pointers (row_in bytes i).code) (omega arith)) (λ dead. tt))

roots_above : (bytes : List ℕ) (k : ℕ) → k < 32 → AllByRecursion (IsOutside k) (root_pointers bytes)
unfolding root_pointers
roots_above bytes k below =
    all_range (IsOutside k) (root_pointer bytes) 0 101 (λ i low high. all_if (IsOutside k) (eqb (name_length bytes i) 0) [] ((root_place i + 32) ∷ []) (λ free. tt) (λ bound. (inl (omega arith), tt)))

header_outside : (pointers : ℕ → List ℕ) (list : List PageImage) (page k : ℕ) → k < 32 → IsAllocated list → page < length list → AllByRecursion (IsOutside k) (page_pointers pointers page (bytes_at list page))
unfolding header_at
header_outside pointers list page k below fine high =
    all_if (IsOutside k) (eqb page 9) (root_pointers (bytes_at list page)) _ (λ roots. roots_above (bytes_at list page) k below) (λ other.
    all_if (IsOutside k) (holds_objects page (bytes_at list page)) (cell_pointers pointers (bytes_at list page)) [] (λ holds.
    let parts = both_true (leb 10 page) _ holds in
    cells_above pointers (bytes_at list page) k below (data_page list page fine (leb-true 10 page parts.0) high (eqb-true _ 2 parts.1))) (λ none. tt))

-- ---- what is read

pub no_cells : (bytes : List ℕ) → (header_of bytes).rows ≡ 0 → cells_of bytes ≡ []
no_cells bytes none = cells_are 0 (end_in bytes) bytes none refl

pub headed_below : (list : List PageImage) (page : ℕ) → HasHeaderAt list page → page < length list
headed_below list page it = elim it.headed [
  | inl front ↦ let least = it.allocated.least in omega arith
  | inr other ↦ other.1
]

pub seen_header : (pointers : ℕ → List ℕ) (home : ℕ → Option ℕ) (list : List PageImage) (page : ℕ) (image : List ℕ) → HasHeaderAt list page → IsSeenAs pointers home page image (bytes_at list page) → header_of image ≡ header_at list page
unfolding header_at
seen_header pointers home list page image it seen =
    header_of-same image (bytes_at list page) (record { bytes = λ k low below. seen.same k (header_outside pointers list page k (omega arith) it.allocated (headed_below list page it)) })

pub seen_first : (pointers : ℕ → List ℕ) (home : ℕ → Option ℕ) (list : List PageImage) (segment place : ℕ) (image : List ℕ) → place ≡ 32 + 4 * (segment - 1) → IsSeenAs pointers home 0 image (bytes_at list 0) → number_at 4 place image ≡ first_of list segment
unfolding first_of
seen_first pointers home list segment place image same seen =
    number_at-same 4 place image (bytes_at list 0) (record { bytes = λ k low below. seen.same k tt })
    ∙ ap (λ (n : ℕ). number_at 4 n (bytes_at list 0)) same

-- ---- a page is seen as it is

leads_itself : (bytes places : List ℕ) → AllByRecursion (λ at. Some (number_at 4 at bytes) ≡ Some (number_at 4 at bytes)) places
leads_itself bytes [] = tt
leads_itself bytes (at ∷ places) = (refl, leads_itself bytes places)

pub seen_itself : (pointers : ℕ → List ℕ) (pages list : List PageImage) (page : ℕ) (image : PageImage) → slice_get pages page ≡ Some image → list ≡ pages → IsSeenAs pointers (λ pointer. Some pointer) page image.bytes (bytes_at list page)
seen_itself pointers pages list page image there same =
    let held : image ≡ get_or pages page (record { bytes = [] }) = sym (get_or_from_slice_get pages page image (record { bytes = [] }) there) in
    let bytes : image.bytes ≡ bytes_at list page = ap (λ (i : PageImage). i.bytes) held ∙ ap (λ (l : List PageImage). bytes_at l page) (sym same) in
    subst (IsSeenAs pointers (λ pointer. Some pointer) page image.bytes) bytes (record { long = refl; same = λ k out. refl; leads = leads_itself image.bytes (page_pointers pointers page image.bytes) })
