-- The pages of a valid list can be relocated, and their cells are the schema's.
use Rattle.std.proofs.Common.{◌≡◌, ◌≢◌, ◌⊎◌, ℕ, zero, suc, ◌+◌, ◌-◌, ◌*◌, ◌<◌, ◌≤◌, ◌&&◌, ◌||◌, Bool, true, false, cond, eqb, leb, not, List, [], ◌∷◌, ◌++◌, length, map, take, drop, drop-cons, get_or, Some, None, refl, sym, ap, subst, ◌∙◌, arith, inl, inr}
use Rattle.std.specs.Prelude.{slice_get}
use Rattle.std.specs.List.{find, flat_map, filter, range_with_len, All, AllByRecursion}
use Rattle.std.specs.Option.{option_map}
use Rattle.std.proofs.lemmas.Bool.{cases_eq, eq-eqb, ne_eqb, eqb-true, leb-true, and_parts, false≢true}
use Rattle.std.proofs.lemmas.List.{get_or-drop}
use Rattle.std.proofs.lemmas.List.Elements.{All-from_recursion, recursion_from_All}
use Rattle.std.proofs.lemmas.Option.{get_or_from_slice_get, slice_get_within, same_Some}
use Rattle.ostore_base.specs.declared.numbers.PageNo.{PageNo}
use Rattle.ostore_base.specs.declared.page.PageImage.{PageImage}
use Rattle.ostore_page_tags.specs.declared.tag_rows.Row.{Row}
use Rattle.ostore_page_tags.specs.Numbers.{number_at}
use Rattle.ostore_page_tags.specs.Header.{header_of}
use Rattle.ostore_page_tags.specs.Rows.{row_in, rows_of}
use Rattle.ostore_page_tags.specs.Cells.{Cell, cells_of, between}
use Rattle.ostore_page_tags.specs.Rules.{IsPage, is_chunk_code}
use Rattle.ostore_page_tags.specs.PageLists.{bytes_at}
use Rattle.ostore_page_tags.specs.Allocated.{IsFreePage}
use Rattle.ostore_page_tags.proofs.bytes.ImageLaws.{number_at-same, between_read}
use Rattle.ostore_page_tags.proofs.shape.PageShape.{IsPage-shape, rows_in, end_in, offset_in, offset_order, offset_below}
use Rattle.ostore_page_tags.proofs.parts.ApartLaws.{IsPage-AreApart}
use Rattle.ostore_page_tags.proofs.parts.CellLaws.{cells_are}
use Rattle.ostore_page_tags.proofs.parts.CellLaws as tags
use Rattle.ostore_page_tags.proofs.walks.NthLaws.{rows_counted}
use Rattle.ostore_schema_layout.specs.declared.schema.Schema.{Schema}
use Rattle.ostore_schema_layout.specs.Cells.{HasCode, code_size, pointers_of}
use Rattle.ostore_relocation.specs.Places.{LieBetween, holds_objects, root_place, name_length, root_pointer, row_pointers, cell_pointers, page_pointers}
use Rattle.ostore_relocation.specs.Reserving.{pages_wanted, targets_of}
use Rattle.ostore_page_tags.specs.PagePointers.{root_pointers}
use Rattle.ostore_relocation.proofs.PlaceLaws.{lie_code, lie_order}
use Rattle.ostore_relocation.proofs.PageLaws.{all_at-range, row_of_schema, row_read}
use Rattle.ostore_page_tags.proofs.changes.DeadLaws.{stop_in}
use Rattle.ostore_relocation.specs.Pointers.{target}
use Rattle.ostore_relocation.specs.Fitness.{HasCells, IsCellOf, IsFit}
use Rattle.ostore_relocation.proofs.FitLaws.{all_fit}
use Rattle.ostore_graph_model.specs.Addresses.{placed, begins_at, cell_in, cell_at}
use Rattle.ostore_graph_model.specs.FixedPages.{RootRow, root_at, is_unnamed, roots_of}
use Rattle.ostore_graph_model.specs.Chunks.{pointer_at}
use Rattle.ostore_graph_model.specs.LawsOfCells.{LeadsToPage}
use Rattle.ostore_graph_model.specs.Records.{is_sized}
use Rattle.ostore_graph_model.specs.Valid.{IsValid, HasGoodPages, HasGoodCells}
use Rattle.ostore_graph_model.proofs.AddressLaws.{cell_at-read}
use Rattle.ostore_graph_model.proofs.PointerFacts.{pointers_law}
use Rattle.ostore_client_core.specs.Cells.{AreCellsOf, HasCellsOf}
use Rattle.ostore_client_core.specs.Calls.{IsFitPage}

-- ---- cells are found where their rows say

find_range : {X : Type 0} (p : X → Bool) (f : ℕ → X) (a n i : ℕ) → a ≤ i → i < a + n → p (f i) ≡ true → ((k : ℕ) → a ≤ k → k < i → p (f k) ≡ false) → find p (map f (range_with_len a n)) ≡ Some (f i)
find_range p f a zero i low high hit miss = absurd (omega arith)
find_range {X} p f a (suc n) i low high hit miss = elim (cases_eq a i) [
  | inl here ↦
      let yes : p (f a) ≡ true = ap (λ (k : ℕ). p (f k)) here ∙ hit in
      ap (λ (b : Bool). cond b (Some (f a)) (find p (map f (range_with_len (a + 1) n)))) yes ∙ ap (λ (k : ℕ). Some (f k)) here
  | inr later ↦
      let no : p (f a) ≡ false = miss a (omega arith) (omega arith) in
      ap (λ (b : Bool). cond b (Some (f a)) (find p (map f (range_with_len (a + 1) n)))) no
      ∙ find_range p f (a + 1) n i (omega arith) (omega arith) hit (λ k low' high'. miss k (omega arith) high')
]

-- the cell of a row by its number
abbrev nth : List ℕ → ℕ → Cell
nth bytes i = tags.cell_in (rows_in bytes) (end_in bytes) bytes (row_in bytes) i

cell_found : (bytes : List ℕ) → IsPage bytes → (i : ℕ) → i < rows_in bytes → cell_in bytes (offset_in bytes i) ≡ Some (placed (header_of bytes).segment (nth bytes i))
unfolding cell_in
cell_found bytes page i below =
    let shape = IsPage-shape bytes page in
    let objects : eqb (header_of bytes).kind 2 ≡ true = eq-eqb _ _ shape.kind in
    let found : find (begins_at (offset_in bytes i)) (cells_of bytes) ≡ Some (nth bytes i) =
    ap (find (begins_at (offset_in bytes i))) (cells_are (rows_in bytes) (end_in bytes) bytes refl refl)
    ∙ find_range (begins_at (offset_in bytes i)) (nth bytes) 0 (rows_in bytes) i (omega arith) (omega arith) (eq-eqb _ _ refl)
    (λ k low high. ne_eqb _ _ (let less = offset_order (rows_in bytes) (end_in bytes) (offset_in bytes) shape.offsets k i high below in λ e. omega arith)) in
    ap (λ (b : Bool). cond b (option_map (placed (header_of bytes).segment) (find (begins_at (offset_in bytes i)) (cells_of bytes))) None) objects
    ∙ ap (option_map (placed (header_of bytes).segment)) found

cell_there : (list : List PageImage) (page : ℕ) (image : PageImage) → slice_get list page ≡ Some image → 10 ≤ page → IsPage image.bytes → (i : ℕ) → i < rows_in image.bytes
    → cell_at list (page * 4096 + offset_in image.bytes i) ≡ Some (placed (header_of image.bytes).segment (nth image.bytes i))
cell_there list page image is ten page_is i below =
    let shape = IsPage-shape image.bytes page_is in
    let low = offset_below (rows_in image.bytes) (end_in image.bytes) (offset_in image.bytes) shape.offsets i below in
    let room = shape.room in
    cell_at-read list page (offset_in image.bytes i) image is ten (omega arith) ∙ cell_found image.bytes page_is i below

-- ---- cells have the sizes of their codes

code_as : (schema : Schema) (code : ℕ) (chunk types : Bool) → is_chunk_code code ≡ chunk → (leb 1 code && leb code (length schema.types)) ≡ types → (chunk || types) ≡ true → HasCode schema code
code_as schema code true types is is_types some =
    let parts = and_parts (leb 240 code) (leb code 246) is in
    inr (leb-true 240 code parts.0, leb-true code 246 parts.1)
code_as schema code false true is is_types some =
    let parts = and_parts (leb 1 code) (leb code (length schema.types)) is_types in
    inl (leb-true 1 code parts.0, leb-true code (length schema.types) parts.1)
code_as schema code false false is is_types some = absurd (false≢true some)

sized_code : (schema : Schema) (code : ℕ) (bytes : List ℕ) → is_sized schema code bytes ≡ true → HasCode schema code × (length bytes ≡ code_size schema code)
sized_code schema code bytes sized =
    let parts = and_parts (is_chunk_code code || leb 1 code && leb code (length schema.types)) (eqb (length bytes) (code_size schema code)) sized in
    (code_as schema code (is_chunk_code code) (leb 1 code && leb code (length schema.types)) refl refl parts.0, eqb-true _ _ parts.1)

good_cells : (schema : Schema) (list : List PageImage) (page : ℕ) (image : PageImage) → HasGoodCells schema list → slice_get list page ≡ Some image → 10 ≤ page → IsPage image.bytes → HasCells schema image.bytes
good_cells schema list page image good is ten page_is =
    all_fit schema image.bytes (rows_in image.bytes) page_is (omega (arith, rows_counted image.bytes)) (λ i below live.
    let found = cell_there list page image is ten page_is i below in
    let written = good.written (page * 4096 + offset_in image.bytes i) (placed (header_of image.bytes).segment (nth image.bytes i)) found in
    sized_code schema (row_in image.bytes i).code (nth image.bytes i).bytes (and_parts (is_sized schema (row_in image.bytes i).code (nth image.bytes i).bytes) _ written).0)

-- ---- the cells of a good page, or of a free one

no_rows : (bytes : List ℕ) → rows_in bytes ≡ 0 → cells_of bytes ≡ []
no_rows bytes none = cells_are 0 (end_in bytes) bytes none refl

none_cells : (schema : Schema) (bytes : List ℕ) → cells_of bytes ≡ [] → AreCellsOf schema bytes
none_cells schema bytes none = record {
  sized = subst (All (IsCellOf schema)) (sym none) (λ k d below. absurd (omega arith));
  behind = subst (All (λ (cell : Cell). 32 ≤ cell.row.offset)) (sym none) (λ k d below. absurd (omega arith));
  before = subst (All (λ (cell : Cell). cell.row.offset + length cell.bytes ≤ 4096 - 8 * (header_of bytes).rows)) (sym none) (λ k d below. absurd (omega arith));
  apart = λ i k d less below. absurd (let long : length (cells_of bytes) ≡ 0 = ap (λ (l : List Cell). length l) none in omega arith);
}

page_cells : (schema : Schema) (bytes : List ℕ) → HasCells schema bytes → AreCellsOf schema bytes
page_cells schema bytes has =
    let apart = IsPage-AreApart bytes has.page in
    let room = (IsPage-shape bytes has.page).room in
    record {
      sized = All-from_recursion (IsCellOf schema) (cells_of bytes) has.cells;
      behind = apart.behind;
      before = λ k d below. (let within = apart.within k d below in omega arith);
      apart = apart.apart;
    }

-- ---- where the pointers lead

number_in : (start stop q : ℕ) (bytes : List ℕ) → q + 4 ≤ stop - start → number_at 4 (start + q) bytes ≡ number_at 4 q (between start stop bytes)
number_in start stop q bytes within = number_at-same 4 0 (drop (start + q) bytes) (drop q (between start stop bytes)) (record {
  bytes = λ k low high.
      let at : start + q + k ≡ start + (q + k) = omega arith in
      get_or-drop (start + q) bytes k 0 ∙ ap (λ (n : ℕ). get_or bytes n 0) at ∙ sym (between_read start stop (q + k) bytes (omega arith)) ∙ sym (get_or-drop q (between start stop bytes) k 0);
})

pub fit_shape : (schema : Schema) (list : List PageImage) → IsValid schema list → (page : ℕ) (image : PageImage) → slice_get list page ≡ Some image → (length image.bytes ≡ 4096) × IsFit schema page image.bytes × HasCellsOf schema page image.bytes
fit_shape schema list valid page image is =
    let bytes : bytes_at list page ≡ image.bytes = ap (λ (i : PageImage). i.bytes) (get_or_from_slice_get list page image _ is) in
    let there : page < length list = slice_get_within list page image is in
    let whole = sym (ap (λ (l : List ℕ). length l) bytes) ∙ valid.pages_kept.allocated.whole page there in (
      whole,
      (λ objects.
          let parts = and_parts (leb 10 page) (eqb (header_of image.bytes).kind 2) objects in
          let ten = leb-true 10 page parts.0 in
          good_cells schema list page image valid.cells_kept is ten (page_of ten (eqb-true _ _ parts.1) (valid.pages_kept.allocated.others page (ten, there)) bytes)),
      (λ ten. elim (valid.pages_kept.allocated.others page (ten, there)) [
        | inl free ↦ none_cells schema image.bytes (no_rows image.bytes (sym (ap (λ (l : List ℕ). (header_of l).rows) bytes) ∙ free.header.rows))
        | inr good ↦ page_cells schema image.bytes (good_cells schema list page image valid.cells_kept is ten (subst IsPage bytes good))
      ]),
    )
  where
    page_of : 10 ≤ page → (header_of image.bytes).kind ≡ 2 → IsFreePage (bytes_at list page) ⊎ IsPage (bytes_at list page) → bytes_at list page ≡ image.bytes → IsPage image.bytes
    page_of ten kind (inl free) bytes = absurd (let free_kind : (header_of image.bytes).kind ≡ 1 = sym (ap (λ (l : List ℕ). (header_of l).kind) bytes) ∙ free.header.kind in let e : 1 ≡ 2 = sym free_kind ∙ kind in omega arith)
    page_of ten kind (inr good) bytes = subst IsPage bytes good

-- the pointers at some places lead to pages of a list of that length
abbrev pub LeadWithin : ℕ → List ℕ → List ℕ → Type 0
LeadWithin count bytes places = AllByRecursion (λ at. target (number_at 4 at bytes) < count) places

leads_below : (list : List PageImage) (pointer : ℕ) → 0 < length list → LeadsToPage list pointer → target pointer < length list
leads_below list pointer more leads = elim (cases_eq pointer 0) [
  | inl none ↦ omega arith
  | inr some ↦ let page = (leads some).1 in omega arith
]

rec_append : (P : ℕ → Type 0) (xs ys : List ℕ) → AllByRecursion P xs → AllByRecursion P ys → AllByRecursion P (xs ++ ys)
rec_append P [] ys a b = b
rec_append P (x ∷ xs) ys a b = (a.0, rec_append P xs ys a.1 b)

rec_flat : {X : Type 0} (P : ℕ → Type 0) (f : X → List ℕ) (xs : List X) → ((m : ℕ) (x : X) → slice_get xs m ≡ Some x → AllByRecursion P (f x)) → AllByRecursion P (flat_map f xs)
rec_flat P f [] each = tt
rec_flat P f (x ∷ xs) each = rec_append P (f x) (flat_map f xs) (each 0 x refl) (rec_flat P f xs (λ m y is. each (suc m) y is))

leads_row : (list : List PageImage) (bytes : List ℕ) (offset stop low high : ℕ) (places : List ℕ) → 0 < length list → LieBetween low places high → high ≤ stop - offset
    → AllByRecursion (λ (q : ℕ). LeadsToPage list (number_at 4 q (between offset stop bytes))) places → LeadWithin (length list) bytes (map (λ at. offset + at) places)
leads_row list bytes offset stop low high [] more lie within leads = tt
leads_row list bytes offset stop low high (q ∷ places) more lie within leads =
    let order = lie_order (q + 4) high places lie.1 in (
      subst (λ (n : ℕ). target n < length list) (sym (number_in offset stop q bytes (omega arith))) (leads_below list (number_at 4 q (between offset stop bytes)) more leads.0),
      leads_row list bytes offset stop (q + 4) high places more lie.1 within leads.1,
    )

row_leads : (schema : Schema) (list : List PageImage) (bytes : List ℕ) (i : ℕ) (live : Bool) → 0 < length list → HasCells schema bytes → i < rows_in bytes → (row_in bytes i).live ≡ live
    → (live ≡ true → All (λ (q : ℕ). LeadsToPage list (pointer_at q (nth bytes i).bytes)) (pointers_of schema (row_in bytes i).code))
    → LeadWithin (length list) bytes (cond live (map (λ at. offset_in bytes i + at) (pointers_of schema (row_in bytes i).code)) [])
row_leads schema list bytes i false more has below is leads = tt
row_leads schema list bytes i true more has below is leads =
    let row = row_of_schema schema bytes has i below in
    let size = row.size is in
    leads_row list bytes (offset_in bytes i) (stop_in bytes i) 0 (code_size schema (row_in bytes i).code) (pointers_of schema (row_in bytes i).code) more (lie_code schema (row_in bytes i).code) (omega arith)
    (recursion_from_All (λ (q : ℕ). LeadsToPage list (pointer_at q (nth bytes i).bytes)) (pointers_of schema (row_in bytes i).code) (leads refl))

cells_lead : (schema : Schema) (list : List PageImage) (page : ℕ) (image : PageImage) → 0 < length list → HasGoodPages schema list → HasGoodCells schema list → slice_get list page ≡ Some image → 10 ≤ page → HasCells schema image.bytes
    → LeadWithin (length list) image.bytes (cell_pointers schema image.bytes)
cells_lead schema list page image more pages good is ten has =
    rec_flat (λ (at : ℕ). target (number_at 4 at image.bytes) < length list) (row_pointers schema) (rows_of image.bytes) (λ m row row_is.
    let below : m < rows_in image.bytes = omega (arith, rows_counted image.bytes, slice_get_within (rows_of image.bytes) m row row_is) in
    let same : row_in image.bytes m ≡ row = row_read image.bytes m row below row_is in
    subst (λ (r : Row). LeadWithin (length list) image.bytes (row_pointers schema r)) same
    (row_leads schema list image.bytes m (row_in image.bytes m).live more has below refl
    (λ live. (pointers_law schema list pages good).0 (page * 4096 + offset_in image.bytes m) (placed (header_of image.bytes).segment (nth image.bytes m)) (cell_there list page image is ten has.page m below) live)))

-- ---- the page of roots

named : (n k : ℕ) (bytes : List ℕ) → n ≢ 0 → k < length bytes → is_unnamed (take n (drop k bytes)) ≡ false
named zero k bytes some within = absurd (some refl)
named (suc n) k bytes some within = ap (λ (l : List ℕ). is_unnamed (take (suc n) l)) (drop-cons bytes k 0 within)

length-range : (a n : ℕ) → length (range_with_len a n) ≡ n
length-range a zero = refl
length-range a (suc n) = ap suc (length-range (a + 1) n)

range_at : (a n m i : ℕ) → slice_get (range_with_len a n) m ≡ Some i → i ≡ a + m
range_at a zero m i is = absurd cc
range_at a (suc n) zero i is = let e : a ≡ i = same_Some a i is in omega arith
range_at a (suc n) (suc m) i is = let e = range_at (a + 1) n m i is in omega arith

number_at-range : (m i : ℕ) → slice_get (range_with_len 0 101) m ≡ Some i → i ≡ m
number_at-range m i is = let e = range_at 0 101 m i is in omega arith

filter_one : {X : Type 0} (p : X → Bool) (Q : X → Type 0) (x : X) (xs : List X) (b : Bool) → p x ≡ b → AllByRecursion Q (cond b (x ∷ filter p xs) (filter p xs)) → (p x ≡ true → Q x) × AllByRecursion Q (filter p xs)
filter_one p Q x xs true is all = ((λ _. all.0), all.1)
filter_one p Q x xs false is all = ((λ yes. absurd (false≢true (sym is ∙ yes))), all)

rec_filter : {X : Type 0} (p : X → Bool) (Q : X → Type 0) (xs : List X) → AllByRecursion Q (filter p xs) → AllByRecursion (λ (x : X). p x ≡ true → Q x) xs
rec_filter p Q [] all = tt
rec_filter p Q (x ∷ xs) all = let one = filter_one p Q x xs (p x) refl all in (one.0, rec_filter p Q xs one.1)

roots_lead : (schema : Schema) (list : List PageImage) (image : PageImage) → 0 < length list → HasGoodPages schema list → HasGoodCells schema list → bytes_at list 9 ≡ image.bytes → length image.bytes ≡ 4096 → LeadWithin (length list) image.bytes (root_pointers image.bytes)
unfolding root_pointers roots_of
roots_lead schema list image more pages good bytes whole =
    rec_flat (λ (at : ℕ). target (number_at 4 at image.bytes) < length list) (root_pointer image.bytes) (range_with_len 0 101) (λ m i is.
    let at : i ≡ m = number_at-range m i is in
    let below : m < 101 = omega (arith, slice_get_within (range_with_len 0 101) m i is, length-range 0 101) in
    let all = recursion_from_All (λ (row : RootRow). LeadsToPage list row.pointer) _ (pointers_law schema list pages good).1 in
    let rows = rec_filter (λ (row : RootRow). not (is_unnamed row.name)) (λ (row : RootRow). LeadsToPage list row.pointer) (map (λ (k : ℕ). root_at (32 + 40 * k) (bytes_at list 9)) (range_with_len 0 101)) all in
    let row = all_at-range (λ (row : RootRow). not (is_unnamed row.name) ≡ true → LeadsToPage list row.pointer) (λ (k : ℕ). root_at (32 + 40 * k) (bytes_at list 9)) 0 101 rows m (omega arith) (omega arith) in
    subst (λ (k : ℕ). LeadWithin (length list) image.bytes (root_pointer image.bytes k)) (sym at)
    (by_name m below (subst (λ (l : List ℕ). not (is_unnamed (root_at (32 + 40 * m) l).name) ≡ true → LeadsToPage list (root_at (32 + 40 * m) l).pointer) bytes row) (eqb (name_length image.bytes m) 0) refl))
  where
    by_name : (m : ℕ) → m < 101 → (not (is_unnamed (root_at (32 + 40 * m) image.bytes).name) ≡ true → LeadsToPage list (root_at (32 + 40 * m) image.bytes).pointer) → (free : Bool) → eqb (name_length image.bytes m) 0 ≡ free
        → LeadWithin (length list) image.bytes (cond free [] ((root_place m + 32) ∷ []))
    by_name m below row true is = tt
    by_name m below row false is =
        let some : name_length image.bytes m ≢ 0 = λ none. false≢true (sym is ∙ eq-eqb _ _ none) in
        let at : 32 + 0 + 40 * m ≡ 32 + 40 * m + 0 = omega arith in
        let length_is : name_length image.bytes m ≡ number_at 1 (32 + 40 * m + 0) image.bytes = ap (λ (n : ℕ). number_at 1 n image.bytes) at in
        let has_name = named (number_at 1 (32 + 40 * m + 0) image.bytes) (32 + 40 * m + 1) image.bytes (λ none. some (length_is ∙ none)) (omega arith) in
        (leads_below list (number_at 4 (32 + 40 * m + 32) image.bytes) more (row (ap not has_name)), tt)

-- ---- any page

pub leads_within : (schema : Schema) (list : List PageImage) → IsValid schema list → (page : ℕ) (image : PageImage) → slice_get list page ≡ Some image → LeadWithin (length list) image.bytes (page_pointers schema page image.bytes)
leads_within schema list valid page image is =
    let shape = fit_shape schema list valid page image is in
    let there : page < length list = slice_get_within list page image is in
    by_page (eqb page 9) (holds_objects page image.bytes) refl refl shape.1 (omega arith) shape.0
  where
    by_page : (nine objects : Bool) → eqb page 9 ≡ nine → holds_objects page image.bytes ≡ objects → IsFit schema page image.bytes → 0 < length list → length image.bytes ≡ 4096
        → LeadWithin (length list) image.bytes (cond nine (root_pointers image.bytes) (cond objects (cell_pointers schema image.bytes) []))
    by_page true objects is_nine is_objects fit more whole =
        let here : slice_get list 9 ≡ Some image = sym (ap (slice_get list) (eqb-true page 9 is_nine)) ∙ is in
        roots_lead schema list image more valid.pages_kept valid.cells_kept (ap (λ (i : PageImage). i.bytes) (get_or_from_slice_get list 9 image _ here)) whole
    by_page false true is_nine is_objects fit more whole =
        cells_lead schema list page image more valid.pages_kept valid.cells_kept is (leb-true 10 page (and_parts (leb 10 page) (eqb (header_of image.bytes).kind 2) is_objects).0) (fit is_objects)
    by_page false false is_nine is_objects fit more whole = tt

lead_more : (count most : ℕ) (bytes places : List ℕ) → count ≤ most → LeadWithin count bytes places → LeadWithin most bytes places
lead_more count most bytes [] few lead = tt
lead_more count most bytes (at ∷ places) few lead = (let low = lead.0 in omega arith, lead_more count most bytes places few lead.1)

pub valid_fits : (schema : Schema) (list : List PageImage) → IsValid schema list → (page : ℕ) (image : PageImage) → slice_get list page ≡ Some image → IsFitPage schema page image
valid_fits schema list valid page image is =
    let shape = fit_shape schema list valid page image is in
    record {
      whole = shape.0;
      fit = shape.1;
      targets = lead_more (length list) 16384 image.bytes (page_pointers schema page image.bytes) valid.pages_kept.allocated.most (leads_within schema list valid page image is);
      cells = shape.2;
    }

-- each page that the image needs in a frame is one of the list
pub wanted_within : (schema : Schema) (list : List PageImage) → IsValid schema list → (page : ℕ) (image : PageImage) → slice_get list page ≡ Some image → AllByRecursion (λ (p : PageNo). p.0 < length list) (pages_wanted schema (record { 0 = page }) image.bytes)
wanted_within schema list valid page image is = (slice_get_within list page image is, by_places (page_pointers schema page image.bytes) (leads_within schema list valid page image is))
  where
    one : (pointer : ℕ) (none : Bool) (rest : List PageNo) → eqb pointer 0 ≡ none → target pointer < length list → AllByRecursion (λ (p : PageNo). p.0 < length list) rest → AllByRecursion (λ (p : PageNo). p.0 < length list) (cond none [] (record { 0 = target pointer } ∷ []) ++ rest)
    one pointer true rest is low all = all
    one pointer false rest is low all = (low, all)

    by_places : (places : List ℕ) → LeadWithin (length list) image.bytes places → AllByRecursion (λ (p : PageNo). p.0 < length list) (targets_of image.bytes places)
    by_places [] lead = tt
    by_places (at ∷ places) lead = one (number_at 4 at image.bytes) (eqb (number_at 4 at image.bytes) 0) (targets_of image.bytes places) refl lead.0 (by_places places lead.1)
