-- The pages of valid lists are pages of the schema's cells.
use Rattle.std.proofs.Common.{◌≡◌, ℕ, zero, suc, ◌+◌, ◌*◌, ◌<◌, ◌≤◌, Bool, true, false, cond, eqb, leb, ◌&&◌, ◌||◌, List, length, map, refl, sym, ap, subst, ◌∙◌, arith, Option, Some, None, inl, inr}
use Rattle.std.specs.Prelude.{nat_le}
use Rattle.std.specs.List.{find, range_with_len, AllByRecursion}
use Rattle.std.specs.Option.{option_map}
use Rattle.std.proofs.lemmas.Bool.{cases_lt, eqb-true, eq-eqb, ne_eqb, leb-true, le-leb, and_parts, and_from}
use Rattle.ostore_base.specs.declared.page.PageImage.{PageImage}
use Rattle.ostore_page_tags.specs.Header.{header_of}
use Rattle.ostore_page_tags.specs.Rows.{row_in}
use Rattle.ostore_page_tags.specs.Cells.{Cell, cells_of}
use Rattle.ostore_page_tags.specs.Rules.{is_chunk_code, IsPage}
use Rattle.ostore_page_tags.specs.PageLists.{bytes_at, header_at}
use Rattle.ostore_page_tags.specs.Allocated.{IsAllocated}
use Rattle.ostore_page_tags.proofs.shape.PageShape.{rows_in, end_in, offset_in, IsPage-shape, offset_order, offset_below}
use Rattle.ostore_page_tags.proofs.parts.CellLaws.{cell_in, cells_are}
use Rattle.ostore_schema_layout.specs.declared.schema.Schema.{Schema}
use Rattle.ostore_schema_layout.specs.Cells.{HasCode, IsType, code_size}
use Rattle.ostore_segments.specs.SchemaCells.{size_told}
use Rattle.ostore_relocation.specs.Fitness.{IsCellOf, HasCells}
use Rattle.ostore_graph_model.specs.Addresses.{PlacedCell, placed, begins_at, cell_at}
use Rattle.ostore_graph_model.specs.Addresses as addresses
use Rattle.ostore_graph_model.specs.Records.{is_sized}
use Rattle.ostore_graph_model.specs.Valid.{HasGoodCells}
use Rattle.ostore_graph_model.proofs.AllocationLaws.{data_page}
use Rattle.ostore_graph_model.proofs.AddressLaws.{cell_at-read}
use Rattle.ostore_graph_model.proofs.MemberEdits.{cell_sized}
use Rattle.ostore_object_ops.proofs.CellPlaces.{find-map, image_there}

find_first : (p : ℕ → Bool) (a n i : ℕ) → a ≤ i → i < a + n → p i ≡ true → ((j : ℕ) → a ≤ j → j < i → p j ≡ false) → find p (range_with_len a n) ≡ Some i
find_first p a zero i low high is none = absurd (omega arith)
find_first p a (suc n) i low high is none = elim (cases_lt a i) [
  | inl more ↦ ap (λ b. cond b (Some a) (find p (range_with_len (a + 1) n))) (none a (omega arith) more) ∙ find_first p (a + 1) n i (omega arith) (omega arith) is (λ j least below. none j (omega arith) below)
  | inr last ↦
      let same : a ≡ i = omega arith in
      ap (λ b. cond b (Some a) (find p (range_with_len (a + 1) n))) (ap p same ∙ is) ∙ ap (λ (k : ℕ). Some k) same
]

all_at : (P : Cell → Type 0) (f : ℕ → Cell) (a n : ℕ) → ((i : ℕ) → a ≤ i → i < a + n → P (f i)) → AllByRecursion P (map f (range_with_len a n))
all_at P f a zero each = tt
all_at P f a (suc n) each = (each a (omega arith) (omega arith), all_at P f (a + 1) n (λ i low high. each i (omega arith) (omega arith)))

-- a cell is the one that is read at its offset
read_at_own : (bytes : List ℕ) → IsPage bytes → (header_of bytes).kind ≡ 2 → (i : ℕ) → i < rows_in bytes
    → addresses.cell_in bytes (offset_in bytes i) ≡ Some (placed (header_of bytes).segment (cell_in (rows_in bytes) (end_in bytes) bytes (row_in bytes) i))
unfolding addresses.cell_in
read_at_own bytes good kind i below =
    let shape = IsPage-shape bytes good in
    let g : ℕ → Cell = cell_in (rows_in bytes) (end_in bytes) bytes (row_in bytes) in
    let first = find_first (λ j. eqb (offset_in bytes j) (offset_in bytes i)) 0 (rows_in bytes) i (omega arith) (omega arith) (eq-eqb _ _ refl)
    (λ j low less. let order = offset_order (rows_in bytes) (end_in bytes) (offset_in bytes) shape.offsets j i less below in ne_eqb _ _ (λ e. omega arith)) in
    ap (λ b. cond b (option_map (placed (header_of bytes).segment) (find (begins_at (offset_in bytes i)) (cells_of bytes))) None) (eq-eqb _ _ kind)
    ∙ ap (λ (cells : List Cell). option_map (placed (header_of bytes).segment) (find (begins_at (offset_in bytes i)) cells)) (cells_are (rows_in bytes) (end_in bytes) bytes refl refl)
    ∙ ap (option_map (placed (header_of bytes).segment)) (find-map (begins_at (offset_in bytes i)) g (range_with_len 0 (rows_in bytes)))
    ∙ ap (λ (o : Option ℕ). option_map (placed (header_of bytes).segment) (option_map g o)) first

has_code : (schema : Schema) (code : ℕ) → (chunk typed : Bool) → is_chunk_code code ≡ chunk → (nat_le 1 code && nat_le code (length schema.types)) ≡ typed → (chunk || typed) ≡ true → HasCode schema code
has_code schema code true typed is ty any = let both = and_parts (leb 240 code) (leb code 246) is in inr (leb-true 240 code both.0, leb-true code 246 both.1)
has_code schema code false true is ty any = let both = and_parts (leb 1 code) (leb code (length schema.types)) ty in inl (leb-true 1 code both.0, leb-true code (length schema.types) both.1)
has_code schema code false false is ty any = cc

pub sized_parts : (schema : Schema) (code : ℕ) (bytes : List ℕ) → is_sized schema code bytes ≡ true → HasCode schema code × (length bytes ≡ code_size schema code)
sized_parts schema code bytes sized =
    let both = and_parts (is_chunk_code code || (nat_le 1 code && nat_le code (length schema.types))) (eqb (length bytes) (code_size schema code)) sized in
    (has_code schema code (is_chunk_code code) (nat_le 1 code && nat_le code (length schema.types)) refl refl both.0, eqb-true _ _ both.1)

pub good_cells : (schema : Schema) (list : List PageImage) (page : ℕ) → HasGoodCells schema list → IsAllocated list → 10 ≤ page → page < length list → (header_at list page).kind ≡ 2 → HasCells schema (bytes_at list page)
unfolding header_at
good_cells schema list page cells fine low high kind =
    let bytes : List ℕ = bytes_at list page in
    let good = data_page list page fine low high kind in
    let shape = IsPage-shape bytes good in
    let room = shape.room in
    record {
      page = good;
      cells = subst (λ (l : List Cell). AllByRecursion (IsCellOf schema) l) (sym (cells_are (rows_in bytes) (end_in bytes) bytes refl refl))
          (all_at (IsCellOf schema) (cell_in (rows_in bytes) (end_in bytes) bytes (row_in bytes)) 0 (rows_in bytes) (λ i least below live.
          let most = offset_below (rows_in bytes) (end_in bytes) (offset_in bytes) shape.offsets i (omega arith) in
          let there : cell_at list (page * 4096 + offset_in bytes i) ≡ Some _ = cell_at-read list page (offset_in bytes i) (record { bytes = bytes }) (image_there list page high) low (omega arith) ∙ read_at_own bytes good kind i (omega arith) in
          sized_parts schema _ _ (cell_sized schema list (page * 4096 + offset_in bytes i) _ cells there)));
    }

told : (n : ℕ) (typed chunk : Bool) → (chunk || typed) ≡ true → cond (typed || chunk) (Some n) None ≡ Some n
told n true chunk any = refl
told n false true any = refl
told n false false any = cc

-- what is told of the size of a cell that has its code's
pub told_size : (schema : Schema) (code : ℕ) (bytes : List ℕ) → is_sized schema code bytes ≡ true → size_told schema code ≡ Some (length bytes)
told_size schema code bytes sized =
    let both = and_parts (is_chunk_code code || (nat_le 1 code && nat_le code (length schema.types))) (eqb (length bytes) (code_size schema code)) sized in
    told (code_size schema code) (nat_le 1 code && nat_le code (length schema.types)) (is_chunk_code code) both.0 ∙ ap (λ (n : ℕ). Some n) (sym (eqb-true _ _ both.1))

pub told_type : (schema : Schema) (code : ℕ) → IsType schema code → size_told schema code ≡ Some (code_size schema code)
told_type schema code is =
    told (code_size schema code) (nat_le 1 code && nat_le code (length schema.types)) (is_chunk_code code) (by (is_chunk_code code) (nat_le 1 code && nat_le code (length schema.types)) (and_from (leb 1 code) (leb code (length schema.types)) (le-leb 1 code is.0) (le-leb code (length schema.types) is.1)))
  where
    by : (chunk typed : Bool) → typed ≡ true → (chunk || typed) ≡ true
    by true typed is = refl
    by false typed is = is
