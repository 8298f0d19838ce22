-- The pointers of good cells lead to pages.
use Rattle.std.proofs.Common.{◌≡◌, ◌≢◌, ℕ, zero, suc, ◌+◌, ◌-◌, ◌*◌, ◌<◌, ◌≤◌, ◌&&◌, ◌||◌, Bool, true, false, cond, eqb, leb, List, [], ◌∷◌, length, map, drop, get_or, refl, sym, ap, ap₂, subst, ◌∙◌, arith, mul-le-mul_left, Option, Some, None, inl, inr}
use Rattle.std.specs.Prelude.{◌/◌}
use Rattle.std.specs.List.{slice_get, flat_map, range_with_len, All}
use Rattle.std.specs.Option.{option_map}
use Rattle.std.proofs.lemmas.Bool.{cases_eq, cases_lt, eq-eqb, ne_eqb, eqb-true, le-leb, leb-true, and_parts, and_from, lt-leb}
use Rattle.std.proofs.lemmas.List.{get_or-drop}
use Rattle.std.proofs.lemmas.List.Elements.{All-nil, All-cons, All-append}
use Rattle.std.proofs.lemmas.List.FromFn.{length-map-range_with_len, get_or-map-range_with_len}
use Rattle.std.proofs.lemmas.Option.{same_Some, none-some, slice_get-map}
use Rattle.ostore_base.specs.declared.page.PageImage.{PageImage}
use Rattle.ostore_page_tags.specs.Numbers.{number_at}
use Rattle.ostore_page_tags.specs.Rules.{are_zero, is_type_code, is_chunk_code}
use Rattle.ostore_schema_layout.specs.declared.schema.Schema.{Schema}
use Rattle.ostore_schema_layout.specs.declared.schema.MemberDef.{MemberDef}
use Rattle.ostore_schema_layout.specs.declared.schema.MemberKind.{MemberKind}
use Rattle.ostore_schema_layout.specs.declared.schema.MemberKind.TheVariants as kinds
use Rattle.ostore_schema_layout.specs.declared.layouts.Place.{Place}
use Rattle.ostore_schema_layout.specs.Cells.{kind_size, places_from, chunk_of, code_size, chunk_pointers, entry_pointers, pointers_of_kind, pointers_of_place, type_pointers, pointers_of}
use Rattle.ostore_schema_layout.specs.Numbers.{members_of}
use Rattle.ostore_graph_model.specs.Addresses.{PlacedCell, cell_at}
use Rattle.ostore_graph_model.specs.CellRules.{is_chunk_written, is_code_written, is_filled}
use Rattle.ostore_graph_model.specs.Heap.{Heap, code_at, live_cell, IsObject, HasMember}
use Rattle.ostore_graph_model.specs.HeapRules.{IsObjectRow, HasGoodPointers, HasGoodEntries, LeadsToChunk}
use Rattle.ostore_graph_model.specs.Chunks.{pointer_at, ChunkEntry, entry_at, entry_place, entries_in, count_in, descriptor_in}
use Rattle.ostore_graph_model.specs.Records.{slot_of, slot_in, Links, HeapCell, tag_of, is_sized, links_of_code, heap_cell, heap_of}
use Rattle.ostore_graph_model.specs.Valid.{HasGoodCells}
use Rattle.ostore_graph_model.specs.LawsOfCells.{LeadsToPage, LawOfPointers}
use Rattle.ostore_graph_model.proofs.AddressLaws.{cell_at-page}
use Rattle.ostore_graph_model.proofs.GraphLaws.{addresses_bounded}
use Rattle.ostore_graph_model.proofs.MemberEdits.{cell_sized}
use Rattle.ostore_graph_model.proofs.RecordLaws.{type_code_most}
use Rattle.ostore_graph_model.proofs.ZeroLaws.{little_zero}

-- ---- rows are on pages

abbrev InPages : List PageImage → ℕ → Type 0
InPages pages pointer = (10 ≤ pointer / 4096) × (pointer / 4096 < length pages)

row_in_pages : (schema : Schema) (pages : List PageImage) (pointer code : ℕ) → code_at (heap_of schema pages) pointer ≡ Some code → InPages pages pointer
unfolding heap_of
row_in_pages schema pages pointer code there = found (cell_at pages pointer) refl
  where
    found : (cell : Option PlacedCell) → cell_at pages pointer ≡ cell → InPages pages pointer
    found None e = absurd (none-some code (sym (ap (λ (c : Option PlacedCell). option_map (λ (h : HeapCell). h.tag.code) (option_map (heap_cell schema) c)) e) ∙ there))
    found (Some cell) e =
        let low = cell_at-page pages pointer cell e in
        let high : pointer < 4096 * length pages = addresses_bounded schema pages pointer (heap_cell schema cell) (ap (option_map (heap_cell schema)) e) in
        (low, omega arith)

-- ---- lists

all_flat : {X : Type 0} (f : X → List ℕ) (P : ℕ → Type 0) (xs : List X) → ((m : ℕ) (x : X) → slice_get xs m ≡ Some x → All P (f x)) → All P (flat_map f xs)
all_flat f P [] each = All-nil P
all_flat f P (x ∷ xs) each = All-append P (f x) (flat_map f xs) (each 0 x refl) (all_flat f P xs (λ m y e. each (suc m) y e))

all_range : (f : ℕ → ℕ) (P : ℕ → Type 0) (n : ℕ) → ((i : ℕ) → i < n → P (f i)) → All P (map f (range_with_len 0 n))
all_range f P n each k d below =
    let size = length-map-range_with_len f 0 n in
    let within : k < n = omega arith in
    subst P (sym (get_or-map-range_with_len f 0 n k k d within (omega arith))) (each k within)

-- the bytes behind a place are zero, and so is a number there
zero_byte : (bytes : List ℕ) → are_zero bytes ≡ true → (k : ℕ) → get_or bytes k 0 ≡ 0
zero_byte [] zeros k = refl
zero_byte (byte ∷ bytes) zeros zero = eqb-true byte 0 (and_parts (eqb byte 0) (are_zero bytes) zeros).0
zero_byte (byte ∷ bytes) zeros (suc k) = zero_byte bytes (and_parts (eqb byte 0) (are_zero bytes) zeros).1 k

zero_number : (bytes : List ℕ) (from at : ℕ) → are_zero (drop from bytes) ≡ true → from ≤ at → number_at 4 at bytes ≡ 0
zero_number bytes from at zeros high = little_zero (drop at bytes) each 0 4
  where
    each : (k : ℕ) → get_or (drop at bytes) k 0 ≡ 0
    each k =
        let place : from + (at - from + k) ≡ at + k = omega arith in
        get_or-drop at bytes k 0
        ∙ ap (λ (n : ℕ). get_or bytes n 0) (sym place)
        ∙ sym (get_or-drop from bytes (at - from + k) 0)
        ∙ zero_byte (drop from bytes) zeros (at - from + k)

-- ---- objects

place_def : (at : ℕ) (members : List MemberDef) (m : ℕ) (place : Place) → slice_get (places_from at members) m ≡ Some place → (def : MemberDef) × (slice_get members m ≡ Some def) × (place.kind ≡ def.kind)
place_def at [] m place e = absurd (none-some place e)
place_def at (member ∷ members) zero place e = (member, refl, sym (ap (λ (p : Place). p.kind) (same_Some (record { offset = at; kind = member.kind }) place e)))
place_def at (member ∷ members) (suc m) place e = place_def (at + kind_size member.kind) members m place e

module _ (schema : Schema) (pages : List PageImage) (cells : HasGoodCells schema pages) where
  abbrev heap : Heap
  heap = heap_of schema pages

  leads : (code pointer : ℕ) → LeadsToChunk (heap_of schema pages) code pointer → LeadsToPage pages pointer
  leads code pointer row some = row_in_pages schema pages pointer code (row some)

  abbrev Points : List ℕ → ℕ → Type 0
  Points bytes place = LeadsToPage pages (pointer_at place bytes)

  kind_pointers : (bytes : List ℕ) (at : ℕ) (kind : MemberKind) → HasGoodPointers schema (heap_of schema pages) kind (slot_of bytes at kind) → All (Points bytes) (pointers_of_kind at kind)
  kind_pointers bytes at kinds.Int good = All-nil (Points bytes)
  kind_pointers bytes at (kinds.Text max) good = All-nil (Points bytes)
  kind_pointers bytes at (kinds.Ref target) good = All-cons (Points bytes) at [] (leads target.0 (pointer_at at bytes) good) (All-nil (Points bytes))
  kind_pointers bytes at (kinds.Set target) good = All-cons (Points bytes) at ((at + 8) ∷ []) (leads 240 (pointer_at at bytes) good.0) (All-cons (Points bytes) (at + 8) [] (leads 244 (pointer_at (at + 8) bytes) good.1) (All-nil (Points bytes)))
  kind_pointers bytes at (kinds.List target) good = All-cons (Points bytes) at [] (leads 241 (pointer_at at bytes) good.0) (All-nil (Points bytes))
  kind_pointers bytes at (kinds.DictInt target) good = All-cons (Points bytes) at [] (leads 242 (pointer_at at bytes) good.0) (All-nil (Points bytes))
  kind_pointers bytes at (kinds.DictText target) good = All-cons (Points bytes) at [] (leads 243 (pointer_at at bytes) good.0) (All-nil (Points bytes))

  module _ (address : ℕ) (cell : PlacedCell) (there : cell_at pages address ≡ Some cell) (live : cell.live ≡ true) where
    abbrev PointsWell : ℕ → Type 0
    PointsWell place = LeadsToPage pages (pointer_at place cell.bytes)

    sized : is_sized schema cell.code cell.bytes ≡ true
    sized = cell_sized schema pages address cell cells there

    in_heap : (links : Links) → links_of_code schema cell.code cell.bytes ≡ links → heap_of schema pages address ≡ Some (live_cell (tag_of cell) links)
    unfolding heap_of
    in_heap links is =
        ap (option_map (heap_cell schema)) there
        ∙ ap₂ (λ (b : Bool) (l : Links). Some (record { tag = tag_of cell; live = b; links = l })) live (ap (λ b. cond b (links_of_code schema cell.code cell.bytes) Links.Broken) sized ∙ is)

    object_pointers : is_type_code cell.code ≡ true → All PointsWell (type_pointers (members_of schema cell.code))
    object_pointers typed = all_flat pointers_of_place PointsWell (places_from 0 (members_of schema cell.code)) each
      where
        links_are : links_of_code schema cell.code cell.bytes ≡ Links.Object (map (slot_in cell.bytes) (places_from 0 (members_of schema cell.code)))
        links_are =
            let high = (type_code_most cell.code typed).1 in
            let other : eqb cell.code 244 ≡ false = ne_eqb _ _ (λ e. omega arith) in
            let low : leb 240 cell.code ≡ false = lt-leb _ _ (omega arith) in
            rw (other, low) refl

        each : (m : ℕ) (place : Place) → slice_get (places_from 0 (members_of schema cell.code)) m ≡ Some place → All PointsWell (pointers_of_place place)
        each m place e =
            let def = place_def 0 (members_of schema cell.code) m place e in
            let object : IsObject (heap_of schema pages) address (tag_of cell) (map (slot_in cell.bytes) (places_from 0 (members_of schema cell.code))) = record { there = in_heap _ links_are; typed = typed } in
            let has : HasMember schema (heap_of schema pages) address m (tag_of cell) def.0 (slot_in cell.bytes place) = record {
              slots = map (slot_in cell.bytes) (places_from 0 (members_of schema cell.code));
              object = object;
              defined = def.1;
              held = slice_get-map (slot_in cell.bytes) (places_from 0 (members_of schema cell.code)) m ∙ ap (option_map (slot_in cell.bytes)) e;
            } in
            let good = (cells.pointers address).members m (tag_of cell) def.0 (slot_in cell.bytes place) has in
            kind_pointers cell.bytes place.offset place.kind (subst (λ k. HasGoodPointers schema (heap_of schema pages) k (slot_in cell.bytes place)) (sym def.2) good)

    descriptor_pointers : cell.code ≡ 244 → All PointsWell (0 ∷ 4 ∷ [])
    descriptor_pointers is =
        let links_are : links_of_code schema cell.code cell.bytes ≡ Links.Index (pointer_at 0 cell.bytes) (descriptor_in cell.bytes) = let hit : eqb cell.code 244 ≡ true = eq-eqb _ _ is in rw hit refl in
        let good = (cells.pointers address).descriptors (tag_of cell) (pointer_at 0 cell.bytes) (descriptor_in cell.bytes) (in_heap _ links_are) in
        All-cons PointsWell 0 (4 ∷ []) (leads _ _ good.0) (All-cons PointsWell 4 [] (leads _ _ good.1) (All-nil PointsWell))

    chunk_pointers_lead : 240 ≤ cell.code → cell.code ≢ 244 → All PointsWell (0 ∷ entry_pointers (chunk_of cell.code))
    chunk_pointers_lead high apart = All-cons PointsWell 0 (entry_pointers (chunk_of cell.code)) (leads _ _ good.0) (all_range place_of PointsWell (chunk_of cell.code).entries each)
      where
        other : eqb cell.code 244 ≡ false
        other = ne_eqb _ _ apart

        chunk : leb 240 cell.code ≡ true
        chunk = le-leb 240 cell.code high

        place_of : ℕ → ℕ
        place_of i = 8 + (chunk_of cell.code).pointer_at + (chunk_of cell.code).entry_size * i

        links_are : links_of_code schema cell.code cell.bytes ≡ Links.Chunk (pointer_at 0 cell.bytes) (entries_in cell.code cell.bytes)
        links_are = rw (other, chunk) refl

        good : LeadsToChunk (heap_of schema pages) cell.code (pointer_at 0 cell.bytes) × HasGoodEntries schema (heap_of schema pages) address (entries_in cell.code cell.bytes)
        good = (cells.pointers address).chunks (tag_of cell) (pointer_at 0 cell.bytes) (entries_in cell.code cell.bytes) (in_heap _ links_are)

        code_is : is_code_written schema cell.code cell.bytes ≡ is_chunk_written cell.code cell.bytes
        code_is = rw (other, chunk) refl

        written : is_chunk_written cell.code cell.bytes ≡ true
        written =
            sym code_is
            ∙ sym (ap (λ b. cond b (is_code_written schema cell.code cell.bytes) (are_zero cell.bytes)) live)
            ∙ (and_parts (is_sized schema cell.code cell.bytes) (is_filled schema cell) (cells.written address cell there)).1

        each : (i : ℕ) → i < (chunk_of cell.code).entries → PointsWell (place_of i)
        each i below some = elim (cases_lt i (count_in cell.bytes)) [
          | inl used ↦
              let entry : ChunkEntry = entry_at cell.code (entry_place cell.code i) cell.bytes in
              let long = length-map-range_with_len (λ k. entry_at cell.code (entry_place cell.code k) cell.bytes) 0 (count_in cell.bytes) in
              let is = get_or-map-range_with_len (λ k. entry_at cell.code (entry_place cell.code k) cell.bytes) 0 (count_in cell.bytes) i i entry used (omega arith) in
              let row = subst (λ (e : ChunkEntry). e.item ≢ 0 → IsObjectRow (heap_of schema pages) e.item) is (good.1.objects i entry (omega arith)) in
              let at : entry_place cell.code i + (chunk_of cell.code).pointer_at ≡ 8 + (chunk_of cell.code).pointer_at + (chunk_of cell.code).entry_size * i = omega arith in
              let there_row = row (λ none. some (ap (λ n. pointer_at n cell.bytes) (sym at) ∙ none)) in
              subst (InPages pages) (ap (λ n. pointer_at n cell.bytes) at) (row_in_pages schema pages _ there_row.0 there_row.1)
          | inr unused ↦ absurd (some (zero_number cell.bytes (entry_place cell.code (count_in cell.bytes)) (8 + (chunk_of cell.code).pointer_at + (chunk_of cell.code).entry_size * i) zeros (behind (chunk_of cell.code).entry_size (chunk_of cell.code).pointer_at (count_in cell.bytes) i unused)))
        ]
          where
            zeros : are_zero (drop (entry_place cell.code (count_in cell.bytes)) cell.bytes) ≡ true
            zeros = (and_parts _ (are_zero (drop (entry_place cell.code (count_in cell.bytes)) cell.bytes)) written).1

            behind : (size pointer count i : ℕ) → count ≤ i → 8 + size * count ≤ 8 + pointer + size * i
            behind size pointer count i low = let more = mul-le-mul_left size low in omega arith

    cell_pointers : length schema.types ≤ 64 → All PointsWell (pointers_of schema cell.code)
    cell_pointers few = elim (cases_lt cell.code 240) [
      | inl low ↦
          let miss : leb 240 cell.code ≡ false = lt-leb _ _ low in
          let known = (and_parts (is_chunk_code cell.code || leb 1 cell.code && leb cell.code (length schema.types)) (eqb (length cell.bytes) (code_size schema cell.code)) sized).0 in
          let types : (leb 1 cell.code && leb cell.code (length schema.types)) ≡ true = sym (ap (λ b. (b && leb cell.code 246) || leb 1 cell.code && leb cell.code (length schema.types)) miss) ∙ known in
          let parts = and_parts (leb 1 cell.code) (leb cell.code (length schema.types)) types in
          let most = leb-true cell.code (length schema.types) parts.1 in
          let typed : is_type_code cell.code ≡ true = and_from (leb 1 cell.code) (leb cell.code 64) parts.0 (le-leb cell.code 64 (omega arith)) in
          subst (All PointsWell) (sym (ap (λ b. cond b (chunk_pointers cell.code) (type_pointers (members_of schema cell.code))) miss)) (object_pointers typed)
      | inr high ↦
          let chunk = ap (λ b. cond b (chunk_pointers cell.code) (type_pointers (members_of schema cell.code))) (le-leb 240 cell.code high) in
          elim (cases_eq cell.code 244) [
            | inl descriptor ↦ subst (All PointsWell) (sym (chunk ∙ ap (λ b. cond b (0 ∷ 4 ∷ []) (0 ∷ entry_pointers (chunk_of cell.code))) (eq-eqb _ _ descriptor))) (descriptor_pointers descriptor)
            | inr apart ↦ subst (All PointsWell) (sym (chunk ∙ ap (λ b. cond b (0 ∷ 4 ∷ []) (0 ∷ entry_pointers (chunk_of cell.code))) (ne_eqb _ _ apart))) (chunk_pointers_lead high apart)
          ]
    ]

pub pointers_law : LawOfPointers
pointers_law schema pages good cells = (
  λ address cell there live. cell_pointers schema pages cells address cell there live good.spelled.lawful.few,
  λ k d below. let root = cells.roots.good k d below in let row = root.leads in λ some. row_in_pages schema pages _ row.0 row.1,
)
