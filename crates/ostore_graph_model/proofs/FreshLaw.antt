-- A fresh list of pages is valid, and stands for the empty graph: no cell is in it, no root, and no serial is drawn.
use Rattle.std.proofs.Common.{◌≡◌, ℕ, zero, suc, ◌+◌, ◌-◌, ◌*◌, ◌/◌, ◌%◌, ◌<◌, ◌≤◌, ◌++◌, Bool, false, cond, ltb, eqb, List, [], ◌∷◌, length, take, drop, map, replicate, refl, sym, ap, subst, ◌∙◌, arith, inl, inr, Option, Some, None, true≢false}
use Rattle.std.specs.List.{slice_get, range_with_len, find}
use Rattle.std.specs.Prelude.{filter, not}
use Rattle.std.specs.Option.{option_map, option_and_then}
use Rattle.std.specs.Ordering.{nat_cmp}
use Rattle.std.specs.FinMap as maps
use Rattle.ostore_graph_model.specs.Sets as sets
use Rattle.ostore_graph_model.proofs.SetFacts as set_facts
use Rattle.std.proofs.lemmas.Bool.{cases_eq, cases_lt, lt-ltb, le-ltb, lt-leb, le-leb}
use Rattle.std.proofs.lemmas.List.{append_assoc}
use Rattle.std.proofs.lemmas.List.FromFn.{length-map-range_with_len, get_or-map-range_with_len}
use Rattle.std.proofs.lemmas.Option.{none-some}
use Rattle.byteorder.specs.Endian.{little_from, little_bytes}
use Rattle.byteorder.specs.Numbers.{little_number-reads_back}
use Rattle.ostore_base.specs.declared.page.PageImage.{PageImage}
use Rattle.ostore_page_tags.specs.declared.page_header.PageHeader.{PageHeader}
use Rattle.ostore_page_tags.specs.Numbers.{number_at}
use Rattle.ostore_page_tags.specs.Header.{header_of}
use Rattle.ostore_page_tags.specs.Cells.{cells_of}
use Rattle.ostore_page_tags.specs.PageLists.{bytes_at, header_at, first_of, schema_bytes, schema_length}
use Rattle.ostore_page_tags.specs.PageChains.{IsSegment}
use Rattle.ostore_page_tags.specs.FreshPages.{plain_image, stored_schema, part_image, part_images, free_image, free_images, fresh_list}
use Rattle.ostore_page_tags.proofs.parts.CellLaws.{ZeroOn-within}
use Rattle.ostore_page_tags.proofs.allocation.PlainPages.{IsPlain, number_at-zeros, plain_image-plain}
use Rattle.ostore_page_tags.proofs.allocation.FreshParts.{none_image, parts_long, rest_at, schema_joined}
use Rattle.ostore_page_tags.proofs.allocation.FreshPages.{fresh-allocated, fresh-text, stored_schema-long}
use Rattle.ostore_schema_layout.specs.declared.schema.Schema.{Schema}
use Rattle.ostore_schema_layout.specs.declared.schema.MemberDef.{MemberDef}
use Rattle.ostore_schema_layout.specs.Spells.{Spells}
use Rattle.ostore_graph_model.specs.declared.values.Scalar.{Scalar}
use Rattle.ostore_graph_model.specs.Orders.{name_cmp, pair_cmp, object_member_cmp, text_cmp, index_cmp}
use Rattle.ostore_graph_model.specs.Graph.{empty_graph}
use Rattle.ostore_graph_model.specs.Addresses.{placed, begins_at, cell_in, cell_at}
use Rattle.ostore_graph_model.specs.FixedPages.{RootRow, root_at, is_unnamed, roots_of, first_page, serial_of}
use Rattle.ostore_graph_model.specs.MemberValues.{values_of}
use Rattle.ostore_graph_model.specs.Records.{Slot, Links, RowTag, HeapCell, heap_cell, heap_of}
use Rattle.ostore_graph_model.specs.Heap.{Heap, tag_at, live_cell, HasMember}
use Rattle.ostore_graph_model.specs.Owners.{Owner, ChainHead, Owns}
use Rattle.ostore_graph_model.specs.HeapRules.{KeepsRoots, KeepsPointers, KeepsSerials, KeepsChains, KeepsOwner, KeepsItems, KeepsLinks}
use Rattle.ostore_graph_model.specs.StandsFor.{StandsFor, ShowsObjects, ShowsPairs, ShowsLists, ShowsDictionaries, ShowsRoots, ShowsSerials, ShowsIndexes}
use Rattle.ostore_graph_model.specs.Valid.{HasGoodPages, HasGoodCells}
use Rattle.ostore_graph_model.specs.LawsOfMeaning.{HoldGraph}
use Rattle.ostore_graph_model.specs.LawsOfFreshPages.{LawOfFreshPages}
use Rattle.ostore_graph_model.proofs.IndexLaws.{no_indexes_law}
use Rattle.ostore_graph_model.proofs.PageLaws.{first_is, first_within}
use Rattle.ostore_graph_model.proofs.TakenLaw.{read_page, none_page}

-- ---- a heap without rows

module _ (schema : Schema) (heap : Heap) (nothing : (address : ℕ) → heap address ≡ None) where
  no_cell : (address : ℕ) (cell : HeapCell) → heap address ≡ Some cell → ⊥
  no_cell address cell there = none-some cell (sym (nothing address) ∙ there)

  no_tag : (address : ℕ) (tag : RowTag) → tag_at heap address ≡ Some tag → ⊥
  no_tag address tag there = none-some tag (sym (ap (option_map (λ (cell : HeapCell). cell.tag)) (nothing address)) ∙ there)

  no_member : (address member : ℕ) (tag : RowTag) (def : MemberDef) (slot : Slot) → HasMember schema heap address member tag def slot → ⊥
  no_member address member tag def slot has = no_cell address (live_cell tag (Links.Object has.slots)) has.object.there

  no_owner : (owner : Owner) (head : ChainHead) → Owns schema heap owner head → ⊥
  no_owner (Owner.Items address member) head owns = no_member address member owns.tag owns.def (Slot.Begins owns.begins) owns.has
  no_owner (Owner.Indexes address member) head owns = no_member address member owns.tag owns.def (Slot.Begins owns.begins) owns.has
  no_owner (Owner.Contents address member descriptor) head owns =
      let over = owns.owned in
      no_member address member over.tag over.def (Slot.Begins over.begins) over.has

  -- nothing is asked of it

  pub empty_pointers : (address : ℕ) → KeepsPointers schema heap address
  empty_pointers address = record {
    members = λ member tag def slot has. absurd (no_member address member tag def slot has);
    chunks = λ tag next entries there. absurd (no_cell address (live_cell tag (Links.Chunk next entries)) there);
    descriptors = λ tag next index there. absurd (no_cell address (live_cell tag (Links.Index next index)) there);
  }

  pub empty_serials : (serials : ℕ → ℕ) (address : ℕ) → KeepsSerials (tag_at heap) serials address
  empty_serials serials address tag there typed = absurd (no_tag address tag there)

  pub empty_chains : (address : ℕ) → KeepsChains schema heap address
  empty_chains address = record {
    collections = λ member tag def head has. absurd (no_member address member tag def (Slot.Begins head) has);
    whole = λ owner head is owns. absurd (no_owner owner head owns);
    apart = λ owner head chunk is owned. absurd (no_owner owner head owned.owns);
  }

  pub empty_owner : (address : ℕ) → KeepsOwner schema heap address
  empty_owner address tag links there typed = absurd (no_cell address (live_cell tag links) there)

  pub empty_items : (address : ℕ) → KeepsItems heap address
  empty_items address tag next entries there = absurd (no_cell address (live_cell tag (Links.Chunk next entries)) there)

  pub empty_links : (address : ℕ) → KeepsLinks schema heap address
  empty_links address member tag def slot inverse target has sided leads = absurd (no_member address member tag def slot has)

  -- and it shows nothing

  pub no_objects : (values : ℕ → Option (List (Option Scalar))) → ShowsObjects heap values maps.empty
  no_objects values name object =
      (λ e. absurd (none-some object (sym (maps.get-empty name_cmp name) ∙ e)), λ has. absurd (no_cell has.address (live_cell has.tag (Links.Object has.slots)) has.stands.there))

  pub no_pairs : ShowsPairs schema heap sets.empty
  no_pairs pair = (
    λ e. absurd (true≢false (sym e ∙ set_facts.contains-empty pair_cmp pair)),
    λ has. let joins = has.joins in absurd (no_member joins.address pair.link.member.0 joins.tag joins.def joins.slot joins.has),
  )

  pub no_lists : ShowsLists schema heap maps.empty
  no_lists place names = (
    λ e. absurd (none-some names (sym (maps.get-empty object_member_cmp place) ∙ e)),
    λ has. let c = has.has in absurd (no_member c.address place.member.0 c.tag c.def (Slot.Begins c.head) c.has),
  )

  pub no_dictionaries : ShowsDictionaries schema heap maps.empty
  no_dictionaries place dictionary = (
    λ e. absurd (none-some dictionary (sym (maps.get-empty object_member_cmp place) ∙ e)),
    λ has. let c = has.has in absurd (no_member c.address place.member.0 c.tag c.def (Slot.Begins c.head) c.has),
  )

  pub no_roots : ShowsRoots heap [] maps.empty
  no_roots root name = (
    λ e. absurd (none-some name (sym (maps.get-empty text_cmp root) ∙ e)),
    λ has. let below = has.2 in absurd (omega arith),
  )

  pub no_indexes : ShowsIndexes schema heap sets.empty
  no_indexes index = (
    λ e. absurd (true≢false (sym e ∙ set_facts.contains-empty index_cmp index)),
    λ has. absurd (no_member has.address index.set.member.0 has.tag has.def (Slot.Begins has.head) has.has),
  )

no_serials : (counters : ℕ → ℕ) → ((segment : ℕ) → counters segment ≡ 0) → ShowsSerials counters maps.empty
no_serials counters none segment serial = (
  λ e. absurd (none-some serial (sym (maps.get-empty nat_cmp segment) ∙ e)),
  λ has. absurd (has.1 (sym has.0 ∙ none segment)),
)

-- ---- what is read of a fresh list

-- where no page has a cell at a place, none is at its address
cell_at-none : (pages : List PageImage) (address : ℕ) → (10 ≤ address / 4096 → address / 4096 < length pages → cell_in (bytes_at pages (address / 4096)) (address % 4096) ≡ None) → cell_at pages address ≡ None
unfolding cell_at
cell_at-none pages address none =
    let p : ℕ = address / 4096 in
    let o : ℕ = address % 4096 in
    elim (cases_lt p 10) [
      | inl low ↦ ap (λ b. option_and_then (λ (image : PageImage). cell_in image.bytes o) (cond b (slice_get pages p) None)) (lt-leb 10 p low)
      | inr high ↦
          ap (λ b. option_and_then (λ (image : PageImage). cell_in image.bytes o) (cond b (slice_get pages p) None)) (le-leb 10 p high)
          ∙ elim (cases_lt p (length pages)) [
            | inl below ↦ read_page pages p o below ∙ none high below
            | inr beyond ↦ ap (option_and_then (λ (image : PageImage). cell_in image.bytes o)) (none_page pages p beyond)
          ]
    ]

-- a free page has no cells
cell_in-free : (bytes : List ℕ) (o : ℕ) → (header_of bytes).kind ≡ 1 → cell_in bytes o ≡ None
unfolding cell_in
cell_in-free bytes o free = ap (λ (k : ℕ). cond (eqb k 2) (option_map (placed (header_of bytes).segment) (find (begins_at o) (cells_of bytes))) None) free

next_small : (n page : ℕ) → n ≤ 16384 → cond (ltb (page + 1) n) (page + 1) 0 < 4294967296
next_small n page most = elim (cases_lt (page + 1) n) [
  | inl more ↦ rw (lt-ltb (page + 1) n more) (omega arith)
  | inr last ↦ rw (le-ltb (page + 1) n last) (omega arith)
]

-- of rows that are all left out none is left
filter_none : (p : RootRow → Bool) (f : ℕ → RootRow) (k from : ℕ) → ((i : ℕ) → from ≤ i → i < from + k → p (f i) ≡ false) → filter p (map f (range_with_len from k)) ≡ []
filter_none p f zero from none = refl
filter_none p f (suc k) from none =
    ap (λ b. cond b (f from ∷ filter p (map f (range_with_len (from + 1) k))) (filter p (map f (range_with_len (from + 1) k)))) (none from (omega arith) (omega arith))
    ∙ filter_none p f k (from + 1) (λ i low high. none i (omega arith) (omega arith))

-- a row without a name is left out
unnamed : (at : ℕ) (bytes : List ℕ) → number_at 1 (at + 0) bytes ≡ 0 → not (is_unnamed (root_at at bytes).name) ≡ false
unnamed at bytes none = ap (λ (n : ℕ). not (is_unnamed (take n (drop (at + 1) bytes)))) none

module _ (text : List ℕ) (n : ℕ) (short : length text ≤ 32764) (least : 11 ≤ n) (most : n ≤ 16384) where
  fresh_long : length (fresh_list text n) ≡ n
  unfolding fresh_list part_images free_images
  fresh_long =
      let others = length-map-range_with_len (free_image n) 10 (n - 10) in
      let long = parts_long (plain_image 3 10) (part_image (stored_schema text)) (plain_image 4 0) (map (free_image n) (range_with_len 10 (n - 10))) in
      omega arith

  free_at : (page : ℕ) → 10 ≤ page → page < n → bytes_at (fresh_list text n) page ≡ (plain_image 1 (cond (ltb (page + 1) n) (page + 1) 0)).bytes
  unfolding fresh_list part_images free_images
  free_at page low high =
      let at = rest_at (plain_image 3 10) (part_image (stored_schema text)) (plain_image 4 0) (map (free_image n) (range_with_len 10 (n - 10))) page low in
      let found = get_or-map-range_with_len (free_image n) 10 (n - 10) (page - 10) page none_image (omega arith) (omega arith) in
      at ∙ ap (λ (image : PageImage). image.bytes) found

  free_kind : (page : ℕ) → 10 ≤ page → page < n → (header_of (bytes_at (fresh_list text n) page)).kind ≡ 1
  free_kind page low high =
      ap (λ (bytes : List ℕ). (header_of bytes).kind) (free_at page low high)
      ∙ ap (λ (h : PageHeader). h.kind) (plain_image-plain 1 (cond (ltb (page + 1) n) (page + 1) 0) (omega arith) (next_small n page most)).header

  pub fresh_cells : (address : ℕ) → cell_at (fresh_list text n) address ≡ None
  fresh_cells address =
      let long = fresh_long in
      cell_at-none (fresh_list text n) address (λ low below. cell_in-free (bytes_at (fresh_list text n) (address / 4096)) (address % 4096) (free_kind (address / 4096) low (omega arith)))

  pub fresh_heap : (schema : Schema) (address : ℕ) → heap_of schema (fresh_list text n) address ≡ None
  unfolding heap_of
  fresh_heap schema address = ap (option_map (heap_cell schema)) (fresh_cells address)

  pub fresh_roots : roots_of (fresh_list text n) ≡ []
  unfolding roots_of fresh_list part_images free_images
  fresh_roots =
      let bytes : List ℕ = (plain_image 4 0).bytes in
      let plain : IsPlain 4 0 bytes = plain_image-plain 4 0 (omega arith) (omega arith) in
      filter_none (λ row. not (is_unnamed row.name)) (λ i. root_at (32 + 40 * i) bytes) 101 0
      (λ i low high. unnamed (32 + 40 * i) bytes
      (number_at-zeros 1 (32 + 40 * i + 0) bytes (ZeroOn-within 20 4096 (32 + 40 * i + 0) (32 + 40 * i + 0 + 1) bytes plain.zeros (omega arith) (omega arith))))

  first_none : (segment : ℕ) → IsSegment segment → first_of (fresh_list text n) segment ≡ 0
  unfolding first_of fresh_list
  first_none segment within =
      let bytes : List ℕ = (plain_image 3 10).bytes in
      let plain : IsPlain 3 10 bytes = plain_image-plain 3 10 (omega arith) (omega arith) in
      let low = within.0 in
      let high = within.1 in
      let place : ℕ = 32 + 4 * (segment - 1) in
      number_at-zeros 4 place bytes (ZeroOn-within 20 4096 place (place + 4) bytes plain.zeros (omega arith) (omega arith))

  no_first : (segment : ℕ) → first_page (fresh_list text n) segment ≡ 0
  no_first segment = elim (cases_eq (first_page (fresh_list text n) segment) 0) [
    | inl none ↦ none
    | inr some ↦
        let within = first_within (fresh_list text n) segment some in
        first_is (fresh_list text n) segment within ∙ first_none segment within
  ]

  pub fresh_counters : (segment : ℕ) → serial_of (fresh_list text n) segment ≡ 0
  unfolding serial_of
  fresh_counters segment = ap (λ (p : ℕ). cond (eqb p 0) 0 (header_at (fresh_list text n) p).last_serial) (no_first segment)

  pub fresh_length : schema_length (schema_bytes (fresh_list text n)) ≡ length text
  unfolding fresh_list part_images stored_schema
  fresh_length =
      let more : ℕ = 32768 - (4 + length text) in
      ap schema_length (schema_joined (plain_image 3 10) (stored_schema text) (plain_image 4 0) (free_images n (n - 10)) (stored_schema-long text short))
      ∙ ap (λ (l : List ℕ). little_from 0 4 l) (append_assoc (little_bytes 4 (length text)) text (replicate more 0))
      ∙ little_number-reads_back 4 (length text) (text ++ replicate more 0) (omega arith)

pub fresh_law : LawOfFreshPages
fresh_law schema text n spells least most = (no_indexes_law schema (fresh_list text n) empty_graph holds links refl, stands)
  where
    short : length text ≤ 32764
    short = spells.short

    nothing : (address : ℕ) → heap_of schema (fresh_list text n) address ≡ None
    nothing = fresh_heap text n short least most schema

    heap : Heap
    heap = heap_of schema (fresh_list text n)

    stands : StandsFor schema (fresh_list text n) empty_graph
    stands = record {
      objects = no_objects schema heap nothing (values_of schema (fresh_list text n));
      pairs = no_pairs schema heap nothing;
      lists = no_lists schema heap nothing;
      dictionaries = no_dictionaries schema heap nothing;
      roots = subst (λ rows. ShowsRoots heap rows maps.empty) (sym (fresh_roots text n short least most)) (no_roots schema heap nothing);
      serials = no_serials (serial_of (fresh_list text n)) (fresh_counters text n short least most);
      indexes = no_indexes schema heap nothing;
    }

    good : HasGoodCells schema (fresh_list text n)
    good = record {
      written = λ address cell there. absurd (none-some cell (sym (fresh_cells text n short least most address) ∙ there));
      roots = subst (KeepsRoots heap) (sym (fresh_roots text n short least most)) (record { good = λ k d below. absurd (omega arith); own = tt });
      pointers = empty_pointers schema heap nothing;
      serials = empty_serials schema heap nothing (serial_of (fresh_list text n));
      chains = empty_chains schema heap nothing;
      owners = empty_owner schema heap nothing;
      items = empty_items schema heap nothing;
    }

    pages : HasGoodPages schema (fresh_list text n)
    pages =
        let counted = fresh_length text n short least most in
        let limit = short in
        record {
          allocated = fresh-allocated text n short least most;
          fits = omega arith;
          spelled = subst (λ stored. Spells stored schema) (sym (fresh-text text n short)) spells;
        }

    holds : HoldGraph schema (fresh_list text n) empty_graph
    holds = record { pages_kept = pages; cells_kept = good; stands = stands }

    links : (address : ℕ) → KeepsLinks schema heap address
    links = empty_links schema heap nothing
