-- A collection of the pages is changed as a whole: the pages are good, and hold the graph that the command makes.
use Rattle.std.proofs.Common.{◌≡◌, ◌≢◌, ◌↔◌, ◌⊎◌, ◌<◌, ◌&&◌, ◌||◌, not, ℕ, Bool, true, false, cond, eqb, List, [], ◌∷◌, ◌++◌, length, map, set, refl, sym, ap, ap₂, subst, ◌∙◌, arith, Option, Some, None, inl, inr, true≢false, zero, suc, get_or, ◌*◌}
use Rattle.std.specs.Prelude.{unwrap_or, slice_set}
use Rattle.std.specs.List.{All, Any, Contains}
use Rattle.std.specs.Option.{option_map}
use Rattle.std.specs.Ordering.{eq_by_cmp}
use Rattle.std.specs.FinMap as maps
use Rattle.ostore_graph_model.specs.Sets as sets
use Rattle.ostore_graph_model.proofs.SetFacts as set_facts
use Rattle.std.proofs.lemmas.Bool.{cases_eq, ne_eqb, cases_Bool, or_cases, and_parts, and_from, not-true}
use Rattle.std.proofs.lemmas.List.{map-append, map-set}
use Rattle.std.proofs.lemmas.Option.{same_Some, none-some}
use Rattle.ostore_base.specs.declared.page.PageImage.{PageImage}
use Rattle.ostore_page_tags.specs.Rules.{is_type_code}
use Rattle.ostore_schema_layout.specs.declared.schema.Schema.{Schema}
use Rattle.ostore_schema_layout.specs.declared.schema.TypeNo.{TypeNo}
use Rattle.ostore_schema_layout.specs.declared.schema.MemberDef.{MemberDef}
use Rattle.ostore_schema_layout.specs.declared.schema.Inverse.{Inverse}
use Rattle.ostore_schema_layout.specs.declared.schema.MemberKind.{MemberKind}
use Rattle.ostore_schema_layout.specs.declared.schema.MemberKind.TheVariants as kinds
use Rattle.ostore_schema_layout.specs.Cells.{ArePairwise}
use Rattle.ostore_schema_layout.specs.Lawful.{link_target}
use Rattle.ostore_graph_model.specs.declared.values.Name.{Name}
use Rattle.ostore_graph_model.specs.declared.commands.Key.{Key}
use Rattle.ostore_graph_model.specs.Orders.{ObjectMember, Pair, pair_cmp, object_member_cmp, key_cmp, type_member_cmp, name_cmp}
use Rattle.ostore_graph_model.specs.Graph.{Graph, Dictionary, list_at, dictionary_at}
use Rattle.ostore_graph_model.specs.Kinds.{is_ref}
use Rattle.ostore_graph_model.specs.Links.{comes_first, pair_at, IsLink}
use Rattle.ostore_graph_model.specs.Deeds.{LiveMember}
use Rattle.ostore_graph_model.specs.Deeds.Collections.{items_of, with_items, bindings_of, with_bindings}
use Rattle.ostore_graph_model.specs.Deeds.References.{with_joined}
use Rattle.ostore_graph_model.proofs.JoinedFacts.{live_parts, own_pair, joined_by_set}
use Rattle.ostore_graph_model.specs.Addresses.{PlacedCell, cell_at}
use Rattle.ostore_graph_model.specs.FixedPages.{roots_of, serial_of}
use Rattle.ostore_graph_model.specs.MemberValues.{values_in, values_of}
use Rattle.ostore_graph_model.specs.Chunks.{ChunkEntry}
use Rattle.ostore_graph_model.specs.Records.{RowTag, HeapCell, heap_cell, heap_of}
use Rattle.ostore_graph_model.specs.Heap.{Heap, tag_at, code_at, name_at, name_in}
use Rattle.ostore_graph_model.specs.Chains.{chunk_code, IsIn, entries_of, item_type}
use Rattle.ostore_graph_model.specs.CellRules.{is_written}
use Rattle.ostore_graph_model.specs.HeapRules.{KeepsRoots, KeepsSerials}
use Rattle.ostore_graph_model.specs.StandsFor.{HasCollection, Binds, ShowsPairs, ShowsLists, ShowsDictionaries, ShowsRoots, ShowsSerials}
use Rattle.ostore_graph_model.specs.Valid.{HasGoodCells, HasGoodLinks}
use Rattle.ostore_graph_model.specs.PageEdits.{name_of}
use Rattle.ostore_graph_model.specs.Collections.{KeepsHeap}
use Rattle.ostore_graph_model.specs.LawsOfMeaning.{HoldGraph, LeavesGraph}
use Rattle.ostore_graph_model.specs.CollectionEdits.{WritesCollection, object_member, type_member, entry_items, Pairs, LawOfAppends, LawOfPuts, LawOfBinds, LawOfUnbinds, LawOfInserts, LawOfRemoves, LawOfFirstSideInserts, LawOfFirstSideRemoves, LawOfSecondSides}
use Rattle.ostore_graph_model.proofs.KeyLaws.{key_cmp-IsTotalOrder, key_cmp-IsAntisymmetric}
use Rattle.ostore_graph_model.proofs.OrderLaws.{type_member_cmp-IsTotalOrder, type_member_cmp-IsAntisymmetric, name_cmp-IsTotalOrder, name_cmp-IsAntisymmetric, pair_cmp-IsTotalOrder, pair_cmp-IsAntisymmetric, tied_same, same_tied, apart_tied}
use Rattle.ostore_graph_model.proofs.ObjectLaws.{AreNamesOwn, names_own}
use Rattle.ostore_graph_model.proofs.UniqueLaws.{one_map}
use Rattle.ostore_graph_model.proofs.ItemLaws.{each_item, items_lead}
use Rattle.ostore_graph_model.proofs.ShownLaws.{map_all}
use Rattle.ostore_graph_model.proofs.ChainLaws.{in_or_not, chain_unique}
use Rattle.ostore_graph_model.proofs.GraphExists.{names_of, nil_or_not, dictionary_of}
use Rattle.ostore_graph_model.proofs.GraphLaws.{addresses_bounded}
use Rattle.ostore_graph_model.proofs.CollectionLaws.{has, collection_law}
use Rattle.ostore_graph_model.proofs.CollectionFrames.{had, rows_had, collection_was, collection_had, named_stays, names_stay, lists_stay, dictionaries_stay, pairs_stay, links_stay, objects_stay, roots_stay, indexes_stay}
use Rattle.ostore_graph_model.proofs.SideLaws.{two_sided}
use Rattle.ostore_graph_model.proofs.ListLaws.{list_put}
use Rattle.ostore_graph_model.proofs.DictionaryLaws.{dictionary_gone, dictionary_put}
use Rattle.ostore_graph_model.proofs.SetLaws.{pairs_changed, was_paired}

items_names : (heap : Heap) (entries : List ChunkEntry) → map (λ (entry : ChunkEntry). name_at heap entry.item) entries ≡ map (name_at heap) (map (λ (entry : ChunkEntry). entry.item) entries)
items_names heap [] = refl
items_names heap (entry ∷ entries) = ap (λ (l : List (Option Name)). name_at heap entry.item ∷ l) (items_names heap entries)

no_items : (entries : List ChunkEntry) → entries ≡ [] → map (λ (entry : ChunkEntry). entry.item) entries ≡ []
no_items entries none = ap (map (λ (entry : ChunkEntry). entry.item)) none

long_items : (entries : List ChunkEntry) → length (map (λ (entry : ChunkEntry). entry.item) entries) ≡ length entries
long_items [] = refl
long_items (entry ∷ entries) = ap suc (long_items entries)

no_append : (xs : List ℕ) (x : ℕ) → xs ++ x ∷ [] ≡ [] → ⊥
no_append [] x e = cc
no_append (y ∷ xs) x e = cc

no_set : (xs : List ℕ) (i x : ℕ) → i < length xs → set xs i x ≡ [] → ⊥
no_set [] i x below e = omega (arith, below)
no_set (y ∷ xs) zero x below e = cc
no_set (y ∷ xs) (suc i) x below e = cc

list_no_link : (kind : MemberKind) → chunk_code kind ≡ 241 → link_target kind ≡ None
list_no_link kinds.Int e = refl
list_no_link (kinds.Text max) e = refl
list_no_link (kinds.Ref target) e = absurd (omega (arith, e))
list_no_link (kinds.Set target) e = absurd (omega (arith, e))
list_no_link (kinds.List target) e = refl
list_no_link (kinds.DictInt target) e = refl
list_no_link (kinds.DictText target) e = refl

dictionary_no_link : (kind : MemberKind) → (chunk_code kind ≡ 242) ⊎ (chunk_code kind ≡ 243) → link_target kind ≡ None
dictionary_no_link kinds.Int e = refl
dictionary_no_link (kinds.Text max) e = refl
dictionary_no_link (kinds.Ref target) e = absurd (elim e [ inl f ↦ omega (arith, f) | inr f ↦ omega (arith, f) ])
dictionary_no_link (kinds.Set target) e = absurd (elim e [ inl f ↦ omega (arith, f) | inr f ↦ omega (arith, f) ])
dictionary_no_link (kinds.List target) e = refl
dictionary_no_link (kinds.DictInt target) e = refl
dictionary_no_link (kinds.DictText target) e = refl

-- a row has a name
name_from_code : (heap : Heap) (pointer code : ℕ) → code_at heap pointer ≡ Some code → (name : Name) × (name_at heap pointer ≡ Some name)
name_from_code heap pointer code there = found (heap pointer) refl
  where
    found : (cell : Option HeapCell) → heap pointer ≡ cell → (name : Name) × (name_at heap pointer ≡ Some name)
    found None e = absurd (none-some code (sym (ap (option_map (λ (c : HeapCell). c.tag.code)) e) ∙ there))
    found (Some cell) e = (name_in cell.tag, ap (λ (c : Option HeapCell). option_map name_in (option_map (λ (l : HeapCell). l.tag) c)) e)

-- and a tag
tag_from_code : (heap : Heap) (pointer code : ℕ) → code_at heap pointer ≡ Some code → (tag : RowTag) × (tag_at heap pointer ≡ Some tag) × (tag.code ≡ code)
tag_from_code heap pointer code there = found (heap pointer) refl
  where
    found : (cell : Option HeapCell) → heap pointer ≡ cell → (tag : RowTag) × (tag_at heap pointer ≡ Some tag) × (tag.code ≡ code)
    found None e = absurd (none-some code (sym (ap (option_map (λ (c : HeapCell). c.tag.code)) e) ∙ there))
    found (Some cell) e =
        (cell.tag, ap (option_map (λ (c : HeapCell). c.tag)) e, same_Some cell.tag.code code (sym (ap (option_map (λ (c : HeapCell). c.tag.code)) e) ∙ there))

-- ---- keys and items

to_pairs : (heap : Heap) (entries : List ChunkEntry) (key : Key) (name : Name) → Any (Binds heap key name) entries → (item : ℕ) × Pairs entries key item × (name_at heap item ≡ Some name)
to_pairs heap entries key name any = (any.1.item, (any.0, any.1, any.2, any.3, (any.4.0, refl)), any.4.1)

from_pairs : (heap : Heap) (entries : List ChunkEntry) (key : Key) (name : Name) (item : ℕ) → Pairs entries key item → name_at heap item ≡ Some name → Any (Binds heap key name) entries
from_pairs heap entries key name item any named = (any.0, any.1, any.2, any.3, (any.4.0, ap (name_at heap) any.4.1 ∙ named))

pairs_each : (P : ℕ → Type 0) (entries : List ChunkEntry) → All (λ (entry : ChunkEntry). P entry.item) entries → (key : Key) (item : ℕ) → Pairs entries key item → P item
pairs_each P entries all key item any = subst P any.4.1 (subst (λ (entry : ChunkEntry). P entry.item) any.3 (all any.0 any.1 any.2))

no_any : (P : ChunkEntry → Type 0) (entries : List ChunkEntry) → entries ≡ [] → Any P entries → ⊥
no_any P [] none any = let below = any.2 in omega arith
no_any P (entry ∷ entries) none any = cc

first_entry : (entries : List ChunkEntry) → entries ≢ [] → (entry : ChunkEntry) × (0 < length entries) × (get_or entries 0 entry ≡ entry)
first_entry [] some = absurd (some refl)
first_entry (entry ∷ entries) some = (entry, omega arith, refl)

-- a graph with these bindings of a member
abbrev pub binding : Graph → ObjectMember → Dictionary → Graph
binding graph place bindings = record graph { dictionaries = cond (eqb (maps.len bindings) 0) (maps.remove graph.dictionaries place) (maps.insert graph.dictionaries place bindings) }

-- ---- any collection

module _ (schema : Schema) (old new : List PageImage) (address member : ℕ) (tag : RowTag) (def : MemberDef) (before after : List ChunkEntry) (graph : Graph)
    (holds : HoldGraph schema old graph) (write : WritesCollection schema old new address member tag def before after) where
  abbrev heap : Heap
  heap = heap_of schema old

  abbrev now : Heap
  now = heap_of schema new

  own : AreNamesOwn (heap_of schema old)
  own = names_own (heap_of schema old) (serial_of old) holds.cells_kept.serials

  kept : KeepsHeap schema (heap_of schema new) (roots_of old) (serial_of old)
  kept =
      let cells = holds.cells_kept in
      collection_law schema (heap_of schema old) (heap_of schema new) (roots_of old) (serial_of old) address member tag def write.slots write.was write.is write.chain write.links write.changes write.good
      (record { roots = cells.roots; pointers = cells.pointers; serials_kept = cells.serials; chains = cells.chains; owners = cells.owners; items = cells.items })

  written : (other : ℕ) (cell : PlacedCell) → cell_at new other ≡ Some cell → is_written schema cell ≡ true
  written other cell there = elim (cases_eq other address) [
    | inl same ↦ write.written other cell there (inl same)
    | inr apart ↦ elim (in_or_not other write.links) [
      | inl inside ↦ write.written other cell there (inr inside)
      | inr outside ↦ holds.cells_kept.written other cell (sym (write.cells other apart outside) ∙ there)
    ]
  ]

  good_cells : HasGoodCells schema new
  good_cells = record {
    written = written;
    roots = subst (KeepsRoots (heap_of schema new)) (sym write.roots) kept.roots;
    pointers = kept.pointers;
    serials = subst (λ counters. (other : ℕ) → KeepsSerials (tag_at (heap_of schema new)) counters other) (sym write.serials) kept.serials_kept;
    chains = kept.chains;
    owners = kept.owners;
    items = kept.items;
  }

  same_values : (other : ℕ) → (IsIn other write.links → ⊥) → values_of schema new other ≡ values_of schema old other
  unfolding values_of
  same_values other outside = elim (cases_eq other address) [
    | inl same ↦ subst (λ a. values_of schema new a ≡ values_of schema old a) (sym same) write.values
    | inr apart ↦ ap (option_map (values_in schema)) (write.cells other apart outside)
  ]

  holds_now : (lists : maps.FinMap object_member_cmp (List Name)) (dictionaries : maps.FinMap object_member_cmp (maps.FinMap key_cmp Name)) (pairs : sets.FinSet pair_cmp)
      → ShowsLists schema (heap_of schema new) lists → ShowsDictionaries schema (heap_of schema new) dictionaries → ShowsPairs schema (heap_of schema new) pairs
      → HoldGraph schema new (record graph { pairs = pairs; lists = lists; dictionaries = dictionaries })
  holds_now lists dictionaries pairs lists_shown dictionaries_shown pairs_shown =
      let cells = holds.cells_kept in
      let stands = holds.stands in
      record {
        pages_kept = write.pages;
        cells_kept = good_cells;
        stands = record {
          objects = objects_stay schema (heap_of schema old) (heap_of schema new) address member tag def write.slots write.was write.is write.chain write.links write.changes holds.cells_kept.chains holds.cells_kept.pointers holds.cells_kept.items own (values_of schema old) (values_of schema new) same_values graph.objects stands.objects;
          pairs = pairs_shown;
          lists = lists_shown;
          dictionaries = dictionaries_shown;
          roots = subst (λ rows. ShowsRoots (heap_of schema new) rows graph.roots) (sym write.roots) (roots_stay schema (heap_of schema old) (heap_of schema new) address member tag def write.slots write.was write.is write.chain write.links write.changes holds.cells_kept.chains holds.cells_kept.pointers holds.cells_kept.items own (roots_of old) graph.roots cells.roots stands.roots);
          serials = subst (λ counters. ShowsSerials counters graph.serials) (sym write.serials) stands.serials;
          indexes = indexes_stay schema (heap_of schema old) (heap_of schema new) address member tag def write.slots write.was write.is write.chain write.links write.changes holds.cells_kept.chains holds.cells_kept.pointers holds.cells_kept.items own graph.indexes stands.indexes;
        };
      }

  -- where the member is no side of a two-sided link, the links are as good as they were
  links_left : def.inverse ≡ None → HasGoodLinks schema old → HasGoodLinks schema new
  links_left alone = links_stay schema (heap_of schema old) (heap_of schema new) address member tag def write.slots write.was write.is write.chain write.links write.changes holds.cells_kept.chains holds.cells_kept.pointers holds.cells_kept.items own alone

  -- a list and a dictionary are no side of a link
  unlinked : link_target def.kind ≡ None → def.inverse ≡ None
  unlinked none = by def.inverse refl
    where
      by : (found : Option Inverse) → def.inverse ≡ found → def.inverse ≡ None
      by None e = e
      by (Some inverse) e =
          let two = two_sided schema holds.pages_kept.spelled.lawful (record { 0 = tag.code }) (record { 0 = member }) def inverse write.changes.defined e in
          absurd (none-some inverse.ty (sym none ∙ two.leads))

  no_link : link_target def.kind ≡ None → IsLink schema (type_member tag member) → ⊥
  no_link none link = link.sided (ap (λ (d : MemberDef). link_target d.kind) (same_Some link.def def (sym link.defined ∙ write.changes.defined)) ∙ none)

  leaves : link_target def.kind ≡ None → (lists : maps.FinMap object_member_cmp (List Name)) (dictionaries : maps.FinMap object_member_cmp (maps.FinMap key_cmp Name))
      → ShowsLists schema (heap_of schema new) lists → ShowsDictionaries schema (heap_of schema new) dictionaries
      → LeavesGraph schema old new (record graph { lists = lists; dictionaries = dictionaries })
  leaves none lists dictionaries lists_shown dictionaries_shown = record {
    holds = holds_now lists dictionaries graph.pairs lists_shown dictionaries_shown (pairs_stay schema (heap_of schema old) (heap_of schema new) address member tag def write.slots write.was write.is write.chain write.links write.changes holds.cells_kept.chains holds.cells_kept.pointers holds.cells_kept.items own (no_link none) graph.pairs holds.stands.pairs);
    links_kept = links_left (unlinked none);
  }

  -- an item that the collection gets is a row that was there
  pub item_named : (pointer : ℕ) (to : PlacedCell) → cell_at old pointer ≡ Some to → (name_at (heap_of schema old) pointer ≡ Some (name_of to)) × (name_at (heap_of schema new) pointer ≡ Some (name_of to))
  unfolding heap_of
  item_named pointer to there =
      let code = ap (λ (c : Option PlacedCell). option_map (λ (l : HeapCell). l.tag.code) (option_map (heap_cell schema) c)) there in
      let name = ap (λ (c : Option PlacedCell). option_map name_in (option_map (λ (l : HeapCell). l.tag) (option_map (heap_cell schema) c))) there in
      (name, named_stays schema (heap_of schema old) (heap_of schema new) address member tag def write.slots write.was write.is write.chain write.links write.changes holds.cells_kept.chains holds.cells_kept.pointers holds.cells_kept.items own pointer to.code code ∙ name)

  -- the items that were there have the names that they had
  old_names : All (λ (entry : ChunkEntry). name_at (heap_of schema new) entry.item ≡ name_at (heap_of schema old) entry.item) (entries_of write.chain)
  old_names = names_stay schema (heap_of schema old) (heap_of schema new) address member tag def write.slots write.was write.is write.chain write.links write.changes holds.cells_kept.chains holds.cells_kept.pointers holds.cells_kept.items own (object_member tag member) (chunk_code def.kind) (entries_of write.chain) (collection_had schema (heap_of schema old) (heap_of schema new) address member tag def write.slots write.was write.is write.chain write.links write.changes holds.cells_kept.chains holds.cells_kept.pointers holds.cells_kept.items own)

  old_item : (pointer : ℕ) → Contains (entry_items before) pointer → name_at (heap_of schema new) pointer ≡ name_at (heap_of schema old) pointer
  old_item pointer there =
      each_item (λ item. name_at (heap_of schema new) item ≡ name_at (heap_of schema old) item) (entries_of write.chain) old_names pointer
      (subst (λ es. Contains (entry_items es) pointer) (sym write.before_is) there)

  -- a set at the second side of its link shows no pair of its own
  second_holds : chunk_code def.kind ≡ 240 → comes_first (type_member tag member) def.inverse ≡ false → HoldGraph schema new graph
  second_holds code second =
      let stands = holds.stands in
      holds_now graph.lists graph.dictionaries graph.pairs
      (lists_stay schema (heap_of schema old) (heap_of schema new) address member tag def write.slots write.was write.is write.chain write.links write.changes holds.cells_kept.chains holds.cells_kept.pointers holds.cells_kept.items own (λ list. omega (arith, list, code)) graph.lists stands.lists)
      (dictionaries_stay schema (heap_of schema old) (heap_of schema new) address member tag def write.slots write.was write.is write.chain write.links write.changes holds.cells_kept.chains holds.cells_kept.pointers holds.cells_kept.items own (λ keyed. no_dictionary keyed) graph.dictionaries stands.dictionaries)
      (pairs_stay schema (heap_of schema old) (heap_of schema new) address member tag def write.slots write.was write.is write.chain write.links write.changes holds.cells_kept.chains holds.cells_kept.pointers holds.cells_kept.items own not_first graph.pairs stands.pairs)
    where
      no_dictionary : (chunk_code def.kind ≡ 242) ⊎ (chunk_code def.kind ≡ 243) → ⊥
      no_dictionary (inl first) = omega (arith, first, code)
      no_dictionary (inr other) = omega (arith, other, code)

      not_first : IsLink schema (type_member tag member) → ⊥
      not_first link =
          let same : link.def ≡ def = same_Some link.def def (sym link.defined ∙ write.changes.defined) in
          true≢false (sym link.first ∙ ap (λ (d : MemberDef). comes_first (type_member tag member) d.inverse) same ∙ second)

  -- ---- lists

  module _ (kind : chunk_code def.kind ≡ 241) where
    list_had : map (λ (entry : ChunkEntry). name_at (heap_of schema old) entry.item) (entries_of write.chain) ≡ map (λ (n : Name). Some n) (list_at graph (object_member tag member))
    list_had = found (maps.get graph.lists (object_member tag member)) refl
      where
        found : (held : Option (List Name)) → maps.get graph.lists (object_member tag member) ≡ held → map (λ (entry : ChunkEntry). name_at (heap_of schema old) entry.item) (entries_of write.chain) ≡ map (λ (n : Name). Some n) (unwrap_or held [])
        found (Some xs) e =
            let h = (holds.stands.lists (object_member tag member) xs).0 e in
            let entries = (collection_was schema (heap_of schema old) (heap_of schema new) address member tag def write.slots write.was write.is write.chain write.links write.changes holds.cells_kept.chains holds.cells_kept.pointers holds.cells_kept.items own 241 h.entries h.has).1 in
            ap (map (λ (entry : ChunkEntry). name_at (heap_of schema old) entry.item)) (sym entries) ∙ h.named
        found None e = elim (nil_or_not (entries_of write.chain)) [
          | inl none ↦ ap (map (λ (entry : ChunkEntry). name_at (heap_of schema old) entry.item)) none
          | inr some ↦
              let named = names_of (heap_of schema old) (item_type def.kind) (entries_of write.chain) (rows_had schema (heap_of schema old) (heap_of schema new) address member tag def write.slots write.was write.is write.chain write.links write.changes holds.cells_kept.chains holds.cells_kept.pointers holds.cells_kept.items own) in
              let there = (holds.stands.lists (object_member tag member) named.0).1 (record {
                entries = entries_of write.chain;
                some = some;
                has = subst (λ k. HasCollection schema (heap_of schema old) (object_member tag member) k (entries_of write.chain)) kind (collection_had schema (heap_of schema old) (heap_of schema new) address member tag def write.slots write.was write.is write.chain write.links write.changes holds.cells_kept.chains holds.cells_kept.pointers holds.cells_kept.items own);
                named = named.1;
              }) in
              absurd (none-some named.0 (sym e ∙ there))
        ]

    -- the names of the items that were there
    names_had : map (name_at (heap_of schema new)) (entry_items before) ≡ map (λ (n : Name). Some n) (list_at graph (object_member tag member))
    names_had =
        ap (λ es. map (name_at (heap_of schema new)) (entry_items es)) (sym write.before_is)
        ∙ sym (items_names (heap_of schema new) (entries_of write.chain))
        ∙ map_all (λ (entry : ChunkEntry). name_at (heap_of schema new) entry.item) (λ (entry : ChunkEntry). name_at (heap_of schema old) entry.item) (entries_of write.chain) old_names
        ∙ list_had

    pub list_leaves : (names : List Name) → entry_items after ≢ [] → map (name_at (heap_of schema new)) (entry_items after) ≡ map (λ (n : Name). Some n) names
        → LeavesGraph schema old new (record graph { lists = maps.insert graph.lists (object_member tag member) names })
    list_leaves names some named =
        let stands = holds.stands in
        leaves (list_no_link def.kind kind) (maps.insert graph.lists (object_member tag member) names) graph.dictionaries
        (list_put schema (heap_of schema old) (heap_of schema new) address member tag def write.slots write.was write.is write.chain write.links write.changes holds.cells_kept.chains holds.cells_kept.pointers holds.cells_kept.items own kind names
        (λ none. some (ap entry_items (sym write.after_is) ∙ no_items (entries_of write.links) none))
        (items_names (heap_of schema new) (entries_of write.links) ∙ ap (λ es. map (name_at (heap_of schema new)) (entry_items es)) write.after_is ∙ named)
        graph.lists stands.lists)
        (dictionaries_stay schema (heap_of schema old) (heap_of schema new) address member tag def write.slots write.was write.is write.chain write.links write.changes holds.cells_kept.chains holds.cells_kept.pointers holds.cells_kept.items own (λ keyed. no_both keyed) graph.dictionaries stands.dictionaries)
      where
        no_both : (chunk_code def.kind ≡ 242) ⊎ (chunk_code def.kind ≡ 243) → ⊥
        no_both (inl first) = omega (arith, first, kind)
        no_both (inr second) = omega (arith, second, kind)

  -- ---- dictionaries

  module _ (keyed : (chunk_code def.kind ≡ 242) ⊎ (chunk_code def.kind ≡ 243)) where
    keys_apart : ArePairwise (λ (earlier later : ChunkEntry). earlier.key ≢ later.key) (entries_of write.chain)
    keys_apart =
        let collection = (holds.cells_kept.chains address).collections member tag def write.was (had schema (heap_of schema old) (heap_of schema new) address member tag def write.slots write.was write.is write.chain write.links write.changes holds.cells_kept.chains holds.cells_kept.pointers holds.cells_kept.items own) in
        subst (λ links. ArePairwise (λ (earlier later : ChunkEntry). earlier.key ≢ later.key) (entries_of links))
        (chain_unique (heap_of schema old) (chunk_code def.kind) tag.segment write.was.first collection.chain write.chain collection.linked write.changes.linked) (collection.lawful.2 keyed)

    pub dictionary_had : (key : Key) (name : Name) → (maps.get (dictionary_at graph (object_member tag member)) key ≡ Some name) ↔ Any (Binds (heap_of schema old) key name) (entries_of write.chain)
    dictionary_had = found (maps.get graph.dictionaries (object_member tag member)) refl
      where
        found : (held : Option (maps.FinMap key_cmp Name)) → maps.get graph.dictionaries (object_member tag member) ≡ held → (key : Key) (name : Name) → (maps.get (unwrap_or held maps.empty) key ≡ Some name) ↔ Any (Binds (heap_of schema old) key name) (entries_of write.chain)
        found (Some x) e key name =
            let h = (holds.stands.dictionaries (object_member tag member) x).0 e in
            subst (λ es. (maps.get x key ≡ Some name) ↔ Any (Binds (heap_of schema old) key name) es) (collection_was schema (heap_of schema old) (heap_of schema new) address member tag def write.slots write.was write.is write.chain write.links write.changes holds.cells_kept.chains holds.cells_kept.pointers holds.cells_kept.items own h.code h.entries h.has).1 (h.bound key name)
        found None e key name = elim (nil_or_not (entries_of write.chain)) [
          | inl none ↦ (
            λ f. absurd (none-some name (sym (maps.get-empty key_cmp key) ∙ f)),
            λ any. absurd (no_any (Binds (heap_of schema old) key name) (entries_of write.chain) none any),
          )
          | inr some ↦
              let cells = holds.cells_kept in
              let made = dictionary_of schema (heap_of schema old) (4096 * length old) (addresses_bounded schema old) own cells.chains cells.pointers cells.items (entries_of write.chain) keys_apart in
              let there = (holds.stands.dictionaries (object_member tag member) made.0).1 (record {
                code = chunk_code def.kind;
                keyed = keyed;
                entries = entries_of write.chain;
                some = some;
                has = collection_had schema (heap_of schema old) (heap_of schema new) address member tag def write.slots write.was write.is write.chain write.links write.changes holds.cells_kept.chains holds.cells_kept.pointers holds.cells_kept.items own;
                bound = made.1;
              }) in
              absurd (none-some made.0 (sym e ∙ there))
        ]

    pub dictionary_leaves : (bindings : Dictionary) → ((key : Key) (name : Name) → (maps.get bindings key ≡ Some name) ↔ Any (Binds (heap_of schema new) key name) (entries_of write.links))
        → (maps.len bindings ≡ 0 → entries_of write.links ≡ []) → LeavesGraph schema old new (binding graph (object_member tag member) bindings)
    dictionary_leaves bindings bound emptied =
        let stands = holds.stands in
        let lists = lists_stay schema (heap_of schema old) (heap_of schema new) address member tag def write.slots write.was write.is write.chain write.links write.changes holds.cells_kept.chains holds.cells_kept.pointers holds.cells_kept.items own (λ list. no_list keyed list) graph.lists stands.lists in
        elim (cases_eq (maps.len bindings) 0) [
          | inl empty ↦
              subst (λ b. LeavesGraph schema old new (record graph { dictionaries = cond b (maps.remove graph.dictionaries (object_member tag member)) (maps.insert graph.dictionaries (object_member tag member) bindings) }))
              (sym (ap (λ (n : ℕ). eqb n 0) empty))
              (leaves (dictionary_no_link def.kind keyed) graph.lists (maps.remove graph.dictionaries (object_member tag member)) lists (dictionary_gone schema (heap_of schema old) (heap_of schema new) address member tag def write.slots write.was write.is write.chain write.links write.changes holds.cells_kept.chains holds.cells_kept.pointers holds.cells_kept.items own graph.dictionaries stands.dictionaries (emptied empty)))
          | inr some ↦
              subst (λ b. LeavesGraph schema old new (record graph { dictionaries = cond b (maps.remove graph.dictionaries (object_member tag member)) (maps.insert graph.dictionaries (object_member tag member) bindings) }))
              (sym (ne_eqb (maps.len bindings) 0 some))
              (leaves (dictionary_no_link def.kind keyed) graph.lists (maps.insert graph.dictionaries (object_member tag member) bindings) lists
              (dictionary_put schema (heap_of schema old) (heap_of schema new) address member tag def write.slots write.was write.is write.chain write.links write.changes holds.cells_kept.chains holds.cells_kept.pointers holds.cells_kept.items own graph.dictionaries stands.dictionaries keyed bindings (λ none. some (no_bindings none)) bound))
        ]
      where
        no_list : (chunk_code def.kind ≡ 242) ⊎ (chunk_code def.kind ≡ 243) → 241 ≡ chunk_code def.kind → ⊥
        no_list (inl first) list = omega (arith, first, list)
        no_list (inr second) list = omega (arith, second, list)

        no_bindings : entries_of write.links ≡ [] → maps.len bindings ≡ 0
        no_bindings none =
            ap maps.len (one_map key_cmp-IsTotalOrder key_cmp-IsAntisymmetric bindings maps.empty (λ key name. Any (Binds (heap_of schema new) key name) (entries_of write.links)) bound
            (λ key name. (
              λ f. absurd (none-some name (sym (maps.get-empty key_cmp key) ∙ f)),
              λ any. absurd (no_any (Binds (heap_of schema new) key name) (entries_of write.links) none any),
            )))
            ∙ maps.len-empty key_cmp Name

    -- a binding that stays
    binding_forth : (key : Key) (name : Name) → maps.get (dictionary_at graph (object_member tag member)) key ≡ Some name → (item : ℕ) × Pairs before key item × (name_at (heap_of schema new) item ≡ Some name)
    binding_forth key name e =
        let found = to_pairs (heap_of schema old) (entries_of write.chain) key name ((dictionary_had key name).0 e) in (
          found.0,
          subst (λ es. Pairs es key found.0) write.before_is found.1,
          pairs_each (λ item. name_at (heap_of schema new) item ≡ name_at (heap_of schema old) item) (entries_of write.chain) old_names key found.0 found.1 ∙ found.2,
        )

    binding_back : (key : Key) (name : Name) (item : ℕ) → Pairs before key item → name_at (heap_of schema new) item ≡ Some name → maps.get (dictionary_at graph (object_member tag member)) key ≡ Some name
    binding_back key name item pairs named =
        let there = subst (λ es. Pairs es key item) (sym write.before_is) pairs in
        (dictionary_had key name).1 (from_pairs (heap_of schema old) (entries_of write.chain) key name item there
        (sym (pairs_each (λ i. name_at (heap_of schema new) i ≡ name_at (heap_of schema old) i) (entries_of write.chain) old_names key item there) ∙ named))

    binding_now : (key : Key) (name : Name) (item : ℕ) → Pairs after key item → name_at (heap_of schema new) item ≡ Some name → Any (Binds (heap_of schema new) key name) (entries_of write.links)
    binding_now key name item pairs named = from_pairs (heap_of schema new) (entries_of write.links) key name item (subst (λ es. Pairs es key item) (sym write.after_is) pairs) named

    pub bind_leaves : (key : Key) (pointer : ℕ) (y : Name) → name_at (heap_of schema new) pointer ≡ Some y
        → ((other : Key) (item : ℕ) → Pairs after other item ↔ (((other ≡ key) × (item ≡ pointer)) ⊎ ((other ≢ key) × Pairs before other item)))
        → LeavesGraph schema old new (binding graph (object_member tag member) (maps.insert (dictionary_at graph (object_member tag member)) key y))
    bind_leaves key pointer y named spec =
        dictionary_leaves (maps.insert held key y) (λ other name. (forth other name, back other name)) (λ empty. absurd (none-some y (sym (emptied empty) ∙ bound)))
      where
        held : maps.FinMap key_cmp Name
        held = dictionary_at graph (object_member tag member)

        got : (other : Key) → maps.get (maps.insert held key y) other ≡ cond (eq_by_cmp key_cmp other key) (Some y) (maps.get held other)
        got other = maps.get-insert key_cmp-IsTotalOrder held key y other

        bound : maps.get (maps.insert held key y) key ≡ Some y
        bound = got key ∙ ap (λ b. cond b (Some y) (maps.get held key)) (same_tied key_cmp-IsTotalOrder key key refl)

        emptied : maps.len (maps.insert held key y) ≡ 0 → maps.get (maps.insert held key y) key ≡ None
        emptied empty = ap (λ (m : maps.FinMap key_cmp Name). maps.get m key) (maps.empty_of_len (maps.insert held key y) empty) ∙ maps.get-empty key_cmp key

        forth : (other : Key) (name : Name) → maps.get (maps.insert held key y) other ≡ Some name → Any (Binds (heap_of schema new) other name) (entries_of write.links)
        forth other name e = elim (cases_Bool (eq_by_cmp key_cmp other key)) [
          | inl tied ↦
              let same = tied_same key_cmp-IsAntisymmetric other key tied in
              let is_name : y ≡ name = same_Some _ _ (sym (got other ∙ ap (λ b. cond b (Some y) (maps.get held other)) tied) ∙ e) in
              binding_now other name pointer ((spec other pointer).1 (inl (same, refl))) (named ∙ ap Some is_name)
          | inr free ↦
              let was = binding_forth other name (sym (got other ∙ ap (λ b. cond b (Some y) (maps.get held other)) free) ∙ e) in
              binding_now other name was.0 ((spec other was.0).1 (inr ((λ same. true≢false (sym (same_tied key_cmp-IsTotalOrder other key same) ∙ free)), was.1))) was.2
        ]

        back : (other : Key) (name : Name) → Any (Binds (heap_of schema new) other name) (entries_of write.links) → maps.get (maps.insert held key y) other ≡ Some name
        back other name any =
            let found = to_pairs (heap_of schema new) (entries_of write.links) other name any in
            elim ((spec other found.0).0 (subst (λ es. Pairs es other found.0) write.after_is found.1)) [
              | inl this ↦
                  got other ∙ ap (λ b. cond b (Some y) (maps.get held other)) (same_tied key_cmp-IsTotalOrder other key this.0)
                  ∙ sym named ∙ ap (name_at (heap_of schema new)) (sym this.1) ∙ found.2
              | inr old ↦
                  got other ∙ ap (λ b. cond b (Some y) (maps.get held other)) (apart_tied key_cmp-IsAntisymmetric other key old.0)
                  ∙ binding_back other name found.0 old.1 found.2
            ]

    pub unbind_leaves : (key : Key) → All (λ (entry : ChunkEntry). entry.key ≢ None) after
        → ((other : Key) (item : ℕ) → Pairs after other item ↔ ((other ≢ key) × Pairs before other item))
        → LeavesGraph schema old new (binding graph (object_member tag member) (maps.remove (dictionary_at graph (object_member tag member)) key))
    unbind_leaves key keys spec = dictionary_leaves (maps.remove held key) (λ other name. (forth other name, back other name)) emptied
      where
        held : maps.FinMap key_cmp Name
        held = dictionary_at graph (object_member tag member)

        got : (other : Key) → maps.get (maps.remove held key) other ≡ cond (eq_by_cmp key_cmp other key) None (maps.get held other)
        got other = maps.get-remove key_cmp-IsTotalOrder held key other

        forth : (other : Key) (name : Name) → maps.get (maps.remove held key) other ≡ Some name → Any (Binds (heap_of schema new) other name) (entries_of write.links)
        forth other name e = elim (cases_Bool (eq_by_cmp key_cmp other key)) [
          | inl tied ↦ absurd (none-some name (sym (got other ∙ ap (λ b. cond b None (maps.get held other)) tied) ∙ e))
          | inr free ↦
              let was = binding_forth other name (sym (got other ∙ ap (λ b. cond b None (maps.get held other)) free) ∙ e) in
              binding_now other name was.0 ((spec other was.0).1 ((λ same. true≢false (sym (same_tied key_cmp-IsTotalOrder other key same) ∙ free)), was.1)) was.2
        ]

        back : (other : Key) (name : Name) → Any (Binds (heap_of schema new) other name) (entries_of write.links) → maps.get (maps.remove held key) other ≡ Some name
        back other name any =
            let found = to_pairs (heap_of schema new) (entries_of write.links) other name any in
            let old = (spec other found.0).0 (subst (λ es. Pairs es other found.0) write.after_is found.1) in
            got other ∙ ap (λ b. cond b None (maps.get held other)) (apart_tied key_cmp-IsAntisymmetric other key old.0)
            ∙ binding_back other name found.0 old.1 found.2

        with_key : (entry : ChunkEntry) (key_held : Option Key) → entry.key ≡ key_held → entry.key ≢ None → (other : Key) × (entry.key ≡ Some other)
        with_key entry None e some = absurd (some e)
        with_key entry (Some other) e some = (other, e)

        emptied : maps.len (maps.remove held key) ≡ 0 → entries_of write.links ≡ []
        emptied empty = elim (nil_or_not (entries_of write.links)) [
          | inl none ↦ none
          | inr some ↦
              let first = first_entry (entries_of write.links) some in
              let has_keys = subst (All (λ (entry : ChunkEntry). entry.key ≢ None)) (sym write.after_is) keys in
              let with = with_key first.0 first.0.key refl (subst (λ (entry : ChunkEntry). entry.key ≢ None) first.2 (has_keys 0 first.0 first.1)) in
              let member_now = has schema (heap_of schema old) (heap_of schema new) address member tag def write.slots write.was write.is write.chain write.links write.changes in
              let rows = items_lead schema (heap_of schema new) kept.pointers kept.items address member tag def write.is (entries_of write.links) member_now (record { chain = write.links; linked = write.changes.relinked; all = refl }) in
              let name = name_from_code (heap_of schema new) first.0.item (item_type def.kind) (subst (λ (entry : ChunkEntry). code_at (heap_of schema new) entry.item ≡ Some (item_type def.kind)) first.2 (rows 0 first.0 first.1)) in
              let there = back with.0 name.0 (0, first.0, first.1, first.2, (with.1, name.1)) in
              absurd (none-some name.0 (sym (ap (λ (m : maps.FinMap key_cmp Name). maps.get m with.0) (maps.empty_of_len (maps.remove held key) empty) ∙ maps.get-empty key_cmp with.0) ∙ there))
        ]

pub binds_law : LawOfBinds
binds_law schema old new address member tag def before after key pointer to graph at holds write keyed there spec found =
    subst (λ (a : LiveMember). LeavesGraph schema old new (with_bindings graph a (maps.insert (bindings_of graph a) key (name_of to)))) (live_parts schema (name_in tag) (type_member tag member) at found).2
    (bind_leaves schema old new address member tag def before after graph holds write keyed key pointer (name_of to) (item_named schema old new address member tag def before after graph holds write pointer to there).1 spec)

pub unbinds_law : LawOfUnbinds
unbinds_law schema old new address member tag def before after key graph at holds write keyed keys spec found =
    subst (λ (a : LiveMember). LeavesGraph schema old new (with_bindings graph a (maps.remove (bindings_of graph a) key))) (live_parts schema (name_in tag) (type_member tag member) at found).2
    (unbind_leaves schema old new address member tag def before after graph holds write keyed key keys spec)

pub appends_law : LawOfAppends
appends_law schema old new address member tag def before after pointer to graph at holds write kind there is found =
    let named = (item_named schema old new address member tag def before after graph holds write pointer to there).1 in
    let names = list_at graph (object_member tag member) in
    subst (λ (a : LiveMember). LeavesGraph schema old new (with_items graph a (items_of graph a ++ name_of to ∷ []))) (live_parts schema (name_in tag) (type_member tag member) at found).2
    (list_leaves schema old new address member tag def before after graph holds write kind (names ++ name_of to ∷ [])
    (λ none. no_append (entry_items before) pointer (sym is ∙ none))
    (ap (map (name_at (heap_of schema new))) is
    ∙ map-append (name_at (heap_of schema new)) (entry_items before) (pointer ∷ [])
    ∙ ap₂ (λ (xs ys : List (Option Name)). xs ++ ys) (names_had schema old new address member tag def before after graph holds write kind) (ap (λ (n : Option Name). n ∷ []) named)
    ∙ sym (map-append (λ (n : Name). Some n) names (name_of to ∷ []))))

pub puts_law : LawOfPuts
puts_law schema old new address member tag def before after index pointer to graph at holds write kind there below is found =
    let named = (item_named schema old new address member tag def before after graph holds write pointer to there).1 in
    let names = list_at graph (object_member tag member) in
    let long = long_items before in
    subst (λ (a : LiveMember). LeavesGraph schema old new (with_items graph a (slice_set (items_of graph a) index (name_of to)))) (live_parts schema (name_in tag) (type_member tag member) at found).2
    (list_leaves schema old new address member tag def before after graph holds write kind (slice_set names index (name_of to))
    (λ none. no_set (entry_items before) index pointer (omega (arith, long, below)) (sym is ∙ none))
    (ap (map (name_at (heap_of schema new))) is
    ∙ map-set (name_at (heap_of schema new)) (entry_items before) index pointer
    ∙ ap₂ (λ (xs : List (Option Name)) (n : Option Name). set xs index n) (names_had schema old new address member tag def before after graph holds write kind) named
    ∙ sym (map-set (λ (n : Name). Some n) names index (name_of to))))

-- ---- one-sided sets

at_set_or_not : (tag : RowTag) (member : ℕ) (pair : Pair) → ((pair.link ≡ type_member tag member) × (pair.first ≡ name_in tag)) ⊎ (pair.link ≡ type_member tag member → pair.first ≡ name_in tag → ⊥)
at_set_or_not tag member pair = elim (cases_Bool (eq_by_cmp type_member_cmp pair.link (type_member tag member))) [
  | inl link ↦ elim (cases_Bool (eq_by_cmp name_cmp pair.first (name_in tag))) [
    | inl first ↦ inl (tied_same type_member_cmp-IsAntisymmetric pair.link (type_member tag member) link, tied_same name_cmp-IsAntisymmetric pair.first (name_in tag) first)
    | inr free ↦ inr (λ e f. true≢false (sym (same_tied name_cmp-IsTotalOrder pair.first (name_in tag) f) ∙ free))
  ]
  | inr free ↦ inr (λ e f. true≢false (sym (same_tied type_member_cmp-IsTotalOrder pair.link (type_member tag member) e) ∙ free))
]

or_true : (b : Bool) → (b || true) ≡ true
or_true true = refl
or_true false = refl

pair_is : (tag : RowTag) (member : ℕ) (y : Name) (pair : Pair) → pair.link ≡ type_member tag member → pair.first ≡ name_in tag → pair.second ≡ y → pair ≡ record { link = type_member tag member; first = name_in tag; second = y }
pair_is tag member y pair link first second = λ i. record { link = link i; first = first i; second = second i }

module _ (schema : Schema) (old new : List PageImage) (address member : ℕ) (tag : RowTag) (def : MemberDef) (before after : List ChunkEntry) (graph : Graph)
    (holds : HoldGraph schema old graph) (write : WritesCollection schema old new address member tag def before after) (target : TypeNo) (kind : def.kind ≡ kinds.Set target)
    (first : comes_first (type_member tag member) def.inverse ≡ true)
    (pointer : ℕ) (to : PlacedCell) (there : cell_at old pointer ≡ Some to) where
  set_code : chunk_code def.kind ≡ 240
  set_code = ap chunk_code kind

  abbrev the_pair : Pair
  the_pair = record { link = type_member tag member; first = name_in tag; second = name_of to }

  to_now : (y : Name) → ((p : ℕ) × Contains (entry_items (entries_of write.chain)) p × (name_at (heap_of schema old) p ≡ Some y)) → (p : ℕ) × Contains (entry_items before) p × (name_at (heap_of schema new) p ≡ Some y)
  to_now y was =
      let held = subst (λ es. Contains (entry_items es) was.0) write.before_is was.1 in
      (was.0, held, old_item schema old new address member tag def before after graph holds write was.0 held ∙ was.2)

  to_was : (y : Name) (p : ℕ) → Contains (entry_items before) p → name_at (heap_of schema new) p ≡ Some y → (q : ℕ) × Contains (entry_items (entries_of write.chain)) q × (name_at (heap_of schema old) q ≡ Some y)
  to_was y p held named = (p, subst (λ es. Contains (entry_items es) p) (sym write.before_is) held, sym (old_item schema old new address member tag def before after graph holds write p held) ∙ named)

  set_holds : (changed : sets.FinSet pair_cmp)
      → ((pair : Pair) → sets.contains changed pair ≡ true → ((pair.link ≡ type_member tag member) × (pair.first ≡ name_in tag) × ((p : ℕ) × Contains (entry_items (entries_of write.links)) p × (name_at (heap_of schema new) p ≡ Some pair.second))) ⊎ ((pair.link ≡ type_member tag member → pair.first ≡ name_in tag → ⊥) × (sets.contains graph.pairs pair ≡ true)))
      → ((pair : Pair) → pair.link ≡ type_member tag member → pair.first ≡ name_in tag → ((p : ℕ) × Contains (entry_items (entries_of write.links)) p × (name_at (heap_of schema new) p ≡ Some pair.second)) → sets.contains changed pair ≡ true)
      → ((pair : Pair) → (pair.link ≡ type_member tag member → pair.first ≡ name_in tag → ⊥) → sets.contains graph.pairs pair ≡ true → sets.contains changed pair ≡ true)
      → HoldGraph schema new (record graph { pairs = changed })
  set_holds changed forth here away =
      let stands = holds.stands in
      holds_now schema old new address member tag def before after graph holds write graph.lists graph.dictionaries changed
      (lists_stay schema (heap_of schema old) (heap_of schema new) address member tag def write.slots write.was write.is write.chain write.links write.changes holds.cells_kept.chains holds.cells_kept.pointers holds.cells_kept.items (own schema old new address member tag def before after graph holds write) (λ list. omega (arith, list, set_code)) graph.lists stands.lists)
      (dictionaries_stay schema (heap_of schema old) (heap_of schema new) address member tag def write.slots write.was write.is write.chain write.links write.changes holds.cells_kept.chains holds.cells_kept.pointers holds.cells_kept.items (own schema old new address member tag def before after graph holds write) (λ keyed. no_dictionary keyed) graph.dictionaries stands.dictionaries)
      (pairs_changed schema (heap_of schema old) (heap_of schema new) address member tag def write.slots write.was write.is write.chain write.links write.changes holds.cells_kept.chains holds.cells_kept.pointers holds.cells_kept.items (own schema old new address member tag def before after graph holds write) target kind first graph.pairs changed forth here away stands.pairs)
    where
      no_dictionary : (chunk_code def.kind ≡ 242) ⊎ (chunk_code def.kind ≡ 243) → ⊥
      no_dictionary (inl first) = omega (arith, first, set_code)
      no_dictionary (inr second) = omega (arith, second, set_code)

  paired : (pair : Pair) → pair.link ≡ type_member tag member → pair.first ≡ name_in tag → (sets.contains graph.pairs pair ≡ true) ↔ ((p : ℕ) × Contains (entry_items (entries_of write.chain)) p × (name_at (heap_of schema old) p ≡ Some pair.second))
  paired pair link starts = was_paired schema (heap_of schema old) (heap_of schema new) address member tag def write.slots write.was write.is write.chain write.links write.changes holds.cells_kept.chains holds.cells_kept.pointers holds.cells_kept.items (own schema old new address member tag def before after graph holds write) target kind first graph.pairs holds.stands.pairs pair link starts

  insert_holds : ((item : ℕ) → Contains (entry_items after) item ↔ ((item ≡ pointer) ⊎ Contains (entry_items before) item))
      → HoldGraph schema new (record graph { pairs = sets.insert graph.pairs the_pair })
  insert_holds spec = set_holds (sets.insert graph.pairs the_pair) forth here away
    where
      got : (pair : Pair) → sets.contains (sets.insert graph.pairs the_pair) pair ≡ (eq_by_cmp pair_cmp pair the_pair || sets.contains graph.pairs pair)
      got pair = set_facts.contains-insert pair_cmp-IsTotalOrder graph.pairs the_pair pair

      in_links : (item : ℕ) → Contains (entry_items after) item → Contains (entry_items (entries_of write.links)) item
      in_links item held = subst (λ es. Contains (entry_items es) item) (sym write.after_is) held

      stays : (pair : Pair) → sets.contains graph.pairs pair ≡ true → sets.contains (sets.insert graph.pairs the_pair) pair ≡ true
      stays pair e = got pair ∙ ap (λ b. eq_by_cmp pair_cmp pair the_pair || b) e ∙ or_true (eq_by_cmp pair_cmp pair the_pair)

      forth : (pair : Pair) → sets.contains (sets.insert graph.pairs the_pair) pair ≡ true → ((pair.link ≡ type_member tag member) × (pair.first ≡ name_in tag) × ((p : ℕ) × Contains (entry_items (entries_of write.links)) p × (name_at (heap_of schema new) p ≡ Some pair.second))) ⊎ ((pair.link ≡ type_member tag member → pair.first ≡ name_in tag → ⊥) × (sets.contains graph.pairs pair ≡ true))
      forth pair e = elim (or_cases (eq_by_cmp pair_cmp pair the_pair) (sets.contains graph.pairs pair) (sym (got pair) ∙ e)) [
        | inl tied ↦
            let same = tied_same pair_cmp-IsAntisymmetric pair the_pair tied in
            inl (
              ap (λ (p : Pair). p.link) same,
              ap (λ (p : Pair). p.first) same,
              (pointer, in_links pointer ((spec pointer).1 (inl refl)), (item_named schema old new address member tag def before after graph holds write pointer to there).1 ∙ ap (λ (p : Pair). Some p.second) (sym same)),
            )
        | inr was ↦ elim (at_set_or_not tag member pair) [
          | inl at ↦
              let held = to_now pair.second ((paired pair at.0 at.1).0 was) in
              inl (at.0, at.1, (held.0, in_links held.0 ((spec held.0).1 (inr held.1)), held.2))
          | inr off ↦ inr (off, was)
        ]
      ]

      here : (pair : Pair) → pair.link ≡ type_member tag member → pair.first ≡ name_in tag → ((p : ℕ) × Contains (entry_items (entries_of write.links)) p × (name_at (heap_of schema new) p ≡ Some pair.second)) → sets.contains (sets.insert graph.pairs the_pair) pair ≡ true
      here pair link starts item = elim ((spec item.0).0 (subst (λ es. Contains (entry_items es) item.0) write.after_is item.1)) [
        | inl this ↦
            let second : pair.second ≡ name_of to = same_Some _ _ (sym item.2 ∙ ap (name_at (heap_of schema new)) this ∙ (item_named schema old new address member tag def before after graph holds write pointer to there).1) in
            got pair ∙ ap (λ b. b || sets.contains graph.pairs pair) (same_tied pair_cmp-IsTotalOrder pair the_pair (pair_is tag member (name_of to) pair link starts second))
        | inr held ↦ stays pair ((paired pair link starts).1 (to_was pair.second item.0 held item.2))
      ]

      away : (pair : Pair) → (pair.link ≡ type_member tag member → pair.first ≡ name_in tag → ⊥) → sets.contains graph.pairs pair ≡ true → sets.contains (sets.insert graph.pairs the_pair) pair ≡ true
      away pair off e = stays pair e

  remove_holds : is_type_code to.code ≡ true → ((item : ℕ) → Contains (entry_items after) item ↔ ((item ≢ pointer) × Contains (entry_items before) item))
      → HoldGraph schema new (record graph { pairs = sets.remove graph.pairs the_pair })
  unfolding heap_of
  remove_holds typed spec = set_holds (sets.remove graph.pairs the_pair) forth here away
    where
      got : (pair : Pair) → sets.contains (sets.remove graph.pairs the_pair) pair ≡ (not (eq_by_cmp pair_cmp pair the_pair) && sets.contains graph.pairs pair)
      got pair = set_facts.contains-remove pair_cmp-IsTotalOrder graph.pairs the_pair pair

      -- an item of this name is this one
      own_name : (p : ℕ) → Contains (entry_items before) p → name_at (heap_of schema old) p ≡ Some (name_of to) → p ≡ pointer
      own_name p held named =
          let code = each_item (λ item. code_at (heap_of schema old) item ≡ Some (item_type def.kind)) (entries_of write.chain) (rows_had schema (heap_of schema old) (heap_of schema new) address member tag def write.slots write.was write.is write.chain write.links write.changes holds.cells_kept.chains holds.cells_kept.pointers holds.cells_kept.items (own schema old new address member tag def before after graph holds write)) p (subst (λ es. Contains (entry_items es) p) (sym write.before_is) held) in
          let row = tag_from_code (heap_of schema old) p (item_type def.kind) code in
          let named_tag : name_in row.0 ≡ name_of to = same_Some _ _ (sym (ap (option_map name_in) row.1) ∙ named) in
          own schema old new address member tag def before after graph holds write pointer p (record { segment = to.segment; code = to.code; serial = to.serial }) row.0
          (ap (λ (x : Option PlacedCell). option_map (λ (l : HeapCell). l.tag) (option_map (heap_cell schema) x)) there) typed row.1
          (ap is_type_code row.2 ∙ write.good.typed) named_tag

      stays : (pair : Pair) → pair ≢ the_pair → sets.contains graph.pairs pair ≡ true → sets.contains (sets.remove graph.pairs the_pair) pair ≡ true
      stays pair other e = got pair ∙ and_from (not (eq_by_cmp pair_cmp pair the_pair)) (sets.contains graph.pairs pair) (ap not (apart_tied pair_cmp-IsAntisymmetric pair the_pair other)) e

      forth : (pair : Pair) → sets.contains (sets.remove graph.pairs the_pair) pair ≡ true → ((pair.link ≡ type_member tag member) × (pair.first ≡ name_in tag) × ((p : ℕ) × Contains (entry_items (entries_of write.links)) p × (name_at (heap_of schema new) p ≡ Some pair.second))) ⊎ ((pair.link ≡ type_member tag member → pair.first ≡ name_in tag → ⊥) × (sets.contains graph.pairs pair ≡ true))
      forth pair e =
          let parts = and_parts (not (eq_by_cmp pair_cmp pair the_pair)) (sets.contains graph.pairs pair) (sym (got pair) ∙ e) in
          elim (at_set_or_not tag member pair) [
            | inl at ↦
                let held = to_now pair.second ((paired pair at.0 at.1).0 parts.1) in
                let other : held.0 ≢ pointer = λ same.
                let second : pair.second ≡ name_of to = same_Some _ _ (sym held.2 ∙ ap (name_at (heap_of schema new)) same ∙ (item_named schema old new address member tag def before after graph holds write pointer to there).1) in
                true≢false (sym (same_tied pair_cmp-IsTotalOrder pair the_pair (pair_is tag member (name_of to) pair at.0 at.1 second)) ∙ not-true _ parts.0) in
                inl (at.0, at.1, (held.0, subst (λ es. Contains (entry_items es) held.0) (sym write.after_is) ((spec held.0).1 (other, held.1)), held.2))
            | inr off ↦ inr (off, parts.1)
          ]

      here : (pair : Pair) → pair.link ≡ type_member tag member → pair.first ≡ name_in tag → ((p : ℕ) × Contains (entry_items (entries_of write.links)) p × (name_at (heap_of schema new) p ≡ Some pair.second)) → sets.contains (sets.remove graph.pairs the_pair) pair ≡ true
      here pair link starts item =
          let left = (spec item.0).0 (subst (λ es. Contains (entry_items es) item.0) write.after_is item.1) in
          stays pair
          (λ same. left.0 (own_name item.0 left.1 (sym (old_item schema old new address member tag def before after graph holds write item.0 left.1) ∙ item.2 ∙ ap (λ (p : Pair). Some p.second) same)))
          ((paired pair link starts).1 (to_was pair.second item.0 left.1 item.2))

      away : (pair : Pair) → (pair.link ≡ type_member tag member → pair.first ≡ name_in tag → ⊥) → sets.contains graph.pairs pair ≡ true → sets.contains (sets.remove graph.pairs the_pair) pair ≡ true
      away pair off e = stays pair (λ same. off (ap (λ (p : Pair). p.link) same) (ap (λ (p : Pair). p.first) same)) e

pub inserts_law : LawOfInserts
inserts_law schema old new address member tag def target before after pointer to graph at holds write kind alone there spec found =
    subst (λ a. LeavesGraph schema old new (with_joined schema graph a (name_of to))) (live_parts schema (name_in tag) (type_member tag member) at found).2
    (subst (λ pairs. LeavesGraph schema old new (record graph { pairs = pairs }))
    (sym (joined_by_set schema (type_member tag member) (name_in tag) (name_of to) graph.pairs def write.changes.defined alone (ap is_ref kind)))
    (record {
      holds = insert_holds schema old new address member tag def before after graph holds write target kind (ap (comes_first (type_member tag member)) alone) pointer to there spec;
      links_kept = links_left schema old new address member tag def before after graph holds write alone;
    }))

pub removes_law : LawOfRemoves
removes_law schema old new address member tag def target before after pointer to graph at holds write kind alone there typed spec found =
    subst (λ (a : LiveMember). LeavesGraph schema old new (record graph { pairs = sets.remove graph.pairs (pair_at schema a.at a.owner (name_of to)) })) (live_parts schema (name_in tag) (type_member tag member) at found).2
    (subst (λ pair. LeavesGraph schema old new (record graph { pairs = sets.remove graph.pairs pair }))
    (sym (own_pair schema (type_member tag member) (name_in tag) (name_of to) graph.pairs def write.changes.defined alone))
    (record {
      holds = remove_holds schema old new address member tag def before after graph holds write target kind (ap (comes_first (type_member tag member)) alone) pointer to there typed spec;
      links_kept = links_left schema old new address member tag def before after graph holds write alone;
    }))

-- ---- two-sided sets

pub first_inserts_law : LawOfFirstSideInserts
first_inserts_law schema old new address member tag def target inverse before after pointer to graph holds write kind sided first there spec =
    insert_holds schema old new address member tag def before after graph holds write target kind (ap (comes_first (type_member tag member)) sided ∙ first) pointer to there spec

pub first_removes_law : LawOfFirstSideRemoves
first_removes_law schema old new address member tag def target inverse before after pointer to graph holds write kind sided first there typed spec =
    remove_holds schema old new address member tag def before after graph holds write target kind (ap (comes_first (type_member tag member)) sided ∙ first) pointer to there typed spec

pub second_sides_law : LawOfSecondSides
second_sides_law schema old new address member tag def target inverse before after graph holds write kind sided second =
    second_holds schema old new address member tag def before after graph holds write (ap chunk_code kind) (ap (comes_first (type_member tag member)) sided ∙ second)
