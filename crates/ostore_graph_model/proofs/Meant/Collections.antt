-- Lists and dictionaries that pages hold: their items and their keys are of their members' kinds.
use Rattle.std.proofs.Common.{◌≡◌, ◌≢◌, ◌⊎◌, ℕ, suc, ◌<◌, ◌≤◌, true, false, cond, eqb, leb, List, [], ◌∷◌, length, map, get_or, refl, sym, ap, subst, ◌∙◌, arith, Option, Some, inl, inr}
use Rattle.std.specs.Prelude.{unwrap_or}
use Rattle.std.specs.List.{slice_get, list_all, range_with_len, All, AllByRecursion}
use Rattle.std.specs.declared.cmp.Ordering.{Ordering}
use Rattle.std.specs.FinMap as maps
use Rattle.std.specs.FinMap.Entries.{find}
use Rattle.std.proofs.lemmas.Bool.{and_parts, le-leb, ne_eqb}
use Rattle.std.proofs.lemmas.List.Elements.{All-nil, All-cons, All-append}
use Rattle.std.proofs.lemmas.Option.{same_Some, none-some}
use Rattle.ostore_base.specs.declared.page.PageImage.{PageImage}
use Rattle.ostore_page_tags.specs.Rules.{is_type_code}
use Rattle.ostore_page_tags.specs.Numbers.{int_at}
use Rattle.ostore_page_tags.specs.PageLists.{bytes_at}
use Rattle.ostore_schema_layout.specs.declared.schema.Schema.{Schema}
use Rattle.ostore_schema_layout.specs.declared.schema.TypeNo.{TypeNo}
use Rattle.ostore_schema_layout.specs.declared.schema.MemberDef.{MemberDef}
use Rattle.ostore_schema_layout.specs.declared.schema.MemberKind.{MemberKind}
use Rattle.ostore_schema_layout.specs.declared.schema.MemberKind.TheVariants as kinds
use Rattle.ostore_schema_layout.specs.Lawful.{IsLawfulKind}
use Rattle.ostore_schema_layout.specs.Numbers.{members_of}
use Rattle.ostore_graph_model.specs.declared.values.Name.{Name}
use Rattle.ostore_graph_model.specs.declared.commands.Key.{Key}
use Rattle.ostore_graph_model.specs.declared.commands.Key.TheVariants as keys
use Rattle.ostore_graph_model.specs.Limits.{longest_key}
use Rattle.ostore_graph_model.specs.Orders.{ObjectMember}
use Rattle.ostore_graph_model.specs.Kinds.{is_scalar, is_list, is_dictionary, takes_key, target_of}
use Rattle.ostore_graph_model.specs.Graph.{Graph, Object, Dictionary}
use Rattle.ostore_graph_model.specs.GraphRules.{IsNameOf, IsKey, member_in, IsListOf, IsDictionaryOf}
use Rattle.ostore_graph_model.specs.Links.{def_of}
use Rattle.ostore_graph_model.specs.LiveGraphs.{IsLive}
use Rattle.ostore_graph_model.specs.Deeds.{no_object}
use Rattle.ostore_graph_model.specs.Addresses.{PlacedCell}
use Rattle.ostore_graph_model.specs.CellRules.{is_entry_written, is_chunk_written, is_code_written}
use Rattle.ostore_graph_model.specs.Chains.{item_type, chunk_code, ChainLink, next_of, IsChain, entries_of_links, entries_of}
use Rattle.ostore_graph_model.specs.Chunks.{pointer_at, ChunkEntry, entry_at, count_in, entry_place, entries_in}
use Rattle.ostore_graph_model.specs.Heap.{code_at, name_at, name_in, HasMember}
use Rattle.ostore_graph_model.specs.MemberValues.{text_at}
use Rattle.ostore_graph_model.specs.Records.{Slot, Links, HeapCell, RowTag, links_of_code, heap_of}
use Rattle.ostore_graph_model.specs.StandsFor.{HasDictionary, Binds}
use Rattle.ostore_graph_model.specs.LawsOfMeaning.{HoldGraph}
use Rattle.ostore_graph_model.proofs.GraphExists.{names_of}
use Rattle.ostore_graph_model.proofs.ItemLaws.{items_lead}
use Rattle.ostore_graph_model.proofs.MemberEdits.{cell_sized}
use Rattle.ostore_graph_model.proofs.SideLaws.{lawful_at}
use Rattle.ostore_graph_model.proofs.Meant.Bytes.{AreSmall, int_fits}
use Rattle.ostore_graph_model.proofs.Meant.Rows.{cell_of_row, cell_found, small_cell, target_typed, pointer_named, live_object, object_lives}
use Rattle.ostore_graph_model.proofs.Meant.Values.{text_is, code_written}

-- ---- entries

-- an entry as it stands in the bytes of a chunk
pub record IsKept (code : ℕ) (entry : ChunkEntry) : Type 0 where
  pub bytes : List ℕ
  pub small : AreSmall bytes
  pub at : ℕ
  pub is : entry ≡ entry_at code at bytes
  pub written : is_entry_written code at bytes ≡ true

kept_entries : (code : ℕ) (bytes : List ℕ) → AreSmall bytes → (places : List ℕ) → list_all (λ i. is_entry_written code (entry_place code i) bytes) places ≡ true → All (IsKept code) (map (λ i. entry_at code (entry_place code i) bytes) places)
kept_entries code bytes small [] written = All-nil (IsKept code)
kept_entries code bytes small (i ∷ places) written =
    let parts = and_parts (is_entry_written code (entry_place code i) bytes) (list_all (λ k. is_entry_written code (entry_place code k) bytes) places) written in
    All-cons (IsKept code) (entry_at code (entry_place code i) bytes) (map (λ k. entry_at code (entry_place code k) bytes) places)
    (record { bytes = bytes; small = small; at = entry_place code i; is = refl; written = parts.0 }) (kept_entries code bytes small places parts.1)

-- the key of a dictionary's entry
pub dictionary_key : (kind : MemberKind) → (chunk_code kind ≡ 242) ⊎ (chunk_code kind ≡ 243) → (entry : ChunkEntry) → IsKept (chunk_code kind) entry
    → (key : Key) × (entry.key ≡ Some key) × (takes_key kind key ≡ true) × IsKey key
dictionary_key kinds.Int keyed entry kept = absurd (elim keyed [ inl e ↦ omega (arith, e) | inr e ↦ omega (arith, e) ])
dictionary_key (kinds.Text max) keyed entry kept = absurd (elim keyed [ inl e ↦ omega (arith, e) | inr e ↦ omega (arith, e) ])
dictionary_key (kinds.Ref target) keyed entry kept = absurd (elim keyed [ inl e ↦ omega (arith, e) | inr e ↦ omega (arith, e) ])
dictionary_key (kinds.Set target) keyed entry kept = absurd (elim keyed [ inl e ↦ omega (arith, e) | inr e ↦ omega (arith, e) ])
dictionary_key (kinds.List target) keyed entry kept = absurd (elim keyed [ inl e ↦ omega (arith, e) | inr e ↦ omega (arith, e) ])
dictionary_key (kinds.DictInt target) keyed entry kept =
    (keys.Int (int_at kept.at kept.bytes), ap (λ (e : ChunkEntry). e.key) kept.is, refl, int_fits kept.at kept.bytes kept.small)
dictionary_key (kinds.DictText target) keyed entry kept =
    (keys.Text (text_at kept.at longest_key kept.bytes), ap (λ (e : ChunkEntry). e.key) kept.is, refl, text_is longest_key kept.at _ kept.bytes kept.written)

list_kind : (kind : MemberKind) → chunk_code kind ≡ 241 → is_list kind ≡ true
list_kind kinds.Int e = absurd (omega (arith, e))
list_kind (kinds.Text max) e = absurd (omega (arith, e))
list_kind (kinds.Ref target) e = absurd (omega (arith, e))
list_kind (kinds.Set target) e = absurd (omega (arith, e))
list_kind (kinds.List target) e = refl
list_kind (kinds.DictInt target) e = absurd (omega (arith, e))
list_kind (kinds.DictText target) e = absurd (omega (arith, e))

dictionary_kind : (kind : MemberKind) → (chunk_code kind ≡ 242) ⊎ (chunk_code kind ≡ 243) → is_dictionary kind ≡ true
dictionary_kind kinds.Int keyed = absurd (elim keyed [ inl e ↦ omega (arith, e) | inr e ↦ omega (arith, e) ])
dictionary_kind (kinds.Text max) keyed = absurd (elim keyed [ inl e ↦ omega (arith, e) | inr e ↦ omega (arith, e) ])
dictionary_kind (kinds.Ref target) keyed = absurd (elim keyed [ inl e ↦ omega (arith, e) | inr e ↦ omega (arith, e) ])
dictionary_kind (kinds.Set target) keyed = absurd (elim keyed [ inl e ↦ omega (arith, e) | inr e ↦ omega (arith, e) ])
dictionary_kind (kinds.List target) keyed = absurd (elim keyed [ inl e ↦ omega (arith, e) | inr e ↦ omega (arith, e) ])
dictionary_kind (kinds.DictInt target) keyed = refl
dictionary_kind (kinds.DictText target) keyed = refl

-- a collection is no int and no text
collection_leads : (kind : MemberKind) → chunk_code kind ≢ 0 → is_scalar kind ≡ false
collection_leads kinds.Int some = absurd (some refl)
collection_leads (kinds.Text max) some = absurd (some refl)
collection_leads (kinds.Ref target) some = refl
collection_leads (kinds.Set target) some = refl
collection_leads (kinds.List target) some = refl
collection_leads (kinds.DictInt target) some = refl
collection_leads (kinds.DictText target) some = refl

no_items : {X : Type 0} (xs : List X) → length xs ≡ 0 → xs ≡ []
no_items [] e = refl
no_items (x ∷ xs) e = absurd (omega (arith, e))

some_there : {K X : Type 0} {R : K → K → Ordering} (m : maps.FinMap R X) (k : K) (x : X) → maps.get m k ≡ Some x → maps.len m ≢ 0
some_there {R = R} m k x e none =
    none-some x (sym (maps.get-entries m k ∙ ap (find R k) (no_items (maps.entries m) (sym (maps.len-entries m) ∙ none))) ∙ e)

module _ (schema : Schema) (pages : List PageImage) (graph : Graph) (holds : HoldGraph schema pages graph) where
  -- the entries of a chain stand in its chunks
  pub kept_chain : ((page : ℕ) → AreSmall (bytes_at pages page)) → (code segment : ℕ) → 240 ≤ code → code ≢ 244 → (pointer : ℕ) (chain : List ChainLink) → IsChain (heap_of schema pages) code segment pointer chain → All (IsKept code) (entries_of chain)
  kept_chain small code segment high apart pointer [] linked = All-nil (IsKept code)
  kept_chain small code segment high apart pointer (one ∷ others) linked =
      All-append (IsKept code) (entries_of_links one.links) (entries_of others) here (kept_chain small code segment high apart (next_of one.links) others linked.3)
    where
      other : eqb code 244 ≡ false
      other = ne_eqb _ _ apart

      chunk : leb 240 code ≡ true
      chunk = le-leb 240 code high

      of_cell : (cell : PlacedCell) → AreSmall cell.bytes → cell.code ≡ code → is_code_written schema cell.code cell.bytes ≡ true → links_of_code schema cell.code cell.bytes ≡ one.links → All (IsKept code) (entries_of_links one.links)
      of_cell cell small_bytes code_is written links =
          let chunk_links : links_of_code schema code cell.bytes ≡ Links.Chunk (pointer_at 0 cell.bytes) (entries_in code cell.bytes) = rw (other, chunk) refl in
          let chunk_is : is_code_written schema code cell.bytes ≡ is_chunk_written code cell.bytes = rw (other, chunk) refl in
          let all = sym chunk_is ∙ ap (λ n. is_code_written schema n cell.bytes) (sym code_is) ∙ written in
          let entries = (and_parts _ (list_all (λ i. is_entry_written code (entry_place code i) cell.bytes) (range_with_len 0 (count_in cell.bytes))) (and_parts _ _ all).0).1 in
          let is = sym chunk_links ∙ ap (λ n. links_of_code schema n cell.bytes) (sym code_is) ∙ links in
          subst (λ l. All (IsKept code) (entries_of_links l)) is (kept_entries code cell.bytes small_bytes (range_with_len 0 (count_in cell.bytes)) entries)

      here : All (IsKept code) (entries_of_links one.links)
      here =
          let cell = cell_of_row schema pages graph holds pointer _ linked.2 in
          let sized = cell_sized schema pages pointer cell.0 holds.cells_kept cell.1 in
          let links = sym (ap (λ b. cond b (links_of_code schema (cell.0).code (cell.0).bytes) Links.Broken) sized) ∙ ap (λ (r : HeapCell). r.links) cell.2 in
          of_cell cell.0 (small_cell pages cell.0 small (cell_found pages pointer cell.0 cell.1)) (ap (λ (r : HeapCell). r.tag.code) cell.2)
          (code_written schema pages graph holds pointer cell.0 cell.1 (ap (λ (r : HeapCell). r.live) cell.2)) links

  -- ---- members

  pub member_kind : (address m : ℕ) (tag : RowTag) (def : MemberDef) (slot : Slot) → HasMember schema (heap_of schema pages) address m tag def slot → IsLawfulKind schema def.kind
  member_kind address m tag def slot has = (lawful_at schema holds.pages_kept.spelled.lawful (record { 0 = tag.code }) (record { 0 = m }) def has.defined).kind

  pub member_def : (place : ObjectMember) (address : ℕ) (tag : RowTag) (def : MemberDef) (slot : Slot) → HasMember schema (heap_of schema pages) address place.member.0 tag def slot → name_in tag ≡ place.object → def_of schema (member_in graph place) ≡ Some def
  member_def place address tag def slot has named =
      let object = live_object schema pages graph holds address tag has.slots has.object in
      let there = subst (λ x. maps.get graph.objects x ≡ Some object.0) named object.1 in
      ap (λ (found : Option Object). slice_get (members_of schema (unwrap_or found no_object).ty.0) place.member.0) there
      ∙ ap (λ (n : ℕ). slice_get (members_of schema n) place.member.0) object.2 ∙ has.defined

  -- ---- lists

  items_named : (ty : TypeNo) → is_type_code ty.0 ≡ true → (entries : List ChunkEntry) (names : List Name) → All (λ entry. code_at (heap_of schema pages) entry.item ≡ Some ty.0) entries
      → map (λ (entry : ChunkEntry). name_at (heap_of schema pages) entry.item) entries ≡ map (λ (n : Name). Some n) names → AllByRecursion (IsNameOf graph ty) names
  items_named ty typed [] [] rows e = tt
  items_named ty typed [] (name ∷ names) rows e = absurd cc
  items_named ty typed (entry ∷ entries) [] rows e = absurd cc
  items_named ty typed (entry ∷ entries) (name ∷ names) rows e = (
    pointer_named schema pages graph holds ty entry.item name typed (rows 0 entry (omega arith)) (cons_head _ _ _ _ e),
    items_named ty typed entries names (λ k d below. rows (suc k) d (omega arith)) (cons_tail _ _ _ _ e),
  )
    where
      cons_tail : (a b : Option Name) (as_ bs : List (Option Name)) → a ∷ as_ ≡ b ∷ bs → as_ ≡ bs
      cons_tail a b as_ bs h = cc

      cons_head : (a b : Option Name) (as_ bs : List (Option Name)) → a ∷ as_ ≡ b ∷ bs → a ≡ b
      cons_head a b as_ bs h = cc

  pub list_is : (at : ObjectMember) (items : List Name) → maps.get graph.lists at ≡ Some items → IsListOf schema graph at items
  list_is at items e =
      let h = (holds.stands.lists at items).0 e in
      let c = h.has in
      let kind : chunk_code c.def.kind ≡ 241 = c.kind in
      let some : chunk_code c.def.kind ≢ 0 = λ none. omega (arith, kind, none) in
      let typed = target_typed schema holds.pages_kept.spelled.lawful c.def.kind (member_kind c.address at.member.0 c.tag c.def _ c.has) (collection_leads c.def.kind some) in
      let rows = items_lead schema (heap_of schema pages) holds.cells_kept.pointers holds.cells_kept.items c.address at.member.0 c.tag c.def c.head h.entries c.has
      (record { chain = c.all.chain; linked = subst (λ k. IsChain (heap_of schema pages) k c.tag.segment c.head.first c.all.chain) (sym kind) c.all.linked; all = c.all.all }) in
      record {
        def = c.def;
        defined = member_def at c.address c.tag c.def _ c.has c.named;
        of_kind = list_kind c.def.kind kind;
        typed = items_named (target_of c.def.kind) typed h.entries items rows h.named;
      }

  pub list_lives : (at : ObjectMember) (items : List Name) → maps.get graph.lists at ≡ Some items → (items ≢ []) × IsLive graph at.object
  list_lives at items e =
      let h = (holds.stands.lists at items).0 e in (
        λ none. h.some (no_entries h.entries (h.named ∙ ap (map (λ (n : Name). Some n)) none)),
        object_lives schema pages graph holds h.has.address h.has.tag h.has.has.slots at.object h.has.has.object h.has.named,
      )
    where
      no_entries : (entries : List ChunkEntry) → map (λ (entry : ChunkEntry). name_at (heap_of schema pages) entry.item) entries ≡ [] → entries ≡ []
      no_entries [] none = refl
      no_entries (entry ∷ entries) none = absurd cc

  -- ---- dictionaries

  module _ (small : (page : ℕ) → AreSmall (bytes_at pages page)) (at : ObjectMember) (bindings : Dictionary) (h : HasDictionary schema (heap_of schema pages) at bindings) where
    abbrev def : MemberDef
    def = h.has.def

    keyed : (chunk_code def.kind ≡ 242) ⊎ (chunk_code def.kind ≡ 243)
    keyed = subst (λ k. (k ≡ 242) ⊎ (k ≡ 243)) (sym h.has.kind) h.keyed

    high : (240 ≤ chunk_code def.kind) × (chunk_code def.kind ≢ 244) × (chunk_code def.kind ≢ 0)
    high = elim keyed [
      | inl e ↦ (omega (arith, e), λ other. omega (arith, e, other), λ other. omega (arith, e, other))
      | inr e ↦ (omega (arith, e), λ other. omega (arith, e, other), λ other. omega (arith, e, other))
    ]

    linked : IsChain (heap_of schema pages) (chunk_code def.kind) h.has.tag.segment h.has.head.first h.has.all.chain
    linked = subst (λ k. IsChain (heap_of schema pages) k h.has.tag.segment h.has.head.first h.has.all.chain) (sym h.has.kind) h.has.all.linked

    kept : All (IsKept (chunk_code def.kind)) h.entries
    kept = subst (All (IsKept (chunk_code def.kind))) (sym h.has.all.all) (kept_chain small (chunk_code def.kind) h.has.tag.segment high.0 high.1 h.has.head.first h.has.all.chain linked)

    rows : All (λ entry. code_at (heap_of schema pages) entry.item ≡ Some (item_type def.kind)) h.entries
    rows = items_lead schema (heap_of schema pages) holds.cells_kept.pointers holds.cells_kept.items h.has.address at.member.0 h.has.tag h.has.def h.has.head h.entries h.has.has (record { chain = h.has.all.chain; linked = linked; all = h.has.all.all })

    typed : is_type_code (item_type def.kind) ≡ true
    typed = target_typed schema holds.pages_kept.spelled.lawful def.kind (member_kind h.has.address at.member.0 h.has.tag def _ h.has.has) (collection_leads def.kind high.2)

    binding_is : (key : Key) (x : Name) → maps.get bindings key ≡ Some x → (takes_key def.kind key ≡ true) × IsKey key × IsNameOf graph (target_of def.kind) x
    binding_is key x e =
        let any = (h.bound key x).0 e in
        let entry = any.1 in
        let is = dictionary_key def.kind keyed entry (subst (IsKept (chunk_code def.kind)) any.3 (kept any.0 entry any.2)) in
        let row = subst (λ (d : ChunkEntry). code_at (heap_of schema pages) d.item ≡ Some (item_type def.kind)) any.3 (rows any.0 entry any.2) in
        let same : is.0 ≡ key = same_Some _ _ (sym is.1 ∙ any.4.0) in
        (ap (takes_key def.kind) (sym same) ∙ is.2, subst IsKey same is.3, pointer_named schema pages graph holds (target_of def.kind) entry.item x typed row any.4.1)

    some_binding : (entries : List ChunkEntry) → entries ≡ h.entries → entries ≢ [] → maps.len bindings ≢ 0
    some_binding [] e some = absurd (some refl)
    some_binding (entry ∷ entries) e some =
        let here : All (IsKept (chunk_code def.kind)) (entry ∷ entries) = subst (All (IsKept (chunk_code def.kind))) (sym e) kept in
        let lead : All (λ (d : ChunkEntry). code_at (heap_of schema pages) d.item ≡ Some (item_type def.kind)) (entry ∷ entries) = subst (All (λ (d : ChunkEntry). code_at (heap_of schema pages) d.item ≡ Some (item_type def.kind))) (sym e) rows in
        let key = dictionary_key def.kind keyed entry (here 0 entry (omega arith)) in
        let named = names_of (heap_of schema pages) (item_type def.kind) (entry ∷ entries) lead in
        let name = first_name named.0 named.1 in
        some_there bindings key.0 name.0 ((h.bound key.0 name.0).1 (subst (Any_binds key.0 name.0) e (0, entry, omega arith, refl, (key.1, name.1))))
      where
        Any_binds : Key → Name → List ChunkEntry → Type 0
        Any_binds key name all = (k : ℕ) × (one : ChunkEntry) × (k < length all) × (get_or all k one ≡ one) × Binds (heap_of schema pages) key name one

        first_name : (names : List Name) → map (λ (d : ChunkEntry). name_at (heap_of schema pages) d.item) (entry ∷ entries) ≡ map (λ (n : Name). Some n) names → (name : Name) × (name_at (heap_of schema pages) entry.item ≡ Some name)
        first_name [] none = absurd cc
        first_name (name ∷ names) is = (name, cons_head _ _ _ _ is)
          where
            cons_head : (a b : Option Name) (as_ bs : List (Option Name)) → a ∷ as_ ≡ b ∷ bs → a ≡ b
            cons_head a b as_ bs g = cc

  pub dictionary_is : ((page : ℕ) → AreSmall (bytes_at pages page)) → (at : ObjectMember) (bindings : Dictionary) → maps.get graph.dictionaries at ≡ Some bindings → IsDictionaryOf schema graph at bindings
  dictionary_is small at bindings e =
      let h = (holds.stands.dictionaries at bindings).0 e in
      record {
        def = h.has.def;
        defined = member_def at h.has.address h.has.tag h.has.def _ h.has.has h.has.named;
        of_kind = dictionary_kind h.has.def.kind (keyed small at bindings h);
        typed = binding_is small at bindings h;
      }

  pub dictionary_lives : ((page : ℕ) → AreSmall (bytes_at pages page)) → (at : ObjectMember) (bindings : Dictionary) → maps.get graph.dictionaries at ≡ Some bindings → (maps.len bindings ≢ 0) × IsLive graph at.object
  dictionary_lives small at bindings e =
      let h = (holds.stands.dictionaries at bindings).0 e in (
        some_binding small at bindings h h.entries refl h.some,
        object_lives schema pages graph holds h.has.address h.has.tag h.has.has.slots at.object h.has.has.object h.has.named,
      )
