-- Good pages stand for a graph.
use Rattle.std.proofs.Common.{◌≡◌, ◌≢◌, ◌↔◌, ◌⊎◌, ℕ, ◌*◌, ◌<◌, suc, cond, eqb, List, [], ◌∷◌, length, map, take, get_or, refl, sym, ap, ap₂, subst, ◌∙◌, arith, Option, Some, None, inl, inr}
use Rattle.std.specs.Ordering.{nat_cmp}
use Rattle.std.specs.List.{slice_get, Contains, All, Any, AllByRecursion}
use Rattle.std.specs.Option.{option_map, option_and_then}
use Rattle.std.specs.declared.cmp.Ordering.{Ordering}
use Rattle.std.specs.Cmp.{IsTotalOrder}
use Rattle.std.specs.FinMap as maps
use Rattle.ostore_graph_model.specs.Sets as sets
use Rattle.std.specs.FinMap.{IsAntisymmetric, nat_cmp-IsAntisymmetric, slice_cmp-IsAntisymmetric}
use Rattle.std.proofs.lemmas.Bool.{cases_eq}
use Rattle.std.proofs.lemmas.Cmp.{nat_cmp_total, nat_list_cmp_total}
use Rattle.std.proofs.lemmas.Option.{same_Some, none-some, slice_get_within}
use Rattle.ostore_base.specs.declared.page.PageImage.{PageImage}
use Rattle.ostore_schema_layout.specs.declared.schema.Schema.{Schema}
use Rattle.ostore_schema_layout.specs.declared.schema.MemberDef.{MemberDef}
use Rattle.ostore_schema_layout.specs.Cells.{ArePairwise}
use Rattle.ostore_schema_layout.specs.Numbers.{members_of}
use Rattle.ostore_graph_model.specs.declared.values.Name.{Name}
use Rattle.ostore_graph_model.specs.declared.commands.Key.{Key}
use Rattle.ostore_graph_model.specs.Orders.{ObjectMember, PathIndex, object_member_cmp, key_cmp, text_cmp, index_cmp}
use Rattle.ostore_graph_model.specs.Graph.{Graph}
use Rattle.ostore_graph_model.specs.Chains.{chunk_code, item_type, ChainLink, IsChain, entries_of, indexes_of}
use Rattle.ostore_graph_model.specs.FixedPages.{RootRow, roots_of, first_page, serial_of}
use Rattle.ostore_graph_model.specs.Heap.{Heap, name_at, name_in, code_at, HasMember, IsObject}
use Rattle.ostore_graph_model.specs.HeapRules.{KeepsPointers, KeepsItems, KeepsChains, KeepsRoots}
use Rattle.ostore_graph_model.specs.MemberValues.{values_of}
use Rattle.ostore_graph_model.specs.Owners.{Owner, chain_head}
use Rattle.ostore_graph_model.specs.Chunks.{ChunkEntry, IndexDescriptor}
use Rattle.ostore_graph_model.specs.Records.{CollectionHead, Slot, RowTag, HeapCell, heap_of}
use Rattle.ostore_graph_model.specs.StandsFor.{HasRoot, HasCollection, HasList, Binds, HasDictionary, HasIndex, ShowsRoots, ShowsSerials, ShowsLists, ShowsDictionaries, ShowsIndexes, StandsFor}
use Rattle.ostore_graph_model.specs.Valid.{HasGoodCells}
use Rattle.ostore_page_tags.specs.PageLists.{header_at}
use Rattle.ostore_graph_model.proofs.PageLaws.{first_within}
use Rattle.ostore_graph_model.proofs.OrderLaws.{object_member_cmp-IsTotalOrder, object_member_cmp-IsAntisymmetric, index_cmp-IsTotalOrder, index_cmp-IsAntisymmetric}
use Rattle.ostore_graph_model.proofs.KeyLaws.{key_cmp-IsTotalOrder, key_cmp-IsAntisymmetric}
use Rattle.ostore_graph_model.proofs.ObjectLaws.{AreNamesOwn, names_own, named_object}
use Rattle.ostore_graph_model.proofs.ReferenceLaws.{same_tags, same_slots}
use Rattle.ostore_graph_model.proofs.ItemLaws.{items_lead}
use Rattle.ostore_graph_model.proofs.ChainLaws.{chain_unique}
use Rattle.ostore_graph_model.proofs.UniqueLaws.{one_map}
use Rattle.ostore_graph_model.proofs.ExistsLaws.{IsEntry, map_of_entries, set_of_entries}
use Rattle.ostore_graph_model.proofs.FiniteLaws.{IsFinite, finite_none, finite_one, finite_iff, finite_below, finite_image, finite_list, entry_contains}
use Rattle.ostore_graph_model.proofs.GraphLaws.{object_or_not, member_same, objects_exist, pairs_exist, addresses_bounded}

-- ---- maps and sets of what is finite

module _ {K X : Type 0} {R : K → K → Ordering} (o : IsTotalOrder R) (same : IsAntisymmetric R) where
  finite_map : (P : K → X → Type 0) → IsFinite (λ (e : K × X). P e.0 e.1) → ((k : K) (x y : X) → P k x → P k y → x ≡ y) → (m : maps.FinMap R X) × ((k : K) (x : X) → (maps.get m k ≡ Some x) ↔ P k x)
  finite_map P finite one = (
    maps.from_entries finite.0,
    λ k x.
        let is = map_of_entries o same finite.0 (λ q a b first second. one q a b ((finite.1 (q, a)).0 first) ((finite.1 (q, b)).0 second)) k x in
        (λ e. (finite.1 (k, x)).0 (is.0 e), λ h. is.1 ((finite.1 (k, x)).1 h)),
  )

-- entries that are told apart by a key
all_entry : {X : Type 0} (P : X → Type 0) (xs : List X) (x : X) → AllByRecursion P xs → IsEntry x xs → P x
all_entry P [] x all there = absurd there
all_entry P (first ∷ others) x all there = elim there [ inl here ↦ subst P (sym here) all.0 | inr rest ↦ all_entry P others x all.1 rest ]

distinct_entries : {X N : Type 0} (f : X → N) (xs : List X) (x y : X) → ArePairwise (λ a b. f a ≢ f b) xs → IsEntry x xs → IsEntry y xs → f x ≡ f y → x ≡ y
distinct_entries f [] x y apart one two same = absurd one
distinct_entries f (first ∷ others) x y apart one two same = elim one [
  | inl here ↦ elim two [
    | inl there ↦ here ∙ sym there
    | inr rest ↦ absurd (all_entry (λ b. f first ≢ f b) others y apart.0 rest (ap f (sym here) ∙ same))
  ]
  | inr rest ↦ elim two [
    | inl there ↦ absurd (all_entry (λ b. f first ≢ f b) others x apart.0 rest (ap f (sym there) ∙ sym same))
    | inr also ↦ distinct_entries f others x y apart.1 rest also same
  ]
]

-- ---- roots

module _ (heap : Heap) (rows : List RootRow) (keeps : KeepsRoots heap rows) where
  abbrev bound : RootRow → Option (List ℕ × Name)
  bound row = option_map (λ (n : Name). (row.name, n)) (name_at heap row.pointer)

  bound_is : (row : RootRow) (root : List ℕ) (name : Name) (found : Option Name) → name_at heap row.pointer ≡ found → bound row ≡ Some (root, name) → (row.name ≡ root) × (name_at heap row.pointer ≡ Some name)
  bound_is row root name None e is = absurd (none-some (root, name) (sym (ap (option_map (λ (n : Name). (row.name, n))) e) ∙ is))
  bound_is row root name (Some n) e is =
      let pair : ◌≡◌ {A = List ℕ × Name} (row.name, n) (root, name) = same_Some _ _ (sym (ap (option_map (λ (n : Name). (row.name, n))) e) ∙ is) in
      (ap (λ (p : List ℕ × Name). p.0) pair, e ∙ ap (λ (p : List ℕ × Name). Some p.1) pair)

  root_forth : (root : List ℕ) (name : Name) → (row : RootRow) × Contains rows row × (bound row ≡ Some (root, name)) → HasRoot heap rows root name
  root_forth root name h = (h.1.0, h.0, h.1.1, at h.1.0 h.1.1 h.1.2, bound_is h.0 root name (name_at heap (h.0).pointer) refl h.2)
    where
      at : (k : ℕ) → k < length rows → get_or rows k h.0 ≡ h.0 → get_or rows k h.0 ≡ h.0
      at k below is = is

  root_back : (root : List ℕ) (name : Name) → HasRoot heap rows root name → (row : RootRow) × Contains rows row × (bound row ≡ Some (root, name))
  root_back root name any =
      let row = any.1 in
      let is = any.4 in
      (row, (any.0, any.2, any.3), ap (option_map (λ (n : Name). (row.name, n))) is.1 ∙ ap (λ (r : List ℕ). Some (r, name)) is.0)

  roots_exist : (roots : maps.FinMap text_cmp Name) × ShowsRoots heap rows roots
  roots_exist = finite_map nat_list_cmp_total (slice_cmp-IsAntisymmetric nat_cmp-IsAntisymmetric) (HasRoot heap rows)
      (finite_iff (λ (e : List ℕ × Name). (row : RootRow) × Contains rows row × (bound row ≡ Some e)) (λ (e : List ℕ × Name). HasRoot heap rows e.0 e.1)
      (λ e. (root_forth e.0 e.1, root_back e.0 e.1)) (finite_image bound (λ row. Contains rows row) (finite_list rows)))
      (λ root x y first second.
      let a = root_back root x first in
      let b = root_back root y second in
      let one = bound_is a.0 root x (name_at heap (a.0).pointer) refl a.2 in
      let two = bound_is b.0 root y (name_at heap (b.0).pointer) refl b.2 in
      let same = distinct_entries (λ (r : RootRow). r.name) rows a.0 b.0 keeps.own ((entry_contains a.0 rows).1 a.1) ((entry_contains b.0 rows).1 b.1) (one.0 ∙ sym two.0) in
      same_Some x y (sym one.1 ∙ ap (λ (r : RootRow). name_at heap r.pointer) same ∙ two.1))

-- ---- serials

serials_exist : (counters : ℕ → ℕ) (count : ℕ) → ((segment : ℕ) → counters segment ≢ 0 → segment < count) → (serials : maps.FinMap nat_cmp ℕ) × ShowsSerials counters serials
serials_exist counters count bounded = finite_map nat_cmp_total nat_cmp-IsAntisymmetric (λ segment serial. (counters segment ≡ serial) × (serial ≢ 0))
    (finite_iff (λ (e : ℕ × ℕ). (k : ℕ) × (k < count) × ((e.0 ≡ k) × (counters k ≡ e.1) × (e.1 ≢ 0))) (λ (e : ℕ × ℕ). (counters e.0 ≡ e.1) × (e.1 ≢ 0))
    (λ e. (λ h. (ap counters h.2.0 ∙ h.2.1, h.2.2), λ h. (e.0, bounded e.0 (λ none. h.1 (sym h.0 ∙ none)), (refl, h.0, h.1))))
    (finite_below (λ k (e : ℕ × ℕ). (e.0 ≡ k) × (counters k ≡ e.1) × (e.1 ≢ 0)) count each))
    (λ segment x y first second. sym first.0 ∙ second.0)
  where
    each : (k : ℕ) → IsFinite (λ (e : ℕ × ℕ). (e.0 ≡ k) × (counters k ≡ e.1) × (e.1 ≢ 0))
    each k = elim (cases_eq (counters k) 0) [
      | inl none ↦ finite_none (λ (e : ℕ × ℕ). (e.0 ≡ k) × (counters k ≡ e.1) × (e.1 ≢ 0)) (λ e h. h.2 (sym h.1 ∙ none))
      | inr some ↦ finite_one (λ (e : ℕ × ℕ). (e.0 ≡ k) × (counters k ≡ e.1) × (e.1 ≢ 0)) (k, counters k) (refl, refl, some) (λ e h. λ i. (h.0 i, sym h.1 i))
    ]

serial_bound : (pages : List PageImage) (segment : ℕ) → serial_of pages segment ≢ 0 → segment < 256
unfolding serial_of
serial_bound pages segment some = elim (cases_eq (first_page pages segment) 0) [
  | inl none ↦ absurd (some (ap (λ (p : ℕ). cond (eqb p 0) 0 (header_at pages p).last_serial) none))
  | inr first ↦ let most = (first_within pages segment first).1 in omega arith
]

-- ---- names of items

name_of_row : (heap : Heap) (pointer code : ℕ) → code_at heap pointer ≡ Some code → (name : Name) × (name_at heap pointer ≡ Some name)
name_of_row heap pointer code there = found (heap pointer) there
  where
    found : (cell : Option HeapCell) → option_map (λ (c : HeapCell). c.tag.code) cell ≡ Some code → (name : Name) × (option_map name_in (option_map (λ (c : HeapCell). c.tag) cell) ≡ Some name)
    found None e = absurd (none-some code e)
    found (Some cell) e = (name_in cell.tag, refl)

pub names_of : (heap : Heap) (code : ℕ) (entries : List ChunkEntry) → All (λ entry. code_at heap entry.item ≡ Some code) entries → (names : List Name) × (map (λ (entry : ChunkEntry). name_at heap entry.item) entries ≡ map (λ (n : Name). Some n) names)
names_of heap code [] all = ([], refl)
names_of heap code (entry ∷ entries) all =
    let here = name_of_row heap entry.item code (all 0 entry (omega arith)) in
    let rest = names_of heap code entries (λ k d below. all (suc k) d (omega arith)) in
    (here.0 ∷ rest.0, ap₂ (λ x xs. x ∷ xs) here.1 rest.1)

pub same_names : (xs ys : List Name) → map (λ (n : Name). Some n) xs ≡ map (λ (n : Name). Some n) ys → xs ≡ ys
same_names [] [] e = refl
same_names [] (y ∷ ys) e = cc
same_names (x ∷ xs) [] e = cc
same_names (x ∷ xs) (y ∷ ys) e =
    let tail : map (λ (n : Name). Some n) xs ≡ map (λ (n : Name). Some n) ys = cons_tail (Some x) (Some y) _ _ e in
    let head : x ≡ y = same_Some x y (cons_head (Some x) (Some y) _ _ e) in
    ap₂ (λ z zs. z ∷ zs) head (same_names xs ys tail)
  where
    cons_tail : (a b : Option Name) (as_ bs : List (Option Name)) → a ∷ as_ ≡ b ∷ bs → as_ ≡ bs
    cons_tail a b as_ bs h = cc

    cons_head : (a b : Option Name) (as_ bs : List (Option Name)) → a ∷ as_ ≡ b ∷ bs → a ≡ b
    cons_head a b as_ bs h = cc

pub nil_or_not : (entries : List ChunkEntry) → (entries ≡ []) ⊎ (entries ≢ [])
nil_or_not [] = inl refl
nil_or_not (entry ∷ entries) = inr (λ e. cc)

abbrev with_name : Option Name → Key → Option (Key × Name)
with_name found key = option_map (λ (n : Name). (key, n)) found

-- ---- what members make

module _ (schema : Schema) (heap : Heap) (count : ℕ) (bounded : (address : ℕ) (cell : HeapCell) → heap address ≡ Some cell → address < count) (own : AreNamesOwn heap) where
  -- what each member of each object makes is finite, where what one member makes is
  module _ {X : Type 0} (P : ℕ → ℕ → X → Type 0)
      (member_of : (address m : ℕ) (x : X) → P address m x → (tag : RowTag) × (def : MemberDef) × (slot : Slot) × HasMember schema heap address m tag def slot)
      (each : (address m : ℕ) (tag : RowTag) (def : MemberDef) (slot : Slot) → HasMember schema heap address m tag def slot → IsFinite (P address m)) where
    member_finite : (address m : ℕ) (tag : RowTag) (slots : List Slot) → IsObject heap address tag slots → IsFinite (P address m)
    member_finite address m tag slots object = with_def (slice_get (members_of schema tag.code) m) refl
      where
        with_slot : (def : MemberDef) → slice_get (members_of schema tag.code) m ≡ Some def → (held : Option Slot) → slice_get slots m ≡ held → IsFinite (P address m)
        with_slot def d None e = finite_none (P address m) (λ x h.
            let has = (member_of address m x h).3 in
            none-some _ (sym e ∙ ap (λ (l : List Slot). slice_get l m) (same_slots tag _ slots has.slots (sym object.there ∙ has.object.there)) ∙ has.held))
        with_slot def d (Some slot) e = each address m tag def slot (record { slots = slots; object = object; defined = d; held = e })

        with_def : (found : Option MemberDef) → slice_get (members_of schema tag.code) m ≡ found → IsFinite (P address m)
        with_def None e = finite_none (P address m) (λ x h.
            let has = (member_of address m x h).3 in
            none-some _ (sym e ∙ ap (λ (t : RowTag). slice_get (members_of schema t.code) m) (same_tags tag _ slots has.slots (sym object.there ∙ has.object.there)) ∙ has.defined))
        with_def (Some def) e = with_slot def e (slice_get slots m) refl

    address_finite : (address : ℕ) → IsFinite (λ x. (m : ℕ) × P address m x)
    address_finite address = elim (object_or_not schema heap address) [
      | inl object ↦
          finite_iff (λ x. (m : ℕ) × (m < length object.1) × P address m x) (λ x. (m : ℕ) × P address m x)
          (λ x. (
            λ h. (h.0, h.2),
            λ h.
                let has = (member_of address h.0 x h.1).3 in
                (h.0, slice_get_within object.1 h.0 _ (ap (λ (l : List Slot). slice_get l h.0) (same_slots object.0 _ object.1 has.slots (sym object.2.there ∙ has.object.there)) ∙ has.held), h.1),
          ))
          (finite_below (P address) (length object.1) (λ m. member_finite address m object.0 object.1 object.2))
      | inr none ↦ finite_none (λ x. (m : ℕ) × P address m x) (λ x h. let has = (member_of address h.0 x h.1).3 in none _ has.slots has.object)
    ]

    all_finite : IsFinite (λ x. (address : ℕ) × (m : ℕ) × P address m x)
    all_finite = finite_iff (λ x. (address : ℕ) × (address < count) × ((m : ℕ) × P address m x)) (λ x. (address : ℕ) × (m : ℕ) × P address m x)
        (λ x. (λ h. (h.0, h.2.0, h.2.1), λ h. (h.0, bounded h.0 _ ((member_of h.0 h.1 x h.2).3).object.there, (h.1, h.2))))
        (finite_below (λ address x. (m : ℕ) × P address m x) count address_finite)

  no_plain : (head : CollectionHead) → Slot.Begins head ≡ Slot.Plain → ⊥
  no_plain head e = cc

  no_refers : (head : CollectionHead) (pointer : ℕ) → Slot.Begins head ≡ Slot.Refers pointer → ⊥
  no_refers head pointer e = cc

  same_heads : (one other : CollectionHead) → Slot.Begins one ≡ Slot.Begins other → one ≡ other
  same_heads one other e = cc

  -- ---- indexes

  IsIndexAt : ℕ → ℕ → PathIndex → Type 0
  IsIndexAt address m index = (has : HasIndex schema heap index) × (has.address ≡ address) × (index.set.member.0 ≡ m)

  index_member : (address m : ℕ) (index : PathIndex) (has : HasIndex schema heap index) → has.address ≡ address → index.set.member.0 ≡ m → HasMember schema heap address m has.tag has.def (Slot.Begins has.head)
  index_member address m index has at is = subst (λ a. HasMember schema heap a m has.tag has.def (Slot.Begins has.head)) at (subst (λ n. HasMember schema heap has.address n has.tag has.def (Slot.Begins has.head)) is has.has)

  module _ (chains : (address : ℕ) → KeepsChains schema heap address) where
    index_of : RowTag → ℕ → IndexDescriptor → Option PathIndex
    index_of tag m descriptor = Some (record { set = record { object = name_in tag; member = record { 0 = m } }; path = map (λ step. record { 0 = step.member }) (take descriptor.steps descriptor.path) })

    indexes_each : (address m : ℕ) (tag : RowTag) (def : MemberDef) (slot : Slot) → HasMember schema heap address m tag def slot → IsFinite (IsIndexAt address m)
    unfolding IsIndexAt index_of
    indexes_each address m tag def Slot.Plain has = finite_none (IsIndexAt address m) (λ index h. no_plain _ (member_same schema heap address m _ tag _ def _ Slot.Plain (index_member address m index h.0 h.1 h.2) has).2)
    indexes_each address m tag def (Slot.Refers pointer) has = finite_none (IsIndexAt address m) (λ index h. no_refers _ pointer (member_same schema heap address m _ tag _ def _ (Slot.Refers pointer) (index_member address m index h.0 h.1 h.2) has).2)
    indexes_each address m tag def (Slot.Begins head) has =
        let whole = (chains address).whole (Owner.Indexes address m) (chain_head 244 tag.segment head.descriptor (item_type def.kind)) refl (record { tag = tag; def = def; begins = head; has = has; is = refl }) in
        finite_iff (λ index. (descriptor : IndexDescriptor) × Contains (indexes_of whole.0) descriptor × (index_of tag m descriptor ≡ Some index)) (IsIndexAt address m)
        (λ index. (
          λ h.
              let is : record { set = record { object = name_in tag; member = record { 0 = m } }; path = map (λ step. record { 0 = step.member }) (take (h.0).steps (h.0).path) } ≡ index = same_Some _ _ h.2 in
              let at : m ≡ index.set.member.0 = ap (λ (x : PathIndex). x.set.member.0) is in (
                record {
                  address = address;
                  tag = tag;
                  def = def;
                  head = head;
                  has = subst (λ n. HasMember schema heap address n tag def (Slot.Begins head)) at has;
                  named = ap (λ (x : PathIndex). x.set.object) is;
                  chain = whole.0;
                  linked = whole.1;
                  descriptor = h.0;
                  there = h.1;
                  path = ap (λ (x : PathIndex). x.path) is;
                },
                refl,
                sym at,
              ),
          λ h.
              let same = member_same schema heap address m (h.0).tag tag (h.0).def def (Slot.Begins (h.0).head) (Slot.Begins head) (index_member address m index h.0 h.1 h.2) has in
              let heads = same_heads (h.0).head head same.2 in
              let linked = subst (λ (x : CollectionHead). IsChain heap 244 tag.segment x.descriptor (h.0).chain) heads (subst (λ (t : RowTag). IsChain heap 244 t.segment ((h.0).head).descriptor (h.0).chain) same.0 (h.0).linked) in
              let chain = chain_unique heap 244 tag.segment head.descriptor (h.0).chain whole.0 linked whole.1 in (
                (h.0).descriptor,
                subst (λ c. Contains (indexes_of c) (h.0).descriptor) chain (h.0).there,
                ap Some (λ i. record { set = record { object = (ap name_in (sym same.0) ∙ (h.0).named) i; member = record { 0 = sym h.2 i } }; path = (h.0).path i }),
              ),
        ))
        (finite_image (index_of tag m) (λ descriptor. Contains (indexes_of whole.0) descriptor) (finite_list (indexes_of whole.0)))

    indexes_exist : (indexes : sets.FinSet index_cmp) × ShowsIndexes schema heap indexes
    unfolding IsIndexAt
    indexes_exist =
        let finite : IsFinite (HasIndex schema heap) =
        finite_iff (λ index. (address : ℕ) × (m : ℕ) × IsIndexAt address m index) (HasIndex schema heap) (λ index. (λ h. h.2.0, λ has. (has.address, index.set.member.0, (has, refl, refl))))
        (all_finite IsIndexAt (λ address m index h. ((h.0).tag, (h.0).def, Slot.Begins (h.0).head, index_member address m index h.0 h.1 h.2)) indexes_each) in (
          sets.from_list finite.0,
          λ index.
              let is = set_of_entries index_cmp-IsTotalOrder index_cmp-IsAntisymmetric finite.0 index in
              (λ e. (finite.1 index).0 (is.0 e), λ has. is.1 ((finite.1 index).1 has)),
        )

    -- ---- collections

    collection_member : (address m : ℕ) (place : ObjectMember) (code : ℕ) (entries : List ChunkEntry) (has : HasCollection schema heap place code entries) → has.address ≡ address → place.member.0 ≡ m → HasMember schema heap address m has.tag has.def (Slot.Begins has.head)
    collection_member address m place code entries has at is = subst (λ a. HasMember schema heap a m has.tag has.def (Slot.Begins has.head)) at (subst (λ n. HasMember schema heap has.address n has.tag has.def (Slot.Begins has.head)) is has.has)

    -- a collection at a member is the member's chain
    collection_is : (address m : ℕ) (tag : RowTag) (def : MemberDef) (head : CollectionHead) → HasMember schema heap address m tag def (Slot.Begins head) → (chain : List ChainLink) → IsChain heap (chunk_code def.kind) tag.segment head.first chain
        → (place : ObjectMember) (code : ℕ) (entries : List ChunkEntry) (c : HasCollection schema heap place code entries) → c.address ≡ address → place.member.0 ≡ m
        → (place ≡ record { object = name_in tag; member = record { 0 = m } }) × (entries ≡ entries_of chain) × (chunk_code def.kind ≡ code)
    collection_is address m tag def head has chain linked place code entries c at is =
        let same = member_same schema heap address m c.tag tag c.def def (Slot.Begins c.head) (Slot.Begins head) (collection_member address m place code entries c at is) has in
        let heads = same_heads c.head head same.2 in
        let kind : chunk_code def.kind ≡ code = ap (λ (d : MemberDef). chunk_code d.kind) (sym same.1) ∙ c.kind in
        let also = subst (λ k. IsChain heap k tag.segment head.first c.all.chain) (sym kind) (subst (λ (x : CollectionHead). IsChain heap code tag.segment x.first c.all.chain) heads (subst (λ (t : RowTag). IsChain heap code t.segment c.head.first c.all.chain) same.0 c.all.linked)) in
        let chains_are = chain_unique heap (chunk_code def.kind) tag.segment head.first c.all.chain chain also linked in
        ((λ i. record { object = (sym c.named ∙ ap name_in same.0) i; member = record { 0 = is i } }), c.all.all ∙ ap entries_of chains_are, kind)

    -- the collection of a member
    the_collection : (address m : ℕ) (tag : RowTag) (def : MemberDef) (head : CollectionHead) → HasMember schema heap address m tag def (Slot.Begins head) → (chain : List ChainLink) → IsChain heap (chunk_code def.kind) tag.segment head.first chain → (code : ℕ) → chunk_code def.kind ≡ code
        → HasCollection schema heap (record { object = name_in tag; member = record { 0 = m } }) code (entries_of chain)
    the_collection address m tag def head has chain linked code kind = record {
      address = address;
      tag = tag;
      def = def;
      head = head;
      has = has;
      named = refl;
      kind = kind;
      all = record { chain = chain; linked = subst (λ k. IsChain heap k tag.segment head.first chain) kind linked; all = refl };
    }

    -- two collections of one place and code are one
    pub same_entries : (place : ObjectMember) (code other : ℕ) (one two : List ChunkEntry) → HasCollection schema heap place code one → HasCollection schema heap place other two → one ≡ two
    same_entries place code other one two first second =
        let at = named_object heap first.address second.address first.tag second.tag (first.has).slots (second.has).slots own (first.has).object (second.has).object (second.named ∙ sym first.named) in
        let good = (chains first.address).collections place.member.0 first.tag first.def first.head first.has in
        let is = collection_is first.address place.member.0 first.tag first.def first.head first.has good.chain good.linked in
        (is place code one first refl refl).1 ∙ sym (is place other two second at refl).1

    -- ---- lists

    module _ (pointers : (address : ℕ) → KeepsPointers schema heap address) (items : (address : ℕ) → KeepsItems heap address) where
      IsListAt : ℕ → ℕ → (ObjectMember × List Name) → Type 0
      IsListAt address m e = (h : HasList schema heap e.0 e.1) × ((h.has).address ≡ address) × ((e.0).member.0 ≡ m)

      list_member : (address m : ℕ) (e : ObjectMember × List Name) (h : HasList schema heap e.0 e.1) → (h.has).address ≡ address → (e.0).member.0 ≡ m → HasMember schema heap address m (h.has).tag (h.has).def (Slot.Begins (h.has).head)
      list_member address m e h at is = collection_member address m e.0 241 h.entries h.has at is

      lists_each : (address m : ℕ) (tag : RowTag) (def : MemberDef) (slot : Slot) → HasMember schema heap address m tag def slot → IsFinite (IsListAt address m)
      unfolding IsListAt the_collection
      lists_each address m tag def Slot.Plain has = finite_none (IsListAt address m) (λ e h. no_plain _ (member_same schema heap address m _ tag _ def _ Slot.Plain (list_member address m e h.0 h.1 h.2) has).2)
      lists_each address m tag def (Slot.Refers pointer) has = finite_none (IsListAt address m) (λ e h. no_refers _ pointer (member_same schema heap address m _ tag _ def _ (Slot.Refers pointer) (list_member address m e h.0 h.1 h.2) has).2)
      lists_each address m tag def (Slot.Begins head) has =
          let good = (chains address).collections m tag def head has in
          let is = collection_is address m tag def head has good.chain good.linked in
          let named = names_of heap (item_type def.kind) (entries_of good.chain) (items_lead schema heap pointers items address m tag def head (entries_of good.chain) has (record { chain = good.chain; linked = good.linked; all = refl })) in
          elim (cases_eq (chunk_code def.kind) 241) [
            | inl kind ↦ elim (nil_or_not (entries_of good.chain)) [
              | inl none ↦ finite_none (IsListAt address m) (λ e h. (h.0).some ((is e.0 241 (h.0).entries (h.0).has h.1 h.2).1 ∙ none))
              | inr some ↦
                  finite_one (IsListAt address m) (record { object = name_in tag; member = record { 0 = m } }, named.0)
                  (record { entries = entries_of good.chain; some = some; has = the_collection address m tag def head has good.chain good.linked 241 kind; named = named.1 }, refl, refl)
                  (λ e h.
                  let same = is e.0 241 (h.0).entries (h.0).has h.1 h.2 in
                  let names_are = same_names e.1 named.0 (sym (h.0).named ∙ ap (map (λ (entry : ChunkEntry). name_at heap entry.item)) same.1 ∙ named.1) in
                  λ i. (same.0 i, names_are i))
            ]
            | inr other ↦ finite_none (IsListAt address m) (λ e h. other (is e.0 241 (h.0).entries (h.0).has h.1 h.2).2)
          ]

      lists_exist : (lists : maps.FinMap object_member_cmp (List Name)) × ShowsLists schema heap lists
      unfolding IsListAt
      lists_exist = finite_map object_member_cmp-IsTotalOrder object_member_cmp-IsAntisymmetric (HasList schema heap)
          (finite_iff (λ (e : ObjectMember × List Name). (address : ℕ) × (m : ℕ) × IsListAt address m e) (λ (e : ObjectMember × List Name). HasList schema heap e.0 e.1)
          (λ e. (λ h. (h.2).0, λ has. ((has.has).address, (e.0).member.0, (has, refl, refl))))
          (all_finite IsListAt (λ address m e h. (((h.0).has).tag, ((h.0).has).def, Slot.Begins ((h.0).has).head, list_member address m e h.0 h.1 h.2)) lists_each))
          one
        where
          one : (place : ObjectMember) (x y : List Name) → HasList schema heap place x → HasList schema heap place y → x ≡ y
          one place x y first second =
              let same = same_entries place 241 241 first.entries second.entries first.has second.has in
              same_names x y (sym first.named ∙ ap (map (λ (entry : ChunkEntry). name_at heap entry.item)) same ∙ second.named)

      -- ---- dictionaries

      binding : ChunkEntry → Option (Key × Name)
      binding entry = option_and_then (with_name (name_at heap entry.item)) entry.key

      binding_is : (key : Key) (name : Name) (entry : ChunkEntry) → (binding entry ≡ Some (key, name)) ↔ Binds heap key name entry
      unfolding binding
      binding_is key name entry = (λ e. forth entry.key (name_at heap entry.item) e, λ h. back entry.key (name_at heap entry.item) h.0 h.1)
        where
          forth : (k : Option Key) (n : Option Name) → option_and_then (with_name n) k ≡ Some (key, name) → (k ≡ Some key) × (n ≡ Some name)
          forth None n e = absurd (none-some (key, name) e)
          forth (Some k) None e = absurd (none-some (key, name) e)
          forth (Some k) (Some n) e =
              let pair : ◌≡◌ {A = Key × Name} (k, n) (key, name) = same_Some _ _ e in
              (ap (λ (p : Key × Name). Some p.0) pair, ap (λ (p : Key × Name). Some p.1) pair)

          back : (k : Option Key) (n : Option Name) → k ≡ Some key → n ≡ Some name → option_and_then (with_name n) k ≡ Some (key, name)
          back k n e f = ap (option_and_then (with_name n)) e ∙ ap (λ (o : Option Name). with_name o key) f

      -- the entries of a chain with distinct keys make a dictionary
      pub dictionary_of : (entries : List ChunkEntry) → ArePairwise (λ (earlier later : ChunkEntry). earlier.key ≢ later.key) entries → (dictionary : maps.FinMap key_cmp Name) × ((key : Key) (name : Name) → (maps.get dictionary key ≡ Some name) ↔ Any (Binds heap key name) entries)
      dictionary_of entries apart = finite_map key_cmp-IsTotalOrder key_cmp-IsAntisymmetric (λ key name. Any (Binds heap key name) entries)
          (finite_iff (λ (e : Key × Name). (entry : ChunkEntry) × Contains entries entry × (binding entry ≡ Some e)) (λ (e : Key × Name). Any (Binds heap e.0 e.1) entries)
          (λ e. (λ h. (h.1.0, h.0, h.1.1, h.1.2, (binding_is e.0 e.1 h.0).0 h.2), λ h. (h.1, (h.0, h.2, h.3), (binding_is e.0 e.1 h.1).1 h.4)))
          (finite_image binding (λ entry. Contains entries entry) (finite_list entries)))
          (λ key x y first second.
          let same = distinct_entries (λ (entry : ChunkEntry). entry.key) entries first.1 second.1 apart ((entry_contains first.1 entries).1 (first.0, first.2, first.3)) ((entry_contains second.1 entries).1 (second.0, second.2, second.3)) (first.4.0 ∙ sym second.4.0) in
          same_Some x y (sym first.4.1 ∙ ap (λ (entry : ChunkEntry). name_at heap entry.item) same ∙ second.4.1))

      IsDictionaryAt : ℕ → ℕ → (ObjectMember × maps.FinMap key_cmp Name) → Type 0
      IsDictionaryAt address m e = (h : HasDictionary schema heap e.0 e.1) × ((h.has).address ≡ address) × ((e.0).member.0 ≡ m)

      dictionary_member : (address m : ℕ) (e : ObjectMember × maps.FinMap key_cmp Name) (h : HasDictionary schema heap e.0 e.1) → (h.has).address ≡ address → (e.0).member.0 ≡ m → HasMember schema heap address m (h.has).tag (h.has).def (Slot.Begins (h.has).head)
      dictionary_member address m e h at is = collection_member address m e.0 h.code h.entries h.has at is

      one_dictionary : (entries other : List ChunkEntry) → entries ≡ other → (x y : maps.FinMap key_cmp Name) → ((key : Key) (name : Name) → (maps.get x key ≡ Some name) ↔ Any (Binds heap key name) entries) → ((key : Key) (name : Name) → (maps.get y key ≡ Some name) ↔ Any (Binds heap key name) other) → x ≡ y
      one_dictionary entries other same x y first second =
          one_map key_cmp-IsTotalOrder key_cmp-IsAntisymmetric x y (λ key name. Any (Binds heap key name) entries) first (subst (λ es. (key : Key) (name : Name) → (maps.get y key ≡ Some name) ↔ Any (Binds heap key name) es) (sym same) second)

      keyed_or_not : (code : ℕ) → ((code ≡ 242) ⊎ (code ≡ 243)) ⊎ ((code ≡ 242) ⊎ (code ≡ 243) → ⊥)
      keyed_or_not code = elim (cases_eq code 242) [
        | inl first ↦ inl (inl first)
        | inr apart ↦ elim (cases_eq code 243) [
          | inl second ↦ inl (inr second)
          | inr away ↦ inr (λ h. elim h [ inl first ↦ apart first | inr second ↦ away second ])
        ]
      ]

      dictionaries_each : (address m : ℕ) (tag : RowTag) (def : MemberDef) (slot : Slot) → HasMember schema heap address m tag def slot → IsFinite (IsDictionaryAt address m)
      unfolding IsDictionaryAt the_collection
      dictionaries_each address m tag def Slot.Plain has = finite_none (IsDictionaryAt address m) (λ e h. no_plain _ (member_same schema heap address m _ tag _ def _ Slot.Plain (dictionary_member address m e h.0 h.1 h.2) has).2)
      dictionaries_each address m tag def (Slot.Refers pointer) has = finite_none (IsDictionaryAt address m) (λ e h. no_refers _ pointer (member_same schema heap address m _ tag _ def _ (Slot.Refers pointer) (dictionary_member address m e h.0 h.1 h.2) has).2)
      dictionaries_each address m tag def (Slot.Begins head) has =
          let good = (chains address).collections m tag def head has in
          let is = collection_is address m tag def head has good.chain good.linked in
          elim (keyed_or_not (chunk_code def.kind)) [
            | inl keyed ↦ elim (nil_or_not (entries_of good.chain)) [
              | inl none ↦ finite_none (IsDictionaryAt address m) (λ e h. (h.0).some ((is e.0 (h.0).code (h.0).entries (h.0).has h.1 h.2).1 ∙ none))
              | inr some ↦
                  let made = dictionary_of (entries_of good.chain) (good.lawful.2 keyed) in
                  finite_one (IsDictionaryAt address m) (record { object = name_in tag; member = record { 0 = m } }, made.0)
                  (record { code = chunk_code def.kind; keyed = keyed; entries = entries_of good.chain; some = some; has = the_collection address m tag def head has good.chain good.linked (chunk_code def.kind) refl; bound = made.1 }, refl, refl)
                  (λ e h.
                  let same = is e.0 (h.0).code (h.0).entries (h.0).has h.1 h.2 in
                  let dictionaries_are = one_dictionary (h.0).entries (entries_of good.chain) same.1 e.1 made.0 (h.0).bound made.1 in
                  λ i. (same.0 i, dictionaries_are i))
            ]
            | inr other ↦ finite_none (IsDictionaryAt address m) (λ e h. other (subst (λ k. (k ≡ 242) ⊎ (k ≡ 243)) (sym (is e.0 (h.0).code (h.0).entries (h.0).has h.1 h.2).2) (h.0).keyed))
          ]

      dictionaries_exist : (dictionaries : maps.FinMap object_member_cmp (maps.FinMap key_cmp Name)) × ShowsDictionaries schema heap dictionaries
      unfolding IsDictionaryAt
      dictionaries_exist = finite_map object_member_cmp-IsTotalOrder object_member_cmp-IsAntisymmetric (HasDictionary schema heap)
          (finite_iff (λ (e : ObjectMember × maps.FinMap key_cmp Name). (address : ℕ) × (m : ℕ) × IsDictionaryAt address m e) (λ (e : ObjectMember × maps.FinMap key_cmp Name). HasDictionary schema heap e.0 e.1)
          (λ e. (λ h. (h.2).0, λ has. ((has.has).address, (e.0).member.0, (has, refl, refl))))
          (all_finite IsDictionaryAt (λ address m e h. (((h.0).has).tag, ((h.0).has).def, Slot.Begins ((h.0).has).head, dictionary_member address m e h.0 h.1 h.2)) dictionaries_each))
          (λ place x y first second. one_dictionary first.entries second.entries (same_entries place first.code second.code first.entries second.entries first.has second.has) x y first.bound second.bound)

-- ---- the graph

pub graph_exists : (schema : Schema) (pages : List PageImage) → HasGoodCells schema pages → (graph : Graph) × StandsFor schema pages graph
graph_exists schema pages cells =
    let heap = heap_of schema pages in
    let bounded = addresses_bounded schema pages in
    let own = names_own heap (serial_of pages) cells.serials in
    let objects = objects_exist schema heap (values_of schema pages) (4096 * length pages) bounded own in
    let pairs = pairs_exist schema heap cells.chains (4096 * length pages) bounded in
    let lists = lists_exist schema heap (4096 * length pages) bounded own cells.chains cells.pointers cells.items in
    let dictionaries = dictionaries_exist schema heap (4096 * length pages) bounded own cells.chains cells.pointers cells.items in
    let roots = roots_exist heap (roots_of pages) cells.roots in
    let serials = serials_exist (serial_of pages) 256 (serial_bound pages) in
    let indexes = indexes_exist schema heap (4096 * length pages) bounded own cells.chains in (
      record { objects = objects.0; pairs = pairs.0; lists = lists.0; dictionaries = dictionaries.0; roots = roots.0; serials = serials.0; indexes = indexes.0 },
      record { objects = objects.1; pairs = pairs.1; lists = lists.1; dictionaries = dictionaries.1; roots = roots.1; serials = serials.1; indexes = indexes.1 },
    )
