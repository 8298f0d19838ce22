-- Where one object of a heap is another, its collections as they were, the graph's lists, dictionaries, indexes
-- and roots are as they were.
use Rattle.std.proofs.Common.{◌≡◌, ◌≢◌, ◌↔◌, ℕ, List, [], ◌∷◌, map, refl, sym, ap, ap₂, subst, ◌∙◌, arith, Some, inl, inr, suc}
use Rattle.std.specs.List.{All, Any, Contains}
use Rattle.std.specs.FinMap as maps
use Rattle.ostore_graph_model.specs.Sets as sets
use Rattle.ostore_schema_layout.specs.declared.schema.Schema.{Schema}
use Rattle.ostore_graph_model.specs.declared.values.Name.{Name}
use Rattle.ostore_graph_model.specs.declared.commands.Key.{Key}
use Rattle.ostore_graph_model.specs.Orders.{ObjectMember, object_member_cmp, key_cmp, text_cmp, index_cmp}
use Rattle.ostore_graph_model.specs.Chains.{item_type, ChainLink, IsChain, entries_of, indexes_of, HasEntries}
use Rattle.ostore_graph_model.specs.FixedPages.{RootRow}
use Rattle.ostore_graph_model.specs.Heap.{Heap, name_at, code_at}
use Rattle.ostore_graph_model.specs.HeapRules.{KeepsPointers, KeepsItems, IsGoodRoot, KeepsRoots}
use Rattle.ostore_graph_model.specs.Chunks.{ChunkEntry, IndexDescriptor}
use Rattle.ostore_graph_model.specs.Records.{CollectionHead}
use Rattle.ostore_graph_model.specs.StandsFor.{HasCollection, HasList, Binds, HasDictionary, HasIndex, ShowsLists, ShowsDictionaries, ShowsIndexes, ShowsRoots}
use Rattle.ostore_graph_model.proofs.HeapLaws.{ChangesObject, IsNoType, chunk_code-IsNoType, chain_kept, entries_kept, begins_back, begins_kept}
use Rattle.ostore_graph_model.proofs.ItemLaws.{items_lead}

-- ---- lists

pub map_all : {X Y : Type 0} (f g : X → Y) (xs : List X) → All (λ x. f x ≡ g x) xs → map f xs ≡ map g xs
map_all f g [] same = refl
map_all f g (x ∷ xs) same = ap₂ (λ y ys. y ∷ ys) (same 0 x (omega arith)) (map_all f g xs (λ k d below. same (suc k) d (omega arith)))

pub any_all : {X : Type 0} (P Q : X → Type 0) (xs : List X) → All (λ x. P x → Q x) xs → Any P xs → Any Q xs
any_all P Q xs gives any = (any.0, any.1, any.2, any.3, subst (λ x. P x → Q x) any.3 (gives any.0 any.1 any.2) any.4)

pub all_then : {X : Type 0} (P Q : X → Type 0) (xs : List X) → ((x : X) → P x → Q x) → All P xs → All Q xs
all_then P Q xs gives all k d below = gives _ (all k d below)

module _ (schema : Schema) (heap now : Heap) (address : ℕ) (change : ChangesObject schema heap now address)
    (names : (pointer code : ℕ) → code_at heap pointer ≡ Some code → name_at now pointer ≡ name_at heap pointer)
    (pointers : (other : ℕ) → KeepsPointers schema heap other) (items : (other : ℕ) → KeepsItems heap other) where
  -- from no pointer there are no entries
  none_from : (code segment first : ℕ) (entries : List ChunkEntry) → first ≡ 0 → HasEntries now code segment first entries → entries ≡ []
  none_from code segment first entries none has = has.all ∙ no_chain has.chain has.linked
    where
      no_chain : (chain : List ChainLink) → IsChain now code segment first chain → entries_of chain ≡ []
      no_chain [] linked = refl
      no_chain (one ∷ others) linked = absurd (linked.0 none)

  collection_forth : (place : ObjectMember) (code : ℕ) (entries : List ChunkEntry) → HasCollection schema heap place code entries → HasCollection schema now place code entries
  collection_forth place code entries has = record {
    address = has.address;
    tag = has.tag;
    def = has.def;
    head = has.head;
    has = begins_kept schema heap now address change has.address place.member.0 has.tag has.def has.head has.has;
    named = has.named;
    kind = has.kind;
    all = entries_kept heap now address change.others change.before code has.tag.segment has.head.first entries (subst IsNoType has.kind (chunk_code-IsNoType has.def.kind)) has.all;
  }

  collection_back : (place : ObjectMember) (code : ℕ) (entries : List ChunkEntry) → entries ≢ [] → HasCollection schema now place code entries → HasCollection schema heap place code entries
  collection_back place code entries some has = record {
    address = has.address;
    tag = has.tag;
    def = has.def;
    head = has.head;
    has = elim (begins_back schema heap now address change has.address place.member.0 has.tag has.def has.head has.has) [
      | inl was ↦ was
      | inr none ↦ absurd (some (none_from code has.tag.segment has.head.first entries (ap (λ (h : CollectionHead). h.first) none) has.all))
    ];
    named = has.named;
    kind = has.kind;
    all = entries_kept now heap address (λ a apart. sym (change.others a apart)) change.after code has.tag.segment has.head.first entries (subst IsNoType has.kind (chunk_code-IsNoType has.def.kind)) has.all;
  }

  names_along : (place : ObjectMember) (code : ℕ) (entries : List ChunkEntry) → HasCollection schema heap place code entries → All (λ entry. name_at now entry.item ≡ name_at heap entry.item) entries
  names_along place code entries has =
      all_then (λ (entry : ChunkEntry). code_at heap entry.item ≡ Some (item_type has.def.kind)) (λ (entry : ChunkEntry). name_at now entry.item ≡ name_at heap entry.item) entries (λ entry there. names entry.item _ there)
      (items_lead schema heap pointers items has.address place.member.0 has.tag has.def has.head entries has.has (subst (λ c. HasEntries heap c has.tag.segment has.head.first entries) (sym has.kind) has.all))

  list_forth : (place : ObjectMember) (held : List Name) → HasList schema heap place held → HasList schema now place held
  list_forth place held has = record {
    entries = has.entries;
    some = has.some;
    has = collection_forth place 241 has.entries has.has;
    named = map_all (λ (entry : ChunkEntry). name_at now entry.item) (λ (entry : ChunkEntry). name_at heap entry.item) has.entries (names_along place 241 has.entries has.has) ∙ has.named;
  }

  list_back : (place : ObjectMember) (held : List Name) → HasList schema now place held → HasList schema heap place held
  list_back place held has =
      let was = collection_back place 241 has.entries has.some has.has in
      record {
        entries = has.entries;
        some = has.some;
        has = was;
        named = sym (map_all (λ (entry : ChunkEntry). name_at now entry.item) (λ (entry : ChunkEntry). name_at heap entry.item) has.entries (names_along place 241 has.entries was)) ∙ has.named;
      }

  pub lists_kept : (lists : maps.FinMap object_member_cmp (List Name)) → ShowsLists schema heap lists → ShowsLists schema now lists
  lists_kept lists shown place held = (λ e. list_forth place held ((shown place held).0 e), λ has. (shown place held).1 (list_back place held has))

  binds_forth : (place : ObjectMember) (code : ℕ) (entries : List ChunkEntry) (key : Key) (name : Name) → HasCollection schema heap place code entries → Any (Binds heap key name) entries ↔ Any (Binds now key name) entries
  binds_forth place code entries key name has =
      let same = names_along place code entries has in (
        any_all (Binds heap key name) (Binds now key name) entries (λ k d below binds. (binds.0, same k d below ∙ binds.1)),
        any_all (Binds now key name) (Binds heap key name) entries (λ k d below binds. (binds.0, sym (same k d below) ∙ binds.1)),
      )

  dictionary_forth : (place : ObjectMember) (held : maps.FinMap key_cmp Name) → HasDictionary schema heap place held → HasDictionary schema now place held
  dictionary_forth place held has = record {
    code = has.code;
    keyed = has.keyed;
    entries = has.entries;
    some = has.some;
    has = collection_forth place has.code has.entries has.has;
    bound = λ key name.
        let same = binds_forth place has.code has.entries key name has.has in
        (λ e. same.0 ((has.bound key name).0 e), λ any. (has.bound key name).1 (same.1 any));
  }

  dictionary_back : (place : ObjectMember) (held : maps.FinMap key_cmp Name) → HasDictionary schema now place held → HasDictionary schema heap place held
  dictionary_back place held has =
      let was = collection_back place has.code has.entries has.some has.has in
      record {
        code = has.code;
        keyed = has.keyed;
        entries = has.entries;
        some = has.some;
        has = was;
        bound = λ key name.
            let same = binds_forth place has.code has.entries key name was in
            (λ e. same.1 ((has.bound key name).0 e), λ any. (has.bound key name).1 (same.0 any));
      }

  pub dictionaries_kept : (dictionaries : maps.FinMap object_member_cmp (maps.FinMap key_cmp Name)) → ShowsDictionaries schema heap dictionaries → ShowsDictionaries schema now dictionaries
  dictionaries_kept dictionaries shown place held = (λ e. dictionary_forth place held ((shown place held).0 e), λ has. (shown place held).1 (dictionary_back place held has))

  pub indexes_kept : (indexes : sets.FinSet index_cmp) → ShowsIndexes schema heap indexes → ShowsIndexes schema now indexes
  indexes_kept indexes shown index = (λ e. forth ((shown index).0 e), λ has. (shown index).1 (back has))
    where
      forth : HasIndex schema heap index → HasIndex schema now index
      forth has = record {
        address = has.address;
        tag = has.tag;
        def = has.def;
        head = has.head;
        has = begins_kept schema heap now address change has.address index.set.member.0 has.tag has.def has.head has.has;
        named = has.named;
        chain = has.chain;
        linked = chain_kept heap now address change.others change.before 244 has.tag.segment has.head.descriptor has.chain refl has.linked;
        descriptor = has.descriptor;
        there = has.there;
        path = has.path;
      }

      no_index : (pointer segment : ℕ) (chain : List ChainLink) (one : IndexDescriptor) → pointer ≡ 0 → IsChain now 244 segment pointer chain → Contains (indexes_of chain) one → ⊥
      no_index pointer segment [] one none linked there = omega (arith, there.1)
      no_index pointer segment (first ∷ others) one none linked there = linked.0 none

      back : HasIndex schema now index → HasIndex schema heap index
      back has = record {
        address = has.address;
        tag = has.tag;
        def = has.def;
        head = has.head;
        has = elim (begins_back schema heap now address change has.address index.set.member.0 has.tag has.def has.head has.has) [
          | inl was ↦ was
          | inr none ↦ absurd (no_index has.head.descriptor has.tag.segment has.chain has.descriptor (ap (λ (h : CollectionHead). h.descriptor) none) has.linked has.there)
        ];
        named = has.named;
        chain = has.chain;
        linked = chain_kept now heap address (λ a apart. sym (change.others a apart)) change.after 244 has.tag.segment has.head.descriptor has.chain refl has.linked;
        descriptor = has.descriptor;
        there = has.there;
        path = has.path;
      }

  pub roots_kept : (rows : List RootRow) (roots : maps.FinMap text_cmp Name) → KeepsRoots heap rows → ShowsRoots heap rows roots → ShowsRoots now rows roots
  roots_kept rows roots good shown root name =
      let same = all_then (IsGoodRoot heap) (λ (row : RootRow). name_at now row.pointer ≡ name_at heap row.pointer) rows (λ row is. names row.pointer is.leads.0 is.leads.1) good.good in (
        λ e. any_all (λ (row : RootRow). (row.name ≡ root) × (name_at heap row.pointer ≡ Some name)) (λ (row : RootRow). (row.name ≡ root) × (name_at now row.pointer ≡ Some name)) rows (λ k d below has. (has.0, same k d below ∙ has.1)) ((shown root name).0 e),
        λ has. (shown root name).1 (any_all (λ (row : RootRow). (row.name ≡ root) × (name_at now row.pointer ≡ Some name)) (λ (row : RootRow). (row.name ≡ root) × (name_at heap row.pointer ≡ Some name)) rows (λ k d below has. (has.0, sym (same k d below) ∙ has.1)) has),
      )

-- rule 7
pub good_roots : (heap now : Heap) (rows : List RootRow) → ((pointer code : ℕ) → code_at heap pointer ≡ Some code → code_at now pointer ≡ Some code) → KeepsRoots heap rows → KeepsRoots now rows
good_roots heap now rows codes keeps = record {
  good = all_then (IsGoodRoot heap) (IsGoodRoot now) rows (λ row is. record { name = is.name; leads = (is.leads.0, codes row.pointer is.leads.0 is.leads.1, is.leads.2) }) keeps.good;
  own = keeps.own;
}
