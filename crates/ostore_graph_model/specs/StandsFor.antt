-- The graph that a list of pages stands for: each of its seven parts, by what it answers. A pointer stands for
-- the name of the row that it leads to, live or dead.
use Rattle.std.specs.Prelude.{◌≡◌, ◌≢◌, ◌↔◌, ◌⊎◌, ℕ, true, List, [], map, Any, take, Option, Some}
use Rattle.std.specs.List.{Contains}
use Rattle.std.specs.Ordering.{nat_cmp}
use Rattle.std.specs.FinMap as maps
use Rattle.ostore_graph_model.specs.Sets as sets
use Rattle.ostore_base.specs.declared.page.PageImage.{PageImage}
use Rattle.ostore_base.specs.declared.cell_codes.TheConstants.{LIST_CHUNK, INT_DICTIONARY_CHUNK, TEXT_DICTIONARY_CHUNK, INDEX_DESCRIPTOR}
use Rattle.ostore_schema_layout.specs.declared.schema.Schema.{Schema}
use Rattle.ostore_schema_layout.specs.declared.schema.MemberDef.{MemberDef}
use Rattle.ostore_graph_model.specs.declared.values.Name.{Name}
use Rattle.ostore_graph_model.specs.declared.values.Scalar.{Scalar}
use Rattle.ostore_graph_model.specs.declared.commands.Key.{Key}
use Rattle.ostore_graph_model.specs.Orders.{TypeMember, Pair, ObjectMember, PathIndex, name_cmp, pair_cmp, object_member_cmp, text_cmp, index_cmp}
use Rattle.ostore_graph_model.specs.Graph.{Graph, Object, Dictionary}
use Rattle.ostore_graph_model.specs.FixedPages.{RootRow, roots_of, serial_of}
use Rattle.ostore_graph_model.specs.MemberValues.{values_of}
use Rattle.ostore_graph_model.specs.Chunks.{ChunkEntry, IndexDescriptor}
use Rattle.ostore_graph_model.specs.Records.{CollectionHead, Slot, RowTag, heap_of}
use Rattle.ostore_graph_model.specs.Heap.{Heap, name_in, name_at, IsObject, HasMember}
use Rattle.ostore_graph_model.specs.Chains.{chunk_code, ChainLink, IsChain, indexes_of, HasEntries, LeadsTo}
use Rattle.ostore_graph_model.specs.Links.{IsLink}

-- ---- objects

-- a live object of this name stands at an address, with its type and its values
pub record HasObject (heap : Heap) (values : ℕ → Option (List (Option Scalar))) (name : Name) (object : Object) : Type 0 where
  pub address : ℕ
  pub tag : RowTag
  pub slots : List Slot
  pub stands : IsObject heap address tag slots
  pub named : name_in tag ≡ name
  pub ty : tag.code ≡ object.ty.0
  pub held : values address ≡ Some object.values

-- ---- links

-- the live object x has, at a member, a pointer to a row that is named y
pub record Joins (schema : Schema) (heap : Heap) (at : TypeMember) (x y : Name) : Type 0 where
  pub address : ℕ
  pub tag : RowTag
  pub def : MemberDef
  pub slot : Slot
  pub has : HasMember schema heap address at.member.0 tag def slot
  pub ty : tag.code ≡ at.ty.0
  pub from : name_in tag ≡ x
  pub pointer : ℕ
  pub leads : LeadsTo heap tag.segment def.kind slot pointer
  pub to : name_at heap pointer ≡ Some y

-- a pair is read from the first side of its link; that the other side agrees is a rule of its own
pub record HasPair (schema : Schema) (heap : Heap) (pair : Pair) : Type 0 where
  pub link : IsLink schema pair.link
  pub joins : Joins schema heap pair.link pair.first pair.second

-- ---- lists and dictionaries

-- the collection at a member of a live object has these entries, in chunks of a code
pub record HasCollection (schema : Schema) (heap : Heap) (place : ObjectMember) (code : ℕ) (entries : List ChunkEntry) : Type 0 where
  pub address : ℕ
  pub tag : RowTag
  pub def : MemberDef
  pub head : CollectionHead
  pub has : HasMember schema heap address place.member.0 tag def (Slot.Begins head)
  pub named : name_in tag ≡ place.object
  pub kind : chunk_code def.kind ≡ code
  pub all : HasEntries heap code tag.segment head.first entries

-- a list with these items, which are some
pub record HasList (schema : Schema) (heap : Heap) (place : ObjectMember) (names : List Name) : Type 0 where
  pub entries : List ChunkEntry
  pub some : entries ≢ []
  pub has : HasCollection schema heap place LIST_CHUNK entries
  pub named : map (λ entry. name_at heap entry.item) entries ≡ map Some names

-- an entry binds a key to a row of this name
abbrev pub Binds : Heap → Key → Name → ChunkEntry → Type 0
Binds heap key name entry = (entry.key ≡ Some key) × (name_at heap entry.item ≡ Some name)

-- a dictionary with these bindings, which are some
pub record HasDictionary (schema : Schema) (heap : Heap) (place : ObjectMember) (dictionary : Dictionary) : Type 0 where
  pub code : ℕ
  pub keyed : (code ≡ INT_DICTIONARY_CHUNK) ⊎ (code ≡ TEXT_DICTIONARY_CHUNK)
  pub entries : List ChunkEntry
  pub some : entries ≢ []
  pub has : HasCollection schema heap place code entries
  pub bound : (key : Key) (name : Name) → (maps.get dictionary key ≡ Some name) ↔ Any (Binds heap key name) entries

-- ---- indexes

-- the set has a descriptor, with these members in the steps that are used
pub record HasIndex (schema : Schema) (heap : Heap) (index : PathIndex) : Type 0 where
  pub address : ℕ
  pub tag : RowTag
  pub def : MemberDef
  pub head : CollectionHead
  pub has : HasMember schema heap address index.set.member.0 tag def (Slot.Begins head)
  pub named : name_in tag ≡ index.set.object
  pub chain : List ChainLink
  pub linked : IsChain heap INDEX_DESCRIPTOR tag.segment head.descriptor chain
  pub descriptor : IndexDescriptor
  pub there : Contains (indexes_of chain) descriptor
  pub path : map (λ step. record { 0 = step.member }) (take descriptor.steps descriptor.path) ≡ index.path

-- ---- roots

-- a row on page 9 binds the root to a row of this name
abbrev pub HasRoot : Heap → List RootRow → List ℕ → Name → Type 0
HasRoot heap roots root name = Any (λ row. (row.name ≡ root) × (name_at heap row.pointer ≡ Some name)) roots

-- ---- the parts of the graph, each by what it answers

abbrev pub ShowsObjects : Heap → (ℕ → Option (List (Option Scalar))) → maps.FinMap name_cmp Object → Type 0
ShowsObjects heap values objects = (name : Name) (object : Object) → (maps.get objects name ≡ Some object) ↔ HasObject heap values name object

abbrev pub ShowsPairs : Schema → Heap → sets.FinSet pair_cmp → Type 0
ShowsPairs schema heap pairs = (pair : Pair) → (sets.contains pairs pair ≡ true) ↔ HasPair schema heap pair

-- a list or dictionary without items isn't in the map
abbrev pub ShowsLists : Schema → Heap → maps.FinMap object_member_cmp (List Name) → Type 0
ShowsLists schema heap lists = (place : ObjectMember) (names : List Name) → (maps.get lists place ≡ Some names) ↔ HasList schema heap place names

abbrev pub ShowsDictionaries : Schema → Heap → maps.FinMap object_member_cmp (Dictionary) → Type 0
ShowsDictionaries schema heap dictionaries =
    (place : ObjectMember) (dictionary : Dictionary) → (maps.get dictionaries place ≡ Some dictionary) ↔ HasDictionary schema heap place dictionary

abbrev pub ShowsRoots : Heap → List RootRow → maps.FinMap text_cmp Name → Type 0
ShowsRoots heap rows roots = (root : List ℕ) (name : Name) → (maps.get roots root ≡ Some name) ↔ HasRoot heap rows root name

-- a segment that has drawn no serial isn't in the map
abbrev pub ShowsSerials : (ℕ → ℕ) → maps.FinMap nat_cmp ℕ → Type 0
ShowsSerials counters serials = (segment serial : ℕ) → (maps.get serials segment ≡ Some serial) ↔ ((counters segment ≡ serial) × (serial ≢ 0))

abbrev pub ShowsIndexes : Schema → Heap → sets.FinSet index_cmp → Type 0
ShowsIndexes schema heap indexes = (index : PathIndex) → (sets.contains indexes index ≡ true) ↔ HasIndex schema heap index

-- a list of pages stands for a graph
pub record StandsFor (schema : Schema) (pages : List PageImage) (graph : Graph) : Type 0 where
  pub objects : ShowsObjects (heap_of schema pages) (values_of schema pages) graph.objects
  pub pairs : ShowsPairs schema (heap_of schema pages) graph.pairs
  pub lists : ShowsLists schema (heap_of schema pages) graph.lists
  pub dictionaries : ShowsDictionaries schema (heap_of schema pages) graph.dictionaries
  pub roots : ShowsRoots (heap_of schema pages) (roots_of pages) graph.roots
  pub serials : ShowsSerials (serial_of pages) graph.serials
  pub indexes : ShowsIndexes schema (heap_of schema pages) graph.indexes
