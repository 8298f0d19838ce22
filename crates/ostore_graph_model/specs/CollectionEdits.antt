-- What `append`, `put`, `bind` and `unbind`, and in a set `insert` and `remove`, come to on the pages, and the laws that
-- they give the graph that the command makes; of a set with an inverse, one side at a time.
use Rattle.std.specs.Prelude.{◌≡◌, ◌≢◌, ◌↔◌, ◌⊎◌, ◌<◌, ℕ, IsTrue, List, [], ◌∷◌, ◌++◌, length, map, All, Any, Some, None, slice_set, false}
use Rattle.std.specs.List.{Contains}
use Rattle.std.specs.FinMap as maps
use Rattle.ostore_graph_model.specs.Sets as sets
use Rattle.ostore_base.specs.declared.page.PageImage.{PageImage}
use Rattle.ostore_base.specs.declared.cell_codes.TheConstants.{LIST_CHUNK, INT_DICTIONARY_CHUNK, TEXT_DICTIONARY_CHUNK}
use Rattle.ostore_page_tags.specs.Rules.{is_type_code}
use Rattle.ostore_schema_layout.specs.declared.schema.Schema.{Schema}
use Rattle.ostore_schema_layout.specs.declared.schema.TypeNo.{TypeNo}
use Rattle.ostore_schema_layout.specs.declared.schema.MemberDef.{MemberDef}
use Rattle.ostore_schema_layout.specs.declared.schema.Inverse.{Inverse}
use Rattle.ostore_schema_layout.specs.declared.schema.MemberKind.TheVariants as kinds
use Rattle.ostore_graph_model.specs.declared.commands.Key.{Key}
use Rattle.ostore_graph_model.specs.Orders.{TypeMember, ObjectMember}
use Rattle.ostore_graph_model.specs.Graph.{Graph, list_at}
use Rattle.ostore_graph_model.specs.Links.{comes_first, pair_at}
use Rattle.ostore_graph_model.specs.Deeds.{LiveMember, member_at_type}
use Rattle.ostore_graph_model.specs.Deeds.Collections.{items_of, with_items, bindings_of, with_bindings}
use Rattle.ostore_graph_model.specs.Deeds.References.{with_joined}
use Rattle.ostore_graph_model.specs.Addresses.{PlacedCell, cell_at}
use Rattle.ostore_graph_model.specs.FixedPages.{roots_of, serial_of}
use Rattle.ostore_graph_model.specs.MemberValues.{values_of}
use Rattle.ostore_graph_model.specs.Chunks.{ChunkEntry}
use Rattle.ostore_graph_model.specs.Records.{CollectionHead, Slot, RowTag, heap_of}
use Rattle.ostore_graph_model.specs.Heap.{name_in, HasMember}
use Rattle.ostore_graph_model.specs.Chains.{chunk_code, ChainLink, IsIn, entries_of}
use Rattle.ostore_graph_model.specs.CellRules.{is_written}
use Rattle.ostore_graph_model.specs.Valid.{HasGoodPages}
use Rattle.ostore_graph_model.specs.PageEdits.{name_of}
use Rattle.ostore_graph_model.specs.Collections.{ChangesCollection, IsGoodNow}
use Rattle.ostore_graph_model.specs.LawsOfMeaning.{HoldGraph, LeavesGraph}

-- ---- the edit

-- The collection of a member had these entries before, and has these after, which are as they should be. The object's
-- own values, all other cells, roots and counters stay, and the cells that changed are written as their codes ask.
pub record WritesCollection (schema : Schema) (old new : List PageImage) (address member : ℕ) (tag : RowTag) (def : MemberDef) (before after : List ChunkEntry) : Type 0 where
  pub slots : List Slot
  pub was : CollectionHead
  pub is : CollectionHead
  pub chain : List ChainLink
  pub links : List ChainLink
  pub changes : ChangesCollection schema (heap_of schema old) (heap_of schema new) address member tag def slots was is chain links
  pub before_is : entries_of chain ≡ before
  pub after_is : entries_of links ≡ after
  pub good : IsGoodNow schema (heap_of schema new) def is links
  pub values : values_of schema new address ≡ values_of schema old address
  pub cells : (other : ℕ) → other ≢ address → (IsIn other links → ⊥) → cell_at new other ≡ cell_at old other
  pub written : (other : ℕ) (cell : PlacedCell) → cell_at new other ≡ Some cell → (other ≡ address) ⊎ IsIn other links → IsTrue (is_written schema cell)
  pub roots : roots_of new ≡ roots_of old
  pub serials : serial_of new ≡ serial_of old
  pub pages : HasGoodPages schema new

-- a member of an object's type, and the member of that one object
abbrev pub type_member : RowTag → ℕ → TypeMember
type_member tag member = record { ty = record { 0 = tag.code }; member = record { 0 = member } }

abbrev pub object_member : RowTag → ℕ → ObjectMember
object_member tag member = record { object = name_in tag; member = record { 0 = member } }

abbrev pub entry_items : List ChunkEntry → List ℕ
entry_items entries = map (λ entry. entry.item) entries

-- ---- lists

-- in good cells the count of a list is the number of its items in the graph
abbrev pub LawOfListSizes : Type 0
LawOfListSizes =
    (schema : Schema) (pages : List PageImage) (graph : Graph) (address member : ℕ) (tag : RowTag) (def : MemberDef) (head : CollectionHead)
    → HoldGraph schema pages graph → HasMember schema (heap_of schema pages) address member tag def (Slot.Begins head) → chunk_code def.kind ≡ LIST_CHUNK
    → head.count ≡ length (list_at graph (object_member tag member))

-- an item behind the others: the graph that `append` makes
abbrev pub LawOfAppends : Type 0
LawOfAppends =
    (schema : Schema) (old new : List PageImage) (address member : ℕ) (tag : RowTag) (def : MemberDef) (before after : List ChunkEntry) (pointer : ℕ) (to : PlacedCell) (graph : Graph) (at : LiveMember)
    → HoldGraph schema old graph → WritesCollection schema old new address member tag def before after
    → chunk_code def.kind ≡ LIST_CHUNK → cell_at old pointer ≡ Some to → entry_items after ≡ entry_items before ++ pointer ∷ []
    → member_at_type schema (name_in tag) (type_member tag member) ≡ Some at
    → LeavesGraph schema old new (with_items graph at (items_of graph at ++ name_of to ∷ []))

-- another item at a place of the list: the graph that `put` makes
abbrev pub LawOfPuts : Type 0
LawOfPuts =
    (schema : Schema) (old new : List PageImage) (address member : ℕ) (tag : RowTag) (def : MemberDef) (before after : List ChunkEntry) (index pointer : ℕ) (to : PlacedCell) (graph : Graph) (at : LiveMember)
    → HoldGraph schema old graph → WritesCollection schema old new address member tag def before after
    → chunk_code def.kind ≡ LIST_CHUNK → cell_at old pointer ≡ Some to → index < length before → entry_items after ≡ slice_set (entry_items before) index pointer
    → member_at_type schema (name_in tag) (type_member tag member) ≡ Some at
    → LeavesGraph schema old new (with_items graph at (slice_set (items_of graph at) index (name_of to)))

-- ---- dictionaries

-- one of the entries binds the key to the pointer
abbrev pub Pairs : List ChunkEntry → Key → ℕ → Type 0
Pairs entries key item = Any (λ entry. (entry.key ≡ Some key) × (entry.item ≡ item)) entries

abbrev pub IsDictionary : MemberDef → Type 0
IsDictionary def = (chunk_code def.kind ≡ INT_DICTIONARY_CHUNK) ⊎ (chunk_code def.kind ≡ TEXT_DICTIONARY_CHUNK)

-- a key has another item, or its first one: the graph that `bind` makes
abbrev pub LawOfBinds : Type 0
LawOfBinds =
    (schema : Schema) (old new : List PageImage) (address member : ℕ) (tag : RowTag) (def : MemberDef) (before after : List ChunkEntry) (key : Key) (pointer : ℕ) (to : PlacedCell) (graph : Graph) (at : LiveMember)
    → HoldGraph schema old graph → WritesCollection schema old new address member tag def before after
    → IsDictionary def → cell_at old pointer ≡ Some to
    → ((other : Key) (item : ℕ) → Pairs after other item ↔ (((other ≡ key) × (item ≡ pointer)) ⊎ ((other ≢ key) × Pairs before other item)))
    → member_at_type schema (name_in tag) (type_member tag member) ≡ Some at
    → LeavesGraph schema old new (with_bindings graph at (maps.insert (bindings_of graph at) key (name_of to)))

-- a key has no item, and each entry that is left has a key: the graph that `unbind` makes
abbrev pub LawOfUnbinds : Type 0
LawOfUnbinds =
    (schema : Schema) (old new : List PageImage) (address member : ℕ) (tag : RowTag) (def : MemberDef) (before after : List ChunkEntry) (key : Key) (graph : Graph) (at : LiveMember)
    → HoldGraph schema old graph → WritesCollection schema old new address member tag def before after
    → IsDictionary def → All (λ entry. entry.key ≢ None) after
    → ((other : Key) (item : ℕ) → Pairs after other item ↔ ((other ≢ key) × Pairs before other item))
    → member_at_type schema (name_in tag) (type_member tag member) ≡ Some at
    → LeavesGraph schema old new (with_bindings graph at (maps.remove (bindings_of graph at) key))

-- ---- one-sided sets

-- an item more: the graph that `insert` makes
abbrev pub LawOfInserts : Type 0
LawOfInserts =
    (schema : Schema) (old new : List PageImage) (address member : ℕ) (tag : RowTag) (def : MemberDef) (target : TypeNo) (before after : List ChunkEntry) (pointer : ℕ) (to : PlacedCell) (graph : Graph) (at : LiveMember)
    → HoldGraph schema old graph → WritesCollection schema old new address member tag def before after
    → def.kind ≡ kinds.Set target → def.inverse ≡ None → cell_at old pointer ≡ Some to
    → ((item : ℕ) → Contains (entry_items after) item ↔ ((item ≡ pointer) ⊎ Contains (entry_items before) item))
    → member_at_type schema (name_in tag) (type_member tag member) ≡ Some at
    → LeavesGraph schema old new (with_joined schema graph at (name_of to))

-- an item less: the graph that `remove` makes
abbrev pub LawOfRemoves : Type 0
LawOfRemoves =
    (schema : Schema) (old new : List PageImage) (address member : ℕ) (tag : RowTag) (def : MemberDef) (target : TypeNo) (before after : List ChunkEntry) (pointer : ℕ) (to : PlacedCell) (graph : Graph) (at : LiveMember)
    → HoldGraph schema old graph → WritesCollection schema old new address member tag def before after
    → def.kind ≡ kinds.Set target → def.inverse ≡ None → cell_at old pointer ≡ Some to → IsTrue (is_type_code to.code)
    → ((item : ℕ) → Contains (entry_items after) item ↔ ((item ≢ pointer) × Contains (entry_items before) item))
    → member_at_type schema (name_in tag) (type_member tag member) ≡ Some at
    → LeavesGraph schema old new (record graph { pairs = sets.remove graph.pairs (pair_at schema at.at at.owner (name_of to)) })

-- ---- two-sided sets. The other side changes in the same command, at whose end the links are good again.

-- an item more at the side that comes first joins the two objects
abbrev pub LawOfFirstSideInserts : Type 0
LawOfFirstSideInserts =
    (schema : Schema) (old new : List PageImage) (address member : ℕ) (tag : RowTag) (def : MemberDef) (target : TypeNo) (inverse : Inverse) (before after : List ChunkEntry) (pointer : ℕ) (to : PlacedCell) (graph : Graph)
    → HoldGraph schema old graph → WritesCollection schema old new address member tag def before after
    → def.kind ≡ kinds.Set target → def.inverse ≡ Some inverse → IsTrue (comes_first (type_member tag member) (Some inverse)) → cell_at old pointer ≡ Some to
    → ((item : ℕ) → Contains (entry_items after) item ↔ ((item ≡ pointer) ⊎ Contains (entry_items before) item))
    → HoldGraph schema new (record graph { pairs = sets.insert graph.pairs (record { link = type_member tag member; first = name_in tag; second = name_of to }) })

-- an item less there parts them
abbrev pub LawOfFirstSideRemoves : Type 0
LawOfFirstSideRemoves =
    (schema : Schema) (old new : List PageImage) (address member : ℕ) (tag : RowTag) (def : MemberDef) (target : TypeNo) (inverse : Inverse) (before after : List ChunkEntry) (pointer : ℕ) (to : PlacedCell) (graph : Graph)
    → HoldGraph schema old graph → WritesCollection schema old new address member tag def before after
    → def.kind ≡ kinds.Set target → def.inverse ≡ Some inverse → IsTrue (comes_first (type_member tag member) (Some inverse)) → cell_at old pointer ≡ Some to → IsTrue (is_type_code to.code)
    → ((item : ℕ) → Contains (entry_items after) item ↔ ((item ≢ pointer) × Contains (entry_items before) item))
    → HoldGraph schema new (record graph { pairs = sets.remove graph.pairs (record { link = type_member tag member; first = name_in tag; second = name_of to }) })

-- what changes at the side that comes second leaves the graph
abbrev pub LawOfSecondSides : Type 0
LawOfSecondSides =
    (schema : Schema) (old new : List PageImage) (address member : ℕ) (tag : RowTag) (def : MemberDef) (target : TypeNo) (inverse : Inverse) (before after : List ChunkEntry) (graph : Graph)
    → HoldGraph schema old graph → WritesCollection schema old new address member tag def before after
    → def.kind ≡ kinds.Set target → def.inverse ≡ Some inverse → comes_first (type_member tag member) (Some inverse) ≡ false
    → HoldGraph schema new graph
