-- What makes the indexes of a heap good (rule 12): each has a lawful path of its own, and as its entries exactly
-- the path values of its set's members, in order. The path values are those of the graph that the pages stand for.
use Rattle.std.specs.Prelude.{◌≡◌, ◌≢◌, ◌↔◌, ℕ, ◌≤◌, IsTrue, List, [], ◌∷◌, map, take, All, Any, Some, None}
use Rattle.std.specs.List.{slice_get}
use Rattle.std.specs.Option.{option_map}
use Rattle.std.specs.declared.cmp.Ordering.TheVariants.{Less}
use Rattle.std.specs.Ordering.{ordering_then}
use Rattle.ostore_base.specs.declared.cell_codes.TheConstants.{INDEX_DESCRIPTOR}
use Rattle.ostore_schema_layout.specs.declared.schema.Schema.{Schema}
use Rattle.ostore_schema_layout.specs.declared.schema.MemberDef.{MemberDef}
use Rattle.ostore_schema_layout.specs.declared.schema.MemberKind.{MemberKind}
use Rattle.ostore_schema_layout.specs.declared.schema.MemberKind.TheVariants as kinds
use Rattle.ostore_schema_layout.specs.Cells.{ArePairwise}
use Rattle.ostore_schema_layout.specs.Numbers.{members_of}
use Rattle.ostore_graph_model.specs.declared.values.Name.{Name}
use Rattle.ostore_graph_model.specs.declared.commands.Key.{Key}
use Rattle.ostore_graph_model.specs.declared.commands.Key.TheVariants as keys
use Rattle.ostore_graph_model.specs.declared.values.Scalar.{Scalar}
use Rattle.ostore_graph_model.specs.declared.values.Scalar.TheVariants as scalars
use Rattle.ostore_graph_model.specs.Sets as sets
use Rattle.ostore_graph_model.specs.Orders.{TypeMember, name_cmp, key_cmp}
use Rattle.ostore_graph_model.specs.Graph.{Graph}
use Rattle.ostore_graph_model.specs.Limits.{most_steps}
use Rattle.ostore_graph_model.specs.Chunks.{ChunkEntry, PathStep, IndexDescriptor, of_ints, of_texts}
use Rattle.ostore_graph_model.specs.Records.{CollectionHead, Slot, RowTag}
use Rattle.ostore_graph_model.specs.Heap.{Heap, name_in, name_at, HasMember}
use Rattle.ostore_graph_model.specs.Chains.{item_type, ChainLink, IsChain, indexes_of, HasEntries}
use Rattle.ostore_graph_model.specs.Owners.{index_code}
use Rattle.ostore_graph_model.specs.Links.{side}
use Rattle.ostore_graph_model.specs.Paths.{path_value}

-- ---- paths

abbrev pub step_member : PathStep → TypeMember
step_member step = record { ty = record { 0 = step.ty }; member = record { 0 = step.member } }

-- the kind of a path's last step, and its number in a descriptor
abbrev pub IsKeyKind : MemberKind → ℕ → Type 0
IsKeyKind kinds.Int number = number ≡ of_ints
IsKeyKind (kinds.Text max) number = number ≡ of_texts
IsKeyKind other number = ⊥

-- a reference to objects of this type
abbrev pub IsRefTo : MemberKind → ℕ → Type 0
IsRefTo (kinds.Ref target) number = target.0 ≡ number
IsRefTo other number = ⊥

-- a path leads from a type over references with inverses to an int or a text; a path without steps leads nowhere
abbrev pub IsLawfulPath : Schema → ℕ → List PathStep → ℕ → Type 0
IsLawfulPath schema ty [] kind = ⊥
IsLawfulPath schema ty (last ∷ []) kind =
    (last.ty ≡ ty) × ((def : MemberDef) × (slice_get (members_of schema ty) last.member ≡ Some def) × IsKeyKind def.kind kind)
IsLawfulPath schema ty (step ∷ next ∷ path) kind =
    (step.ty ≡ ty) × ((def : MemberDef) × (target : ℕ) × (slice_get (members_of schema ty) step.member ≡ Some def) × IsRefTo def.kind target × (def.inverse ≢ None) × IsLawfulPath schema target (next ∷ path) kind)

-- the steps of a descriptor that are used
abbrev pub used_steps : IndexDescriptor → List PathStep
used_steps index = take index.steps index.path

-- ---- entries

-- an int or a text as a key
abbrev pub key_of : Scalar → Key
key_of (scalars.Int value) = keys.Int value
key_of (scalars.Text value) = keys.Text value

-- an entry says a path value of an object, whose name it keeps
abbrev pub Tells : Heap → Key → Name → ChunkEntry → Type 0
Tells heap key name entry = (entry.key ≡ Some key) × (entry.name ≡ name) × (name_at heap entry.item ≡ Some name)

abbrev pub TellsSome : Heap → ChunkEntry → Type 0
TellsSome heap entry = (key : Key) × (name : Name) × Tells heap key name entry

-- entries ascend by key, segment and serial
abbrev pub AreInOrder : ChunkEntry → ChunkEntry → Type 0
AreInOrder earlier later =
    (first second : Key) → earlier.key ≡ Some first → later.key ≡ Some second → ordering_then (key_cmp first second) (name_cmp earlier.name later.name) ≡ Less

-- The entries of an index on a set are the path values of its members: each entry tells one, each is told, and
-- they are in order. A member without a path value has no entry.
pub record IsIndexOf (schema : Schema) (heap : Heap) (graph : Graph) (set : TypeMember) (owner : Name) (path : List TypeMember) (entries : List ChunkEntry) : Type 0 where
  pub told : All (TellsSome heap) entries
  pub exact : (key : Key) (name : Name) → Any (Tells heap key name) entries ↔ (IsTrue (sets.contains (side schema graph set owner) name) × (option_map key_of (path_value schema graph path name) ≡ Some key))
  pub order : ArePairwise AreInOrder entries

-- ---- the indexes of an object

-- An index has one to three lawful steps, its set has an inverse, and its entries are right. A descriptor of no
-- steps, of more than three or of another kind fails here.
pub record IsGoodIndex (schema : Schema) (heap : Heap) (graph : Graph) (tag : RowTag) (member : ℕ) (def : MemberDef) (index : IndexDescriptor) : Type 0 where
  pub few : index.steps ≤ most_steps
  pub lawful : IsLawfulPath schema (item_type def.kind) (used_steps index) index.kind
  pub sided : def.inverse ≢ None
  pub entries : List ChunkEntry
  pub has : HasEntries heap (index_code index.kind) tag.segment index.first entries
  pub exact : IsIndexOf schema heap graph (record { ty = record { 0 = tag.code }; member = record { 0 = member } }) (name_in tag) (map step_member (used_steps index)) entries

-- the indexes of a set, along its chain of descriptors
abbrev pub AreIndexesOf : Schema → Heap → ℕ → ℕ → RowTag → MemberDef → List ChainLink → Type 0
AreIndexesOf schema heap address member tag def chain =
    (head : CollectionHead) × HasMember schema heap address member tag def (Slot.Begins head) × IsChain heap INDEX_DESCRIPTOR tag.segment head.descriptor chain

-- the indexes of the sets of an object: each is good, and no two of one set have one path
pub record KeepsIndexes (schema : Schema) (heap : Heap) (graph : Graph) (address : ℕ) : Type 0 where
  pub good : (member : ℕ) (tag : RowTag) (def : MemberDef) (chain : List ChainLink) → AreIndexesOf schema heap address member tag def chain
      → All (IsGoodIndex schema heap graph tag member def) (indexes_of chain)
  pub apart : (member : ℕ) (tag : RowTag) (def : MemberDef) (chain : List ChainLink) → AreIndexesOf schema heap address member tag def chain
      → ArePairwise (λ earlier later. used_steps earlier ≢ used_steps later) (indexes_of chain)
