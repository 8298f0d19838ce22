-- The member of a live object that a command names, or why there is none.
use Rattle.std.specs.Prelude.{◌≡◌, ◌<◌, ◌+◌, ◌*◌, ℕ, ℤ, Bool, false, not, ◌&&◌, List, [], ◌∷◌, Some}
use Rattle.std.specs.List.{slice_get}
use Rattle.std.specs.FinMap as maps
use Rattle.ostore_base.specs.declared.page.PageImage.{PageImage}
use Rattle.ostore_base.specs.declared.page.TheConstants.{PAGE_SIZE}
use Rattle.ostore_page_tags.specs.Numbers.{int_at}
use Rattle.ostore_page_tags.specs.Allocated.{HasFree}
use Rattle.ostore_schema_layout.specs.declared.schema.Schema.{Schema}
use Rattle.ostore_schema_layout.specs.declared.schema.MemberDef.{MemberDef}
use Rattle.ostore_schema_layout.specs.declared.schema.MemberKind.{MemberKind}
use Rattle.ostore_schema_layout.specs.declared.schema.MemberKind.TheVariants as kinds
use Rattle.ostore_schema_layout.specs.Numbers.{members_of}
use Rattle.ostore_graph_model.specs.declared.refusal.Refusal.{Refusal}
use Rattle.ostore_graph_model.specs.declared.refusal.Refusal.TheVariants.{WrongKind}
use Rattle.ostore_graph_model.specs.Graph.{Graph, Object}
use Rattle.ostore_graph_model.specs.Deeds.{Vars, Stepped, Deed, LiveMember, refused, refused_where, outcome}
use Rattle.ostore_graph_model.specs.Step.{Task, line_deed}
use Rattle.ostore_graph_model.specs.Addresses.{PlacedCell, cell_at}
use Rattle.ostore_graph_model.specs.MemberValues.{values_in}
use Rattle.ostore_graph_model.specs.PageEdits.{HasPlace, WritesInt, name_of, member_of}
use Rattle.ostore_graph_model.specs.Valid.{IsValid}
use Rattle.ostore_object_ops.specs.declared.lookup.Found.{Found}
use Rattle.ostore_object_ops.specs.Means.{Leads, Means}
use Rattle.ostore_object_ops.specs.Claiming.{KeepsDataPages}

-- a command that reads one variable and is on a member of its object
abbrev pub on_member : Schema → Vars → Graph → List ℕ → List ℕ → (MemberKind → Bool) → (LiveMember → Deed) → Bool → Bool → Stepped
on_member schema vars graph variable member kind deed writes update =
    outcome vars graph (line_deed schema vars graph update (record { writes = writes; reads = variable ∷ []; task = Task.on_member variable member kind deed }))

-- what a command asks of a member that is there, and what it does
abbrev pub member_deed : (MemberKind → Bool) → (LiveMember → Deed) → LiveMember → Deed
member_deed kind deed at = record { tests = refused_where (not (kind at.def.kind)) WrongKind ∷ (deed at).tests; gives = (deed at).gives }

-- the address of a cell, as it is stored
abbrev pub address_of : Found → ℕ
address_of found = found.page.0 * PAGE_SIZE + found.offset

-- the object of a live cell, in the words of the graph
abbrev pub object_in : Schema → PlacedCell → Object
object_in schema cell = record { ty = record { 0 = cell.code }; values = values_in schema cell }

-- the member, as commands see it
abbrev pub member_in : PlacedCell → ℕ → MemberDef → LiveMember
member_in cell number def = record { owner = name_of cell; at = member_of cell number; def = def }

-- The member of a live object was found. On every graph that the pages mean, a command on it works on the object of
-- the cell there.
pub record IsMember (schema : Schema) (leads : Leads) (variable member : List ℕ) (found : Found) (list : List PageImage) : Type 0 where
  pub low : found.offset < PAGE_SIZE
  pub cell : PlacedCell
  pub has : HasPlace schema list (address_of found) found.number.0 cell found.place
  pub def : MemberDef
  pub defined : slice_get (members_of schema cell.code) found.number.0 ≡ Some def
  pub kind : found.place.kind ≡ def.kind
  pub object : (vars : Vars) (graph : Graph) → Means schema list leads vars graph
      → maps.get graph.objects (name_of cell) ≡ Some (object_in schema cell)
  pub gives : (vars : Vars) (graph : Graph) → Means schema list leads vars graph
      → (kind : MemberKind → Bool) (deed : LiveMember → Deed) (writes update : Bool) → (writes && not update) ≡ false
      → on_member schema vars graph variable member kind deed writes update
      ≡ outcome vars graph (member_deed kind deed (member_in cell found.number.0 def))

-- ---- ints

-- a live object of the valid list has an int at the member that was found
pub record HasInt (schema : Schema) (found : Found) (list : List PageImage) : Type 0 where
  pub valid : IsValid schema list
  pub low : found.offset < PAGE_SIZE
  pub cell : PlacedCell
  pub has : HasPlace schema list (address_of found) found.number.0 cell found.place
  pub kind : found.place.kind ≡ kinds.Int

-- the cell has this int there
abbrev pub HoldsInt : Found → ℤ → List PageImage → Type 0
HoldsInt found value list =
    (cell : PlacedCell) → cell_at list (address_of found) ≡ Some cell → value ≡ int_at found.place.offset cell.bytes

-- the int there is this one now
pub record StoresInt (schema : Schema) (found : Found) (value : ℤ) (old new : List PageImage) : Type 0 where
  pub cell : PlacedCell
  pub writes : WritesInt schema old new (address_of found) found.number.0 cell found.place value
  pub taken : (free : List ℕ) → HasFree old free → HasFree new free
  pub pages : KeepsDataPages old new

-- every command on such a member is refused
abbrev pub RefusesMember : Schema → Leads → List ℕ → List ℕ → Refusal → List PageImage → Type 0
RefusesMember schema leads variable member refusal list =
    (vars : Vars) (graph : Graph) → Means schema list leads vars graph
    → (kind : MemberKind → Bool) (deed : LiveMember → Deed) (writes update : Bool) → (writes && not update) ≡ false
    → on_member schema vars graph variable member kind deed writes update ≡ refused refusal vars graph
