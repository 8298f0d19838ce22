-- What a graph of a schema is: of which names, and of which types and kinds, all that it holds is.
use Rattle.std.specs.Prelude.{◌≡◌, ◌≢◌, ℕ, ◌≤◌, Bool, true, IsTrue, FitsSigned, List, [], ◌∷◌, length, Option, Some, None}
use Rattle.std.specs.Int.{w64}
use Rattle.std.specs.List.{AllByRecursion}
use Rattle.std.specs.Str.{IsUtf8}
use Rattle.std.specs.FinMap as maps
use Rattle.ostore_base.specs.Limits.{most_segments, most_roots}
use Rattle.ostore_text_words.specs.Words.{is_identifier}
use Rattle.ostore_schema_layout.specs.declared.schema.Schema.{Schema}
use Rattle.ostore_schema_layout.specs.declared.schema.TypeNo.{TypeNo}
use Rattle.ostore_schema_layout.specs.declared.schema.MemberNo.{MemberNo}
use Rattle.ostore_schema_layout.specs.declared.schema.MemberDef.{MemberDef}
use Rattle.ostore_schema_layout.specs.declared.schema.MemberKind.{MemberKind}
use Rattle.ostore_schema_layout.specs.declared.schema.MemberKind.TheVariants as kinds
use Rattle.ostore_schema_layout.specs.Cells.{IsType}
use Rattle.ostore_schema_layout.specs.Lawful.{IsLawful}
use Rattle.ostore_schema_layout.specs.Numbers.{members_of, member_at}
use Rattle.ostore_graph_model.specs.declared.values.Name.{Name}
use Rattle.ostore_graph_model.specs.declared.values.Scalar.{Scalar}
use Rattle.ostore_graph_model.specs.declared.values.Scalar.TheVariants as scalars
use Rattle.ostore_graph_model.specs.declared.values.Reply.{Reply}
use Rattle.ostore_graph_model.specs.declared.commands.Command.{Command}
use Rattle.ostore_graph_model.specs.declared.commands.Command.TheVariants.{New, SetRoot, Set, Bind, Index}
use Rattle.ostore_graph_model.specs.declared.commands.Operand.TheVariants as operands
use Rattle.ostore_graph_model.specs.declared.commands.Key.{Key}
use Rattle.ostore_graph_model.specs.declared.commands.Key.TheVariants as keys
use Rattle.ostore_graph_model.specs.Limits.{longest_key, most_steps}
use Rattle.ostore_graph_model.specs.Sets as sets
use Rattle.ostore_graph_model.specs.Orders.{TypeMember, Pair, ObjectMember, PathIndex}
use Rattle.ostore_graph_model.specs.Kinds.{is_scalar, is_set, is_list, is_dictionary, takes_key, target_of}
use Rattle.ostore_graph_model.specs.Graph.{Graph, Object, Dictionary, empty_graph, is_drawn}
use Rattle.ostore_graph_model.specs.Links.{def_of, IsLink}
use Rattle.ostore_graph_model.specs.Deeds.{Vars, object_of}
use Rattle.ostore_graph_model.specs.Deeds.Objects.{greatest_serial}
use Rattle.ostore_graph_model.specs.Step.{Steps}
use Rattle.ostore_graph_model.specs.LiveGraphs.{HoldsLive, HasOnePartner}

-- ---- values

-- a text of UTF-8, of at most so many bytes
abbrev pub IsText : ℕ → List ℕ → Type 0
IsText most text = (length text ≤ most) × IsUtf8 text

-- what an object holds at a member of a kind: an int of 64 bits, a text that fits, or nothing
abbrev pub IsValueOf : MemberKind → Option Scalar → Type 0
IsValueOf kinds.Int (Some (scalars.Int value)) = FitsSigned w64 value
IsValueOf (kinds.Text max) (Some (scalars.Text text)) = IsText max text
IsValueOf (kinds.Ref target) None = Unit {0}
IsValueOf (kinds.Set target) None = Unit {0}
IsValueOf (kinds.List target) None = Unit {0}
IsValueOf (kinds.DictInt target) None = Unit {0}
IsValueOf (kinds.DictText target) None = Unit {0}
IsValueOf other value = ⊥

-- a value for each member, in order
abbrev pub AreValuesOf : List MemberDef → List (Option Scalar) → Type 0
AreValuesOf [] [] = Unit {0}
AreValuesOf (def ∷ defs) (value ∷ values) = IsValueOf def.kind value × AreValuesOf defs values
AreValuesOf [] (value ∷ values) = ⊥
AreValuesOf (def ∷ defs) [] = ⊥

-- an object is of a type of the schema, and holds at each member what a member of its kind holds
pub record IsObjectOf (schema : Schema) (object : Object) : Type 0 where
  pub ty : IsType schema object.ty.0
  pub values : AreValuesOf (members_of schema object.ty.0) object.values

-- ---- what leads to objects

-- the name is that of an object of the type: it was drawn, and where it is live, its object is of this type
pub record IsNameOf (graph : Graph) (ty : TypeNo) (x : Name) : Type 0 where
  pub drawn : is_drawn graph x ≡ true
  pub typed : (object : Object) → maps.get graph.objects x ≡ Some object → object.ty ≡ ty

-- A pair is of a link, goes by the link's first side, and joins an object of the type on that side with one of the
-- type to which it leads.
pub record IsPairOf (schema : Schema) (graph : Graph) (pair : Pair) : Type 0 where
  pub link : IsLink schema pair.link
  pub first : IsNameOf graph pair.link.ty pair.first
  pub second : IsNameOf graph (target_of link.def.kind) pair.second

-- the member of an object, as a member of the object's type
abbrev pub member_in : Graph → ObjectMember → TypeMember
member_in graph at = record { ty = (object_of graph at.object).ty; member = at.member }

-- these are the items of a list, each of the type to which the list leads
pub record IsListOf (schema : Schema) (graph : Graph) (at : ObjectMember) (items : List Name) : Type 0 where
  pub def : MemberDef
  pub defined : def_of schema (member_in graph at) ≡ Some def
  pub of_kind : is_list def.kind ≡ true
  pub typed : AllByRecursion (IsNameOf graph (target_of def.kind)) items

-- a key is an int of 64 bits, or a text that is no longer than a key may be
abbrev pub IsKey : Key → Type 0
IsKey (keys.Int value) = FitsSigned w64 value
IsKey (keys.Text text) = IsText longest_key text

-- these are the bindings of a dictionary, each of a key of its kind to an object of the type to which it leads
pub record IsDictionaryOf (schema : Schema) (graph : Graph) (at : ObjectMember) (bindings : Dictionary) : Type 0 where
  pub def : MemberDef
  pub defined : def_of schema (member_in graph at) ≡ Some def
  pub of_kind : is_dictionary def.kind ≡ true
  pub typed : (key : Key) (x : Name) → maps.get bindings key ≡ Some x
      → (takes_key def.kind key ≡ true) × IsKey key × IsNameOf graph (target_of def.kind) x

-- ---- roots, serials, indexes

-- a root is named by an identifier, and is bound to an object that was made, live or deleted
pub record IsRootOf (graph : Graph) (root : List ℕ) (x : Name) : Type 0 where
  pub named : IsTrue (is_identifier root)
  pub drawn : is_drawn graph x ≡ true

-- a segment has drawn serials up to this one
pub record IsLastSerial (segment serial : ℕ) : Type 0 where
  pub least : 1 ≤ segment
  pub most : segment ≤ most_segments
  pub some : 1 ≤ serial
  pub fits : serial ≤ greatest_serial

-- a path leads from a type over references with inverses to an int or a text
abbrev pub LeadsOn : Schema → TypeNo → List MemberNo → Type 0
LeadsOn schema ty [] = ⊥
LeadsOn schema ty (last ∷ []) = (def : MemberDef) × (member_at schema ty last ≡ Some def) × (is_scalar def.kind ≡ true)
LeadsOn schema ty (member ∷ next ∷ path) =
    (def : MemberDef) × (target : TypeNo) × (member_at schema ty member ≡ Some def) × (def.kind ≡ kinds.Ref target)
    × (def.inverse ≢ None) × LeadsOn schema target (next ∷ path)

-- an index is on a set with an inverse, and leads from its items by one to three members
pub record IsIndexOf (schema : Schema) (graph : Graph) (index : PathIndex) : Type 0 where
  pub def : MemberDef
  pub defined : def_of schema (member_in graph index.set) ≡ Some def
  pub of_kind : is_set def.kind ≡ true
  pub sided : def.inverse ≢ None
  pub leads : LeadsOn schema (target_of def.kind) index.path
  pub few : length index.path ≤ most_steps

-- ---- *Graph*

-- all that a graph of the schema has
pub record IsGraph (schema : Schema) (graph : Graph) : Type 0 where
  -- what it holds is of live objects, and nothing is held that is empty
  pub live : HoldsLive schema graph
  -- a reference has one partner at most
  pub partners : HasOnePartner schema graph
  -- each object is of a type, with values of its members' kinds
  pub objects : (x : Name) (object : Object) → maps.get graph.objects x ≡ Some object → IsObjectOf schema object
  -- each pair is of a link and of the types that it joins
  pub pairs : (pair : Pair) → sets.contains graph.pairs pair ≡ true → IsPairOf schema graph pair
  -- each list is of a list member, with items of its type
  pub lists : (at : ObjectMember) (items : List Name) → maps.get graph.lists at ≡ Some items → IsListOf schema graph at items
  -- each dictionary is of a dictionary member, with keys of its kind and items of its type
  pub dictionaries : (at : ObjectMember) (bindings : Dictionary) → maps.get graph.dictionaries at ≡ Some bindings → IsDictionaryOf schema graph at bindings
  -- each root has an identifier, and is bound to what was made
  pub roots : (root : List ℕ) (x : Name) → maps.get graph.roots root ≡ Some x → IsRootOf graph root x
  -- there are 101 roots at most
  pub few_roots : maps.len graph.roots ≤ most_roots
  -- segments and serials are within their limits
  pub serials : (segment serial : ℕ) → maps.get graph.serials segment ≡ Some serial → IsLastSerial segment serial
  -- each index is on a set with an inverse, and its path leads on
  pub indexes : (index : PathIndex) → sets.contains graph.indexes index ≡ true → IsIndexOf schema graph index

-- ---- laws

-- What a command writes into the graph is within its limits: an int of 64 bits, a text of UTF-8, a segment from 1 to
-- 255, a root that is named by an identifier, a path of at most three members. A value of the command's type need not
-- be so.
abbrev pub IsWithinLimits : Command → Type 0
IsWithinLimits (New to ty segment) = (1 ≤ segment) × (segment ≤ most_segments)
IsWithinLimits (SetRoot root item) = IsTrue (is_identifier root)
IsWithinLimits (Set object member (operands.Int value)) = FitsSigned w64 value
IsWithinLimits (Set object member (operands.Text text)) = IsUtf8 text
IsWithinLimits (Bind object member (keys.Int value) item) = FitsSigned w64 value
IsWithinLimits (Bind object member (keys.Text text) item) = IsUtf8 text
IsWithinLimits (Index object member path) = length path ≤ most_steps
IsWithinLimits other = Unit {0}

-- every command, refused or not, leaves a graph of the schema
abbrev pub LawOfGraphs : Type 0
LawOfGraphs =
    (schema : Schema) → IsLawful schema
    → (update : Bool) (vars vars_after : Vars) (graph graph_after : Graph) (command : Command) (reply : Reply)
    → IsWithinLimits command → IsGraph schema graph
    → Steps schema update vars graph command reply vars_after graph_after
    → IsGraph schema graph_after

-- a fresh database has a graph of its schema
abbrev pub LawOfFirstGraph : Type 0
LawOfFirstGraph = (schema : Schema) → IsGraph schema empty_graph
