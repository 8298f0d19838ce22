-- *Path value* and *Query answer*: what an object leads to by references, and which members of a set answer.
use Rattle.std.specs.Prelude.{Bool, false, List, [], ◌∷◌, filter, find, slice_get, Option, None}
use Rattle.std.specs.declared.cmp.Ordering.{Ordering}
use Rattle.std.specs.Option.{option_map_or, option_and_then}
use Rattle.std.specs.Ordering.{int_cmp, is_eq, is_lt, is_le, is_gt, is_ge}
use Rattle.std.specs.FinMap as maps
use Rattle.ostore_schema_layout.specs.declared.schema.Schema.{Schema}
use Rattle.ostore_schema_layout.specs.declared.schema.MemberNo.{MemberNo}
use Rattle.ostore_graph_model.specs.declared.values.Name.{Name}
use Rattle.ostore_graph_model.specs.declared.values.Scalar.{Scalar}
use Rattle.ostore_graph_model.specs.declared.values.Scalar.TheVariants as scalars
use Rattle.ostore_graph_model.specs.declared.commands.Key.{Key}
use Rattle.ostore_graph_model.specs.declared.commands.Key.TheVariants as keys
use Rattle.ostore_graph_model.specs.declared.commands.Op.{Op}
use Rattle.ostore_graph_model.specs.declared.commands.Op.TheVariants as ops
use Rattle.ostore_graph_model.specs.Sets as sets
use Rattle.ostore_graph_model.specs.Orders.{TypeMember, text_cmp}
use Rattle.ostore_graph_model.specs.Graph.{Graph, Object, is_live}
use Rattle.ostore_graph_model.specs.Links.{side}

-- ---- *Path value*

-- what an object holds at an int or a text member
abbrev pub held : Object → MemberNo → Option Scalar
held object member = option_and_then (λ value. value) (slice_get object.values member.0)

-- what a live object holds there
abbrev pub scalar_of : Graph → Name → MemberNo → Option Scalar
scalar_of graph x member = option_and_then (λ object. held object member) (maps.get graph.objects x)

-- the live partner of x at a reference
abbrev pub referred : Schema → Graph → TypeMember → Name → Option Name
referred schema graph member x = find (is_live graph) (sets.items (side schema graph member x))

-- The path value of x: what it leads to through references, to an int or a text. There is none where a reference
-- is null or leads to a dead name.
abbrev pub path_value : Schema → Graph → List TypeMember → Name → Option Scalar
path_value schema graph [] x = None
path_value schema graph (last ∷ []) x = scalar_of graph x last.member
path_value schema graph (member ∷ next ∷ path) x =
    option_and_then (path_value schema graph (next ∷ path)) (referred schema graph member x)

-- ---- *Query answer*

-- an order of two values is as an operator asks
abbrev pub holds : Op → Ordering → Bool
holds ops.Equal order = is_eq order
holds ops.Less order = is_lt order
holds ops.LessEqual order = is_le order
holds ops.Greater order = is_gt order
holds ops.GreaterEqual order = is_ge order

-- a value stands in a relation to a key of its own kind; texts are compared by their bytes
abbrev pub stands_to : Op → Key → Scalar → Bool
stands_to op (keys.Int key) (scalars.Int value) = holds op (int_cmp value key)
stands_to op (keys.Text key) (scalars.Text value) = holds op (text_cmp value key)
stands_to op other value = false

-- x has a path value, and it stands in the relation to the key
abbrev pub answers : Schema → Graph → List TypeMember → Op → Key → Name → Bool
answers schema graph path op key x = option_map_or (stands_to op key) (path_value schema graph path x) false

-- every name in the set whose path value stands in the relation to the key, ascending
abbrev pub query_answer : Schema → Graph → TypeMember → Name → List TypeMember → Op → Key → List Name
query_answer schema graph set x path op key =
    filter (answers schema graph path op key) (sets.items (side schema graph set x))
