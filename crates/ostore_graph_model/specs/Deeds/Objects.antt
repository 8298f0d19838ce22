-- Objects and their values: `new`, `find`, `get`, `set` to an int or a text, `delete`.
use Rattle.std.specs.Prelude.{ℕ, ℤ, ◌+◌, if◌then◌else◌, not, is_none, nat_lt, List, [], ◌∷◌, length, map, Option, Some, None, slice_set, unwrap_or, pos}
use Rattle.std.specs.FinMap as maps
use Rattle.ostore_schema_layout.specs.declared.schema.Schema.{Schema}
use Rattle.ostore_schema_layout.specs.declared.schema.TypeNo.{TypeNo}
use Rattle.ostore_schema_layout.specs.declared.schema.MemberNo.{MemberNo}
use Rattle.ostore_schema_layout.specs.declared.schema.MemberKind.{MemberKind}
use Rattle.ostore_schema_layout.specs.declared.schema.MemberKind.TheVariants as kinds
use Rattle.ostore_schema_layout.specs.Numbers.{members_of}
use Rattle.ostore_graph_model.specs.declared.values.Name.{Name}
use Rattle.ostore_graph_model.specs.declared.values.Scalar.{Scalar}
use Rattle.ostore_graph_model.specs.declared.values.Scalar.TheVariants as scalars
use Rattle.ostore_graph_model.specs.declared.values.Value.{Value}
use Rattle.ostore_graph_model.specs.declared.values.Value.TheVariants as values
use Rattle.ostore_graph_model.specs.declared.values.Reply.TheVariants as replies
use Rattle.ostore_graph_model.specs.declared.refusal.Refusal.TheVariants.{WrongType, TextTooLong, NoObject, SerialsSpent}
use Rattle.ostore_graph_model.specs.Sets as sets
use Rattle.ostore_graph_model.specs.Kinds.{no_type, room_of}
use Rattle.ostore_graph_model.specs.Graph.{Object, Graph, last_serial, is_live}
use Rattle.ostore_graph_model.specs.Links.{same_name, side, goes_with}
use Rattle.ostore_graph_model.specs.Paths.{scalar_of}
use Rattle.ostore_graph_model.specs.Deeds.{Vars, Stepped, Deed, LiveMember, shown, done, bound, object_of, refused_where}

-- ---- `new`

-- the last serial that a segment can draw
abbrev pub greatest_serial : ℕ
greatest_serial = 4294967295

-- the name that a segment draws next
abbrev pub next_name : Graph → ℕ → Name
next_name graph segment = record { segment = segment; serial = last_serial graph segment + 1 }

-- numbers are 0 and texts empty
abbrev pub first_value : MemberKind → Option Scalar
first_value kinds.Int = Some (scalars.Int (pos 0))
first_value (kinds.Text max) = Some (scalars.Text [])
first_value other = None

-- an object of a type, without partners, items or bindings
abbrev pub new_object : Schema → TypeNo → Object
new_object schema ty = record { ty = ty; values = map (λ def. first_value def.kind) (members_of schema ty.0) }

-- the segment has drawn its next serial, which names the object
abbrev pub with_new : Graph → ℕ → Object → Graph
with_new graph segment object = record graph {
  objects = maps.insert graph.objects (next_name graph segment) object;
  serials = maps.insert graph.serials segment (last_serial graph segment + 1);
}

-- the variable is bound to the object that the segment has named
abbrev pub drawn : Vars → Graph → List ℕ → ℕ → Object → Stepped
drawn vars graph to segment object = bound vars to (next_name graph segment) (with_new graph segment object)

-- by the type that the name means, where it means one
abbrev pub new_deed : Schema → Vars → Graph → List ℕ → ℕ → Option TypeNo → Deed
new_deed schema vars graph to segment ty = record {
  tests = refused_where (is_none ty) WrongType
      ∷ refused_where (not (nat_lt (last_serial graph segment) greatest_serial)) SerialsSpent
      ∷ [];
  gives = drawn vars graph to segment (new_object schema (unwrap_or ty no_type));
}

-- ---- `find`

abbrev pub find_deed : Vars → Graph → List ℕ → Name → Deed
find_deed vars graph to x = record {
  tests = refused_where (not (is_live graph x)) NoObject ∷ [];
  gives = bound vars to x graph;
}

-- ---- `get`

-- an object as it is shown, live or deleted
abbrev pub shown_object : Graph → Name → Value
shown_object graph x = if is_live graph x then values.Object x else values.Dead x

-- the one partner as it is shown
abbrev pub shown_partner : Graph → List Name → Value
shown_partner graph [] = values.Null
shown_partner graph (y ∷ others) = shown_object graph y

abbrev pub shown_scalar : Option Scalar → Value
shown_scalar None = values.Null
shown_scalar (Some (scalars.Int value)) = values.Int value
shown_scalar (Some (scalars.Text value)) = values.Text value

abbrev pub value_of : Schema → Graph → LiveMember → MemberKind → Value
value_of schema graph at (kinds.Ref target) = shown_partner graph (sets.items (side schema graph at.at at.owner))
value_of schema graph at other = shown_scalar (scalar_of graph at.owner at.at.member)

abbrev pub get_deed : Schema → Vars → Graph → LiveMember → Deed
get_deed schema vars graph at = record {
  tests = [];
  gives = shown (replies.Value (value_of schema graph at at.def.kind)) vars graph;
}

-- ---- `set` to an int or a text

-- the object holds another value at a member
abbrev pub with_value : Object → MemberNo → Scalar → Object
with_value object member value = record object { values = slice_set object.values member.0 (Some value) }

abbrev pub with_held : Graph → LiveMember → Scalar → Graph
with_held graph at value = record graph {
  objects = maps.insert graph.objects at.owner (with_value (object_of graph at.owner) at.at.member value);
}

abbrev pub set_int_deed : Vars → Graph → ℤ → LiveMember → Deed
set_int_deed vars graph value at = record { tests = []; gives = done vars (with_held graph at (scalars.Int value)) }

abbrev pub set_text_deed : Vars → Graph → List ℕ → LiveMember → Deed
set_text_deed vars graph text at = record {
  tests = refused_where (nat_lt (room_of at.def.kind) (length text)) TextTooLong ∷ [];
  gives = done vars (with_held graph at (scalars.Text text));
}

-- ---- `delete`

-- The object isn't live any more, and what was its own is gone. Everything else that leads to it stays.
abbrev pub without_object : Schema → Graph → Name → Graph
without_object schema graph x = record graph {
  objects = maps.remove graph.objects x;
  pairs = sets.retain graph.pairs (λ pair. not (goes_with schema x pair));
  lists = maps.retain_keys graph.lists (λ at. not (same_name at.object x));
  dictionaries = maps.retain_keys graph.dictionaries (λ at. not (same_name at.object x));
  indexes = sets.retain graph.indexes (λ index. not (same_name index.set.object x));
}

abbrev pub delete_deed : Schema → Vars → Graph → Name → Deed
delete_deed schema vars graph x = record { tests = []; gives = done vars (without_object schema graph x) }
