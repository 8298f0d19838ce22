-- The graph database as plain data. What a database does is said of this and of nothing else.
use Rattle.std.specs.Prelude.{ℕ, Bool, not, ◌&&◌, nat_le, List, [], Option, unwrap_or}
use Rattle.std.specs.Ordering.{nat_cmp}
use Rattle.std.specs.FinMap as maps
use Rattle.ostore_schema_layout.specs.declared.schema.TypeNo.{TypeNo}
use Rattle.ostore_graph_model.specs.declared.values.Name.{Name}
use Rattle.ostore_graph_model.specs.declared.values.Scalar.{Scalar}
use Rattle.ostore_graph_model.specs.Sets as sets
use Rattle.ostore_graph_model.specs.Orders.{text_cmp, name_cmp, key_cmp, pair_cmp, ObjectMember, object_member_cmp, index_cmp}

-- A live object: its type, and for each member in order the int or the text that it holds. A member of another
-- kind holds none: what it shows stands elsewhere in the graph.
pub record Object : Type 0 where
  pub ty : TypeNo
  pub values : List (Option Scalar)

-- the bindings of a dictionary
abbrev pub Dictionary : Type 0
Dictionary = maps.FinMap key_cmp Name

-- What is empty isn't held: a list or a dictionary without items, and a segment that has drawn no serial, are in
-- none of the maps.
pub record Graph : Type 0 where
  -- the live objects by name
  pub objects : maps.FinMap name_cmp Object
  -- the pairs of all links
  pub pairs : sets.FinSet pair_cmp
  -- the items of list members of live objects, in order
  pub lists : maps.FinMap object_member_cmp (List Name)
  -- the bindings of dictionary members of live objects
  pub dictionaries : maps.FinMap object_member_cmp Dictionary
  -- the roots by their names
  pub roots : maps.FinMap text_cmp Name
  -- the last serial that each segment has drawn
  pub serials : maps.FinMap nat_cmp ℕ
  -- the declared indexes, without contents
  pub indexes : sets.FinSet index_cmp

-- the graph of a fresh database
abbrev pub empty_graph : Graph
empty_graph = record {
  objects = maps.empty;
  pairs = sets.empty;
  lists = maps.empty;
  dictionaries = maps.empty;
  roots = maps.empty;
  serials = maps.empty;
  indexes = sets.empty;
}

-- the last serial that a segment has drawn, 0 at first
abbrev pub last_serial : Graph → ℕ → ℕ
last_serial graph segment = unwrap_or (maps.get graph.serials segment) 0

-- a name was drawn: its segment has drawn its serial
abbrev pub is_drawn : Graph → Name → Bool
is_drawn graph name = nat_le 1 name.serial && nat_le name.serial (last_serial graph name.segment)

abbrev pub is_live : Graph → Name → Bool
is_live graph name = maps.contains_key graph.objects name

-- a name that was drawn and isn't live is dead
abbrev pub is_dead : Graph → Name → Bool
is_dead graph name = is_drawn graph name && not (is_live graph name)

-- the items of a list member, in order
abbrev pub list_at : Graph → ObjectMember → List Name
list_at graph at = unwrap_or (maps.get graph.lists at) []

-- the bindings of a dictionary member
abbrev pub dictionary_at : Graph → ObjectMember → Dictionary
dictionary_at graph at = unwrap_or (maps.get graph.dictionaries at) maps.empty
