-- Lists and dictionaries: `append`, `put`, `at`, `bind`, `look`, `unbind`, and the size of any collection.
use Rattle.std.specs.Prelude.{ℕ, ◌==◌, nat_le, is_none, not, if◌then◌else◌, List, [], ◌∷◌, ◌++◌, length, slice_get, slice_set, unwrap_or}
use Rattle.std.specs.FinMap as maps
use Rattle.ostore_schema_layout.specs.declared.schema.Schema.{Schema}
use Rattle.ostore_schema_layout.specs.declared.schema.MemberKind.{MemberKind}
use Rattle.ostore_schema_layout.specs.declared.schema.MemberKind.TheVariants as kinds
use Rattle.ostore_graph_model.specs.declared.values.Name.{Name}
use Rattle.ostore_graph_model.specs.declared.values.Reply.TheVariants as replies
use Rattle.ostore_graph_model.specs.declared.refusal.Refusal.TheVariants.{WrongKind, OutOfRange, NoKey}
use Rattle.ostore_graph_model.specs.declared.commands.Key.{Key}
use Rattle.ostore_graph_model.specs.Sets as sets
use Rattle.ostore_graph_model.specs.Kinds.{takes_key}
use Rattle.ostore_graph_model.specs.Graph.{Graph, Dictionary, list_at, dictionary_at}
use Rattle.ostore_graph_model.specs.Links.{side}
use Rattle.ostore_graph_model.specs.Deeds.{Vars, Test, Deed, LiveMember, own_member, shown, done, bound, no_name, refused_where, deleted, of_other_type, key_too_long}

-- ---- lists

abbrev pub items_of : Graph → LiveMember → List Name
items_of graph at = list_at graph (own_member at)

-- the list has these items, which are some
abbrev pub with_items : Graph → LiveMember → List Name → Graph
with_items graph at items = record graph { lists = maps.insert graph.lists (own_member at) items }

-- the index isn't below the list's size
abbrev pub out_of_range : Graph → LiveMember → ℕ → Test
out_of_range graph at index = refused_where (nat_le (length (items_of graph at)) index) OutOfRange

abbrev pub append_deed : Vars → Graph → Name → LiveMember → Deed
append_deed vars graph y at = record {
  tests = of_other_type graph at y ∷ [];
  gives = done vars (with_items graph at (items_of graph at ++ y ∷ []));
}

abbrev pub put_deed : Vars → Graph → ℕ → Name → LiveMember → Deed
put_deed vars graph index y at = record {
  tests = of_other_type graph at y ∷ out_of_range graph at index ∷ [];
  gives = done vars (with_items graph at (slice_set (items_of graph at) index y));
}

abbrev pub at_deed : Vars → Graph → List ℕ → ℕ → LiveMember → Deed
at_deed vars graph to index at = record {
  tests = out_of_range graph at index ∷ deleted graph (slice_get (items_of graph at) index) ∷ [];
  gives = bound vars to (unwrap_or (slice_get (items_of graph at) index) no_name) graph;
}

-- ---- dictionaries

abbrev pub bindings_of : Graph → LiveMember → Dictionary
bindings_of graph at = dictionary_at graph (own_member at)

-- the dictionary has these bindings, and isn't there without any
abbrev pub with_bindings : Graph → LiveMember → Dictionary → Graph
with_bindings graph at bindings = record graph {
  dictionaries = if maps.len bindings == 0 then maps.remove graph.dictionaries (own_member at)
      else maps.insert graph.dictionaries (own_member at) bindings;
}

-- the dictionary has keys of the other kind
abbrev pub other_key : LiveMember → Key → Test
other_key at key = refused_where (not (takes_key at.def.kind key)) WrongKind

-- the key isn't bound
abbrev pub no_key : Graph → LiveMember → Key → Test
no_key graph at key = refused_where (is_none (maps.get (bindings_of graph at) key)) NoKey

-- an old binding of the key is replaced
abbrev pub bind_deed : Vars → Graph → Key → Name → LiveMember → Deed
bind_deed vars graph key y at = record {
  tests = other_key at key ∷ key_too_long key ∷ of_other_type graph at y ∷ [];
  gives = done vars (with_bindings graph at (maps.insert (bindings_of graph at) key y));
}

abbrev pub look_deed : Vars → Graph → List ℕ → Key → LiveMember → Deed
look_deed vars graph to key at = record {
  tests = other_key at key ∷ key_too_long key ∷ no_key graph at key
      ∷ deleted graph (maps.get (bindings_of graph at) key) ∷ [];
  gives = bound vars to (unwrap_or (maps.get (bindings_of graph at) key) no_name) graph;
}

abbrev pub unbind_deed : Vars → Graph → Key → LiveMember → Deed
unbind_deed vars graph key at = record {
  tests = other_key at key ∷ key_too_long key ∷ no_key graph at key ∷ [];
  gives = done vars (with_bindings graph at (maps.remove (bindings_of graph at) key));
}

-- ---- sizes

-- how many items a collection has, deleted ones with them
abbrev pub size_of : Schema → Graph → LiveMember → MemberKind → ℕ
size_of schema graph at (kinds.Set target) = length (sets.items (side schema graph at.at at.owner))
size_of schema graph at (kinds.List target) = length (items_of graph at)
size_of schema graph at other = maps.len (bindings_of graph at)

abbrev pub size_deed : Schema → Vars → Graph → LiveMember → Deed
size_deed schema vars graph at = record {
  tests = [];
  gives = shown (replies.Count (size_of schema graph at at.def.kind)) vars graph;
}
