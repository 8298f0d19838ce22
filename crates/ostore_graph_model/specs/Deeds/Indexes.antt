-- Declared indexes and queries: `index`, `unindex`, `query`.
use Rattle.std.specs.Prelude.{ℕ, Bool, false, not, ◌&&◌, ◌||◌, if◌then◌else◌, List, [], ◌∷◌, map, Option, Some, None, Result, Ok, Err}
use Rattle.std.specs.List.{list_any}
use Rattle.std.specs.Option.{option_map_or}
use Rattle.std.specs.Result.{result_map_both}
use Rattle.ostore_schema_layout.specs.declared.schema.Schema.{Schema}
use Rattle.ostore_schema_layout.specs.declared.schema.TypeNo.{TypeNo}
use Rattle.ostore_schema_layout.specs.declared.schema.MemberNo.{MemberNo}
use Rattle.ostore_schema_layout.specs.declared.schema.MemberKind.{MemberKind}
use Rattle.ostore_schema_layout.specs.declared.schema.MemberKind.TheVariants as kinds
use Rattle.ostore_schema_layout.specs.Numbers.{member_named}
use Rattle.ostore_graph_model.specs.declared.values.Reply.TheVariants as replies
use Rattle.ostore_graph_model.specs.declared.refusal.Refusal.{Refusal}
use Rattle.ostore_graph_model.specs.declared.refusal.Refusal.TheVariants.{NoMember, WrongKind, NotIndexable, IndexThere, NoIndex}
use Rattle.ostore_graph_model.specs.declared.commands.Key.{Key}
use Rattle.ostore_graph_model.specs.declared.commands.Op.{Op}
use Rattle.ostore_graph_model.specs.Sets as sets
use Rattle.ostore_graph_model.specs.Orders.{TypeMember, PathIndex}
use Rattle.ostore_graph_model.specs.Kinds.{is_scalar, compares_with, target_of}
use Rattle.ostore_graph_model.specs.Graph.{Graph}
use Rattle.ostore_graph_model.specs.Links.{def_of, is_ref_member, is_two_sided}
use Rattle.ostore_graph_model.specs.Paths.{query_answer}
use Rattle.ostore_graph_model.specs.Deeds.{Vars, Test, Deed, LiveMember, own_member, shown, done, listed, refused_where, key_too_long}

-- ---- paths

-- the members of a path, or the refusal of the first step that can't be made
abbrev pub Path : Type 0
Path = Result (List TypeMember) Refusal

abbrev pub first_step : TypeMember → Path → Path
first_step member rest = result_map_both (λ members. member ∷ members) (λ refusal. refusal) rest

-- the last step leads to an int or a text
abbrev pub last_step : Schema → TypeMember → Path
last_step schema member =
    if option_map_or (λ def. is_scalar def.kind) (def_of schema member) false then Ok (member ∷ []) else Err WrongKind

-- a step before the last one leads through a reference, and the path goes on from its type
abbrev pub through : TypeMember → Option MemberKind → (TypeNo → Path) → Path
through member (Some (kinds.Ref target)) rest = first_step member (rest target)
through member other rest = Err WrongKind

abbrev pub kind_of : Schema → TypeMember → Option MemberKind
kind_of schema member = option_map_or (λ def. Some def.kind) (def_of schema member) None

abbrev pub at_step : TypeNo → Option MemberNo → (TypeMember → Path) → Path
at_step ty None next = Err NoMember
at_step ty (Some member) next = next (record { ty = ty; member = member })

-- The path of some members' names from a type on, step by step: a type has no such member, or a step before the last
-- one is no reference or the last is neither int nor text.
abbrev pub path_from : Schema → TypeNo → List (List ℕ) → Path
path_from schema ty [] = Err WrongKind
path_from schema ty (name ∷ []) = at_step ty (member_named schema ty name) (last_step schema)
path_from schema ty (name ∷ next ∷ names) =
    at_step ty (member_named schema ty name)
    (λ member. through member (kind_of schema member) (λ target. path_from schema target (next ∷ names)))

-- the path of a set, from the type of its items
abbrev pub path_at : Schema → LiveMember → List (List ℕ) → Path
path_at schema at names = path_from schema (target_of at.def.kind) names

abbrev pub wrong_path : Path → Test
wrong_path (Ok members) = None
wrong_path (Err refusal) = Some refusal

abbrev pub members_on : Path → List TypeMember
members_on (Ok members) = members
members_on (Err refusal) = []

-- ---- `index` and `unindex`

-- a reference without inverse
abbrev pub is_one_sided_ref : Schema → TypeMember → Bool
is_one_sided_ref schema member = is_ref_member schema member && not (is_two_sided schema member)

-- the set, or a reference on the path, has no inverse
abbrev pub not_indexable : Schema → LiveMember → Path → Test
not_indexable schema at path =
    refused_where (not (is_two_sided schema at.at) || list_any (is_one_sided_ref schema) (members_on path)) NotIndexable

abbrev pub index_on : LiveMember → Path → PathIndex
index_on at path = record { set = own_member at; path = map (λ member. member.member) (members_on path) }

abbrev pub is_declared : Graph → LiveMember → Path → Bool
is_declared graph at path = sets.contains graph.indexes (index_on at path)

abbrev pub index_by : Schema → Vars → Graph → LiveMember → Path → Deed
index_by schema vars graph at path = record {
  tests = wrong_path path ∷ not_indexable schema at path ∷ refused_where (is_declared graph at path) IndexThere ∷ [];
  gives = done vars (record graph { indexes = sets.insert graph.indexes (index_on at path) });
}

abbrev pub index_deed : Schema → Vars → Graph → List (List ℕ) → LiveMember → Deed
index_deed schema vars graph names at = index_by schema vars graph at (path_at schema at names)

abbrev pub unindex_by : Vars → Graph → LiveMember → Path → Deed
unindex_by vars graph at path = record {
  tests = wrong_path path ∷ refused_where (not (is_declared graph at path)) NoIndex ∷ [];
  gives = done vars (record graph { indexes = sets.remove graph.indexes (index_on at path) });
}

abbrev pub unindex_deed : Schema → Vars → Graph → List (List ℕ) → LiveMember → Deed
unindex_deed schema vars graph names at = unindex_by vars graph at (path_at schema at names)

-- ---- `query`

abbrev pub last_compares : Schema → List TypeMember → Key → Bool
last_compares schema [] key = false
last_compares schema (last ∷ []) key = option_map_or (λ def. compares_with def.kind key) (def_of schema last) false
last_compares schema (member ∷ next ∷ members) key = last_compares schema (next ∷ members) key

-- the answer is the same whichever indexes are declared
abbrev pub query_by : Schema → Vars → Graph → Op → Key → LiveMember → Path → Deed
query_by schema vars graph op key at path = record {
  tests = wrong_path path ∷ refused_where (not (last_compares schema (members_on path) key)) WrongKind
      ∷ key_too_long key ∷ [];
  gives = shown (replies.Names (listed graph (query_answer schema graph at.at at.owner (members_on path) op key))) vars graph;
}

abbrev pub query_deed : Schema → Vars → Graph → List (List ℕ) → Op → Key → LiveMember → Deed
query_deed schema vars graph names op key at = query_by schema vars graph op key at (path_at schema at names)
