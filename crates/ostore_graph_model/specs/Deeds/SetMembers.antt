-- Sets: `insert`, `remove`, `members`.
use Rattle.std.specs.Prelude.{Bool, not, [], ◌∷◌}
use Rattle.ostore_schema_layout.specs.declared.schema.Schema.{Schema}
use Rattle.ostore_graph_model.specs.declared.values.Name.{Name}
use Rattle.ostore_graph_model.specs.declared.values.Reply.TheVariants as replies
use Rattle.ostore_graph_model.specs.declared.refusal.Refusal.TheVariants.{NotMember, AlreadyMember}
use Rattle.ostore_graph_model.specs.Sets as sets
use Rattle.ostore_graph_model.specs.Graph.{Graph}
use Rattle.ostore_graph_model.specs.Links.{side, pair_at}
use Rattle.ostore_graph_model.specs.Deeds.{Vars, Deed, LiveMember, shown, done, listed, refused_where, of_other_type}
use Rattle.ostore_graph_model.specs.Deeds.References.{with_joined}

-- the item is in the set
abbrev pub is_in : Schema → Graph → LiveMember → Name → Bool
is_in schema graph at y = sets.contains graph.pairs (pair_at schema at.at at.owner y)

abbrev pub insert_deed : Schema → Vars → Graph → Name → LiveMember → Deed
insert_deed schema vars graph y at = record {
  tests = of_other_type graph at y ∷ refused_where (is_in schema graph at y) AlreadyMember ∷ [];
  gives = done vars (with_joined schema graph at y);
}

abbrev pub remove_deed : Schema → Vars → Graph → Name → LiveMember → Deed
remove_deed schema vars graph y at = record {
  tests = of_other_type graph at y ∷ refused_where (not (is_in schema graph at y)) NotMember ∷ [];
  gives = done vars (record graph { pairs = sets.remove graph.pairs (pair_at schema at.at at.owner y) });
}

-- ascending by name
abbrev pub members_deed : Schema → Vars → Graph → LiveMember → Deed
members_deed schema vars graph at = record {
  tests = [];
  gives = shown (replies.Names (listed graph (sets.items (side schema graph at.at at.owner)))) vars graph;
}
