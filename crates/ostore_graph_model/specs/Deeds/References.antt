-- References and roots: `set` to an object or to null, `follow`, `root`, `setroot`.
use Rattle.std.specs.Prelude.{ℕ, ◌&&◌, is_none, nat_le, List, [], ◌∷◌, Option, Some, None, unwrap_or}
use Rattle.std.specs.FinMap as maps
use Rattle.ostore_base.specs.Limits.{most_roots}
use Rattle.ostore_schema_layout.specs.declared.schema.Schema.{Schema}
use Rattle.ostore_graph_model.specs.declared.values.Name.{Name}
use Rattle.ostore_graph_model.specs.declared.refusal.Refusal.TheVariants.{Null, NoRoot, RootsFull}
use Rattle.ostore_graph_model.specs.Sets as sets
use Rattle.ostore_graph_model.specs.Graph.{Graph}
use Rattle.ostore_graph_model.specs.Links.{side, joined, parted}
use Rattle.ostore_graph_model.specs.Deeds.{Vars, Deed, LiveMember, done, bound, no_name, refused_where, deleted, of_other_type}

-- ---- `set` to an object or to null

-- the object that the member belongs to is joined with another, and with no one who is displaced
abbrev pub with_joined : Schema → Graph → LiveMember → Name → Graph
with_joined schema graph at y = record graph { pairs = joined schema at.at at.owner y graph.pairs }

abbrev pub set_object_deed : Schema → Vars → Graph → Name → LiveMember → Deed
set_object_deed schema vars graph y at = record {
  tests = of_other_type graph at y ∷ [];
  gives = done vars (with_joined schema graph at y);
}

abbrev pub set_null_deed : Schema → Vars → Graph → LiveMember → Deed
set_null_deed schema vars graph at = record {
  tests = [];
  gives = done vars (record graph { pairs = parted schema at.at at.owner graph.pairs });
}

-- ---- `follow`

abbrev pub first_item : List Name → Option Name
first_item [] = None
first_item (x ∷ others) = Some x

-- the one partner at a reference, live or deleted
abbrev pub partner : Schema → Graph → LiveMember → Option Name
partner schema graph at = first_item (sets.items (side schema graph at.at at.owner))

abbrev pub follow_deed : Schema → Vars → Graph → List ℕ → LiveMember → Deed
follow_deed schema vars graph to at = record {
  tests = refused_where (is_none (partner schema graph at)) Null ∷ deleted graph (partner schema graph at) ∷ [];
  gives = bound vars to (unwrap_or (partner schema graph at) no_name) graph;
}

-- ---- roots

abbrev pub root_deed : Vars → Graph → List ℕ → List ℕ → Deed
root_deed vars graph to root = record {
  tests = refused_where (is_none (maps.get graph.roots root)) NoRoot ∷ deleted graph (maps.get graph.roots root) ∷ [];
  gives = bound vars to (unwrap_or (maps.get graph.roots root) no_name) graph;
}

abbrev pub bind_root_deed : Vars → Graph → List ℕ → Name → Deed
bind_root_deed vars graph root x = record {
  tests = refused_where (is_none (maps.get graph.roots root) && nat_le most_roots (maps.len graph.roots)) RootsFull ∷ [];
  gives = done vars (record graph { roots = maps.insert graph.roots root x });
}

abbrev pub unbind_root_deed : Vars → Graph → List ℕ → Deed
unbind_root_deed vars graph root = record {
  tests = refused_where (is_none (maps.get graph.roots root)) NoRoot ∷ [];
  gives = done vars (record graph { roots = maps.remove graph.roots root });
}
