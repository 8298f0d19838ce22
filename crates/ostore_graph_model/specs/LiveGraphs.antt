-- What holds of every graph that commands make: all that it holds is of live objects, and nothing empty is held.
use Rattle.std.specs.Prelude.{◌≡◌, ◌≢◌, Bool, true, List, [], Some}
use Rattle.std.specs.FinMap as maps
use Rattle.ostore_schema_layout.specs.declared.schema.Schema.{Schema}
use Rattle.ostore_schema_layout.specs.Lawful.{IsLawful}
use Rattle.ostore_graph_model.specs.declared.values.Name.{Name}
use Rattle.ostore_graph_model.specs.declared.values.Reply.{Reply}
use Rattle.ostore_graph_model.specs.declared.commands.Command.{Command}
use Rattle.ostore_graph_model.specs.Sets as sets
use Rattle.ostore_graph_model.specs.Orders.{TypeMember, Pair, ObjectMember, PathIndex}
use Rattle.ostore_graph_model.specs.Graph.{Graph, Dictionary, is_drawn, is_live}
use Rattle.ostore_graph_model.specs.Links.{is_two_sided, is_ref_member, pair_at}
use Rattle.ostore_graph_model.specs.Deeds.{Vars}
use Rattle.ostore_graph_model.specs.Step.{Steps}

abbrev pub IsLive : Graph → Name → Type 0
IsLive graph x = is_live graph x ≡ true

pub record HoldsLive (schema : Schema) (graph : Graph) : Type 0 where
  pub drawn : (x : Name) → IsLive graph x → is_drawn graph x ≡ true
  -- the first name of every pair is live, and in a two-sided link the second is too
  pub first : (pair : Pair) → sets.contains graph.pairs pair ≡ true → IsLive graph pair.first
  pub second : (pair : Pair) → sets.contains graph.pairs pair ≡ true → is_two_sided schema pair.link ≡ true → IsLive graph pair.second
  pub lists : (at : ObjectMember) (items : List Name) → maps.get graph.lists at ≡ Some items → (items ≢ []) × IsLive graph at.object
  pub dictionaries : (at : ObjectMember) (bindings : Dictionary) → maps.get graph.dictionaries at ≡ Some bindings → (maps.len bindings ≢ 0) × IsLive graph at.object
  pub indexes : (index : PathIndex) → sets.contains graph.indexes index ≡ true → IsLive graph index.set.object

-- commands keep it
abbrev pub LawOfLiveGraphs : Type 0
LawOfLiveGraphs =
    (schema : Schema) (update : Bool) (vars vars_after : Vars) (graph graph_after : Graph) (command : Command) (reply : Reply)
    → HoldsLive schema graph
    → Steps schema update vars graph command reply vars_after graph_after
    → HoldsLive schema graph_after

-- a reference has one partner at most
abbrev pub HasOnePartner : Schema → Graph → Type 0
HasOnePartner schema graph =
    (member : TypeMember) (x y z : Name) → is_ref_member schema member ≡ true
    → sets.contains graph.pairs (pair_at schema member x y) ≡ true → sets.contains graph.pairs (pair_at schema member x z) ≡ true
    → y ≡ z

-- commands keep that too, in a lawful schema
abbrev pub LawOfOnePartner : Type 0
LawOfOnePartner =
    (schema : Schema) → IsLawful schema
    → (update : Bool) (vars vars_after : Vars) (graph graph_after : Graph) (command : Command) (reply : Reply)
    → HasOnePartner schema graph
    → Steps schema update vars graph command reply vars_after graph_after
    → HasOnePartner schema graph_after
