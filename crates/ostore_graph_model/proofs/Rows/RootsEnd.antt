-- The commands one by one.
use Rattle.std.proofs.Common.{◌≡◌, refl, ℕ, List, map, Some, None, true}
use Rattle.std.specs.Prelude.{codes}
use Rattle.std.specs.FinMap as maps
use Rattle.ostore_schema_layout.specs.Numbers.{place_named}
use Rattle.ostore_graph_model.specs.declared.values.Name.{Name}
use Rattle.ostore_graph_model.specs.declared.values.Reply.TheVariants.{Done, Named, Refused}
use Rattle.ostore_graph_model.specs.declared.refusal.Refusal.TheVariants as refusals
use Rattle.ostore_graph_model.specs.declared.commands.Command.TheVariants as line
use Rattle.ostore_graph_model.specs.Deeds.{Stepped}
use Rattle.ostore_graph_model.specs.Step.{step}
use Rattle.ostore_graph_model.specs.Examples.{chained, n}
use Rattle.ostore_graph_model.specs.FullGraphs.{root_names, all_roots_bound, RootsEnd}
use Rattle.ostore_graph_model.specs.Orders.{text_cmp}
use Rattle.ostore_graph_model.proofs.Computing.{computes}

-- the roots' names ascend
abbrev bindings : List (List ℕ × Name)
bindings = map (λ root. (root, n 1 1)) root_names

bound_entries : maps.entries (maps.from_sorted {R = text_cmp} bindings) ≡ bindings
bound_entries = maps.entries-from_sorted text_cmp bindings tt

abbrev first : Stepped
first = record { reply = Done; vars = maps.empty; graph = all_roots_bound }

abbrev s1 : Stepped
s1 = record first { reply = Named (n 1 1); vars = maps.insert first.vars (codes "p") (n 1 1) }

step1 : step chained true first.vars first.graph (line.Find (codes "p") (n 1 1)) ≡ s1
unfolding place_named
step1 = simp (computes, bound_entries) refl

abbrev s2 : Stepped
s2 = record s1 { reply = Refused refusals.RootsFull }

step2 : step chained true s1.vars s1.graph (line.SetRoot (codes "top") (Some (codes "p"))) ≡ s2
unfolding place_named
step2 = simp (computes, bound_entries) refl

abbrev s3 : Stepped
s3 = record s2 { reply = Done; graph = record s2.graph { roots = maps.insert s2.graph.roots (codes "aa") (n 1 1) } }

step3 : step chained true s2.vars s2.graph (line.SetRoot (codes "aa") (Some (codes "p"))) ≡ s3
unfolding place_named
step3 = simp (computes, bound_entries) refl

abbrev s4 : Stepped
s4 = record s3 { reply = Done; graph = record s3.graph { roots = maps.remove s3.graph.roots (codes "ab") } }

step4 : step chained true s3.vars s3.graph (line.SetRoot (codes "ab") None) ≡ s4
unfolding place_named
step4 = simp (computes, bound_entries) refl

abbrev s5 : Stepped
s5 = record s4 { reply = Done; graph = record s4.graph { roots = maps.insert s4.graph.roots (codes "top") (n 1 1) } }

step5 : step chained true s4.vars s4.graph (line.SetRoot (codes "top") (Some (codes "p"))) ≡ s5
unfolding place_named
step5 = simp (computes, bound_entries) refl

abbrev s6 : Stepped
s6 = record s5 { reply = Refused refusals.RootsFull }

step6 : step chained true s5.vars s5.graph (line.SetRoot (codes "ab") (Some (codes "p"))) ≡ s6
unfolding place_named
step6 = simp (computes, bound_entries) refl

pub roots_end : RootsEnd
roots_end = (s1.vars, s1.graph, step1, (s2.vars, s2.graph, step2, (s3.vars, s3.graph, step3, (s4.vars, s4.graph, step4, (s5.vars, s5.graph, step5, (s6.vars, s6.graph, step6, refl))))))
