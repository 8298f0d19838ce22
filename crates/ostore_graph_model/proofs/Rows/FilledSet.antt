-- The commands one by one.
use Rattle.std.proofs.Common.{◌≡◌, refl, List, [], ◌∷◌, map, take, true}
use Rattle.std.specs.Prelude.{codes}
use Rattle.std.specs.FinMap as maps
use Rattle.ostore_schema_layout.specs.Numbers.{place_named}
use Rattle.ostore_graph_model.specs.declared.values.Name.{Name}
use Rattle.ostore_graph_model.specs.declared.values.Reply.TheVariants.{Done, Named, Count, Names, Refused}
use Rattle.ostore_graph_model.specs.declared.refusal.Refusal.TheVariants as refusals
use Rattle.ostore_graph_model.specs.declared.commands.Command.TheVariants as line
use Rattle.ostore_graph_model.specs.Sets as sets
use Rattle.ostore_graph_model.specs.Orders.{Pair, name_cmp, pair_cmp}
use Rattle.ostore_graph_model.specs.Graph.{Object}
use Rattle.ostore_graph_model.specs.Links.{pair_at, joined}
use Rattle.ostore_graph_model.specs.Deeds.{Stepped}
use Rattle.ostore_graph_model.specs.Deeds.Objects.{new_object}
use Rattle.ostore_graph_model.specs.Step.{step}
use Rattle.ostore_graph_model.specs.Examples.{type_number, boxes, n}
use Rattle.ostore_graph_model.specs.FullSets.{part_names, box_with, FilledSet}
use Rattle.ostore_graph_model.proofs.Computing.{computes, tm}

-- names ascend
abbrev objects : List (Name × Object)
objects = (n 1 1, new_object boxes (type_number 1)) ∷ map (λ part. (part, new_object boxes (type_number 2))) part_names

abbrev pairs : List (Pair × Unit {0})
pairs = map (λ part. (record { link = tm 1 0; first = n 1 1; second = part }, tt)) (take 29 part_names)

objects_bound : maps.entries (maps.from_sorted {R = name_cmp} objects) ≡ objects
objects_bound = maps.entries-from_sorted name_cmp objects tt

pairs_bound : maps.entries (maps.from_sorted {R = pair_cmp} pairs) ≡ pairs
pairs_bound = maps.entries-from_sorted pair_cmp pairs tt

abbrev first : Stepped
first = record { reply = Done; vars = maps.empty; graph = box_with (take 29 part_names) }

abbrev s1 : Stepped
s1 = record first { reply = Named (n 1 1); vars = maps.insert first.vars (codes "b") (n 1 1) }

step1 : step boxes true first.vars first.graph (line.Find (codes "b") (n 1 1)) ≡ s1
unfolding place_named
step1 = simp (computes, objects_bound) refl

abbrev s2 : Stepped
s2 = record s1 { reply = Count 29 }

step2 : step boxes true s1.vars s1.graph (line.Size (codes "b") (codes "parts")) ≡ s2
unfolding place_named
step2 = simp (computes, objects_bound, pairs_bound) refl

abbrev s3 : Stepped
s3 = record s2 { reply = Named (n 1 31); vars = maps.insert s2.vars (codes "p") (n 1 31) }

step3 : step boxes true s2.vars s2.graph (line.Find (codes "p") (n 1 31)) ≡ s3
unfolding place_named
step3 = simp (computes, objects_bound) refl

abbrev s4 : Stepped
s4 = record s3 { reply = Done; graph = record s3.graph { pairs = joined boxes (tm 1 0) (n 1 1) (n 1 31) s3.graph.pairs } }

step4 : step boxes true s3.vars s3.graph (line.Insert (codes "b") (codes "parts") (codes "p")) ≡ s4
unfolding place_named
step4 = simp (computes, objects_bound, pairs_bound) refl

abbrev s5 : Stepped
s5 = record s4 { reply = Named (n 1 32); vars = maps.insert s4.vars (codes "p") (n 1 32) }

step5 : step boxes true s4.vars s4.graph (line.Find (codes "p") (n 1 32)) ≡ s5
unfolding place_named
step5 = simp (computes, objects_bound) refl

abbrev s6 : Stepped
s6 = record s5 { reply = Done; graph = record s5.graph { pairs = joined boxes (tm 1 0) (n 1 1) (n 1 32) s5.graph.pairs } }

step6 : step boxes true s5.vars s5.graph (line.Insert (codes "b") (codes "parts") (codes "p")) ≡ s6
unfolding place_named
step6 = simp (computes, objects_bound, pairs_bound) refl

abbrev s7 : Stepped
s7 = record s6 { reply = Count 31 }

step7 : step boxes true s6.vars s6.graph (line.Size (codes "b") (codes "parts")) ≡ s7
unfolding place_named
step7 = simp (computes, objects_bound, pairs_bound) refl

pub filled_set : FilledSet
filled_set =
    (s1.vars, s1.graph, step1, (s2.vars, s2.graph, step2, (s3.vars, s3.graph, step3, (s4.vars, s4.graph, step4, (s5.vars, s5.graph, step5, (s6.vars, s6.graph, step6, (s7.vars, s7.graph, step7, refl)))))))
