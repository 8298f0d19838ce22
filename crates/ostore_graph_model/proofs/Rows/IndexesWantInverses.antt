-- The commands one by one.
use Rattle.std.proofs.Common.{◌≡◌, refl, [], ◌∷◌, true}
use Rattle.std.specs.Prelude.{codes}
use Rattle.std.specs.FinMap as maps
use Rattle.ostore_schema_layout.specs.Numbers.{place_named}
use Rattle.ostore_graph_model.specs.declared.values.Reply.TheVariants.{Done, Named, Refused}
use Rattle.ostore_graph_model.specs.declared.refusal.Refusal.TheVariants as refusals
use Rattle.ostore_graph_model.specs.declared.commands.Command.TheVariants as line
use Rattle.ostore_graph_model.specs.Sets as sets
use Rattle.ostore_graph_model.specs.Orders.{PathIndex}
use Rattle.ostore_graph_model.specs.Deeds.{Stepped}
use Rattle.ostore_graph_model.specs.Deeds.Objects.{with_new}
use Rattle.ostore_graph_model.specs.Step.{step}
use Rattle.ostore_graph_model.specs.Examples.{boxes, n}
use Rattle.ostore_graph_model.specs.FullGraphs.{sacks, IndexesWantInverses}
use Rattle.ostore_graph_model.proofs.Computing.{computes, start, om, box, sack}

abbrev left_id : PathIndex
left_id = record { set = om (n 1 1) 0; path = record { 0 = 3 } ∷ record { 0 = 0 } ∷ [] }

abbrev s1 : Stepped
s1 = record start { reply = Named (n 1 1); vars = maps.insert start.vars (codes "b") (n 1 1); graph = with_new start.graph 1 box }

step1 : step boxes true start.vars start.graph (line.New (codes "b") (codes "Box") 1) ≡ s1
unfolding place_named
step1 = simp computes refl

abbrev s2 : Stepped
s2 = record s1 { reply = Refused refusals.NotIndexable }

step2 : step boxes true s1.vars s1.graph (line.Index (codes "b") (codes "parts") (codes "next" ∷ codes "id" ∷ [])) ≡ s2
unfolding place_named
step2 = simp computes refl

abbrev s3 : Stepped
s3 = record s2 { reply = Refused refusals.NotIndexable }

step3 : step boxes true s2.vars s2.graph (line.Index (codes "b") (codes "parts") (codes "left" ∷ codes "next" ∷ codes "id" ∷ [])) ≡ s3
unfolding place_named
step3 = simp computes refl

abbrev s4 : Stepped
s4 = record s3 { reply = Refused refusals.NoMember }

step4 : step boxes true s3.vars s3.graph (line.Index (codes "b") (codes "parts") (codes "next" ∷ codes "nope" ∷ [])) ≡ s4
unfolding place_named
step4 = simp computes refl

abbrev s5 : Stepped
s5 = record s4 { reply = Done; graph = record s4.graph { indexes = sets.insert s4.graph.indexes left_id } }

step5 : step boxes true s4.vars s4.graph (line.Index (codes "b") (codes "parts") (codes "left" ∷ codes "id" ∷ [])) ≡ s5
unfolding place_named
step5 = simp computes refl

abbrev s6 : Stepped
s6 = record s5 { reply = Refused refusals.IndexThere }

step6 : step boxes true s5.vars s5.graph (line.Index (codes "b") (codes "parts") (codes "left" ∷ codes "id" ∷ [])) ≡ s6
unfolding place_named
step6 = simp computes refl

abbrev t1 : Stepped
t1 = record start { reply = Named (n 1 1); vars = maps.insert start.vars (codes "s") (n 1 1); graph = with_new start.graph 1 sack }

later1 : step sacks true start.vars start.graph (line.New (codes "s") (codes "Sack") 1) ≡ t1
unfolding place_named
later1 = simp computes refl

abbrev t2 : Stepped
t2 = record t1 { reply = Refused refusals.NotIndexable }

later2 : step sacks true t1.vars t1.graph (line.Index (codes "s") (codes "things") (codes "tag" ∷ [])) ≡ t2
unfolding place_named
later2 = simp computes refl

pub indexes_want_inverses : IndexesWantInverses
indexes_want_inverses = ((s1.vars, s1.graph, step1, (s2.vars, s2.graph, step2, (s3.vars, s3.graph, step3, (s4.vars, s4.graph, step4, (s5.vars, s5.graph, step5, (s6.vars, s6.graph, step6, refl)))))), (t1.vars, t1.graph, later1, (t2.vars, t2.graph, later2, refl)))
