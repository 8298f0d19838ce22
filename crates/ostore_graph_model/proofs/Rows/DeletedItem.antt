-- The commands one by one.
use Rattle.std.proofs.Common.{◌≡◌, refl, [], true}
use Rattle.std.specs.Prelude.{codes}
use Rattle.std.specs.FinMap as maps
use Rattle.ostore_schema_layout.specs.Numbers.{place_named}
use Rattle.ostore_graph_model.specs.declared.values.Value.TheVariants as values
use Rattle.ostore_graph_model.specs.declared.values.Reply.TheVariants.{Done, Named, Value, Names, Refused}
use Rattle.ostore_graph_model.specs.declared.refusal.Refusal.TheVariants as refusals
use Rattle.ostore_graph_model.specs.declared.commands.Command.TheVariants as line
use Rattle.ostore_graph_model.specs.declared.commands.Operand.TheVariants as operands
use Rattle.ostore_graph_model.specs.Links.{joined}
use Rattle.ostore_graph_model.specs.Deeds.{Stepped}
use Rattle.ostore_graph_model.specs.Deeds.Objects.{with_new, without_object}
use Rattle.ostore_graph_model.specs.Step.{step}
use Rattle.ostore_graph_model.specs.Examples.{boxes, n, DeletedItem}
use Rattle.ostore_graph_model.proofs.Computing.{computes, start, tm, box, part}

abbrev s1 : Stepped
s1 = record start { reply = Named (n 1 1); vars = maps.insert start.vars (codes "b") (n 1 1); graph = with_new start.graph 1 box }

step1 : step boxes true start.vars start.graph (line.New (codes "b") (codes "Box") 1) ≡ s1
unfolding place_named
step1 = simp computes refl

abbrev s2 : Stepped
s2 = record s1 { reply = Named (n 1 2); vars = maps.insert s1.vars (codes "p") (n 1 2); graph = with_new s1.graph 1 part }

step2 : step boxes true s1.vars s1.graph (line.New (codes "p") (codes "Part") 1) ≡ s2
unfolding place_named
step2 = simp computes refl

abbrev s3 : Stepped
s3 = record s2 { reply = Named (n 1 3); vars = maps.insert s2.vars (codes "q") (n 1 3); graph = with_new s2.graph 1 part }

step3 : step boxes true s2.vars s2.graph (line.New (codes "q") (codes "Part") 1) ≡ s3
unfolding place_named
step3 = simp computes refl

abbrev s4 : Stepped
s4 = record s3 { reply = Done; graph = record s3.graph { pairs = joined boxes (tm 1 0) (n 1 1) (n 1 3) s3.graph.pairs } }

step4 : step boxes true s3.vars s3.graph (line.Insert (codes "b") (codes "parts") (codes "q")) ≡ s4
unfolding place_named
step4 = simp computes refl

abbrev s5 : Stepped
s5 = record s4 { reply = Done; graph = record s4.graph { pairs = joined boxes (tm 2 2) (n 1 2) (n 1 3) s4.graph.pairs } }

step5 : step boxes true s4.vars s4.graph (line.Set (codes "p") (codes "next") (operands.Var (codes "q"))) ≡ s5
unfolding place_named
step5 = simp computes refl

abbrev s6 : Stepped
s6 = record s5 { reply = Done; graph = without_object boxes s5.graph (n 1 3) }

step6 : step boxes true s5.vars s5.graph (line.Delete (codes "q")) ≡ s6
unfolding place_named
step6 = simp computes refl

abbrev s7 : Stepped
s7 = record s6 { reply = Names [] }

step7 : step boxes true s6.vars s6.graph (line.Members (codes "b") (codes "parts")) ≡ s7
unfolding place_named
step7 = simp computes refl

abbrev s8 : Stepped
s8 = record s7 { reply = Value (values.Dead (n 1 3)) }

step8 : step boxes true s7.vars s7.graph (line.Get (codes "p") (codes "next")) ≡ s8
unfolding place_named
step8 = simp computes refl

abbrev s9 : Stepped
s9 = record s8 { reply = Refused refusals.Dangling }

step9 : step boxes true s8.vars s8.graph (line.Follow (codes "x") (codes "p") (codes "next")) ≡ s9
unfolding place_named
step9 = simp computes refl

pub deleted_item : DeletedItem
deleted_item =
    (s1.vars, s1.graph, step1, (s2.vars, s2.graph, step2, (s3.vars, s3.graph, step3, (s4.vars, s4.graph, step4, (s5.vars, s5.graph, step5, (s6.vars, s6.graph, step6, (s7.vars, s7.graph, step7, (s8.vars, s8.graph, step8, (s9.vars, s9.graph, step9, refl)))))))))
