-- The commands one by one.
use Rattle.std.proofs.Common.{◌≡◌, refl, true}
use Rattle.std.specs.Prelude.{codes}
use Rattle.std.specs.FinMap as maps
use Rattle.ostore_schema_layout.specs.Numbers.{place_named}
use Rattle.ostore_graph_model.specs.declared.values.Value.TheVariants as values
use Rattle.ostore_graph_model.specs.declared.values.Reply.TheVariants.{Done, Named, Value}
use Rattle.ostore_graph_model.specs.declared.commands.Command.TheVariants as line
use Rattle.ostore_graph_model.specs.declared.commands.Operand.TheVariants as operands
use Rattle.ostore_graph_model.specs.Links.{joined}
use Rattle.ostore_graph_model.specs.Deeds.{Stepped}
use Rattle.ostore_graph_model.specs.Deeds.Objects.{with_new}
use Rattle.ostore_graph_model.specs.Step.{step}
use Rattle.ostore_graph_model.specs.Examples.{boxes, n, DisplacedPartners}
use Rattle.ostore_graph_model.proofs.Computing.{computes, start, tm, part}

abbrev s1 : Stepped
s1 = record start { reply = Named (n 1 1); vars = maps.insert start.vars (codes "a") (n 1 1); graph = with_new start.graph 1 part }

step1 : step boxes true start.vars start.graph (line.New (codes "a") (codes "Part") 1) ≡ s1
unfolding place_named
step1 = simp computes refl

abbrev s2 : Stepped
s2 = record s1 { reply = Named (n 1 2); vars = maps.insert s1.vars (codes "b") (n 1 2); graph = with_new s1.graph 1 part }

step2 : step boxes true s1.vars s1.graph (line.New (codes "b") (codes "Part") 1) ≡ s2
unfolding place_named
step2 = simp computes refl

abbrev s3 : Stepped
s3 = record s2 { reply = Named (n 1 3); vars = maps.insert s2.vars (codes "c") (n 1 3); graph = with_new s2.graph 1 part }

step3 : step boxes true s2.vars s2.graph (line.New (codes "c") (codes "Part") 1) ≡ s3
unfolding place_named
step3 = simp computes refl

abbrev s4 : Stepped
s4 = record s3 { reply = Done; graph = record s3.graph { pairs = joined boxes (tm 2 3) (n 1 1) (n 1 2) s3.graph.pairs } }

step4 : step boxes true s3.vars s3.graph (line.Set (codes "a") (codes "left") (operands.Var (codes "b"))) ≡ s4
unfolding place_named
step4 = simp computes refl

abbrev s5 : Stepped
s5 = record s4 { reply = Value (values.Object (n 1 1)) }

step5 : step boxes true s4.vars s4.graph (line.Get (codes "b") (codes "right")) ≡ s5
unfolding place_named
step5 = simp computes refl

abbrev s6 : Stepped
s6 = record s5 { reply = Done; graph = record s5.graph { pairs = joined boxes (tm 2 3) (n 1 3) (n 1 2) s5.graph.pairs } }

step6 : step boxes true s5.vars s5.graph (line.Set (codes "c") (codes "left") (operands.Var (codes "b"))) ≡ s6
unfolding place_named
step6 = simp computes refl

abbrev s7 : Stepped
s7 = record s6 { reply = Value values.Null }

step7 : step boxes true s6.vars s6.graph (line.Get (codes "a") (codes "left")) ≡ s7
unfolding place_named
step7 = simp computes refl

abbrev s8 : Stepped
s8 = record s7 { reply = Value (values.Object (n 1 3)) }

step8 : step boxes true s7.vars s7.graph (line.Get (codes "b") (codes "right")) ≡ s8
unfolding place_named
step8 = simp computes refl

abbrev s9 : Stepped
s9 = record s8 { reply = Done; graph = record s8.graph { pairs = joined boxes (tm 2 3) (n 1 3) (n 1 2) s8.graph.pairs } }

step9 : step boxes true s8.vars s8.graph (line.Set (codes "c") (codes "left") (operands.Var (codes "b"))) ≡ s9
unfolding place_named
step9 = simp computes refl

abbrev s10 : Stepped
s10 = record s9 { reply = Value (values.Object (n 1 3)) }

step10 : step boxes true s9.vars s9.graph (line.Get (codes "b") (codes "right")) ≡ s10
unfolding place_named
step10 = simp computes refl

pub displaced_partners : DisplacedPartners
displaced_partners =
    (s1.vars, s1.graph, step1, (s2.vars, s2.graph, step2, (s3.vars, s3.graph, step3, (s4.vars, s4.graph, step4, (s5.vars, s5.graph, step5, (s6.vars, s6.graph, step6, (s7.vars, s7.graph, step7, (s8.vars, s8.graph, step8, (s9.vars, s9.graph, step9, (s10.vars, s10.graph, step10, refl))))))))))
