-- The commands one by one.
use Rattle.std.proofs.Common.{◌≡◌, refl, None, true}
use Rattle.std.specs.Prelude.{codes}
use Rattle.std.specs.FinMap as maps
use Rattle.ostore_schema_layout.specs.Numbers.{place_named}
use Rattle.ostore_graph_model.specs.declared.values.Reply.TheVariants.{Done, Named, Refused}
use Rattle.ostore_graph_model.specs.declared.refusal.Refusal.TheVariants as refusals
use Rattle.ostore_graph_model.specs.declared.commands.Command.TheVariants as line
use Rattle.ostore_graph_model.specs.declared.commands.Operand.TheVariants as operands
use Rattle.ostore_graph_model.specs.Deeds.{Stepped}
use Rattle.ostore_graph_model.specs.Deeds.Objects.{with_new, without_object}
use Rattle.ostore_graph_model.specs.Step.{step}
use Rattle.ostore_graph_model.specs.Examples.{boxes, n, OrderOfRefusals}
use Rattle.ostore_graph_model.proofs.Computing.{computes, start, box, part}

abbrev s1 : Stepped
s1 = record start { reply = Named (n 1 1); vars = maps.insert start.vars (codes "a") (n 1 1); graph = with_new start.graph 1 part }

step1 : step boxes true start.vars start.graph (line.New (codes "a") (codes "Part") 1) ≡ s1
unfolding place_named
step1 = simp computes refl

abbrev s2 : Stepped
s2 = record s1 { reply = Named (n 1 2); vars = maps.insert s1.vars (codes "b") (n 1 2); graph = with_new s1.graph 1 box }

step2 : step boxes true s1.vars s1.graph (line.New (codes "b") (codes "Box") 1) ≡ s2
unfolding place_named
step2 = simp computes refl

abbrev s3 : Stepped
s3 = record s2 { reply = Refused refusals.NoVariable }

step3 : step boxes true s2.vars s2.graph (line.Set (codes "a") (codes "nope") (operands.Var (codes "c"))) ≡ s3
unfolding place_named
step3 = simp computes refl

abbrev s4 : Stepped
s4 = record s3 { reply = Refused refusals.WrongKind }

step4 : step boxes true s3.vars s3.graph (line.Set (codes "a") (codes "id") (operands.Var (codes "b"))) ≡ s4
unfolding place_named
step4 = simp computes refl

abbrev s5 : Stepped
s5 = record s4 { reply = Refused refusals.WrongType }

step5 : step boxes true s4.vars s4.graph (line.Set (codes "a") (codes "box") (operands.Var (codes "a"))) ≡ s5
unfolding place_named
step5 = simp computes refl

abbrev s6 : Stepped
s6 = record s5 { reply = Refused refusals.NoMember }

step6 : step boxes true s5.vars s5.graph (line.Get (codes "a") (codes "nope")) ≡ s6
unfolding place_named
step6 = simp computes refl

abbrev s7 : Stepped
s7 = record s6 { reply = Refused refusals.Null }

step7 : step boxes true s6.vars s6.graph (line.Follow (codes "x") (codes "a") (codes "next")) ≡ s7
unfolding place_named
step7 = simp computes refl

abbrev s8 : Stepped
s8 = record s7 { reply = Refused refusals.WrongType }

step8 : step boxes true s7.vars s7.graph (line.New (codes "b") (codes "Nope") 1) ≡ s8
unfolding place_named
step8 = simp computes refl

abbrev s9 : Stepped
s9 = record s8 { reply = Refused refusals.NoRoot }

step9 : step boxes true s8.vars s8.graph (line.Root (codes "x") (codes "top")) ≡ s9
unfolding place_named
step9 = simp computes refl

abbrev s10 : Stepped
s10 = record s9 { reply = Refused refusals.NoRoot }

step10 : step boxes true s9.vars s9.graph (line.SetRoot (codes "top") None) ≡ s10
unfolding place_named
step10 = simp computes refl

abbrev s11 : Stepped
s11 = record s10 { reply = Done; graph = without_object boxes s10.graph (n 1 2) }

step11 : step boxes true s10.vars s10.graph (line.Delete (codes "b")) ≡ s11
unfolding place_named
step11 = simp computes refl

abbrev s12 : Stepped
s12 = record s11 { reply = Refused refusals.NoVariable }

step12 : step boxes true s11.vars s11.graph (line.Insert (codes "b") (codes "nope") (codes "c")) ≡ s12
unfolding place_named
step12 = simp computes refl

abbrev s13 : Stepped
s13 = record s12 { reply = Refused refusals.Dangling }

step13 : step boxes true s12.vars s12.graph (line.Insert (codes "b") (codes "nope") (codes "a")) ≡ s13
unfolding place_named
step13 = simp computes refl

abbrev s14 : Stepped
s14 = record s13 { reply = Refused refusals.Dangling }

step14 : step boxes true s13.vars s13.graph (line.Set (codes "a") (codes "id") (operands.Var (codes "b"))) ≡ s14
unfolding place_named
step14 = simp computes refl

pub order_of_refusals : OrderOfRefusals
order_of_refusals =
    (s1.vars, s1.graph, step1, (s2.vars, s2.graph, step2, (s3.vars, s3.graph, step3, (s4.vars, s4.graph, step4, (s5.vars, s5.graph, step5, (s6.vars, s6.graph, step6, (s7.vars, s7.graph, step7, (s8.vars, s8.graph, step8, (s9.vars, s9.graph, step9, (s10.vars, s10.graph, step10, (s11.vars, s11.graph, step11, (s12.vars, s12.graph, step12, (s13.vars, s13.graph, step13, (s14.vars, s14.graph, step14, refl))))))))))))))
