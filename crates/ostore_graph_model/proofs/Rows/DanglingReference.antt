-- The commands one by one.
use Rattle.std.proofs.Common.{◌≡◌, refl, sym, subst, [], ◌∷◌, Some, true, false}
use Rattle.std.specs.Prelude.{codes}
use Rattle.std.specs.FinMap as maps
use Rattle.ostore_schema_layout.specs.Numbers.{place_named}
use Rattle.ostore_graph_model.specs.declared.values.Value.TheVariants as values
use Rattle.ostore_graph_model.specs.declared.values.Reply.TheVariants.{Done, Named, Value, Refused}
use Rattle.ostore_graph_model.specs.declared.refusal.Refusal.TheVariants as refusals
use Rattle.ostore_graph_model.specs.declared.commands.Command.TheVariants as line
use Rattle.ostore_graph_model.specs.declared.commands.Operand.TheVariants as operands
use Rattle.ostore_graph_model.specs.Graph.{empty_graph}
use Rattle.ostore_graph_model.specs.Links.{joined}
use Rattle.ostore_graph_model.specs.Deeds.{Stepped}
use Rattle.ostore_graph_model.specs.Deeds.Objects.{with_new, without_object}
use Rattle.ostore_graph_model.specs.Step.{step}
use Rattle.ostore_graph_model.specs.Examples.{chained, n, dangling_commands, dangling_replies, DanglingReference}
use Rattle.ostore_graph_model.specs.FullGraphs.{LaterRead}
use Rattle.ostore_graph_model.specs.Transaction.{run_from, Answers}
use Rattle.ostore_graph_model.proofs.StepLaws.{graph_left}
use Rattle.ostore_graph_model.proofs.Computing.{computes, start, tm, link}

abbrev s1 : Stepped
s1 = record start { reply = Named (n 1 1); vars = maps.insert start.vars (codes "p") (n 1 1); graph = with_new start.graph 1 link }

step1 : step chained true start.vars start.graph (line.New (codes "p") (codes "Part") 1) ≡ s1
unfolding place_named
step1 = simp computes refl

abbrev s2 : Stepped
s2 = record s1 { reply = Named (n 1 2); vars = maps.insert s1.vars (codes "q") (n 1 2); graph = with_new s1.graph 1 link }

step2 : step chained true s1.vars s1.graph (line.New (codes "q") (codes "Part") 1) ≡ s2
unfolding place_named
step2 = simp computes refl

abbrev s3 : Stepped
s3 = record s2 { reply = Done; graph = record s2.graph { pairs = joined chained (tm 1 1) (n 1 1) (n 1 2) s2.graph.pairs } }

step3 : step chained true s2.vars s2.graph (line.Set (codes "p") (codes "next") (operands.Var (codes "q"))) ≡ s3
unfolding place_named
step3 = simp computes refl

abbrev s4 : Stepped
s4 = record s3 { reply = Done; graph = without_object chained s3.graph (n 1 2) }

step4 : step chained true s3.vars s3.graph (line.Delete (codes "q")) ≡ s4
unfolding place_named
step4 = simp computes refl

abbrev s5 : Stepped
s5 = record s4 { reply = Value (values.Dead (n 1 2)) }

step5 : step chained true s4.vars s4.graph (line.Get (codes "p") (codes "next")) ≡ s5
unfolding place_named
step5 = simp computes refl

abbrev s6 : Stepped
s6 = record s5 { reply = Refused refusals.Dangling }

step6 : step chained true s5.vars s5.graph (line.Follow (codes "x") (codes "p") (codes "next")) ≡ s6
unfolding place_named
step6 = simp computes refl

abbrev s7 : Stepped
s7 = record s6 { reply = Done; graph = record s6.graph { roots = maps.insert s6.graph.roots (codes "top") (n 1 1) } }

step7 : step chained true s6.vars s6.graph (line.SetRoot (codes "top") (Some (codes "p"))) ≡ s7
unfolding place_named
step7 = simp computes refl

abbrev s8 : Stepped
s8 = record s7 { reply = Refused refusals.NoObject }

step8 : step chained true s7.vars s7.graph (line.Find (codes "x") (n 1 2)) ≡ s8
unfolding place_named
step8 = simp computes refl

abbrev s9 : Stepped
s9 = record s8 { reply = Named (n 1 1); vars = maps.insert s8.vars (codes "y") (n 1 1) }

step9 : step chained true s8.vars s8.graph (line.Find (codes "y") (n 1 1)) ≡ s9
unfolding place_named
step9 = simp computes refl

abbrev s10 : Stepped
s10 = record s9 { reply = Named (n 1 1); vars = maps.insert s9.vars (codes "z") (n 1 1) }

step10 : step chained true s9.vars s9.graph (line.Root (codes "z") (codes "top")) ≡ s10
unfolding place_named
step10 = simp computes refl

pub dangling_reference : DanglingReference
dangling_reference =
    (s1.vars, s1.graph, step1, (s2.vars, s2.graph, step2, (s3.vars, s3.graph, step3, (s4.vars, s4.graph, step4, (s5.vars, s5.graph, step5, (s6.vars, s6.graph, step6, (s7.vars, s7.graph, step7, (s8.vars, s8.graph, step8, (s9.vars, s9.graph, step9, (s10.vars, s10.graph, step10, refl))))))))))

-- ---- a later read

abbrev t1 : Stepped
t1 = record { reply = Named (n 1 1); vars = maps.insert maps.empty (codes "r") (n 1 1); graph = s10.graph }

abbrev t2 : Stepped
t2 = record t1 { reply = Value (values.Dead (n 1 2)) }

read1 : step chained false maps.empty s10.graph (line.Root (codes "r") (codes "top")) ≡ t1
unfolding place_named
read1 = simp computes refl

read2 : step chained false t1.vars t1.graph (line.Get (codes "r") (codes "next")) ≡ t2
unfolding place_named
read2 = simp computes refl

-- the graph that the commands leave
left : (run_from chained true maps.empty empty_graph dangling_commands).graph ≡ s10.graph
unfolding dangling_reference
left = graph_left chained true maps.empty empty_graph dangling_commands dangling_replies dangling_reference

pub later_read : LaterRead
later_read =
    subst (λ graph. Answers chained false maps.empty graph (line.Root (codes "r") (codes "top") ∷ line.Get (codes "r") (codes "next") ∷ []) (Named (n 1 1) ∷ Value (values.Dead (n 1 2)) ∷ []))
    (sym left) (t1.vars, t1.graph, read1, (t2.vars, t2.graph, read2, refl))
