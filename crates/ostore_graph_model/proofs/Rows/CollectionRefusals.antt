-- The commands one by one.
use Rattle.std.proofs.Common.{◌≡◌, refl, [], ◌∷◌, true, Some, None}
use Rattle.std.specs.Prelude.{codes, pos}
use Rattle.std.specs.FinMap as maps
use Rattle.ostore_schema_layout.specs.Numbers.{place_named}
use Rattle.ostore_graph_model.specs.declared.values.Reply.TheVariants.{Done, Named, Count, Refused}
use Rattle.ostore_graph_model.specs.declared.values.Scalar.TheVariants as scalars
use Rattle.ostore_graph_model.specs.declared.refusal.Refusal.TheVariants as refusals
use Rattle.ostore_graph_model.specs.declared.commands.Command.TheVariants as line
use Rattle.ostore_graph_model.specs.declared.commands.Operand.TheVariants as operands
use Rattle.ostore_graph_model.specs.declared.commands.Key.TheVariants as keys
use Rattle.ostore_graph_model.specs.Graph.{Object}
use Rattle.ostore_graph_model.specs.Deeds.{Stepped}
use Rattle.ostore_graph_model.specs.Deeds.Objects.{with_new, without_object}
use Rattle.ostore_graph_model.specs.Step.{step}
use Rattle.ostore_graph_model.specs.Examples.{n}
use Rattle.ostore_graph_model.specs.RefusalOrders.{crates, long_key, CollectionRefusals}
use Rattle.ostore_graph_model.proofs.Computing.{computes, start, om}

abbrev crate_object : Object
crate_object = record { ty = record { 0 = 1 }; values = None ∷ None ∷ Some (scalars.Text []) ∷ [] }

abbrev lid : Object
lid = record { ty = record { 0 = 2 }; values = [] }

abbrev s1 : Stepped
s1 = record start { reply = Named (n 1 1); vars = maps.insert start.vars (codes "c") (n 1 1); graph = with_new start.graph 1 crate_object }

step1 : step crates true start.vars start.graph (line.New (codes "c") (codes "Crate") 1) ≡ s1
unfolding place_named
step1 = simp computes refl

abbrev s2 : Stepped
s2 = record s1 { reply = Named (n 1 2); vars = maps.insert s1.vars (codes "l") (n 1 2); graph = with_new s1.graph 1 lid }

step2 : step crates true s1.vars s1.graph (line.New (codes "l") (codes "Lid") 1) ≡ s2
unfolding place_named
step2 = simp computes refl

abbrev s3 : Stepped
s3 = record s2 { reply = Refused refusals.WrongType }

step3 : step crates true s2.vars s2.graph (line.Put (codes "c") (codes "all") 5 (codes "l")) ≡ s3
unfolding place_named
step3 = simp computes refl

abbrev s4 : Stepped
s4 = record s3 { reply = Refused refusals.OutOfRange }

step4 : step crates true s3.vars s3.graph (line.Put (codes "c") (codes "all") 0 (codes "c")) ≡ s4
unfolding place_named
step4 = simp computes refl

abbrev s5 : Stepped
s5 = record s4 { reply = Refused refusals.WrongKind }

step5 : step crates true s4.vars s4.graph (line.Bind (codes "c") (codes "by") (keys.Int (pos 7)) (codes "l")) ≡ s5
unfolding place_named
step5 = simp computes refl

abbrev s6 : Stepped
s6 = record s5 { reply = Refused refusals.TextTooLong }

step6 : step crates true s5.vars s5.graph (line.Bind (codes "c") (codes "by") (keys.Text long_key) (codes "l")) ≡ s6
unfolding place_named
step6 = simp computes refl

abbrev s7 : Stepped
s7 = record s6 { reply = Refused refusals.WrongType }

step7 : step crates true s6.vars s6.graph (line.Bind (codes "c") (codes "by") (keys.Text (codes "k")) (codes "l")) ≡ s7
unfolding place_named
step7 = simp computes refl

abbrev s8 : Stepped
s8 = record s7 { reply = Refused refusals.TextTooLong }

step8 : step crates true s7.vars s7.graph (line.Set (codes "c") (codes "mark") (operands.Text (codes "abcd"))) ≡ s8
unfolding place_named
step8 = simp computes refl

abbrev s9 : Stepped
s9 = record s8 { reply = Refused refusals.WrongKind }

step9 : step crates true s8.vars s8.graph (line.Set (codes "c") (codes "mark") (operands.Int (pos 4))) ≡ s9
unfolding place_named
step9 = simp computes refl

abbrev s10 : Stepped
s10 = record s9 { reply = Named (n 1 3); vars = maps.insert s9.vars (codes "d") (n 1 3); graph = with_new s9.graph 1 crate_object }

step10 : step crates true s9.vars s9.graph (line.New (codes "d") (codes "Crate") 1) ≡ s10
unfolding place_named
step10 = simp computes refl

abbrev s11 : Stepped
s11 = record s10 { reply = Done; graph = record s10.graph { lists = maps.insert s10.graph.lists (om (n 1 1) 0) ((n 1 3) ∷ []) } }

step11 : step crates true s10.vars s10.graph (line.Append (codes "c") (codes "all") (codes "d")) ≡ s11
unfolding place_named
step11 = simp computes refl

abbrev s12 : Stepped
s12 = record s11 { reply = Done; graph = record s11.graph { dictionaries = maps.insert s11.graph.dictionaries (om (n 1 1) 1) (maps.insert maps.empty (keys.Text (codes "d")) (n 1 3)) } }

step12 : step crates true s11.vars s11.graph (line.Bind (codes "c") (codes "by") (keys.Text (codes "d")) (codes "d")) ≡ s12
unfolding place_named
step12 = simp computes refl

abbrev s13 : Stepped
s13 = record s12 { reply = Done; graph = without_object crates s12.graph (n 1 3) }

step13 : step crates true s12.vars s12.graph (line.Delete (codes "d")) ≡ s13
unfolding place_named
step13 = simp computes refl

abbrev s14 : Stepped
s14 = record s13 { reply = Refused refusals.OutOfRange }

step14 : step crates true s13.vars s13.graph (line.At (codes "x") (codes "c") (codes "all") 1) ≡ s14
unfolding place_named
step14 = simp computes refl

abbrev s15 : Stepped
s15 = record s14 { reply = Refused refusals.Dangling }

step15 : step crates true s14.vars s14.graph (line.At (codes "x") (codes "c") (codes "all") 0) ≡ s15
unfolding place_named
step15 = simp computes refl

abbrev s16 : Stepped
s16 = record s15 { reply = Refused refusals.WrongKind }

step16 : step crates true s15.vars s15.graph (line.Look (codes "x") (codes "c") (codes "by") (keys.Int (pos 7))) ≡ s16
unfolding place_named
step16 = simp computes refl

abbrev s17 : Stepped
s17 = record s16 { reply = Refused refusals.NoKey }

step17 : step crates true s16.vars s16.graph (line.Look (codes "x") (codes "c") (codes "by") (keys.Text (codes "e"))) ≡ s17
unfolding place_named
step17 = simp computes refl

abbrev s18 : Stepped
s18 = record s17 { reply = Refused refusals.Dangling }

step18 : step crates true s17.vars s17.graph (line.Look (codes "x") (codes "c") (codes "by") (keys.Text (codes "d"))) ≡ s18
unfolding place_named
step18 = simp computes refl

abbrev s19 : Stepped
s19 = record s18 { reply = Refused refusals.TextTooLong }

step19 : step crates true s18.vars s18.graph (line.Unbind (codes "c") (codes "by") (keys.Text long_key)) ≡ s19
unfolding place_named
step19 = simp computes refl

abbrev s20 : Stepped
s20 = record s19 { reply = Count 1 }

step20 : step crates true s19.vars s19.graph (line.Size (codes "c") (codes "all")) ≡ s20
unfolding place_named
step20 = simp computes refl

abbrev s21 : Stepped
s21 = record s20 { reply = Refused refusals.Dangling }

step21 : step crates true s20.vars s20.graph (line.SetRoot (codes "top") (Some (codes "d"))) ≡ s21
unfolding place_named
step21 = simp computes refl

abbrev s22 : Stepped
s22 = record s21 { reply = Done; graph = record s21.graph { roots = maps.insert s21.graph.roots (codes "top") (n 1 1) } }

step22 : step crates true s21.vars s21.graph (line.SetRoot (codes "top") (Some (codes "c"))) ≡ s22
unfolding place_named
step22 = simp computes refl

abbrev s23 : Stepped
s23 = record s22 { reply = Done; graph = without_object crates s22.graph (n 1 1) }

step23 : step crates true s22.vars s22.graph (line.Delete (codes "c")) ≡ s23
unfolding place_named
step23 = simp computes refl

abbrev s24 : Stepped
s24 = record s23 { reply = Refused refusals.Dangling }

step24 : step crates true s23.vars s23.graph (line.Root (codes "x") (codes "top")) ≡ s24
unfolding place_named
step24 = simp computes refl

abbrev s25 : Stepped
s25 = record s24 { reply = Refused refusals.NoRoot }

step25 : step crates true s24.vars s24.graph (line.Root (codes "x") (codes "none")) ≡ s25
unfolding place_named
step25 = simp computes refl

pub collection_refusals : CollectionRefusals
collection_refusals =
    (s1.vars, s1.graph, step1, (s2.vars, s2.graph, step2, (s3.vars, s3.graph, step3, (s4.vars, s4.graph, step4, (s5.vars, s5.graph, step5, (s6.vars, s6.graph, step6, (s7.vars, s7.graph, step7, (s8.vars, s8.graph, step8, (s9.vars, s9.graph, step9, (s10.vars, s10.graph, step10, (s11.vars, s11.graph, step11, (s12.vars, s12.graph, step12, (s13.vars, s13.graph, step13, (s14.vars, s14.graph, step14, (s15.vars, s15.graph, step15, (s16.vars, s16.graph, step16, (s17.vars, s17.graph, step17, (s18.vars, s18.graph, step18, (s19.vars, s19.graph, step19, (s20.vars, s20.graph, step20, (s21.vars, s21.graph, step21, (s22.vars, s22.graph, step22, (s23.vars, s23.graph, step23, (s24.vars, s24.graph, step24, (s25.vars, s25.graph, step25, refl)))))))))))))))))))))))))
