-- The commands one by one.
use Rattle.std.proofs.Common.{◌≡◌, refl, [], ◌∷◌, true, false}
use Rattle.std.specs.Prelude.{codes, pos}
use Rattle.std.specs.FinMap as maps
use Rattle.ostore_schema_layout.specs.Numbers.{place_named}
use Rattle.ostore_graph_model.specs.declared.values.Reply.TheVariants.{Done, Named, Names, Refused}
use Rattle.ostore_graph_model.specs.declared.refusal.Refusal.TheVariants as refusals
use Rattle.ostore_graph_model.specs.declared.commands.Command.TheVariants as line
use Rattle.ostore_graph_model.specs.declared.commands.Operand.TheVariants as operands
use Rattle.ostore_graph_model.specs.declared.commands.Key.TheVariants as keys
use Rattle.ostore_graph_model.specs.declared.commands.Op.TheVariants as ops
use Rattle.ostore_graph_model.specs.Sets as sets
use Rattle.ostore_graph_model.specs.Links.{joined}
use Rattle.ostore_graph_model.specs.Deeds.{Stepped}
use Rattle.ostore_graph_model.specs.Deeds.Objects.{with_new, without_object}
use Rattle.ostore_graph_model.specs.Step.{step}
use Rattle.ostore_graph_model.specs.Examples.{stores, by_code, n, PathQueries}
use Rattle.ostore_graph_model.proofs.Computing.{computes, start, tm, crate, piece, shelf, shelf_with, store, the_index}

abbrev s1 : Stepped
s1 = record start { reply = Named (n 1 1); vars = maps.insert start.vars (codes "s") (n 1 1); graph = with_new start.graph 1 store }

step1 : step stores true start.vars start.graph (line.New (codes "s") (codes "Store") 1) ≡ s1
unfolding place_named
step1 = simp computes refl

abbrev s2 : Stepped
s2 = record s1 { reply = Named (n 1 2); vars = maps.insert s1.vars (codes "p") (n 1 2); graph = with_new s1.graph 1 piece }

step2 : step stores true s1.vars s1.graph (line.New (codes "p") (codes "Part") 1) ≡ s2
unfolding place_named
step2 = simp computes refl

abbrev s3 : Stepped
s3 = record s2 { reply = Named (n 1 3); vars = maps.insert s2.vars (codes "q") (n 1 3); graph = with_new s2.graph 1 piece }

step3 : step stores true s2.vars s2.graph (line.New (codes "q") (codes "Part") 1) ≡ s3
unfolding place_named
step3 = simp computes refl

abbrev s4 : Stepped
s4 = record s3 { reply = Named (n 2 1); vars = maps.insert s3.vars (codes "b") (n 2 1); graph = with_new s3.graph 2 crate }

step4 : step stores true s3.vars s3.graph (line.New (codes "b") (codes "Box") 2) ≡ s4
unfolding place_named
step4 = simp computes refl

abbrev s5 : Stepped
s5 = record s4 { reply = Named (n 2 2); vars = maps.insert s4.vars (codes "h") (n 2 2); graph = with_new s4.graph 2 shelf }

step5 : step stores true s4.vars s4.graph (line.New (codes "h") (codes "Shelf") 2) ≡ s5
unfolding place_named
step5 = simp computes refl

abbrev s6 : Stepped
s6 = record s5 { reply = Done; graph = record s5.graph { pairs = joined stores (tm 1 0) (n 1 1) (n 1 2) s5.graph.pairs } }

step6 : step stores true s5.vars s5.graph (line.Insert (codes "s") (codes "items") (codes "p")) ≡ s6
unfolding place_named
step6 = simp computes refl

abbrev s7 : Stepped
s7 = record s6 { reply = Done; graph = record s6.graph { pairs = joined stores (tm 1 0) (n 1 1) (n 1 3) s6.graph.pairs } }

step7 : step stores true s6.vars s6.graph (line.Insert (codes "s") (codes "items") (codes "q")) ≡ s7
unfolding place_named
step7 = simp computes refl

abbrev s8 : Stepped
s8 = record s7 { reply = Done; graph = record s7.graph { pairs = joined stores (tm 2 1) (n 1 2) (n 2 1) s7.graph.pairs } }

step8 : step stores true s7.vars s7.graph (line.Set (codes "p") (codes "box") (operands.Var (codes "b"))) ≡ s8
unfolding place_named
step8 = simp computes refl

abbrev s9 : Stepped
s9 = record s8 { reply = Done; graph = record s8.graph { pairs = joined stores (tm 3 1) (n 2 1) (n 2 2) s8.graph.pairs } }

step9 : step stores true s8.vars s8.graph (line.Set (codes "b") (codes "shelf") (operands.Var (codes "h"))) ≡ s9
unfolding place_named
step9 = simp computes refl

abbrev s10 : Stepped
s10 = record s9 { reply = Done; graph = record s9.graph { objects = maps.insert s9.graph.objects (n 2 2) (shelf_with (codes "A1")) } }

step10 : step stores true s9.vars s9.graph (line.Set (codes "h") (codes "code") (operands.Text (codes "A1"))) ≡ s10
unfolding place_named
step10 = simp computes refl

abbrev s11 : Stepped
s11 = record s10 { reply = Done; graph = record s10.graph { indexes = sets.insert s10.graph.indexes the_index } }

step11 : step stores true s10.vars s10.graph (line.Index (codes "s") (codes "items") by_code) ≡ s11
unfolding place_named
step11 = simp computes refl

abbrev s12 : Stepped
s12 = record s11 { reply = Names (record { name = (n 1 2); dead = false } ∷ []) }

step12 : step stores true s11.vars s11.graph (line.Query (codes "s") (codes "items") by_code ops.Equal (keys.Text (codes "A1"))) ≡ s12
unfolding place_named
step12 = simp computes refl

abbrev s13 : Stepped
s13 = record s12 { reply = Done; graph = record s12.graph { objects = maps.insert s12.graph.objects (n 2 2) (shelf_with (codes "B2")) } }

step13 : step stores true s12.vars s12.graph (line.Set (codes "h") (codes "code") (operands.Text (codes "B2"))) ≡ s13
unfolding place_named
step13 = simp computes refl

abbrev s14 : Stepped
s14 = record s13 { reply = Names [] }

step14 : step stores true s13.vars s13.graph (line.Query (codes "s") (codes "items") by_code ops.Equal (keys.Text (codes "A1"))) ≡ s14
unfolding place_named
step14 = simp computes refl

abbrev s15 : Stepped
s15 = record s14 { reply = Names (record { name = (n 1 2); dead = false } ∷ []) }

step15 : step stores true s14.vars s14.graph (line.Query (codes "s") (codes "items") by_code ops.Equal (keys.Text (codes "B2"))) ≡ s15
unfolding place_named
step15 = simp computes refl

abbrev s16 : Stepped
s16 = record s15 { reply = Refused refusals.IndexThere }

step16 : step stores true s15.vars s15.graph (line.Index (codes "s") (codes "items") by_code) ≡ s16
unfolding place_named
step16 = simp computes refl

abbrev s17 : Stepped
s17 = record s16 { reply = Done; graph = record s16.graph { indexes = sets.remove s16.graph.indexes the_index } }

step17 : step stores true s16.vars s16.graph (line.Unindex (codes "s") (codes "items") by_code) ≡ s17
unfolding place_named
step17 = simp computes refl

abbrev s18 : Stepped
s18 = record s17 { reply = Names (record { name = (n 1 2); dead = false } ∷ []) }

step18 : step stores true s17.vars s17.graph (line.Query (codes "s") (codes "items") by_code ops.Equal (keys.Text (codes "B2"))) ≡ s18
unfolding place_named
step18 = simp computes refl

abbrev s19 : Stepped
s19 = record s18 { reply = Refused refusals.NoIndex }

step19 : step stores true s18.vars s18.graph (line.Unindex (codes "s") (codes "items") by_code) ≡ s19
unfolding place_named
step19 = simp computes refl

abbrev s20 : Stepped
s20 = record s19 { reply = Refused refusals.TextTooLong }

step20 : step stores true s19.vars s19.graph (line.Set (codes "h") (codes "code") (operands.Text (codes "ABCDEFGHI"))) ≡ s20
unfolding place_named
step20 = simp computes refl

abbrev s21 : Stepped
s21 = record s20 { reply = Refused refusals.NoMember }

step21 : step stores true s20.vars s20.graph (line.Query (codes "s") (codes "items") ((codes "box") ∷ (codes "code") ∷ []) ops.Equal (keys.Text (codes "B2"))) ≡ s21
unfolding place_named
step21 = simp computes refl

abbrev s22 : Stepped
s22 = record s21 { reply = Refused refusals.WrongKind }

step22 : step stores true s21.vars s21.graph (line.Query (codes "s") (codes "items") ((codes "box") ∷ (codes "shelf") ∷ []) ops.Equal (keys.Text (codes "B2"))) ≡ s22
unfolding place_named
step22 = simp computes refl

abbrev s23 : Stepped
s23 = record s22 { reply = Refused refusals.WrongKind }

step23 : step stores true s22.vars s22.graph (line.Query (codes "s") (codes "items") by_code ops.Equal (keys.Int (pos 2))) ≡ s23
unfolding place_named
step23 = simp computes refl

abbrev s24 : Stepped
s24 = record s23 { reply = Done; graph = without_object stores s23.graph (n 2 1) }

step24 : step stores true s23.vars s23.graph (line.Delete (codes "b")) ≡ s24
unfolding place_named
step24 = simp computes refl

abbrev s25 : Stepped
s25 = record s24 { reply = Names [] }

step25 : step stores true s24.vars s24.graph (line.Query (codes "s") (codes "items") by_code ops.Equal (keys.Text (codes "B2"))) ≡ s25
unfolding place_named
step25 = simp computes refl

pub path_queries : PathQueries
path_queries =
    (s1.vars, s1.graph, step1, (s2.vars, s2.graph, step2, (s3.vars, s3.graph, step3, (s4.vars, s4.graph, step4, (s5.vars, s5.graph, step5, (s6.vars, s6.graph, step6, (s7.vars, s7.graph, step7, (s8.vars, s8.graph, step8, (s9.vars, s9.graph, step9, (s10.vars, s10.graph, step10, (s11.vars, s11.graph, step11, (s12.vars, s12.graph, step12, (s13.vars, s13.graph, step13, (s14.vars, s14.graph, step14, (s15.vars, s15.graph, step15, (s16.vars, s16.graph, step16, (s17.vars, s17.graph, step17, (s18.vars, s18.graph, step18, (s19.vars, s19.graph, step19, (s20.vars, s20.graph, step20, (s21.vars, s21.graph, step21, (s22.vars, s22.graph, step22, (s23.vars, s23.graph, step23, (s24.vars, s24.graph, step24, (s25.vars, s25.graph, step25, refl)))))))))))))))))))))))))
