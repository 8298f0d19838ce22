-- The commands one by one.
use Rattle.std.proofs.Common.{◌≡◌, refl, [], ◌∷◌, true}
use Rattle.std.specs.Prelude.{codes}
use Rattle.std.specs.FinMap as maps
use Rattle.ostore_schema_layout.specs.Numbers.{place_named}
use Rattle.ostore_graph_model.specs.declared.values.Reply.TheVariants.{Done, Named, Count, Refused}
use Rattle.ostore_graph_model.specs.declared.refusal.Refusal.TheVariants as refusals
use Rattle.ostore_graph_model.specs.declared.commands.Command.TheVariants as line
use Rattle.ostore_graph_model.specs.declared.commands.Key.TheVariants as keys
use Rattle.ostore_graph_model.specs.Deeds.{Stepped}
use Rattle.ostore_graph_model.specs.Deeds.Objects.{with_new}
use Rattle.ostore_graph_model.specs.Step.{step}
use Rattle.ostore_graph_model.specs.Examples.{bags, n, ListsAndDictionaries}
use Rattle.ostore_graph_model.proofs.Computing.{computes, start, om, bag}

abbrev s1 : Stepped
s1 = record start { reply = Named (n 1 1); vars = maps.insert start.vars (codes "b") (n 1 1); graph = with_new start.graph 1 bag }

step1 : step bags true start.vars start.graph (line.New (codes "b") (codes "Bag") 1) ≡ s1
unfolding place_named
step1 = simp computes refl

abbrev s2 : Stepped
s2 = record s1 { reply = Done; graph = record s1.graph { lists = maps.insert s1.graph.lists (om (n 1 1) 0) ((n 1 1) ∷ []) } }

step2 : step bags true s1.vars s1.graph (line.Append (codes "b") (codes "all") (codes "b")) ≡ s2
unfolding place_named
step2 = simp computes refl

abbrev s3 : Stepped
s3 = record s2 { reply = Named (n 1 1); vars = maps.insert s2.vars (codes "x") (n 1 1) }

step3 : step bags true s2.vars s2.graph (line.At (codes "x") (codes "b") (codes "all") 0) ≡ s3
unfolding place_named
step3 = simp computes refl

abbrev s4 : Stepped
s4 = record s3 { reply = Refused refusals.OutOfRange }

step4 : step bags true s3.vars s3.graph (line.At (codes "x") (codes "b") (codes "all") 1) ≡ s4
unfolding place_named
step4 = simp computes refl

abbrev s5 : Stepped
s5 = record s4 { reply = Done; graph = record s4.graph { dictionaries = maps.insert s4.graph.dictionaries (om (n 1 1) 1) (maps.insert maps.empty (keys.Text (codes "k")) (n 1 1)) } }

step5 : step bags true s4.vars s4.graph (line.Bind (codes "b") (codes "by") (keys.Text (codes "k")) (codes "b")) ≡ s5
unfolding place_named
step5 = simp computes refl

abbrev s6 : Stepped
s6 = record s5 { reply = Named (n 1 1); vars = maps.insert s5.vars (codes "x") (n 1 1) }

step6 : step bags true s5.vars s5.graph (line.Look (codes "x") (codes "b") (codes "by") (keys.Text (codes "k"))) ≡ s6
unfolding place_named
step6 = simp computes refl

abbrev s7 : Stepped
s7 = record s6 { reply = Done; graph = record s6.graph { dictionaries = maps.remove s6.graph.dictionaries (om (n 1 1) 1) } }

step7 : step bags true s6.vars s6.graph (line.Unbind (codes "b") (codes "by") (keys.Text (codes "k"))) ≡ s7
unfolding place_named
step7 = simp computes refl

abbrev s8 : Stepped
s8 = record s7 { reply = Refused refusals.NoKey }

step8 : step bags true s7.vars s7.graph (line.Look (codes "x") (codes "b") (codes "by") (keys.Text (codes "k"))) ≡ s8
unfolding place_named
step8 = simp computes refl

abbrev s9 : Stepped
s9 = record s8 { reply = Count 1 }

step9 : step bags true s8.vars s8.graph (line.Size (codes "b") (codes "all")) ≡ s9
unfolding place_named
step9 = simp computes refl

pub lists_and_dictionaries : ListsAndDictionaries
lists_and_dictionaries =
    (s1.vars, s1.graph, step1, (s2.vars, s2.graph, step2, (s3.vars, s3.graph, step3, (s4.vars, s4.graph, step4, (s5.vars, s5.graph, step5, (s6.vars, s6.graph, step6, (s7.vars, s7.graph, step7, (s8.vars, s8.graph, step8, (s9.vars, s9.graph, step9, refl)))))))))
