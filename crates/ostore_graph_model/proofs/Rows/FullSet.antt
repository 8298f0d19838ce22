-- The commands one by one.
use Rattle.std.proofs.Common.{◌≡◌, refl, List, [], ◌∷◌, map, true}
use Rattle.std.specs.Prelude.{codes}
use Rattle.std.specs.FinMap as maps
use Rattle.ostore_schema_layout.specs.Numbers.{place_named}
use Rattle.ostore_graph_model.specs.declared.values.Name.{Name}
use Rattle.ostore_graph_model.specs.declared.values.Reply.TheVariants.{Done, Named, Count, Names, Refused}
use Rattle.ostore_graph_model.specs.declared.refusal.Refusal.TheVariants as refusals
use Rattle.ostore_graph_model.specs.declared.commands.Command.TheVariants as line
use Rattle.ostore_graph_model.specs.Sets as sets
use Rattle.ostore_graph_model.specs.Orders.{Pair, name_cmp, pair_cmp}
use Rattle.ostore_graph_model.specs.Graph.{Object}
use Rattle.ostore_graph_model.specs.Links.{pair_at, joined}
use Rattle.ostore_graph_model.specs.Deeds.{Stepped}
use Rattle.ostore_graph_model.specs.Deeds.Objects.{new_object}
use Rattle.ostore_graph_model.specs.Step.{step}
use Rattle.ostore_graph_model.specs.Examples.{type_number, boxes, n}
use Rattle.ostore_graph_model.specs.FullSets.{part_names, box_with, FullSet}
use Rattle.ostore_graph_model.proofs.Computing.{computes, tm}

-- names ascend
abbrev objects : List (Name × Object)
objects = (n 1 1, new_object boxes (type_number 1)) ∷ map (λ part. (part, new_object boxes (type_number 2))) part_names

abbrev pairs : List (Pair × Unit {0})
pairs = map (λ part. (record { link = tm 1 0; first = n 1 1; second = part }, tt)) part_names

objects_bound : maps.entries (maps.from_sorted {R = name_cmp} objects) ≡ objects
objects_bound = maps.entries-from_sorted name_cmp objects tt

pairs_bound : maps.entries (maps.from_sorted {R = pair_cmp} pairs) ≡ pairs
pairs_bound = maps.entries-from_sorted pair_cmp pairs tt

abbrev first : Stepped
first = record { reply = Done; vars = maps.empty; graph = box_with part_names }

abbrev s1 : Stepped
s1 = record first { reply = Named (n 1 1); vars = maps.insert first.vars (codes "b") (n 1 1) }

step1 : step boxes true first.vars first.graph (line.Find (codes "b") (n 1 1)) ≡ s1
unfolding place_named
step1 = simp (computes, objects_bound) refl

abbrev s2 : Stepped
s2 = record s1 { reply = Count 31 }

step2 : step boxes true s1.vars s1.graph (line.Size (codes "b") (codes "parts")) ≡ s2
unfolding place_named
step2 = simp (computes, objects_bound, pairs_bound) refl

abbrev s3 : Stepped
s3 = record s2 { reply = Named (n 1 2); vars = maps.insert s2.vars (codes "p") (n 1 2) }

step3 : step boxes true s2.vars s2.graph (line.Find (codes "p") (n 1 2)) ≡ s3
unfolding place_named
step3 = simp (computes, objects_bound) refl

abbrev s4 : Stepped
s4 = record s3 { reply = Done; graph = record s3.graph { pairs = sets.remove s3.graph.pairs (pair_at boxes (tm 1 0) (n 1 1) (n 1 2)) } }

step4 : step boxes true s3.vars s3.graph (line.Remove (codes "b") (codes "parts") (codes "p")) ≡ s4
unfolding place_named
step4 = simp (computes, objects_bound, pairs_bound) refl

abbrev s5 : Stepped
s5 = record s4 { reply = Named (n 1 3); vars = maps.insert s4.vars (codes "p") (n 1 3) }

step5 : step boxes true s4.vars s4.graph (line.Find (codes "p") (n 1 3)) ≡ s5
unfolding place_named
step5 = simp (computes, objects_bound) refl

abbrev s6 : Stepped
s6 = record s5 { reply = Done; graph = record s5.graph { pairs = sets.remove s5.graph.pairs (pair_at boxes (tm 1 0) (n 1 1) (n 1 3)) } }

step6 : step boxes true s5.vars s5.graph (line.Remove (codes "b") (codes "parts") (codes "p")) ≡ s6
unfolding place_named
step6 = simp (computes, objects_bound, pairs_bound) refl

abbrev s7 : Stepped
s7 = record s6 { reply = Named (n 1 4); vars = maps.insert s6.vars (codes "p") (n 1 4) }

step7 : step boxes true s6.vars s6.graph (line.Find (codes "p") (n 1 4)) ≡ s7
unfolding place_named
step7 = simp (computes, objects_bound) refl

abbrev s8 : Stepped
s8 = record s7 { reply = Done; graph = record s7.graph { pairs = sets.remove s7.graph.pairs (pair_at boxes (tm 1 0) (n 1 1) (n 1 4)) } }

step8 : step boxes true s7.vars s7.graph (line.Remove (codes "b") (codes "parts") (codes "p")) ≡ s8
unfolding place_named
step8 = simp (computes, objects_bound, pairs_bound) refl

abbrev s9 : Stepped
s9 = record s8 { reply = Named (n 1 5); vars = maps.insert s8.vars (codes "p") (n 1 5) }

step9 : step boxes true s8.vars s8.graph (line.Find (codes "p") (n 1 5)) ≡ s9
unfolding place_named
step9 = simp (computes, objects_bound) refl

abbrev s10 : Stepped
s10 = record s9 { reply = Done; graph = record s9.graph { pairs = sets.remove s9.graph.pairs (pair_at boxes (tm 1 0) (n 1 1) (n 1 5)) } }

step10 : step boxes true s9.vars s9.graph (line.Remove (codes "b") (codes "parts") (codes "p")) ≡ s10
unfolding place_named
step10 = simp (computes, objects_bound, pairs_bound) refl

abbrev s11 : Stepped
s11 = record s10 { reply = Named (n 1 6); vars = maps.insert s10.vars (codes "p") (n 1 6) }

step11 : step boxes true s10.vars s10.graph (line.Find (codes "p") (n 1 6)) ≡ s11
unfolding place_named
step11 = simp (computes, objects_bound) refl

abbrev s12 : Stepped
s12 = record s11 { reply = Done; graph = record s11.graph { pairs = sets.remove s11.graph.pairs (pair_at boxes (tm 1 0) (n 1 1) (n 1 6)) } }

step12 : step boxes true s11.vars s11.graph (line.Remove (codes "b") (codes "parts") (codes "p")) ≡ s12
unfolding place_named
step12 = simp (computes, objects_bound, pairs_bound) refl

abbrev s13 : Stepped
s13 = record s12 { reply = Named (n 1 7); vars = maps.insert s12.vars (codes "p") (n 1 7) }

step13 : step boxes true s12.vars s12.graph (line.Find (codes "p") (n 1 7)) ≡ s13
unfolding place_named
step13 = simp (computes, objects_bound) refl

abbrev s14 : Stepped
s14 = record s13 { reply = Done; graph = record s13.graph { pairs = sets.remove s13.graph.pairs (pair_at boxes (tm 1 0) (n 1 1) (n 1 7)) } }

step14 : step boxes true s13.vars s13.graph (line.Remove (codes "b") (codes "parts") (codes "p")) ≡ s14
unfolding place_named
step14 = simp (computes, objects_bound, pairs_bound) refl

abbrev s15 : Stepped
s15 = record s14 { reply = Named (n 1 8); vars = maps.insert s14.vars (codes "p") (n 1 8) }

step15 : step boxes true s14.vars s14.graph (line.Find (codes "p") (n 1 8)) ≡ s15
unfolding place_named
step15 = simp (computes, objects_bound) refl

abbrev s16 : Stepped
s16 = record s15 { reply = Done; graph = record s15.graph { pairs = sets.remove s15.graph.pairs (pair_at boxes (tm 1 0) (n 1 1) (n 1 8)) } }

step16 : step boxes true s15.vars s15.graph (line.Remove (codes "b") (codes "parts") (codes "p")) ≡ s16
unfolding place_named
step16 = simp (computes, objects_bound, pairs_bound) refl

abbrev s17 : Stepped
s17 = record s16 { reply = Named (n 1 9); vars = maps.insert s16.vars (codes "p") (n 1 9) }

step17 : step boxes true s16.vars s16.graph (line.Find (codes "p") (n 1 9)) ≡ s17
unfolding place_named
step17 = simp (computes, objects_bound) refl

abbrev s18 : Stepped
s18 = record s17 { reply = Done; graph = record s17.graph { pairs = sets.remove s17.graph.pairs (pair_at boxes (tm 1 0) (n 1 1) (n 1 9)) } }

step18 : step boxes true s17.vars s17.graph (line.Remove (codes "b") (codes "parts") (codes "p")) ≡ s18
unfolding place_named
step18 = simp (computes, objects_bound, pairs_bound) refl

abbrev s19 : Stepped
s19 = record s18 { reply = Named (n 1 10); vars = maps.insert s18.vars (codes "p") (n 1 10) }

step19 : step boxes true s18.vars s18.graph (line.Find (codes "p") (n 1 10)) ≡ s19
unfolding place_named
step19 = simp (computes, objects_bound) refl

abbrev s20 : Stepped
s20 = record s19 { reply = Done; graph = record s19.graph { pairs = sets.remove s19.graph.pairs (pair_at boxes (tm 1 0) (n 1 1) (n 1 10)) } }

step20 : step boxes true s19.vars s19.graph (line.Remove (codes "b") (codes "parts") (codes "p")) ≡ s20
unfolding place_named
step20 = simp (computes, objects_bound, pairs_bound) refl

abbrev s21 : Stepped
s21 = record s20 { reply = Named (n 1 11); vars = maps.insert s20.vars (codes "p") (n 1 11) }

step21 : step boxes true s20.vars s20.graph (line.Find (codes "p") (n 1 11)) ≡ s21
unfolding place_named
step21 = simp (computes, objects_bound) refl

abbrev s22 : Stepped
s22 = record s21 { reply = Done; graph = record s21.graph { pairs = sets.remove s21.graph.pairs (pair_at boxes (tm 1 0) (n 1 1) (n 1 11)) } }

step22 : step boxes true s21.vars s21.graph (line.Remove (codes "b") (codes "parts") (codes "p")) ≡ s22
unfolding place_named
step22 = simp (computes, objects_bound, pairs_bound) refl

abbrev s23 : Stepped
s23 = record s22 { reply = Named (n 1 12); vars = maps.insert s22.vars (codes "p") (n 1 12) }

step23 : step boxes true s22.vars s22.graph (line.Find (codes "p") (n 1 12)) ≡ s23
unfolding place_named
step23 = simp (computes, objects_bound) refl

abbrev s24 : Stepped
s24 = record s23 { reply = Done; graph = record s23.graph { pairs = sets.remove s23.graph.pairs (pair_at boxes (tm 1 0) (n 1 1) (n 1 12)) } }

step24 : step boxes true s23.vars s23.graph (line.Remove (codes "b") (codes "parts") (codes "p")) ≡ s24
unfolding place_named
step24 = simp (computes, objects_bound, pairs_bound) refl

abbrev s25 : Stepped
s25 = record s24 { reply = Named (n 1 13); vars = maps.insert s24.vars (codes "p") (n 1 13) }

step25 : step boxes true s24.vars s24.graph (line.Find (codes "p") (n 1 13)) ≡ s25
unfolding place_named
step25 = simp (computes, objects_bound) refl

abbrev s26 : Stepped
s26 = record s25 { reply = Done; graph = record s25.graph { pairs = sets.remove s25.graph.pairs (pair_at boxes (tm 1 0) (n 1 1) (n 1 13)) } }

step26 : step boxes true s25.vars s25.graph (line.Remove (codes "b") (codes "parts") (codes "p")) ≡ s26
unfolding place_named
step26 = simp (computes, objects_bound, pairs_bound) refl

abbrev s27 : Stepped
s27 = record s26 { reply = Named (n 1 14); vars = maps.insert s26.vars (codes "p") (n 1 14) }

step27 : step boxes true s26.vars s26.graph (line.Find (codes "p") (n 1 14)) ≡ s27
unfolding place_named
step27 = simp (computes, objects_bound) refl

abbrev s28 : Stepped
s28 = record s27 { reply = Done; graph = record s27.graph { pairs = sets.remove s27.graph.pairs (pair_at boxes (tm 1 0) (n 1 1) (n 1 14)) } }

step28 : step boxes true s27.vars s27.graph (line.Remove (codes "b") (codes "parts") (codes "p")) ≡ s28
unfolding place_named
step28 = simp (computes, objects_bound, pairs_bound) refl

abbrev s29 : Stepped
s29 = record s28 { reply = Named (n 1 15); vars = maps.insert s28.vars (codes "p") (n 1 15) }

step29 : step boxes true s28.vars s28.graph (line.Find (codes "p") (n 1 15)) ≡ s29
unfolding place_named
step29 = simp (computes, objects_bound) refl

abbrev s30 : Stepped
s30 = record s29 { reply = Done; graph = record s29.graph { pairs = sets.remove s29.graph.pairs (pair_at boxes (tm 1 0) (n 1 1) (n 1 15)) } }

step30 : step boxes true s29.vars s29.graph (line.Remove (codes "b") (codes "parts") (codes "p")) ≡ s30
unfolding place_named
step30 = simp (computes, objects_bound, pairs_bound) refl

abbrev s31 : Stepped
s31 = record s30 { reply = Named (n 1 16); vars = maps.insert s30.vars (codes "p") (n 1 16) }

step31 : step boxes true s30.vars s30.graph (line.Find (codes "p") (n 1 16)) ≡ s31
unfolding place_named
step31 = simp (computes, objects_bound) refl

abbrev s32 : Stepped
s32 = record s31 { reply = Done; graph = record s31.graph { pairs = sets.remove s31.graph.pairs (pair_at boxes (tm 1 0) (n 1 1) (n 1 16)) } }

step32 : step boxes true s31.vars s31.graph (line.Remove (codes "b") (codes "parts") (codes "p")) ≡ s32
unfolding place_named
step32 = simp (computes, objects_bound, pairs_bound) refl

abbrev s33 : Stepped
s33 = record s32 { reply = Named (n 1 17); vars = maps.insert s32.vars (codes "p") (n 1 17) }

step33 : step boxes true s32.vars s32.graph (line.Find (codes "p") (n 1 17)) ≡ s33
unfolding place_named
step33 = simp (computes, objects_bound) refl

abbrev s34 : Stepped
s34 = record s33 { reply = Done; graph = record s33.graph { pairs = sets.remove s33.graph.pairs (pair_at boxes (tm 1 0) (n 1 1) (n 1 17)) } }

step34 : step boxes true s33.vars s33.graph (line.Remove (codes "b") (codes "parts") (codes "p")) ≡ s34
unfolding place_named
step34 = simp (computes, objects_bound, pairs_bound) refl

abbrev s35 : Stepped
s35 = record s34 { reply = Named (n 1 18); vars = maps.insert s34.vars (codes "p") (n 1 18) }

step35 : step boxes true s34.vars s34.graph (line.Find (codes "p") (n 1 18)) ≡ s35
unfolding place_named
step35 = simp (computes, objects_bound) refl

abbrev s36 : Stepped
s36 = record s35 { reply = Done; graph = record s35.graph { pairs = sets.remove s35.graph.pairs (pair_at boxes (tm 1 0) (n 1 1) (n 1 18)) } }

step36 : step boxes true s35.vars s35.graph (line.Remove (codes "b") (codes "parts") (codes "p")) ≡ s36
unfolding place_named
step36 = simp (computes, objects_bound, pairs_bound) refl

abbrev s37 : Stepped
s37 = record s36 { reply = Named (n 1 19); vars = maps.insert s36.vars (codes "p") (n 1 19) }

step37 : step boxes true s36.vars s36.graph (line.Find (codes "p") (n 1 19)) ≡ s37
unfolding place_named
step37 = simp (computes, objects_bound) refl

abbrev s38 : Stepped
s38 = record s37 { reply = Done; graph = record s37.graph { pairs = sets.remove s37.graph.pairs (pair_at boxes (tm 1 0) (n 1 1) (n 1 19)) } }

step38 : step boxes true s37.vars s37.graph (line.Remove (codes "b") (codes "parts") (codes "p")) ≡ s38
unfolding place_named
step38 = simp (computes, objects_bound, pairs_bound) refl

abbrev s39 : Stepped
s39 = record s38 { reply = Named (n 1 20); vars = maps.insert s38.vars (codes "p") (n 1 20) }

step39 : step boxes true s38.vars s38.graph (line.Find (codes "p") (n 1 20)) ≡ s39
unfolding place_named
step39 = simp (computes, objects_bound) refl

abbrev s40 : Stepped
s40 = record s39 { reply = Done; graph = record s39.graph { pairs = sets.remove s39.graph.pairs (pair_at boxes (tm 1 0) (n 1 1) (n 1 20)) } }

step40 : step boxes true s39.vars s39.graph (line.Remove (codes "b") (codes "parts") (codes "p")) ≡ s40
unfolding place_named
step40 = simp (computes, objects_bound, pairs_bound) refl

abbrev s41 : Stepped
s41 = record s40 { reply = Named (n 1 21); vars = maps.insert s40.vars (codes "p") (n 1 21) }

step41 : step boxes true s40.vars s40.graph (line.Find (codes "p") (n 1 21)) ≡ s41
unfolding place_named
step41 = simp (computes, objects_bound) refl

abbrev s42 : Stepped
s42 = record s41 { reply = Done; graph = record s41.graph { pairs = sets.remove s41.graph.pairs (pair_at boxes (tm 1 0) (n 1 1) (n 1 21)) } }

step42 : step boxes true s41.vars s41.graph (line.Remove (codes "b") (codes "parts") (codes "p")) ≡ s42
unfolding place_named
step42 = simp (computes, objects_bound, pairs_bound) refl

abbrev s43 : Stepped
s43 = record s42 { reply = Named (n 1 22); vars = maps.insert s42.vars (codes "p") (n 1 22) }

step43 : step boxes true s42.vars s42.graph (line.Find (codes "p") (n 1 22)) ≡ s43
unfolding place_named
step43 = simp (computes, objects_bound) refl

abbrev s44 : Stepped
s44 = record s43 { reply = Done; graph = record s43.graph { pairs = sets.remove s43.graph.pairs (pair_at boxes (tm 1 0) (n 1 1) (n 1 22)) } }

step44 : step boxes true s43.vars s43.graph (line.Remove (codes "b") (codes "parts") (codes "p")) ≡ s44
unfolding place_named
step44 = simp (computes, objects_bound, pairs_bound) refl

abbrev s45 : Stepped
s45 = record s44 { reply = Named (n 1 23); vars = maps.insert s44.vars (codes "p") (n 1 23) }

step45 : step boxes true s44.vars s44.graph (line.Find (codes "p") (n 1 23)) ≡ s45
unfolding place_named
step45 = simp (computes, objects_bound) refl

abbrev s46 : Stepped
s46 = record s45 { reply = Done; graph = record s45.graph { pairs = sets.remove s45.graph.pairs (pair_at boxes (tm 1 0) (n 1 1) (n 1 23)) } }

step46 : step boxes true s45.vars s45.graph (line.Remove (codes "b") (codes "parts") (codes "p")) ≡ s46
unfolding place_named
step46 = simp (computes, objects_bound, pairs_bound) refl

abbrev s47 : Stepped
s47 = record s46 { reply = Named (n 1 24); vars = maps.insert s46.vars (codes "p") (n 1 24) }

step47 : step boxes true s46.vars s46.graph (line.Find (codes "p") (n 1 24)) ≡ s47
unfolding place_named
step47 = simp (computes, objects_bound) refl

abbrev s48 : Stepped
s48 = record s47 { reply = Done; graph = record s47.graph { pairs = sets.remove s47.graph.pairs (pair_at boxes (tm 1 0) (n 1 1) (n 1 24)) } }

step48 : step boxes true s47.vars s47.graph (line.Remove (codes "b") (codes "parts") (codes "p")) ≡ s48
unfolding place_named
step48 = simp (computes, objects_bound, pairs_bound) refl

abbrev s49 : Stepped
s49 = record s48 { reply = Named (n 1 25); vars = maps.insert s48.vars (codes "p") (n 1 25) }

step49 : step boxes true s48.vars s48.graph (line.Find (codes "p") (n 1 25)) ≡ s49
unfolding place_named
step49 = simp (computes, objects_bound) refl

abbrev s50 : Stepped
s50 = record s49 { reply = Done; graph = record s49.graph { pairs = sets.remove s49.graph.pairs (pair_at boxes (tm 1 0) (n 1 1) (n 1 25)) } }

step50 : step boxes true s49.vars s49.graph (line.Remove (codes "b") (codes "parts") (codes "p")) ≡ s50
unfolding place_named
step50 = simp (computes, objects_bound, pairs_bound) refl

abbrev s51 : Stepped
s51 = record s50 { reply = Named (n 1 26); vars = maps.insert s50.vars (codes "p") (n 1 26) }

step51 : step boxes true s50.vars s50.graph (line.Find (codes "p") (n 1 26)) ≡ s51
unfolding place_named
step51 = simp (computes, objects_bound) refl

abbrev s52 : Stepped
s52 = record s51 { reply = Done; graph = record s51.graph { pairs = sets.remove s51.graph.pairs (pair_at boxes (tm 1 0) (n 1 1) (n 1 26)) } }

step52 : step boxes true s51.vars s51.graph (line.Remove (codes "b") (codes "parts") (codes "p")) ≡ s52
unfolding place_named
step52 = simp (computes, objects_bound, pairs_bound) refl

abbrev s53 : Stepped
s53 = record s52 { reply = Named (n 1 27); vars = maps.insert s52.vars (codes "p") (n 1 27) }

step53 : step boxes true s52.vars s52.graph (line.Find (codes "p") (n 1 27)) ≡ s53
unfolding place_named
step53 = simp (computes, objects_bound) refl

abbrev s54 : Stepped
s54 = record s53 { reply = Done; graph = record s53.graph { pairs = sets.remove s53.graph.pairs (pair_at boxes (tm 1 0) (n 1 1) (n 1 27)) } }

step54 : step boxes true s53.vars s53.graph (line.Remove (codes "b") (codes "parts") (codes "p")) ≡ s54
unfolding place_named
step54 = simp (computes, objects_bound, pairs_bound) refl

abbrev s55 : Stepped
s55 = record s54 { reply = Named (n 1 28); vars = maps.insert s54.vars (codes "p") (n 1 28) }

step55 : step boxes true s54.vars s54.graph (line.Find (codes "p") (n 1 28)) ≡ s55
unfolding place_named
step55 = simp (computes, objects_bound) refl

abbrev s56 : Stepped
s56 = record s55 { reply = Done; graph = record s55.graph { pairs = sets.remove s55.graph.pairs (pair_at boxes (tm 1 0) (n 1 1) (n 1 28)) } }

step56 : step boxes true s55.vars s55.graph (line.Remove (codes "b") (codes "parts") (codes "p")) ≡ s56
unfolding place_named
step56 = simp (computes, objects_bound, pairs_bound) refl

abbrev s57 : Stepped
s57 = record s56 { reply = Named (n 1 29); vars = maps.insert s56.vars (codes "p") (n 1 29) }

step57 : step boxes true s56.vars s56.graph (line.Find (codes "p") (n 1 29)) ≡ s57
unfolding place_named
step57 = simp (computes, objects_bound) refl

abbrev s58 : Stepped
s58 = record s57 { reply = Done; graph = record s57.graph { pairs = sets.remove s57.graph.pairs (pair_at boxes (tm 1 0) (n 1 1) (n 1 29)) } }

step58 : step boxes true s57.vars s57.graph (line.Remove (codes "b") (codes "parts") (codes "p")) ≡ s58
unfolding place_named
step58 = simp (computes, objects_bound, pairs_bound) refl

abbrev s59 : Stepped
s59 = record s58 { reply = Named (n 1 30); vars = maps.insert s58.vars (codes "p") (n 1 30) }

step59 : step boxes true s58.vars s58.graph (line.Find (codes "p") (n 1 30)) ≡ s59
unfolding place_named
step59 = simp (computes, objects_bound) refl

abbrev s60 : Stepped
s60 = record s59 { reply = Done; graph = record s59.graph { pairs = sets.remove s59.graph.pairs (pair_at boxes (tm 1 0) (n 1 1) (n 1 30)) } }

step60 : step boxes true s59.vars s59.graph (line.Remove (codes "b") (codes "parts") (codes "p")) ≡ s60
unfolding place_named
step60 = simp (computes, objects_bound, pairs_bound) refl

abbrev s61 : Stepped
s61 = record s60 { reply = Named (n 1 31); vars = maps.insert s60.vars (codes "p") (n 1 31) }

step61 : step boxes true s60.vars s60.graph (line.Find (codes "p") (n 1 31)) ≡ s61
unfolding place_named
step61 = simp (computes, objects_bound) refl

abbrev s62 : Stepped
s62 = record s61 { reply = Done; graph = record s61.graph { pairs = sets.remove s61.graph.pairs (pair_at boxes (tm 1 0) (n 1 1) (n 1 31)) } }

step62 : step boxes true s61.vars s61.graph (line.Remove (codes "b") (codes "parts") (codes "p")) ≡ s62
unfolding place_named
step62 = simp (computes, objects_bound, pairs_bound) refl

abbrev s63 : Stepped
s63 = record s62 { reply = Named (n 1 32); vars = maps.insert s62.vars (codes "p") (n 1 32) }

step63 : step boxes true s62.vars s62.graph (line.Find (codes "p") (n 1 32)) ≡ s63
unfolding place_named
step63 = simp (computes, objects_bound) refl

abbrev s64 : Stepped
s64 = record s63 { reply = Done; graph = record s63.graph { pairs = sets.remove s63.graph.pairs (pair_at boxes (tm 1 0) (n 1 1) (n 1 32)) } }

step64 : step boxes true s63.vars s63.graph (line.Remove (codes "b") (codes "parts") (codes "p")) ≡ s64
unfolding place_named
step64 = simp (computes, objects_bound, pairs_bound) refl

abbrev s65 : Stepped
s65 = record s64 { reply = Names [] }

step65 : step boxes true s64.vars s64.graph (line.Members (codes "b") (codes "parts")) ≡ s65
unfolding place_named
step65 = simp (computes, objects_bound, pairs_bound) refl

abbrev s66 : Stepped
s66 = record s65 { reply = Count 0 }

step66 : step boxes true s65.vars s65.graph (line.Size (codes "b") (codes "parts")) ≡ s66
unfolding place_named
step66 = simp (computes, objects_bound, pairs_bound) refl

abbrev s67 : Stepped
s67 = record s66 { reply = Refused refusals.NotMember }

step67 : step boxes true s66.vars s66.graph (line.Remove (codes "b") (codes "parts") (codes "p")) ≡ s67
unfolding place_named
step67 = simp (computes, objects_bound, pairs_bound) refl

abbrev s68 : Stepped
s68 = record s67 { reply = Done; graph = record s67.graph { pairs = joined boxes (tm 1 0) (n 1 1) (n 1 32) s67.graph.pairs } }

step68 : step boxes true s67.vars s67.graph (line.Insert (codes "b") (codes "parts") (codes "p")) ≡ s68
unfolding place_named
step68 = simp (computes, objects_bound, pairs_bound) refl

abbrev s69 : Stepped
s69 = record s68 { reply = Refused refusals.AlreadyMember }

step69 : step boxes true s68.vars s68.graph (line.Insert (codes "b") (codes "parts") (codes "p")) ≡ s69
unfolding place_named
step69 = simp (computes, objects_bound, pairs_bound) refl

pub full_set : FullSet
full_set =
    (s1.vars, s1.graph, step1, (s2.vars, s2.graph, step2, (s3.vars, s3.graph, step3, (s4.vars, s4.graph, step4, (s5.vars, s5.graph, step5, (s6.vars, s6.graph, step6, (s7.vars, s7.graph, step7, (s8.vars, s8.graph, step8, (s9.vars, s9.graph, step9, (s10.vars, s10.graph, step10, (s11.vars, s11.graph, step11, (s12.vars, s12.graph, step12, (s13.vars, s13.graph, step13, (s14.vars, s14.graph, step14, (s15.vars, s15.graph, step15, (s16.vars, s16.graph, step16, (s17.vars, s17.graph, step17, (s18.vars, s18.graph, step18, (s19.vars, s19.graph, step19, (s20.vars, s20.graph, step20, (s21.vars, s21.graph, step21, (s22.vars, s22.graph, step22, (s23.vars, s23.graph, step23, (s24.vars, s24.graph, step24, (s25.vars, s25.graph, step25, (s26.vars, s26.graph, step26, (s27.vars, s27.graph, step27, (s28.vars, s28.graph, step28, (s29.vars, s29.graph, step29, (s30.vars, s30.graph, step30, (s31.vars, s31.graph, step31, (s32.vars, s32.graph, step32, (s33.vars, s33.graph, step33, (s34.vars, s34.graph, step34, (s35.vars, s35.graph, step35, (s36.vars, s36.graph, step36, (s37.vars, s37.graph, step37, (s38.vars, s38.graph, step38, (s39.vars, s39.graph, step39, (s40.vars, s40.graph, step40, (s41.vars, s41.graph, step41, (s42.vars, s42.graph, step42, (s43.vars, s43.graph, step43, (s44.vars, s44.graph, step44, (s45.vars, s45.graph, step45, (s46.vars, s46.graph, step46, (s47.vars, s47.graph, step47, (s48.vars, s48.graph, step48, (s49.vars, s49.graph, step49, (s50.vars, s50.graph, step50, (s51.vars, s51.graph, step51, (s52.vars, s52.graph, step52, (s53.vars, s53.graph, step53, (s54.vars, s54.graph, step54, (s55.vars, s55.graph, step55, (s56.vars, s56.graph, step56, (s57.vars, s57.graph, step57, (s58.vars, s58.graph, step58, (s59.vars, s59.graph, step59, (s60.vars, s60.graph, step60, (s61.vars, s61.graph, step61, (s62.vars, s62.graph, step62, (s63.vars, s63.graph, step63, (s64.vars, s64.graph, step64, (s65.vars, s65.graph, step65, (s66.vars, s66.graph, step66, (s67.vars, s67.graph, step67, (s68.vars, s68.graph, step68, (s69.vars, s69.graph, step69, refl)))))))))))))))))))))))))))))))))))))))))))))))))))))))))))))))))))))
