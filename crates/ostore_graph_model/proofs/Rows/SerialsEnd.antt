-- The commands one by one.
use Rattle.std.proofs.Common.{◌≡◌, refl, true}
use Rattle.std.specs.Prelude.{codes}
use Rattle.std.specs.FinMap as maps
use Rattle.ostore_schema_layout.specs.Numbers.{place_named}
use Rattle.ostore_graph_model.specs.declared.values.Reply.TheVariants.{Done, Named, Refused}
use Rattle.ostore_graph_model.specs.declared.refusal.Refusal.TheVariants as refusals
use Rattle.ostore_graph_model.specs.declared.commands.Command.TheVariants as line
use Rattle.ostore_graph_model.specs.Deeds.{Stepped}
use Rattle.ostore_graph_model.specs.Deeds.Objects.{with_new}
use Rattle.ostore_graph_model.specs.Step.{step}
use Rattle.ostore_graph_model.specs.Examples.{chained, n}
use Rattle.ostore_graph_model.specs.FullGraphs.{one_serial_left, SerialsEnd}
use Rattle.ostore_graph_model.proofs.Computing.{computes, link}

abbrev first : Stepped
first = record { reply = Done; vars = maps.empty; graph = one_serial_left }

abbrev s1 : Stepped
s1 = record first { reply = Named (n 1 4294967295); vars = maps.insert first.vars (codes "p") (n 1 4294967295); graph = with_new first.graph 1 link }

step1 : step chained true first.vars first.graph (line.New (codes "p") (codes "Part") 1) ≡ s1
unfolding place_named
step1 = simp computes refl

abbrev s2 : Stepped
s2 = record s1 { reply = Refused refusals.SerialsSpent }

step2 : step chained true s1.vars s1.graph (line.New (codes "q") (codes "Part") 1) ≡ s2
unfolding place_named
step2 = simp computes refl

abbrev s3 : Stepped
s3 = record s2 { reply = Named (n 2 1); vars = maps.insert s2.vars (codes "q") (n 2 1); graph = with_new s2.graph 2 link }

step3 : step chained true s2.vars s2.graph (line.New (codes "q") (codes "Part") 2) ≡ s3
unfolding place_named
step3 = simp computes refl

pub serials_end : SerialsEnd
serials_end = (s1.vars, s1.graph, step1, (s2.vars, s2.graph, step2, (s3.vars, s3.graph, step3, refl)))
