-- The commands one by one.
use Rattle.std.proofs.Common.{◌≡◌, refl, false}
use Rattle.std.specs.Prelude.{codes}
use Rattle.std.specs.FinMap as maps
use Rattle.ostore_graph_model.specs.declared.values.Reply.TheVariants.{Refused}
use Rattle.ostore_graph_model.specs.declared.refusal.Refusal.TheVariants as refusals
use Rattle.ostore_graph_model.specs.declared.commands.Command.TheVariants as line
use Rattle.ostore_graph_model.specs.declared.commands.Operand.TheVariants as operands
use Rattle.ostore_graph_model.specs.Graph.{Graph}
use Rattle.ostore_graph_model.specs.Deeds.{Stepped}
use Rattle.ostore_graph_model.specs.Step.{step}
use Rattle.ostore_graph_model.specs.Examples.{chained, ReadingOnly}
use Rattle.ostore_graph_model.proofs.Computing.{computes}

module _ (graph : Graph) where
  abbrev s1 : Stepped
  s1 = record { reply = Refused refusals.ReadOnly; vars = maps.empty; graph = graph }

  step1 : step chained false maps.empty graph (line.New (codes "p") (codes "Part") 1) ≡ s1
  step1 = refl

  abbrev s2 : Stepped
  s2 = record s1 { reply = Refused refusals.NoVariable }

  step2 : step chained false s1.vars s1.graph (line.Get (codes "p") (codes "id")) ≡ s2
  step2 = simp computes refl

  abbrev s3 : Stepped
  s3 = record s2 { reply = Refused refusals.ReadOnly }

  step3 : step chained false s2.vars s2.graph (line.Set (codes "p") (codes "id") (operands.Var (codes "q"))) ≡ s3
  step3 = refl

pub reading_only : ReadingOnly
reading_only graph =
    ((s1 graph).vars, (s1 graph).graph, step1 graph, ((s2 graph).vars, (s2 graph).graph, step2 graph, ((s3 graph).vars, (s3 graph).graph, step3 graph, refl)))
