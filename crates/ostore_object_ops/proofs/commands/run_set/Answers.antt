use Rattle.std.proofs.Common.{ap, false}
use Rattle.std.proofs.lemmas.Result.{on_ok_weaker}
use Rattle.ostore_graph_model.specs.declared.commands.Command.TheVariants as commands
use Rattle.ostore_graph_model.specs.declared.commands.Operand.{Operand}
use Rattle.ostore_graph_model.specs.Step.{step}
use Rattle.ostore_object_ops.specs.Bound.{bound_by, leads_of}
use Rattle.ostore_object_ops.proofs.CommandFacts.{read_only}
use Rattle.ostore_object_ops.proofs.LeadFacts.{leads_kept}
use Rattle.ostore_object_ops.proofs.StepFacts.{Becomes-stay, homes_stay}
use Rattle.ostore_segments.proofs.ViewLaws.{brings_nothing}
use Rattle.ostore_segments.proofs.OwnLaws.{owns_nothing, each_owns_none, each_owns}
use Rattle.ostore_object_ops.proofs.commands.run_set.Goals as goal

pub returns-else-update-clause-lists : goal.returns-else-update-clause-lists
returns-else-update-clause-lists g c =
    let leads = leads_of (g.P.Pages.held c.args.pages.now) c.args.vars.now in
    Becomes-stay c.requires.stands
    (λ list known. read_only c.args.schema.now c.args.update (commands.Set c.args.object.now c.args.member.now c.args.value.now) leads leads list (leads_kept _ _ (bound_by c.args.vars.now) (homes_stay _)) c.if-update.false
    (λ vars graph. ap (λ (v : Operand). step c.args.schema.now false vars graph (commands.Set c.args.object.now c.args.member.now v)) c.in-Int.is))

pub returns-else-update-clause-passes : goal.returns-else-update-clause-passes
returns-else-update-clause-passes g c = g.met.P.Pages.passes_at_once c.args.pages.now

pub returns-else-update-clause-brings : goal.returns-else-update-clause-brings
returns-else-update-clause-brings g c = brings_nothing

pub returns-else-update-clause-owns : goal.returns-else-update-clause-owns
returns-else-update-clause-owns g c = each_owns_none owns_nothing

pub returns-then-update-clause-owns : goal.returns-then-update-clause-owns
returns-then-update-clause-owns g c = on_ok_weaker c.run_set_int.result (λ owns. each_owns (λ list page is. (c.if-update.true, is)) owns) c.run_set_int.ensures.owns
