use Rattle.std.proofs.Common.{Bool, true, false, OnOk, IfErr, ap, sym, subst}
use Rattle.std.specs.Prelude.{⊤}
use Rattle.ostore_graph_model.specs.declared.commands.Command.{Command}
use Rattle.ostore_graph_model.specs.Step.{step}
use Rattle.ostore_segments.specs.Holdings.{Becomes, BringsOnEach, OwnsOnEach, BreaksOff}
use Rattle.ostore_object_ops.specs.Bound.{bound_by, leads_of}
use Rattle.ostore_object_ops.specs.Claiming.{IsUsedBy, IsOwnedBy, IsWantedBy}
use Rattle.ostore_object_ops.specs.Executes.{Executes}
use Rattle.ostore_object_ops.specs.Stops.{Stopped}
use Rattle.ostore_object_ops.proofs.CommandFacts.{read_only}
use Rattle.ostore_object_ops.proofs.LeadFacts.{leads_kept}
use Rattle.ostore_object_ops.proofs.StepFacts.{Becomes-stay, homes_stay}
use Rattle.ostore_segments.proofs.ViewLaws.{brings_nothing, on_each, rests_breaks, breaks_weaker}
use Rattle.ostore_segments.proofs.OwnLaws.{owns_nothing, each_owns_none}
use Rattle.ostore_object_ops.proofs.commands.run_command.Goals as goal

pub returns-else-update-clause-lists : goal.returns-else-update-clause-lists
returns-else-update-clause-lists g c =
    let leads = leads_of (g.P.Pages.held c.args.pages.now) c.args.vars.now in
    Becomes-stay c.requires.stands
    (λ list known. read_only c.args.schema.now c.args.update c.args.command.now leads leads list (leads_kept _ _ (bound_by c.args.vars.now) (homes_stay _)) c.if-update.false
    (λ vars graph. ap (λ (command : Command). step c.args.schema.now false vars graph command) c.in-New.is))

pub returns-in-Ok-clause-lists : goal.returns-in-Ok-clause-lists
returns-in-Ok-clause-lists g c =
    let before = leads_of (g.P.Pages.held c.args.pages.now) c.args.vars.now in
    let after = leads_of (g.P.Pages.held c.run_get.new.pages) c.args.vars.now in
    subst (λ (command : Command). Becomes (g.P.Pages.held c.args.pages.now) (g.P.Pages.held c.run_get.new.pages) (Executes c.args.schema.now c.args.update command c.in-Ok.reply before after)) (sym c.in-Get.is) (c.in-Ok.ensures.lists c.args.update)

pub returns-else-update-clause-passes : goal.returns-else-update-clause-passes
returns-else-update-clause-passes g c = g.met.P.Pages.passes_at_once c.args.pages.now

pub returns-else-update-clause-brings : goal.returns-else-update-clause-brings
returns-else-update-clause-brings g c = record { each = λ begun list there. brings_nothing }

pub returns-then-update-clause-brings : goal.returns-then-update-clause-brings
returns-then-update-clause-brings g c =
    let before = leads_of (g.P.Pages.held c.args.pages.now) c.args.vars.now in
    subst (λ (update : Bool). OnOk c.run_new.result (BringsOnEach (g.P.Pages.held c.args.pages.now) (g.P.Pages.held c.run_new.new.pages) (IsUsedBy update c.args.command.now before))) (sym c.if-update.true)
    (subst (λ (command : Command). OnOk c.run_new.result (BringsOnEach (g.P.Pages.held c.args.pages.now) (g.P.Pages.held c.run_new.new.pages) (IsUsedBy true command before))) (sym c.in-New.is)
    c.run_new.ensures.brings)

pub returns-then-update-clause-stays : goal.returns-then-update-clause-stays
returns-then-update-clause-stays g c =
    let before = leads_of (g.P.Pages.held c.args.pages.now) c.args.vars.now in
    subst (λ (update : Bool). IfErr c.run_new.result (λ stop. Stopped stop (λ fault. g.P.Pages.stays fault → BreaksOff (g.P.Pages.held c.args.pages.now) (g.P.Pages.held c.run_new.new.pages) (IsWantedBy update c.args.command.now before)) ⊤)) (sym c.if-update.true)
    (subst (λ (command : Command). IfErr c.run_new.result (λ stop. Stopped stop (λ fault. g.P.Pages.stays fault → BreaksOff (g.P.Pages.held c.args.pages.now) (g.P.Pages.held c.run_new.new.pages) (IsWantedBy true command before)) ⊤)) (sym c.in-New.is)
    c.run_new.ensures.stays)

pub returns-in-Ok-clause-brings : goal.returns-in-Ok-clause-brings
returns-in-Ok-clause-brings g c =
    let before = leads_of (g.P.Pages.held c.args.pages.now) c.args.vars.now in
    on_each (λ list page is. subst (λ (command : Command). IsUsedBy c.args.update command before list page) (sym c.in-Get.is) is) c.in-Ok.ensures.brings

pub returns-in-Ok-run_set-clause-brings : goal.returns-in-Ok-run_set-clause-brings
returns-in-Ok-run_set-clause-brings g c =
    let before = leads_of (g.P.Pages.held c.args.pages.now) c.args.vars.now in
    on_each (λ list page is. subst (λ (command : Command). IsUsedBy c.args.update command before list page) (sym c.in-Set.is) is) c.in-Ok-run_set.ensures.brings

pub returns-in-Err-clause-stays : goal.returns-in-Err-clause-stays
returns-in-Err-clause-stays g c = rests_breaks c.in-Err.ensures.stays

pub returns-in-Err-run_set-clause-stays : goal.returns-in-Err-run_set-clause-stays
returns-in-Err-run_set-clause-stays g c =
    let before = leads_of (g.P.Pages.held c.args.pages.now) c.args.vars.now in
    breaks_weaker {N = IsWantedBy c.args.update c.args.command.now before} c.requires.stands (λ list page known is. subst (λ (command : Command). IsWantedBy c.args.update command before list page) (sym c.in-Set.is) is) c.in-Err-run_set.ensures.stays

pub returns-else-update-clause-owns : goal.returns-else-update-clause-owns
returns-else-update-clause-owns g c = each_owns_none owns_nothing

pub returns-then-update-clause-owns : goal.returns-then-update-clause-owns
returns-then-update-clause-owns g c =
    let before = leads_of (g.P.Pages.held c.args.pages.now) c.args.vars.now in
    subst (λ (update : Bool). OnOk c.run_new.result (OwnsOnEach (g.P.Pages.held c.args.pages.now) (g.P.Pages.held c.run_new.new.pages) (IsOwnedBy update c.args.command.now before))) (sym c.if-update.true)
    (subst (λ (command : Command). OnOk c.run_new.result (OwnsOnEach (g.P.Pages.held c.args.pages.now) (g.P.Pages.held c.run_new.new.pages) (IsOwnedBy true command before))) (sym c.in-New.is)
    c.run_new.ensures.owns)

pub returns-in-Ok-clause-owns : goal.returns-in-Ok-clause-owns
returns-in-Ok-clause-owns g c = each_owns_none c.in-Ok.ensures.owns

pub returns-in-Ok-run_set-clause-owns : goal.returns-in-Ok-run_set-clause-owns
returns-in-Ok-run_set-clause-owns g c =
    let before = leads_of (g.P.Pages.held c.args.pages.now) c.args.vars.now in
    subst (λ (command : Command). OwnsOnEach (g.P.Pages.held c.args.pages.now) (g.P.Pages.held c.run_set.new.pages) (IsOwnedBy c.args.update command before)) (sym c.in-Set.is) c.in-Ok-run_set.ensures.owns
