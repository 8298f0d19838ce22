use Rattle.std.proofs.Common.{◌≡◌, ◌∙◌, sym, subst, arith, Ok, Err, to_z, of_z}
use Rattle.std.specs.Int.{w64}
use Rattle.std.proofs.lemmas.Int.{ints, to_z-of_z}
use Rattle.ostore_graph_model.specs.declared.refusal.Refusal.{Refusal}
use Rattle.ostore_segments.proofs.ListSteps.{Stands-seen, Stands-weaker}
use Rattle.ostore_object_ops.specs.declared.lookup.Found.{Found}
use Rattle.ostore_object_ops.specs.Bound.{bound_by, leads_of}
use Rattle.ostore_object_ops.specs.Suits.{Suits}
use Rattle.ostore_object_ops.specs.inside.Members.{IsMember, RefusesMember}
use Rattle.ostore_object_ops.proofs.CommandFacts.{get_refused, get_done, has_int}
use Rattle.ostore_object_ops.proofs.LeadFacts.{leads_kept}
use Rattle.ostore_object_ops.proofs.StepFacts.{opened, looked, looked_at}
use Rattle.ostore_object_ops.proofs.members.run_get.Goals as goal

pub returns-in-Err-clause-lists : goal.returns-in-Err-clause-lists
returns-in-Err-clause-lists g c =
    let before = leads_of (g.P.Pages.held c.args.pages.now) c.args.vars.now in
    let after = leads_of (g.P.Pages.held c.find_place.new.pages) c.args.vars.now in
    let known = opened (λ (f : Found) list. IsMember c.args.schema.now before c.args.object.now c.args.member.now f list)
    (λ (refusal : Refusal) list. RefusesMember c.args.schema.now before c.args.object.now c.args.member.now refusal list)
    c.in_ok-found.field-0 (Err c.in-Err.refusal) c.in-Err.is c.in_ok-found.ensures.lists in
    λ update. looked c.requires.stands (λ list means refuses. get_refused c.args.schema.now update before after c.args.object.now c.args.member.now list (leads_kept _ _ (bound_by c.args.vars.now) c.in_ok-found.ensures.lists.homes) c.in-Err.refusal refuses) known

pub read_int-requires-clause-stands : goal.read_int-requires-clause-stands
read_int-requires-clause-stands g c =
    let before = leads_of (g.P.Pages.held c.args.pages.now) c.args.vars.now in
    let known = opened (λ (f : Found) list. IsMember c.args.schema.now before c.args.object.now c.args.member.now f list)
    (λ (refusal : Refusal) list. RefusesMember c.args.schema.now before c.args.object.now c.args.member.now refusal list)
    c.in_ok-found.field-0 (Ok c.in-Ok.found) c.in-Ok.is c.in_ok-found.ensures.lists in
    Stands-weaker (λ list known. has_int c.args.schema.now before c.args.object.now c.args.member.now c.in-Ok.found list c.requires.suits.ints known.0 known.1) (Stands-seen c.requires.stands known)

pub returns-clause-lists : goal.returns-clause-lists
returns-clause-lists g c =
    let before = leads_of (g.P.Pages.held c.args.pages.now) c.args.vars.now in
    let after = leads_of (g.P.Pages.held c.find_place.new.pages) c.args.vars.now in
    let known = opened (λ (f : Found) list. IsMember c.args.schema.now before c.args.object.now c.args.member.now f list)
    (λ (refusal : Refusal) list. RefusesMember c.args.schema.now before c.args.object.now c.args.member.now refusal list)
    c.in_ok-found.field-0 (Ok c.in-Ok.found) c.in-Ok.is c.in_ok-found.ensures.lists in
    let value : to_z w64 (of_z w64 c.read_int.result) ≡ c.read_int.result = to_z-of_z w64 c.read_int.result (omega (arith, ints)) in
    λ update. looked_at c.requires.stands
    (λ list means is there. get_done c.args.schema.now update before after c.args.object.now c.args.member.now list (leads_kept _ _ (bound_by c.args.vars.now) c.in_ok-found.ensures.lists.homes) c.in-Ok.found (to_z w64 (of_z w64 c.read_int.result)) is c.requires.suits.ints
    (value ∙ c.read_int.ensures there.0 list there.1 is.cell is.has.there)) known

pub read_int-requires-clause-suits : goal.read_int-requires-clause-suits
read_int-requires-clause-suits g c = subst (Suits c.args.schema.now) (sym c.in_ok-found.ensures.told) c.requires.suits

pub returns-in-Err-clause-brings : goal.returns-in-Err-clause-brings
returns-in-Err-clause-brings g c = c.in_ok-found.ensures.brings

pub returns-clause-brings : goal.returns-clause-brings
returns-clause-brings g c = c.in_ok-found.ensures.brings

pub returns-in-Err-clause-owns : goal.returns-in-Err-clause-owns
returns-in-Err-clause-owns g c = c.in_ok-found.ensures.owns

pub returns-clause-owns : goal.returns-clause-owns
returns-clause-owns g c = c.in_ok-found.ensures.owns
