use Rattle.std.proofs.Common.{rules, ◌≡◌, ◌∙◌, ℕ, ℤ, ap, sym, subst, Result, Ok, Err, IfOk, to_z, of_z}
use Rattle.std.specs.Int.{w64}
use Rattle.std.proofs.lemmas.Int.{to_z-of_z}
use Rattle.ostore_graph_model.specs.declared.refusal.Refusal.{Refusal}
use Rattle.ostore_segments.specs.Holdings.{PagesTold}
use Rattle.ostore_segments.proofs.ListSteps.{Stands-seen, Stands-weaker, Becomes-changed}
use Rattle.ostore_object_ops.specs.declared.lookup.Found.{Found}
use Rattle.ostore_object_ops.specs.Bound.{bound_by, leads_of}
use Rattle.ostore_object_ops.specs.Suits.{Suits}
use Rattle.ostore_object_ops.specs.inside.Members.{IsMember, RefusesMember, StoresInt}
use Rattle.ostore_object_ops.specs.Claiming.{IsObjectPage}
use Rattle.ostore_object_ops.proofs.CommandFacts.{set_refused, set_done, has_int}
use Rattle.ostore_object_ops.proofs.LeadFacts.{leads_kept}
use Rattle.ostore_object_ops.proofs.StepFacts.{opened, looked, homes_then}
use Rattle.ostore_segments.proofs.ViewLaws.{rests_breaks, breaks_then}
use Rattle.ostore_object_ops.proofs.ClaimFacts.{brings_none}
use Rattle.ostore_segments.proofs.OwnLaws.{looks_own, owns_weaker, owns_later}
use Rattle.ostore_object_ops.proofs.members.run_set_int.Goals as goal

pub returns-in-Err-clause-lists : goal.returns-in-Err-clause-lists
returns-in-Err-clause-lists g c =
    let before = leads_of (g.P.Pages.held c.args.pages.now) c.args.vars.now in
    let after = leads_of (g.P.Pages.held c.find_place.new.pages) c.args.vars.now in
    let known = opened (λ (f : Found) list. IsMember c.args.schema.now before c.args.object.now c.args.member.now f list)
    (λ (refusal : Refusal) list. RefusesMember c.args.schema.now before c.args.object.now c.args.member.now refusal list)
    c.in_ok-found.field-0 (Err c.in-Err.refusal) c.in-Err.is c.in_ok-found.ensures.lists in
    looked c.requires.stands (λ list means refuses. set_refused c.args.schema.now before after c.args.object.now c.args.member.now c.args.value (leads_kept _ _ (bound_by c.args.vars.now) c.in_ok-found.ensures.lists.homes) list c.in-Err.refusal refuses) known

pub store_int-requires-clause-stands : goal.store_int-requires-clause-stands
store_int-requires-clause-stands g c =
    let before = leads_of (g.P.Pages.held c.args.pages.now) c.args.vars.now in
    let known = opened (λ (f : Found) list. IsMember c.args.schema.now before c.args.object.now c.args.member.now f list)
    (λ (refusal : Refusal) list. RefusesMember c.args.schema.now before c.args.object.now c.args.member.now refusal list)
    c.in_ok-found.field-0 (Ok c.in-Ok.found) c.in-Ok.is c.in_ok-found.ensures.lists in
    Stands-weaker (λ list known. has_int c.args.schema.now before c.args.object.now c.args.member.now c.in-Ok.found list c.requires.suits.ints known.0 known.1) (Stands-seen c.requires.stands known)

pub returns-clause-lists : goal.returns-clause-lists
returns-clause-lists g c =
    let before = leads_of (g.P.Pages.held c.args.pages.now) c.args.vars.now in
    let after = leads_of (g.P.Pages.held c.store_int.new.pages) c.args.vars.now in
    let known = opened (λ (f : Found) list. IsMember c.args.schema.now before c.args.object.now c.args.member.now f list)
    (λ (refusal : Refusal) list. RefusesMember c.args.schema.now before c.args.object.now c.args.member.now refusal list)
    c.in_ok-found.field-0 (Ok c.in-Ok.found) c.in-Ok.is c.in_ok-found.ensures.lists in
    let homes = homes_then _ _ _ c.in_ok-found.ensures.lists.homes c.in_ok-store_int.ensures.lists.homes in
    let value : to_z w64 (of_z w64 c.args.value) ≡ c.args.value = to_z-of_z w64 c.args.value c.ranges.value in
    Becomes-changed c.requires.stands known
    (λ old new means is stores. set_done c.args.schema.now before after c.args.object.now c.args.member.now c.args.value (leads_kept _ _ (bound_by c.args.vars.now) homes) old new c.in-Ok.found c.requires.suits.ints is
    (subst (λ (v : ℤ). StoresInt c.args.schema.now c.in-Ok.found v old new) value stores))
    c.in_ok-store_int.ensures.lists

pub store_int-requires-clause-suits : goal.store_int-requires-clause-suits
store_int-requires-clause-suits g c = subst (Suits c.args.schema.now) (sym c.in_ok-found.ensures.told) c.requires.suits

pub store_int-requires-clause-may : goal.store_int-requires-clause-may
store_int-requires-clause-may g c = ap (λ (t : PagesTold). t.may_edit) c.in_ok-found.ensures.told ∙ c.requires.may

pub returns-in_err-store_int-clause-fails : goal.returns-in_err-store_int-clause-fails
returns-in_err-store_int-clause-fails g c =
    let failed = g.met.P.Pages.fails_later _ _ _ _ c.in_ok-found.ensures.passes c.in_err-store_int.ensures.fails in
    search rules

pub returns-clause-passes : goal.returns-clause-passes
returns-clause-passes g c = g.met.P.Pages.passes_on _ _ _ c.in_ok-found.ensures.passes c.in_ok-store_int.ensures.passes

-- what is known of the page of a member that was found
in_view : (P : ℕ → Type 0) (answer : Result Found Refusal) (found : Found) → answer ≡ Ok found → IfOk answer (λ (f : Found). P f.page.0) → P found.page.0
in_view P answer found is there = subst (λ (r : Result Found Refusal). IfOk r (λ (f : Found). P f.page.0)) is there

pub returns-in-Err-clause-brings : goal.returns-in-Err-clause-brings
returns-in-Err-clause-brings g c = c.in_ok-found.ensures.brings

pub returns-clause-brings : goal.returns-clause-brings
returns-clause-brings g c = brings_none c.in-Ok.found.page.0 (in_view (g.P.Pages.held c.find_place.new.pages).in_view c.in_ok-found.field-0 c.in-Ok.found c.in-Ok.is c.in_ok-found.ensures.view) c.in_ok-found.ensures.brings c.in_ok-store_int.ensures.brings

pub returns-in_err-found-clause-stays : goal.returns-in_err-found-clause-stays
returns-in_err-found-clause-stays g c =
    let failed = rests_breaks {N = λ list. IsObjectPage (leads_of (g.P.Pages.held c.args.pages.now) c.args.vars.now) c.args.object.now} c.in_err-found.ensures.stays in
    search rules

pub returns-in_err-store_int-clause-stays : goal.returns-in_err-store_int-clause-stays
returns-in_err-store_int-clause-stays g c =
    let failed = breaks_then c.in_ok-found.ensures.lists c.in_ok-found.ensures.brings (rests_breaks c.in_err-store_int.ensures.stays) in
    search rules

pub returns-in-Err-clause-owns : goal.returns-in-Err-clause-owns
returns-in-Err-clause-owns g c = looks_own c.in_ok-found.ensures.owns

pub returns-clause-owns : goal.returns-clause-owns
returns-clause-owns g c =
    let named = IsObjectPage (leads_of (g.P.Pages.held c.args.pages.now) c.args.vars.now) c.args.object.now in
    owns_later c.in_ok-found.ensures.owns
    (owns_weaker (λ page same. subst named (sym same) (in_view named c.in_ok-found.field-0 c.in-Ok.found c.in-Ok.is c.in_ok-found.ensures.object)) c.in_ok-store_int.ensures.owns)
