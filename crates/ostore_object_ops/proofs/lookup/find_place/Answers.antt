use Rattle.std.proofs.Common.{◌≡◌, ◌+◌, ◌*◌, ◌<◌, ℕ, ap, sym, subst, arith, ◌∙◌, refl, Option, Some}
use Rattle.std.specs.Option.{option_map}
use Rattle.ostore_schema_layout.specs.Numbers.{members_of, member_named}
use Rattle.ostore_segments.specs.Holdings.{PagesTold}
use Rattle.ostore_segments.proofs.ListSteps.{Stands-weaker, Becomes-stands, Becomes-sees}
use Rattle.ostore_object_ops.specs.Bound.{leads_of}
use Rattle.ostore_object_ops.specs.Means.{HasMeaning}
use Rattle.ostore_object_ops.specs.Claiming.{IsObjectPage}
use Rattle.ostore_object_ops.proofs.MemberFacts.{refuses_unbound, page_there, refuses_dead, refuses_missing, finds_member}
use Rattle.ostore_object_ops.proofs.FindFacts.{sees, row_seen, row_found, some_of, has_place}
use Rattle.ostore_object_ops.proofs.StepFacts.{Becomes-stay, not_true, not_false}
use Rattle.ostore_segments.proofs.ViewLaws.{brings_nothing, brings_weaker}
use Rattle.ostore_segments.proofs.OwnLaws.{owns_nothing}
use Rattle.ostore_object_ops.proofs.lookup.find_place.Goals as goal

pub returns-in_default-clause-lists : goal.returns-in_default-clause-lists
returns-in_default-clause-lists g c =
    let leads = leads_of (g.P.Pages.held c.args.pages.now) c.args.vars.now in
    Becomes-stay c.requires.stands (λ list known. (refl, refuses_unbound c.args.schema.now leads c.args.variable.now c.args.member.now list (ap (option_map (g.P.Pages.held c.args.pages.now).home) (sym c.in_default.ensures))))

pub enter-requires : goal.enter-requires
enter-requires g c =
    let leads = leads_of (g.P.Pages.held c.args.pages.now) c.args.vars.now in
    let low : c.offset_of-offset.result < 4096 = let is = c.offset_of-offset.ensures in omega arith in
    let at : leads c.args.variable.now ≡ Some (Some (c.page_at-page.result.0 * 4096 + c.offset_of-offset.result)) =
    ap (option_map (g.P.Pages.held c.args.pages.now).home) (sym c.in-Some.ensures) ∙ ap (λ (h : Option ℕ). Some h) c.page_at-page.ensures ∙ ap (λ (o : ℕ). Some (Some (c.page_at-page.result.0 * 4096 + o))) (sym c.offset_of-offset.ensures) in
    Stands-weaker (λ list known. page_there c.args.schema.now leads c.args.variable.now c.args.member.now list c.page_at-page.result.0 c.offset_of-offset.result low known at) c.requires.stands

pub row_at-requires : goal.row_at-requires
row_at-requires g c =
    let leads = leads_of (g.P.Pages.held c.args.pages.now) c.args.vars.now in
    let low : c.offset_of-offset.result < 4096 = let is = c.offset_of-offset.ensures in omega arith in
    let at : leads c.args.variable.now ≡ Some (Some (c.page_at-page.result.0 * 4096 + c.offset_of-offset.result)) =
    ap (option_map (g.P.Pages.held c.args.pages.now).home) (sym c.in-Some.ensures) ∙ ap (λ (h : Option ℕ). Some h) c.page_at-page.ensures ∙ ap (λ (o : ℕ). Some (Some (c.page_at-page.result.0 * 4096 + o))) (sym c.offset_of-offset.ensures) in
    let stands = Becomes-stands c.requires.stands (λ old new known same. subst (HasMeaning c.args.schema.now leads) (sym same) known) c.in_ok-enter.ensures.lists in
    let pointers = ap (λ (t : PagesTold). t.pointers) c.in_ok-enter.ensures.told ∙ c.requires.suits.pointers in
    (sees c.args.schema.now leads c.args.variable.now c.args.member.now c.page_at-page.result.0 c.offset_of-offset.result low at (g.P.Pages.told c.enter.new.self) (g.P.Pages.held c.enter.new.self) c.image.result.now.bytes pointers c.image.ensures stands.some.0 stands.some.1 stands.some.2 (stands.each stands.some.0 stands.some.1 stands.some.2)).good

pub unreachable-requires : goal.unreachable-requires
unreachable-requires g c =
    let leads = leads_of (g.P.Pages.held c.args.pages.now) c.args.vars.now in
    let low : c.offset_of-offset.result < 4096 = let is = c.offset_of-offset.ensures in omega arith in
    let at : leads c.args.variable.now ≡ Some (Some (c.page_at-page.result.0 * 4096 + c.offset_of-offset.result)) =
    ap (option_map (g.P.Pages.held c.args.pages.now).home) (sym c.in-Some.ensures) ∙ ap (λ (h : Option ℕ). Some h) c.page_at-page.ensures ∙ ap (λ (o : ℕ). Some (Some (c.page_at-page.result.0 * 4096 + o))) (sym c.offset_of-offset.ensures) in
    let stands = Becomes-stands c.requires.stands (λ old new known same. subst (HasMeaning c.args.schema.now leads) (sym same) known) c.in_ok-enter.ensures.lists in
    let pointers = ap (λ (t : PagesTold). t.pointers) c.in_ok-enter.ensures.told ∙ c.requires.suits.pointers in
    row_found c.args.schema.now leads c.args.variable.now c.args.member.now c.page_at-page.result.0 c.offset_of-offset.result low at (g.P.Pages.told c.enter.new.self) (g.P.Pages.held c.enter.new.self) c.image.result.now.bytes pointers c.image.ensures c.in_default-row_at.ensures stands.some.0 stands.some.1 stands.some.2 (stands.each stands.some.0 stands.some.1 stands.some.2)

pub returns-then-not-row-clause-lists : goal.returns-then-not-row-clause-lists
returns-then-not-row-clause-lists g c =
    let leads = leads_of (g.P.Pages.held c.args.pages.now) c.args.vars.now in
    let low : c.offset_of-offset.result < 4096 = let is = c.offset_of-offset.ensures in omega arith in
    let at : leads c.args.variable.now ≡ Some (Some (c.page_at-page.result.0 * 4096 + c.offset_of-offset.result)) =
    ap (option_map (g.P.Pages.held c.args.pages.now).home) (sym c.in-Some.ensures) ∙ ap (λ (h : Option ℕ). Some h) c.page_at-page.ensures ∙ ap (λ (o : ℕ). Some (Some (c.page_at-page.result.0 * 4096 + o))) (sym c.offset_of-offset.ensures) in
    let pointers = ap (λ (t : PagesTold). t.pointers) c.in_ok-enter.ensures.told ∙ c.requires.suits.pointers in
    Becomes-sees c.requires.stands
    (λ list known there.
    refuses_dead c.args.schema.now leads c.args.variable.now c.args.member.now list c.page_at-page.result.0 c.offset_of-offset.result c.in-Some-row_at.row at
    (row_seen c.args.schema.now leads c.args.variable.now c.args.member.now c.page_at-page.result.0 c.offset_of-offset.result low at (g.P.Pages.told c.enter.new.self) (g.P.Pages.held c.enter.new.self) c.image.result.now.bytes pointers c.image.ensures c.in-Some-row_at.row c.in-Some-row_at.ensures there.0 list there.1 known)
    (not_true _ c.if-not-row.true))
    c.in_ok-enter.ensures.lists

pub returns-in_default-member_named-clause-lists : goal.returns-in_default-member_named-clause-lists
returns-in_default-member_named-clause-lists g c =
    let leads = leads_of (g.P.Pages.held c.args.pages.now) c.args.vars.now in
    let low : c.offset_of-offset.result < 4096 = let is = c.offset_of-offset.ensures in omega arith in
    let at : leads c.args.variable.now ≡ Some (Some (c.page_at-page.result.0 * 4096 + c.offset_of-offset.result)) =
    ap (option_map (g.P.Pages.held c.args.pages.now).home) (sym c.in-Some.ensures) ∙ ap (λ (h : Option ℕ). Some h) c.page_at-page.ensures ∙ ap (λ (o : ℕ). Some (Some (c.page_at-page.result.0 * 4096 + o))) (sym c.offset_of-offset.ensures) in
    let pointers = ap (λ (t : PagesTold). t.pointers) c.in_ok-enter.ensures.told ∙ c.requires.suits.pointers in
    Becomes-sees c.requires.stands
    (λ list known there.
    refuses_missing c.args.schema.now leads c.args.variable.now c.args.member.now list c.page_at-page.result.0 c.offset_of-offset.result c.in-Some-row_at.row at
    (row_seen c.args.schema.now leads c.args.variable.now c.args.member.now c.page_at-page.result.0 c.offset_of-offset.result low at (g.P.Pages.told c.enter.new.self) (g.P.Pages.held c.enter.new.self) c.image.result.now.bytes pointers c.image.ensures c.in-Some-row_at.row c.in-Some-row_at.ensures there.0 list there.1 known)
    (not_false _ c.if-not-row.false)
    (ap (member_named c.args.schema.now (record { 0 = c.in-Some-row_at.row.code })) (sym c.bytes.ensures) ∙ sym c.in_default-member_named.ensures.named))
    c.in_ok-enter.ensures.lists

pub place_of-requires-clause-there : goal.place_of-requires-clause-there
place_of-requires-clause-there g c =
    let leads = leads_of (g.P.Pages.held c.args.pages.now) c.args.vars.now in
    let low : c.offset_of-offset.result < 4096 = let is = c.offset_of-offset.ensures in omega arith in
    let at : leads c.args.variable.now ≡ Some (Some (c.page_at-page.result.0 * 4096 + c.offset_of-offset.result)) =
    ap (option_map (g.P.Pages.held c.args.pages.now).home) (sym c.in-Some.ensures) ∙ ap (λ (h : Option ℕ). Some h) c.page_at-page.ensures ∙ ap (λ (o : ℕ). Some (Some (c.page_at-page.result.0 * 4096 + o))) (sym c.offset_of-offset.ensures) in
    let stands = Becomes-stands c.requires.stands (λ old new known same. subst (HasMeaning c.args.schema.now leads) (sym same) known) c.in_ok-enter.ensures.lists in
    let pointers = ap (λ (t : PagesTold). t.pointers) c.in_ok-enter.ensures.told ∙ c.requires.suits.pointers in
    (row_seen c.args.schema.now leads c.args.variable.now c.args.member.now c.page_at-page.result.0 c.offset_of-offset.result low at (g.P.Pages.told c.enter.new.self) (g.P.Pages.held c.enter.new.self) c.image.result.now.bytes pointers c.image.ensures c.in-Some-row_at.row c.in-Some-row_at.ensures stands.some.0 stands.some.1 stands.some.2 (stands.each stands.some.0 stands.some.1 stands.some.2)).sound

pub unreachable-requires-in_default-place_of : goal.unreachable-requires-in_default-place_of
unreachable-requires-in_default-place_of g c = has_place 0 (members_of c.args.schema.now c.in-Some-row_at.row.code) c.in-Some-member_named.number.0 c.in-Some-member_named.ensures.there c.in_default-place_of.ensures

pub returns-clause-lists : goal.returns-clause-lists
returns-clause-lists g c =
    let leads = leads_of (g.P.Pages.held c.args.pages.now) c.args.vars.now in
    let low : c.offset_of-offset.result < 4096 = let is = c.offset_of-offset.ensures in omega arith in
    let at : leads c.args.variable.now ≡ Some (Some (c.page_at-page.result.0 * 4096 + c.offset_of-offset.result)) =
    ap (option_map (g.P.Pages.held c.args.pages.now).home) (sym c.in-Some.ensures) ∙ ap (λ (h : Option ℕ). Some h) c.page_at-page.ensures ∙ ap (λ (o : ℕ). Some (Some (c.page_at-page.result.0 * 4096 + o))) (sym c.offset_of-offset.ensures) in
    let pointers = ap (λ (t : PagesTold). t.pointers) c.in_ok-enter.ensures.told ∙ c.requires.suits.pointers in
    let def = some_of _ c.in-Some-member_named.ensures.there in
    Becomes-sees c.requires.stands
    (λ list known there.
    finds_member c.args.schema.now leads c.args.variable.now c.args.member.now list c.page_at-page.result.0 c.offset_of-offset.result c.in-Some-row_at.row at
    (row_seen c.args.schema.now leads c.args.variable.now c.args.member.now c.page_at-page.result.0 c.offset_of-offset.result low at (g.P.Pages.told c.enter.new.self) (g.P.Pages.held c.enter.new.self) c.image.result.now.bytes pointers c.image.ensures c.in-Some-row_at.row c.in-Some-row_at.ensures there.0 list there.1 known)
    (not_false _ c.if-not-row.false) _ def.0 refl refl
    (ap (member_named c.args.schema.now (record { 0 = c.in-Some-row_at.row.code })) (sym c.bytes.ensures) ∙ sym c.in-Some-member_named.ensures.named)
    (sym c.in-Some-place_of.ensures) def.1)
    c.in_ok-enter.ensures.lists

pub returns-in_default-clause-passes : goal.returns-in_default-clause-passes
returns-in_default-clause-passes g c = g.met.P.Pages.passes_at_once c.args.pages.now

pub returns-in_default-clause-brings : goal.returns-in_default-clause-brings
returns-in_default-clause-brings g c = brings_nothing

pub returns-then-not-row-clause-brings : goal.returns-then-not-row-clause-brings
returns-then-not-row-clause-brings g c =
    let leads = leads_of (g.P.Pages.held c.args.pages.now) c.args.vars.now in
    let low : c.offset_of-offset.result < 4096 = let is = c.offset_of-offset.ensures in omega arith in
    let at : leads c.args.variable.now ≡ Some (Some (c.page_at-page.result.0 * 4096 + c.offset_of-offset.result)) =
    ap (option_map (g.P.Pages.held c.args.pages.now).home) (sym c.in-Some.ensures) ∙ ap (λ (h : Option ℕ). Some h) c.page_at-page.ensures ∙ ap (λ (o : ℕ). Some (Some (c.page_at-page.result.0 * 4096 + o))) (sym c.offset_of-offset.ensures) in
    brings_weaker (λ named same. subst (IsObjectPage leads c.args.variable.now) (sym same) (c.offset_of-offset.result, low, at)) c.in_ok-enter.ensures.brings

pub returns-in_default-member_named-clause-brings : goal.returns-in_default-member_named-clause-brings
returns-in_default-member_named-clause-brings g c =
    let leads = leads_of (g.P.Pages.held c.args.pages.now) c.args.vars.now in
    let low : c.offset_of-offset.result < 4096 = let is = c.offset_of-offset.ensures in omega arith in
    let at : leads c.args.variable.now ≡ Some (Some (c.page_at-page.result.0 * 4096 + c.offset_of-offset.result)) =
    ap (option_map (g.P.Pages.held c.args.pages.now).home) (sym c.in-Some.ensures) ∙ ap (λ (h : Option ℕ). Some h) c.page_at-page.ensures ∙ ap (λ (o : ℕ). Some (Some (c.page_at-page.result.0 * 4096 + o))) (sym c.offset_of-offset.ensures) in
    brings_weaker (λ named same. subst (IsObjectPage leads c.args.variable.now) (sym same) (c.offset_of-offset.result, low, at)) c.in_ok-enter.ensures.brings

pub returns-clause-brings : goal.returns-clause-brings
returns-clause-brings g c =
    let leads = leads_of (g.P.Pages.held c.args.pages.now) c.args.vars.now in
    let low : c.offset_of-offset.result < 4096 = let is = c.offset_of-offset.ensures in omega arith in
    let at : leads c.args.variable.now ≡ Some (Some (c.page_at-page.result.0 * 4096 + c.offset_of-offset.result)) =
    ap (option_map (g.P.Pages.held c.args.pages.now).home) (sym c.in-Some.ensures) ∙ ap (λ (h : Option ℕ). Some h) c.page_at-page.ensures ∙ ap (λ (o : ℕ). Some (Some (c.page_at-page.result.0 * 4096 + o))) (sym c.offset_of-offset.ensures) in
    brings_weaker (λ named same. subst (IsObjectPage leads c.args.variable.now) (sym same) (c.offset_of-offset.result, low, at)) c.in_ok-enter.ensures.brings

pub returns-in_default-clause-owns : goal.returns-in_default-clause-owns
returns-in_default-clause-owns g c = owns_nothing

pub returns-clause-object : goal.returns-clause-object
returns-clause-object g c =
    let leads = leads_of (g.P.Pages.held c.args.pages.now) c.args.vars.now in
    let low : c.offset_of-offset.result < 4096 = let is = c.offset_of-offset.ensures in omega arith in
    let at : leads c.args.variable.now ≡ Some (Some (c.page_at-page.result.0 * 4096 + c.offset_of-offset.result)) =
    ap (option_map (g.P.Pages.held c.args.pages.now).home) (sym c.in-Some.ensures) ∙ ap (λ (h : Option ℕ). Some h) c.page_at-page.ensures ∙ ap (λ (o : ℕ). Some (Some (c.page_at-page.result.0 * 4096 + o))) (sym c.offset_of-offset.ensures) in
    (c.offset_of-offset.result, low, at)
