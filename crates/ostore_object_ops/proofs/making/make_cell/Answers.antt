use Rattle.std.proofs.Common.{rules, ◌+◌, ◌∙◌, ℕ, List, ap, sym, subst, Ok, Err, inl, inr, Some}
use Rattle.ostore_base.specs.declared.page.PageImage.{PageImage}
use Rattle.ostore_segments.specs.declared.objects.NewCell.{NewCell}
use Rattle.ostore_segments.specs.declared.placement.NoSpace.{NoSpace}
use Rattle.ostore_segments.specs.Making.{IsObjectAsked, Makes}
use Rattle.ostore_segments.specs.Placing.{FindsNone}
use Rattle.ostore_segments.specs.Naming.{IsPageOf, IsWantedIn}
use Rattle.ostore_segments.proofs.ListSteps.{Stands-now, Becomes-stands, Becomes-then, Becomes-weaker}
use Rattle.ostore_object_ops.proofs.NewFacts.{new_type, IsMade, made_within}
use Rattle.ostore_object_ops.proofs.StepFacts.{opened_change}
use Rattle.ostore_segments.proofs.ViewLaws.{brings_on, each_then, breaks_at}
use Rattle.ostore_segments.proofs.NamingLaws.{made_named, back_made, same_named}
use Rattle.ostore_segments.proofs.OwnLaws.{each_owns_none, each_owns_then}
use Rattle.ostore_object_ops.proofs.making.make_cell.Goals as goal

pub code_size-requires-clause-there : goal.code_size-requires-clause-there
code_size-requires-clause-there g c = inl c.requires.ty

pub make-requires-clause-asked : goal.make-requires-clause-asked
make-requires-clause-asked g c =
    let is = new_type c.args.schema.now c.args.number c.requires.suits.lawful c.requires.ty in
    subst (λ (n : ℕ). IsObjectAsked n c.args.number.0) (sym c.code_size.ensures) is.asked

pub make-requires-clause-size : goal.make-requires-clause-size
make-requires-clause-size g c =
    let is = new_type c.args.schema.now c.args.number c.requires.suits.lawful c.requires.ty in
    ap (λ f. f c.args.number.0) c.requires.suits.sizes ∙ is.told ∙ ap (λ (n : ℕ). Some n) (sym c.code_size.ensures)

pub returns-in-Err-clause-lists : goal.returns-in-Err-clause-lists
returns-in-Err-clause-lists g c =
    let opened = opened_change (λ (cell : NewCell) old new. Makes old new c.args.segment cell.page.0 c.code_size.result c.args.number.0 cell.serial cell.offset) (λ (lack : NoSpace) old new. FindsNone old new c.args.segment (c.code_size.result + 8)) c.in_ok-cell.field-0 (Err c.in-Err.lack) c.in-Err.is c.in_ok-cell.ensures.lists in
    Becomes-weaker (λ old new there finds. subst (λ (n : ℕ). FindsNone old new c.args.segment (n + 8)) c.code_size.ensures finds) opened

pub enter-requires : goal.enter-requires
enter-requires g c =
    let is = new_type c.args.schema.now c.args.number c.requires.suits.lawful c.requires.ty in
    let asked = subst (λ (n : ℕ). IsObjectAsked n c.args.number.0) (sym c.code_size.ensures) is.asked in
    let opened = opened_change (λ (cell : NewCell) old new. Makes old new c.args.segment cell.page.0 c.code_size.result c.args.number.0 cell.serial cell.offset) (λ (lack : NoSpace) old new. FindsNone old new c.args.segment (c.code_size.result + 8)) c.in_ok-cell.field-0 (Ok c.in-Ok.cell) c.in-Ok.is c.in_ok-cell.ensures.lists in
    Becomes-stands c.requires.allocated (λ old new fine makes. (made_within old new c.args.segment c.in-Ok.cell.page.0 c.code_size.result c.args.number.0 c.in-Ok.cell.serial c.in-Ok.cell.offset fine asked.most c.requires.segment makes).page_there) opened

pub returns-clause-lists : goal.returns-clause-lists
returns-clause-lists g c =
    let opened = opened_change (λ (cell : NewCell) old new. Makes old new c.args.segment cell.page.0 c.code_size.result c.args.number.0 cell.serial cell.offset) (λ (lack : NoSpace) old new. FindsNone old new c.args.segment (c.code_size.result + 8)) c.in_ok-cell.field-0 (Ok c.in-Ok.cell) c.in-Ok.is c.in_ok-cell.ensures.lists in
    Becomes-weaker
    (λ old new there both.
    subst (λ (n : ℕ). Makes old new c.args.segment c.in-Ok.cell.page.0 n c.args.number.0 c.in-Ok.cell.serial c.in-Ok.cell.offset) c.code_size.ensures
    (subst (λ list. Makes old list c.args.segment c.in-Ok.cell.page.0 c.code_size.result c.args.number.0 c.in-Ok.cell.serial c.in-Ok.cell.offset) (sym both.second) both.first))
    (Becomes-then opened c.in_ok-enter.ensures.lists)

pub returns-clause-place : goal.returns-clause-place
returns-clause-place g c =
    let is = new_type c.args.schema.now c.args.number c.requires.suits.lawful c.requires.ty in
    let asked = subst (λ (n : ℕ). IsObjectAsked n c.args.number.0) (sym c.code_size.ensures) is.asked in
    let opened = opened_change (λ (cell : NewCell) old new. Makes old new c.args.segment cell.page.0 c.code_size.result c.args.number.0 cell.serial cell.offset) (λ (lack : NoSpace) old new. FindsNone old new c.args.segment (c.code_size.result + 8)) c.in_ok-cell.field-0 (Ok c.in-Ok.cell) c.in-Ok.is c.in_ok-cell.ensures.lists in
    let made = Stands-now {P = λ list. IsMade list list c.in-Ok.cell.page.0 c.in-Ok.cell.offset} (λ list within. (within.page_below, within.offset_below))
    (Becomes-stands c.requires.allocated (λ old new fine makes.
    let within = made_within old new c.args.segment c.in-Ok.cell.page.0 c.code_size.result c.args.number.0 c.in-Ok.cell.serial c.in-Ok.cell.offset fine asked.most c.requires.segment makes in
    record { page_low = within.page_low; page_below = within.page_below; page_there = within.page_there; offset_below = within.offset_below }) opened) in
    made

pub returns-in_err-enter-clause-fails : goal.returns-in_err-enter-clause-fails
returns-in_err-enter-clause-fails g c =
    let failed = g.met.P.Pages.fails_later _ _ _ _ c.in_ok-cell.ensures.passes c.in_err-enter.ensures.fails in
    search rules

pub returns-clause-passes : goal.returns-clause-passes
returns-clause-passes g c = g.met.P.Pages.passes_on _ _ _ c.in_ok-cell.ensures.passes c.in_ok-enter.ensures.passes

pub returns-in-Err-clause-brings : goal.returns-in-Err-clause-brings
returns-in-Err-clause-brings g c = c.in_ok-cell.ensures.brings

pub returns-clause-brings : goal.returns-clause-brings
returns-clause-brings g c =
    let is = new_type c.args.schema.now c.args.number c.requires.suits.lawful c.requires.ty in
    let asked = subst (λ (n : ℕ). IsObjectAsked n c.args.number.0) (sym c.code_size.ensures) is.asked in
    let opened = opened_change (λ (cell : NewCell) old new. Makes old new c.args.segment cell.page.0 c.code_size.result c.args.number.0 cell.serial cell.offset) (λ (lack : NoSpace) old new. FindsNone old new c.args.segment (c.code_size.result + 8)) c.in_ok-cell.field-0 (Ok c.in-Ok.cell) c.in-Ok.is c.in_ok-cell.ensures.lists in
    let named = Becomes-stands {Q = λ list. IsPageOf list c.args.segment c.in-Ok.cell.page.0} c.requires.allocated
    (λ old new fine makes. made_named old new c.args.segment c.in-Ok.cell.page.0 c.code_size.result c.args.number.0 c.in-Ok.cell.serial c.in-Ok.cell.offset fine asked.most c.requires.segment makes) opened in
    each_then named c.in_ok-enter.ensures.lists (λ old new page known same was. same_named old new c.args.segment page same was) c.in_ok-cell.ensures.brings
    (brings_on (Becomes-stands named (λ old new it same. subst (λ list. IsPageOf list c.args.segment c.in-Ok.cell.page.0) (sym same) it) c.in_ok-enter.ensures.lists)
    (λ list page it same. inr (subst (IsPageOf list c.args.segment) (sym same) it)) c.in_ok-enter.ensures.brings)

pub returns-in_err-enter-clause-stays : goal.returns-in_err-enter-clause-stays
returns-in_err-enter-clause-stays g c =
    let is = new_type c.args.schema.now c.args.number c.requires.suits.lawful c.requires.ty in
    let asked = subst (λ (n : ℕ). IsObjectAsked n c.args.number.0) (sym c.code_size.ensures) is.asked in
    let opened = opened_change (λ (cell : NewCell) old new. Makes old new c.args.segment cell.page.0 c.code_size.result c.args.number.0 cell.serial cell.offset) (λ (lack : NoSpace) old new. FindsNone old new c.args.segment (c.code_size.result + 8)) c.in_ok-cell.field-0 (Ok c.in-Ok.cell) c.in-Ok.is c.in_ok-cell.ensures.lists in
    let failed = breaks_at {N = λ list. IsWantedIn list c.args.segment} c.requires.allocated opened c.in_ok-cell.ensures.brings
    (λ old new page fine makes is. back_made old new c.args.segment c.in-Ok.cell.page.0 c.code_size.result c.args.number.0 c.in-Ok.cell.serial c.in-Ok.cell.offset page fine asked.most c.requires.segment makes is)
    c.in_err-enter.ensures.stays in
    search rules

pub returns-in-Err-clause-owns : goal.returns-in-Err-clause-owns
returns-in-Err-clause-owns g c = c.in_ok-cell.ensures.owns

pub returns-clause-owns : goal.returns-clause-owns
returns-clause-owns g c =
    let opened = opened_change (λ (cell : NewCell) old new. Makes old new c.args.segment cell.page.0 c.code_size.result c.args.number.0 cell.serial cell.offset) (λ (lack : NoSpace) old new. FindsNone old new c.args.segment (c.code_size.result + 8)) c.in_ok-cell.field-0 (Ok c.in-Ok.cell) c.in-Ok.is c.in_ok-cell.ensures.lists in
    let after = Becomes-stands {Q = λ list. List PageImage} c.requires.allocated (λ old new fine makes. old) opened in
    each_owns_then after c.in_ok-enter.ensures.lists (λ old new page known same was. same_named old new c.args.segment page same was) c.in_ok-cell.ensures.owns (each_owns_none c.in_ok-enter.ensures.owns)
