use Rattle.std.proofs.Common.{◌≡◌, ◌+◌, ◌∙◌, ℕ, true, List, ap, sym, subst, Ok, Err, Some, refl, true≢false, inl}
use Rattle.std.specs.Prelude.{MatchResult, ⊤}
use Rattle.std.proofs.Common.{Result}
use Rattle.ostore_base.specs.declared.page.PageImage.{PageImage}
use Rattle.ostore_schema_layout.specs.Cells.{code_size}
use Rattle.ostore_schema_layout.specs.Numbers.{type_named}
use Rattle.ostore_segments.specs.Holdings.{PagesTold}
use Rattle.ostore_segments.specs.declared.objects.NewCell.{NewCell}
use Rattle.ostore_segments.specs.declared.placement.NoSpace.{NoSpace}
use Rattle.ostore_segments.specs.Making.{Makes}
use Rattle.ostore_segments.specs.Placing.{FindsNone}
use Rattle.ostore_segments.specs.Naming.{IsNamedIn, IsWantedIn}
use Rattle.ostore_segments.proofs.ListSteps.{Stands-seen, Stands-weaker, Becomes-changed}
use Rattle.ostore_object_ops.specs.Bound.{bound_by, with_bound, leads_of}
use Rattle.ostore_object_ops.specs.Suits.{Suits}
use Rattle.ostore_object_ops.proofs.ClaimFacts.{made_kept}
use Rattle.ostore_object_ops.proofs.LeadFacts.{leads_kept}
use Rattle.ostore_object_ops.proofs.NewFacts.{new_type, new_wrong, new_spent, new_done, new_lacks}
use Rattle.ostore_object_ops.proofs.StepFacts.{Becomes-stay, looked, opened_change, homes_stay, homes_then}
use Rattle.ostore_segments.proofs.ViewLaws.{brings_nothing, each_weaker, each_then, breaks_weaker, breaks_seen}
use Rattle.ostore_segments.proofs.OwnLaws.{owns_nothing, each_owns_none, each_owns_weaker, each_owns_later}
use Rattle.ostore_object_ops.proofs.making.run_new.Goals as goal

pub returns-in_default-clause-lists : goal.returns-in_default-clause-lists
returns-in_default-clause-lists g c =
    let before = leads_of (g.P.Pages.held c.args.pages.now) c.args.vars.now in
    Becomes-stay c.requires.stands
    (λ list known. new_wrong c.args.schema.now before before c.args.to.now c.args.ty.now c.args.segment list (leads_kept _ _ (bound_by c.args.vars.now) (homes_stay _))
    (ap (type_named c.args.schema.now) (sym c.bytes.ensures) ∙ sym c.in_default.ensures.named))

pub serials_spent-requires-clause-allocated : goal.serials_spent-requires-clause-allocated
serials_spent-requires-clause-allocated g c = Stands-weaker (λ list known. known.means.valid.pages_kept.allocated) c.requires.stands

pub returns-then-spent-clause-lists : goal.returns-then-spent-clause-lists
returns-then-spent-clause-lists g c =
    let before = leads_of (g.P.Pages.held c.args.pages.now) c.args.vars.now in
    let after = leads_of (g.P.Pages.held c.serials_spent.new.pages) c.args.vars.now in
    let named : type_named c.args.schema.now c.args.ty.now ≡ Some c.in-Some.number = ap (type_named c.args.schema.now) (sym c.bytes.ensures) ∙ sym c.in-Some.ensures.named in
    looked c.requires.stands
    (λ list known seen. new_spent c.args.schema.now before after c.args.to.now c.args.ty.now c.args.segment list (leads_kept _ _ (bound_by c.args.vars.now) c.in-Ok.ensures.lists.homes) c.in-Some.number named c.requires.segment (seen.0 c.if-spent.true))
    c.in-Ok.ensures.lists

pub make_cell-requires-clause-suits : goal.make_cell-requires-clause-suits
make_cell-requires-clause-suits g c = subst (Suits c.args.schema.now) (sym c.in-Ok.ensures.told) c.requires.suits

pub make_cell-requires-clause-may : goal.make_cell-requires-clause-may
make_cell-requires-clause-may g c = ap (λ (t : PagesTold). t.may_edit) c.in-Ok.ensures.told ∙ c.requires.may

pub make_cell-requires-clause-allocated : goal.make_cell-requires-clause-allocated
make_cell-requires-clause-allocated g c = Stands-weaker (λ list known. known.0.means.valid.pages_kept.allocated) (Stands-seen c.requires.stands c.in-Ok.ensures.lists)

pub make_cell-requires-clause-left : goal.make_cell-requires-clause-left
make_cell-requires-clause-left g c = Stands-weaker (λ list known spent. true≢false (sym (known.1.1 spent) ∙ c.if-spent.false)) (Stands-seen c.requires.stands c.in-Ok.ensures.lists)

why : {T : Type 0} (segment need : ℕ) (made : Result T NoSpace) (lack : NoSpace) → made ≡ Err lack → MatchResult made (λ _. ⊤) (λ (lack : NoSpace). (lack.segment ≡ segment) × (lack.need ≡ need)) → (lack.segment ≡ segment) × (lack.need ≡ need)
why segment need made lack is says = subst (λ (r : Result _ NoSpace). MatchResult r (λ _. ⊤) (λ (l : NoSpace). (l.segment ≡ segment) × (l.need ≡ need))) is says

pub returns-in-Err-made-clause-space : goal.returns-in-Err-made-clause-space
returns-in-Err-made-clause-space g c =
    let named : type_named c.args.schema.now c.args.ty.now ≡ Some c.in-Some.number = ap (type_named c.args.schema.now) (sym c.bytes.ensures) ∙ sym c.in-Some.ensures.named in
    let size : ℕ = code_size c.args.schema.now c.in-Some.number.0 in
    let opened = opened_change (λ (cell : NewCell) old new. Makes old new c.args.segment cell.page.0 (code_size c.args.schema.now c.in-Some.number.0) c.in-Some.number.0 cell.serial cell.offset) (λ (lack : NoSpace) old new. FindsNone old new c.args.segment (code_size c.args.schema.now c.in-Some.number.0 + 8)) c.in-Ok-make_cell.made (Err c.in-Err-made.lack) c.in-Err-made.is c.in-Ok-make_cell.ensures.lists in
    let because = why c.args.segment (code_size c.args.schema.now c.in-Some.number.0 + 8) c.in-Ok-make_cell.made c.in-Err-made.lack c.in-Err-made.is c.in-Ok-make_cell.ensures.why in
    Becomes-changed c.requires.stands c.in-Ok.ensures.lists
    (λ old new known seen finds. (
      finds.same,
      new_lacks c.args.schema.now c.args.to.now c.args.ty.now c.args.segment (code_size c.args.schema.now c.in-Some.number.0 + 8) c.in-Some.number old c.in-Err-made.lack named
          (λ spent. true≢false (sym (seen.1 spent) ∙ c.if-spent.false)) because.0 because.1 refl finds.full,
    ))
    opened

pub returns-clause-lists : goal.returns-clause-lists
returns-clause-lists g c =
    let named : type_named c.args.schema.now c.args.ty.now ≡ Some c.in-Some.number = ap (type_named c.args.schema.now) (sym c.bytes.ensures) ∙ sym c.in-Some.ensures.named in
    let is = new_type c.args.schema.now c.in-Some.number c.requires.suits.lawful c.in-Some.ensures.there in
    let opened = opened_change (λ (cell : NewCell) old new. Makes old new c.args.segment cell.page.0 (code_size c.args.schema.now c.in-Some.number.0) c.in-Some.number.0 cell.serial cell.offset) (λ (lack : NoSpace) old new. FindsNone old new c.args.segment (code_size c.args.schema.now c.in-Some.number.0 + 8)) c.in-Ok-make_cell.made (Ok c.in-Ok-made.cell) c.in-Ok-made.is c.in-Ok-make_cell.ensures.lists in
    let homes = homes_then _ _ _ c.in-Ok.ensures.lists.homes c.in-Ok-make_cell.ensures.lists.homes in
    Becomes-changed c.requires.stands c.in-Ok.ensures.lists
    (λ old new known seen makes.
    new_done c.args.schema.now (g.P.Pages.held c.args.pages.now).home (g.P.Pages.held c.make_cell.new.pages).home (bound_by c.args.vars.now) (bound_by c.bind.new.self) c.args.to.now c.args.ty.now c.args.segment c.pointer_to.result old new
    c.in-Ok-made.cell.page.0 c.in-Ok-made.cell.offset c.in-Ok-made.cell.serial c.in-Some.number c.requires.suits.ints is named c.requires.segment
    (λ spent. true≢false (sym (seen.1 spent) ∙ c.if-spent.false)) known.means.valid.pages_kept.allocated makes homes c.in-Ok-bind.ensures.bound c.pointer_to.ensures)
    opened

pub returns-in_default-clause-passes : goal.returns-in_default-clause-passes
returns-in_default-clause-passes g c = g.met.P.Pages.passes_at_once c.args.pages.now

pub returns-in-Err-make_cell-clause-stops : goal.returns-in-Err-make_cell-clause-stops
returns-in-Err-make_cell-clause-stops g c = g.met.P.Pages.fails_later _ _ _ _ c.in-Ok.ensures.passes c.in-Err-make_cell.ensures.fails

pub returns-in-Err-made-clause-stops : goal.returns-in-Err-made-clause-stops
returns-in-Err-made-clause-stops g c = g.met.P.Pages.passes_on _ _ _ c.in-Ok.ensures.passes c.in-Ok-make_cell.ensures.passes

pub returns-in-Err-bind-clause-stops : goal.returns-in-Err-bind-clause-stops
returns-in-Err-bind-clause-stops g c = g.met.P.Pages.passes_on _ _ _ c.in-Ok.ensures.passes c.in-Ok-make_cell.ensures.passes

pub returns-clause-passes : goal.returns-clause-passes
returns-clause-passes g c = g.met.P.Pages.passes_on _ _ _ c.in-Ok.ensures.passes c.in-Ok-make_cell.ensures.passes

-- the variable isn't bound, and the pages are as they would be if it were
pub returns-in-Err-bind-clause-memory : goal.returns-in-Err-bind-clause-memory
returns-in-Err-bind-clause-memory g c =
    let named : type_named c.args.schema.now c.args.ty.now ≡ Some c.in-Some.number = ap (type_named c.args.schema.now) (sym c.bytes.ensures) ∙ sym c.in-Some.ensures.named in
    let is = new_type c.args.schema.now c.in-Some.number c.requires.suits.lawful c.in-Some.ensures.there in
    let opened = opened_change (λ (cell : NewCell) old new. Makes old new c.args.segment cell.page.0 (code_size c.args.schema.now c.in-Some.number.0) c.in-Some.number.0 cell.serial cell.offset) (λ (lack : NoSpace) old new. FindsNone old new c.args.segment (code_size c.args.schema.now c.in-Some.number.0 + 8)) c.in-Ok-make_cell.made (Ok c.in-Ok-made.cell) c.in-Ok-made.is c.in-Ok-make_cell.ensures.lists in
    let homes = homes_then _ _ _ c.in-Ok.ensures.lists.homes c.in-Ok-make_cell.ensures.lists.homes in
    Becomes-changed c.requires.stands c.in-Ok.ensures.lists
    (λ old new known seen makes.
    let done = new_done c.args.schema.now (g.P.Pages.held c.args.pages.now).home (g.P.Pages.held c.make_cell.new.pages).home (bound_by c.args.vars.now) (with_bound (bound_by c.args.vars.now) c.args.to.now c.pointer_to.result) c.args.to.now c.args.ty.now c.args.segment c.pointer_to.result old new
    c.in-Ok-made.cell.page.0 c.in-Ok-made.cell.offset c.in-Ok-made.cell.serial c.in-Some.number c.requires.suits.ints is named c.requires.segment
    (λ spent. true≢false (sym (seen.1 spent) ∙ c.if-spent.false)) known.means.valid.pages_kept.allocated makes homes (λ variable. refl) c.pointer_to.ensures in
    (done.does known.vars known.graph known.means).means.valid)
    opened

-- what `new` may use, in an update
abbrev Wanted : ℕ → List PageImage → ℕ → Type 0
Wanted segment list page = (true ≡ true) × IsWantedIn list segment page

pub returns-in_default-clause-brings : goal.returns-in_default-clause-brings
returns-in_default-clause-brings g c = record { each = λ begun list there. brings_nothing }

pub returns-then-spent-clause-brings : goal.returns-then-spent-clause-brings
returns-then-spent-clause-brings g c = each_weaker (λ list page is. (refl, is)) c.in-Ok.ensures.brings

pub returns-clause-brings : goal.returns-clause-brings
returns-clause-brings g c =
    let opened = opened_change (λ (cell : NewCell) old new. Makes old new c.args.segment cell.page.0 (code_size c.args.schema.now c.in-Some.number.0) c.in-Some.number.0 cell.serial cell.offset) (λ (lack : NoSpace) old new. FindsNone old new c.args.segment (code_size c.args.schema.now c.in-Some.number.0 + 8)) c.in-Ok-make_cell.made (Ok c.in-Ok-made.cell) c.in-Ok-made.is c.in-Ok-make_cell.ensures.lists in
    each_weaker {M = λ list. IsNamedIn list c.args.segment} (λ list page is. (refl, is))
    (each_then (Stands-seen c.requires.stands c.in-Ok.ensures.lists) opened
    (λ old new page known makes is. made_kept old new c.args.segment c.in-Ok-made.cell.page.0 _ _ c.in-Ok-made.cell.serial c.in-Ok-made.cell.offset page c.requires.segment makes is)
    c.in-Ok.ensures.brings c.in-Ok-make_cell.ensures.brings)

pub returns-in-Err-clause-stays : goal.returns-in-Err-clause-stays
returns-in-Err-clause-stays g c = breaks_weaker {N = Wanted c.args.segment} c.requires.stands (λ list page known is. (refl, inl is)) c.in-Err.ensures.stays

pub returns-in-Err-make_cell-clause-stays : goal.returns-in-Err-make_cell-clause-stays
returns-in-Err-make_cell-clause-stays g c =
    breaks_seen {N = Wanted c.args.segment} c.in-Ok.ensures.lists (each_weaker (λ list page is. (refl, inl is)) c.in-Ok.ensures.brings)
    (breaks_weaker {N = Wanted c.args.segment} (Stands-seen c.requires.stands c.in-Ok.ensures.lists) (λ list page known is. (refl, is)) c.in-Err-make_cell.ensures.stays)

pub returns-in_default-clause-owns : goal.returns-in_default-clause-owns
returns-in_default-clause-owns g c = each_owns_none owns_nothing

pub returns-then-spent-clause-owns : goal.returns-then-spent-clause-owns
returns-then-spent-clause-owns g c = each_owns_none c.in-Ok.ensures.owns

pub returns-clause-owns : goal.returns-clause-owns
returns-clause-owns g c =
    each_owns_weaker {M = λ list. IsNamedIn list c.args.segment} (λ list page is. (refl, is)) (each_owns_later c.in-Ok.ensures.owns c.in-Ok-make_cell.ensures.owns)
