use Rattle.std.proofs.Common.{◌≡◌, Result, Ok, Err, IsErrAnd, IfErr, ◌∙◌, ap, subst, sym, inr}
use Rattle.ostore_segments.specs.Holdings.{PagesTold}
use Rattle.ostore_segments.specs.Naming.{IsPageOf, IsNamedIn}
use Rattle.ostore_segments.proofs.ListSteps.{Stands-weaker, Becomes-stands, Becomes-then, Becomes-weaker}
use Rattle.ostore_segments.proofs.MakeLaws.{drawn_room, draws_and_adds, object_asked, some_serial}
use Rattle.ostore_segments.proofs.ViewLaws.{brings_on, each_then, breaks_later}
use Rattle.ostore_segments.proofs.NamingLaws.{placed_named, kept_lists, kept_named, back_named}
use Rattle.ostore_segments.proofs.OwnLaws.{owns_on, each_owns_weaker, each_owns_then}
use Rattle.ostore_segments.proofs.objects.make_on.Goals as goal

-- a fault that is handed on
handed_on : {T E : Type 0} (Q : E → Type 0) (r : Result T E) (fault : E) → IsErrAnd r (λ it. it ≡ fault) → Q fault → IfErr r Q
handed_on Q (Ok made) fault none is = absurd none
handed_on Q (Err it) fault same is = subst Q (sym same) is

pub draw_serial-requires-clause-allocated : goal.draw_serial-requires-clause-allocated
draw_serial-requires-clause-allocated g c = Stands-weaker (λ list placed. placed.allocated) c.requires.placed

pub add-requires-clause-asked : goal.add-requires-clause-asked
add-requires-clause-asked g c =
    let drawn = c.in_ok-serial.ensures.lists in
    let step = drawn.from drawn.some.0 drawn.some.1 drawn.some.2 in
    object_asked c.args.size c.args.code c.in_ok-serial.serial c.requires.asked (some_serial step.0 drawn.some.1 c.args.segment c.in_ok-serial.serial step.2)

pub add-requires-clause-size : goal.add-requires-clause-size
add-requires-clause-size g c = ap (λ (told : PagesTold). told.sizes c.args.code) c.in_ok-serial.ensures.told ∙ c.requires.size

pub add-requires-clause-room : goal.add-requires-clause-room
add-requires-clause-room g c =
    Becomes-stands c.requires.placed (λ old new placed drawn. drawn_room old new c.args.segment _ c.args.page.0 c.in_ok-serial.serial c.requires.segment placed drawn) c.in_ok-serial.ensures.lists

pub returns-clause-lists : goal.returns-clause-lists
returns-clause-lists g c =
    Becomes-weaker (λ old new there step. draws_and_adds old new c.args.segment c.args.page.0 c.args.size c.args.code c.in_ok-serial.serial c.in_ok-offset.offset step)
    (Becomes-then c.in_ok-serial.ensures.lists c.in_ok-offset.ensures.lists)

pub returns-in_err-offset-clause-fails : goal.returns-in_err-offset-clause-fails
returns-in_err-offset-clause-fails g c =
    handed_on _ c.from_residual-in_err-offset.result c.in_err-offset.field-0.0 c.from_residual-in_err-offset.ensures.1
    (g.met.P.Pages.fails_later _ _ _ _ c.in_ok-serial.ensures.passes c.in_err-offset.ensures.fails)

pub returns-clause-passes : goal.returns-clause-passes
returns-clause-passes g c = g.met.P.Pages.passes_on _ _ _ c.in_ok-serial.ensures.passes c.in_ok-offset.ensures.passes

pub returns-clause-brings : goal.returns-clause-brings
returns-clause-brings g c =
    each_then (Becomes-stands c.requires.placed (λ old new placed drawn. kept_lists old new c.args.segment c.args.page.0 c.requires.segment drawn.lists (placed_named old c.args.segment _ c.args.page.0 placed)) c.in_ok-serial.ensures.lists)
    c.in_ok-offset.ensures.lists
    (λ old new named known added is. kept_named old new c.args.segment named c.requires.segment added.1.lists is)
    c.in_ok-serial.ensures.brings
    (brings_on
    (Becomes-stands (Becomes-stands c.requires.placed (λ old new placed drawn. kept_lists old new c.args.segment c.args.page.0 c.requires.segment drawn.lists (placed_named old c.args.segment _ c.args.page.0 placed)) c.in_ok-serial.ensures.lists)
    (λ old new it added. kept_lists old new c.args.segment c.args.page.0 c.requires.segment added.1.lists it) c.in_ok-offset.ensures.lists)
    (λ list named it same. inr (subst (IsPageOf list c.args.segment) (sym same) it)) c.in_ok-offset.ensures.brings)

pub returns-in_err-offset-clause-stays : goal.returns-in_err-offset-clause-stays
returns-in_err-offset-clause-stays g c =
    handed_on _ c.from_residual-in_err-offset.result c.in_err-offset.field-0.0 c.from_residual-in_err-offset.ensures.1
    (breaks_later {N = λ list. IsNamedIn list c.args.segment} c.requires.placed c.in_ok-serial.ensures.lists c.in_ok-serial.ensures.brings
    (λ old middle named placed drawn is. back_named old middle c.args.segment named placed.allocated c.requires.segment drawn.lists is)
    (λ old middle named placed drawn same. inr (subst (IsPageOf old c.args.segment) (sym same) (placed_named old c.args.segment _ c.args.page.0 placed)))
    c.in_err-offset.ensures.stays)

pub returns-clause-owns : goal.returns-clause-owns
returns-clause-owns g c =
    each_owns_then (Becomes-stands c.requires.placed (λ old new placed drawn. kept_lists old new c.args.segment c.args.page.0 c.requires.segment drawn.lists (placed_named old c.args.segment _ c.args.page.0 placed)) c.in_ok-serial.ensures.lists)
    c.in_ok-offset.ensures.lists
    (λ old new named known added is. kept_named old new c.args.segment named c.requires.segment added.1.lists is)
    (each_owns_weaker (λ list named is. inr is) c.in_ok-serial.ensures.owns)
    (owns_on
    (Becomes-stands (Becomes-stands c.requires.placed (λ old new placed drawn. kept_lists old new c.args.segment c.args.page.0 c.requires.segment drawn.lists (placed_named old c.args.segment _ c.args.page.0 placed)) c.in_ok-serial.ensures.lists)
    (λ old new it added. kept_lists old new c.args.segment c.args.page.0 c.requires.segment added.1.lists it) c.in_ok-offset.ensures.lists)
    (λ list named it same. inr (subst (IsPageOf list c.args.segment) (sym same) it)) c.in_ok-offset.ensures.owns)
