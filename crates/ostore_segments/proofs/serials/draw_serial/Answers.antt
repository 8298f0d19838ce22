use Rattle.std.proofs.Common.{◌∙◌, rules, sym, subst, arith, inl, inr}
use Rattle.ostore_segments.specs.Naming.{IsPageOf, IsNamedIn}
use Rattle.ostore_segments.specs.inside.Fields.{IsFrontOr}
use Rattle.ostore_segments.proofs.ListSteps.{Becomes-stands, Stands-both, Stands-seen, Stands-weaker, Stands-now, Becomes-look, Becomes-changed}
use Rattle.ostore_segments.proofs.AllocatedLaws.{first_headed}
use Rattle.ostore_segments.proofs.SerialLaws.{can_draw, draw_fits, draws_next, draw_edit}
use Rattle.ostore_segments.proofs.ViewLaws.{brings_weaker, brings_then, brings_on, rests_breaks, breaks_at_once}
use Rattle.ostore_segments.proofs.NamingLaws.{first_named, first_or_front, kept_lists}
use Rattle.ostore_segments.proofs.OwnLaws.{owns_then, owns_later, owns_on}
use Rattle.ostore_segments.proofs.serials.draw_serial.Goals as goal

pub header_at-requires : goal.header_at-requires
header_at-requires g c =
    Stands-weaker (λ list known. first_headed list c.args.segment _ known.0.0 c.requires.segment known.0.1.some known.1)
    (Stands-seen (Stands-both c.requires.allocated c.requires.left) c.in_ok-first_of.ensures.seen)

pub overflow_add-serial : goal.overflow_add-serial
overflow_add-serial g c =
    let fits = Stands-now (λ list known. draw_fits c.args.segment c.in_ok-first_of.field-0 c.in_ok-serial.field-0 list (can_draw _ _ _ list c.requires.segment known.0.0 known.0.1 known.1.0 known.1.1))
    (Stands-seen (Stands-both c.requires.allocated c.requires.left) (Becomes-look c.in_ok-first_of.ensures.seen c.in_ok-serial.ensures.seen)) in
    omega arith

pub put_number-requires-clause-puts : goal.put_number-requires-clause-puts
put_number-requires-clause-puts g c =
    Stands-weaker (λ list known. draw_edit _ list c.args.segment c.in_ok-first_of.field-0 c.in_ok-serial.field-0 (can_draw _ _ _ list c.requires.segment known.0.0 known.0.1 known.1.0 known.1.1))
    (Stands-seen (Stands-both c.requires.allocated c.requires.left) (Becomes-look c.in_ok-first_of.ensures.seen c.in_ok-serial.ensures.seen))

pub returns-clause-lists : goal.returns-clause-lists
returns-clause-lists g c =
    Becomes-changed (Stands-both c.requires.allocated c.requires.left) (Becomes-look c.in_ok-first_of.ensures.seen c.in_ok-serial.ensures.seen)
    (λ old new known seen written. draws_next old new c.args.segment c.in_ok-first_of.field-0 c.in_ok-serial.field-0 (can_draw _ _ _ old c.requires.segment known.0 known.1 seen.0 seen.1) written)
    c.in_ok-put_number.ensures.lists

pub returns-in_err-serial-clause-fails : goal.returns-in_err-serial-clause-fails
returns-in_err-serial-clause-fails g c =
    let failed = g.met.P.Pages.fails_later _ _ _ _ c.in_ok-first_of.ensures.passes c.in_err-serial.ensures.fails in
    search rules

pub returns-clause-brings : goal.returns-clause-brings
returns-clause-brings g c =
    brings_on
    (Becomes-stands {Q = λ list. IsPageOf list c.args.segment c.in_ok-first_of.field-0} (Stands-seen (Stands-both c.requires.allocated c.requires.left) (Becomes-look c.in_ok-first_of.ensures.seen c.in_ok-serial.ensures.seen))
    (λ old new known written. let drawn = draws_next old new c.args.segment c.in_ok-first_of.field-0 c.in_ok-serial.field-0 (can_draw _ _ _ old c.requires.segment known.0.0 known.0.1 known.1.0 known.1.1) written in
    kept_lists old new c.args.segment c.in_ok-first_of.field-0 c.requires.segment drawn.lists
    (first_named old c.args.segment c.in_ok-first_of.field-0 known.0.0 c.requires.segment (λ none. known.0.1.some (known.1.0 ∙ none)) known.1.0))
    c.in_ok-put_number.ensures.lists)
    first_or_front
    (brings_then (brings_then (brings_weaker {N = IsFrontOr c.in_ok-first_of.field-0} (λ named front. inl front) c.in_ok-first_of.ensures.brings) (brings_weaker (λ named same. inr same) c.in_ok-serial.ensures.brings))
    (brings_weaker (λ named same. inr same) c.in_ok-put_number.ensures.brings))

pub returns-in_err-first_of-clause-stays : goal.returns-in_err-first_of-clause-stays
returns-in_err-first_of-clause-stays g c =
    let failed = rests_breaks {N = λ list. IsNamedIn list c.args.segment} c.in_err-first_of.ensures.stays in
    search rules

pub returns-in_err-serial-clause-stays : goal.returns-in_err-serial-clause-stays
returns-in_err-serial-clause-stays g c =
    let failed = breaks_at_once {N = λ list. IsNamedIn list c.args.segment} c.requires.allocated c.in_ok-first_of.ensures.seen c.in_ok-first_of.ensures.brings (λ old middle named fine seen front. inl front) c.in_err-serial.ensures.stays in
    search rules

pub returns-in_err-put_number-clause-stays : goal.returns-in_err-put_number-clause-stays
returns-in_err-put_number-clause-stays g c =
    let failed = breaks_at_once {N = λ list. IsNamedIn list c.args.segment} (Stands-both c.requires.allocated c.requires.left) (Becomes-look c.in_ok-first_of.ensures.seen c.in_ok-serial.ensures.seen)
    (brings_then (brings_weaker {N = IsFrontOr c.in_ok-first_of.field-0} (λ named front. inl front) c.in_ok-first_of.ensures.brings) (brings_weaker (λ named same. inr same) c.in_ok-serial.ensures.brings))
    (λ old middle named known seen is. first_or_front old named (first_named old c.args.segment c.in_ok-first_of.field-0 known.0 c.requires.segment (λ none. known.1.some (seen.1.0 ∙ none)) seen.1.0) is)
    c.in_err-put_number.ensures.stays in
    search rules

pub returns-clause-owns : goal.returns-clause-owns
returns-clause-owns g c =
    owns_on
    (Becomes-stands {Q = λ list. IsPageOf list c.args.segment c.in_ok-first_of.field-0} (Stands-seen (Stands-both c.requires.allocated c.requires.left) (Becomes-look c.in_ok-first_of.ensures.seen c.in_ok-serial.ensures.seen))
    (λ old new known written. let drawn = draws_next old new c.args.segment c.in_ok-first_of.field-0 c.in_ok-serial.field-0 (can_draw _ _ _ old c.requires.segment known.0.0 known.0.1 known.1.0 known.1.1) written in
    kept_lists old new c.args.segment c.in_ok-first_of.field-0 c.requires.segment drawn.lists
    (first_named old c.args.segment c.in_ok-first_of.field-0 known.0.0 c.requires.segment (λ none. known.0.1.some (known.1.0 ∙ none)) known.1.0))
    c.in_ok-put_number.ensures.lists)
    (λ list named it same. subst (IsPageOf list c.args.segment) (sym same) it)
    (owns_later (owns_then c.in_ok-first_of.ensures.owns c.in_ok-serial.ensures.owns) c.in_ok-put_number.ensures.owns)
