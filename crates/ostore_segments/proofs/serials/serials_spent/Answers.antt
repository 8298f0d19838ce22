use Rattle.std.proofs.Common.{rules, ◌∙◌, arith, inl, inr}
use Rattle.ostore_segments.specs.Naming.{IsNamedIn}
use Rattle.ostore_segments.specs.inside.Fields.{IsFrontOr}
use Rattle.ostore_segments.proofs.ListSteps.{Stands-seen, Stands-weaker, Becomes-look, Becomes-weaker}
use Rattle.ostore_segments.proofs.AllocatedLaws.{first_headed}
use Rattle.ostore_segments.proofs.SerialLaws.{spent_by, none_spent}
use Rattle.ostore_segments.proofs.ViewLaws.{brings_weaker, brings_then, on_each, brings_on, rests_breaks, breaks_at_once}
use Rattle.ostore_segments.proofs.NamingLaws.{first_named, first_or_front}
use Rattle.ostore_segments.proofs.OwnLaws.{owns_then}
use Rattle.ostore_segments.proofs.serials.serials_spent.Goals as goal

pub returns-then-first-eq0-clause-lists : goal.returns-then-first-eq0-clause-lists
returns-then-first-eq0-clause-lists g c =
    Becomes-weaker (λ old new there seen. (seen.0, none_spent old c.args.segment (seen.1 ∙ c.if-first-eq0.true))) c.in_ok-first.ensures.seen

pub header_at-requires : goal.header_at-requires
header_at-requires g c =
    Stands-weaker (λ list known. first_headed list c.args.segment _ known.0 c.requires.segment (λ none. c.if-first-eq0.false (omega arith)) known.1)
    (Stands-seen c.requires.allocated c.in_ok-first.ensures.seen)

pub returns-clause-lists : goal.returns-clause-lists
returns-clause-lists g c =
    Becomes-weaker (λ old new there seen. (seen.0, spent_by old c.args.segment c.in_ok-first.first c.in_ok-header_at.field-0 c.if-first-eq0.false seen.1.0 seen.1.1))
    (Becomes-look c.in_ok-first.ensures.seen c.in_ok-header_at.ensures.seen)

pub returns-in_err-header_at-clause-fails : goal.returns-in_err-header_at-clause-fails
returns-in_err-header_at-clause-fails g c =
    let failed = g.met.P.Pages.fails_later _ _ _ _ c.in_ok-first.ensures.passes c.in_err-header_at.ensures.fails in
    search rules

pub returns-then-first-eq0-clause-brings : goal.returns-then-first-eq0-clause-brings
returns-then-first-eq0-clause-brings g c = on_each (λ list named front. inl front) c.in_ok-first.ensures.brings

pub returns-clause-brings : goal.returns-clause-brings
returns-clause-brings g c =
    brings_on
    (Stands-weaker (λ list known. first_named list c.args.segment c.in_ok-first.first known.0 c.requires.segment c.if-first-eq0.false known.1.0)
    (Stands-seen c.requires.allocated (Becomes-look c.in_ok-first.ensures.seen c.in_ok-header_at.ensures.seen)))
    first_or_front
    (brings_then (brings_weaker {N = IsFrontOr c.in_ok-first.first} (λ named front. inl front) c.in_ok-first.ensures.brings) (brings_weaker (λ named same. inr same) c.in_ok-header_at.ensures.brings))

pub returns-in_err-first-clause-stays : goal.returns-in_err-first-clause-stays
returns-in_err-first-clause-stays g c =
    let failed = rests_breaks {N = λ list. IsNamedIn list c.args.segment} c.in_err-first.ensures.stays in
    search rules

pub returns-in_err-header_at-clause-stays : goal.returns-in_err-header_at-clause-stays
returns-in_err-header_at-clause-stays g c =
    let failed = breaks_at_once {N = λ list. IsNamedIn list c.args.segment} c.requires.allocated c.in_ok-first.ensures.seen c.in_ok-first.ensures.brings (λ old middle named fine seen front. inl front) c.in_err-header_at.ensures.stays in
    search rules

pub returns-clause-owns : goal.returns-clause-owns
returns-clause-owns g c = owns_then c.in_ok-first.ensures.owns c.in_ok-header_at.ensures.owns
