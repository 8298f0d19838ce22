use Rattle.std.proofs.Common.{◌≡◌, List, rules, ◌∙◌, ap, inl}
use Rattle.ostore_base.specs.declared.page.PageImage.{PageImage}
use Rattle.ostore_segments.specs.Growth.{Grows}
use Rattle.ostore_segments.specs.Naming.{IsWantedIn}
use Rattle.ostore_page_tags.specs.declared.page_header.PageHeader.{PageHeader}
use Rattle.ostore_segments.proofs.ListSteps.{Stands-seen, Stands-weaker, Becomes-look, Becomes-changed, Becomes-shows, Becomes-stands}
use Rattle.ostore_segments.proofs.AllocatedLaws.{front_headed}
use Rattle.ostore_segments.proofs.GrowLaws.{none_free}
use Rattle.ostore_segments.proofs.ViewLaws.{brings_weaker, brings_then, on_each, brings_on, each_before, rests_breaks, breaks_later, breaks_at_once, breaks_seen}
use Rattle.ostore_segments.proofs.NamingLaws.{grown_named, grown_wanted}
use Rattle.ostore_segments.proofs.OwnLaws.{owns_then, owns_later, owns_on, each_owns_none, each_owns_later}
use Rattle.ostore_segments.proofs.growth.grow.Goals as goal

pub header_at-requires : goal.header_at-requires
header_at-requires g c = Stands-weaker (λ list fine. front_headed list fine) c.requires.allocated

pub returns-then-head-eq0-clause-lists : goal.returns-then-head-eq0-clause-lists
returns-then-head-eq0-clause-lists g c =
    Becomes-shows c.requires.allocated (λ list fine seen. none_free list fine (ap (λ (h : PageHeader). h.next) seen ∙ c.if-head-eq0.true)) c.in_ok-head.ensures.seen

pub first_of-requires-clause-allocated : goal.first_of-requires-clause-allocated
first_of-requires-clause-allocated g c = Stands-weaker (λ list known. known.0) (Stands-seen c.requires.allocated c.in_ok-head.ensures.seen)

pub begin_chain-requires-clause-stands : goal.begin_chain-requires-clause-stands
begin_chain-requires-clause-stands g c =
    Stands-weaker (λ list known. record { begins = record { allocated = known.0.0; at = ap (λ (h : PageHeader). h.next) known.0.1; some = c.if-head-eq0.false }; first_is = known.1 ∙ c.if-first-eq0.true })
    (Stands-seen (Stands-seen c.requires.allocated c.in_ok-head.ensures.seen) c.in_ok-first.ensures.seen)

pub returns-then-first-eq0-clause-lists : goal.returns-then-first-eq0-clause-lists
returns-then-first-eq0-clause-lists g c =
    Becomes-changed c.requires.allocated (Becomes-look c.in_ok-head.ensures.seen c.in_ok-first.ensures.seen) (λ old new known seen grown. grown) c.in_ok-begin_chain.ensures.lists

pub extend_chain-requires-clause-stands : goal.extend_chain-requires-clause-stands
extend_chain-requires-clause-stands g c =
    Stands-weaker (λ list known. record { begins = record { allocated = known.0.0; at = ap (λ (h : PageHeader). h.next) known.0.1; some = c.if-head-eq0.false }; first_is = known.1 })
    (Stands-seen (Stands-seen c.requires.allocated c.in_ok-head.ensures.seen) c.in_ok-first.ensures.seen)

pub returns-clause-lists : goal.returns-clause-lists
returns-clause-lists g c =
    Becomes-changed c.requires.allocated (Becomes-look c.in_ok-head.ensures.seen c.in_ok-first.ensures.seen) (λ old new known seen grown. grown) c.in_ok-extend_chain.ensures.lists

pub returns-in_err-first-clause-fails : goal.returns-in_err-first-clause-fails
returns-in_err-first-clause-fails g c =
    let failed = g.met.P.Pages.fails_later _ _ _ _ c.in_ok-head.ensures.passes c.in_err-first.ensures.fails in
    search rules

pub returns-then-first-eq0-clause-passes : goal.returns-then-first-eq0-clause-passes
returns-then-first-eq0-clause-passes g c = g.met.P.Pages.passes_on _ _ _ (g.met.P.Pages.passes_on _ _ _ c.in_ok-head.ensures.passes c.in_ok-first.ensures.passes) c.in_ok-begin_chain.ensures.passes

pub returns-clause-passes : goal.returns-clause-passes
returns-clause-passes g c = g.met.P.Pages.passes_on _ _ _ (g.met.P.Pages.passes_on _ _ _ c.in_ok-head.ensures.passes c.in_ok-first.ensures.passes) c.in_ok-extend_chain.ensures.passes

pub returns-then-head-eq0-clause-brings : goal.returns-then-head-eq0-clause-brings
returns-then-head-eq0-clause-brings g c = on_each (λ list named front. inl front) c.in_ok-head.ensures.brings

pub returns-then-first-eq0-clause-brings : goal.returns-then-first-eq0-clause-brings
returns-then-first-eq0-clause-brings g c =
    brings_on
    (Becomes-stands {Q = λ list. (old : List PageImage) × Grows old list c.args.segment c.in_ok-head.field-0.next} (Stands-seen (Stands-seen c.requires.allocated c.in_ok-head.ensures.seen) c.in_ok-first.ensures.seen) (λ old new known grown. (old, grown)) c.in_ok-begin_chain.ensures.lists)
    (λ list named it is. grown_named it.0 list c.args.segment _ named it.1 is)
    (brings_then (brings_weaker (λ named front. inl front) (brings_then c.in_ok-head.ensures.brings c.in_ok-first.ensures.brings)) c.in_ok-begin_chain.ensures.brings)

pub returns-clause-brings : goal.returns-clause-brings
returns-clause-brings g c = each_before (λ list named front. inl front) (brings_then c.in_ok-head.ensures.brings c.in_ok-first.ensures.brings) c.in_ok-extend_chain.ensures.brings

pub returns-in_err-head-clause-stays : goal.returns-in_err-head-clause-stays
returns-in_err-head-clause-stays g c =
    let failed = rests_breaks {N = λ list. IsWantedIn list c.args.segment} c.in_err-head.ensures.stays in
    search rules

pub returns-in_err-first-clause-stays : goal.returns-in_err-first-clause-stays
returns-in_err-first-clause-stays g c =
    let failed = breaks_at_once {N = λ list. IsWantedIn list c.args.segment} c.requires.allocated c.in_ok-head.ensures.seen c.in_ok-head.ensures.brings (λ old middle named fine seen front. inl (inl front)) c.in_err-first.ensures.stays in
    search rules

pub returns-in_err-begin_chain-clause-stays : goal.returns-in_err-begin_chain-clause-stays
returns-in_err-begin_chain-clause-stays g c =
    let failed = breaks_later {L = λ list named. named ≡ 0} {N = λ list. IsWantedIn list c.args.segment} c.requires.allocated (Becomes-look c.in_ok-head.ensures.seen c.in_ok-first.ensures.seen)
    (on_each (λ list named front. front) (brings_then c.in_ok-head.ensures.brings c.in_ok-first.ensures.brings)) (λ old middle named fine seen front. inl (inl front))
    (λ old middle named fine seen is. grown_wanted old c.args.segment _ named (record { allocated = fine; at = ap (λ (h : PageHeader). h.next) seen.1.0; some = c.if-head-eq0.false }) is)
    c.in_err-begin_chain.ensures.stays in
    search rules

pub returns-in_err-extend_chain-clause-stays : goal.returns-in_err-extend_chain-clause-stays
returns-in_err-extend_chain-clause-stays g c =
    let failed = breaks_seen {N = λ list. IsWantedIn list c.args.segment} (Becomes-look c.in_ok-head.ensures.seen c.in_ok-first.ensures.seen)
    (on_each (λ list named front. inl (inl front)) (brings_then c.in_ok-head.ensures.brings c.in_ok-first.ensures.brings))
    c.in_err-extend_chain.ensures.stays in
    search rules

pub returns-then-head-eq0-clause-owns : goal.returns-then-head-eq0-clause-owns
returns-then-head-eq0-clause-owns g c = each_owns_none c.in_ok-head.ensures.owns

pub returns-then-first-eq0-clause-owns : goal.returns-then-first-eq0-clause-owns
returns-then-first-eq0-clause-owns g c =
    owns_on
    (Becomes-stands {Q = λ list. (old : List PageImage) × Grows old list c.args.segment c.in_ok-head.field-0.next} (Stands-seen (Stands-seen c.requires.allocated c.in_ok-head.ensures.seen) c.in_ok-first.ensures.seen) (λ old new known grown. (old, grown)) c.in_ok-begin_chain.ensures.lists)
    (λ list named it is. grown_named it.0 list c.args.segment _ named it.1 is)
    (owns_later (owns_then c.in_ok-head.ensures.owns c.in_ok-first.ensures.owns) c.in_ok-begin_chain.ensures.owns)

pub returns-clause-owns : goal.returns-clause-owns
returns-clause-owns g c = each_owns_later (owns_then c.in_ok-head.ensures.owns c.in_ok-first.ensures.owns) c.in_ok-extend_chain.ensures.owns
