use Rattle.std.proofs.Common.{◌≡◌, ◌≢◌, ℕ, List, rules, ◌∙◌, sym, inl, inr}
use Rattle.ostore_base.specs.declared.page.PageImage.{PageImage}
use Rattle.ostore_page_tags.specs.declared.page_header.PageHeader.{PageHeader}
use Rattle.ostore_page_tags.specs.PageLists.{header_at, first_of}
use Rattle.ostore_page_tags.specs.PageChains.{IsSegment}
use Rattle.ostore_page_tags.specs.Allocated.{IsAllocated}
use Rattle.ostore_segments.specs.Holdings.{PagesHeld, Stands, Becomes, Sees, BringsOnly, BringsOnEach}
use Rattle.ostore_segments.specs.Naming.{IsPageOf, IsNamedIn}
use Rattle.ostore_segments.specs.inside.Fields.{IsFrontOr}
use Rattle.ostore_segments.proofs.ListSteps.{Stands-seen, Stands-weaker, Becomes-look, Becomes-shows}
use Rattle.ostore_segments.proofs.AllocatedLaws.{first_headed}
use Rattle.ostore_segments.proofs.RoomLaws.{has_room, lacks_room, ends_none, last_headed, ends_with, ends_full}
use Rattle.ostore_segments.proofs.ViewLaws.{brings_weaker, brings_then, on_each, brings_on, rests_breaks, breaks_at_once}
use Rattle.ostore_segments.proofs.NamingLaws.{first_named, last_named, first_or_front, IsNear, near_named}
use Rattle.ostore_segments.proofs.OwnLaws.{owns_then}
use Rattle.ostore_segments.proofs.placement.last_with_room.Goals as goal

pub returns-then-first-eq0-clause-lists : goal.returns-then-first-eq0-clause-lists
returns-then-first-eq0-clause-lists g c =
    Becomes-shows c.requires.allocated (λ list fine seen. ends_none list c.args.segment c.args.need fine c.requires.segment (seen ∙ c.if-first-eq0.true)) c.in_ok-first.ensures.seen

pub header_at-requires : goal.header_at-requires
header_at-requires g c =
    Stands-weaker (λ list known. first_headed list c.args.segment _ known.0 c.requires.segment (λ none. c.if-first-eq0.false (sym known.1 ∙ none)) known.1)
    (Stands-seen c.requires.allocated c.in_ok-first.ensures.seen)

pub header_at-requires-2 : goal.header_at-requires-2
header_at-requires-2 g c =
    Stands-weaker (λ list known. last_headed list c.args.segment c.in_ok-first.first c.in_ok-header_at.field-0
    (record { fine = known.0.0; within = c.requires.segment; some = c.if-first-eq0.false; at = known.0.1; seen = known.1 }))
    (Stands-seen (Stands-seen c.requires.allocated c.in_ok-first.ensures.seen) c.in_ok-header_at.ensures.seen)

pub returns-then-has_room-clause-lists : goal.returns-then-has_room-clause-lists
returns-then-has_room-clause-lists g c =
    Becomes-shows c.requires.allocated
    (λ list fine seen. ends_with list c.args.segment c.args.need c.in_ok-first.first c.in_ok-header_at.field-0
    (record { fine = fine; within = c.requires.segment; some = c.if-first-eq0.false; at = seen.0.0; seen = seen.0.1 })
    (has_room list c.args.need _ c.in_ok-header.header _ seen.1 c.has_room.ensures c.if-has_room.true))
    (Becomes-look (Becomes-look c.in_ok-first.ensures.seen c.in_ok-header_at.ensures.seen) c.in_ok-header.ensures.seen)

pub returns-clause-lists : goal.returns-clause-lists
returns-clause-lists g c =
    Becomes-shows c.requires.allocated
    (λ list fine seen. ends_full list c.args.segment c.args.need c.in_ok-first.first c.in_ok-header_at.field-0
    (record { fine = fine; within = c.requires.segment; some = c.if-first-eq0.false; at = seen.0.0; seen = seen.0.1 })
    (lacks_room list c.args.need _ c.in_ok-header.header _ seen.1 c.has_room.ensures c.if-has_room.false))
    (Becomes-look (Becomes-look c.in_ok-first.ensures.seen c.in_ok-header_at.ensures.seen) c.in_ok-header.ensures.seen)

pub returns-in_err-header_at-clause-fails : goal.returns-in_err-header_at-clause-fails
returns-in_err-header_at-clause-fails g c =
    let failed = g.met.P.Pages.fails_later _ _ _ _ c.in_ok-first.ensures.passes c.in_err-header_at.ensures.fails in
    search rules

-- the pages that are looked at, on each list
looked : {a b : PagesHeld} (segment first : ℕ) (header : PageHeader) {Q : List PageImage → Type 0} → IsSegment segment → first ≢ 0 → Stands a IsAllocated → Becomes a b (Sees (λ list. ((first_of list segment ≡ first) × (header_at list first ≡ header)) × Q list))
    → BringsOnly a b (IsNear first header.last_page) → BringsOnEach a b (λ list. IsNamedIn list segment)
looked segment first header within some stands seen brings =
    brings_on
    (Stands-weaker {Q = λ list. IsPageOf list segment first × IsPageOf list segment header.last_page}
    (λ list known. (first_named list segment first known.0 within some known.1.0.0, last_named list segment first header (record { fine = known.0; within = within; some = some; at = known.1.0.0; seen = known.1.0.1 })))
    (Stands-seen stands seen))
    (λ list named it is. near_named list segment first header.last_page named it.0 it.1 is)
    brings

pub returns-then-first-eq0-clause-brings : goal.returns-then-first-eq0-clause-brings
returns-then-first-eq0-clause-brings g c = on_each (λ list named front. inl front) c.in_ok-first.ensures.brings

pub returns-then-has_room-clause-brings : goal.returns-then-has_room-clause-brings
returns-then-has_room-clause-brings g c =
    looked c.args.segment c.in_ok-first.first c.in_ok-header_at.field-0 c.requires.segment c.if-first-eq0.false c.requires.allocated
    (Becomes-look (Becomes-look c.in_ok-first.ensures.seen c.in_ok-header_at.ensures.seen) c.in_ok-header.ensures.seen)
    (brings_then (brings_then (brings_weaker (λ named front. inl (inl front)) c.in_ok-first.ensures.brings) (brings_weaker (λ named same. inl (inr same)) c.in_ok-header_at.ensures.brings)) (brings_weaker (λ named same. inr same) c.in_ok-header.ensures.brings))

pub returns-clause-brings : goal.returns-clause-brings
returns-clause-brings g c =
    looked c.args.segment c.in_ok-first.first c.in_ok-header_at.field-0 c.requires.segment c.if-first-eq0.false c.requires.allocated
    (Becomes-look (Becomes-look c.in_ok-first.ensures.seen c.in_ok-header_at.ensures.seen) c.in_ok-header.ensures.seen)
    (brings_then (brings_then (brings_weaker (λ named front. inl (inl front)) c.in_ok-first.ensures.brings) (brings_weaker (λ named same. inl (inr same)) c.in_ok-header_at.ensures.brings)) (brings_weaker (λ named same. inr same) c.in_ok-header.ensures.brings))

pub returns-in_err-first-clause-stays : goal.returns-in_err-first-clause-stays
returns-in_err-first-clause-stays g c =
    let failed = rests_breaks {N = λ list. IsNamedIn list c.args.segment} c.in_err-first.ensures.stays in
    search rules

pub returns-in_err-header_at-clause-stays : goal.returns-in_err-header_at-clause-stays
returns-in_err-header_at-clause-stays g c =
    let failed = breaks_at_once {N = λ list. IsNamedIn list c.args.segment} c.requires.allocated c.in_ok-first.ensures.seen c.in_ok-first.ensures.brings (λ old middle named fine seen front. inl front) c.in_err-header_at.ensures.stays in
    search rules

pub returns-in_err-header-clause-stays : goal.returns-in_err-header-clause-stays
returns-in_err-header-clause-stays g c =
    let failed = breaks_at_once {N = λ list. IsNamedIn list c.args.segment} c.requires.allocated (Becomes-look c.in_ok-first.ensures.seen c.in_ok-header_at.ensures.seen)
    (brings_then (brings_weaker {N = IsFrontOr c.in_ok-first.first} (λ named front. inl front) c.in_ok-first.ensures.brings) (brings_weaker (λ named same. inr same) c.in_ok-header_at.ensures.brings))
    (λ old middle named fine seen is. first_or_front old named (first_named old c.args.segment c.in_ok-first.first fine c.requires.segment c.if-first-eq0.false seen.1.0) is)
    c.in_err-header.ensures.stays in
    search rules

pub returns-then-has_room-clause-owns : goal.returns-then-has_room-clause-owns
returns-then-has_room-clause-owns g c = owns_then (owns_then c.in_ok-first.ensures.owns c.in_ok-header_at.ensures.owns) c.in_ok-header.ensures.owns

pub returns-clause-owns : goal.returns-clause-owns
returns-clause-owns g c = owns_then (owns_then c.in_ok-first.ensures.owns c.in_ok-header_at.ensures.owns) c.in_ok-header.ensures.owns
