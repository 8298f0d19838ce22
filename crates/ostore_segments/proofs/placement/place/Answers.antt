use Rattle.std.proofs.Common.{ℕ, List, rules, None, Some, inl}
use Rattle.ostore_base.specs.declared.page.PageImage.{PageImage}
use Rattle.ostore_page_tags.specs.Allocated.{IsAllocated}
use Rattle.ostore_segments.specs.Holdings.{PagesHeld, Stands, Becomes, Sees, BringsOnEach}
use Rattle.ostore_segments.specs.Growth.{Grows}
use Rattle.ostore_segments.specs.Naming.{IsNamedIn, IsWantedIn}
use Rattle.ostore_segments.proofs.ListSteps.{Stands-seen, Stands-weaker, Becomes-look, Becomes-weaker, Becomes-changed}
use Rattle.ostore_segments.proofs.RoomLaws.{open_last, open_first, open_grown, placed_last, placed_grown, placed_early, full_segment}
use Rattle.ostore_segments.proofs.ViewLaws.{each_weaker, each_then, each_seen, breaks_weaker, breaks_seen}
use Rattle.ostore_segments.proofs.NamingLaws.{kept_grown_named}
use Rattle.ostore_segments.proofs.OwnLaws.{owns_then, each_owns_none, each_owns_later, each_owns_looked}
use Rattle.ostore_segments.proofs.placement.place.Goals as goal

pub returns-in-Some-clause-lists : goal.returns-in-Some-clause-lists
returns-in-Some-clause-lists g c =
    Becomes-weaker (λ old new there seen. placed_last old new c.args.segment _ c.in-Some.page.0 seen)
    (open_last c.args.segment _ c.in_ok-page.field-0 (Some c.in-Some.page) c.in-Some.is c.in_ok-page.ensures.lists)

pub grow-requires-clause-allocated : goal.grow-requires-clause-allocated
grow-requires-clause-allocated g c = Stands-weaker (λ list known. known.0) (Stands-seen c.requires.allocated c.in_ok-page.ensures.lists)

pub returns-in-Some-2-clause-lists : goal.returns-in-Some-2-clause-lists
returns-in-Some-2-clause-lists g c =
    Becomes-changed c.requires.allocated (open_last c.args.segment _ c.in_ok-page.field-0 None c.in-None.is c.in_ok-page.ensures.lists)
    (λ old new known full grows. placed_grown old new c.args.segment _ c.in-Some-2.page.0 full grows)
    (open_grown c.args.segment c.in_ok-page-2.field-0 (Some c.in-Some-2.page) c.in-Some-2.is c.in_ok-page-2.ensures.lists)

pub first_with_room-requires-clause-allocated : goal.first_with_room-requires-clause-allocated
first_with_room-requires-clause-allocated g c =
    Stands-weaker (λ list known. known.0.0)
    (Stands-seen (Stands-seen c.requires.allocated c.in_ok-page.ensures.lists) (open_grown c.args.segment c.in_ok-page-2.field-0 None c.in-None-2.is c.in_ok-page-2.ensures.lists))

pub returns-in-Some-3-clause-lists : goal.returns-in-Some-3-clause-lists
returns-in-Some-3-clause-lists g c =
    Becomes-weaker (λ old new there seen. placed_early old new c.args.segment _ c.in-Some-3.page.0 seen)
    (Becomes-look (Becomes-look (open_last c.args.segment _ c.in_ok-page.field-0 None c.in-None.is c.in_ok-page.ensures.lists) (open_grown c.args.segment c.in_ok-page-2.field-0 None c.in-None-2.is c.in_ok-page-2.ensures.lists))
    (open_first c.args.segment _ c.in_ok-page-3.field-0 (Some c.in-Some-3.page) c.in-Some-3.is c.in_ok-page-3.ensures.lists))

pub returns-in-None-3-clause-lists : goal.returns-in-None-3-clause-lists
returns-in-None-3-clause-lists g c =
    Becomes-weaker (λ old new there seen. full_segment old new c.args.segment _ seen)
    (Becomes-look (Becomes-look (open_last c.args.segment _ c.in_ok-page.field-0 None c.in-None.is c.in_ok-page.ensures.lists) (open_grown c.args.segment c.in_ok-page-2.field-0 None c.in-None-2.is c.in_ok-page-2.ensures.lists))
    (open_first c.args.segment _ c.in_ok-page-3.field-0 None c.in-None-3.is c.in_ok-page-3.ensures.lists))

pub returns-in_err-page-2-clause-fails : goal.returns-in_err-page-2-clause-fails
returns-in_err-page-2-clause-fails g c =
    let failed = g.met.P.Pages.fails_later _ _ _ _ c.in_ok-page.ensures.passes c.in_err-page-2.ensures.fails in
    search rules

pub returns-in_err-page-3-clause-fails : goal.returns-in_err-page-3-clause-fails
returns-in_err-page-3-clause-fails g c =
    let failed = g.met.P.Pages.fails_later _ _ _ _ (g.met.P.Pages.passes_on _ _ _ c.in_ok-page.ensures.passes c.in_ok-page-2.ensures.passes) c.in_err-page-3.ensures.fails in
    search rules

pub returns-in-Some-3-clause-passes : goal.returns-in-Some-3-clause-passes
returns-in-Some-3-clause-passes g c = g.met.P.Pages.passes_on _ _ _ (g.met.P.Pages.passes_on _ _ _ c.in_ok-page.ensures.passes c.in_ok-page-2.ensures.passes) c.in_ok-page-3.ensures.passes

pub returns-in-None-3-clause-passes : goal.returns-in-None-3-clause-passes
returns-in-None-3-clause-passes g c = g.met.P.Pages.passes_on _ _ _ (g.met.P.Pages.passes_on _ _ _ c.in_ok-page.ensures.passes c.in_ok-page-2.ensures.passes) c.in_ok-page-3.ensures.passes

-- the pages of calls that changed no list, and then of one that may have made the segment grow
grows : {a b c : PagesHeld} (segment page : ℕ) {Q : List PageImage → Type 0} → Stands a IsAllocated → Becomes a b (Sees Q) → Becomes b c (λ old new. Grows old new segment page) → BringsOnEach a b (λ list. IsNamedIn list segment) → BringsOnEach b c (λ list. IsNamedIn list segment)
    → BringsOnEach a c (λ list. IsNamedIn list segment)
grows segment page stands seen step one two = each_then (Stands-seen stands seen) step (λ old new named known grown is. kept_grown_named old new segment page named grown is) one two

-- what a segment that couldn't grow was looked at
as_wanted : {a b : PagesHeld} (segment : ℕ) → BringsOnEach a b (λ list. IsNamedIn list segment) → BringsOnEach a b (λ list. IsWantedIn list segment)
as_wanted segment one = each_weaker (λ list named is. inl is) one

pub returns-in-Some-clause-brings : goal.returns-in-Some-clause-brings
returns-in-Some-clause-brings g c = c.in_ok-page.ensures.brings

pub returns-in-Some-2-clause-brings : goal.returns-in-Some-2-clause-brings
returns-in-Some-2-clause-brings g c =
    grows c.args.segment c.in-Some-2.page.0 c.requires.allocated c.in_ok-page.ensures.lists (open_grown c.args.segment c.in_ok-page-2.field-0 (Some c.in-Some-2.page) c.in-Some-2.is c.in_ok-page-2.ensures.lists) c.in_ok-page.ensures.brings c.in_ok-page-2.ensures.brings

pub returns-in-Some-3-clause-brings : goal.returns-in-Some-3-clause-brings
returns-in-Some-3-clause-brings g c =
    each_seen c.in_ok-page-3.ensures.lists (each_seen (open_grown c.args.segment c.in_ok-page-2.field-0 None c.in-None-2.is c.in_ok-page-2.ensures.lists) c.in_ok-page.ensures.brings c.in_ok-page-2.ensures.brings) c.in_ok-page-3.ensures.brings

pub returns-in-None-3-clause-brings : goal.returns-in-None-3-clause-brings
returns-in-None-3-clause-brings g c =
    each_seen c.in_ok-page-3.ensures.lists (each_seen (open_grown c.args.segment c.in_ok-page-2.field-0 None c.in-None-2.is c.in_ok-page-2.ensures.lists) c.in_ok-page.ensures.brings c.in_ok-page-2.ensures.brings) c.in_ok-page-3.ensures.brings

pub returns-in_err-page-clause-stays : goal.returns-in_err-page-clause-stays
returns-in_err-page-clause-stays g c =
    let failed = breaks_weaker {N = λ list. IsWantedIn list c.args.segment} c.requires.allocated (λ list named fine is. inl is) c.in_err-page.ensures.stays in
    search rules

pub returns-in_err-page-2-clause-stays : goal.returns-in_err-page-2-clause-stays
returns-in_err-page-2-clause-stays g c =
    let failed = breaks_seen {N = λ list. IsWantedIn list c.args.segment} c.in_ok-page.ensures.lists (as_wanted c.args.segment c.in_ok-page.ensures.brings) c.in_err-page-2.ensures.stays in
    search rules

pub returns-in_err-page-3-clause-stays : goal.returns-in_err-page-3-clause-stays
returns-in_err-page-3-clause-stays g c =
    let none = open_grown c.args.segment c.in_ok-page-2.field-0 None c.in-None-2.is c.in_ok-page-2.ensures.lists in
    let failed = breaks_seen {N = λ list. IsWantedIn list c.args.segment} (Becomes-look c.in_ok-page.ensures.lists none) (as_wanted c.args.segment (each_seen none c.in_ok-page.ensures.brings c.in_ok-page-2.ensures.brings))
    (breaks_weaker (Stands-seen (Stands-seen c.requires.allocated c.in_ok-page.ensures.lists) none) (λ list named fine is. inl is) c.in_err-page-3.ensures.stays) in
    search rules

pub returns-in-Some-clause-owns : goal.returns-in-Some-clause-owns
returns-in-Some-clause-owns g c = each_owns_none c.in_ok-page.ensures.owns

pub returns-in-Some-2-clause-owns : goal.returns-in-Some-2-clause-owns
returns-in-Some-2-clause-owns g c = each_owns_later c.in_ok-page.ensures.owns c.in_ok-page-2.ensures.owns

pub returns-in-Some-3-clause-owns : goal.returns-in-Some-3-clause-owns
returns-in-Some-3-clause-owns g c =
    each_owns_looked c.in_ok-page-3.ensures.lists (each_owns_later c.in_ok-page.ensures.owns c.in_ok-page-2.ensures.owns) c.in_ok-page-3.ensures.owns

pub returns-in-None-3-clause-owns : goal.returns-in-None-3-clause-owns
returns-in-None-3-clause-owns g c =
    each_owns_looked c.in_ok-page-3.ensures.lists (each_owns_later c.in_ok-page.ensures.owns c.in_ok-page-2.ensures.owns) c.in_ok-page-3.ensures.owns
