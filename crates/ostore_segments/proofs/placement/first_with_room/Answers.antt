use Rattle.std.proofs.Common.{◌≡◌, ◌≢◌, ℕ, List, rules, ◌∙◌, sym, subst, arith, inl, inr}
use Rattle.ostore_base.specs.declared.page.PageImage.{PageImage}
use Rattle.ostore_page_tags.specs.Allocated.{IsAllocated}
use Rattle.ostore_segments.specs.Holdings.{PagesHeld, Stands, Becomes, Sees, BringsOnly, BringsOnEach}
use Rattle.ostore_segments.specs.Naming.{IsPageOf, IsNamedIn}
use Rattle.ostore_segments.specs.inside.Walks.{HasWalked}
use Rattle.ostore_segments.proofs.ListSteps.{Stands-seen, Stands-weaker, Becomes-look, Becomes-shows}
use Rattle.ostore_segments.proofs.RoomLaws.{has_room, lacks_room, walk_starts, walk_headed, walk_finds, walk_goes_on, walk_ends, walk_long}
use Rattle.ostore_segments.proofs.ViewLaws.{on_each, brings_on, each_seen, rests_breaks, breaks_seen}
use Rattle.ostore_segments.proofs.NamingLaws.{walked_named}
use Rattle.ostore_segments.proofs.OwnLaws.{owns_then}
use Rattle.ostore_segments.proofs.placement.first_with_room.Goals as goal

-- the page at which the walk stands, on each list
walked : {a b c : PagesHeld} (segment need count at : ℕ) {Q : List PageImage → Type 0} → at ≢ 0 → Stands a IsAllocated → Becomes a b (Sees (λ list. HasWalked list segment need count at)) → Becomes b c (Sees Q) → BringsOnEach a b (λ list. IsNamedIn list segment) → BringsOnly b c (λ named. named ≡ at)
    → BringsOnEach a c (λ list. IsNamedIn list segment)
walked segment need count at some stands seen looks before brings =
    each_seen looks before
    (brings_on (Stands-weaker {Q = λ list. IsPageOf list segment at} (λ list known. walked_named list segment need count at some known.0) (Stands-seen (Stands-weaker (λ list known. known.1) (Stands-seen stands seen)) looks))
    (λ list named it same. inr (subst (IsPageOf list segment) (sym same) it)) brings)

pub loop-walked-init : goal.loop-walked-init
loop-walked-init g c = record {
  seen = Becomes-shows c.requires.allocated (λ list fine seen. walk_starts list c.args.segment c.args.need c.in_ok-page.page fine c.requires.segment seen) c.in_ok-page.ensures.seen;
  brings = on_each (λ list named front. inl front) c.in_ok-page.ensures.brings;
  owns = c.in_ok-page.ensures.owns;
  passes = c.in_ok-page.ensures.passes;
  told = c.in_ok-page.ensures.told;
}

pub returns-then-page-eq0-clause-lists : goal.returns-then-page-eq0-clause-lists
returns-then-page-eq0-clause-lists g c =
    Becomes-shows c.requires.allocated
    (λ list fine seen. walk_ends list c.args.segment c.args.need _ (subst (HasWalked list c.args.segment c.args.need c.loop-walked._walked) c.if-page-eq0.true seen))
    c.loop-walked.invariant.seen

pub header_at-requires : goal.header_at-requires
header_at-requires g c =
    Stands-weaker (λ list known. walk_headed list c.args.segment c.args.need _ _ c.if-page-eq0.false known.0 known.1)
    (Stands-seen c.requires.allocated c.loop-walked.invariant.seen)

pub returns-then-has_room-clause-lists : goal.returns-then-has_room-clause-lists
returns-then-has_room-clause-lists g c =
    Becomes-shows c.requires.allocated
    (λ list fine seen. walk_finds list c.args.segment c.args.need _ _ c.if-page-eq0.false seen.0 (has_room list c.args.need _ c.in_ok-header.header _ seen.1 c.has_room.ensures c.if-has_room.true))
    (Becomes-look c.loop-walked.invariant.seen c.in_ok-header.ensures.seen)

pub loop-walked-preserved : goal.loop-walked-preserved
loop-walked-preserved g c = record {
  seen = Becomes-shows c.requires.allocated
      (λ list fine seen. walk_goes_on list c.args.segment c.args.need _ _ c.if-page-eq0.false c.in_ok-header.header seen.0 seen.1 (lacks_room list c.args.need _ c.in_ok-header.header _ seen.1 c.has_room.ensures c.if-has_room.false))
      (Becomes-look c.loop-walked.invariant.seen c.in_ok-header.ensures.seen);
  brings = walked c.args.segment c.args.need _ _ c.if-page-eq0.false c.requires.allocated c.loop-walked.invariant.seen c.in_ok-header.ensures.seen c.loop-walked.invariant.brings c.in_ok-header.ensures.brings;
  owns = owns_then c.loop-walked.invariant.owns c.in_ok-header.ensures.owns;
  passes = g.met.P.Pages.passes_on _ _ _ c.loop-walked.invariant.passes c.in_ok-header.ensures.passes;
  told = c.in_ok-header.ensures.told ∙ c.loop-walked.invariant.told;
}

pub returns-clause-lists : goal.returns-clause-lists
returns-clause-lists g c =
    Becomes-shows c.requires.allocated (λ list fine seen. walk_long list c.args.segment c.args.need _ _ fine (omega arith) seen) c.loop-walked.invariant.seen

pub returns-in_err-header-clause-fails : goal.returns-in_err-header-clause-fails
returns-in_err-header-clause-fails g c =
    let failed = g.met.P.Pages.fails_later _ _ _ _ c.loop-walked.invariant.passes c.in_err-header.ensures.fails in
    search rules

pub returns-then-page-eq0-clause-brings : goal.returns-then-page-eq0-clause-brings
returns-then-page-eq0-clause-brings g c = c.loop-walked.invariant.brings

pub returns-then-has_room-clause-brings : goal.returns-then-has_room-clause-brings
returns-then-has_room-clause-brings g c = walked c.args.segment c.args.need _ _ c.if-page-eq0.false c.requires.allocated c.loop-walked.invariant.seen c.in_ok-header.ensures.seen c.loop-walked.invariant.brings c.in_ok-header.ensures.brings

pub returns-clause-brings : goal.returns-clause-brings
returns-clause-brings g c = c.loop-walked.invariant.brings

pub returns-in_err-page-clause-stays : goal.returns-in_err-page-clause-stays
returns-in_err-page-clause-stays g c =
    let failed = rests_breaks {N = λ list. IsNamedIn list c.args.segment} c.in_err-page.ensures.stays in
    search rules

pub returns-in_err-header-clause-stays : goal.returns-in_err-header-clause-stays
returns-in_err-header-clause-stays g c =
    let failed = breaks_seen {N = λ list. IsNamedIn list c.args.segment} c.loop-walked.invariant.seen c.loop-walked.invariant.brings (rests_breaks c.in_err-header.ensures.stays) in
    search rules

pub returns-then-page-eq0-clause-owns : goal.returns-then-page-eq0-clause-owns
returns-then-page-eq0-clause-owns g c = c.loop-walked.invariant.owns

pub returns-then-has_room-clause-owns : goal.returns-then-has_room-clause-owns
returns-then-has_room-clause-owns g c = owns_then c.loop-walked.invariant.owns c.in_ok-header.ensures.owns

pub returns-clause-owns : goal.returns-clause-owns
returns-clause-owns g c = c.loop-walked.invariant.owns
