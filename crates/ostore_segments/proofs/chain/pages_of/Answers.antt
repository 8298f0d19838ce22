use Rattle.std.proofs.Common.{◌≡◌, ◌≢◌, ℕ, ◌∙◌, List, sym, subst, ap, map, arith, inl, inr}
use Rattle.std.proofs.lemmas.List.{map-append}
use Rattle.ostore_base.specs.declared.numbers.PageNo.{PageNo}
use Rattle.ostore_base.specs.declared.page.PageImage.{PageImage}
use Rattle.ostore_page_tags.specs.Allocated.{IsAllocated}
use Rattle.ostore_segments.specs.Holdings.{PagesHeld, Stands, Becomes, Sees, BringsOnly, BringsOnEach}
use Rattle.ostore_segments.specs.Naming.{IsPageOf, IsNamedIn}
use Rattle.ostore_segments.specs.inside.Walks.{HasListed}
use Rattle.ostore_segments.proofs.ListSteps.{Stands-seen, Stands-weaker, Becomes-look, Becomes-shows, Becomes-known}
use Rattle.ostore_segments.proofs.RoomLaws.{list_starts, list_headed, list_goes_on, list_ends, list_long}
use Rattle.ostore_segments.proofs.ViewLaws.{on_each, brings_on, each_seen, rests_breaks, breaks_seen}
use Rattle.ostore_segments.proofs.NamingLaws.{listed_named}
use Rattle.ostore_segments.proofs.OwnLaws.{owns_then}
use Rattle.ostore_segments.proofs.chain.pages_of.Goals as goal

-- the page at which the walk stands, on each list
listed : {a b c : PagesHeld} (segment count at : ℕ) (pages : List ℕ) {Q : List PageImage → Type 0} → at ≢ 0 → Stands a IsAllocated → Becomes a b (Sees (λ list. HasListed list segment count at pages)) → Becomes b c (Sees Q) → BringsOnEach a b (λ list. IsNamedIn list segment) → BringsOnly b c (λ named. named ≡ at)
    → BringsOnEach a c (λ list. IsNamedIn list segment)
listed segment count at pages some stands seen looks before brings =
    each_seen looks before
    (brings_on (Stands-weaker {Q = λ list. IsPageOf list segment at} (λ list known. listed_named list segment count at pages some known.0) (Stands-seen (Stands-weaker (λ list known. known.1) (Stands-seen stands seen)) looks))
    (λ list named it same. inr (subst (IsPageOf list segment) (sym same) it)) brings)

pub loop-walked-init : goal.loop-walked-init
loop-walked-init g c = record {
  seen = Becomes-shows c.requires.allocated (λ list fine seen. list_starts list c.args.segment c.in-Ok.first _ fine c.requires.segment (ap (λ (pages : List PageNo). map (λ page. page.0) pages) c.new-found.ensures) seen) c.in-Ok.ensures.seen;
  brings = on_each (λ list named front. inl front) c.in-Ok.ensures.brings;
  owns = c.in-Ok.ensures.owns;
  passes = c.in-Ok.ensures.passes;
  told = c.in-Ok.ensures.told;
}

pub returns-then-page-eq0-clause-lists : goal.returns-then-page-eq0-clause-lists
returns-then-page-eq0-clause-lists g c =
    Becomes-shows c.requires.allocated (λ list fine seen. list_ends list c.args.segment _ _ _ c.if-page-eq0.true seen) c.loop-walked.invariant.seen

pub header_at-requires : goal.header_at-requires
header_at-requires g c =
    Stands-weaker (λ list known. list_headed list c.args.segment _ _ _ c.if-page-eq0.false known.0 known.1)
    (Stands-seen c.requires.allocated c.loop-walked.invariant.seen)

pub loop-walked-preserved : goal.loop-walked-preserved
loop-walked-preserved g c = record {
  seen = Becomes-shows c.requires.allocated
      (λ list fine seen. list_goes_on list c.args.segment _ _ _ _ c.in-Ok-header_at.header c.if-page-eq0.false seen.0 seen.1
      (ap (λ (pages : List PageNo). map (λ page. page.0) pages) c.in-Ok-push.ensures.ok ∙ map-append (λ (page : PageNo). page.0) c.loop-walked.found _))
      (Becomes-look c.loop-walked.invariant.seen c.in-Ok-header_at.ensures.seen);
  brings = listed c.args.segment _ _ _ c.if-page-eq0.false c.requires.allocated c.loop-walked.invariant.seen c.in-Ok-header_at.ensures.seen c.loop-walked.invariant.brings c.in-Ok-header_at.ensures.brings;
  owns = owns_then c.loop-walked.invariant.owns c.in-Ok-header_at.ensures.owns;
  passes = g.met.P.Pages.passes_on _ _ _ c.loop-walked.invariant.passes c.in-Ok-header_at.ensures.passes;
  told = c.in-Ok-header_at.ensures.told ∙ c.loop-walked.invariant.told;
}

pub returns-clause-lists : goal.returns-clause-lists
returns-clause-lists g c =
    Becomes-shows c.requires.allocated (λ list fine seen. list_long list c.args.segment _ _ _ fine (omega arith) seen) c.loop-walked.invariant.seen

pub returns-in-Err-push-clause-memory : goal.returns-in-Err-push-clause-memory
returns-in-Err-push-clause-memory g c =
    Becomes-known c.requires.allocated (λ old new fine seen. seen.0) (Becomes-look c.loop-walked.invariant.seen c.in-Ok-header_at.ensures.seen)

pub returns-then-page-eq0-clause-brings : goal.returns-then-page-eq0-clause-brings
returns-then-page-eq0-clause-brings g c = c.loop-walked.invariant.brings

pub returns-clause-brings : goal.returns-clause-brings
returns-clause-brings g c = c.loop-walked.invariant.brings

pub returns-in-Err-clause-stays : goal.returns-in-Err-clause-stays
returns-in-Err-clause-stays g c = rests_breaks {N = λ list. IsNamedIn list c.args.segment} c.in-Err.ensures.stays

pub returns-in-Err-header_at-clause-stays : goal.returns-in-Err-header_at-clause-stays
returns-in-Err-header_at-clause-stays g c = breaks_seen {N = λ list. IsNamedIn list c.args.segment} c.loop-walked.invariant.seen c.loop-walked.invariant.brings (rests_breaks c.in-Err-header_at.ensures.stays)

pub returns-then-page-eq0-clause-owns : goal.returns-then-page-eq0-clause-owns
returns-then-page-eq0-clause-owns g c = c.loop-walked.invariant.owns

pub returns-clause-owns : goal.returns-clause-owns
returns-clause-owns g c = c.loop-walked.invariant.owns
