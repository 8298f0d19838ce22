use Rattle.std.proofs.Common.{◌≡◌, ℕ, List, rules, inl, inr}
use Rattle.std.proofs.lemmas.Result.{on_ok_weaker, IfErr-weaker}
use Rattle.ostore_base.specs.declared.page.PageImage.{PageImage}
use Rattle.ostore_segments.specs.Holdings.{PagesHeld, Stands, BringsOnly, BringsOnEach}
use Rattle.ostore_segments.specs.Growth.{Grows}
use Rattle.ostore_segments.specs.Naming.{IsWantedIn}
use Rattle.ostore_segments.proofs.ListSteps.{Stands-seen, Stands-weaker, Stands-after, Becomes-after, Becomes-edit, Becomes-stands, Becomes-seen, Becomes-then}
use Rattle.ostore_segments.proofs.GrowLaws.{can_extend, beside_headed, extend_edit, extend_edit_last, extend_grows}
use Rattle.ostore_segments.proofs.ViewLaws.{brings_weaker, brings_then, brings_on, rests_breaks, breaks_weaker, breaks_at_once, breaks_seen, both_ok}
use Rattle.ostore_segments.proofs.NamingLaws.{AreEnds, ends_seen, ends_named, ends_wanted, grown_wanted}
use Rattle.ostore_segments.proofs.OwnLaws.{owns_weaker, owns_then, owns_later, owns_on}
use Rattle.ostore_segments.proofs.growth.extend_chain.Goals as goal

pub header_at-requires : goal.header_at-requires
header_at-requires g c = Stands-weaker (λ list known. beside_headed list c.args.segment c.args.page.0 c.args.first.0 c.requires.segment c.requires.some known) c.requires.stands

pub take_free-requires-clause-stands : goal.take_free-requires-clause-stands
take_free-requires-clause-stands g c = Stands-weaker (λ list known. known.0.begins) (Stands-seen c.requires.stands c.in_ok-header_at.ensures.seen)

pub put_number-requires-clause-puts : goal.put_number-requires-clause-puts
put_number-requires-clause-puts g c =
    Becomes-stands (Stands-seen c.requires.stands c.in_ok-header_at.ensures.seen)
    (λ old new known taken. extend_edit c.args.segment c.args.page.0 c.args.first.0 c.in_ok-header_at.field-0.last_page old new (can_extend _ _ _ old c.in_ok-header_at.field-0 c.requires.segment c.requires.some known.0 known.1) taken _)
    c.in_ok-take_free.ensures.lists

pub put_number-requires-2-clause-puts : goal.put_number-requires-2-clause-puts
put_number-requires-2-clause-puts g c =
    Stands-after (Stands-seen c.requires.stands c.in_ok-header_at.ensures.seen)
    (λ old middle known taken. extend_edit_last c.args.segment c.args.page.0 c.args.first.0 c.in_ok-header_at.field-0.last_page old middle (can_extend _ _ _ old c.in_ok-header_at.field-0 c.requires.segment c.requires.some known.0 known.1) taken _)
    c.in_ok-take_free.ensures.lists c.in_ok-put_number.ensures.lists

pub returns-clause-lists : goal.returns-clause-lists
returns-clause-lists g c =
    on_ok_weaker c.put_number-2.result
    (λ last. Becomes-seen c.in_ok-header_at.ensures.seen (Becomes-after (Stands-seen c.requires.stands c.in_ok-header_at.ensures.seen)
    (λ old middle known taken. extend_grows c.args.segment c.args.page.0 c.args.first.0 c.in_ok-header_at.field-0.last_page old middle (can_extend _ _ _ old c.in_ok-header_at.field-0 c.requires.segment c.requires.some known.0 known.1) taken)
    c.in_ok-take_free.ensures.lists (Becomes-edit c.in_ok-put_number.ensures.lists last)))
    c.put_number-2.ensures.lists

pub returns-in_err-take_free-clause-fails : goal.returns-in_err-take_free-clause-fails
returns-in_err-take_free-clause-fails g c =
    let failed = g.met.P.Pages.fails_later _ _ _ _ c.in_ok-header_at.ensures.passes c.in_err-take_free.ensures.fails in
    search rules

pub returns-in_err-put_number-clause-fails : goal.returns-in_err-put_number-clause-fails
returns-in_err-put_number-clause-fails g c =
    let failed = g.met.P.Pages.fails_later _ _ _ _ (g.met.P.Pages.passes_on _ _ _ c.in_ok-header_at.ensures.passes c.in_ok-take_free.ensures.passes) c.in_err-put_number.ensures.fails in
    search rules

pub returns-clause-passes : goal.returns-clause-passes
returns-clause-passes g c =
    on_ok_weaker c.put_number-2.result (λ last. g.met.P.Pages.passes_on _ _ _ (g.met.P.Pages.passes_on _ _ _ (g.met.P.Pages.passes_on _ _ _ c.in_ok-header_at.ensures.passes c.in_ok-take_free.ensures.passes) c.in_ok-put_number.ensures.passes) last) c.put_number-2.ensures.passes

pub returns-clause-fails : goal.returns-clause-fails
returns-clause-fails g c =
    IfErr-weaker c.put_number-2.result _ _ (λ fault failed. g.met.P.Pages.fails_later _ _ _ fault (g.met.P.Pages.passes_on _ _ _ (g.met.P.Pages.passes_on _ _ _ c.in_ok-header_at.ensures.passes c.in_ok-take_free.ensures.passes) c.in_ok-put_number.ensures.passes) failed) c.put_number-2.ensures.fails

pub returns-clause-brings : goal.returns-clause-brings
returns-clause-brings g c =
    both_ok c.put_number-2.result
    (λ last brings. brings_on
    (Becomes-stands {Q = λ list. (old : List PageImage) × AreEnds old c.args.segment c.args.page.0 c.args.first.0 c.in_ok-header_at.field-0.last_page × Grows old list c.args.segment c.args.page.0}
    (ends_seen c.args.segment c.args.page.0 c.args.first.0 c.in_ok-header_at.field-0 c.requires.segment c.requires.some c.requires.stands c.in_ok-header_at.ensures.seen)
    (λ old new ends grows. (old, ends, grows))
    (Becomes-after (Stands-seen c.requires.stands c.in_ok-header_at.ensures.seen)
    (λ old middle known taken. extend_grows c.args.segment c.args.page.0 c.args.first.0 c.in_ok-header_at.field-0.last_page old middle (can_extend _ _ _ old c.in_ok-header_at.field-0 c.requires.segment c.requires.some known.0 known.1) taken)
    c.in_ok-take_free.ensures.lists (Becomes-edit c.in_ok-put_number.ensures.lists last)))
    (λ list named it is. ends_named it.0 list c.args.segment c.args.page.0 c.args.first.0 c.in_ok-header_at.field-0.last_page named it.1 it.2 is)
    (brings_then (brings_then (brings_then
    (brings_weaker (λ named same. inl (inr same)) c.in_ok-header_at.ensures.brings) (brings_weaker (λ named is. inl (inl is)) c.in_ok-take_free.ensures.brings))
    (brings_weaker (λ named same. inr same) c.in_ok-put_number.ensures.brings)) (brings_weaker (λ named same. inl (inr same)) brings)))
    c.put_number-2.ensures.lists c.put_number-2.ensures.brings

-- the first page, on each list of which the ends are known
first_wanted : {a b : PagesHeld} (segment page first end : ℕ) → Stands b (λ list. AreEnds list segment page first end) → BringsOnly a b (λ named. named ≡ first) → BringsOnEach a b (λ list. IsWantedIn list segment)
first_wanted segment page first end stands brings = brings_on stands (λ list named it same. ends_wanted list segment page first end named it (inl (inr same))) brings

pub returns-in_err-header_at-clause-stays : goal.returns-in_err-header_at-clause-stays
returns-in_err-header_at-clause-stays g c =
    let failed = rests_breaks {N = λ list. IsWantedIn list c.args.segment} c.in_err-header_at.ensures.stays in
    search rules

pub returns-in_err-take_free-clause-stays : goal.returns-in_err-take_free-clause-stays
returns-in_err-take_free-clause-stays g c =
    let ends = ends_seen c.args.segment c.args.page.0 c.args.first.0 c.in_ok-header_at.field-0 c.requires.segment c.requires.some c.requires.stands c.in_ok-header_at.ensures.seen in
    let failed = breaks_seen {N = λ list. IsWantedIn list c.args.segment} c.in_ok-header_at.ensures.seen (first_wanted _ _ _ _ ends c.in_ok-header_at.ensures.brings)
    (breaks_weaker ends (λ list named it is. grown_wanted list c.args.segment c.args.page.0 named it.begins is) c.in_err-take_free.ensures.stays) in
    search rules

pub returns-in_err-put_number-clause-stays : goal.returns-in_err-put_number-clause-stays
returns-in_err-put_number-clause-stays g c =
    let ends = ends_seen c.args.segment c.args.page.0 c.args.first.0 c.in_ok-header_at.field-0 c.requires.segment c.requires.some c.requires.stands c.in_ok-header_at.ensures.seen in
    let failed = breaks_seen {N = λ list. IsWantedIn list c.args.segment} c.in_ok-header_at.ensures.seen (first_wanted _ _ _ _ ends c.in_ok-header_at.ensures.brings)
    (breaks_at_once ends c.in_ok-take_free.ensures.lists c.in_ok-take_free.ensures.brings (λ old middle named it taken is. grown_wanted old c.args.segment c.args.page.0 named it.begins is) c.in_err-put_number.ensures.stays) in
    search rules

pub returns-clause-stays : goal.returns-clause-stays
returns-clause-stays g c =
    let ends = ends_seen c.args.segment c.args.page.0 c.args.first.0 c.in_ok-header_at.field-0 c.requires.segment c.requires.some c.requires.stands c.in_ok-header_at.ensures.seen in
    IfErr-weaker c.put_number-2.result _ _
    (λ fault rests. breaks_seen {N = λ list. IsWantedIn list c.args.segment} c.in_ok-header_at.ensures.seen (first_wanted _ _ _ _ ends c.in_ok-header_at.ensures.brings)
    (breaks_at_once ends (Becomes-then c.in_ok-take_free.ensures.lists c.in_ok-put_number.ensures.lists)
    (brings_then (brings_weaker (λ named is. inl (inl is)) c.in_ok-take_free.ensures.brings) (brings_weaker (λ named same. inr same) c.in_ok-put_number.ensures.brings))
    (λ old middle named it taken is. ends_wanted old c.args.segment c.args.page.0 c.args.first.0 c.in_ok-header_at.field-0.last_page named it is) rests))
    c.put_number-2.ensures.stays

pub returns-clause-owns : goal.returns-clause-owns
returns-clause-owns g c =
    both_ok c.put_number-2.result
    (λ last owns. owns_on
    (Becomes-stands {Q = λ list. (old : List PageImage) × AreEnds old c.args.segment c.args.page.0 c.args.first.0 c.in_ok-header_at.field-0.last_page × Grows old list c.args.segment c.args.page.0}
    (ends_seen c.args.segment c.args.page.0 c.args.first.0 c.in_ok-header_at.field-0 c.requires.segment c.requires.some c.requires.stands c.in_ok-header_at.ensures.seen)
    (λ old new ends grows. (old, ends, grows))
    (Becomes-after (Stands-seen c.requires.stands c.in_ok-header_at.ensures.seen)
    (λ old middle known taken. extend_grows c.args.segment c.args.page.0 c.args.first.0 c.in_ok-header_at.field-0.last_page old middle (can_extend _ _ _ old c.in_ok-header_at.field-0 c.requires.segment c.requires.some known.0 known.1) taken)
    c.in_ok-take_free.ensures.lists (Becomes-edit c.in_ok-put_number.ensures.lists last)))
    (λ list named it is. ends_named it.0 list c.args.segment c.args.page.0 c.args.first.0 c.in_ok-header_at.field-0.last_page named it.1 it.2 is)
    (owns_later c.in_ok-header_at.ensures.owns
    (owns_then (owns_then (owns_weaker (λ named is. inl (inl is)) c.in_ok-take_free.ensures.owns) (owns_weaker (λ named same. inr same) c.in_ok-put_number.ensures.owns)) (owns_weaker (λ named same. inl (inr same)) owns))))
    c.put_number-2.ensures.lists c.put_number-2.ensures.owns
