use Rattle.std.proofs.Common.{◌≡◌, ℕ, rules, List, sym, subst, arith, inl, inr}
use Rattle.std.proofs.lemmas.Result.{on_ok_weaker, IfErr-weaker}
use Rattle.ostore_base.specs.declared.page.PageImage.{PageImage}
use Rattle.ostore_segments.specs.Holdings.{PagesHeld, BringsOnly}
use Rattle.ostore_segments.specs.inside.Fields.{Takes, IsFrontOr}
use Rattle.ostore_segments.proofs.ListSteps.{Stands-seen, Stands-weaker, Stands-edited, Becomes-edit, Becomes-changed}
use Rattle.ostore_segments.proofs.AllocatedLaws.{head_headed}
use Rattle.ostore_segments.proofs.TakeLaws.{can_take, takes, edit_one, edit_two, edit_three}
use Rattle.ostore_segments.proofs.ViewLaws.{brings_weaker, brings_then, rests_breaks, breaks_then}
use Rattle.ostore_segments.proofs.OwnLaws.{owns_weaker, owns_then, owns_later}
use Rattle.ostore_segments.proofs.growth.take_free.Goals as goal

pub header_at-requires : goal.header_at-requires
header_at-requires g c = Stands-weaker (λ list begins. head_headed list c.args.page.0 begins) c.requires.stands

pub put_number-requires-clause-puts : goal.put_number-requires-clause-puts
put_number-requires-clause-puts g c =
    Stands-weaker (λ list known. edit_one c.args.segment c.args.page.0 c.in_ok-rest.field-0.next list (can_take _ _ c.in_ok-rest.field-0 list c.requires.segment (omega arith) known.0 known.1) _)
    (Stands-seen c.requires.stands c.in_ok-rest.ensures.seen)

pub edit-requires-clause-puts : goal.edit-requires-clause-puts
edit-requires-clause-puts g c =
    Stands-edited (Stands-seen c.requires.stands c.in_ok-rest.ensures.seen)
    (λ list known. edit_two c.args.segment c.args.page.0 c.in_ok-rest.field-0.next list (can_take _ _ c.in_ok-rest.field-0 list c.requires.segment (omega arith) known.0 known.1) _)
    c.in_ok-put_number.ensures.lists

pub put_number-requires-2-clause-puts : goal.put_number-requires-2-clause-puts
put_number-requires-2-clause-puts g c =
    Stands-edited (Stands-seen c.requires.stands c.in_ok-rest.ensures.seen)
    (λ list known. edit_three c.args.segment c.args.page.0 c.in_ok-rest.field-0.next list (can_take _ _ c.in_ok-rest.field-0 list c.requires.segment (omega arith) known.0 known.1) _)
    (Becomes-edit c.in_ok-put_number.ensures.lists c.in_ok-edit.ensures.lists)

pub returns-clause-lists : goal.returns-clause-lists
returns-clause-lists g c =
    on_ok_weaker c.put_number-2.result
    (λ last. Becomes-changed c.requires.stands c.in_ok-rest.ensures.seen
    (λ old new known seen written. subst (λ (list : List PageImage). Takes old list c.args.segment c.args.page.0) (sym written)
    (takes c.args.segment c.args.page.0 c.in_ok-rest.field-0.next old (can_take _ _ c.in_ok-rest.field-0 old c.requires.segment (omega arith) known seen)))
    (Becomes-edit (Becomes-edit c.in_ok-put_number.ensures.lists c.in_ok-edit.ensures.lists) last))
    c.put_number-2.ensures.lists

pub returns-in_err-put_number-clause-fails : goal.returns-in_err-put_number-clause-fails
returns-in_err-put_number-clause-fails g c =
    let failed = g.met.P.Pages.fails_later _ _ _ _ c.in_ok-rest.ensures.passes c.in_err-put_number.ensures.fails in
    search rules

pub returns-in_err-edit-clause-fails : goal.returns-in_err-edit-clause-fails
returns-in_err-edit-clause-fails g c =
    let failed = g.met.P.Pages.fails_later _ _ _ _ (g.met.P.Pages.passes_on _ _ _ c.in_ok-rest.ensures.passes c.in_ok-put_number.ensures.passes) c.in_err-edit.ensures.fails in
    search rules

pub returns-clause-passes : goal.returns-clause-passes
returns-clause-passes g c =
    on_ok_weaker c.put_number-2.result (λ last. g.met.P.Pages.passes_on _ _ _ (g.met.P.Pages.passes_on _ _ _ (g.met.P.Pages.passes_on _ _ _ c.in_ok-rest.ensures.passes c.in_ok-put_number.ensures.passes) c.in_ok-edit.ensures.passes) last) c.put_number-2.ensures.passes

pub returns-clause-fails : goal.returns-clause-fails
returns-clause-fails g c =
    IfErr-weaker c.put_number-2.result _ _ (λ fault failed. g.met.P.Pages.fails_later _ _ _ fault (g.met.P.Pages.passes_on _ _ _ (g.met.P.Pages.passes_on _ _ _ c.in_ok-rest.ensures.passes c.in_ok-put_number.ensures.passes) c.in_ok-edit.ensures.passes) failed) c.put_number-2.ensures.fails

-- the pages so far
read : {a b : PagesHeld} (page : ℕ) → BringsOnly a b (λ named. named ≡ page) → BringsOnly a b (IsFrontOr page)
read page brings = brings_weaker (λ named same. inr same) brings

front : {a b : PagesHeld} (page : ℕ) → BringsOnly a b (λ named. named ≡ 0) → BringsOnly a b (IsFrontOr page)
front page brings = brings_weaker (λ named same. inl same) brings

pub returns-clause-brings : goal.returns-clause-brings
returns-clause-brings g c =
    on_ok_weaker c.put_number-2.result
    (λ last. brings_then (brings_then (brings_then (read c.args.page.0 c.in_ok-rest.ensures.brings) (front c.args.page.0 c.in_ok-put_number.ensures.brings)) (read c.args.page.0 c.in_ok-edit.ensures.brings)) (read c.args.page.0 last))
    c.put_number-2.ensures.brings

pub returns-in_err-rest-clause-stays : goal.returns-in_err-rest-clause-stays
returns-in_err-rest-clause-stays g c =
    let failed = rests_breaks {N = λ list. IsFrontOr c.args.page.0} c.in_err-rest.ensures.stays in
    search rules

pub returns-in_err-put_number-clause-stays : goal.returns-in_err-put_number-clause-stays
returns-in_err-put_number-clause-stays g c =
    let failed = breaks_then c.in_ok-rest.ensures.seen (read c.args.page.0 c.in_ok-rest.ensures.brings) (rests_breaks c.in_err-put_number.ensures.stays) in
    search rules

pub returns-in_err-edit-clause-stays : goal.returns-in_err-edit-clause-stays
returns-in_err-edit-clause-stays g c =
    let failed = breaks_then c.in_ok-rest.ensures.seen (read c.args.page.0 c.in_ok-rest.ensures.brings)
    (breaks_then c.in_ok-put_number.ensures.lists (front c.args.page.0 c.in_ok-put_number.ensures.brings) (rests_breaks c.in_err-edit.ensures.stays)) in
    search rules

pub returns-clause-stays : goal.returns-clause-stays
returns-clause-stays g c =
    IfErr-weaker c.put_number-2.result _ _
    (λ fault rests. breaks_then c.in_ok-rest.ensures.seen (read c.args.page.0 c.in_ok-rest.ensures.brings)
    (breaks_then c.in_ok-put_number.ensures.lists (front c.args.page.0 c.in_ok-put_number.ensures.brings)
    (breaks_then c.in_ok-edit.ensures.lists (read c.args.page.0 c.in_ok-edit.ensures.brings) (rests_breaks rests))))
    c.put_number-2.ensures.stays

pub returns-clause-owns : goal.returns-clause-owns
returns-clause-owns g c =
    on_ok_weaker c.put_number-2.result
    (λ last. owns_later c.in_ok-rest.ensures.owns
    (owns_then (owns_then (owns_weaker (λ named same. inl same) c.in_ok-put_number.ensures.owns) (owns_weaker (λ named same. inr same) c.in_ok-edit.ensures.owns)) (owns_weaker (λ named same. inr same) last)))
    c.put_number-2.ensures.owns
