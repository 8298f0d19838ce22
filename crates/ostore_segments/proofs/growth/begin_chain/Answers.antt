use Rattle.std.proofs.Common.{rules, inl, inr}
use Rattle.std.proofs.lemmas.Result.{on_ok_weaker, IfErr-weaker}
use Rattle.ostore_segments.proofs.ListSteps.{Stands-weaker, Stands-after, Becomes-after, Becomes-edit, Becomes-stands}
use Rattle.ostore_segments.proofs.GrowLaws.{begin_edit, begin_edit_last, begin_grows}
use Rattle.ostore_segments.proofs.ViewLaws.{brings_weaker, brings_then, rests_breaks, breaks_then}
use Rattle.ostore_segments.proofs.OwnLaws.{owns_weaker, owns_then}
use Rattle.ostore_segments.proofs.growth.begin_chain.Goals as goal

pub take_free-requires-clause-stands : goal.take_free-requires-clause-stands
take_free-requires-clause-stands g c = Stands-weaker (λ list known. known.begins) c.requires.stands

pub put_number-requires-clause-puts : goal.put_number-requires-clause-puts
put_number-requires-clause-puts g c =
    Becomes-stands c.requires.stands (λ old new known taken. begin_edit c.args.segment c.args.page.0 c.first_place.result old new
    (record { begins = known; owned = c.requires.segment; place_is = c.first_place.ensures }) taken _)
    c.in_ok-take_free.ensures.lists

pub put_number-requires-2-clause-puts : goal.put_number-requires-2-clause-puts
put_number-requires-2-clause-puts g c =
    Stands-after c.requires.stands (λ old middle known taken. begin_edit_last c.args.segment c.args.page.0 c.first_place.result old middle
    (record { begins = known; owned = c.requires.segment; place_is = c.first_place.ensures }) taken _)
    c.in_ok-take_free.ensures.lists c.in_ok-put_number.ensures.lists

pub returns-clause-lists : goal.returns-clause-lists
returns-clause-lists g c =
    on_ok_weaker c.put_number-2.result
    (λ last. Becomes-after c.requires.stands (λ old middle known taken. begin_grows c.args.segment c.args.page.0 c.first_place.result old middle
    (record { begins = known; owned = c.requires.segment; place_is = c.first_place.ensures }) taken)
    c.in_ok-take_free.ensures.lists (Becomes-edit c.in_ok-put_number.ensures.lists last))
    c.put_number-2.ensures.lists

pub returns-in_err-put_number-clause-fails : goal.returns-in_err-put_number-clause-fails
returns-in_err-put_number-clause-fails g c =
    let failed = g.met.P.Pages.fails_later _ _ _ _ c.in_ok-take_free.ensures.passes c.in_err-put_number.ensures.fails in
    search rules

pub returns-clause-passes : goal.returns-clause-passes
returns-clause-passes g c =
    on_ok_weaker c.put_number-2.result (λ last. g.met.P.Pages.passes_on _ _ _ (g.met.P.Pages.passes_on _ _ _ c.in_ok-take_free.ensures.passes c.in_ok-put_number.ensures.passes) last) c.put_number-2.ensures.passes

pub returns-clause-fails : goal.returns-clause-fails
returns-clause-fails g c =
    IfErr-weaker c.put_number-2.result _ _ (λ fault failed. g.met.P.Pages.fails_later _ _ _ fault (g.met.P.Pages.passes_on _ _ _ c.in_ok-take_free.ensures.passes c.in_ok-put_number.ensures.passes) failed) c.put_number-2.ensures.fails

pub returns-clause-brings : goal.returns-clause-brings
returns-clause-brings g c =
    on_ok_weaker c.put_number-2.result
    (λ last. brings_then (brings_then c.in_ok-take_free.ensures.brings (brings_weaker (λ named same. inl same) c.in_ok-put_number.ensures.brings)) (brings_weaker (λ named same. inr same) last))
    c.put_number-2.ensures.brings

pub returns-in_err-put_number-clause-stays : goal.returns-in_err-put_number-clause-stays
returns-in_err-put_number-clause-stays g c =
    let failed = breaks_then c.in_ok-take_free.ensures.lists c.in_ok-take_free.ensures.brings (rests_breaks c.in_err-put_number.ensures.stays) in
    search rules

pub returns-clause-stays : goal.returns-clause-stays
returns-clause-stays g c =
    IfErr-weaker c.put_number-2.result _ _
    (λ fault rests. breaks_then c.in_ok-take_free.ensures.lists c.in_ok-take_free.ensures.brings
    (breaks_then c.in_ok-put_number.ensures.lists (brings_weaker (λ named same. inl same) c.in_ok-put_number.ensures.brings) (rests_breaks rests)))
    c.put_number-2.ensures.stays

pub returns-clause-owns : goal.returns-clause-owns
returns-clause-owns g c =
    on_ok_weaker c.put_number-2.result
    (λ last. owns_then (owns_then c.in_ok-take_free.ensures.owns (owns_weaker (λ named same. inl same) c.in_ok-put_number.ensures.owns)) (owns_weaker (λ named same. inr same) last))
    c.put_number-2.ensures.owns
