use Rattle.std.proofs.Common.{◌≡◌, ◌<◌, ◌∙◌, ℕ, length, subst, sym, ap, arith, refl, Some}
use Rattle.std.specs.List.{slice_get}
use Rattle.std.proofs.lemmas.Option.{slice_get_within}
use Rattle.ostore_job_text.specs.declared.job.JobClient.{JobClient}
use Rattle.ostore_turns.specs.declared.place.Place.{Place}
use Rattle.ostore_turns.specs.LawfulTurns.{IsMet}
use Rattle.ostore_turns.specs.Places.{Moment, moment_of, moved}
use Rattle.ostore_turns.specs.inside.Strict.{ArePlaces, place_in, records_in}
use Rattle.ostore_turns.proofs.RunLaws.{there_of}
use Rattle.ostore_turns.proofs.StrictLaws.{turned}
use Rattle.ostore_turns.proofs.tests.StrictAttempts.execute.Goals as goal

pub returns-clause-turns : goal.returns-clause-turns
returns-clause-turns c =
    let self = c.args.self.now in
    let clients = self.job.now.clients in
    let number : ℕ = c.args.client.0 in
    let now : Moment = moment_of (place_in self.places.items) (records_in self.records.items) self.commits in
    let same : c.from-number.result ≡ number = c.from-number.ensures in
    let low : number < length clients = slice_get_within clients number c.requires.next.client c.requires.next.there in
    let places_low : number < length self.places.items = (let ok = self.places.ok in let long = self.places_long in omega (arith, low, ok, long)) in
    let records_low : number < length self.records.items = (let ok = self.records.ok in let long = self.records_long in omega (arith, low, ok, long)) in
    let there : slice_get clients number ≡ Some c.index-items-number.result =
    subst (λ (n : ℕ). slice_get clients n ≡ Some c.index-items-number.result) same
    (there_of c.items.result.now clients c.from-number.result c.index-items-number.result c.items.ensures (omega (arith, low, same)) c.index-items-number.is) in
    let sits : slice_get self.records.items number ≡ Some c.index_mut.result.now =
    subst (λ (n : ℕ). slice_get self.records.items n ≡ Some c.index_mut.result.now) same
    (there_of self.records.items self.records.items c.from-number.result c.index_mut.result.now refl (omega (arith, records_low, same)) c.index_mut.ensures.value) in
    turned clients self.places.items self.records.items self.commits number c.index-items-number.result c.args.txn.now c.args.at c.moved.result c.gave_at-gave.result
    c.index_mut.result.now c.record_commit.new.records c.commits_then-self.result c.from-number.result
    same places_low c.requires.next c.requires.place
    (c.gave_at-gave.ensures.may clients now number (ap (λ (p : Place). p.line) (sym c.requires.place)) refl
    (λ met. subst (λ (n : ℕ). IsMet clients now n c.args.txn.now) same (c.is_met-met.ensures met now (subst (λ places. ArePlaces places now) (sym c.deref.ensures.value) (λ client. refl)))))
    there (c.moved.ensures ∙ ap (λ (x : JobClient). moved x.tries c.args.at c.gave_at-gave.result) (sym c.index-items-number.is)) sits c.in_ok-record_commit.ensures c.commits_then-self.ensures

pub returns-clause-bounded : goal.returns-clause-bounded
returns-clause-bounded c = c.gave_at-gave.ensures.bounded c.args.self.now.job.now.clients c.args.client.0
