use Rattle.std.proofs.Common.{◌≡◌, ◌∙◌, List, [], ◌∷◌, length, inl, inr, refl, sym, append-nil, arith}
use Rattle.std.specs.Vec.Iter.{into_iter_items}
use Rattle.ostore_job_text.specs.declared.job.JobClient.{JobClient}
use Rattle.ostore_turns.specs.declared.seat.Seat.{Seat}
use Rattle.ostore_turns.specs.inside.Steps.{results_in}
use Rattle.ostore_turns.proofs.running.Run.into_results.Goals as goal

no_seats : (clients : List JobClient) (seats : List Seat) → length seats ≡ 0 → results_in clients seats ≡ []
no_seats [] seats none = refl
no_seats (client ∷ clients) [] none = refl
no_seats (client ∷ clients) (seat ∷ seats) none = absurd (omega (arith, none))

no_clients : (clients : List JobClient) (seats : List Seat) → length clients ≡ 0 → results_in clients seats ≡ []
no_clients [] seats none = refl
no_clients (client ∷ clients) seats none = absurd (omega (arith, none))

-- either list has ended, so that nothing is left
pub returns : goal.returns
returns c = elim c.in-None.ensures.steps [
  | inl none ↦ rw (no_seats c.loop-seat.seat-iterator.b.rest.now (into_iter_items c.loop-seat.seat-iterator.a) (sym c.loop-seat.invariant.long ∙ none.1.0), append-nil) at c.loop-seat.invariant.all
  | inr none ↦ rw (no_clients c.loop-seat.seat-iterator.b.rest.now (into_iter_items c.loop-seat.seat-iterator.a) none.1.0, append-nil) at c.loop-seat.invariant.all
]
