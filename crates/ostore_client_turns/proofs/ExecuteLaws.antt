-- A turn of a client whose seat is one of a list.
use Rattle.std.proofs.Common.{◌≡◌, ◌≢◌, ◌<◌, ◌+◌, ℕ, List, length, get_or, Option, Some, None, Result, Ok, Err, refl, sym, ap, subst, ◌∙◌, inl, inr, arith}
use Rattle.std.specs.Prelude.{IfOk}
use Rattle.std.specs.Borrow.{GName}
use Rattle.std.specs.Option.{option_map}
use Rattle.std.specs.List.{slice_get}
use Rattle.std.proofs.Math.ListN.{set, length-set}
use Rattle.std.proofs.lemmas.List.{get_or-set_same, get_or-set_other}
use Rattle.std.proofs.lemmas.Option.{none-some, same_Some, slice_get-get_or, slice_get_cases, slice_get_past, slice_get_read, slice_get_within}
use Rattle.ostore_base.specs.Limits.{most_clients}
use Rattle.ostore_base.specs.declared.out_of_memory.OutOfMemory.{OutOfMemory}
use Rattle.ostore_schema_layout.specs.declared.schema.Schema.{Schema}
use Rattle.ostore_page_service.specs.declared.kind.Kind as kind
use Rattle.ostore_page_service.specs.declared.server.SeqServer.{SeqServer}
use Rattle.ostore_page_service.specs.Servers.{journal_of, opened_of, told_of, Serves}
use Rattle.ostore_graph_model.specs.declared.commands.Script.{Script}
use Rattle.ostore_graph_model.specs.declared.commands.Txn.{Txn}
use Rattle.ostore_graph_model.specs.declared.history.Entry.{Entry}
use Rattle.ostore_job_text.specs.declared.job.Job.{Job}
use Rattle.ostore_job_text.specs.declared.job.JobClient.{JobClient}
use Rattle.ostore_turns.specs.declared.attempts.Gave.{Gave}
use Rattle.ostore_turns.specs.declared.place.Place.{Place}
use Rattle.ostore_turns.specs.Places.{HasRoom, IsIn}
use Rattle.ostore_turns.specs.LawfulTurns.{Turns}
use Rattle.ostore_turns.specs.Bounds.{GivesWithin}
use Rattle.ostore_graph_history.specs.Space.{LawOfFewPages, LawOfLackedSpace}
use Rattle.ostore_client_turns.specs.declared.seat.Seat.{Seat}
use Rattle.ostore_client_turns.specs.Runs.{bounds_of, script_of}
use Rattle.ostore_client_turns.specs.inside.AtServer.{IsReadyAt, MayExecuteAt, TakesTurnAt, moment_at}
use Rattle.ostore_client_turns.specs.inside.Seats.{seats_in, view_of}
use Rattle.ostore_client_turns.specs.inside.Stores.{SeatView, place_of}
use Rattle.ostore_client_turns.proofs.NameLaws.{all_told, all_told_as, ready_renamed}
use Rattle.ostore_client_turns.proofs.StoreLaws.{IsTurn, Replaces, may_execute, ready_then, turn_in, turns, within_bounds}

-- ---- seats in a list

some_seat : {M : Type 0} (found : Option (Seat M)) (sits : SeatView) → option_map (view_of {M = M}) found ≡ Some sits → found ≡ None → ⊥
some_seat found sits is none = none-some sits (ap (option_map view_of) (sym none) ∙ is)

seat_within : {M : Type 0} (items : List (Seat M)) (number : ℕ) (sits : SeatView) → seats_in items number ≡ Some sits → number < length items
seat_within items number sits is = elim (slice_get_cases items number).1 [
  | inl found ↦ found.1
  | inr past ↦ absurd (some_seat (slice_get items number) sits is past.1)
]

seat_read : {M : Type 0} (items : List (Seat M)) (number : ℕ) (seat : Seat M) → number < length items → seat ≡ get_or items number seat → seats_in items number ≡ Some (view_of seat)
seat_read items number seat within is = ap (option_map view_of) (slice_get_read items (length items) number seat refl within is)

set_other : {M : Type 0} (items : List (Seat M)) (number other : ℕ) (seat : Seat M) → other ≢ number → slice_get (set items number seat) other ≡ slice_get items other
set_other items number other seat apart = elim (slice_get_cases items other).1 [
  | inl found ↦ (
      let within : other < length (set items number seat) = omega (arith, length-set items number seat, found.1) in
      slice_get-get_or (set items number seat) other seat within ∙ ap Some (get_or-set_other items number other seat seat apart)
      ∙ sym (slice_get-get_or items other seat found.1)
      )
  | inr past ↦ slice_get_past (set items number seat) other (omega (arith, length-set items number seat, past.0)) ∙ sym past.1
]

set_here : {M : Type 0} (items : List (Seat M)) (number : ℕ) (seat : Seat M) → number < length items → slice_get (set items number seat) number ≡ Some seat
set_here items number seat within =
    slice_get-get_or (set items number seat) number seat (omega (arith, length-set items number seat)) ∙ ap Some (get_or-set_same items number seat seat within)

seat_set : {M : Type 0} (items : List (Seat M)) (number : ℕ) (seat : Seat M) → number < length items → Replaces (seats_in items) (seats_in (set items number seat)) number (view_of seat)
seat_set items number seat within = record {
  here = ap (option_map view_of) (set_here items number seat within);
  others = λ other apart. ap (option_map view_of) (set_other items number other seat apart);
}

-- ---- a turn

module _ {K D M : Type 0} {g : kind.Ghosts K Entry Script} (disk_faults : D → ℕ) (server : SeqServer K D Entry Script g) (behind : GName) (schema : Schema) (job : Job)
    (items : List (Seat M)) (at number : ℕ) (txn : Txn) (same : at ≡ number) (ready : IsReadyAt disk_faults server schema job (seats_in items))
    (is_in : IsIn job.clients (moment_at disk_faults server behind (seats_in items)) number txn) where
  pub seat_index : at < length items
  seat_index =
      let found = (ready behind).seated.each number is_in.client is_in.there in
      subst (λ (n : ℕ). n < length items) (sym same) (seat_within items number found.0 found.1)

  pub client_low : number < most_clients
  client_low = let few = (ready behind).executable.few in let within = slice_get_within job.clients number is_in.client is_in.there in omega arith

  module _ (old : Seat M) (read : old ≡ get_or items at old) where
    sits : seats_in items number ≡ Some (view_of old)
    sits = subst (λ (n : ℕ). seats_in items n ≡ Some (view_of old)) same (seat_read items at old seat_index read)

    pub place_room : (place : Place) → place ≡ (moment_at disk_faults server behind (seats_in items)).places number → HasRoom place → HasRoom old.place
    place_room place is room = subst HasRoom (is ∙ ap place_of sits) room

    turn : IsTurn job (seats_in items) number is_in.client txn (view_of old)
    turn = turn_in (λ n. told_of behind disk_faults n server) (journal_of server).number job (seats_in items) number txn (view_of old) is_in sits

    pub may_execute_at : MayExecuteAt disk_faults server number schema txn (old.place.txn + 1) (view_of old)
    may_execute_at name =
        may_execute (Serves server) (λ n. told_of name disk_faults n server) (opened_of server) (journal_of server).number schema job (seats_in items) number is_in.client txn (view_of old) (ready name)
        (all_told disk_faults server name) turn

    module _ (its default : JobClient) (found : its ≡ get_or job.clients at default) (after : SeqServer K D Entry Script g) (opened : opened_of after ≡ opened_of server) (new : Seat M) where
      tries_are : its.tries ≡ is_in.client.tries
      tries_are =
          let within : at < length job.clients = subst (λ (n : ℕ). n < length job.clients) (sym same) (slice_get_within job.clients number is_in.client is_in.there) in
          let there : slice_get job.clients number ≡ Some its = subst (λ (n : ℕ). slice_get job.clients n ≡ Some its) same (slice_get-get_or job.clients at default within ∙ ap Some (sym found)) in
          ap (λ (c : JobClient). c.tries) (same_Some its is_in.client (sym there ∙ is_in.there))

      replaced : Replaces (seats_in items) (seats_in (set items at new)) number (view_of new)
      replaced = subst (λ (n : ℕ). Replaces (seats_in items) (seats_in (set items at new)) n (view_of new)) same (seat_set items at new seat_index)

      took_as : (gave : Gave) → TakesTurnAt disk_faults server after number its.tries txn (view_of old) (view_of new) gave → TakesTurnAt disk_faults server after number is_in.client.tries txn (view_of old) (view_of new) gave
      took_as gave took = subst (λ (n : ℕ). TakesTurnAt disk_faults server after number n txn (view_of old) (view_of new) gave) tries_are took

      pub executed_turns : (result : Result Gave OutOfMemory) → IfOk result (TakesTurnAt disk_faults server after number its.tries txn (view_of old) (view_of new))
          → IfOk result (λ gave. Turns job.clients (moment_at disk_faults server behind (seats_in items)) number gave (moment_at disk_faults after behind (seats_in (set items at new))))
      executed_turns (Ok gave) took =
          let took_now = took_as gave took in
          turns (Serves server) (Serves after) (λ n. told_of took_now.0 disk_faults n server) (λ n. told_of took_now.0 disk_faults n after) (opened_of server) (journal_of server).number (journal_of after).number
          schema job (seats_in items) (seats_in (set items at new)) number txn (view_of old) (view_of new) gave (ready took_now.0) (all_told disk_faults server took_now.0)
          (all_told_as disk_faults after took_now.0 (opened_of server) opened) is_in sits replaced took_now.1
      executed_turns (Err fault) took = tt

      pub executed_within : LawOfLackedSpace → LawOfFewPages → (result : Result Gave OutOfMemory) → IfOk result (TakesTurnAt disk_faults server after number its.tries txn (view_of old) (view_of new))
          → IfOk result (λ gave. GivesWithin (bounds_of (script_of schema job) (opened_of server)) job.clients number gave)
      executed_within lacked few (Ok gave) took =
          let took_now = took_as gave took in
          within_bounds (Serves server) (Serves after) (λ n. told_of took_now.0 disk_faults n server) (λ n. told_of took_now.0 disk_faults n after) (opened_of server) (journal_of server).number (journal_of after).number
          schema job (seats_in items) (seats_in (set items at new)) number is_in.client txn (view_of old) (view_of new) gave (ready took_now.0) (all_told disk_faults server took_now.0)
          (all_told_as disk_faults after took_now.0 (opened_of server) opened) turn replaced took_now.1 lacked few
      executed_within lacked few (Err fault) took = tt

      pub executed_ready : (result : Result Gave OutOfMemory) → IfOk result (TakesTurnAt disk_faults server after number its.tries txn (view_of old) (view_of new))
          → length items ≡ length job.clients → IfOk result (λ gave. IsReadyAt disk_faults after schema job (seats_in (set items at new)) × (length (set items at new) ≡ length job.clients))
      executed_ready (Ok gave) took long =
          let took_now = took_as gave took in (
            ready_renamed disk_faults after took_now.0 schema job (seats_in (set items at new))
                (ready_then (Serves server) (Serves after) (λ n. told_of took_now.0 disk_faults n server) (λ n. told_of took_now.0 disk_faults n after) (opened_of server) (journal_of server).number (journal_of after).number
                schema job (seats_in items) (seats_in (set items at new)) number is_in.client txn (view_of old) (view_of new) gave (ready took_now.0) (all_told disk_faults server took_now.0)
                (all_told_as disk_faults after took_now.0 (opened_of server) opened) turn replaced took_now.1),
            length-set items at new ∙ long,
          )
      executed_ready (Err fault) took long = tt
