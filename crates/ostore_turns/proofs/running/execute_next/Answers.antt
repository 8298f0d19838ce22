use Rattle.std.proofs.Common.{◌≡◌, ◌<◌, ap, sym, subst, ◌∙◌, length, List}
use Rattle.std.specs.List.{AllByRecursion}
use Rattle.std.proofs.lemmas.Bool.{false≢true}
use Rattle.ostore_graph_model.specs.declared.commands.Txn.{Txn}
use Rattle.ostore_turns.specs.Bounds.{GivesWithin, IsResultWithin}
use Rattle.ostore_turns.specs.TurnResults.{result_by}
use Rattle.ostore_turns.specs.inside.Steps.{IsTaken, GoesOn, and_maybe}
use Rattle.ostore_turns.specs.declared.running.Took.{Took}
use Rattle.ostore_turns.proofs.PlaceLaws.{has_room}
use Rattle.ostore_turns.proofs.RunLaws.{there_of}
use Rattle.ostore_turns.proofs.TakeLaws.{gave_within}
use Rattle.ostore_turns.proofs.running.execute_next.Goals as goal
use Rattle.ostore_turns.proofs.running.execute_next.Goals.{then-stops_run, else-stops_run}

pub moved-seat-requires : goal.moved-seat-requires
moved-seat-requires g c =
    let look = c.in-Some.ensures.lookup in
    let low = subst (λ (l : List Txn). c.args.seat.now.place.txn < length l) c.items.ensures look.3.0 in
    has_room c.args.client.now c.args.seat.now.place c.in-Some.txn.now c.requires.limits c.requires.fits
    (there_of c.items.result.now c.args.client.now.txns c.args.seat.now.place.txn c.in-Some.txn.now c.items.ensures low look.1)

pub result_by-requires : goal.result_by-requires
result_by-requires g c =
    let look = c.in-Some.ensures.lookup in
    let low = subst (λ (l : List Txn). c.args.seat.now.place.txn < length l) c.items.ensures look.3.0 in
    has_room c.args.client.now c.args.seat.now.place c.in-Some.txn.now c.requires.limits c.requires.fits
    (there_of c.items.result.now c.args.client.now.txns c.args.seat.now.place.txn c.in-Some.txn.now c.items.ensures low look.1)

pub returns-in_ok-push-in-Some-result_by-clause-took :
    goal.returns-in_ok-push-in-Some-result_by-clause-took
returns-in_ok-push-in-Some-result_by-clause-took g c =
    let look = c.in-Some.ensures.lookup in
    let low = subst (λ (l : List Txn). c.args.seat.now.place.txn < length l) c.items.ensures look.3.0 in
    let on : GoesOn c.args.client.now c.args.number.0 c.in_ok-gave.gave c.args.seat.now (record { place = c.moved-seat.result; results = c.push.new.self }) (g.S.Attempts.clients c.args.store.now) (g.S.Attempts.moment c.args.store.now) (g.S.Attempts.moment c.execute.new.self) = record {
      turns = c.in_ok-gave.ensures.turns;
      txn = c.in-Some.txn.now;
      there = there_of c.items.result.now c.args.client.now.txns c.args.seat.now.place.txn c.in-Some.txn.now c.items.ensures low look.1;
      place = c.moved-seat.ensures;
      results = c.in_ok-push-in-Some-result_by.ensures.ok ∙ ap (and_maybe c.args.seat.now.results) (sym c.in-Some-result_by.is ∙ c.result_by.ensures);
    } in
    elim c.if-stops_run.branch [
      | then-stops_run w ↦ subst (λ (took : Took). IsTaken c.args.client.now c.args.number.0 took c.args.seat.now (record { place = c.moved-seat.result; results = c.push.new.self }) (g.S.Attempts.clients c.args.store.now) (g.S.Attempts.moment c.args.store.now) (g.S.Attempts.moment c.execute.new.self))
          (sym w.took-is) (c.in_ok-gave.gave, c.stops_run.ensures.0 w.if-stops_run.true, on)
      | else-stops_run w ↦ subst (λ (took : Took). IsTaken c.args.client.now c.args.number.0 took c.args.seat.now (record { place = c.moved-seat.result; results = c.push.new.self }) (g.S.Attempts.clients c.args.store.now) (g.S.Attempts.moment c.args.store.now) (g.S.Attempts.moment c.execute.new.self))
          (sym w.took-is) (c.in_ok-gave.gave, (λ stops. false≢true (sym w.if-stops_run.false ∙ c.stops_run.ensures.1 stops)), on)
    ]

pub execute-requires-clause-room : goal.execute-requires-clause-room
execute-requires-clause-room g c =
    let look = c.in-Some.ensures.lookup in
    let low = subst (λ (l : List Txn). c.args.seat.now.place.txn < length l) c.items.ensures look.3.0 in
    has_room c.args.client.now c.args.seat.now.place c.in-Some.txn.now c.requires.limits c.requires.fits
    (there_of c.items.result.now c.args.client.now.txns c.args.seat.now.place.txn c.in-Some.txn.now c.items.ensures low look.1)

pub returns-in_ok-push-in-Some-result_by-clause-within :
    goal.returns-in_ok-push-in-Some-result_by-clause-within
returns-in_ok-push-in-Some-result_by-clause-within g c =
    let client = c.args.client.now in
    let after = g.S.Attempts.bounds (g.S.Attempts.constants c.execute.new.self) in
    let results : c.push.new.self ≡ and_maybe c.args.seat.now.results (result_by c.in-Some.txn.now.update client.tries c.args.seat.now.place c.in_ok-gave.gave) =
    c.in_ok-push-in-Some-result_by.ensures.ok ∙ ap (and_maybe c.args.seat.now.results) (sym c.in-Some-result_by.is ∙ c.result_by.ensures) in
    subst (AllByRecursion (IsResultWithin after client)) (sym results)
    (gave_within after (g.S.Attempts.clients c.args.store.now) c.args.number.0 client c.in-Some.txn.now.update c.args.seat.now.place c.in_ok-gave.gave c.args.seat.now.results c.requires.there
    (subst (λ (k : g.S.Attempts.Constants). GivesWithin (g.S.Attempts.bounds k) (g.S.Attempts.clients c.args.store.now) c.args.number.0 c.in_ok-gave.gave) (sym c.execute.ensures.constants) c.in_ok-gave.ensures.bounded)
    (subst (λ (k : g.S.Attempts.Constants). AllByRecursion (IsResultWithin (g.S.Attempts.bounds k) client) c.args.seat.now.results) (sym c.execute.ensures.constants) c.requires.within))

pub returns-in-None-clause-within : goal.returns-in-None-clause-within
returns-in-None-clause-within g c =
    subst (λ (k : g.S.Attempts.Constants). AllByRecursion (IsResultWithin (g.S.Attempts.bounds k) c.args.client.now) c.args.seat.now.results) (sym c.execute.ensures.constants) c.requires.within
