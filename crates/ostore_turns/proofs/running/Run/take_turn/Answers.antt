use Rattle.std.proofs.Common.{◌≡◌, ◌<◌, refl, sym, subst, ℕ, Bool, true, length, get_or, List, Some, arith}
use Rattle.std.specs.List.{slice_get}
use Rattle.std.specs.Vec.{with_item}
use Rattle.ostore_job_text.specs.declared.job.JobClient.{JobClient}
use Rattle.ostore_turns.specs.declared.running.Run.{Run}
use Rattle.ostore_turns.specs.declared.seat.Seat.{Seat}
use Rattle.ostore_turns.specs.Places.{Moment}
use Rattle.ostore_turns.specs.inside.Steps.{AreSeated, AreWithin}
use Rattle.ostore_turns.proofs.RunLaws.{there_of, limits_at, passes_went, passes_stayed, one_stayed}
use Rattle.ostore_turns.proofs.TakeLaws.{went_one, went_last, stayed_by, seated_more, stayed_seated, spent_more, within_set}
use Rattle.ostore_turns.proofs.running.Run.take_turn.Goals as goal

abbrev with_seat : Run → ℕ → Seat → Bool → Run
with_seat run number seat stopped = record { seats = with_item run.seats number seat; stopped = stopped }

-- a client's seat
sits : (clients : List JobClient) (now : Moment) (run : Run) (number : ℕ) (seat : Seat) → AreSeated clients now run → number < length clients → seat ≡ get_or run.seats.items number seat → slice_get run.seats.items number ≡ Some seat
sits clients now run number seat seated low is = there_of run.seats.items run.seats.items number seat refl (let long = seated.long in omega (arith, long, low)) is

pub execute_next-requires-clause-fits : goal.execute_next-requires-clause-fits
execute_next-requires-clause-fits g c =
    c.requires.seated.fit c.args.number c.index-items-number.result c.index_mut-seat.result.now
    (there_of c.items.result.now c.args.job.now.clients c.args.number c.index-items-number.result c.items.ensures c.requires.there c.index-items-number.is)
    (sits c.args.job.now.clients (g.S.Attempts.moment c.args.store.now) c.args.self.now c.args.number c.index_mut-seat.result.now c.requires.seated c.requires.there c.index_mut-seat.ensures.value)

pub returns-in-NoTurn-clause-seated : goal.returns-in-NoTurn-clause-seated
returns-in-NoTurn-clause-seated g c =
    let job = c.args.job.now in
    let old = c.args.self.now in
    let seat = c.index_mut-seat.result.now in
    let new = with_seat old c.args.number c.execute_next.new.seat old.stopped in
    let before = g.S.Attempts.moment c.args.store.now in
    let after = g.S.Attempts.moment c.execute_next.new.store in
    let stayed = stayed_by job.clients (g.S.Attempts.clients c.args.store.now) before after old new c.args.number c.index-items-number.result seat c.execute_next.new.seat c.in_ok-execute_next.field-0
    (there_of c.items.result.now job.clients c.args.number c.index-items-number.result c.items.ensures c.requires.there c.index-items-number.is)
    (sits job.clients before old c.args.number seat c.requires.seated c.requires.there c.index_mut-seat.ensures.value)
    c.requires.seated refl refl c.in-NoTurn.is c.in_ok-execute_next.ensures.took in
    stayed_seated job.clients before after old new c.args.number stayed c.requires.seated

pub returns-in-NoTurn-clause-passes : goal.returns-in-NoTurn-clause-passes
returns-in-NoTurn-clause-passes g c =
    let job = c.args.job.now in
    let old = c.args.self.now in
    let seat = c.index_mut-seat.result.now in
    let new = with_seat old c.args.number c.execute_next.new.seat old.stopped in
    let before = g.S.Attempts.moment c.args.store.now in
    let after = g.S.Attempts.moment c.execute_next.new.store in
    let stayed = stayed_by job.clients (g.S.Attempts.clients c.args.store.now) before after old new c.args.number c.index-items-number.result seat c.execute_next.new.seat c.in_ok-execute_next.field-0
    (there_of c.items.result.now job.clients c.args.number c.index-items-number.result c.items.ensures c.requires.there c.index-items-number.is)
    (sits job.clients before old c.args.number seat c.requires.seated c.requires.there c.index_mut-seat.ensures.value)
    c.requires.seated refl refl c.in-NoTurn.is c.in_ok-execute_next.ensures.took in
    passes_stayed job before after old new c.args.number stayed

pub returns-in-NoTurn-clause-one : goal.returns-in-NoTurn-clause-one
returns-in-NoTurn-clause-one g c =
    let job = c.args.job.now in
    let old = c.args.self.now in
    let seat = c.index_mut-seat.result.now in
    let new = with_seat old c.args.number c.execute_next.new.seat old.stopped in
    let before = g.S.Attempts.moment c.args.store.now in
    let after = g.S.Attempts.moment c.execute_next.new.store in
    let stayed = stayed_by job.clients (g.S.Attempts.clients c.args.store.now) before after old new c.args.number c.index-items-number.result seat c.execute_next.new.seat c.in_ok-execute_next.field-0
    (there_of c.items.result.now job.clients c.args.number c.index-items-number.result c.items.ensures c.requires.there c.index-items-number.is)
    (sits job.clients before old c.args.number seat c.requires.seated c.requires.there c.index_mut-seat.ensures.value)
    c.requires.seated refl refl c.in-NoTurn.is c.in_ok-execute_next.ensures.took in
    one_stayed job.clients before after old new c.args.number stayed

pub returns-in-OneTurn-clause-seated : goal.returns-in-OneTurn-clause-seated
returns-in-OneTurn-clause-seated g c =
    let job = c.args.job.now in
    let old = c.args.self.now in
    let seat = c.index_mut-seat.result.now in
    let new = with_seat old c.args.number c.execute_next.new.seat old.stopped in
    let before = g.S.Attempts.moment c.args.store.now in
    let after = g.S.Attempts.moment c.execute_next.new.store in
    let there = there_of c.items.result.now job.clients c.args.number c.index-items-number.result c.items.ensures c.requires.there c.index-items-number.is in
    let went = went_one job.clients (g.S.Attempts.clients c.args.store.now) before after old new c.args.number c.index-items-number.result seat c.execute_next.new.seat c.in_ok-execute_next.field-0
    there (sits job.clients before old c.args.number seat c.requires.seated c.requires.there c.index_mut-seat.ensures.value)
    c.if-self.false refl c.if-self.false c.requires.clients c.in-OneTurn.is c.in_ok-execute_next.ensures.took in
    seated_more job.clients before after old new c.args.number went c.requires.seated (limits_at job.clients c.args.number went.client c.requires.job.clients went.there)

pub returns-in-OneTurn-clause-passes : goal.returns-in-OneTurn-clause-passes
returns-in-OneTurn-clause-passes g c =
    let job = c.args.job.now in
    let old = c.args.self.now in
    let seat = c.index_mut-seat.result.now in
    let new = with_seat old c.args.number c.execute_next.new.seat old.stopped in
    let before = g.S.Attempts.moment c.args.store.now in
    let after = g.S.Attempts.moment c.execute_next.new.store in
    let there = there_of c.items.result.now job.clients c.args.number c.index-items-number.result c.items.ensures c.requires.there c.index-items-number.is in
    let went = went_one job.clients (g.S.Attempts.clients c.args.store.now) before after old new c.args.number c.index-items-number.result seat c.execute_next.new.seat c.in_ok-execute_next.field-0
    there (sits job.clients before old c.args.number seat c.requires.seated c.requires.there c.index_mut-seat.ensures.value)
    c.if-self.false refl c.if-self.false c.requires.clients c.in-OneTurn.is c.in_ok-execute_next.ensures.took in
    passes_went job before after old new c.args.number went c.requires.seated

pub returns-in-OneTurn-clause-one : goal.returns-in-OneTurn-clause-one
returns-in-OneTurn-clause-one g c =
    let job = c.args.job.now in
    let old = c.args.self.now in
    let seat = c.index_mut-seat.result.now in
    let new = with_seat old c.args.number c.execute_next.new.seat old.stopped in
    let before = g.S.Attempts.moment c.args.store.now in
    let after = g.S.Attempts.moment c.execute_next.new.store in
    let there = there_of c.items.result.now job.clients c.args.number c.index-items-number.result c.items.ensures c.requires.there c.index-items-number.is in
    let went = went_one job.clients (g.S.Attempts.clients c.args.store.now) before after old new c.args.number c.index-items-number.result seat c.execute_next.new.seat c.in_ok-execute_next.field-0
    there (sits job.clients before old c.args.number seat c.requires.seated c.requires.there c.index_mut-seat.ensures.value)
    c.if-self.false refl c.if-self.false c.requires.clients c.in-OneTurn.is c.in_ok-execute_next.ensures.took in
    spent_more job.clients before after old new c.args.number went c.requires.seated (limits_at job.clients c.args.number went.client c.requires.job.clients went.there)

pub returns-in-LastTurn-clause-seated : goal.returns-in-LastTurn-clause-seated
returns-in-LastTurn-clause-seated g c =
    let job = c.args.job.now in
    let old = c.args.self.now in
    let seat = c.index_mut-seat.result.now in
    let new = with_seat old c.args.number c.execute_next.new.seat true in
    let before = g.S.Attempts.moment c.args.store.now in
    let after = g.S.Attempts.moment c.execute_next.new.store in
    let there = there_of c.items.result.now job.clients c.args.number c.index-items-number.result c.items.ensures c.requires.there c.index-items-number.is in
    let went = went_last job.clients (g.S.Attempts.clients c.args.store.now) before after old new c.args.number c.index-items-number.result seat c.execute_next.new.seat c.in_ok-execute_next.field-0
    there (sits job.clients before old c.args.number seat c.requires.seated c.requires.there c.index_mut-seat.ensures.value)
    c.if-self.false refl refl c.requires.clients c.in-LastTurn.is c.in_ok-execute_next.ensures.took in
    seated_more job.clients before after old new c.args.number went c.requires.seated (limits_at job.clients c.args.number went.client c.requires.job.clients went.there)

pub returns-in-LastTurn-clause-passes : goal.returns-in-LastTurn-clause-passes
returns-in-LastTurn-clause-passes g c =
    let job = c.args.job.now in
    let old = c.args.self.now in
    let seat = c.index_mut-seat.result.now in
    let new = with_seat old c.args.number c.execute_next.new.seat true in
    let before = g.S.Attempts.moment c.args.store.now in
    let after = g.S.Attempts.moment c.execute_next.new.store in
    let there = there_of c.items.result.now job.clients c.args.number c.index-items-number.result c.items.ensures c.requires.there c.index-items-number.is in
    let went = went_last job.clients (g.S.Attempts.clients c.args.store.now) before after old new c.args.number c.index-items-number.result seat c.execute_next.new.seat c.in_ok-execute_next.field-0
    there (sits job.clients before old c.args.number seat c.requires.seated c.requires.there c.index_mut-seat.ensures.value)
    c.if-self.false refl refl c.requires.clients c.in-LastTurn.is c.in_ok-execute_next.ensures.took in
    passes_went job before after old new c.args.number went c.requires.seated

pub returns-in-LastTurn-clause-one : goal.returns-in-LastTurn-clause-one
returns-in-LastTurn-clause-one g c =
    let job = c.args.job.now in
    let old = c.args.self.now in
    let seat = c.index_mut-seat.result.now in
    let new = with_seat old c.args.number c.execute_next.new.seat true in
    let before = g.S.Attempts.moment c.args.store.now in
    let after = g.S.Attempts.moment c.execute_next.new.store in
    let there = there_of c.items.result.now job.clients c.args.number c.index-items-number.result c.items.ensures c.requires.there c.index-items-number.is in
    let went = went_last job.clients (g.S.Attempts.clients c.args.store.now) before after old new c.args.number c.index-items-number.result seat c.execute_next.new.seat c.in_ok-execute_next.field-0
    there (sits job.clients before old c.args.number seat c.requires.seated c.requires.there c.index_mut-seat.ensures.value)
    c.if-self.false refl refl c.requires.clients c.in-LastTurn.is c.in_ok-execute_next.ensures.took in
    spent_more job.clients before after old new c.args.number went c.requires.seated (limits_at job.clients c.args.number went.client c.requires.job.clients went.there)

pub returns-in-NoTurn-clause-within : goal.returns-in-NoTurn-clause-within
returns-in-NoTurn-clause-within g c =
    let job = c.args.job.now in
    let old = c.args.self.now in
    let seat = c.index_mut-seat.result.now in
    let new = with_seat old c.args.number c.execute_next.new.seat old.stopped in
    let kept = subst (λ (k : g.S.Attempts.Constants). AreWithin (g.S.Attempts.bounds k) job.clients old) (sym c.execute_next.ensures.constants) c.requires.within in
    within_set (g.S.Attempts.bounds (g.S.Attempts.constants c.execute_next.new.store)) job.clients old new c.args.number c.index-items-number.result seat c.execute_next.new.seat
    (there_of c.items.result.now job.clients c.args.number c.index-items-number.result c.items.ensures c.requires.there c.index-items-number.is)
    (sits job.clients (g.S.Attempts.moment c.args.store.now) old c.args.number seat c.requires.seated c.requires.there c.index_mut-seat.ensures.value)
    refl c.in_ok-execute_next.ensures.within kept

pub returns-in-OneTurn-clause-within : goal.returns-in-OneTurn-clause-within
returns-in-OneTurn-clause-within g c =
    let job = c.args.job.now in
    let old = c.args.self.now in
    let seat = c.index_mut-seat.result.now in
    let new = with_seat old c.args.number c.execute_next.new.seat old.stopped in
    let kept = subst (λ (k : g.S.Attempts.Constants). AreWithin (g.S.Attempts.bounds k) job.clients old) (sym c.execute_next.ensures.constants) c.requires.within in
    within_set (g.S.Attempts.bounds (g.S.Attempts.constants c.execute_next.new.store)) job.clients old new c.args.number c.index-items-number.result seat c.execute_next.new.seat
    (there_of c.items.result.now job.clients c.args.number c.index-items-number.result c.items.ensures c.requires.there c.index-items-number.is)
    (sits job.clients (g.S.Attempts.moment c.args.store.now) old c.args.number seat c.requires.seated c.requires.there c.index_mut-seat.ensures.value)
    refl c.in_ok-execute_next.ensures.within kept

pub returns-in-LastTurn-clause-within : goal.returns-in-LastTurn-clause-within
returns-in-LastTurn-clause-within g c =
    let job = c.args.job.now in
    let old = c.args.self.now in
    let seat = c.index_mut-seat.result.now in
    let new = with_seat old c.args.number c.execute_next.new.seat true in
    let kept = subst (λ (k : g.S.Attempts.Constants). AreWithin (g.S.Attempts.bounds k) job.clients old) (sym c.execute_next.ensures.constants) c.requires.within in
    within_set (g.S.Attempts.bounds (g.S.Attempts.constants c.execute_next.new.store)) job.clients old new c.args.number c.index-items-number.result seat c.execute_next.new.seat
    (there_of c.items.result.now job.clients c.args.number c.index-items-number.result c.items.ensures c.requires.there c.index-items-number.is)
    (sits job.clients (g.S.Attempts.moment c.args.store.now) old c.args.number seat c.requires.seated c.requires.there c.index_mut-seat.ensures.value)
    refl c.in_ok-execute_next.ensures.within kept

pub execute_next-requires-clause-within : goal.execute_next-requires-clause-within
execute_next-requires-clause-within g c =
    c.requires.within c.args.number c.index-items-number.result c.index_mut-seat.result.now
    (there_of c.items.result.now c.args.job.now.clients c.args.number c.index-items-number.result c.items.ensures c.requires.there c.index-items-number.is)
    (sits c.args.job.now.clients (g.S.Attempts.moment c.args.store.now) c.args.self.now c.args.number c.index_mut-seat.result.now c.requires.seated c.requires.there c.index_mut-seat.ensures.value)
