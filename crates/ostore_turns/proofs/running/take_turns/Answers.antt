use Rattle.std.proofs.Common.{◌≡◌, ◌+◌, ◌*◌, ◌<◌, ◌≤◌, ◌∙◌, ℕ, Bool, false, List, length, take, get_or, refl, sym, ap, subst, arith, Some}
use Rattle.std.specs.List.{slice_get}
use Rattle.std.proofs.lemmas.List.{take_all}
use Rattle.std.proofs.lemmas.Option.{slice_get-get_or}
use Rattle.ostore_job_text.specs.declared.job.JobTurn.{JobTurn}
use Rattle.ostore_turns.specs.Bounds.{AreBounded}
use Rattle.ostore_turns.specs.inside.Steps.{AreTurns, HasCome, Passes, spent}
use Rattle.ostore_turns.specs.Schedules.{entry_clients}
use Rattle.ostore_turns.proofs.RunLaws.{first_seated, first_within, first_come, entry_passed, round_passed, is_run, are_bounded, spent_low}
use Rattle.ostore_turns.proofs.DiskLaws.{disk_may_fail}
use Rattle.ostore_turns.proofs.running.take_turns.Goals as goal

pub loop-entry-init : goal.loop-entry-init
loop-entry-init g c = record {
  clients = c.requires.clients;
  constants = refl;
  ready = c.requires.ready;
  within = first_within (g.S.Attempts.bounds (g.S.Attempts.constants c.args.store.now)) c.args.job.now.clients c.in_ok-run.run' c.in_ok-run.ensures.first;
  seated = first_seated c.args.job.now.clients (g.S.Attempts.moment c.args.store.now) c.in_ok-run.run' c.requires.fresh c.in_ok-run.ensures.first c.requires.job.clients;
  come = first_come c.args.job.now (g.S.Attempts.moment c.args.store.now) c.in_ok-run.run' c.in_ok-run.ensures.first c.in_ok-run.ensures.goes;
}

pub loop-entry-preserved : goal.loop-entry-preserved
loop-entry-preserved g c = record {
  clients = c.take_turns_of.ensures.clients ∙ c.loop-entry.invariant.clients;
  constants = c.take_turns_of.ensures.constants ∙ c.loop-entry.invariant.constants;
  ready = c.in_ok-take_turns_of.ensures.ready;
  within = c.in_ok-take_turns_of.ensures.within;
  seated = c.in_ok-take_turns_of.ensures.seated;
  come =
      (let entries = c.items-entry-items.result.now in
      let entry : JobTurn = get_or entries c.loop-entry.entry-index (record { client = record { 0 = 0 }; count = 0 }) in
      let there : slice_get c.args.job.now.turns c.loop-entry.entry-index ≡ Some entry =
      ap (λ (l : List JobTurn). slice_get l c.loop-entry.entry-index) (sym c.items-entry-items.ensures) ∙ slice_get-get_or entries c.loop-entry.entry-index (record { client = record { 0 = 0 }; count = 0 }) c.loop-entry-test.true in
      entry_passed c.args.job.now (g.S.Attempts.moment c.args.store.now) c.loop-entry.entry-index entry
      (g.S.Attempts.moment c.loop-entry.store) (g.S.Attempts.moment c.take_turns_of.new.store) c.loop-entry.run c.take_turns_of.new.self there
      (subst (λ (n : ℕ). Passes c.args.job.now entry.count (λ k. n) (g.S.Attempts.moment c.loop-entry.store) c.loop-entry.run (g.S.Attempts.moment c.take_turns_of.new.store) c.take_turns_of.new.self) c.from.ensures c.in_ok-take_turns_of.ensures.passes)
      c.loop-entry.invariant.come);
}

pub loop-run-init : goal.loop-run-init
loop-run-init g c = record {
  clients = c.loop-entry.invariant.clients;
  constants = c.loop-entry.invariant.constants;
  ready = c.loop-entry.invariant.ready;
  within = c.loop-entry.invariant.within;
  seated = c.loop-entry.invariant.seated;
  come = record {
    rounds = 0;
    come =
        (let turns = c.args.job.now.turns in
        let past : length turns ≤ c.loop-entry.entry-index = subst (λ (l : List JobTurn). length l ≤ c.loop-entry.entry-index) c.items-entry-items.ensures c.loop-entry-test.false in
        let all : take c.loop-entry.entry-index turns ≡ turns = take_all c.loop-entry.entry-index turns past in
        let e : length (entry_clients turns) ≡ length (entry_clients turns) + 0 * length c.args.job.now.clients = omega arith in
        subst (λ (n : ℕ). HasCome c.args.job.now (g.S.Attempts.moment c.args.store.now) n (g.S.Attempts.moment c.loop-entry.store) c.loop-entry.run)
        (ap (λ (l : List JobTurn). length (entry_clients l)) all ∙ e) c.loop-entry.invariant.come);
  };
}

pub loop-run-preserved : goal.loop-run-preserved
loop-run-preserved g c = record {
  clients = c.take_round.ensures.clients ∙ c.loop-run.invariant.clients;
  constants = c.take_round.ensures.constants ∙ c.loop-run.invariant.constants;
  ready = c.in_ok-take_round.ensures.ready;
  within = c.in_ok-take_round.ensures.within;
  seated = c.in_ok-take_round.ensures.seated;
  come = round_passed c.args.job.now (g.S.Attempts.moment c.args.store.now) (g.S.Attempts.moment c.loop-run.store) (g.S.Attempts.moment c.take_round.new.store) c.loop-run.run c.take_round.new.self
      c.in_ok-take_round.ensures.passes c.loop-run.invariant.come;
}

pub loop-run-smaller : goal.loop-run-smaller
loop-run-smaller g c =
    let job = c.args.job.now in
    let later : spent c.loop-run.run < spent c.take_round.new.self =
    subst (λ (took : Bool). AreTurns job.clients (length job.clients) took c.loop-run.run (g.S.Attempts.moment c.take_round.new.store) c.take_round.new.self) c.if-branch.true c.in_ok-take_round.ensures.turns in
    let low = spent_low job.clients (g.S.Attempts.moment c.take_round.new.store) c.take_round.new.self c.requires.job.few c.requires.job.clients c.in_ok-take_round.ensures.seated in
    omega (arith, later, low)

-- what is said of the run
by_turns : goal.returns-clause-run
by_turns g c =
    let job = c.args.job.now in
    let now = g.S.Attempts.moment c.take_round.new.store in
    let run = c.take_round.new.self in
    let rounds = round_passed job (g.S.Attempts.moment c.args.store.now) (g.S.Attempts.moment c.loop-run.store) now c.loop-run.run run c.in_ok-take_round.ensures.passes c.loop-run.invariant.come in
    let turns : AreTurns job.clients (length job.clients) false c.loop-run.run now run =
    subst (λ (took : Bool). AreTurns job.clients (length job.clients) took c.loop-run.run now run) c.if-branch.false c.in_ok-take_round.ensures.turns in
    is_run job (g.S.Attempts.moment c.args.store.now) now run c.in_ok-results.results rounds c.in_ok-take_round.ensures.seated turns.1 c.in_ok-results.ensures

within : goal.returns-clause-bounded
within g c =
    let job = c.args.job.now in
    let constants : g.S.Attempts.constants c.take_round.new.store ≡ g.S.Attempts.constants c.args.store.now = c.take_round.ensures.constants ∙ c.loop-run.invariant.constants in
    subst (λ (k : g.S.Attempts.Constants). AreBounded (g.S.Attempts.bounds k) job.clients c.in_ok-results.results) constants
    (are_bounded (g.S.Attempts.bounds (g.S.Attempts.constants c.take_round.new.store)) job.clients (g.S.Attempts.moment c.take_round.new.store) c.take_round.new.self c.in_ok-results.results
    c.in_ok-take_round.ensures.seated c.in_ok-take_round.ensures.within c.in_ok-results.ensures)

pub returns-clause-run : goal.returns-clause-run
returns-clause-run = by_turns

pub returns-clause-bounded : goal.returns-clause-bounded
returns-clause-bounded = within

pub returns-clause-failed : goal.returns-clause-failed
returns-clause-failed g c =
    disk_may_fail c.args.job.now (g.S.Attempts.moment c.args.store.now) (g.S.Attempts.moment c.take_round.new.store) (record { results = c.in_ok-results.results; disk_failed = c.take_round.new.self.stopped })
    (g.S.Attempts.bounds (g.S.Attempts.constants c.args.store.now)) (by_turns g c) (within g c)
