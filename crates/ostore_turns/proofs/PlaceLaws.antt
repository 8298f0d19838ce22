-- Where a client can be, and that it moves on.
use Rattle.std.proofs.Common.{◌≡◌, ◌+◌, ◌<◌, ◌≤◌, ℕ, zero, suc, Bool, true, false, cond, List, [], ◌∷◌, length, refl, sym, ap, ◌∙◌, arith, Some}
use Rattle.std.specs.List.{slice_get, sum_by}
use Rattle.std.proofs.lemmas.List.Sums.{sum_by-cons}
use Rattle.std.proofs.lemmas.Bool.{ltb-true, false≢true}
use Rattle.std.proofs.lemmas.Option.{none-some, same_Some, slice_get_within}
use Rattle.ostore_graph_model.specs.declared.commands.Txn.{Txn}
use Rattle.ostore_job_text.specs.declared.job.JobClient.{JobClient}
use Rattle.ostore_job_text.specs.RunnableJobs.{IsWithinLimits, lines_of}
use Rattle.ostore_run_report.specs.declared.results.Cause.{Cause}
use Rattle.ostore_run_report.specs.declared.results.Cause.TheVariants.{Busy, NoSpace, CacheFull, SpaceFull, Disk, Stopped}
use Rattle.ostore_turns.specs.declared.attempts.Gave.{Gave}
use Rattle.ostore_turns.specs.declared.attempts.Gave.TheVariants.{Going, Committed, Aborted, Failed}
use Rattle.ostore_turns.specs.declared.place.Place.{Place}
use Rattle.ostore_turns.specs.Places.{Moment, HasRoom, is_retried, moved, next_line, next_attempt, next_txn}
use Rattle.ostore_turns.specs.LawfulTurns.{MayGive}
use Rattle.ostore_turns.specs.inside.Steps.{IsFitPlace, rank}

-- there are no more transactions than lines
few_txns : (txns : List Txn) → length txns ≤ sum_by lines_of txns
few_txns [] = omega arith
few_txns (txn ∷ txns) =
    let more = few_txns txns in
    let all : sum_by lines_of (txn ∷ txns) ≡ lines_of txn + sum_by lines_of txns = sum_by-cons lines_of txn txns in
    omega (arith, more, all)

-- a transaction has no more lines than all of them
few_lines : (txns : List Txn) (n : ℕ) (txn : Txn) → slice_get txns n ≡ Some txn → lines_of txn ≤ sum_by lines_of txns
few_lines [] n txn there = absurd (none-some txn there)
few_lines (first ∷ txns) zero txn there = let same : lines_of first ≡ lines_of txn = ap lines_of (same_Some first txn there) in
    let all : sum_by lines_of (first ∷ txns) ≡ lines_of first + sum_by lines_of txns = sum_by-cons lines_of first txns in
    omega (arith, same, all)
few_lines (first ∷ txns) (suc n) txn there =
    let more = few_lines txns n txn there in
    let all : sum_by lines_of (first ∷ txns) ≡ lines_of first + sum_by lines_of txns = sum_by-cons lines_of first txns in
    omega (arith, more, all)

pub has_room : (client : JobClient) (at : Place) (txn : Txn) → IsWithinLimits client → IsFitPlace client at → slice_get client.txns at.txn ≡ Some txn → HasRoom at
has_room client at txn limits fits there =
    let all = limits.lines in
    let most = limits.tries in
    let few = few_txns client.txns in
    let low = fits.low in
    let line = fits.short in
    let tries = fits.tries in
    record { txn = omega arith; failed = omega arith; line = omega arith }

-- ---- moving on

-- a client can be at a place, which comes behind another
abbrev pub FitsLater : JobClient → Place → Place → Type 0
FitsLater client at then = IsFitPlace client then × (rank at < rank then)

line_fits : (client : JobClient) (at : Place) (txn : Txn) → IsWithinLimits client → IsFitPlace client at → slice_get client.txns at.txn ≡ Some txn → (at.line + 1 ≡ lines_of txn → ⊥) → FitsLater client at (next_line at)
line_fits client at txn limits fits there more =
    let all = limits.lines in
    let few = few_lines client.txns at.txn txn there in
    let line = fits.line txn there in
    let apart = more in
    let low : at.line + 1 < lines_of txn = grind (arith, apart, line) in (
      record {
        low = fits.low;
        tries = fits.tries;
        short = omega arith;
        line = λ other same. (let e : lines_of txn ≡ lines_of other = ap lines_of (same_Some txn other (sym there ∙ same)) in omega arith);
      },
      omega arith,
    )

txn_fits : (client : JobClient) (at : Place) (txn : Txn) → IsWithinLimits client → IsFitPlace client at → slice_get client.txns at.txn ≡ Some txn → FitsLater client at (next_txn at)
txn_fits client at txn limits fits there =
    let within = slice_get_within client.txns at.txn txn there in
    let some = limits.some in
    let most = limits.tries in
    let short = fits.short in
    let tries = fits.tries in
    (record { low = omega arith; tries = omega arith; short = omega arith; line = λ other same. omega arith }, omega arith)

attempt_fits : (client : JobClient) (at : Place) → IsFitPlace client at → at.failed + 1 < client.tries → FitsLater client at (next_attempt at)
attempt_fits client at fits left =
    let short = fits.short in
    (record { low = fits.low; tries = left; short = omega arith; line = λ other same. omega arith }, omega arith)

-- it is tried again only where tries are left
tries_left : (tries : ℕ) (at : Place) (cause : Cause) → is_retried tries at cause ≡ true → at.failed + 1 < tries
tries_left tries at (Busy page seen found) retried = ltb-true (at.failed + 1) tries retried
tries_left tries at (NoSpace segment need) retried = absurd (false≢true retried)
tries_left tries at (CacheFull used capacity) retried = absurd (false≢true retried)
tries_left tries at (SpaceFull frames) retried = absurd (false≢true retried)
tries_left tries at Disk retried = absurd (false≢true retried)
tries_left tries at (Stopped after) retried = absurd (false≢true retried)

either_fits : (client : JobClient) (at : Place) (retried : Bool) → (retried ≡ true → FitsLater client at (next_attempt at)) → FitsLater client at (next_txn at) → FitsLater client at (cond retried (next_attempt at) (next_txn at))
either_fits client at true again next = again refl
either_fits client at false again next = next

pub moved_fits : (clients : List JobClient) (before : Moment) (number : ℕ) (client : JobClient) (txn : Txn) (at : Place) (gave : Gave)
    → IsWithinLimits client → IsFitPlace client at → at ≡ before.places number → slice_get client.txns at.txn ≡ Some txn → MayGive clients before number txn gave
    → FitsLater client at (moved client.tries at gave)
moved_fits clients before number client txn at Going limits fits here there may = line_fits client at txn limits fits there (λ e. may (ap (λ (p : Place). p.line + 1) (sym here) ∙ e))
moved_fits clients before number client txn at (Committed commit replies) limits fits here there may = txn_fits client at txn limits fits there
moved_fits clients before number client txn at Aborted limits fits here there may = txn_fits client at txn limits fits there
moved_fits clients before number client txn at (Failed cause) limits fits here there may =
    either_fits client at (is_retried client.tries at cause) (λ retried. attempt_fits client at fits (tries_left client.tries at cause retried)) (txn_fits client at txn limits fits there)

-- ---- the greatest rank

pub rank_low : (client : JobClient) (at : Place) → IsWithinLimits client → IsFitPlace client at → rank at < 17592190242914304
rank_low client at limits fits =
    let all = limits.lines in
    let most = limits.tries in
    let few = few_txns client.txns in
    let low = fits.low in
    let short = fits.short in
    let tries = fits.tries in
    omega arith
