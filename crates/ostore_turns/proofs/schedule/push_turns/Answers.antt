use Rattle.std.proofs.Common.{◌++◌, ◌-◌, ◌∙◌, List, replicate, subst, sym, ap, arith}
use Rattle.ostore_job_text.specs.declared.job.JobTurn.{JobTurn}
use Rattle.ostore_turns.specs.Schedules.{entry_clients}
use Rattle.ostore_turns.specs.inside.Entries.{KeepsLawful}
use Rattle.ostore_turns.proofs.EntryLaws.{entries_more, lawful_more}
use Rattle.ostore_turns.proofs.schedule.push_turns.Goals as goal

pub loop-left-preserved : goal.loop-left-preserved
loop-left-preserved c =
    let entry : JobTurn = record { client = c.args.client; count = c.min-next.result } in
    let turns = c.loop-left.turns in
    let left = c.loop-left.left in
    let more = c.loop-left-test.true in
    let is = c.min-next.ensures in
    let low = c.loop-left.invariant.low in
    let pushed = c.in_ok-push.ensures.ok in
    record {
      low = omega (arith, low);
      all = ap (λ (l : List JobTurn). entry_clients l ++ replicate (left - c.min-next.result) c.args.client.0) pushed ∙ entries_more turns entry left (omega (arith, is)) ∙ c.loop-left.invariant.all;
      lawful = subst (KeepsLawful c.args.client.0 c.args.turns.now) (sym pushed) (lawful_more c.args.turns.now turns entry (omega (arith, is, more)) (omega (arith, is)) c.loop-left.invariant.lawful);
    }
