use Rattle.std.proofs.Common.{⊎_elim, length}
use Rattle.ostore_base.proofs.RecordLemmas.{kept_twice, torn_time, written_time, either}
use Rattle.ostore_base.proofs.memory.disk.MemDiskDisk.write.Goals as goal

pub returns-then-is_err-clause-time : goal.returns-then-is_err-clause-time
returns-then-is_err-clause-time c =
    torn_time _ _ _ c.begin_call.ensures.kept c.args.at (length c.args.bytes.now) c.tear.ensures.recorded

pub returns-clause-time : goal.returns-clause-time
returns-clause-time c =
    let before = c.begin_call.ensures.kept in
    let done = either c.put.result _ _ c.put.ensures.recorded c.put.ensures.kept in
    ⊎_elim (λ written. written_time _ _ _ before c.args.at c.args.bytes.now written) (λ after. kept_twice _ _ _ before after) done
