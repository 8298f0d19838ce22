-- What the disk read as before the newest calls.
use Rattle.std.proofs.Common.{◌≡◌, ◌≤◌, length, drop}
use Rattle.ostore_base.specs.MemoryDisk.{content_after}
use Rattle.ostore_base.proofs.memory.crashes.content_before.Given as goal

abbrev pub invariant-loop-call : goal.invariant-loop-call
invariant-loop-call l = record {
  above : l.skip ≤ l.call;
  within : l.call ≤ length l.past.items;
  held : l.held.items ≡ content_after l.first (drop l.call l.past.items);
}

abbrev pub decreases-loop-call : goal.decreases-loop-call
decreases-loop-call l = l.call
