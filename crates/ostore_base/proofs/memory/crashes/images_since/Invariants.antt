-- The images so far are ones that a crash might have left, and all those of the moments so far.
use Rattle.std.proofs.Common.{All}
use Rattle.ostore_base.specs.MemoryDisk.{LeftSince}
use Rattle.ostore_base.proofs.CrashLemmas.{TriedBefore}
use Rattle.ostore_base.proofs.memory.crashes.images_since.Given as goal

abbrev pub invariant-loop-moment : goal.invariant-loop-moment
invariant-loop-moment l = record {
  left : All (LeftSince l.first l.past.items l.since) l.images;
  tried : TriedBefore l.first l.past.items l.since l.filler l.moment l.images;
}
