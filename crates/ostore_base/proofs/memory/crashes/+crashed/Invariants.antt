use Rattle.std.proofs.Common.{◌-◌, length}
use Rattle.ostore_base.proofs.memory.crashes.+crashed.Given as goal

abbrev pub decreases-crashed : goal.decreases-crashed
decreases-crashed l = length l.past.now.items - l.skip
