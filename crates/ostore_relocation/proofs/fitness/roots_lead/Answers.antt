use Rattle.std.proofs.Common.{refl}
use Rattle.ostore_relocation.specs.Places.{root_pointers}
use Rattle.ostore_relocation.proofs.RootLaws.{roots_are}
use Rattle.ostore_relocation.proofs.FitLaws.{decides_start}
use Rattle.ostore_relocation.proofs.fitness.roots_lead.Goals as goal

pub loop-i-init : goal.loop-i-init
loop-i-init c = decides_start c.args.image.now.bytes _ (root_pointers c.args.image.now.bytes) (roots_are c.args.image.now.bytes 101 refl)
