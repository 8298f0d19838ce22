use Rattle.std.proofs.Common.{subst}
use Rattle.ostore_address_space.specs.Frames.{Frames, ArePaired}
use Rattle.ostore_address_space.proofs.PairLaws.{paired}
use Rattle.ostore_address_space.proofs.space.frames_are_paired.Goals as goal

pub returns : goal.returns
returns c = subst (λ (s : Frames). ArePaired s.pages) c.space.view_is (paired c.space.inside.pages.items c.space.invariant.all)
