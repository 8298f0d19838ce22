use Rattle.ostore_relocation.proofs.MoreFrames.{stored_so}
use Rattle.ostore_relocation.proofs.laws.more_frames_store_the_same.Goals as goal

pub returns : goal.returns
returns c = λ earlier page bytes more is. stored_so earlier c.args.space.now.pages c.args.schema.now page bytes more is
