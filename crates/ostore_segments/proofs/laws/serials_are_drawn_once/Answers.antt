use Rattle.ostore_segments.proofs.SerialLaws.{drawn_later}
use Rattle.ostore_segments.proofs.laws.serials_are_drawn_once.Goals as goal

pub returns : goal.returns
returns c = λ early late one two. drawn_later c.args.first.now c.args.second.now c.args.third.now c.args.fourth.now c.args.segment early late c.requires.segment c.requires.kept one two
