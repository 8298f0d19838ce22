use Rattle.ostore_segments.proofs.RoomLaws.{full_or_placed}
use Rattle.ostore_segments.proofs.laws.a_full_segment_has_no_place.Goals as goal

pub returns : goal.returns
returns c = λ later page placed. full_or_placed c.args.list.now later c.args.segment c.args.need page c.requires.full placed
