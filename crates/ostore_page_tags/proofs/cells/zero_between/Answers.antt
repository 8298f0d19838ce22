use Rattle.std.proofs.Common.{arith}
use Rattle.ostore_page_tags.proofs.bytes.ImageLaws.{put_mid-zeros}
use Rattle.ostore_page_tags.proofs.cells.zero_between.Goals as goal

pub returns : goal.returns
returns c = put_mid-zeros c.args.start c.args.stop c.args.image.now.bytes c.zero.new.bytes c.requires.order (omega arith) c.zero.ensures
