use Rattle.std.proofs.Common.{◌-◌, arith}
use Rattle.byteorder.specs.Endian.{little_bytes}
use Rattle.ostore_page_tags.proofs.bytes.NumberLaws.{put_mid-replaced}
use Rattle.ostore_relocation.proofs.pointer.put_pointer.Goals as goal

pub returns : goal.returns
returns c = put_mid-replaced c.args.at (4096 - c.args.at) c.args.image.now.bytes (little_bytes 4 c.args.pointer) c.set_first_pointer.new.bytes (omega arith) c.set_first_pointer.ensures
