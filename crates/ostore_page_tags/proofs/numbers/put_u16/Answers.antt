use Rattle.std.proofs.Common.{◌-◌, ◌∙◌, ap, arith}
use Rattle.byteorder.specs.Endian.{little_bytes}
use Rattle.ostore_base.specs.declared.page.TheConstants.{PAGE_SIZE}
use Rattle.ostore_page_tags.specs.Numbers.{number_at}
use Rattle.ostore_page_tags.proofs.bytes.ImageLaws.{number_at-with_number}
use Rattle.ostore_page_tags.proofs.bytes.NumberLaws.{put_mid-replaced}
use Rattle.ostore_page_tags.proofs.numbers.put_u16.Goals as goal

pub returns-clause-written : goal.returns-clause-written
returns-clause-written c = put_mid-replaced c.args.at (PAGE_SIZE - c.args.at) c.args.image.now.bytes (little_bytes 2 c.args.value) c.write_u16.new.buf (omega arith) c.write_u16.ensures

pub returns-clause-read_back : goal.returns-clause-read_back
returns-clause-read_back c =
    ap (number_at 2 c.args.at) (returns-clause-written c)
    ∙ number_at-with_number 2 c.args.at c.args.value c.args.image.now.bytes (omega arith) (omega (arith, c.image_is_whole.ensures))
