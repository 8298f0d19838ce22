-- The fields are unsigned numbers of their widths, so that what was written is read.
use Rattle.std.proofs.Common.{arith}
use Rattle.ostore_page_tags.proofs.bytes.ImageLaws.{IsHeaderWide, header_of-written}
use Rattle.ostore_page_tags.proofs.page_header.set_header.Goals as goal

pub returns-clause-read_back : goal.returns-clause-read_back
returns-clause-read_back c =
    let wide : IsHeaderWide c.args.header.now = record { kind = omega arith; segment = omega arith; rows = omega arith; end = omega arith; next = omega arith; last_serial = omega arith; last_page = omega arith } in
    header_of-written c.args.header.now c.args.image.now.bytes c.put_u8.new.image.bytes c.put_u8-2.new.image.bytes c.put_u16.new.image.bytes c.put_u16-2.new.image.bytes c.put_u32.new.image.bytes c.put_u32-2.new.image.bytes c.put_u32-3.new.image.bytes
    (omega arith) wide c.put_u8.ensures.written c.put_u8-2.ensures.written c.put_u16.ensures.written c.put_u16-2.ensures.written c.put_u32.ensures.written c.put_u32-2.ensures.written c.put_u32-3.ensures.written
