use Rattle.ostore_page_tags.proofs.allocation.PlainPages.{plain_made}
use Rattle.ostore_page_tags.proofs.fresh.plain_page.Goals as goal

pub returns : goal.returns
returns c = plain_made c.args.kind c.args.next c.zeroed-image.result.bytes c.set_header.new.image c.zeroed-image.ensures c.set_header.ensures.written
