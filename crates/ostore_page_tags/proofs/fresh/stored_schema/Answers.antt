use Rattle.std.proofs.Common.{vec_len}
use Rattle.ostore_page_tags.proofs.allocation.FreshPages.{stored_made}
use Rattle.ostore_page_tags.proofs.fresh.stored_schema.Goals as goal

pub returns : goal.returns
returns c =
    stored_made c.args.text.now c.to_le_bytes.result c.new-held.result.items c.extend_from_slice.new.self.items c.extend_from_slice-2.new.self.items c.resize.new.self.items
    (vec_len c.new-held.result) (vec_len c.extend_from_slice.new.self) (vec_len c.extend_from_slice-2.new.self)
    c.new-held.ensures.items c.to_le_bytes.ensures c.in_ok-extend_from_slice.ensures.items c.in_ok-extend_from_slice-2.ensures.items
    c.new-held.ensures.len c.in_ok-extend_from_slice.ensures.len c.in_ok-extend_from_slice-2.ensures.len c.in_ok-resize.ensures.items c.requires
