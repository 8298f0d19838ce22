use Rattle.std.proofs.Common.{arith}
use Rattle.ostore_segments.proofs.PutLaws.{plain_edit}
use Rattle.ostore_segments.proofs.schema_pages.put_bytes.Goals as goal

pub returns : goal.returns
returns c = plain_edit _ _ c.args.page.0 c.args.at c.from-start.result _ c.args.bytes.now _ c.page.result.now c.from-start.ensures (omega arith) c.page.ensures c.copy_from_slice.ensures.after c.set.ensures
