use Rattle.std.proofs.Common.{◌∙◌, ap}
use Rattle.byteorder.specs.Endian.{little_bytes}
use Rattle.ostore_base.specs.Disk.{replaced}
use Rattle.ostore_segments.proofs.RootLaws.{row_made}
use Rattle.ostore_segments.proofs.schema_pages.root_row.Goals as goal

pub returns : goal.returns
returns c =
    c.put-3.ensures ∙ ap (λ bytes. replaced 32 bytes c.put-2.new.row) c.to_le_bytes.ensures
    ∙ ap (replaced 32 (little_bytes 4 c.args.pointer)) (c.put-2.ensures ∙ ap (replaced 1 c.args.name.now) c.put.ensures)
    ∙ row_made c.args.name.now c.args.pointer c.requires.short
