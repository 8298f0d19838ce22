use Rattle.ostore_relocation.proofs.RowPointers.{one_of_page}
use Rattle.ostore_relocation.proofs.laws.row_has_pointer.Goals as goal

pub returns : goal.returns
returns c = one_of_page c.args.schema.now c.args.page.0 c.args.image.now.bytes c.args.i c.args.row c.args.at c.requires.objects c.requires.row c.requires.live c.requires.pointer
