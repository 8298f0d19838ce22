use Rattle.ostore_relocation.proofs.RootRowLaws.{puts_root}
use Rattle.ostore_relocation.proofs.laws.root_row_is_stored.Goals as goal

pub returns : goal.returns
returns c = puts_root c.args.space.now.pages c.args.schema.now c.args.i c.args.row.now c.args.image.now.bytes c.requires.resident c.requires.there c.requires.whole c.requires.leads
