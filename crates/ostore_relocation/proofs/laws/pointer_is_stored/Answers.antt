use Rattle.ostore_relocation.proofs.PointLaws.{puts_pointer}
use Rattle.ostore_relocation.proofs.laws.pointer_is_stored.Goals as goal

pub returns : goal.returns
returns c = puts_pointer c.args.space.now.pages c.args.schema.now c.args.page.0 c.args.at c.args.pointer c.args.image.now.bytes c.requires.resident c.requires.there c.ranges.pointer.fits c.requires.leads
