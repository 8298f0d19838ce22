use Rattle.ostore_relocation.proofs.BesideLaws.{puts_beside}
use Rattle.ostore_relocation.proofs.laws.bytes_are_stored.Goals as goal

pub returns : goal.returns
returns c = puts_beside c.args.space.now.pages c.args.schema.now c.args.page.0 c.args.at c.args.bytes.now c.args.image.now.bytes c.frames_are_paired.ensures.all c.requires.resident c.requires.beside
