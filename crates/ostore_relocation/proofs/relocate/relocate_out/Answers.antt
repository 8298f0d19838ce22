use Rattle.ostore_relocation.proofs.FormLaws.{goes_out}
use Rattle.ostore_relocation.proofs.relocate.relocate_out.Goals as goal

pub returns : goal.returns
returns c = goes_out c.args.space.now.pages c.args.schema.now c.args.page.0 c.args.image.now.bytes c.change_page.new.image.bytes c.image_is_whole.ensures c.frames_are_paired.ensures.all c.requires.fit c.change_page.ensures
