use Rattle.ostore_relocation.proofs.tests.comes_beside.Goals as goal

pub returns : goal.returns
returns g c = c.more_frames_store_the_same.ensures c.args.space.now.pages c.args.own.0 c.args.held.now.bytes c.relocate_in-answer.ensures.kept c.requires.resident
