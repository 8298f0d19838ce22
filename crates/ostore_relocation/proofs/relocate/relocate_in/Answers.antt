use Rattle.std.proofs.Common.{ap}
use Rattle.std.specs.Prelude.{is_ok}
use Rattle.ostore_relocation.proofs.FormLaws.{comes_in, have_after, reserves_keep}
use Rattle.ostore_relocation.specs.Reserving.{pages_wanted}
use Rattle.ostore_relocation.proofs.relocate.relocate_in.Goals as goal

pub returns-in_err-reserve_page-clause-kept : goal.returns-in_err-reserve_page-clause-kept
returns-in_err-reserve_page-clause-kept g c = reserves_keep (g.M.Mapper.choice c.args.mapper.now) c.args.space.now c.reserve_page.new.space (pages_wanted c.args.schema.now c.args.page c.args.image.now.bytes) c.reserve_page.result c.reserve_page.ensures

pub returns-clause-kept : goal.returns-clause-kept
returns-clause-kept g c = reserves_keep (g.M.Mapper.choice c.args.mapper.now) c.args.space.now c.reserve_page.new.space (pages_wanted c.args.schema.now c.args.page c.args.image.now.bytes) c.reserve_page.result c.reserve_page.ensures

pub returns-clause-comes : goal.returns-clause-comes
returns-clause-comes g c = comes_in c.reserve_page.new.space.pages c.args.schema.now c.args.page.0 c.args.image.now.bytes c.change_page.new.image.bytes c.image_is_whole.ensures c.frames_are_paired.ensures.all c.requires.fit
    (have_after (g.M.Mapper.choice c.args.mapper.now) c.args.space.now c.reserve_page.new.space c.args.page c.args.schema.now c.args.page.0 c.args.image.now.bytes c.reserve_page.result c.reserve_page.ensures (ap is_ok c.in_ok-reserve_page.was))
    c.image_is_bytes.ensures c.change_page.ensures
