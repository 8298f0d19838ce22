use Rattle.ostore_page_tags.proofs.parts.ApartLaws.{IsPage-AreApart}
use Rattle.ostore_page_tags.proofs.laws.cells_are_apart.Goals as goal

pub returns : goal.returns
returns c = IsPage-AreApart c.args.image.now.bytes c.requires
