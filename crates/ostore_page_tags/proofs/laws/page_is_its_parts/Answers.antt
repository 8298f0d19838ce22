use Rattle.ostore_page_tags.proofs.parts.ApartLaws.{IsPage-parts}
use Rattle.ostore_page_tags.proofs.laws.page_is_its_parts.Goals as goal

pub returns : goal.returns
returns c = IsPage-parts c.args.image.now.bytes c.requires
