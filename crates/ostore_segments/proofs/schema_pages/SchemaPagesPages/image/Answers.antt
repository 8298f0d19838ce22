use Rattle.ostore_segments.proofs.SeenLaws.{seen_itself}
use Rattle.ostore_segments.proofs.schema_pages.SchemaPagesPages.image.Goals as goal

pub returns : goal.returns
returns c = λ begun list there below. seen_itself _ c.args.self.now.pages list c.args.page.0 c.page.result.now c.page.ensures there
