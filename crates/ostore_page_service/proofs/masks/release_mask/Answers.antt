use Rattle.ostore_page_service.proofs.MaskLaws.{and_releases}
use Rattle.ostore_page_service.proofs.masks.release_mask.Goals as goal

pub returns : goal.returns
returns c = λ w small. and_releases w c.with_use.result.0 c.args.client.0 small c.with_use.ensures
