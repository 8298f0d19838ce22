use Rattle.ostore_page_service.proofs.MaskLaws.{xor_disowns}
use Rattle.ostore_page_service.proofs.masks.disown_mask.Goals as goal

pub returns : goal.returns
returns c = λ w mine. xor_disowns w c.with_owner.result.0 c.args.client.0 c.with_owner.ensures mine
