use Rattle.ostore_page_service.proofs.MaskLaws.{or_wants}
use Rattle.ostore_page_service.proofs.masks.want_mask.Goals as goal

pub returns : goal.returns
returns c = λ w. or_wants w c.with_wanted.result.0 c.with_wanted.ensures
