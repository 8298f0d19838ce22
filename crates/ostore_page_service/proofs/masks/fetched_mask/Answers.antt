use Rattle.ostore_page_service.proofs.MaskLaws.{xor_ends_fetch}
use Rattle.ostore_page_service.proofs.masks.fetched_mask.Goals as goal

pub returns : goal.returns
returns c = λ w mine lacks. xor_ends_fetch w c.with_fetcher-fetcher.result.0 c.with_keep.result.0 c.args.client.0 c.with_fetcher-fetcher.ensures c.with_keep.ensures mine lacks
