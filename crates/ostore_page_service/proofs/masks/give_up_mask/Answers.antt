use Rattle.std.proofs.Common.{sym, subst}
use Rattle.std.specs.Int.Bits.{bit_and}
use Rattle.ostore_page_service.specs.Words.{GivesUp}
use Rattle.ostore_page_service.proofs.MaskLaws.{and_gives_up, and_gives_up_released}
use Rattle.ostore_page_service.proofs.masks.give_up_mask.Goals as goal

pub returns : goal.returns
returns c = λ w small.
    let mask = c.with_keep-given_up.result.0 in
    let n = c.args.client.0 in
    subst (λ b. GivesUp w (bit_and w mask) n b) (sym c.if-released.false) (and_gives_up w mask n small c.with_keep-given_up.ensures)

pub returns-then-released : goal.returns-then-released
returns-then-released c = λ w small.
    let kept = c.with_keep-given_up.result.0 in
    let mask = c.with_wanted.result.0 in
    let n = c.args.client.0 in
    subst (λ b. GivesUp w (bit_and w mask) n b) (sym c.if-released.true) (and_gives_up_released w kept mask n small c.with_keep-given_up.ensures c.with_wanted.ensures)
