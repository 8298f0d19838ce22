use Rattle.std.proofs.Common.{◌≡◌, ◌+◌, ◌-◌, ℕ, take, drop, ◌∙◌, ap, arith}
use Rattle.ostore_redo_journal.proofs.record.image_in.Goals as goal

pub returns : goal.returns
returns c =
    let size : c.args.from + 4096 - c.args.from ≡ 4096 = omega arith in
    c.copy_from_slice.ensures.after ∙ ap (λ (k : ℕ). take k (drop c.args.from c.args.bytes.now)) size
