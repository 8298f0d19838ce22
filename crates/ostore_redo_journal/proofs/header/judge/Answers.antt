use Rattle.std.proofs.Common.{true≢false, sym, ◌∙◌, arith}
use Rattle.ostore_redo_journal.proofs.Slots.{not_placed}
use Rattle.ostore_redo_journal.proofs.header.judge.Goals as goal

pub returns-then-not-is_placed-clause-not_database : goal.returns-then-not-is_placed-clause-not_database
returns-then-not-is_placed-clause-not_database c is =
    not_placed c.args.front.now c.args.size (c.is_ours.ensures.0 c.if-not-is_ours.false) (omega (arith, c.if-format-gt1.false, c.get_u32-format.ensures))
    (λ placed. absurd (true≢false (sym (c.is_placed.ensures.1 placed) ∙ c.if-not-is_placed.true)))
