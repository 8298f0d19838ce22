use Rattle.std.proofs.Common.{sym, ◌∙◌, arith}
use Rattle.ostore_redo_journal.proofs.Slots.{half_of, remainder_of}
use Rattle.ostore_redo_journal.proofs.header.slot_counts.Goals as goal

pub returns : goal.returns
returns c =
    let gate = c.get_gate.ensures in
    let number = c.get_u32.ensures in (
      λ yes.
          let t = c.counts.ensures.0 yes in
          let half = half_of c.get_u32.result c.args.parity t.2 in
          record { is_open = sym gate ∙ t.0; some = omega (arith, number, t.1); right = (half.0, sym number ∙ half.1) },
      λ slot. c.counts.ensures.1 (gate ∙ slot.is_open, omega (arith, number, slot.some), remainder_of c.get_u32.result slot.right.0 c.args.parity c.requires.parity (number ∙ slot.right.1)),
    )
