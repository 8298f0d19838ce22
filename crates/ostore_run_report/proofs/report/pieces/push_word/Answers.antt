use Rattle.std.proofs.Common.{◌≡◌, ◌-◌, ◌*◌, ◌<◌, ◌/◌, ◌%◌, ◌^◌, ◌∷◌, false, ℕ, zero, suc, refl, arith, append_assoc}
use Rattle.std.specs.Fmt.{digit_glyph}
use Rattle.ostore_run_report.specs.Report.{word_text, low_digits}
use Rattle.ostore_run_report.proofs.report.pieces.push_word.Goals as goal

-- the highest of the digits that are left, and the others
low_digits-first : (left word : ℕ) → 0 < left → low_digits left word ≡ digit_glyph false (word / 2 ^ (4 * (left - 1)) % 16) ∷ low_digits (left - 1) word
low_digits-first zero word some = absurd (omega arith)
low_digits-first (suc left) word some = let less : suc left - 1 ≡ left = omega arith in rw less

pub loop-left-init : goal.loop-left-init
unfolding word_text
loop-left-init c = record { within = omega arith; whole = refl }

pub loop-left-preserved : goal.loop-left-preserved
loop-left-preserved c =
    let first = low_digits-first c.loop-left.left c.args.word (omega arith) in
    let before = c.loop-left.invariant.whole in
    record { within = omega arith; whole = rw (c.in_ok-push_digit.ensures, append_assoc) (rw first at before) }
