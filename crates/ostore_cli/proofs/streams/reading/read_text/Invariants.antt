use Rattle.std.proofs.Common.{◌≡◌, ◌≤◌, ◌-◌, length, false}
use Rattle.ostore_cli.specs.Streams.{longest_read}
use Rattle.ostore_cli.specs.inside.HasRead.{HasRead}
use Rattle.ostore_cli.proofs.streams.reading.read_text.Given as goal

abbrev pub invariant-loop-buffer : goal.invariant-loop-buffer
invariant-loop-buffer g l =
    (length l.reading.text ≤ longest_read) × (l.reading.ended ≡ false)
    × (g.S.Source.faults l.source ≡ g.S.Source.faults l.fn.source)
    × HasRead (g.S.Source.left l.fn.source) (g.S.Source.left l.source) l.reading.text

abbrev pub decreases-loop-buffer : goal.decreases-loop-buffer
decreases-loop-buffer g l = longest_read - length l.reading.text
