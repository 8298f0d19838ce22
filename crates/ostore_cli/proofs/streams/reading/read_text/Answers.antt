use Rattle.std.proofs.Common.{arith}
use Rattle.std.proofs.lemmas.Grind.{common_steps}
use Rattle.ostore_cli.proofs.StreamLaws.{whole_at_end, whole_at_limit}
use Rattle.ostore_cli.proofs.streams.reading.read_text.Goals as goal

pub returns-then-reading-clause-read : goal.returns-then-reading-clause-read
returns-then-reading-clause-read g c =
    whole_at_end (g.S.Source.left c.args.source.now) _ c.read_piece.new.reading.text
    (c.in_ok-read_piece.ensures.read _ c.loop-buffer.invariant.3)
    (c.in_ok-read_piece.ensures.end c.if-reading.true)
    (grind (arith, common_steps, c.in_ok-read_piece.ensures.bound))

pub returns-clause-read : goal.returns-clause-read
returns-clause-read g c =
    whole_at_limit (g.S.Source.left c.args.source.now) _ c.loop-buffer.reading.text c.loop-buffer.invariant.3 (grind (arith, common_steps))
