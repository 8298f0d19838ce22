use Rattle.std.proofs.Common.{arith}
use Rattle.std.proofs.lemmas.Grind.{common_steps}
use Rattle.ostore_cli.proofs.StreamLaws.{appended_rest}
use Rattle.ostore_cli.proofs.streams.writing.write_whole.Goals as goal

pub loop-at-preserved : goal.loop-at-preserved
loop-at-preserved g c = (
  grind (arith, common_steps, c.in_ok-at.ensures.bound),
  grind (arith, common_steps, c.loop-at.invariant.1, c.in_ok-at.ensures.cause),
  appended_rest _ _ _ c.args.bytes.now c.loop-at.at c.in_ok-at.field-0 c.loop-at.invariant.2 c.in_ok-at.ensures.written,
)
