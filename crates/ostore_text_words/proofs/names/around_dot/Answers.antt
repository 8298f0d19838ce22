use Rattle.ostore_text_words.proofs.WordReaders.{around_none, around_some}
use Rattle.ostore_text_words.proofs.names.around_dot.Goals as goal

pub returns-in_err-dot : goal.returns-in_err-dot
returns-in_err-dot c = rw c.from_residual.ensures (around_none 46 c.args.bytes.now c.in_err-dot.ensures)

pub returns : goal.returns
returns c = around_some 46 c.args.bytes.now c.in_ok-dot.dot c.in_ok-dot.ensures
