use Rattle.ostore_text_words.proofs.WordReaders.{around_none, around_some}
use Rattle.ostore_command_text.proofs.words.around_byte.Goals as goal

pub returns-in_err-place : goal.returns-in_err-place
returns-in_err-place c = rw c.from_residual.ensures (around_none c.args.byte c.args.bytes.now c.in_err-place.ensures)

pub returns : goal.returns
returns c = around_some c.args.byte c.args.bytes.now c.in_ok-place.place c.in_ok-place.ensures
