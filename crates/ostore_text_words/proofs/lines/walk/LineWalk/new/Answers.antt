use Rattle.ostore_text_words.proofs.LineReaders.{bytes_on_all}
use Rattle.ostore_text_words.proofs.lines.walk.LineWalk.new.Goals as goal

pub returns : goal.returns
returns c = bytes_on_all c.args.text.now
