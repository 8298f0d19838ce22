use Rattle.ostore_text_words.proofs.WordPlaces.{judged_some, judged_none}
use Rattle.ostore_text_words.proofs.lines.words.judged_at.Goals as goal

pub returns-in-Some : goal.returns-in-Some
returns-in-Some c = judged_some c.args.at c.args.bytes.now c.in-Some.control c.in-Some.ensures

pub returns-in-None : goal.returns-in-None
returns-in-None c = judged_none c.args.at c.args.bytes.now c.in-None.ensures
