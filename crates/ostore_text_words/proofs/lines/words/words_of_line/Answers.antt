use Rattle.std.proofs.Common.{map, arith}
use Rattle.std.proofs.lemmas.List.{take_rest, map_push}
use Rattle.ostore_text_words.specs.Seen.{seen_word}
use Rattle.ostore_text_words.proofs.WordPlaces.{space_next, word_next, words_end}
use Rattle.ostore_text_words.proofs.lines.words.words_of_line.Goals as goal

pub loop-taken-preserved-then-line-taken-eq32 : goal.loop-taken-preserved-then-line-taken-eq32
loop-taken-preserved-then-line-taken-eq32 c =
    (omega arith, space_next c.args.at c.loop-taken.taken c.args.line.now (map seen_word c.loop-taken.words) _ (omega arith) c.if-line-taken-eq32.true c.loop-taken.invariant.1)

pub loop-taken-preserved : goal.loop-taken-preserved
loop-taken-preserved c =
    let line = c.args.line.now in
    let words = c.loop-taken.words in
    let word = c.first_word-word.result in
    let step = word_next c.args.at c.loop-taken.taken line _ (map seen_word words) _ (seen_word word) (omega arith) c.if-line-taken-eq32.false c.loop-taken.invariant.1 (take_rest line c.loop-taken.taken) c.first_word-word.ensures in
    (step.0, rw (c.in_ok-push.ensures.ok, map_push seen_word words word) step.1)

pub returns : goal.returns
returns c = words_end c.args.at c.loop-taken.taken c.args.line.now (map seen_word c.loop-taken.words) _ (omega arith) c.loop-taken.invariant.1
