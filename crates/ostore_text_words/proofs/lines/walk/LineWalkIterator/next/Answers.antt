use Rattle.std.proofs.Common.{length, refl, ap, arith}
use Rattle.std.proofs.lemmas.List.{take_rest}
use Rattle.ostore_text_words.proofs.LineReaders.{bytes_on_none, bytes_on_next}
use Rattle.ostore_text_words.proofs.lines.walk.LineWalkIterator.next.Goals as goal

pub returns-then-at-self-clause-steps : goal.returns-then-at-self-clause-steps
returns-then-at-self-clause-steps c =
    let none = bytes_on_none c.args.self.now.next_at c.args.self.now.text.now (omega arith) in
    (none, none)

pub returns-clause-steps : goal.returns-clause-steps
returns-clause-steps c =
    let walk = c.args.self.now in
    bytes_on_next walk.next_at c.line_length-length.result walk.text.now _ _ (omega arith) (take_rest walk.text.now walk.next_at) c.line_length-length.ensures.length refl

pub returns-clause-goes : goal.returns-clause-goes
returns-clause-goes c =
    let walk = c.args.self.now in
    let steps = bytes_on_next walk.next_at c.line_length-length.result walk.text.now _ _ (omega arith) (take_rest walk.text.now walk.next_at) c.line_length-length.ensures.length refl in
    record { on = λ f. (tt, tt, omega (arith, ap length steps)); keeps = tt; rests = λ f. tt }
