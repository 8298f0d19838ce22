use Rattle.std.proofs.Common.{◌∙◌, arith}
use Rattle.ostore_text_words.proofs.WordReaders.{count_not_text, count_not_parsed, count_outside, count_parsed}
use Rattle.ostore_text_words.proofs.numbers.read_count.Goals as goal

pub returns-in_default : goal.returns-in_default
returns-in_default c = count_not_text c.args.least c.args.most c.args.word.now (omega arith) c.in_default.ensures.cases.0

pub returns-in_default-parse : goal.returns-in_default-parse
returns-in_default-parse c = count_not_parsed c.args.least c.args.most c.args.word.now c.in-Ok.text.now c.in_default-parse.field-0 (omega arith) c.in-Ok.ensures.cases.0 c.in_default-parse.ensures.value.0

pub returns-then-number-least : goal.returns-then-number-least
returns-then-number-least c = count_outside c.args.least c.args.most c.args.word.now c.in-Ok.text.now c.in-Ok-parse.number (omega arith) c.in-Ok.ensures.cases.0 c.in-Ok-parse.ensures.value.0 (λ low high. omega arith)

pub returns : goal.returns
returns c = c.then_some.ensures ∙ count_parsed c.args.least c.args.most c.args.word.now c.in-Ok.text.now c.in-Ok-parse.number c.is_form_of.result (omega arith) c.in-Ok.ensures.cases.0 c.in-Ok-parse.ensures.value.0 (omega arith) (omega arith) c.is_form_of.ensures
