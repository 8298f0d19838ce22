use Rattle.std.proofs.Common.{◌∙◌}
use Rattle.ostore_text_words.proofs.WordReaders.{int_not_text, int_not_parsed, int_parsed}
use Rattle.ostore_text_words.proofs.numbers.read_int.Goals as goal

pub returns-in_default : goal.returns-in_default
returns-in_default c = int_not_text c.args.word.now c.in_default.ensures.cases.0

pub returns-in_default-parse : goal.returns-in_default-parse
returns-in_default-parse c = int_not_parsed c.args.word.now c.in-Ok.text.now c.in_default-parse.field-0 c.in-Ok.ensures.cases.0 c.in_default-parse.ensures.value.0

pub returns : goal.returns
returns c = c.then_some.ensures ∙ int_parsed c.args.word.now c.in-Ok.text.now c.in-Ok-parse.number c.is_form_of.result c.in-Ok.ensures.cases.0 c.in-Ok-parse.ensures.value.0 c.is_form_of.ensures
