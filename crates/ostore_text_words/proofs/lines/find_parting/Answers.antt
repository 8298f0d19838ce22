use Rattle.std.proofs.Common.{◌≡◌, ◌∙◌, None, Some, ap, sym, arith}
use Rattle.std.specs.Option.{option_map}
use Rattle.ostore_text_words.specs.Lines.{is_parting, around_line, line_bytes}
use Rattle.ostore_text_words.specs.inside.LineWalk.{seen_bytes}
use Rattle.ostore_text_words.proofs.LineReaders.{lines_within, found_within}
use Rattle.ostore_text_words.proofs.lines.find_parting.Goals as goal

pub returns-in_err-line : goal.returns-in_err-line
returns-in_err-line c =
    let none : c.parting_line.result ≡ None = c.in_err-line.was in
    rw c.from_residual.ensures (ap (option_map around_line) (sym (ap (option_map seen_bytes) none) ∙ c.parting_line.ensures))

pub overflow_add-result : goal.overflow_add-result
overflow_add-result c =
    let some : c.parting_line.result ≡ Some c.in_ok-line.line = c.in_ok-line.was in
    let fits = found_within (is_parting c.args.word.now) _ (seen_bytes c.in_ok-line.line) (line_bytes c.args.text.now) (lines_within c.args.text.now) (sym (ap (option_map seen_bytes) some) ∙ c.parting_line.ensures) in
    omega arith

pub overflow_add-result-2 : goal.overflow_add-result-2
overflow_add-result-2 c =
    let some : c.parting_line.result ≡ Some c.in_ok-line.line = c.in_ok-line.was in
    let fits = found_within (is_parting c.args.word.now) _ (seen_bytes c.in_ok-line.line) (line_bytes c.args.text.now) (lines_within c.args.text.now) (sym (ap (option_map seen_bytes) some) ∙ c.parting_line.ensures) in
    omega arith

pub returns : goal.returns
returns c =
    let some : c.parting_line.result ≡ Some c.in_ok-line.line = c.in_ok-line.was in
    ap (option_map around_line) (sym (ap (option_map seen_bytes) some) ∙ c.parting_line.ensures)
