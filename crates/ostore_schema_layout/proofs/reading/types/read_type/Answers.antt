use Rattle.std.proofs.Common.{ap}
use Rattle.std.proofs.lemmas.Result.{err_from_is_err_and}
use Rattle.ostore_text_words.specs.Lines.{LinesAhead}
use Rattle.ostore_schema_layout.proofs.parsed.ReaderLaws.{name_fails, behind_fails, type_found}
use Rattle.ostore_schema_layout.proofs.reading.types.read_type.Goals as goal

pub returns-in_err-name : goal.returns-in_err-name
returns-in_err-name c =
    let p = err_from_is_err_and c.from_residual.result c.from_residual.ensures.1 in
    let before = c.args.lines.now in
    rw (p.1, p.2) (name_fails c.in_err-name.field-0.0 before.lines before.end c.requires c.in_err-name.ensures)

pub returns-in_err-members : goal.returns-in_err-members
returns-in_err-members c =
    let p = err_from_is_err_and c.from_residual-in_err-members.result c.from_residual-in_err-members.ensures.1 in
    let before = c.args.lines.now in
    let left = ap (λ (a : LinesAhead). a.lines) c.in_ok-name.ensures.1 in
    rw (p.1, p.2) (behind_fails c.in_err-members.field-0.0 before.lines before.end _ c.in_ok-name.name c.requires c.in_ok-name.ensures.0 left c.in_err-members.ensures)

pub returns : goal.returns
returns c =
    let before = c.args.lines.now in
    let left = ap (λ (a : LinesAhead). a.lines) c.in_ok-name.ensures.1 in
    type_found before.lines before.end _ _ c.in_ok-name.name c.in_ok-members.members c.requires c.in_ok-name.ensures.0 left c.in_ok-members.ensures
