use Rattle.std.proofs.Common.{◌≡◌, ◌-◌, eqb, ltb, ap, sym, ◌∙◌, arith}
use Rattle.ostore_page_tags.specs.declared.page_header.PageHeader.{PageHeader}
use Rattle.ostore_page_tags.specs.declared.tag_rows.Row.{Row}
use Rattle.ostore_page_tags.specs.Header.{header_of}
use Rattle.ostore_page_tags.specs.Rows.{row_in}
use Rattle.ostore_page_tags.proofs.walks.RowLaws.{end_behind-none, end_behind-last}
use Rattle.ostore_page_tags.proofs.check.is_last_offset_below_end.Goals as goal

pub returns-then-header-eq0 : goal.returns-then-header-eq0
returns-then-header-eq0 c =
    let bytes = c.args.image.now.bytes in
    let count : (header_of bytes).rows ≡ 0 = sym (ap (λ (header : PageHeader). header.rows) c.header-header.ensures) ∙ c.if-header-eq0.true in
    ap (λ (header : PageHeader). eqb header.end 32) c.header-header.ensures ∙ sym (end_behind-none (row_in bytes) (header_of bytes).end (header_of bytes).rows count)

pub returns-else-header-eq0 : goal.returns-else-header-eq0
returns-else-header-eq0 c =
    let bytes = c.args.image.now.bytes in
    let last = c.header-header.result.rows - 1 in
    let count : c.header-header.result.rows ≡ (header_of bytes).rows = ap (λ (header : PageHeader). header.rows) c.header-header.ensures in
    let below = end_behind-last (row_in bytes) (header_of bytes).end (header_of bytes).rows last (omega arith) in
    ap (λ (header : PageHeader). ltb c.stored_row.result.offset header.end) c.header-header.ensures
    ∙ ap (λ (row : Row). ltb row.offset (header_of bytes).end) c.stored_row.ensures
    ∙ sym below
