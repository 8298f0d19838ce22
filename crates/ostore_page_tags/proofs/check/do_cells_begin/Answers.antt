use Rattle.std.proofs.Common.{◌≡◌, ap, sym, ◌∙◌, arith}
use Rattle.std.specs.Prelude.{◌==◌}
use Rattle.ostore_page_tags.specs.declared.page_header.PageHeader.{PageHeader}
use Rattle.ostore_page_tags.specs.declared.tag_rows.Row.{Row}
use Rattle.ostore_page_tags.specs.Header.{header_of}
use Rattle.ostore_page_tags.specs.Rows.{row_in}
use Rattle.ostore_page_tags.proofs.walks.RowLaws.{begin_at-first}
use Rattle.ostore_page_tags.proofs.check.do_cells_begin.Goals as goal

pub returns-else-header-eq0 : goal.returns-else-header-eq0
returns-else-header-eq0 c =
    let count : c.header.result.rows ≡ (header_of c.args.image.now.bytes).rows = ap (λ (header : PageHeader). header.rows) c.header.ensures in
    let first = begin_at-first (row_in c.args.image.now.bytes) (header_of c.args.image.now.bytes).rows 32 (omega arith) in
    ap (λ (row : Row). row.offset == 32) c.stored_row.ensures ∙ sym first
