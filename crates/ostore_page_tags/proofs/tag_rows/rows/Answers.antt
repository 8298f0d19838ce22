use Rattle.std.proofs.Common.{ap, sym, ◌∙◌}
use Rattle.ostore_page_tags.specs.declared.page_header.PageHeader.{PageHeader}
use Rattle.ostore_page_tags.proofs.walks.NthLaws.{rows_counted}
use Rattle.ostore_page_tags.proofs.tag_rows.rows.Goals as goal

pub returns : goal.returns
returns c = ap (λ (header : PageHeader). header.rows) c.header.ensures ∙ sym (rows_counted c.args.image.now.bytes)
