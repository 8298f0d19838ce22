use Rattle.std.proofs.Common.{◌≡◌, ◌+◌, ◌<◌, false, refl, ap, arith}
use Rattle.std.proofs.lemmas.Bool.{and_from, and_left, and_right, lt-ltb, le-ltb, eq-eqb, ne_eqb}
use Rattle.ostore_page_tags.specs.declared.page_header.PageHeader.{PageHeader}
use Rattle.ostore_page_tags.specs.Header.{header_of}
use Rattle.ostore_page_tags.specs.Rows.{row_in}
use Rattle.ostore_page_tags.specs.Rules.{rise_by_step}
use Rattle.ostore_page_tags.proofs.walks.RowLaws.{offsets, at_start, rises, rise-fails, rise-goes_on, rise-ends}
use Rattle.ostore_page_tags.proofs.check.do_offsets_rise.Goals as goal
use Rattle.ostore_page_tags.proofs.check.do_offsets_rise.Goals.{then-next-row-via-then-next-row, then-next-row-via-else-next-row+then-next-row-ne0}

pub loop-i-init : goal.loop-i-init
loop-i-init c = at_start (λ rows. rise_by_step (offsets rows)) (row_in c.args.image.now.bytes) _ _ refl

pub loop-i-preserved : goal.loop-i-preserved
loop-i-preserved c =
    let count : c.header.result.rows ≡ (header_of c.args.image.now.bytes).rows = ap (λ (header : PageHeader). header.rows) c.header.ensures in
    let below : c.loop-i.i + 1 < (header_of c.args.image.now.bytes).rows = omega arith in
    let row = c.stored_row-row.result in
    let next = c.stored_row-next.result in
    rise-goes_on (row_in c.args.image.now.bytes) c.loop-i.i _ row next _ c.loop-i.invariant below c.stored_row-row.ensures c.stored_row-next.ensures
    (and_from _ _ (lt-ltb _ _ c.if-next-row.false) (eq-eqb _ _ c.if-next-row-ne0.false))

pub returns-then-next-row : goal.returns-then-next-row
returns-then-next-row c =
    let count : c.header.result.rows ≡ (header_of c.args.image.now.bytes).rows = ap (λ (header : PageHeader). header.rows) c.header.ensures in
    let below : c.loop-i.i + 1 < (header_of c.args.image.now.bytes).rows = omega arith in
    let row = c.stored_row-row.result in
    let next = c.stored_row-next.result in
    let fails : rises row next ≡ false = elim c.then-next-row.branch [
      | then-next-row-via-then-next-row w ↦ and_left _ _ (le-ltb row.offset next.offset w.if-next-row.true)
      | then-next-row-via-else-next-row+then-next-row-ne0 w ↦ and_right _ _ (ne_eqb _ 0 w.if-next-row-ne0.true)
    ] in
    rise-fails (row_in c.args.image.now.bytes) c.loop-i.i _ row next _ c.loop-i.invariant below c.stored_row-row.ensures c.stored_row-next.ensures fails

pub returns : goal.returns
returns c =
    let count : c.header.result.rows ≡ (header_of c.args.image.now.bytes).rows = ap (λ (header : PageHeader). header.rows) c.header.ensures in
    rise-ends (row_in c.args.image.now.bytes) c.loop-i.i _ _ c.loop-i.invariant (omega arith)
