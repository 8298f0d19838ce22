use Rattle.std.proofs.Common.{leb, ap}
use Rattle.std.specs.List.{list_all}
use Rattle.std.proofs.lemmas.Bool.{lt-leb, le-leb}
use Rattle.ostore_page_tags.specs.declared.page_header.PageHeader.{PageHeader}
use Rattle.ostore_page_tags.specs.Rows.{state_in}
use Rattle.ostore_page_tags.proofs.walks.RowLaws.{at_start, list_all-fails, list_all-goes_on, list_all-ends}
use Rattle.ostore_page_tags.proofs.check.have_rows_states.Goals as goal

pub loop-i-init : goal.loop-i-init
loop-i-init c = at_start (list_all (λ state. leb state 1)) (state_in c.args.image.now.bytes) c.header-i-end.result.rows _ (ap (λ (header : PageHeader). header.rows) c.header-i-end.ensures)

pub returns-then-stored_state-gt-LIVE_STATE : goal.returns-then-stored_state-gt-LIVE_STATE
returns-then-stored_state-gt-LIVE_STATE c =
    list_all-fails (λ state. leb state 1) (state_in c.args.image.now.bytes) c.loop-i.i c.header-i-end.result.rows c.stored_state.result _ c.loop-i.invariant c.loop-i-test.true c.stored_state.ensures (lt-leb _ _ c.if-stored_state-gt-LIVE_STATE.true)

pub loop-i-preserved : goal.loop-i-preserved
loop-i-preserved c =
    list_all-goes_on (λ state. leb state 1) (state_in c.args.image.now.bytes) c.loop-i.i c.header-i-end.result.rows c.stored_state.result _ c.loop-i.invariant c.loop-i-test.true c.stored_state.ensures (le-leb _ _ c.if-stored_state-gt-LIVE_STATE.false)

pub returns : goal.returns
returns c = list_all-ends (λ state. leb state 1) (state_in c.args.image.now.bytes) c.loop-i.i c.header-i-end.result.rows _ c.loop-i.invariant c.loop-i-test.false
