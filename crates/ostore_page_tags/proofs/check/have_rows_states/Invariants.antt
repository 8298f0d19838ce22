use Rattle.std.proofs.Common.{◌≡◌, leb}
use Rattle.std.specs.List.{list_all}
use Rattle.ostore_page_tags.specs.Rows.{state_in, states_of}
use Rattle.ostore_page_tags.proofs.walks.RowLaws.{from_place}
use Rattle.ostore_page_tags.proofs.check.have_rows_states.Given as goal

abbrev pub invariant-loop-i : goal.invariant-loop-i
invariant-loop-i l = list_all (λ state. leb state 1) (from_place (state_in l.image.bytes) l.i l.i-end) ≡ list_all (λ state. leb state 1) (states_of l.image.bytes)
