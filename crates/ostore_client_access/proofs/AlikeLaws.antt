-- Images with the same header and rows have cells at the same places.
use Rattle.std.proofs.Common.{◌≡◌, ◌≢◌, ℕ, zero, suc, ◌+◌, ◌-◌, ◌*◌, ◌<◌, ◌≤◌, true, false, Bool, List, [], ◌∷◌, length, map, drop, get_or, refl, sym, ap, subst, ◌∙◌, arith, inl, inr}
use Rattle.std.specs.Prelude.{IsTrue}
use Rattle.std.specs.List.{range_with_len}
use Rattle.std.proofs.lemmas.Bool.{ne_eqb}
use Rattle.std.proofs.lemmas.List.{length-take, length-drop}
use Rattle.byteorder.specs.Endian.{little_bytes}
use Rattle.byteorder.specs.Numbers.{length-bytes_low_first}
use Rattle.ostore_base.specs.Disk.{replaced}
use Rattle.ostore_schema_layout.specs.declared.schema.Schema.{Schema}
use Rattle.ostore_schema_layout.specs.Cells.{HasCode, code_size}
use Rattle.ostore_page_tags.specs.declared.page_header.PageHeader.{PageHeader}
use Rattle.ostore_page_tags.specs.declared.tag_rows.Row.{Row}
use Rattle.ostore_page_tags.specs.Numbers.{with_number}
use Rattle.ostore_page_tags.specs.Header.{header_of}
use Rattle.ostore_page_tags.specs.Rows.{row_in, row_place, rows_of}
use Rattle.ostore_page_tags.specs.Cells.{Cell, cell_to, cells_from, cells_of}
use Rattle.ostore_page_tags.proofs.bytes.ImageLaws.{length-replaced_within, SameOn-replaced_before, SameOn-replaced_behind}
use Rattle.ostore_page_tags.proofs.parts.CellLaws.{header_of-same, row_in-same}
use Rattle.ostore_page_tags.proofs.shape.RangeLaws.{map-range-same}
use Rattle.ostore_relocation.specs.Places.{IsOneOf, LieBetween, holds_objects, page_pointers}
use Rattle.ostore_relocation.specs.Forms.{pointers_end}
use Rattle.ostore_relocation.specs.Fitness.{IsCellOf}
use Rattle.ostore_relocation.proofs.PlaceLaws.{lie_order}
use Rattle.ostore_relocation.proofs.FormLaws.{pages_of_none}
use Rattle.ostore_client_core.specs.Cells.{AreCellsOf, HasCellsOf}
use Rattle.ostore_client_access.proofs.CellPointers.{cells_counted}
use Rattle.ostore_client_access.proofs.BridgeLaws.{lie_page}

record SameShape (one two : Cell) : Type 0 where
  pub row : one.row ≡ two.row
  pub size : length one.bytes ≡ length two.bytes

one_alike : (stop : ℕ) (first second : List ℕ) (row : Row) → length first ≡ length second → SameShape (cell_to stop first row) (cell_to stop second row)
one_alike stop first second row long =
    let a = length-drop row.offset first in
    let b = length-drop row.offset second in
    let c = length-take (stop - row.offset) (drop row.offset first) in
    let d = length-take (stop - row.offset) (drop row.offset second) in
    record { row = refl; size = omega arith }

from_alike : (end : ℕ) (first second : List ℕ) (rows : List Row) (k : ℕ) (d : Cell) → length first ≡ length second → k < length (cells_from end first rows) → SameShape (get_or (cells_from end first rows) k d) (get_or (cells_from end second rows) k d)
from_alike end first second [] k d long below = absurd (omega arith)
from_alike end first second (row ∷ []) zero d long below = one_alike end first second row long
from_alike end first second (row ∷ []) (suc k) d long below = absurd (omega arith)
from_alike end first second (row ∷ next ∷ rows) zero d long below = one_alike next.offset first second row long
from_alike end first second (row ∷ next ∷ rows) (suc k) d long below = from_alike end first second (next ∷ rows) k d long (omega arith)

cell_alike : (schema : Schema) (one two : Cell) → SameShape one two → IsCellOf schema two → IsCellOf schema one
cell_alike schema one two same is = λ live.
    let h = is (subst (λ (r : Row). IsTrue r.live) same.row live) in
    (subst (λ (r : Row). HasCode schema r.code) (sym same.row) h.0, same.size ∙ h.1 ∙ ap (λ (r : Row). code_size schema r.code) (sym same.row))

pub are_alike : (schema : Schema) (old new : List ℕ) → header_of new ≡ header_of old → rows_of new ≡ rows_of old → length new ≡ length old → AreCellsOf schema old → AreCellsOf schema new
are_alike schema old new header rows long are =
    let end : ℕ = (header_of old).end in
    let made : cells_of new ≡ cells_from end new (rows_of old) = ap (λ (h : PageHeader). cells_from h.end new (rows_of new)) header ∙ ap (cells_from end new) rows in
    let count : length (cells_of new) ≡ length (cells_of old) = cells_counted new ∙ ap (λ (h : PageHeader). h.rows) header ∙ sym (cells_counted old) in
    let many : (header_of new).rows ≡ (header_of old).rows = ap (λ (h : PageHeader). h.rows) header in
    let shape : (k : ℕ) (d : Cell) → k < length (cells_of new) → SameShape (get_or (cells_of new) k d) (get_or (cells_of old) k d) = λ k d below.
    subst (λ (l : List Cell). SameShape (get_or l k d) (get_or (cells_of old) k d)) (sym made) (from_alike end new old (rows_of old) k d long (subst (λ (l : List Cell). k < length l) made below)) in
    record {
      sized = λ k d below. cell_alike schema (get_or (cells_of new) k d) (get_or (cells_of old) k d) (shape k d below) (are.sized k d (omega arith));
      behind = λ k d below. (let s = shape k d below in subst (λ (r : Row). 32 ≤ r.offset) (sym s.row) (are.behind k d (omega arith)));
      before = λ k d below.
          let s = shape k d below in
          let offset : (get_or (cells_of new) k d).row.offset ≡ (get_or (cells_of old) k d).row.offset = ap (λ (r : Row). r.offset) s.row in
          let size = s.size in
          let high = are.before k d (omega arith) in
          omega arith;
      apart = λ i k d less below.
          let one = shape i d (omega arith) in
          let two = shape k d below in
          let offset : (get_or (cells_of new) i d).row.offset ≡ (get_or (cells_of old) i d).row.offset = ap (λ (r : Row). r.offset) one.row in
          let later : (get_or (cells_of new) k d).row.offset ≡ (get_or (cells_of old) k d).row.offset = ap (λ (r : Row). r.offset) two.row in
          let size = one.size in
          let apart = are.apart i k d less (omega arith) in
          omega arith;
    }

-- bytes put behind the header and before the rows
pub put_alike : (schema : Schema) (at : ℕ) (bytes old : List ℕ) → length old ≡ 4096 → 32 ≤ at → at + length bytes ≤ 4096 - 8 * (header_of old).rows → AreCellsOf schema old → AreCellsOf schema (replaced at bytes old)
put_alike schema at bytes old whole low high are =
    let new : List ℕ = replaced at bytes old in
    let header : header_of new ≡ header_of old = header_of-same new old (SameOn-replaced_before at 0 20 bytes old (omega arith) (omega arith)) in
    let rows : rows_of new ≡ rows_of old =
    ap (λ (h : PageHeader). map (row_in new) (range_with_len 0 h.rows)) header
    ∙ map-range-same (row_in new) (row_in old) 0 (header_of old).rows (λ i from to. row_in-same i new old (SameOn-replaced_behind at (row_place i) (row_place i + 8) bytes old (omega arith) (omega arith))) in
    are_alike schema old new header rows (length-replaced_within at bytes old (omega arith)) are

-- ---- a pointer that is written

one_bounds : (low high at : ℕ) (places : List ℕ) → LieBetween low places high → IsOneOf at places → (low ≤ at) × (at + 4 ≤ high)
one_bounds low high at [] lie there = absurd there
one_bounds low high at (place ∷ places) lie (inl here) = let l = lie.0 in let o = lie_order (place + 4) high places lie.1 in (omega arith, omega arith)
one_bounds low high at (place ∷ places) lie (inr later) = let l = lie.0 in let rest = one_bounds (place + 4) high at places lie.1 later in let a = rest.0 in (omega arith, rest.1)

pointer_as : (schema : Schema) (page at value : ℕ) (old : List ℕ) (holds : Bool) → holds_objects page old ≡ holds → page ≢ 9 → length old ≡ 4096 → HasCellsOf schema page old → IsOneOf at (page_pointers schema page old) → HasCellsOf schema page (with_number 4 at value old)
pointer_as schema page at value old true is apart whole has there = λ ten.
    let bounds = one_bounds 32 (pointers_end page old) at (page_pointers schema page old) (lie_page schema page old apart has) there in
    let end : pointers_end page old ≡ 4096 - 8 * (header_of old).rows = rw is refl in
    let size : length (little_bytes 4 value) ≡ 4 = length-bytes_low_first 0 4 value in
    let low = bounds.0 in
    let high = bounds.1 in
    put_alike schema at (little_bytes 4 value) old whole low (omega arith) (has ten)
pointer_as schema page at value old false is apart whole has there = absurd (subst (IsOneOf at) (pages_of_none schema page old (ne_eqb page 9 apart) is) there)

pub pointer_cells : (schema : Schema) (page at value : ℕ) (old : List ℕ) → length old ≡ 4096 → HasCellsOf schema page old → IsOneOf at (page_pointers schema page old) → HasCellsOf schema page (with_number 4 at value old)
pointer_cells schema page at value old whole has there = λ ten. pointer_as schema page at value old (holds_objects page old) refl (λ nine. omega arith) whole has there ten
