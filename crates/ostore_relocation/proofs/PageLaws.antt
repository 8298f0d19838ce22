-- The pointers of a page of objects lie one behind the other between its header and the cells' end, so
-- that changing them leaves its header, its rows and the sizes of its cells.
use Rattle.std.proofs.Common.{◌≡◌, ℕ, zero, suc, ◌+◌, ◌-◌, ◌*◌, ◌<◌, ◌≤◌, Bool, true, false, cond, List, [], ◌∷◌, ◌++◌, length, get_or, map, drop, min, Some, refl, sym, ap, subst, ◌∙◌, arith, inl, inr}
use Rattle.std.specs.List.{AllByRecursion, flat_map, range_with_len, slice_get}
use Rattle.std.proofs.lemmas.Bool.{cases_lt}
use Rattle.std.proofs.lemmas.List.{length-take, length-drop, drop_more}
use Rattle.std.proofs.lemmas.Option.{same_Some, slice_get_within, get_or_from_slice_get}
use Rattle.ostore_schema_layout.specs.declared.schema.Schema.{Schema}
use Rattle.ostore_schema_layout.specs.Cells.{HasCode, code_size, pointers_of}
use Rattle.ostore_page_tags.specs.declared.page_header.PageHeader.{PageHeader}
use Rattle.ostore_page_tags.specs.declared.tag_rows.Row.{Row}
use Rattle.ostore_page_tags.specs.Header.{header_of}
use Rattle.ostore_page_tags.specs.Rows.{row_in, rows_of}
use Rattle.ostore_page_tags.specs.Cells.{Cell, between, cells_from, cells_of}
use Rattle.ostore_page_tags.proofs.bytes.ImageLaws.{length-between}
use Rattle.ostore_page_tags.proofs.shape.PageShape.{rows_in, end_in, offset_in, IsPage-shape, end_above, stop_more, IsCellRange, cell_range}
use Rattle.ostore_page_tags.proofs.parts.CellLaws.{cell_in, cells_are, header_of-same}
use Rattle.ostore_page_tags.proofs.walks.NthLaws.{slice_get-range, rows_counted}
use Rattle.ostore_page_tags.proofs.changes.DeadLaws.{stop_in}
use Rattle.ostore_page_tags.proofs.changes.EditLaws.{IsAlike, alike-IsPage, alike-rows}
use Rattle.ostore_relocation.specs.Forms.{pointers_end}
use Rattle.ostore_relocation.specs.Places.{holds_objects, LieBetween, cell_pointers, row_pointers}
use Rattle.ostore_relocation.specs.Pointers.{with_pointer, with_pointers}
use Rattle.ostore_relocation.specs.Fitness.{HasCells, IsCellOf}
use Rattle.ostore_relocation.proofs.PlaceLaws.{lie_lower, lie_higher, lie_append, lie_moved, lie_order, lie_code}
use Rattle.ostore_relocation.proofs.ChangeLaws.{byte_kept, long_changed}

-- ---- what stays where pointers are changed

pub record Keeps (low high : ℕ) (old new : List ℕ) : Type 0 where
  pub long : length new ≡ length old
  pub before : (k : ℕ) → k < low → get_or new k 0 ≡ get_or old k 0
  pub behind : (k : ℕ) → high ≤ k → get_or new k 0 ≡ get_or old k 0

pub keeps : (change : ℕ → ℕ) (low high : ℕ) (places bytes : List ℕ) → LieBetween low places high → high ≤ length bytes → Keeps low high bytes (with_pointers change places bytes)
keeps change low high [] bytes lie within = record { long = refl; before = λ k h. refl; behind = λ k h. refl }
keeps change low high (at ∷ places) bytes lie within =
    let order : at + 4 ≤ high = lie_order (at + 4) high places lie.1 in
    let least : low ≤ at = lie.0 in
    let here : at + 4 ≤ length bytes = omega arith in
    let one : List ℕ = with_pointer change at bytes in
    let long : length one ≡ length bytes = long_changed change at bytes here in
    let rest = keeps change (at + 4) high places one lie.1 (omega arith) in
    record {
      long = rest.long ∙ long;
      before = λ k h. rest.before k (omega arith) ∙ byte_kept change at k bytes here (inl (omega arith));
      behind = λ k h. rest.behind k h ∙ byte_kept change at k bytes here (inr (omega arith));
    }

-- ---- where pointers end

end_low_as : (b : Bool) (n : ℕ) → cond b (4096 - n) 4096 ≤ 4096
end_low_as true n = omega arith
end_low_as false n = omega arith

pub end_low : (page : ℕ) (bytes : List ℕ) → pointers_end page bytes ≤ 4096
end_low page bytes = end_low_as (holds_objects page bytes) (8 * (header_of bytes).rows)

-- ---- the cells of a page

pub all_at-range : {X : Type 0} (P : X → Type 0) (f : ℕ → X) (a n : ℕ) → AllByRecursion P (map f (range_with_len a n)) → (i : ℕ) → a ≤ i → i < a + n → P (f i)
all_at-range P f a zero all i low high = absurd (omega arith)
all_at-range P f a (suc n) all i low high = elim (cases_lt a i) [
  | inl more ↦ all_at-range P f (a + 1) n all.1 i (omega arith) (omega arith)
  | inr last ↦ let same : a ≡ i = omega arith in subst (λ (k : ℕ). P (f k)) same all.0
]

-- a live row's cell has its code's size
pub record IsRowOf (schema : Schema) (bytes : List ℕ) (i : ℕ) : Type 0 where
  pub range : IsCellRange (offset_in bytes i) (stop_in bytes i) (end_in bytes)
  pub code : (row_in bytes i).live ≡ true → HasCode schema (row_in bytes i).code
  pub size : (row_in bytes i).live ≡ true → offset_in bytes i + code_size schema (row_in bytes i).code ≡ stop_in bytes i

pub row_of_schema : (schema : Schema) (bytes : List ℕ) → HasCells schema bytes → (i : ℕ) → i < rows_in bytes → IsRowOf schema bytes i
row_of_schema schema bytes has i below =
    let shape = IsPage-shape bytes has.page in
    let range = cell_range (rows_in bytes) (end_in bytes) (offset_in bytes) shape.offsets i below in
    let room = shape.room in
    let whole = shape.whole in
    let most = range.most in
    let some = range.some in
    let long = length-between (offset_in bytes i) (stop_in bytes i) bytes (omega arith) in
    let cells = subst (λ (l : List Cell). AllByRecursion (IsCellOf schema) l) (cells_are (rows_in bytes) (end_in bytes) bytes refl refl) has.cells in
    let cell = all_at-range (IsCellOf schema) (cell_in (rows_in bytes) (end_in bytes) bytes (row_in bytes)) 0 (rows_in bytes) cells i (omega arith) (omega arith) in
    record {
      range = range;
      code = λ live. (cell live).0;
      size = λ live. let size = (cell live).1 in omega arith;
    }

-- ---- where the pointers of rows lie

lie_row_as : (schema : Schema) (row : Row) (live : Bool) (stop : ℕ) → row.live ≡ live → row.offset ≤ stop → (live ≡ true → row.offset + code_size schema row.code ≡ stop) → LieBetween row.offset (cond live (map (λ at. row.offset + at) (pointers_of schema row.code)) []) stop
lie_row_as schema row true stop is order size =
    let start : row.offset + 0 ≡ row.offset = omega arith in
    subst (λ (n : ℕ). LieBetween n (map (λ at. row.offset + at) (pointers_of schema row.code)) stop) start
    (subst (λ (n : ℕ). LieBetween (row.offset + 0) (map (λ at. row.offset + at) (pointers_of schema row.code)) n) (size refl)
    (lie_moved row.offset 0 (code_size schema row.code) (pointers_of schema row.code) (lie_code schema row.code)))
lie_row_as schema row false stop is order size = order

pub lie_row : (schema : Schema) (bytes : List ℕ) (i : ℕ) → IsRowOf schema bytes i → LieBetween (offset_in bytes i) (row_pointers schema (row_in bytes i)) (stop_in bytes i)
lie_row schema bytes i is =
    let some = is.range.some in
    lie_row_as schema (row_in bytes i) (row_in bytes i).live (stop_in bytes i) refl (omega arith) is.size

lie_rows : (schema : Schema) (bytes : List ℕ) → HasCells schema bytes → (a n low : ℕ) → a + n ≡ rows_in bytes → (n ≡ 0 → low ≤ end_in bytes) → (0 < n → low ≤ offset_in bytes a)
    → LieBetween low (flat_map (row_pointers schema) (map (row_in bytes) (range_with_len a n))) (end_in bytes)
lie_rows schema bytes has a zero low counted none some = none refl
lie_rows schema bytes has a (suc n) low counted none some =
    let is = row_of_schema schema bytes has a (omega arith) in
    let most = is.range.most in
    let rest = lie_rows schema bytes has (a + 1) n (stop_in bytes a) (omega arith) (λ e. most)
    (λ more. let same = stop_more (rows_in bytes) (end_in bytes) (offset_in bytes) a (omega arith) in omega arith) in
    lie_append low (stop_in bytes a) (end_in bytes) (row_pointers schema (row_in bytes a)) _ (lie_lower low (offset_in bytes a) (stop_in bytes a) _ (some (omega arith)) (lie_row schema bytes a is)) rest

-- the pointers of a page of objects lie between its header and the cells' end
pub lie_cells : (schema : Schema) (bytes : List ℕ) → HasCells schema bytes → LieBetween 32 (cell_pointers schema bytes) (end_in bytes)
lie_cells schema bytes has =
    let shape = IsPage-shape bytes has.page in
    let above = end_above (rows_in bytes) (end_in bytes) (offset_in bytes) shape.offsets in
    lie_rows schema bytes has 0 (rows_in bytes) 32 (omega arith) (λ e. above)
    (λ some. let first = shape.offsets.first some in omega arith)

-- ---- what stays of a page of objects

same_length : (start stop : ℕ) (new old : List ℕ) → length new ≡ length old → length (between start stop new) ≡ length (between start stop old)
same_length start stop new old long =
    length-take (stop - start) (drop start new) ∙ ap (λ (n : ℕ). min (stop - start) n) (length-drop start new ∙ ap (λ (n : ℕ). n - start) long ∙ sym (length-drop start old))
    ∙ sym (length-take (stop - start) (drop start old))

same_sizes : (schema : Schema) (end : ℕ) (new old : List ℕ) (rows : List Row) → length new ≡ length old → AllByRecursion (IsCellOf schema) (cells_from end old rows) → AllByRecursion (IsCellOf schema) (cells_from end new rows)
same_sizes schema end new old [] long all = tt
same_sizes schema end new old (row ∷ []) long all = (λ live. ((all.0 live).0, same_length row.offset end new old long ∙ (all.0 live).1), tt)
same_sizes schema end new old (row ∷ next ∷ rows) long all =
    (λ live. ((all.0 live).0, same_length row.offset next.offset new old long ∙ (all.0 live).1), same_sizes schema end new old (next ∷ rows) long all.1)

-- a page of objects whose bytes from its header to the cells' end may be others
pub record StaysPage (schema : Schema) (old new : List ℕ) : Type 0 where
  pub header : header_of new ≡ header_of old
  pub rows : rows_of new ≡ rows_of old
  pub cells : HasCells schema new

pub stays_page : (schema : Schema) (old new : List ℕ) → HasCells schema old → Keeps 32 (end_in old) old new → StaysPage schema old new
stays_page schema old new has kept =
    let shape = IsPage-shape old has.page in
    let header : header_of new ≡ header_of old = header_of-same new old (record { bytes = λ k low high. kept.before k (omega arith) }) in
    let alike : IsAlike old new = record {
      long = kept.long;
      kind = ap (λ (h : PageHeader). h.kind) header;
      rows = ap (λ (h : PageHeader). h.rows) header;
      end = ap (λ (h : PageHeader). h.end) header;
      spare = record { bytes = λ k low high. kept.before k (omega arith) };
      tail = record { bytes = λ k low high. kept.before k (omega arith) };
      behind = record { bytes = λ k low high. kept.behind k low };
    } in
    let rows : rows_of new ≡ rows_of old = alike-rows old new has.page alike in
    let end : (header_of new).end ≡ (header_of old).end = ap (λ (h : PageHeader). h.end) header in
    let cells : cells_of new ≡ cells_from (header_of old).end new (rows_of old) = ap (λ (n : ℕ). cells_from n new (rows_of new)) end ∙ ap (cells_from (header_of old).end new) rows in
    record {
      header = header;
      rows = rows;
      cells = record {
        page = alike-IsPage old new has.page alike;
        cells = subst (λ (l : List Cell). AllByRecursion (IsCellOf schema) l) (sym cells) (same_sizes schema (header_of old).end new old (rows_of old) kept.long has.cells);
      };
    }

-- changing pointers that lie between the header and the cells' end leaves a page of objects
pub changed_page : (change : ℕ → ℕ) (schema : Schema) (places bytes : List ℕ) → HasCells schema bytes → LieBetween 32 places (end_in bytes) → StaysPage schema bytes (with_pointers change places bytes)
changed_page change schema places bytes has lie =
    let shape = IsPage-shape bytes has.page in
    let room = shape.room in
    let whole = shape.whole in
    stays_page schema bytes (with_pointers change places bytes) has (keeps change 32 (end_in bytes) places bytes lie (omega arith))

-- ---- a walk over the rows

pub row_read : (bytes : List ℕ) (i : ℕ) (row : Row) → i < rows_in bytes → slice_get (rows_of bytes) i ≡ Some row → row_in bytes i ≡ row
row_read bytes i row below told = same_Some (row_in bytes i) row (sym (slice_get-range (row_in bytes) (rows_in bytes) i below) ∙ told)

lie_within : (low high most : ℕ) (places : List ℕ) (by : ℕ) → LieBetween low places high → by + high ≤ most → AllByRecursion (λ at. by + at + 4 ≤ most) places
lie_within low high most [] by lie room = tt
lie_within low high most (at ∷ places) by lie room =
    let order = lie_order (at + 4) high places lie.1 in
    (omega arith, lie_within (at + 4) high most places by lie.1 room)

-- what a live row that is walked to says of its cell
pub record IsLiveRow (schema : Schema) (row : Row) : Type 0 where
  pub code : HasCode schema row.code
  pub within : AllByRecursion (λ at. row.offset + at + 4 ≤ 4096) (pointers_of schema row.code)

live_row_in : (schema : Schema) (bytes : List ℕ) → HasCells schema bytes → (i : ℕ) → i < rows_in bytes → (row_in bytes i).live ≡ true → IsLiveRow schema (row_in bytes i)
live_row_in schema bytes has i below live =
    let is = row_of_schema schema bytes has i below in
    let shape = IsPage-shape bytes has.page in
    let room = shape.room in
    let size = is.size live in
    let most = is.range.most in
    record {
      code = is.code live;
      within = lie_within 0 (code_size schema (row_in bytes i).code) 4096 (pointers_of schema (row_in bytes i).code) (offset_in bytes i) (lie_code schema (row_in bytes i).code) (omega arith);
    }

pub live_row : (schema : Schema) (bytes : List ℕ) (i : ℕ) (row : Row) → HasCells schema bytes → i < length (rows_of bytes) → slice_get (rows_of bytes) i ≡ Some row → row.live ≡ true → IsLiveRow schema row
live_row schema bytes i row has there told live =
    let below : i < rows_in bytes = omega (arith, rows_counted bytes) in
    let is = row_read bytes i row below told in
    subst (λ (r : Row). IsLiveRow schema r) is (live_row_in schema bytes has i below (ap (λ (r : Row). r.live) is ∙ live))

pub live_pointers : (schema : Schema) (row : Row) (pointers : List ℕ) → row.live ≡ true → pointers ≡ pointers_of schema row.code → map (λ at. row.offset + at) pointers ≡ row_pointers schema row
live_pointers schema row pointers live is = ap (map (λ at. row.offset + at)) is ∙ rw live refl

pub no_pointers : (schema : Schema) (row : Row) → row.live ≡ false → row_pointers schema row ≡ []
no_pointers schema row dead = rw dead refl

pub changed_append : (change : ℕ → ℕ) (first second bytes : List ℕ) → with_pointers change (first ++ second) bytes ≡ with_pointers change second (with_pointers change first bytes)
changed_append change [] second bytes = refl
changed_append change (at ∷ first) second bytes = changed_append change first second (with_pointer change at bytes)

drop_row : {X : Type 0} (xs : List X) (i : ℕ) (x : X) → slice_get xs i ≡ Some x → drop i xs ≡ x ∷ drop (i + 1) xs
drop_row {X = X} xs i x told =
    let below = slice_get_within xs i x told in
    drop_more xs i x below ∙ ap (λ (y : X). y ∷ drop (i + 1) xs) (get_or_from_slice_get xs i x x told)

-- one row on: what is left to change, and what the page still is
pub record Turns (change : ℕ → ℕ) (schema : Schema) (start new : List ℕ) (i : ℕ) (whole : List ℕ) : Type 0 where
  pub cells : HasCells schema new
  pub rows : rows_of new ≡ rows_of start
  pub left : with_pointers change (flat_map (row_pointers schema) (drop i (rows_of start))) new ≡ whole

pub turns : (change : ℕ → ℕ) (schema : Schema) (start old new whole : List ℕ) (i : ℕ) (row : Row) → Turns change schema start old i whole → i < length (rows_of old) → slice_get (rows_of old) i ≡ Some row
    → new ≡ with_pointers change (row_pointers schema row) old → Turns change schema start new (i + 1) whole
turns change schema start old new whole i row so_far there told is =
    let below : i < rows_in old = omega (arith, rows_counted old) in
    let read = row_read old i row below told in
    let of_schema = row_of_schema schema old so_far.cells i below in
    let above = of_schema.range.above in
    let lie : LieBetween 32 (row_pointers schema row) (end_in old) =
    lie_lower 32 (offset_in old i) (end_in old) (row_pointers schema row) above
    (lie_higher (offset_in old i) (stop_in old i) (end_in old) (row_pointers schema row) of_schema.range.most
    (subst (λ (r : Row). LieBetween (offset_in old i) (row_pointers schema r) (stop_in old i)) read (lie_row schema old i of_schema))) in
    let stays : StaysPage schema old new = subst (λ (b : List ℕ). StaysPage schema old b) (sym is) (changed_page change schema (row_pointers schema row) old so_far.cells lie) in
    let at_start : slice_get (rows_of start) i ≡ Some row = ap (λ (l : List Row). slice_get l i) (sym so_far.rows) ∙ told in
    let rest : List ℕ = flat_map (row_pointers schema) (drop (i + 1) (rows_of start)) in
    let split : flat_map (row_pointers schema) (drop i (rows_of start)) ≡ row_pointers schema row ++ rest = ap (flat_map (row_pointers schema)) (drop_row (rows_of start) i row at_start) in
    record {
      cells = stays.cells;
      rows = stays.rows ∙ so_far.rows;
      left = ap (with_pointers change rest) is ∙ sym (changed_append change (row_pointers schema row) rest old) ∙ ap (λ (l : List ℕ). with_pointers change l old) (sym split) ∙ so_far.left;
    }

pub rows_split : (schema : Schema) (rows : List Row) (i : ℕ) (row : Row) → slice_get rows i ≡ Some row → flat_map (row_pointers schema) (drop i rows) ≡ row_pointers schema row ++ flat_map (row_pointers schema) (drop (i + 1) rows)
rows_split schema rows i row told = ap (flat_map (row_pointers schema)) (drop_row rows i row told)
