-- The cells of a good page lie apart, and are its bytes between the header and the gap.
use Rattle.std.proofs.Common.{◌≡◌, ℕ, zero, suc, ◌+◌, ◌-◌, ◌*◌, ◌%◌, ◌<◌, ◌≤◌, max, List, [], ◌++◌, length, get_or, map, drop, take, replicate, refl, sym, ap, subst, ◌∙◌, arith}
use Rattle.std.specs.List.{range_with_len, flat_map, All, AllPairs}
use Rattle.std.proofs.lemmas.List.{append-nil, take-append-drop, take-take, drop-drop, drop-take}
use Rattle.std.proofs.lemmas.List.FromFn.{length-map-range_with_len, get_or-map-range_with_len}
use Rattle.ostore_base.specs.declared.page.TheConstants.{PAGE_SIZE}
use Rattle.ostore_page_tags.specs.declared.layout.TheConstants.{ROW_BYTES}
use Rattle.ostore_page_tags.specs.declared.tag_rows.Row.{Row}
use Rattle.ostore_page_tags.specs.Rows.{row_in}
use Rattle.ostore_page_tags.specs.Cells.{Cell, between, cells_of, free_bytes, AreApart, parts_of}
use Rattle.ostore_page_tags.specs.Rules.{IsPage}
use Rattle.ostore_page_tags.proofs.bytes.ImageLaws.{length-between}
use Rattle.ostore_page_tags.proofs.shape.PageShape.{Offsets, rows_in, end_in, offset_in, Shape, IsPage-shape, end_above, stop_at, stop_more, stop_last, IsCellRange, cell_range, cell_before}
use Rattle.ostore_page_tags.proofs.parts.CellLaws.{ZeroOn-within, between-zeros, cell_in, cells_are}

-- what is so of each number's value is so of each element
All-range : {X : Type 0} (P : X → Type 0) (f : ℕ → X) (n : ℕ) → ((i : ℕ) → i < n → P (f i)) → All P (map f (range_with_len 0 n))
All-range P f n holds k d below =
    let size = length-map-range_with_len f 0 n in
    subst P (sym (get_or-map-range_with_len f 0 n k k d (omega arith) (omega arith))) (holds k (omega arith))

AllPairs-range : {X : Type 0} (R : X → X → Type 0) (f : ℕ → X) (n : ℕ) → ((i j : ℕ) → i < j → j < n → R (f i) (f j)) → AllPairs R (map f (range_with_len 0 n))
AllPairs-range R f n holds i j d early below =
    let size = length-map-range_with_len f 0 n in
    subst (λ x. R x (get_or (map f (range_with_len 0 n)) j d)) (sym (get_or-map-range_with_len f 0 n i i d (omega arith) (omega arith)))
    (subst (λ y. R (f i) y) (sym (get_or-map-range_with_len f 0 n j j d (omega arith) (omega arith))) (holds i j early (omega arith)))

-- how long the cell of row i is
cell_long : (bytes : List ℕ) → Shape bytes → (i : ℕ) → i < rows_in bytes → (IsCellRange (offset_in bytes i) (stop_at (rows_in bytes) (end_in bytes) (offset_in bytes) i) (end_in bytes))
    × (length (between (offset_in bytes i) (stop_at (rows_in bytes) (end_in bytes) (offset_in bytes) i) bytes) ≡ stop_at (rows_in bytes) (end_in bytes) (offset_in bytes) i - offset_in bytes i)
cell_long bytes shape i below =
    let range = cell_range (rows_in bytes) (end_in bytes) (offset_in bytes) shape.offsets i below in
    let most = range.most in
    let room = shape.room in
    let whole = shape.whole in
    (range, length-between (offset_in bytes i) (stop_at (rows_in bytes) (end_in bytes) (offset_in bytes) i) bytes (omega arith))

four_more : (n : ℕ) → 0 < n → n % 4 ≡ 0 → 4 ≤ n
four_more n some fours = omega arith

pub IsPage-AreApart : (bytes : List ℕ) → IsPage bytes → AreApart bytes
IsPage-AreApart bytes page =
    let shape = IsPage-shape bytes page in
    let rows : ℕ = rows_in bytes in
    let end : ℕ = end_in bytes in
    let cell : ℕ → Cell = cell_in rows end bytes (row_in bytes) in
    let are : cells_of bytes ≡ map cell (range_with_len 0 rows) = cells_are rows end bytes refl refl in
    record {
      behind = subst (λ l. All (λ c. 32 ≤ c.row.offset) l) (sym are) (All-range (λ c. 32 ≤ c.row.offset) cell rows (λ i below. (cell_long bytes shape i below).0.above));
      within = subst (λ l. All (λ c. c.row.offset + length c.bytes ≤ end) l) (sym are) (All-range (λ c. c.row.offset + length c.bytes ≤ end) cell rows (λ i below.
          let long = cell_long bytes shape i below in
          let some = long.0.some in
          let most = long.0.most in
          omega (arith, long.1)));
      fours = subst (λ l. All (λ c. (c.row.offset % 4 ≡ 0) × (length c.bytes % 4 ≡ 0)) l) (sym are) (All-range (λ c. (c.row.offset % 4 ≡ 0) × (length c.bytes % 4 ≡ 0)) cell rows (λ i below.
          let long = cell_long bytes shape i below in
          (long.0.start_fours, ap (λ (n : ℕ). n % 4) long.1 ∙ long.0.fours)));
      some = subst (λ l. All (λ c. 4 ≤ length c.bytes) l) (sym are) (All-range (λ c. 4 ≤ length c.bytes) cell rows (λ i below.
          let long = cell_long bytes shape i below in
          let some = long.0.some in
          let four = four_more (stop_at rows end (offset_in bytes) i - offset_in bytes i) (omega arith) long.0.fours in
          omega (arith, long.1)));
      apart = subst (λ l. AllPairs (λ c later. c.row.offset + length c.bytes ≤ later.row.offset) l) (sym are) (AllPairs-range (λ c later. c.row.offset + length c.bytes ≤ later.row.offset) cell rows (λ i j early below.
          let long = cell_long bytes shape i (omega arith) in
          let some = long.0.some in
          let order = cell_before rows end (offset_in bytes) shape.offsets i j early below in
          omega (arith, long.1)));
    }

-- ---- a page is its parts

-- two parts, one behind the other, are one
pub between-append : (start middle stop : ℕ) (bytes : List ℕ) → start ≤ middle → middle ≤ stop → between start middle bytes ++ between middle stop bytes ≡ between start stop bytes
between-append start middle stop bytes first second =
    let rest : List ℕ = take (stop - start) (drop start bytes) in
    let skip : start + (middle - start) ≡ middle = omega arith in
    let size : stop - start ≡ (middle - start) + (stop - middle) = omega arith in
    let front : take (middle - start) rest ≡ between start middle bytes = take-take (middle - start) (stop - start) (drop start bytes) (omega arith) in
    let back : drop (middle - start) rest ≡ between middle stop bytes =
    ap (λ (n : ℕ). drop (middle - start) (take n (drop start bytes))) size
    ∙ drop-take (middle - start) (stop - middle) (drop start bytes)
    ∙ ap (take (stop - middle)) (drop-drop (middle - start) start bytes ∙ ap (λ (n : ℕ). drop n bytes) skip) in
    ap (λ (l : List ℕ). l ++ between middle stop bytes) (sym front) ∙ ap (λ (l : List ℕ). take (middle - start) rest ++ l) (sym back) ∙ take-append-drop (middle - start) rest

-- the cells from row a on are the bytes from its offset up to the cells' end
cells_join : (rows end : ℕ) (bytes : List ℕ) (row : ℕ → Row) → Offsets rows end (λ k. (row k).offset) → (a n : ℕ) → a + suc n ≡ rows
    → flat_map (λ c. c.bytes) (map (cell_in rows end bytes row) (range_with_len a (suc n))) ≡ between (row a).offset end bytes
cells_join rows end bytes row law a zero all =
    append-nil (between (row a).offset (stop_at rows end (λ k. (row k).offset) a) bytes) ∙ ap (λ (s : ℕ). between (row a).offset s bytes) (stop_last rows end (λ k. (row k).offset) a (omega arith))
cells_join rows end bytes row law a (suc n) all =
    let others = cells_join rows end bytes row law (a + 1) n (omega arith) in
    let stop = stop_more rows end (λ k. (row k).offset) a (omega arith) in
    let rise = law.rise a (omega arith) in
    let range = cell_range rows end (λ k. (row k).offset) law (a + 1) (omega arith) in
    let some = range.some in
    let most = range.most in
    ap (λ (l : List ℕ). between (row a).offset (stop_at rows end (λ k. (row k).offset) a) bytes ++ l) others
    ∙ ap (λ (s : ℕ). between (row a).offset s bytes ++ between (row (a + 1)).offset end bytes) stop
    ∙ between-append (row a).offset (row (a + 1)).offset end bytes (omega (arith, rise.0)) (omega arith)

pub between_none : (start stop : ℕ) (bytes : List ℕ) → start ≡ stop → between start stop bytes ≡ []
between_none start stop bytes same = let none : stop - start ≡ 0 = omega arith in ap (λ (n : ℕ). take n (drop start bytes)) none

cells_join_all : (rows end : ℕ) (bytes : List ℕ) (row : ℕ → Row) → Offsets rows end (λ k. (row k).offset)
    → flat_map (λ c. c.bytes) (map (cell_in rows end bytes row) (range_with_len 0 rows)) ≡ between 32 end bytes
cells_join_all zero end bytes row law = sym (between_none 32 end bytes (sym (law.none refl)))
cells_join_all (suc rows) end bytes row law = cells_join (suc rows) end bytes row law 0 rows (omega arith) ∙ ap (λ (s : ℕ). between s end bytes) (law.first (omega arith))

between_start : (stop : ℕ) (bytes : List ℕ) → between 0 stop bytes ≡ take stop bytes
between_start stop bytes = ap (λ (n : ℕ). take n bytes) (omega arith)

front_append : (middle stop : ℕ) (bytes : List ℕ) → middle ≤ stop → take middle bytes ++ between middle stop bytes ≡ take stop bytes
front_append middle stop bytes order =
    ap (λ (l : List ℕ). l ++ between middle stop bytes) (sym (between_start middle bytes)) ∙ between-append 0 middle stop bytes (omega arith) order ∙ between_start stop bytes

-- the cells are the bytes between the header and their end
pub cells-between : (bytes : List ℕ) → IsPage bytes → flat_map (λ c. c.bytes) (cells_of bytes) ≡ between 32 (end_in bytes) bytes
cells-between bytes page =
    ap (flat_map (λ c. c.bytes)) (cells_are (rows_in bytes) (end_in bytes) bytes refl refl) ∙ cells_join_all (rows_in bytes) (end_in bytes) bytes (row_in bytes) (IsPage-shape bytes page).offsets

pub IsPage-parts : (bytes : List ℕ) → IsPage bytes → bytes ≡ parts_of bytes
IsPage-parts bytes page =
    let shape = IsPage-shape bytes page in
    let rows : ℕ = rows_in bytes in
    let end : ℕ = end_in bytes in
    let stop : ℕ = PAGE_SIZE - ROW_BYTES * rows_in bytes in
    let room = shape.room in
    let whole = shape.whole in
    let above : 32 ≤ end_in bytes = end_above rows end (offset_in bytes) shape.offsets in
    let cells : flat_map (λ c. c.bytes) (cells_of bytes) ≡ between 32 end bytes = cells-between bytes page in
    let gap : between end stop bytes ≡ replicate (free_bytes bytes) 0 =
    between-zeros end stop bytes (omega arith) (ZeroOn-within (max 32 end) stop end stop bytes shape.gap (omega arith) (omega arith)) in
    let front : take 32 bytes ++ between 32 end bytes ≡ take end bytes = front_append 32 end bytes above in
    let more : take end bytes ++ between end stop bytes ≡ take stop bytes = front_append end stop bytes (omega arith) in
    sym (ap (λ (l : List ℕ). take 32 bytes ++ l ++ replicate (free_bytes bytes) 0 ++ drop stop bytes) cells
    ∙ ap (λ (l : List ℕ). l ++ replicate (free_bytes bytes) 0 ++ drop stop bytes) front
    ∙ ap (λ (l : List ℕ). take end bytes ++ l ++ drop stop bytes) (sym gap)
    ∙ ap (λ (l : List ℕ). l ++ drop stop bytes) more
    ∙ take-append-drop stop bytes)
