-- The pointers of a page by its cells.
use Rattle.std.proofs.Common.{◌≡◌, ℕ, suc, ◌+◌, ◌-◌, ◌≤◌, Bool, true, false, List, [], ◌∷◌, ◌++◌, length, map, drop, get_or, replicate, refl, sym, ap, subst, ◌∙◌, arith, inl, inr}
use Rattle.std.specs.List.{All, AllPairs, AllByRecursion, flat_map}
use Rattle.std.proofs.lemmas.List.{get_or-drop, get_or-replicate, length-map, append-nil, append_assoc}
use Rattle.ostore_schema_layout.specs.declared.schema.Schema.{Schema}
use Rattle.ostore_schema_layout.specs.Cells.{code_size, pointers_of}
use Rattle.ostore_page_tags.specs.declared.tag_rows.Row.{Row}
use Rattle.ostore_page_tags.specs.Numbers.{number_at}
use Rattle.ostore_page_tags.specs.Header.{header_of}
use Rattle.ostore_page_tags.specs.Rows.{rows_of}
use Rattle.ostore_page_tags.specs.Cells.{Cell, between, cell_to, cells_from, cells_of}
use Rattle.ostore_page_tags.proofs.bytes.ImageLaws.{number_at-same, between_read}
use Rattle.ostore_page_tags.proofs.walks.NthLaws.{rows_counted}
use Rattle.ostore_relocation.specs.Places.{IsBeside, LieBetween, row_pointers, cell_pointers}
use Rattle.ostore_relocation.specs.Fitness.{IsCellOf}
use Rattle.ostore_relocation.specs.Stores.{AreZeros}
use Rattle.ostore_relocation.proofs.PlaceLaws.{lie_lower, lie_append, lie_moved, lie_order, lie_code}
use Rattle.ostore_segments.specs.Edits.{IsBesideCell}

-- ---- rows and cells

abbrev pub row_of_cell : Cell → Row
row_of_cell cell = cell.row

cells_rows : (end : ℕ) (bytes : List ℕ) (rows : List Row) → map row_of_cell (cells_from end bytes rows) ≡ rows
cells_rows end bytes [] = refl
cells_rows end bytes (row ∷ []) = refl
cells_rows end bytes (row ∷ next ∷ rows) = ap (λ (l : List Row). row ∷ l) (cells_rows end bytes (next ∷ rows))

pub rows_are : (bytes : List ℕ) → map row_of_cell (cells_of bytes) ≡ rows_of bytes
rows_are bytes = cells_rows (header_of bytes).end bytes (rows_of bytes)

pub cells_counted : (bytes : List ℕ) → length (cells_of bytes) ≡ (header_of bytes).rows
cells_counted bytes = sym (length-map (cells_of bytes) row_of_cell) ∙ ap (λ (l : List Row). length l) (rows_are bytes) ∙ rows_counted bytes

-- the pointers of some cells
abbrev pub pointers_in : Schema → List Cell → List ℕ
pointers_in schema cells = flat_map (row_pointers schema) (map row_of_cell cells)

pub pointers_are : (schema : Schema) (bytes : List ℕ) → cell_pointers schema bytes ≡ pointers_in schema (cells_of bytes)
pointers_are schema bytes = ap (flat_map (row_pointers schema)) (sym (rows_are bytes))

pub pointers_append : (schema : Schema) (first second : List Cell) → pointers_in schema (first ++ second) ≡ pointers_in schema first ++ pointers_in schema second
pointers_append schema [] second = refl
pointers_append schema (cell ∷ first) second =
    ap (λ (l : List ℕ). row_pointers schema cell.row ++ l) (pointers_append schema first second)
    ∙ sym (append_assoc (row_pointers schema cell.row) (pointers_in schema first) (pointers_in schema second))

-- ---- where they lie

lie_row_as : (schema : Schema) (row : Row) (size : ℕ) (live : Bool) → row.live ≡ live → (live ≡ true → size ≡ code_size schema row.code) → LieBetween row.offset (row_pointers schema row) (row.offset + size)
lie_row_as schema row size true is sized =
    let here : row_pointers schema row ≡ map (λ at. row.offset + at) (pointers_of schema row.code) = rw is refl in
    let moved = lie_moved row.offset 0 (code_size schema row.code) (pointers_of schema row.code) (lie_code schema row.code) in
    let start : row.offset + 0 ≡ row.offset = omega arith in
    subst (λ (l : List ℕ). LieBetween row.offset l (row.offset + size)) (sym here)
    (subst (λ (n : ℕ). LieBetween row.offset (map (λ at. row.offset + at) (pointers_of schema row.code)) (row.offset + n)) (sym (sized refl))
    (subst (λ (n : ℕ). LieBetween n (map (λ at. row.offset + at) (pointers_of schema row.code)) (row.offset + code_size schema row.code)) start moved))
lie_row_as schema row size false is sized =
    let none : row_pointers schema row ≡ [] = rw is refl in
    subst (λ (l : List ℕ). LieBetween row.offset l (row.offset + size)) (sym none) (omega arith)

lie_one : (schema : Schema) (cell : Cell) → IsCellOf schema cell → LieBetween cell.row.offset (row_pointers schema cell.row) (cell.row.offset + length cell.bytes)
lie_one schema cell sized = lie_row_as schema cell.row (length cell.bytes) cell.row.live refl (λ live. (sized live).1)

-- of a list, what holds of the rest
pub all_rest : (P : Cell → Type 0) (cell : Cell) (cells : List Cell) → All P (cell ∷ cells) → All P cells
all_rest P cell cells all = λ k d below. all (suc k) d (omega arith)

pub pairs_rest : (R : Cell → Cell → Type 0) (cell : Cell) (cells : List Cell) → AllPairs R (cell ∷ cells) → AllPairs R cells
pairs_rest R cell cells all = λ i k d less below. all (suc i) (suc k) d (omega arith) (omega arith)

pub lie_cells : (schema : Schema) (low high : ℕ) (cells : List Cell) → low ≤ high → All (IsCellOf schema) cells → All (λ (cell : Cell). low ≤ cell.row.offset) cells → All (λ (cell : Cell). cell.row.offset + length cell.bytes ≤ high) cells
    → AllPairs (λ (cell : Cell) (later : Cell). cell.row.offset + length cell.bytes ≤ later.row.offset) cells → LieBetween low (pointers_in schema cells) high
lie_cells schema low high [] order sized behind before apart = order
lie_cells schema low high (cell ∷ cells) order sized behind before apart =
    let stop : ℕ = cell.row.offset + length cell.bytes in
    let least : low ≤ cell.row.offset = behind 0 cell (omega arith) in
    let most : stop ≤ high = before 0 cell (omega arith) in
    lie_append low stop high (row_pointers schema cell.row) (pointers_in schema cells)
    (lie_lower low cell.row.offset stop (row_pointers schema cell.row) least (lie_one schema cell (sized 0 cell (omega arith))))
    (lie_cells schema stop high cells most (all_rest (IsCellOf schema) cell cells sized) (λ k d below. apart 0 (suc k) d (omega arith) (omega arith))
    (all_rest (λ (c : Cell). c.row.offset + length c.bytes ≤ high) cell cells before) (pairs_rest (λ (c : Cell) (later : Cell). c.row.offset + length c.bytes ≤ later.row.offset) cell cells apart))

-- ---- bytes beside cells are beside their pointers

pub all_both : (P : ℕ → Type 0) (first second : List ℕ) → AllByRecursion P first → AllByRecursion P second → AllByRecursion P (first ++ second)
all_both P [] second a b = b
all_both P (at ∷ first) second a b = (a.0, all_both P first second a.1 b)

below_all : (low high start n : ℕ) (places : List ℕ) → LieBetween low places high → high ≤ start → AllByRecursion (IsBeside start n) places
below_all low high start n [] lie h = tt
below_all low high start n (at ∷ places) lie h = let order = lie_order (at + 4) high places lie.1 in (inl (omega arith), below_all (at + 4) high start n places lie.1 h)

above_all : (low high start n : ℕ) (places : List ℕ) → LieBetween low places high → start + n ≤ low → AllByRecursion (IsBeside start n) places
above_all low high start n [] lie h = tt
above_all low high start n (at ∷ places) lie h = let least = lie.0 in (inr (omega arith), above_all (at + 4) high start n places lie.1 (omega arith))

beside_one : (schema : Schema) (at n : ℕ) (cell : Cell) → IsCellOf schema cell → IsBesideCell at n cell → AllByRecursion (IsBeside at n) (row_pointers schema cell.row)
beside_one schema at n cell sized (inl early) = below_all cell.row.offset (cell.row.offset + length cell.bytes) at n (row_pointers schema cell.row) (lie_one schema cell sized) early
beside_one schema at n cell sized (inr late) = above_all cell.row.offset (cell.row.offset + length cell.bytes) at n (row_pointers schema cell.row) (lie_one schema cell sized) late

pub beside_cells : (schema : Schema) (at n : ℕ) (cells : List Cell) → All (IsCellOf schema) cells → All (IsBesideCell at n) cells → AllByRecursion (IsBeside at n) (pointers_in schema cells)
beside_cells schema at n [] sized beside = tt
beside_cells schema at n (cell ∷ cells) sized beside =
    all_both (IsBeside at n) (row_pointers schema cell.row) (pointers_in schema cells) (beside_one schema at n cell (sized 0 cell (omega arith)) (beside 0 cell (omega arith)))
    (beside_cells schema at n cells (all_rest (IsCellOf schema) cell cells sized) (all_rest (IsBesideCell at n) cell cells beside))

-- ---- the pointers of a last cell that is zeros

pub all_last : (P : Cell → Type 0) (cells : List Cell) (cell : Cell) → All P (cells ++ cell ∷ []) → P cell
all_last P [] cell all = all 0 cell (omega arith)
all_last P (first ∷ cells) cell all = all_last P cells cell (all_rest P first (cells ++ cell ∷ []) all)

pub last_bytes : (end : ℕ) (bytes : List ℕ) (rows : List Row) (cells : List Cell) (cell : Cell) → cells_from end bytes rows ≡ cells ++ cell ∷ [] → cell.bytes ≡ between cell.row.offset end bytes
last_bytes end bytes [] [] cell same = absurd (let long = ap (λ (l : List Cell). length l) same in omega arith)
last_bytes end bytes [] (first ∷ cells) cell same = absurd (let long = ap (λ (l : List Cell). length l) same in omega arith)
last_bytes end bytes (row ∷ []) [] cell same = (let is : cell_to end bytes row ≡ cell = cc in ap (λ (c : Cell). c.bytes) (sym is) ∙ ap (λ (c : Cell). between c.row.offset end bytes) is)
last_bytes end bytes (row ∷ []) (first ∷ []) cell same = absurd (let long = ap (λ (l : List Cell). length l) same in omega arith)
last_bytes end bytes (row ∷ []) (first ∷ second ∷ cells) cell same = absurd (let long = ap (λ (l : List Cell). length l) same in omega arith)
last_bytes end bytes (row ∷ next ∷ rows) [] cell same = absurd (let long : suc (length (cells_from end bytes (next ∷ rows))) ≡ 1 = ap (λ (l : List Cell). length l) same in let some = one_more end bytes next rows in omega arith)
  where
    one_more : (end : ℕ) (bytes : List ℕ) (next : Row) (rows : List Row) → 1 ≤ length (cells_from end bytes (next ∷ rows))
    one_more end bytes next [] = omega arith
    one_more end bytes next (later ∷ rows) = omega arith
last_bytes end bytes (row ∷ next ∷ rows) (first ∷ cells) cell same = last_bytes end bytes (next ∷ rows) cells cell cc

zero_number : (offset stop q n : ℕ) (bytes : List ℕ) → between offset stop bytes ≡ replicate n 0 → n ≤ stop - offset → q + 4 ≤ n → number_at 4 (offset + q) bytes ≡ 0
zero_number offset stop q n bytes same short within = number_at-same 4 0 (drop (offset + q) bytes) (replicate 4 0) (record {
  bytes = λ k low high.
      let at : offset + q + k ≡ offset + (q + k) = omega arith in
      get_or-drop (offset + q) bytes k 0 ∙ ap (λ (m : ℕ). get_or bytes m 0) at ∙ sym (between_read offset stop (q + k) bytes (omega arith))
      ∙ ap (λ (l : List ℕ). get_or l (q + k) 0) same ∙ get_or-replicate n (q + k) 0 0 (omega arith) ∙ sym (get_or-replicate 4 k 0 0 (omega arith));
})

zeros_moved : (offset stop n low : ℕ) (bytes places : List ℕ) → between offset stop bytes ≡ replicate n 0 → n ≤ stop - offset → LieBetween low places n → AreZeros bytes (map (λ at. offset + at) places)
zeros_moved offset stop n low bytes [] same short lie = tt
zeros_moved offset stop n low bytes (at ∷ places) same short lie =
    let order : at + 4 ≤ n = lie_order (at + 4) n places lie.1 in
    (zero_number offset stop at n bytes same short order, zeros_moved offset stop n (at + 4) bytes places same short lie.1)

zeros_row : (schema : Schema) (row : Row) (stop n : ℕ) (bytes : List ℕ) (live : Bool) → row.live ≡ live → (live ≡ true → n ≡ code_size schema row.code) → between row.offset stop bytes ≡ replicate n 0 → n ≤ stop - row.offset → AreZeros bytes (row_pointers schema row)
zeros_row schema row stop n bytes true is sized same short =
    let here : row_pointers schema row ≡ map (λ at. row.offset + at) (pointers_of schema row.code) = rw is refl in
    subst (AreZeros bytes) (sym here) (zeros_moved row.offset stop n 0 bytes (pointers_of schema row.code) same short (subst (λ (m : ℕ). LieBetween 0 (pointers_of schema row.code) m) (sym (sized refl)) (lie_code schema row.code)))
zeros_row schema row stop n bytes false is sized same short =
    let none : row_pointers schema row ≡ [] = rw is refl in
    subst (AreZeros bytes) (sym none) tt

-- the pointers of a last cell of zeros are 0
pub last_zeros : (schema : Schema) (bytes : List ℕ) (cells : List Cell) (cell : Cell) → cells_of bytes ≡ cells ++ cell ∷ [] → IsCellOf schema cell → cell.bytes ≡ replicate (length cell.bytes) 0 → cell.row.offset + length cell.bytes ≤ (header_of bytes).end
    → AreZeros bytes (pointers_in schema (cell ∷ []))
last_zeros schema bytes cells cell same sized zeros within =
    let read : cell.bytes ≡ between cell.row.offset (header_of bytes).end bytes = last_bytes (header_of bytes).end bytes (rows_of bytes) cells cell same in
    subst (AreZeros bytes) (sym (append-nil (row_pointers schema cell.row)))
    (zeros_row schema cell.row (header_of bytes).end (length cell.bytes) bytes cell.row.live refl (λ live. (sized live).1) (sym read ∙ zeros) (omega arith))
