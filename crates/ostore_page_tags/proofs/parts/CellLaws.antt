-- The rows and cells of a page by their numbers.
use Rattle.std.proofs.Common.{◌≡◌, ℕ, zero, suc, ◌+◌, ◌-◌, ◌<◌, ◌≤◌, Bool, true, false, eqb, List, ◌∷◌, length, map, replicate, refl, sym, ap, ◌∙◌, arith}
use Rattle.std.specs.List.{range_with_len}
use Rattle.std.proofs.lemmas.Bool.{lt-ltb, le-ltb}
use Rattle.std.proofs.lemmas.List.{same_lists, get_or_default, get_or-replicate, length-replicate}
use Rattle.ostore_page_tags.specs.declared.layout.TheConstants.{ROW_BYTES}
use Rattle.ostore_page_tags.specs.declared.tag_rows.Row.{Row}
use Rattle.ostore_page_tags.specs.Numbers.{number_at, with_number}
use Rattle.ostore_page_tags.specs.Header.{header_of}
use Rattle.ostore_page_tags.specs.Rows.{row_place, row_in, state_in, rows_of}
use Rattle.ostore_page_tags.specs.inside.WithRow.{state_number, with_row}
use Rattle.ostore_page_tags.specs.Cells.{Cell, between, cell_to, cells_from, cells_of}
use Rattle.ostore_page_tags.proofs.bytes.ImageLaws.{SameOn, SameOn-within, number_at-same, length-between, between_read, header_same, length-with_number, Keeps, Keeps-refl, Keeps-trans, Keeps-within, keeps_before, keeps_behind, reads_kept}
use Rattle.ostore_page_tags.proofs.shape.PageShape.{ZeroOn, rows_in, end_in, stop_at}

-- ---- zeros

pub ZeroOn-within : (start stop low high : ℕ) (bytes : List ℕ) → ZeroOn start stop bytes → start ≤ low → high ≤ stop → ZeroOn low high bytes
ZeroOn-within start stop low high bytes none below above = record { zeros = λ k l h. none.zeros k (omega arith) (omega arith) }

pub ZeroOn-same : (start stop : ℕ) (new old : List ℕ) → ZeroOn start stop old → SameOn start stop new old → ZeroOn start stop new
ZeroOn-same start stop new old none same = record { zeros = λ k low high. same.bytes k low high ∙ none.zeros k low high }

pub between-zeros : (start stop : ℕ) (bytes : List ℕ) → stop ≤ length bytes → ZeroOn start stop bytes → between start stop bytes ≡ replicate (stop - start) 0
between-zeros start stop bytes within none =
    let long = length-between start stop bytes within in
    let size : length (replicate {A = ℕ} (stop - start) 0) ≡ stop - start = length-replicate (stop - start) 0 in
    same_lists _ _ (long ∙ sym size) (λ k d below.
    get_or_default (between start stop bytes) k d 0 below
    ∙ between_read start stop k bytes (omega arith) ∙ none.zeros (start + k) (omega arith) (omega arith)
    ∙ sym (get_or-replicate (stop - start) k 0 d (omega arith)))

-- ---- the header and the rows of images with the same bytes

pub header_of-same : (first second : List ℕ) → SameOn 0 20 first second → header_of first ≡ header_of second
header_of-same first second same =
    let kind = number_at-same 1 0 first second (SameOn-within 0 20 0 1 first second same (omega arith) (omega arith)) in
    let segment = number_at-same 1 1 first second (SameOn-within 0 20 1 2 first second same (omega arith) (omega arith)) in
    let rows = number_at-same 2 2 first second (SameOn-within 0 20 2 4 first second same (omega arith) (omega arith)) in
    let end = number_at-same 2 4 first second (SameOn-within 0 20 4 6 first second same (omega arith) (omega arith)) in
    let next = number_at-same 4 8 first second (SameOn-within 0 20 8 12 first second same (omega arith) (omega arith)) in
    let last_serial = number_at-same 4 12 first second (SameOn-within 0 20 12 16 first second same (omega arith) (omega arith)) in
    let last_page = number_at-same 4 16 first second (SameOn-within 0 20 16 20 first second same (omega arith) (omega arith)) in
    header_same _ _ _ _ _ _ _ (header_of second) kind segment rows end next last_serial last_page

-- the parts of a row
abbrev pub row_made : ℕ → ℕ → Bool → ℕ → Row
row_made offset code live serial = record { offset = offset; code = code; live = live; serial = serial }

pub row_same : (offset code : ℕ) (live : Bool) (serial : ℕ) (row : Row) → offset ≡ row.offset → code ≡ row.code → live ≡ row.live → serial ≡ row.serial → row_made offset code live serial ≡ row
row_same offset code live serial row a b c d = rw (a, b, c, d) refl

pub row_in-same : (i : ℕ) (first second : List ℕ) → SameOn (row_place i) (row_place i + ROW_BYTES) first second → row_in first i ≡ row_in second i
row_in-same i first second same =
    let at = row_place i in
    let offset = number_at-same 2 at first second (SameOn-within at (at + 8) at (at + 2) first second same (omega arith) (omega arith)) in
    let code = number_at-same 1 (at + 2) first second (SameOn-within at (at + 8) (at + 2) (at + 2 + 1) first second same (omega arith) (omega arith)) in
    let state = number_at-same 1 (at + 3) first second (SameOn-within at (at + 8) (at + 3) (at + 3 + 1) first second same (omega arith) (omega arith)) in
    let serial = number_at-same 4 (at + 4) first second (SameOn-within at (at + 8) (at + 4) (at + 4 + 4) first second same (omega arith) (omega arith)) in
    row_same _ _ _ _ (row_in second i) offset code (ap (λ s. eqb s 1) state) serial

pub state_in-same : (i : ℕ) (first second : List ℕ) → SameOn (row_place i) (row_place i + ROW_BYTES) first second → state_in first i ≡ state_in second i
state_in-same i first second same =
    let at = row_place i in
    number_at-same 1 (at + 3) first second (SameOn-within at (at + 8) (at + 3) (at + 3 + 1) first second same (omega arith) (omega arith))

-- ---- the cells by their numbers

-- the cell of row i, where there are so many rows
abbrev pub cell_in : ℕ → ℕ → List ℕ → (ℕ → Row) → ℕ → Cell
cell_in rows end bytes row i = cell_to (stop_at rows end (λ k. (row k).offset) i) bytes (row i)

pub cells_from-range : (rows end : ℕ) (bytes : List ℕ) (row : ℕ → Row) (a n : ℕ) → a + n ≡ rows → cells_from end bytes (map row (range_with_len a n)) ≡ map (cell_in rows end bytes row) (range_with_len a n)
cells_from-range rows end bytes row a zero all = refl
cells_from-range rows end bytes row a (suc zero) all = rw (le-ltb (a + 1) rows (omega arith)) refl
cells_from-range rows end bytes row a (suc (suc n)) all =
    let others = cells_from-range rows end bytes row (a + 1) (suc n) (omega arith) in
    rw (lt-ltb (a + 1) rows (omega arith)) (ap (λ l. cell_to (row (a + 1)).offset bytes (row a) ∷ l) others)

pub cells_are : (rows end : ℕ) (bytes : List ℕ) → rows_in bytes ≡ rows → end_in bytes ≡ end → cells_of bytes ≡ map (cell_in rows end bytes (row_in bytes)) (range_with_len 0 rows)
cells_are rows end bytes count stop =
    ap (λ e. cells_from e bytes (rows_of bytes)) stop
    ∙ ap (λ n. cells_from end bytes (map (row_in bytes) (range_with_len 0 n))) count
    ∙ cells_from-range rows end bytes (row_in bytes) 0 rows (omega arith)

pub cell_same : (stop last : ℕ) (new old : List ℕ) (row was : Row) → row ≡ was → stop ≡ last → between was.offset last new ≡ between was.offset last old → cell_to stop new row ≡ cell_to last old was
cell_same stop last new old row was rows stops bytes = rw (rows, stops, bytes) refl

abbrev pub cell_made : Row → List ℕ → Cell
cell_made row bytes = record { row = row; bytes = bytes }

-- ---- the image with a row written

pub with_row-before : (i start stop : ℕ) (row : Row) (bytes : List ℕ) → stop ≤ row_place i → row_place i + ROW_BYTES ≤ length bytes → Keeps start stop (with_row i row bytes) bytes
with_row-before i start stop row bytes below within =
    let at = row_place i in
    keeps_before start stop 4 (at + 4) row.serial _ bytes (keeps_before start stop 1 (at + 3) (state_number row.live) _ bytes
    (keeps_before start stop 1 (at + 2) row.code _ bytes (keeps_before start stop 2 at row.offset bytes bytes (Keeps-refl start stop bytes)
    (omega arith) (omega arith)) (omega arith) (omega arith)) (omega arith) (omega arith)) (omega arith) (omega arith)

pub with_row-behind : (i start stop : ℕ) (row : Row) (bytes : List ℕ) → row_place i + ROW_BYTES ≤ start → row_place i + ROW_BYTES ≤ length bytes → Keeps start stop (with_row i row bytes) bytes
with_row-behind i start stop row bytes above within =
    let at = row_place i in
    keeps_behind start stop 4 (at + 4) row.serial _ bytes (keeps_behind start stop 1 (at + 3) (state_number row.live) _ bytes
    (keeps_behind start stop 1 (at + 2) row.code _ bytes (keeps_behind start stop 2 at row.offset bytes bytes (Keeps-refl start stop bytes)
    (omega arith) (omega arith)) (omega arith) (omega arith)) (omega arith) (omega arith)) (omega arith) (omega arith)

-- the fields lie within their widths
pub record IsRowWide (row : Row) : Type 0 where
  pub offset : row.offset < 65536
  pub code : row.code < 256
  pub serial : row.serial < 4294967296

state_read : (live : Bool) → eqb (state_number live) 1 ≡ live
state_read true = refl
state_read false = refl

pub state_number-le : (live : Bool) → state_number live ≤ 1
state_number-le true = omega arith
state_number-le false = omega arith

-- what is written is read
pub row_in-with_row : (i : ℕ) (row : Row) (bytes : List ℕ) → row_place i + ROW_BYTES ≤ length bytes → IsRowWide row → (row_in (with_row i row bytes) i ≡ row) × (state_in (with_row i row bytes) i ≤ 1)
row_in-with_row i row bytes within wide =
    let at : ℕ = row_place i in
    let number : ℕ = state_number row.live in
    let small : number ≤ 1 = state_number-le row.live in
    let b1 : List ℕ = with_number 2 at row.offset bytes in
    let b2 : List ℕ = with_number 1 (at + 2) row.code b1 in
    let b3 : List ℕ = with_number 1 (at + 3) number b2 in
    let b4 : List ℕ = with_number 4 (at + 4) row.serial b3 in
    let l1 : length b1 ≡ length bytes = length-with_number 2 at row.offset bytes (omega arith) in
    let l2 : length b2 ≡ length b1 = length-with_number 1 (at + 2) row.code b1 (omega arith) in
    let l3 : length b3 ≡ length b2 = length-with_number 1 (at + 3) number b2 (omega arith) in
    let k4 : Keeps at (at + 8) b4 b4 = Keeps-refl at (at + 8) b4 in
    let k3 : Keeps at (at + 4) b4 b3 = keeps_before at (at + 4) 4 (at + 4) row.serial b3 b3 (Keeps-refl at (at + 4) b3) (omega arith) (omega arith) in
    let k2 : Keeps at (at + 3) b4 b2 = Keeps-trans at (at + 3) b4 b3 b2 (Keeps-within at (at + 4) at (at + 3) b4 b3 k3 (omega arith) (omega arith)) (keeps_before at (at + 3) 1 (at + 3) number b2 b2 (Keeps-refl at (at + 3) b2) (omega arith) (omega arith)) in
    let k1 : Keeps at (at + 2) b4 b1 = Keeps-trans at (at + 2) b4 b2 b1 (Keeps-within at (at + 3) at (at + 2) b4 b2 k2 (omega arith) (omega arith)) (keeps_before at (at + 2) 1 (at + 2) row.code b1 b1 (Keeps-refl at (at + 2) b1) (omega arith) (omega arith)) in
    let offset : number_at 2 at b4 ≡ row.offset = reads_kept 2 at row.offset at (at + 2) b4 bytes wide.offset (omega arith) (omega arith) (omega arith) k1 in
    let code : number_at 1 (at + 2) b4 ≡ row.code = reads_kept 1 (at + 2) row.code at (at + 3) b4 b1 wide.code (omega arith) (omega arith) (omega arith) k2 in
    let state : number_at 1 (at + 3) b4 ≡ number = reads_kept 1 (at + 3) number at (at + 4) b4 b2 (omega arith) (omega arith) (omega arith) (omega arith) k3 in
    let serial : number_at 4 (at + 4) b4 ≡ row.serial = reads_kept 4 (at + 4) row.serial at (at + 8) b4 b3 wide.serial (omega arith) (omega arith) (omega arith) k4 in
    (row_same _ _ _ _ row offset code (ap (λ s. eqb s 1) state ∙ state_read row.live) serial, omega arith)
