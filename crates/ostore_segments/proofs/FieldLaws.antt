-- A number of 4 bytes written into a header, behind its first 8 bytes: the next page, the last serial or the
-- last page.
use Rattle.std.proofs.Common.{◌≡◌, ℕ, ◌+◌, ◌-◌, ◌*◌, ◌<◌, ◌≤◌, List, length, sym, ap, ◌∙◌, arith}
use Rattle.ostore_page_tags.specs.Numbers.{number_at, with_number}
use Rattle.ostore_page_tags.specs.Header.{header_of}
use Rattle.ostore_page_tags.specs.Cells.{between, cells_of}
use Rattle.ostore_page_tags.specs.Rules.{IsPage, are_zero}
use Rattle.ostore_page_tags.proofs.bytes.ImageLaws.{SameOn, SameOn-within, number_at-same, between-same, header_same, length-with_number, number_at-with_number, SameOn-with_number_before, SameOn-with_number_behind}
use Rattle.ostore_page_tags.proofs.shape.PageShape.{rows_in, end_in, offset_in, IsPage-shape, end_above}
use Rattle.ostore_page_tags.proofs.changes.EditLaws.{IsAlike, alike-IsPage, alike-cells}
use Rattle.ostore_segments.specs.Serials.{with_serial}
use Rattle.ostore_segments.specs.inside.Fields.{with_next, with_last}
use Rattle.ostore_page_tags.specs.Allocated.{IsPlainHeader, IsFront}

-- the bytes before a place and behind the number stay
pub record IsField (at value : ℕ) (old : List ℕ) : Type 0 where
  pub low : 8 ≤ at
  pub high : at + 4 ≤ 20
  pub fits : value < 4294967296
  pub whole : length old ≡ 4096

field_before : (at value : ℕ) (old : List ℕ) → IsField at value old → SameOn 0 at (with_number 4 at value old) old
field_before at value old field =
    let whole = field.whole in let high = field.high in
    SameOn-with_number_before 4 at value 0 at old (omega arith) (omega arith)

field_behind : (at value : ℕ) (old : List ℕ) → IsField at value old → SameOn (at + 4) 4096 (with_number 4 at value old) old
field_behind at value old field =
    let whole = field.whole in let high = field.high in
    SameOn-with_number_behind 4 at value (at + 4) 4096 old (omega arith) (omega arith)

read_before : (m place at value : ℕ) (old : List ℕ) → IsField at value old → place + m ≤ at → number_at m place (with_number 4 at value old) ≡ number_at m place old
read_before m place at value old field low = number_at-same m place _ old (SameOn-within 0 at place (place + m) _ old (field_before at value old field) (omega arith) low)

read_behind : (m place at value : ℕ) (old : List ℕ) → IsField at value old → at + 4 ≤ place → place + m ≤ 4096 → number_at m place (with_number 4 at value old) ≡ number_at m place old
read_behind m place at value old field low high = number_at-same m place _ old (SameOn-within (at + 4) 4096 place (place + m) _ old (field_behind at value old field) low high)

read_here : (at value : ℕ) (old : List ℕ) → IsField at value old → number_at 4 at (with_number 4 at value old) ≡ value
read_here at value old field =
    let whole = field.whole in let high = field.high in let fits = field.fits in
    number_at-with_number 4 at value old (omega arith) (omega arith)

pub next_written : (value : ℕ) (old : List ℕ) → IsField 8 value old → header_of (with_number 4 8 value old) ≡ with_next (header_of old) value
next_written value old field =
    header_same _ _ _ _ _ _ _ (with_next (header_of old) value) (read_before 1 0 8 value old field (omega arith)) (read_before 1 1 8 value old field (omega arith)) (read_before 2 2 8 value old field (omega arith)) (read_before 2 4 8 value old field (omega arith))
    (read_here 8 value old field) (read_behind 4 12 8 value old field (omega arith) (omega arith)) (read_behind 4 16 8 value old field (omega arith) (omega arith))

pub serial_written : (value : ℕ) (old : List ℕ) → IsField 12 value old → header_of (with_number 4 12 value old) ≡ with_serial (header_of old) value
serial_written value old field =
    header_same _ _ _ _ _ _ _ (with_serial (header_of old) value) (read_before 1 0 12 value old field (omega arith)) (read_before 1 1 12 value old field (omega arith)) (read_before 2 2 12 value old field (omega arith)) (read_before 2 4 12 value old field (omega arith))
    (read_before 4 8 12 value old field (omega arith)) (read_here 12 value old field) (read_behind 4 16 12 value old field (omega arith) (omega arith))

pub last_written : (value : ℕ) (old : List ℕ) → IsField 16 value old → header_of (with_number 4 16 value old) ≡ with_last (header_of old) value
last_written value old field =
    header_same _ _ _ _ _ _ _ (with_last (header_of old) value) (read_before 1 0 16 value old field (omega arith)) (read_before 1 1 16 value old field (omega arith)) (read_before 2 2 16 value old field (omega arith)) (read_before 2 4 16 value old field (omega arith))
    (read_before 4 8 16 value old field (omega arith)) (read_before 4 12 16 value old field (omega arith)) (read_here 16 value old field)

pub field_length : (at value : ℕ) (old : List ℕ) → IsField at value old → length (with_number 4 at value old) ≡ 4096
field_length at value old field =
    let whole = field.whole in let high = field.high in
    length-with_number 4 at value old (omega arith) ∙ whole

-- a page of objects stays good and keeps its cells
field_alike : (at value : ℕ) (old : List ℕ) → IsPage old → IsField at value old → IsAlike old (with_number 4 at value old)
field_alike at value old page field =
    let whole : length old ≡ 4096 = field.whole in let low = field.low in let high = field.high in
    let shape = IsPage-shape old page in
    let above : 32 ≤ end_in old = end_above (rows_in old) (end_in old) (offset_in old) shape.offsets in
    let before = field_before at value old field in
    let behind = field_behind at value old field in
    record {
      long = field_length at value old field ∙ sym whole;
      kind = read_before 1 0 at value old field (omega arith);
      rows = read_before 2 2 at value old field (omega arith);
      end = read_before 2 4 at value old field (omega arith);
      spare = SameOn-within 0 at 6 8 _ old before (omega arith) (omega arith);
      tail = SameOn-within (at + 4) 4096 20 32 _ old behind (omega arith) (omega arith);
      behind = SameOn-within (at + 4) 4096 (end_in old) 4096 _ old behind (omega arith) (omega arith);
    }

pub field_page : (at value : ℕ) (old : List ℕ) → IsPage old → IsField at value old → IsPage (with_number 4 at value old)
field_page at value old page field = alike-IsPage old _ page (field_alike at value old page field)

pub field_cells : (at value : ℕ) (old : List ℕ) → IsPage old → IsField at value old → cells_of (with_number 4 at value old) ≡ cells_of old
field_cells at value old page field =
    let high = field.high in
    let shape = IsPage-shape old page in
    let room = shape.room in
    alike-cells old _ page (field_alike at value old page field) (SameOn-within (at + 4) 4096 32 (end_in old) _ old (field_behind at value old field) (omega arith) (omega arith))

-- another page keeps its kind and its zeros
pub field_plain : (which at value : ℕ) (old : List ℕ) → IsPlainHeader which old → IsField at value old → IsPlainHeader which (with_number 4 at value old)
field_plain which at value old plain field =
    let whole : length old ≡ 4096 = field.whole in let low = field.low in let high = field.high in
    let long = field_length at value old field in
    record {
      kind = read_before 1 0 at value old field (omega arith) ∙ plain.kind;
      segment = read_before 1 1 at value old field (omega arith) ∙ plain.segment;
      rows = read_before 2 2 at value old field (omega arith) ∙ plain.rows;
      end = read_before 2 4 at value old field (omega arith) ∙ plain.end;
      spare = read_before 2 6 at value old field (omega arith) ∙ plain.spare;
      tail = ap are_zero (between-same 20 32 _ old (omega arith) (omega arith) (SameOn-within (at + 4) 4096 20 32 _ old (field_behind at value old field) (omega arith) (omega arith))) ∙ plain.tail;
    }

pub field_between : (at value start stop : ℕ) (old : List ℕ) → IsField at value old → 20 ≤ start → stop ≤ 4096 → between start stop (with_number 4 at value old) ≡ between start stop old
field_between at value start stop old field low top =
    let whole : length old ≡ 4096 = field.whole in let high = field.high in
    let long = field_length at value old field in
    between-same start stop _ old (omega arith) (omega arith) (SameOn-within (at + 4) 4096 start stop _ old (field_behind at value old field) (omega arith) top)

pub field_front : (at value : ℕ) (old : List ℕ) → IsFront old → IsField at value old → IsFront (with_number 4 at value old)
field_front at value old front field = record {
  header = field_plain 3 at value old front.header field;
  behind = ap are_zero (field_between at value 1052 4096 old field (omega arith) (omega arith)) ∙ front.behind;
}

-- the segments' first pages on page 0 stay
pub field_first : (at value segment : ℕ) (old : List ℕ) → IsField at value old → segment ≤ 255 → number_at 4 (32 + 4 * (segment - 1)) (with_number 4 at value old) ≡ number_at 4 (32 + 4 * (segment - 1)) old
field_first at value segment old field most =
    let high = field.high in
    read_behind 4 (32 + 4 * (segment - 1)) at value old field (omega arith) (omega arith)

pub rows_kept : (at value : ℕ) (old : List ℕ) → IsField at value old → (header_of (with_number 4 at value old)).rows ≡ (header_of old).rows
rows_kept at value old field = let low = field.low in read_before 2 2 at value old field (omega arith)

pub kind_kept : (at value : ℕ) (old : List ℕ) → IsField at value old → (header_of (with_number 4 at value old)).kind ≡ (header_of old).kind
kind_kept at value old field = let low = field.low in read_before 1 0 at value old field (omega arith)
