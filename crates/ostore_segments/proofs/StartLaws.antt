-- A free page whose first six bytes are made those of an empty page of objects.
use Rattle.std.proofs.Common.{◌≡◌, ℕ, ◌+◌, ◌≤◌, List, [], ◌∷◌, length, refl, ap, ◌∙◌, arith}
use Rattle.ostore_base.specs.Disk.{replaced}
use Rattle.ostore_page_tags.specs.declared.page_header.PageHeader.{PageHeader}
use Rattle.ostore_page_tags.specs.Numbers.{number_at}
use Rattle.ostore_page_tags.specs.Header.{header_of}
use Rattle.ostore_page_tags.specs.Cells.{cells_of}
use Rattle.ostore_page_tags.specs.Rules.{IsPage}
use Rattle.ostore_page_tags.proofs.bytes.ImageLaws.{SameOn, SameOn-within, number_at-same, header_same, length-replaced_within, SameOn-replaced_behind}
use Rattle.ostore_page_tags.proofs.parts.CellLaws.{ZeroOn-same}
use Rattle.ostore_page_tags.proofs.shape.PageShape.{ZeroOn, ZeroOn-between, rows_in, end_in, shape-IsPage}
use Rattle.ostore_segments.specs.inside.Fields.{header_made}
use Rattle.ostore_page_tags.specs.Allocated.{IsFreePage}
use Rattle.ostore_segments.proofs.SeenLaws.{no_cells}

abbrev pub start : ℕ → List ℕ
start segment = 2 ∷ segment ∷ 0 ∷ 0 ∷ 32 ∷ 0 ∷ []

-- the header of an empty page of objects, over that of the free page
abbrev pub started_header : ℕ → PageHeader → PageHeader
started_header segment h = header_made 2 segment 0 32 h.next h.last_serial h.last_page

module _ (segment : ℕ) (old : List ℕ) (whole : length old ≡ 4096) where
  abbrev pub started : List ℕ
  started = replaced 0 (start segment) old

  pub started_length : length started ≡ 4096
  started_length = length-replaced_within 0 (start segment) old (omega arith) ∙ whole

  started_behind : SameOn 6 4096 started old
  started_behind = SameOn-replaced_behind 0 6 4096 (start segment) old (omega arith) (omega arith)

  behind : (m place : ℕ) → 6 ≤ place → place + m ≤ 4096 → number_at m place started ≡ number_at m place old
  behind m place low high = number_at-same m place started old (SameOn-within 6 4096 place (place + m) started old started_behind low high)

  segment_read : number_at 1 1 started ≡ segment
  segment_read = let sum : segment + 0 ≡ segment = omega arith in sum

  pub started_reads : header_of started ≡ started_header segment (header_of old)
  started_reads =
      header_same _ _ _ _ _ _ _ (started_header segment (header_of old)) refl segment_read refl refl
      (behind 4 8 (omega arith) (omega arith)) (behind 4 12 (omega arith) (omega arith)) (behind 4 16 (omega arith) (omega arith))

  pub started_empty : cells_of started ≡ []
  started_empty = no_cells started (ap (λ (h : PageHeader). h.rows) started_reads)

  pub started_good : IsFreePage old → IsPage started
  started_good free =
      let rows : rows_in started ≡ 0 = ap (λ (h : PageHeader). h.rows) started_reads in
      let end : end_in started ≡ 32 = ap (λ (h : PageHeader). h.end) started_reads in
      let zeros : ZeroOn 32 4096 started = ZeroOn-same 32 4096 started old (ZeroOn-between 32 4096 old free.behind) (SameOn-within 6 4096 32 4096 started old started_behind (omega arith) (omega arith)) in
      shape-IsPage started (record {
        whole = started_length;
        kind = ap (λ (h : PageHeader). h.kind) started_reads;
        spare = behind 2 6 (omega arith) (omega arith) ∙ free.header.spare;
        tail = ZeroOn-same 20 32 started old (ZeroOn-between 20 32 old free.header.tail) (SameOn-within 6 4096 20 32 started old started_behind (omega arith) (omega arith));
        gap = record { zeros = λ k low high. zeros.zeros k (omega arith) (omega arith) };
        room = omega arith;
        offsets = record {
          first = λ some. absurd (omega arith);
          rise = λ i below. absurd (omega arith);
          none = λ none. end;
          last = λ i at. absurd (omega arith);
          end_fours = omega arith;
        };
        states = λ i below. absurd (omega arith);
        tags = λ i below. absurd (omega arith);
      })
