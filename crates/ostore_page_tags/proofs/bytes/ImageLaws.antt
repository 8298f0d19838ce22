-- What stays and what is new where bytes of an image are replaced by as many others, and when two images
-- read the same.
use Rattle.std.proofs.Common.{◌≡◌, ℕ, zero, suc, ◌+◌, ◌-◌, ◌^◌, ◌<◌, ◌≤◌, List, ◌++◌, length, get_or, take, drop, replicate, refl, sym, ap, ◌∙◌, arith, inl, inr}
use Rattle.std.proofs.lemmas.Bool.{cases_lt}
use Rattle.std.proofs.lemmas.Grind.{common_steps}
use Rattle.std.proofs.lemmas.List.{same_lists, append_assoc, drop-drop, take_at, length-take-le, length-drop, get_or-drop, get_or-take, get_or_default, get_or_append_left, length-replicate}
use Rattle.byteorder.specs.Endian.{little_from, little_bytes}
use Rattle.byteorder.specs.Numbers.{little_number-reads_back, length-bytes_low_first}
use Rattle.std.specs.Prelude.{ℤ, FitsSigned}
use Rattle.std.specs.Int.{w64, cast_signed, cast_unsigned}
use Rattle.std.proofs.lemmas.Int.{to_z-of_z}
use mir.ValLaws.{of_z_fits}
use borrow.Rule.Slice.PartMut.{put_mid}
use Rattle.ostore_base.specs.Disk.{replaced}
use Rattle.ostore_base.proofs.DiskLemmas.{drop-replaced}
use Rattle.ostore_page_tags.specs.declared.page_header.PageHeader.{PageHeader}
use Rattle.ostore_page_tags.specs.Header.{header_of, with_header}
use Rattle.ostore_page_tags.specs.Numbers.{number_at, with_number, int_at, with_int}
use Rattle.ostore_page_tags.specs.Cells.{between}

-- two images have the same bytes from one place up to another
pub record SameOn (start stop : ℕ) (first second : List ℕ) : Type 0 where
  pub bytes : (k : ℕ) → start ≤ k → k < stop → get_or first k 0 ≡ get_or second k 0

pub SameOn-refl : (start stop : ℕ) (bytes : List ℕ) → SameOn start stop bytes bytes
SameOn-refl start stop bytes = record { bytes = λ k low high. refl }

pub SameOn-sym : (start stop : ℕ) (first second : List ℕ) → SameOn start stop first second → SameOn start stop second first
SameOn-sym start stop first second same = record { bytes = λ k low high. sym (same.bytes k low high) }

pub SameOn-trans : (start stop : ℕ) (first second third : List ℕ) → SameOn start stop first second → SameOn start stop second third → SameOn start stop first third
SameOn-trans start stop first second third same also = record { bytes = λ k low high. same.bytes k low high ∙ also.bytes k low high }

pub SameOn-within : (start stop low high : ℕ) (first second : List ℕ) → SameOn start stop first second → start ≤ low → high ≤ stop → SameOn low high first second
SameOn-within start stop low high first second same below above = record { bytes = λ k l h. same.bytes k (omega arith) (omega arith) }

pub SameOn-take : (stop : ℕ) (first second : List ℕ) → take stop first ≡ take stop second → SameOn 0 stop first second
SameOn-take stop first second same = record { bytes = λ k low high. sym (get_or-take stop first k 0 high) ∙ ap (λ (l : List ℕ). get_or l k 0) same ∙ get_or-take stop second k 0 high }

drop_read : (start k : ℕ) (bytes : List ℕ) → start ≤ k → get_or (drop start bytes) (k - start) 0 ≡ get_or bytes k 0
drop_read start k bytes low =
    let at : start + (k - start) ≡ k = omega arith in
    get_or-drop start bytes (k - start) 0 ∙ ap (λ (i : ℕ). get_or bytes i 0) at

pub SameOn-drop : (start stop : ℕ) (first second : List ℕ) → drop start first ≡ drop start second → SameOn start stop first second
SameOn-drop start stop first second same = record { bytes = λ k low high. sym (drop_read start k first low) ∙ ap (λ (l : List ℕ). get_or l (k - start) 0) same ∙ drop_read start k second low }

-- ---- what reads the same

little_from-same : (i n : ℕ) (first second : List ℕ) → ((k : ℕ) → i ≤ k → k < i + n → get_or first k 0 ≡ get_or second k 0) → little_from i n first ≡ little_from i n second
little_from-same i zero first second same = refl
little_from-same i (suc n) first second same =
    let byte : get_or first i 0 ≡ get_or second i 0 = same i (omega arith) (omega arith) in
    let others = little_from-same (suc i) n first second (λ k low high. same k (omega arith) (omega arith)) in
    rw (byte, others) refl

pub number_at-same : (n place : ℕ) (first second : List ℕ) → SameOn place (place + n) first second → number_at n place first ≡ number_at n place second
number_at-same n place first second same =
    little_from-same 0 n (drop place first) (drop place second) (λ k low high. get_or-drop place first k 0 ∙ same.bytes (place + k) (omega arith) (omega arith) ∙ sym (get_or-drop place second k 0))

pub between_read : (start stop k : ℕ) (bytes : List ℕ) → k < stop - start → get_or (between start stop bytes) k 0 ≡ get_or bytes (start + k) 0
between_read start stop k bytes below = get_or-take (stop - start) (drop start bytes) k 0 below ∙ get_or-drop start bytes k 0

pub length-between : (start stop : ℕ) (bytes : List ℕ) → stop ≤ length bytes → length (between start stop bytes) ≡ stop - start
length-between start stop bytes within = length-take-le (stop - start) (drop start bytes) (omega (arith, length-drop start bytes))

pub between-same : (start stop : ℕ) (first second : List ℕ) → stop ≤ length first → stop ≤ length second → SameOn start stop first second → between start stop first ≡ between start stop second
between-same start stop first second whole also same =
    let long = length-between start stop first whole in
    let as_long = length-between start stop second also in
    same_lists _ _ (long ∙ sym as_long) (λ k d below.
    get_or_default (between start stop first) k d 0 below
    ∙ between_read start stop k first (omega arith) ∙ same.bytes (start + k) (omega arith) (omega arith) ∙ sym (between_read start stop k second (omega arith))
    ∙ get_or_default (between start stop second) k 0 d (omega arith))

-- ---- the image with bytes replaced

pub length-replaced_within : (at : ℕ) (bytes held : List ℕ) → at + length bytes ≤ length held → length (replaced at bytes held) ≡ length held
length-replaced_within at bytes held within = grind (arith, common_steps)

pub take-replaced_before : (at n : ℕ) (bytes held : List ℕ) → n ≤ at → at + length bytes ≤ length held → take n (replaced at bytes held) ≡ take n held
take-replaced_before at n bytes held below within = grind (arith, common_steps)

pub drop-replaced_behind : (at n : ℕ) (bytes held : List ℕ) → at + length bytes ≤ n → at + length bytes ≤ length held → drop n (replaced at bytes held) ≡ drop n held
drop-replaced_behind at n bytes held above within =
    let past = at + length bytes in
    let split : past + (n - past) ≡ n = omega arith in
    ap (λ (k : ℕ). drop k (replaced at bytes held)) (sym split)
    ∙ sym (drop-drop (n - past) past (replaced at bytes held))
    ∙ ap (drop (n - past)) (drop-replaced at bytes held (omega arith))
    ∙ drop-drop (n - past) past held
    ∙ ap (λ (k : ℕ). drop k held) split

pub drop-replaced_at : (at : ℕ) (bytes held : List ℕ) → at + length bytes ≤ length held → drop at (replaced at bytes held) ≡ bytes ++ drop (at + length bytes) held
drop-replaced_at at bytes held within = grind (arith, common_steps)

pub between-replaced_at : (at : ℕ) (bytes held : List ℕ) → at + length bytes ≤ length held → between at (at + length bytes) (replaced at bytes held) ≡ bytes
between-replaced_at at bytes held within =
    let size : at + length bytes - at ≡ length bytes = omega arith in
    rw (size, drop-replaced_at at bytes held within) (take_at bytes _ (length bytes) refl)

pub SameOn-replaced_before : (at start stop : ℕ) (bytes held : List ℕ) → stop ≤ at → at + length bytes ≤ length held → SameOn start stop (replaced at bytes held) held
SameOn-replaced_before at start stop bytes held below within =
    SameOn-within 0 stop start stop _ _ (SameOn-take stop _ _ (take-replaced_before at stop bytes held below within)) (omega arith) (omega arith)

pub SameOn-replaced_behind : (at start stop : ℕ) (bytes held : List ℕ) → at + length bytes ≤ start → at + length bytes ≤ length held → SameOn start stop (replaced at bytes held) held
SameOn-replaced_behind at start stop bytes held above within = SameOn-drop start stop _ _ (drop-replaced_behind at start bytes held above within)

pub number_at-replaced_before : (n place at : ℕ) (bytes held : List ℕ) → place + n ≤ at → at + length bytes ≤ length held → number_at n place (replaced at bytes held) ≡ number_at n place held
number_at-replaced_before n place at bytes held below within = number_at-same n place _ _ (SameOn-replaced_before at place (place + n) bytes held below within)

pub number_at-replaced_behind : (n place at : ℕ) (bytes held : List ℕ) → at + length bytes ≤ place → at + length bytes ≤ length held → number_at n place (replaced at bytes held) ≡ number_at n place held
number_at-replaced_behind n place at bytes held above within = number_at-same n place _ _ (SameOn-replaced_behind at place (place + n) bytes held above within)

pub between-replaced_before : (start stop at : ℕ) (bytes held : List ℕ) → stop ≤ at → at + length bytes ≤ length held → between start stop (replaced at bytes held) ≡ between start stop held
between-replaced_before start stop at bytes held below within =
    between-same start stop _ _ (omega (arith, length-replaced_within at bytes held within)) (omega arith) (SameOn-replaced_before at start stop bytes held below within)

pub between-replaced_behind : (start stop at : ℕ) (bytes held : List ℕ) → at + length bytes ≤ start → at + length bytes ≤ length held → between start stop (replaced at bytes held) ≡ between start stop held
between-replaced_behind start stop at bytes held above within = ap (take (stop - start)) (drop-replaced_behind at start bytes held above within)

pub get_or-replaced_at : (at k : ℕ) (bytes held : List ℕ) → k < length bytes → at + length bytes ≤ length held → get_or (replaced at bytes held) (at + k) 0 ≡ get_or bytes k 0
get_or-replaced_at at k bytes held below within =
    sym (get_or-drop at (replaced at bytes held) k 0)
    ∙ ap (λ (l : List ℕ). get_or l k 0) (drop-replaced_at at bytes held within)
    ∙ get_or_append_left bytes (drop (at + length bytes) held) 0 k below

-- a byte of a part in which bytes were replaced
replaced_byte : (start stop at : ℕ) (bytes held : List ℕ) → start ≤ at → at + length bytes ≤ stop → stop ≤ length held → (k : ℕ) → k < stop - start
    → get_or (replaced at bytes held) (start + k) 0 ≡ get_or (replaced (at - start) bytes (between start stop held)) k 0
replaced_byte start stop at bytes held low high within k below =
    let part : List ℕ = between start stop held in
    let long : length part ≡ stop - start = length-between start stop held within in
    let was : get_or part k 0 ≡ get_or held (start + k) 0 = between_read start stop k held below in
    elim (cases_lt (start + k) at) [
      | inl before ↦
          (SameOn-replaced_before at 0 at bytes held (omega arith) (omega arith)).bytes (start + k) (omega arith) (omega arith)
          ∙ sym was ∙ sym ((SameOn-replaced_before (at - start) 0 (at - start) bytes part (omega arith) (omega arith)).bytes k (omega arith) (omega arith))
      | inr on ↦ elim (cases_lt (start + k) (at + length bytes)) [
        | inl inside ↦
            let here : at + (start + k - at) ≡ start + k = omega arith in
            let there : (at - start) + (start + k - at) ≡ k = omega arith in
            ap (λ (i : ℕ). get_or (replaced at bytes held) i 0) (sym here)
            ∙ get_or-replaced_at at (start + k - at) bytes held (omega arith) (omega arith)
            ∙ sym (get_or-replaced_at (at - start) (start + k - at) bytes part (omega arith) (omega arith))
            ∙ ap (λ (i : ℕ). get_or (replaced (at - start) bytes part) i 0) there
        | inr behind ↦
            (SameOn-replaced_behind at (at + length bytes) stop bytes held (omega arith) (omega arith)).bytes (start + k) (omega arith) (omega arith)
            ∙ sym was ∙ sym ((SameOn-replaced_behind (at - start) (at - start + length bytes) stop bytes part (omega arith) (omega arith)).bytes k (omega arith) (omega arith))
      ]
    ]

-- a part in which bytes are replaced has them replaced at the place that it begins before
pub between-replaced_within : (start stop at : ℕ) (bytes held : List ℕ) → start ≤ at → at + length bytes ≤ stop → stop ≤ length held → between start stop (replaced at bytes held) ≡ replaced (at - start) bytes (between start stop held)
between-replaced_within start stop at bytes held low high within =
    let part : List ℕ = between start stop held in
    let new : List ℕ = replaced at bytes held in
    let whole : length new ≡ length held = length-replaced_within at bytes held (omega arith) in
    let long : length part ≡ stop - start = length-between start stop held within in
    let size : length (replaced (at - start) bytes part) ≡ length part = length-replaced_within (at - start) bytes part (omega arith) in
    let count : length (between start stop new) ≡ stop - start = length-between start stop new (omega arith) in
    same_lists _ _ (count ∙ sym long ∙ sym size) (λ k d below.
    get_or_default (between start stop new) k d 0 below
    ∙ between_read start stop k new (omega arith) ∙ replaced_byte start stop at bytes held low high within k (omega arith)
    ∙ get_or_default (replaced (at - start) bytes part) k 0 d (omega arith))

-- ---- the image with a number written

pub length-with_number : (n at value : ℕ) (bytes : List ℕ) → at + n ≤ length bytes → length (with_number n at value bytes) ≡ length bytes
length-with_number n at value bytes within =
    let size = length-bytes_low_first 0 n value in
    length-replaced_within at (little_bytes n value) bytes (omega arith)

pub number_at-with_number : (n at value : ℕ) (bytes : List ℕ) → value < 256 ^ n → at + n ≤ length bytes → number_at n at (with_number n at value bytes) ≡ value
number_at-with_number n at value bytes fits within =
    let size = length-bytes_low_first 0 n value in
    rw (drop-replaced_at at (little_bytes n value) bytes (omega arith)) (little_number-reads_back n value _ fits)

pub int_at-with_int : (at : ℕ) (value : ℤ) (bytes : List ℕ) → FitsSigned w64 value → at + 8 ≤ length bytes → int_at at (with_int at value bytes) ≡ value
int_at-with_int at value bytes fits within =
    ap (cast_signed w64) (number_at-with_number 8 at (cast_unsigned w64 value) bytes (of_z_fits w64 value fits).fits within) ∙ to_z-of_z w64 value fits

pub SameOn-with_number_before : (n at value start stop : ℕ) (bytes : List ℕ) → stop ≤ at → at + n ≤ length bytes → SameOn start stop (with_number n at value bytes) bytes
SameOn-with_number_before n at value start stop bytes below within =
    let size = length-bytes_low_first 0 n value in
    SameOn-replaced_before at start stop (little_bytes n value) bytes below (omega arith)

pub SameOn-with_number_behind : (n at value start stop : ℕ) (bytes : List ℕ) → at + n ≤ start → at + n ≤ length bytes → SameOn start stop (with_number n at value bytes) bytes
SameOn-with_number_behind n at value start stop bytes above within =
    let size = length-bytes_low_first 0 n value in
    SameOn-replaced_behind at start stop (little_bytes n value) bytes (omega arith) (omega arith)

pub number_at-with_number_before : (m place n at value : ℕ) (bytes : List ℕ) → place + m ≤ at → at + n ≤ length bytes → number_at m place (with_number n at value bytes) ≡ number_at m place bytes
number_at-with_number_before m place n at value bytes below within = number_at-same m place _ _ (SameOn-with_number_before n at value place (place + m) bytes below within)

pub number_at-with_number_behind : (m place n at value : ℕ) (bytes : List ℕ) → at + n ≤ place → at + n ≤ length bytes → number_at m place (with_number n at value bytes) ≡ number_at m place bytes
number_at-with_number_behind m place n at value bytes above within = number_at-same m place _ _ (SameOn-with_number_behind n at value place (place + m) bytes above within)

-- an image that is as long as another, with the same bytes from one place up to another
pub record Keeps (start stop : ℕ) (new old : List ℕ) : Type 0 where
  pub long : length new ≡ length old
  pub same : SameOn start stop new old

pub Keeps-refl : (start stop : ℕ) (bytes : List ℕ) → Keeps start stop bytes bytes
Keeps-refl start stop bytes = record { long = refl; same = SameOn-refl start stop bytes }

pub Keeps-trans : (start stop : ℕ) (last new old : List ℕ) → Keeps start stop last new → Keeps start stop new old → Keeps start stop last old
Keeps-trans start stop last new old more kept = record { long = more.long ∙ kept.long; same = SameOn-trans start stop last new old more.same kept.same }

pub Keeps-within : (start stop low high : ℕ) (new old : List ℕ) → Keeps start stop new old → start ≤ low → high ≤ stop → Keeps low high new old
Keeps-within start stop low high new old kept below above = record { long = kept.long; same = SameOn-within start stop low high new old kept.same below above }

pub keeps_before : (start stop n at value : ℕ) (new old : List ℕ) → Keeps start stop new old → stop ≤ at → at + n ≤ length old → Keeps start stop (with_number n at value new) old
keeps_before start stop n at value new old kept below within =
    let long = kept.long in
    Keeps-trans start stop (with_number n at value new) new old (record { long = length-with_number n at value new (omega arith); same = SameOn-with_number_before n at value start stop new below (omega arith) }) kept

pub keeps_behind : (start stop n at value : ℕ) (new old : List ℕ) → Keeps start stop new old → at + n ≤ start → at + n ≤ length old → Keeps start stop (with_number n at value new) old
keeps_behind start stop n at value new old kept above within =
    let long = kept.long in
    Keeps-trans start stop (with_number n at value new) new old (record { long = length-with_number n at value new (omega arith); same = SameOn-with_number_behind n at value start stop new above (omega arith) }) kept

-- a number that was written is read in an image that keeps it
pub reads_kept : (n at value start stop : ℕ) (last held : List ℕ) → value < 256 ^ n → at + n ≤ length held → start ≤ at → at + n ≤ stop → Keeps start stop last (with_number n at value held) → number_at n at last ≡ value
reads_kept n at value start stop last held fits within low high kept =
    number_at-same n at last (with_number n at value held) (SameOn-within start stop at (at + n) _ _ kept.same low high) ∙ number_at-with_number n at value held fits within

-- ---- the image with a header written

-- the fields lie within their widths
pub record IsHeaderWide (header : PageHeader) : Type 0 where
  pub kind : header.kind < 256
  pub segment : header.segment < 256
  pub rows : header.rows < 65536
  pub end : header.end < 65536
  pub next : header.next < 4294967296
  pub last_serial : header.last_serial < 4294967296
  pub last_page : header.last_page < 4294967296

-- the bytes of the header that no field has stay
pub with_header-spare : (header : PageHeader) (bytes : List ℕ) → 32 ≤ length bytes → Keeps 6 8 (with_header header bytes) bytes
with_header-spare header bytes within =
    keeps_before 6 8 4 16 header.last_page _ bytes (keeps_before 6 8 4 12 header.last_serial _ bytes (keeps_before 6 8 4 8 header.next _ bytes
    (keeps_behind 6 8 2 4 header.end _ bytes (keeps_behind 6 8 2 2 header.rows _ bytes
    (keeps_behind 6 8 1 1 header.segment _ bytes (keeps_behind 6 8 1 0 header.kind bytes bytes (Keeps-refl 6 8 bytes)
    (omega arith) (omega arith)) (omega arith) (omega arith)) (omega arith) (omega arith)) (omega arith) (omega arith)) (omega arith) (omega arith)) (omega arith) (omega arith)) (omega arith) (omega arith)

pub with_header-behind : (header : PageHeader) (stop : ℕ) (bytes : List ℕ) → 32 ≤ length bytes → Keeps 20 stop (with_header header bytes) bytes
with_header-behind header stop bytes within =
    keeps_behind 20 stop 4 16 header.last_page _ bytes (keeps_behind 20 stop 4 12 header.last_serial _ bytes (keeps_behind 20 stop 4 8 header.next _ bytes
    (keeps_behind 20 stop 2 4 header.end _ bytes (keeps_behind 20 stop 2 2 header.rows _ bytes
    (keeps_behind 20 stop 1 1 header.segment _ bytes (keeps_behind 20 stop 1 0 header.kind bytes bytes (Keeps-refl 20 stop bytes)
    (omega arith) (omega arith)) (omega arith) (omega arith)) (omega arith) (omega arith)) (omega arith) (omega arith)) (omega arith) (omega arith)) (omega arith) (omega arith)) (omega arith) (omega arith)

abbrev pub header_made : ℕ → ℕ → ℕ → ℕ → ℕ → ℕ → ℕ → PageHeader
header_made kind segment rows end next last_serial last_page = record { kind = kind; segment = segment; rows = rows; end = end; next = next; last_serial = last_serial; last_page = last_page }

pub header_same : (kind segment rows end next last_serial last_page : ℕ) (header : PageHeader) → kind ≡ header.kind → segment ≡ header.segment → rows ≡ header.rows → end ≡ header.end → next ≡ header.next → last_serial ≡ header.last_serial → last_page ≡ header.last_page
    → header_made kind segment rows end next last_serial last_page ≡ header
header_same kind segment rows end next last_serial last_page header a b c d e f g = rw (a, b, c, d, e, f, g) refl

-- what is written is read
pub header_of-with_header : (header : PageHeader) (bytes : List ℕ) → 32 ≤ length bytes → IsHeaderWide header → header_of (with_header header bytes) ≡ header
header_of-with_header header bytes within wide =
    let b1 : List ℕ = with_number 1 0 header.kind bytes in
    let b2 : List ℕ = with_number 1 1 header.segment b1 in
    let b3 : List ℕ = with_number 2 2 header.rows b2 in
    let b4 : List ℕ = with_number 2 4 header.end b3 in
    let b5 : List ℕ = with_number 4 8 header.next b4 in
    let b6 : List ℕ = with_number 4 12 header.last_serial b5 in
    let b7 : List ℕ = with_number 4 16 header.last_page b6 in
    let l1 : length b1 ≡ length bytes = length-with_number 1 0 header.kind bytes (omega arith) in
    let l2 : length b2 ≡ length b1 = length-with_number 1 1 header.segment b1 (omega arith) in
    let l3 : length b3 ≡ length b2 = length-with_number 2 2 header.rows b2 (omega arith) in
    let l4 : length b4 ≡ length b3 = length-with_number 2 4 header.end b3 (omega arith) in
    let l5 : length b5 ≡ length b4 = length-with_number 4 8 header.next b4 (omega arith) in
    let l6 : length b6 ≡ length b5 = length-with_number 4 12 header.last_serial b5 (omega arith) in
    let l7 : length b7 ≡ length b6 = length-with_number 4 16 header.last_page b6 (omega arith) in
    let k7 : Keeps 0 20 b7 b7 = Keeps-refl 0 20 b7 in
    let k6 : Keeps 0 16 b7 b6 = keeps_before 0 16 4 16 header.last_page b6 b6 (Keeps-refl 0 16 b6) (omega arith) (omega arith) in
    let k5 : Keeps 0 12 b7 b5 = Keeps-trans 0 12 b7 b6 b5 (Keeps-within 0 16 0 12 b7 b6 k6 (omega arith) (omega arith)) (keeps_before 0 12 4 12 header.last_serial b5 b5 (Keeps-refl 0 12 b5) (omega arith) (omega arith)) in
    let k4 : Keeps 0 8 b7 b4 = Keeps-trans 0 8 b7 b5 b4 (Keeps-within 0 12 0 8 b7 b5 k5 (omega arith) (omega arith)) (keeps_before 0 8 4 8 header.next b4 b4 (Keeps-refl 0 8 b4) (omega arith) (omega arith)) in
    let k3 : Keeps 0 4 b7 b3 = Keeps-trans 0 4 b7 b4 b3 (Keeps-within 0 8 0 4 b7 b4 k4 (omega arith) (omega arith)) (keeps_before 0 4 2 4 header.end b3 b3 (Keeps-refl 0 4 b3) (omega arith) (omega arith)) in
    let k2 : Keeps 0 2 b7 b2 = Keeps-trans 0 2 b7 b3 b2 (Keeps-within 0 4 0 2 b7 b3 k3 (omega arith) (omega arith)) (keeps_before 0 2 2 2 header.rows b2 b2 (Keeps-refl 0 2 b2) (omega arith) (omega arith)) in
    let k1 : Keeps 0 1 b7 b1 = Keeps-trans 0 1 b7 b2 b1 (Keeps-within 0 2 0 1 b7 b2 k2 (omega arith) (omega arith)) (keeps_before 0 1 1 1 header.segment b1 b1 (Keeps-refl 0 1 b1) (omega arith) (omega arith)) in
    let kind : number_at 1 0 b7 ≡ header.kind = reads_kept 1 0 header.kind 0 1 b7 bytes wide.kind (omega arith) (omega arith) (omega arith) k1 in
    let segment : number_at 1 1 b7 ≡ header.segment = reads_kept 1 1 header.segment 0 2 b7 b1 wide.segment (omega arith) (omega arith) (omega arith) k2 in
    let rows : number_at 2 2 b7 ≡ header.rows = reads_kept 2 2 header.rows 0 4 b7 b2 wide.rows (omega arith) (omega arith) (omega arith) k3 in
    let end : number_at 2 4 b7 ≡ header.end = reads_kept 2 4 header.end 0 8 b7 b3 wide.end (omega arith) (omega arith) (omega arith) k4 in
    let next : number_at 4 8 b7 ≡ header.next = reads_kept 4 8 header.next 0 12 b7 b4 wide.next (omega arith) (omega arith) (omega arith) k5 in
    let last_serial : number_at 4 12 b7 ≡ header.last_serial = reads_kept 4 12 header.last_serial 0 16 b7 b5 wide.last_serial (omega arith) (omega arith) (omega arith) k6 in
    let last_page : number_at 4 16 b7 ≡ header.last_page = reads_kept 4 16 header.last_page 0 20 b7 b6 wide.last_page (omega arith) (omega arith) (omega arith) k7 in
    header_same _ _ _ _ _ _ _ header kind segment rows end next last_serial last_page

-- the header that is written field by field
pub header_of-written : (header : PageHeader) (b0 b1 b2 b3 b4 b5 b6 b7 : List ℕ) → 32 ≤ length b0 → IsHeaderWide header → b1 ≡ with_number 1 0 header.kind b0 → b2 ≡ with_number 1 1 header.segment b1 → b3 ≡ with_number 2 2 header.rows b2
    → b4 ≡ with_number 2 4 header.end b3 → b5 ≡ with_number 4 8 header.next b4 → b6 ≡ with_number 4 12 header.last_serial b5 → b7 ≡ with_number 4 16 header.last_page b6 → header_of b7 ≡ header
header_of-written header b0 b1 b2 b3 b4 b5 b6 b7 within wide kind segment rows end next last_serial last_page =
    let e1 : List ℕ → List ℕ = with_number 4 16 header.last_page in
    let e2 : List ℕ → List ℕ = λ b. e1 (with_number 4 12 header.last_serial b) in
    let e3 : List ℕ → List ℕ = λ b. e2 (with_number 4 8 header.next b) in
    let e4 : List ℕ → List ℕ = λ b. e3 (with_number 2 4 header.end b) in
    let e5 : List ℕ → List ℕ = λ b. e4 (with_number 2 2 header.rows b) in
    let e6 : List ℕ → List ℕ = λ b. e5 (with_number 1 1 header.segment b) in
    let written : b7 ≡ with_header header b0 = last_page ∙ ap e1 last_serial ∙ ap e2 next ∙ ap e3 end ∙ ap e4 rows ∙ ap e5 segment ∙ ap e6 kind in
    ap header_of written ∙ header_of-with_header header b0 within wide

-- ---- a part of the image made zero

pub put_mid-zeros : (start stop : ℕ) (held part : List ℕ) → start ≤ stop → stop ≤ length held → part ≡ replicate (length (take (stop - start) (drop start held))) 0 → put_mid start (stop - start) held part ≡ replaced start (replicate (stop - start) 0) held
put_mid-zeros start stop held part order within filled =
    let size : ℕ = stop - start in
    let long : length (take size (drop start held)) ≡ size = length-between start stop held within in
    let zeros : part ≡ replicate size 0 = filled ∙ ap (λ (n : ℕ). replicate n 0) long in
    let count : length (replicate {A = ℕ} size 0) ≡ size = length-replicate size 0 in
    ap (λ (p : List ℕ). take start held ++ (p ++ drop size (drop start held))) zeros
    ∙ ap (λ (rest : List ℕ). take start held ++ (replicate size 0 ++ rest)) (drop-drop size start held)
    ∙ sym (append_assoc (take start held) (replicate size 0) (drop (start + size) held))
    ∙ ap (λ (n : ℕ). take start held ++ replicate size 0 ++ drop (start + n) held) (sym count)
