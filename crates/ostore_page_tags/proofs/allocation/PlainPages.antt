-- Pages that have a header with a kind and a next page, and else zeros.
use Rattle.std.proofs.Common.{◌≡◌, ℕ, zero, suc, ◌+◌, ◌*◌, ◌<◌, ◌≤◌, List, length, get_or, drop, replicate, refl, ap, ◌∙◌, arith}
use Rattle.std.proofs.lemmas.List.{get_or-drop, length-replicate, get_or-replicate}
use Rattle.byteorder.specs.Endian.{little_from}
use Rattle.ostore_base.specs.declared.page.TheConstants.{PAGE_SIZE}
use Rattle.ostore_base.specs.declared.page.PageImage.{PageImage}
use Rattle.ostore_page_tags.specs.declared.page_header.PageHeader.{PageHeader}
use Rattle.ostore_page_tags.specs.Numbers.{number_at}
use Rattle.ostore_page_tags.specs.Header.{header_of, with_header}
use Rattle.ostore_page_tags.specs.Allocated.{AreZero, IsPlainHeader, IsFront, IsFreePage, IsRootRow, IsRoots}
use Rattle.ostore_page_tags.specs.FreshPages.{plain_header, plain_image}
use Rattle.ostore_page_tags.proofs.bytes.ImageLaws.{IsHeaderWide, with_header-spare, with_header-behind, header_of-with_header}
use Rattle.ostore_page_tags.proofs.shape.PageShape.{ZeroOn, between-ZeroOn}
use Rattle.ostore_page_tags.proofs.parts.CellLaws.{ZeroOn-within, ZeroOn-same}

pub record IsPlain (which next : ℕ) (bytes : List ℕ) : Type 0 where
  pub long : length bytes ≡ PAGE_SIZE
  pub header : header_of bytes ≡ plain_header which next
  pub spare : number_at 2 6 bytes ≡ 0
  pub zeros : ZeroOn 20 PAGE_SIZE bytes

number_of_zeros : (i n : ℕ) (xs : List ℕ) → ((k : ℕ) → i ≤ k → k < i + n → get_or xs k 0 ≡ 0) → little_from i n xs ≡ 0
number_of_zeros i zero xs none = refl
number_of_zeros i (suc n) xs none =
    let here : get_or xs i 0 ≡ 0 = none i (omega arith) (omega arith) in
    let others : little_from (suc i) n xs ≡ 0 = number_of_zeros (suc i) n xs (λ k low high. none k (omega arith) (omega arith)) in
    rw (here, others) refl

pub number_at-zeros : (n place : ℕ) (bytes : List ℕ) → ZeroOn place (place + n) bytes → number_at n place bytes ≡ 0
number_at-zeros n place bytes none =
    number_of_zeros 0 n (drop place bytes) (λ k low high. get_or-drop place bytes k 0 ∙ none.zeros (place + k) (omega arith) (omega arith))

-- such a header, written into zeros
written_plain : (which next : ℕ) (held : List ℕ) → which < 256 → next < 4294967296 → length held ≡ PAGE_SIZE → ZeroOn 0 PAGE_SIZE held → IsPlain which next (with_header (plain_header which next) held)
written_plain which next held small narrow long none =
    let wide : IsHeaderWide (plain_header which next) = record { kind = small; segment = omega arith; rows = omega arith; end = omega arith; next = narrow; last_serial = omega arith; last_page = omega arith } in
    let new : List ℕ = with_header (plain_header which next) held in
    let kept = with_header-spare (plain_header which next) held (omega arith) in
    let behind = with_header-behind (plain_header which next) PAGE_SIZE held (omega arith) in
    record {
      long = behind.long ∙ long;
      header = header_of-with_header (plain_header which next) held (omega arith) wide;
      spare = number_at-zeros 2 6 new (ZeroOn-same 6 8 new held (ZeroOn-within 0 PAGE_SIZE 6 8 held none (omega arith) (omega arith)) kept.same);
      zeros = ZeroOn-same 20 PAGE_SIZE new held (ZeroOn-within 0 PAGE_SIZE 20 PAGE_SIZE held none (omega arith) (omega arith)) behind.same;
    }

zero_on : (n : ℕ) → ZeroOn 0 n (replicate n 0)
zero_on n = record { zeros = λ k low high. get_or-replicate n k 0 0 high }

pub plain_image-plain : (which next : ℕ) → which < 256 → next < 4294967296 → IsPlain which next (plain_image which next).bytes
unfolding plain_image
plain_image-plain which next small narrow = written_plain which next (replicate PAGE_SIZE 0) small narrow (length-replicate {A = ℕ} PAGE_SIZE 0) (zero_on PAGE_SIZE)

-- ---- what such pages are

plain_zero : (start stop which next : ℕ) (bytes : List ℕ) → IsPlain which next bytes → 20 ≤ start → stop ≤ PAGE_SIZE → AreZero start stop bytes
plain_zero start stop which next bytes plain above below =
    let long = plain.long in
    between-ZeroOn start stop bytes (omega arith) (ZeroOn-within 20 PAGE_SIZE start stop bytes plain.zeros above below)

plain-header : (which next : ℕ) (bytes : List ℕ) → IsPlain which next bytes → IsPlainHeader which bytes
plain-header which next bytes plain = record {
  kind = ap (λ (h : PageHeader). h.kind) plain.header;
  segment = ap (λ (h : PageHeader). h.segment) plain.header;
  rows = ap (λ (h : PageHeader). h.rows) plain.header;
  end = ap (λ (h : PageHeader). h.end) plain.header;
  spare = plain.spare;
  tail = plain_zero 20 32 which next bytes plain (omega arith) (omega arith);
}

pub plain-front : (next : ℕ) (bytes : List ℕ) → IsPlain 3 next bytes → IsFront bytes
plain-front next bytes plain = record {
  header = plain-header 3 next bytes plain;
  behind = plain_zero (32 + 4 * 255) PAGE_SIZE 3 next bytes plain (omega arith) (omega arith);
}

pub plain-free : (next : ℕ) (bytes : List ℕ) → IsPlain 1 next bytes → IsFreePage bytes
plain-free next bytes plain = record {
  header = plain-header 1 next bytes plain;
  behind = plain_zero 32 PAGE_SIZE 1 next bytes plain (omega arith) (omega arith);
}

plain-root : (bytes : List ℕ) (at : ℕ) → IsPlain 4 0 bytes → 32 ≤ at → at + 40 ≤ PAGE_SIZE → IsRootRow bytes at
plain-root bytes at plain above below = record {
  name = plain_zero (at + 1 + number_at 1 (at + 0) bytes) (at + 32) 4 0 bytes plain (omega arith) (omega arith);
  behind = plain_zero (at + 36) (at + 40) 4 0 bytes plain (omega arith) (omega arith);
  free = λ empty. plain_zero at (at + 40) 4 0 bytes plain (omega arith) (omega arith);
}

pub plain-roots : (bytes : List ℕ) → IsPlain 4 0 bytes → IsRoots bytes
plain-roots bytes plain = record {
  header = plain-header 4 0 bytes plain;
  next = ap (λ (h : PageHeader). h.next) plain.header;
  rows = λ root below. plain-root bytes (32 + 40 * root) plain (omega arith) (omega arith);
  behind = plain_zero (32 + 40 * 101) PAGE_SIZE 4 0 bytes plain (omega arith) (omega arith);
}

-- ---- how they are made

abbrev image_of : List ℕ → PageImage
image_of bytes = record { bytes = bytes }

pub plain_made : (which next : ℕ) (held : List ℕ) (image : PageImage) → held ≡ replicate PAGE_SIZE 0 → image.bytes ≡ with_header (plain_header which next) held → image ≡ plain_image which next
unfolding plain_image
plain_made which next held image none written = ap image_of (written ∙ ap (with_header (plain_header which next)) none)
