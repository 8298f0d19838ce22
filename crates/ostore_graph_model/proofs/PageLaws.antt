-- What is read of the first ten pages and of headers, and what stays of it where the image of a page that may
-- have cells is another.
use Rattle.std.proofs.Common.{◌≡◌, ◌≢◌, ℕ, zero, suc, ◌+◌, ◌-◌, ◌*◌, ◌<◌, ◌≤◌, ◌&&◌, Bool, true, false, cond, leb, List, [], ◌∷◌, length, take, drop, set, refl, sym, ap, subst, ◌∙◌, arith, Option, Some}
use Rattle.std.specs.List.{slice_get}
use Rattle.std.specs.Option.{option_map_or}
use Rattle.std.proofs.lemmas.Bool.{and_parts, leb-true, le-leb}
use Rattle.ostore_base.specs.declared.page.PageImage.{PageImage}
use Rattle.ostore_page_tags.specs.declared.page_header.PageHeader.{PageHeader}
use Rattle.ostore_page_tags.specs.Numbers.{number_at}
use Rattle.ostore_page_tags.specs.Header.{header_of}
use Rattle.ostore_page_tags.specs.PageLists.{bytes_at, header_at, first_of, schema_bytes, schema_text}
use Rattle.ostore_page_tags.specs.PageChains.{IsSegment}
use Rattle.ostore_page_tags.specs.Allocated.{IsAllocated}
use Rattle.ostore_graph_model.specs.FixedPages.{roots_of, first_page}
use Rattle.ostore_page_tags.proofs.allocation.ChainLaws.{IsOwned}
use Rattle.ostore_graph_model.proofs.AllocationLaws.{first_of_chain}
use Rattle.ostore_graph_model.proofs.AddressLaws.{slice_get-set_other}

-- ---- bytes and headers

bytes_by_get : (pages : List PageImage) (p : ℕ) → bytes_at pages p ≡ option_map_or (λ (i : PageImage). i.bytes) (slice_get pages p) []
bytes_by_get [] p = refl
bytes_by_get (page ∷ pages) zero = refl
bytes_by_get (page ∷ pages) (suc p) = bytes_by_get pages p

pub bytes_are : (pages : List PageImage) (p : ℕ) (image : PageImage) → slice_get pages p ≡ Some image → bytes_at pages p ≡ image.bytes
bytes_are pages p image there = bytes_by_get pages p ∙ ap (λ (o : Option PageImage). option_map_or (λ (i : PageImage). i.bytes) o []) there

pub header_is : (pages : List PageImage) (p : ℕ) (image : PageImage) → slice_get pages p ≡ Some image → header_at pages p ≡ header_of image.bytes
unfolding header_at
header_is pages p image there = ap header_of (bytes_are pages p image there)

-- what a header says of the chains of pages
pub record PageLink : Type 0 where
  pub kind : ℕ
  pub segment : ℕ
  pub next : ℕ
  pub last_page : ℕ

abbrev pub page_link : PageHeader → PageLink
page_link header = record { kind = header.kind; segment = header.segment; next = header.next; last_page = header.last_page }

-- ---- first pages

-- the first page of a segment, where it has one
pub first_is : (pages : List PageImage) (s : ℕ) → IsSegment s → first_page pages s ≡ first_of pages s
unfolding first_page
first_is pages s within =
    ap (λ b. cond (b && leb s 255) (first_of pages s) 0) (le-leb 1 s within.0)
    ∙ ap (λ b. cond b (first_of pages s) 0) (le-leb s 255 within.1)

pub first_within : (pages : List PageImage) (s : ℕ) → first_page pages s ≢ 0 → IsSegment s
unfolding first_page
first_within pages s some = by (leb 1 s && leb s 255) refl
  where
    by : (b : Bool) → (leb 1 s && leb s 255) ≡ b → IsSegment s
    by true e = (leb-true 1 s (and_parts _ _ e).0, leb-true s 255 (and_parts (leb 1 s) _ e).1)
    by false e = absurd (some (ap (λ c. cond c (first_of pages s) 0) e))

pub first_of_some : (pages : List PageImage) (s : ℕ) → IsAllocated pages → first_page pages s ≢ 0 → IsOwned (length pages) (header_at pages) s (first_page pages s)
first_of_some pages s fine some =
    let within = first_within pages s some in
    let is = first_is pages s within in
    subst (IsOwned (length pages) (header_at pages) s) (sym is) (first_of_chain pages s fine within (λ none. some (is ∙ none)))

-- ---- a page from 10 on is put

module _ (pages : List PageImage) (page : ℕ) (image : PageImage) (high : 10 ≤ page) where
  pub bytes_at-other : (p : ℕ) → p ≢ page → bytes_at (set pages page image) p ≡ bytes_at pages p
  bytes_at-other p apart =
      bytes_by_get (set pages page image) p
      ∙ ap (λ (o : Option PageImage). option_map_or (λ (i : PageImage). i.bytes) o []) (slice_get-set_other pages page p image apart)
      ∙ sym (bytes_by_get pages p)

  bytes_at-low : (p : ℕ) → p < 10 → bytes_at (set pages page image) p ≡ bytes_at pages p
  bytes_at-low p low = bytes_at-other p (λ e. omega arith)

  pub roots_of-set : roots_of (set pages page image) ≡ roots_of pages
  unfolding roots_of
  roots_of-set = rw (bytes_at-low 9 (omega arith)) refl

  pub first_page-set : first_page (set pages page image) ≡ first_page pages
  unfolding first_page first_of
  first_page-set = λ i segment. cond (leb 1 segment && leb segment 255) (number_at 4 (32 + 4 * (segment - 1)) (bytes_at-low 0 (omega arith) i)) 0

  pub schema_bytes-set : schema_bytes (set pages page image) ≡ schema_bytes pages
  unfolding schema_bytes
  schema_bytes-set =
      rw (bytes_at-low 1 (omega arith), bytes_at-low 2 (omega arith), bytes_at-low 3 (omega arith), bytes_at-low 4 (omega arith), bytes_at-low 5 (omega arith), bytes_at-low 6 (omega arith), bytes_at-low 7 (omega arith), bytes_at-low 8 (omega arith)) refl

  pub schema_text-set : schema_text (set pages page image) ≡ schema_text pages
  schema_text-set = ap (λ (bytes : List ℕ). take (number_at 4 0 bytes) (drop 4 bytes)) schema_bytes-set
