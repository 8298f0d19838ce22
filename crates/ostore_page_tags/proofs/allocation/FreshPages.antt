-- The pages of a fresh database are allocated, and hold the schema's text.
use Rattle.std.proofs.Common.{◌≡◌, ℕ, zero, suc, ◌+◌, ◌-◌, ◌*◌, ◌<◌, ◌≤◌, ltb, cond, List, [], ◌∷◌, ◌++◌, length, take, drop, map, replicate, refl, sym, ap, subst, ◌∙◌, arith, inl, inr}
use Rattle.std.specs.List.{range_with_len}
use Rattle.std.proofs.lemmas.Bool.{cases_lt, lt-ltb, le-ltb}
use Rattle.std.proofs.lemmas.List.{length-append, append-nil, append_assoc, take_all, take_at, length-replicate, get_or-replicate}
use Rattle.std.proofs.lemmas.List.FromFn.{length-map-range_with_len, get_or-map-range_with_len, map-range_with_len_more}
use Rattle.std.proofs.Math.Seq.{drop-append_seam}
use Rattle.byteorder.specs.Endian.{little_from, little_bytes}
use Rattle.byteorder.specs.Numbers.{little_number-reads_back, length-bytes_low_first}
use Rattle.ostore_base.specs.declared.page.TheConstants.{PAGE_SIZE}
use Rattle.ostore_base.specs.declared.page.PageImage.{PageImage}
use Rattle.ostore_page_tags.specs.declared.page_header.PageHeader.{PageHeader}
use Rattle.ostore_page_tags.specs.Rules.{are_zero}
use Rattle.ostore_page_tags.specs.PageLists.{bytes_at, header_at, first_of, schema_length, schema_text}
use Rattle.ostore_page_tags.specs.PageChains.{HasHeader, AreChained}
use Rattle.ostore_page_tags.specs.Allocated.{EndsInZeros, IsAllocated}
use Rattle.ostore_page_tags.specs.FreshPages.{plain_image, stored_schema, part_image, part_images, free_image, free_images, fresh_list}
use Rattle.ostore_page_tags.proofs.bytes.ImageLaws.{length-between}
use Rattle.ostore_page_tags.proofs.shape.PageShape.{zeros}
use Rattle.ostore_page_tags.proofs.parts.CellLaws.{ZeroOn-within}
use Rattle.ostore_page_tags.proofs.allocation.PlainPages.{IsPlain, number_at-zeros, plain_image-plain, plain-front, plain-free, plain-roots}
use Rattle.ostore_page_tags.proofs.allocation.FreshChains.{IsFresh, fresh_free, fresh_chained}
use Rattle.ostore_page_tags.proofs.allocation.FreshParts.{none_image, four_parts, parts_long, part_at, rest_at, schema_joined}

-- ---- the stored text

-- a text with its length before it and zeros behind it
abbrev pub stored : List ℕ → ℕ → List ℕ
stored text more = little_bytes 4 (length text) ++ text ++ replicate more 0

stored_long : (text : List ℕ) (more : ℕ) → length (stored text more) ≡ 4 + length text + more
stored_long text more =
    let number = length-bytes_low_first 0 4 (length text) in
    let front = length-append (little_bytes 4 (length text)) text in
    let whole = length-append (little_bytes 4 (length text) ++ text) (replicate more 0) in
    let behind : length (replicate {A = ℕ} more 0) ≡ more = length-replicate more 0 in
    omega arith

stored_length : (text : List ℕ) (more : ℕ) → length text ≤ 32764 → schema_length (stored text more) ≡ length text
stored_length text more short =
    ap (λ (l : List ℕ). little_from 0 4 l) (append_assoc (little_bytes 4 (length text)) text (replicate more 0))
    ∙ little_number-reads_back 4 (length text) (text ++ replicate more 0) (omega arith)

stored_text : (text : List ℕ) (more : ℕ) → length text ≤ 32764 → take (schema_length (stored text more)) (drop 4 (stored text more)) ≡ text
stored_text text more short =
    let number : length (little_bytes 4 (length text)) ≡ 4 = length-bytes_low_first 0 4 (length text) in
    let behind : drop 4 (stored text more) ≡ text ++ replicate more 0 =
    ap (drop 4) (append_assoc (little_bytes 4 (length text)) text (replicate more 0))
    ∙ ap (λ (k : ℕ). drop k (little_bytes 4 (length text) ++ (text ++ replicate more 0))) (sym number)
    ∙ drop-append_seam (little_bytes 4 (length text)) (text ++ replicate more 0) in
    ap (λ (k : ℕ). take k (drop 4 (stored text more))) (stored_length text more short)
    ∙ ap (take (length text)) behind
    ∙ take_at text (replicate more 0) (length text) refl

stored_ends : (text : List ℕ) (more : ℕ) → length text ≤ 32764 → EndsInZeros (stored text more)
stored_ends text more short =
    let front : List ℕ = little_bytes 4 (length text) ++ text in
    let size : length front ≡ 4 + length text =
    let number = length-bytes_low_first 0 4 (length text) in
    length-append (little_bytes 4 (length text)) text ∙ ap (λ (k : ℕ). k + length text) number in
    let skip : 4 + schema_length (stored text more) ≡ length front = ap (λ (k : ℕ). 4 + k) (stored_length text more short) ∙ sym size in
    let behind : drop (4 + schema_length (stored text more)) (stored text more) ≡ replicate more 0 =
    ap (λ (k : ℕ). drop k (stored text more)) skip ∙ drop-append_seam front (replicate more 0) in
    let long : length (replicate {A = ℕ} more 0) ≡ more = length-replicate more 0 in
    ap are_zero behind ∙ zeros (replicate more 0) (λ k below. get_or-replicate more k 0 0 (omega arith))

-- ---- the list

abbrev pub next_of : ℕ → ℕ → ℕ
next_of n page = cond (ltb (page + 1) n) (page + 1) 0

-- the parts that a fresh list has
pub record AreParts (front : PageImage) (held : List ℕ) (roots : PageImage) (free : ℕ → PageImage) (n : ℕ) : Type 0 where
  pub least : 11 ≤ n
  pub most : n ≤ 16384
  pub front_page : IsPlain 3 10 front.bytes
  pub roots_page : IsPlain 4 0 roots.bytes
  pub free_pages : (page : ℕ) → 10 ≤ page → page < n → IsPlain 1 (next_of n page) (free page).bytes
  pub long : length held ≡ 32768
  pub ends : EndsInZeros held

module _ (front : PageImage) (held : List ℕ) (roots : PageImage) (free : ℕ → PageImage) (n : ℕ) (are : AreParts front held roots free n) where
  abbrev pages : List PageImage
  pages = four_parts front (part_image held) roots (map free (range_with_len 10 (n - 10)))

  pages_long : length pages ≡ n
  pages_long =
      let least = are.least in
      let others = length-map-range_with_len free 10 (n - 10) in
      let long = parts_long front (part_image held) roots (map free (range_with_len 10 (n - 10))) in
      omega arith

  free_at : (page : ℕ) → 10 ≤ page → page < n → IsPlain 1 (next_of n page) (bytes_at pages page)
  free_at page low high =
      let at = rest_at front (part_image held) roots (map free (range_with_len 10 (n - 10))) page low in
      let found = get_or-map-range_with_len free 10 (n - 10) (page - 10) page none_image (omega arith) (omega arith) in
      subst (IsPlain 1 (next_of n page)) (sym (at ∙ ap (λ (image : PageImage). image.bytes) found)) (are.free_pages page low high)

  -- a page with a header
  headed : (page : ℕ) → HasHeader n page → (which : ℕ) × (next : ℕ) × IsPlain which next (bytes_at pages page)
  headed page known = elim known [
    | inl first ↦ (3, 10, subst (λ (p : ℕ). IsPlain 3 10 (bytes_at pages p)) (sym first) are.front_page)
    | inr later ↦ elim (cases_lt page 10) [
      | inl nine ↦
          let low = later.0 in
          let at : 9 ≡ page = omega arith in
          (4, 0, subst (λ (p : ℕ). IsPlain 4 0 (bytes_at pages p)) at are.roots_page)
      | inr open_page ↦ (1, next_of n page, free_at page open_page later.1)
    ]
  ]

  page_long : (page : ℕ) → page < n → length (bytes_at pages page) ≡ PAGE_SIZE
  page_long zero high = are.front_page.long
  page_long (suc i) high = elim (cases_lt i 8) [
    | inl below ↦
        let long = are.long in
        ap length (part_at front (part_image held) roots (map free (range_with_len 10 (n - 10))) i below)
        ∙ length-between (PAGE_SIZE * i) (PAGE_SIZE * i + PAGE_SIZE) held (omega arith) ∙ omega arith
    | inr behind ↦ (headed (suc i) (inr (omega arith, high))).2.long
  ]

  fresh : IsFresh n (header_at pages) (first_of pages)
  unfolding header_at first_of
  fresh = record {
    least = are.least;
    front = ap (λ (h : PageHeader). h.next) are.front_page.header;
    kinds = λ page low high. ap (λ (h : PageHeader). h.kind) (free_at page low high).header;
    nexts = λ page low high. ap (λ (h : PageHeader). h.next) (free_at page low (omega arith)).header ∙ rw (lt-ltb (page + 1) n high) refl;
    ends = λ page low last. ap (λ (h : PageHeader). h.next) (free_at page low (omega arith)).header ∙ rw (le-ltb (page + 1) n (omega arith)) refl;
    last_pages = λ page known. ap (λ (h : PageHeader). h.last_page) (headed page known).2.header;
    counters = λ page known. ap (λ (h : PageHeader). h.last_serial) (headed page known).2.header;
    none = λ segment within.
        let low = within.0 in
        let high = within.1 in
        let place : ℕ = 32 + 4 * (segment - 1) in
        number_at-zeros 4 place front.bytes (ZeroOn-within 20 PAGE_SIZE place (place + 4) front.bytes are.front_page.zeros (omega arith) (omega arith));
  }

  pub parts_allocated : IsAllocated pages
  parts_allocated =
      let least = are.least in
      let most = are.most in
      let all = pages_long in
      record {
        least = omega arith;
        most = omega arith;
        whole = λ page below. page_long page (omega arith);
        front = plain-front 10 front.bytes are.front_page;
        schema = subst EndsInZeros (sym (schema_joined front held roots (map free (range_with_len 10 (n - 10))) are.long)) are.ends;
        roots = plain-roots roots.bytes are.roots_page;
        others = λ page known.
            let low = known.0 in
            let high = known.1 in
            inl (plain-free (next_of n page) (bytes_at pages page) (free_at page low (omega arith)));
        chains = (fresh_free n (header_at pages) (first_of pages) fresh, (λ segment. []), subst (λ (m : ℕ). AreChained m (header_at pages) (first_of pages) (fresh_free n (header_at pages) (first_of pages) fresh) (λ segment. [])) (sym all) (fresh_chained n (header_at pages) (first_of pages) fresh));
      }

next_small : (n page : ℕ) → n ≤ 16384 → next_of n page < 4294967296
next_small n page most = elim (cases_lt (page + 1) n) [
  | inl more ↦ rw (lt-ltb (page + 1) n more) (omega arith)
  | inr last ↦ rw (le-ltb (page + 1) n last) (omega arith)
]

fresh_parts : (text : List ℕ) (n : ℕ) → length text ≤ 32764 → 11 ≤ n → n ≤ 16384
    → AreParts (plain_image 3 10) (stored_schema text) (plain_image 4 0) (free_image n) n
unfolding stored_schema
fresh_parts text n short least most = record {
  least = least;
  most = most;
  front_page = plain_image-plain 3 10 (omega arith) (omega arith);
  roots_page = plain_image-plain 4 0 (omega arith) (omega arith);
  free_pages = λ page low high. plain_image-plain 1 (next_of n page) (omega arith) (next_small n page most);
  long = stored_long text (32768 - (4 + length text)) ∙ omega arith;
  ends = stored_ends text (32768 - (4 + length text)) short;
}

pub fresh-allocated : (text : List ℕ) (n : ℕ) → length text ≤ 32764 → 11 ≤ n → n ≤ 16384 → IsAllocated (fresh_list text n)
unfolding fresh_list part_images free_images
fresh-allocated text n short least most =
    parts_allocated (plain_image 3 10) (stored_schema text) (plain_image 4 0) (free_image n) n (fresh_parts text n short least most)

back : (bytes text : List ℕ) (more : ℕ) → bytes ≡ stored text more → length text ≤ 32764 → take (schema_length bytes) (drop 4 bytes) ≡ text
back bytes text more same short = ap (λ (b : List ℕ). take (schema_length b) (drop 4 b)) same ∙ stored_text text more short

pub fresh-text : (text : List ℕ) (n : ℕ) → length text ≤ 32764 → schema_text (fresh_list text n) ≡ text
unfolding fresh_list stored_schema part_images free_images
fresh-text text n short =
    let more : ℕ = 32768 - (4 + length text) in
    back _ text more
    (schema_joined (plain_image 3 10) (stored text more) (plain_image 4 0) (map (free_image n) (range_with_len 10 (n - 10))) (stored_long text more ∙ omega arith))
    short

-- ---- how they are made

pub stored_schema-long : (text : List ℕ) → length text ≤ 32764 → length (stored_schema text) ≡ 32768
unfolding stored_schema
stored_schema-long text short = stored_long text (32768 - (4 + length text)) ∙ omega arith

pub stored_made : (text number b0 b1 b2 b3 : List ℕ) (s0 s1 size : ℕ) → b0 ≡ [] → number ≡ little_bytes 4 (length text) → b1 ≡ b0 ++ number → b2 ≡ b1 ++ text → s0 ≡ 0 → s1 ≡ s0 + length number → size ≡ s1 + length text → b3 ≡ take 32768 b2 ++ replicate (32768 - size) 0
    → length text ≤ 32764 → b3 ≡ stored_schema text
unfolding stored_schema
stored_made text number b0 b1 b2 b3 s0 s1 size none digits first second c0 c1 c2 third short =
    let e1 : b1 ≡ little_bytes 4 (length text) = first ∙ ap (λ (l : List ℕ). l ++ number) none ∙ digits in
    let e2 : b2 ≡ little_bytes 4 (length text) ++ text = second ∙ ap (λ (l : List ℕ). l ++ text) e1 in
    let digit = length-bytes_low_first 0 4 (length text) in
    let long : length b2 ≡ 4 + length text = ap length e2 ∙ length-append (little_bytes 4 (length text)) text ∙ ap (λ (k : ℕ). k + length text) digit in
    let width : length number ≡ 4 = ap length digits ∙ digit in
    let count : size ≡ 4 + length text = omega arith in
    third
    ∙ ap (λ (l : List ℕ). l ++ replicate (32768 - size) 0) (take_all 32768 b2 (omega arith) ∙ e2)
    ∙ ap (λ (k : ℕ). (little_bytes 4 (length text) ++ text) ++ replicate (32768 - k) 0) count

-- one page more
pub pushed : (list old more new : List PageImage) (image : PageImage) → list ≡ old ++ more → new ≡ list ++ image ∷ [] → new ≡ old ++ (more ++ image ∷ [])
pushed list old more new image was put = put ∙ ap (λ (l : List PageImage). l ++ image ∷ []) was ∙ append_assoc old more (image ∷ [])

pub list_long : (list old more : List PageImage) → list ≡ old ++ more → length list ≡ length old + length more
list_long list old more is = ap length is ∙ length-append old more

pub length-part_images : (bytes : List ℕ) (count : ℕ) → length (part_images bytes count) ≡ count
unfolding part_images
length-part_images bytes count = length-map-range_with_len (part_image bytes) 0 count

pub length-free_images : (n count : ℕ) → length (free_images n count) ≡ count
unfolding free_images
length-free_images n count = length-map-range_with_len (free_image n) 10 count

pub part_images-none : (old : List PageImage) (bytes : List ℕ) → old ≡ old ++ part_images bytes 0
unfolding part_images
part_images-none old bytes = sym (append-nil old)

pub part_images-more : (list old new : List PageImage) (bytes : List ℕ) (i : ℕ) (image : PageImage) → list ≡ old ++ part_images bytes i → image ≡ part_image bytes i → new ≡ list ++ image ∷ [] → new ≡ old ++ part_images bytes (i + 1)
unfolding part_images
part_images-more list old new bytes i image was is put =
    pushed list old (part_images bytes i) new image was put
    ∙ ap (λ (p : PageImage). old ++ (part_images bytes i ++ p ∷ [])) is
    ∙ ap (λ (l : List PageImage). old ++ l) (sym (map-range_with_len_more (part_image bytes) 0 i i (omega arith)))

pub free_images-none : (old : List PageImage) (n count : ℕ) → count ≡ 0 → old ≡ old ++ free_images n count
unfolding free_images
free_images-none old n count none = sym (ap (λ (k : ℕ). old ++ map (free_image n) (range_with_len 10 k)) none ∙ append-nil old)

pub free_images-more : (list old new : List PageImage) (n page next : ℕ) (image : PageImage) → 10 ≤ page → list ≡ old ++ free_images n (page - 10) → next ≡ next_of n page → image ≡ plain_image 1 next → new ≡ list ++ image ∷ [] → new ≡ old ++ free_images n (page + 1 - 10)
unfolding free_images
free_images-more list old new n page next image low was leads is put =
    let count : page + 1 - 10 ≡ (page - 10) + 1 = omega arith in
    let made : image ≡ free_image n page = is ∙ ap (plain_image 1) leads in
    pushed list old (free_images n (page - 10)) new image was put
    ∙ ap (λ (p : PageImage). old ++ (free_images n (page - 10) ++ p ∷ [])) made
    ∙ ap (λ (l : List PageImage). old ++ l) (sym (map-range_with_len_more (free_image n) 10 (page - 10) page (omega arith)))
    ∙ ap (λ (k : ℕ). old ++ free_images n k) (sym count)

pub next_more : (n page : ℕ) → page + 1 < n → page + 1 ≡ next_of n page
next_more n page more = rw (lt-ltb (page + 1) n more) refl

pub next_none : (n page : ℕ) → n ≤ page + 1 → 0 ≡ next_of n page
next_none n page last = rw (le-ltb (page + 1) n last) refl

-- the list, push by push
pub long_nine : (l0 l1 l2 : List PageImage) (front : PageImage) (held : List ℕ) → l0 ≡ [] → l1 ≡ l0 ++ front ∷ [] → l2 ≡ l1 ++ part_images held 8 → length l2 ≡ 9
long_nine l0 l1 l2 front held none first second =
    let parts = length-part_images held 8 in
    let one : length l1 ≡ 1 = ap length first ∙ ap (λ (l : List PageImage). length (l ++ front ∷ [])) none in
    let all = list_long l2 l1 (part_images held 8) second in
    omega arith

pub long_ten : (l2 l3 : List PageImage) (roots : PageImage) → length l2 ≡ 9 → l3 ≡ l2 ++ roots ∷ [] → length l3 ≡ 10
long_ten l2 l3 roots nine third = let all : length l3 ≡ length l2 + 1 = list_long l3 l2 (roots ∷ []) third in omega arith

pub fresh_made : (text held bytes : List ℕ) (n : ℕ) (l0 l1 l2 l3 l4 : List PageImage) (front roots : PageImage) → l0 ≡ [] → front ≡ plain_image 3 10 → l1 ≡ l0 ++ front ∷ [] → held ≡ bytes → bytes ≡ stored_schema text → l2 ≡ l1 ++ part_images held 8
    → roots ≡ plain_image 4 0 → l3 ≡ l2 ++ roots ∷ [] → l4 ≡ l3 ++ free_images n (n - 10) → l4 ≡ fresh_list text n
unfolding fresh_list
fresh_made text held bytes n l0 l1 l2 l3 l4 front roots none front_is first held_is bytes_is second roots_is third fourth =
    let e1 : l1 ≡ plain_image 3 10 ∷ [] = first ∙ ap (λ (l : List PageImage). l ++ front ∷ []) none ∙ ap (λ (p : PageImage). p ∷ []) front_is in
    let e2 : l2 ≡ plain_image 3 10 ∷ part_images (stored_schema text) 8 = second ∙ ap (λ (l : List PageImage). l ++ part_images held 8) e1 ∙ ap (λ (b : List ℕ). plain_image 3 10 ∷ part_images b 8) (held_is ∙ bytes_is) in
    let e3 : l3 ≡ (plain_image 3 10 ∷ part_images (stored_schema text) 8) ++ plain_image 4 0 ∷ [] = third ∙ ap (λ (l : List PageImage). l ++ roots ∷ []) e2 ∙ ap (λ (p : PageImage). (plain_image 3 10 ∷ part_images (stored_schema text) 8) ++ p ∷ []) roots_is in
    fourth ∙ ap (λ (l : List PageImage). l ++ free_images n (n - 10)) e3
    ∙ append_assoc (plain_image 3 10 ∷ part_images (stored_schema text) 8) (plain_image 4 0 ∷ []) (free_images n (n - 10))
