-- How many pages of a fresh database are free.
use Rattle.std.proofs.Common.{◌≡◌, ℕ, zero, suc, ◌+◌, ◌-◌, ◌<◌, ◌≤◌, List, [], ◌∷◌, length, map, refl, sym, ap, subst, ◌∙◌, arith}
use Rattle.std.specs.List.{range_with_len}
use Rattle.std.proofs.lemmas.Bool.{lt-ltb}
use Rattle.std.proofs.lemmas.List.FromFn.{get_or-map-range_with_len}
use Rattle.ostore_base.specs.declared.page.PageImage.{PageImage}
use Rattle.ostore_page_tags.specs.declared.page_header.PageHeader.{PageHeader}
use Rattle.ostore_page_tags.specs.PageLists.{bytes_at, header_at}
use Rattle.ostore_page_tags.specs.PageChains.{IsWalk}
use Rattle.ostore_page_tags.specs.Allocated.{HasFree}
use Rattle.ostore_page_tags.specs.FreshPages.{plain_image, stored_schema, part_image, part_images, free_image, free_images, fresh_list}
use Rattle.ostore_page_tags.proofs.allocation.PlainPages.{IsPlain, plain_image-plain}
use Rattle.ostore_page_tags.proofs.allocation.FreshParts.{none_image, rest_at}

-- each free page but the last leads to the next one
free_next : (text : List ℕ) (n page : ℕ) → n ≤ 16384 → 10 ≤ page → page + 1 < n → (header_at (fresh_list text n) page).next ≡ page + 1
unfolding fresh_list part_images free_images header_at
free_next text n page most low more =
    let front : PageImage = plain_image 3 10 in
    let roots : PageImage = plain_image 4 0 in
    let rest : List PageImage = map (free_image n) (range_with_len 10 (n - 10)) in
    let at = rest_at front (part_image (stored_schema text)) roots rest page low in
    let found = get_or-map-range_with_len (free_image n) 10 (n - 10) (page - 10) page none_image (omega arith) (omega arith) in
    let leads : free_image n page ≡ plain_image 1 (page + 1) = rw (lt-ltb (page + 1) n more) refl in
    let plain : IsPlain 1 (page + 1) (bytes_at (fresh_list text n) page) =
    subst (IsPlain 1 (page + 1)) (sym (at ∙ ap (λ (image : PageImage). image.bytes) (found ∙ leads))) (plain_image-plain 1 (page + 1) (omega arith) (omega arith)) in
    ap (λ (h : PageHeader). h.next) plain.header

-- and the front page to the first
front_next : (text : List ℕ) (n : ℕ) → (header_at (fresh_list text n) 0).next ≡ 10
unfolding fresh_list header_at
front_next text n = ap (λ (h : PageHeader). h.next) (plain_image-plain 3 10 (omega arith) (omega arith)).header

-- a walk from a page on has all pages from there on
walk_long : (header : ℕ → PageHeader) (n : ℕ) → ((page : ℕ) → 10 ≤ page → page + 1 < n → (header page).next ≡ page + 1)
    → (k a : ℕ) (free : List ℕ) → 10 ≤ a → a + k ≡ n → IsWalk header a free → k ≤ length free
walk_long header n nexts zero a free low all walk = omega arith
walk_long header n nexts (suc k) a [] low all walk = absurd (omega (arith, walk))
walk_long header n nexts (suc zero) a (page ∷ free) low all walk = omega arith
walk_long header n nexts (suc (suc k)) a (page ∷ free) low all walk =
    let next : (header page).next ≡ a + 1 = ap (λ (p : ℕ). (header p).next) (sym walk.0) ∙ nexts a low (omega (arith, all)) in
    let later = walk_long header n nexts (suc k) (a + 1) free (omega (arith, low)) (omega (arith, all)) (subst (λ (from : ℕ). IsWalk header from free) next walk.1) in
    omega (arith, later)

-- all pages of a fresh list but the first ten are free
pub fresh_frees : (text : List ℕ) (n : ℕ) (free : List ℕ) → 10 ≤ n → n ≤ 16384 → HasFree (fresh_list text n) free → n - 10 ≤ length free
fresh_frees text n free least most has =
    walk_long (header_at (fresh_list text n)) n (λ page low more. free_next text n page most low more) (n - 10) 10 free (omega arith) (omega arith)
    (subst (λ (from : ℕ). IsWalk (header_at (fresh_list text n)) from free) (front_next text n) has.walk)
