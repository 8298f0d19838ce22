-- How many pages the lines of a transaction use.
use Rattle.std.proofs.Common.{◌≡◌, ◌≢◌, ◌⊎◌, ◌+◌, ◌-◌, ◌≤◌, ℕ, suc, Bool, true, false, eqb, List, [], ◌∷◌, ◌++◌, length, refl, sym, ap, subst, arith, ◌∙◌, inl, inr}
use Rattle.std.specs.List.{AllPairs, Contains, AllByRecursion, IsDistinct, range_with_len}
use Rattle.std.specs.Cmp.{nat_eq_equiv}
use Rattle.std.proofs.lemmas.Bool.{ne_eqb, eqb-true}
use Rattle.std.proofs.lemmas.Bool.Decides.{Decides-eqb}
use Rattle.std.proofs.lemmas.List.{length-append}
use Rattle.std.proofs.lemmas.List.Elements.{All-contains, Contains-append_cases}
use Rattle.std.proofs.lemmas.List.FromFn.{length-range_with_len, get_or-range_with_len}
use Rattle.std.proofs.lemmas.Map.Made.{IsDistinct-from_AllPairs, length-le_from_is_member}
use Rattle.std.proofs.lemmas.Map.Views.{Contains-from_any, list_any-from_Contains}
use Rattle.ostore_base.specs.declared.page.PageImage.{PageImage}
use Rattle.ostore_page_tags.specs.PageLists.{header_at}
use Rattle.ostore_page_tags.specs.PageChains.{IsOpen}
use Rattle.ostore_page_tags.specs.Allocated.{HasFree}
use Rattle.ostore_object_ops.specs.Claiming.{IsLinePage, IsTriedPage}
use Rattle.ostore_object_ops.proofs.NewFacts.{same_free}

-- ---- lists without repeats

apart_from : (page : ℕ) (others : List ℕ) → ((other : ℕ) → Contains others other → page ≢ other) → AllByRecursion (λ y. eqb page y ≡ false) others
apart_from page [] apart = tt
apart_from page (other ∷ others) apart = (ne_eqb page other (apart other (0, omega arith, refl)), apart_from page others (λ y there. apart y (suc there.0, (let below = there.1 in omega arith), there.2)))

both : (P : ℕ → Type 0) (xs ys : List ℕ) → AllByRecursion P xs → AllByRecursion P ys → AllByRecursion P (xs ++ ys)
both P [] ys one two = two
both P (x ∷ xs) ys one two = (one.0, both P xs ys one.1 two)

distinct_append : (xs ys : List ℕ) → IsDistinct eqb xs → IsDistinct eqb ys → ((x y : ℕ) → Contains xs x → Contains ys y → x ≢ y) → IsDistinct eqb (xs ++ ys)
unfolding IsDistinct
distinct_append [] ys one two apart = two
distinct_append (x ∷ xs) ys one two apart = (
  both (λ y. eqb x y ≡ false) xs ys one.0 (apart_from x ys (λ y there. apart x y (0, omega arith, refl) there)),
  distinct_append xs ys one.1 two (λ z y there also. apart z y (suc there.0, (let below = there.1 in omega arith), there.2) also),
)

-- pages, and others apart from them, all among known ones
count : (all pages others : List ℕ) → AllPairs (λ x y. x ≢ y) pages → AllPairs (λ x y. x ≢ y) others → ((x y : ℕ) → Contains pages x → Contains others y → x ≢ y)
    → ((page : ℕ) → Contains pages page → Contains all page) → ((page : ℕ) → Contains others page → Contains all page)
    → length pages + length others ≤ length all
count all pages others once also_once apart are also_are =
    let distinct = distinct_append pages others (IsDistinct-from_AllPairs Decides-eqb pages once) (IsDistinct-from_AllPairs Decides-eqb others also_once) apart in
    let few = length-le_from_is_member nat_eq_equiv (pages ++ others) all distinct
    (λ q member. list_any-from_Contains nat_eq_equiv q all (part q (Contains-append_cases pages others q (Contains-from_any eqb-true q (pages ++ others) member)))) in
    let long = length-append pages others in
    omega arith
  where
    part : (q : ℕ) → Contains pages q ⊎ Contains others q → Contains all q
    part q (inl there) = are q there
    part q (inr there) = also_are q there

behind : (first : ℕ) (rest : List ℕ) (page : ℕ) → Contains rest page → Contains (first ∷ rest) page
behind first rest page there = (suc there.0, (let below = there.1 in omega arith), there.2)

-- ---- the pages of a list from page 10 on, the page of roots, and page 0

abbrev known_to_reads : ℕ → List ℕ
known_to_reads n = 9 ∷ range_with_len 10 (n - 10)

abbrev known : ℕ → List ℕ
known n = 0 ∷ known_to_reads n

reads_long : (n : ℕ) → 10 ≤ n → length (known_to_reads n) + 9 ≡ n
reads_long n least =
    let long = length-range_with_len 10 (n - 10) in
    let more : length (known_to_reads n) ≡ suc (length (range_with_len 10 (n - 10))) = refl in
    omega arith

known_long : (n : ℕ) → 10 ≤ n → length (known n) + 8 ≡ n
known_long n least =
    let long = reads_long n least in
    let more : length (known n) ≡ suc (length (known_to_reads n)) = refl in
    omega arith

open_read : (n page : ℕ) → IsOpen n page → Contains (known_to_reads n) page
open_read n page there_is =
    let low = there_is.0 in
    let high = there_is.1 in
    let long = length-range_with_len 10 (n - 10) in
    behind 9 (range_with_len 10 (n - 10)) page (page - 10, omega arith, get_or-range_with_len 10 (n - 10) (page - 10) page (omega arith) ∙ at page low)
  where
    at : (page : ℕ) → 10 ≤ page → 10 + (page - 10) ≡ page
    at page low = omega arith

open_known : (n page : ℕ) → IsOpen n page → Contains (known n) page
open_known n page there_is = behind 0 (known_to_reads n) page (open_read n page there_is)

-- the free list but for its head
abbrev tail_of : List ℕ → List ℕ
tail_of [] = []
tail_of (page ∷ rest) = rest

tail_there : (free : List ℕ) (page : ℕ) → Contains (tail_of free) page → Contains free page
tail_there [] page there = there
tail_there (first ∷ rest) page there = behind first rest page there

tail_once : (free : List ℕ) → AllPairs (λ x y. x ≢ y) free → AllPairs (λ x y. x ≢ y) (tail_of free)
tail_once [] once = once
tail_once (first ∷ rest) once = λ i j d before below. once (suc i) (suc j) d (omega arith) (omega arith)

tail_long : (free : List ℕ) → length free ≤ length (tail_of free) + 1
tail_long [] = omega arith
tail_long (first ∷ rest) = omega arith

head_apart : (free : List ℕ) (first : ℕ) (rest : List ℕ) (page : ℕ) → free ≡ first ∷ rest → AllPairs (λ x y. x ≢ y) (first ∷ rest) → Contains (tail_of free) page → first ≢ page
head_apart free first rest page is once there = apart (subst (λ (l : List ℕ). Contains (tail_of l) page) is there)
  where
    apart : Contains rest page → first ≢ page
    apart (k, below, at) same = once 0 (suc k) page (omega arith) (omega arith) (same ∙ sym at)

-- ---- pages that lines try, and free ones

module _ (list : List PageImage) (free : List ℕ) (has : HasFree list free) where
  free_open : (page : ℕ) → Contains free page → IsOpen (length list) page
  free_open page there = All-contains (IsOpen (length list)) free page has.pages there

  free_kind : (page : ℕ) → Contains free page → (header_at list page).kind ≡ 1
  free_kind page there = All-contains (λ (p : ℕ). (header_at list p).kind ≡ 1) free page has.kinds there

  -- the page of a line isn't free
  apart_line : (update : Bool) (page other : ℕ) → IsLinePage update list page → Contains free other → page ≢ other
  apart_line update page other (inl front) there same = let is = front.1 in let open_is = free_open other there in let low = open_is.0 in omega arith
  apart_line update page other (inr (inl roots)) there same = let open_is = free_open other there in let low = open_is.0 in omega arith
  apart_line update page other (inr (inr objects)) there same = let kind = free_kind other there in let is = objects.kind in let e = ap (λ (p : ℕ). (header_at list p).kind) same in omega arith

  apart_tried : (update : Bool) (page other : ℕ) → IsTriedPage update list page → Contains (tail_of free) other → page ≢ other
  apart_tried update page other (inl line) there = apart_line update page other line (tail_there free other there)
  apart_tried update page other (inr (may, (rest, first))) there = head_apart free page rest other (same_free list free (page ∷ rest) has first) first.once there

  line_known : (update : Bool) (page : ℕ) → 10 ≤ length list → IsTriedPage update list page → Contains (known (length list)) page
  line_known update page least (inl (inl front)) = (0, omega arith, sym front.1)
  line_known update page least (inl (inr (inl roots))) = behind 0 (known_to_reads (length list)) page (0, omega arith, sym roots)
  line_known update page least (inl (inr (inr objects))) = open_known (length list) page objects.lies
  line_known update page least (inr (may, (rest, first))) = open_known (length list) page (All-contains (IsOpen (length list)) (page ∷ rest) page first.pages (0, omega arith, refl))

  -- at most 2, the data pages, and one
  pub few_pages : (update : Bool) → 10 ≤ length list → (pages : List ℕ) → AllPairs (λ x y. x ≢ y) pages → ((page : ℕ) → Contains pages page → IsTriedPage update list page) → length pages + 10 + length free ≤ length list + 3
  few_pages update least pages once are =
      let few = count (known (length list)) pages (tail_of free) once (tail_once free has.once)
      (λ x y there also. apart_tried update x y (are x there) also)
      (λ page there. line_known update page least (are page there))
      (λ page there. open_known (length list) page (free_open page (tail_there free page there))) in
      let all = known_long (length list) least in
      let rest = tail_long free in
      omega arith

  -- what a read tries
  read_line : (update : Bool) (page : ℕ) → update ≡ false → IsTriedPage update list page → IsLinePage update list page
  read_line update page reading (inl line) = line
  read_line update page reading (inr (may, first)) = let never : false ≡ true = sym reading ∙ may in cc

  read_known : (update : Bool) (page : ℕ) → update ≡ false → IsLinePage update list page → Contains (known_to_reads (length list)) page
  read_known update page reading (inl front) = let never : false ≡ true = sym reading ∙ front.0 in cc
  read_known update page reading (inr (inl roots)) = (0, omega arith, sym roots)
  read_known update page reading (inr (inr objects)) = open_read (length list) page objects.lies

  -- at most one, and the data pages
  pub few_in_read : (update : Bool) → update ≡ false → 10 ≤ length list → (pages : List ℕ) → AllPairs (λ x y. x ≢ y) pages → ((page : ℕ) → Contains pages page → IsTriedPage update list page) → length pages + 10 + length free ≤ length list + 1
  few_in_read update reading least pages once are =
      let few = count (known_to_reads (length list)) pages free once has.once
      (λ x y there also. apart_line update x y (read_line update x reading (are x there)) also)
      (λ page there. read_known update page reading (read_line update page reading (are page there)))
      (λ page there. open_read (length list) page (free_open page there)) in
      let all = reads_long (length list) least in
      omega arith
