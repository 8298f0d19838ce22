-- The pages in use, in ascending order.
use Rattle.std.proofs.Common.{◌≡◌, ◌↔◌, ◌≤◌, ◌<◌, ℕ, Bool, true, false, nat_eq, List, get_or, Option, Some, None, refl, sym, ap, subst, ◌∙◌, arith}
use Rattle.std.specs.List.{AllPairs, All, Contains, IsDistinct}
use Rattle.std.specs.List.Sorted.{IsPermutation, IsSortedByKey, IsNonDecreasing, IsNonDecreasingBy}
use Rattle.std.specs.Ordering.{nat_cmp}
use Rattle.std.specs.Map.{lookup}
use Rattle.std.specs.Cmp.{nat_eq_equiv}
use Rattle.std.proofs.lemmas.List.{get_or-map, length-map}
use Rattle.std.proofs.lemmas.List.Elements.{Contains-get_or, All-contains}
use Rattle.std.proofs.lemmas.Bool.{false≢true}
use Rattle.std.proofs.lemmas.List.Sorted.{IsPermutation-map, IsNonDecreasingBy-from_sort, Contains-permutation, IsPermutation-sym, length_permutation}
use Rattle.std.proofs.lemmas.List.Kept.{AllPairs-from_increasing}
use Rattle.std.proofs.lemmas.Map.Keys.{IsDistinct-IsPermutation, IsStrictlyIncreasing-from_distinct}
use Rattle.ostore_base.specs.declared.numbers.PageNo.{PageNo}
use Rattle.ostore_schema_layout.specs.declared.schema.Schema.{Schema}
use Rattle.ostore_client_cache.specs.declared.entries.CachedPage.{CachedPage}
use Rattle.ostore_client_cache.specs.declared.entries.Hold.{Hold}
use Rattle.ostore_client_cache.specs.declared.entries.Hold.TheVariants.{Retained, InUse, Owned}
use Rattle.ostore_client_cache.specs.Entries.{is_in_use, is_used, is_owner}
use Rattle.ostore_client_cache.specs.Releases.{numbers_of}
use Rattle.ostore_client_core.specs.declared.release.Ending.{Ending}
use Rattle.ostore_client_core.specs.declared.release.Ending.TheVariants.{Committed, Aborted}
use Rattle.ostore_client_core.specs.Calls.{is_void}
use Rattle.ostore_client_core.specs.inside.Kept.{AreListed, IsClient}
use Rattle.ostore_client_core.proofs.EntryLaws.{Pages}

number : PageNo → ℕ
number page = page.0

numbers_rise : (pages : List PageNo) → IsNonDecreasingBy (λ (page : PageNo). page.0) pages → IsNonDecreasing (numbers_of pages)
numbers_rise pages rise i j d less below =
    let long = length-map pages (λ (page : PageNo). page.0) in
    let one = get_or-map (λ (page : PageNo). page.0) pages i (record { 0 = 0 }) d (omega arith) in
    let two = get_or-map (λ (page : PageNo). page.0) pages j (record { 0 = 0 }) d (omega arith) in
    let more = rise i j (record { 0 = 0 }) less (omega arith) in
    omega arith

pub ascends : (used sorted : List PageNo) → IsPermutation used sorted → IsSortedByKey (λ (page : PageNo). page.0) nat_cmp sorted → IsDistinct nat_eq (numbers_of used) → AllPairs (λ page later. page < later) (numbers_of sorted)
ascends used sorted moved up apart =
    AllPairs-from_increasing (numbers_of sorted) (IsStrictlyIncreasing-from_distinct (numbers_of sorted)
    (numbers_rise sorted (IsNonDecreasingBy-from_sort (λ (page : PageNo). page.0) sorted up))
    (IsDistinct-IsPermutation nat_eq flips (numbers_of used) (numbers_of sorted) (IsPermutation-map (λ (page : PageNo). page.0) used sorted moved) apart))
  where
    flips : (x y : ℕ) → nat_eq x y ≡ nat_eq y x
    flips x y = nat_eq_equiv.symm x y

-- the same pages are listed
pub sorted_all : (pages : Pages) (used sorted : List PageNo) → IsPermutation used sorted → AreListed pages used → (page : ℕ) → Contains (numbers_of sorted) page ↔ (is_in_use (lookup (nat_eq page) pages) ≡ true)
sorted_all pages used sorted moved listed page =
    let there = IsPermutation-map (λ (p : PageNo). p.0) used sorted moved in (
      (λ has. (listed.all page).0 (Contains-permutation (numbers_of sorted) (numbers_of used) page (IsPermutation-sym (numbers_of used) (numbers_of sorted) there) has)),
      (λ is. Contains-permutation (numbers_of used) (numbers_of sorted) page there ((listed.all page).1 is)),
    )

-- what holds of each page in use holds of each listed number
pub each_listed : (P : ℕ → Type 0) (numbers : List ℕ) → ((page : ℕ) → Contains numbers page → P page) → All P numbers
each_listed P numbers each k d below = each (get_or numbers k d) (Contains-get_or numbers k d below)

-- a list that is as the sorted one
pub in_order : (pages : Pages) (used sorted given : List PageNo) → IsPermutation used sorted → AreListed pages used → given ≡ sorted → (page : ℕ) → Contains (numbers_of given) page ↔ (is_in_use (lookup (nat_eq page) pages) ≡ true)
in_order pages used sorted given moved listed is page = subst (λ (l : List PageNo). Contains (numbers_of l) page ↔ (is_in_use (lookup (nat_eq page) pages) ≡ true)) (sym is) (sorted_all pages used sorted moved listed page)

-- those that were in use aren't, and those that weren't are as they were
pub none_left : (old new : Pages) (given : List ℕ) → ((page : ℕ) → Contains given page ↔ (is_in_use (lookup (nat_eq page) old) ≡ true)) → All (λ page. is_in_use (lookup (nat_eq page) new) ≡ false) given
    → ((page : ℕ) → (Contains given page → ⊥) → lookup (nat_eq page) new ≡ lookup (nat_eq page) old) → (page : ℕ) → is_in_use (lookup (nat_eq page) new) ≡ false
none_left old new given all idle others page = by_use (is_in_use (lookup (nat_eq page) old)) refl
  where
    by_use : (b : Bool) → is_in_use (lookup (nat_eq page) old) ≡ b → is_in_use (lookup (nat_eq page) new) ≡ false
    by_use true is = All-contains (λ (p : ℕ). is_in_use (lookup (nat_eq p) new) ≡ false) given page idle ((all page).1 is)
    by_use false is = ap is_in_use (others page (λ has. false≢true (sym is ∙ (all page).0 has))) ∙ is

-- a page whose copy is void was in use
pub void_used : (ending : Ending) (found : Option CachedPage) → is_void ending found ≡ true → is_in_use found ≡ true
void_used Committed found void = absurd (false≢true void)
void_used Aborted None void = absurd (false≢true void)
void_used Aborted (Some entry) void = owner_used entry.hold void
  where
    owner_used : (hold : Hold) → is_owner hold ≡ true → is_used hold ≡ true
    owner_used Retained owner = absurd (false≢true owner)
    owner_used InUse owner = refl
    owner_used Owned owner = refl

-- the pages in use, in another order
pub kept_sorted : (schema : Schema) (pages : Pages) (used now : List PageNo) (room space most : ℕ) → IsPermutation used now → space ≡ room → IsClient schema pages used room most → IsClient schema pages now space most
kept_sorted schema pages used now room space most moved same kept = record {
  lawful = kept.lawful;
  listed = record {
    all = sorted_all pages used now moved kept.listed;
    differ = IsDistinct-IsPermutation nat_eq flips (numbers_of used) (numbers_of now) (IsPermutation-map (λ (page : PageNo). page.0) used now moved) kept.listed.differ;
    count = length_permutation used now moved ∙ kept.listed.count;
  };
  spare = subst (λ (n : ℕ). most ≤ n) (sym same) kept.spare;
}
  where
    flips : (x y : ℕ) → nat_eq x y ≡ nat_eq y x
    flips x y = nat_eq_equiv.symm x y
