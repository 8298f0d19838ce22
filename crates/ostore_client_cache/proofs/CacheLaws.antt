-- What a cache keeps once a page is held otherwise.
use Rattle.std.proofs.Common.{◌≡◌, ℕ, ◌+◌, ◌-◌, ◌≤◌, Bool, true, false, cond, not, nat_eq, List, length, replicate, Option, Some, None, refl, sym, ap, subst, ◌∙◌, arith}
use Rattle.std.specs.Prelude.{is_some, IsSome, IfSome}
use Rattle.std.specs.Map.{lookup, remove_entry, set_value}
use Rattle.lru.specs.LruCache.{LruCache}
use Rattle.ostore_base.specs.declared.page.PageImage.{PageImage}
use Rattle.ostore_client_cache.specs.declared.entries.CachedPage.{CachedPage}
use Rattle.ostore_client_cache.specs.declared.entries.Hold.{Hold}
use Rattle.ostore_client_cache.specs.declared.entries.Hold.TheVariants.{Retained, InUse, Owned}
use Rattle.ostore_client_cache.specs.Entries.{is_used, is_in_use, is_retained, first_as}
use Rattle.ostore_client_cache.specs.Caches.{Cached, cached, fresh, used_pages}
use Rattle.ostore_client_cache.specs.inside.Kept.{IsCache}
use Rattle.ostore_client_cache.proofs.CountLaws.{bit, used_removed, used_first, used_few, long_removed, long_first, used_set, long_set}

pub fresh_is : (image : PageImage) → image.bytes ≡ replicate 4096 0 → record { image = image; hold = Retained } ≡ fresh
unfolding fresh
fresh_is image zeros = ap (λ (b : List ℕ). record { image = record { bytes = b }; hold = Retained }) zeros

-- ---- bits

yes : (b : Bool) → b ≡ true → bit b ≡ 1
yes true is = refl
yes false is = cc

no : (b : Bool) → b ≡ false → bit b ≡ 0
no true is = cc
no false is = refl

never : (b : Bool) → bit (cond b false false) ≡ 0
never true = refl
never false = refl

held_retained : (hold : Hold) → not (is_used hold) ≡ true → bit (is_used hold) ≡ 0
held_retained Retained is = refl
held_retained InUse is = cc
held_retained Owned is = cc

held_used : (hold : Hold) → not (is_used hold) ≡ false → bit (is_used hold) ≡ 1
held_used Retained is = cc
held_used InUse is = refl
held_used Owned is = refl

record Retains (found : Option CachedPage) : Type 0 where
  pub before : bit (is_in_use found) ≡ 0
  pub after : bit (cond (is_some found) true false) ≡ 1
  pub there : bit (is_some found) ≡ 1

retained_there : (found : Option CachedPage) → is_retained found ≡ true → Retains found
retained_there None is = absurd (let no : false ≡ true = is in cc)
retained_there (Some entry) is = record { before = held_retained entry.hold is; after = refl; there = refl }

not_retained : (found : Option CachedPage) → is_retained found ≡ false → bit (is_in_use found) ≡ bit (cond (is_some found) true false)
not_retained None is = refl
not_retained (Some entry) is = held_used entry.hold is

-- ---- what a cache is once a page is held otherwise

pub record Loses (cache : LruCache ℕ CachedPage) (used most : ℕ) : Type 0 where
  pub some : 1 ≤ used
  pub kept : IsCache cache (used - 1) most

-- a page in use is retained
pub retains : (cache new : LruCache ℕ CachedPage) (used most page : ℕ) → IsCache cache used most → new.cap ≡ cache.cap → new.entries ≡ first_as Retained cache.entries page → is_in_use (lookup (nat_eq page) cache.entries) ≡ true
    → Loses new used most
retains cache new used most page is cap entries was =
    let found : Option CachedPage = lookup (nat_eq page) cache.entries in
    let before = used_removed page cache.entries found refl in
    let after = used_first Retained page cache.entries found refl in
    let long = long_removed page cache.entries found refl in
    let longer = long_first Retained page cache.entries found refl in
    let one = yes (is_in_use found) was in
    let none = never (is_some found) in
    let counted = is.counted in
    let short = is.short in
    let used_now : length (used_pages new.entries) ≡ length (used_pages (first_as Retained cache.entries page)) = ap (λ (l : List (ℕ × CachedPage)). length (used_pages l)) entries in
    let long_now : length new.entries ≡ length (first_as Retained cache.entries page) = ap (λ (l : List (ℕ × CachedPage)). length l) entries in
    record {
      some = omega arith;
      kept = record { room = cap ∙ is.room; few = is.few; short = omega arith; counted = omega arith };
    }

-- a page that isn't in use is retained
pub retains_still : (cache new : LruCache ℕ CachedPage) (used most page : ℕ) → IsCache cache used most → new.cap ≡ cache.cap → new.entries ≡ first_as Retained cache.entries page → is_in_use (lookup (nat_eq page) cache.entries) ≡ false
    → IsCache new used most
retains_still cache new used most page is cap entries was =
    let found : Option CachedPage = lookup (nat_eq page) cache.entries in
    let before = used_removed page cache.entries found refl in
    let after = used_first Retained page cache.entries found refl in
    let long = long_removed page cache.entries found refl in
    let longer = long_first Retained page cache.entries found refl in
    let zero_now = no (is_in_use found) was in
    let none = never (is_some found) in
    let counted = is.counted in
    let short = is.short in
    let used_now : length (used_pages new.entries) ≡ length (used_pages (first_as Retained cache.entries page)) = ap (λ (l : List (ℕ × CachedPage)). length (used_pages l)) entries in
    let long_now : length new.entries ≡ length (first_as Retained cache.entries page) = ap (λ (l : List (ℕ × CachedPage)). length l) entries in
    record { room = cap ∙ is.room; few = is.few; short = omega arith; counted = omega arith }

-- a page in use goes
pub forgets : (cache new : LruCache ℕ CachedPage) (used most page : ℕ) → IsCache cache used most → new.cap ≡ cache.cap → new.entries ≡ remove_entry (nat_eq page) cache.entries → is_in_use (lookup (nat_eq page) cache.entries) ≡ true
    → Loses new used most
forgets cache new used most page is cap entries was =
    let found : Option CachedPage = lookup (nat_eq page) cache.entries in
    let before = used_removed page cache.entries found refl in
    let long = long_removed page cache.entries found refl in
    let one = yes (is_in_use found) was in
    let counted = is.counted in
    let short = is.short in
    let used_now : length (used_pages new.entries) ≡ length (used_pages (remove_entry (nat_eq page) cache.entries)) = ap (λ (l : List (ℕ × CachedPage)). length (used_pages l)) entries in
    let long_now : length new.entries ≡ length (remove_entry (nat_eq page) cache.entries) = ap (λ (l : List (ℕ × CachedPage)). length l) entries in
    record {
      some = omega arith;
      kept = record { room = cap ∙ is.room; few = is.few; short = omega arith; counted = omega arith };
    }

-- a page that isn't in use goes
pub forgets_still : (cache new : LruCache ℕ CachedPage) (used most page : ℕ) → IsCache cache used most → new.cap ≡ cache.cap → new.entries ≡ remove_entry (nat_eq page) cache.entries → is_in_use (lookup (nat_eq page) cache.entries) ≡ false
    → IsCache new used most
forgets_still cache new used most page is cap entries was =
    let found : Option CachedPage = lookup (nat_eq page) cache.entries in
    let before = used_removed page cache.entries found refl in
    let long = long_removed page cache.entries found refl in
    let zero_now = no (is_in_use found) was in
    let counted = is.counted in
    let short = is.short in
    let used_now : length (used_pages new.entries) ≡ length (used_pages (remove_entry (nat_eq page) cache.entries)) = ap (λ (l : List (ℕ × CachedPage)). length (used_pages l)) entries in
    let long_now : length new.entries ≡ length (remove_entry (nat_eq page) cache.entries) = ap (λ (l : List (ℕ × CachedPage)). length l) entries in
    record { room = cap ∙ is.room; few = is.few; short = omega arith; counted = omega arith }

pub record Gains (cache : LruCache ℕ CachedPage) (used most : ℕ) : Type 0 where
  pub fits : used + 1 ≤ 16385
  pub kept : IsCache cache (used + 1) most

-- a retained page comes into use
pub uses : (cache new : LruCache ℕ CachedPage) (used most page : ℕ) → IsCache cache used most → new.cap ≡ cache.cap → new.entries ≡ first_as InUse cache.entries page → is_retained (lookup (nat_eq page) cache.entries) ≡ true
    → Gains new used most
uses cache new used most page is cap entries was =
    let found : Option CachedPage = lookup (nat_eq page) cache.entries in
    let before = used_removed page cache.entries found refl in
    let after = used_first InUse page cache.entries found refl in
    let long = long_removed page cache.entries found refl in
    let longer = long_first InUse page cache.entries found refl in
    let fewer = used_few (remove_entry (nat_eq page) cache.entries) in
    let law = retained_there found was in
    let first = law.before in
    let second = law.after in
    let third = law.there in
    let counted = is.counted in
    let short = is.short in
    let few = is.few in
    let used_now : length (used_pages new.entries) ≡ length (used_pages (first_as InUse cache.entries page)) = ap (λ (l : List (ℕ × CachedPage)). length (used_pages l)) entries in
    let long_now : length new.entries ≡ length (first_as InUse cache.entries page) = ap (λ (l : List (ℕ × CachedPage)). length l) entries in
    record {
      fits = omega arith;
      kept = record { room = cap ∙ is.room; few = is.few; short = omega arith; counted = omega arith };
    }

-- a page that isn't retained is used again
pub uses_still : (cache new : LruCache ℕ CachedPage) (used most page : ℕ) → IsCache cache used most → new.cap ≡ cache.cap → new.entries ≡ first_as InUse cache.entries page → is_retained (lookup (nat_eq page) cache.entries) ≡ false
    → IsCache new used most
uses_still cache new used most page is cap entries was =
    let found : Option CachedPage = lookup (nat_eq page) cache.entries in
    let before = used_removed page cache.entries found refl in
    let after = used_first InUse page cache.entries found refl in
    let long = long_removed page cache.entries found refl in
    let longer = long_first InUse page cache.entries found refl in
    let same = not_retained found was in
    let counted = is.counted in
    let short = is.short in
    let used_now : length (used_pages new.entries) ≡ length (used_pages (first_as InUse cache.entries page)) = ap (λ (l : List (ℕ × CachedPage)). length (used_pages l)) entries in
    let long_now : length new.entries ≡ length (first_as InUse cache.entries page) = ap (λ (l : List (ℕ × CachedPage)). length l) entries in
    record { room = cap ∙ is.room; few = is.few; short = omega arith; counted = omega arith }

-- ---- a page whose entry is another, in use as it was

pub changes : (cache new : LruCache ℕ CachedPage) (used most page : ℕ) (was now : CachedPage) → IsCache cache used most → new.cap ≡ cache.cap → lookup (nat_eq page) cache.entries ≡ Some was → is_used now.hold ≡ is_used was.hold
    → new.entries ≡ set_value (nat_eq page) cache.entries now → IsCache new used most
changes cache new used most page was now is cap found same set =
    let count = ap (λ (l : List (ℕ × CachedPage)). length (used_pages l)) set ∙ used_set page cache.entries was now found same in
    let long : length new.entries ≡ length cache.entries = ap (λ (l : List (ℕ × CachedPage)). length l) set ∙ long_set page cache.entries now in
    let short = is.short in
    record { room = cap ∙ is.room; few = is.few; short = omega arith; counted = is.counted ∙ sym count }

-- ---- a page that is looked up

pub record IsThere (found : Option CachedPage) : Type 0 where
  pub entry : CachedPage
  pub is : found ≡ Some entry

pub there : (found : Option CachedPage) → IsSome found → IsThere found
there None some = absurd cc
there (Some entry) some = record { entry = entry; is = refl }

pub used_there : (found : Option CachedPage) → is_in_use found ≡ true → IsThere found
used_there None some = absurd (let no : false ≡ true = some in cc)
used_there (Some entry) some = record { entry = entry; is = refl }

pub if_some : (P : CachedPage → Type 0) (found : Option CachedPage) (entry : CachedPage) → found ≡ Some entry → IfSome found P → P entry
if_some P found entry is h = subst (λ (x : Option CachedPage). IfSome x P) is h

pub to_some : (P : CachedPage → Type 0) (found : Option CachedPage) (entry : CachedPage) → found ≡ Some entry → P entry → IfSome found P
to_some P found entry is h = subst (λ (x : Option CachedPage). IfSome x P) (sym is) h

-- a cache by its pages, and how many there may be
pub view_as : (inside now : Cached) (pages : List (ℕ × CachedPage)) (page : ℕ) (change : CachedPage → CachedPage) → inside ≡ now → IsThere (lookup (nat_eq page) now.pages)
    → IfSome (lookup (nat_eq page) inside.pages) (λ entry. pages ≡ set_value (nat_eq page) inside.pages (change entry))
    → IfSome (lookup (nat_eq page) now.pages) (λ entry. cached pages inside.most ≡ cached (set_value (nat_eq page) now.pages (change entry)) now.most)
view_as inside now pages page change same is set =
    to_some (λ entry. cached pages inside.most ≡ cached (set_value (nat_eq page) now.pages (change entry)) now.most) (lookup (nat_eq page) now.pages) is.entry is.is
    (let found : lookup (nat_eq page) inside.pages ≡ Some is.entry = ap (λ (v : Cached). lookup (nat_eq page) v.pages) same ∙ is.is in
    ap (λ (l : List (ℕ × CachedPage)). cached l inside.most) (if_some (λ entry. pages ≡ set_value (nat_eq page) inside.pages (change entry)) (lookup (nat_eq page) inside.pages) is.entry found set)
    ∙ ap (λ (v : Cached). cached (set_value (nat_eq page) v.pages (change is.entry)) v.most) same)
