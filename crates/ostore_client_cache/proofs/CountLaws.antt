-- How many pages a cache has, and how many of them are in use.
use Rattle.std.proofs.Common.{◌≡◌, ℕ, suc, ◌+◌, ◌-◌, ◌≤◌, Bool, true, false, cond, nat_eq, List, [], ◌∷◌, ◌++◌, length, take, Option, Some, None, refl, sym, ap, ◌∙◌, arith, inl, inr}
use Rattle.std.specs.Prelude.{is_some}
use Rattle.std.specs.Option.{option_map_or}
use Rattle.std.specs.Map.{lookup, lookup_entry, remove_entry, set_value}
use Rattle.std.proofs.lemmas.Option.{same_Some}
use Rattle.std.proofs.lemmas.Bool.{cases_eq, eq-eqb, ne_eqb}
use Rattle.std.proofs.lemmas.List.{take_all}
use Rattle.lru.specs.LruCache.{lru_cache, put_entries}
use Rattle.ostore_client_cache.specs.declared.entries.CachedPage.{CachedPage}
use Rattle.ostore_client_cache.specs.declared.entries.Hold.{Hold}
use Rattle.ostore_client_cache.specs.Entries.{is_used, is_in_use, first_as, pair_as, held_as}
use Rattle.ostore_client_cache.specs.Caches.{used_pages}

abbrev pub bit : Bool → ℕ
bit b = cond b 1 0

counted : (b : Bool) (e : ℕ × CachedPage) (entries : List (ℕ × CachedPage)) → length (cond b (e ∷ entries) entries) ≡ bit b + length entries
counted true e entries = omega arith
counted false e entries = omega arith

pub used_more : (e : ℕ × CachedPage) (entries : List (ℕ × CachedPage)) → length (used_pages (e ∷ entries)) ≡ bit (is_used e.1.hold) + length (used_pages entries)
used_more e entries = counted (is_used e.1.hold) e (used_pages entries)

used_few_as : (b : Bool) (e : ℕ × CachedPage) (l entries : List (ℕ × CachedPage)) → length l ≤ length entries → length (cond b (e ∷ l) l) ≤ length (e ∷ entries)
used_few_as true e l entries few = omega arith
used_few_as false e l entries few = omega arith

pub used_few : (entries : List (ℕ × CachedPage)) → length (used_pages entries) ≤ length entries
used_few [] = omega arith
used_few (e ∷ entries) = used_few_as (is_used e.1.hold) e (used_pages entries) entries (used_few entries)

-- a page that goes is counted no more
pub used_removed : (page : ℕ) (entries : List (ℕ × CachedPage)) (found : Option CachedPage) → lookup (nat_eq page) entries ≡ found
    → length (used_pages entries) ≡ bit (is_in_use found) + length (used_pages (remove_entry (nat_eq page) entries))
used_removed page [] None is = refl
used_removed page [] (Some entry) is = cc
used_removed page (e ∷ entries) found is = elim (cases_eq page e.0) [
  | inl same ↦
      let here : Some e.1 ≡ found = rw (eq-eqb page e.0 same) at is in
      rw (eq-eqb page e.0 same) (used_more e entries ∙ ap (λ (o : Option CachedPage). bit (is_in_use o) + length (used_pages entries)) here)
  | inr apart ↦
      let later : lookup (nat_eq page) entries ≡ found = rw (ne_eqb page e.0 apart) at is in
      let rest = used_removed page entries found later in
      let one = used_more e entries in
      let other = used_more e (remove_entry (nat_eq page) entries) in
      rw (ne_eqb page e.0 apart) (omega arith)
]

pub long_removed : (page : ℕ) (entries : List (ℕ × CachedPage)) (found : Option CachedPage) → lookup (nat_eq page) entries ≡ found
    → length entries ≡ bit (is_some found) + length (remove_entry (nat_eq page) entries)
long_removed page [] None is = refl
long_removed page [] (Some entry) is = cc
long_removed page (e ∷ entries) found is = elim (cases_eq page e.0) [
  | inl same ↦
      let here : Some e.1 ≡ found = rw (eq-eqb page e.0 same) at is in
      let one : length (e ∷ entries) ≡ bit (is_some (Some e.1)) + length entries = omega arith in
      rw (eq-eqb page e.0 same) (one ∙ ap (λ (o : Option CachedPage). bit (is_some o) + length entries) here)
  | inr apart ↦
      let later : lookup (nat_eq page) entries ≡ found = rw (ne_eqb page e.0 apart) at is in
      let rest = long_removed page entries found later in
      let one : length (e ∷ entries) ≡ 1 + length entries = omega arith in
      let other : length (e ∷ remove_entry (nat_eq page) entries) ≡ 1 + length (remove_entry (nat_eq page) entries) = omega arith in
      rw (ne_eqb page e.0 apart) (omega arith)
]

-- a page that becomes the first is counted as it is then held
pub used_first : (hold : Hold) (page : ℕ) (entries : List (ℕ × CachedPage)) (found : Option CachedPage) → lookup (nat_eq page) entries ≡ found
    → length (used_pages (first_as hold entries page)) ≡ bit (cond (is_some found) (is_used hold) false) + length (used_pages (remove_entry (nat_eq page) entries))
used_first hold page entries None is = ap (λ (o : Option CachedPage). length (used_pages (pair_as hold page o ++ remove_entry (nat_eq page) entries))) is ∙ omega arith
used_first hold page entries (Some entry) is =
    ap (λ (o : Option CachedPage). length (used_pages (pair_as hold page o ++ remove_entry (nat_eq page) entries))) is
    ∙ used_more (page, held_as hold entry) (remove_entry (nat_eq page) entries)

pub long_first : (hold : Hold) (page : ℕ) (entries : List (ℕ × CachedPage)) (found : Option CachedPage) → lookup (nat_eq page) entries ≡ found
    → length (first_as hold entries page) ≡ bit (is_some found) + length (remove_entry (nat_eq page) entries)
long_first hold page entries None is = ap (λ (o : Option CachedPage). length (pair_as hold page o ++ remove_entry (nat_eq page) entries)) is ∙ omega arith
long_first hold page entries (Some entry) is =
    let one : length ((page, held_as hold entry) ∷ remove_entry (nat_eq page) entries) ≡ 1 + length (remove_entry (nat_eq page) entries) = omega arith in
    ap (λ (o : Option CachedPage). length (pair_as hold page o ++ remove_entry (nat_eq page) entries)) is ∙ one

-- ---- a page that comes in

none_found : (page : ℕ) (entries : List (ℕ × CachedPage)) → lookup (nat_eq page) entries ≡ None → lookup_entry (nat_eq page) entries ≡ None
none_found page [] none_at = refl
none_found page (e ∷ entries) none_at = elim (cases_eq page e.0) [
  | inl same ↦ let is : Some e.1 ≡ None = rw (eq-eqb page e.0 same) at none_at in absurd cc
  | inr apart ↦ rw (ne_eqb page e.0 apart) (none_found page entries (rw (ne_eqb page e.0 apart) at none_at))
]

pub admitted : (entries : List (ℕ × CachedPage)) (cap most page : ℕ) (value : CachedPage) → cap ≡ most + 1 → lookup (nat_eq page) entries ≡ None → length entries ≤ most → put_entries nat_eq (lru_cache entries cap) page value ≡ (page, value) ∷ entries
admitted entries cap most page value is apart room =
    ap (λ (o : Option (ℕ × CachedPage)). option_map_or (λ e. (e.0, value) ∷ remove_entry (nat_eq page) entries) o ((page, value) ∷ take (cap - 1) entries)) (none_found page entries apart)
    ∙ ap (λ (l : List (ℕ × CachedPage)). (page, value) ∷ l) (take_all (cap - 1) entries (omega arith))

-- ---- a page whose entry is another

pub used_set : (page : ℕ) (entries : List (ℕ × CachedPage)) (was now : CachedPage) → lookup (nat_eq page) entries ≡ Some was → is_used now.hold ≡ is_used was.hold
    → length (used_pages (set_value (nat_eq page) entries now)) ≡ length (used_pages entries)
used_set page [] was now found same = cc
used_set page (e ∷ entries) was now found same = elim (cases_eq page e.0) [
  | inl here ↦
      let is : Some e.1 ≡ Some was = rw (eq-eqb page e.0 here) at found in
      let hold : is_used now.hold ≡ is_used e.1.hold = same ∙ ap (λ (x : CachedPage). is_used x.hold) (sym (same_Some e.1 was is)) in
      rw (eq-eqb page e.0 here) (used_more (e.0, now) entries ∙ ap (λ (b : Bool). bit b + length (used_pages entries)) hold ∙ sym (used_more e entries))
  | inr apart ↦
      let later : lookup (nat_eq page) entries ≡ Some was = rw (ne_eqb page e.0 apart) at found in
      rw (ne_eqb page e.0 apart)
      (used_more e (set_value (nat_eq page) entries now) ∙ ap (λ (n : ℕ). bit (is_used e.1.hold) + n) (used_set page entries was now later same) ∙ sym (used_more e entries))
]

pub long_set : (page : ℕ) (entries : List (ℕ × CachedPage)) (now : CachedPage) → length (set_value (nat_eq page) entries now) ≡ length entries
long_set page [] now = refl
long_set page (e ∷ entries) now = elim (cases_eq page e.0) [
  | inl here ↦ rw (eq-eqb page e.0 here) refl
  | inr apart ↦ rw (ne_eqb page e.0 apart) (ap suc (long_set page entries now))
]
