-- The order of a cache's entries.
use Rattle.std.proofs.Common.{◌≡◌, ◌≢◌, ◌+◌, ◌-◌, ◌<◌, length, get_or, take, reverse, ℕ, Bool, true, false, cond, eqb, nat_eq, List, [], ◌∷◌, ◌++◌, Option, Some, None, refl, sym, ap, subst, ◌∙◌, arith, inl, inr}
use Rattle.std.specs.Option.{option_map_or}
use Rattle.std.specs.List.{AllByRecursion, AllPairs, filter, flat_map}
use Rattle.std.proofs.lemmas.List.{append-nil, append_assoc, reverse-append, length-reverse, get_or-reverse, length-take-le, get_or_default, get_or-take, take_more}
use Rattle.std.proofs.lemmas.List.Elements.{recursion_from_All, All-from_recursion, filter-append}
use Rattle.ostore_client_cache.specs.declared.entries.CachedPage.{CachedPage}
use Rattle.ostore_client_cache.specs.declared.entries.Hold.{Hold}
use Rattle.ostore_client_cache.specs.declared.entries.Hold.TheVariants.{Retained}
use Rattle.ostore_client_cache.specs.Entries.{held_as, pair_as, entry_as, first_as}
use Rattle.ostore_client_cache.specs.Releases.{without, released_all}
use Rattle.std.specs.Map.{lookup, lookup_entry, set_value, remove_entry}
use Rattle.std.proofs.lemmas.Option.{same_Some}
use Rattle.std.proofs.lemmas.Bool.{cases_eq, eq-eqb, ne_eqb}
use Rattle.lru.specs.LruCache.{promoted}

-- the entry that is found is under the key
pub found_at : {V : Type 0} (key : ℕ) (entries : List (ℕ × V)) (value : V) → lookup (nat_eq key) entries ≡ Some value → lookup_entry (nat_eq key) entries ≡ Some (key, value)
found_at key [] value found = cc
found_at {V = V} key (e ∷ entries) value found = elim (cases_eq key e.0) [
  | inl same ↦
      let is : Some e.1 ≡ Some value = rw (eq-eqb key e.0 same) at found in
      rw (eq-eqb key e.0 same) (ap (λ (v : V). Some (e.0, v)) (same_Some e.1 value is) ∙ ap (λ (k : ℕ). Some (k, value)) (sym same))
  | inr apart ↦ rw (ne_eqb key e.0 apart) (found_at key entries value (rw (ne_eqb key e.0 apart) at found))
]

-- an entry that is made the most recently used one, with another value
pub promoted_set : {V : Type 0} (key : ℕ) (entries : List (ℕ × V)) (value new : V) → lookup (nat_eq key) entries ≡ Some value → set_value (nat_eq key) (promoted (nat_eq key) entries) new ≡ (key, new) ∷ remove_entry (nat_eq key) entries
promoted_set {V = V} key entries value new found =
    let first : promoted (nat_eq key) entries ≡ (key, value) ∷ remove_entry (nat_eq key) entries = ap (λ (o : Option (ℕ × V)). option_map_or (λ e. e ∷ remove_entry (nat_eq key) entries) o entries) (found_at key entries value found) in
    ap (λ (l : List (ℕ × V)). set_value (nat_eq key) l new) first ∙ rw (eq-eqb key key refl) refl

-- ---- retaining

removed_none : {V : Type 0} (key : ℕ) (entries : List (ℕ × V)) → lookup (nat_eq key) entries ≡ None → remove_entry (nat_eq key) entries ≡ entries
removed_none key [] none_at = refl
removed_none {V = V} key (e ∷ entries) none_at = elim (cases_eq key e.0) [
  | inl same ↦ let is : Some e.1 ≡ None = rw (eq-eqb key e.0 same) at none_at in absurd cc
  | inr apart ↦ rw (ne_eqb key e.0 apart) (ap (λ (l : List (ℕ × V)). e ∷ l) (removed_none key entries (rw (ne_eqb key e.0 apart) at none_at)))
]

lookup_removed : {V : Type 0} (key other : ℕ) (entries : List (ℕ × V)) → key ≢ other → lookup (nat_eq key) (remove_entry (nat_eq other) entries) ≡ lookup (nat_eq key) entries
lookup_removed key other [] apart = refl
lookup_removed {V = V} key other (e ∷ entries) apart = elim (cases_eq other e.0) [
  | inl same ↦ let no_key : key ≢ e.0 = λ is. apart (is ∙ sym same) in rw (eq-eqb other e.0 same, ne_eqb key e.0 no_key) refl
  | inr not_here ↦ rw (ne_eqb other e.0 not_here) (ap (λ (o : Option V). cond (eqb key e.0) (Some e.1) o) (lookup_removed key other entries apart))
]

abbrev pub Apart : ℕ → List ℕ → Type 0
Apart key keys = AllByRecursion (λ other. key ≢ other) keys

lookup_without : (key : ℕ) (keys : List ℕ) (entries : List (ℕ × CachedPage)) → Apart key keys → lookup (nat_eq key) (without keys entries) ≡ lookup (nat_eq key) entries
lookup_without key [] entries apart = refl
lookup_without key (other ∷ keys) entries apart = lookup_without key keys (remove_entry (nat_eq other) entries) apart.1 ∙ lookup_removed key other entries apart.0

without_more : (keys : List ℕ) (key : ℕ) (entries : List (ℕ × CachedPage)) → without (keys ++ key ∷ []) entries ≡ remove_entry (nat_eq key) (without keys entries)
without_more [] key entries = refl
without_more (other ∷ keys) key entries = without_more keys key (remove_entry (nat_eq other) entries)

-- a front in which a key isn't
pair_skipped : (key other : ℕ) (found : Option CachedPage) (others : List (ℕ × CachedPage)) → key ≢ other → (lookup (nat_eq key) (pair_as Retained other found ++ others) ≡ lookup (nat_eq key) others) × (remove_entry (nat_eq key) (pair_as Retained other found ++ others) ≡ pair_as Retained other found ++ remove_entry (nat_eq key) others)
pair_skipped key other None others apart = (refl, refl)
pair_skipped key other (Some entry) others apart = (rw (ne_eqb key other apart) refl, rw (ne_eqb key other apart) refl)

front_skipped : (key : ℕ) (keys : List ℕ) (start others : List (ℕ × CachedPage)) → Apart key keys → (lookup (nat_eq key) (flat_map (entry_as Retained start) keys ++ others) ≡ lookup (nat_eq key) others) × (remove_entry (nat_eq key) (flat_map (entry_as Retained start) keys ++ others) ≡ flat_map (entry_as Retained start) keys ++ remove_entry (nat_eq key) others)
front_skipped key [] start others apart = (refl, refl)
front_skipped key (other ∷ keys) start others apart =
    let first : List (ℕ × CachedPage) = entry_as Retained start other in
    let rest : List (ℕ × CachedPage) = flat_map (entry_as Retained start) keys in
    let assoc : first ++ rest ++ others ≡ first ++ (rest ++ others) = append_assoc first rest others in
    let here = pair_skipped key other (lookup (nat_eq other) start) (rest ++ others) apart.0 in
    let behind = front_skipped key keys start others apart.1 in (
      ap (lookup (nat_eq key)) assoc ∙ here.0 ∙ behind.0,
      ap (remove_entry (nat_eq key)) assoc ∙ here.1 ∙ ap (λ (l : List (ℕ × CachedPage)). first ++ l) behind.1 ∙ sym (append_assoc first rest (remove_entry (nat_eq key) others)),
    )

apart_push : (key : ℕ) (keys : List ℕ) (other : ℕ) → Apart key keys → key ≢ other → Apart key (keys ++ other ∷ [])
apart_push key [] other apart here = (here, tt)
apart_push key (first ∷ keys) other apart here = (apart.0, apart_push key keys other apart.1 here)

apart_reverse : (key : ℕ) (keys : List ℕ) → Apart key keys → Apart key (reverse keys)
apart_reverse key keys apart = recursion_from_All (λ other. key ≢ other) (reverse keys) (λ k d below.
    let size = length-reverse keys in
    let read = get_or-reverse keys k d (omega arith) in
    subst (λ (o : ℕ). key ≢ o) (sym read) (All-from_recursion (λ other. key ≢ other) keys apart (length keys - 1 - k) d (omega arith)))

-- a page that comes behind others in ascending order is none of them
pub later_apart : (pages : List ℕ) (i d : ℕ) → AllPairs (λ page later. page < later) pages → i < length pages → Apart (get_or pages i d) (take i pages)
later_apart pages i d ascends below = recursion_from_All (λ other. get_or pages i d ≢ other) (take i pages) (λ k e short.
    let size = length-take-le i pages (omega arith) in
    let order : get_or pages k e < get_or pages i e = ascends k i e (omega arith) below in
    let same : get_or pages i d ≡ get_or pages i e = get_or_default pages i d e below in
    let read : get_or (take i pages) k e ≡ get_or pages k e = get_or-take i pages k e (omega arith) in
    λ is. (let equal : get_or pages i e ≡ get_or pages k e = sym same ∙ is ∙ read in omega arith))

-- a page that isn't there
pub first_none : (hold : Hold) (entries : List (ℕ × CachedPage)) (page : ℕ) → lookup (nat_eq page) entries ≡ None → entries ≡ first_as hold entries page
first_none hold entries page none_at =
    sym (ap (λ (o : Option CachedPage). pair_as hold page o ++ remove_entry (nat_eq page) entries) none_at ∙ removed_none page entries none_at)

pub first_some : (hold : Hold) (entries : List (ℕ × CachedPage)) (page : ℕ) (entry : CachedPage) → lookup (nat_eq page) entries ≡ Some entry → set_value (nat_eq page) (promoted (nat_eq page) entries) (held_as hold entry) ≡ first_as hold entries page
first_some hold entries page entry found =
    promoted_set page entries entry (held_as hold entry) found ∙ ap (λ (o : Option CachedPage). pair_as hold page o ++ remove_entry (nat_eq page) entries) (sym found)

-- ---- giving back

one_kept : (entries : List (ℕ × CachedPage)) (kept pages : List ℕ) (page : ℕ) → Apart page kept → Apart page pages → first_as Retained (flat_map (entry_as Retained entries) (reverse kept) ++ without pages entries) page ≡ flat_map (entry_as Retained entries) (reverse (kept ++ page ∷ [])) ++ without (pages ++ page ∷ []) entries
one_kept entries kept pages page apart_kept apart =
    let front : List (ℕ × CachedPage) = flat_map (entry_as Retained entries) (reverse kept) in
    let rest : List (ℕ × CachedPage) = without pages entries in
    let skip = front_skipped page (reverse kept) entries rest (apart_reverse page kept apart_kept) in
    let found : lookup (nat_eq page) (front ++ rest) ≡ lookup (nat_eq page) entries = skip.0 ∙ lookup_without page pages entries apart in
    let first : List (ℕ × CachedPage) = entry_as Retained entries page in
    let turned : reverse (kept ++ page ∷ []) ≡ page ∷ reverse kept = reverse-append kept (page ∷ []) in
    ap (λ (o : Option CachedPage). pair_as Retained page o ++ remove_entry (nat_eq page) (front ++ rest)) found
    ∙ ap (λ (l : List (ℕ × CachedPage)). first ++ l) skip.1
    ∙ sym (append_assoc first front (remove_entry (nat_eq page) rest))
    ∙ ap (λ (l : List (ℕ × CachedPage)). first ++ front ++ l) (sym (without_more pages page entries))
    ∙ ap (λ (l : List ℕ). flat_map (entry_as Retained entries) l ++ without (pages ++ page ∷ []) entries) (sym turned)

one_gone : (entries : List (ℕ × CachedPage)) (kept pages : List ℕ) (page : ℕ) → Apart page kept → remove_entry (nat_eq page) (flat_map (entry_as Retained entries) (reverse kept) ++ without pages entries) ≡ flat_map (entry_as Retained entries) (reverse kept) ++ without (pages ++ page ∷ []) entries
one_gone entries kept pages page apart_kept =
    let front : List (ℕ × CachedPage) = flat_map (entry_as Retained entries) (reverse kept) in
    (front_skipped page (reverse kept) entries (without pages entries) (apart_reverse page kept apart_kept)).1
    ∙ ap (λ (l : List (ℕ × CachedPage)). front ++ l) (sym (without_more pages page entries))

one_or : (P : List ℕ → Type 0) (b : Bool) (x y : List ℕ) → P x → P y → P (cond b x y)
one_or P true x y h k = h
one_or P false x y h k = k

apart_filter : (keeps : ℕ → Bool) (page : ℕ) (pages : List ℕ) → Apart page pages → Apart page (filter keeps pages)
apart_filter keeps page [] apart = tt
apart_filter keeps page (other ∷ pages) apart = one_or (λ (l : List ℕ). Apart page l) (keeps other) (other ∷ filter keeps pages) (filter keeps pages) (apart.0, apart_filter keeps page pages apart.1) (apart_filter keeps page pages apart.1)

-- two tests that agree on all but one number keep the same numbers where it isn't one of them
filter_same : (keeps was : ℕ → Bool) (page : ℕ) (pages : List ℕ) → ((other : ℕ) → other ≢ page → keeps other ≡ was other) → Apart page pages → filter keeps pages ≡ filter was pages
filter_same keeps was page [] same apart = refl
filter_same keeps was page (other ∷ pages) same apart =
    ap (λ (b : Bool). cond b (other ∷ filter keeps pages) (filter keeps pages)) (same other (λ e. apart.0 (sym e)))
    ∙ ap (λ (l : List ℕ). cond (was other) (other ∷ l) l) (filter_same keeps was page pages same apart.1)

turned_as : (keeps : ℕ → Bool) (start : List (ℕ × CachedPage)) (front : List ℕ) (page : ℕ) → Apart page front → (b : Bool) → keeps page ≡ b
    → cond b (first_as Retained (released_all start keeps front) page) (remove_entry (nat_eq page) (released_all start keeps front)) ≡ released_all start keeps (front ++ page ∷ [])
turned_as keeps start front page apart true is =
    let list : filter keeps (front ++ page ∷ []) ≡ filter keeps front ++ page ∷ [] = filter-append keeps front (page ∷ []) ∙ ap (λ (b : Bool). filter keeps front ++ cond b (page ∷ []) []) is in
    one_kept start (filter keeps front) front page (apart_filter keeps page front apart) apart
    ∙ ap (λ (l : List ℕ). flat_map (entry_as Retained start) (reverse l) ++ without (front ++ page ∷ []) start) (sym list)
turned_as keeps start front page apart false is =
    let list : filter keeps (front ++ page ∷ []) ≡ filter keeps front = filter-append keeps front (page ∷ []) ∙ ap (λ (b : Bool). filter keeps front ++ cond b (page ∷ []) []) is ∙ append-nil (filter keeps front) in
    one_gone start (filter keeps front) front page (apart_filter keeps page front apart)
    ∙ ap (λ (l : List ℕ). flat_map (entry_as Retained start) (reverse l) ++ without (front ++ page ∷ []) start) (sym list)

pub released_turn : (keeps was : ℕ → Bool) (start old new : List (ℕ × CachedPage)) (pages : List ℕ) (i page : ℕ) → AllPairs (λ page later. page < later) pages → i < length pages → page ≡ get_or pages i page → ((other : ℕ) → other ≢ page → keeps other ≡ was other)
    → old ≡ released_all start was (take i pages) → new ≡ cond (keeps page) (first_as Retained old page) (remove_entry (nat_eq page) old) → new ≡ released_all start keeps (take (i + 1) pages)
released_turn keeps was start old new pages i page ascends below read same so_far is =
    let front : List ℕ = take i pages in
    let apart : Apart page front = subst (λ (n : ℕ). Apart n front) (sym read) (later_apart pages i page ascends below) in
    let more : front ++ page ∷ [] ≡ take (i + 1) pages = ap (λ (n : ℕ). front ++ n ∷ []) read ∙ sym (take_more pages i page below) in
    let now : old ≡ released_all start keeps front = so_far ∙ ap (λ (l : List ℕ). flat_map (entry_as Retained start) (reverse l) ++ without front start) (sym (filter_same keeps was page front same apart)) in
    is ∙ ap (λ (l : List (ℕ × CachedPage)). cond (keeps page) (first_as Retained l page) (remove_entry (nat_eq page) l)) now
    ∙ turned_as keeps start front page apart (keeps page) refl
    ∙ ap (released_all start keeps) more

-- a page that isn't one of those given back has the entry that it had
pub lookup_later : (page : ℕ) (pages : List ℕ) (entries : List (ℕ × CachedPage)) (keeps : ℕ → Bool) → Apart page pages → lookup (nat_eq page) (released_all entries keeps pages) ≡ lookup (nat_eq page) entries
lookup_later page pages entries keeps apart =
    (front_skipped page (reverse (filter keeps pages)) entries (without pages entries) (apart_reverse page (filter keeps pages) (apart_filter keeps page pages apart))).0
    ∙ lookup_without page pages entries apart
