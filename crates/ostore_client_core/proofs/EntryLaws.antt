-- What is looked up in a client's pages once one of them is held otherwise.
use Rattle.std.proofs.Common.{◌≡◌, ◌≢◌, ℕ, Bool, true, false, cond, eqb, nat_eq, List, [], ◌∷◌, ◌++◌, Option, Some, None, refl, sym, ap, subst, ◌∙◌, inl, inr}
use Rattle.std.specs.Prelude.{IsSome, IfSome}
use Rattle.std.specs.List.{AllByRecursion, IsDistinct}
use Rattle.std.specs.Map.{lookup, remove_entry, set_value, keys_of}
use Rattle.std.specs.Cmp.{nat_eq_equiv}
use Rattle.std.proofs.lemmas.Map.{lookup-set_value, lookup-remove_entry}
use Rattle.std.proofs.lemmas.Map.Keys.{IsDistinct-head, IsDistinct-tail}
use Rattle.std.proofs.lemmas.Bool.{cases_eq, eq-eqb, ne_eqb, eqb-true, false≢true}
use Rattle.std.proofs.lemmas.Option.{same_Some}
use Rattle.ostore_client_cache.specs.declared.entries.CachedPage.{CachedPage}
use Rattle.ostore_client_cache.specs.declared.entries.Hold.{Hold}
use Rattle.ostore_client_cache.specs.Entries.{is_used, is_in_use, is_owned, held_as, pair_as, first_as, hold_of}
use Rattle.ostore_client_cache.specs.Caches.{used_pages}
use Rattle.ostore_client_core.specs.Clients.{AreUsedFirst}

abbrev pub Pages : Type 0
Pages = List (ℕ × CachedPage)

pub one_key : (page x y : ℕ) → nat_eq page x ≡ true → nat_eq page y ≡ nat_eq x y
one_key page x y h = ap (λ (n : ℕ). nat_eq n y) (eqb-true page x h)

pub none_some : {X : Type 0} {x : X} → None ≡ Some x → ⊥
none_some {X} {x} e = absurd cc

pub some_of : {X : Type 0} (o : Option X) (x : X) → o ≡ Some x → IsSome o
some_of o x is = subst IsSome (sym is) refl

pub record IsThere (found : Option CachedPage) : Type 0 where
  pub entry : CachedPage
  pub is : found ≡ Some entry

pub there : (found : Option CachedPage) → IsSome found → IsThere found
there None some = absurd cc
there (Some entry) some = record { entry = entry; is = refl }

pub used_there : (found : Option CachedPage) → is_in_use found ≡ true → IsThere found
used_there None some = absurd (false≢true some)
used_there (Some entry) some = record { entry = entry; is = refl }

pub owned_there : (found : Option CachedPage) → is_owned found ≡ true → IsThere found
owned_there None owned = absurd (false≢true owned)
owned_there (Some entry) owned = record { entry = entry; is = refl }

pub held_there : (found : Option CachedPage) (hold : Hold) → hold_of found ≡ Some hold → IsThere found
held_there None hold is = absurd (none_some is)
held_there (Some entry) hold is = record { entry = entry; is = refl }

-- the hold of an entry that is there
pub hold_there : (found : Option CachedPage) (entry : CachedPage) (hold : Hold) → found ≡ Some entry → hold_of found ≡ Some hold → entry.hold ≡ hold
hold_there found entry hold is held = same_Some entry.hold hold (sym (ap hold_of is) ∙ held)

pub if_some : (P : CachedPage → Type 0) (found : Option CachedPage) (entry : CachedPage) → found ≡ Some entry → IfSome found P → P entry
if_some P found entry is h = subst (λ (x : Option CachedPage). IfSome x P) is h

-- ---- removing

pub gone_here : (page : ℕ) (pages : Pages) → IsDistinct nat_eq (keys_of pages) → lookup (nat_eq page) (remove_entry (nat_eq page) pages) ≡ None
gone_here page pages apart = lookup-remove_entry nat_eq_equiv (nat_eq page) (one_key page) page pages apart ∙ (rw (eq-eqb page page refl) refl)

pub gone_other : (page other : ℕ) (pages : Pages) → other ≢ page → lookup (nat_eq other) (remove_entry (nat_eq page) pages) ≡ lookup (nat_eq other) pages
gone_other page other [] apart = refl
gone_other page other (e ∷ pages) apart = elim (cases_eq page e.0) [
  | inl same ↦ let no_key : other ≢ e.0 = λ is. apart (is ∙ sym same) in rw (eq-eqb page e.0 same, ne_eqb other e.0 no_key) refl
  | inr not_here ↦ rw (ne_eqb page e.0 not_here) (ap (λ (o : Option CachedPage). cond (eqb other e.0) (Some e.1) o) (gone_other page other pages apart))
]

-- ---- first

first_as_found : (hold : Hold) (page : ℕ) (pages : Pages) (entry : CachedPage) → lookup (nat_eq page) pages ≡ Some entry → first_as hold pages page ≡ (page, held_as hold entry) ∷ remove_entry (nat_eq page) pages
first_as_found hold page pages entry is = ap (λ (o : Option CachedPage). pair_as hold page o ++ remove_entry (nat_eq page) pages) is

pub first_is : (hold : Hold) (page : ℕ) (pages : Pages) (entry : CachedPage) → lookup (nat_eq page) pages ≡ Some entry → first_as hold pages page ≡ (page, held_as hold entry) ∷ remove_entry (nat_eq page) pages
first_is hold page pages entry is = first_as_found hold page pages entry is

pub front_here : (page : ℕ) (entry : CachedPage) (pages : Pages) → lookup (nat_eq page) ((page, entry) ∷ pages) ≡ Some entry
front_here page entry pages = rw (eq-eqb page page refl) refl

pub front_other : (page other : ℕ) (entry : CachedPage) (pages : Pages) → other ≢ page → lookup (nat_eq other) ((page, entry) ∷ pages) ≡ lookup (nat_eq other) pages
front_other page other entry pages apart = rw (ne_eqb other page apart) refl

pub first_here : (hold : Hold) (page : ℕ) (pages : Pages) (entry : CachedPage) → lookup (nat_eq page) pages ≡ Some entry → lookup (nat_eq page) (first_as hold pages page) ≡ Some (held_as hold entry)
first_here hold page pages entry is = ap (lookup (nat_eq page)) (first_as_found hold page pages entry is) ∙ front_here page (held_as hold entry) (remove_entry (nat_eq page) pages)

first_other_as : (hold : Hold) (page other : ℕ) (pages : Pages) (found : Option CachedPage) → lookup (nat_eq page) pages ≡ found → other ≢ page → lookup (nat_eq other) (pair_as hold page found ++ remove_entry (nat_eq page) pages) ≡ lookup (nat_eq other) pages
first_other_as hold page other pages None is apart = gone_other page other pages apart
first_other_as hold page other pages (Some entry) is apart = front_other page other (held_as hold entry) (remove_entry (nat_eq page) pages) apart ∙ gone_other page other pages apart

pub first_other : (hold : Hold) (page other : ℕ) (pages : Pages) → other ≢ page → lookup (nat_eq other) (first_as hold pages page) ≡ lookup (nat_eq other) pages
first_other hold page other pages apart = first_other_as hold page other pages (lookup (nat_eq page) pages) refl apart

-- ---- another value

pub set_here : (page : ℕ) (entry : CachedPage) (pages : Pages) → IsSome (lookup (nat_eq page) pages) → lookup (nat_eq page) (set_value (nat_eq page) pages entry) ≡ Some entry
set_here page entry pages some = lookup-set_value nat_eq_equiv (nat_eq page) (one_key page) page entry pages some ∙ (rw (eq-eqb page page refl) refl)

pub set_other : (page other : ℕ) (entry : CachedPage) (pages : Pages) → IsSome (lookup (nat_eq page) pages) → other ≢ page → lookup (nat_eq other) (set_value (nat_eq page) pages entry) ≡ lookup (nat_eq other) pages
set_other page other entry pages some apart = lookup-set_value nat_eq_equiv (nat_eq page) (one_key page) other entry pages some ∙ (rw (ne_eqb page other (λ e. apart (sym e))) refl)

-- ---- pages in use before the others

used_all : (e : ℕ × CachedPage) (pages : Pages) → is_used e.1.hold ≡ true → AllByRecursion (λ later. is_used later.1.hold ≡ true → is_used e.1.hold ≡ true) pages
used_all e [] used = tt
used_all e (later ∷ pages) used = ((λ _. used), used_all e pages used)

pub first_used : (e : ℕ × CachedPage) (pages : Pages) → is_used e.1.hold ≡ true → AreUsedFirst pages → AreUsedFirst (e ∷ pages)
first_used e pages used first = (used_all e pages used, first)

all_less : (P : ℕ × CachedPage → Type 0) (page : ℕ) (pages : Pages) → AllByRecursion P pages → AllByRecursion P (remove_entry (nat_eq page) pages)
all_less P page [] all = tt
all_less P page (e ∷ pages) all = elim (cases_eq page e.0) [
  | inl same ↦ rw (eq-eqb page e.0 same) all.1
  | inr apart ↦ rw (ne_eqb page e.0 apart) (all.0, all_less P page pages all.1)
]

pub first_less : (page : ℕ) (pages : Pages) → AreUsedFirst pages → AreUsedFirst (remove_entry (nat_eq page) pages)
first_less page [] first = tt
first_less page (e ∷ pages) first = elim (cases_eq page e.0) [
  | inl same ↦ rw (eq-eqb page e.0 same) first.1
  | inr apart ↦ rw (ne_eqb page e.0 apart) (all_less (λ later. is_used later.1.hold ≡ true → is_used e.1.hold ≡ true) page pages first.0, first_less page pages first.1)
]

-- ---- where no page is in use

skip : (e : ℕ × CachedPage) (pages : Pages) → is_used e.1.hold ≡ false → used_pages pages ≡ [] → used_pages (e ∷ pages) ≡ []
skip e pages idle none = ap (λ (b : Bool). cond b (e ∷ used_pages pages) (used_pages pages)) idle ∙ none

apart_later : (key other : ℕ) (pages : Pages) → AllByRecursion (λ (y : ℕ). nat_eq key y ≡ false) (keys_of pages) → key ≡ other → lookup (nat_eq other) pages ≡ None
apart_later key other [] apart same = refl
apart_later key other (e ∷ pages) apart same =
    let no : nat_eq other e.0 ≡ false = ap (λ (n : ℕ). nat_eq n e.0) (sym same) ∙ apart.0 in
    ap (λ (b : Bool). cond b (Some e.1) (lookup (nat_eq other) pages)) no ∙ apart_later key other pages apart.1 same

pub none_used : (pages : Pages) → IsDistinct nat_eq (keys_of pages) → ((page : ℕ) → is_in_use (lookup (nat_eq page) pages) ≡ false) → used_pages pages ≡ []
none_used [] apart idle = refl
none_used (e ∷ pages) apart idle =
    let here : is_used e.1.hold ≡ false = sym (ap is_in_use (front_here e.0 e.1 pages)) ∙ idle e.0 in
    skip e pages here (none_used pages (IsDistinct-tail nat_eq e.0 (keys_of pages) apart) (λ page. elim (cases_eq e.0 page) as (λ _. is_in_use (lookup (nat_eq page) pages) ≡ false) [
      | inl same ↦ ap is_in_use (apart_later e.0 page pages (IsDistinct-head nat_eq e.0 (keys_of pages) apart) same)
      | inr other ↦ sym (ap is_in_use (front_other e.0 page e.1 pages (λ is. other (sym is)))) ∙ idle page
    ]))

idle_all : (e : ℕ × CachedPage) (pages : Pages) → used_pages pages ≡ [] → AllByRecursion (λ later. is_used later.1.hold ≡ true → is_used e.1.hold ≡ true) pages
idle_all e [] none = tt
idle_all e (later ∷ pages) none = by_use (is_used later.1.hold) refl none (λ rest. idle_all e pages rest)
  where
    by_use : (b : Bool) → is_used later.1.hold ≡ b → cond b (later ∷ used_pages pages) (used_pages pages) ≡ [] → (used_pages pages ≡ [] → AllByRecursion (λ l. is_used l.1.hold ≡ true → is_used e.1.hold ≡ true) pages)
        → AllByRecursion (λ l. is_used l.1.hold ≡ true → is_used e.1.hold ≡ true) (later ∷ pages)
    by_use true is none all = absurd cc
    by_use false is none all = ((λ used. absurd (false≢true (sym is ∙ used))), all none)

pub none_first : (pages : Pages) → used_pages pages ≡ [] → AreUsedFirst pages
none_first [] none = tt
none_first (e ∷ pages) none = by_use (is_used e.1.hold) refl none (λ rest. none_first pages rest)
  where
    by_use : (b : Bool) → is_used e.1.hold ≡ b → cond b (e ∷ used_pages pages) (used_pages pages) ≡ [] → (used_pages pages ≡ [] → AreUsedFirst pages) → AreUsedFirst (e ∷ pages)
    by_use true is none all = absurd cc
    by_use false is none all = (idle_all e pages none, all none)
