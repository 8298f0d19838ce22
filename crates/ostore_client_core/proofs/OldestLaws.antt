-- The page that was used least recently, where pages in use were used later than the others.
use Rattle.std.proofs.Common.{◌≡◌, ◌≢◌, ℕ, zero, suc, ◌+◌, ◌-◌, ◌<◌, ◌≤◌, Bool, true, false, cond, leb, nat_eq, [], ◌∷◌, length, Option, Some, None, refl, sym, ap, subst, ◌∙◌, inl, inr, arith}
use Rattle.std.specs.Prelude.{slice_get}
use Rattle.std.specs.List.{AllByRecursion, IsDistinct}
use Rattle.std.specs.Option.{option_map}
use Rattle.std.specs.Map.{lookup, keys_of}
use Rattle.std.proofs.lemmas.Bool.{cases_lt, eq-eqb, le-leb, false≢true}
use Rattle.std.proofs.lemmas.Option.{same_Some}
use Rattle.std.proofs.lemmas.Map.Keys.{IsDistinct-head, IsDistinct-tail}
use Rattle.lru.specs.LruCache.{last_entry}
use Rattle.ostore_base.specs.declared.numbers.PageNo.{PageNo}
use Rattle.ostore_client_cache.specs.declared.entries.CachedPage.{CachedPage}
use Rattle.ostore_client_cache.specs.Entries.{is_used}
use Rattle.ostore_client_cache.specs.Caches.{used_pages, oldest, surplus}
use Rattle.ostore_client_cache.proofs.CountLaws.{bit, used_more}
use Rattle.ostore_client_core.specs.Clients.{AreUsedFirst}
use Rattle.ostore_client_core.proofs.EntryLaws.{Pages, none_some, front_here, front_other}

rec_get : (P : ℕ × CachedPage → Type 0) (pages : Pages) (k : ℕ) (e : ℕ × CachedPage) → AllByRecursion P pages → slice_get pages k ≡ Some e → P e
rec_get P [] k e all is = absurd (none_some is)
rec_get P (x ∷ pages) zero e all is = subst P (same_Some x e is) all.0
rec_get P (x ∷ pages) (suc k) e all is = rec_get P pages k e all.1 is

-- where the last page is in use, all are
last_used : (pages : Pages) (k : ℕ) (e : ℕ × CachedPage) → AreUsedFirst pages → k + 1 ≡ length pages → slice_get pages k ≡ Some e → is_used e.1.hold ≡ true → length (used_pages pages) ≡ length pages
last_used [] k e first long is used = absurd (none_some is)
last_used (x ∷ pages) zero e first long is used =
    let same = same_Some x e is in
    let here : is_used x.1.hold ≡ true = ap (λ (y : ℕ × CachedPage). is_used y.1.hold) same ∙ used in
    let none : length pages ≡ 0 = omega arith in
    let rest : length (used_pages pages) ≡ 0 = empty pages none in
    let count = used_more x pages in
    let one : bit (is_used x.1.hold) ≡ 1 = ap bit here in
    omega arith
  where
    empty : (l : Pages) → length l ≡ 0 → length (used_pages l) ≡ 0
    empty [] none = refl
    empty (y ∷ l) none = absurd (omega arith)
last_used (x ∷ pages) (suc k) e first long is used =
    let here : is_used x.1.hold ≡ true = rec_get (λ later. is_used later.1.hold ≡ true → is_used x.1.hold ≡ true) pages k e first.0 is used in
    let rest = last_used pages k e first.1 (omega arith) is used in
    let count = used_more x pages in
    let one : bit (is_used x.1.hold) ≡ 1 = ap bit here in
    omega arith

-- an entry is found under its own key
apart_key : (key : ℕ) (pages : Pages) (k : ℕ) (e : ℕ × CachedPage) → AllByRecursion (λ (y : ℕ). nat_eq key y ≡ false) (keys_of pages) → slice_get pages k ≡ Some e → nat_eq key e.0 ≡ false
apart_key key [] k e apart is = absurd (none_some is)
apart_key key (x ∷ pages) zero e apart is = ap (λ (y : ℕ × CachedPage). nat_eq key y.0) (sym (same_Some x e is)) ∙ apart.0
apart_key key (x ∷ pages) (suc k) e apart is = apart_key key pages k e apart.1 is

found : (pages : Pages) (k : ℕ) (e : ℕ × CachedPage) → IsDistinct nat_eq (keys_of pages) → slice_get pages k ≡ Some e → lookup (nat_eq e.0) pages ≡ Some e.1
found [] k e apart is = absurd (none_some is)
found (x ∷ pages) zero e apart is =
    let same = same_Some x e is in
    subst (λ (y : ℕ × CachedPage). lookup (nat_eq y.0) (x ∷ pages) ≡ Some y.1) same (front_here x.0 x.1 pages)
found (x ∷ pages) (suc k) e apart is =
    let differs : nat_eq x.0 e.0 ≡ false = apart_key x.0 pages k e (IsDistinct-head nat_eq x.0 (keys_of pages) apart) is in
    front_other x.0 e.0 x.1 pages (λ same. false≢true (sym differs ∙ eq-eqb x.0 e.0 (sym same))) ∙ found pages k e (IsDistinct-tail nat_eq x.0 (keys_of pages) apart) is

-- the page that goes where one more comes
pub record IsOldest (pages : Pages) (page : ℕ) (dropped : PageNo) : Type 0 where
  pub entry : CachedPage
  pub there : lookup (nat_eq dropped.0) pages ≡ Some entry
  pub idle : is_used entry.hold ≡ false
  pub other : dropped.0 ≢ page

surplus_last : (pages : Pages) (most : ℕ) (dropped : PageNo) (past : Bool) → leb (length pages) most ≡ past → cond past None (oldest pages) ≡ Some dropped → (most < length pages) × (oldest pages ≡ Some dropped)
surplus_last pages most dropped true is h = absurd (none_some h)
surplus_last pages most dropped false is h = elim (cases_lt most (length pages)) [
  | inl more ↦ (more, h)
  | inr few ↦ absurd (false≢true (sym is ∙ le-leb (length pages) most few))
]

key_of : (o : Option (ℕ × CachedPage)) (dropped : PageNo) → option_map (λ (e : ℕ × CachedPage). record { 0 = e.0 }) o ≡ Some dropped → (e : ℕ × CachedPage) × (o ≡ Some e) × (e.0 ≡ dropped.0)
key_of None dropped h = absurd (none_some h)
key_of (Some e) dropped h = (e, refl, ap (λ (p : PageNo). p.0) (same_Some (record { 0 = e.0 }) dropped h))

pub oldest_idle : (pages : Pages) (most page : ℕ) (came : CachedPage) (dropped : PageNo) → AreUsedFirst pages → IsDistinct nat_eq (keys_of pages) → length pages ≤ most → length (used_pages pages) < most → lookup (nat_eq page) pages ≡ None
    → surplus ((page, came) ∷ pages) most ≡ Some dropped → IsOldest pages page dropped
oldest_idle pages most page came dropped first apart few room absent surplus_is =
    let last = surplus_last ((page, came) ∷ pages) most dropped (leb (length ((page, came) ∷ pages)) most) refl surplus_is in
    let long = last.0 in
    let entry = key_of (last_entry ((page, came) ∷ pages)) dropped last.1 in
    let k : ℕ = length pages - 1 in
    let at : length ((page, came) ∷ pages) - 1 ≡ suc k = omega arith in
    let here : slice_get pages k ≡ Some entry.0 = sym (ap (λ (n : ℕ). slice_get ((page, came) ∷ pages) n) at) ∙ entry.1 in
    let under : lookup (nat_eq dropped.0) pages ≡ Some entry.0.1 = ap (λ (n : ℕ). lookup (nat_eq n) pages) (sym entry.2) ∙ found pages k entry.0 apart here in
    record {
      entry = entry.0.1;
      there = under;
      idle = idle_as entry.0 k (is_used entry.0.1.hold) refl here (omega arith);
      other = λ same. none_some (sym absent ∙ ap (λ (n : ℕ). lookup (nat_eq n) pages) (sym same) ∙ under);
    }
  where
    idle_as : (e : ℕ × CachedPage) (k : ℕ) (b : Bool) → is_used e.1.hold ≡ b → slice_get pages k ≡ Some e → k + 1 ≡ length pages → is_used e.1.hold ≡ false
    idle_as e k true is here long = absurd (let all = last_used pages k e first long here is in let high : most < length ((page, came) ∷ pages) = (surplus_last ((page, came) ∷ pages) most dropped (leb (length ((page, came) ∷ pages)) most) refl surplus_is).0 in omega arith)
    idle_as e k false is here long = is
