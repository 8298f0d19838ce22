-- The list of the pages in use, once one of a client's pages is held otherwise.
use Rattle.std.proofs.Common.{◌≡◌, ◌≤◌, ◌<◌, ◌+◌, ℕ, Bool, true, false, nat_eq, List, [], ◌∷◌, ◌++◌, length, Option, Some, None, refl, sym, ap, subst, ◌∙◌, inl, inr, arith}
use Rattle.std.specs.Prelude.{IfSome, Result, Ok, Err, OnOk, OnErr}
use Rattle.std.specs.List.{Contains, IsDistinct, list_any}
use Rattle.std.specs.Map.{lookup, remove_entry, set_value, keys_of}
use Rattle.std.specs.Cmp.{nat_eq_equiv}
use Rattle.std.proofs.lemmas.Bool.{cases_eq, cases_lt, eq-eqb, ne_eqb, false≢true}
use Rattle.std.proofs.lemmas.List.{map-append}
use Rattle.std.proofs.lemmas.List.Elements.{Contains-get_or, Contains-append_left, Contains-append_right, Contains-append_cases, All-contains, All-from_recursion}
use Rattle.std.proofs.lemmas.Map.Keys.{IsDistinct-push, IsDistinct-from_apart}
use Rattle.ostore_base.specs.declared.numbers.PageNo.{PageNo}
use Rattle.ostore_schema_layout.specs.declared.schema.Schema.{Schema}
use Rattle.ostore_schema_layout.specs.Lawful.{IsLawful}
use Rattle.ostore_address_space.specs.Frames.{Frames}
use Rattle.ostore_client_cache.specs.declared.entries.CachedPage.{CachedPage}
use Rattle.ostore_client_cache.specs.declared.entries.Hold.TheVariants.{Retained, InUse}
use Rattle.ostore_client_cache.specs.Entries.{is_used, is_in_use, is_owned, with_bytes, held_as, first_as, hold_of}
use Rattle.ostore_client_cache.specs.Caches.{Cached, cached, fresh, used_pages, without_one}
use Rattle.ostore_client_cache.specs.Releases.{numbers_of}
use Rattle.ostore_client_cache.proofs.CountLaws.{bit, used_few, used_more, used_removed, used_first, used_set}
use Rattle.ostore_client_core.specs.inside.Kept.{AreListed, IsClient}
use Rattle.ostore_client_core.proofs.EntryLaws.{Pages, owned_there, if_some, held_there, hold_there, first_here, first_other, gone_here, gone_other, none_used, some_of, set_here, set_other}
use Rattle.ostore_client_core.specs.Clients.{ClientView, client_view, with_pages}

-- each page is in use exactly as it was, so the same are listed
pub listed_still : (old new : Pages) (used : List PageNo) → ((page : ℕ) → is_in_use (lookup (nat_eq page) new) ≡ is_in_use (lookup (nat_eq page) old)) → length (used_pages new) ≡ length (used_pages old) → AreListed old used → AreListed new used
listed_still old new used same count listed = record {
  all = λ page. (λ has. same page ∙ (listed.all page).0 has, λ is. (listed.all page).1 (sym (same page) ∙ is));
  differ = listed.differ;
  count = listed.count ∙ sym count;
}

pub kept_still : (schema : Schema) (old new : Pages) (used : List PageNo) (room most now : ℕ) → now ≡ most → ((page : ℕ) → is_in_use (lookup (nat_eq page) new) ≡ is_in_use (lookup (nat_eq page) old)) → length (used_pages new) ≡ length (used_pages old)
    → IsClient schema old used room most → IsClient schema new used room now
kept_still schema old new used room most now is same count kept =
    let most_room = kept.spare in
    record { lawful = kept.lawful; listed = listed_still old new used same count kept.listed; spare = omega arith }

-- ---- an entry comes

pub admitted_use : (page : ℕ) (entry : CachedPage) (pages : Pages) → lookup (nat_eq page) pages ≡ None → is_used entry.hold ≡ false → (other : ℕ) → is_in_use (lookup (nat_eq other) ((page, entry) ∷ pages)) ≡ is_in_use (lookup (nat_eq other) pages)
admitted_use page entry pages none idle other = elim (cases_eq other page) [
  | inl same ↦ rw (eq-eqb other page same) (idle ∙ sym (ap is_in_use (ap (λ (n : ℕ). lookup (nat_eq n) pages) same ∙ none)))
  | inr apart ↦ rw (ne_eqb other page apart) refl
]

pub admitted_count : (page : ℕ) (entry : CachedPage) (pages : Pages) → is_used entry.hold ≡ false → length (used_pages ((page, entry) ∷ pages)) ≡ length (used_pages pages)
admitted_count page entry pages idle = used_more (page, entry) pages ∙ ap (λ (b : Bool). bit b + length (used_pages pages)) idle ∙ omega arith

-- ---- an entry that isn't in use goes

pub removed_use : (page : ℕ) (pages : Pages) → IsDistinct nat_eq (keys_of pages) → is_in_use (lookup (nat_eq page) pages) ≡ false → (other : ℕ) → is_in_use (lookup (nat_eq other) (remove_entry (nat_eq page) pages)) ≡ is_in_use (lookup (nat_eq other) pages)
removed_use page pages apart idle other = elim (cases_eq other page) [
  | inl same ↦
      ap (λ (n : ℕ). is_in_use (lookup (nat_eq n) (remove_entry (nat_eq page) pages))) same ∙ ap is_in_use (gone_here page pages apart)
      ∙ sym (ap (λ (n : ℕ). is_in_use (lookup (nat_eq n) pages)) same ∙ idle)
  | inr differs ↦ ap is_in_use (gone_other page other pages differs)
]

pub removed_count : (page : ℕ) (pages : Pages) → is_in_use (lookup (nat_eq page) pages) ≡ false → length (used_pages (remove_entry (nat_eq page) pages)) ≡ length (used_pages pages)
removed_count page pages idle =
    let count = used_removed page pages (lookup (nat_eq page) pages) refl in
    let none : bit (is_in_use (lookup (nat_eq page) pages)) ≡ 0 = ap bit idle in
    omega arith

-- ---- a retained page comes into use

any_none : (page : ℕ) (pages : List ℕ) → (Contains pages page → ⊥) → list_any (nat_eq page) pages ≡ false
any_none page [] none = refl
any_none page (other ∷ pages) none = elim (cases_eq page other) [
  | inl same ↦ absurd (none (subst (λ (n : ℕ). Contains (other ∷ pages) n) (sym same) (Contains-get_or (other ∷ pages) 0 other (omega arith))))
  | inr apart ↦ rw (ne_eqb page other apart) (any_none page pages (λ has. none (Contains-append_right (other ∷ []) pages page has)))
]

one_more : (used : List PageNo) (page : PageNo) → numbers_of (used ++ page ∷ []) ≡ numbers_of used ++ page.0 ∷ []
one_more used page = map-append (λ (p : PageNo). p.0) used (page ∷ [])

length_more : (used : List PageNo) (page : PageNo) → length (used ++ page ∷ []) ≡ length used + 1
length_more [] page = refl
length_more (p ∷ used) page = let more = length_more used page in omega arith

pub listed_more : (pages : Pages) (used : List PageNo) (page : PageNo) → hold_of (lookup (nat_eq page.0) pages) ≡ Some Retained → AreListed pages used → AreListed (first_as InUse pages page.0) (used ++ page ∷ [])
listed_more pages used page held listed =
    let is = held_there (lookup (nat_eq page.0) pages) Retained held in
    let hold = hold_there (lookup (nat_eq page.0) pages) is.entry Retained is.is held in
    let idle : is_in_use (lookup (nat_eq page.0) pages) ≡ false = ap is_in_use is.is ∙ ap is_used hold in
    let here : lookup (nat_eq page.0) (first_as InUse pages page.0) ≡ Some (held_as InUse is.entry) = first_here InUse page.0 pages is.entry is.is in
    let count = used_first InUse page.0 pages (Some is.entry) is.is in
    let less = used_removed page.0 pages (lookup (nat_eq page.0) pages) refl in
    let none : bit (is_in_use (lookup (nat_eq page.0) pages)) ≡ 0 = ap bit idle in
    let longer = length_more used page in
    let counted = listed.count in
    record {
      all = λ other. (
        (λ has. elim (Contains-append_cases (numbers_of used) (page.0 ∷ []) other (subst (λ (l : List ℕ). Contains l other) (one_more used page) has)) as (λ _. is_in_use (lookup (nat_eq other) (first_as InUse pages page.0)) ≡ true) [
          | inl before ↦ still other before
          | inr last ↦ ap (λ (n : ℕ). is_in_use (lookup (nat_eq n) (first_as InUse pages page.0))) (All-contains (λ (n : ℕ). n ≡ page.0) (page.0 ∷ []) other (All-from_recursion (λ (n : ℕ). n ≡ page.0) (page.0 ∷ []) (refl, tt)) last) ∙ ap is_in_use here
        ]),
        (λ used_now. subst (λ (l : List ℕ). Contains l other) (sym (one_more used page)) (elim (cases_eq other page.0) as (λ _. Contains (numbers_of used ++ page.0 ∷ []) other) [
          | inl same ↦ Contains-append_right (numbers_of used) (page.0 ∷ []) other (subst (λ (n : ℕ). Contains (page.0 ∷ []) n) (sym same) (Contains-get_or (page.0 ∷ []) 0 page.0 (omega arith)))
          | inr apart ↦ Contains-append_left (numbers_of used) (page.0 ∷ []) other ((listed.all other).1 (sym (ap is_in_use (first_other InUse page.0 other pages apart)) ∙ used_now))
        ])),
      );
      differ = subst (IsDistinct nat_eq) (sym (one_more used page)) (IsDistinct-push nat_eq_equiv (numbers_of used) page.0 listed.differ (any_none page.0 (numbers_of used) (λ has. false≢true (sym idle ∙ (listed.all page.0).0 has))));
      count = omega arith;
    }
  where
    still : (other : ℕ) → Contains (numbers_of used) other → is_in_use (lookup (nat_eq other) (first_as InUse pages page.0)) ≡ true
    still other before = elim (cases_eq other page.0) as (λ _. is_in_use (lookup (nat_eq other) (first_as InUse pages page.0)) ≡ true) [
      | inl same ↦
          let is = held_there (lookup (nat_eq page.0) pages) Retained held in
          ap (λ (n : ℕ). is_in_use (lookup (nat_eq n) (first_as InUse pages page.0))) same ∙ ap is_in_use (first_here InUse page.0 pages is.entry is.is)
      | inr apart ↦ ap is_in_use (first_other InUse page.0 other pages apart) ∙ (listed.all other).0 before
    ]

-- ---- the client's own lemmas

pub ok_or_err : {T F : Type 0} (P Q R : Type 0) (r : Result T F) → OnOk r P → OnErr r Q → (P → R) → (Q → R) → R
ok_or_err P Q R (Ok x) ok err f g = f ok
ok_or_err P Q R (Err e) ok err f g = g err

pub on_ok : {T F : Type 0} (P : Type 0) (r : Result T F) → P → OnOk r P
on_ok P (Ok x) h = h
on_ok P (Err e) h = tt

pub fresh_idle : is_used fresh.hold ≡ false
unfolding fresh
fresh_idle = refl

pub fresh_held : hold_of (Some fresh) ≡ Some Retained
unfolding fresh
fresh_held = refl

pub kept_same : (schema : Schema) (old new : Cached) (used : List PageNo) (room : ℕ) → new ≡ old → IsClient schema old.pages used room old.most → IsClient schema new.pages used room new.most
kept_same schema old new used room is kept = subst (λ (c : Cached). IsClient schema c.pages used room c.most) (sym is) kept

pub kept_admitted : (schema : Schema) (old new : Cached) (used : List PageNo) (room page : ℕ) → lookup (nat_eq page) old.pages ≡ None → new ≡ cached ((page, fresh) ∷ old.pages) old.most → IsClient schema old.pages used room old.most → IsClient schema new.pages used room new.most
kept_admitted schema old new used room page absent is kept =
    kept_still schema old.pages new.pages used room old.most new.most (ap (λ (c : Cached). c.most) is)
    (λ other. ap (λ (c : Cached). is_in_use (lookup (nat_eq other) c.pages)) is ∙ admitted_use page fresh old.pages absent fresh_idle other)
    (ap (λ (c : Cached). length (used_pages c.pages)) is ∙ admitted_count page fresh old.pages fresh_idle) kept

pub kept_removed : (schema : Schema) (old new : Cached) (used : List PageNo) (room page : ℕ) → IsDistinct nat_eq (keys_of old.pages) → is_in_use (lookup (nat_eq page) old.pages) ≡ false → new ≡ cached (remove_entry (nat_eq page) old.pages) old.most → IsClient schema old.pages used room old.most
    → IsClient schema new.pages used room new.most
kept_removed schema old new used room page apart idle is kept =
    kept_still schema old.pages new.pages used room old.most new.most (ap (λ (c : Cached). c.most) is)
    (λ other. ap (λ (c : Cached). is_in_use (lookup (nat_eq other) c.pages)) is ∙ removed_use page old.pages apart idle other)
    (ap (λ (c : Cached). length (used_pages c.pages)) is ∙ removed_count page old.pages idle) kept

pub kept_trimmed : (schema : Schema) (old new : Cached) (used : List PageNo) (room : ℕ) (o : Option PageNo) → IsDistinct nat_eq (keys_of old.pages) → ((q : PageNo) → o ≡ Some q → is_in_use (lookup (nat_eq q.0) old.pages) ≡ false)
    → new ≡ cached (without_one o old.pages) old.most → IsClient schema old.pages used room old.most → IsClient schema new.pages used room new.most
kept_trimmed schema old new used room None apart idle is kept = kept_same schema old new used room is kept
kept_trimmed schema old new used room (Some q) apart idle is kept = kept_removed schema old new used room q.0 apart (idle q refl) is kept

set_use : (page : ℕ) (pages : Pages) (was now : CachedPage) → lookup (nat_eq page) pages ≡ Some was → is_used now.hold ≡ is_used was.hold → (other : ℕ) → is_in_use (lookup (nat_eq other) (set_value (nat_eq page) pages now)) ≡ is_in_use (lookup (nat_eq other) pages)
set_use page pages was now found same other = elim (cases_eq other page) [
  | inl is ↦
      ap (λ (n : ℕ). is_in_use (lookup (nat_eq n) (set_value (nat_eq page) pages now))) is ∙ ap is_in_use (set_here page now pages (some_of (lookup (nat_eq page) pages) was found)) ∙ same
      ∙ sym (ap (λ (n : ℕ). is_in_use (lookup (nat_eq n) pages)) is ∙ ap is_in_use found)
  | inr apart ↦ ap is_in_use (set_other page other now pages (some_of (lookup (nat_eq page) pages) was found) apart)
]

pub kept_set : (schema : Schema) (old new : Cached) (used : List PageNo) (room page : ℕ) (was now : CachedPage) → lookup (nat_eq page) old.pages ≡ Some was → is_used now.hold ≡ is_used was.hold → new ≡ cached (set_value (nat_eq page) old.pages now) old.most
    → IsClient schema old.pages used room old.most → IsClient schema new.pages used room new.most
kept_set schema old new used room page was now found same is kept =
    kept_still schema old.pages new.pages used room old.most new.most (ap (λ (c : Cached). c.most) is)
    (λ other. ap (λ (c : Cached). is_in_use (lookup (nat_eq other) c.pages)) is ∙ set_use page old.pages was now found same other)
    (ap (λ (c : Cached). length (used_pages c.pages)) is ∙ used_set page old.pages was now found same) kept

pub kept_stored : (schema : Schema) (old new : Cached) (used : List PageNo) (room page at : ℕ) (bytes : List ℕ) → IfSome (lookup (nat_eq page) old.pages) (λ entry. new ≡ cached (set_value (nat_eq page) old.pages (with_bytes entry at bytes)) old.most)
    → is_owned (lookup (nat_eq page) old.pages) ≡ true → IsClient schema old.pages used room old.most → IsClient schema new.pages used room new.most
kept_stored schema old new used room page at bytes set owned kept =
    let is = owned_there (lookup (nat_eq page) old.pages) owned in
    kept_set schema old new used room page is.entry (with_bytes is.entry at bytes) is.is refl
    (if_some (λ (entry : CachedPage). new ≡ cached (set_value (nat_eq page) old.pages (with_bytes entry at bytes)) old.most) (lookup (nat_eq page) old.pages) is.entry is.is set) kept

pub kept_more : (schema : Schema) (old new : Cached) (used now : List PageNo) (room space : ℕ) (page : PageNo) → hold_of (lookup (nat_eq page.0) old.pages) ≡ Some Retained → now ≡ used ++ page ∷ [] → space ≡ room → new ≡ cached (first_as InUse old.pages page.0) old.most
    → IsClient schema old.pages used room old.most → IsClient schema new.pages now space new.most
kept_more schema old new used now room space page held list same is kept =
    let spare = kept.spare in
    let most : new.most ≡ old.most = ap (λ (c : Cached). c.most) is in
    record {
      lawful = kept.lawful;
      listed = subst (λ (c : Cached). AreListed c.pages now) (sym is) (subst (AreListed (first_as InUse old.pages page.0)) (sym list) (listed_more old.pages used page held kept.listed));
      spare = omega arith;
    }

pub kept_none : (schema : Schema) (pages : Cached) (used : List PageNo) (room most : ℕ) → IsLawful schema → pages ≡ cached [] most → used ≡ [] → room ≡ most → IsClient schema pages.pages used room pages.most
kept_none schema pages used room most lawful is none same =
    let most_is : pages.most ≡ most = ap (λ (c : Cached). c.most) is in
    record {
      lawful = lawful;
      listed = subst (λ (c : Cached). AreListed c.pages used) (sym is) (subst (AreListed []) (sym none) (record { all = λ page. ((λ has. absurd (let below = has.1 in omega arith)), (λ in_use. absurd (false≢true in_use))); differ = IsDistinct-none; count = refl }));
      spare = omega arith;
    }
  where
    IsDistinct-none : IsDistinct nat_eq []
    IsDistinct-none = IsDistinct-from_apart nat_eq [] (λ i j d less below. absurd (omega arith))

-- no page is in use, and none is listed
pub kept_idle : (schema : Schema) (old new : Cached) (used now : List PageNo) (room space : ℕ) → IsClient schema old.pages used room old.most → IsDistinct nat_eq (keys_of new.pages) → ((page : ℕ) → is_in_use (lookup (nat_eq page) new.pages) ≡ false) → now ≡ [] → space ≡ room → new.most ≡ old.most
    → IsClient schema new.pages now space new.most
kept_idle schema old new used now room space kept apart idle none same most =
    let spare = kept.spare in
    record {
      lawful = kept.lawful;
      listed = subst (AreListed new.pages) (sym none) (record {
        all = λ page. ((λ has. absurd (let below = has.1 in omega arith)), (λ in_use. absurd (false≢true (sym (idle page) ∙ in_use))));
        differ = IsDistinct-from_apart nat_eq [] (λ i j d less below. absurd (omega arith));
        count = sym (ap (λ (l : Pages). length l) (none_used new.pages apart idle));
      });
      spare = omega arith;
    }

-- there is room where it isn't full
pub room_left : (pages : Pages) (most : ℕ) → false ≡ nat_eq (length (used_pages pages)) most → length pages ≤ most → length (used_pages pages) < most
room_left pages most full short = elim (cases_lt (length (used_pages pages)) most) as (λ _. length (used_pages pages) < most) [
  | inl below ↦ below
  | inr above ↦
      let less = used_few pages in
      let same : length (used_pages pages) ≡ most = omega arith in
      absurd (false≢true (full ∙ eq-eqb (length (used_pages pages)) most same))
]

-- a client whose pages are others
pub view_pages : (schema : Schema) (frames : Frames) (inside new : Cached) (fetches : ℕ) (now : ClientView) (pages : Pages) → client_view schema frames inside.pages inside.most fetches ≡ now → new ≡ cached pages inside.most → client_view schema frames new.pages new.most fetches ≡ with_pages pages now
view_pages schema frames inside new fetches now pages view is = ap (λ (c : Cached). client_view schema frames c.pages c.most fetches) is ∙ ap (with_pages pages) view
