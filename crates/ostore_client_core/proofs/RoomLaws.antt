-- A cache or frames that are full, and one more page: together they are pages of the database, and no two of them the same.
use Rattle.std.proofs.Common.{◌≡◌, ◌≢◌, ◌⊎◌, ℕ, zero, suc, ◌-◌, ◌<◌, Bool, true, false, cond, eqb, nat_eq, List, [], ◌∷◌, length, map, get_or, set, Option, Some, None, refl, sym, ap, subst, ◌∙◌, arith, inl, inr}
use Rattle.std.specs.Prelude.{⊤, IsSome, is_some, nat_lt}
use Rattle.std.specs.List.{AllByRecursion, AllPairs, Contains, IsDistinct, list_any}
use Rattle.std.specs.Map.{lookup, keys_of}
use Rattle.std.specs.Cmp.{nat_eq_equiv}
use Rattle.std.proofs.lemmas.Bool.{cases_eq, cases_lt, eq-eqb, ne_eqb, eqb-true, lt-ltb, le-ltb, false≢true}
use Rattle.std.proofs.lemmas.Bool.Decides.{Decides-eqb}
use Rattle.std.proofs.lemmas.Grind.{get_or_default_zero}
use Rattle.std.proofs.lemmas.List.{length-map, get_or-map, get_or-set_same, get_or-set_other}
use Rattle.std.proofs.lemmas.List.Elements.{Contains-get_or}
use Rattle.std.proofs.lemmas.Map.Entries.{lookup-filter-values, option_filter}
use Rattle.std.proofs.lemmas.Map.Keys.{IsDistinct-from_apart, apart_from_distinct}
use Rattle.std.proofs.lemmas.Map.Made.{AllPairs-from_IsDistinct, IsDistinct-keys_filter}
use Rattle.std.proofs.lemmas.Map.Steps.{length-le_from_distinct_below}
use Rattle.std.proofs.lemmas.Map.Views.{Contains-from_any, IsSome-lookup_from_Contains}
use Rattle.std.proofs.lemmas.Option.{same_Some}
use Rattle.ostore_base.specs.declared.numbers.PageNo.{PageNo}
use Rattle.ostore_address_space.specs.declared.space.Frame.{Frame}
use Rattle.ostore_address_space.specs.Frames.{Frames, frame_of, free_frames, pages_with, reserve, ArePaired}
use Rattle.ostore_address_space.proofs.FrameLaws.{free_at, frame_there, not_held}
use Rattle.ostore_relocation.specs.Reserving.{Reserving, reserving, reserve_all}
use Rattle.ostore_relocation.proofs.ReserveLaws.{long_all}
use Rattle.ostore_client_cache.specs.declared.entries.CachedPage.{CachedPage}
use Rattle.ostore_client_cache.specs.Entries.{is_used, is_in_use}
use Rattle.ostore_client_cache.specs.Caches.{used_pages}
use Rattle.ostore_client_core.specs.Clients.{AreKnown}
use Rattle.ostore_client_core.proofs.EntryLaws.{Pages, none_some}

-- numbers below a count that all differ, and one more that is below it and none of them
one_more_below : (xs : List ℕ) (page count : ℕ) → ((i j : ℕ) → i < j → j < length xs → get_or xs i 0 ≢ get_or xs j 0) → ((i : ℕ) → i < length xs → get_or xs i 0 ≢ page) → ((i : ℕ) → i < length xs → get_or xs i 0 < count) → page < count → length xs < count
one_more_below xs page count differ others below here =
    let few = length-le_from_distinct_below (page ∷ xs) count (IsDistinct-from_apart eqb (page ∷ xs) apart) low in
    omega arith
  where
    at_zero : (i d : ℕ) → i < length xs → get_or xs i d ≡ get_or xs i 0
    at_zero i d short = get_or_default_zero xs i d short

    apart : (i j d : ℕ) → i < j → j < length (page ∷ xs) → eqb (get_or (page ∷ xs) i d) (get_or (page ∷ xs) j d) ≡ false
    apart i zero d less short = absurd (omega arith)
    apart zero (suc j) d less short = ne_eqb page (get_or xs j d) (λ e. others j (omega arith) (sym (at_zero j d (omega arith)) ∙ sym e))
    apart (suc i) (suc j) d less short = ne_eqb (get_or xs i d) (get_or xs j d) (λ e. differ i j (omega arith) (omega arith) (sym (at_zero i d (omega arith)) ∙ e ∙ at_zero j d (omega arith)))

    at : (q k : ℕ) → k < length (page ∷ xs) → get_or (page ∷ xs) k q ≡ q → q < count
    at q zero short is = subst (λ (n : ℕ). n < count) is here
    at q (suc k) short is = subst (λ (n : ℕ). n < count) (sym (at_zero k q (omega arith)) ∙ is) (below k (omega arith))

    low : (q : ℕ) → list_any (eqb q) (page ∷ xs) ≡ true → q < count
    low q any = let has = Contains-from_any {eq = eqb} eqb-true q (page ∷ xs) any in at q has.0 has.1 has.2

-- ---- a full cache

record IsKept (p : CachedPage → Bool) (o : Option CachedPage) : Type 0 where
  pub entry : CachedPage
  pub is : o ≡ Some entry
  pub passes : p entry ≡ true

kept_by : (p : CachedPage → Bool) (o : Option CachedPage) → IsSome (option_filter p o) → IsKept p o
kept_by p None some = absurd cc
kept_by p (Some entry) some = go (p entry) refl some
  where
    go : (b : Bool) → p entry ≡ b → IsSome (cond b (Some entry) None) → IsKept p (Some entry)
    go true is some = record { entry = entry; is = refl; passes = is }
    go false is some = absurd cc

module _ (pages : Pages) (distinct : IsDistinct nat_eq (keys_of pages)) where
  used_at : (i : ℕ) → i < length (keys_of (used_pages pages)) → IsKept (λ e. is_used e.hold) (lookup (nat_eq (get_or (keys_of (used_pages pages)) i 0)) pages)
  used_at i short =
      let q : ℕ = get_or (keys_of (used_pages pages)) i 0 in
      kept_by (λ e. is_used e.hold) (lookup (nat_eq q) pages)
      (subst IsSome (lookup-filter-values nat_eq_equiv (λ (e : CachedPage). is_used e.hold) q pages distinct)
      (IsSome-lookup_from_Contains nat_eq_equiv q (used_pages pages) (Contains-get_or (keys_of (used_pages pages)) i 0 short)))

  -- each page that the pages in use have is in use
  pub key_used : (page : ℕ) → Contains (keys_of (used_pages pages)) page → is_in_use (lookup (nat_eq page) pages) ≡ true
  key_used page has =
      let keys : List ℕ = keys_of (used_pages pages) in
      let kept = used_at has.0 has.1 in
      let here : get_or keys has.0 0 ≡ page = sym (get_or_default_zero keys has.0 page has.1) ∙ has.2 in
      ap (λ (n : ℕ). is_in_use (lookup (nat_eq n) pages)) (sym here) ∙ ap is_in_use kept.is ∙ kept.passes

  -- no two of them the same
  pub keys_apart : AllPairs (λ page later. page ≢ later) (keys_of (used_pages pages))
  keys_apart = AllPairs-from_IsDistinct Decides-eqb (keys_of (used_pages pages)) (IsDistinct-keys_filter nat_eq (λ (e : ℕ × CachedPage). is_used e.1.hold) pages distinct)

  -- the pages in use are fewer than those of the database, where one of those isn't in use
  pub used_below : (page count : ℕ) → is_in_use (lookup (nat_eq page) pages) ≡ false → page < count → ((q : ℕ) (entry : CachedPage) → lookup (nat_eq q) pages ≡ Some entry → q < count) → length (used_pages pages) < count
  used_below page count idle here known =
      let keys : List ℕ = keys_of (used_pages pages) in
      let long : length keys ≡ length (used_pages pages) = length-map (used_pages pages) (λ (e : ℕ × CachedPage). e.0) in
      let apart = IsDistinct-keys_filter nat_eq (λ (e : ℕ × CachedPage). is_used e.1.hold) pages distinct in
      let few : length keys < count = one_more_below keys page count
      (λ i j less short e. false≢true (sym (apart_from_distinct nat_eq keys i j 0 apart less short) ∙ eq-eqb _ _ e))
      (λ i short e.
      let kept = used_at i short in
      false≢true (sym idle ∙ ap (λ (n : ℕ). is_in_use (lookup (nat_eq n) pages)) (sym e) ∙ ap is_in_use kept.is ∙ kept.passes))
      (λ i short. (let kept = used_at i short in known (get_or keys i 0) kept.entry kept.is))
      here in
      omega arith

-- ---- frames that are full

abbrev number_in : Option PageNo → ℕ
number_in None = 0
number_in (Some page) = page.0

record HasPage (pages : List (Option PageNo)) (i : ℕ) : Type 0 where
  pub page : PageNo
  pub is : get_or pages i None ≡ Some page

has_page : (pages : List (Option PageNo)) (i : ℕ) (o : Option PageNo) → get_or pages i None ≡ o → o ≢ None → HasPage pages i
has_page pages i None is some = absurd (some refl)
has_page pages i (Some page) is some = record { page = page; is = is }

no_free : (free : List ℕ) (frame : ℕ) → free ≡ [] → Contains free frame → ⊥
no_free free frame none has = let short = has.1 in let long : length free ≡ 0 = ap (λ (l : List ℕ). length l) none in omega arith

module _ (pages : List (Option PageNo)) (paired : ArePaired pages) (full : free_frames pages ≡ []) where
  page_at : (i : ℕ) → i < length pages → HasPage pages i
  page_at i short = has_page pages i (get_or pages i None) refl (λ none. no_free (free_frames pages) (suc i) full ((paired.free (suc i)).1 (omega arith, omega arith, none)))

  -- the frames are fewer than the pages of the database, where one of those has none
  pub frames_below : (page count : ℕ) → frame_of pages page ≡ None → page < count → AreKnown count pages → length pages < count
  frames_below page count nowhere here known =
      let numbers : List ℕ = map number_in pages in
      let long : length numbers ≡ length pages = length-map pages number_in in
      let at : (i : ℕ) → i < length pages → get_or numbers i 0 ≡ number_in (get_or pages i None) = λ i short. get_or-map number_in pages i None 0 short in
      let few : length numbers < count = one_more_below numbers page count
      (λ i j less short e.
      let a = page_at i (omega arith) in
      let b = page_at j (omega arith) in
      let same : a.page.0 ≡ b.page.0 = sym (at i (omega arith) ∙ ap number_in a.is) ∙ e ∙ at j (omega arith) ∙ ap number_in b.is in
      let one : suc i ≡ suc j = paired.all.one (suc i) (suc j) a.page a.is (b.is ∙ ap (λ (n : ℕ). Some (record { 0 = n })) (sym same)) in
      omega arith)
      (λ i short e.
      let a = page_at i (omega arith) in
      let same : a.page.0 ≡ page = sym (at i (omega arith) ∙ ap number_in a.is) ∙ e in
      not_held 1 pages (record { 0 = page }) i nowhere (a.is ∙ ap (λ (n : ℕ). Some (record { 0 = n })) same))
      (λ i short.
      let a = page_at i (omega arith) in
      subst (λ (n : ℕ). n < count) (sym (at i (omega arith) ∙ ap number_in a.is)) (known (suc i) a.page a.is))
      here in
      omega arith

-- ---- frames that were reserved

set_known : (pages : List (Option PageNo)) (i count : ℕ) (page : PageNo) → i < length pages → page.0 < count → AreKnown count pages → AreKnown count (set pages i (Some page))
set_known pages i count page short low known zero other is = absurd (none_some is)
set_known pages i count page short low known (suc k) other is = elim (cases_eq k i) as (λ _. other.0 < count) [
  | inl same ↦
      let at : get_or (set pages i (Some page)) k None ≡ Some page = ap (λ (n : ℕ). get_or (set pages i (Some page)) n None) same ∙ get_or-set_same pages i (Some page) None short in
      subst (λ (p : PageNo). p.0 < count) (same_Some page other (sym at ∙ is)) low
  | inr apart ↦ known (suc k) other (sym (get_or-set_other pages i k (Some page) None apart) ∙ is)
]

pick : (choice count : ℕ) → 0 < count → cond (nat_lt choice count) choice 0 < count
pick choice count some = elim (cases_lt choice count) [
  | inl below ↦ rw (lt-ltb choice count below) below
  | inr past ↦ rw (le-ltb choice count past) some
]

-- where a page was put that had no frame
record IsGiven (pages given : List (Option PageNo)) (page : PageNo) : Type 0 where
  pub at : ℕ
  pub below : at < length pages
  pub free : get_or pages at None ≡ None
  pub is : given ≡ set pages at (Some page)

given_as : (choice : ℕ → ℕ → ℕ → ℕ) (frames : Frames) (page : PageNo) (free : List ℕ) → free ≡ free_frames frames.pages → ((pages_with choice frames page free ≡ frames.pages) × (free_frames frames.pages ≡ [])) ⊎ IsGiven frames.pages (pages_with choice frames page free) page
given_as choice frames page [] is = inl (refl, sym is)
given_as choice frames page (frame ∷ free) is =
    let count : ℕ = length (frame ∷ free) in
    let index : ℕ = cond (nat_lt (choice frames.client.0 page.0 count) count) (choice frames.client.0 page.0 count) 0 in
    let below : index < count = pick (choice frames.client.0 page.0 count) count (omega arith) in
    let at : get_or (frame ∷ free) index 0 ≡ get_or (free_frames frames.pages) index 0 = ap (λ (l : List ℕ). get_or l index 0) is in
    let free_is = free_at 1 frames.pages index 0 (subst (λ (l : List ℕ). index < length l) is below) in
    let low = free_is.low in
    let high = free_is.high in
    inr (record {
      at = get_or (frame ∷ free) index 0 - 1;
      below = omega arith;
      free = ap (λ (n : ℕ). get_or frames.pages (n - 1) None) at ∙ free_is.none;
      is = refl;
    })

-- what reserving a frame for a page leaves
record Leaves (choice : ℕ → ℕ → ℕ → ℕ) (frames : Frames) (page : PageNo) : Type 0 where
  pub known : (count : ℕ) → page.0 < count → AreKnown count frames.pages → AreKnown count (reserve choice frames page).pages
  pub lacks : frame_of (reserve choice frames page).pages page.0 ≡ None → free_frames (reserve choice frames page).pages ≡ []

some_or : (o : Option Frame) (b : Bool) → is_some o ≡ b → (b ≡ false → o ≡ None) × (b ≡ true → o ≡ None → ⊥)
some_or None b is = ((λ _. refl), (λ yes _. false≢true (is ∙ yes)))
some_or (Some frame) b is = ((λ no. absurd (false≢true (sym no ∙ sym is))), (λ _ none. none_some (sym none)))

abbrev LeavesAs : Frames → PageNo → List (Option PageNo) → Type 0
LeavesAs frames page pages = ((count : ℕ) → page.0 < count → AreKnown count frames.pages → AreKnown count pages) × (frame_of pages page.0 ≡ None → free_frames pages ≡ [])

leaves_given : (choice : ℕ → ℕ → ℕ → ℕ) (frames : Frames) (page : PageNo) → frame_of frames.pages page.0 ≡ None → LeavesAs frames page (pages_with choice frames page (free_frames frames.pages))
leaves_given choice frames page nowhere = elim (given_as choice frames page (free_frames frames.pages) refl) as (λ _. LeavesAs frames page (pages_with choice frames page (free_frames frames.pages))) [
  | inl same ↦ subst (LeavesAs frames page) (sym same.0) ((λ count low known. known), (λ none. same.1))
  | inr g ↦ subst (LeavesAs frames page) (sym g.is) (
    (λ count low known. set_known frames.pages g.at count page g.below low known),
    (λ none. absurd (none_some (sym none ∙ frame_there 1 frames.pages g.at page g.below g.free nowhere))),
  )
]

leaves_by : (choice : ℕ → ℕ → ℕ → ℕ) (frames : Frames) (page : PageNo) (b : Bool) → is_some (frame_of frames.pages page.0) ≡ b → LeavesAs frames page (cond b frames.pages (pages_with choice frames page (free_frames frames.pages)))
leaves_by choice frames page true is = ((λ count low known. known), (λ none. absurd ((some_or (frame_of frames.pages page.0) true is).1 refl none)))
leaves_by choice frames page false is = leaves_given choice frames page ((some_or (frame_of frames.pages page.0) false is).0 refl)

leaves : (choice : ℕ → ℕ → ℕ → ℕ) (frames : Frames) (page : PageNo) → Leaves choice frames page
leaves choice frames page = let done = leaves_by choice frames page (is_some (frame_of frames.pages page.0)) refl in record { known = done.0; lacks = done.1 }

known_as : (b : Bool) (x y : Reserving) (count : ℕ) → AreKnown count x.frames.pages → AreKnown count y.frames.pages → AreKnown count (cond b x y).frames.pages
known_as true x y count h k = h
known_as false x y count h k = k

-- reserving frames for pages of the database
pub known_all : (choice : ℕ → ℕ → ℕ → ℕ) (frames : Frames) (pages : List PageNo) (count : ℕ) → AreKnown count frames.pages → AllByRecursion (λ (p : PageNo). p.0 < count) pages → AreKnown count (reserve_all choice frames pages).frames.pages
known_all choice frames [] count known low = known
known_all choice frames (page ∷ pages) count known low =
    let next : Frames = reserve choice frames page in
    let one = (leaves choice frames page).known count low.0 known in
    known_as (is_some (frame_of next.pages page.0)) (reserve_all choice next pages) (reserving next false) count (known_all choice next pages count one low.1) one

-- the page that found no frame
record Finds (P : PageNo → Type 0) (pages : List (Option PageNo)) : Type 0 where
  pub page : PageNo
  pub is : P page
  pub nowhere : frame_of pages page.0 ≡ None
  pub full : free_frames pages ≡ []

finds_as : (P : PageNo → Type 0) (b : Bool) (x y : Reserving) → (x.all ≡ false → Finds P x.frames.pages) → (b ≡ false → Finds P y.frames.pages) → (cond b x y).all ≡ false → Finds P (cond b x y).frames.pages
finds_as P true x y more here lacks = more lacks
finds_as P false x y more here lacks = here refl

finds : (P : PageNo → Type 0) (choice : ℕ → ℕ → ℕ → ℕ) (frames : Frames) (pages : List PageNo) → AllByRecursion P pages → (reserve_all choice frames pages).all ≡ false → Finds P (reserve_all choice frames pages).frames.pages
finds P choice frames [] all lacks = absurd (false≢true (sym lacks))
finds P choice frames (page ∷ pages) all lacks =
    let next : Frames = reserve choice frames page in
    finds_as P (is_some (frame_of next.pages page.0)) (reserve_all choice next pages) (reserving next false) (λ l. finds P choice next pages all.1 l)
    (λ is. let none = (some_or (frame_of next.pages page.0) false is).0 refl in record { page = page; is = all.0; nowhere = none; full = (leaves choice frames page).lacks none })
    lacks

any : (pages : List PageNo) → AllByRecursion (λ (p : PageNo). ⊤) pages
any [] = tt
any (page ∷ pages) = (tt, any pages)

-- where one finds no frame, none is free
pub lacking_full : (choice : ℕ → ℕ → ℕ → ℕ) (frames : Frames) (pages : List PageNo) → (reserve_all choice frames pages).all ≡ false → free_frames (reserve_all choice frames pages).frames.pages ≡ []
lacking_full choice frames pages lacks = (finds (λ (p : PageNo). ⊤) choice frames pages (any pages) lacks).full

-- where one finds no frame, the frames are fewer than the pages of the database
pub lacking_below : (choice : ℕ → ℕ → ℕ → ℕ) (frames : Frames) (pages : List PageNo) (count : ℕ) → AreKnown count frames.pages → AllByRecursion (λ (p : PageNo). p.0 < count) pages
    → ArePaired (reserve_all choice frames pages).frames.pages → (reserve_all choice frames pages).all ≡ false → length frames.pages < count
lacking_below choice frames pages count known low paired lacks =
    let found = finds (λ (p : PageNo). p.0 < count) choice frames pages low lacks in
    let few = frames_below (reserve_all choice frames pages).frames.pages paired found.full found.page.0 count found.nowhere found.is (known_all choice frames pages count known low) in
    let long = long_all choice frames pages in
    omega arith
