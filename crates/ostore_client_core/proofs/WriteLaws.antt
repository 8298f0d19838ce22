-- What an attempt writes: the stored forms of the pages that it owns.
use Rattle.std.proofs.Common.{◌≡◌, ◌≢◌, ◌⊎◌, ◌↔◌, ℕ, ◌+◌, ◌<◌, ◌≤◌, Bool, true, false, cond, eqb, nat_eq, List, [], ◌∷◌, ◌++◌, length, get_or, take, Option, Some, None, refl, sym, ap, subst, ◌∙◌, arith, inl, inr}
use Rattle.std.specs.Prelude.{All}
use Rattle.std.specs.List.{AllPairs, Contains}
use Rattle.std.specs.Map.{lookup}
use Rattle.std.proofs.lemmas.Bool.{cases_eq, eq-eqb, ne_eqb, false≢true}
use Rattle.std.proofs.lemmas.Option.{same_Some}
use Rattle.std.proofs.lemmas.List.{append-nil, get_or-map, length-map, get_or-take, length-take-le, take_more, length-append}
use Rattle.std.proofs.lemmas.List.Elements.{All-append, All-cons, All-nil, All-tail, Contains-append_cases, Contains-push_cases}
use Rattle.std.proofs.lemmas.List.Concat.{flat_map-append}
use Rattle.ostore_base.specs.declared.numbers.PageNo.{PageNo}
use Rattle.ostore_base.specs.declared.page.PageImage.{PageImage}
use Rattle.ostore_schema_layout.specs.declared.schema.Schema.{Schema}
use Rattle.ostore_relocation.specs.Fitness.{IsFit}
use Rattle.ostore_relocation.specs.Forms.{stored_form}
use Rattle.ostore_redo_journal.specs.Drafts.{Writes, IsAbove}
use Rattle.ostore_page_service.specs.History.{written, or_else}
use Rattle.ostore_client_cache.specs.declared.entries.CachedPage.{CachedPage}
use Rattle.ostore_client_cache.specs.declared.entries.Hold.{Hold}
use Rattle.ostore_client_cache.specs.declared.entries.Hold.TheVariants.{Retained, InUse, Owned}
use Rattle.ostore_client_cache.specs.Entries.{image_held, is_in_use, is_owned, is_owner, is_used, used_image}
use Rattle.ostore_client_cache.specs.Releases.{numbers_of}
use Rattle.ostore_client_core.specs.inside.Writing.{AreFitOwned, all_writes, as_writes, owned_image, page_writes, stored_in}
use Rattle.ostore_client_core.proofs.EntryLaws.{none_some}

-- ---- one page

owner_held : (hold : Hold) (image : PageImage) → is_owner hold ≡ true → image_held hold image ≡ cond (is_owner hold) (Some image) None
owner_held Retained image owner = absurd (false≢true owner)
owner_held InUse image owner = absurd (false≢true owner)
owner_held Owned image owner = refl

pub owner_used : (found : Option CachedPage) → is_owned found ≡ true → used_image found ≡ owned_image found
owner_used None owned = refl
owner_used (Some entry) owned = owner_held entry.hold entry.image owned

pub not_owner : (found : Option CachedPage) → is_owned found ≡ false → None ≡ owned_image found
not_owner None owned = refl
not_owner (Some entry) owned = sym (ap (λ (b : Bool). cond b (Some entry.image) None) owned)

pub record IsOwnedEntry (found : Option CachedPage) (image : PageImage) : Type 0 where
  pub entry : CachedPage
  pub there : found ≡ Some entry
  pub owner : is_owner entry.hold ≡ true
  pub same : entry.image ≡ image

by_owner : (entry : CachedPage) (image : PageImage) (owner : Bool) → is_owner entry.hold ≡ owner → cond owner (Some entry.image) None ≡ Some image → IsOwnedEntry (Some entry) image
by_owner entry image true is found = record { entry = entry; there = refl; owner = is; same = same_Some entry.image image found }
by_owner entry image false is found = absurd (none_some found)

pub owned_entry : (found : Option CachedPage) (image : PageImage) → owned_image found ≡ Some image → IsOwnedEntry found image
owned_entry None image is = absurd (none_some is)
owned_entry (Some entry) image is = by_owner entry image (is_owner entry.hold) refl is

pub owned_fit : (schema : Schema) (entries : List (ℕ × CachedPage)) (page : ℕ) (image : PageImage) → AreFitOwned schema entries → owned_image (lookup (nat_eq page) entries) ≡ Some image → IsFit schema page image.bytes
owned_fit schema entries page image fit is =
    let e = owned_entry (lookup (nat_eq page) entries) image is in
    subst (λ (i : PageImage). IsFit schema page i.bytes) e.same (fit page e.entry e.there e.owner)

pub stored_some : (frames : List (Option PageNo)) (schema : Schema) (page : PageNo) (found : Option CachedPage) (image stored : PageImage) → owned_image found ≡ Some image → stored.bytes ≡ stored_form frames schema page.0 image.bytes
    → as_writes page (stored_in frames schema page.0 found) ≡ (page, stored) ∷ []
stored_some frames schema page found image stored is form =
    let e = owned_entry found image is in
    let owner : stored_in frames schema page.0 (Some e.entry) ≡ Some (record { bytes = stored_form frames schema page.0 e.entry.image.bytes }) = ap (λ (b : Bool). cond b (Some (record { bytes = stored_form frames schema page.0 e.entry.image.bytes })) None) e.owner in
    let same : stored_form frames schema page.0 e.entry.image.bytes ≡ stored.bytes = ap (λ (i : PageImage). stored_form frames schema page.0 i.bytes) e.same ∙ sym form in
    ap (λ (o : Option CachedPage). as_writes page (stored_in frames schema page.0 o)) e.there
    ∙ ap (as_writes page) owner
    ∙ ap (λ (b : List ℕ). (page, record { bytes = b }) ∷ []) same

none_by : (frames : List (Option PageNo)) (schema : Schema) (page : ℕ) (entry : CachedPage) (owner : Bool) → is_owner entry.hold ≡ owner → cond owner (Some entry.image) None ≡ None → stored_in frames schema page (Some entry) ≡ None
none_by frames schema page entry true is none = absurd (none_some (sym none))
none_by frames schema page entry false is none = ap (λ (b : Bool). cond b (Some (record { bytes = stored_form frames schema page entry.image.bytes })) None) is

pub stored_none : (frames : List (Option PageNo)) (schema : Schema) (page : ℕ) (found : Option CachedPage) → owned_image found ≡ None → stored_in frames schema page found ≡ None
stored_none frames schema page None is = refl
stored_none frames schema page (Some entry) is = none_by frames schema page entry (is_owner entry.hold) refl is

-- ---- some pages

module _ (frames : List (Option PageNo)) (schema : Schema) (entries : List (ℕ × CachedPage)) where
  pub writes_more : (pages : List PageNo) (i : ℕ) (d : PageNo) → i < length pages → all_writes frames schema entries (take (i + 1) pages) ≡ all_writes frames schema entries (take i pages) ++ page_writes frames schema entries (get_or pages i d)
  writes_more pages i d below =
      ap (all_writes frames schema entries) (take_more pages i d below)
      ∙ flat_map-append (page_writes frames schema entries) (take i pages) (get_or pages i d ∷ [])
      ∙ ap (λ (w : Writes). all_writes frames schema entries (take i pages) ++ w) (append-nil (page_writes frames schema entries (get_or pages i d)))

  one_short : (page : PageNo) (o : Option PageImage) → length (as_writes page o) ≤ 1
  one_short page None = omega arith
  one_short page (Some image) = omega arith

  pub writes_short : (pages : List PageNo) → length (all_writes frames schema entries pages) ≤ length pages
  writes_short [] = omega arith
  writes_short (page ∷ pages) =
      let one = one_short page (stored_in frames schema page.0 (lookup (nat_eq page.0) entries)) in
      let rest = writes_short pages in
      let long = length-append (page_writes frames schema entries page) (all_writes frames schema entries pages) in
      omega arith

  abbrev Below : ℕ → PageNo × PageImage → Type 0
  Below n write = write.0.0 < n

  one_below : (n : ℕ) (page : PageNo) (o : Option PageImage) → page.0 < n → IsAbove (as_writes page o) n
  one_below n page None low = All-nil (Below n)
  one_below n page (Some image) low = All-cons (Below n) (page, image) [] low (All-nil (Below n))

  writes_below : (n : ℕ) (pages : List PageNo) → All (λ (page : PageNo). page.0 < n) pages → IsAbove (all_writes frames schema entries pages) n
  writes_below n [] all = All-nil (Below n)
  writes_below n (page ∷ pages) all =
      All-append (Below n) (page_writes frames schema entries page) (all_writes frames schema entries pages)
      (one_below n page (stored_in frames schema page.0 (lookup (nat_eq page.0) entries)) (all 0 page (omega arith)))
      (writes_below n pages (All-tail (λ (page : PageNo). page.0 < n) page pages all))

  pub writes_above : (pages : List PageNo) (i : ℕ) (d : PageNo) → AllPairs (λ page later. page < later) (numbers_of pages) → i < length pages → IsAbove (all_writes frames schema entries (take i pages)) (get_or pages i d).0
  writes_above pages i d ascends below = writes_below (get_or pages i d).0 (take i pages) (λ k e short.
      let size = length-take-le i pages (omega arith) in
      let long = length-map pages (λ (page : PageNo). page.0) in
      let order : get_or (numbers_of pages) k 0 < get_or (numbers_of pages) i 0 = ascends k i 0 (omega arith) (omega arith) in
      let one = get_or-map (λ (page : PageNo). page.0) pages k e 0 (omega arith) in
      let two = get_or-map (λ (page : PageNo). page.0) pages i d 0 below in
      let read : get_or (take i pages) k e ≡ get_or pages k e = get_or-take i pages k e (omega arith) in
      subst (λ (page : PageNo). page.0 < (get_or pages i d).0) (sym read) (omega arith))

  -- ---- what is written of a page

  abbrev pub held : ℕ → Option PageImage
  held page = stored_in frames schema page (lookup (nat_eq page) entries)

  else_none : (o : Option PageImage) → or_else o None ≡ o
  else_none None = refl
  else_none (Some image) = refl

  else_same : (o : Option PageImage) → or_else o o ≡ o
  else_same None = refl
  else_same (Some image) = refl

  else_assoc : (a b c : Option PageImage) → or_else (or_else a b) c ≡ or_else a (or_else b c)
  else_assoc None b c = refl
  else_assoc (Some image) b c = refl

  written_append : (xs ys : Writes) (page : ℕ) → written (xs ++ ys) page ≡ or_else (written ys page) (written xs page)
  written_append [] ys page = sym (else_none (written ys page))
  written_append (w ∷ xs) ys page =
      let here : Option PageImage = cond (eqb w.0.0 page) (Some w.1) None in
      ap (λ o. or_else o here) (written_append xs ys page) ∙ else_assoc (written ys page) (written xs page) here

  one_here : (page : PageNo) (o : Option PageImage) → written (as_writes page o) page.0 ≡ o
  one_here page None = refl
  one_here page (Some image) = rw (eq-eqb page.0 page.0 refl) refl

  one_other : (page : PageNo) (other : ℕ) (o : Option PageImage) → page.0 ≢ other → written (as_writes page o) other ≡ None
  one_other page other None apart = refl
  one_other page other (Some image) apart = rw (ne_eqb page.0 other apart) refl

  none_in : (x : ℕ) → Contains [] x → ⊥
  none_in x has = let below : has.0 < 0 = has.1 in omega arith

  only : (page other : ℕ) → page ≢ other → Contains (page ∷ []) other → ⊥
  only page other apart has = elim (Contains-push_cases [] page other has) [
    | inl empty ↦ none_in other empty
    | inr is ↦ apart is
  ]

  written_of : (pages : List PageNo) (page : ℕ)
      → (written (all_writes frames schema entries pages) page ≡ held page) ⊎ ((written (all_writes frames schema entries pages) page ≡ None) × (Contains (numbers_of pages) page → ⊥))
  written_of [] page = inr (refl, none_in page)
  written_of (first ∷ pages) page =
      let rest : Writes = all_writes frames schema entries pages in
      let one : Writes = page_writes frames schema entries first in
      let both : written (one ++ rest) page ≡ or_else (written rest page) (written one page) = written_append one rest page in
      elim (cases_eq first.0 page) [
        | inl same ↦
            let here : written one page ≡ held page = subst (λ (n : ℕ). written one n ≡ held n) same (one_here first (held first.0)) in
            inl (both ∙ ap (or_else (written rest page)) here ∙ elim (written_of pages page) as (λ _. or_else (written rest page) (held page) ≡ held page) [
              | inl is ↦ ap (λ o. or_else o (held page)) is ∙ else_same (held page)
              | inr none ↦ ap (λ o. or_else o (held page)) none.0
            ])
        | inr apart ↦
            let more : written (one ++ rest) page ≡ written rest page = both ∙ ap (or_else (written rest page)) (one_other first page (held first.0) apart) ∙ else_none (written rest page) in
            elim (written_of pages page) [
              | inl is ↦ inl (more ∙ is)
              | inr none ↦
                  inr (
                    more ∙ none.0,
                    λ has. elim (Contains-append_cases (first.0 ∷ []) (numbers_of pages) page has) [
                      | inl here ↦ only first.0 page apart here
                      | inr later ↦ none.1 later
                    ],
                  )
            ]
      ]

  unowned : (hold : Hold) (image : PageImage) → (is_used hold ≡ true → ⊥) → cond (is_owner hold) (Some image) None ≡ None
  unowned Retained image idle = refl
  unowned InUse image idle = refl
  unowned Owned image idle = absurd (idle refl)

  unused : (page : ℕ) (found : Option CachedPage) → (is_in_use found ≡ true → ⊥) → stored_in frames schema page found ≡ None
  unused page None idle = refl
  unused page (Some entry) idle = unowned entry.hold (record { bytes = stored_form frames schema page entry.image.bytes }) idle

  -- where all pages in use are among them, each page's stored form is written, where it is owned
  pub writes_all : (pages : List PageNo) → ((page : ℕ) → Contains (numbers_of pages) page ↔ (is_in_use (lookup (nat_eq page) entries) ≡ true)) → (page : ℕ) → written (all_writes frames schema entries pages) page ≡ held page
  writes_all pages listed page = elim (written_of pages page) [
    | inl is ↦ is
    | inr none ↦ none.0 ∙ sym (unused page (lookup (nat_eq page) entries) (λ used. none.1 ((listed page).1 used)))
  ]
