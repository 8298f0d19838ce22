-- Resident pointers and the stored ones for which they stand.
use Rattle.std.proofs.Common.{◌≡◌, ◌≢◌, ℕ, ◌+◌, ◌*◌, ◌/◌, ◌%◌, Bool, true, false, cond, eqb, List, [], ◌∷◌, Option, Some, None, refl, sym, ap, ◌∙◌, inl, inr}
use Rattle.std.specs.Prelude.{IsSome}
use Rattle.std.specs.Option.{option_map}
use Rattle.std.specs.List.{AllByRecursion}
use Rattle.std.proofs.lemmas.Bool.{cases_eq, eq-eqb, ne_eqb}
use Rattle.ostore_base.specs.declared.numbers.PageNo.{PageNo}
use Rattle.ostore_address_space.specs.Frames.{KeepsFrames, page_in}
use Rattle.ostore_page_tags.specs.Numbers.{number_at}
use Rattle.ostore_relocation.specs.Pointers.{page_number, stored_pointer}
use Rattle.ostore_relocation.specs.Stores.{LeadsToFrame}
use Rattle.ostore_segments.specs.Holdings.{KeepsHomes}
use Rattle.ostore_segments.specs.Edits.{stored_or_null}
use Rattle.ostore_client_core.specs.Clients.{ClientView}
use Rattle.ostore_client_core.specs.Attempts.{stored_at, home_of}

-- the home, by whether the pointer is 0 and by the page in its frame
abbrev home_by : ℕ → Bool → Option PageNo → Option ℕ
home_by pointer null found = cond null (Some 0) (option_map (stored_at pointer) found)

kept_by : (pointer stored : ℕ) (null : Bool) (old new : Option PageNo) → ((page : PageNo) → old ≡ Some page → new ≡ Some page) → home_by pointer null old ≡ Some stored → home_by pointer null new ≡ Some stored
kept_by pointer stored true old new keeps is = is
kept_by pointer stored false None new keeps is = absurd (let none : None ≡ Some stored = is in cc)
kept_by pointer stored false (Some page) new keeps is = ap (λ o. option_map (stored_at pointer) o) (keeps page refl) ∙ is

pub homes_kept : (old new : ClientView) → KeepsFrames old.frames.pages new.frames.pages → KeepsHomes (home_of old) (home_of new)
homes_kept old new keeps = λ pointer stored is.
    kept_by pointer stored (eqb pointer 0) (page_in old.frames.pages (pointer / 4096)) (page_in new.frames.pages (pointer / 4096)) (λ page there. keeps.pages (pointer / 4096) page there) is

-- ---- the home is the stored pointer

some_page : (o : Option PageNo) → o ≢ None → (page : PageNo) × (o ≡ Some page)
some_page None h = absurd (h refl)
some_page (Some page) h = (page, refl)

pub home_stored : (client : ClientView) (pointer : ℕ) → LeadsToFrame client.frames.pages pointer → home_of client pointer ≡ Some (stored_pointer client.frames.pages pointer)
home_stored client pointer leads = elim (cases_eq pointer 0) as (λ _. home_of client pointer ≡ Some (stored_pointer client.frames.pages pointer)) [
  | inl null ↦
      ap (λ (b : Bool). home_by pointer b (page_in client.frames.pages (pointer / 4096))) (eq-eqb pointer 0 null)
      ∙ sym (ap (λ (b : Bool). Some (cond b 0 (page_number (page_in client.frames.pages (pointer / 4096)) * 4096 + pointer % 4096))) (eq-eqb pointer 0 null))
  | inr some ↦
      let there = some_page (page_in client.frames.pages (pointer / 4096)) (leads some) in
      ap (λ (b : Bool). home_by pointer b (page_in client.frames.pages (pointer / 4096))) (ne_eqb pointer 0 some)
      ∙ ap (option_map (stored_at pointer)) there.1
      ∙ sym (ap (λ (b : Bool). Some (cond b 0 (page_number (page_in client.frames.pages (pointer / 4096)) * 4096 + pointer % 4096))) (ne_eqb pointer 0 some)
      ∙ ap (λ (o : Option PageNo). Some (page_number o * 4096 + pointer % 4096)) there.1)
]

leads_by : (pointer : ℕ) (null : Bool) (found : Option PageNo) → IsSome (home_by pointer null found) → null ≡ false → found ≢ None
leads_by pointer true found some is = absurd (let e : true ≡ false = is in cc)
leads_by pointer false None some is = absurd cc
leads_by pointer false (Some page) some is = λ none. cc

pub home_leads : (client : ClientView) (pointer : ℕ) → IsSome (home_of client pointer) → LeadsToFrame client.frames.pages pointer
home_leads client pointer some = λ n. leads_by pointer (eqb pointer 0) (page_in client.frames.pages (pointer / 4096)) some (ne_eqb pointer 0 n)

-- the stored pointer that is written for a resident one
pub home_written : (client : ClientView) (pointer : ℕ) → IsSome (home_of client pointer) → stored_or_null (home_of client pointer) ≡ stored_pointer client.frames.pages pointer
home_written client pointer some = ap stored_or_null (home_stored client pointer (home_leads client pointer some))

-- all pointers of a page
pub homes_stored : (client : ClientView) (held stored places : List ℕ) → AllByRecursion (λ at. number_at 4 at stored ≡ stored_pointer client.frames.pages (number_at 4 at held)) places → AllByRecursion (λ at. LeadsToFrame client.frames.pages (number_at 4 at held)) places
    → AllByRecursion (λ at. home_of client (number_at 4 at held) ≡ Some (number_at 4 at stored)) places
homes_stored client held stored [] same leads = tt
homes_stored client held stored (at ∷ places) same leads = (home_stored client (number_at 4 at held) leads.0 ∙ ap Some (sym same.0), homes_stored client held stored places same.1 leads.1)

-- a pointer that has a home keeps it
some_home : (o : Option ℕ) → IsSome o → (stored : ℕ) × (o ≡ Some stored)
some_home None some = absurd cc
some_home (Some stored) some = (stored, refl)

pub home_same : (old new : ClientView) (pointer : ℕ) → KeepsFrames old.frames.pages new.frames.pages → IsSome (home_of old pointer) → home_of new pointer ≡ home_of old pointer
home_same old new pointer keeps some = (let is = some_home (home_of old pointer) some in homes_kept old new keeps pointer is.0 is.1 ∙ sym is.1)
