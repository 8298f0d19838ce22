-- Lists as a client sees them.
use Rattle.std.proofs.Common.{◌≡◌, ℕ, zero, suc, ◌+◌, ◌≤◌, true, false, List, [], ◌∷◌, length, Option, Some, None, refl, sym, ap, subst, ◌∙◌, arith}
use Rattle.std.specs.Prelude.{slice_get, IsSome}
use Rattle.std.specs.Option.{option_map}
use Rattle.std.proofs.lemmas.Bool.{false≢true}
use Rattle.ostore_base.specs.declared.page.PageImage.{PageImage}
use Rattle.ostore_schema_layout.specs.declared.schema.Schema.{Schema}
use Rattle.ostore_page_service.specs.History.{Agrees}
use Rattle.ostore_page_service.specs.Told.{Told}
use Rattle.ostore_graph_model.specs.declared.commands.Script.{Script}
use Rattle.ostore_graph_model.specs.declared.history.Entry.{Entry}
use Rattle.ostore_graph_model.specs.Valid.{IsValid}
use Rattle.ostore_client_cache.specs.declared.entries.CachedPage.{CachedPage}
use Rattle.ostore_client_cache.specs.declared.entries.Hold.{Hold}
use Rattle.ostore_client_cache.specs.declared.entries.Hold.TheVariants.{Retained, InUse, Owned}
use Rattle.ostore_client_cache.specs.Entries.{is_used, is_in_use}
use Rattle.ostore_client_core.specs.Clients.{ClientView, entry_of, stored_image}
use Rattle.ostore_client_core.specs.Attempts.{seen_as, seen_entry, seen, seen_from, seen_list, IsBase, Attempts, Narrows}
use Rattle.ostore_client_core.proofs.TiedLaws.{held_used, used_held}
use Rattle.ostore_client_core.proofs.GoesLaws.{GoesOn, KeepsPage, same_stored, goes_own}

-- lists with equal images at each place are equal
pub same_get : {X : Type 0} (xs ys : List X) → ((k : ℕ) → slice_get xs k ≡ slice_get ys k) → xs ≡ ys
same_get [] [] h = refl
same_get [] (y ∷ ys) h = absurd (let e = h 0 in cc)
same_get (x ∷ xs) [] h = absurd (let e = h 0 in cc)
same_get (x ∷ xs) (y ∷ ys) h =
    let head : x ≡ y = (let e = h 0 in cc) in
    let tail : xs ≡ ys = same_get xs ys (λ k. h (suc k)) in
    ap (λ z. z ∷ xs) head ∙ ap (λ zs. y ∷ zs) tail

seen_at : (client : ClientView) (n k : ℕ) (base : List PageImage) → slice_get (seen_from client n base) k ≡ option_map (seen client (n + k)) (slice_get base k)
seen_at client n k [] = refl
seen_at client n zero (image ∷ base) = let e : n + 0 ≡ n = omega arith in ap (λ (m : ℕ). Some (seen client m image)) (sym e)
seen_at client n (suc k) (image ∷ base) =
    let e : n + 1 + k ≡ n + suc k = omega arith in
    seen_at client (n + 1) k base ∙ ap (λ (m : ℕ). option_map (seen client m) (slice_get base k)) e

pub get_seen : (client : ClientView) (k : ℕ) (base : List PageImage) → slice_get (seen_list client base) k ≡ option_map (seen client k) (slice_get base k)
get_seen client k base = let e : 0 + k ≡ k = omega arith in seen_at client 0 k base ∙ ap (λ (m : ℕ). option_map (seen client m) (slice_get base k)) e

pub length_seen : (client : ClientView) (n : ℕ) (base : List PageImage) → length (seen_from client n base) ≡ length base
length_seen client n [] = refl
length_seen client n (image ∷ base) = ap suc (length_seen client (n + 1) base)

-- a page that is held in use is seen as it is stored, and one that isn't as it was
pub used_seen : (hold : Hold) (stored image : PageImage) → is_used hold ≡ true → seen_as hold stored image ≡ stored
used_seen Retained stored image used = absurd (false≢true used)
used_seen InUse stored image used = refl
used_seen Owned stored image used = refl

pub unused_seen : (hold : Hold) (stored image : PageImage) → is_used hold ≡ false → seen_as hold stored image ≡ image
unused_seen Retained stored image idle = refl
unused_seen InUse stored image idle = absurd (false≢true (sym idle))
unused_seen Owned stored image idle = absurd (false≢true (sym idle))

pub seen_used : (client : ClientView) (page : ℕ) (entry : CachedPage) (image : PageImage) → entry_of client page ≡ Some entry → is_used entry.hold ≡ true → seen client page image ≡ stored_image client page entry.image
seen_used client page entry image is used = ap (λ o. seen_entry client page o image) is ∙ used_seen entry.hold (stored_image client page entry.image) image used

seen_idle_as : (client : ClientView) (page : ℕ) (found : Option CachedPage) (image : PageImage) → is_in_use found ≡ false → seen_entry client page found image ≡ image
seen_idle_as client page None image idle = refl
seen_idle_as client page (Some entry) image idle = unused_seen entry.hold (stored_image client page entry.image) image idle

pub seen_idle : (client : ClientView) (page : ℕ) (image : PageImage) → is_in_use (entry_of client page) ≡ false → seen client page image ≡ image
seen_idle client page image idle = seen_idle_as client page (entry_of client page) image idle

-- where two clients see each page of a list alike, they see one list
same_map : (f g : PageImage → PageImage) (o : Option PageImage) → ((image : PageImage) → o ≡ Some image → f image ≡ g image) → option_map f o ≡ option_map g o
same_map f g None h = refl
same_map f g (Some image) h = ap Some (h image refl)

pub same_seen : (one two : ClientView) (base : List PageImage) → ((page : ℕ) (image : PageImage) → slice_get base page ≡ Some image → seen one page image ≡ seen two page image) → seen_list one base ≡ seen_list two base
same_seen one two base h = same_get (seen_list one base) (seen_list two base) (λ k. get_seen one k base ∙ same_map (seen one k) (seen two k) (slice_get base k) (h k) ∙ sym (get_seen two k base))

-- a page that neither changed is seen as it was
seen_kept_as : (old new : ClientView) (page : ℕ) (found : Option CachedPage) (image : PageImage) → ((entry : CachedPage) → found ≡ Some entry → stored_image new page entry.image ≡ stored_image old page entry.image) → seen_entry new page found image ≡ seen_entry old page found image
seen_kept_as old new page None image same = refl
seen_kept_as old new page (Some entry) image same = ap (λ (i : PageImage). seen_as entry.hold i image) (same entry refl)

pub seen_kept : (serves later : Script → Type 0) (told now : Told Entry) (old new : ClientView) (page : ℕ) (image : PageImage) → GoesOn serves later told now old new → KeepsPage old new told.mine now.mine page → seen new page image ≡ seen old page image
seen_kept serves later told now old new page image h keeps =
    ap (λ o. seen_entry new page o image) keeps.entry
    ∙ seen_kept_as old new page (entry_of old page) image (λ entry is. same_stored old new page entry.image h.more (h.own.resident page entry is).form)

-- ---- an attempt goes on

pub narrows : (serves later : Script → Type 0) (told now : Told Entry) (old new : ClientView) → Attempts serves told old → GoesOn serves later told now old new
    → ((base : List PageImage) × IsBase new.schema now base)
    → ((page : ℕ) (image : PageImage) → told.mine.held page ≡ Some image → now.mine.held page ≡ Some image)
    → ((base : List PageImage) (page : ℕ) (image : PageImage) → Agrees now.mine.held base → slice_get base page ≡ Some image → seen new page image ≡ seen old page image)
    → Narrows serves later told now old new
narrows serves later told now old new was h some held seen_as_before = record {
  runs = record { own = goes_own serves later told now old new h; few = subst (λ (l : List PageImage). length l ≤ 16384) (sym h.service.opened) was.few; some = some };
  lists = λ base list may. record {
    runs = was;
    began = record {
      long = may.began.long ∙ ap length h.service.opened;
      valid = subst (λ (s : Schema). IsValid s base) h.more.schema may.began.valid;
      agrees = λ page image is. may.began.agrees page image (held page image is);
    };
    made = may.made ∙ same_seen new old base (λ page image is. seen_as_before base page image may.began.agrees is);
  };
  schema = h.more.schema;
  frames = h.more.frames;
  views = λ page used. held_used (stored_image new page) now.mine page (entry_of new page) ((goes_own serves later told now old new h).tied page)
      (held_still (told.mine.held page) (now.mine.held page) (held page) (used_held (stored_image old page) told.mine page (entry_of old page) (h.own.tied page) used));
}
  where
    held_still : (o n : Option PageImage) → ((image : PageImage) → o ≡ Some image → n ≡ Some image) → IsSome o → IsSome n
    held_still None n still some = absurd cc
    held_still (Some image) n still some = subst IsSome (sym (still image refl)) refl

-- with no page in use the attempt has made nothing
pub nothing_made : (client : ClientView) (base : List PageImage) → ((page : ℕ) → is_in_use (entry_of client page) ≡ false) → seen_list client base ≡ base
nothing_made client base idle = same_get (seen_list client base) base (λ k. get_seen client k base ∙ same_option (seen client k) (slice_get base k) (λ image. seen_idle client k image (idle k)))
  where
    same_option : (f : PageImage → PageImage) (o : Option PageImage) → ((image : PageImage) → f image ≡ image) → option_map f o ≡ o
    same_option f None h = refl
    same_option f (Some image) h = ap Some (h image)
