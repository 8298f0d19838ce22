-- Frames that were reserved for an image.
use Rattle.std.proofs.Common.{◌≡◌, ◌≢◌, ℕ, Bool, true, false, cond, List, [], ◌∷◌, length, nat_eq, Option, Some, None, refl, sym, ap, subst, ◌∙◌}
use Rattle.std.specs.Prelude.{IsSome, IfSome, Result, is_ok, is_some}
use Rattle.std.specs.Map.{lookup, set_value}
use Rattle.ostore_base.specs.declared.numbers.PageNo.{PageNo}
use Rattle.ostore_base.specs.declared.numbers.ClientNo.{ClientNo}
use Rattle.ostore_base.specs.declared.page.PageImage.{PageImage}
use Rattle.ostore_schema_layout.specs.declared.schema.Schema.{Schema}
use Rattle.ostore_address_space.specs.declared.space.Frame.{Frame}
use Rattle.ostore_address_space.specs.declared.space.SpaceFull.{SpaceFull}
use Rattle.ostore_address_space.specs.Frames.{Frames, ArePaired, KeepsFrames, frame_of, reserve}
use Rattle.ostore_relocation.specs.Forms.{ComesIn}
use Rattle.ostore_relocation.specs.Reserving.{Reserves, Reserving, pages_wanted, reserve_all, reserving}
use Rattle.ostore_relocation.proofs.FormLaws.{all_have}
use Rattle.ostore_client_cache.specs.declared.entries.CachedPage.{CachedPage}
use Rattle.ostore_client_cache.specs.Entries.{imaged_as}
use Rattle.ostore_client_cache.specs.Caches.{Cached, cached}
use Rattle.ostore_client_core.specs.Clients.{client_view}
use Rattle.ostore_client_core.specs.Calls.{Settles, FindsNoFrame, one_more}
use Rattle.ostore_client_core.proofs.EntryLaws.{there, if_some}

client_as : (b : Bool) (x y : Reserving) (client : ClientNo) → x.frames.client ≡ client → y.frames.client ≡ client → (cond b x y).frames.client ≡ client
client_as true x y client h k = h
client_as false x y client h k = k

-- reserving leaves whose frames they are
client_all : (choice : ℕ → ℕ → ℕ → ℕ) (frames : Frames) (pages : List PageNo) → (reserve_all choice frames pages).frames.client ≡ frames.client
client_all choice frames [] = refl
client_all choice frames (page ∷ pages) =
    let next : Frames = reserve choice frames page in
    client_as (is_some (frame_of next.pages page.0)) (reserve_all choice next pages) (reserving next false) frames.client (client_all choice next pages) refl

some_from : (o : Option Frame) → o ≢ None → IsSome o
some_from None isnt = absurd (isnt refl)
some_from (Some frame) isnt = refl

pub settles_of : {T : Type 0} (choice : ℕ → ℕ → ℕ → ℕ) (schema : Schema) (frames now : Frames) (inside new : Cached) (fetches more : ℕ) (page : PageNo) (image resident : PageImage) (result : Result T SpaceFull)
    → IsSome (lookup (nat_eq page.0) inside.pages) → Reserves choice frames now (pages_wanted schema page image.bytes) result → is_ok result ≡ true → KeepsFrames frames.pages now.pages → ArePaired now.pages
    → ComesIn now.pages schema page.0 image.bytes resident.bytes
    → IfSome (lookup (nat_eq page.0) inside.pages) (λ entry. new ≡ cached (set_value (nat_eq page.0) inside.pages (imaged_as resident entry)) inside.most) → more ≡ one_more fetches
    → Settles (client_view schema frames inside.pages inside.most fetches) (client_view schema now new.pages new.most more) page.0 image
settles_of choice schema frames now inside new fetches more page image resident result some reserves ok keeps paired comes set counted =
    let is = there (lookup (nat_eq page.0) inside.pages) some in
    let set_is = if_some (λ (entry : CachedPage). new ≡ cached (set_value (nat_eq page.0) inside.pages (imaged_as resident entry)) inside.most) (lookup (nat_eq page.0) inside.pages) is.entry is.is set in
    let have = all_have choice frames (pages_wanted schema page image.bytes) (sym reserves.all ∙ ok) in
    record {
      resident = resident;
      entry = is.entry;
      there = is.is;
      pages = ap (λ (c : Cached). c.pages) set_is;
      choice = choice;
      frames_are = reserves.frames;
      comes = comes;
      framed = some_from (frame_of now.pages page.0) (subst (λ (f : Frames). frame_of f.pages page.0 ≢ None) (sym reserves.frames) have.0);
      more = keeps;
      paired = paired;
      client = ap (λ (f : Frames). f.client) reserves.frames ∙ client_all choice frames (pages_wanted schema page image.bytes);
      schema = refl;
      most = ap (λ (c : Cached). c.most) set_is;
      fetches = counted;
    }

pub finds_none : {T : Type 0} (choice : ℕ → ℕ → ℕ → ℕ) (schema : Schema) (frames now : Frames) (inside : Cached) (fetches more : ℕ) (page : PageNo) (image : PageImage) (full : SpaceFull) (result : Result T SpaceFull)
    → Reserves choice frames now (pages_wanted schema page image.bytes) result → is_ok result ≡ false → full.frames ≡ length frames.pages → KeepsFrames frames.pages now.pages → ArePaired now.pages → more ≡ one_more fetches
    → FindsNoFrame (client_view schema frames inside.pages inside.most fetches) (client_view schema now inside.pages inside.most more) page image full.frames
finds_none choice schema frames now inside fetches more page image full result reserves bad count keeps paired counted = record {
  choice = choice;
  lacks = sym reserves.all ∙ bad;
  frames_are = reserves.frames;
  count = count;
  more = keeps;
  paired = paired;
  client = ap (λ (f : Frames). f.client) reserves.frames ∙ client_all choice frames (pages_wanted schema page image.bytes);
  pages = refl;
  schema = refl;
  most = refl;
  fetches = counted;
}
