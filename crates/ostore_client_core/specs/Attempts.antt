-- What an attempt may stand for: the list of pages on which it began, and the one that it has made of it.
use Rattle.std.specs.Prelude.{◌≡◌, ℕ, ◌+◌, ◌*◌, ◌/◌, ◌%◌, ◌≤◌, ◌==◌, if◌then◌else◌, List, [], ◌∷◌, length, Option, Some, None}
use Rattle.std.specs.Option.{option_map}
use Rattle.ostore_base.specs.Limits.{most_pages}
use Rattle.ostore_base.specs.declared.page.PageImage.{PageImage}
use Rattle.ostore_base.specs.declared.numbers.PageNo.{PageNo}
use Rattle.ostore_schema_layout.specs.declared.schema.Schema.{Schema}
use Rattle.ostore_address_space.specs.Frames.{page_in, KeepsFrames}
use Rattle.ostore_page_service.specs.History.{Agrees}
use Rattle.ostore_page_service.specs.Told.{Told}
use Rattle.ostore_graph_model.specs.declared.commands.Script.{Script}
use Rattle.ostore_graph_model.specs.declared.history.Entry.{Entry}
use Rattle.ostore_graph_model.specs.Valid.{IsValid}
use Rattle.ostore_client_cache.specs.declared.entries.CachedPage.{CachedPage}
use Rattle.ostore_client_cache.specs.declared.entries.Hold.{Hold}
use Rattle.ostore_client_cache.specs.declared.entries.Hold.TheVariants.{Retained, InUse, Owned}
use Rattle.ostore_client_core.specs.Clients.{ClientView, entry_of, stored_image, is_page_used, IsOwn}

-- ---- a list as the client sees it

abbrev pub seen_as : Hold → PageImage → PageImage → PageImage
seen_as Retained stored image = image
seen_as InUse stored image = stored
seen_as Owned stored image = stored

abbrev pub seen_entry : ClientView → ℕ → Option CachedPage → PageImage → PageImage
seen_entry client page None image = image
seen_entry client page (Some entry) image = seen_as entry.hold (stored_image client page entry.image) image

-- a page in use as the client has it, in its stored form, and every other page as it was
abbrev pub seen : ClientView → ℕ → PageImage → PageImage
seen client page image = seen_entry client page (entry_of client page) image

abbrev pub seen_from : ClientView → ℕ → List PageImage → List PageImage
seen_from client page [] = []
seen_from client page (image ∷ images) = seen client page image ∷ seen_from client (page + 1) images

abbrev pub seen_list : ClientView → List PageImage → List PageImage
seen_list client base = seen_from client 0 base

-- ---- where an attempt may have begun

-- a list on which the attempt may have begun: it is valid, and has the images that the service holds
pub record IsBase (schema : Schema) (told : Told Entry) (base : List PageImage) : Type 0 where
  pub long : length base ≡ length told.opened
  pub valid : IsValid schema base
  pub agrees : Agrees told.mine.held base

-- an attempt runs: the service is the client's own, and there is a list on which it may have begun
pub record Attempts (serves : Script → Type 0) (told : Told Entry) (client : ClientView) : Type 0 where
  pub own : IsOwn serves told client
  pub few : length told.opened ≤ most_pages
  pub some : (base : List PageImage) × IsBase client.schema told base

-- the attempt may have begun on the one list, and have made the other of it
pub record MayBe (serves : Script → Type 0) (told : Told Entry) (client : ClientView)
    (base list : List PageImage) : Type 0 where
  pub runs : Attempts serves told client
  pub began : IsBase client.schema told base
  pub made : list ≡ seen_list client base

-- ---- pointers

abbrev pub stored_at : ℕ → PageNo → ℕ
stored_at pointer page = page.0 * 4096 + pointer % 4096

-- the stored pointer for a resident one, where that is 0 or lies in a frame with a page
abbrev pub home_of : ClientView → ℕ → Option ℕ
home_of client pointer =
    if pointer == 0 then Some 0 else option_map (stored_at pointer) (page_in client.frames.pages (pointer / 4096))

-- ---- steps of an attempt

-- Each list that the attempt may stand for it might stand for before. Pages in use stay in use, and pages in their frames.
pub record Narrows (serves later : Script → Type 0) (told now : Told Entry) (old new : ClientView) : Type 0 where
  pub runs : Attempts later now new
  pub lists : (base list : List PageImage) → MayBe later now new base list → MayBe serves told old base list
  pub schema : new.schema ≡ old.schema
  pub frames : KeepsFrames old.frames.pages new.frames.pages
  pub views : (page : ℕ) → is_page_used old page → is_page_used new page
