-- What a call for another client leaves: the service is still the client's own, and the attempt stays where it is.
use Rattle.std.proofs.Common.{◌≡◌, ◌<◌, ◌≤◌, ℕ, List, length, Option, Some, None, refl, sym, ap, subst, ◌∙◌}
use Rattle.std.specs.Prelude.{IsSome}
use Rattle.std.proofs.lemmas.Option.{none-some}
use Rattle.ostore_base.specs.declared.page.PageImage.{PageImage}
use Rattle.ostore_schema_layout.specs.declared.schema.Schema.{Schema}
use Rattle.ostore_page_service.specs.Told.{Side, Told, Undisturbed}
use Rattle.ostore_graph_model.specs.declared.commands.Script.{Script}
use Rattle.ostore_graph_model.specs.declared.history.Entry.{Entry}
use Rattle.ostore_client_cache.specs.declared.entries.CachedPage.{CachedPage}
use Rattle.ostore_client_cache.specs.declared.entries.Hold.{Hold}
use Rattle.ostore_client_cache.specs.declared.entries.Hold.TheVariants.{Retained, InUse, Owned}
use Rattle.ostore_client_core.specs.Clients.{ClientView, AreKnown, IsAbsent, IsOwn, IsTied, IsTiedBy, entry_of, stored_image}
use Rattle.ostore_client_core.specs.Attempts.{Attempts, IsBase, MayBe, Narrows}
use Rattle.ostore_client_core.specs.inside.Nothing.{MakesNothing}

-- another client's call: the service is the same client's, of the same pages, and holds what it held
pub record Stays (told now : Told Entry) : Type 0 where
  pub client : now.client ≡ told.client
  pub opened : now.opened ≡ told.opened
  pub mine : Undisturbed told.mine now.mine

-- a script of the schema is served
abbrev pub ServesOne : (Script → Type 0) → Schema → Type 0
ServesOne serves schema = (script : Script) × serves script × (script.schema ≡ schema)

no_copy : (now before : Option PageImage) → ((image : PageImage) → now ≡ Some image → before ≡ Some image) → before ≡ None → now ≡ None
no_copy None before kept none = refl
no_copy (Some image) before kept none = absurd (none-some image (sym none ∙ kept image refl))

-- a page of which nothing is held
pub stays_absent : {a b : Side Entry} {page : ℕ} → Undisturbed a b → IsAbsent a page → IsAbsent b page
stays_absent {a} {b} {page} same absent = record {
  held = same.held page ∙ absent.held;
  owned = same.owned page ∙ absent.owned;
  kept = no_copy (b.kept page) (a.kept page) (same.kept page) absent.kept;
}

stays_by : (hold : Hold) (stored : PageImage) (a b : Side Entry) (page : ℕ) → Undisturbed a b → IsTiedBy hold stored a page → IsTiedBy hold stored b page
stays_by Retained stored a b page same tied = record {
  held = same.held page ∙ tied.held;
  owned = same.owned page ∙ tied.owned;
  kept = λ image h. tied.kept image (same.kept page image h);
  droppable = same.droppable page ∙ tied.droppable;
}
stays_by InUse stored a b page same tied = record { held = same.held page ∙ tied.held; owned = same.owned page ∙ tied.owned }
stays_by Owned stored a b page same tied = record { held = subst IsSome (sym (same.held page)) tied.held; owned = same.owned page ∙ tied.owned }

stays_tied : (stored : PageImage → PageImage) (a b : Side Entry) (page : ℕ) (found : Option CachedPage) → Undisturbed a b → IsTied stored a page found → IsTied stored b page found
stays_tied stored a b page None same tied = stays_absent same tied
stays_tied stored a b page (Some entry) same tied = stays_by entry.hold (stored entry.image) a b page same tied

pub stays_own : (serves later : Script → Type 0) (told now : Told Entry) (client : ClientView) → Stays told now → ServesOne later client.schema → IsOwn serves told client → IsOwn later now client
stays_own serves later told now client stays script own = record {
  number = stays.client ∙ own.number;
  script = script;
  tied = λ page. stays_tied (stored_image client page) told.mine now.mine page (entry_of client page) stays.mine (own.tied page);
  resident = own.resident;
  known = λ page entry there. subst (λ (pages : List PageImage). page < length pages) (sym stays.opened) (own.known page entry there);
  frames = own.frames;
  framed = subst (λ (pages : List PageImage). AreKnown (length pages) client.frames.pages) (sym stays.opened) own.framed;
  short = own.short;
  first = own.first;
}

-- ---- attempts

base_then : (schema : Schema) (told now : Told Entry) (base : List PageImage) → Stays told now → IsBase schema told base → IsBase schema now base
base_then schema told now base stays is = record {
  long = is.long ∙ ap length (sym stays.opened);
  valid = is.valid;
  agrees = λ page image held. is.agrees page image (sym (stays.mine.held page) ∙ held);
}

base_before : (schema : Schema) (told now : Told Entry) (base : List PageImage) → Stays told now → IsBase schema now base → IsBase schema told base
base_before schema told now base stays is = record {
  long = is.long ∙ ap length stays.opened;
  valid = is.valid;
  agrees = λ page image held. is.agrees page image (stays.mine.held page ∙ held);
}

module _ (serves later : Script → Type 0) (told now : Told Entry) (client : ClientView) (stays : Stays told now) (script : ServesOne later client.schema) (runs : Attempts serves told client) where
  pub stays_running : Attempts later now client
  stays_running = record {
    own = stays_own serves later told now client stays script runs.own;
    few = subst (λ (pages : List PageImage). length pages ≤ 16384) (sym stays.opened) runs.few;
    some = (runs.some.0, base_then client.schema told now runs.some.0 stays runs.some.1);
  }

  -- it may stand for the lists for which it might stand before
  pub stood_before : (base list : List PageImage) → MayBe later now client base list → MayBe serves told client base list
  stood_before base list may = record { runs = runs; began = base_before client.schema told now base stays may.began; made = may.made }

  pub makes_nothing_still : MakesNothing serves told client → MakesNothing later now client
  makes_nothing_still made base list may = made base list (stood_before base list may)

-- what has made nothing before a step that succeeds has made nothing after it
pub narrows_nothing : (serves later : Script → Type 0) (told now : Told Entry) (old new : ClientView) → Narrows serves later told now old new → MakesNothing serves told old → MakesNothing later now new
narrows_nothing serves later told now old new n made base list may = made base list (n.lists base list may)
