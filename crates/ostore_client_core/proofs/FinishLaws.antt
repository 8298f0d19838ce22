-- An attempt that is committed, and gives its pages back.
use Rattle.std.proofs.Common.{◌≡◌, ◌≢◌, ℕ, ◌<◌, Bool, true, false, cond, eqb, List, [], length, Option, Some, None, refl, sym, ap, subst, ◌∙◌, arith, inl, inr}
use Rattle.std.specs.Prelude.{IsSome, slice_get}
use Rattle.std.specs.Option.{option_map}
use Rattle.std.proofs.lemmas.Bool.{cases_eq, eq-eqb, ne_eqb, false≢true}
use Rattle.ostore_base.specs.declared.numbers.PageNo.{PageNo}
use Rattle.ostore_base.specs.declared.page.PageImage.{PageImage}
use Rattle.ostore_page_tags.specs.Header.{header_of}
use Rattle.ostore_page_tags.proofs.shape.PageShape.{end_in, IsPage-shape}
use Rattle.ostore_page_tags.proofs.parts.CellLaws.{header_of-same}
use Rattle.ostore_schema_layout.specs.declared.schema.Schema.{Schema}
use Rattle.ostore_relocation.specs.Places.{LieBetween, cell_pointers, holds_objects, page_pointers}
use Rattle.ostore_relocation.specs.Pointers.{stored_pointer}
use Rattle.ostore_relocation.specs.Fitness.{HasCells, IsFit}
use Rattle.ostore_relocation.specs.Forms.{IsResidentPage, pointers_end, stored_form}
use Rattle.ostore_relocation.proofs.PageLaws.{Keeps, keeps, end_low, lie_cells, stays_page}
use Rattle.ostore_relocation.proofs.FormLaws.{is_data_same, nine_no_data, pages_of_cells}
use Rattle.ostore_relocation.proofs.OutsideLaws.{has_form}
use Rattle.ostore_address_space.specs.Frames.{AreFrames}
use Rattle.ostore_redo_journal.specs.Drafts.{Writes}
use Rattle.ostore_page_service.specs.History.{or_else}
use Rattle.ostore_page_service.specs.Told.{Told, Commits, NoBusy, Numbers, SameRecords, ServesAfter}
use Rattle.ostore_graph_model.specs.declared.commands.Txn.{Txn}
use Rattle.ostore_graph_model.specs.declared.commands.Script.{Script}
use Rattle.ostore_graph_model.specs.declared.history.Entry.{Entry}
use Rattle.ostore_graph_model.specs.History.{txn_at}
use Rattle.ostore_graph_model.specs.Valid.{IsValid}
use Rattle.ostore_client_cache.specs.declared.entries.CachedPage.{CachedPage}
use Rattle.ostore_client_cache.specs.declared.entries.Hold.{Hold}
use Rattle.ostore_client_cache.specs.declared.entries.Hold.TheVariants.{Retained, InUse, Owned}
use Rattle.ostore_client_cache.specs.Entries.{is_owned, is_owner, is_used}
use Rattle.ostore_client_core.specs.declared.release.Ending.TheVariants.{Committed}
use Rattle.ostore_client_core.specs.Kinds.{graph_meaning}
use Rattle.ostore_client_core.specs.Clients.{ClientView, entry_of, stored_image, IsTied, IsTiedBy, IsOwn}
use Rattle.ostore_client_core.specs.Attempts.{seen, seen_list, Attempts}
use Rattle.ostore_client_core.specs.Commits.{written_by, WritesOwned, FitsClient, Finishes, ServesStill}
use Rattle.ostore_client_core.specs.inside.Releasing.{EndsWith, IsHeld}
use Rattle.ostore_client_core.specs.inside.Writing.{AreFitOwned, stored_in}
use Rattle.ostore_client_core.proofs.EntryLaws.{none_some}
use Rattle.ostore_client_core.proofs.RecordLaws.{service_then, calm_then}
use Rattle.ostore_client_core.proofs.SeenLaws.{get_seen, seen_used}
use Rattle.ostore_client_core.proofs.FitLaws.{valid_fits}
use Rattle.ostore_client_core.proofs.OwnLaws.{page_held}
use Rattle.ostore_client_core.proofs.CommitLaws as commit

-- ---- what is resident can be relocated out where its stored form is good

not_nine : (page : ℕ) (bytes : List ℕ) → holds_objects page bytes ≡ true → eqb page 9 ≡ false
not_nine page bytes holds = elim (cases_eq page 9) [
  | inl nine ↦ absurd (false≢true (sym (nine_no_data page bytes nine) ∙ holds))
  | inr apart ↦ ne_eqb page 9 apart
]

pub back_fit : (frames : List (Option PageNo)) (schema : Schema) (page : ℕ) (bytes : List ℕ) → AreFrames frames → IsResidentPage frames schema page bytes → IsFit schema page (stored_form frames schema page bytes) → IsFit schema page bytes
back_fit frames schema page bytes are is fit holds =
    let stored : List ℕ = stored_form frames schema page bytes in
    let form = has_form frames schema page bytes are is in
    let low = end_low page bytes in
    let whole = is.whole in
    let near : Keeps 32 (pointers_end page bytes) bytes stored = keeps (stored_pointer frames) 32 (pointers_end page bytes) (page_pointers schema page bytes) bytes is.lie (omega arith) in
    let header : header_of stored ≡ header_of bytes = header_of-same stored bytes (record { bytes = λ k from to. near.before k (omega arith) }) in
    let holds_stored : holds_objects page stored ≡ true = is_data_same page bytes stored header ∙ holds in
    let has : HasCells schema stored = fit holds_stored in
    let shape = IsPage-shape stored has.page in
    let room = shape.room in
    let places : page_pointers schema page bytes ≡ cell_pointers schema stored = sym form.places ∙ pages_of_cells schema page stored (not_nine page bytes holds) holds_stored in
    let lie : LieBetween 32 (page_pointers schema page bytes) (end_in stored) = subst (λ (l : List ℕ). LieBetween 32 l (end_in stored)) (sym places) (lie_cells schema stored has) in
    let kept : Keeps 32 (end_in stored) bytes stored = keeps (stored_pointer frames) 32 (end_in stored) (page_pointers schema page bytes) bytes lie (omega arith) in
    (stays_page schema stored bytes has (record {
      long = sym kept.long;
      before = λ k h. sym (kept.before k h);
      behind = λ k h. sym (kept.behind k h);
    })).cells

owner_used : (hold : Hold) → is_owner hold ≡ true → is_used hold ≡ true
owner_used Retained owner = absurd (false≢true owner)
owner_used InUse owner = refl
owner_used Owned owner = refl

held_is : (o : Option PageImage) → IsSome o → (image : PageImage) × (o ≡ Some image)
held_is None some = absurd cc
held_is (Some image) some = (image, refl)

-- the pages that an attempt owns can be relocated out, where its entry fits
pub owned_are_fit : (serves : Script → Type 0) (told : Told Entry) (client : ClientView) (entry : Entry) → Attempts serves told client → FitsClient serves told client entry → entry.update ≡ true → AreFitOwned client.schema client.pages
owned_are_fit serves told client entry runs fits updates page cached there owner =
    let base : List PageImage = runs.some.0 in
    let is = runs.some.1 in
    let list : List PageImage = seen_list client base in
    let follows = fits.fits.next updates base list (record { runs = runs; began = is; made = refl }) in
    let valid : IsValid client.schema list = subst (λ (s : Schema). IsValid s list) fits.schema follows.valid in
    let used : is_used cached.hold ≡ true = owner_used cached.hold owner in
    let held = held_is (told.mine.held page) (page_held client told.mine page cached (runs.own.tied page) there used) in
    let stored : PageImage = stored_image client page cached.image in
    let here : slice_get list page ≡ Some stored =
    get_seen client page base ∙ ap (option_map (seen client page)) (is.agrees page held.0 held.1) ∙ ap Some (seen_used client page cached held.0 there used) in
    back_fit client.frames.pages client.schema page cached.image.bytes runs.own.frames.all (runs.own.resident page cached there).form (valid_fits client.schema list valid page stored here).fit

-- ---- entries

-- what the loop writes of a page is what the attempt writes
pub same_written : (client : ClientView) (page : ℕ) (found : Option CachedPage) → stored_in client.frames.pages client.schema page found ≡ written_by client page found
same_written client page None = refl
same_written client page (Some entry) = refl

pub counted : (script : Script) (client ordinal : ℕ) (txn : Txn) → txn_at script client ordinal ≡ Some txn → ordinal ≢ 0
counted script client ordinal txn named zero_is = none_some (sym (none ordinal zero_is) ∙ named)
  where
    none : (n : ℕ) → n ≡ 0 → txn_at script client n ≡ None
    none n is = rw (eq-eqb n 0 is) refl

unwritten : (client : ClientView) (page : ℕ) (found : Option CachedPage) → is_owned found ≡ false → None ≡ written_by client page found
unwritten client page None owned = refl
unwritten client page (Some entry) owned = sym (ap (λ (b : Bool). cond b (Some (stored_image client page entry.image)) None) owned)

-- a read writes nothing
pub none_written : (client : ClientView) → ((page : ℕ) → is_owned (entry_of client page) ≡ false) → WritesOwned client []
none_written client reads page = unwritten client page (entry_of client page) (reads page)

numbered : (update : Bool) (told mid now : Told Entry) (number : ℕ) → Numbers update told mid number → now.number ≡ mid.number → Numbers update told now number
numbered true told mid now number numbers same = λ b is. ((numbers b is).0, same ∙ (numbers b is).1)
numbered false told mid now number numbers same = λ b is. ((numbers b is).0, same ∙ (numbers b is).1)

-- ---- what holds once the entry was committed

module _ (serves middle : Script → Type 0) (told mid : Told Entry) (client : ClientView) (entry : Entry) (number : ℕ) (writes : Writes) (runs : Attempts serves told client) (fits : FitsClient serves told client entry) (are : WritesOwned client writes)
    (commits : Commits told mid entry writes number) (after : ServesAfter graph_meaning serves middle told entry writes) where
  held_mid : (page : ℕ) → mid.mine.held page ≡ or_else (written_by client page (entry_of client page)) (told.mine.held page)
  held_mid page = commits.held page ∙ ap (λ o. or_else o (told.mine.held page)) (are page)

  record At (page : ℕ) (found : Option CachedPage) : Type 0 where
    pub tied : IsTied (stored_image client page) mid.mine page found
    pub held : IsHeld Committed (stored_image client page) mid.mine page found

  by_hold : (page : ℕ) (cached : CachedPage) (hold : Hold) → mid.mine.held page ≡ or_else (cond (is_owner hold) (Some (stored_image client page cached.image)) None) (told.mine.held page) → IsTiedBy hold (stored_image client page cached.image) told.mine page
      → IsTiedBy hold (stored_image client page cached.image) mid.mine page × (is_used hold ≡ true → mid.mine.held page ≡ Some (stored_image client page cached.image))
  by_hold page cached Retained held tie = (
    record {
      held = held ∙ tie.held;
      owned = commits.owned page ∙ tie.owned;
      kept = λ image kept. tie.kept image (sym (commits.kept page) ∙ kept);
      droppable = commits.droppable page ∙ tie.droppable;
    },
    λ used. absurd (false≢true used),
  )
  by_hold page cached InUse held tie = (record { held = held ∙ tie.held; owned = commits.owned page ∙ tie.owned }, λ used. held ∙ tie.held)
  by_hold page cached Owned held tie = (record { held = subst IsSome (sym held) refl; owned = commits.owned page ∙ tie.owned }, λ used. held)

  at_page : (page : ℕ) (found : Option CachedPage) → mid.mine.held page ≡ or_else (written_by client page found) (told.mine.held page) → IsTied (stored_image client page) told.mine page found → At page found
  at_page page None held tied = record { tied = record { held = held ∙ tied.held; owned = commits.owned page ∙ tied.owned; kept = commits.kept page ∙ tied.kept }; held = tt }
  at_page page (Some cached) held tied =
      let both = by_hold page cached cached.hold held tied in
      record { tied = both.0; held = λ used void. both.1 used }

  each : (page : ℕ) → At page (entry_of client page)
  each page = at_page page (entry_of client page) (held_mid page) (runs.own.tied page)

  -- the service is still the client's own
  pub own_mid : IsOwn middle mid client
  own_mid = record {
    number = commits.service.client ∙ runs.own.number;
    script = (fits.script, after fits.script fits.served (commit.fits serves told client runs writes are fits.script entry fits.schema fits.fits), fits.schema);
    tied = λ page. (each page).tied;
    resident = runs.own.resident;
    known = λ page cached there. (let low = runs.own.known page cached there in subst (λ (l : List PageImage). page < length l) (sym commits.service.opened) low);
    frames = runs.own.frames;
    framed = λ frame at is. (let low = runs.own.framed frame at is in subst (λ (l : List PageImage). at.0 < length l) (sym commits.service.opened) low);
    short = runs.own.short;
    first = runs.own.first;
  }

  pub ends_mid : EndsWith Committed (stored_image client) mid.mine client.pages
  ends_mid = record { tied = λ page. (each page).tied; held = λ page. (each page).held }

  -- and what the release of the pages leaves
  pub finishes : (now : Told Entry) → Numbers entry.update told mid number → SameRecords mid now → NoBusy mid now → Finishes told now client entry number
  finishes now numbers same calm = record {
    service = service_then told mid now commits.service same.service;
    records = same.records ∙ commits.records;
    numbers = numbered entry.update told mid now number numbers same.number;
    calm = calm_then told mid now commits.calm calm;
    faults = same.faults ∙ commits.faults;
    disk_faults = same.disk_faults ∙ commits.disk_faults;
    writes = writes;
    owned = are;
    told_writes = same.writes ∙ commits.told_writes;
  }

  pub serves_still : (later : Script → Type 0) → ((s : Script) → middle s → later s) → ServesStill serves later told client entry
  serves_still later served script has schema fit = served script (after script has (commit.fits serves told client runs writes are script entry schema fit))
