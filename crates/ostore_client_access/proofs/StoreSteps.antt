-- Bytes that are stored into a page that the attempt owns.
use Rattle.std.proofs.Common.{◌≡◌, ◌≢◌, ℕ, ◌<◌, ◌≤◌, true, nat_eq, List, [], length, get_or, set, Some, refl, sym, ap, subst, ◌∙◌, arith, inl, inr}
use Rattle.std.specs.Prelude.{IsSome}
use Rattle.std.specs.Option.{option_map}
use Rattle.std.specs.Map.{lookup, set_value}
use Rattle.std.proofs.lemmas.Bool.{cases_eq, false≢true}
use Rattle.std.proofs.lemmas.List.{same_lists, length-set, get_or-set_same, get_or-set_other}
use Rattle.std.proofs.lemmas.Option.{get_or_from_slice_get, slice_get-get_or, same_Some}
use Rattle.ostore_base.specs.Disk.{replaced}
use Rattle.ostore_base.specs.declared.page.PageImage.{PageImage}
use Rattle.ostore_page_tags.specs.PageLists.{bytes_at, with_bytes}
use Rattle.ostore_address_space.specs.Frames.{KeepsFrames, ArePaired, frame_of}
use Rattle.ostore_relocation.specs.Forms.{IsResidentPage, stored_form}
use Rattle.ostore_relocation.specs.Stores.{StoresAs}
use Rattle.ostore_page_service.specs.Told.{Side, Told}
use Rattle.ostore_graph_model.specs.declared.commands.Script.{Script}
use Rattle.ostore_graph_model.specs.declared.history.Entry.{Entry}
use Rattle.ostore_client_cache.specs.declared.entries.CachedPage.{CachedPage}
use Rattle.ostore_client_cache.specs.declared.entries.Hold.{Hold}
use Rattle.ostore_client_cache.specs.declared.entries.Hold.TheVariants.{Retained, InUse, Owned}
use Rattle.ostore_client_cache.specs.Entries.{is_used, is_owner, is_in_use}
use Rattle.ostore_client_cache.specs.Entries as entries
use Rattle.ostore_client_cache.proofs.CountLaws.{long_set}
use Rattle.ostore_client_core.specs.Cells.{HasCellsOf}
use Rattle.ostore_client_core.specs.Clients.{ClientView, with_pages, entry_of, stored_image, is_page_used, AreKnown, IsResident, IsTied, IsTiedBy, AreUsedFirst}
use Rattle.ostore_client_core.specs.Attempts.{seen, seen_list, IsBase, Attempts, Narrows}
use Rattle.ostore_client_core.proofs.EntryLaws.{Pages, some_of, set_here, set_other}
use Rattle.ostore_client_core.proofs.TiedLaws.{same_at}
use Rattle.ostore_client_core.proofs.RecordLaws.{service_refl}
use Rattle.ostore_client_core.proofs.GoesLaws.{Extends, KeepsPage, Goes, GoesOn, goes_own}
use Rattle.ostore_client_core.proofs.SeenLaws.{get_seen, length_seen, seen_used, seen_kept}
use Rattle.ostore_client_core.proofs.OwnLaws.{first_set}
use Rattle.ostore_client_access.specs.Accesses.{Edits}

-- bytes were stored into an owned page's image, and others into its stored form
pub record Stores (old new : ClientView) (page at : ℕ) (bytes put : List ℕ) : Type 0 where
  pub entry : CachedPage
  pub there : entry_of old page ≡ Some entry
  pub owner : is_owner entry.hold ≡ true
  pub client : new ≡ with_pages (set_value (nat_eq page) old.pages (entries.with_bytes entry at bytes)) old
  pub stores : StoresAs old.frames.pages old.schema page (replaced at bytes entry.image.bytes) (replaced at put (stored_form old.frames.pages old.schema page entry.image.bytes))
  pub cells : HasCellsOf old.schema page (replaced at put (stored_form old.frames.pages old.schema page entry.image.bytes))

pub owner_used : (hold : Hold) → is_owner hold ≡ true → is_used hold ≡ true
owner_used Retained is = absurd (false≢true is)
owner_used InUse is = absurd (false≢true is)
owner_used Owned is = refl

-- of a page that is owned the service need not hold the client's image
owner_tied : (hold : Hold) (was now : PageImage) (side : Side Entry) (page : ℕ) → is_owner hold ≡ true → IsTiedBy hold was side page → IsTiedBy hold now side page
owner_tied Retained was now side page is tied = absurd (false≢true is)
owner_tied InUse was now side page is tied = absurd (false≢true is)
owner_tied Owned was now side page is tied = tied

-- ---- the list that is seen

pub seen_get : (client : ClientView) (base : List PageImage) (k : ℕ) (d : PageImage) → k < length base → get_or (seen_list client base) k d ≡ seen client k (get_or base k d)
seen_get client base k d below =
    get_or_from_slice_get (seen_list client base) k (seen client k (get_or base k d)) d
    (get_seen client k base ∙ ap (option_map (seen client k)) (slice_get-get_or base k d below))

-- where one page is seen otherwise
pub seen_put : (old new : ClientView) (base : List PageImage) (page at : ℕ) (put : List ℕ) → page < length base
    → ((image : PageImage) → seen new page image ≡ record { bytes = replaced at put (seen old page image).bytes })
    → ((other : ℕ) (image : PageImage) → other ≢ page → seen new other image ≡ seen old other image)
    → seen_list new base ≡ with_bytes (seen_list old base) page at put
seen_put old new base page at put below here others =
    let first : List PageImage = seen_list old base in
    let second : List PageImage = seen_list new base in
    let none : PageImage = record { bytes = [] } in
    let made : PageImage = record { bytes = replaced at put (bytes_at first page) } in
    let one : length second ≡ length base = length_seen new 0 base in
    let two : length first ≡ length base = length_seen old 0 base in
    let three : length (set first page made) ≡ length first = length-set first page made in
    same_lists second (set first page made) (omega arith) (λ k d within. elim (cases_eq k page) as (λ _. get_or second k d ≡ get_or (set first page made) k d) [
      | inl same ↦
          seen_get new base k d (omega arith)
          ∙ ap (λ (n : ℕ). seen new n (get_or base n d)) same ∙ here (get_or base page d)
          ∙ ap (λ (i : PageImage). record { bytes = replaced at put i.bytes }) (bytes_same page d below)
          ∙ sym (get_or-set_same first page made d (omega arith)) ∙ ap (λ (n : ℕ). get_or (set first page made) n d) (sym same)
      | inr apart ↦
          seen_get new base k d (omega arith) ∙ others k (get_or base k d) apart ∙ sym (seen_get old base k d (omega arith))
          ∙ sym (get_or-set_other first page k made d apart)
    ])
  where
    bytes_same : (k : ℕ) (d : PageImage) → k < length base → seen old k (get_or base k d) ≡ get_or (seen_list old base) k (record { bytes = [] })
    bytes_same k d below =
        let none : PageImage = record { bytes = [] } in
        ap (seen old k) (same_default base k d none below) ∙ sym (seen_get old base k none below)
      where
        same_default : (xs : List PageImage) (k : ℕ) (d e : PageImage) → k < length xs → get_or xs k d ≡ get_or xs k e
        same_default xs k d e below = sym (get_or_from_slice_get xs k (get_or xs k d) e (slice_get-get_or xs k d below))

-- ---- the attempt goes on

module _ (serves : Script → Type 0) (told : Told Entry) (old new : ClientView) (page at : ℕ) (bytes put : List ℕ) (runs : Attempts serves told old) (s : Stores old new page at bytes put) where
  abbrev now : CachedPage
  now = entries.with_bytes s.entry at bytes

  some : IsSome (lookup (nat_eq page) old.pages)
  some = some_of (entry_of old page) s.entry s.there

  pages : new.pages ≡ set_value (nat_eq page) old.pages now
  pages = ap (λ (v : ClientView). v.pages) s.client

  here : entry_of new page ≡ Some now
  here = ap (lookup (nat_eq page)) pages ∙ set_here page now old.pages some

  more : Extends old new
  more = record {
    schema = ap (λ (v : ClientView). v.schema) s.client;
    most = ap (λ (v : ClientView). v.most) s.client;
    count = ap (λ (v : ClientView). length v.frames.pages) s.client;
    client = ap (λ (v : ClientView). v.frames.client) s.client;
    frames = subst (λ (v : ClientView). KeepsFrames old.frames.pages v.frames.pages) (sym s.client) (record { pages = λ f p e. e });
    paired = subst (λ (v : ClientView). ArePaired v.frames.pages) (sym s.client) runs.own.frames;
  }

  image : stored_image new page now.image ≡ record { bytes = replaced at put (stored_form old.frames.pages old.schema page s.entry.image.bytes) }
  image = ap (λ (v : ClientView). stored_image v page now.image) s.client ∙ ap (λ (b : List ℕ). record { bytes = b }) s.stores.form

  resident : IsResident new page now.image
  resident = record {
    form = subst (λ (v : ClientView). IsResidentPage v.frames.pages v.schema page now.image.bytes) (sym s.client) s.stores.resident;
    framed = subst (λ (v : ClientView). IsSome (frame_of v.frames.pages page)) (sym s.client) (runs.own.resident page s.entry s.there).framed;
    cells = subst (λ (i : PageImage). HasCellsOf new.schema page i.bytes) (sym image) (subst (λ (v : ClientView). HasCellsOf v.schema page (replaced at put (stored_form old.frames.pages old.schema page s.entry.image.bytes))) (sym s.client) s.cells);
  }

  keeps : (other : ℕ) → other ≢ page → KeepsPage old new told.mine told.mine other
  keeps other apart = record { entry = ap (lookup (nat_eq other)) pages ∙ set_other page other now old.pages some apart; side = same_at told.mine other }

  short : length new.pages ≤ new.most
  short =
      let long : length new.pages ≡ length old.pages = ap (λ (l : Pages). length l) pages ∙ long_set page old.pages now in
      let most : new.most ≡ old.most = ap (λ (v : ClientView). v.most) s.client in
      let few = runs.own.short in
      omega arith

  on : GoesOn serves serves told told old new
  on = record {
    own = runs.own;
    served = λ script serving. serving;
    service = service_refl told;
    more = more;
    each = λ other. elim (cases_eq other page) as (λ _. Goes (length told.opened) old new told.mine told.mine other) [
      | inl same ↦ subst (λ (p : ℕ). Goes (length told.opened) old new told.mine told.mine p) (sym same) (inr (record {
        tied = subst (IsTied (stored_image new page) told.mine page) (sym here)
            (owner_tied s.entry.hold (stored_image old page s.entry.image) (stored_image new page now.image) told.mine page s.owner (subst (IsTied (stored_image old page) told.mine page) s.there (runs.own.tied page)));
        resident = λ e is. subst (λ (x : CachedPage). IsResident new page x.image) (same_Some now e (sym here ∙ is)) resident;
        known = λ e is. runs.own.known page s.entry s.there;
      }))
      | inr apart ↦ inl (keeps other apart)
    ];
    framed = subst (λ (v : ClientView). AreKnown (length told.opened) v.frames.pages) (sym s.client) runs.own.framed;
    short = short;
    first = subst AreUsedFirst (sym pages) (first_set page old.pages s.entry now s.there refl runs.own.first);
  }

  based : (base : List PageImage) → IsBase new.schema told base → page < length base
  based base began =
      let known = runs.own.known page s.entry s.there in
      let long = began.long in
      omega arith

  pub stored : Edits serves serves told told old new page at put
  stored = record {
    runs = record { own = goes_own serves serves told told old new on; few = runs.few; some = (runs.some.0, subst (λ (v : ClientView). IsBase v.schema told runs.some.0) (sym s.client) runs.some.1) };
    lists = λ base list may. (
      seen_list old base,
      record { runs = runs; began = subst (λ (v : ClientView). IsBase v.schema told base) s.client may.began; made = refl },
      may.made
          ∙ seen_put old new base page at put (based base may.began)
          (λ i. seen_used new page now i here (owner_used s.entry.hold s.owner) ∙ image ∙ ap (λ (j : PageImage). record { bytes = replaced at put j.bytes }) (sym (seen_used old page s.entry i s.there (owner_used s.entry.hold s.owner))))
          (λ other i apart. seen_kept serves serves told told old new other i on (keeps other apart)),
    );
    schema = more.schema;
    frames = more.frames;
    views = λ other used. elim (cases_eq other page) as (λ _. is_page_used new other) [
      | inl same ↦ subst (λ (p : ℕ). is_page_used new p) (sym same) (ap is_in_use here ∙ owner_used s.entry.hold s.owner)
      | inr apart ↦ ap is_in_use (keeps other apart).entry ∙ used
    ];
  }

-- ---- edits after calls that narrow

-- what the holder may stand for after the page was brought into use and owned, and bytes were stored
pub edits_then : (a b c : Script → Type 0) (t u v : Told Entry) (x y z w : ClientView) (page at : ℕ) (put : List ℕ) → Narrows a b t u x y → Narrows b c u v y z → Edits c c v v z w page at put → Edits a c t v x w page at put
edits_then a b c t u v x y z w page at put one two three = record {
  runs = three.runs;
  lists = λ base list may. (let edited = three.lists base list may in (edited.0, one.lists base edited.0 (two.lists base edited.0 edited.1), edited.2));
  schema = three.schema ∙ two.schema ∙ one.schema;
  frames = record { pages = λ f p is. three.frames.pages f p (two.frames.pages f p (one.frames.pages f p is)) };
  views = λ p used. three.views p (two.views p (one.views p used));
}
