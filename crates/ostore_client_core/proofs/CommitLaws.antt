-- A commit of what a client has made.
use Rattle.std.proofs.Common.{◌≡◌, ◌↔◌, ℕ, cond, List, length, Option, Some, None, refl, sym, ap, subst, ◌∙◌, arith, inl, inr}
use Rattle.std.specs.Prelude.{slice_get, IsSome, IsTrue}
use Rattle.std.specs.Option.{option_map}
use Rattle.std.proofs.lemmas.Bool.{cases_lt, false≢true}
use Rattle.std.proofs.lemmas.Option.{slice_get_past}
use Rattle.ostore_base.specs.declared.page.PageImage.{PageImage}
use Rattle.ostore_schema_layout.specs.declared.schema.Schema.{Schema}
use Rattle.ostore_redo_journal.specs.Drafts.{Writes}
use Rattle.ostore_page_service.specs.History.{written, or_else, put_all, Agrees, Covers, Fits}
use Rattle.ostore_page_service.specs.Told.{Side, Told}
use Rattle.ostore_page_service.proofs.CommitLaws.{get_put_all}
use Rattle.ostore_page_service.proofs.HistoryLaws.{length-put_all}
use Rattle.ostore_graph_model.specs.declared.commands.Script.{Script}
use Rattle.ostore_graph_model.specs.declared.history.Entry.{Entry}
use Rattle.ostore_graph_model.specs.Valid.{IsValid}
use Rattle.ostore_client_cache.specs.declared.entries.CachedPage.{CachedPage}
use Rattle.ostore_client_cache.specs.declared.entries.Hold.{Hold}
use Rattle.ostore_client_cache.specs.declared.entries.Hold.TheVariants.{Retained, InUse, Owned}
use Rattle.ostore_client_cache.specs.Entries.{is_owner}
use Rattle.ostore_client_core.specs.Kinds.{graph_meaning}
use Rattle.ostore_client_core.specs.Clients.{ClientView, entry_of, stored_image, IsTied, IsTiedBy}
use Rattle.ostore_client_core.specs.Attempts.{seen_as, seen_entry, seen, seen_list, IsBase, Attempts, MayBe}
use Rattle.ostore_client_core.specs.Commits.{written_by, WritesOwned, FitsFor}
use Rattle.ostore_client_core.proofs.EntryLaws.{none_some}
use Rattle.ostore_client_core.proofs.SeenLaws.{same_get, get_seen, length_seen}

some_is : {X : Type 0} {x y : X} → Some x ≡ Some y → x ≡ y
some_is {X} {x} {y} e = cc

-- what is seen of a page is what is written, or what was there
seen_written_by : (held : Hold) (stored image : PageImage) (side : Side Entry) (page : ℕ) → IsTiedBy held stored side page → ((i : PageImage) → side.held page ≡ Some i → image ≡ i)
    → Some (seen_as held stored image) ≡ or_else (cond (is_owner held) (Some stored) None) (Some image)
seen_written_by Retained stored image side page tie agrees = refl
seen_written_by InUse stored image side page tie agrees = ap Some (sym (agrees stored tie.held))
seen_written_by Owned stored image side page tie agrees = refl

seen_written : (client : ClientView) (side : Side Entry) (page : ℕ) (found : Option CachedPage) (image : PageImage) → IsTied (stored_image client page) side page found → ((i : PageImage) → side.held page ≡ Some i → image ≡ i)
    → Some (seen_entry client page found image) ≡ or_else (written_by client page found) (Some image)
seen_written client side page None image tied agrees = refl
seen_written client side page (Some entry) image tied agrees = seen_written_by entry.hold (stored_image client page entry.image) image side page tied agrees

-- a page that no list has isn't written
unwritten_by : (held : Hold) (stored : PageImage) (side : Side Entry) (page : ℕ) → IsTiedBy held stored side page → ((i : PageImage) → side.held page ≡ Some i → ⊥) → cond (is_owner held) (Some stored) None ≡ None
unwritten_by Retained stored side page tie gone = refl
unwritten_by InUse stored side page tie gone = refl
unwritten_by Owned stored side page tie gone = absurd (held_some (side.held page) refl tie.held)
  where
    held_some : (o : Option PageImage) → side.held page ≡ o → IsSome o → ⊥
    held_some None e some = absurd cc
    held_some (Some i) e some = gone i e

unwritten : (client : ClientView) (side : Side Entry) (page : ℕ) (found : Option CachedPage) → IsTied (stored_image client page) side page found → ((i : PageImage) → side.held page ≡ Some i → ⊥) → written_by client page found ≡ None
unwritten client side page None tied gone = refl
unwritten client side page (Some entry) tied gone = unwritten_by entry.hold (stored_image client page entry.image) side page tied gone

module _ (serves : Script → Type 0) (told : Told Entry) (client : ClientView) (runs : Attempts serves told client) (writes : Writes) (are : WritesOwned client writes) where
  put_at : (base : List PageImage) → Agrees told.mine.held base → (k : ℕ) (o : Option PageImage) → slice_get base k ≡ o → or_else (written writes k) o ≡ option_map (seen client k) o
  put_at base agrees k None gone = ap (λ o. or_else o None) (are k ∙ unwritten client told.mine k (entry_of client k) (runs.own.tied k) (λ i held. none_some (sym gone ∙ agrees k i held)))
  put_at base agrees k (Some image) here =
      ap (λ o. or_else o (Some image)) (are k)
      ∙ sym (seen_written client told.mine k (entry_of client k) image (runs.own.tied k) (λ i held. some_is (sym here ∙ agrees k i held)))

  -- the list with the writes in place is the one that the client sees
  pub put_seen : (base : List PageImage) → IsBase client.schema told base → put_all base writes ≡ seen_list client base
  put_seen base is = same_get (put_all base writes) (seen_list client base) (λ k. elim (cases_lt k (length base)) as (λ _. slice_get (put_all base writes) k ≡ slice_get (seen_list client base) k) [
    | inl below ↦ get_put_all base writes k below ∙ put_at base is.agrees k (slice_get base k) refl ∙ sym (get_seen client k base)
    | inr past ↦
        let one = length-put_all base writes in
        let two = length_seen client 0 base in
        slice_get_past (put_all base writes) k (omega arith) ∙ sym (slice_get_past (seen_list client base) k (omega arith))
  ])

  owned_by : (held : Hold) (stored : PageImage) (page : ℕ) → IsTiedBy held stored told.mine page → IsTrue (told.mine.owned page) ↔ IsSome (cond (is_owner held) (Some stored) None)
  owned_by Retained stored page tie = ((λ is. absurd (false≢true (sym tie.owned ∙ is))), (λ some. absurd cc))
  owned_by InUse stored page tie = ((λ is. absurd (false≢true (sym tie.owned ∙ is))), (λ some. absurd cc))
  owned_by Owned stored page tie = ((λ is. refl), (λ some. tie.owned))

  owned_at : (page : ℕ) (found : Option CachedPage) → IsTied (stored_image client page) told.mine page found → IsTrue (told.mine.owned page) ↔ IsSome (written_by client page found)
  owned_at page None tied = ((λ is. absurd (false≢true (sym tied.owned ∙ is))), (λ some. absurd cc))
  owned_at page (Some entry) tied = owned_by entry.hold (stored_image client page entry.image) page tied

  pub covers : Covers told.mine.owned writes
  covers page =
      let at = owned_at page (entry_of client page) (runs.own.tied page) in
      ((λ is. subst IsSome (sym (are page)) (at.0 is)), (λ some. at.1 (subst IsSome (are page) some)))

  pub fits : (script : Script) (entry : Entry) → script.schema ≡ client.schema → FitsFor serves told client script entry
      → Fits graph_meaning script (length told.opened) told.client told.mine.records told.mine.held told.mine.owned entry writes
  fits script entry schema h = record {
    mine = h.mine;
    named = h.named;
    rises = h.rises;
    covers = covers;
    right = λ base long valid agrees. h.right base (seen_list client base) (may base long valid agrees);
    next = λ updates base long valid agrees.
        let follows = h.next updates base (seen_list client base) (may base long valid agrees) in
        let same = put_seen base (is_base base long valid agrees) in
        (subst (λ (list : List PageImage). graph_meaning.next script entry base list) (sym same) follows, subst (λ (list : List PageImage). IsValid script.schema list) (sym same) follows.valid);
  }
    where
      is_base : (base : List PageImage) → length base ≡ length told.opened → IsValid script.schema base → Agrees told.mine.held base → IsBase client.schema told base
      is_base base long valid agrees = record { long = long; valid = subst (λ (s : Schema). IsValid s base) schema valid; agrees = agrees }

      may : (base : List PageImage) → length base ≡ length told.opened → IsValid script.schema base → Agrees told.mine.held base → MayBe serves told client base (seen_list client base)
      may base long valid agrees = record { runs = runs; began = record { long = long; valid = subst (λ (s : Schema). IsValid s base) schema valid; agrees = agrees }; made = refl }
