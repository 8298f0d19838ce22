-- What a client and its service have of a page that neither changes.
use Rattle.std.proofs.Common.{◌≡◌, ℕ, true, Option, Some, None, refl, sym, ap, subst, ◌∙◌}
use Rattle.std.specs.Prelude.{IsSome}
use Rattle.ostore_base.specs.declared.page.PageImage.{PageImage}
use Rattle.ostore_page_service.specs.Told.{Side}
use Rattle.ostore_client_cache.specs.declared.entries.CachedPage.{CachedPage}
use Rattle.ostore_client_cache.specs.declared.entries.Hold.{Hold}
use Rattle.ostore_client_cache.specs.declared.entries.Hold.TheVariants.{Retained, InUse, Owned}
use Rattle.std.proofs.lemmas.Bool.{false≢true}
use Rattle.ostore_graph_model.specs.declared.history.Entry.{Entry}
use Rattle.ostore_client_cache.specs.Entries.{is_used, is_in_use}
use Rattle.ostore_client_core.specs.Clients.{IsTiedBy, IsTied}

-- the service holds of a page what it held
pub record SameAt {E : Type 0} (old new : Side E) (page : ℕ) : Type 0 where
  pub held : new.held page ≡ old.held page
  pub owned : new.owned page ≡ old.owned page
  pub kept : new.kept page ≡ old.kept page
  pub droppable : new.droppable page ≡ old.droppable page

pub same_at : {E : Type 0} (side : Side E) (page : ℕ) → SameAt side side page
same_at side page = record { held = refl; owned = refl; kept = refl; droppable = refl }

tied_by : {E : Type 0} (hold : Hold) (stored now : PageImage) (old new : Side E) (page : ℕ) → now ≡ stored → SameAt old new page → IsTiedBy hold stored old page → IsTiedBy hold now new page
tied_by Retained stored now old new page is same tied = record {
  held = same.held ∙ tied.held;
  owned = same.owned ∙ tied.owned;
  kept = λ image kept. tied.kept image (sym same.kept ∙ kept) ∙ sym is;
  droppable = same.droppable ∙ tied.droppable;
}
tied_by InUse stored now old new page is same tied = record { held = same.held ∙ tied.held ∙ ap Some (sym is); owned = same.owned ∙ tied.owned }
tied_by Owned stored now old new page is same tied = record { held = subst IsSome (sym same.held) tied.held; owned = same.owned ∙ tied.owned }

pub tied_still : {E : Type 0} (found : Option CachedPage) (stored now : PageImage → PageImage) (old new : Side E) (page : ℕ) → ((entry : CachedPage) → found ≡ Some entry → now entry.image ≡ stored entry.image) → SameAt old new page
    → IsTied stored old page found → IsTied now new page found
tied_still None stored now old new page is same tied = record { held = same.held ∙ tied.held; owned = same.owned ∙ tied.owned; kept = same.kept ∙ tied.kept }
tied_still (Some entry) stored now old new page is same tied = tied_by entry.hold (stored entry.image) (now entry.image) old new page (is entry refl) same tied

-- ---- a page in use is one that the service holds

held_by : (hold : Hold) (stored : PageImage) (side : Side Entry) (page : ℕ) → is_used hold ≡ true → IsTiedBy hold stored side page → IsSome (side.held page)
held_by Retained stored side page used tie = absurd (false≢true used)
held_by InUse stored side page used tie = subst IsSome (sym tie.held) refl
held_by Owned stored side page used tie = tie.held

pub used_held : (stored : PageImage → PageImage) (side : Side Entry) (page : ℕ) (found : Option CachedPage) → IsTied stored side page found → is_in_use found ≡ true → IsSome (side.held page)
used_held stored side page None tied used = absurd (false≢true used)
used_held stored side page (Some entry) tied used = held_by entry.hold (stored entry.image) side page used tied

none_held : (o : Option PageImage) → o ≡ None → IsSome o → ⊥
none_held None is some = absurd cc
none_held (Some image) is some = absurd cc

used_by : (hold : Hold) (stored : PageImage) (side : Side Entry) (page : ℕ) → IsSome (side.held page) → IsTiedBy hold stored side page → is_used hold ≡ true
used_by Retained stored side page some tie = absurd (none_held (side.held page) tie.held some)
used_by InUse stored side page some tie = refl
used_by Owned stored side page some tie = refl

pub held_used : (stored : PageImage → PageImage) (side : Side Entry) (page : ℕ) (found : Option CachedPage) → IsTied stored side page found → IsSome (side.held page) → is_in_use found ≡ true
held_used stored side page None tied some = absurd (none_held (side.held page) tied.held some)
held_used stored side page (Some entry) tied some = used_by entry.hold (stored entry.image) side page some tied
