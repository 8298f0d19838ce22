-- What a claim of two pages changes for its client.
use Rattle.std.specs.Prelude.{◌≡◌, ◌≢◌, ◌⊎◌, ℕ, ◌<◌, true, false, ◌∷◌, [], ◌++◌, Some, None}
use Rattle.std.specs.Option.{option_map}
use Rattle.ostore_base.specs.Faults.{Rose}
use Rattle.ostore_base.specs.Limits.{most_clients}
use Rattle.ostore_base.specs.declared.page.PageImage.{PageImage}
use Rattle.ostore_page_service.specs.declared.answers.Busy.{Busy}
use Rattle.ostore_page_service.specs.Told.{Side, Told, OwnedByAnother}

-- beside two pages all is as it was
pub record SameBeside {E : Type 0} (a b : Side E) (p q : ℕ) : Type 0 where
  pub held : (r : ℕ) → r ≢ p → r ≢ q → b.held r ≡ a.held r
  pub owned : (r : ℕ) → r ≢ p → r ≢ q → b.owned r ≡ a.owned r
  pub kept : (r : ℕ) → r ≢ p → r ≢ q → b.kept r ≡ a.kept r
  pub droppable : (r : ℕ) → r ≢ p → r ≢ q → b.droppable r ≡ a.droppable r

-- a page came into use: it isn't owned, and where the client kept no copy, this is its image
pub record ComesIntoUse {E : Type 0} (a b : Side E) (p : ℕ) (image : PageImage) : Type 0 where
  pub owned : b.owned p ≡ false
  pub fetched : a.kept p ≡ None → b.held p ≡ Some image

-- a Busy was counted, and told where the answers are told
pub record IsCounted {E : Type 0} (t u : Told E) (busy : Busy) : Type 0 where
  pub rose : Rose t.busy u.busy
  pub told : u.busies ≡ option_map (λ busies. busies ++ busy ∷ []) t.busies

-- one of two pages was Busy, since another client owns it
pub record MeetsAt {E : Type 0} (t u : Told E) (p q : ℕ) (busy : Busy) : Type 0 where
  pub page : (busy.page.0 ≡ p) ⊎ (busy.page.0 ≡ q)
  pub met : OwnedByAnother t busy.page.0
  pub counted : IsCounted t u busy

-- a Busy names one of two pages, and another client than c owns that one
pub record MeetsOwner {E : Type 0} (sides : ℕ → Side E) (c p q : ℕ) (busy : Busy) : Type 0 where
  pub page : (busy.page.0 ≡ p) ⊎ (busy.page.0 ≡ q)
  pub owner : (d : ℕ) × (d < most_clients) × (d ≢ c) × ((sides d).owned busy.page.0 ≡ true)
