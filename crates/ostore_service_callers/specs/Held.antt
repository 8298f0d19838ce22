-- What a caller holds.
use Rattle.std.specs.Prelude.{◌≡◌, ◌≢◌, ℕ, ◌<◌, true, false, List, Option, Some, None, All}
use Rattle.ostore_base.specs.declared.page.PageImage.{PageImage}
use Rattle.ostore_page_service.specs.Told.{Side}
use Rattle.ostore_service_callers.specs.declared.sums.Addition.{Addition}

-- both pages are held, and no other
pub record HoldsBoth (held : ℕ → Option PageImage) (p q : ℕ) : Type 0 where
  pub one : (x : PageImage) × (held p ≡ Some x)
  pub two : (x : PageImage) × (held q ≡ Some x)
  pub rest : (r : ℕ) → r ≢ p → r ≢ q → held r ≡ None

-- no page is held
abbrev pub HoldsNone : (ℕ → Option PageImage) → Type 0
HoldsNone held = (p : ℕ) → held p ≡ None

-- a client doesn't use the page and keeps no copy of it, and owns no page
pub record MayFetch {E : Type 0} (side : Side E) (page : ℕ) : Type 0 where
  pub held : side.held page ≡ None
  pub kept : side.kept page ≡ None
  pub owned : (p : ℕ) → side.owned p ≡ false

-- it owns no page
abbrev pub OwnsNone : {E : Type 0} → Side E → Type 0
OwnsNone side = (p : ℕ) → side.owned p ≡ false

-- it owns this page alone
pub record OwnsOne {E : Type 0} (side : Side E) (page : ℕ) : Type 0 where
  pub mine : side.owned page ≡ true
  pub others : (q : ℕ) → q ≢ page → side.owned q ≡ false

-- all entries have lower ordinals
abbrev pub AreEarlier : List (Addition × ℕ) → ℕ → Type 0
AreEarlier records ordinal = All (λ (r : Addition × ℕ). r.0.ordinal < ordinal) records

-- a client may add to the page with this ordinal
pub record MayAdd (side : Side Addition) (page ordinal : ℕ) : Type 0 where
  pub free : MayFetch side page
  pub earlier : AreEarlier side.records ordinal
