-- Of which pages a client keeps its copy, in a call and when its attempt ends.
use Rattle.std.specs.Prelude.{◌≡◌, ℕ, Bool, true, false, not, ◌&&◌}
use Rattle.ostore_page_service.specs.declared.answers.Released.{Released}
use Rattle.ostore_page_service.specs.declared.answers.Released.TheVariants.{Kept, GivenUp}
use Rattle.ostore_page_service.specs.Told.{Side}
use Rattle.ostore_client_core.specs.Calls.{keeps}

-- the service says of a page that was released that the client may keep its copy
abbrev pub may_keep : Released → Bool
may_keep Kept = true
may_keep GivenUp = false

-- the service keeps of these pages what it kept for the client
abbrev pub KeepsCopies : {E : Type 0} → (ℕ → Type 0) → Side E → Side E → Type 0
KeepsCopies these before after = (page : ℕ) → these page → after.kept page ≡ before.kept page

abbrev pub any_page : ℕ → Type 0
any_page page = Unit {0}

module _ {T E : Type 0} (releases : T → ℕ → Released → T → Type 0) where
  -- a page was released by a call of the service, and its copy is kept exactly where the answer allows it, unless it is void
  pub record IsReleased (void : Bool) (mine : Side E) (page : ℕ) : Type 0 where
    pub before : T
    pub after : T
    pub answer : Released
    pub called : releases before page answer after
    pub kept : keeps mine page ≡ (may_keep answer && not void)
