-- What a step of one client leaves of a word, and what a commit leaves of the records.
use Rattle.std.specs.Prelude.{◌≡◌, ◌≢◌, ℕ, ◌+◌, ◌<◌, ◌≤◌, ◌==◌, List, [], ◌∷◌, ◌++◌, IsSome, slice_get}
use Rattle.std.specs.declared.vec.Vec.{Vec}
use Rattle.ostore_base.specs.Limits.{most_clients}
use Rattle.ostore_redo_journal.specs.Drafts.{Writes}
use Rattle.ostore_page_service.specs.Words.{use_of, keep_of, owner}
use Rattle.ostore_page_service.specs.History.{written}
use Rattle.ostore_page_service.specs.Holding.{records_of, room_of}

-- what a step of the client c leaves of the others' parts of a word
pub record Leaves (w new c : ℕ) : Type 0 where
  pub used : (d : ℕ) → d < most_clients → d ≢ c → use_of new d ≡ use_of w d
  pub kept : (d : ℕ) → d < most_clients → d ≢ c → keep_of new d ≡ 1 → keep_of w d ≡ 1
  pub owned : (d : ℕ) → d < most_clients → d ≢ c → (owner new == d + 1) ≡ (owner w == d + 1)

-- the records of the client c gain one, and no others change
pub record AddsRecord {E Z : Type 0} (c : ℕ) (one : E × ℕ) (records news : List (Vec (E × ℕ) Z)) : Type 0 where
  pub mine : records_of (slice_get news c) ≡ records_of (slice_get records c) ++ one ∷ []
  pub others : (d : ℕ) → d ≢ c → slice_get news d ≡ slice_get records d

-- no records change, and the client c may have more room
pub record MakesRoom {E Z : Type 0} (c : ℕ) (records news : List (Vec (E × ℕ) Z)) : Type 0 where
  pub same : (d : ℕ) → records_of (slice_get news d) ≡ records_of (slice_get records d)
  pub more : room_of (slice_get records c) ≤ room_of (slice_get news c)
  pub others : (d : ℕ) → d ≢ c → slice_get news d ≡ slice_get records d

-- the writes are of pages of a list of that length
abbrev pub AreWithin : Writes → ℕ → Type 0
AreWithin writes pages = (p : ℕ) → IsSome (written writes p) → p < pages
