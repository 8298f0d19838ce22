-- What the parts of a call of the server leave.
use Rattle.std.specs.Prelude.{◌≡◌, ◌≢◌, ℕ, ◌<◌, Some, slice_get, slice_set}
use Rattle.ostore_base.specs.Limits.{most_clients}
use Rattle.ostore_page_service.specs.declared.kind.Kind as kind
use Rattle.ostore_page_service.specs.declared.word.Word.{Word}
use Rattle.ostore_page_service.specs.declared.server.SeqServer.{SeqServer}
use Rattle.ostore_page_service.specs.Words.{Wants}
use Rattle.ostore_page_service.specs.Told.{Undisturbed, SameElsewhere, SamePages}
use Rattle.ostore_page_service.specs.Servers.{side_of}
use Rattle.ostore_page_service.specs.inside.Steps.{Leaves}

module _ {K D E S : Type 0} {g : kind.Ghosts K E S} (s : SeqServer K D E S g) where
  -- another word for the page leaves the parts of all clients but c
  abbrev pub LeavesThere : ℕ → ℕ → ℕ → Type 0
  LeavesThere p new c = (w : Word) → slice_get s.words.items p ≡ Some w → Leaves w.0 new c

  module _ (t : SeqServer K D E S g) where
    -- what is held for every client but c stays
    abbrev pub LeavesOthers : ℕ → Type 0
    LeavesOthers c = (d : ℕ) → d < most_clients → d ≢ c → Undisturbed (side_of s d) (side_of t d)

    -- what is held for c stays, but of the page p
    abbrev pub LeavesElsewhere : ℕ → ℕ → Type 0
    LeavesElsewhere c p = SameElsewhere (side_of s c) (side_of t c) p

    -- what is held for c stays
    abbrev pub LeavesPages : ℕ → Type 0
    LeavesPages c = SamePages (side_of s c) (side_of t c)

    -- the page's word gets its bit `wanted`, and no word changes else
    abbrev pub IsWanted : ℕ → ℕ → Type 0
    IsWanted p w = (new : Word) × (t.words.items ≡ slice_set s.words.items p new) × Wants w new.0
