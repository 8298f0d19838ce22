-- What stands in every record.
use Rattle.std.specs.Prelude.{◌≡◌, ℕ, ◌+◌, ◌*◌, ◌<◌, ◌≤◌, ◌^◌, List, length, drop}
use Rattle.ostore_redo_journal.specs.Drafts.{Draft, Ascends}
use Rattle.ostore_redo_journal.specs.declared.layout.TheConstants.{GATE_BYTES, PAGES_IN_RECORD}
use Rattle.ostore_redo_journal.specs.Records.{pages_of, record_size, AreWhole}

-- a record with this room and so many pages has these bytes, room for the next gate among them
pub record IsStored (room count : ℕ) (bytes : List ℕ) : Type 0 where
  pub within : count ≤ room
  pub low : room < 2 ^ 16
  pub size : length bytes ≡ record_size room + GATE_BYTES
  pub ascends : Ascends (pages_of count (drop PAGES_IN_RECORD bytes))

-- what a record says fits its bytes
pub record IsFit (draft : Draft) : Type 0 where
  pub client : draft.client < 2 ^ 16
  pub ordinal : draft.ordinal < 2 ^ 32
  pub count : length draft.pages < 2 ^ 16
  pub whole : AreWhole draft.pages
  pub ascends : Ascends draft.pages
