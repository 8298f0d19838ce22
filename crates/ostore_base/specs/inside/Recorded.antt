-- How a disk in memory keeps the record of its calls.
use Rattle.std.specs.Prelude.{◌≡◌, ◌⊎◌, ℕ, ◌<◌, List, [], ◌∷◌, Option, Some, None, Vec, ⊤}
use Rattle.std.specs.declared.alloc.Global.{Global}
use Rattle.ostore_base.specs.declared.memory.disk_call.DiskCall.{DiskCall}
use Rattle.ostore_base.specs.declared.memory.disk_call.DiskCall.TheVariants.{Written, Torn, Synced}
use Rattle.ostore_base.specs.MemoryDisk.{DiskState, content_after}

-- what a disk held at first, where a copy is kept from the first write on
abbrev pub first_of : Option (Vec ℕ Global) → List ℕ → List ℕ
first_of None bytes = bytes
first_of (Some opening) bytes = opening.items

-- a sync makes a difference
abbrev pub IsUnsure : List DiskCall → Type 0
IsUnsure [] = ⊥
IsUnsure (Synced ∷ past) = ⊥
IsUnsure (Written at bytes ∷ past) = ⊤
IsUnsure (Torn at size ∷ past) = ⊤

-- the bytes are those that the calls give, and there is room to record a sync
pub record IsRecorded (first bytes : List ℕ) (past : List DiskCall) (len capacity : ℕ) : Type 0 where
  pub right : bytes ≡ content_after first past
  pub room : IsUnsure past → len < capacity

-- a sync that succeeded is recorded where it makes a difference
pub record RecordsSync (old new : DiskState) : Type 0 where
  pub same_first : new.first ≡ old.first
  pub recorded : (new.past ≡ Synced ∷ old.past) ⊎ ((new.past ≡ old.past) × (IsUnsure old.past → ⊥))

-- a write of so many bytes that failed is recorded where there is memory
pub record RecordsTorn (at size : ℕ) (old new : DiskState) : Type 0 where
  pub same_first : new.first ≡ old.first
  pub recorded : (new.past ≡ old.past) ⊎ (new.past ≡ Torn at size ∷ old.past)

-- a write is recorded
pub record RecordsWrite (at : ℕ) (bytes : List ℕ) (old new : DiskState) : Type 0 where
  pub same_first : new.first ≡ old.first
  pub recorded : new.past ≡ Written at bytes ∷ old.past
