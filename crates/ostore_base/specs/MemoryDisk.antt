-- A disk in memory: what it held at first, and the calls since.
use Rattle.std.specs.Prelude.{◌≡◌, ℕ, ◌+◌, ◌≤◌, List, [], ◌∷◌, length, drop, Option, None}
use Rattle.ostore_base.specs.Disk.{replaced, IsTornRange}
use Rattle.ostore_base.specs.Images.{Elapses}
use Rattle.ostore_base.specs.Memory.{MemoryState}
use Rattle.ostore_base.specs.declared.memory.disk_call.DiskCall.{DiskCall}
use Rattle.ostore_base.specs.declared.memory.disk_call.DiskCall.TheVariants.{Written, Torn, Synced}

-- what the disk held at first; the calls that changed it, or made sure of what it holds, the newest
-- first; the numbers of the calls that fail, and the number from which on all fail; how many calls
-- there were, and how many of them failed
pub record DiskState : Type 0 where
  pub first : List ℕ
  pub past : List DiskCall
  pub fails : List ℕ
  pub stop : Option ℕ
  pub calls : ℕ
  pub faults : ℕ

-- no call was made yet
abbrev pub fresh_disk : List ℕ → List ℕ → DiskState
fresh_disk bytes fails = record {
  first = bytes;
  past = [];
  fails = fails;
  stop = None;
  calls = 0;
  faults = 0;
}

-- what the disk reads as after these calls
abbrev pub content_after : List ℕ → List DiskCall → List ℕ
content_after first [] = first
content_after first (Written at bytes ∷ past) = replaced at bytes (content_after first past)
content_after first (Torn at size ∷ past) = content_after first past
content_after first (Synced ∷ past) = content_after first past

-- what it reads as
abbrev pub reads : DiskState → List ℕ
reads state = content_after state.first state.past

-- the same as bytes in memory
abbrev pub memory_of : DiskState → MemoryState
memory_of state = record {
  bytes = reads state;
  fails = state.fails;
  stop = state.stop;
  calls = state.calls;
  faults = state.faults;
}

-- what a crash may leave after these calls
abbrev pub IsImage : List ℕ → List DiskCall → List ℕ → Type 0
IsImage first [] image = image ≡ first
IsImage first (Written at bytes ∷ past) image =
    (before : List ℕ) × IsImage first past before × IsTornRange at (length bytes) before image
IsImage first (Torn at size ∷ past) image =
    (before : List ℕ) × IsImage first past before × IsTornRange at size before image
IsImage first (Synced ∷ past) image = image ≡ content_after first past

-- what a crash might have left after the first t of the calls, or after more of them
abbrev pub LeftSince : List ℕ → List DiskCall → ℕ → List ℕ → Type 0
LeftSince first past t image = (j : ℕ) × (j + t ≤ length past) × IsImage first (drop j past) image

-- what a crash may leave of the disk, and what it might have left since the first t calls
abbrev pub MayLeave : DiskState → List ℕ → Type 0
MayLeave state = IsImage state.first state.past

abbrev pub MightHaveLeft : DiskState → ℕ → List ℕ → Type 0
MightHaveLeft state = LeftSince state.first state.past

-- time goes on from one state to another
abbrev pub Passes : DiskState → DiskState → Type 0
Passes old new =
    Elapses (length old.past) (length new.past) (MightHaveLeft old) (MightHaveLeft new) (MayLeave new)

-- no call was recorded, and the bytes are as they were
pub record KeepsPast (old new : DiskState) : Type 0 where
  pub same_first : new.first ≡ old.first
  pub same_past : new.past ≡ old.past
