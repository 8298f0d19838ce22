-- The outside in memory: what stands there, and which calls fail.
use Rattle.std.specs.Prelude.{◌≡◌, ◌⊎◌, ℕ, ◌+◌, ◌≤◌, List, Contains, Option, None, Some, IsSomeAnd}
use Rattle.ostore_base.specs.Faults.{one_more}

-- the bytes that a source has left, a sink was given or a disk holds; the numbers of the calls that
-- fail, counted from 1, and the number from which on all fail; how many calls there were, and how many
-- of them failed
pub record MemoryState : Type 0 where
  pub bytes : List ℕ
  pub fails : List ℕ
  pub stop : Option ℕ
  pub calls : ℕ
  pub faults : ℕ

-- no call was made yet
abbrev pub fresh : List ℕ → List ℕ → MemoryState
fresh bytes fails = record { bytes = bytes; fails = fails; stop = None; calls = 0; faults = 0 }

-- with other bytes
abbrev pub holding : List ℕ → MemoryState → MemoryState
holding bytes state = record state { bytes = bytes }

-- with one fault more
abbrev pub after_fault : MemoryState → MemoryState
after_fault state = record state { faults = one_more state.faults }

-- this call and all later ones fail
abbrev pub stopping_at : ℕ → MemoryState → MemoryState
stopping_at call state = record state { stop = Some call }

-- the next call is one of those that fail
abbrev pub IsNextNamed : MemoryState → Type 0
IsNextNamed state =
    Contains state.fails (state.calls + 1) ⊎ IsSomeAnd state.stop (λ call. call ≤ state.calls + 1)

-- one call more, and the same calls that fail
pub record CountsCall (old new : MemoryState) : Type 0 where
  pub same_fails : new.fails ≡ old.fails
  pub same_stop : new.stop ≡ old.stop
  pub one_more : new.calls ≡ one_more old.calls
