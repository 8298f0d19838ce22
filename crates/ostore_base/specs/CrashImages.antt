-- Which images of a crash a disk in memory builds, for tests.
use Rattle.std.specs.Prelude.{ℕ, ◌-◌, ◌/◌, ◌≤◌, List, [], ◌∷◌, ◌++◌, length, take, drop, replicate, map, All, Contains}
use Rattle.ostore_base.specs.Disk.{replaced}
use Rattle.ostore_base.specs.declared.memory.disk_call.DiskCall.{DiskCall}
use Rattle.ostore_base.specs.declared.memory.disk_call.DiskCall.TheVariants.{Written, Torn, Synced}
use Rattle.ostore_base.specs.declared.memory.crashes.Remains.{Remains}
use Rattle.ostore_base.specs.declared.memory.crashes.Remains.TheVariants.{Whole, Nothing, FirstHalf, Filled}
use Rattle.ostore_base.specs.MemoryDisk.{content_after}

-- a byte at each place of a range, and five more past the end
abbrev pub filled : ℕ → ℕ → ℕ → List ℕ → List ℕ
filled byte at n held = replaced at (replicate n byte) held ++ replicate 5 byte

-- what is held after so much of a write remains
abbrev pub remaining : Remains → ℕ → List ℕ → List ℕ → List ℕ
remaining Whole at bytes held = replaced at bytes held
remaining Nothing at bytes held = held
remaining FirstHalf at bytes held = replaced at (take (length bytes / 2) bytes) held
remaining (Filled byte) at bytes held = filled byte at (length bytes) held

-- the same of a write that failed, of which no byte is known
abbrev pub remaining_torn : Remains → ℕ → ℕ → List ℕ → List ℕ
remaining_torn Whole at n held = held
remaining_torn Nothing at n held = held
remaining_torn FirstHalf at n held = held
remaining_torn (Filled byte) at n held = filled byte at n held

-- After a crash: so much remains of the newest write, and so much of each one before it, back to the last sync.
abbrev pub image_left : List ℕ → List DiskCall → Remains → Remains → List ℕ
image_left first [] newest others = first
image_left first (Written at bytes ∷ past) newest others = remaining newest at bytes (image_left first past others others)
image_left first (Torn at size ∷ past) newest others = remaining_torn newest at size (image_left first past others others)
image_left first (Synced ∷ past) newest others = content_after first past

-- what remains of the newest write, and of each one before it, in the ten cases that are tried
abbrev pub cases_tried : ℕ → List (Remains × Remains)
cases_tried filler =
    (Whole, Whole) ∷ (Nothing, Nothing) ∷ (FirstHalf, FirstHalf) ∷ (Filled filler, Filled filler)
    ∷ (Nothing, Whole) ∷ (FirstHalf, Whole) ∷ (Filled filler, Whole)
    ∷ (Whole, Nothing) ∷ (Whole, FirstHalf) ∷ (Whole, Filled filler) ∷ []

-- the images of one moment
abbrev pub tried : List ℕ → List DiskCall → ℕ → List (List ℕ)
tried first past filler = map (λ (case : Remains × Remains). image_left first past case.0 case.1) (cases_tried filler)

-- those of the first t calls, and of each call more, are among these
abbrev pub TriesAll : List ℕ → List DiskCall → ℕ → ℕ → List (List ℕ) → Type 0
TriesAll first past t filler images =
    (moment : ℕ) → t ≤ moment → moment ≤ length past
    → All (Contains images) (tried first (drop (length past - moment) past) filler)
