-- What a crash may leave of a disk's bytes: now, and at the moments since an earlier one. An image is
-- the bytes that are found after a crash.
use Rattle.std.specs.Prelude.{◌≡◌, ◌⊎◌, ℕ, ◌+◌, ◌≤◌, List, [], ◌∷◌, length, Option, IfSome}
use Rattle.ostore_base.specs.Disk.{replaced, IsTornRange}

-- each new image is an old one after a step
abbrev pub Follows : (List ℕ → List ℕ → Type 0) → (List ℕ → Type 0) → (List ℕ → Type 0) → Type 0
Follows step old new = (image : List ℕ) → new image → (before : List ℕ) × old before × step before image

-- no image is new
abbrev pub Keeps : (List ℕ → Type 0) → (List ℕ → Type 0) → Type 0
Keeps old new = (image : List ℕ) → new image → old image

-- where the disk tells what it reads as, a crash leaves that
abbrev pub IsSure : Option (List ℕ) → (List ℕ → Type 0) → Type 0
IsSure told images = IfSome told (λ held. (image : List ℕ) → images image → image ≡ held)

-- Time goes on: a crash since t might have left what it might have left before, or what it may leave
-- now.
pub record Elapses (before now : ℕ) (past since : ℕ → List ℕ → Type 0) (may_leave : List ℕ → Type 0) : Type 0 where
  pub later : before ≤ now
  pub nothing_else : (t : ℕ) (image : List ℕ) → t ≤ before → since t image → past t image ⊎ may_leave image
  pub keeps : (t : ℕ) (image : List ℕ) → t ≤ before → past t image → since t image

-- a crash at any moment from old to new leaves an image that has P, also where the run began earlier
pub record LeavesOnly {D : Type 0} (moment : D → ℕ) (left_since : D → ℕ → List ℕ → Type 0) (old new : D) (P : List ℕ → Type 0) : Type 0 where
  pub later : moment old ≤ moment new
  pub each : (image : List ℕ) → left_since new (moment old) image → P image
  pub before : (t : ℕ) (image : List ℕ) → t ≤ moment old → left_since new t image → left_since old t image ⊎ P image

-- an image comes by a step from what the disk reads as, where it tells
abbrev pub OfTold : Option (List ℕ) → (List ℕ → List ℕ → Type 0) → List ℕ → Type 0
OfTold told step image = IfSome told (λ held. step held image)

-- While bytes are written behind a gate, which is then opened: the bytes behind it are torn, or they
-- stand there and the gate is torn.
abbrev pub IsTornAtGate : ℕ → List ℕ → List ℕ → List ℕ → Type 0
IsTornAtGate gate behind old new =
    IsTornRange (gate + 1) (length behind) old new
    ⊎ IsTornRange gate 1 (replaced (gate + 1) behind old) new

-- bytes that stand behind an open gate
abbrev pub opened_at : ℕ → List ℕ → List ℕ → List ℕ
opened_at gate behind held = replaced gate (1 ∷ []) (replaced (gate + 1) behind held)
