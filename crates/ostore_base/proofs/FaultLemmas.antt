-- Counts of faults over several calls.
use Rattle.std.proofs.Common.{◌≡◌, ℕ, ◌+◌, ◌-◌, ◌^◌, ◌≤◌, Result, Ok, Err, IsOk, IsErr, false, true, refl, arith}
use Rattle.ostore_base.specs.Faults.{Rose, HasCause}

-- what rose later had risen
pub Rose-later : (before middle now : ℕ) → before ≤ middle → Rose middle now → Rose before now
Rose-later before middle now later rose = omega arith

-- what had risen stays so
pub Rose-stays : (before middle now : ℕ) → Rose before middle → middle ≤ now → Rose before now
Rose-stays before middle now rose later = omega arith

-- below the end of 64 bits, to rise is to be more
pub Rose-more : (before now : ℕ) → Rose before now → before + 1 ≤ 2 ^ 64 - 1 → before + 1 ≤ now
Rose-more before now rose room = omega arith

-- a call that succeeded and met nothing of the outside
pub HasCause-kept : {T E : Type 0} (count : ℕ) (result : Result T E) → IsOk result → HasCause count count result
HasCause-kept count (Ok x) ok = record { later = omega arith; failed = λ err. absurd (let no : false ≡ true = err in cc); done = λ _. refl }
HasCause-kept count (Err e) ok = absurd (let no : false ≡ true = ok in cc)

-- the cause of a result is that of any other of the same kind
pub HasCause-same : {T U E F : Type 0} (before now : ℕ) (first : Result T E) (second : Result U F) → (IsErr second → IsErr first) → (IsOk second → IsOk first) → HasCause before now first → HasCause before now second
HasCause-same before now first second errs oks cause =
    record { later = cause.later; failed = λ h. cause.failed (errs h); done = λ h. cause.done (oks h) }

-- a call that succeeded, and then another
pub HasCause-then : {T U E F : Type 0} (before middle now : ℕ) (first : Result T E) (second : Result U F) → IsOk first → HasCause before middle first → HasCause middle now second → HasCause before now second
HasCause-then before middle now first second ok left right =
    let here : middle ≡ before = left.done ok in
    record { later = omega arith; failed = λ h. let rose = right.failed h in omega arith; done = λ h. let same : now ≡ middle = right.done h in cc }
