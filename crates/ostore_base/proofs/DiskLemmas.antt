-- What a write leaves of a disk's bytes.
use Rattle.std.proofs.Common.{◌≡◌, ℕ, ◌+◌, ◌≤◌, max, List, ◌++◌, length, take, drop, arith}
use Rattle.std.proofs.lemmas.Grind.{common_steps}
use Rattle.ostore_base.specs.Disk.{replaced}

pub length-replaced : (at : ℕ) (bytes held : List ℕ) → at ≤ length held → length (replaced at bytes held) ≡ max (length held) (at + length bytes)
length-replaced at bytes held within = grind (arith, common_steps)

-- before the place nothing changes
pub take-replaced : (at : ℕ) (bytes held : List ℕ) (n : ℕ) → n ≤ at → at ≤ length held → take n (replaced at bytes held) ≡ take n held
take-replaced at bytes held n below within = grind (arith, common_steps)

-- behind the bytes nothing changes
pub drop-replaced : (at : ℕ) (bytes held : List ℕ) → at ≤ length held → drop (at + length bytes) (replaced at bytes held) ≡ drop (at + length bytes) held
drop-replaced at bytes held within = grind (arith, common_steps)

-- what was written is read
pub read-replaced : (at : ℕ) (bytes held : List ℕ) → at ≤ length held → take (length bytes) (drop at (replaced at bytes held)) ≡ bytes
read-replaced at bytes held within = grind (arith, common_steps)

-- bytes written at the end
pub replaced-end : (bytes held : List ℕ) → replaced (length held) bytes held ≡ held ++ bytes
replaced-end bytes held = grind (arith, common_steps)
