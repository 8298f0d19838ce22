-- The laws of a disk, of a disk in memory.
use Rattle.std.specs.Prelude.{ℕ, zero, suc, ◌≤◌, List, [], ◌∷◌, length}
use Rattle.std.proofs.Common.{refl, arith}
use Rattle.std.proofs.lemmas.Grind.{common_steps}
use Rattle.ostore_base.specs.Disk.{replaced, IsTornRange}
use Rattle.ostore_base.specs.declared.memory.disk_call.DiskCall.{DiskCall}
use Rattle.ostore_base.specs.declared.memory.disk_call.DiskCall.TheVariants.{Written, Torn, Synced}
use Rattle.ostore_base.specs.MemoryDisk.{content_after, IsImage, LeftSince}

done : (at : ℕ) (bytes held : List ℕ) → IsTornRange at (length bytes) held (replaced at bytes held)
done at bytes held = record { before = grind (arith, common_steps); after = grind (arith, common_steps); no_shorter = grind (arith, common_steps) }

undone : (at n : ℕ) (held : List ℕ) → IsTornRange at n held held
undone at n held = record { before = grind (arith, common_steps); after = grind (arith, common_steps); no_shorter = omega arith }

-- what the disk reads as is one of its images
pub content_is_image : (first : List ℕ) (past : List DiskCall) → IsImage first past (content_after first past)
content_is_image first [] = refl
content_is_image first (Written at bytes ∷ past) = (content_after first past, content_is_image first past, done at bytes (content_after first past))
content_is_image first (Torn at size ∷ past) = (content_after first past, content_is_image first past, undone at size (content_after first past))
content_is_image first (Synced ∷ past) = refl

-- this moment is one of those since an earlier one
pub left_now : (first : List ℕ) (past : List DiskCall) (t : ℕ) (image : List ℕ) → t ≤ length past → IsImage first past image → LeftSince first past t image
left_now first past t image le is = (0, omega arith, is)

-- since this moment there is no other
pub only_left : (first : List ℕ) (past : List DiskCall) (image : List ℕ) → LeftSince first past (length past) image → IsImage first past image
only_left first past image (zero, le, is) = is
only_left first past image (suc j, le, is) = absurd (omega arith)
