-- The row of a root, piece by piece.
use Rattle.std.proofs.Common.{◌≡◌, ℕ, suc, ◌+◌, ◌-◌, ◌≤◌, List, [], ◌∷◌, ◌++◌, length, take, drop, replicate, sym, ap, ◌∙◌, arith}
use Rattle.std.proofs.lemmas.List.{append_assoc, drop-replicate, length-append, length-replicate, replicate-append-replicate}
use Rattle.std.proofs.Math.Seq.{take-append_seam, drop-append-add}
use Rattle.byteorder.specs.Endian.{little_bytes}
use Rattle.byteorder.specs.Numbers.{length-bytes_low_first}
use Rattle.ostore_base.specs.Disk.{replaced}
use Rattle.ostore_segments.specs.Edits.{root_row}

named : (name : List ℕ) (n : ℕ) → length name ≤ 31 → replaced 1 name (replaced 0 (n ∷ []) (replicate 40 0)) ≡ (n ∷ name ++ replicate (31 - length name) 0) ++ replicate 8 0
named name n short =
    let one : 1 + length name ≡ suc (length name) = omega arith in
    let left : 39 - length name ≡ (31 - length name) + 8 = omega arith in
    ap (λ k. (n ∷ name) ++ drop k (n ∷ replicate 39 0)) one
    ∙ ap (λ (l : List ℕ). (n ∷ name) ++ l)
    (drop-replicate (length name) 39 0 ∙ ap (λ k. replicate k 0) left ∙ sym (replicate-append-replicate (31 - length name) 8 0))
    ∙ ap (λ (l : List ℕ). n ∷ l) (sym (append_assoc name (replicate (31 - length name) 0) (replicate 8 0)))

pub row_made : (name : List ℕ) (pointer : ℕ) → length name ≤ 31 → replaced 32 (little_bytes 4 pointer) (replaced 1 name (replaced 0 (length name ∷ []) (replicate 40 0))) ≡ root_row name pointer
row_made name pointer short =
    let front : List ℕ = length name ∷ name ++ replicate (31 - length name) 0 in
    let le : length (little_bytes 4 pointer) ≡ 4 = length-bytes_low_first 0 4 pointer in
    let some : length (replicate {A = ℕ} (31 - length name) 0) ≡ 31 - length name = length-replicate (31 - length name) 0 in
    let parts = length-append name (replicate (31 - length name) 0) in
    let long : length front ≡ 32 = omega arith in
    let stop : 32 + length (little_bytes 4 pointer) ≡ length front + 4 = omega arith in
    ap (replaced 32 (little_bytes 4 pointer)) (named name (length name) short)
    ∙ ap (λ k. take k (front ++ replicate 8 0) ++ little_bytes 4 pointer ++ drop (32 + length (little_bytes 4 pointer)) (front ++ replicate 8 0)) (sym long)
    ∙ ap (λ (l : List ℕ). l ++ little_bytes 4 pointer ++ drop (32 + length (little_bytes 4 pointer)) (front ++ replicate 8 0)) (take-append_seam front (replicate 8 0))
    ∙ ap (λ k. front ++ little_bytes 4 pointer ++ drop k (front ++ replicate 8 0)) stop
    ∙ ap (λ (l : List ℕ). front ++ little_bytes 4 pointer ++ l) (drop-append-add front (replicate 8 0) 4)
