-- A number that is written into the part of an image from a place on.
use Rattle.std.proofs.Common.{◌≡◌, ℕ, ◌+◌, List, [], ◌++◌, length, take, drop, sym, ap, ◌∙◌, arith}
use Rattle.std.proofs.lemmas.List.{append-nil, append_assoc, drop-drop, drop_all, take_all, length-drop}
use Rattle.ostore_base.specs.Disk.{replaced}
use borrow.Rule.Slice.PartMut.{put_mid}

-- the part behind a place begins with other bytes, and goes on as it did
pub put_mid-replaced : (at k : ℕ) (held bytes part : List ℕ) → length held ≡ at + k → part ≡ bytes ++ drop (length bytes) (take k (drop at held)) → put_mid at k held part ≡ replaced at bytes held
put_mid-replaced at k held bytes part h e =
    let whole : take k (drop at held) ≡ drop at held = take_all k (drop at held) (omega (arith, length-drop at held)) in
    let behind : drop k (drop at held) ≡ [] = drop_all k (drop at held) (omega (arith, length-drop at held)) in
    let rest = ap (λ (xs : List ℕ). bytes ++ drop (length bytes) xs) whole ∙ ap (λ (xs : List ℕ). bytes ++ xs) (drop-drop (length bytes) at held) in
    ap (λ (xs : List ℕ). take at held ++ (part ++ xs)) behind
    ∙ ap (λ (xs : List ℕ). take at held ++ xs) (append-nil part ∙ e ∙ rest)
    ∙ sym (append_assoc (take at held) bytes (drop (at + length bytes) held))
