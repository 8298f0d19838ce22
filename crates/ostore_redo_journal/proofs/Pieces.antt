-- Bytes in three pieces: what stands before a gate, the gate, and what stands behind it.
use Rattle.std.proofs.Common.{◌≡◌, ℕ, zero, suc, ◌+◌, ◌-◌, min, List, [], ◌∷◌, ◌++◌, length, get_or, take, drop, refl, sym, ◌∙◌, ap, arith, append_assoc, length-append, take-append-drop}
use Rattle.std.proofs.lemmas.Grind.{common_steps}
use Rattle.std.proofs.lemmas.List.{take_at, drop_at, drop_more}
use Rattle.ostore_base.specs.Disk.{replaced}
use Rattle.ostore_base.specs.Disk.{IsTornRange}

-- where what stands behind the gate is torn, the gate stands
pub torn_behind : (pre : List ℕ) (gate : ℕ) (rest c : List ℕ) (n : ℕ) → IsTornRange (length pre + 1) n (pre ++ gate ∷ rest) c → c ≡ pre ++ gate ∷ drop (length pre + 1) c
torn_behind pre gate rest c n torn =
    let whole : length (pre ++ gate ∷ rest) ≡ length pre + 1 + length rest = omega (arith, length-append pre (gate ∷ rest)) in
    let least : min (length pre + 1) (length (pre ++ gate ∷ rest)) ≡ length pre + 1 = omega arith in
    let again : pre ++ gate ∷ rest ≡ (pre ++ gate ∷ []) ++ rest = sym (append_assoc pre (gate ∷ []) rest) in
    let size : length (pre ++ gate ∷ []) ≡ length pre + 1 = omega (arith, length-append pre (gate ∷ [])) in
    let front : take (length pre + 1) c ≡ pre ++ gate ∷ [] =
    ap (λ (k : ℕ). take k c) (sym least) ∙ torn.before ∙ ap (λ (l : List ℕ). take (length pre + 1) l) again ∙ take_at (pre ++ gate ∷ []) rest (length pre + 1) size in
    sym (take-append-drop (length pre + 1) c) ∙ ap (λ (l : List ℕ). l ++ drop (length pre + 1) c) front ∙ append_assoc pre (gate ∷ []) (drop (length pre + 1) c)

-- where the gate is torn, what stands behind it stands
pub torn_gate : (pre : List ℕ) (gate : ℕ) (rest c : List ℕ) → IsTornRange (length pre) 1 (pre ++ gate ∷ rest) c → c ≡ pre ++ (get_or c (length pre) 0 ∷ (rest ++ drop (length pre + 1 + length rest) c))
torn_gate pre gate rest c torn =
    let whole : length (pre ++ gate ∷ rest) ≡ length pre + 1 + length rest = omega (arith, length-append pre (gate ∷ rest)) in
    let least : min (length pre) (length (pre ++ gate ∷ rest)) ≡ length pre = omega arith in
    let left : length (pre ++ gate ∷ rest) - (length pre + 1) ≡ length rest = omega arith in
    let again : pre ++ gate ∷ rest ≡ (pre ++ gate ∷ []) ++ rest = sym (append_assoc pre (gate ∷ []) rest) in
    let size : length (pre ++ gate ∷ []) ≡ length pre + 1 = omega (arith, length-append pre (gate ∷ [])) in
    let front : take (length pre) c ≡ pre = ap (λ (k : ℕ). take k c) (sym least) ∙ torn.before ∙ take_at pre (gate ∷ rest) (length pre) refl in
    let back : take (length rest) (drop (length pre + 1) c) ≡ rest =
    ap (λ (k : ℕ). take k (drop (length pre + 1) c)) (sym left) ∙ torn.after ∙ ap (λ (l : List ℕ). drop (length pre + 1) l) again ∙ drop_at (pre ++ gate ∷ []) rest (length pre + 1) size in
    let behind : drop (length pre + 1) c ≡ rest ++ drop (length rest) (drop (length pre + 1) c) =
    sym (take-append-drop (length rest) (drop (length pre + 1) c)) ∙ ap (λ (l : List ℕ). l ++ drop (length rest) (drop (length pre + 1) c)) back in
    let far : drop (length rest) (drop (length pre + 1) c) ≡ drop (length pre + 1 + length rest) c = grind (arith, common_steps) in
    let gate_now = get_or c (length pre) 0 in
    let behind_all : drop (length pre + 1) c ≡ rest ++ drop (length pre + 1 + length rest) c = behind ∙ ap (λ (l : List ℕ). rest ++ l) far in
    let from_gate : drop (length pre) c ≡ gate_now ∷ (rest ++ drop (length pre + 1 + length rest) c) =
    drop_more c (length pre) 0 (omega (arith, torn.no_shorter)) ∙ ap (λ (l : List ℕ). gate_now ∷ l) behind_all in
    let parted : c ≡ pre ++ drop (length pre) c = sym (take-append-drop (length pre) c) ∙ ap (λ (l : List ℕ). l ++ drop (length pre) c) front in
    parted ∙ ap (λ (l : List ℕ). pre ++ l) from_gate

pub drop_past : (xs ys : List ℕ) (m n : ℕ) → m ≡ length xs + n → drop m (xs ++ ys) ≡ drop n ys
drop_past [] ys m n is = let same : m ≡ n = omega arith in ap (λ (k : ℕ). drop k ys) same
drop_past (x ∷ xs) ys zero n is = absurd (omega arith)
drop_past (x ∷ xs) ys (suc m) n is = drop_past xs ys m n (omega arith)

pub written_behind : (pre : List ℕ) (gate : ℕ) (rest bytes : List ℕ) → replaced (length pre + 1) bytes (pre ++ gate ∷ rest) ≡ pre ++ (gate ∷ (bytes ++ drop (length bytes) rest))
written_behind pre gate rest bytes =
    let front = pre ++ gate ∷ [] in
    let again : pre ++ gate ∷ rest ≡ front ++ rest = sym (append_assoc pre (gate ∷ []) rest) in
    let size : length front ≡ length pre + 1 = omega (arith, length-append pre (gate ∷ [])) in
    let first : take (length pre + 1) (pre ++ gate ∷ rest) ≡ front = ap (λ (l : List ℕ). take (length pre + 1) l) again ∙ take_at front rest (length pre + 1) size in
    let last : drop (length pre + 1 + length bytes) (pre ++ gate ∷ rest) ≡ drop (length bytes) rest =
    ap (λ (l : List ℕ). drop (length pre + 1 + length bytes) l) again ∙ drop_past front rest (length pre + 1 + length bytes) (length bytes) (omega arith) in
    ap (λ (l : List ℕ). l ++ bytes ++ drop (length pre + 1 + length bytes) (pre ++ gate ∷ rest)) first
    ∙ ap (λ (l : List ℕ). front ++ bytes ++ l) last
    ∙ append_assoc front bytes (drop (length bytes) rest)
    ∙ append_assoc pre (gate ∷ []) (bytes ++ drop (length bytes) rest)

pub written_gate : (pre : List ℕ) (gate value : ℕ) (rest : List ℕ) → replaced (length pre) (value ∷ []) (pre ++ gate ∷ rest) ≡ pre ++ value ∷ rest
written_gate pre gate value rest =
    ap (λ (l : List ℕ). l ++ (value ∷ []) ++ drop (length pre + 1) (pre ++ gate ∷ rest)) (take_at pre (gate ∷ rest) (length pre) refl)
    ∙ ap (λ (l : List ℕ). pre ++ (value ∷ []) ++ l) (drop_past pre (gate ∷ rest) (length pre + 1) 1 refl)
    ∙ append_assoc pre (value ∷ []) rest
