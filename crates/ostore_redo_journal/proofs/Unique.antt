-- Bytes read as one list of records at most.
use Rattle.std.proofs.Common.{◌≡◌, ◌⊎◌, inl, inr, ℕ, suc, ◌+◌, ◌*◌, ◌<◌, ◌≤◌, ◌^◌, List, [], ◌∷◌, ◌++◌, length, get_or, take, drop, All, refl, sym, ◌∙◌, ap, subst, arith, append_assoc}
use Rattle.std.proofs.lemmas.List.{take_at, drop_at, take-take}
use Rattle.std.proofs.lemmas.Nat.{from_le_bytes-to_le_bytes_2, from_le_bytes-to_le_bytes_4}
use Rattle.ostore_redo_journal.specs.Records.{Logged, behind_gate, log_bytes, IsLawful, u16_at, u32_at, u64_at, pages_of, record_in}
use Rattle.ostore_redo_journal.specs.declared.header.Header.{Header}
use Rattle.ostore_redo_journal.specs.OnDisk.{ReadsAs, IsClosed, IsOld}
use Rattle.ostore_redo_journal.specs.Headers.{HasHeader, IsCurrent, journal_at}
use Rattle.ostore_redo_journal.proofs.RoundTrips.{length_behind, count_read, pages_read}

-- a record is what its bytes say
pub record_same : (limit g n : ℕ) (r : Logged) → limit ≤ 2 ^ 32 → IsLawful limit r → record_in (behind_gate g n r) ≡ r
record_same limit g n r fits lawful =
    let client = from_le_bytes-to_le_bytes_2 r.client lawful.client in
    let ordinal = from_le_bytes-to_le_bytes_4 r.ordinal lawful.ordinal_fits in
    let pages : pages_of (u16_at (behind_gate g n r) 18) (drop 20 (behind_gate g n r)) ≡ r.pages =
    ap (λ (k : ℕ). pages_of k (drop 20 (behind_gate g n r))) (count_read g n limit r lawful) ∙ pages_read limit 0 r.pages fits lawful.whole lawful.ascending in
    λ i. record { client = client i; ordinal = ordinal i; pages = pages i }

heads : (x y : ℕ) (xs ys : List ℕ) → x ∷ xs ≡ y ∷ ys → x ≡ y
heads x y xs ys is = ap (λ (l : List ℕ). get_or l 0 0) is

abbrev pub Ends : ℕ → List Logged → List ℕ → Type 0
Ends g rs rest = IsClosed rest ⊎ ((length rs ≡ 0) × IsOld g rest)

-- an end is no record
pub no_record : (g n : ℕ) (r : Logged) (rest more : List ℕ) → g < 2 ^ 32 → Ends g [] rest → rest ≡ (1 ∷ behind_gate g n r) ++ more → ⊥
no_record g n r rest more small (inl closed) is = closed.3 (heads closed.0 1 closed.1 (behind_gate g n r ++ more) (sym closed.2 ∙ is))
no_record g n r rest more small (inr (none, (behind_old, is_old, long, older))) is =
    let behind : behind_old ≡ behind_gate g n r ++ more = ap (λ (l : List ℕ). drop 1 l) (sym is_old ∙ is) in
    let same : u32_at behind_old 0 ≡ g = ap (λ (l : List ℕ). u32_at l 0) behind ∙ from_le_bytes-to_le_bytes_4 g small in
    omega (arith, same, older)

-- one record at a time
pub record Firsts (r s : Logged) (xs ys : List ℕ) : Type 0 where
  pub same : r ≡ s
  pub rest : xs ≡ ys

pub firsts : (limit g n : ℕ) (r s : Logged) (xs ys : List ℕ) → limit ≤ 2 ^ 32 → IsLawful limit r → IsLawful limit s → (1 ∷ behind_gate g n r) ++ xs ≡ (1 ∷ behind_gate g n s) ++ ys → Firsts r s xs ys
firsts limit g n r s xs ys fits right good is =
    let counts : length r.pages ≡ length s.pages = sym (count_read g n limit r right) ∙ ap (λ (l : List ℕ). u16_at (take 20 (drop 1 l)) 18) is ∙ count_read g n limit s good in
    let first : length (behind_gate g n r) ≡ 20 + 4100 * length s.pages = length_behind g n r right.whole ∙ ap (λ (k : ℕ). 20 + 4100 * k) counts in
    let second : length (behind_gate g n s) ≡ 20 + 4100 * length s.pages = length_behind g n s good.whole in
    let size = 20 + 4100 * length s.pages in
    let inner : behind_gate g n r ++ xs ≡ behind_gate g n s ++ ys = ap (drop 1) is in
    let bytes : behind_gate g n r ≡ behind_gate g n s = sym (take_at (behind_gate g n r) xs size first) ∙ ap (take size) inner ∙ take_at (behind_gate g n s) ys size second in
    record {
      same = sym (record_same limit g n r fits right) ∙ ap record_in bytes ∙ record_same limit g n s fits good;
      rest = sym (drop_at (behind_gate g n r) xs size first) ∙ ap (drop size) inner ∙ drop_at (behind_gate g n s) ys size second;
    }

only_closed : (g : ℕ) (r : Logged) (rs : List Logged) (rest : List ℕ) → Ends g (r ∷ rs) rest → Ends g rs rest
only_closed g r rs rest (inl closed) = inl closed
only_closed g r rs rest (inr old) = absurd (omega (arith, old.0))

pub log_unique : (limit g n : ℕ) (rs ss : List Logged) (xs ys : List ℕ) → limit ≤ 2 ^ 32 → g < 2 ^ 32 → All (IsLawful limit) rs → All (IsLawful limit) ss → Ends g rs xs → Ends g ss ys → log_bytes g n rs ++ xs ≡ log_bytes g n ss ++ ys → rs ≡ ss
log_unique limit g n [] [] xs ys fits small right good ends stops is = refl
log_unique limit g n [] (s ∷ ss) xs ys fits small right good ends stops is =
    absurd (no_record g (n + 1) s xs (log_bytes g (n + 1) ss ++ ys) small ends (is ∙ append_assoc (1 ∷ behind_gate g (n + 1) s) (log_bytes g (n + 1) ss) ys))
log_unique limit g n (r ∷ rs) [] xs ys fits small right good ends stops is =
    absurd (no_record g (n + 1) r ys (log_bytes g (n + 1) rs ++ xs) small stops (sym is ∙ append_assoc (1 ∷ behind_gate g (n + 1) r) (log_bytes g (n + 1) rs) xs))
log_unique limit g n (r ∷ rs) (s ∷ ss) xs ys fits small right good ends stops is =
    let both = firsts limit g (n + 1) r s (log_bytes g (n + 1) rs ++ xs) (log_bytes g (n + 1) ss ++ ys) fits (right 0 r (omega arith)) (good 0 s (omega arith))
    (sym (append_assoc (1 ∷ behind_gate g (n + 1) r) (log_bytes g (n + 1) rs) xs) ∙ is ∙ append_assoc (1 ∷ behind_gate g (n + 1) s) (log_bytes g (n + 1) ss) ys) in
    let rest = log_unique limit g (n + 1) rs ss xs ys fits small (λ k d below. right (suc k) d (omega (arith, below))) (λ k d below. good (suc k) d (omega (arith, below))) (only_closed g r rs xs ends) (only_closed g s ss ys stops) both.rest in
    λ i. both.same i ∷ rest i

-- the current slot is one at most
pub current_unique : (bytes : List ℕ) (a b : ℕ) → IsCurrent bytes a → IsCurrent bytes b → a ≡ b
current_unique bytes a b (inl left) (inl right) = left.0 ∙ sym right.0
current_unique bytes a b (inr left) (inr right) = left.0 ∙ sym right.0
current_unique bytes a b (inl left) (inr right) = absurd (let one = left.1.newer right.1.counts in let other = right.1.newer left.1.counts in omega (arith, one, other))
current_unique bytes a b (inr left) (inl right) = absurd (let one = left.1.newer right.1.counts in let other = right.1.newer left.1.counts in omega (arith, one, other))

-- the header is one at most
pub header_unique : (bytes : List ℕ) (h k : Header) → HasHeader bytes h → HasHeader bytes k → h ≡ k
header_unique bytes h k left right =
    let at : left.at ≡ right.at = current_unique bytes left.at right.at left.current right.current in
    let pages : h.pages ≡ k.pages = left.pages ∙ sym right.pages in
    let generation : h.generation ≡ k.generation = left.generation ∙ ap (λ (n : ℕ). u32_at bytes (n + 1)) at ∙ sym right.generation in
    let base : h.base ≡ k.base = left.base ∙ ap (λ (n : ℕ). u64_at bytes (n + 5)) at ∙ sym right.base in
    λ i. record { pages = pages i; generation = generation i; base = base i }

-- the same bytes in front
pub fronts : (front xs bytes : List ℕ) (pages : ℕ) → length front ≡ 4096 * (1 + pages) → bytes ≡ front ++ xs → take 4096 front ≡ take 4096 bytes
fronts front xs bytes pages size is =
    let whole : take (length front) bytes ≡ front = ap (take (length front)) is ∙ take_at front xs (length front) refl in
    ap (take 4096) (sym whole) ∙ take-take 4096 (length front) bytes (omega (arith, size))

pub reads_unique : (bytes : List ℕ) (h k : Header) (rs ss : List Logged) → h.pages ≤ 2 ^ 32 → h.generation < 2 ^ 32 → ReadsAs bytes h rs → ReadsAs bytes k ss → (h ≡ k) × (rs ≡ ss)
reads_unique bytes h k rs ss fits small left right =
    let left_split = left.split ∙ append_assoc left.front (log_bytes h.generation h.base rs) left.rest in
    let right_split = right.split ∙ append_assoc right.front (log_bytes k.generation k.base ss) right.rest in
    let same : take 4096 right.front ≡ take 4096 left.front = fronts right.front _ bytes k.pages right.size right_split ∙ sym (fronts left.front _ bytes h.pages left.size left_split) in
    let header : h ≡ k = header_unique (take 4096 left.front) h k left.says (subst (λ (l : List ℕ). HasHeader l k) same right.says) in
    let other : ReadsAs bytes h ss = subst (λ (x : Header). ReadsAs bytes x ss) (sym header) right in
    (header, one_log bytes h rs ss fits small left other)
  where
    one_log : (bytes : List ℕ) (h : Header) (rs ss : List Logged) → h.pages ≤ 2 ^ 32 → h.generation < 2 ^ 32 → ReadsAs bytes h rs → ReadsAs bytes h ss → rs ≡ ss
    one_log bytes h rs ss fits small left right =
        let journal = journal_at h in
        let from_left : drop journal bytes ≡ log_bytes h.generation h.base rs ++ left.rest =
        ap (drop journal) (left.split ∙ append_assoc left.front (log_bytes h.generation h.base rs) left.rest) ∙ drop_at left.front (log_bytes h.generation h.base rs ++ left.rest) journal left.size in
        let from_right : drop journal bytes ≡ log_bytes h.generation h.base ss ++ right.rest =
        ap (drop journal) (right.split ∙ append_assoc right.front (log_bytes h.generation h.base ss) right.rest) ∙ drop_at right.front (log_bytes h.generation h.base ss ++ right.rest) journal right.size in
        log_unique h.pages h.generation h.base rs ss left.rest right.rest fits small left.lawful right.lawful left.ends right.ends (sym from_left ∙ from_right)
