-- What a scan found, as what the bytes read as.
use Rattle.std.proofs.Common.{◌≡◌, ◌≢◌, inl, inr, ℕ, suc, ◌+◌, ◌<◌, ◌≤◌, ◌^◌, List, [], ◌∷◌, ◌++◌, length, get_or, take, drop, All, Option, Some, None, IfSome, refl, sym, ◌∙◌, ap, subst, arith, append_assoc, length-append, ◌⊎◌}
use Rattle.std.proofs.lemmas.List.{drop_at, take-take, get_or-drop}
use Rattle.ostore_redo_journal.specs.Records.{Logged, record_bytes, log_bytes, IsLawful, u64_at}
use Rattle.ostore_redo_journal.specs.declared.header.Header.{Header}
use Rattle.ostore_redo_journal.specs.declared.header.Scan.{Scan}
use Rattle.ostore_redo_journal.specs.Headers.{HasHeader, IsCurrent, SlotCounts, IsOurs, IsPlaced, IsNotDatabase, IsNewer, IsBadBase, journal_at}
use Rattle.ostore_redo_journal.specs.OnDisk.{ReadsAs, IsOpened, HasRecords, IsEnd, IsBad, IsClosed, IsOld}
use Rattle.ostore_redo_journal.proofs.RoundTrips.{length_take}
use Rattle.ostore_redo_journal.proofs.Unique.{Ends, firsts, no_record, fronts, current_unique}

-- a header and records, and an end
pub scanned : (held : List ℕ) (h : Header) (scan : Scan) → HasHeader (take 4096 held) h → journal_at h < length held → HasRecords held h scan → IsEnd h scan.records (drop scan.end held) → (rs : List Logged) × ReadsAs held h rs × (scan.records ≡ length rs)
scanned held h scan says long has ends =
    let front = take (journal_at h) held in
    let size : length front ≡ journal_at h = length_take (journal_at h) held (omega (arith, long)) in
    let first : take 4096 front ≡ take 4096 held = take-take 4096 (journal_at h) held (omega arith) in (
      has.rs,
      record {
        front = front;
        rest = drop scan.end held;
        split = has.split;
        size = size;
        says = subst (λ (l : List ℕ). HasHeader l h) (sym first) says;
        lawful = has.lawful;
        ends = subst (λ (n : ℕ). IsEnd h n (drop scan.end held)) has.records ends;
      },
      has.records,
    )

-- the same, where the gate at the end is known not to be open
pub started : (told : Option (List ℕ)) (h : Header) (scan : Scan) → IfSome told (λ held. HasHeader (take 4096 held) h × (journal_at h < length held)) → IfSome told (λ held. HasRecords held h scan × IsEnd h scan.records (drop scan.end held)) → IfSome told (λ held. scan.end < length held) → IfSome told (λ held. get_or held scan.end 0 ≢ 1)
    → (rs : List Logged) × IfSome told (λ held. IsOpened held h scan rs)
started None h scan says found inside shut = ([], tt)
started (Some held) h scan says found inside shut =
    let has = found.0 in
    let front = take (journal_at h) held in
    let size : length front ≡ journal_at h = length_take (journal_at h) held (omega (arith, says.1)) in
    let first : take 4096 front ≡ take 4096 held = take-take 4096 (journal_at h) held (omega arith) in (
      has.rs,
      record {
        front = front;
        rest = drop scan.end held;
        split = has.split;
        size = size;
        says = subst (λ (l : List ℕ). HasHeader l h) (sym first) says.0;
        lawful = has.lawful;
        closed = closed_of found.1;
        records = has.records;
        end = has.end;
        before = inside;
      },
    )
  where
    closed_of : IsEnd h scan.records (drop scan.end held) → IsClosed (drop scan.end held)
    closed_of (inl closed) = closed
    closed_of (inr old) = absurd (shut (sym (get_or-drop scan.end held 0 0 ∙ ap (λ (n : ℕ). get_or held n 0) (let e : scan.end + 0 ≡ scan.end = omega arith in e)) ∙ ap (λ (l : List ℕ). get_or l 0 0) old.1.1))

-- an end is not empty
some_end : (g : ℕ) (rs : List Logged) (rest : List ℕ) → Ends g rs rest → rest ≡ [] → ⊥
some_end g rs rest (inl closed) none = omega (arith, ap length (sym closed.2 ∙ none))
some_end g rs rest (inr old) none = omega (arith, ap length (sym old.1.1 ∙ none))

-- Behind records a bad one stands where others have one more, or an end that is closed.
closed_behind : (limit g n : ℕ) (rs ss : List Logged) (bad rest : List ℕ) → limit ≤ 2 ^ 32 → g < 2 ^ 32 → All (IsLawful limit) rs → All (IsLawful limit) ss → IsClosed rest
    → log_bytes g n rs ++ bad ≡ log_bytes g n ss ++ rest → (IsClosed bad → ⊥)
    → ((number : ℕ) (r : Logged) (more : List ℕ) → number ≡ n + length rs + 1 → IsLawful limit r → bad ≡ record_bytes g number r ++ more → more ≡ []) → ⊥
closed_behind limit g n [] [] bad rest fits small right good closed is open_gate wrong = open_gate (subst IsClosed (sym is) closed)
closed_behind limit g n [] (s ∷ ss) bad rest fits small right good closed is open_gate wrong =
    let none = wrong (n + 1) s (log_bytes g (n + 1) ss ++ rest) (omega arith) (good 0 s (omega arith)) (is ∙ append_assoc (record_bytes g (n + 1) s) (log_bytes g (n + 1) ss) rest) in
    some_end g (s ∷ ss) rest (inl closed) (behind (log_bytes g (n + 1) ss) rest none)
  where
    behind : (xs ys : List ℕ) → xs ++ ys ≡ [] → ys ≡ []
    behind [] ys none = none
    behind (x ∷ xs) ys none = absurd (omega (arith, ap length none))
closed_behind limit g n (r ∷ rs) [] bad rest fits small right good closed is open_gate wrong =
    no_record g (n + 1) r rest (log_bytes g (n + 1) rs ++ bad) small (inl closed) (sym is ∙ append_assoc (record_bytes g (n + 1) r) (log_bytes g (n + 1) rs) bad)
closed_behind limit g n (r ∷ rs) (s ∷ ss) bad rest fits small right good closed is open_gate wrong =
    let both = firsts limit g (n + 1) r s (log_bytes g (n + 1) rs ++ bad) (log_bytes g (n + 1) ss ++ rest) fits (right 0 r (omega arith)) (good 0 s (omega arith))
    (sym (append_assoc (record_bytes g (n + 1) r) (log_bytes g (n + 1) rs) bad) ∙ is ∙ append_assoc (record_bytes g (n + 1) s) (log_bytes g (n + 1) ss) rest) in
    closed_behind limit g (n + 1) rs ss bad rest fits small (λ k d below. right (suc k) d (omega (arith, below))) (λ k d below. good (suc k) d (omega (arith, below))) closed both.rest open_gate
    (λ number r more is. wrong number r more (omega (arith, is)))

-- the same, whatever the end is
refused : (limit g n : ℕ) (rs ss : List Logged) (bad rest : List ℕ) → limit ≤ 2 ^ 32 → g < 2 ^ 32 → All (IsLawful limit) rs → All (IsLawful limit) ss → Ends g ss rest
    → log_bytes g n rs ++ bad ≡ log_bytes g n ss ++ rest → (IsClosed bad → ⊥) → (length rs ≡ 0 → length ss ≡ 0 → IsOld g bad → ⊥)
    → ((number : ℕ) (r : Logged) (more : List ℕ) → number ≡ n + length rs + 1 → IsLawful limit r → bad ≡ record_bytes g number r ++ more → more ≡ []) → ⊥
refused limit g n [] [] bad rest fits small right good (inl closed) is open_gate newer wrong = open_gate (subst IsClosed (sym is) closed)
refused limit g n [] [] bad rest fits small right good (inr old) is open_gate newer wrong = newer refl refl (subst (IsOld g) (sym is) old.1)
refused limit g n [] (s ∷ ss) bad rest fits small right good ends is open_gate newer wrong =
    let none = wrong (n + 1) s (log_bytes g (n + 1) ss ++ rest) (omega arith) (good 0 s (omega arith)) (is ∙ append_assoc (record_bytes g (n + 1) s) (log_bytes g (n + 1) ss) rest) in
    some_end g (s ∷ ss) rest ends (behind (log_bytes g (n + 1) ss) rest none)
  where
    behind : (xs ys : List ℕ) → xs ++ ys ≡ [] → ys ≡ []
    behind [] ys none = none
    behind (x ∷ xs) ys none = absurd (omega (arith, ap length none))
refused limit g n (r ∷ rs) [] bad rest fits small right good ends is open_gate newer wrong =
    no_record g (n + 1) r rest (log_bytes g (n + 1) rs ++ bad) small ends (sym is ∙ append_assoc (record_bytes g (n + 1) r) (log_bytes g (n + 1) rs) bad)
refused limit g n (r ∷ rs) (s ∷ ss) bad rest fits small right good ends is open_gate newer wrong =
    let both = firsts limit g (n + 1) r s (log_bytes g (n + 1) rs ++ bad) (log_bytes g (n + 1) ss ++ rest) fits (right 0 r (omega arith)) (good 0 s (omega arith))
    (sym (append_assoc (record_bytes g (n + 1) r) (log_bytes g (n + 1) rs) bad) ∙ is ∙ append_assoc (record_bytes g (n + 1) s) (log_bytes g (n + 1) ss) rest) in
    later ends both.rest
  where
    tail_right : All (IsLawful limit) rs
    tail_right k d below = right (suc k) d (omega (arith, below))

    tail_good : All (IsLawful limit) ss
    tail_good k d below = good (suc k) d (omega (arith, below))

    later : Ends g (s ∷ ss) rest → log_bytes g (n + 1) rs ++ bad ≡ log_bytes g (n + 1) ss ++ rest → ⊥
    later (inr old) same = omega (arith, old.0)
    later (inl closed) same = closed_behind limit g (n + 1) rs ss bad rest fits small tail_right tail_good closed same open_gate (λ number r more is. wrong number r more (omega (arith, is)))

pub bad_refused : (held : List ℕ) (h : Header) (scan : Scan) (rs : List Logged) → h.generation < 2 ^ 32 → journal_at h < length held → HasRecords held h scan → IsBad h scan.records (drop scan.end held) → ReadsAs held h rs → ⊥
bad_refused held h scan rs small long has bad reads =
    let journal = journal_at h in
    let front = take journal held in
    let bytes = drop scan.end held in
    let size : length front ≡ journal = length_take journal held (omega (arith, long)) in
    let from_has : drop journal held ≡ log_bytes h.generation h.base has.rs ++ bytes =
    ap (drop journal) (has.split ∙ append_assoc front (log_bytes h.generation h.base has.rs) bytes) ∙ drop_at front (log_bytes h.generation h.base has.rs ++ bytes) journal size in
    let from_reads : drop journal held ≡ log_bytes h.generation h.base rs ++ reads.rest =
    ap (drop journal) (reads.split ∙ append_assoc reads.front (log_bytes h.generation h.base rs) reads.rest) ∙ drop_at reads.front (log_bytes h.generation h.base rs ++ reads.rest) journal reads.size in
    refused h.pages h.generation h.base has.rs rs bytes reads.rest (let most = reads.says.most in omega (arith, most)) small has.lawful reads.lawful reads.ends (sym from_has ∙ from_reads)
    (λ closed. bad.goes_on (inl closed)) (λ none other old. bad.goes_on (inr (has.records ∙ none, old)))
    (λ number r more is right same. bad.wrong r more right (same ∙ ap (λ (n : ℕ). record_bytes h.generation n r ++ more) (is ∙ let k = has.records in let e : h.base + length has.rs + 1 ≡ h.base + scan.records + 1 = omega (arith, k) in e)))

end_some : (h : Header) (n : ℕ) (rest : List ℕ) → IsEnd h n rest → 0 < length rest
end_some h n rest (inl closed) = omega (arith, ap length closed.2)
end_some h n rest (inr old) = omega (arith, ap length old.1.1)

-- what bytes begin with that read as something
pub header_stands : (held : List ℕ) (h : Header) (rs : List Logged) → ReadsAs held h rs → HasHeader (take 4096 held) h × (journal_at h < length held)
header_stands held h rs reads =
    let log = log_bytes h.generation h.base rs in
    let split : held ≡ reads.front ++ (log ++ reads.rest) = reads.split ∙ append_assoc reads.front log reads.rest in
    let same : take 4096 reads.front ≡ take 4096 held = fronts reads.front (log ++ reads.rest) held h.pages reads.size split in
    let some : 0 < length reads.rest = end_some h (length rs) reads.rest reads.ends in (
      subst (λ (l : List ℕ). HasHeader l h) same reads.says,
      omega (arith, some, reads.size, ap length split, length-append reads.front (log ++ reads.rest), length-append log reads.rest),
    )

-- a header that stands is none that is refused
module _ (front : List ℕ) (size : ℕ) (h : Header) (has : HasHeader front h) (long : journal_at h < size) where
  ours : IsOurs front size
  ours = record { long = omega (arith, long); name = has.name; some = omega (arith, has.format) }

  one_counts : (at : ℕ) → IsCurrent front at → SlotCounts front 64 1 ⊎ SlotCounts front 128 0
  one_counts at (inl a) = inl a.1.counts
  one_counts at (inr b) = inr b.1.counts

  placed : IsPlaced front size
  placed = record {
    least = omega (arith, has.pages, has.least);
    most = omega (arith, has.pages, has.most);
    long = omega (arith, has.pages, long);
    counts = one_counts has.at has.current;
  }

  is_database : IsNotDatabase front size → ⊥
  is_database (inl none) = none ours
  is_database (inr other) = other.2 placed

  small_base : (at : ℕ) → IsBadBase front size at → ⊥
  small_base at bad =
      let same : has.at ≡ at = current_unique front has.at at has.current bad.current in
      let base : h.base ≡ u64_at front (at + 5) = has.base ∙ ap (λ (n : ℕ). u64_at front (n + 5)) same in
      omega (arith, base, has.small, bad.great)

  pub not_refused : (IsNotDatabase front size → ⊥) × (IsNewer front size → ⊥) × ((at : ℕ) → IsBadBase front size at → ⊥)
  not_refused = (is_database, λ newer. omega (arith, newer.1, has.format), small_base)
