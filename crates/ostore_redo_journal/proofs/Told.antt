-- Steps of reading, of a disk that may not tell its bytes.
use Rattle.std.proofs.Common.{◌≡◌, ℕ, ◌+◌, ◌-◌, ◌*◌, ◌<◌, ◌≤◌, ◌^◌, List, [], ◌∷◌, ◌++◌, length, take, drop, Option, Some, None, IfSome, sym, ◌∙◌, ap, subst, arith, append_assoc, length-append, length-drop, take-append-drop}
use Rattle.std.proofs.lemmas.List.{drop_at, append-nil, drop-take, take-take}
use Rattle.std.specs.Int.{w16, from_le_bytes}
use Rattle.std.proofs.lemmas.List.Elements.{All-append, All-cons, All-nil}
use Rattle.ostore_redo_journal.specs.Records.{behind_gate, log_bytes, IsLawful, u16_at}
use Rattle.ostore_redo_journal.specs.inside.Bytes.{IsRecord, IsCounted}
use Rattle.ostore_redo_journal.specs.declared.header.Header.{Header}
use Rattle.ostore_redo_journal.specs.declared.header.Scan.{Scan}
use Rattle.ostore_redo_journal.specs.OnDisk.{IsEnd, IsBad, HasRecord, HasRecords}
use Rattle.ostore_redo_journal.specs.Headers.{journal_at}
use Rattle.ostore_redo_journal.proofs.RoundTrips.{drop_drop, length_take}
use Rattle.ostore_redo_journal.proofs.Scans.{bad_short, bad_long, bad_bytes, good_bytes}
use Rattle.ostore_redo_journal.proofs.Appends.{log_bytes-push}

abbrev pub Long : Option (List ℕ) → ℕ → Type 0
Long told size = IfSome told (λ held. size ≡ length held)

abbrev pub GoesOn : Option (List ℕ) → Header → Scan → Type 0
GoesOn told h s = IfSome told (λ held. IsEnd h s.records (drop s.end held) → ⊥)

pub told_short : (told : Option (List ℕ)) (h : Header) (s : Scan) (size : ℕ) → Long told size → GoesOn told h s → size - s.end ≤ 21 → IfSome told (λ held. IsBad h s.records (drop s.end held))
told_short None h s size long more short = tt
told_short (Some held) h s size long more short = bad_short h s.records (drop s.end held) more (omega (arith, length-drop s.end held))

abbrev two : List ℕ → ℕ
two bs = from_le_bytes w16 (take 2 bs)

-- the count stands 18 bytes behind the gate
count_at : (held : List ℕ) (end : ℕ) → u16_at held (end + 1 + 18) ≡ u16_at (take 20 (drop 1 (drop end held))) 18
count_at held end =
    let bs = drop end held in
    let inner : take 2 (drop 18 (take 20 (drop 1 bs))) ≡ take 2 (drop 18 (drop 1 bs)) = ap (take 2) (drop-take 18 2 (drop 1 bs)) ∙ take-take 2 2 (drop 18 (drop 1 bs)) (omega arith) in
    ap two (sym (drop_drop 18 (end + 1) held)) ∙ ap (λ (l : List ℕ). two (drop 18 l)) (sym (drop_drop 1 end held)) ∙ ap (from_le_bytes w16) (sym inner)

pub told_long : (told : Option (List ℕ)) (h : Header) (s : Scan) (size count : ℕ) → Long told size → GoesOn told h s → IfSome told (λ held. count ≡ u16_at held (s.end + 1 + 18)) → size - s.end ≤ 21 + 4100 * count → IfSome told (λ held. IsBad h s.records (drop s.end held))
told_long None h s size count long more counts short = tt
told_long (Some held) h s size count long more counts short = bad_long h s.records (drop s.end held) more count (counts ∙ count_at held s.end) (omega (arith, length-drop s.end held))

-- the bytes behind the gate
behind_at : (held : List ℕ) (end n : ℕ) → take n (drop (end + 1) held) ≡ take n (drop 1 (drop end held))
behind_at held end n = ap (take n) (sym (drop_drop 1 end held))

pub told_bad : (told mid : Option (List ℕ)) (h : Header) (s : Scan) (count : ℕ) → mid ≡ told → h.pages < 2 ^ 32 → h.generation < 2 ^ 32 → h.base + s.records + 1 < 2 ^ 64 → GoesOn told h s → IfSome told (λ held. count ≡ u16_at held (s.end + 1 + 18))
    → IfSome mid (λ held. u16_at (take (20 + 4100 * count) (drop (s.end + 1) held)) 18 ≡ count → IsRecord h.pages h.generation (h.base + s.records + 1) (take (20 + 4100 * count) (drop (s.end + 1) held)) → ⊥)
    → IfSome told (λ held. IsBad h s.records (drop s.end held))
told_bad None mid h s count same pages generation number more counts none = tt
told_bad (Some held) mid h s count same pages generation number more counts none =
    let bytes = behind_at held s.end (20 + 4100 * count) in
    let wrong = subst (λ (o : Option (List ℕ)). IfSome o (λ b. u16_at (take (20 + 4100 * count) (drop (s.end + 1) b)) 18 ≡ count → IsRecord h.pages h.generation (h.base + s.records + 1) (take (20 + 4100 * count) (drop (s.end + 1) b)) → ⊥)) same none in
    bad_bytes h s.records (drop s.end held) more count (omega arith) generation number (counts ∙ count_at held s.end)
    (λ right. wrong (count_in held s.end count counts) (subst (λ (l : List ℕ). IsRecord h.pages h.generation (h.base + s.records + 1) l) (sym bytes) right))
  where
    count_in : (held : List ℕ) (end count : ℕ) → count ≡ u16_at held (end + 1 + 18) → u16_at (take (20 + 4100 * count) (drop (end + 1) held)) 18 ≡ count
    count_in held end count counts =
        let bs = drop (end + 1) held in
        let plus : 20 + 4100 * count ≡ 18 + (2 + 4100 * count) = omega arith in
        let inner : take 2 (drop 18 (take (20 + 4100 * count) bs)) ≡ take 2 (drop 18 bs) =
        ap (λ (k : ℕ). take 2 (drop 18 (take k bs))) plus ∙ ap (take 2) (drop-take 18 (2 + 4100 * count) bs) ∙ take-take 2 (2 + 4100 * count) (drop 18 bs) (omega arith) in
        let place : drop 18 bs ≡ drop (end + 1 + 18) held = drop_drop 18 (end + 1) held in
        ap (from_le_bytes w16) inner ∙ ap two place ∙ sym counts

pub told_good : (told mid : Option (List ℕ)) (h : Header) (s : Scan) (count size : ℕ) → mid ≡ told → size ≡ 21 + 4100 * count → GoesOn told h s
    → IfSome mid (λ held. IsCounted h.pages h.generation (h.base + s.records + 1) count (take (20 + 4100 * count) (drop (s.end + 1) held)))
    → IfSome told (λ held. 21 + 4100 * count < length held - s.end) → IfSome told (λ held. HasRecord h s.records (drop s.end held) size)
told_good None mid h s count size here size_is more is room = tt
told_good (Some held) mid h s count size here size_is more is room =
    let same = behind_at held s.end (20 + 4100 * count) in
    let one = subst (λ (o : Option (List ℕ)). IfSome o (λ b. IsCounted h.pages h.generation (h.base + s.records + 1) count (take (20 + 4100 * count) (drop (s.end + 1) b)))) here is in
    let bs = take (20 + 4100 * count) (drop (s.end + 1) held) in
    let long : length bs ≡ 20 + 4100 * count = length_take (20 + 4100 * count) (drop (s.end + 1) held) (omega (arith, length-drop (s.end + 1) held)) in
    good_bytes h s.records (drop s.end held) more count size bs (omega (arith, length-drop s.end held)) one.small same (long ∙ ap (λ (k : ℕ). 20 + 4100 * k) (sym one.count_is)) one.right
    (omega (arith, length-drop s.end held)) (omega (arith, long)) long

-- one record more
pub told_next : (told : Option (List ℕ)) (h : Header) (s now : Scan) (size : ℕ) → IfSome told (λ held. HasRecords held h s) → IfSome told (λ held. HasRecord h s.records (drop s.end held) size) → now.records ≡ s.records + 1 → now.end ≡ s.end + size → IfSome told (λ held. HasRecords held h now)
told_next None h s now size all one records end = tt
told_next (Some held) h s now size all one records end =
    let front = take (journal_at h) held in
    let old = log_bytes h.generation h.base all.rs in
    let number = h.base + s.records + 1 in
    let new = 1 ∷ behind_gate h.generation number one.r in
    let counted : number ≡ h.base + length all.rs + 1 = let k = all.records in omega arith in
    let log : log_bytes h.generation h.base (all.rs ++ one.r ∷ []) ≡ old ++ new = log_bytes-push h.generation h.base number all.rs one.r counted in
    let pre = front ++ log_bytes h.generation h.base (all.rs ++ one.r ∷ []) in
    let joined : (front ++ old) ++ new ≡ pre = append_assoc front old new ∙ ap (λ (l : List ℕ). front ++ l) (sym log) in
    let split : held ≡ pre ++ one.more = all.split ∙ ap (λ (l : List ℕ). front ++ old ++ l) one.split ∙ sym (append_assoc (front ++ old) new one.more) ∙ ap (λ (l : List ℕ). l ++ one.more) joined in
    let size_of : now.end ≡ length pre = omega (arith, end, one.sized, all.end, ap length joined, length-append (front ++ old) new) in
    let rest : drop now.end held ≡ one.more = ap (drop now.end) split ∙ drop_at pre one.more now.end (sym size_of) in
    record {
      rs = all.rs ++ one.r ∷ [];
      split = split ∙ ap (λ (l : List ℕ). pre ++ l) (sym rest);
      lawful = All-append (IsLawful h.pages) all.rs (one.r ∷ []) all.lawful (All-cons (IsLawful h.pages) one.r [] one.lawful (All-nil (IsLawful h.pages)));
      records = let k = all.records in omega (arith, length-append all.rs (one.r ∷ []));
      end = size_of;
    }

pub told_first : (told : Option (List ℕ)) (h : Header) (s : Scan) → IfSome told (λ held. journal_at h < length held) → s.records ≡ 0 → s.end ≡ journal_at h → IfSome told (λ held. HasRecords held h s)
told_first None h s inside records end = tt
told_first (Some held) h s inside records end =
    let front = take (journal_at h) held in
    let size : length front ≡ journal_at h = length_take (journal_at h) held (omega (arith, inside)) in
    record {
      rs = [];
      split = sym (take-append-drop (journal_at h) held) ∙ ap (λ (l : List ℕ). l ++ drop (journal_at h) held) (sym (append-nil front)) ∙ ap (λ (k : ℕ). front ++ [] ++ drop k held) (sym end);
      lawful = All-nil (IsLawful h.pages);
      records = records;
      end = end ∙ sym size ∙ ap length (sym (append-nil front));
    }
