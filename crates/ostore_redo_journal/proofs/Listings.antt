-- Listing the records of a disk that was opened.
use Rattle.std.proofs.Common.{◌≡◌, ℕ, suc, ◌+◌, ◌*◌, ◌-◌, ◌<◌, ◌≤◌, ◌^◌, List, [], ◌∷◌, ◌++◌, length, take, drop, min, All, Option, Some, None, IfSome, refl, sym, ◌∙◌, ap, subst, arith, append_assoc, length-append}
use Rattle.std.proofs.lemmas.List.{drop_at, append-nil}
use Rattle.ostore_base.specs.Limits.{longest_disk}
use Rattle.ostore_redo_journal.specs.Records.{Logged, record_bytes, log_bytes, IsLawful}
use Rattle.ostore_redo_journal.specs.Headers.{journal_at}
use Rattle.ostore_redo_journal.specs.OnDisk.{IsOpened}
use Rattle.ostore_redo_journal.specs.Listed.{item_of, items_of, Lists}
use Rattle.ostore_redo_journal.specs.inside.Bytes.{item_in}
use Rattle.ostore_redo_journal.specs.declared.header.Header.{Header}
use Rattle.ostore_redo_journal.specs.declared.header.Scan.{Scan}
use Rattle.ostore_redo_journal.specs.declared.listing.Item.{Item}
use Rattle.ostore_redo_journal.proofs.RoundTrips.{length_behind, count_read}
use Rattle.ostore_redo_journal.proofs.Unique.{record_same}
use Rattle.ostore_redo_journal.proofs.Appends.{log_bytes-push}

-- The first records, as far as a place, are those that are listed.
pub record AreListed (h : Header) (rs : List Logged) (done at : ℕ) (items : List Item) : Type 0 where
  pub before : List Logged
  pub behind : List Logged
  pub parted : rs ≡ before ++ behind
  pub count : done ≡ length before
  pub place : at ≡ journal_at h + length (log_bytes h.generation h.base before)
  pub listed : items ≡ items_of h.base before

-- the same of a disk that may not tell
abbrev pub ListsUpTo : Option (List ℕ) → Header → Scan → ℕ → ℕ → List Item → Type 0
ListsUpTo told h scan done at items =
    IfSome told (λ held. (rs : List Logged) → IsOpened held h scan rs → AreListed h rs done at items)

log_bytes-append : (g n k : ℕ) (rs ss : List Logged) → k ≡ n + length rs → log_bytes g n (rs ++ ss) ≡ log_bytes g n rs ++ log_bytes g k ss
log_bytes-append g n k [] ss is = let same : n ≡ k = omega (arith, is) in ap (λ (m : ℕ). log_bytes g m ss) same
log_bytes-append g n k (r ∷ rs) ss is =
    let first = record_bytes g (n + 1) r in
    ap (λ (l : List ℕ). first ++ l) (log_bytes-append g (n + 1) k rs ss (omega (arith, is))) ∙ sym (append_assoc first (log_bytes g (n + 1) rs) (log_bytes g k ss))

items_of-push : (n number : ℕ) (rs : List Logged) (r : Logged) → number ≡ n + length rs + 1 → items_of n (rs ++ r ∷ []) ≡ items_of n rs ++ item_of number r ∷ []
items_of-push n number [] r is = let same : n + 1 ≡ number = omega (arith, is) in ap (λ (k : ℕ). item_of k r ∷ []) same
items_of-push n number (x ∷ rs) r is = ap (λ (l : List Item). item_of (n + 1) x ∷ l) (items_of-push (n + 1) number rs r (omega (arith, is)))

-- what stands at the place of a record
item_read : (h : Header) (number : ℕ) (r : Logged) (more : List ℕ) → h.pages ≤ 2 ^ 32 → IsLawful h.pages r → item_in number (drop 1 (take 21 (record_bytes h.generation number r ++ more))) ≡ item_of number r
item_read h number r more fits lawful =
    let same = record_same h.pages h.generation number r fits lawful in
    let client = ap (λ (x : Logged). x.client) same in
    let ordinal = ap (λ (x : Logged). x.ordinal) same in
    let count = count_read h.generation number h.pages r lawful in
    λ i. record { number = number; client = record { 0 = client i }; ordinal = ordinal i; pages = count i }

-- what holds of all holds of one of them
one_of : (P : Logged → Type 0) (before : List Logged) (r : Logged) (later : List Logged) → All P (before ++ r ∷ later) → P r
one_of P [] r later all = all 0 r (omega arith)
one_of P (x ∷ before) r later all = one_of P before r later (λ k d below. all (suc k) d (omega (arith, below)))

module _ (held : List ℕ) (h : Header) (scan : Scan) (rs : List Logged) (opened : IsOpened held h scan rs) (done at : ℕ) (items : List Item) (so_far : AreListed h rs done at items) where
  abbrev g : ℕ
  g = h.generation

  abbrev number : ℕ
  number = h.base + done + 1

  abbrev pre : List ℕ
  pre = opened.front ++ log_bytes g h.base so_far.before

  -- the next record, and what stands behind it
  record Next : Type 0 where
    pub r : Logged
    pub later : List Logged
    pub parted : rs ≡ so_far.before ++ r ∷ later
    pub lawful : IsLawful h.pages r
    pub split : held ≡ pre ++ (record_bytes g number r ++ (log_bytes g number later ++ opened.rest))
    pub before_end : length pre + length (record_bytes g number r) ≤ scan.end

  next_of : (behind : List Logged) → so_far.behind ≡ behind → done < scan.records → Next
  next_of [] is below =
      let none : length rs ≡ length so_far.before = ap length (so_far.parted ∙ ap (λ (l : List Logged). so_far.before ++ l) is ∙ append-nil so_far.before) in
      absurd (omega (arith, below, none, opened.records, so_far.count))
  next_of (r ∷ later) is below =
      let before = so_far.before in
      let front = opened.front in
      let parted : rs ≡ before ++ r ∷ later = so_far.parted ∙ ap (λ (l : List Logged). before ++ l) is in
      let at_before : h.base + done ≡ h.base + length before = omega (arith, so_far.count) in
      let old = log_bytes g h.base before in
      let new = record_bytes g number r in
      let tail = log_bytes g number later in
      let log : log_bytes g h.base rs ≡ old ++ (new ++ tail) = ap (log_bytes g h.base) parted ∙ log_bytes-append g h.base (h.base + done) before (r ∷ later) at_before in
      let size : length (front ++ log_bytes g h.base rs) ≡ length front + length (old ++ (new ++ tail)) = length-append front (log_bytes g h.base rs) ∙ ap (λ (l : List ℕ). length front + length l) log in
      record {
        r = r;
        later = later;
        parted = parted;
        lawful = one_of (IsLawful h.pages) before r later (subst (λ (l : List Logged). All (IsLawful h.pages) l) parted opened.lawful);
        split = opened.split ∙ ap (λ (l : List ℕ). front ++ l ++ opened.rest) log ∙ ap (λ (l : List ℕ). l ++ opened.rest) (sym (append_assoc front old (new ++ tail)))
            ∙ append_assoc (front ++ old) (new ++ tail) opened.rest ∙ ap (λ (l : List ℕ). (front ++ old) ++ l) (append_assoc new tail opened.rest);
        before_end = omega (arith, opened.end, size, length-append front old, length-append old (new ++ tail), length-append new tail);
      }

  next : done < scan.records → Next
  next below = next_of so_far.behind refl below

  at_pre : at ≡ length pre
  at_pre = omega (arith, so_far.place, opened.size, length-append opened.front (log_bytes g h.base so_far.before))

  size_of : (n : Next) → length (record_bytes g number n.r) ≡ 21 + 4100 * length n.r.pages
  size_of n = omega (arith, length_behind g number n.r n.lawful.whole)

  pub roomy : done < scan.records → at + 21 ≤ length held
  roomy below =
      let n = next below in
      omega (arith, at_pre, size_of n, n.before_end, opened.before)

  item_is : (n : Next) → h.pages ≤ 2 ^ 32 → item_in number (drop 1 (take 21 (drop at held))) ≡ item_of number n.r
  item_is n fits =
      let here : drop at held ≡ record_bytes g number n.r ++ (log_bytes g number n.later ++ opened.rest) =
      ap (drop at) n.split ∙ drop_at pre (record_bytes g number n.r ++ (log_bytes g number n.later ++ opened.rest)) at (sym at_pre) in
      ap (λ (l : List ℕ). item_in number (drop 1 (take 21 l))) here ∙ item_read h number n.r (log_bytes g number n.later ++ opened.rest) fits n.lawful

  -- one record more
  pub one_more : (item : Item) (then : ℕ) → h.pages ≤ 2 ^ 32 → scan.end ≤ longest_disk → done < scan.records → item ≡ item_in number (drop 1 (take 21 (drop at held))) → then ≡ min (at + (21 + 4100 * item.pages)) (2 ^ 64 - 1)
      → AreListed h rs (done + 1) then (items ++ item ∷ [])
  one_more item then fits short below is moves =
      let n = next below in
      let before = so_far.before in
      let same : item ≡ item_of number n.r = is ∙ item_is n fits in
      let pages : item.pages ≡ length n.r.pages = ap (λ (x : Item). x.pages) same in
      let counted : number ≡ h.base + length before + 1 = omega (arith, so_far.count) in
      let log : log_bytes g h.base (before ++ n.r ∷ []) ≡ log_bytes g h.base before ++ record_bytes g number n.r = log_bytes-push g h.base number before n.r counted in
      let size : length (log_bytes g h.base (before ++ n.r ∷ [])) ≡ length (log_bytes g h.base before) + length (record_bytes g number n.r) = ap length log ∙ length-append (log_bytes g h.base before) (record_bytes g number n.r) in
      record {
        before = before ++ n.r ∷ [];
        behind = n.later;
        parted = n.parted ∙ sym (append_assoc before (n.r ∷ []) n.later);
        count = omega (arith, so_far.count, length-append before (n.r ∷ []));
        place = omega (arith, moves, pages, size, size_of n, so_far.place, at_pre, n.before_end, short);
        listed = ap (λ (l : List Item). l ++ item ∷ []) so_far.listed ∙ ap (λ (x : Item). items_of h.base before ++ x ∷ []) same ∙ sym (items_of-push h.base number before n.r counted);
      }

  -- all of them
  pub all_listed : done ≡ scan.records → items ≡ items_of h.base rs
  all_listed all =
      let none : length so_far.behind ≡ 0 = omega (arith, all, so_far.count, opened.records, ap length so_far.parted, length-append so_far.before so_far.behind) in
      so_far.listed ∙ ap (items_of h.base) (sym (append-nil so_far.before) ∙ ap (λ (l : List Logged). so_far.before ++ l) (sym (empty so_far.behind none)) ∙ sym so_far.parted)
    where
      empty : (l : List Logged) → length l ≡ 0 → l ≡ []
      empty [] is = refl
      empty (r ∷ l) is = absurd (omega (arith, is))

-- the same of a disk that may not tell
pub none_listed : (told : Option (List ℕ)) (h : Header) (scan : Scan) → ListsUpTo told h scan 0 (journal_at h) []
none_listed None h scan = tt
none_listed (Some held) h scan = λ rs opened. record { before = []; behind = rs; parted = refl; count = refl; place = omega arith; listed = refl }

pub told_roomy : (told now : Option (List ℕ)) (h : Header) (scan : Scan) (rs : List Logged) (done at : ℕ) (items : List Item) → now ≡ told → IfSome told (λ held. IsOpened held h scan rs) → ListsUpTo told h scan done at items → done < scan.records → IfSome now (λ held. at + 21 ≤ length held)
told_roomy None now h scan rs done at items same opened so_far below = subst (λ (o : Option (List ℕ)). IfSome o (λ held. at + 21 ≤ length held)) (sym same) tt
told_roomy (Some held) now h scan rs done at items same opened so_far below =
    subst (λ (o : Option (List ℕ)). IfSome o (λ held. at + 21 ≤ length held)) (sym same) (roomy held h scan rs opened done at items (so_far rs opened) below)

pub told_more : (told now : Option (List ℕ)) (h : Header) (scan : Scan) (done at then : ℕ) (items new : List Item) (item : Item) → now ≡ told → h.pages ≤ 2 ^ 32 → scan.end ≤ longest_disk → done < scan.records
    → IfSome now (λ held. item ≡ item_in (h.base + done + 1) (drop 1 (take 21 (drop at held)))) → then ≡ min (at + (21 + 4100 * item.pages)) (2 ^ 64 - 1) → new ≡ items ++ item ∷ [] → ListsUpTo told h scan done at items → ListsUpTo told h scan (done + 1) then new
told_more None now h scan done at then items new item same fits short below is moves pushed so_far = tt
told_more (Some held) now h scan done at then items new item same fits short below is moves pushed so_far = λ rs opened.
    let here : item ≡ item_in (h.base + done + 1) (drop 1 (take 21 (drop at held))) = subst (λ (o : Option (List ℕ)). IfSome o (λ b. item ≡ item_in (h.base + done + 1) (drop 1 (take 21 (drop at b))))) same is in
    subst (λ (l : List Item). AreListed h rs (done + 1) then l) (sym pushed) (one_more held h scan rs opened done at items (so_far rs opened) item then fits short below here moves)

pub told_all : (told : Option (List ℕ)) (h : Header) (scan : Scan) (done at : ℕ) (items : List Item) → done ≡ scan.records → ListsUpTo told h scan done at items → Lists told h scan items
told_all None h scan done at items all so_far = tt
told_all (Some held) h scan done at items all so_far = λ rs opened. all_listed held h scan rs opened done at items (so_far rs opened) all
