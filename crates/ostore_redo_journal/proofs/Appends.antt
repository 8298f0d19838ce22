-- What the disk reads as while a record is appended.
use Rattle.std.proofs.Common.{◌≡◌, ◌≢◌, inl, inr, ℕ, ◌+◌, List, [], ◌∷◌, ◌++◌, length, get_or, take, drop, All, Option, Some, None, IfSome, refl, sym, ◌∙◌, ap, subst, arith, append_assoc, length-append}
use Rattle.std.proofs.lemmas.List.{append-nil}
use Rattle.std.proofs.lemmas.List.Elements.{All-append, All-cons, All-nil}
use Rattle.std.proofs.lemmas.Bool.{cases_eq}
use Rattle.ostore_base.specs.Disk.{replaced}
use Rattle.std.specs.Option.{option_map}
use Rattle.ostore_base.specs.Disk.{IsTornRange}
use Rattle.ostore_base.specs.Images.{IsSure, OfTold, IsTornAtGate, opened_at}
use Rattle.ostore_redo_journal.specs.Records.{Logged, behind_gate, log_bytes, IsLawful}
use Rattle.ostore_redo_journal.specs.declared.header.Header.{Header}
use Rattle.ostore_redo_journal.specs.declared.header.Scan.{Scan}
use Rattle.ostore_redo_journal.specs.OnDisk.{ReadsAs, IsOpened, IsBeforeOrAfter}
use Rattle.ostore_redo_journal.specs.Headers.{HasHeader, journal_at}
use Rattle.ostore_redo_journal.proofs.Pieces.{torn_behind, torn_gate, written_behind, written_gate}

-- one record more at the end of the open ones
pub log_bytes-push : (g n number : ℕ) (rs : List Logged) (r : Logged) → number ≡ n + length rs + 1 → log_bytes g n (rs ++ r ∷ []) ≡ log_bytes g n rs ++ (1 ∷ behind_gate g number r)
log_bytes-push g n number [] r is =
    let same : n + 1 ≡ number = omega arith in
    append-nil (1 ∷ behind_gate g (n + 1) r) ∙ ap (λ (k : ℕ). 1 ∷ behind_gate g k r) same
log_bytes-push g n number (x ∷ rs) r is =
    let first = 1 ∷ behind_gate g (n + 1) x in
    ap (λ (l : List ℕ). first ++ l) (log_bytes-push g (n + 1) number rs r (omega arith)) ∙ sym (append_assoc first (log_bytes g (n + 1) rs) (1 ∷ behind_gate g number r))

-- the open records of a journal, and then any closed gate
pub reads_closed : (h : Header) (rs : List Logged) (front : List ℕ) (gate : ℕ) (behind c : List ℕ) → length front ≡ journal_at h → HasHeader (take 4096 front) h → All (IsLawful h.pages) rs → gate ≢ 1
    → c ≡ front ++ log_bytes h.generation h.base rs ++ (gate ∷ behind) → ReadsAs c h rs
reads_closed h rs front gate behind c size says lawful shut is =
    record { front = front; rest = gate ∷ behind; split = is; size = size; says = says; lawful = lawful; ends = inl (gate, behind, refl, shut) }

-- the same, and then the new record whose gate is open
pub pushed : (h : Header) (rs : List Logged) (r : Logged) (number : ℕ) (front behind : List ℕ) → number ≡ h.base + length rs + 1
    → (front ++ log_bytes h.generation h.base rs) ++ (1 ∷ (behind_gate h.generation number r ++ behind)) ≡ front ++ log_bytes h.generation h.base (rs ++ r ∷ []) ++ behind
pushed h rs r number front behind is =
    let old = log_bytes h.generation h.base rs in
    let new = 1 ∷ behind_gate h.generation number r in
    sym (append_assoc (front ++ old) new behind)
    ∙ ap (λ (l : List ℕ). l ++ behind) (append_assoc front old new ∙ ap (λ (l : List ℕ). front ++ l) (sym (log_bytes-push h.generation h.base number rs r is)))

module _ (h : Header) (s : Scan) (rs : List Logged) (r : Logged) (number : ℕ) (held : List ℕ) (opened : IsOpened held h s rs) (counts : number ≡ h.base + s.records + 1) (right : IsLawful h.pages r) where
  abbrev pre : List ℕ
  pre = opened.front ++ log_bytes h.generation h.base rs

  abbrev behind : List ℕ
  behind = behind_gate h.generation number r ++ 0 ∷ []

  abbrev gate : ℕ
  gate = opened.closed.0

  abbrev rest : List ℕ
  rest = opened.closed.1

  next : number ≡ h.base + length rs + 1
  next = let k = opened.records in omega arith

  parted : held ≡ pre ++ gate ∷ rest
  parted = opened.split ∙ ap (λ (l : List ℕ). pre ++ l) opened.closed.2

  pub before_end : s.end ≡ length pre
  before_end = opened.end

  all_lawful : All (IsLawful h.pages) (rs ++ r ∷ [])
  all_lawful = All-append (IsLawful h.pages) rs (r ∷ []) opened.lawful (All-cons (IsLawful h.pages) r [] right (All-nil (IsLawful h.pages)))

  -- the record stands behind its gate
  staged : replaced (s.end + 1) behind held ≡ pre ++ (gate ∷ (behind ++ drop (length behind) rest))
  staged =
      ap (λ (l : List ℕ). replaced (s.end + 1) behind l) parted ∙ ap (λ (k : ℕ). replaced (k + 1) behind (pre ++ gate ∷ rest)) opened.end
      ∙ written_behind pre gate rest behind

  pub behind_leaves : (c : List ℕ) → IsTornRange (s.end + 1) (length behind) held c → ReadsAs c h rs
  behind_leaves c torn =
      let here : IsTornRange (length pre + 1) (length behind) (pre ++ gate ∷ rest) c =
      subst (λ (l : List ℕ). IsTornRange (length pre + 1) (length behind) l c) parted (subst (λ (k : ℕ). IsTornRange (k + 1) (length behind) held c) opened.end torn) in
      reads_closed h rs opened.front gate (drop (length pre + 1) c) c opened.size opened.says opened.lawful opened.closed.3 (torn_behind pre gate rest c (length behind) here)

  -- with the gate open, whatever stands behind the closed gate behind it
  split_pushed : (more c : List ℕ) → c ≡ pre ++ (1 ∷ (behind ++ more)) → c ≡ opened.front ++ log_bytes h.generation h.base (rs ++ r ∷ []) ++ (0 ∷ more)
  split_pushed more c is =
      let again : behind ++ more ≡ behind_gate h.generation number r ++ (0 ∷ more) = append_assoc (behind_gate h.generation number r) (0 ∷ []) more in
      is ∙ ap (λ (l : List ℕ). pre ++ (1 ∷ l)) again ∙ pushed h rs r number opened.front (0 ∷ more) next

  pub reads_pushed : (more c : List ℕ) → c ≡ pre ++ (1 ∷ (behind ++ more)) → ReadsAs c h (rs ++ r ∷ [])
  reads_pushed more c is = reads_closed h (rs ++ r ∷ []) opened.front 0 more c opened.size opened.says all_lawful (omega arith) (split_pushed more c is)

  pub gate_leaves : (c : List ℕ) → IsTornRange s.end 1 (replaced (s.end + 1) behind held) c → IsBeforeOrAfter h rs r c
  gate_leaves c torn =
      let stood = behind ++ drop (length behind) rest in
      let here : IsTornRange (length pre) 1 (pre ++ gate ∷ stood) c =
      subst (λ (l : List ℕ). IsTornRange (length pre) 1 l c) staged (subst (λ (k : ℕ). IsTornRange k 1 (replaced (s.end + 1) behind held) c) opened.end torn) in
      let now = get_or c (length pre) 0 in
      let more = drop (length pre + 1 + length stood) c in
      let is : c ≡ pre ++ (now ∷ (stood ++ more)) = torn_gate pre gate stood c here in
      elim (cases_eq now 1) [
        | inl up ↦ inr (reads_pushed (drop (length behind) rest ++ more) c (is ∙ ap (λ (k : ℕ). pre ++ (k ∷ (stood ++ more))) up ∙ ap (λ (l : List ℕ). pre ++ (1 ∷ l)) (append_assoc behind (drop (length behind) rest) more)))
        | inr shut ↦ inl (reads_closed h rs opened.front now (stood ++ more) c opened.size opened.says opened.lawful shut is)
      ]

  pub append_leaves : (c : List ℕ) → IsTornAtGate s.end behind held c → IsBeforeOrAfter h rs r c
  append_leaves c (inl torn) = inl (behind_leaves c torn)
  append_leaves c (inr torn) = gate_leaves c torn

  -- the bytes when all is written
  pub appended : replaced s.end (1 ∷ []) (replaced (s.end + 1) behind held) ≡ pre ++ (1 ∷ (behind ++ drop (length behind) rest))
  appended =
      ap (λ (l : List ℕ). replaced s.end (1 ∷ []) l) staged ∙ ap (λ (k : ℕ). replaced k (1 ∷ []) (pre ++ gate ∷ (behind ++ drop (length behind) rest))) opened.end
      ∙ written_gate pre gate 1 (behind ++ drop (length behind) rest)

  pub opened_next : (now : Scan) (c : List ℕ) → now.records ≡ s.records + 1 → now.end ≡ s.end + length behind → c ≡ pre ++ (1 ∷ (behind ++ drop (length behind) rest)) → IsOpened c h now (rs ++ r ∷ [])
  opened_next now c records end is =
      let size : length (opened.front ++ log_bytes h.generation h.base (rs ++ r ∷ [])) ≡ now.end =
      ap length (sym (append-nil (opened.front ++ log_bytes h.generation h.base (rs ++ r ∷ []))) ∙ sym (pushed h rs r number opened.front [] next)) ∙ sized in
      record {
        front = opened.front;
        rest = 0 ∷ drop (length behind) rest;
        split = split_pushed (drop (length behind) rest) c is;
        size = opened.size;
        says = opened.says;
        lawful = all_lawful;
        closed = (0, drop (length behind) rest, refl, omega arith);
        records = let k = opened.records in omega (arith, length-append rs (r ∷ []));
        end = sym size;
        before = omega (arith, ap length is, opened.end, length-append pre (1 ∷ (behind ++ drop (length behind) rest)), length-append behind (drop (length behind) rest));
      }
    where
      body : List ℕ
      body = behind_gate h.generation number r

      sized : length (pre ++ (1 ∷ (body ++ []))) ≡ now.end
      sized = omega (arith, end, opened.end, length-append pre (1 ∷ (body ++ [])), length-append body [], length-append body (0 ∷ []))

-- the same of a disk that may not tell
pub told_leaves : (told : Option (List ℕ)) (h : Header) (s : Scan) (rs : List Logged) (r : Logged) (number : ℕ) (bytes : List ℕ) → IfSome told (λ held. IsOpened held h s rs) → number ≡ h.base + s.records + 1 → IsLawful h.pages r
    → bytes ≡ behind_gate h.generation number r ++ 0 ∷ [] → (c : List ℕ) → OfTold told (IsTornAtGate s.end bytes) c → OfTold told (λ _ b. IsBeforeOrAfter h rs r b) c
told_leaves None h s rs r number bytes reads counts right is c torn = tt
told_leaves (Some held) h s rs r number bytes reads counts right is c torn =
    append_leaves h s rs r number held reads counts right c (subst (λ (l : List ℕ). IsTornAtGate s.end l held c) is torn)

pub told_reads : (told new : Option (List ℕ)) (h : Header) (s now : Scan) (rs : List Logged) (r : Logged) (number : ℕ) (bytes : List ℕ) → IfSome told (λ held. IsOpened held h s rs) → number ≡ h.base + s.records + 1 → IsLawful h.pages r
    → bytes ≡ behind_gate h.generation number r ++ 0 ∷ [] → now.records ≡ s.records + 1 → now.end ≡ s.end + length bytes → new ≡ option_map (opened_at s.end bytes) told → IfSome new (λ held. IsOpened held h now (rs ++ r ∷ []))
told_reads None new h s now rs r number bytes reads counts right is records end written = subst (λ (o : Option (List ℕ)). IfSome o (λ held. IsOpened held h now (rs ++ r ∷ []))) (sym written) tt
told_reads (Some held) new h s now rs r number bytes reads counts right is records end written =
    let all = behind_gate h.generation number r ++ 0 ∷ [] in
    let size : now.end ≡ s.end + length all = end ∙ ap (λ (l : List ℕ). s.end + length l) is in
    let written_so : replaced s.end (1 ∷ []) (replaced (s.end + 1) bytes held) ≡ replaced s.end (1 ∷ []) (replaced (s.end + 1) all held) = ap (λ (l : List ℕ). replaced s.end (1 ∷ []) (replaced (s.end + 1) l held)) is in
    subst (λ (o : Option (List ℕ)). IfSome o (λ b. IsOpened b h now (rs ++ r ∷ []))) (sym written)
    (opened_next h s rs r number held reads counts right now _ records size (written_so ∙ appended h s rs r number held reads counts right))

-- a crash leaves the records of a disk that is sure of them
pub survives : (told : Option (List ℕ)) (images : List ℕ → Type 0) (h : Header) (s : Scan) (rs : List Logged) → IsSure told images → IfSome told (λ held. IsOpened held h s rs) → (image : List ℕ) → images image → OfTold told (λ _ b. ReadsAs b h rs) image
survives None images h s rs sure opened image left = tt
survives (Some held) images h s rs sure opened image left = subst (λ (l : List ℕ). ReadsAs l h rs) (sym (sure image left)) (record {
  front = opened.front;
  rest = opened.rest;
  split = opened.split;
  size = opened.size;
  says = opened.says;
  lawful = opened.lawful;
  ends = inl opened.closed;
})
