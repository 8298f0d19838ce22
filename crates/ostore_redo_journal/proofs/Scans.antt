-- What stands at a place of the journal, by the bytes that are read there.
use Rattle.std.proofs.Common.{◌≡◌, inl, ℕ, zero, suc, ◌+◌, ◌*◌, ◌<◌, ◌≤◌, ◌^◌, List, [], ◌∷◌, ◌++◌, length, get_or, take, drop, refl, sym, ◌∙◌, ap, subst, arith, length-append, length-drop, take-append-drop}
use Rattle.std.proofs.lemmas.List.{take_at}
use Rattle.ostore_redo_journal.specs.Records.{Logged, behind_gate, IsLawful, u16_at, record_in}
use Rattle.ostore_redo_journal.specs.inside.Bytes.{IsRecord}
use Rattle.ostore_redo_journal.specs.declared.header.Header.{Header}
use Rattle.ostore_redo_journal.specs.OnDisk.{IsEnd, IsBad, HasRecord}
use Rattle.ostore_redo_journal.proofs.RoundTrips.{AreBytes, length_behind, count_read, record_read, record_lawful, record_written}

empty : (more : List ℕ) → length more ≡ 0 → more ≡ []
empty [] none = refl
empty (b ∷ more) none = absurd (omega arith)

-- what begins with 1 and doesn't end the journal
pub first_of_rest : (rest : List ℕ) → 0 < length rest → rest ≡ get_or rest 0 0 ∷ drop 1 rest
first_of_rest [] some = absurd (omega arith)
first_of_rest (b ∷ rest) some = refl

pub open_gate : (h : Header) (records : ℕ) (rest : List ℕ) → 0 < length rest → (IsEnd h records rest → ⊥) → rest ≡ 1 ∷ drop 1 rest
open_gate h records [] some more = absurd (omega arith)
open_gate h records (suc zero ∷ rest) some more = refl
open_gate h records (zero ∷ rest) some more = absurd (more (inl (zero, rest, refl, omega arith)))
open_gate h records (suc (suc b) ∷ rest) some more = absurd (more (inl (suc (suc b), rest, refl, omega arith)))

module _ (h : Header) (records : ℕ) (rest : List ℕ) (no : IsEnd h records rest → ⊥) where
  abbrev number : ℕ
  number = h.base + records + 1

  -- where no head and no gate behind it have room
  pub bad_short : length rest ≤ 21 → IsBad h records rest
  bad_short short = record {
    goes_on = no;
    wrong = λ r more lawful is. empty more (omega (arith, short, ap length is, length_behind h.generation number r lawful.whole, length-append (behind_gate h.generation number r) more));
  }

  head_count : (r : Logged) (more : List ℕ) → IsLawful h.pages r → rest ≡ (1 ∷ behind_gate h.generation number r) ++ more → u16_at (take 20 (drop 1 rest)) 18 ≡ length r.pages
  head_count r more lawful is = ap (λ (l : List ℕ). u16_at (take 20 (drop 1 l)) 18) is ∙ count_read h.generation number h.pages r lawful

  -- where the pages and the gate behind them have no room
  pub bad_long : (count : ℕ) → count ≡ u16_at (take 20 (drop 1 rest)) 18 → length rest ≤ 21 + 4100 * count → IsBad h records rest
  bad_long count counts short = record {
    goes_on = no;
    wrong = λ r more lawful is. empty more (omega (arith, short, counts, head_count r more lawful is, ap length is, length_behind h.generation number r lawful.whole, length-append (behind_gate h.generation number r) more));
  }

  -- where the bytes are no record's
  pub bad_bytes : (count : ℕ) → h.pages ≤ 2 ^ 32 → h.generation < 2 ^ 32 → number < 2 ^ 64 → count ≡ u16_at (take 20 (drop 1 rest)) 18 → (IsRecord h.pages h.generation number (take (20 + 4100 * count) (drop 1 rest)) → ⊥) → IsBad h records rest
  bad_bytes count pages generation counted counts none = record {
    goes_on = no;
    wrong = λ r more lawful is.
        let bg = behind_gate h.generation number r in
        let size : length bg ≡ 20 + 4100 * count = length_behind h.generation number r lawful.whole ∙ ap (λ (k : ℕ). 20 + 4100 * k) (sym (counts ∙ head_count r more lawful is)) in
        let bytes : take (20 + 4100 * count) (drop 1 rest) ≡ bg = ap (λ (l : List ℕ). take (20 + 4100 * count) (drop 1 l)) is ∙ take_at bg more (20 + 4100 * count) size in
        absurd (none (subst (λ (l : List ℕ). IsRecord h.pages h.generation number l) (sym bytes) (record_read h.pages h.generation number r pages generation counted lawful)));
  }

  -- where they are one's, with a gate behind
  pub good_bytes : (count size : ℕ) (bs : List ℕ) → 0 < length rest → AreBytes bs → bs ≡ take (20 + 4100 * count) (drop 1 rest) → length bs ≡ 20 + 4100 * u16_at bs 18 → IsRecord h.pages h.generation number bs → length bs + 1 < length rest → size ≡ length bs + 1
      → length bs ≡ 20 + 4100 * count → HasRecord h records rest size
  good_bytes count size bs some small is sized right room size_is long =
      let bg : behind_gate h.generation number (record_in bs) ≡ bs = record_written h.generation number bs sized small right.generation_is right.number_is in
      let more = drop (20 + 4100 * count) (drop 1 rest) in
      let back : drop 1 rest ≡ bs ++ more = sym (take-append-drop (20 + 4100 * count) (drop 1 rest)) ∙ ap (λ (l : List ℕ). l ++ more) (sym is) in
      record {
        r = record_in bs;
        more = more;
        lawful = record_lawful h.pages h.generation number bs sized small right;
        split = open_gate h records rest some no ∙ ap (λ (l : List ℕ). 1 ∷ l) (back ∙ ap (λ (l : List ℕ). l ++ more) (sym bg));
        some = omega (arith, room, long, length-drop (20 + 4100 * count) (drop 1 rest), length-drop 1 rest);
        sized = size_is ∙ omega (arith, ap length bg);
      }
