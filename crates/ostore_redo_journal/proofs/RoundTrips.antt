-- What is written of a record is read, and what is read is written so.
use Rattle.std.proofs.Common.{◌≡◌, ℕ, zero, suc, ◌+◌, ◌*◌, ◌<◌, ◌≤◌, ◌^◌, List, [], ◌∷◌, ◌++◌, length, get_or, take, drop, flat_map, refl, sym, ◌∙◌, ap, subst, arith, length-append, length-drop, take-append-drop}
use Rattle.std.specs.Int.{w16, w32, w64, to_le_bytes}
use Rattle.std.proofs.lemmas.Grind.{common_steps}
use Rattle.std.proofs.lemmas.List.{take_at, drop_at}
use Rattle.std.proofs.lemmas.Nat.{le_bytes_2, le_bytes_4, le_bytes_8, from_le_bytes-to_le_bytes_2, from_le_bytes-to_le_bytes_4, from_le_bytes-to_le_bytes_8}
use Rattle.ostore_base.specs.declared.numbers.PageNo.{PageNo}
use Rattle.ostore_base.specs.declared.page.PageImage.{PageImage}
use Rattle.ostore_redo_journal.specs.Records.{Logged, page_bytes, behind_gate, IsLawful, AreWhole, AreAscending, u16_at, u32_at, u64_at, pages_of, record_in}
use Rattle.ostore_redo_journal.specs.inside.Bytes.{IsRecord}

-- bytes are small
abbrev pub AreBytes : List ℕ → Type 0
AreBytes bs = (i : ℕ) → get_or bs i 0 < 256

pub drop_bytes : (n : ℕ) (bs : List ℕ) → AreBytes bs → AreBytes (drop n bs)
drop_bytes zero bs small i = small i
drop_bytes (suc n) [] small i = small i
drop_bytes (suc n) (b ∷ bs) small i = drop_bytes n bs (λ k. small (suc k)) i

pub take_bytes : (n : ℕ) (bs : List ℕ) → AreBytes bs → AreBytes (take n bs)
take_bytes zero bs small i = omega arith
take_bytes (suc n) [] small i = small i
take_bytes (suc n) (b ∷ bs) small zero = small zero
take_bytes (suc n) (b ∷ bs) small (suc i) = take_bytes n bs (λ k. small (suc k)) i

pub length_take : (n : ℕ) (bs : List ℕ) → n ≤ length bs → length (take n bs) ≡ n
length_take zero bs le = refl
length_take (suc n) [] le = absurd (omega arith)
length_take (suc n) (b ∷ bs) le = ap suc (length_take n bs (omega arith))

pub drop_drop : (m n : ℕ) (bs : List ℕ) → drop m (drop n bs) ≡ drop (n + m) bs
drop_drop m n bs = grind (arith, common_steps)

field_2 : (bs : List ℕ) → 2 ≤ length bs → AreBytes bs → to_le_bytes w16 (u16_at bs 0) ++ drop 2 bs ≡ bs
field_2 bs long small =
    ap (λ (l : List ℕ). l ++ drop 2 bs) (le_bytes_2 (take 2 bs) (u16_at bs 0) (length_take 2 bs long) (take_bytes 2 bs small) refl) ∙ take-append-drop 2 bs

field_4 : (bs : List ℕ) → 4 ≤ length bs → AreBytes bs → to_le_bytes w32 (u32_at bs 0) ++ drop 4 bs ≡ bs
field_4 bs long small =
    ap (λ (l : List ℕ). l ++ drop 4 bs) (le_bytes_4 (take 4 bs) (u32_at bs 0) (length_take 4 bs long) (take_bytes 4 bs small) refl) ∙ take-append-drop 4 bs

field_8 : (bs : List ℕ) → 8 ≤ length bs → AreBytes bs → to_le_bytes w64 (u64_at bs 0) ++ drop 8 bs ≡ bs
field_8 bs long small =
    ap (λ (l : List ℕ). l ++ drop 8 bs) (le_bytes_8 (take 8 bs) (u64_at bs 0) (length_take 8 bs long) (take_bytes 8 bs small) refl) ∙ take-append-drop 8 bs

-- the pages that stand in bytes have these bytes
pub pages_written : (k : ℕ) (bs : List ℕ) → length bs ≡ 4100 * k → AreBytes bs → flat_map page_bytes (pages_of k bs) ≡ bs
pages_written zero [] size small = refl
pages_written zero (b ∷ bs) size small = absurd (omega arith)
pages_written (suc k) bs size small =
    let later = pages_written k (drop 4100 bs) (omega (arith, size, length-drop 4100 bs)) (drop_bytes 4100 bs small) in
    let image = take 4096 (drop 4 bs) in
    let split : image ++ drop 4100 bs ≡ drop 4 bs = ap (λ (l : List ℕ). image ++ l) (sym (drop_drop 4096 4 bs)) ∙ take-append-drop 4096 (drop 4 bs) in
    ap (λ (l : List ℕ). to_le_bytes w32 (u32_at bs 0) ++ (image ++ l)) later
    ∙ ap (λ (l : List ℕ). to_le_bytes w32 (u32_at bs 0) ++ l) split
    ∙ field_4 bs (omega (arith, size)) small

pub pages_whole : (k : ℕ) (bs : List ℕ) → 4100 * k ≤ length bs → AreWhole (pages_of k bs)
pages_whole zero bs size = tt
pages_whole (suc k) bs size =
    (length_take 4096 (drop 4 bs) (omega (arith, size, length-drop 4 bs)), pages_whole k (drop 4100 bs) (omega (arith, size, length-drop 4100 bs)))

pub pages_counted : (k : ℕ) (bs : List ℕ) → length (pages_of k bs) ≡ k
pages_counted zero bs = refl
pages_counted (suc k) bs = ap suc (pages_counted k (drop 4100 bs))

-- the record that stands in bytes has these bytes
pub record_written : (g n : ℕ) (bs : List ℕ) → length bs ≡ 20 + 4100 * u16_at bs 18 → AreBytes bs → u32_at bs 0 ≡ g → u64_at bs 4 ≡ n → behind_gate g n (record_in bs) ≡ bs
record_written g n bs size small generation number =
    let r = record_in bs in
    let count : length r.pages ≡ u16_at bs 18 = pages_counted (u16_at bs 18) (drop 20 bs) in
    let f : (j : ℕ) → AreBytes (drop j bs) = λ j. drop_bytes j bs small in
    let pages : flat_map page_bytes r.pages ≡ drop 20 bs = pages_written (u16_at bs 18) (drop 20 bs) (omega (arith, size, length-drop 20 bs)) (f 20) in
    let at_18 : to_le_bytes w16 (length r.pages) ++ flat_map page_bytes r.pages ≡ drop 18 bs =
    ap (λ (k : ℕ). to_le_bytes w16 k ++ flat_map page_bytes r.pages) count ∙ ap (λ (l : List ℕ). to_le_bytes w16 (u16_at bs 18) ++ l) (pages ∙ sym (drop_drop 2 18 bs)) ∙ field_2 (drop 18 bs) (omega (arith, size, length-drop 18 bs)) (f 18) in
    let at_14 : to_le_bytes w32 r.ordinal ++ (to_le_bytes w16 (length r.pages) ++ flat_map page_bytes r.pages) ≡ drop 14 bs =
    ap (λ (l : List ℕ). to_le_bytes w32 r.ordinal ++ l) (at_18 ∙ sym (drop_drop 4 14 bs)) ∙ field_4 (drop 14 bs) (omega (arith, size, length-drop 14 bs)) (f 14) in
    let at_12 : to_le_bytes w16 r.client ++ (to_le_bytes w32 r.ordinal ++ (to_le_bytes w16 (length r.pages) ++ flat_map page_bytes r.pages)) ≡ drop 12 bs =
    ap (λ (l : List ℕ). to_le_bytes w16 r.client ++ l) (at_14 ∙ sym (drop_drop 2 12 bs)) ∙ field_2 (drop 12 bs) (omega (arith, size, length-drop 12 bs)) (f 12) in
    let at_4 : to_le_bytes w64 n ++ (to_le_bytes w16 r.client ++ (to_le_bytes w32 r.ordinal ++ (to_le_bytes w16 (length r.pages) ++ flat_map page_bytes r.pages))) ≡ drop 4 bs =
    ap (λ (l : List ℕ). to_le_bytes w64 n ++ l) (at_12 ∙ sym (drop_drop 8 4 bs)) ∙ ap (λ (k : ℕ). to_le_bytes w64 k ++ drop 8 (drop 4 bs)) (sym number) ∙ field_8 (drop 4 bs) (omega (arith, size, length-drop 4 bs)) (f 4) in
    ap (λ (l : List ℕ). to_le_bytes w32 g ++ l) at_4 ∙ ap (λ (k : ℕ). to_le_bytes w32 k ++ drop 4 bs) (sym generation) ∙ field_4 bs (omega (arith, size)) small

-- what was written of pages is read
pub pages_read : (limit low : ℕ) (ps : List (PageNo × PageImage)) → limit ≤ 2 ^ 32 → AreWhole ps → AreAscending low limit ps → pages_of (length ps) (flat_map page_bytes ps) ≡ ps
pages_read limit low [] fits whole ascending = refl
pages_read limit low (p ∷ ps) fits whole ascending =
    let number : u32_at (page_bytes p ++ flat_map page_bytes ps) 0 ≡ p.0.0 = from_le_bytes-to_le_bytes_4 p.0.0 (omega (arith, ascending.1)) in
    let image : take 4096 (p.1.bytes ++ flat_map page_bytes ps) ≡ p.1.bytes = take_at p.1.bytes (flat_map page_bytes ps) 4096 whole.0 in
    let rest : drop 4096 (p.1.bytes ++ flat_map page_bytes ps) ≡ flat_map page_bytes ps = drop_at p.1.bytes (flat_map page_bytes ps) 4096 whole.0 in
    let first : (record { 0 = u32_at (page_bytes p ++ flat_map page_bytes ps) 0 }, record { bytes = take 4096 (p.1.bytes ++ flat_map page_bytes ps) }) ≡ p = λ i. (record { 0 = number i }, record { bytes = image i }) in
    (λ i. first i ∷ pages_of (length ps) (rest i)) ∙ ap (λ (l : List (PageNo × PageImage)). p ∷ l) (pages_read limit (p.0.0 + 1) ps fits whole.1 ascending.2)

pub length_pages : (ps : List (PageNo × PageImage)) → AreWhole ps → length (flat_map page_bytes ps) ≡ 4100 * length ps
length_pages [] whole = refl
length_pages (p ∷ ps) whole = omega (arith, length_pages ps whole.1, whole.0, length-append p.1.bytes (flat_map page_bytes ps))

pub length_behind : (g n : ℕ) (r : Logged) → AreWhole r.pages → length (behind_gate g n r) ≡ 20 + 4100 * length r.pages
length_behind g n r whole = omega (arith, length_pages r.pages whole)

pub count_read : (g n limit : ℕ) (r : Logged) → IsLawful limit r → u16_at (behind_gate g n r) 18 ≡ length r.pages
count_read g n limit r lawful = from_le_bytes-to_le_bytes_2 (length r.pages) lawful.count

-- what was written of a record is read
pub record_read : (limit g n : ℕ) (r : Logged) → limit ≤ 2 ^ 32 → g < 2 ^ 32 → n < 2 ^ 64 → IsLawful limit r → IsRecord limit g n (behind_gate g n r)
record_read limit g n r fits small counted lawful =
    let ordinal : u32_at (behind_gate g n r) 14 ≡ r.ordinal = from_le_bytes-to_le_bytes_4 r.ordinal lawful.ordinal_fits in
    let pages : pages_of (u16_at (behind_gate g n r) 18) (flat_map page_bytes r.pages) ≡ r.pages =
    ap (λ (k : ℕ). pages_of k (flat_map page_bytes r.pages)) (count_read g n limit r lawful) ∙ pages_read limit 0 r.pages fits lawful.whole lawful.ascending in
    record {
      generation_is = from_le_bytes-to_le_bytes_4 g small;
      number_is = from_le_bytes-to_le_bytes_8 n counted;
      ordinal_is = subst (λ (k : ℕ). 0 < k) (sym ordinal) lawful.ordinal;
      ascending_is = subst (λ (ps : List (PageNo × PageImage)). AreAscending 0 limit ps) (sym pages) lawful.ascending;
    }

-- what is read is lawful
pub record_lawful : (limit g n : ℕ) (bs : List ℕ) → length bs ≡ 20 + 4100 * u16_at bs 18 → AreBytes bs → IsRecord limit g n bs → IsLawful limit (record_in bs)
record_lawful limit g n bs size small is = record {
  client = omega (arith, small 12, small 13, number_2 bs 12 small);
  ordinal = is.ordinal_is;
  ordinal_fits = number_4 bs 14 small;
  count = let fits = number_2 bs 18 small in omega (arith, pages_counted (u16_at bs 18) (drop 20 bs));
  whole = pages_whole (u16_at bs 18) (drop 20 bs) (omega (arith, size, length-drop 20 bs));
  ascending = is.ascending_is;
}
  where
    number_2 : (bs : List ℕ) (at : ℕ) → AreBytes bs → u16_at bs at < 2 ^ 16
    number_2 bs at small = let f = take_bytes 2 (drop at bs) (drop_bytes at bs small) in omega (arith, f 0, f 1)

    number_4 : (bs : List ℕ) (at : ℕ) → AreBytes bs → u32_at bs at < 2 ^ 32
    number_4 bs at small = let f = take_bytes 4 (drop at bs) (drop_bytes at bs small) in omega (arith, f 0, f 1, f 2, f 3)
