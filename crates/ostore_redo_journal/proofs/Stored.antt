-- The bytes of a record while it is made and when it is written.
use Rattle.std.proofs.Common.{◌≡◌, ℕ, zero, suc, ◌+◌, ◌*◌, ◌≤◌, ◌<◌, ◌^◌, List, [], ◌∷◌, ◌++◌, length, take, drop, slice_get, flat_map, Some, refl, sym, ◌∙◌, ap, arith, append_assoc, length-append, length-drop, take-append-drop}
use Rattle.std.specs.Int.{w32, to_le_bytes}
use Rattle.std.proofs.lemmas.Grind.{common_steps}
use Rattle.std.proofs.lemmas.List.{take_at, drop_at, drop-take}
use Rattle.std.proofs.lemmas.Nat.{from_le_bytes-to_le_bytes_4}
use Rattle.ostore_base.specs.Disk.{replaced}
use Rattle.ostore_base.specs.declared.numbers.PageNo.{PageNo}
use Rattle.ostore_base.specs.declared.page.PageImage.{PageImage}
use Rattle.ostore_redo_journal.specs.Drafts.{Writes}
use Rattle.ostore_redo_journal.specs.Records.{page_bytes, pages_of, u32_at}
use Rattle.ostore_redo_journal.proofs.RoundTrips.{AreBytes, drop_bytes, take_bytes, length_take, drop_drop, pages_written}
use Rattle.ostore_redo_journal.proofs.Pieces.{drop_past}

-- the front of a list, and what stands behind it
pub drop_front : (n : ℕ) (xs ys : List ℕ) → n ≤ length xs → drop n (xs ++ ys) ≡ drop n xs ++ ys
drop_front zero xs ys le = refl
drop_front (suc n) [] ys le = absurd (omega arith)
drop_front (suc n) (x ∷ xs) ys le = drop_front n xs ys (omega arith)

pub take_front : (n : ℕ) (xs ys : List ℕ) → n ≤ length xs → take n (xs ++ ys) ≡ take n xs
take_front zero xs ys le = refl
take_front (suc n) [] ys le = absurd (omega arith)
take_front (suc n) (x ∷ xs) ys le = ap (λ (l : List ℕ). x ∷ l) (take_front n xs ys (omega arith))

take_past : (xs ys : List ℕ) (m n : ℕ) → m ≡ length xs + n → take m (xs ++ ys) ≡ xs ++ take n ys
take_past [] ys m n is = let same : m ≡ n = omega arith in ap (λ (k : ℕ). take k ys) same
take_past (x ∷ xs) ys zero n is = absurd (omega arith)
take_past (x ∷ xs) ys (suc m) n is = ap (λ (l : List ℕ). x ∷ l) (take_past xs ys m n (omega arith))

-- two pieces, one after the other
pub replaced_twice : (at : ℕ) (xs ys bs : List ℕ) → at + length xs ≤ length bs → replaced (at + length xs) ys (replaced at xs bs) ≡ replaced at (xs ++ ys) bs
replaced_twice at xs ys bs inside =
    let front = take at bs ++ xs in
    let first : length (take at bs) ≡ at = length_take at bs (omega arith) in
    let size : length front ≡ at + length xs = omega (arith, first, length-append (take at bs) xs) in
    let rest = drop (at + length xs) bs in
    let before : take (at + length xs) (front ++ rest) ≡ front = take_at front rest (at + length xs) size in
    let after : drop (at + length xs + length ys) (front ++ rest) ≡ drop (length ys) rest = drop_past front rest (at + length xs + length ys) (length ys) (omega (arith, size)) in
    let far : drop (length ys) rest ≡ drop (at + length (xs ++ ys)) bs = drop_drop (length ys) (at + length xs) bs ∙ ap (λ (k : ℕ). drop k bs) (let e : at + length xs + length ys ≡ at + length (xs ++ ys) = omega (arith, length-append xs ys) in e) in
    ap (λ (l : List ℕ). l ++ ys ++ drop (at + length xs + length ys) (front ++ rest)) before
    ∙ ap (λ (l : List ℕ). front ++ ys ++ l) (after ∙ far)
    ∙ ap (λ (l : List ℕ). l ++ drop (at + length (xs ++ ys)) bs) (append_assoc (take at bs) xs ys)

-- what stands behind a place, after a write at that place or behind it
pub drop-replaced_behind : (n m : ℕ) (x bs : List ℕ) → n + m ≤ length bs → drop n (replaced (n + m) x bs) ≡ take m (drop n bs) ++ (x ++ drop (m + length x) (drop n bs))
drop-replaced_behind n m x bs inside =
    let far : drop (n + m + length x) bs ≡ drop (m + length x) (drop n bs) = sym (drop_drop (m + length x) n bs ∙ ap (λ (k : ℕ). drop k bs) (let e : n + (m + length x) ≡ n + m + length x = omega arith in e)) in
    let first : length (take (n + m) bs) ≡ n + m = length_take (n + m) bs inside in
    ap (drop n) (append_assoc (take (n + m) bs) x (drop (n + m + length x) bs))
    ∙ drop_front n (take (n + m) bs) (x ++ drop (n + m + length x) bs) (omega (arith, first))
    ∙ ap (λ (l : List ℕ). l ++ (x ++ drop (n + m + length x) bs)) (drop-take n m bs)
    ∙ ap (λ (l : List ℕ). take m (drop n bs) ++ (x ++ l)) far

-- one page more behind those that stand there
pub pages_of-push : (k : ℕ) (xs ys : List ℕ) (page : PageNo) (image : PageImage) → length xs ≡ 4100 * k → page.0 < 2 ^ 32 → length image.bytes ≡ 4096 → pages_of (suc k) (xs ++ (page_bytes (page, image) ++ ys)) ≡ pages_of k xs ++ (page, image) ∷ []
pages_of-push zero [] ys page image size small whole =
    let number = from_le_bytes-to_le_bytes_4 page.0 small in
    let same : take 4096 (image.bytes ++ ys) ≡ image.bytes = take_at image.bytes ys 4096 whole in
    λ i. (record { 0 = number i }, record { bytes = same i }) ∷ []
pages_of-push zero (x ∷ xs) ys page image size small whole = absurd (omega arith)
pages_of-push (suc k) xs ys page image size small whole =
    let new = page_bytes (page, image) ++ ys in
    let long : 4100 ≤ length xs = omega (arith, size) in
    let number_same : u32_at (xs ++ new) 0 ≡ u32_at xs 0 = ap (Rattle.std.specs.Int.from_le_bytes w32) (take_front 4 xs new (omega arith)) in
    let image_same : take 4096 (drop 4 (xs ++ new)) ≡ take 4096 (drop 4 xs) =
    ap (take 4096) (drop_front 4 xs new (omega arith)) ∙ take_front 4096 (drop 4 xs) new (omega (arith, length-drop 4 xs)) in
    let rest_same : drop 4100 (xs ++ new) ≡ drop 4100 xs ++ new = drop_front 4100 xs new long in
    let later = pages_of-push k (drop 4100 xs) ys page image (omega (arith, size, length-drop 4100 xs)) small whole in
    (λ i. (record { 0 = number_same i }, record { bytes = image_same i }) ∷ pages_of (suc k) (rest_same i)) ∙ ap (λ (l : Writes). (record { 0 = u32_at xs 0 }, record { bytes = take 4096 (drop 4 xs) }) ∷ l) later

-- only their bytes count
pub pages_of-front : (k : ℕ) (xs ys : List ℕ) → length xs ≡ 4100 * k → pages_of k (xs ++ ys) ≡ pages_of k xs
pages_of-front zero xs ys size = refl
pages_of-front (suc k) xs ys size =
    let long : 4100 ≤ length xs = omega (arith, size) in
    let number_same : u32_at (xs ++ ys) 0 ≡ u32_at xs 0 = ap (Rattle.std.specs.Int.from_le_bytes w32) (take_front 4 xs ys (omega arith)) in
    let image_same : take 4096 (drop 4 (xs ++ ys)) ≡ take 4096 (drop 4 xs) = ap (take 4096) (drop_front 4 xs ys (omega arith)) ∙ take_front 4096 (drop 4 xs) ys (omega (arith, length-drop 4 xs)) in
    let rest_same : drop 4100 (xs ++ ys) ≡ drop 4100 xs ++ ys = drop_front 4100 xs ys long in
    let later = pages_of-front k (drop 4100 xs) ys (omega (arith, size, length-drop 4100 xs)) in
    (λ i. (record { 0 = number_same i }, record { bytes = image_same i }) ∷ pages_of k (rest_same i)) ∙ ap (λ (l : Writes). (record { 0 = u32_at xs 0 }, record { bytes = take 4096 (drop 4 xs) }) ∷ l) later

pub pages_of-take : (k : ℕ) (bs : List ℕ) → 4100 * k ≤ length bs → pages_of k bs ≡ pages_of k (take (4100 * k) bs)
pages_of-take k bs long =
    let m = 4100 * k in
    ap (pages_of k) (sym (take-append-drop m bs)) ∙ pages_of-front k (take m bs) (drop m bs) (length_take m bs long)

-- the page at a place
pub page_at : (k at : ℕ) (bs : List ℕ) → at < k → slice_get (pages_of k bs) at ≡ Some (record { 0 = u32_at bs (4100 * at) }, record { bytes = take 4096 (drop (4100 * at + 4) bs) })
page_at zero at bs below = absurd (omega arith)
page_at (suc k) zero bs below = refl
page_at (suc k) (suc at) bs below =
    let one : drop (4100 * at) (drop 4100 bs) ≡ drop (4100 * suc at) bs = drop_drop (4100 * at) 4100 bs ∙ ap (λ (n : ℕ). drop n bs) (let e : 4100 + 4100 * at ≡ 4100 * suc at = omega arith in e) in
    let two : drop (4100 * at + 4) (drop 4100 bs) ≡ drop (4100 * suc at + 4) bs = drop_drop (4100 * at + 4) 4100 bs ∙ ap (λ (n : ℕ). drop n bs) (let e : 4100 + (4100 * at + 4) ≡ 4100 * suc at + 4 = omega arith in e) in
    page_at k at (drop 4100 bs) (omega arith) ∙ (λ i. Some (record { 0 = Rattle.std.specs.Int.from_le_bytes w32 (take 4 (one i)) }, record { bytes = take 4096 (two i) }))

-- a page is added
pub grown : (k room : ℕ) (bytes new : List ℕ) (page : PageNo) (image : PageImage) → length bytes ≡ 21 + 4100 * room + 1 → k < room → page.0 < 2 ^ 32 → length image.bytes ≡ 4096 → new ≡ replaced (21 + 4100 * k) (page_bytes (page, image)) bytes → pages_of (k + 1) (drop 21 new) ≡ pages_of k (drop 21 bytes) ++ (page, image) ∷ []
grown k room bytes new page image size below small whole is =
    let m = 4100 * k in
    let body = drop 21 bytes in
    let xs = take m body in
    let pb = page_bytes (page, image) in
    let ys = drop (m + length pb) body in
    let room_left : m ≤ length body = omega (arith, size, length-drop 21 bytes) in
    let xs_size : length xs ≡ m = length_take m body room_left in
    let parted : drop 21 new ≡ xs ++ (pb ++ ys) = ap (drop 21) is ∙ drop-replaced_behind 21 m pb bytes (omega (arith, size)) in
    let one : k + 1 ≡ suc k = omega arith in
    ap (λ (n : ℕ). pages_of n (drop 21 new)) one ∙ ap (pages_of (suc k)) parted ∙ pages_of-push k xs ys page image xs_size small whole ∙ ap (λ (l : Writes). l ++ (page, image) ∷ []) (sym (pages_of-take k body room_left))

-- the head is written, and the gate behind the pages is closed
module _ (k : ℕ) (bytes head new : List ℕ) (inside : 22 + 4100 * k ≤ length bytes) (size : length head ≡ 20) (is : new ≡ replaced (21 + 4100 * k) (0 ∷ []) (replaced 1 head bytes)) where
  abbrev m : ℕ
  m = 4100 * k

  abbrev body : List ℕ
  body = drop 21 bytes

  abbrev xs : List ℕ
  xs = take m body

  abbrev rest : List ℕ
  rest = drop (20 + m + 1) (head ++ body)

  room : m ≤ length body
  room = omega (arith, inside, length-drop 21 bytes)

  xs_size : length xs ≡ m
  xs_size = length_take m body room

  headed : (bs : List ℕ) → 1 ≤ length bs → drop 1 (replaced 1 head bs) ≡ head ++ drop 20 (drop 1 bs)
  headed [] le = absurd (omega arith)
  headed (b ∷ bs) le = let plus : 1 + length head ≡ 21 = omega (arith, size) in ap (λ (n : ℕ). head ++ drop n (b ∷ bs)) plus

  middle : drop 1 (replaced 1 head bytes) ≡ head ++ body
  middle = headed bytes (omega (arith, inside)) ∙ ap (λ (l : List ℕ). head ++ l) (drop_drop 20 1 bytes)

  long : length (replaced 1 head bytes) ≡ length bytes
  long = grind (arith, common_steps)

  parted : drop 1 new ≡ (head ++ xs) ++ (0 ∷ rest)
  parted =
      let plus : 21 + m ≡ 1 + (20 + m) = omega arith in
      let front : take (20 + m) (head ++ body) ≡ head ++ xs = take_past head body (20 + m) m (omega (arith, size)) in
      ap (drop 1) is ∙ ap (λ (n : ℕ). drop 1 (replaced n (0 ∷ []) (replaced 1 head bytes))) plus
      ∙ drop-replaced_behind 1 (20 + m) (0 ∷ []) (replaced 1 head bytes) (omega (arith, long, inside))
      ∙ ap (λ (l : List ℕ). take (20 + m) l ++ (0 ∷ drop (20 + m + 1) l)) middle
      ∙ ap (λ (l : List ℕ). l ++ (0 ∷ rest)) front

  pub spelled : (n : ℕ) → n ≡ 21 + m → AreBytes bytes → take n (drop 1 new) ≡ head ++ (flat_map page_bytes (pages_of k body) ++ 0 ∷ [])
  spelled n all small =
      let number : n ≡ length ((head ++ xs) ++ 0 ∷ []) = omega (arith, all, size, xs_size, length-append head xs, length-append (head ++ xs) (0 ∷ [])) in
      let pages : xs ≡ flat_map page_bytes (pages_of k body) = sym (pages_written k xs xs_size (take_bytes m body (drop_bytes 21 bytes small))) ∙ ap (flat_map page_bytes) (sym (pages_of-take k body room)) in
      ap (take n) (parted ∙ sym (append_assoc (head ++ xs) (0 ∷ []) rest)) ∙ take_at ((head ++ xs) ++ 0 ∷ []) rest n (sym number)
      ∙ append_assoc head xs (0 ∷ []) ∙ ap (λ (l : List ℕ). head ++ (l ++ 0 ∷ [])) pages

  -- the pages stay
  pub kept : pages_of k (drop 21 new) ≡ pages_of k body
  kept =
      let behind : drop 21 new ≡ xs ++ (0 ∷ rest) =
      sym (drop_drop 20 1 new) ∙ ap (drop 20) (parted ∙ append_assoc head xs (0 ∷ rest)) ∙ drop_at head (xs ++ (0 ∷ rest)) 20 size in
      ap (pages_of k) behind ∙ pages_of-front k xs (0 ∷ rest) xs_size ∙ sym (pages_of-take k body room)

  pub as_long : length new ≡ length bytes
  as_long = ap length is ∙ grind (arith, common_steps, long, inside)
