-- The words of a line, met one after another.
use Rattle.std.proofs.Common.{◌≡◌, ℕ, zero, suc, ◌+◌, ◌-◌, ◌<◌, ◌≤◌, Bool, true, false, ◌&&◌, not, eqb, leb, ltb, cond, List, [], ◌∷◌, ◌++◌, length, get_or, take, drop, Option, Some, None, unwrap_or, refl, sym, ap, subst, ◌∙◌, arith, inl, inr}
use Rattle.std.specs.List.{list_all, position, position_or_len, prefix_len}
use Rattle.std.specs.Str.{bytes_eq}
use Rattle.std.proofs.lemmas.Bool.{cases_lt, cases_Bool, lt-ltb, le-ltb, lt-leb, le-leb, eq-eqb, ne_eqb, cond-true, cond-false, true≢false, not_from_true, not_from_false}
use Rattle.std.proofs.lemmas.List.{append-nil, append_assoc, length-take-le, drop_more, drop_all, drop-drop, length-drop, at_drop_more}
use Rattle.std.proofs.lemmas.List.Sums.{prefix_len-le-length, prefix_len_stops}
use Rattle.std.proofs.lemmas.Option.{none-some, same_Some}
use Rattle.ostore_text_words.specs.Lines.{PlacedWord, plain_length, quoted_length, word_length, judged_at, placed, words_behind, is_comment, is_only}

-- ---- first places

-- the first place that passes, or the length
pub place_or_length : (p : ℕ → Bool) (bytes : List ℕ) (o : Option ℕ) (n : ℕ) → o ≡ position p bytes → n ≡ unwrap_or o (length bytes) → n ≡ position_or_len p bytes
place_or_length p bytes o n found h =
    elim (cases_lt (position_or_len p bytes) (length bytes)) [
      | inl lt ↦ h ∙ ap (λ (q : Option ℕ). unwrap_or q (length bytes)) (found ∙ cond-true (ltb (position_or_len p bytes) (length bytes)) (Some (position_or_len p bytes)) None (lt-ltb (position_or_len p bytes) (length bytes) lt))
      | inr le ↦
          let most = prefix_len-le-length (λ x. not (p x)) bytes in
          let same : length bytes ≡ position_or_len p bytes = omega arith in
          h ∙ ap (λ (q : Option ℕ). unwrap_or q (length bytes)) (found ∙ cond-false (ltb (position_or_len p bytes) (length bytes)) (Some (position_or_len p bytes)) None (le-ltb (position_or_len p bytes) (length bytes) le)) ∙ same
    ]

ltb-suc : (a b : ℕ) → ltb (1 + a) (suc b) ≡ ltb a b
ltb-suc a b =
    elim (cases_lt a b) [
      | inl lt ↦ lt-ltb (1 + a) (suc b) (omega arith) ∙ sym (lt-ltb a b lt)
      | inr le ↦ le-ltb (1 + a) (suc b) (omega arith) ∙ sym (le-ltb a b le)
    ]

-- a control byte stands somewhere where not all bytes are plain
pub control_is : (bytes : List ℕ) → ltb (position_or_len (λ b. ltb b 32) bytes) (length bytes) ≡ not (list_all (leb 32) bytes)
control_is [] = refl
control_is (byte ∷ others) =
    elim (cases_lt byte 32) [
      | inl lt ↦ rw (lt-ltb byte 32 lt, lt-leb 32 byte lt) (lt-ltb 0 (suc (length others)) (omega arith))
      | inr le ↦ rw (le-ltb byte 32 le, le-leb 32 byte le) (ltb-suc (position_or_len (λ b. ltb b 32) others) (length others) ∙ control_is others)
    ]

pub judged_some : (at : ℕ) (bytes : List ℕ) (k : ℕ) → Some k ≡ position (λ b. ltb b 32) bytes → at + k ≡ judged_at at bytes
judged_some at bytes k h =
    let p = position_or_len (λ b. ltb b 32) bytes in
    let whole = control_is bytes in
    elim (cases_Bool (list_all (leb 32) bytes)) [
      | inl plain ↦ absurd (none-some k (sym (h ∙ cond-false (ltb p (length bytes)) (Some p) None (whole ∙ not_from_true (list_all (leb 32) bytes) plain))))
      | inr bad ↦
          let same : k ≡ p = same_Some k p (h ∙ cond-true (ltb p (length bytes)) (Some p) None (whole ∙ not_from_false (list_all (leb 32) bytes) bad)) in
          ap (λ (n : ℕ). at + n) same ∙ sym (cond-false (list_all (leb 32) bytes) at (at + p) bad)
    ]

pub judged_none : (at : ℕ) (bytes : List ℕ) → None ≡ position (λ b. ltb b 32) bytes → at ≡ judged_at at bytes
judged_none at bytes h =
    let p = position_or_len (λ b. ltb b 32) bytes in
    let whole = control_is bytes in
    elim (cases_Bool (list_all (leb 32) bytes)) [
      | inl plain ↦ sym (cond-true (list_all (leb 32) bytes) at (at + p) plain)
      | inr bad ↦ absurd (none-some p (h ∙ cond-true (ltb p (length bytes)) (Some p) None (whole ∙ not_from_false (list_all (leb 32) bytes) bad)))
    ]

-- ---- how long a word is

quoted_two : (whole tail rest : List ℕ) (x y : ℕ) → whole ≡ x ∷ tail → tail ≡ y ∷ rest → quoted_length whole ≡ cond (eqb x 34) (1 + plain_length tail) (cond (eqb x 92) (2 + quoted_length rest) (1 + quoted_length tail))
quoted_two whole tail rest x y h k = rw (h, k) refl

quoted_one : (whole : List ℕ) → length whole ≤ 1 → quoted_length whole ≡ length whole
quoted_one [] h = refl
quoted_one (x ∷ []) h = refl
quoted_one (x ∷ y ∷ others) h = absurd (omega arith)

pub quoted_step : (bytes : List ℕ) (at : ℕ) → 1 < length bytes - at → quoted_length (drop at bytes) ≡ cond (eqb (get_or bytes at 0) 34) (1 + plain_length (drop (at + 1) bytes)) (cond (eqb (get_or bytes at 0) 92) (2 + quoted_length (drop (at + 2) bytes)) (1 + quoted_length (drop (at + 1) bytes)))
quoted_step bytes at h =
    let a = drop_more bytes at 0 (omega arith) in
    let b = drop_more bytes (at + 1) 0 (omega arith) in
    let n : at + 1 + 1 ≡ at + 2 = omega arith in
    let c : drop (at + 1) bytes ≡ get_or bytes (at + 1) 0 ∷ drop (at + 2) bytes = b ∙ ap (λ (k : ℕ). get_or bytes (at + 1) 0 ∷ drop k bytes) n in
    quoted_two (drop at bytes) (drop (at + 1) bytes) (drop (at + 2) bytes) (get_or bytes at 0) (get_or bytes (at + 1) 0) a c

pub quoted_last : (bytes : List ℕ) (at : ℕ) → length bytes - at ≤ 1 → quoted_length (drop at bytes) ≡ length bytes - at
quoted_last bytes at h = quoted_one (drop at bytes) (omega (arith, length-drop at bytes)) ∙ length-drop at bytes

pub plain_length_le : (bytes : List ℕ) → plain_length bytes ≤ length bytes
plain_length_le bytes = prefix_len-le-length (λ b. not (eqb b 32)) bytes

-- a byte of a quoted word, with those read before it
pub quoted_closed : (bytes part : List ℕ) (at : ℕ) → 1 < length bytes - at → get_or bytes at 0 ≡ 34 → part ≡ drop (at + 1) bytes → at + quoted_length (drop at bytes) ≡ at + 1 + plain_length part
quoted_closed bytes part at h hit same =
    ap (λ (n : ℕ). at + n) (quoted_step bytes at h ∙ cond-true (eqb (get_or bytes at 0) 34) (1 + plain_length (drop (at + 1) bytes)) (cond (eqb (get_or bytes at 0) 92) (2 + quoted_length (drop (at + 2) bytes)) (1 + quoted_length (drop (at + 1) bytes))) (eq-eqb (get_or bytes at 0) 34 hit))
    ∙ (let k : at + (1 + plain_length (drop (at + 1) bytes)) ≡ at + 1 + plain_length (drop (at + 1) bytes) = omega arith in k)
    ∙ ap (λ (bs : List ℕ). at + 1 + plain_length bs) (sym same)

quoted_open : (bytes : List ℕ) (at : ℕ) → 1 < length bytes - at → (get_or bytes at 0 ≡ 34 → ⊥) → quoted_length (drop at bytes) ≡ cond (eqb (get_or bytes at 0) 92) (2 + quoted_length (drop (at + 2) bytes)) (1 + quoted_length (drop (at + 1) bytes))
quoted_open bytes at h miss = quoted_step bytes at h ∙ cond-false (eqb (get_or bytes at 0) 34) (1 + plain_length (drop (at + 1) bytes)) (cond (eqb (get_or bytes at 0) 92) (2 + quoted_length (drop (at + 2) bytes)) (1 + quoted_length (drop (at + 1) bytes))) (ne_eqb (get_or bytes at 0) 34 miss)

pub quoted_escape : (bytes : List ℕ) (at n total : ℕ) → 1 < length bytes - at → (get_or bytes at 0 ≡ 34 → ⊥) → get_or bytes at 0 ≡ 92 → n ≡ 2 → at + quoted_length (drop at bytes) ≡ total → (at + n ≤ length bytes) × (at + n + quoted_length (drop (at + n) bytes) ≡ total)
quoted_escape bytes at n total h miss hit two whole =
    let k = quoted_open bytes at h miss ∙ cond-true (eqb (get_or bytes at 0) 92) (2 + quoted_length (drop (at + 2) bytes)) (1 + quoted_length (drop (at + 1) bytes)) (eq-eqb (get_or bytes at 0) 92 hit) in
    rw two (omega arith, omega arith)

pub quoted_plain : (bytes : List ℕ) (at n total : ℕ) → 1 < length bytes - at → (get_or bytes at 0 ≡ 34 → ⊥) → (get_or bytes at 0 ≡ 92 → ⊥) → n ≡ 1 → at + quoted_length (drop at bytes) ≡ total → (at + n ≤ length bytes) × (at + n + quoted_length (drop (at + n) bytes) ≡ total)
quoted_plain bytes at n total h miss other one whole =
    let k = quoted_open bytes at h miss ∙ cond-false (eqb (get_or bytes at 0) 92) (2 + quoted_length (drop (at + 2) bytes)) (1 + quoted_length (drop (at + 1) bytes)) (ne_eqb (get_or bytes at 0) 92 other) in
    rw one (omega arith, omega arith)

quoted_le_step : (hit escape : Bool) (p q r n : ℕ) → p ≤ n + 1 → q ≤ n → r ≤ n + 1 → cond hit (1 + p) (cond escape (2 + q) (1 + r)) ≤ n + 2
quoted_le_step true escape p q r n a b c = omega arith
quoted_le_step false true p q r n a b c = omega arith
quoted_le_step false false p q r n a b c = omega arith

pub quoted_length_le : (bytes : List ℕ) → quoted_length bytes ≤ length bytes
quoted_length_le [] = omega arith
quoted_length_le (x ∷ []) = omega arith
quoted_length_le (x ∷ y ∷ others) =
    let a = plain_length_le (y ∷ others) in
    let b = quoted_length_le others in
    let c = quoted_length_le (y ∷ others) in
    let k = quoted_le_step (eqb x 34) (eqb x 92) (plain_length (y ∷ others)) (quoted_length others) (quoted_length (y ∷ others)) (length others) (omega arith) b (omega arith) in
    omega arith

word_le_step : (hit : Bool) (p q n : ℕ) → p ≤ n → q ≤ n + 1 → cond hit (1 + p) q ≤ n + 1
word_le_step true p q n a b = omega arith
word_le_step false p q n a b = omega arith

pub word_length_le : (bytes : List ℕ) → word_length bytes ≤ length bytes
word_length_le [] = omega arith
word_length_le (x ∷ others) =
    let a = quoted_length_le others in
    let b = plain_length_le (x ∷ others) in
    let k = word_le_step (eqb x 34) (quoted_length others) (plain_length (x ∷ others)) (length others) a (omega arith) in
    omega arith

word_pos_step : (quote space : Bool) (p q : ℕ) → space ≡ false → 1 ≤ cond quote (1 + p) (cond (not space) (1 + q) 0)
word_pos_step true space p q h = omega arith
word_pos_step false true p q h = absurd (true≢false h)
word_pos_step false false p q h = omega arith

pub word_length_pos : (byte : ℕ) (others : List ℕ) → eqb byte 32 ≡ false → 1 ≤ word_length (byte ∷ others)
word_length_pos byte others h = word_pos_step (eqb byte 34) (eqb byte 32) (quoted_length others) (plain_length others) h

-- ---- what stands behind a word

pub behind_taken : (taken at : ℕ) (bytes : List ℕ) → taken ≤ length bytes → words_behind taken at bytes ≡ words_behind 0 (at + taken) (drop taken bytes)
unfolding words_behind
behind_taken zero at [] h = refl
behind_taken zero at (byte ∷ others) h = ap (λ (n : ℕ). words_behind 0 n (byte ∷ others)) (let same : at ≡ at + zero = omega arith in same)
behind_taken (suc taken) at [] h = absurd (omega arith)
behind_taken (suc taken) at (byte ∷ others) h =
    behind_taken taken (at + 1) others (omega arith)
    ∙ ap (λ (n : ℕ). words_behind 0 n (drop taken others)) (let same : at + 1 + taken ≡ at + suc taken = omega arith in same)

pub behind_none : (at : ℕ) → words_behind 0 at [] ≡ []
unfolding words_behind
behind_none at = refl

pub behind_space : (at byte : ℕ) (others : List ℕ) → eqb byte 32 ≡ true → words_behind 0 at (byte ∷ others) ≡ words_behind 0 (at + 1) others
unfolding words_behind
behind_space at byte others h = rw h refl

drop_word : (n : ℕ) (byte : ℕ) (others : List ℕ) → 1 ≤ n → drop (n - 1) others ≡ drop n (byte ∷ others)
drop_word zero byte others h = absurd (omega arith)
drop_word (suc n) byte others h = ap (λ (k : ℕ). drop k others) (let same : suc n - 1 ≡ n = omega arith in same)

pub behind_word : (at byte : ℕ) (others : List ℕ) → eqb byte 32 ≡ false → words_behind 0 at (byte ∷ others) ≡ placed at (take (word_length (byte ∷ others)) (byte ∷ others)) ∷ words_behind 0 (at + word_length (byte ∷ others)) (drop (word_length (byte ∷ others)) (byte ∷ others))
unfolding words_behind
behind_word at byte others h =
    let n = word_length (byte ∷ others) in
    let some = word_length_pos byte others h in
    let most = word_length_le (byte ∷ others) in
    let place : at + 1 + (n - 1) ≡ at + n = omega arith in
    let rest : words_behind (n - 1) (at + 1) others ≡ words_behind 0 (at + n) (drop n (byte ∷ others)) =
    behind_taken (n - 1) (at + 1) others (omega arith) ∙ ap (λ (k : ℕ). words_behind 0 k (drop (n - 1) others)) place ∙ ap (words_behind 0 (at + n)) (drop_word n byte others some) in
    cond-false (eqb byte 32) (words_behind 0 (at + 1) others) (placed at (take n (byte ∷ others)) ∷ words_behind (n - 1) (at + 1) others) h
    ∙ ap (λ (ws : List PlacedWord). placed at (take n (byte ∷ others)) ∷ ws) rest

-- a space, and a word, of a line that is read up to a place
pub space_at : (at : ℕ) (line : List ℕ) (taken : ℕ) → taken < length line → eqb (get_or line taken 0) 32 ≡ true → words_behind 0 (at + taken) (drop taken line) ≡ words_behind 0 (at + (taken + 1)) (drop (taken + 1) line)
space_at at line taken lt h =
    ap (words_behind 0 (at + taken)) (drop_more line taken 0 lt)
    ∙ behind_space (at + taken) (get_or line taken 0) (drop (taken + 1) line) h
    ∙ ap (λ (n : ℕ). words_behind 0 n (drop (taken + 1) line)) (let same : at + taken + 1 ≡ at + (taken + 1) = omega arith in same)

word_front : (at : ℕ) (bytes : List ℕ) (byte : ℕ) (others : List ℕ) → bytes ≡ byte ∷ others → eqb byte 32 ≡ false → words_behind 0 at bytes ≡ placed at (take (word_length bytes) bytes) ∷ words_behind 0 (at + word_length bytes) (drop (word_length bytes) bytes)
word_front at bytes byte others same h = rw same (behind_word at byte others h)

pub word_at : (at : ℕ) (line : List ℕ) (taken : ℕ) → taken < length line → eqb (get_or line taken 0) 32 ≡ false → words_behind 0 (at + taken) (drop taken line) ≡ placed (at + taken) (take (word_length (drop taken line)) (drop taken line)) ∷ words_behind 0 (at + (taken + word_length (drop taken line))) (drop (taken + word_length (drop taken line)) line)
word_at at line taken lt h =
    let n = word_length (drop taken line) in
    word_front (at + taken) (drop taken line) (get_or line taken 0) (drop (taken + 1) line) (drop_more line taken 0 lt) h
    ∙ ap (λ (k : ℕ). placed (at + taken) (take n (drop taken line)) ∷ words_behind 0 k (drop n (drop taken line))) (let same : at + taken + n ≡ at + (taken + n) = omega arith in same)
    ∙ ap (λ (bs : List ℕ). placed (at + taken) (take n (drop taken line)) ∷ words_behind 0 (at + (taken + n)) bs) (drop-drop n taken line)

-- the same, with the words found before
pub space_next : (at taken : ℕ) (line : List ℕ) (found whole : List PlacedWord) → taken < length line → get_or line taken 0 ≡ 32 → found ++ words_behind 0 (at + taken) (drop taken line) ≡ whole → found ++ words_behind 0 (at + (taken + 1)) (drop (taken + 1) line) ≡ whole
space_next at taken line found whole lt hit h = ap (λ (ws : List PlacedWord). found ++ ws) (sym (space_at at line taken lt (eq-eqb (get_or line taken 0) 32 hit))) ∙ h

word_next_length : (at taken n : ℕ) (line : List ℕ) (found whole : List PlacedWord) → taken < length line → (get_or line taken 0 ≡ 32 → ⊥) → found ++ words_behind 0 (at + taken) (drop taken line) ≡ whole → n ≡ word_length (drop taken line) → (found ++ placed (at + taken) (take n (drop taken line)) ∷ []) ++ words_behind 0 (at + (taken + n)) (drop (taken + n) line) ≡ whole
word_next_length at taken n line found whole lt miss h same =
    rw same (append_assoc found (placed (at + taken) (take (word_length (drop taken line)) (drop taken line)) ∷ []) (words_behind 0 (at + (taken + word_length (drop taken line))) (drop (taken + word_length (drop taken line)) line))
    ∙ ap (λ (ws : List PlacedWord). found ++ ws) (sym (word_at at line taken lt (ne_eqb (get_or line taken 0) 32 miss))) ∙ h)

pub word_next : (at taken : ℕ) (line part : List ℕ) (found whole : List PlacedWord) (word : PlacedWord) → taken < length line → (get_or line taken 0 ≡ 32 → ⊥) → found ++ words_behind 0 (at + taken) (drop taken line) ≡ whole → part ≡ drop taken line → word ≡ placed (at + taken) (take (word_length part) part)
    → (taken + length word.bytes ≤ length line) × ((found ++ word ∷ []) ++ words_behind 0 (at + (taken + length word.bytes)) (drop (taken + length word.bytes) line) ≡ whole)
word_next at taken line part found whole word lt miss h same is =
    let there : word ≡ placed (at + taken) (take (word_length (drop taken line)) (drop taken line)) = is ∙ ap (λ (bs : List ℕ). placed (at + taken) (take (word_length bs) bs)) same in
    let most = word_length_le (drop taken line) in
    let short = length-drop taken line in
    let long : length word.bytes ≡ word_length (drop taken line) = ap (λ (w : PlacedWord). length w.bytes) there ∙ length-take-le (word_length (drop taken line)) (drop taken line) most in
    (omega arith, ap (λ (w : PlacedWord). (found ++ w ∷ []) ++ words_behind 0 (at + (taken + length word.bytes)) (drop (taken + length word.bytes) line)) (there ∙ ap (λ (n : ℕ). placed (at + taken) (take n (drop taken line))) (sym long)) ∙ word_next_length at taken (length word.bytes) line found whole lt miss h long)

pub words_end : (at taken : ℕ) (line : List ℕ) (found whole : List PlacedWord) → length line ≤ taken → found ++ words_behind 0 (at + taken) (drop taken line) ≡ whole → found ≡ whole
words_end at taken line found whole le h =
    sym (append-nil found) ∙ ap (λ (ws : List PlacedWord). found ++ ws) (sym (ap (words_behind 0 (at + taken)) (drop_all taken line le) ∙ behind_none (at + taken))) ∙ h

-- ---- a comment

pub comment_step : (line : List ℕ) (i : ℕ) → i < length line → is_comment (drop i line) ≡ cond (eqb (get_or line i 0) 32) (is_comment (drop (i + 1) line)) (eqb (get_or line i 0) 35)
comment_step line i lt = at_drop_more is_comment line i 0 lt

-- ---- a word alone in its line

abbrev pub spaces : List ℕ → ℕ
spaces bytes = prefix_len (λ b. eqb b 32) bytes

not_not : (hit : Bool) (n m : ℕ) → n ≡ m → cond (not (not hit)) (1 + n) 0 ≡ cond hit (1 + m) 0
not_not true n m h = ap (λ (k : ℕ). 1 + k) h
not_not false n m h = refl

pub spaces_is : (bytes : List ℕ) → position_or_len (λ b. not (eqb b 32)) bytes ≡ spaces bytes
spaces_is [] = refl
spaces_is (byte ∷ others) = not_not (eqb byte 32) (position_or_len (λ b. not (eqb b 32)) others) (spaces others) (spaces_is others)

pub spaces_le : (bytes : List ℕ) → spaces bytes ≤ length bytes
spaces_le bytes = prefix_len-le-length (λ b. eqb b 32) bytes

pub behind_spaces : (at : ℕ) (bytes : List ℕ) → words_behind 0 at bytes ≡ words_behind 0 (at + spaces bytes) (drop (spaces bytes) bytes)
behind_spaces at [] = behind_none at ∙ sym (behind_none (at + 0))
behind_spaces at (byte ∷ others) =
    elim (cases_Bool (eqb byte 32)) [
      | inl hit ↦
          let more : 1 + spaces others ≡ suc (spaces others) = omega arith in
          let place : at + 1 + spaces others ≡ at + suc (spaces others) = omega arith in
          rw (hit, more) (behind_space at byte others hit ∙ behind_spaces (at + 1) others ∙ ap (λ (n : ℕ). words_behind 0 n (drop (spaces others) others)) place)
      | inr miss ↦ rw miss (ap (λ (n : ℕ). words_behind 0 n (byte ∷ others)) (let same : at ≡ at + 0 = omega arith in same))
    ]

-- only spaces, or a word behind them
pub blank_words : (at : ℕ) (bytes : List ℕ) → length bytes ≤ spaces bytes → words_behind 0 at bytes ≡ []
blank_words at bytes le = behind_spaces at bytes ∙ ap (words_behind 0 (at + spaces bytes)) (drop_all (spaces bytes) bytes le) ∙ behind_none (at + spaces bytes)

abbrev front : List ℕ → List ℕ
front bytes = drop (spaces bytes) bytes

pub unblank_words : (at : ℕ) (bytes : List ℕ) → spaces bytes < length bytes → words_behind 0 at bytes ≡ placed (at + spaces bytes) (take (word_length (front bytes)) (front bytes)) ∷ words_behind 0 (at + spaces bytes + word_length (front bytes)) (drop (word_length (front bytes)) (front bytes))
unblank_words at bytes lt =
    behind_spaces at bytes
    ∙ word_front (at + spaces bytes) (front bytes) (get_or bytes (spaces bytes) 0) (drop (spaces bytes + 1) bytes) (drop_more bytes (spaces bytes) 0 lt) (prefix_len_stops (λ b. eqb b 32) bytes 0 lt)

and_true : (b : Bool) → (b && true) ≡ b
and_true true = refl
and_true false = refl

and_false : (b : Bool) → (b && false) ≡ false
and_false true = refl
and_false false = refl

-- a first word is the only one where spaces alone stand behind it
only_first : (word : List ℕ) (first : PlacedWord) (at : ℕ) (rest : List ℕ) → is_only word (first ∷ words_behind 0 at rest) ≡ (bytes_eq first.bytes word && eqb (length (front rest)) 0)
only_first word first at rest =
    let left = length-drop (spaces rest) rest in
    elim (cases_lt (spaces rest) (length rest)) [
      | inl lt ↦ rw (unblank_words at rest lt, ne_eqb (length (front rest)) 0 (λ e. absurd (omega arith))) (sym (and_false (bytes_eq first.bytes word)))
      | inr le ↦ rw (blank_words at rest le, eq-eqb (length (front rest)) 0 (omega arith)) (sym (and_true (bytes_eq first.bytes word)))
    ]

only_is : (word line : List ℕ) (at : ℕ) → (ltb 0 (word_length (front line)) && (bytes_eq (take (word_length (front line)) (front line)) word && eqb (length (front (drop (word_length (front line)) (front line)))) 0)) ≡ is_only word (words_behind 0 at line)
only_is word line at =
    let n = word_length (front line) in
    elim (cases_lt (spaces line) (length line)) [
      | inl lt ↦
          let whole = drop_more line (spaces line) 0 lt in
          let some : 1 ≤ n = subst (λ (bs : List ℕ). 1 ≤ word_length bs) (sym whole) (word_length_pos (get_or line (spaces line) 0) (drop (spaces line + 1) line) (prefix_len_stops (λ b. eqb b 32) line 0 lt)) in
          rw (lt-ltb 0 n (omega arith)) (sym (ap (is_only word) (unblank_words at line lt) ∙ only_first word (placed (at + spaces line) (take n (front line))) (at + spaces line + n) (drop n (front line))))
      | inr le ↦
          let empty : front line ≡ [] = drop_all (spaces line) line le in
          rw (blank_words at line le, empty) refl
    ]

only_parts : (word line start found rest : List ℕ) → start ≡ front line → found ≡ take (word_length start) start → rest ≡ drop (word_length start) start → (ltb 0 (length found) && (bytes_eq found word && eqb (length (front rest)) 0)) ≡ is_only word (words_behind 0 0 line)
only_parts word line start found rest s f r =
    let at_front : found ≡ take (word_length (front line)) (front line) = f ∙ ap (λ (bs : List ℕ). take (word_length bs) bs) s in
    let at_rest : rest ≡ drop (word_length (front line)) (front line) = r ∙ ap (λ (bs : List ℕ). drop (word_length bs) bs) s in
    rw (at_front, at_rest, length-take-le (word_length (front line)) (front line) (word_length_le (front line))) (only_is word line 0)

pub only_none : (word line start found rest : List ℕ) → start ≡ front line → found ≡ take (word_length start) start → rest ≡ drop (word_length start) start → length found ≡ 0 → false ≡ is_only word (words_behind 0 0 line)
only_none word line start found rest s f r none =
    (rw none refl) ∙ only_parts word line start found rest s f r

pub only_other : (word line start found rest : List ℕ) → start ≡ front line → found ≡ take (word_length start) start → rest ≡ drop (word_length start) start → bytes_eq found word ≡ false → false ≡ is_only word (words_behind 0 0 line)
only_other word line start found rest s f r other =
    (rw other (sym (and_false (ltb 0 (length found))))) ∙ only_parts word line start found rest s f r

pub only_same : (word line start found rest past : List ℕ) → start ≡ front line → found ≡ take (word_length start) start → rest ≡ drop (word_length start) start → past ≡ front rest → 0 < length found → bytes_eq found word ≡ true → eqb (length past) 0 ≡ is_only word (words_behind 0 0 line)
only_same word line start found rest past s f r p some same =
    (rw (p, lt-ltb 0 (length found) some, same) refl) ∙ only_parts word line start found rest s f r
