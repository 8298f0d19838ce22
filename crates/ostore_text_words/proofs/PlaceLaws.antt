-- The places of the words and lines of a text: within the text, and rising.
use Rattle.std.proofs.Common.{◌≡◌, ℕ, zero, suc, ◌+◌, ◌-◌, ◌<◌, ◌≤◌, true, false, eqb, leb, ltb, cond, List, [], ◌∷◌, ◌++◌, length, take, map, filter, sym, subst, ◌∙◌, arith, inl, inr}
use Rattle.std.specs.Prelude.{flat_map}
use Rattle.std.specs.List.{slice_split, list_all, position_or_len, All, AllByRecursion}
use Rattle.std.proofs.lemmas.Bool.{cases_Bool, cond-true, cond-false, ltb-true, not_from_false}
use Rattle.std.proofs.lemmas.List.{append_assoc, length-take-le}
use Rattle.std.proofs.lemmas.List.Elements.{All-from_recursion}
use Rattle.ostore_text_words.specs.Lines.{PlacedWord, PlacedLine, word_length, judged_at, placed, words_behind, is_comment, line_words, line_of, lines_from, has_words, lines_of}
use Rattle.ostore_text_words.proofs.WordPlaces.{control_is, word_length_le, word_length_pos}
use Rattle.ostore_text_words.proofs.LineReaders.{span, span_split}

-- the places rise strictly, from `least` to `most`
abbrev pub RiseWithin : ℕ → ℕ → List ℕ → Type 0
RiseWithin least most [] = Unit {0}
RiseWithin least most (place ∷ places) = (least ≤ place) × (place ≤ most) × RiseWithin (place + 1) most places

-- the places of the words of a line, and then its end
abbrev pub line_places : PlacedLine → List ℕ
line_places line = map (λ (word : PlacedWord). word.at) line.words ++ line.end ∷ []

abbrev pub places : List PlacedLine → List ℕ
places lines = flat_map line_places lines

pub RiseWithin-later : (least later most : ℕ) (rest : List ℕ) → least ≤ later → RiseWithin later most rest → RiseWithin least most rest
RiseWithin-later least later most [] le h = tt
RiseWithin-later least later most (place ∷ rest) le h = (omega (arith, h.0), h.1, h.2)

-- ---- where a word is judged to be

judged_low : (at : ℕ) (bytes : List ℕ) → at ≤ judged_at at bytes
judged_low at bytes =
    elim (cases_Bool (list_all (leb 32) bytes)) [
      | inl plain ↦ rw (cond-true (list_all (leb 32) bytes) at (at + position_or_len (λ b. ltb b 32) bytes) plain) (omega arith)
      | inr bad ↦ rw (cond-false (list_all (leb 32) bytes) at (at + position_or_len (λ b. ltb b 32) bytes) bad) (omega arith)
    ]

judged_high : (at : ℕ) (bytes : List ℕ) → 0 < length bytes → judged_at at bytes < at + length bytes
judged_high at bytes some =
    elim (cases_Bool (list_all (leb 32) bytes)) [
      | inl plain ↦ rw (cond-true (list_all (leb 32) bytes) at (at + position_or_len (λ b. ltb b 32) bytes) plain) (omega arith)
      | inr bad ↦
          let below = ltb-true (position_or_len (λ b. ltb b 32) bytes) (length bytes) (control_is bytes ∙ not_from_false (list_all (leb 32) bytes) bad) in
          rw (cond-false (list_all (leb 32) bytes) at (at + position_or_len (λ b. ltb b 32) bytes) bad) (omega arith)
    ]

-- ---- the words of a line

abbrev at_of : PlacedWord → ℕ
at_of word = word.at

word_rises : (at most : ℕ) (bytes rest : List ℕ) (words : List PlacedWord) → 0 < length bytes → at + length bytes ≤ most → RiseWithin (at + length bytes) most (map at_of words ++ rest) → RiseWithin at most (map at_of (placed at bytes ∷ words) ++ rest)
word_rises at most bytes rest words some fits h =
    let low = judged_low at bytes in
    let high = judged_high at bytes some in
    (low, omega arith, RiseWithin-later (judged_at at bytes + 1) (at + length bytes) most (map at_of words ++ rest) (omega arith) h)

behind_rises : (taken at most : ℕ) (bytes rest : List ℕ) → taken ≤ length bytes → at + length bytes ≤ most → RiseWithin (at + length bytes) most rest → RiseWithin (at + taken) most (map at_of (words_behind taken at bytes) ++ rest)
unfolding words_behind
behind_rises zero at most [] rest le fits h = h
behind_rises (suc taken) at most [] rest le fits h = absurd (omega arith)
behind_rises (suc taken) at most (byte ∷ others) rest le fits h =
    let same : at + 1 + taken ≡ at + suc taken = omega arith in
    let long : at + 1 + length others ≡ at + length (byte ∷ others) = omega arith in
    subst (λ (n : ℕ). RiseWithin n most (map at_of (words_behind taken (at + 1) others) ++ rest)) same
    (behind_rises taken (at + 1) most others rest (omega arith) (omega arith) (subst (λ (n : ℕ). RiseWithin n most rest) (sym long) h))
behind_rises zero at most (byte ∷ others) rest le fits h =
    let long : at + 1 + length others ≡ at + length (byte ∷ others) = omega arith in
    let behind = subst (λ (n : ℕ). RiseWithin n most rest) (sym long) h in
    let spaced = words_behind 0 (at + 1) others in
    let worded = placed at (take (word_length (byte ∷ others)) (byte ∷ others)) ∷ words_behind (word_length (byte ∷ others) - 1) (at + 1) others in
    let shown = λ (ws : List PlacedWord). RiseWithin (at + 0) most (map at_of ws ++ rest) in
    elim (cases_Bool (eqb byte 32)) [
      | inl hit ↦ subst shown (sym (cond-true (eqb byte 32) spaced worded hit)) (RiseWithin-later (at + 0) (at + 1 + 0) most (map at_of (words_behind 0 (at + 1) others) ++ rest) (omega arith) (behind_rises 0 (at + 1) most others rest (omega arith) (omega arith) behind))
      | inr miss ↦
          let count = word_length (byte ∷ others) in
          let some = word_length_pos byte others miss in
          let within = word_length_le (byte ∷ others) in
          let size = length-take-le count (byte ∷ others) within in
          let next = behind_rises (count - 1) (at + 1) most others rest (omega arith) (omega arith) behind in
          let place : at + 1 + (count - 1) ≡ at + length (take count (byte ∷ others)) = omega arith in
          let begins : at ≡ at + 0 = omega arith in
          subst shown (sym (cond-false (eqb byte 32) spaced worded miss)) (subst (λ (n : ℕ). RiseWithin n most (map at_of (placed at (take count (byte ∷ others)) ∷ words_behind (count - 1) (at + 1) others) ++ rest)) begins
          (word_rises at most (take count (byte ∷ others)) rest (words_behind (count - 1) (at + 1) others) (omega arith) (omega arith)
          (subst (λ (n : ℕ). RiseWithin n most (map at_of (words_behind (count - 1) (at + 1) others) ++ rest)) place next)))
    ]

comment_rises : (at most : ℕ) (line rest : List ℕ) → is_comment line ≡ true → at + length line ≤ most → RiseWithin (at + length line) most rest → RiseWithin at most (map at_of (line_words at line) ++ rest)
comment_rises at most [] rest comment fits h = absurd (let no : false ≡ true = comment in cc)
comment_rises at most (byte ∷ others) rest comment fits h =
    let line : List ℕ = byte ∷ others in
    elim (cases_Bool (list_all (leb 32) line)) [
      | inl plain ↦ rw (cond-true (is_comment line) (cond (list_all (leb 32) line) [] (placed at line ∷ [])) (words_behind 0 at line) comment, cond-true (list_all (leb 32) line) [] (placed at line ∷ []) plain) (RiseWithin-later at (at + length line) most rest (omega arith) h)
      | inr bad ↦ rw (cond-true (is_comment line) (cond (list_all (leb 32) line) [] (placed at line ∷ [])) (words_behind 0 at line) comment, cond-false (list_all (leb 32) line) [] (placed at line ∷ []) bad) (word_rises at most line rest [] (omega arith) fits h)
    ]

line_rises : (at most : ℕ) (line rest : List ℕ) → at + length line ≤ most → RiseWithin (at + length line) most rest → RiseWithin at most (map at_of (line_words at line) ++ rest)
line_rises at most line rest fits h =
    elim (cases_Bool (is_comment line)) [
      | inl comment ↦ comment_rises at most line rest comment fits h
      | inr words ↦
          let begins : at + 0 ≡ at = omega arith in
          rw (cond-false (is_comment line) (cond (list_all (leb 32) line) [] (placed at line ∷ [])) (words_behind 0 at line) words)
          (subst (λ (n : ℕ). RiseWithin n most (map at_of (words_behind 0 at line) ++ rest)) begins (behind_rises 0 at most line rest (omega arith) fits h))
    ]

-- ---- the lines of a text

pub lines_rise : (at most : ℕ) (parts : List (List ℕ)) → at + span parts ≤ most + 1 → RiseWithin at most (places (filter has_words (lines_from at parts)))
lines_rise at most [] fits = tt
lines_rise at most (line ∷ parts) fits =
    let end = at + length line in
    let later = filter has_words (lines_from (end + 1) parts) in
    let more = lines_rise (end + 1) most parts (omega arith) in
    let here : RiseWithin at most (map at_of (line_words at line) ++ end ∷ places later) = line_rises at most line (end ∷ places later) (omega arith) (omega arith, omega arith, more) in
    elim (cases_Bool (has_words (line_of at line))) [
      | inl some ↦
          subst (λ (ls : List PlacedLine). RiseWithin at most (places ls)) (sym (cond-true (has_words (line_of at line)) (line_of at line ∷ later) later some))
          (subst (RiseWithin at most) (sym (append_assoc (map at_of (line_words at line)) (end ∷ []) (places later))) here)
      | inr none ↦
          subst (λ (ls : List PlacedLine). RiseWithin at most (places ls)) (sym (cond-false (has_words (line_of at line)) (line_of at line ∷ later) later none))
          (RiseWithin-later at (end + 1) most (places later) (omega arith) more)
    ]

-- the places of a text rise strictly, word by word and line by line, and none is behind the text
pub places_rise : (text : List ℕ) → RiseWithin 0 (length text) (places (lines_of text))
unfolding lines_of
places_rise text = lines_rise 0 (length text) (slice_split (λ b. eqb b 10) text) (omega (arith, span_split (λ b. eqb b 10) text))

-- ---- each place alone

-- a word begins before its line ends, and no line ends behind the text
abbrev pub WordsBefore : ℕ → List PlacedWord → Type 0
WordsBefore end words = AllByRecursion (λ (word : PlacedWord). word.at < end) words

abbrev pub LinesWithin : ℕ → List PlacedLine → Type 0
LinesWithin most lines = AllByRecursion (λ (line : PlacedLine). WordsBefore line.end line.words × (line.end ≤ most)) lines

words_before : (least most end : ℕ) (words : List PlacedWord) (rest : List ℕ) → RiseWithin least most (map at_of words ++ end ∷ rest) → WordsBefore end words × (least ≤ end) × (end ≤ most) × RiseWithin (end + 1) most rest
words_before least most end [] rest h = (tt, h.0, h.1, h.2)
words_before least most end (word ∷ words) rest h =
    let k = words_before (word.at + 1) most end words rest h.2 in
    ((omega (arith, k.1), k.0), omega (arith, k.1, h.0), k.2, k.3)

lines_within : (least most : ℕ) (lines : List PlacedLine) → RiseWithin least most (places lines) → LinesWithin most lines
lines_within least most [] h = tt
lines_within least most (line ∷ lines) h =
    let k = words_before least most line.end line.words (places lines) (subst (RiseWithin least most) (append_assoc (map at_of line.words) (line.end ∷ []) (places lines)) h) in
    ((k.0, k.2), lines_within (line.end + 1) most lines k.3)

pub places_within : (text : List ℕ) → LinesWithin (length text) (lines_of text)
places_within text = lines_within 0 (length text) (lines_of text) (places_rise text)

-- the same, by the numbers of the lines
pub line_ends_within : (text : List ℕ) → All (λ (line : PlacedLine). WordsBefore line.end line.words × (line.end ≤ length text)) (lines_of text)
line_ends_within text = All-from_recursion (λ (line : PlacedLine). WordsBefore line.end line.words × (line.end ≤ length text)) (lines_of text) (places_within text)
