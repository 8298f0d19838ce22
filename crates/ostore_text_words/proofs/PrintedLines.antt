-- The canonical text of lines of words gives those lines back, and is UTF-8.
use Rattle.std.proofs.Common.{◌≡◌, ℕ, zero, suc, ◌+◌, ◌<◌, Bool, true, false, ◌&&◌, ◌||◌, not, eqb, leb, ltb, cond, List, [], ◌∷◌, ◌++◌, length, get_or, take, drop, map, filter, refl, sym, ap, ◌∙◌, arith}
use Rattle.std.specs.Prelude.{codes}
use Rattle.std.specs.List.{slice_split, list_all, flat_map, AllByRecursion}
use Rattle.std.specs.Str.{IsUtf8, is_utf8}
use Rattle.std.proofs.lemmas.Bool.{and_parts, and_from, cond-true, cond-false, lt-ltb, ltb-true, leb-true, le-leb, ne_eqb, false≢true, not-true}
use Rattle.std.proofs.lemmas.List.{append-nil, append_assoc, length-append, length-map, take_at, drop_at}
use Rattle.std.proofs.lemmas.List.Folds.{list_all-append}
use Rattle.std.proofs.lemmas.Str.{IsUtf8-from_ascii, is_utf8-from_IsUtf8}
use Rattle.ostore_text_words.specs.Words.{escaped, quoted}
use Rattle.ostore_text_words.proofs.QuotedLaws.{plain_quoted}
use Rattle.ostore_text_words.specs.Lines.{PlacedWord, plain_length, quoted_length, word_length, placed, words_behind, is_comment, line_words, line_of, lines_from, has_words, lines_of, bare_words, bare_lines, word_lines, joined, text_of_lines, is_bare, is_bare_line}
use Rattle.ostore_text_words.proofs.WordPlaces.{behind_word, behind_space, behind_none}
use Rattle.ostore_text_words.proofs.BareWords.{is_ascii_byte}

-- ---- a bare word at the front

-- a word ends there
abbrev pub stops : List ℕ → Bool
stops [] = true
stops (byte ∷ others) = eqb byte 32

above_space : (byte : ℕ) → ltb 32 byte ≡ true → eqb byte 32 ≡ false
above_space byte h =
    let low = ltb-true 32 byte h in
    ne_eqb byte 32 (λ e. absurd (omega arith))

plain_until : (word rest : List ℕ) → list_all (ltb 32) word ≡ true → stops rest ≡ true → plain_length (word ++ rest) ≡ length word
plain_until [] [] h k = refl
plain_until [] (byte ∷ others) h k = rw k refl
plain_until (byte ∷ word) rest h k =
    let p = and_parts (ltb 32 byte) (list_all (ltb 32) word) h in
    let more : 1 + length word ≡ length (byte ∷ word) = omega arith in
    rw (above_space byte p.0, plain_until word rest p.1 k) more

pub record IsBare (byte : ℕ) (others : List ℕ) : Type 0 where
  pub plain : list_all (ltb 32) (byte ∷ others) ≡ true
  pub no_space : eqb byte 32 ≡ false
  pub no_quote : eqb byte 34 ≡ false
  pub no_comment : eqb byte 35 ≡ false

bare_parts : (byte : ℕ) (others : List ℕ) → is_bare (byte ∷ others) ≡ true → IsBare byte others
bare_parts byte others h =
    let p = and_parts (list_all (ltb 32) (byte ∷ others) && not (eqb byte 34)) (not (eqb byte 35)) h in
    let q = and_parts (list_all (ltb 32) (byte ∷ others)) (not (eqb byte 34)) p.0 in
    let r = and_parts (ltb 32 byte) (list_all (ltb 32) others) q.0 in
    record { plain = q.0; no_space = above_space byte r.0; no_quote = not-true (eqb byte 34) q.1; no_comment = not-true (eqb byte 35) p.1 }

word_until : (byte : ℕ) (others rest : List ℕ) → is_bare (byte ∷ others) ≡ true → stops rest ≡ true → word_length ((byte ∷ others) ++ rest) ≡ length (byte ∷ others)
word_until byte others rest h k =
    let p = bare_parts byte others h in
    cond-false (eqb byte 34) _ (plain_length ((byte ∷ others) ++ rest)) p.no_quote ∙ plain_until (byte ∷ others) rest p.plain k

bare_front : (at n byte : ℕ) (others rest : List ℕ) → n ≡ length (byte ∷ others) → placed at (take n ((byte ∷ others) ++ rest)) ∷ words_behind 0 (at + n) (drop n ((byte ∷ others) ++ rest)) ≡ placed at (byte ∷ others) ∷ words_behind 0 (at + length (byte ∷ others)) rest
bare_front at n byte others rest same =
    ap (λ (bs : List ℕ). placed at bs ∷ words_behind 0 (at + n) (drop n ((byte ∷ others) ++ rest))) (take_at (byte ∷ others) rest n (sym same))
    ∙ ap (λ (bs : List ℕ). placed at (byte ∷ others) ∷ words_behind 0 (at + n) bs) (drop_at (byte ∷ others) rest n (sym same))
    ∙ ap (λ (m : ℕ). placed at (byte ∷ others) ∷ words_behind 0 (at + m) rest) same

bare_at : (at : ℕ) (word rest : List ℕ) → is_bare word ≡ true → stops rest ≡ true → words_behind 0 at (word ++ rest) ≡ placed at word ∷ words_behind 0 (at + length word) rest
bare_at at [] rest h k = absurd (false≢true h)
bare_at at (byte ∷ others) rest h k =
    behind_word at byte (others ++ rest) (bare_parts byte others h).no_space
    ∙ bare_front at (word_length ((byte ∷ others) ++ rest)) byte others rest (word_until byte others rest h k)

-- ---- words that are found where they stand

pub record StandsSo (word : List ℕ) : Type 0 where
  pub found : (at : ℕ) (rest : List ℕ) → stops rest ≡ true → words_behind 0 at (word ++ rest) ≡ placed at word ∷ words_behind 0 (at + length word) rest
  pub no_comment : (rest : List ℕ) → is_comment (word ++ rest) ≡ false
  pub plain : list_all (leb 32) word ≡ true

front_no_comment : (word rest : List ℕ) → is_bare word ≡ true → is_comment (word ++ rest) ≡ false
front_no_comment [] rest h = absurd (false≢true h)
front_no_comment (byte ∷ others) rest h =
    let p = bare_parts byte others h in
    cond-false (eqb byte 32) (is_comment (others ++ rest)) (eqb byte 35) p.no_space ∙ p.no_comment

above_plain : (byte : ℕ) → ltb 32 byte ≡ true → leb 32 byte ≡ true
above_plain byte h =
    let low = ltb-true 32 byte h in
    le-leb 32 byte (omega arith)

word_plain_bytes : (word : List ℕ) → list_all (ltb 32) word ≡ true → list_all (leb 32) word ≡ true
word_plain_bytes [] h = refl
word_plain_bytes (byte ∷ others) h =
    let p = and_parts (ltb 32 byte) (list_all (ltb 32) others) h in
    and_from (leb 32 byte) (list_all (leb 32) others) (above_plain byte p.0) (word_plain_bytes others p.1)

word_plain : (word : List ℕ) → is_bare word ≡ true → list_all (leb 32) word ≡ true
word_plain [] h = refl
word_plain (byte ∷ others) h = word_plain_bytes (byte ∷ others) (bare_parts byte others h).plain

pub bare_stands : (word : List ℕ) → is_bare word ≡ true → StandsSo word
bare_stands word h = record { found = λ at rest k. bare_at at word rest h k; no_comment = λ rest. front_no_comment word rest h; plain = word_plain word h }

pub bare_words_stand : (line : List (List ℕ)) → list_all is_bare line ≡ true → AllByRecursion StandsSo line
bare_words_stand [] h = tt
bare_words_stand (word ∷ line) h =
    let p = and_parts (is_bare word) (list_all is_bare line) h in
    (bare_stands word p.0, bare_words_stand line p.1)

-- a quoted text is one word, spaces included
closing : (rest : List ℕ) → stops rest ≡ true → quoted_length (34 ∷ rest) ≡ 1
closing [] k = refl
closing (byte ∷ others) k = rw k refl

some_tail : (front rest : List ℕ) → (next : ℕ) × (more : List ℕ) × (front ++ 34 ∷ rest ≡ next ∷ more)
some_tail [] rest = (34, rest, refl)
some_tail (byte ∷ front) rest = (byte, front ++ 34 ∷ rest, refl)

plain_step : (byte next : ℕ) (more : List ℕ) → eqb byte 34 ≡ false → eqb byte 92 ≡ false → quoted_length (byte ∷ next ∷ more) ≡ 1 + quoted_length (next ∷ more)
plain_step byte next more q b = rw (q, b) refl

byte_step : (quote backslash : Bool) (byte next : ℕ) (more : List ℕ) → quote ≡ eqb byte 34 → backslash ≡ eqb byte 92
    → quoted_length ((cond (quote || backslash) (codes "\\") [] ++ byte ∷ []) ++ next ∷ more) ≡ length (cond (quote || backslash) (codes "\\") [] ++ byte ∷ []) + quoted_length (next ∷ more)
byte_step true backslash byte next more q b = refl
byte_step false true byte next more q b = refl
byte_step false false byte next more q b = plain_step byte next more (sym q) (sym b)

inside_length : (text rest : List ℕ) → stops rest ≡ true → quoted_length (flat_map escaped text ++ 34 ∷ rest) ≡ length (flat_map escaped text) + 1
inside_length [] rest k = closing rest k ∙ omega arith
inside_length (byte ∷ others) rest k =
    let tail = some_tail (flat_map escaped others) rest in
    let later = inside_length others rest k in
    let long = length-append (escaped byte) (flat_map escaped others) in
    ap quoted_length (append_assoc (escaped byte) (flat_map escaped others) (34 ∷ rest) ∙ ap (λ (bs : List ℕ). escaped byte ++ bs) tail.2)
    ∙ byte_step (eqb byte 34) (eqb byte 92) byte tail.0 tail.1 refl refl
    ∙ ap (λ (n : ℕ). length (escaped byte) + n) (sym (ap quoted_length tail.2) ∙ later)
    ∙ omega (arith, long)

pub quoted_stands : (text : List ℕ) → list_all (leb 32) text ≡ true → StandsSo (quoted text)
quoted_stands text h =
    let inner = flat_map escaped text in
    let long = length-append inner (34 ∷ []) in
    record {
      found = λ at rest k.
          let size : word_length (quoted text ++ rest) ≡ length (quoted text) =
          ap (λ (bs : List ℕ). 1 + quoted_length bs) (append_assoc inner (34 ∷ []) rest) ∙ ap (λ (n : ℕ). 1 + n) (inside_length text rest k) ∙ omega (arith, long) in
          behind_word at 34 ((inner ++ 34 ∷ []) ++ rest) refl ∙ bare_front at (word_length (quoted text ++ rest)) 34 (inner ++ 34 ∷ []) rest size;
      no_comment = λ rest. refl;
      plain = plain_quoted text ∙ h;
    }

-- ---- a line of such words

-- the words with one space between them
abbrev spaced : List (List ℕ) → List ℕ
spaced [] = []
spaced (word ∷ []) = word
spaced (word ∷ next ∷ words) = word ++ 32 ∷ spaced (next ∷ words)

spaced_words : (at : ℕ) (line : List (List ℕ)) → AllByRecursion StandsSo line → map (λ (word : PlacedWord). word.bytes) (words_behind 0 at (spaced line)) ≡ line
spaced_words at [] h = ap (map (λ (word : PlacedWord). word.bytes)) (behind_none at)
spaced_words at (word ∷ []) h =
    ap (λ (bs : List ℕ). map (λ (w : PlacedWord). w.bytes) (words_behind 0 at bs)) (sym (append-nil word))
    ∙ ap (map (λ (w : PlacedWord). w.bytes)) (h.0.found at [] refl ∙ ap (λ (ws : List PlacedWord). placed at word ∷ ws) (behind_none (at + length word)))
spaced_words at (word ∷ next ∷ words) h =
    ap (map (λ (w : PlacedWord). w.bytes)) (h.0.found at (32 ∷ spaced (next ∷ words)) refl ∙ ap (λ (ws : List PlacedWord). placed at word ∷ ws) (behind_space (at + length word) 32 (spaced (next ∷ words)) refl))
    ∙ ap (λ (ws : List (List ℕ)). word ∷ ws) (spaced_words (at + length word + 1) (next ∷ words) h.1)

spaced_no_comment : (line : List (List ℕ)) → AllByRecursion StandsSo line → is_comment (spaced line) ≡ false
spaced_no_comment [] h = refl
spaced_no_comment (word ∷ []) h = ap is_comment (sym (append-nil word)) ∙ h.0.no_comment []
spaced_no_comment (word ∷ next ∷ words) h = h.0.no_comment (32 ∷ spaced (next ∷ words))

spaced_line : (at : ℕ) (line : List (List ℕ)) → AllByRecursion StandsSo line → bare_words (line_of at (spaced line)) ≡ line
spaced_line at line h =
    ap (map (λ (w : PlacedWord). w.bytes)) (cond-false (is_comment (spaced line)) _ (words_behind 0 at (spaced line)) (spaced_no_comment line h))
    ∙ spaced_words at line h

-- ---- the lines of the text

spaced_plain : (line : List (List ℕ)) → AllByRecursion StandsSo line → list_all (leb 32) (spaced line) ≡ true
spaced_plain [] h = refl
spaced_plain (word ∷ []) h = h.0.plain
spaced_plain (word ∷ next ∷ words) h =
    list_all-append (leb 32) word (32 ∷ spaced (next ∷ words)) ∙ and_from (list_all (leb 32) word) (list_all (leb 32) (spaced (next ∷ words))) h.0.plain (spaced_plain (next ∷ words) h.1)

-- the text is cut at the first byte 10
plain_no_end : (byte : ℕ) → leb 32 byte ≡ true → eqb byte 10 ≡ false
plain_no_end byte h =
    let low = leb-true 32 byte h in
    ne_eqb byte 10 (λ e. absurd (omega arith))

split_line : (line rest : List ℕ) → list_all (leb 32) line ≡ true → slice_split (λ b. eqb b 10) (line ++ 10 ∷ rest) ≡ line ∷ slice_split (λ b. eqb b 10) rest
split_line [] rest h = refl
split_line (byte ∷ line) rest h =
    let p = and_parts (leb 32 byte) (list_all (leb 32) line) h in
    rw (plain_no_end byte p.0, split_line line rest p.1) refl

joined_spaced : (line : List (List ℕ)) (rest : List ℕ) → joined line ++ rest ≡ spaced line ++ 10 ∷ rest
joined_spaced [] rest = refl
joined_spaced (word ∷ []) rest = append_assoc word (codes "\n") rest
joined_spaced (word ∷ next ∷ words) rest =
    append_assoc word (32 ∷ joined (next ∷ words)) rest
    ∙ ap (λ (bs : List ℕ). word ++ 32 ∷ bs) (joined_spaced (next ∷ words) rest)
    ∙ sym (append_assoc word (32 ∷ spaced (next ∷ words)) (10 ∷ rest))

-- a line of some such words
abbrev pub LineStands : List (List ℕ) → Type 0
LineStands line = (0 < length line) × AllByRecursion StandsSo line

written_from : (at : ℕ) (lines : List (List (List ℕ))) → AllByRecursion LineStands lines → bare_lines (filter has_words (lines_from at (slice_split (λ b. eqb b 10) (text_of_lines lines)))) ≡ lines
written_from at [] h = ap (λ (ws : List PlacedWord). bare_lines (cond (ltb 0 (length ws)) (record { words = ws; end = at + 0 } ∷ []) [])) (behind_none at)
written_from at (line ∷ lines) h =
    let q = h.0 in
    let here = spaced_line at line q.1 in
    let long = length-map (line_words at (spaced line)) (λ (w : PlacedWord). w.bytes) in
    let some : has_words (line_of at (spaced line)) ≡ true = lt-ltb 0 (length (line_words at (spaced line))) (omega (arith, q.0, ap length here)) in
    let rest = slice_split (λ b. eqb b 10) (text_of_lines lines) in
    ap (λ (bs : List ℕ). bare_lines (filter has_words (lines_from at (slice_split (λ b. eqb b 10) bs)))) (joined_spaced line (text_of_lines lines))
    ∙ ap (λ (ls : List (List ℕ)). bare_lines (filter has_words (lines_from at ls))) (split_line (spaced line) (text_of_lines lines) (spaced_plain line q.1))
    ∙ ap bare_lines (cond-true (has_words (line_of at (spaced line))) (line_of at (spaced line) ∷ filter has_words (lines_from (at + length (spaced line) + 1) rest)) (filter has_words (lines_from (at + length (spaced line) + 1) rest)) some)
    ∙ ap (λ (ws : List (List ℕ)). ws ∷ bare_lines (filter has_words (lines_from (at + length (spaced line) + 1) rest))) here
    ∙ ap (λ (ls : List (List (List ℕ))). line ∷ ls) (written_from (at + length (spaced line) + 1) lines h.1)

-- the text of such lines has those lines
pub written_lines : (lines : List (List (List ℕ))) → AllByRecursion LineStands lines → word_lines (text_of_lines lines) ≡ lines
unfolding lines_of
written_lines lines h = written_from 0 lines h

bare_lines_stand : (lines : List (List (List ℕ))) → list_all is_bare_line lines ≡ true → AllByRecursion LineStands lines
bare_lines_stand [] h = tt
bare_lines_stand (line ∷ lines) h =
    let p = and_parts (is_bare_line line) (list_all is_bare_line lines) h in
    let q = and_parts (ltb 0 (length line)) (list_all is_bare line) p.0 in
    ((ltb-true 0 (length line) q.0, bare_words_stand line q.1), bare_lines_stand lines p.1)

-- and so has that of bare lines
pub printed_lines : (lines : List (List (List ℕ))) → list_all is_bare_line lines ≡ true → word_lines (text_of_lines lines) ≡ lines
printed_lines lines h = written_lines lines (bare_lines_stand lines h)

-- ---- UTF-8

abbrev pub is_ascii_line : List (List ℕ) → Bool
is_ascii_line line = list_all (list_all is_ascii_byte) line

joined_ascii : (line : List (List ℕ)) → is_ascii_line line ≡ true → list_all is_ascii_byte (joined line) ≡ true
joined_ascii [] h = refl
joined_ascii (word ∷ []) h =
    let p = and_parts (list_all is_ascii_byte word) true h in
    list_all-append is_ascii_byte word (codes "\n") ∙ and_from (list_all is_ascii_byte word) (list_all is_ascii_byte (codes "\n")) p.0 refl
joined_ascii (word ∷ next ∷ words) h =
    let p = and_parts (list_all is_ascii_byte word) (is_ascii_line (next ∷ words)) h in
    list_all-append is_ascii_byte word (32 ∷ joined (next ∷ words)) ∙ and_from (list_all is_ascii_byte word) (list_all is_ascii_byte (joined (next ∷ words))) p.0 (joined_ascii (next ∷ words) p.1)

-- the text of lines in ASCII is ASCII
pub printed_ascii : (lines : List (List (List ℕ))) → list_all is_ascii_line lines ≡ true → list_all is_ascii_byte (text_of_lines lines) ≡ true
printed_ascii [] h = refl
printed_ascii (line ∷ lines) h =
    let p = and_parts (is_ascii_line line) (list_all is_ascii_line lines) h in
    list_all-append is_ascii_byte (joined line) (text_of_lines lines) ∙ and_from (list_all is_ascii_byte (joined line)) (list_all is_ascii_byte (text_of_lines lines)) (joined_ascii line p.0) (printed_ascii lines p.1)

pub IsAscii-from_bytes : (bytes : List ℕ) → list_all is_ascii_byte bytes ≡ true → (i : ℕ) → get_or bytes i 0 < 128
IsAscii-from_bytes [] h i = omega arith
IsAscii-from_bytes (byte ∷ others) h zero = ltb-true byte 128 ((and_parts (is_ascii_byte byte) (list_all is_ascii_byte others) h).0)
IsAscii-from_bytes (byte ∷ others) h (suc i) = IsAscii-from_bytes others ((and_parts (is_ascii_byte byte) (list_all is_ascii_byte others) h).1) i

pub printed_utf8 : (lines : List (List (List ℕ))) → list_all is_ascii_line lines ≡ true → IsUtf8 (text_of_lines lines)
printed_utf8 lines h = IsUtf8-from_ascii (text_of_lines lines) (IsAscii-from_bytes (text_of_lines lines) (printed_ascii lines h))

pub printed_is_utf8 : (lines : List (List (List ℕ))) → list_all is_ascii_line lines ≡ true → is_utf8 (text_of_lines lines) ≡ true
printed_is_utf8 lines h = is_utf8-from_IsUtf8 (text_of_lines lines) (printed_utf8 lines h)
