-- UTF-8: the words of a text that is UTF-8 are so, and so is what a quoted one of them quotes.
use Rattle.std.proofs.Common.{◌≡◌, ◌≢◌, ℕ, zero, suc, ◌+◌, ◌-◌, ◌<◌, ◌≤◌, Bool, true, false, ◌&&◌, not, eqb, leb, cond, List, [], ◌∷◌, ◌++◌, length, get_or, take, drop, map, filter, refl, sym, ap, subst, ◌∙◌, arith, inl, inr}
use Rattle.std.specs.Prelude.{flat_map}
use Rattle.std.specs.List.{slice_split, list_all, join_with_byte, AllByRecursion}
use Rattle.std.specs.Str.{IsUtf8, IsCharBoundary}
use Rattle.std.proofs.Math.Utf8.{encode, encodes, scalar, scalars}
use Rattle.std.proofs.Math.Seq.{take-append_seam}
use Rattle.std.proofs.lemmas.Bool.{and_parts, cases_Bool, cases_lt, ne_eqb, eqb-true}
use Rattle.std.proofs.lemmas.List.Splits.{join_with_byte-slice_split}
use Rattle.std.proofs.lemmas.Str.{IsUtf8-nil, IsUtf8-append, IsUtf8-take, IsUtf8-drop, IsUtf8-past_char, IsCharBoundary-before_ascii, encode_ascii, length-encode, len_utf8_bounds}
use Rattle.ostore_text_words.specs.Words.{escaped, quoted, unescaped}
use Rattle.ostore_text_words.specs.Lines.{PlacedWord, PlacedLine, plain_length, quoted_length, word_length, placed, words_behind, is_comment, line_of, lines_from, has_words, lines_of, bare_words, bare_lines, word_lines}
use Rattle.ostore_text_words.proofs.QuotedLaws.{unescaped_again}
use Rattle.ostore_text_words.proofs.WordPlaces.{word_length_le, word_length_pos}
use Rattle.ostore_text_words.proofs.Utf8Words.{apart, byte_utf8, char_utf8}

-- ---- cut at a byte of ASCII

seam_byte : (front back : List ℕ) (mark : ℕ) → get_or (front ++ mark ∷ back) (length front) 0 ≡ mark
seam_byte [] back mark = refl
seam_byte (byte ∷ front) back mark = seam_byte front back mark

seam_fits : (front back : List ℕ) (mark : ℕ) → length front < length (front ++ mark ∷ back)
seam_fits [] back mark = omega arith
seam_fits (byte ∷ front) back mark =
    let later = seam_fits front back mark in
    omega (arith, later)

drop_seam : (front rest : List ℕ) → drop (length front) (front ++ rest) ≡ rest
drop_seam [] rest = refl
drop_seam (byte ∷ front) rest = drop_seam front rest

behind_byte : (byte : ℕ) (rest : List ℕ) → byte < 128 → IsUtf8 (byte ∷ rest) → IsUtf8 rest
behind_byte byte rest low u = IsUtf8-past_char (byte ∷ rest) rest byte u (ap (λ (bs : List ℕ). bs ++ rest) (sym (encode_ascii byte low)))

cut : (front back : List ℕ) (mark : ℕ) → mark < 128 → IsUtf8 (front ++ mark ∷ back) → IsUtf8 front × IsUtf8 back
cut front back mark low u =
    let whole = front ++ mark ∷ back in
    let edge = IsCharBoundary-before_ascii whole (length front) (seam_fits front back mark) (omega (arith, seam_byte front back mark)) in (
      subst IsUtf8 (take-append_seam front (mark ∷ back)) (IsUtf8-take whole (length front) u edge),
      behind_byte mark back low (subst IsUtf8 (drop_seam front (mark ∷ back)) (IsUtf8-drop whole (length front) u edge)),
    )

-- ---- lines

parts_utf8 : (parts : List (List ℕ)) → IsUtf8 (join_with_byte 10 parts) → AllByRecursion IsUtf8 parts
parts_utf8 [] u = tt
parts_utf8 (part ∷ []) u = (u, tt)
parts_utf8 (part ∷ next ∷ parts) u =
    let c = cut part (join_with_byte 10 (next ∷ parts)) 10 (omega arith) u in
    (c.0, parts_utf8 (next ∷ parts) c.1)

-- ---- words

plain_ends : (bytes : List ℕ) → plain_length bytes < length bytes → get_or bytes (plain_length bytes) 0 ≡ 32
plain_ends [] lt = absurd (omega (arith, lt))
plain_ends (byte ∷ others) lt =
    elim (cases_Bool (eqb byte 32)) [
      | inl space ↦ rw space (eqb-true byte 32 space)
      | inr other ↦
          let more : 1 + plain_length others ≡ suc (plain_length others) = omega arith in
          let here : plain_length (byte ∷ others) ≡ suc (plain_length others) = rw other more in
          ap (λ (n : ℕ). get_or (byte ∷ others) n 0) here ∙ plain_ends others (omega (arith, lt, here))
    ]

ends_step : (hit escape : Bool) (x y p q r : ℕ) (others : List ℕ) → (p < length (y ∷ others) → get_or (y ∷ others) p 0 ≡ 32) → (q < length others → get_or others q 0 ≡ 32) → (r < length (y ∷ others) → get_or (y ∷ others) r 0 ≡ 32)
    → (n : ℕ) → n ≡ cond hit (1 + p) (cond escape (2 + q) (1 + r)) → n < length (x ∷ y ∷ others) → get_or (x ∷ y ∷ others) n 0 ≡ 32
ends_step true escape x y p q r others a b c n e lt =
    let k : n ≡ suc p = omega (arith, e) in
    ap (λ (m : ℕ). get_or (x ∷ y ∷ others) m 0) k ∙ a (omega (arith, lt, k))
ends_step false true x y p q r others a b c n e lt =
    let k : n ≡ suc (suc q) = omega (arith, e) in
    ap (λ (m : ℕ). get_or (x ∷ y ∷ others) m 0) k ∙ b (omega (arith, lt, k))
ends_step false false x y p q r others a b c n e lt =
    let k : n ≡ suc r = omega (arith, e) in
    ap (λ (m : ℕ). get_or (x ∷ y ∷ others) m 0) k ∙ c (omega (arith, lt, k))

quoted_ends : (bytes : List ℕ) → quoted_length bytes < length bytes → get_or bytes (quoted_length bytes) 0 ≡ 32
quoted_ends [] lt = absurd (omega (arith, lt))
quoted_ends (x ∷ []) lt = absurd (omega (arith, lt))
quoted_ends (x ∷ y ∷ others) lt =
    ends_step (eqb x 34) (eqb x 92) x y (plain_length (y ∷ others)) (quoted_length others) (quoted_length (y ∷ others)) others (plain_ends (y ∷ others)) (quoted_ends others) (quoted_ends (y ∷ others)) (quoted_length (x ∷ y ∷ others)) refl lt

word_ends_step : (quote : Bool) (x p q : ℕ) (others : List ℕ) → (q < length others → get_or others q 0 ≡ 32) → (p < length (x ∷ others) → get_or (x ∷ others) p 0 ≡ 32) → (n : ℕ) → n ≡ cond quote (1 + q) p → n < length (x ∷ others) → get_or (x ∷ others) n 0 ≡ 32
word_ends_step true x p q others a b n e lt =
    let k : n ≡ suc q = omega (arith, e) in
    ap (λ (m : ℕ). get_or (x ∷ others) m 0) k ∙ a (omega (arith, lt, k))
word_ends_step false x p q others a b n e lt = ap (λ (m : ℕ). get_or (x ∷ others) m 0) e ∙ b (omega (arith, lt, e))

-- behind a word stands a space, or nothing
word_ends : (byte : ℕ) (others : List ℕ) → word_length (byte ∷ others) < length (byte ∷ others) → get_or (byte ∷ others) (word_length (byte ∷ others)) 0 ≡ 32
word_ends byte others lt =
    word_ends_step (eqb byte 34) byte (plain_length (byte ∷ others)) (quoted_length others) others (quoted_ends others) (plain_ends (byte ∷ others)) (word_length (byte ∷ others)) refl lt

word_edge : (byte : ℕ) (others : List ℕ) → IsCharBoundary (byte ∷ others) (word_length (byte ∷ others))
word_edge byte others =
    let most = word_length_le (byte ∷ others) in
    (most, λ lt high. absurd (omega (arith, high, word_ends byte others lt)))

abbrev AreUtf8 : List PlacedWord → Type 0
AreUtf8 words = AllByRecursion IsUtf8 (map (λ (word : PlacedWord). word.bytes) words)

word_step : (test : Bool) (word : PlacedWord) (skipped later : List PlacedWord) → (test ≡ true → AreUtf8 skipped) → (test ≡ false → IsUtf8 word.bytes × AreUtf8 later) → AreUtf8 (cond test skipped (word ∷ later))
word_step true word skipped later a b = a refl
word_step false word skipped later a b = b refl

drop_back : (n byte : ℕ) (others : List ℕ) → 1 ≤ n → drop n (byte ∷ others) ≡ drop (n - 1) others
drop_back zero byte others h = absurd (omega (arith, h))
drop_back (suc n) byte others h = ap (λ (k : ℕ). drop k others) (let same : n ≡ suc n - 1 = omega arith in same)

words_utf8 : (bytes : List ℕ) (taken at : ℕ) → taken ≤ length bytes → IsUtf8 (drop taken bytes) → AreUtf8 (words_behind taken at bytes)
unfolding words_behind
words_utf8 [] zero at le u = tt
words_utf8 [] (suc taken) at le u = tt
words_utf8 (byte ∷ others) (suc taken) at le u = words_utf8 others taken (at + 1) (omega (arith, le)) u
words_utf8 (byte ∷ others) zero at le u =
    let n = word_length (byte ∷ others) in
    let most = word_length_le (byte ∷ others) in
    word_step (eqb byte 32) (placed at (take n (byte ∷ others))) (words_behind zero (at + 1) others) (words_behind (n - 1) (at + 1) others)
    (λ space. words_utf8 others zero (at + 1) (omega arith) (behind_byte byte others (omega (arith, eqb-true byte 32 space)) u))
    (λ other. let some = word_length_pos byte others other in
    (IsUtf8-take (byte ∷ others) n u (word_edge byte others), words_utf8 others (n - 1) (at + 1) (omega (arith, most, some)) (subst IsUtf8 (drop_back n byte others some) (IsUtf8-drop (byte ∷ others) n u (word_edge byte others)))))

line_step : (comment plain : Bool) (at : ℕ) (line : List ℕ) (words : List PlacedWord) → IsUtf8 line → AreUtf8 words → AreUtf8 (cond comment (cond plain [] (placed at line ∷ [])) words)
line_step true true at line words u h = tt
line_step true false at line words u h = (u, tt)
line_step false plain at line words u h = h

line_utf8 : (at : ℕ) (line : List ℕ) → IsUtf8 line → AllByRecursion IsUtf8 (bare_words (line_of at line))
line_utf8 at line u = line_step (is_comment line) (list_all (leb 32) line) at line (words_behind 0 at line) u (words_utf8 line 0 at (omega arith) u)

abbrev AreUtf8Lines : List PlacedLine → Type 0
AreUtf8Lines lines = AllByRecursion (AllByRecursion IsUtf8) (bare_lines lines)

kept_utf8 : (test : Bool) (line : PlacedLine) (lines : List PlacedLine) → AllByRecursion IsUtf8 (bare_words line) → AreUtf8Lines lines → AreUtf8Lines (cond test (line ∷ lines) lines)
kept_utf8 true line lines h hs = (h, hs)
kept_utf8 false line lines h hs = hs

lines_utf8 : (parts : List (List ℕ)) (at : ℕ) → AllByRecursion IsUtf8 parts → AreUtf8Lines (filter has_words (lines_from at parts))
lines_utf8 [] at h = tt
lines_utf8 (part ∷ parts) at h =
    kept_utf8 (has_words (line_of at part)) (line_of at part) (filter has_words (lines_from (at + length part + 1) parts)) (line_utf8 at part h.0) (lines_utf8 parts (at + length part + 1) h.1)

-- the words of a text that is UTF-8
pub text_words_utf8 : (text : List ℕ) → IsUtf8 text → AllByRecursion (AllByRecursion IsUtf8) (word_lines text)
unfolding lines_of
text_words_utf8 text u =
    let parts = slice_split (λ (byte : ℕ). eqb byte 10) text in
    lines_utf8 parts 0 (parts_utf8 parts (subst IsUtf8 (sym (join_with_byte-slice_split 10 text)) u))

-- ---- quoted texts

no_backslash : (taken : Bool) (byte : ℕ) (rest : List ℕ) → byte ≢ 92 → unescaped taken (byte ∷ rest) ≡ byte ∷ unescaped false rest
no_backslash true byte rest other = refl
no_backslash false byte rest other = rw (ne_eqb byte 92 other) refl

plain_unescaped : (bytes rest : List ℕ) → ((k : ℕ) → k < length bytes → get_or bytes k 0 ≢ 92) → unescaped false (bytes ++ rest) ≡ bytes ++ unescaped false rest
plain_unescaped [] rest b = refl
plain_unescaped (byte ∷ bytes) rest b =
    no_backslash false byte (bytes ++ rest) (b 0 (omega arith)) ∙ ap (λ (bs : List ℕ). byte ∷ bs) (plain_unescaped bytes rest (λ k lt. b (suc k) (omega (arith, lt))))

some_unescaped : (taken : Bool) (bytes rest : List ℕ) → 1 ≤ length bytes → ((k : ℕ) → k < length bytes → get_or bytes k 0 ≢ 92) → unescaped taken (bytes ++ rest) ≡ bytes ++ unescaped false rest
some_unescaped taken [] rest some b = absurd (omega (arith, some))
some_unescaped taken (byte ∷ bytes) rest some b =
    no_backslash taken byte (bytes ++ rest) (b 0 (omega arith)) ∙ ap (λ (bs : List ℕ). byte ∷ bs) (plain_unescaped bytes rest (λ k lt. b (suc k) (omega (arith, lt))))

byte_step : (test : Bool) (byte : ℕ) (skipped later : List ℕ) → byte < 128 → IsUtf8 skipped → IsUtf8 later → IsUtf8 (cond test skipped (byte ∷ later))
byte_step true byte skipped later low u v = u
byte_step false byte skipped later low u v = IsUtf8-append (byte ∷ []) later (byte_utf8 byte low) v

unescaped_chars : (cs : List ℕ) (taken : Bool) → scalars cs ≡ true → IsUtf8 (unescaped taken (encodes cs))
unescaped_chars [] taken h = IsUtf8-nil
unescaped_chars (c ∷ cs) taken h =
    let p = and_parts (scalar c) (scalars cs) h in
    let later = unescaped_chars cs false p.1 in
    elim (cases_lt c 128) [
      | inl low ↦
          subst (λ (bs : List ℕ). IsUtf8 (unescaped taken (bs ++ encodes cs))) (sym (encode_ascii c low))
          (byte_step (not taken && eqb c 92) c (unescaped true (encodes cs)) (unescaped false (encodes cs)) low (unescaped_chars cs true p.1) later)
      | inr high ↦
          subst IsUtf8 (sym (some_unescaped taken (encode c) (encodes cs) (omega (arith, length-encode c, (len_utf8_bounds c).0)) (apart c 92 (omega arith) high)))
          (IsUtf8-append (encode c) (unescaped false (encodes cs)) (char_utf8 c p.0) later)
    ]

unescaped_utf8 : (bytes : List ℕ) → IsUtf8 bytes → IsUtf8 (unescaped false bytes)
unescaped_utf8 bytes u = subst (λ (bs : List ℕ). IsUtf8 (unescaped false bs)) u.1.1 (unescaped_chars u.0 false u.1.0)

-- what a quoted text quotes is UTF-8 where the word is
pub quoted_is_utf8 : (text : List ℕ) → IsUtf8 (quoted text) → IsUtf8 text
quoted_is_utf8 text u =
    let inner = flat_map escaped text in
    let c = cut inner [] 34 (omega arith) (behind_byte 34 (inner ++ 34 ∷ []) (omega arith) u) in
    subst IsUtf8 (unescaped_again text) (unescaped_utf8 inner c.0)
