-- The lines of a part of a text are those of the part by itself, but for their places.
use Rattle.std.proofs.Common.{◌≡◌, ℕ, zero, suc, ◌+◌, ◌-◌, ◌≤◌, Bool, true, false, eqb, leb, ltb, cond, List, [], ◌∷◌, length, map, filter, take, drop, refl, sym, ap, ◌∙◌, arith, inl, inr}
use Rattle.std.specs.List.{slice_split, list_all}
use Rattle.std.proofs.lemmas.Bool.{cases_lt, cond-true, le-leb}
use Rattle.std.proofs.lemmas.List.{length-map}
use Rattle.std.proofs.Math.ListN.{drop_of_length-le}
use Rattle.ostore_text_words.specs.Lines.{PlacedWord, PlacedLine, PlacedBytes, word_length, placed, words_behind, is_comment, line_of, lines_from, has_words, lines_of, bare_words, bare_lines, word_lines, bytes_from, bytes_on, lines_on}
use Rattle.ostore_text_words.proofs.WordPlaces.{behind_none}
use Rattle.ostore_text_words.proofs.LineReaders.{bytes_on_none}

abbrev bare : List PlacedWord → List (List ℕ)
bare words = map (λ word. word.bytes) words

step : (test : Bool) (a b c d : List PlacedWord) (w v : PlacedWord) → bare a ≡ bare b → w.bytes ≡ v.bytes → bare c ≡ bare d → bare (cond test a (w ∷ c)) ≡ bare (cond test b (v ∷ d))
step true a b c d w v e f g = e
step false a b c d w v e f g = ap (λ (x : List ℕ). x ∷ bare c) f ∙ ap (λ (xs : List (List ℕ)). v.bytes ∷ xs) g

same_words : (line : List ℕ) (taken at other : ℕ) → bare (words_behind taken at line) ≡ bare (words_behind taken other line)
unfolding words_behind
same_words [] zero at other = refl
same_words [] (suc taken) at other = refl
same_words (byte ∷ others) (suc taken) at other = same_words others taken (at + 1) (other + 1)
same_words (byte ∷ others) zero at other =
    let count = word_length (byte ∷ others) in
    let word = take count (byte ∷ others) in
    step (eqb byte 32) (words_behind zero (at + 1) others) (words_behind zero (other + 1) others) (words_behind (count - 1) (at + 1) others) (words_behind (count - 1) (other + 1) others) (placed at word) (placed other word)
    (same_words others zero (at + 1) (other + 1)) refl (same_words others (count - 1) (at + 1) (other + 1))

chosen_words : (comment plain : Bool) (at other : ℕ) (line : List ℕ) (a b : List PlacedWord) → bare a ≡ bare b → bare (cond comment (cond plain [] (placed at line ∷ [])) a) ≡ bare (cond comment (cond plain [] (placed other line ∷ [])) b)
chosen_words true true at other line a b e = refl
chosen_words true false at other line a b e = refl
chosen_words false plain at other line a b e = e

same_line : (at other : ℕ) (line : List ℕ) → bare_words (line_of at line) ≡ bare_words (line_of other line)
same_line at other line = chosen_words (is_comment line) (list_all (leb 32) line) at other line (words_behind 0 at line) (words_behind 0 other line) (same_words line 0 at other)

same_lines : (parts : List (List ℕ)) (at other : ℕ) → bare_lines (lines_from at parts) ≡ bare_lines (lines_from other parts)
same_lines [] at other = refl
same_lines (line ∷ parts) at other =
    ap (λ (ws : List (List ℕ)). ws ∷ bare_lines (lines_from (at + length line + 1) parts)) (same_line at other line)
    ∙ ap (λ (ls : List (List (List ℕ))). bare_words (line_of other line) ∷ ls) (same_lines parts (at + length line + 1) (other + length line + 1))

-- lines with words, by their words alone
abbrev some_words : List (List ℕ) → Bool
some_words words = ltb 0 (length words)

kept : (test : Bool) (line : PlacedLine) (lines : List PlacedLine) → bare_lines (cond test (line ∷ lines) lines) ≡ cond test (bare_words line ∷ bare_lines lines) (bare_lines lines)
kept true line lines = refl
kept false line lines = refl

worded_bare : (lines : List PlacedLine) → bare_lines (filter has_words lines) ≡ filter some_words (bare_lines lines)
worded_bare [] = refl
worded_bare (line ∷ lines) =
    let test : has_words line ≡ some_words (bare_words line) = ap (ltb 0) (sym (length-map line.words (λ (w : PlacedWord). w.bytes))) in
    kept (has_words line) line (filter has_words lines)
    ∙ ap (λ (t : Bool). cond t (bare_words line ∷ bare_lines (filter has_words lines)) (bare_lines (filter has_words lines))) test
    ∙ ap (λ (ls : List (List (List ℕ))). cond (some_words (bare_words line)) (bare_words line ∷ ls) ls) (worded_bare lines)

pub seen_from : (at : ℕ) (parts : List (List ℕ)) → map (λ line. line_of line.at line.bytes) (bytes_from at parts) ≡ lines_from at parts
seen_from at [] = refl
seen_from at (line ∷ parts) = ap (λ (ls : List PlacedLine). line_of at line ∷ ls) (seen_from (at + length line + 1) parts)

inside : (at : ℕ) (text : List ℕ) → at ≤ length text → bare_lines (lines_on at text) ≡ word_lines (drop at text)
unfolding bytes_on lines_of
inside at text le =
    let parts = slice_split (λ b. eqb b 10) (drop at text) in
    ap (λ (bs : List PlacedBytes). bare_lines (filter has_words (map (λ line. line_of line.at line.bytes) bs))) (cond-true (leb at (length text)) (bytes_from at parts) [] (le-leb at (length text) le))
    ∙ ap (λ (ls : List PlacedLine). bare_lines (filter has_words ls)) (seen_from at parts)
    ∙ worded_bare (lines_from at parts)
    ∙ ap (filter some_words) (same_lines parts at 0)
    ∙ sym (worded_bare (lines_from 0 parts))

none_there : word_lines [] ≡ []
unfolding lines_of
none_there = ap (λ (ws : List PlacedWord). bare_lines (cond (ltb 0 (length ws)) (record { words = ws; end = 0 + 0 } ∷ []) [])) (behind_none 0)

-- the words of the lines from a place on
pub part_lines : (at : ℕ) (text : List ℕ) → bare_lines (lines_on at text) ≡ word_lines (drop at text)
part_lines at text =
    elim (cases_lt (length text) at) [
      | inl past ↦
          ap (λ (bs : List PlacedBytes). bare_lines (filter has_words (map (λ line. line_of line.at line.bytes) bs))) (bytes_on_none at text past)
          ∙ sym (ap word_lines (drop_of_length-le text (omega arith)) ∙ none_there)
      | inr le ↦ inside at text le
    ]
