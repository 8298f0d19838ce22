-- The places of words rise, in a line and from line to line.
use Rattle.std.proofs.Common.{◌≡◌, ℕ, zero, suc, ◌+◌, ◌<◌, ◌≤◌, List, [], ◌∷◌, ◌++◌, length, map, Some, slice_get, subst, ap, arith}
use Rattle.std.proofs.lemmas.List.{append_assoc}
use Rattle.std.proofs.lemmas.Option.{same_Some}
use Rattle.ostore_text_words.specs.Lines.{PlacedWord, PlacedLine, lines_of}
use Rattle.ostore_text_words.proofs.PlaceLaws.{RiseWithin, places, places_rise}

-- ---- what rises

-- words of a line: the first from a place on, each behind the one before, and all before the end
abbrev pub AreWordsIn : ℕ → ℕ → List PlacedWord → Type 0
AreWordsIn from end [] = Unit {0}
AreWordsIn from end (word ∷ words) = (from ≤ word.at) × (word.at < end) × AreWordsIn (word.at + 1) end words

-- lines from a place on, each behind the end of the one before
abbrev pub AreLinesFrom : ℕ → List PlacedLine → Type 0
AreLinesFrom from [] = Unit {0}
AreLinesFrom from (line ∷ lines) = (from ≤ line.end) × AreWordsIn from line.end line.words × AreLinesFrom (line.end + 1) lines

-- ---- from the places of a text

abbrev at_of : PlacedWord → ℕ
at_of word = word.at

words_rise : (from most end : ℕ) (words : List PlacedWord) (rest : List ℕ) → RiseWithin from most (map at_of words ++ end ∷ rest) → AreWordsIn from end words × (from ≤ end) × RiseWithin (end + 1) most rest
words_rise from most end [] rest h = (tt, h.0, h.2)
words_rise from most end (word ∷ words) rest h =
    let later = words_rise (word.at + 1) most end words rest h.2 in
    ((h.0, omega (arith, later.1), later.0), omega (arith, h.0, later.1), later.2)

lines_from_places : (from most : ℕ) (lines : List PlacedLine) → RiseWithin from most (places lines) → AreLinesFrom from lines
lines_from_places from most [] h = tt
lines_from_places from most (line ∷ lines) h =
    let here = words_rise from most line.end line.words (places lines) (subst (RiseWithin from most) (append_assoc (map at_of line.words) (line.end ∷ []) (places lines)) h) in
    (here.1, here.0, lines_from_places (line.end + 1) most lines here.2)

-- the places of words rise in the lines of a text
pub lines_rise : (text : List ℕ) → AreLinesFrom 0 (lines_of text)
lines_rise text = lines_from_places 0 (length text) (lines_of text) (places_rise text)

-- ---- the words of a line by their numbers

pub word_in : (from end : ℕ) (words : List PlacedWord) (i : ℕ) (word : PlacedWord) → AreWordsIn from end words → slice_get words i ≡ Some word → (from ≤ word.at) × (word.at < end)
word_in from end [] i word h e = absurd cc
word_in from end (first ∷ words) zero word h e =
    let same = ap (λ (w : PlacedWord). w.at) (same_Some first word e) in
    (omega arith, omega arith)
word_in from end (first ∷ words) (suc i) word h e =
    let k = word_in (first.at + 1) end words i word h.2 e in
    (omega arith, k.1)

-- a word behind the first
pub later_word : (from end : ℕ) (words : List PlacedWord) (i : ℕ) (first word : PlacedWord) → AreWordsIn from end words → slice_get words 0 ≡ Some first → slice_get words (suc i) ≡ Some word → first.at < word.at
later_word from end [] i first word h e f = absurd cc
later_word from end (head ∷ words) i first word h e f =
    let same = ap (λ (w : PlacedWord). w.at) (same_Some head first e) in
    let k = word_in (head.at + 1) end words i word h.2 f in
    omega arith

-- a word with a greater number
pub words_apart : (from end : ℕ) (words : List PlacedWord) (i j : ℕ) (word other : PlacedWord) → AreWordsIn from end words → slice_get words i ≡ Some word → slice_get words j ≡ Some other → i < j → word.at < other.at
words_apart from end [] i j word other h e f lt = absurd cc
words_apart from end (head ∷ words) i zero word other h e f lt = absurd (omega arith)
words_apart from end (head ∷ words) zero (suc j) word other h e f lt = later_word from end (head ∷ words) j word other h e f
words_apart from end (head ∷ words) (suc i) (suc j) word other h e f lt = words_apart (head.at + 1) end words i j word other h.2 e f (omega arith)
