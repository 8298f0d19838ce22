-- The lines of a text, met one after another.
use Rattle.std.proofs.Common.{◌≡◌, ℕ, suc, ◌+◌, ◌-◌, ◌<◌, ◌≤◌, Bool, true, false, not, eqb, leb, cond, List, [], ◌∷◌, ◌++◌, length, map, take, drop, filter, Some, refl, sym, ap, subst, ◌∙◌, arith, inl, inr}
use Rattle.std.specs.List.{slice_split, onto_first, position_or_len, find, All, AllByRecursion}
use Rattle.std.proofs.lemmas.Bool.{cases_lt, cond-true, cond-false, le-leb, lt-leb}
use Rattle.std.proofs.lemmas.List.{append-nil, append_assoc, drop-drop, take_all, length-drop, length-take-le}
use Rattle.std.proofs.lemmas.List.Splits.{slice_split_first, slice_split_none}
use Rattle.std.proofs.lemmas.List.Elements.{All-from_get_or}
use Rattle.std.proofs.lemmas.List.Sums.{fails_before_first, prefix_len-le-length}
use Rattle.std.proofs.lemmas.Option.{none-some, same_Some}
use Rattle.ostore_text_words.specs.Lines.{PlacedBytes, PlacedWord, PlacedLine, line_words, line_of, lines_from, has_words, lines_of, bytes_from, line_bytes, bytes_on, worded, lines_on}

-- how many bytes lines have, with a byte behind each
abbrev pub span : List (List ℕ) → ℕ
span [] = 0
span (line ∷ others) = length line + 1 + span others

onto_span : (byte : ℕ) (parts : List (List ℕ)) → 1 ≤ span parts → span (onto_first byte parts) ≡ 1 + span parts
onto_span byte [] h = absurd (omega arith)
onto_span byte (part ∷ parts) h = omega arith

split_step : (hit : Bool) (byte n : ℕ) (parts : List (List ℕ)) → span parts ≡ n + 1 → span (cond hit ([] ∷ parts) (onto_first byte parts)) ≡ suc n + 1
split_step true byte n parts h = omega arith
split_step false byte n parts h =
    let k = onto_span byte parts (omega arith) in
    omega arith

pub span_split : (test : ℕ → Bool) (text : List ℕ) → span (slice_split test text) ≡ length text + 1
span_split test [] = omega arith
span_split test (byte ∷ others) = split_step (test byte) byte (length others) (slice_split test others) (span_split test others)

-- ---- the walk

abbrev ends_line : ℕ → Bool
ends_line byte = eqb byte 10

pub bytes_on_all : (text : List ℕ) → bytes_on 0 text ≡ line_bytes text
unfolding bytes_on line_bytes
bytes_on_all text = cond-true (leb 0 (length text)) (bytes_from 0 (slice_split ends_line text)) [] (le-leb 0 (length text) (omega arith))

pub bytes_on_none : (at : ℕ) (text : List ℕ) → length text < at → bytes_on at text ≡ []
unfolding bytes_on
bytes_on_none at text h = cond-false (leb at (length text)) (bytes_from at (slice_split ends_line (drop at text))) [] (lt-leb at (length text) h)

bytes_on_some : (at : ℕ) (text : List ℕ) → at ≤ length text → bytes_on at text ≡ bytes_from at (slice_split ends_line (drop at text))
unfolding bytes_on
bytes_on_some at text h = cond-true (leb at (length text)) (bytes_from at (slice_split ends_line (drop at text))) [] (le-leb at (length text) h)

-- a newline ends the line
next_here : (at n : ℕ) (text rest line : List ℕ) → rest ≡ drop at text → n ≡ position_or_len ends_line rest → n < length rest → line ≡ take n rest → length line ≡ n → at + n + 1 ≤ length text → bytes_from at (slice_split ends_line rest) ≡ record { at = at; bytes = line } ∷ bytes_on (at + n + 1) text
next_here at n text rest line is first more bytes count le =
    let split = slice_split_first ends_line rest 0 (subst (λ (m : ℕ). m < length rest) first more) in
    let whole : take (position_or_len ends_line rest) rest ≡ line = ap (λ (m : ℕ). take m rest) (sym first) ∙ sym bytes in
    let sums : at + (n + 1) ≡ at + n + 1 = omega arith in
    let after : drop (position_or_len ends_line rest + 1) rest ≡ drop (at + n + 1) text =
    ap (λ (m : ℕ). drop (m + 1) rest) (sym first) ∙ ap (drop (n + 1)) is ∙ drop-drop (n + 1) at text ∙ ap (λ (m : ℕ). drop m text) sums in
    let later = bytes_on_some (at + n + 1) text le in
    ap (bytes_from at) split
    ∙ ap (λ (b : List ℕ). record { at = at; bytes = b } ∷ bytes_from (at + length b + 1) (slice_split ends_line (drop (position_or_len ends_line rest + 1) rest))) whole
    ∙ ap (λ (m : ℕ). record { at = at; bytes = line } ∷ bytes_from (at + m + 1) (slice_split ends_line (drop (position_or_len ends_line rest + 1) rest))) count
    ∙ ap (λ (bs : List ℕ). record { at = at; bytes = line } ∷ bytes_from (at + n + 1) (slice_split ends_line bs)) after
    ∙ ap (λ (ls : List PlacedBytes). record { at = at; bytes = line } ∷ ls) (sym later)

-- the text ends the line
next_last : (at n : ℕ) (text rest line : List ℕ) → n ≡ position_or_len ends_line rest → length rest ≤ n → line ≡ take n rest → length text < at + n + 1 → bytes_from at (slice_split ends_line rest) ≡ record { at = at; bytes = line } ∷ bytes_on (at + n + 1) text
next_last at n text rest line first last bytes end =
    let none : All (λ (byte : ℕ). ends_line byte ≡ false) rest = All-from_get_or (λ (byte : ℕ). ends_line byte ≡ false) rest 0 (λ k lt. fails_before_first ends_line rest k 0 (omega arith)) in
    ap (bytes_from at) (slice_split_none ends_line rest none)
    ∙ ap (λ (b : List ℕ). record { at = at; bytes = b } ∷ []) (sym (take_all n rest last) ∙ sym bytes)
    ∙ ap (λ (ls : List PlacedBytes). record { at = at; bytes = line } ∷ ls) (sym (bytes_on_none (at + n + 1) text end))

-- the first of the lines that are left
pub bytes_on_next : (at n : ℕ) (text rest line : List ℕ) → at ≤ length text → rest ≡ drop at text → n ≡ position_or_len ends_line rest → line ≡ take n rest → bytes_on at text ≡ record { at = at; bytes = line } ∷ bytes_on (at + n + 1) text
bytes_on_next at n text rest line le is first bytes =
    let most = prefix_len-le-length (λ byte. not (ends_line byte)) rest in
    let count : length line ≡ n = ap length bytes ∙ length-take-le n rest (omega arith) in
    let size : length rest ≡ length text - at = ap length is ∙ length-drop at text in
    let here = bytes_on_some at text le ∙ ap (λ (bs : List ℕ). bytes_from at (slice_split ends_line bs)) (sym is) in
    elim (cases_lt n (length rest)) [
      | inl more ↦ here ∙ next_here at n text rest line is first more bytes count (omega arith)
      | inr last ↦ here ∙ next_last at n text rest line first last bytes (omega arith)
    ]

-- ---- the lines that have words, met one after another

abbrev pub line_at : PlacedBytes → PlacedLine
line_at line = line_of line.at line.bytes

seen_from : (at : ℕ) (parts : List (List ℕ)) → map line_at (bytes_from at parts) ≡ lines_from at parts
seen_from at [] = refl
seen_from at (line ∷ others) = ap (λ (ls : List PlacedLine). line_of at line ∷ ls) (seen_from (at + length line + 1) others)

pub worded_all : (text : List ℕ) → worded (line_bytes text) ≡ lines_of text
unfolding lines_of line_bytes
worded_all text = ap (filter has_words) (seen_from 0 (slice_split ends_line text))

filter_first : (keep : Bool) (line : PlacedLine) (rest : List PlacedLine) → cond keep (line ∷ []) [] ++ rest ≡ cond keep (line ∷ rest) rest
filter_first true line rest = refl
filter_first false line rest = refl

-- one line more
pub line_met : (found whole : List PlacedLine) (lines rest : List PlacedBytes) (line : PlacedBytes) (words : List PlacedWord) (end : ℕ) → lines ≡ line ∷ rest → words ≡ line_words line.at line.bytes → end ≡ line.at + length line.bytes → found ++ worded lines ≡ whole → (found ++ filter has_words (record { words = words; end = end } ∷ [])) ++ worded rest ≡ whole
line_met found whole lines rest line words end next same ends h =
    rw (same, ends) (append_assoc found (filter has_words (line_at line ∷ [])) (worded rest)
    ∙ ap (λ (ls : List PlacedLine). found ++ ls) (filter_first (has_words (line_at line)) (line_at line) (worded rest) ∙ sym (ap worded next)) ∙ h)

pub lines_end : (found whole : List PlacedLine) (lines : List PlacedBytes) → lines ≡ [] → found ++ worded lines ≡ whole → found ≡ whole
lines_end found whole lines none h =
    sym (append-nil found) ∙ ap (λ (ls : List PlacedLine). found ++ ls) (sym (ap worded none)) ∙ h

-- ---- lines that lie in a text of so many bytes

abbrev pub AreWithin : ℕ → List PlacedBytes → Type 0
AreWithin most lines = AllByRecursion (λ (line : PlacedBytes). line.at + length line.bytes ≤ most) lines

within_from : (at most : ℕ) (parts : List (List ℕ)) → at + span parts ≤ most + 1 → AreWithin most (bytes_from at parts)
within_from at most [] fits = tt
within_from at most (line ∷ others) fits = (omega arith, within_from (at + length line + 1) most others (omega arith))

pub lines_within : (text : List ℕ) → AreWithin (length text) (line_bytes text)
unfolding line_bytes
lines_within text = within_from 0 (length text) (slice_split ends_line text) (omega (arith, span_split ends_line text))

pub next_within : (most : ℕ) (lines rest : List PlacedBytes) (line : PlacedBytes) → lines ≡ line ∷ rest → AreWithin most lines → (line.at + length line.bytes ≤ most) × AreWithin most rest
next_within most lines rest line next h = subst (AreWithin most) next h

found_in : (hit : Bool) (test : PlacedBytes → Bool) (most : ℕ) (line first : PlacedBytes) (others : List PlacedBytes) → AreWithin most (first ∷ others) → Some line ≡ cond hit (Some first) (find test others) → (Some line ≡ find test others → line.at + length line.bytes ≤ most) → line.at + length line.bytes ≤ most
found_in true test most line first others h e later =
    let same : line ≡ first = same_Some line first e in
    rw same h.0
found_in false test most line first others h e later = later e

-- and so does the first of them that passes a test
pub found_within : (test : PlacedBytes → Bool) (most : ℕ) (line : PlacedBytes) (lines : List PlacedBytes) → AreWithin most lines → Some line ≡ find test lines → line.at + length line.bytes ≤ most
found_within test most line [] h e = absurd (none-some line (sym e))
found_within test most line (first ∷ others) h e = found_in (test first) test most line first others h e (λ k. found_within test most line others h.1 k)

pub on_within : (at : ℕ) (text : List ℕ) → AreWithin (length text) (bytes_on at text)
on_within at text =
    let all = span_split ends_line (drop at text) in
    let size = length-drop at text in
    elim (cases_lt (length text) at) [
      | inl behind ↦ subst (AreWithin (length text)) (sym (bytes_on_none at text behind)) tt
      | inr le ↦ subst (AreWithin (length text)) (sym (bytes_on_some at text le)) (within_from at (length text) (slice_split ends_line (drop at text)) (omega arith))
    ]

-- ---- a line that is passed over, and one that isn't

pub passed_over : (line : PlacedBytes) (rest : List PlacedBytes) (lines : List PlacedBytes) → lines ≡ line ∷ rest → has_words (line_at line) ≡ false → worded rest ≡ worded lines
passed_over line rest lines next none = sym (ap worded next ∙ cond-false (has_words (line_at line)) (line_at line ∷ worded rest) (worded rest) none)

pub not_passed_over : (line : PlacedBytes) (rest : List PlacedBytes) (lines : List PlacedBytes) (words : List PlacedWord) (end : ℕ) → lines ≡ line ∷ rest → words ≡ line_words line.at line.bytes → end ≡ line.at + length line.bytes → has_words (line_at line) ≡ true → record { words = words; end = end } ∷ worded rest ≡ worded lines
not_passed_over line rest lines words end next same ends some =
    rw (same, ends) (sym (ap worded next ∙ cond-true (has_words (line_at line)) (line_at line ∷ worded rest) (worded rest) some))

-- the lines from the start on are all lines
pub lines_on_all : (text : List ℕ) → lines_on 0 text ≡ lines_of text
lines_on_all text = ap worded (bytes_on_all text) ∙ worded_all text
