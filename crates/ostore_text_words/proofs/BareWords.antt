-- Words that stand in a text as they are: names, and numbers in their one form.
use Rattle.std.proofs.Common.{◌≡◌, ℕ, suc, ◌+◌, ◌/◌, ◌%◌, ◌^◌, ◌<◌, ◌≤◌, Bool, true, false, ◌&&◌, ◌||◌, not, eqb, leb, ltb, List, [], ◌∷◌, ◌++◌, length, ℤ, pos, negsuc, refl, ap, ◌∙◌, arith, inl, inr}
use Rattle.std.specs.Prelude.{decimal, FitsSigned}
use Rattle.std.specs.Fmt.{signed_decimal}
use Rattle.std.specs.Int.{w64, is_in_range}
use Rattle.std.specs.Char.{is_ascii_alphabetic}
use Rattle.std.specs.List.{list_all}
use Rattle.std.proofs.lemmas.Bool.{and_parts, and_from, and_right, or_cases, lt-ltb, leb-true, ltb-true, ne_eqb, eqb-true, false≢true}
use Rattle.std.proofs.lemmas.Fmt.{decimal_by_steps}
use Rattle.std.proofs.lemmas.List.{length-append}
use Rattle.std.proofs.lemmas.List.Folds.{list_all-append}
use Rattle.ostore_text_words.specs.Words.{is_identifier, is_reserved, is_name_byte, begins_as_name, dotted}
use Rattle.ostore_text_words.specs.Lines.{is_bare}

-- no word of the languages is an identifier
pub reserved_not_identifier : (word : List ℕ) → is_reserved word ≡ true → is_identifier word ≡ false
unfolding is_identifier
reserved_not_identifier word h = and_right (begins_as_name word && leb (length word) 31) (not (is_reserved word)) (ap not h)

-- a byte that is neither below `$` nor beyond ASCII
abbrev pub is_word_byte : ℕ → Bool
is_word_byte byte = ltb 35 byte && ltb byte 128

abbrev pub is_ascii_byte : ℕ → Bool
is_ascii_byte byte = ltb byte 128

word_byte_from : (byte : ℕ) → 35 < byte → byte < 128 → is_word_byte byte ≡ true
word_byte_from byte low high = and_from (ltb 35 byte) (ltb byte 128) (lt-ltb 35 byte low) (lt-ltb byte 128 high)

word_byte_above : (byte : ℕ) → is_word_byte byte ≡ true → ltb 32 byte ≡ true
word_byte_above byte h =
    let low = ltb-true 35 byte ((and_parts (ltb 35 byte) (ltb byte 128) h).0) in
    lt-ltb 32 byte (omega arith)

word_bytes_above : (word : List ℕ) → list_all is_word_byte word ≡ true → list_all (ltb 32) word ≡ true
word_bytes_above [] h = refl
word_bytes_above (byte ∷ others) h =
    let p = and_parts (is_word_byte byte) (list_all is_word_byte others) h in
    and_from (ltb 32 byte) (list_all (ltb 32) others) (word_byte_above byte p.0) (word_bytes_above others p.1)

-- some such bytes are a bare word, in ASCII
pub word_bytes_bare : (word : List ℕ) → 0 < length word → list_all is_word_byte word ≡ true → is_bare word ≡ true
word_bytes_bare [] some h = absurd (omega arith)
word_bytes_bare (byte ∷ others) some h =
    let p = and_parts (is_word_byte byte) (list_all is_word_byte others) h in
    let low = ltb-true 35 byte ((and_parts (ltb 35 byte) (ltb byte 128) p.0).0) in
    let plain = word_bytes_above (byte ∷ others) h in
    let no_quote : not (eqb byte 34) ≡ true = ap not (ne_eqb byte 34 (λ e. absurd (omega arith))) in
    let no_comment : not (eqb byte 35) ≡ true = ap not (ne_eqb byte 35 (λ e. absurd (omega arith))) in
    and_from (list_all (ltb 32) (byte ∷ others) && not (eqb byte 34)) (not (eqb byte 35)) (and_from (list_all (ltb 32) (byte ∷ others)) (not (eqb byte 34)) plain no_quote) no_comment

pub word_bytes_ascii : (word : List ℕ) → list_all is_word_byte word ≡ true → list_all is_ascii_byte word ≡ true
word_bytes_ascii [] h = refl
word_bytes_ascii (byte ∷ others) h =
    let p = and_parts (is_word_byte byte) (list_all is_word_byte others) h in
    and_from (ltb byte 128) (list_all is_ascii_byte others) ((and_parts (ltb 35 byte) (ltb byte 128) p.0).1) (word_bytes_ascii others p.1)

-- ---- names

range_byte : (low high byte : ℕ) → 35 < low → high < 128 → is_in_range low high byte ≡ true → is_word_byte byte ≡ true
range_byte low high byte l h e =
    let p = and_parts (leb low byte) (leb byte high) e in
    let a = leb-true low byte p.0 in
    let b = leb-true byte high p.1 in
    word_byte_from byte (omega arith) (omega arith)

letter_byte : (byte : ℕ) → is_ascii_alphabetic byte ≡ true → is_word_byte byte ≡ true
letter_byte byte h =
    elim (or_cases (is_in_range 65 90 byte) (is_in_range 97 122 byte) h) [
      | inl upper ↦ range_byte 65 90 byte (omega arith) (omega arith) upper
      | inr lower ↦ range_byte 97 122 byte (omega arith) (omega arith) lower
    ]

name_byte : (byte : ℕ) → is_name_byte byte ≡ true → is_word_byte byte ≡ true
name_byte byte h =
    elim (or_cases ((is_in_range 48 57 byte || is_in_range 65 90 byte) || is_in_range 97 122 byte) (eqb byte 95) h) [
      | inl alnum ↦ elim (or_cases (is_in_range 48 57 byte || is_in_range 65 90 byte) (is_in_range 97 122 byte) alnum) [
        | inl more ↦ elim (or_cases (is_in_range 48 57 byte) (is_in_range 65 90 byte) more) [
          | inl digit ↦ range_byte 48 57 byte (omega arith) (omega arith) digit
          | inr upper ↦ range_byte 65 90 byte (omega arith) (omega arith) upper
        ]
        | inr lower ↦ range_byte 97 122 byte (omega arith) (omega arith) lower
      ]
      | inr line ↦
          let same = eqb-true byte 95 line in
          word_byte_from byte (omega arith) (omega arith)
    ]

name_bytes : (bytes : List ℕ) → list_all is_name_byte bytes ≡ true → list_all is_word_byte bytes ≡ true
name_bytes [] h = refl
name_bytes (byte ∷ others) h =
    let p = and_parts (is_name_byte byte) (list_all is_name_byte others) h in
    and_from (is_word_byte byte) (list_all is_word_byte others) (name_byte byte p.0) (name_bytes others p.1)

named_bytes : (word : List ℕ) → begins_as_name word ≡ true → (0 < length word) × (list_all is_word_byte word ≡ true)
named_bytes [] h = absurd (false≢true h)
named_bytes (byte ∷ others) h =
    let p = and_parts (is_ascii_alphabetic byte) (list_all is_name_byte others) h in
    (omega arith, and_from (is_word_byte byte) (list_all is_word_byte others) (letter_byte byte p.0) (name_bytes others p.1))

pub identifier_bytes : (word : List ℕ) → is_identifier word ≡ true → (0 < length word) × (list_all is_word_byte word ≡ true)
unfolding is_identifier
identifier_bytes word h =
    named_bytes word ((and_parts (begins_as_name word) (leb (length word) 31) ((and_parts (begins_as_name word && leb (length word) 31) (not (is_reserved word)) h).0)).0)

pub identifier_bare : (word : List ℕ) → is_identifier word ≡ true → is_bare word ≡ true
identifier_bare word h =
    let p = identifier_bytes word h in
    word_bytes_bare word p.0 p.1

pub identifier_ascii : (word : List ℕ) → is_identifier word ≡ true → list_all is_ascii_byte word ≡ true
identifier_ascii word h = word_bytes_ascii word ((identifier_bytes word h).1)

dotted_bytes : (first second : List ℕ) → is_identifier first ≡ true → is_identifier second ≡ true → (0 < length (dotted first second)) × (list_all is_word_byte (dotted first second) ≡ true)
dotted_bytes first second h k =
    let p = identifier_bytes first h in
    let q = identifier_bytes second k in
    let long = length-append first (46 ∷ second) in
    (omega arith, list_all-append is_word_byte first (46 ∷ second) ∙ and_from (list_all is_word_byte first) (list_all is_word_byte (46 ∷ second)) p.1 q.1)

pub dotted_bare : (first second : List ℕ) → is_identifier first ≡ true → is_identifier second ≡ true → is_bare (dotted first second) ≡ true
dotted_bare first second h k =
    let p = dotted_bytes first second h k in
    word_bytes_bare (dotted first second) p.0 p.1

pub dotted_ascii : (first second : List ℕ) → is_identifier first ≡ true → is_identifier second ≡ true → list_all is_ascii_byte (dotted first second) ≡ true
dotted_ascii first second h k = word_bytes_ascii (dotted first second) ((dotted_bytes first second h k).1)

-- ---- numbers

abbrev pub Digits : ℕ → List ℕ → Type 0
Digits n digits = (0 < length digits) × (list_all is_word_byte digits ≡ true)

digit_one : (n : ℕ) → n < 10 → Digits n ((48 + n) ∷ [])
digit_one n h = (omega arith, and_from (is_word_byte (48 + n)) true (word_byte_from (48 + n) (omega arith) (omega arith)) refl)

digit_more : (n : ℕ) (digits : List ℕ) → 10 ≤ n → Digits (n / 10) digits → Digits n (digits ++ ((48 + n % 10) ∷ []))
digit_more n digits h before =
    let last : n % 10 < 10 = omega arith in
    let long = length-append digits ((48 + n % 10) ∷ []) in
    (omega arith, list_all-append is_word_byte digits ((48 + n % 10) ∷ []) ∙ and_from (list_all is_word_byte digits) (list_all is_word_byte ((48 + n % 10) ∷ [])) before.1 ((digit_one (n % 10) last).1))

pub decimal_bytes : (n : ℕ) → n < 2 ^ 64 → Digits n (decimal n)
decimal_bytes n h = decimal_by_steps Digits digit_one digit_more n h

pub decimal_bare : (n : ℕ) → n < 2 ^ 64 → is_bare (decimal n) ≡ true
decimal_bare n h =
    let p = decimal_bytes n h in
    word_bytes_bare (decimal n) p.0 p.1

pub decimal_ascii : (n : ℕ) → n < 2 ^ 64 → list_all is_ascii_byte (decimal n) ≡ true
decimal_ascii n h = word_bytes_ascii (decimal n) ((decimal_bytes n h).1)

pub signed_bytes : (n : ℤ) → FitsSigned w64 n → (0 < length (signed_decimal n)) × (list_all is_word_byte (signed_decimal n) ≡ true)
signed_bytes (pos n) fits = decimal_bytes n (omega (arith, fits.sfits))
signed_bytes (negsuc n) fits = (omega arith, (decimal_bytes (suc n) (omega (arith, fits.sfits))).1)

pub signed_bare : (n : ℤ) → FitsSigned w64 n → is_bare (signed_decimal n) ≡ true
signed_bare n fits =
    let p = signed_bytes n fits in
    word_bytes_bare (signed_decimal n) p.0 p.1

pub signed_ascii : (n : ℤ) → FitsSigned w64 n → list_all is_ascii_byte (signed_decimal n) ≡ true
signed_ascii n fits = word_bytes_ascii (signed_decimal n) ((signed_bytes n fits).1)
