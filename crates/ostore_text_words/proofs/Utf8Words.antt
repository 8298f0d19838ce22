-- UTF-8: of a text by its words, and of a quoted text by what it quotes.
use Rattle.std.proofs.Common.{◌≡◌, ◌≢◌, ℕ, suc, ◌+◌, ◌<◌, ◌≤◌, Bool, true, false, ◌&&◌, ◌||◌, eqb, ltb, cond, List, [], ◌∷◌, ◌++◌, length, get_or, codes, refl, sym, ap, subst, ◌∙◌, arith, inl, inr}
use Rattle.std.specs.Prelude.{flat_map}
use Rattle.std.specs.List.{list_all, AllByRecursion}
use Rattle.std.specs.Str.{IsUtf8}
use Rattle.std.proofs.Math.Utf8.{encode, encodes, scalar, scalars}
use Rattle.std.proofs.lemmas.Bool.{and_parts, and_from, cases_lt, lt-ltb, ne_eqb}
use Rattle.std.proofs.lemmas.List.{append-nil}
use Rattle.std.proofs.lemmas.Str.{IsUtf8-nil, IsUtf8-append, IsUtf8-from_ascii, encode_ascii, inside_one}
use Rattle.ostore_text_words.specs.Words.{escaped, quoted}
use Rattle.ostore_text_words.specs.Lines.{joined, text_of_lines}
use Rattle.ostore_text_words.proofs.BareWords.{is_ascii_byte}
use Rattle.ostore_text_words.proofs.PrintedLines.{IsAscii-from_bytes}

pub ascii_utf8 : (word : List ℕ) → list_all is_ascii_byte word ≡ true → IsUtf8 word
ascii_utf8 word h = IsUtf8-from_ascii word (IsAscii-from_bytes word h)

-- ---- lines of words

joined_utf8 : (line : List (List ℕ)) → AllByRecursion IsUtf8 line → IsUtf8 (joined line)
joined_utf8 [] h = ascii_utf8 (codes "\n") refl
joined_utf8 (word ∷ []) h = IsUtf8-append word (codes "\n") h.0 (ascii_utf8 (codes "\n") refl)
joined_utf8 (word ∷ next ∷ words) h = IsUtf8-append word (32 ∷ joined (next ∷ words)) h.0 (IsUtf8-append (32 ∷ []) (joined (next ∷ words)) (ascii_utf8 (32 ∷ []) refl) (joined_utf8 (next ∷ words) h.1))

-- the text of lines whose words are UTF-8 is UTF-8
pub text_utf8 : (lines : List (List (List ℕ))) → AllByRecursion (AllByRecursion IsUtf8) lines → IsUtf8 (text_of_lines lines)
text_utf8 [] h = IsUtf8-nil
text_utf8 (line ∷ lines) h = IsUtf8-append (joined line) (text_of_lines lines) (joined_utf8 line h.0) (text_utf8 lines h.1)

-- ---- characters and bytes

pub byte_utf8 : (byte : ℕ) → byte < 128 → IsUtf8 (byte ∷ [])
byte_utf8 byte low = ascii_utf8 (byte ∷ []) (and_from (ltb byte 128) true (lt-ltb byte 128 low) refl)

-- no byte of a character beyond ASCII is this one
pub apart : (c mark : ℕ) → mark < 128 → 128 ≤ c → (k : ℕ) → k < length (encode c) → get_or (encode c) k 0 ≢ mark
apart c mark low high k lt e =
    let same = inside_one c [] (encode c) k (sym (append-nil (encode c))) lt (omega (arith, e)) in
    absurd (omega (arith, same, e))

-- ---- quoted texts

-- where neither a quote nor a backslash stands
plain_escaped_by : (bytes rest : List ℕ) → ((k : ℕ) → k < length bytes → get_or bytes k 0 ≢ 34) → ((k : ℕ) → k < length bytes → get_or bytes k 0 ≢ 92) → flat_map escaped (bytes ++ rest) ≡ bytes ++ flat_map escaped rest
plain_escaped_by [] rest q b = refl
plain_escaped_by (byte ∷ bytes) rest q b =
    let later = plain_escaped_by bytes rest (λ k lt. q (suc k) (omega arith)) (λ k lt. b (suc k) (omega arith)) in
    rw (ne_eqb byte 34 (q 0 (omega arith)), ne_eqb byte 92 (b 0 (omega arith)), later) refl

mark_utf8 : (marked : Bool) → IsUtf8 (cond marked (codes "\\") [])
mark_utf8 true = ascii_utf8 (codes "\\") refl
mark_utf8 false = IsUtf8-nil

escaped_byte_utf8 : (byte : ℕ) → byte < 128 → IsUtf8 (escaped byte)
escaped_byte_utf8 byte low = IsUtf8-append (cond (eqb byte 34 || eqb byte 92) (codes "\\") []) (byte ∷ []) (mark_utf8 (eqb byte 34 || eqb byte 92)) (byte_utf8 byte low)

pub char_utf8 : (c : ℕ) → scalar c ≡ true → IsUtf8 (encode c)
char_utf8 c h = (c ∷ [], (and_from (scalar c) true h refl, append-nil (encode c)))

escaped_chars : (cs : List ℕ) → scalars cs ≡ true → IsUtf8 (flat_map escaped (encodes cs))
escaped_chars [] h = IsUtf8-nil
escaped_chars (c ∷ cs) h =
    let p = and_parts (scalar c) (scalars cs) h in
    let later = escaped_chars cs p.1 in
    elim (cases_lt c 128) [
      | inl low ↦ subst (λ (bs : List ℕ). IsUtf8 (flat_map escaped (bs ++ encodes cs))) (sym (encode_ascii c low)) (IsUtf8-append (escaped c) (flat_map escaped (encodes cs)) (escaped_byte_utf8 c low) later)
      | inr high ↦
          subst IsUtf8 (sym (plain_escaped_by (encode c) (encodes cs) (apart c 34 (omega arith) high) (apart c 92 (omega arith) high)))
          (IsUtf8-append (encode c) (flat_map escaped (encodes cs)) (char_utf8 c p.0) later)
    ]

pub escaped_utf8 : (text : List ℕ) → IsUtf8 text → IsUtf8 (flat_map escaped text)
escaped_utf8 text u = subst (λ (bs : List ℕ). IsUtf8 (flat_map escaped bs)) u.1.1 (escaped_chars u.0 u.1.0)

-- a quoted text is UTF-8 where what it quotes is
pub quoted_utf8 : (text : List ℕ) → IsUtf8 text → IsUtf8 (quoted text)
quoted_utf8 text u =
    let inner = flat_map escaped text in
    IsUtf8-append (34 ∷ []) (inner ++ 34 ∷ []) (ascii_utf8 (34 ∷ []) refl) (IsUtf8-append inner (34 ∷ []) (escaped_utf8 text u) (ascii_utf8 (34 ∷ []) refl))
