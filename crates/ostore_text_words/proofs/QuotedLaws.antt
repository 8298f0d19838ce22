-- Quoted texts: what is read is spelled so, and what is spelled so is read again. Names of objects likewise.
use Rattle.std.proofs.Common.{◌≡◌, ℕ, suc, ◌-◌, ◌^◌, ◌<◌, ◌≤◌, ◌≢◌, Bool, true, false, ◌&&◌, ◌||◌, eqb, leb, cond, List, [], ◌∷◌, ◌++◌, length, get_or, take, codes, Option, Some, None, IsTrue, refl, sym, ap, ◌∙◌, arith}
use Rattle.std.specs.Prelude.{decimal, flat_map}
use Rattle.std.specs.List.{list_all}
use Rattle.std.specs.Str.{bytes_eq}
use Rattle.std.proofs.lemmas.Bool.{and_parts, and_from, ne_eqb}
use Rattle.std.proofs.lemmas.Fmt.{decimal_is_IsNumeral}
use Rattle.std.proofs.lemmas.List.{length-append}
use Rattle.std.proofs.lemmas.List.Folds.{list_all-append}
use Rattle.std.proofs.lemmas.Option.{cond_some, some_pair_parts}
use Rattle.std.proofs.lemmas.Slice.Eq.{bytes_eq-Decides}
use Rattle.std.proofs.lemmas.Str.Parse.{digit_at}
use Rattle.std.proofs.Math.Seq.{take-append_seam}
use Rattle.ostore_text_words.specs.Words.{escaped, quoted, unescaped, between, quoted_at, ◌>>=◌, around_byte, dotted, count_at, name_at}
use Rattle.ostore_text_words.proofs.WordLaws.{bind_some, around_byte_taken, count_taken, count_again}

-- ---- the bytes between the quotes

unescaped_byte : (quote backslash : Bool) (byte : ℕ) (others : List ℕ) → quote ≡ eqb byte 34 → backslash ≡ eqb byte 92
    → unescaped false ((cond (quote || backslash) (codes "\\") [] ++ byte ∷ []) ++ others) ≡ byte ∷ unescaped false others
unescaped_byte true backslash byte others q b = refl
unescaped_byte false true byte others q b = refl
unescaped_byte false false byte others q b = rw (sym b) refl

pub unescaped_again : (text : List ℕ) → unescaped false (flat_map escaped text) ≡ text
unescaped_again [] = refl
unescaped_again (byte ∷ others) =
    unescaped_byte (eqb byte 34) (eqb byte 92) byte (flat_map escaped others) refl refl ∙ ap (λ (bs : List ℕ). byte ∷ bs) (unescaped_again others)

pub between_again : (text : List ℕ) → between (quoted text) ≡ flat_map escaped text
between_again text =
    let inner = flat_map escaped text in
    let count : suc (length (inner ++ 34 ∷ [])) - 2 ≡ length inner = omega (arith, length-append inner (34 ∷ [])) in
    ap (λ (n : ℕ). take n (inner ++ 34 ∷ [])) count ∙ take-append_seam inner (34 ∷ [])

-- ---- control bytes

plain_byte : (quote backslash : Bool) (byte : ℕ) → list_all (leb 32) (cond (quote || backslash) (codes "\\") [] ++ byte ∷ []) ≡ (leb 32 byte && true)
plain_byte true backslash byte = refl
plain_byte false true byte = refl
plain_byte false false byte = refl

and_regroup : (a b : Bool) → ((a && true) && b) ≡ (a && b)
and_regroup true b = refl
and_regroup false b = refl

pub plain_escaped : (text : List ℕ) → list_all (leb 32) (flat_map escaped text) ≡ list_all (leb 32) text
plain_escaped [] = refl
plain_escaped (byte ∷ others) =
    list_all-append (leb 32) (escaped byte) (flat_map escaped others)
    ∙ ap (λ (b : Bool). b && list_all (leb 32) (flat_map escaped others)) (plain_byte (eqb byte 34) (eqb byte 92) byte)
    ∙ and_regroup (leb 32 byte) (list_all (leb 32) (flat_map escaped others))
    ∙ ap (λ (b : Bool). leb 32 byte && b) (plain_escaped others)

and_true : (a : Bool) → (a && true) ≡ a
and_true true = refl
and_true false = refl

pub plain_quoted : (text : List ℕ) → list_all (leb 32) (quoted text) ≡ list_all (leb 32) text
plain_quoted text =
    list_all-append (leb 32) (flat_map escaped text) (34 ∷ []) ∙ and_true (list_all (leb 32) (flat_map escaped text)) ∙ plain_escaped text

-- ---- quoted texts

pub quoted_taken : (word text : List ℕ) → quoted_at word ≡ Some text → (word ≡ quoted text) × IsTrue (list_all (leb 32) text)
unfolding quoted_at
quoted_taken word text e =
    let found = unescaped false (between word) in
    let p = cond_some (list_all (leb 32) word && bytes_eq (quoted found) word) found text e in
    let q = and_parts (list_all (leb 32) word) (bytes_eq (quoted found) word) p.0 in
    let form : word ≡ quoted text = sym ((bytes_eq-Decides (quoted found) word).0 q.1) ∙ ap quoted p.1 in
    (form, sym (plain_quoted text) ∙ sym (ap (list_all (leb 32)) form) ∙ q.0)

abbrev if_quoted : List ℕ → List ℕ → Option (List ℕ)
if_quoted word text = cond (list_all (leb 32) word && bytes_eq (quoted text) word) (Some text) None

pub quoted_again : (text : List ℕ) → IsTrue (list_all (leb 32) text) → quoted_at (quoted text) ≡ Some text
unfolding quoted_at
quoted_again text h =
    let found : unescaped false (between (quoted text)) ≡ text = ap (unescaped false) (between_again text) ∙ unescaped_again text in
    let form : (list_all (leb 32) (quoted text) && bytes_eq (quoted text) (quoted text)) ≡ true =
    and_from (list_all (leb 32) (quoted text)) (bytes_eq (quoted text) (quoted text)) (plain_quoted text ∙ h) ((bytes_eq-Decides (quoted text) (quoted text)).1 refl) in
    ap (if_quoted (quoted text)) found ∙ ap (λ (b : Bool). cond b (Some text) None) form

-- ---- names of objects

-- what stands before the first dot, where no byte of it is one
around_apart : (front back : List ℕ) → ((i : ℕ) → i < length front → get_or front i 0 ≢ 46) → around_byte 46 (front ++ 46 ∷ back) ≡ Some (front, back)
around_apart [] back h = refl
around_apart (byte ∷ front) back h =
    let first : eqb byte 46 ≡ false = ne_eqb byte 46 (h 0 (omega arith)) in
    let later = around_apart front back (λ i lt. h (suc i) (omega arith)) in
    rw (first, later) refl

-- digits have no dot
digits_apart : (n : ℕ) (back : List ℕ) → n < 2 ^ 64 → around_byte 46 (decimal n ++ 46 ∷ back) ≡ Some (decimal n, back)
digits_apart n back fits =
    let k = decimal_is_IsNumeral n fits in
    around_apart (decimal n) back (λ i lt. let d = digit_at (decimal n) i k.0.1 lt in λ e. absurd (omega arith))

pub name_taken : (word : List ℕ) (segment serial : ℕ) → name_at word ≡ Some (segment, serial)
    → (word ≡ dotted (decimal segment) (decimal serial)) × (1 ≤ segment) × (segment ≤ 255) × (1 ≤ serial) × (serial ≤ 4294967295)
unfolding name_at
name_taken word segment serial e =
    let b = bind_some (around_byte 46 word) (λ parts. count_at 1 255 parts.0 >>= λ s. count_at 1 4294967295 parts.1 >>= λ n. Some (s, n)) (segment, serial) e in
    let c = bind_some (count_at 1 255 b.0.0) (λ s. count_at 1 4294967295 b.0.1 >>= λ n. Some (s, n)) (segment, serial) b.2 in
    let d = bind_some (count_at 1 4294967295 b.0.1) (λ n. Some (c.0, n)) (segment, serial) c.2 in
    let p = some_pair_parts c.0 segment d.0 serial d.2 in
    let s = count_taken 1 255 b.0.0 c.0 c.1 in
    let n = count_taken 1 4294967295 b.0.1 d.0 d.1 in
    let front : b.0.0 ≡ decimal segment = s.0 ∙ ap decimal p.0 in
    let back : b.0.1 ≡ decimal serial = n.0 ∙ ap decimal p.1 in
    let whole : word ≡ dotted b.0.0 b.0.1 = around_byte_taken 46 word b.0.0 b.0.1 b.1 in
    (whole ∙ ap (λ (f : List ℕ). dotted f b.0.1) front ∙ ap (dotted (decimal segment)) back, omega arith, omega arith, omega arith, omega arith)

pub name_again : (segment serial : ℕ) → 1 ≤ segment → segment ≤ 255 → 1 ≤ serial → serial ≤ 4294967295 → name_at (dotted (decimal segment) (decimal serial)) ≡ Some (segment, serial)
unfolding name_at
name_again segment serial a b c d =
    rw (digits_apart segment (decimal serial) (omega arith), count_again 1 255 segment a b (omega arith), count_again 1 4294967295 serial c d (omega arith)) refl
