-- A word that is read is spelled so, and what is spelled so is read again.
use Rattle.std.proofs.Common.{◌≡◌, ℕ, suc, ◌+◌, ◌^◌, ◌<◌, ◌≤◌, Bool, true, false, ◌&&◌, not, eqb, leb, ltb, cond, List, [], ◌∷◌, ◌++◌, length, get_or, take, drop, Option, Some, None, MatchOption, IsTrue, ℤ, pos, negsuc, neg_ℤ, refl, sym, ap, subst, ◌∙◌, arith, inl, inr}
use Rattle.std.specs.Prelude.{decimal, FitsSigned}
use Rattle.std.specs.Fmt.{signed_decimal}
use Rattle.std.specs.Int.{w64}
use Rattle.std.specs.List.{list_all, position_or_len, before_first, after_first}
use Rattle.std.specs.Str.{bytes_eq}
use Rattle.std.specs.Str.Parse.{IsNumeral, digits_value, signed_digits_value}
use Rattle.std.proofs.lemmas.Bool.{and_parts, and_from, cases_Bool, eqb-true, ne_eqb, ltb-true, lt-ltb, le-ltb, cases_lt, leb-true, le-leb, false≢true}
use Rattle.std.proofs.lemmas.Fmt.{decimal_is_IsNumeral}
use Rattle.std.proofs.lemmas.Option.{cond_some, some_pair_parts}
use Rattle.std.proofs.lemmas.Slice.Eq.{bytes_eq-Decides}
use Rattle.std.proofs.lemmas.Str.Parse.{digit_at}
use Rattle.ostore_text_words.specs.Words.{is_identifier, is_reserved, is_name_byte, begins_as_name, ◌>>=◌, after_byte, around_byte, identifier_at, dotted, dotted_at, is_int64, int_at, count_at}
use Rattle.std.specs.Char.{is_ascii_alphabetic}

-- the value of a step that gave one
pub bind_some : {A B : Type 0} (o : Option A) (f : A → Option B) (y : B) → (o >>= f) ≡ Some y → (x : A) × (o ≡ Some x) × (f x ≡ Some y)
bind_some (Some x) f y e = (x, refl, e)
bind_some None f y e = absurd cc

-- ---- identifiers

pub identifier_taken : (word name : List ℕ) → identifier_at word ≡ Some name → (word ≡ name) × IsTrue (is_identifier name)
identifier_taken word name e =
    let p = cond_some (is_identifier word) word name e in
    (p.1, subst (λ (w : List ℕ). IsTrue (is_identifier w)) p.1 p.0)

pub identifier_again : (name : List ℕ) → IsTrue (is_identifier name) → identifier_at name ≡ Some name
identifier_again name h = rw h refl

-- an identifier has no dot
name_byte-dot : (byte : ℕ) → is_name_byte byte ≡ true → eqb byte 46 ≡ false
name_byte-dot byte h =
    elim (cases_Bool (eqb byte 46)) [
      | inl hit ↦ absurd (false≢true (subst (λ (b : ℕ). is_name_byte b ≡ true) (eqb-true byte 46 hit) h))
      | inr miss ↦ miss
    ]

letter-dot : (byte : ℕ) → is_ascii_alphabetic byte ≡ true → eqb byte 46 ≡ false
letter-dot byte h =
    elim (cases_Bool (eqb byte 46)) [
      | inl hit ↦ absurd (false≢true (subst (λ (b : ℕ). is_ascii_alphabetic b ≡ true) (eqb-true byte 46 hit) h))
      | inr miss ↦ miss
    ]

around_name_bytes : (front back : List ℕ) → list_all is_name_byte front ≡ true → around_byte 46 (front ++ 46 ∷ back) ≡ Some (front, back)
around_name_bytes [] back h = refl
around_name_bytes (byte ∷ front) back h =
    let p = and_parts (is_name_byte byte) (list_all is_name_byte front) h in
    rw (name_byte-dot byte p.0, around_name_bytes front back p.1) refl

pub around_name : (name back : List ℕ) → IsTrue (is_identifier name) → around_byte 46 (name ++ 46 ∷ back) ≡ Some (name, back)
unfolding is_identifier
around_name [] back h = absurd (false≢true h)
around_name (byte ∷ others) back h =
    let p = and_parts (begins_as_name (byte ∷ others) && leb (length (byte ∷ others)) 31) (not (is_reserved (byte ∷ others))) h in
    let q = and_parts (begins_as_name (byte ∷ others)) (leb (length (byte ∷ others)) 31) p.0 in
    let r = and_parts (is_ascii_alphabetic byte) (list_all is_name_byte others) q.0 in
    rw (letter-dot byte r.0, around_name_bytes others back r.1) refl

-- ---- one byte before, and one byte between

pub after_byte_taken : (byte : ℕ) (word rest : List ℕ) → after_byte byte word ≡ Some rest → word ≡ byte ∷ rest
after_byte_taken byte [] rest e = absurd cc
after_byte_taken byte (first ∷ others) rest e =
    let p = cond_some (eqb first byte) others rest e in
    let same : first ≡ byte = eqb-true first byte p.0 in
    let after : others ≡ rest = p.1 in
    cc

around_step : (test : Bool) (byte first : ℕ) (others : List ℕ) (later : Option (List ℕ × List ℕ)) (front back : List ℕ)
    → (test ≡ true → first ≡ byte) → ((f b : List ℕ) → later ≡ Some (f, b) → others ≡ f ++ byte ∷ b)
    → cond {A = Option (List ℕ × List ℕ)} test (Some ([], others)) (later >>= λ parts. Some (first ∷ parts.0, parts.1)) ≡ Some (front, back) → first ∷ others ≡ front ++ byte ∷ back
around_step true byte first others later front back hit rest e =
    let p = some_pair_parts [] front others back e in
    rw (← p.0, ← p.1, hit refl) refl
around_step false byte first others later front back hit rest e =
    let a = bind_some later (λ parts. Some (first ∷ parts.0, parts.1)) (front, back) e in
    let p = some_pair_parts (first ∷ a.0.0) front a.0.1 back a.2 in
    ap (λ (w : List ℕ). first ∷ w) (rest a.0.0 a.0.1 a.1) ∙ ap (λ (f : List ℕ). f ++ byte ∷ a.0.1) p.0 ∙ ap (λ (b : List ℕ). front ++ byte ∷ b) p.1

pub around_byte_taken : (byte : ℕ) (word front back : List ℕ) → around_byte byte word ≡ Some (front, back) → word ≡ front ++ byte ∷ back
around_byte_taken byte [] front back e = absurd cc
around_byte_taken byte (first ∷ others) front back e =
    around_step (eqb first byte) byte first others (around_byte byte others) front back (eqb-true first byte) (λ f b h. around_byte_taken byte others f b h) e

-- ---- `first.second`

dotted_parts : (word front back f s first second : List ℕ) → word ≡ front ++ 46 ∷ back → front ≡ f → back ≡ s → f ≡ first → s ≡ second
    → IsTrue (is_identifier f) → IsTrue (is_identifier s) → (word ≡ dotted first second) × IsTrue (is_identifier first) × IsTrue (is_identifier second)
dotted_parts word front back f s first second b c d p q h k =
    let whole : word ≡ dotted first second = cc in
    (whole, subst (λ (w : List ℕ). IsTrue (is_identifier w)) p h, subst (λ (w : List ℕ). IsTrue (is_identifier w)) q k)

pub dotted_taken : (word first second : List ℕ) → dotted_at word ≡ Some (first, second) → (word ≡ dotted first second) × IsTrue (is_identifier first) × IsTrue (is_identifier second)
unfolding dotted_at
dotted_taken word first second e =
    let b = bind_some (around_byte 46 word) (λ parts. identifier_at parts.0 >>= λ f. identifier_at parts.1 >>= λ s. Some (f, s)) (first, second) e in
    let c = bind_some (identifier_at b.0.0) (λ f. identifier_at b.0.1 >>= λ s. Some (f, s)) (first, second) b.2 in
    let d = bind_some (identifier_at b.0.1) (λ s. Some (c.0, s)) (first, second) c.2 in
    let p = some_pair_parts c.0 first d.0 second d.2 in
    let i = identifier_taken b.0.0 c.0 c.1 in
    let j = identifier_taken b.0.1 d.0 d.1 in
    dotted_parts word b.0.0 b.0.1 c.0 d.0 first second (around_byte_taken 46 word b.0.0 b.0.1 b.1) i.0 j.0 p.0 p.1 i.1 j.1

pub dotted_again : (first second : List ℕ) → IsTrue (is_identifier first) → IsTrue (is_identifier second) → dotted_at (dotted first second) ≡ Some (first, second)
unfolding dotted_at
dotted_again first second h k = rw (around_name first second h, h, k) refl

-- ---- ints

int64_fits : (n : ℤ) → is_int64 n ≡ true → FitsSigned w64 n
int64_fits (pos n) h = record { sfits = ltb-true n (2 ^ 63) h }
int64_fits (negsuc n) h = record { sfits = ltb-true n (2 ^ 63) h }

fits_int64 : (n : ℤ) → FitsSigned w64 n → is_int64 n ≡ true
fits_int64 (pos n) fits = lt-ltb n (2 ^ 63) fits.sfits
fits_int64 (negsuc n) fits = lt-ltb n (2 ^ 63) fits.sfits

-- digits have no sign
digits_plain : (digits : List ℕ) → IsNumeral 10 digits → signed_digits_value 10 digits ≡ pos (digits_value 10 digits)
digits_plain digits h =
    let first = digit_at digits 0 h.1 h.0 in
    let no_minus : eqb (get_or digits 0 0) 45 ≡ false = ne_eqb _ 45 (omega arith) in
    let no_plus : eqb (get_or digits 0 0) 43 ≡ false = ne_eqb _ 43 (omega arith) in
    rw (no_minus, no_plus) refl

value_signed : (n : ℤ) → FitsSigned w64 n → signed_digits_value 10 (signed_decimal n) ≡ n
value_signed (pos n) fits =
    let k = decimal_is_IsNumeral n (omega (arith, fits.sfits)) in
    digits_plain (decimal n) k.0 ∙ ap pos k.1
value_signed (negsuc n) fits =
    let k = decimal_is_IsNumeral (suc n) (omega (arith, fits.sfits)) in
    ap (λ (m : ℕ). neg_ℤ (pos m)) k.1

-- n, where the word is its one form
abbrev if_form : List ℕ → ℤ → Option ℤ
if_form word n = cond (is_int64 n && bytes_eq (signed_decimal n) word) (Some n) None

pub int_taken : (word : List ℕ) (n : ℤ) → int_at word ≡ Some n → (word ≡ signed_decimal n) × FitsSigned w64 n
unfolding int_at
int_taken word n e =
    let v = signed_digits_value 10 word in
    let p = cond_some (is_int64 v && bytes_eq (signed_decimal v) word) v n e in
    let q = and_parts (is_int64 v) (bytes_eq (signed_decimal v) word) p.0 in
    let same : word ≡ signed_decimal v = sym ((bytes_eq-Decides (signed_decimal v) word).0 q.1) in
    (same ∙ ap signed_decimal p.1, subst (λ (m : ℤ). FitsSigned w64 m) p.1 (int64_fits v q.0))

pub int_again : (n : ℤ) → FitsSigned w64 n → int_at (signed_decimal n) ≡ Some n
unfolding int_at
int_again n fits =
    let form : (is_int64 n && bytes_eq (signed_decimal n) (signed_decimal n)) ≡ true = and_from (is_int64 n) (bytes_eq (signed_decimal n) (signed_decimal n)) (fits_int64 n fits) ((bytes_eq-Decides (signed_decimal n) (signed_decimal n)).1 refl) in
    ap (if_form (signed_decimal n)) (value_signed n fits) ∙ ap (λ (b : Bool). cond b (Some n) None) form

-- ---- counts

abbrev if_count : ℕ → ℕ → List ℕ → ℕ → Option ℕ
if_count least most word n = cond (leb least n && leb n most && bytes_eq (decimal n) word) (Some n) None

pub count_taken : (least most : ℕ) (word : List ℕ) (n : ℕ) → count_at least most word ≡ Some n → (word ≡ decimal n) × (least ≤ n) × (n ≤ most)
unfolding count_at
count_taken least most word n e =
    let v = digits_value 10 word in
    let p = cond_some (leb least v && leb v most && bytes_eq (decimal v) word) v n e in
    let q = and_parts (leb least v && leb v most) (bytes_eq (decimal v) word) p.0 in
    let r = and_parts (leb least v) (leb v most) q.0 in
    let same : word ≡ decimal v = sym ((bytes_eq-Decides (decimal v) word).0 q.1) in
    subst (λ (m : ℕ). (word ≡ decimal m) × (least ≤ m) × (m ≤ most)) p.1 (same, leb-true least v r.0, leb-true v most r.1)

pub count_again : (least most n : ℕ) → least ≤ n → n ≤ most → n < 2 ^ 64 → count_at least most (decimal n) ≡ Some n
unfolding count_at
count_again least most n low high fits =
    let k = decimal_is_IsNumeral n fits in
    let form : (leb least n && leb n most && bytes_eq (decimal n) (decimal n)) ≡ true =
    and_from (leb least n && leb n most) (bytes_eq (decimal n) (decimal n)) (and_from (leb least n) (leb n most) (le-leb least n low) (le-leb n most high)) ((bytes_eq-Decides (decimal n) (decimal n)).1 refl) in
    ap (if_count least most (decimal n)) k.1 ∙ ap (λ (b : Bool). cond b (Some n) None) form

-- ---- what a reader answers, where it is told by the spelling

none_from : {A : Type 0} (o : Option A) → ((x : A) → o ≡ Some x → ⊥) → None ≡ o
none_from None h = refl
none_from (Some x) h = absurd (h x refl)

pub int_is : (word : List ℕ) (r : Option ℤ) → MatchOption r ((n : ℤ) → FitsSigned w64 n → word ≡ signed_decimal n → ⊥) (λ n. FitsSigned w64 n × (word ≡ signed_decimal n)) → r ≡ int_at word
int_is word (Some n) h = sym (ap int_at h.1 ∙ int_again n h.0)
int_is word None h = none_from (int_at word) (λ n e. let t = int_taken word n e in h n t.1 t.0)

pub count_is : (least most : ℕ) (word : List ℕ) (r : Option ℕ) → most < 2 ^ 64 → MatchOption r ((n : ℕ) → least ≤ n → n ≤ most → word ≡ decimal n → ⊥) (λ n. (least ≤ n) × (n ≤ most) × (word ≡ decimal n)) → r ≡ count_at least most word
count_is least most word (Some n) fits h = sym (ap (count_at least most) h.2 ∙ count_again least most n h.0 h.1 (omega (arith, h.1)))
count_is least most word None fits h = none_from (count_at least most word) (λ n e. let t = count_taken least most word n e in h n t.1 t.2 t.0)

-- the first dot by its place
around_is_step : (test : Bool) (first : ℕ) (others : List ℕ) (k : ℕ) (later : Option (List ℕ × List ℕ)) → later ≡ cond {A = Option (List ℕ × List ℕ)} (ltb k (length others)) (Some (take k others, drop (k + 1) others)) None
    → cond {A = Option (List ℕ × List ℕ)} test (Some ([], others)) (later >>= λ parts. Some (first ∷ parts.0, parts.1)) ≡ cond {A = Option (List ℕ × List ℕ)} (ltb (cond (not test) (1 + k) 0) (suc (length others))) (Some (take (cond (not test) (1 + k) 0) (first ∷ others), drop (cond (not test) (1 + k) 0 + 1) (first ∷ others))) None
around_is_step true first others k later h = rw (lt-ltb 0 (suc (length others)) (omega arith)) refl
around_is_step false first others k later h =
    let more : 1 + k ≡ suc k = omega arith in
    let after : suc k + 1 ≡ suc (k + 1) = omega arith in
    elim (cases_lt k (length others)) [
      | inl lt ↦ rw (more, after, h, lt-ltb k (length others) lt, lt-ltb (suc k) (suc (length others)) (omega arith)) refl
      | inr le ↦ rw (more, after, h, le-ltb k (length others) le, le-ltb (suc k) (suc (length others)) (omega arith)) refl
    ]

pub around_is : (byte : ℕ) (word : List ℕ) → around_byte byte word ≡ cond {A = Option (List ℕ × List ℕ)} (ltb (position_or_len (λ b. eqb b byte) word) (length word)) (Some (before_first (λ b. eqb b byte) word, after_first (λ b. eqb b byte) word)) None
around_is byte [] = refl
around_is byte (first ∷ others) = around_is_step (eqb first byte) first others (position_or_len (λ b. eqb b byte) others) (around_byte byte others) (around_is byte others)
