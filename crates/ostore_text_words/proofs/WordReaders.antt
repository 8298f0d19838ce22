-- What the readers of single words answer.
use Rattle.std.proofs.Common.{◌≡◌, ℕ, ◌+◌, ◌^◌, ◌-◌, ◌<◌, ◌≤◌, Bool, true, false, eqb, ltb, List, length, take, drop, Some, None, Result, Ok, Err, ℤ, to_z, of_z, sym, ap, subst, ◌∙◌, arith, inl, inr}
use Rattle.std.specs.Prelude.{decimal, FitsSigned}
use Rattle.std.specs.Fmt.{signed_decimal}
use Rattle.std.specs.Int.{w64}
use Rattle.std.specs.List.{position, position_or_len}
use Rattle.std.specs.Bool.{then_some}
use Rattle.std.specs.Str.{IsUtf8, bytes_eq}
use Rattle.std.specs.Str.Parse.{ParsesSigned, ParsesUnsigned}
use Rattle.std.proofs.lemmas.Bool.{cases_lt, lt-ltb, le-ltb, both_ways, cond-true, cond-false}
use Rattle.std.proofs.lemmas.Fmt.{IsAscii-decimal, IsAscii-signed, parse-decimal, parse-signed_decimal}
use Rattle.std.proofs.lemmas.Int.{to_z-of_z}
use Rattle.std.proofs.lemmas.List.{take_all, length-drop}
use Rattle.std.proofs.lemmas.Option.{none-some, same_Some}
use Rattle.std.proofs.lemmas.Slice.Eq.{bytes_eq-Decides}
use Rattle.std.proofs.lemmas.Str.{IsUtf8-from_ascii}
use Rattle.ostore_text_words.specs.Words.{around_byte, int_at, count_at}
use Rattle.ostore_text_words.proofs.WordLaws.{around_is, int_is, count_is}

-- ---- ints

pub int_not_text : (word : List ℕ) → (IsUtf8 word → ⊥) → None ≡ int_at word
int_not_text word h = int_is word None (λ n fits e. h (subst IsUtf8 (sym e) (IsUtf8-from_ascii (signed_decimal n) (IsAscii-signed n fits.sfits))))

pub int_not_parsed : {E : Type 0} (word text : List ℕ) (fault : E) → text ≡ word → ParsesSigned w64 10 text (Err fault) → None ≡ int_at word
int_not_parsed word text fault same h =
    int_is word None (λ n fits e. let r = parse-signed_decimal w64 n text (Err fault) fits fits.sfits (same ∙ e) h in absurd cc)

int_parsed_fits : (text : List ℕ) (n : ℤ) → ParsesSigned {E = Unit {0}} w64 10 text (Ok n) → FitsSigned w64 n
int_parsed_fits text n h = subst (λ (m : ℤ). FitsSigned w64 m) (sym h.1) h.0.1

-- an int goes through its bits unchanged
int_bits : (text : List ℕ) (n : ℤ) → ParsesSigned {E = Unit {0}} w64 10 text (Ok n) → to_z w64 (of_z w64 n) ≡ n
int_bits text n h = to_z-of_z w64 n (int_parsed_fits text n h)

ok_same : {A : Type 0} (x y : A) → ◌≡◌ {A = Result A (Unit {0})} (Ok x) (Ok y) → x ≡ y
ok_same x y e = cc

pub int_parsed : (word text : List ℕ) (n : ℤ) (shown : Bool) → text ≡ word → ParsesSigned {E = Unit {0}} w64 10 text (Ok n) → shown ≡ bytes_eq (signed_decimal (to_z w64 (of_z w64 n))) word → then_some shown (to_z w64 (of_z w64 n)) ≡ int_at word
int_parsed word text n true same h test =
    let bits = int_bits text n h in
    let form : word ≡ signed_decimal n = sym ((bytes_eq-Decides (signed_decimal (to_z w64 (of_z w64 n))) word).0 (sym test)) ∙ ap signed_decimal bits in
    ap (λ (m : ℤ). Some m) bits ∙ int_is word (Some n) (int_parsed_fits text n h, form)
int_parsed word text n false same h test =
    int_is word None (λ m fits e.
    let r : n ≡ m = ok_same n m (parse-signed_decimal w64 m text (Ok n) fits fits.sfits (same ∙ e) h) in
    let form : signed_decimal (to_z w64 (of_z w64 n)) ≡ word = ap signed_decimal (int_bits text n h ∙ r) ∙ sym e in
    both_ways (bytes_eq (signed_decimal (to_z w64 (of_z w64 n))) word) (sym test) ((bytes_eq-Decides (signed_decimal (to_z w64 (of_z w64 n))) word).1 form))

-- ---- counts

pub count_not_text : (least most : ℕ) (word : List ℕ) → most < 2 ^ 64 → (IsUtf8 word → ⊥) → None ≡ count_at least most word
count_not_text least most word fits h =
    count_is least most word None fits (λ n low high e. h (subst IsUtf8 (sym e) (IsUtf8-from_ascii (decimal n) (IsAscii-decimal n (omega arith)))))

pub count_not_parsed : {E : Type 0} (least most : ℕ) (word text : List ℕ) (fault : E) → most < 2 ^ 64 → text ≡ word → ParsesUnsigned 64 10 text (Err fault) → None ≡ count_at least most word
count_not_parsed least most word text fault fits same h =
    count_is least most word None fits (λ n low high e. let r = parse-decimal 64 n text (Err fault) (omega arith) (omega arith) (same ∙ e) h in absurd cc)

count_same : (word text : List ℕ) (n m : ℕ) → m < 2 ^ 64 → text ≡ word → ParsesUnsigned {E = Unit {0}} 64 10 text (Ok n) → word ≡ decimal m → n ≡ m
count_same word text n m fits same h e = ok_same n m (parse-decimal 64 m text (Ok n) fits fits (same ∙ e) h)

pub count_outside : (least most : ℕ) (word text : List ℕ) (n : ℕ) → most < 2 ^ 64 → text ≡ word → ParsesUnsigned {E = Unit {0}} 64 10 text (Ok n) → (least ≤ n → n ≤ most → ⊥) → None ≡ count_at least most word
count_outside least most word text n fits same h outside =
    count_is least most word None fits (λ m low high e.
    let r : n ≡ m = count_same word text n m (omega arith) same h e in
    outside (omega arith) (omega arith))

pub count_parsed : (least most : ℕ) (word text : List ℕ) (n : ℕ) (shown : Bool) → most < 2 ^ 64 → text ≡ word → ParsesUnsigned {E = Unit {0}} 64 10 text (Ok n) → least ≤ n → n ≤ most → shown ≡ bytes_eq (decimal n) word → then_some shown n ≡ count_at least most word
count_parsed least most word text n true fits same h low high test =
    count_is least most word (Some n) fits (low, high, sym ((bytes_eq-Decides (decimal n) word).0 (sym test)))
count_parsed least most word text n false fits same h low high test =
    count_is least most word None fits (λ m lower higher e.
    let form : decimal n ≡ word = ap decimal (count_same word text n m (omega arith) same h e) ∙ sym e in
    both_ways (bytes_eq (decimal n) word) (sym test) ((bytes_eq-Decides (decimal n) word).1 form))

-- ---- the first dot

pub around_none : (byte : ℕ) (word : List ℕ) → None ≡ position (λ b. eqb b byte) word → None ≡ around_byte byte word
around_none byte word h =
    let p = position_or_len (λ b. eqb b byte) word in
    elim (cases_lt p (length word)) [
      | inl lt ↦ absurd (none-some p (h ∙ cond-true (ltb p (length word)) (Some p) None (lt-ltb p (length word) lt)))
      | inr le ↦ sym (around_is byte word ∙ cond-false (ltb p (length word)) (Some (take p word, drop (p + 1) word)) None (le-ltb p (length word) le))
    ]

pub around_some : (byte : ℕ) (word : List ℕ) (k : ℕ) → Some k ≡ position (λ b. eqb b byte) word → Some (take k word, take (length word - (k + 1)) (drop (k + 1) word)) ≡ around_byte byte word
around_some byte word k h =
    let p = position_or_len (λ b. eqb b byte) word in
    elim (cases_lt p (length word)) [
      | inl lt ↦
          let same : k ≡ p = same_Some k p (h ∙ cond-true (ltb p (length word)) (Some p) None (lt-ltb p (length word) lt)) in
          let rest : take (length word - (k + 1)) (drop (k + 1) word) ≡ drop (k + 1) word = take_all (length word - (k + 1)) (drop (k + 1) word) (omega (arith, length-drop (k + 1) word)) in
          let found : around_byte byte word ≡ Some (take p word, drop (p + 1) word) = around_is byte word ∙ cond-true (ltb p (length word)) (Some (take p word, drop (p + 1) word)) None (lt-ltb p (length word) lt) in
          rw (rest, same) (sym found)
      | inr le ↦ absurd (none-some k (sym (h ∙ cond-false (ltb p (length word)) (Some p) None (le-ltb p (length word) le))))
    ]
