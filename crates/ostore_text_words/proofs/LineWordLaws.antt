-- The words of a line: what is read stands there, and what stands there is read.
use Rattle.std.proofs.Common.{◌≡◌, ℕ, zero, suc, Bool, true, false, cond, ◌⊎◌, List, [], ◌∷◌, map, Option, Some, None, Result, Ok, Err, IsTrue, slice_get, refl, sym, ap, subst, ◌∙◌, inl, inr}
use Rattle.std.specs.Str.{bytes_eq}
use Rattle.std.proofs.lemmas.Option.{same_Some}
use Rattle.std.proofs.lemmas.Slice.Eq.{bytes_eq-Decides}
use Rattle.ostore_text_words.specs.Words.{is_identifier}
use Rattle.ostore_text_words.specs.Lines.{PlacedWord, PlacedLine}
use Rattle.ostore_text_words.specs.LineWords.{◌>>=◌, or_at, word_at, says_at, identifier_at, keyword_at, none_of, if_ended}

-- ---- steps

-- the value of a step that gave one
pub bind_ok : {A B : Type 0} (r : Result A ℕ) (f : A → Result B ℕ) (y : B) → (r >>= f) ≡ Ok y → (x : A) × (r ≡ Ok x) × (f x ≡ Ok y)
bind_ok (Ok x) f y e = (x, refl, e)
bind_ok (Err at) f y e = absurd cc

-- a step that gives a value, and what follows from the value
pub bind_again : {A B : Type 0} (r : Result A ℕ) (f : A → Result B ℕ) (x : A) (s : Result B ℕ) → r ≡ Ok x → f x ≡ s → (r >>= f) ≡ s
bind_again {A = A} r f x s e g = ap (λ (q : Result A ℕ). q >>= f) e ∙ g

pub same_ok : {A : Type 0} (x y : A) → ◌≡◌ {A = Result A ℕ} (Ok x) (Ok y) → x ≡ y
same_ok x y e = cc

pub or_at_ok : {A : Type 0} (at : ℕ) (o : Option A) (x : A) → or_at at o ≡ Ok x → o ≡ Some x
or_at_ok at None x e = absurd cc
or_at_ok at (Some y) x e = ap Some (same_ok y x e)

-- a choice between a value and a fault
pub cond_ok : {A : Type 0} (test : Bool) (x y : A) (at : ℕ) → cond {A = Result A ℕ} test (Ok x) (Err at) ≡ Ok y → (test ≡ true) × (x ≡ y)
cond_ok true x y at e = (refl, same_ok x y e)
cond_ok false x y at e = absurd cc

-- which way a choice went
pub chosen : {A : Type 0} (test : Bool) (p q r : A) → cond test p q ≡ r → ((test ≡ true) × (p ≡ r)) ⊎ ((test ≡ false) × (q ≡ r))
chosen true p q r e = inl (refl, e)
chosen false p q r e = inr (refl, e)

pub bytes_are : (word other : List ℕ) → bytes_eq word other ≡ true → word ≡ other
bytes_are word other e = (bytes_eq-Decides word other).0 e

pub bytes_same : (word : List ℕ) → bytes_eq word word ≡ true
bytes_same word = (bytes_eq-Decides word word).1 refl

-- ---- the bare words from one word on

abbrev pub bare_from : List PlacedWord → ℕ → List (List ℕ)
bare_from [] i = []
bare_from (word ∷ words) zero = word.bytes ∷ map (λ w. w.bytes) words
bare_from (word ∷ words) (suc i) = bare_from words i

pub bare_from_first : (words : List PlacedWord) → bare_from words 0 ≡ map (λ w. w.bytes) words
bare_from_first [] = refl
bare_from_first (word ∷ words) = refl

pub bare_from_word : (words : List PlacedWord) (i : ℕ) (word : PlacedWord) → slice_get words i ≡ Some word → bare_from words i ≡ word.bytes ∷ bare_from words (suc i)
bare_from_word [] i word e = absurd cc
bare_from_word (first ∷ words) zero word e =
    ap (λ (w : PlacedWord). w.bytes ∷ map (λ v. v.bytes) words) (same_Some _ _ e) ∙ ap (λ (ws : List (List ℕ)). word.bytes ∷ ws) (sym (bare_from_first words))
bare_from_word (first ∷ words) (suc i) word e = bare_from_word words i word e

pub bare_from_past : (words : List PlacedWord) (i : ℕ) → slice_get words i ≡ None → bare_from words i ≡ []
bare_from_past [] i e = refl
bare_from_past (first ∷ words) zero e = absurd cc
bare_from_past (first ∷ words) (suc i) e = bare_from_past words i e

-- the word of the bare words' first
pub word_from_bare : (words : List PlacedWord) (i : ℕ) (bytes : List ℕ) (others : List (List ℕ)) → bare_from words i ≡ bytes ∷ others
    → (word : PlacedWord) × (slice_get words i ≡ Some word) × (word.bytes ≡ bytes) × (bare_from words (suc i) ≡ others)
word_from_bare [] i bytes others e = absurd cc
word_from_bare (first ∷ words) zero bytes others e =
    let rest : map (λ w. w.bytes) words ≡ others = cc in
    (first, refl, cc, bare_from_first words ∙ rest)
word_from_bare (first ∷ words) (suc i) bytes others e = word_from_bare words i bytes others e

pub none_from_bare : (words : List PlacedWord) (i : ℕ) → bare_from words i ≡ [] → slice_get words i ≡ None
none_from_bare [] i e = refl
none_from_bare (first ∷ words) zero e = absurd cc
none_from_bare (first ∷ words) (suc i) e = none_from_bare words i e

-- ---- words

abbrev pub bare_at : PlacedLine → ℕ → List (List ℕ)
bare_at line i = bare_from line.words i

pub word_taken : (line : PlacedLine) (i : ℕ) (word : PlacedWord) → word_at line i ≡ Ok word → bare_at line i ≡ word.bytes ∷ bare_at line (suc i)
word_taken line i word e = bare_from_word line.words i word (or_at_ok line.end (slice_get line.words i) word e)

pub word_again : (line : PlacedLine) (i : ℕ) (bytes : List ℕ) (others : List (List ℕ)) → bare_at line i ≡ bytes ∷ others
    → (word : PlacedWord) × (word_at line i ≡ Ok word) × (word.bytes ≡ bytes) × (bare_at line (suc i) ≡ others)
word_again line i bytes others e =
    let w = word_from_bare line.words i bytes others e in
    (w.0, ap (or_at line.end) w.1, w.2, w.3)

-- ---- the end of a line

ended_got : {A : Type 0} (o : Option PlacedWord) (x y : A) → (none_of o >>= λ nothing. Ok x) ≡ Ok y → (o ≡ None) × (x ≡ y)
ended_got None x y e = (refl, same_ok x y e)
ended_got (Some word) x y e = absurd cc

pub ended_taken : {A : Type 0} (line : PlacedLine) (i : ℕ) (x y : A) → if_ended line i x ≡ Ok y → (bare_at line i ≡ []) × (x ≡ y)
ended_taken line i x y e =
    let g = ended_got (slice_get line.words i) x y e in
    (bare_from_past line.words i g.0, g.1)

abbrev then_ended : {A : Type 0} → A → Option PlacedWord → Result A ℕ
then_ended x o = none_of o >>= λ nothing. Ok x

pub ended_again : {A : Type 0} (line : PlacedLine) (i : ℕ) (x : A) → bare_at line i ≡ [] → if_ended line i x ≡ Ok x
ended_again line i x e = ap (then_ended x) (none_from_bare line.words i e)

-- ---- what a word says

-- what is said is said by the word that stands there
pub says_taken : {A : Type 0} (says : List ℕ → Option A) (line : PlacedLine) (i : ℕ) (x : A) → says_at says line i ≡ Ok x
    → (bytes : List ℕ) × (bare_at line i ≡ bytes ∷ bare_at line (suc i)) × (says bytes ≡ Some x)
unfolding says_at
says_taken says line i x e =
    let w = bind_ok (word_at line i) (λ word. or_at word.at (says word.bytes)) x e in
    (w.0.bytes, word_taken line i w.0 w.1, or_at_ok w.0.at (says w.0.bytes) x w.2)

pub says_again : {A : Type 0} (says : List ℕ → Option A) (line : PlacedLine) (i : ℕ) (bytes : List ℕ) (others : List (List ℕ)) (x : A) → bare_at line i ≡ bytes ∷ others → says bytes ≡ Some x
    → (says_at says line i ≡ Ok x) × (bare_at line (suc i) ≡ others)
unfolding says_at
says_again says line i bytes others x e h =
    let w = word_again line i bytes others e in
    let said : says w.0.bytes ≡ Some x = ap says w.2 ∙ h in
    (bind_again (word_at line i) (λ word. or_at word.at (says word.bytes)) w.0 (Ok x) w.1 (ap (or_at w.0.at) said), w.3)

-- ---- identifiers

pub identifier_taken : (line : PlacedLine) (i : ℕ) (word : PlacedWord) → identifier_at line i ≡ Ok word
    → (word_at line i ≡ Ok word) × (bare_at line i ≡ word.bytes ∷ bare_at line (suc i)) × IsTrue (is_identifier word.bytes)
unfolding identifier_at
identifier_taken line i word e =
    let w = bind_ok (word_at line i) (λ word. cond (is_identifier word.bytes) (Ok word) (Err word.at)) word e in
    let g = cond_ok (is_identifier w.0.bytes) w.0 word w.0.at w.2 in
    let there : word_at line i ≡ Ok word = w.1 ∙ ap (λ (v : PlacedWord). Ok v) g.1 in
    (there, word_taken line i word there, subst (λ (v : PlacedWord). IsTrue (is_identifier v.bytes)) g.1 g.0)

abbrev if_so : PlacedWord → Bool → Result PlacedWord ℕ
if_so word test = cond test (Ok word) (Err word.at)

pub identifier_again : (line : PlacedLine) (i : ℕ) (bytes : List ℕ) (others : List (List ℕ)) → bare_at line i ≡ bytes ∷ others → IsTrue (is_identifier bytes)
    → (word : PlacedWord) × (identifier_at line i ≡ Ok word) × (word.bytes ≡ bytes) × (bare_at line (suc i) ≡ others)
unfolding identifier_at
identifier_again line i bytes others e h =
    let w = word_again line i bytes others e in
    let test : is_identifier w.0.bytes ≡ true = ap is_identifier w.2 ∙ h in
    (w.0, ap (λ (r : Result PlacedWord ℕ). r >>= λ word. if_so word (is_identifier word.bytes)) w.1 ∙ ap (if_so w.0) test, w.2, w.3)

-- ---- keywords

pub keyword_taken : (keyword : List ℕ) (line : PlacedLine) (i : ℕ) (word : PlacedWord) → keyword_at keyword line i ≡ Ok word → bare_at line i ≡ keyword ∷ bare_at line (suc i)
unfolding keyword_at
keyword_taken keyword line i word e =
    let w = bind_ok (word_at line i) (λ word. cond (bytes_eq word.bytes keyword) (Ok word) (Err word.at)) word e in
    let g = cond_ok (bytes_eq w.0.bytes keyword) w.0 word w.0.at w.2 in
    word_taken line i w.0 w.1 ∙ ap (λ (b : List ℕ). b ∷ bare_at line (suc i)) (bytes_are w.0.bytes keyword g.0)

pub keyword_again : (keyword : List ℕ) (line : PlacedLine) (i : ℕ) (others : List (List ℕ)) → bare_at line i ≡ keyword ∷ others
    → (word : PlacedWord) × (keyword_at keyword line i ≡ Ok word) × (bare_at line (suc i) ≡ others)
unfolding keyword_at
keyword_again keyword line i others e =
    let w = word_again line i keyword others e in
    let test : bytes_eq w.0.bytes keyword ≡ true = ap (λ (b : List ℕ). bytes_eq b keyword) w.2 ∙ bytes_same keyword in
    (w.0, ap (λ (r : Result PlacedWord ℕ). r >>= λ word. if_so word (bytes_eq word.bytes keyword)) w.1 ∙ ap (if_so w.0) test, w.3)
