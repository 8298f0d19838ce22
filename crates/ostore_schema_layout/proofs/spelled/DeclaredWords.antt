-- Single words of a member's line or a type's: what is read stands there, and what stands there is read.
use Rattle.std.proofs.Common.{◌≡◌, ℕ, suc, ◌≤◌, Bool, true, false, List, ◌∷◌, codes, decimal, Option, Result, Ok, IsTrue, refl, ap, subst, ◌∙◌, arith, inl, inr}
use Rattle.std.specs.Str.{bytes_eq}
use Rattle.std.proofs.lemmas.Bool.{cases_Bool, false≢true}
use Rattle.ostore_text_words.specs.Words.{is_identifier, is_reserved, count_at}
use Rattle.ostore_text_words.specs.Lines.{PlacedWord, PlacedLine}
use Rattle.ostore_text_words.specs.LineWords.{◌>>=◌, identifier_at}
use Rattle.ostore_text_words.proofs.WordLaws.{count_taken, count_again}
use Rattle.ostore_text_words.proofs.LineWordLaws.{bind_ok, bind_again, same_ok, bytes_are, word_from_bare, bare_at, says_taken, says_again, identifier_taken, identifier_again}
use Rattle.ostore_schema_layout.specs.declared.declarations.NameAt.{NameAt}
use Rattle.ostore_schema_layout.specs.DeclaredBy.{name_of_word, name_at, max_at, is_word, is_type_line}

-- ---- names

pub name_taken : (line : PlacedLine) (i : ℕ) (name : NameAt) → name_at line i ≡ Ok name → (bare_at line i ≡ name.name ∷ bare_at line (suc i)) × IsTrue (is_identifier name.name)
unfolding name_at
name_taken line i name e =
    let w = bind_ok (identifier_at line i) (λ word. Ok (name_of_word word)) name e in
    let t = identifier_taken line i w.0 w.1 in
    let same : w.0.bytes ≡ name.name = ap (λ (n : NameAt). n.name) (same_ok (name_of_word w.0) name w.2) in
    (t.1 ∙ ap (λ (b : List ℕ). b ∷ bare_at line (suc i)) same, subst (λ (b : List ℕ). IsTrue (is_identifier b)) same t.2)

pub name_again : (line : PlacedLine) (i : ℕ) (bytes : List ℕ) (others : List (List ℕ)) → bare_at line i ≡ bytes ∷ others → IsTrue (is_identifier bytes)
    → (name : NameAt) × (name_at line i ≡ Ok name) × (name.name ≡ bytes) × (bare_at line (suc i) ≡ others)
unfolding name_at
name_again line i bytes others e h =
    let w = identifier_again line i bytes others e h in
    (name_of_word w.0, bind_again (identifier_at line i) (λ word. Ok (name_of_word word)) w.0 (Ok (name_of_word w.0)) w.1 refl, w.2, w.3)

-- ---- the greatest length of a text

pub max_taken : (line : PlacedLine) (i max : ℕ) → max_at line i ≡ Ok max → (bare_at line i ≡ decimal max ∷ bare_at line (suc i)) × (1 ≤ max) × (max ≤ 40)
max_taken line i max e =
    let w = says_taken (count_at 1 40) line i max e in
    let c = count_taken 1 40 w.0 max w.2 in
    (w.1 ∙ ap (λ (b : List ℕ). b ∷ bare_at line (suc i)) c.0, c.1, c.2)

pub max_again : (line : PlacedLine) (i max : ℕ) (others : List (List ℕ)) → bare_at line i ≡ decimal max ∷ others → 1 ≤ max → max ≤ 40
    → (max_at line i ≡ Ok max) × (bare_at line (suc i) ≡ others)
max_again line i max others e low high =
    says_again (count_at 1 40) line i (decimal max) others max e (count_again 1 40 max low high (omega arith))

-- ---- the line of a type, by its first word

abbrev pub is_first_type : Option PlacedWord → Bool
is_first_type first = is_word (codes "type") first

pub type_line : (line : PlacedLine) (others : List (List ℕ)) → bare_at line 0 ≡ codes "type" ∷ others → is_type_line line ≡ true
type_line line others e =
    let w = word_from_bare line.words 0 (codes "type") others e in
    ap is_first_type w.1 ∙ ap (λ (b : List ℕ). bytes_eq b (codes "type")) w.2

-- no identifier is the word `type`
identifier-type : (name : List ℕ) → IsTrue (is_identifier name) → bytes_eq name (codes "type") ≡ false
unfolding is_identifier is_reserved
identifier-type name h =
    elim (cases_Bool (bytes_eq name (codes "type"))) [
      | inl hit ↦ absurd (false≢true (subst (λ (b : List ℕ). is_identifier b ≡ true) (bytes_are name (codes "type") hit) h))
      | inr miss ↦ miss
    ]

pub member_line : (line : PlacedLine) (name : List ℕ) (others : List (List ℕ)) → bare_at line 0 ≡ name ∷ others → IsTrue (is_identifier name) → is_type_line line ≡ false
member_line line name others e h =
    let w = word_from_bare line.words 0 name others e in
    ap is_first_type w.1 ∙ ap (λ (b : List ℕ). bytes_eq b (codes "type")) w.2 ∙ identifier-type name h
