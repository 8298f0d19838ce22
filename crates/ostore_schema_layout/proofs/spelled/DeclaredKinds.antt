-- Member lines: what is read of them is spelled so.
use Rattle.std.proofs.Common.{◌≡◌, ℕ, suc, cond, List, [], ◌∷◌, codes, decimal, Option, Some, None, Result, Ok, Err, IsTrue, slice_get, refl, sym, ap, subst, inl, inr}
use Rattle.std.specs.Str.{bytes_eq}
use Rattle.ostore_text_words.specs.Words.{is_identifier, dotted, dotted_at}
use Rattle.ostore_text_words.specs.Lines.{PlacedWord, PlacedLine}
use Rattle.ostore_text_words.proofs.WordLaws.{dotted_taken}
use Rattle.ostore_schema_layout.specs.declared.declarations.NameAt.{NameAt}
use Rattle.ostore_schema_layout.specs.declared.declarations.MemberDeclaration.{MemberDeclaration}
use Rattle.ostore_schema_layout.specs.declared.declarations.KindDeclaration.{KindDeclaration}
use Rattle.ostore_schema_layout.specs.declared.declarations.KindDeclaration.TheVariants as kinds
use Rattle.ostore_schema_layout.specs.declared.declarations.InverseDeclaration.{InverseDeclaration}
use Rattle.ostore_text_words.specs.LineWords.{◌>>=◌, or_at, word_at, if_ended, keyword_at}
use Rattle.ostore_schema_layout.specs.DeclaredBy.{name_at, max_at, inverse_of_names, named_inverse_at, if_named, inverse_at, text_at, ref_at, set_at, list_at, dict_int_at, dict_text_at, dict_at, kind_at, declared_member, member_at, type_name_at}
use Rattle.ostore_schema_layout.proofs.spelled.Declared.{spelled_inverse, spelled_kind, spelled_member, IsNamedInverse, IsNamedKind, IsNamedMember}
use Rattle.ostore_text_words.proofs.LineWordLaws.{bind_ok, same_ok, or_at_ok, chosen, bytes_are, bare_at, bare_from_past, word_taken, ended_taken, keyword_taken}
use Rattle.ostore_schema_layout.proofs.spelled.DeclaredWords.{name_taken, max_taken}

-- the first word, and those behind it
cons_is : {A : Type 0} (all : List A) (x : A) (xs ys : List A) → all ≡ x ∷ xs → xs ≡ ys → all ≡ x ∷ ys
cons_is all x xs ys e f = cc

-- the first word as another is, and those behind it
pub cons_are : {A : Type 0} (all : List A) (x y : A) (xs ys : List A) → all ≡ x ∷ xs → x ≡ y → xs ≡ ys → all ≡ y ∷ ys
cons_are all x y xs ys e f g = cc

-- ---- inverses

abbrev IsSpelledInverse : List (List ℕ) → Option InverseDeclaration → Type 0
IsSpelledInverse words inverse = (words ≡ spelled_inverse inverse) × IsNamedInverse inverse

-- the words of an inverse, from those of its two words
inverse_words : (line : PlacedLine) (word : PlacedWord) (names : List ℕ × List ℕ) (inverse : Option InverseDeclaration) → bare_at line 3 ≡ codes "inverse" ∷ bare_at line 4 → bare_at line 4 ≡ word.bytes ∷ bare_at line 5
    → dotted_at word.bytes ≡ Some (names.0, names.1) → if_ended line 5 (Some (inverse_of_names word.at names)) ≡ Ok inverse → IsSpelledInverse (bare_at line 3) inverse
inverse_words line word names inverse e f g h =
    let d = dotted_taken word.bytes names.0 names.1 g in
    let last = ended_taken line 5 (Some (inverse_of_names word.at names)) inverse h in
    subst (IsSpelledInverse (bare_at line 3)) last.1
    (cons_is (bare_at line 3) (codes "inverse") (bare_at line 4) (dotted names.0 names.1 ∷ []) e (cons_are (bare_at line 4) word.bytes (dotted names.0 names.1) (bare_at line 5) [] f d.0 last.0), (d.1, d.2))

named_inverse_taken : (line : PlacedLine) (inverse : Option InverseDeclaration) → named_inverse_at line ≡ Ok inverse → IsSpelledInverse (bare_at line 3) inverse
unfolding named_inverse_at
named_inverse_taken line inverse e =
    let k = bind_ok (keyword_at (codes "inverse") line 3) (λ keyword. word_at line 4 >>= λ word. or_at word.at (dotted_at word.bytes) >>= λ names. if_ended line 5 (Some (inverse_of_names word.at names))) inverse e in
    let w = bind_ok (word_at line 4) (λ word. or_at word.at (dotted_at word.bytes) >>= λ names. if_ended line 5 (Some (inverse_of_names word.at names))) inverse k.2 in
    let n = bind_ok (or_at w.0.at (dotted_at w.0.bytes)) (λ names. if_ended line 5 (Some (inverse_of_names w.0.at names))) inverse w.2 in
    inverse_words line w.0 n.0 inverse (keyword_taken (codes "inverse") line 3 k.0 k.1) (word_taken line 4 w.0 w.1) (or_at_ok w.0.at (dotted_at w.0.bytes) n.0 n.1) n.2

if_named_taken : (line : PlacedLine) (o : Option PlacedWord) (inverse : Option InverseDeclaration) → slice_get line.words 3 ≡ o → if_named o (named_inverse_at line) ≡ Ok inverse → IsSpelledInverse (bare_at line 3) inverse
if_named_taken line None inverse past e = subst (IsSpelledInverse (bare_at line 3)) (same_ok None inverse e) (bare_from_past line.words 3 past, tt)
if_named_taken line (Some word) inverse at e = named_inverse_taken line inverse e

pub inverse_taken : (line : PlacedLine) (inverse : Option InverseDeclaration) → inverse_at line ≡ Ok inverse → (bare_at line 3 ≡ spelled_inverse inverse) × IsNamedInverse inverse
inverse_taken line inverse e = if_named_taken line (slice_get line.words 3) inverse refl e

-- ---- kinds

abbrev IsSpelledKind : List (List ℕ) → KindDeclaration → Type 0
IsSpelledKind words kind = (words ≡ spelled_kind kind) × IsNamedKind kind

int_taken : (line : PlacedLine) (kind : KindDeclaration) → if_ended line 2 kinds.Int ≡ Ok kind → IsSpelledKind (codes "int" ∷ bare_at line 2) kind
int_taken line kind e =
    let last = ended_taken line 2 kinds.Int kind e in
    subst (IsSpelledKind (codes "int" ∷ bare_at line 2)) last.1 (ap (λ (ws : List (List ℕ)). codes "int" ∷ ws) last.0, tt)

text_taken : (line : PlacedLine) (kind : KindDeclaration) → text_at line ≡ Ok kind → IsSpelledKind (codes "text" ∷ bare_at line 2) kind
unfolding text_at
text_taken line kind e =
    let m = bind_ok (max_at line 2) (λ max. if_ended line 3 (kinds.Text max)) kind e in
    let t = max_taken line 2 m.0 m.1 in
    let last = ended_taken line 3 (kinds.Text m.0) kind m.2 in
    subst (IsSpelledKind (codes "text" ∷ bare_at line 2)) last.1
    (ap (λ (ws : List (List ℕ)). codes "text" ∷ ws) (cons_is (bare_at line 2) (decimal m.0) (bare_at line 3) [] t.0 last.0), (t.1, t.2))

ref_taken : (line : PlacedLine) (kind : KindDeclaration) → ref_at line ≡ Ok kind → IsSpelledKind (codes "ref" ∷ bare_at line 2) kind
unfolding ref_at
ref_taken line kind e =
    let n = bind_ok (name_at line 2) (λ target. inverse_at line >>= λ inverse. Ok (kinds.Ref target inverse)) kind e in
    let i = bind_ok (inverse_at line) (λ inverse. Ok (kinds.Ref n.0 inverse)) kind n.2 in
    let t = name_taken line 2 n.0 n.1 in
    let u = inverse_taken line i.0 i.1 in
    subst (IsSpelledKind (codes "ref" ∷ bare_at line 2)) (same_ok _ kind i.2)
    (ap (λ (ws : List (List ℕ)). codes "ref" ∷ ws) (cons_is (bare_at line 2) n.0.name (bare_at line 3) _ t.0 u.0), (t.1, u.1))

set_taken : (line : PlacedLine) (kind : KindDeclaration) → set_at line ≡ Ok kind → IsSpelledKind (codes "set" ∷ bare_at line 2) kind
unfolding set_at
set_taken line kind e =
    let n = bind_ok (name_at line 2) (λ target. inverse_at line >>= λ inverse. Ok (kinds.Set target inverse)) kind e in
    let i = bind_ok (inverse_at line) (λ inverse. Ok (kinds.Set n.0 inverse)) kind n.2 in
    let t = name_taken line 2 n.0 n.1 in
    let u = inverse_taken line i.0 i.1 in
    subst (IsSpelledKind (codes "set" ∷ bare_at line 2)) (same_ok _ kind i.2)
    (ap (λ (ws : List (List ℕ)). codes "set" ∷ ws) (cons_is (bare_at line 2) n.0.name (bare_at line 3) _ t.0 u.0), (t.1, u.1))

-- an identifier, and the end of the line
last_name_taken : {A : Type 0} (line : PlacedLine) (i : ℕ) (of_name : NameAt → A) (kind : A) → (name_at line i >>= λ target. if_ended line (suc i) (of_name target)) ≡ Ok kind
    → (target : NameAt) × (bare_at line i ≡ target.name ∷ []) × IsTrue (is_identifier target.name) × (of_name target ≡ kind)
last_name_taken line i of_name kind e =
    let n = bind_ok (name_at line i) (λ target. if_ended line (suc i) (of_name target)) kind e in
    let t = name_taken line i n.0 n.1 in
    let last = ended_taken line (suc i) (of_name n.0) kind n.2 in
    (n.0, cons_is (bare_at line i) n.0.name (bare_at line (suc i)) [] t.0 last.0, t.1, last.1)

list_taken : (line : PlacedLine) (kind : KindDeclaration) → list_at line ≡ Ok kind → IsSpelledKind (codes "list" ∷ bare_at line 2) kind
unfolding list_at
list_taken line kind e =
    let t = last_name_taken line 2 (λ target. kinds.List target) kind e in
    subst (IsSpelledKind (codes "list" ∷ bare_at line 2)) t.3 (ap (λ (ws : List (List ℕ)). codes "list" ∷ ws) t.1, t.2)

dict_int_taken : (line : PlacedLine) (kind : KindDeclaration) → dict_int_at line ≡ Ok kind → IsSpelledKind (codes "dict" ∷ codes "int" ∷ bare_at line 3) kind
unfolding dict_int_at
dict_int_taken line kind e =
    let t = last_name_taken line 3 (λ target. kinds.DictInt target) kind e in
    subst (IsSpelledKind (codes "dict" ∷ codes "int" ∷ bare_at line 3)) t.3 (ap (λ (ws : List (List ℕ)). codes "dict" ∷ codes "int" ∷ ws) t.1, t.2)

dict_text_taken : (line : PlacedLine) (kind : KindDeclaration) → dict_text_at line ≡ Ok kind → IsSpelledKind (codes "dict" ∷ codes "text" ∷ bare_at line 3) kind
unfolding dict_text_at
dict_text_taken line kind e =
    let t = last_name_taken line 3 (λ target. kinds.DictText target) kind e in
    subst (IsSpelledKind (codes "dict" ∷ codes "text" ∷ bare_at line 3)) t.3 (ap (λ (ws : List (List ℕ)). codes "dict" ∷ codes "text" ∷ ws) t.1, t.2)

-- ---- choices by a word

-- behind a keyword: the rest as the word was tested, or else the later choices
choice : (word keyword : List ℕ) (here later r : Result KindDeclaration ℕ) (P : List ℕ → Type 0) → cond (bytes_eq word keyword) here later ≡ r → (here ≡ r → P keyword) → (later ≡ r → P word) → P word
choice word keyword here later r P e hit miss =
    elim (chosen (bytes_eq word keyword) here later r e) [
      | inl g ↦ subst P (sym (bytes_are word keyword g.0)) (hit g.1)
      | inr g ↦ miss g.1
    ]

fault_taken : {P : Type 0} (at : ℕ) (kind : KindDeclaration) → ◌≡◌ {A = Result KindDeclaration ℕ} (Err at) (Ok kind) → P
fault_taken at kind e = absurd cc

-- a dict by its word 2, whose place is `at`
abbrev pub dict_by : PlacedLine → ℕ → List ℕ → Result KindDeclaration ℕ
dict_by line at key = cond (bytes_eq key (codes "int")) (dict_int_at line) (cond (bytes_eq key (codes "text")) (dict_text_at line) (Err at))

dict_taken : (line : PlacedLine) (kind : KindDeclaration) → dict_at line ≡ Ok kind → IsSpelledKind (codes "dict" ∷ bare_at line 2) kind
unfolding dict_at
dict_taken line kind e =
    let w = bind_ok (word_at line 2) (λ key. dict_by line key.at key.bytes) kind e in
    let P = λ (b : List ℕ). IsSpelledKind (codes "dict" ∷ b ∷ bare_at line 3) kind in
    let all : P w.0.bytes =
    choice w.0.bytes (codes "int") (dict_int_at line) _ (Ok kind) P w.2 (dict_int_taken line kind)
    (λ e. choice w.0.bytes (codes "text") (dict_text_at line) _ (Ok kind) P e (dict_text_taken line kind)
    (λ e. fault_taken w.0.at kind e)) in
    subst (λ (ws : List (List ℕ)). IsSpelledKind (codes "dict" ∷ ws) kind) (sym (word_taken line 2 w.0 w.1)) all

-- what stands behind the name by its word 1, whose place is `at`
abbrev pub kind_by : PlacedLine → ℕ → List ℕ → Result KindDeclaration ℕ
kind_by line at kind =
    cond (bytes_eq kind (codes "int")) (if_ended line 2 kinds.Int)
    (cond (bytes_eq kind (codes "text")) (text_at line)
    (cond (bytes_eq kind (codes "ref")) (ref_at line)
    (cond (bytes_eq kind (codes "set")) (set_at line)
    (cond (bytes_eq kind (codes "list")) (list_at line)
    (cond (bytes_eq kind (codes "dict")) (dict_at line) (Err at))))))

kind_by_taken : (line : PlacedLine) (word : PlacedWord) (kind : KindDeclaration) → kind_by line word.at word.bytes ≡ Ok kind → IsSpelledKind (word.bytes ∷ bare_at line 2) kind
kind_by_taken line word kind e =
    let P = λ (b : List ℕ). IsSpelledKind (b ∷ bare_at line 2) kind in
    choice word.bytes (codes "int") (if_ended line 2 kinds.Int) _ (Ok kind) P e (int_taken line kind)
    (λ e. choice word.bytes (codes "text") (text_at line) _ (Ok kind) P e (text_taken line kind)
    (λ e. choice word.bytes (codes "ref") (ref_at line) _ (Ok kind) P e (ref_taken line kind)
    (λ e. choice word.bytes (codes "set") (set_at line) _ (Ok kind) P e (set_taken line kind)
    (λ e. choice word.bytes (codes "list") (list_at line) _ (Ok kind) P e (list_taken line kind)
    (λ e. choice word.bytes (codes "dict") (dict_at line) _ (Ok kind) P e (dict_taken line kind)
    (λ e. fault_taken word.at kind e))))))

pub kind_taken : (line : PlacedLine) (kind : KindDeclaration) → kind_at line ≡ Ok kind → (bare_at line 1 ≡ spelled_kind kind) × IsNamedKind kind
unfolding kind_at
kind_taken line kind e =
    let w = bind_ok (word_at line 1) (λ word. kind_by line word.at word.bytes) kind e in
    subst (λ (ws : List (List ℕ)). IsSpelledKind ws kind) (sym (word_taken line 1 w.0 w.1)) (kind_by_taken line w.0 kind w.2)

-- ---- lines

pub member_taken : (line : PlacedLine) (member : MemberDeclaration) → member_at line ≡ Ok member → (bare_at line 0 ≡ spelled_member member) × IsNamedMember member
unfolding member_at
member_taken line member e =
    let n = bind_ok (name_at line 0) (λ name. kind_at line >>= λ kind. Ok (declared_member name kind)) member e in
    let k = bind_ok (kind_at line) (λ kind. Ok (declared_member n.0 kind)) member n.2 in
    let t = name_taken line 0 n.0 n.1 in
    let u = kind_taken line k.0 k.1 in
    subst (λ (m : MemberDeclaration). (bare_at line 0 ≡ spelled_member m) × IsNamedMember m) (same_ok _ member k.2)
    (cons_is (bare_at line 0) n.0.name (bare_at line 1) (spelled_kind k.0) t.0 u.0, (t.1, u.1))

pub type_name_taken : (line : PlacedLine) (name : NameAt) → type_name_at line ≡ Ok name → (bare_at line 0 ≡ codes "type" ∷ name.name ∷ []) × IsTrue (is_identifier name.name)
unfolding type_name_at
type_name_taken line name e =
    let k = bind_ok (keyword_at (codes "type") line 0) (λ keyword. name_at line 1 >>= λ n. if_ended line 2 n) name e in
    let t = last_name_taken line 1 (λ n. n) name k.2 in
    subst (λ (m : NameAt). (bare_at line 0 ≡ codes "type" ∷ m.name ∷ []) × IsTrue (is_identifier m.name)) t.3
    (cons_is (bare_at line 0) (codes "type") (bare_at line 1) (t.0.name ∷ []) (keyword_taken (codes "type") line 0 k.0 k.1) t.1, t.2)
