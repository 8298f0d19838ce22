-- Member lines: what is spelled is read, with the same names.
use Rattle.std.proofs.Common.{◌≡◌, ℕ, suc, List, [], ◌∷◌, codes, decimal, Option, Some, None, Result, Ok, IsTrue, refl, ap, ap₂, ◌∙◌}
use Rattle.ostore_text_words.specs.Words.{is_identifier, dotted, dotted_at}
use Rattle.ostore_text_words.specs.Lines.{PlacedWord, PlacedLine}
use Rattle.ostore_text_words.proofs.WordLaws.{dotted_again}
use Rattle.ostore_schema_layout.specs.declared.declarations.NameAt.{NameAt}
use Rattle.ostore_schema_layout.specs.declared.declarations.MemberDeclaration.{MemberDeclaration}
use Rattle.ostore_schema_layout.specs.declared.declarations.KindDeclaration.{KindDeclaration}
use Rattle.ostore_schema_layout.specs.declared.declarations.KindDeclaration.TheVariants as kinds
use Rattle.ostore_schema_layout.specs.declared.declarations.InverseDeclaration.{InverseDeclaration}
use Rattle.ostore_text_words.specs.LineWords.{◌>>=◌, or_at, word_at, if_ended, keyword_at}
use Rattle.ostore_schema_layout.specs.DeclaredBy.{name_at, max_at, inverse_of_names, named_inverse_at, if_named, inverse_at, text_at, ref_at, set_at, list_at, dict_int_at, dict_text_at, dict_at, kind_at, declared_member, member_at, type_name_at}
use Rattle.ostore_schema_layout.proofs.spelled.Declared.{spelled_inverse, spelled_kind, spelled_member, IsNamedInverse, IsNamedKind, IsNamedMember, unplaced_name, unplaced_inverse, unplaced_kind, unplaced_member}
use Rattle.ostore_schema_layout.proofs.spelled.DeclaredKinds.{dict_by, kind_by}
use Rattle.ostore_text_words.proofs.LineWordLaws.{bind_again, bare_at, word_from_bare, none_from_bare, word_again, ended_again, keyword_again}
use Rattle.ostore_schema_layout.proofs.spelled.DeclaredWords.{name_again, max_again}

-- ---- inverses

abbrev ReadsInverse : Result (Option InverseDeclaration) ℕ → Option InverseDeclaration → Type 0
ReadsInverse r inverse = (placed : Option InverseDeclaration) × (r ≡ Ok placed) × (unplaced_inverse placed ≡ unplaced_inverse inverse)

named_inverse_again : (line : PlacedLine) (inverse : InverseDeclaration) → bare_at line 3 ≡ spelled_inverse (Some inverse) → IsNamedInverse (Some inverse) → ReadsInverse (named_inverse_at line) (Some inverse)
unfolding named_inverse_at
named_inverse_again line inverse e h =
    let k = keyword_again (codes "inverse") line 3 (dotted inverse.ty inverse.member ∷ []) e in
    let w = word_again line 4 (dotted inverse.ty inverse.member) [] k.2 in
    let names : dotted_at w.0.bytes ≡ Some (inverse.ty, inverse.member) = ap dotted_at w.2 ∙ dotted_again inverse.ty inverse.member h.0 h.1 in
    let placed = Some (inverse_of_names w.0.at (inverse.ty, inverse.member)) in (
      placed,
      bind_again (keyword_at (codes "inverse") line 3) (λ keyword. word_at line 4 >>= λ word. or_at word.at (dotted_at word.bytes) >>= λ ns. if_ended line 5 (Some (inverse_of_names word.at ns))) k.0 (Ok placed) k.1
          (bind_again (word_at line 4) (λ word. or_at word.at (dotted_at word.bytes) >>= λ ns. if_ended line 5 (Some (inverse_of_names word.at ns))) w.0 (Ok placed) w.1
          (bind_again (or_at w.0.at (dotted_at w.0.bytes)) (λ ns. if_ended line 5 (Some (inverse_of_names w.0.at ns))) (inverse.ty, inverse.member) (Ok placed) (ap (or_at w.0.at) names)
          (ended_again line 5 placed w.3))),
      refl,
    )

abbrev if_named_of : PlacedLine → Option PlacedWord → Result (Option InverseDeclaration) ℕ
if_named_of line o = if_named o (named_inverse_at line)

pub inverse_again : (line : PlacedLine) (inverse : Option InverseDeclaration) → bare_at line 3 ≡ spelled_inverse inverse → IsNamedInverse inverse
    → (placed : Option InverseDeclaration) × (inverse_at line ≡ Ok placed) × (unplaced_inverse placed ≡ unplaced_inverse inverse)
inverse_again line None e h = (None, ap (if_named_of line) (none_from_bare line.words 3 e), refl)
inverse_again line (Some inverse) e h =
    let w = word_from_bare line.words 3 (codes "inverse") (dotted inverse.ty inverse.member ∷ []) e in
    let n = named_inverse_again line inverse e h in
    (n.0, ap (if_named_of line) w.1 ∙ n.1, n.2)

-- ---- kinds

abbrev ReadsKind : Result KindDeclaration ℕ → KindDeclaration → Type 0
ReadsKind r kind = (placed : KindDeclaration) × (r ≡ Ok placed) × (unplaced_kind placed ≡ unplaced_kind kind)

-- one reader that is another one
reads_by : (r s : Result KindDeclaration ℕ) (kind : KindDeclaration) → r ≡ s → ReadsKind s kind → ReadsKind r kind
reads_by r s kind e h = (h.0, e ∙ h.1, h.2)

text_again : (line : PlacedLine) (max : ℕ) → bare_at line 2 ≡ decimal max ∷ [] → IsNamedKind (kinds.Text max) → ReadsKind (text_at line) (kinds.Text max)
unfolding text_at
text_again line max e h =
    let m = max_again line 2 max [] e h.0 h.1 in
    (kinds.Text max, bind_again (max_at line 2) (λ n. if_ended line 3 (kinds.Text n)) max (Ok (kinds.Text max)) m.0 (ended_again line 3 (kinds.Text max) m.1), refl)

ref_again : (line : PlacedLine) (target : NameAt) (inverse : Option InverseDeclaration) → bare_at line 2 ≡ target.name ∷ spelled_inverse inverse → IsNamedKind (kinds.Ref target inverse) → ReadsKind (ref_at line) (kinds.Ref target inverse)
unfolding ref_at
ref_again line target inverse e h =
    let n = name_again line 2 target.name (spelled_inverse inverse) e h.0 in
    let i = inverse_again line inverse n.3 h.1 in (
      kinds.Ref n.0 i.0,
      bind_again (name_at line 2) (λ t. inverse_at line >>= λ v. Ok (kinds.Ref t v)) n.0 (Ok (kinds.Ref n.0 i.0)) n.1
          (bind_again (inverse_at line) (λ v. Ok (kinds.Ref n.0 v)) i.0 (Ok (kinds.Ref n.0 i.0)) i.1 refl),
      ap₂ (λ (name : List ℕ) (v : Option InverseDeclaration). kinds.Ref (unplaced_name name) v) n.2 i.2,
    )

set_again : (line : PlacedLine) (target : NameAt) (inverse : Option InverseDeclaration) → bare_at line 2 ≡ target.name ∷ spelled_inverse inverse → IsNamedKind (kinds.Set target inverse) → ReadsKind (set_at line) (kinds.Set target inverse)
unfolding set_at
set_again line target inverse e h =
    let n = name_again line 2 target.name (spelled_inverse inverse) e h.0 in
    let i = inverse_again line inverse n.3 h.1 in (
      kinds.Set n.0 i.0,
      bind_again (name_at line 2) (λ t. inverse_at line >>= λ v. Ok (kinds.Set t v)) n.0 (Ok (kinds.Set n.0 i.0)) n.1
          (bind_again (inverse_at line) (λ v. Ok (kinds.Set n.0 v)) i.0 (Ok (kinds.Set n.0 i.0)) i.1 refl),
      ap₂ (λ (name : List ℕ) (v : Option InverseDeclaration). kinds.Set (unplaced_name name) v) n.2 i.2,
    )

-- an identifier, and the end of the line
last_name_again : {A : Type 0} (line : PlacedLine) (i : ℕ) (of_name : NameAt → A) (name : List ℕ) → bare_at line i ≡ name ∷ [] → IsTrue (is_identifier name)
    → (target : NameAt) × ((name_at line i >>= λ t. if_ended line (suc i) (of_name t)) ≡ Ok (of_name target)) × (target.name ≡ name)
last_name_again line i of_name name e h =
    let n = name_again line i name [] e h in
    (n.0, bind_again (name_at line i) (λ t. if_ended line (suc i) (of_name t)) n.0 (Ok (of_name n.0)) n.1 (ended_again line (suc i) (of_name n.0) n.3), n.2)

list_again : (line : PlacedLine) (target : NameAt) → bare_at line 2 ≡ target.name ∷ [] → IsTrue (is_identifier target.name) → ReadsKind (list_at line) (kinds.List target)
unfolding list_at
list_again line target e h =
    let n = last_name_again line 2 (λ t. kinds.List t) target.name e h in
    (kinds.List n.0, n.1, ap (λ (name : List ℕ). kinds.List (unplaced_name name)) n.2)

dict_int_again : (line : PlacedLine) (target : NameAt) → bare_at line 3 ≡ target.name ∷ [] → IsTrue (is_identifier target.name) → ReadsKind (dict_int_at line) (kinds.DictInt target)
unfolding dict_int_at
dict_int_again line target e h =
    let n = last_name_again line 3 (λ t. kinds.DictInt t) target.name e h in
    (kinds.DictInt n.0, n.1, ap (λ (name : List ℕ). kinds.DictInt (unplaced_name name)) n.2)

dict_text_again : (line : PlacedLine) (target : NameAt) → bare_at line 3 ≡ target.name ∷ [] → IsTrue (is_identifier target.name) → ReadsKind (dict_text_at line) (kinds.DictText target)
unfolding dict_text_at
dict_text_again line target e h =
    let n = last_name_again line 3 (λ t. kinds.DictText t) target.name e h in
    (kinds.DictText n.0, n.1, ap (λ (name : List ℕ). kinds.DictText (unplaced_name name)) n.2)

-- ---- choices by a word

dict_from : (line : PlacedLine) (key : List ℕ) (others : List (List ℕ)) (r : Result KindDeclaration ℕ) → ((at : ℕ) → dict_by line at key ≡ r) → bare_at line 2 ≡ key ∷ others → (dict_at line ≡ r) × (bare_at line 3 ≡ others)
unfolding dict_at
dict_from line key others r choice e =
    let w = word_again line 2 key others e in
    (bind_again (word_at line 2) (λ word. dict_by line word.at word.bytes) w.0 r w.1 (ap (dict_by line w.0.at) w.2 ∙ choice w.0.at), w.3)

kind_from : (line : PlacedLine) (kind : List ℕ) (others : List (List ℕ)) (r : Result KindDeclaration ℕ) → ((at : ℕ) → kind_by line at kind ≡ r) → bare_at line 1 ≡ kind ∷ others → (kind_at line ≡ r) × (bare_at line 2 ≡ others)
unfolding kind_at
kind_from line kind others r choice e =
    let w = word_again line 1 kind others e in
    (bind_again (word_at line 1) (λ word. kind_by line word.at word.bytes) w.0 r w.1 (ap (kind_by line w.0.at) w.2 ∙ choice w.0.at), w.3)

pub kind_again : (line : PlacedLine) (kind : KindDeclaration) → bare_at line 1 ≡ spelled_kind kind → IsNamedKind kind
    → (placed : KindDeclaration) × (kind_at line ≡ Ok placed) × (unplaced_kind placed ≡ unplaced_kind kind)
kind_again line kinds.Int e h =
    let k = kind_from line (codes "int") [] (if_ended line 2 kinds.Int) (λ at. refl) e in
    (kinds.Int, k.0 ∙ ended_again line 2 kinds.Int k.1, refl)
kind_again line (kinds.Text max) e h =
    let k = kind_from line (codes "text") (decimal max ∷ []) (text_at line) (λ at. refl) e in
    reads_by (kind_at line) (text_at line) (kinds.Text max) k.0 (text_again line max k.1 h)
kind_again line (kinds.Ref target inverse) e h =
    let k = kind_from line (codes "ref") (target.name ∷ spelled_inverse inverse) (ref_at line) (λ at. refl) e in
    reads_by (kind_at line) (ref_at line) (kinds.Ref target inverse) k.0 (ref_again line target inverse k.1 h)
kind_again line (kinds.Set target inverse) e h =
    let k = kind_from line (codes "set") (target.name ∷ spelled_inverse inverse) (set_at line) (λ at. refl) e in
    reads_by (kind_at line) (set_at line) (kinds.Set target inverse) k.0 (set_again line target inverse k.1 h)
kind_again line (kinds.List target) e h =
    let k = kind_from line (codes "list") (target.name ∷ []) (list_at line) (λ at. refl) e in
    reads_by (kind_at line) (list_at line) (kinds.List target) k.0 (list_again line target k.1 h)
kind_again line (kinds.DictInt target) e h =
    let k = kind_from line (codes "dict") (codes "int" ∷ target.name ∷ []) (dict_at line) (λ at. refl) e in
    let d = dict_from line (codes "int") (target.name ∷ []) (dict_int_at line) (λ at. refl) k.1 in
    reads_by (kind_at line) (dict_int_at line) (kinds.DictInt target) (k.0 ∙ d.0) (dict_int_again line target d.1 h)
kind_again line (kinds.DictText target) e h =
    let k = kind_from line (codes "dict") (codes "text" ∷ target.name ∷ []) (dict_at line) (λ at. refl) e in
    let d = dict_from line (codes "text") (target.name ∷ []) (dict_text_at line) (λ at. refl) k.1 in
    reads_by (kind_at line) (dict_text_at line) (kinds.DictText target) (k.0 ∙ d.0) (dict_text_again line target d.1 h)

-- ---- lines

pub member_again : (line : PlacedLine) (member : MemberDeclaration) → bare_at line 0 ≡ spelled_member member → IsNamedMember member
    → (placed : MemberDeclaration) × (member_at line ≡ Ok placed) × (unplaced_member placed ≡ unplaced_member member)
unfolding member_at
member_again line member e h =
    let n = name_again line 0 member.name.name (spelled_kind member.kind) e h.0 in
    let k = kind_again line member.kind n.3 h.1 in
    let placed = declared_member n.0 k.0 in (
      placed,
      bind_again (name_at line 0) (λ name. kind_at line >>= λ kind. Ok (declared_member name kind)) n.0 (Ok placed) n.1
          (bind_again (kind_at line) (λ kind. Ok (declared_member n.0 kind)) k.0 (Ok placed) k.1 refl),
      ap₂ (λ (name : List ℕ) (kind : KindDeclaration). declared_member (unplaced_name name) kind) n.2 k.2,
    )

pub type_name_again : (line : PlacedLine) (name : List ℕ) → bare_at line 0 ≡ codes "type" ∷ name ∷ [] → IsTrue (is_identifier name)
    → (placed : NameAt) × (type_name_at line ≡ Ok placed) × (placed.name ≡ name)
unfolding type_name_at
type_name_again line name e h =
    let k = keyword_again (codes "type") line 0 (name ∷ []) e in
    let n = last_name_again line 1 (λ t. t) name k.2 h in
    (n.0, bind_again (keyword_at (codes "type") line 0) (λ keyword. name_at line 1 >>= λ t. if_ended line 2 t) k.0 (Ok n.0) k.1 n.1, n.2)
