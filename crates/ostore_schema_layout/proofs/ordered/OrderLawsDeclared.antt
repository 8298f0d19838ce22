-- The places of what lines declare rise: from a type's name over its members to the next type, and in a
-- member from its name over its target to its inverse.
use Rattle.std.proofs.Common.{◌≡◌, ℕ, suc, ◌+◌, ◌<◌, ◌≤◌, Bool, true, false, cond, List, [], ◌∷◌, codes, Option, Some, None, Result, Ok, Err, slice_get, refl, sym, ap, subst, inl, inr, arith}
use Rattle.std.specs.Str.{bytes_eq}
use Rattle.ostore_text_words.specs.Words.{is_identifier, dotted_at}
use Rattle.ostore_text_words.specs.Lines.{PlacedWord, PlacedLine, lines_of}
use Rattle.ostore_schema_layout.specs.declared.declarations.NameAt.{NameAt}
use Rattle.ostore_schema_layout.specs.declared.declarations.TypeDeclaration.{TypeDeclaration}
use Rattle.ostore_schema_layout.specs.declared.declarations.MemberDeclaration.{MemberDeclaration}
use Rattle.ostore_schema_layout.specs.declared.declarations.KindDeclaration.{KindDeclaration}
use Rattle.ostore_schema_layout.specs.declared.declarations.KindDeclaration.TheVariants as kinds
use Rattle.ostore_schema_layout.specs.declared.declarations.InverseDeclaration.{InverseDeclaration}
use Rattle.ostore_text_words.specs.LineWords.{identifier_at, ◌>>=◌, or_at, word_at, if_ended, keyword_at}
use Rattle.ostore_schema_layout.specs.DeclaredBy.{name_of_word, name_at, max_at, inverse_of_names, named_inverse_at, if_named, inverse_at, text_at, ref_at, set_at, list_at, dict_int_at, dict_text_at, dict_at, kind_at, declared_member, member_at, type_name_at, declared_type, is_type_line, declared_behind, declared_by}
use Rattle.ostore_schema_layout.specs.Faults.{target_named, inverse_named}
use Rattle.ostore_text_words.proofs.LineWordLaws.{identifier_taken, bind_ok, same_ok, or_at_ok, cond_ok, chosen, ended_taken}
use Rattle.ostore_schema_layout.proofs.spelled.DeclaredKinds.{dict_by, kind_by}
use Rattle.ostore_schema_layout.proofs.spelled.DeclaredLaws.{Behind}
use Rattle.ostore_schema_layout.proofs.ordered.OrderLawsLines.{AreWordsIn, AreLinesFrom, lines_rise, word_in, later_word, words_apart}

-- ---- what rises

abbrev pub IsInverseIn : ℕ → ℕ → Option InverseDeclaration → Type 0
IsInverseIn from until None = Unit {0}
IsInverseIn from until (Some inverse) = (from ≤ inverse.at) × (inverse.at < until)

-- a target, and the inverse behind it
abbrev pub IsTargetIn : ℕ → ℕ → Option NameAt → Option InverseDeclaration → Type 0
IsTargetIn from until None inverse = Unit {0}
IsTargetIn from until (Some target) inverse = (from ≤ target.at) × (target.at < until) × IsInverseIn (target.at + 1) until inverse

abbrev pub IsKindIn : ℕ → ℕ → KindDeclaration → Type 0
IsKindIn from until kind = IsTargetIn from until (target_named kind) (inverse_named kind)

abbrev pub IsMemberIn : ℕ → ℕ → MemberDeclaration → Type 0
IsMemberIn from until member = (from ≤ member.name.at) × (member.name.at < until) × IsKindIn (member.name.at + 1) until member.kind

-- members, each up to a place from which the next one stands
abbrev pub AreMembersIn : ℕ → ℕ → List MemberDeclaration → Type 0
AreMembersIn from until [] = from ≤ until
AreMembersIn from until (member ∷ members) = (between : ℕ) × (IsMemberIn from between member) × AreMembersIn between until members

-- types with their members
abbrev pub AreTypesFrom : ℕ → List TypeDeclaration → Type 0
AreTypesFrom from [] = Unit {0}
AreTypesFrom from (ty ∷ types) = (between : ℕ) × (from ≤ ty.name.at) × (AreMembersIn (ty.name.at + 1) between ty.members) × AreTypesFrom between types

-- ---- words

pub word_got : (line : PlacedLine) (i : ℕ) (word : PlacedWord) → word_at line i ≡ Ok word → slice_get line.words i ≡ Some word
word_got line i word e = or_at_ok line.end (slice_get line.words i) word e

-- a name stands where its word stands
pub name_got : (line : PlacedLine) (i : ℕ) (name : NameAt) → name_at line i ≡ Ok name → (word : PlacedWord) × (slice_get line.words i ≡ Some word) × (word.at ≡ name.at)
unfolding name_at
name_got line i name e =
    let w = bind_ok (identifier_at line i) (λ word. Ok (name_of_word word)) name e in
    let t = identifier_taken line i w.0 w.1 in
    (w.0, word_got line i w.0 t.0, ap (λ (n : NameAt). n.at) (same_ok (name_of_word w.0) name w.2))

-- a name behind the first word
pub later_name : (from : ℕ) (line : PlacedLine) (first : PlacedWord) (i : ℕ) (name : NameAt) → AreWordsIn from line.end line.words → slice_get line.words 0 ≡ Some first → name_at line (suc i) ≡ Ok name
    → (first.at + 1 ≤ name.at) × (name.at < line.end)
later_name from line first i name r f e =
    let w = name_got line (suc i) name e in
    let behind = later_word from line.end line.words i first w.0 r f w.1 in
    let within = word_in from line.end line.words (suc i) w.0 r w.1 in
    (omega arith, omega arith)

-- ---- inverses

-- word 4 lies between two places
abbrev IsWord4In : ℕ → ℕ → PlacedLine → Type 0
IsWord4In from until line = (word : PlacedWord) → slice_get line.words 4 ≡ Some word → (from ≤ word.at) × (word.at < until)

-- an inverse stands where its word stands
word_inverse_got : (from until : ℕ) (line : PlacedLine) (word : PlacedWord) (names : List ℕ × List ℕ) (inverse : Option InverseDeclaration) → (from ≤ word.at) × (word.at < until) → if_ended line 5 (Some (inverse_of_names word.at names)) ≡ Ok inverse → IsInverseIn from until inverse
word_inverse_got from until line word names inverse there e =
    subst (IsInverseIn from until) (ended_taken line 5 (Some (inverse_of_names word.at names)) inverse e).1 there

named_inverse_got : (from until : ℕ) (line : PlacedLine) (inverse : Option InverseDeclaration) → IsWord4In from until line → named_inverse_at line ≡ Ok inverse → IsInverseIn from until inverse
unfolding named_inverse_at
named_inverse_got from until line inverse there e =
    let k = bind_ok (keyword_at (codes "inverse") line 3) (λ keyword. word_at line 4 >>= λ word. or_at word.at (dotted_at word.bytes) >>= λ names. if_ended line 5 (Some (inverse_of_names word.at names))) inverse e in
    let w = bind_ok (word_at line 4) (λ word. or_at word.at (dotted_at word.bytes) >>= λ names. if_ended line 5 (Some (inverse_of_names word.at names))) inverse k.2 in
    let n = bind_ok (or_at w.0.at (dotted_at w.0.bytes)) (λ names. if_ended line 5 (Some (inverse_of_names w.0.at names))) inverse w.2 in
    word_inverse_got from until line w.0 n.0 inverse (there w.0 (word_got line 4 w.0 w.1)) n.2

if_named_got : (from until : ℕ) (line : PlacedLine) (o : Option PlacedWord) (inverse : Option InverseDeclaration) → IsWord4In from until line → if_named o (named_inverse_at line) ≡ Ok inverse → IsInverseIn from until inverse
if_named_got from until line None inverse there e = subst (IsInverseIn from until) (same_ok None inverse e) tt
if_named_got from until line (Some word) inverse there e = named_inverse_got from until line inverse there e

-- ---- kinds

word4_behind : (from : ℕ) (line : PlacedLine) (target : NameAt) → AreWordsIn from line.end line.words → name_at line 2 ≡ Ok target → IsWord4In (target.at + 1) line.end line
word4_behind from line target r e word h =
    let w = name_got line 2 target e in
    let apart = words_apart from line.end line.words 2 4 w.0 word r w.1 h (omega arith) in
    let within = word_in from line.end line.words 4 word r h in
    (omega arith, omega arith)

-- a target at word 2 with its inverse
linked_got : (from : ℕ) (line : PlacedLine) (first : PlacedWord) (target : NameAt) (inverse : Option InverseDeclaration) → AreWordsIn from line.end line.words → slice_get line.words 0 ≡ Some first → name_at line 2 ≡ Ok target → inverse_at line ≡ Ok inverse
    → IsTargetIn (first.at + 1) line.end (Some target) inverse
linked_got from line first target inverse r f e g =
    let t = later_name from line first 1 target r f e in
    (t.0, t.1, if_named_got (target.at + 1) line.end line (slice_get line.words 3) inverse (word4_behind from line target r e) g)

-- a target alone, at the end of the line
alone_got : (from : ℕ) (line : PlacedLine) (first : PlacedWord) (i : ℕ) (of_name : NameAt → KindDeclaration) (kind : KindDeclaration) → AreWordsIn from line.end line.words → slice_get line.words 0 ≡ Some first
    → ((name : NameAt) → target_named (of_name name) ≡ Some name) → ((name : NameAt) → inverse_named (of_name name) ≡ None)
    → (name_at line (suc i) >>= λ target. if_ended line (suc (suc i)) (of_name target)) ≡ Ok kind → IsKindIn (first.at + 1) line.end kind
alone_got from line first i of_name kind r f named alone e =
    let n = bind_ok (name_at line (suc i)) (λ target. if_ended line (suc (suc i)) (of_name target)) kind e in
    let last = ended_taken line (suc (suc i)) (of_name n.0) kind n.2 in
    let t = later_name from line first i n.0 r f n.1 in
    let here : IsTargetIn (first.at + 1) line.end (Some n.0) None = (t.0, t.1, tt) in
    subst (IsKindIn (first.at + 1) line.end) last.1
    (subst (λ (o : Option NameAt). IsTargetIn (first.at + 1) line.end o (inverse_named (of_name n.0))) (sym (named n.0))
    (subst (λ (o : Option InverseDeclaration). IsTargetIn (first.at + 1) line.end (Some n.0) o) (sym (alone n.0)) here))

text_got : (from until : ℕ) (line : PlacedLine) (kind : KindDeclaration) → text_at line ≡ Ok kind → IsKindIn from until kind
unfolding text_at
text_got from until line kind e =
    let m = bind_ok (max_at line 2) (λ max. if_ended line 3 (kinds.Text max)) kind e in
    let last = ended_taken line 3 (kinds.Text m.0) kind m.2 in
    subst (IsKindIn from until) last.1 tt

ref_got : (from : ℕ) (line : PlacedLine) (first : PlacedWord) (kind : KindDeclaration) → AreWordsIn from line.end line.words → slice_get line.words 0 ≡ Some first → ref_at line ≡ Ok kind → IsKindIn (first.at + 1) line.end kind
unfolding ref_at
ref_got from line first kind r f e =
    let n = bind_ok (name_at line 2) (λ target. inverse_at line >>= λ inverse. Ok (kinds.Ref target inverse)) kind e in
    let i = bind_ok (inverse_at line) (λ inverse. Ok (kinds.Ref n.0 inverse)) kind n.2 in
    subst (IsKindIn (first.at + 1) line.end) (same_ok _ kind i.2) (linked_got from line first n.0 i.0 r f n.1 i.1)

set_got : (from : ℕ) (line : PlacedLine) (first : PlacedWord) (kind : KindDeclaration) → AreWordsIn from line.end line.words → slice_get line.words 0 ≡ Some first → set_at line ≡ Ok kind → IsKindIn (first.at + 1) line.end kind
unfolding set_at
set_got from line first kind r f e =
    let n = bind_ok (name_at line 2) (λ target. inverse_at line >>= λ inverse. Ok (kinds.Set target inverse)) kind e in
    let i = bind_ok (inverse_at line) (λ inverse. Ok (kinds.Set n.0 inverse)) kind n.2 in
    subst (IsKindIn (first.at + 1) line.end) (same_ok _ kind i.2) (linked_got from line first n.0 i.0 r f n.1 i.1)

list_got : (from : ℕ) (line : PlacedLine) (first : PlacedWord) (kind : KindDeclaration) → AreWordsIn from line.end line.words → slice_get line.words 0 ≡ Some first → list_at line ≡ Ok kind → IsKindIn (first.at + 1) line.end kind
unfolding list_at
list_got from line first kind r f e = alone_got from line first 1 (λ target. kinds.List target) kind r f (λ name. refl) (λ name. refl) e

dict_int_got : (from : ℕ) (line : PlacedLine) (first : PlacedWord) (kind : KindDeclaration) → AreWordsIn from line.end line.words → slice_get line.words 0 ≡ Some first → dict_int_at line ≡ Ok kind → IsKindIn (first.at + 1) line.end kind
unfolding dict_int_at
dict_int_got from line first kind r f e = alone_got from line first 2 (λ target. kinds.DictInt target) kind r f (λ name. refl) (λ name. refl) e

dict_text_got : (from : ℕ) (line : PlacedLine) (first : PlacedWord) (kind : KindDeclaration) → AreWordsIn from line.end line.words → slice_get line.words 0 ≡ Some first → dict_text_at line ≡ Ok kind → IsKindIn (first.at + 1) line.end kind
unfolding dict_text_at
dict_text_got from line first kind r f e = alone_got from line first 2 (λ target. kinds.DictText target) kind r f (λ name. refl) (λ name. refl) e

-- whichever way a choice went
either : {A : Type 0} (P : Type 0) (test : Bool) (here later r : A) → cond test here later ≡ r → (here ≡ r → P) → (later ≡ r → P) → P
either P true here later r e hit miss = hit e
either P false here later r e hit miss = miss e

no_kind : {P : Type 0} (at : ℕ) (kind : KindDeclaration) → ◌≡◌ {A = Result KindDeclaration ℕ} (Err at) (Ok kind) → P
no_kind at kind e = absurd cc

dict_got : (from : ℕ) (line : PlacedLine) (first : PlacedWord) (kind : KindDeclaration) → AreWordsIn from line.end line.words → slice_get line.words 0 ≡ Some first → dict_at line ≡ Ok kind → IsKindIn (first.at + 1) line.end kind
unfolding dict_at
dict_got from line first kind r f e =
    let w = bind_ok (word_at line 2) (λ key. dict_by line key.at key.bytes) kind e in
    let P = IsKindIn (first.at + 1) line.end kind in
    either P (bytes_eq w.0.bytes (codes "int")) (dict_int_at line) _ (Ok kind) w.2 (dict_int_got from line first kind r f)
    (λ e. either P (bytes_eq w.0.bytes (codes "text")) (dict_text_at line) _ (Ok kind) e (dict_text_got from line first kind r f)
    (λ e. no_kind w.0.at kind e))

int_got : (from until : ℕ) (line : PlacedLine) (kind : KindDeclaration) → if_ended line 2 kinds.Int ≡ Ok kind → IsKindIn from until kind
int_got from until line kind e = let last = ended_taken line 2 kinds.Int kind e in subst (IsKindIn from until) last.1 tt

pub kind_got : (from : ℕ) (line : PlacedLine) (first : PlacedWord) (kind : KindDeclaration) → AreWordsIn from line.end line.words → slice_get line.words 0 ≡ Some first → kind_at line ≡ Ok kind → IsKindIn (first.at + 1) line.end kind
unfolding kind_at
kind_got from line first kind r f e =
    let w = bind_ok (word_at line 1) (λ word. kind_by line word.at word.bytes) kind e in
    let b = w.0.bytes in
    let P = IsKindIn (first.at + 1) line.end kind in
    either P (bytes_eq b (codes "int")) (if_ended line 2 kinds.Int) _ (Ok kind) w.2 (int_got (first.at + 1) line.end line kind)
    (λ e. either P (bytes_eq b (codes "text")) (text_at line) _ (Ok kind) e (text_got (first.at + 1) line.end line kind)
    (λ e. either P (bytes_eq b (codes "ref")) (ref_at line) _ (Ok kind) e (ref_got from line first kind r f)
    (λ e. either P (bytes_eq b (codes "set")) (set_at line) _ (Ok kind) e (set_got from line first kind r f)
    (λ e. either P (bytes_eq b (codes "list")) (list_at line) _ (Ok kind) e (list_got from line first kind r f)
    (λ e. either P (bytes_eq b (codes "dict")) (dict_at line) _ (Ok kind) e (dict_got from line first kind r f)
    (λ e. no_kind w.0.at kind e))))))

-- ---- lines

member_placed : (from : ℕ) (line : PlacedLine) (name : NameAt) (kind : KindDeclaration) → AreWordsIn from line.end line.words → name_at line 0 ≡ Ok name → kind_at line ≡ Ok kind → IsMemberIn from line.end (declared_member name kind)
member_placed from line name kind r e g =
    let w = name_got line 0 name e in
    let within = word_in from line.end line.words 0 w.0 r w.1 in
    let k = kind_got from line w.0 kind r w.1 g in
    (omega arith, omega arith, subst (λ (n : ℕ). IsKindIn (n + 1) line.end kind) w.2 k)

pub member_got : (from : ℕ) (line : PlacedLine) (member : MemberDeclaration) → AreWordsIn from line.end line.words → member_at line ≡ Ok member → IsMemberIn from line.end member
unfolding member_at
member_got from line member r e =
    let n = bind_ok (name_at line 0) (λ name. kind_at line >>= λ kind. Ok (declared_member name kind)) member e in
    let k = bind_ok (kind_at line) (λ kind. Ok (declared_member n.0 kind)) member n.2 in
    subst (IsMemberIn from line.end) (same_ok _ member k.2) (member_placed from line n.0 k.0 r n.1 k.1)

pub type_name_got : (from : ℕ) (line : PlacedLine) (name : NameAt) → AreWordsIn from line.end line.words → type_name_at line ≡ Ok name → (from ≤ name.at) × (name.at < line.end)
unfolding type_name_at
type_name_got from line name r e =
    let k = bind_ok (keyword_at (codes "type") line 0) (λ keyword. name_at line 1 >>= λ n. if_ended line 2 n) name e in
    let n = bind_ok (name_at line 1) (λ n. if_ended line 2 n) name k.2 in
    let last = ended_taken line 2 n.0 name n.2 in
    let w = name_got line 1 n.0 n.1 in
    let within = word_in from line.end line.words 1 w.0 r w.1 in
    let same = ap (λ (m : NameAt). m.at) last.1 in
    (omega arith, omega arith)

-- ---- members and types

pub members_from_before : (low from until : ℕ) (members : List MemberDeclaration) → low ≤ from → AreMembersIn from until members → AreMembersIn low until members
members_from_before low from until [] h k = omega arith
members_from_before low from until (member ∷ members) h k = (k.0, (omega arith, k.1.1, k.1.2), k.2)

-- members up to a place, and types from there
abbrev pub IsBehindFrom : ℕ → Behind → Type 0
IsBehindFrom from behind = (between : ℕ) × (AreMembersIn from between behind.0) × AreTypesFrom between behind.1

type_placed : (from : ℕ) (line : PlacedLine) (name : NameAt) (rest : Behind) → AreWordsIn from line.end line.words → type_name_at line ≡ Ok name → IsBehindFrom (line.end + 1) rest → AreTypesFrom from (declared_type name rest.0 ∷ rest.1)
type_placed from line name rest r e k =
    let n = type_name_got from line name r e in
    (k.0, n.0, members_from_before (name.at + 1) (line.end + 1) k.0 rest.0 (omega arith) k.1, k.2)

member_before : (from : ℕ) (line : PlacedLine) (member : MemberDeclaration) (rest : Behind) → AreWordsIn from line.end line.words → member_at line ≡ Ok member → IsBehindFrom (line.end + 1) rest → IsBehindFrom from (member ∷ rest.0, rest.1)
member_before from line member rest r e k =
    (k.0, (line.end, member_got from line member r e, members_from_before line.end (line.end + 1) k.0 rest.0 (omega arith) k.1), k.2)

pub behind_got : (from : ℕ) (lines : List PlacedLine) (behind : Behind) → AreLinesFrom from lines → declared_behind lines ≡ Ok behind → IsBehindFrom from behind
unfolding declared_behind
behind_got from [] behind r e = subst (IsBehindFrom from) (same_ok ([], []) behind e) (from, omega arith, tt)
behind_got from (line ∷ lines) behind r e =
    elim (chosen (is_type_line line) (type_name_at line >>= λ name. declared_behind lines >>= λ rest. Ok ([], declared_type name rest.0 ∷ rest.1)) (member_at line >>= λ member. declared_behind lines >>= λ rest. Ok (member ∷ rest.0, rest.1)) (Ok behind) e) [
      | inl g ↦
          let n = bind_ok (type_name_at line) (λ name. declared_behind lines >>= λ rest. Ok ([], declared_type name rest.0 ∷ rest.1)) behind g.1 in
          let b = bind_ok (declared_behind lines) (λ rest. Ok ([], declared_type n.0 rest.0 ∷ rest.1)) behind n.2 in
          let t = type_placed from line n.0 b.0 r.1 n.1 (behind_got (line.end + 1) lines b.0 r.2 b.1) in
          subst (IsBehindFrom from) (same_ok _ behind b.2) (from, omega arith, t)
      | inr g ↦
          let m = bind_ok (member_at line) (λ member. declared_behind lines >>= λ rest. Ok (member ∷ rest.0, rest.1)) behind g.1 in
          let b = bind_ok (declared_behind lines) (λ rest. Ok (m.0 ∷ rest.0, rest.1)) behind m.2 in
          subst (IsBehindFrom from) (same_ok _ behind b.2) (member_before from line m.0 b.0 r.1 m.1 (behind_got (line.end + 1) lines b.0 r.2 b.1))
    ]

pub declared_got : (from : ℕ) (lines : List PlacedLine) (types : List TypeDeclaration) → AreLinesFrom from lines → declared_by lines ≡ Ok types → AreTypesFrom from types
unfolding declared_by
declared_got from [] types r e = subst (AreTypesFrom from) (same_ok [] types e) tt
declared_got from (line ∷ lines) types r e =
    let n = bind_ok (type_name_at line) (λ name. declared_behind lines >>= λ rest. Ok (declared_type name rest.0 ∷ rest.1)) types e in
    let b = bind_ok (declared_behind lines) (λ rest. Ok (declared_type n.0 rest.0 ∷ rest.1)) types n.2 in
    subst (AreTypesFrom from) (same_ok _ types b.2) (type_placed from line n.0 b.0 r.1 n.1 (behind_got (line.end + 1) lines b.0 r.2 b.1))

-- the places of what a text declares rise
pub declared_rises : (text : List ℕ) (types : List TypeDeclaration) → declared_by (lines_of text) ≡ Ok types → AreTypesFrom 0 types
declared_rises text types e = declared_got 0 (lines_of text) types (lines_rise text) e
