-- Single words: what is spelled is read.
use Rattle.std.proofs.Common.{◌≡◌, ℕ, suc, ◌≤◌, true, false, ◌&&◌, not, leb, eqb, List, [], ◌∷◌, ◌++◌, length, get_or, codes, decimal, Option, Some, None, Result, Ok, ℤ, pos, negsuc, refl, sym, ap, subst, ◌∙◌, arith, inl, inr}
use Rattle.std.specs.Prelude.{FitsSigned}
use Rattle.std.specs.Char.{is_ascii_alphabetic}
use Rattle.std.specs.Fmt.{signed_decimal}
use Rattle.std.specs.Int.{w64}
use Rattle.std.specs.List.{AllByRecursion, list_all}
use Rattle.std.specs.Str.{bytes_eq}
use Rattle.std.specs.Str.Parse.{IsNumeral}
use Rattle.std.proofs.lemmas.Bool.{and_parts, cases_Bool, eqb-true, ne_eqb, false≢true}
use Rattle.std.proofs.lemmas.Fmt.{decimal_is_IsNumeral}
use Rattle.std.proofs.lemmas.List.{append-nil}
use Rattle.std.proofs.lemmas.Str.Parse.{digit_at}
use Rattle.ostore_text_words.specs.Words.{around_byte, is_identifier, is_reserved, is_name_byte, begins_as_name, begins_quoted, int_at, quoted, quoted_at, name_at}
use Rattle.ostore_text_words.specs.Lines.{PlacedLine}
use Rattle.ostore_text_words.specs.LineWords.{says_at}
use Rattle.ostore_text_words.proofs.WordLaws.{identifier_again as ident_again, around_name, dotted_again, int_again, count_again}
use Rattle.ostore_text_words.proofs.QuotedLaws.{quoted_again, name_again as named_again}
use Rattle.ostore_text_words.proofs.LineWordLaws.{bare_at, bytes_are, word_again, says_again}
use Rattle.ostore_graph_model.specs.declared.values.Name.{Name}
use Rattle.ostore_graph_model.specs.declared.commands.Operand.{Operand}
use Rattle.ostore_graph_model.specs.declared.commands.Operand.TheVariants as operands
use Rattle.ostore_graph_model.specs.declared.commands.Key.{Key}
use Rattle.ostore_graph_model.specs.declared.commands.Key.TheVariants as keys
use Rattle.ostore_graph_model.specs.declared.commands.Op.{Op}
use Rattle.ostore_graph_model.specs.declared.commands.Op.TheVariants as ops
use Rattle.ostore_command_text.specs.CommandWords.{variable, place, name_word, path_word, operand_word, key_word, op_word, item_word}
use Rattle.ostore_command_text.specs.WordsSaid.{variable_of, place_of, segment_of, index_of, op_of, last_of, later_of, path_of, parted_by}
use Rattle.ostore_command_text.specs.CommandsSaid.{variable_at, place_at, begins_variable, operand_at, text_operand_at, var_operand_at, int_operand_at, key_at, text_key_at, int_key_at, item_at, var_item_at}
use Rattle.ostore_command_text.specs.LawfulCommands.{IsIdent, IsLawfulName, IsLawfulText, IsLawfulOperand, IsLawfulKey, IsLawfulItem, IsLawfulPath, IsLawfulPlace}

-- ---- bytes that no identifier has

name_byte_other : (mark byte : ℕ) → is_name_byte mark ≡ false → is_name_byte byte ≡ true → eqb byte mark ≡ false
name_byte_other mark byte none h =
    elim (cases_Bool (eqb byte mark)) [
      | inl hit ↦ absurd (false≢true (sym none ∙ subst (λ (b : ℕ). is_name_byte b ≡ true) (eqb-true byte mark hit) h))
      | inr miss ↦ miss
    ]

letter_other : (mark byte : ℕ) → is_ascii_alphabetic mark ≡ false → is_ascii_alphabetic byte ≡ true → eqb byte mark ≡ false
letter_other mark byte none h =
    elim (cases_Bool (eqb byte mark)) [
      | inl hit ↦ absurd (false≢true (sym none ∙ subst (λ (b : ℕ). is_ascii_alphabetic b ≡ true) (eqb-true byte mark hit) h))
      | inr miss ↦ miss
    ]

no_mark_bytes : (mark : ℕ) (bytes : List ℕ) → is_name_byte mark ≡ false → list_all is_name_byte bytes ≡ true → around_byte mark bytes ≡ None
no_mark_bytes mark [] none h = refl
no_mark_bytes mark (byte ∷ others) none h =
    let p = and_parts (is_name_byte byte) (list_all is_name_byte others) h in
    rw (name_byte_other mark byte none p.0, no_mark_bytes mark others none p.1) refl

-- an identifier isn't parted by such a byte
pub no_mark : (mark : ℕ) (name : List ℕ) → is_ascii_alphabetic mark ≡ false → is_name_byte mark ≡ false → IsIdent name → around_byte mark name ≡ None
unfolding is_identifier
no_mark mark [] letter none h = absurd (false≢true h)
no_mark mark (byte ∷ others) letter none h =
    let p = and_parts (begins_as_name (byte ∷ others) && leb (length (byte ∷ others)) 31) (not (is_reserved (byte ∷ others))) h in
    let q = and_parts (begins_as_name (byte ∷ others)) (leb (length (byte ∷ others)) 31) p.0 in
    let r = and_parts (is_ascii_alphabetic byte) (list_all is_name_byte others) q.0 in
    rw (letter_other mark byte letter r.0, no_mark_bytes mark others none r.1) refl

star_bytes : (front back : List ℕ) → list_all is_name_byte front ≡ true → around_byte 42 (front ++ 42 ∷ back) ≡ Some (front, back)
star_bytes [] back h = refl
star_bytes (byte ∷ front) back h =
    let p = and_parts (is_name_byte byte) (list_all is_name_byte front) h in
    rw (name_byte_other 42 byte refl p.0, star_bytes front back p.1) refl

-- the bytes around the `*` behind an identifier
pub at_star : (name back : List ℕ) → IsIdent name → around_byte 42 (name ++ 42 ∷ back) ≡ Some (name, back)
unfolding is_identifier
at_star [] back h = absurd (false≢true h)
at_star (byte ∷ others) back h =
    let p = and_parts (begins_as_name (byte ∷ others) && leb (length (byte ∷ others)) 31) (not (is_reserved (byte ∷ others))) h in
    let q = and_parts (begins_as_name (byte ∷ others)) (leb (length (byte ∷ others)) 31) p.0 in
    let r = and_parts (is_ascii_alphabetic byte) (list_all is_name_byte others) q.0 in
    rw (letter_other 42 byte refl r.0, star_bytes others back r.1) refl

-- ---- variables and places

-- a word that says something, and the rest of the line
abbrev pub Reads : {A : Type 0} → Result A ℕ → A → PlacedLine → ℕ → List (List ℕ) → Type 0
Reads r x line next others = (r ≡ Ok x) × (bare_at line next ≡ others)

variable_said : (name : List ℕ) → IsIdent name → variable_of (variable name) ≡ Some name
unfolding variable_of
variable_said name h = ident_again name h

pub variable_again : (line : PlacedLine) (i : ℕ) (name : List ℕ) (others : List (List ℕ)) → bare_at line i ≡ variable name ∷ others → IsIdent name → Reads (variable_at line i) name line (suc i) others
variable_again line i name others e h = says_again variable_of line i (variable name) others name e (variable_said name h)

place_said : (object member : List ℕ) → IsLawfulPlace object member → place_of (place object member) ≡ Some (object, member)
unfolding place_of
place_said object member h = dotted_again object member h.0 h.1

pub place_again : (line : PlacedLine) (i : ℕ) (object member : List ℕ) (others : List (List ℕ)) → bare_at line i ≡ place object member ∷ others → IsLawfulPlace object member → Reads (place_at line i) (object, member) line (suc i) others
place_again line i object member others e h = says_again place_of line i (place object member) others (object, member) e (place_said object member h)

-- ---- numbers

pub segment_again : (line : PlacedLine) (i n : ℕ) (others : List (List ℕ)) → bare_at line i ≡ decimal n ∷ others → 1 ≤ n → n ≤ 255 → Reads (says_at segment_of line i) n line (suc i) others
segment_again line i n others e low high = says_again segment_of line i (decimal n) others n e (count_again 1 255 n low high (omega arith))

pub list_index_again : (line : PlacedLine) (i n : ℕ) (others : List (List ℕ)) → bare_at line i ≡ decimal n ∷ others → n ≤ 4294967295 → Reads (says_at index_of line i) n line (suc i) others
list_index_again line i n others e high = says_again index_of line i (decimal n) others n e (count_again 0 4294967295 n (omega arith) high (omega arith))

pub name_again : (line : PlacedLine) (i : ℕ) (name : Name) (others : List (List ℕ)) → bare_at line i ≡ name_word name ∷ others → IsLawfulName name → Reads (says_at name_at line i) (name.segment, name.serial) line (suc i) others
name_again line i name others e h = says_again name_at line i (name_word name) others (name.segment, name.serial) e (named_again name.segment name.serial h.0 h.1 h.2 h.3)

-- ---- paths

last_again : (member : List ℕ) → IsIdent member → last_of member ≡ Some (member ∷ [])
unfolding last_of
last_again member h = rw h refl

single_again : (later : List ℕ → Option (List (List ℕ))) (member : List ℕ) → IsIdent member → parted_by later member (around_byte 46 member) ≡ Some (member ∷ [])
single_again later member h = rw (no_mark 46 member refl refl h) (last_again member h)

parted_again : (later : List ℕ → Option (List (List ℕ))) (word member rest : List ℕ) (others : List (List ℕ)) → IsIdent member → later rest ≡ Some others → parted_by later word (around_byte 46 (member ++ 46 ∷ rest)) ≡ Some (member ∷ others)
parted_again later word member rest others h e = rw (around_name member rest h, h, e) refl

later_again : (path : List (List ℕ)) → 1 ≤ length path → length path ≤ 2 → AllByRecursion IsIdent path → later_of (path_word path) ≡ Some path
unfolding later_of
later_again [] some few h = absurd (omega (arith, some))
later_again (a ∷ []) some few h = rw (append-nil a) (single_again last_of a h.0)
later_again (a ∷ b ∷ []) some few h = parted_again last_of _ a (path_word (b ∷ [])) (b ∷ []) h.0 (rw (append-nil b) (last_again b h.1.0))
later_again (a ∷ b ∷ c ∷ others) some few h = absurd (omega (arith, few))

path_said : (path : List (List ℕ)) → IsLawfulPath path → path_of (path_word path) ≡ Some path
unfolding path_of
path_said [] h = absurd (omega (arith, h.0))
path_said (a ∷ []) h = rw (append-nil a) (single_again later_of a h.2.0)
path_said (a ∷ b ∷ others) h = parted_again later_of _ a (path_word (b ∷ others)) (b ∷ others) h.2.0 (later_again (b ∷ others) (omega arith) (omega (arith, h.1)) h.2.1)

pub path_again : (line : PlacedLine) (i : ℕ) (path : List (List ℕ)) (others : List (List ℕ)) → bare_at line i ≡ path_word path ∷ others → IsLawfulPath path → Reads (says_at path_of line i) path line (suc i) others
path_again line i path others e h = says_again path_of line i (path_word path) others path e (path_said path h)

-- ---- comparisons

op_said : (op : Op) → op_of (op_word op) ≡ Some op
op_said ops.Equal = refl
op_said ops.Less = refl
op_said ops.LessEqual = refl
op_said ops.Greater = refl
op_said ops.GreaterEqual = refl

pub op_again : (line : PlacedLine) (i : ℕ) (op : Op) (others : List (List ℕ)) → bare_at line i ≡ op_word op ∷ others → Reads (says_at op_of line i) op line (suc i) others
op_again line i op others e = says_again op_of line i (op_word op) others op e (op_said op)

-- ---- ints: no other word begins as they do

abbrev IsIntBegun : List ℕ → Type 0
IsIntBegun word = (begins_quoted word ≡ false) × (begins_variable word ≡ false) × (bytes_eq word (codes "null") ≡ false)

begun_other : (byte : ℕ) (others : List ℕ) → byte ≤ 57 → 37 ≤ byte → IsIntBegun (byte ∷ others)
begun_other byte others high low =
    let null : bytes_eq (byte ∷ others) (codes "null") ≡ false =
    elim (cases_Bool (bytes_eq (byte ∷ others) (codes "null"))) [
      | inl hit ↦
          let same : byte ≡ 110 = ap (λ (w : List ℕ). get_or w 0 0) (bytes_are (byte ∷ others) (codes "null") hit) in
          absurd (omega (arith, same, high))
      | inr miss ↦ miss
    ] in
    (ne_eqb byte 34 (λ e. absurd (omega arith)), ne_eqb byte 36 (λ e. absurd (omega arith)), null)

digits_begun : (digits : List ℕ) → IsNumeral 10 digits → IsIntBegun digits
digits_begun [] h = absurd (omega (arith, h.0))
digits_begun (byte ∷ others) h =
    let first = digit_at (byte ∷ others) 0 h.1 h.0 in
    begun_other byte others (omega (arith, first)) (omega (arith, first))

int_begun : (n : ℤ) → FitsSigned w64 n → IsIntBegun (signed_decimal n)
int_begun (pos n) fits = digits_begun (decimal n) (decimal_is_IsNumeral n (omega (arith, fits.sfits))).0
int_begun (negsuc n) fits = begun_other 45 (decimal (suc n)) (omega arith) (omega arith)

-- ---- values, keys and items

text_operand_again : (line : PlacedLine) (i : ℕ) (text : List ℕ) (others : List (List ℕ)) → bare_at line i ≡ quoted text ∷ others → IsLawfulText text → Reads (text_operand_at line i) (operands.Text text) line (suc i) others
unfolding text_operand_at
text_operand_again line i text others e h =
    let s = says_again quoted_at line i (quoted text) others text e (quoted_again text h) in
    (rw s.0 refl, s.1)

var_operand_again : (line : PlacedLine) (i : ℕ) (name : List ℕ) (others : List (List ℕ)) → bare_at line i ≡ variable name ∷ others → IsIdent name → Reads (var_operand_at line i) (operands.Var name) line (suc i) others
unfolding var_operand_at
var_operand_again line i name others e h =
    let s = variable_again line i name others e h in
    (rw s.0 refl, s.1)

int_operand_again : (line : PlacedLine) (i : ℕ) (n : ℤ) (others : List (List ℕ)) → bare_at line i ≡ signed_decimal n ∷ others → FitsSigned w64 n → Reads (int_operand_at line i) (operands.Int n) line (suc i) others
unfolding int_operand_at
int_operand_again line i n others e h =
    let s = says_again int_at line i (signed_decimal n) others n e (int_again n h) in
    (rw s.0 refl, s.1)

pub operand_again : (line : PlacedLine) (i : ℕ) (value : Operand) (others : List (List ℕ)) → bare_at line i ≡ operand_word value ∷ others → IsLawfulOperand value → Reads (operand_at line i) value line (suc i) others
unfolding operand_at
operand_again line i (operands.Int n) others e h =
    let w = word_again line i (signed_decimal n) others e in
    let b = int_begun n h in
    let s = int_operand_again line i n others e h in
    (rw (w.1, w.2, b.0, b.1, b.2) s.0, s.1)
operand_again line i (operands.Text text) others e h =
    let w = word_again line i (quoted text) others e in
    let s = text_operand_again line i text others e h in
    (rw (w.1, w.2) s.0, s.1)
operand_again line i (operands.Var name) others e h =
    let w = word_again line i (variable name) others e in
    let s = var_operand_again line i name others e h in
    (rw (w.1, w.2) s.0, s.1)
operand_again line i operands.Null others e h =
    let w = word_again line i (codes "null") others e in
    (rw (w.1, w.2) refl, w.3)

text_key_again : (line : PlacedLine) (i : ℕ) (text : List ℕ) (others : List (List ℕ)) → bare_at line i ≡ quoted text ∷ others → IsLawfulText text → Reads (text_key_at line i) (keys.Text text) line (suc i) others
unfolding text_key_at
text_key_again line i text others e h =
    let s = says_again quoted_at line i (quoted text) others text e (quoted_again text h) in
    (rw s.0 refl, s.1)

int_key_again : (line : PlacedLine) (i : ℕ) (n : ℤ) (others : List (List ℕ)) → bare_at line i ≡ signed_decimal n ∷ others → FitsSigned w64 n → Reads (int_key_at line i) (keys.Int n) line (suc i) others
unfolding int_key_at
int_key_again line i n others e h =
    let s = says_again int_at line i (signed_decimal n) others n e (int_again n h) in
    (rw s.0 refl, s.1)

pub key_again : (line : PlacedLine) (i : ℕ) (key : Key) (others : List (List ℕ)) → bare_at line i ≡ key_word key ∷ others → IsLawfulKey key → Reads (key_at line i) key line (suc i) others
unfolding key_at
key_again line i (keys.Int n) others e h =
    let w = word_again line i (signed_decimal n) others e in
    let s = int_key_again line i n others e h in
    (rw (w.1, w.2, (int_begun n h).0) s.0, s.1)
key_again line i (keys.Text text) others e h =
    let w = word_again line i (quoted text) others e in
    let s = text_key_again line i text others e h in
    (rw (w.1, w.2) s.0, s.1)

var_item_again : (line : PlacedLine) (i : ℕ) (name : List ℕ) (others : List (List ℕ)) → bare_at line i ≡ variable name ∷ others → IsIdent name → Reads (var_item_at line i) (Some name) line (suc i) others
unfolding var_item_at
var_item_again line i name others e h =
    let s = variable_again line i name others e h in
    (rw s.0 refl, s.1)

pub item_again : (line : PlacedLine) (i : ℕ) (item : Option (List ℕ)) (others : List (List ℕ)) → bare_at line i ≡ item_word item ∷ others → IsLawfulItem item → Reads (item_at line i) item line (suc i) others
unfolding item_at
item_again line i None others e h =
    let w = word_again line i (codes "null") others e in
    (rw (w.1, w.2) refl, w.3)
item_again line i (Some name) others e h =
    let w = word_again line i (variable name) others e in
    let s = var_item_again line i name others e h in
    (rw (w.1, w.2) s.0, s.1)
