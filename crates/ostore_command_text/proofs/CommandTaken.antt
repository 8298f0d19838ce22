-- Commands: what is read is spelled so.
use Rattle.std.proofs.Common.{◌≡◌, ℕ, suc, ◌≤◌, cond, List, [], ◌∷◌, ◌++◌, length, codes, decimal, Option, Some, None, Result, Ok, Err, refl, sym, ap, subst, ◌∙◌, arith, inl, inr}
use Rattle.std.specs.Prelude.{FitsSigned}
use Rattle.std.specs.Fmt.{signed_decimal}
use Rattle.std.specs.Int.{w64}
use Rattle.std.specs.List.{AllByRecursion}
use Rattle.std.specs.Str.{bytes_eq}
use Rattle.std.proofs.lemmas.List.{append-nil}
use Rattle.std.proofs.lemmas.Option.{same_Some}
use Rattle.ostore_text_words.specs.Words.{◌>>=◌ as ◌>>?◌, after_byte, around_byte, identifier_at as ident_at, dotted_at, int_at, count_at, quoted, quoted_at, name_at, begins_quoted}
use Rattle.ostore_text_words.specs.Lines.{PlacedWord, PlacedLine}
use Rattle.ostore_text_words.specs.LineWords.{◌>>=◌, word_at, says_at, identifier_at, if_ended}
use Rattle.ostore_text_words.proofs.WordLaws.{bind_some, identifier_taken as ident_taken, after_byte_taken, around_byte_taken, dotted_taken, int_taken, count_taken}
use Rattle.ostore_text_words.proofs.QuotedLaws.{quoted_taken}
use Rattle.ostore_text_words.proofs.LineWordLaws.{bind_ok, same_ok, chosen, bytes_are, bare_at, word_taken, says_taken, identifier_taken, ended_taken}
use Rattle.ostore_graph_model.specs.declared.commands.Command.{Command}
use Rattle.ostore_graph_model.specs.declared.commands.Command.TheVariants as commands
use Rattle.ostore_graph_model.specs.declared.commands.Operand.{Operand}
use Rattle.ostore_graph_model.specs.declared.commands.Operand.TheVariants as operands
use Rattle.ostore_graph_model.specs.declared.commands.Key.{Key}
use Rattle.ostore_graph_model.specs.declared.commands.Key.TheVariants as keys
use Rattle.ostore_graph_model.specs.declared.commands.Op.{Op}
use Rattle.ostore_graph_model.specs.declared.commands.Op.TheVariants as ops
use Rattle.ostore_command_text.specs.CommandWords.{variable, place, name_word, path_word, operand_word, key_word, op_word, item_word, command_words}
use Rattle.ostore_command_text.specs.WordsSaid.{variable_of, place_of, segment_of, index_of, op_of, last_of, later_of, path_of, parted_by}
use Rattle.ostore_command_text.specs.CommandsSaid.{variable_at, place_at, name_of_parts, begins_variable, operand_at, text_operand_at, var_operand_at, int_operand_at, key_at, text_key_at, int_key_at, item_at, var_item_at, new_at, find_at, root_at, set_root_at, get_at, set_at, follow_at, delete_at, insert_at, remove_at, members_at, size_at, append_at, put_at, at_at, bind_at, look_at, unbind_at, index_at, unindex_at, query_at, collection_command_at, member_command_at, command_by}
use Rattle.ostore_command_text.specs.LawfulCommands.{IsIdent, IsLawfulName, IsLawfulText, IsLawfulOperand, IsLawfulKey, IsLawfulItem, IsLawfulPath, IsLawfulPlace, IsLawfulCommand}

-- ---- steps

-- the words are the command's, which can be written
abbrev IsSpelledAs : List (List ℕ) → Command → Type 0
IsSpelledAs words command = (words ≡ command_words command) × IsLawfulCommand command

-- a word, and those behind it
pub then_is : {all xs ys : List (List ℕ)} {x : List ℕ} → all ≡ x ∷ xs → xs ≡ ys → all ≡ x ∷ ys
then_is e f = cc

pub behind : {xs ys : List (List ℕ)} (x : List ℕ) → xs ≡ ys → x ∷ xs ≡ x ∷ ys
behind x e = ap (λ (ws : List (List ℕ)). x ∷ ws) e

-- behind a verb: the rest as the word was tested, or else the later choices
pub choice : {A : Type 0} (word keyword : List ℕ) (here later r : Result A ℕ) (P : List ℕ → Type 0) → cond (bytes_eq word keyword) here later ≡ r → (here ≡ r → P keyword) → (later ≡ r → P word) → P word
choice word keyword here later r P e hit miss =
    elim (chosen (bytes_eq word keyword) here later r e) [
      | inl g ↦ subst P (sym (bytes_are word keyword g.0)) (hit g.1)
      | inr g ↦ miss g.1
    ]

none_is_some : {A : Type 0} (x : A) → ◌≡◌ {A = Option A} None (Some x) → ⊥
none_is_some x e = cc

pub fault_taken : {A P : Type 0} (at : ℕ) (x : A) → ◌≡◌ {A = Result A ℕ} (Err at) (Ok x) → P
fault_taken at x e = absurd cc

-- a word that says something, as it is spelled
slot : {A : Type 0} (says : List ℕ → Option A) (spelled : A → List ℕ) (P : A → Type 0) (line : PlacedLine) (i : ℕ) (x : A) → ((word : List ℕ) → says word ≡ Some x → (word ≡ spelled x) × P x)
    → says_at says line i ≡ Ok x → (bare_at line i ≡ spelled x ∷ bare_at line (suc i)) × P x
slot says spelled P line i x law e =
    let s = says_taken says line i x e in
    let l = law s.0 s.2 in
    (s.1 ∙ ap (λ (w : List ℕ). w ∷ bare_at line (suc i)) l.0, l.1)

-- ---- single words

variable_word : (name word : List ℕ) → variable_of word ≡ Some name → (word ≡ variable name) × IsIdent name
unfolding variable_of
variable_word name word e =
    let a = bind_some (after_byte 36 word) ident_at name e in
    let i = ident_taken a.0 name a.2 in
    (after_byte_taken 36 word a.0 a.1 ∙ ap (λ (w : List ℕ). 36 ∷ w) i.0, i.1)

variable_slot : (line : PlacedLine) (i : ℕ) (name : List ℕ) → variable_at line i ≡ Ok name → (bare_at line i ≡ variable name ∷ bare_at line (suc i)) × IsIdent name
variable_slot line i name e = slot variable_of variable IsIdent line i name (variable_word name) e

place_word : (parts : List ℕ × List ℕ) (word : List ℕ) → place_of word ≡ Some parts → (word ≡ place parts.0 parts.1) × IsLawfulPlace parts.0 parts.1
unfolding place_of
place_word parts word e =
    let a = bind_some (after_byte 36 word) dotted_at parts e in
    let d = dotted_taken a.0 parts.0 parts.1 a.2 in
    (after_byte_taken 36 word a.0 a.1 ∙ ap (λ (w : List ℕ). 36 ∷ w) d.0, (d.1, d.2))

place_slot : (line : PlacedLine) (i : ℕ) (parts : List ℕ × List ℕ) → place_at line i ≡ Ok parts → (bare_at line i ≡ place parts.0 parts.1 ∷ bare_at line (suc i)) × IsLawfulPlace parts.0 parts.1
place_slot line i parts e = slot place_of (λ p. place p.0 p.1) (λ p. IsLawfulPlace p.0 p.1) line i parts (place_word parts) e

identifier_slot : (line : PlacedLine) (i : ℕ) (word : PlacedWord) → identifier_at line i ≡ Ok word → (bare_at line i ≡ word.bytes ∷ bare_at line (suc i)) × IsIdent word.bytes
identifier_slot line i word e =
    let t = identifier_taken line i word e in
    (t.1, t.2)

segment_slot : (line : PlacedLine) (i n : ℕ) → says_at segment_of line i ≡ Ok n → (bare_at line i ≡ decimal n ∷ bare_at line (suc i)) × (1 ≤ n) × (n ≤ 255)
segment_slot line i n e =
    let s = slot segment_of decimal (λ k. (1 ≤ k) × (k ≤ 255)) line i n (λ word h. let t = count_taken 1 255 word n h in (t.0, (t.1, t.2))) e in
    (s.0, s.1.0, s.1.1)

index_slot : (line : PlacedLine) (i n : ℕ) → says_at index_of line i ≡ Ok n → (bare_at line i ≡ decimal n ∷ bare_at line (suc i)) × (n ≤ 4294967295)
index_slot line i n e = slot index_of decimal (λ k. k ≤ 4294967295) line i n (λ word h. let t = count_taken 0 4294967295 word n h in (t.0, t.2)) e

name_law : (parts : ℕ × ℕ) (word : List ℕ) → name_at word ≡ Some parts → (word ≡ name_word (name_of_parts parts)) × IsLawfulName (name_of_parts parts)
unfolding name_at
name_law parts word e =
    let a = bind_some (around_byte 46 word) (λ p. count_at 1 255 p.0 >>? λ s. count_at 1 4294967295 p.1 >>? λ n. Some (s, n)) parts e in
    let b = bind_some (count_at 1 255 a.0.0) (λ s. count_at 1 4294967295 a.0.1 >>? λ n. Some (s, n)) parts a.2 in
    let c = bind_some (count_at 1 4294967295 a.0.1) (λ n. Some (b.0, n)) parts b.2 in
    let s = count_taken 1 255 a.0.0 b.0 b.1 in
    let n = count_taken 1 4294967295 a.0.1 c.0 c.1 in
    let whole : word ≡ decimal b.0 ++ 46 ∷ decimal c.0 = around_byte_taken 46 word a.0.0 a.0.1 a.1 ∙ ap (λ (w : List ℕ). w ++ 46 ∷ a.0.1) s.0 ∙ ap (λ (w : List ℕ). decimal b.0 ++ 46 ∷ w) n.0 in
    subst (λ (p : ℕ × ℕ). (word ≡ name_word (name_of_parts p)) × IsLawfulName (name_of_parts p)) (same_Some _ _ c.2) (whole, (s.1, s.2, n.1, n.2))

name_slot : (line : PlacedLine) (i : ℕ) (parts : ℕ × ℕ) → says_at name_at line i ≡ Ok parts → (bare_at line i ≡ name_word (name_of_parts parts) ∷ bare_at line (suc i)) × IsLawfulName (name_of_parts parts)
name_slot line i parts e = slot name_at (λ p. name_word (name_of_parts p)) (λ p. IsLawfulName (name_of_parts p)) line i parts (name_law parts) e

-- ---- paths

abbrev IsPathOf : ℕ → List (List ℕ) → Type 0
IsPathOf most path = (1 ≤ length path) × (length path ≤ most) × AllByRecursion IsIdent path

last_law : (most : ℕ) (path : List (List ℕ)) (word : List ℕ) → 1 ≤ most → last_of word ≡ Some path → (word ≡ path_word path) × IsPathOf most path
unfolding last_of
last_law most path word some e =
    let a = bind_some (ident_at word) (λ member. Some (member ∷ [])) path e in
    let i = ident_taken word a.0 a.1 in
    subst (λ (p : List (List ℕ)). (word ≡ path_word p) × IsPathOf most p) (same_Some _ _ a.2)
    (i.0 ∙ sym (append-nil a.0), (omega arith, some, (i.1, tt)))

path_more : (member : List ℕ) (others : List (List ℕ)) → 1 ≤ length others → member ++ 46 ∷ path_word others ≡ path_word (member ∷ others)
path_more member [] some = absurd (omega arith)
path_more member (next ∷ others) some = refl

parted_law : (most : ℕ) (later : List ℕ → Option (List (List ℕ))) (path : List (List ℕ)) (word : List ℕ) (parts : Option (List ℕ × List ℕ)) → ((p : List (List ℕ)) (w : List ℕ) → later w ≡ Some p → (w ≡ path_word p) × IsPathOf most p)
    → around_byte 46 word ≡ parts → parted_by later word parts ≡ Some path → (word ≡ path_word path) × IsPathOf (suc most) path
parted_law most later path word None law is e = last_law (suc most) path word (omega arith) e
parted_law most later path word (Some parts) law is e =
    let a = bind_some (ident_at parts.0) (λ member. later parts.1 >>? λ others. Some (member ∷ others)) path e in
    let b = bind_some (later parts.1) (λ others. Some (a.0 ∷ others)) path a.2 in
    let i = ident_taken parts.0 a.0 a.1 in
    let l = law b.0 parts.1 b.1 in
    let whole : word ≡ path_word (a.0 ∷ b.0) =
    around_byte_taken 46 word parts.0 parts.1 is ∙ ap (λ (w : List ℕ). w ++ 46 ∷ parts.1) i.0 ∙ ap (λ (w : List ℕ). a.0 ++ 46 ∷ w) l.0 ∙ path_more a.0 b.0 l.1.0 in
    subst (λ (p : List (List ℕ)). (word ≡ path_word p) × IsPathOf (suc most) p) (same_Some _ _ b.2)
    (whole, (omega arith, omega (arith, l.1.1), (i.1, l.1.2)))

later_law : (path : List (List ℕ)) (word : List ℕ) → later_of word ≡ Some path → (word ≡ path_word path) × IsPathOf 2 path
unfolding later_of
later_law path word e = parted_law 1 last_of path word (around_byte 46 word) (λ p w h. last_law 1 p w (omega arith) h) refl e

path_law : (path : List (List ℕ)) (word : List ℕ) → path_of word ≡ Some path → (word ≡ path_word path) × IsLawfulPath path
unfolding path_of
path_law path word e = parted_law 2 later_of path word (around_byte 46 word) later_law refl e

path_slot : (line : PlacedLine) (i : ℕ) (path : List (List ℕ)) → says_at path_of line i ≡ Ok path → (bare_at line i ≡ path_word path ∷ bare_at line (suc i)) × IsLawfulPath path
path_slot line i path e = slot path_of path_word IsLawfulPath line i path (path_law path) e

-- ---- comparisons

op_law : (op : Op) (word : List ℕ) → op_of word ≡ Some op → word ≡ op_word op
op_law op word e =
    elim (chosen (bytes_eq word (codes "=")) (Some ops.Equal) _ (Some op) e) [
      | inl g ↦ bytes_are word (codes "=") g.0 ∙ ap op_word (same_Some _ _ g.1)
      | inr g ↦ elim (chosen (bytes_eq word (codes "<")) (Some ops.Less) _ (Some op) g.1) [
        | inl h ↦ bytes_are word (codes "<") h.0 ∙ ap op_word (same_Some _ _ h.1)
        | inr h ↦ elim (chosen (bytes_eq word (codes "<=")) (Some ops.LessEqual) _ (Some op) h.1) [
          | inl k ↦ bytes_are word (codes "<=") k.0 ∙ ap op_word (same_Some _ _ k.1)
          | inr k ↦ elim (chosen (bytes_eq word (codes ">")) (Some ops.Greater) _ (Some op) k.1) [
            | inl m ↦ bytes_are word (codes ">") m.0 ∙ ap op_word (same_Some _ _ m.1)
            | inr m ↦ elim (chosen (bytes_eq word (codes ">=")) (Some ops.GreaterEqual) None (Some op) m.1) [
              | inl n ↦ bytes_are word (codes ">=") n.0 ∙ ap op_word (same_Some _ _ n.1)
              | inr n ↦ absurd (none_is_some op n.1)
            ]
          ]
        ]
      ]
    ]

op_slot : (line : PlacedLine) (i : ℕ) (op : Op) → says_at op_of line i ≡ Ok op → (bare_at line i ≡ op_word op ∷ bare_at line (suc i)) × Unit {0}
op_slot line i op e = slot op_of op_word (λ o. Unit {0}) line i op (λ word h. (op_law op word h, tt)) e

-- ---- values, keys and items

abbrev IsOperandAt : PlacedLine → ℕ → Operand → Type 0
IsOperandAt line i value = (bare_at line i ≡ operand_word value ∷ bare_at line (suc i)) × IsLawfulOperand value

text_operand : (line : PlacedLine) (i : ℕ) (value : Operand) → text_operand_at line i ≡ Ok value → IsOperandAt line i value
unfolding text_operand_at
text_operand line i value e =
    let t = bind_ok (says_at quoted_at line i) (λ text. Ok (operands.Text text)) value e in
    subst (IsOperandAt line i) (same_ok _ value t.2) (slot quoted_at quoted IsLawfulText line i t.0 (λ word h. quoted_taken word t.0 h) t.1)

var_operand : (line : PlacedLine) (i : ℕ) (value : Operand) → var_operand_at line i ≡ Ok value → IsOperandAt line i value
unfolding var_operand_at
var_operand line i value e =
    let n = bind_ok (variable_at line i) (λ name. Ok (operands.Var name)) value e in
    subst (IsOperandAt line i) (same_ok _ value n.2) (variable_slot line i n.0 n.1)

int_operand : (line : PlacedLine) (i : ℕ) (value : Operand) → int_operand_at line i ≡ Ok value → IsOperandAt line i value
unfolding int_operand_at
int_operand line i value e =
    let n = bind_ok (says_at int_at line i) (λ int. Ok (operands.Int int)) value e in
    subst (IsOperandAt line i) (same_ok _ value n.2) (slot int_at signed_decimal (λ z. FitsSigned w64 z) line i n.0 (λ word h. int_taken word n.0 h) n.1)

null_operand : (line : PlacedLine) (i : ℕ) (word : PlacedWord) (value : Operand) → word_at line i ≡ Ok word → word.bytes ≡ codes "null" → ◌≡◌ {A = Result Operand ℕ} (Ok operands.Null) (Ok value) → IsOperandAt line i value
null_operand line i word value there is e =
    subst (IsOperandAt line i) (same_ok _ value e) (word_taken line i word there ∙ ap (λ (w : List ℕ). w ∷ bare_at line (suc i)) is, tt)

operand_slot : (line : PlacedLine) (i : ℕ) (value : Operand) → operand_at line i ≡ Ok value → (bare_at line i ≡ operand_word value ∷ bare_at line (suc i)) × IsLawfulOperand value
unfolding operand_at
operand_slot line i value e =
    let w = bind_ok (word_at line i) (λ word. cond (begins_quoted word.bytes) (text_operand_at line i) (cond (begins_variable word.bytes) (var_operand_at line i) (cond (bytes_eq word.bytes (codes "null")) (Ok operands.Null) (int_operand_at line i)))) value e in
    elim (chosen (begins_quoted w.0.bytes) (text_operand_at line i) _ (Ok value) w.2) [
      | inl g ↦ text_operand line i value g.1
      | inr g ↦ elim (chosen (begins_variable w.0.bytes) (var_operand_at line i) _ (Ok value) g.1) [
        | inl h ↦ var_operand line i value h.1
        | inr h ↦ elim (chosen (bytes_eq w.0.bytes (codes "null")) (Ok operands.Null) (int_operand_at line i) (Ok value) h.1) [
          | inl k ↦ null_operand line i w.0 value w.1 (bytes_are w.0.bytes (codes "null") k.0) k.1
          | inr k ↦ int_operand line i value k.1
        ]
      ]
    ]

abbrev IsKeyAt : PlacedLine → ℕ → Key → Type 0
IsKeyAt line i key = (bare_at line i ≡ key_word key ∷ bare_at line (suc i)) × IsLawfulKey key

text_key : (line : PlacedLine) (i : ℕ) (key : Key) → text_key_at line i ≡ Ok key → IsKeyAt line i key
unfolding text_key_at
text_key line i key e =
    let t = bind_ok (says_at quoted_at line i) (λ text. Ok (keys.Text text)) key e in
    subst (IsKeyAt line i) (same_ok _ key t.2) (slot quoted_at quoted IsLawfulText line i t.0 (λ word h. quoted_taken word t.0 h) t.1)

int_key : (line : PlacedLine) (i : ℕ) (key : Key) → int_key_at line i ≡ Ok key → IsKeyAt line i key
unfolding int_key_at
int_key line i key e =
    let n = bind_ok (says_at int_at line i) (λ int. Ok (keys.Int int)) key e in
    subst (IsKeyAt line i) (same_ok _ key n.2) (slot int_at signed_decimal (λ z. FitsSigned w64 z) line i n.0 (λ word h. int_taken word n.0 h) n.1)

key_slot : (line : PlacedLine) (i : ℕ) (key : Key) → key_at line i ≡ Ok key → (bare_at line i ≡ key_word key ∷ bare_at line (suc i)) × IsLawfulKey key
unfolding key_at
key_slot line i key e =
    let w = bind_ok (word_at line i) (λ word. cond (begins_quoted word.bytes) (text_key_at line i) (int_key_at line i)) key e in
    elim (chosen (begins_quoted w.0.bytes) (text_key_at line i) (int_key_at line i) (Ok key) w.2) [
      | inl g ↦ text_key line i key g.1
      | inr g ↦ int_key line i key g.1
    ]

abbrev IsItemAt : PlacedLine → ℕ → Option (List ℕ) → Type 0
IsItemAt line i item = (bare_at line i ≡ item_word item ∷ bare_at line (suc i)) × IsLawfulItem item

var_item : (line : PlacedLine) (i : ℕ) (item : Option (List ℕ)) → var_item_at line i ≡ Ok item → IsItemAt line i item
unfolding var_item_at
var_item line i item e =
    let n = bind_ok (variable_at line i) (λ name. Ok (Some name)) item e in
    subst (IsItemAt line i) (same_ok _ item n.2) (variable_slot line i n.0 n.1)

item_slot : (line : PlacedLine) (i : ℕ) (item : Option (List ℕ)) → item_at line i ≡ Ok item → (bare_at line i ≡ item_word item ∷ bare_at line (suc i)) × IsLawfulItem item
unfolding item_at
item_slot line i item e =
    let w = bind_ok (word_at line i) (λ word. cond (bytes_eq word.bytes (codes "null")) (Ok None) (var_item_at line i)) item e in
    elim (chosen (bytes_eq w.0.bytes (codes "null")) (Ok None) (var_item_at line i) (Ok item) w.2) [
      | inl g ↦ subst (IsItemAt line i) (same_ok _ item g.1) (word_taken line i w.0 w.1 ∙ ap (λ (b : List ℕ). b ∷ bare_at line (suc i)) (bytes_are w.0.bytes (codes "null") g.0), tt)
      | inr g ↦ var_item line i item g.1
    ]

-- ---- commands
new_taken : (line : PlacedLine) (command : Command) → new_at line ≡ Ok command → IsSpelledAs (codes "new" ∷ bare_at line 1) command
unfolding new_at
new_taken line command e =
    let a = bind_ok (variable_at line 1) (λ to. identifier_at line 2 >>= λ ty. says_at segment_of line 3 >>= λ segment. if_ended line 4 (commands.New to ty.bytes segment)) command e in
    let b = bind_ok (identifier_at line 2) (λ ty. says_at segment_of line 3 >>= λ segment. if_ended line 4 (commands.New a.0 ty.bytes segment)) command a.2 in
    let c = bind_ok (says_at segment_of line 3) (λ segment. if_ended line 4 (commands.New a.0 b.0.bytes segment)) command b.2 in
    let z = ended_taken line 4 (commands.New a.0 b.0.bytes c.0) command c.2 in
    let s0 = variable_slot line 1 a.0 a.1 in
    let s1 = identifier_slot line 2 b.0 b.1 in
    let s2 = segment_slot line 3 c.0 c.1 in
    subst (IsSpelledAs (codes "new" ∷ bare_at line 1)) z.1 (behind (codes "new") (then_is s0.0 (then_is s1.0 (then_is s2.0 z.0))), (s0.1, s1.1, s2.1, s2.2))

find_taken : (line : PlacedLine) (command : Command) → find_at line ≡ Ok command → IsSpelledAs (codes "find" ∷ bare_at line 1) command
unfolding find_at
find_taken line command e =
    let a = bind_ok (variable_at line 1) (λ to. says_at name_at line 2 >>= λ parts. if_ended line 3 (commands.Find to (name_of_parts parts))) command e in
    let b = bind_ok (says_at name_at line 2) (λ parts. if_ended line 3 (commands.Find a.0 (name_of_parts parts))) command a.2 in
    let z = ended_taken line 3 (commands.Find a.0 (name_of_parts b.0)) command b.2 in
    let s0 = variable_slot line 1 a.0 a.1 in
    let s1 = name_slot line 2 b.0 b.1 in
    subst (IsSpelledAs (codes "find" ∷ bare_at line 1)) z.1 (behind (codes "find") (then_is s0.0 (then_is s1.0 z.0)), (s0.1, s1.1))

root_taken : (line : PlacedLine) (command : Command) → root_at line ≡ Ok command → IsSpelledAs (codes "root" ∷ bare_at line 1) command
unfolding root_at
root_taken line command e =
    let a = bind_ok (variable_at line 1) (λ to. identifier_at line 2 >>= λ root. if_ended line 3 (commands.Root to root.bytes)) command e in
    let b = bind_ok (identifier_at line 2) (λ root. if_ended line 3 (commands.Root a.0 root.bytes)) command a.2 in
    let z = ended_taken line 3 (commands.Root a.0 b.0.bytes) command b.2 in
    let s0 = variable_slot line 1 a.0 a.1 in
    let s1 = identifier_slot line 2 b.0 b.1 in
    subst (IsSpelledAs (codes "root" ∷ bare_at line 1)) z.1 (behind (codes "root") (then_is s0.0 (then_is s1.0 z.0)), (s0.1, s1.1))

set_root_taken : (line : PlacedLine) (command : Command) → set_root_at line ≡ Ok command → IsSpelledAs (codes "setroot" ∷ bare_at line 1) command
unfolding set_root_at
set_root_taken line command e =
    let a = bind_ok (identifier_at line 1) (λ root. item_at line 2 >>= λ item. if_ended line 3 (commands.SetRoot root.bytes item)) command e in
    let b = bind_ok (item_at line 2) (λ item. if_ended line 3 (commands.SetRoot a.0.bytes item)) command a.2 in
    let z = ended_taken line 3 (commands.SetRoot a.0.bytes b.0) command b.2 in
    let s0 = identifier_slot line 1 a.0 a.1 in
    let s1 = item_slot line 2 b.0 b.1 in
    subst (IsSpelledAs (codes "setroot" ∷ bare_at line 1)) z.1 (behind (codes "setroot") (then_is s0.0 (then_is s1.0 z.0)), (s0.1, s1.1))

get_taken : (line : PlacedLine) (command : Command) → get_at line ≡ Ok command → IsSpelledAs (codes "get" ∷ bare_at line 1) command
unfolding get_at
get_taken line command e =
    let a = bind_ok (place_at line 1) (λ place. if_ended line 2 (commands.Get place.0 place.1)) command e in
    let z = ended_taken line 2 (commands.Get a.0.0 a.0.1) command a.2 in
    let s0 = place_slot line 1 a.0 a.1 in
    subst (IsSpelledAs (codes "get" ∷ bare_at line 1)) z.1 (behind (codes "get") (then_is s0.0 z.0), s0.1)

set_taken : (line : PlacedLine) (command : Command) → set_at line ≡ Ok command → IsSpelledAs (codes "set" ∷ bare_at line 1) command
unfolding set_at
set_taken line command e =
    let a = bind_ok (place_at line 1) (λ place. operand_at line 2 >>= λ value. if_ended line 3 (commands.Set place.0 place.1 value)) command e in
    let b = bind_ok (operand_at line 2) (λ value. if_ended line 3 (commands.Set a.0.0 a.0.1 value)) command a.2 in
    let z = ended_taken line 3 (commands.Set a.0.0 a.0.1 b.0) command b.2 in
    let s0 = place_slot line 1 a.0 a.1 in
    let s1 = operand_slot line 2 b.0 b.1 in
    subst (IsSpelledAs (codes "set" ∷ bare_at line 1)) z.1 (behind (codes "set") (then_is s0.0 (then_is s1.0 z.0)), (s0.1, s1.1))

follow_taken : (line : PlacedLine) (command : Command) → follow_at line ≡ Ok command → IsSpelledAs (codes "follow" ∷ bare_at line 1) command
unfolding follow_at
follow_taken line command e =
    let a = bind_ok (variable_at line 1) (λ to. place_at line 2 >>= λ place. if_ended line 3 (commands.Follow to place.0 place.1)) command e in
    let b = bind_ok (place_at line 2) (λ place. if_ended line 3 (commands.Follow a.0 place.0 place.1)) command a.2 in
    let z = ended_taken line 3 (commands.Follow a.0 b.0.0 b.0.1) command b.2 in
    let s0 = variable_slot line 1 a.0 a.1 in
    let s1 = place_slot line 2 b.0 b.1 in
    subst (IsSpelledAs (codes "follow" ∷ bare_at line 1)) z.1 (behind (codes "follow") (then_is s0.0 (then_is s1.0 z.0)), (s0.1, s1.1))

delete_taken : (line : PlacedLine) (command : Command) → delete_at line ≡ Ok command → IsSpelledAs (codes "delete" ∷ bare_at line 1) command
unfolding delete_at
delete_taken line command e =
    let a = bind_ok (variable_at line 1) (λ object. if_ended line 2 (commands.Delete object)) command e in
    let z = ended_taken line 2 (commands.Delete a.0) command a.2 in
    let s0 = variable_slot line 1 a.0 a.1 in
    subst (IsSpelledAs (codes "delete" ∷ bare_at line 1)) z.1 (behind (codes "delete") (then_is s0.0 z.0), s0.1)

insert_taken : (line : PlacedLine) (command : Command) → insert_at line ≡ Ok command → IsSpelledAs (codes "insert" ∷ bare_at line 1) command
unfolding insert_at
insert_taken line command e =
    let a = bind_ok (place_at line 1) (λ place. variable_at line 2 >>= λ item. if_ended line 3 (commands.Insert place.0 place.1 item)) command e in
    let b = bind_ok (variable_at line 2) (λ item. if_ended line 3 (commands.Insert a.0.0 a.0.1 item)) command a.2 in
    let z = ended_taken line 3 (commands.Insert a.0.0 a.0.1 b.0) command b.2 in
    let s0 = place_slot line 1 a.0 a.1 in
    let s1 = variable_slot line 2 b.0 b.1 in
    subst (IsSpelledAs (codes "insert" ∷ bare_at line 1)) z.1 (behind (codes "insert") (then_is s0.0 (then_is s1.0 z.0)), (s0.1, s1.1))

remove_taken : (line : PlacedLine) (command : Command) → remove_at line ≡ Ok command → IsSpelledAs (codes "remove" ∷ bare_at line 1) command
unfolding remove_at
remove_taken line command e =
    let a = bind_ok (place_at line 1) (λ place. variable_at line 2 >>= λ item. if_ended line 3 (commands.Remove place.0 place.1 item)) command e in
    let b = bind_ok (variable_at line 2) (λ item. if_ended line 3 (commands.Remove a.0.0 a.0.1 item)) command a.2 in
    let z = ended_taken line 3 (commands.Remove a.0.0 a.0.1 b.0) command b.2 in
    let s0 = place_slot line 1 a.0 a.1 in
    let s1 = variable_slot line 2 b.0 b.1 in
    subst (IsSpelledAs (codes "remove" ∷ bare_at line 1)) z.1 (behind (codes "remove") (then_is s0.0 (then_is s1.0 z.0)), (s0.1, s1.1))

members_taken : (line : PlacedLine) (command : Command) → members_at line ≡ Ok command → IsSpelledAs (codes "members" ∷ bare_at line 1) command
unfolding members_at
members_taken line command e =
    let a = bind_ok (place_at line 1) (λ place. if_ended line 2 (commands.Members place.0 place.1)) command e in
    let z = ended_taken line 2 (commands.Members a.0.0 a.0.1) command a.2 in
    let s0 = place_slot line 1 a.0 a.1 in
    subst (IsSpelledAs (codes "members" ∷ bare_at line 1)) z.1 (behind (codes "members") (then_is s0.0 z.0), s0.1)

size_taken : (line : PlacedLine) (command : Command) → size_at line ≡ Ok command → IsSpelledAs (codes "size" ∷ bare_at line 1) command
unfolding size_at
size_taken line command e =
    let a = bind_ok (place_at line 1) (λ place. if_ended line 2 (commands.Size place.0 place.1)) command e in
    let z = ended_taken line 2 (commands.Size a.0.0 a.0.1) command a.2 in
    let s0 = place_slot line 1 a.0 a.1 in
    subst (IsSpelledAs (codes "size" ∷ bare_at line 1)) z.1 (behind (codes "size") (then_is s0.0 z.0), s0.1)

append_taken : (line : PlacedLine) (command : Command) → append_at line ≡ Ok command → IsSpelledAs (codes "append" ∷ bare_at line 1) command
unfolding append_at
append_taken line command e =
    let a = bind_ok (place_at line 1) (λ place. variable_at line 2 >>= λ item. if_ended line 3 (commands.Append place.0 place.1 item)) command e in
    let b = bind_ok (variable_at line 2) (λ item. if_ended line 3 (commands.Append a.0.0 a.0.1 item)) command a.2 in
    let z = ended_taken line 3 (commands.Append a.0.0 a.0.1 b.0) command b.2 in
    let s0 = place_slot line 1 a.0 a.1 in
    let s1 = variable_slot line 2 b.0 b.1 in
    subst (IsSpelledAs (codes "append" ∷ bare_at line 1)) z.1 (behind (codes "append") (then_is s0.0 (then_is s1.0 z.0)), (s0.1, s1.1))

put_taken : (line : PlacedLine) (command : Command) → put_at line ≡ Ok command → IsSpelledAs (codes "put" ∷ bare_at line 1) command
unfolding put_at
put_taken line command e =
    let a = bind_ok (place_at line 1) (λ place. says_at index_of line 2 >>= λ index. variable_at line 3 >>= λ item. if_ended line 4 (commands.Put place.0 place.1 index item)) command e in
    let b = bind_ok (says_at index_of line 2) (λ index. variable_at line 3 >>= λ item. if_ended line 4 (commands.Put a.0.0 a.0.1 index item)) command a.2 in
    let c = bind_ok (variable_at line 3) (λ item. if_ended line 4 (commands.Put a.0.0 a.0.1 b.0 item)) command b.2 in
    let z = ended_taken line 4 (commands.Put a.0.0 a.0.1 b.0 c.0) command c.2 in
    let s0 = place_slot line 1 a.0 a.1 in
    let s1 = index_slot line 2 b.0 b.1 in
    let s2 = variable_slot line 3 c.0 c.1 in
    subst (IsSpelledAs (codes "put" ∷ bare_at line 1)) z.1 (behind (codes "put") (then_is s0.0 (then_is s1.0 (then_is s2.0 z.0))), (s0.1, s1.1, s2.1))

at_taken : (line : PlacedLine) (command : Command) → at_at line ≡ Ok command → IsSpelledAs (codes "at" ∷ bare_at line 1) command
unfolding at_at
at_taken line command e =
    let a = bind_ok (variable_at line 1) (λ to. place_at line 2 >>= λ place. says_at index_of line 3 >>= λ index. if_ended line 4 (commands.At to place.0 place.1 index)) command e in
    let b = bind_ok (place_at line 2) (λ place. says_at index_of line 3 >>= λ index. if_ended line 4 (commands.At a.0 place.0 place.1 index)) command a.2 in
    let c = bind_ok (says_at index_of line 3) (λ index. if_ended line 4 (commands.At a.0 b.0.0 b.0.1 index)) command b.2 in
    let z = ended_taken line 4 (commands.At a.0 b.0.0 b.0.1 c.0) command c.2 in
    let s0 = variable_slot line 1 a.0 a.1 in
    let s1 = place_slot line 2 b.0 b.1 in
    let s2 = index_slot line 3 c.0 c.1 in
    subst (IsSpelledAs (codes "at" ∷ bare_at line 1)) z.1 (behind (codes "at") (then_is s0.0 (then_is s1.0 (then_is s2.0 z.0))), (s0.1, s1.1, s2.1))

bind_taken : (line : PlacedLine) (command : Command) → bind_at line ≡ Ok command → IsSpelledAs (codes "bind" ∷ bare_at line 1) command
unfolding bind_at
bind_taken line command e =
    let a = bind_ok (place_at line 1) (λ place. key_at line 2 >>= λ key. variable_at line 3 >>= λ item. if_ended line 4 (commands.Bind place.0 place.1 key item)) command e in
    let b = bind_ok (key_at line 2) (λ key. variable_at line 3 >>= λ item. if_ended line 4 (commands.Bind a.0.0 a.0.1 key item)) command a.2 in
    let c = bind_ok (variable_at line 3) (λ item. if_ended line 4 (commands.Bind a.0.0 a.0.1 b.0 item)) command b.2 in
    let z = ended_taken line 4 (commands.Bind a.0.0 a.0.1 b.0 c.0) command c.2 in
    let s0 = place_slot line 1 a.0 a.1 in
    let s1 = key_slot line 2 b.0 b.1 in
    let s2 = variable_slot line 3 c.0 c.1 in
    subst (IsSpelledAs (codes "bind" ∷ bare_at line 1)) z.1 (behind (codes "bind") (then_is s0.0 (then_is s1.0 (then_is s2.0 z.0))), (s0.1, s1.1, s2.1))

look_taken : (line : PlacedLine) (command : Command) → look_at line ≡ Ok command → IsSpelledAs (codes "look" ∷ bare_at line 1) command
unfolding look_at
look_taken line command e =
    let a = bind_ok (variable_at line 1) (λ to. place_at line 2 >>= λ place. key_at line 3 >>= λ key. if_ended line 4 (commands.Look to place.0 place.1 key)) command e in
    let b = bind_ok (place_at line 2) (λ place. key_at line 3 >>= λ key. if_ended line 4 (commands.Look a.0 place.0 place.1 key)) command a.2 in
    let c = bind_ok (key_at line 3) (λ key. if_ended line 4 (commands.Look a.0 b.0.0 b.0.1 key)) command b.2 in
    let z = ended_taken line 4 (commands.Look a.0 b.0.0 b.0.1 c.0) command c.2 in
    let s0 = variable_slot line 1 a.0 a.1 in
    let s1 = place_slot line 2 b.0 b.1 in
    let s2 = key_slot line 3 c.0 c.1 in
    subst (IsSpelledAs (codes "look" ∷ bare_at line 1)) z.1 (behind (codes "look") (then_is s0.0 (then_is s1.0 (then_is s2.0 z.0))), (s0.1, s1.1, s2.1))

unbind_taken : (line : PlacedLine) (command : Command) → unbind_at line ≡ Ok command → IsSpelledAs (codes "unbind" ∷ bare_at line 1) command
unfolding unbind_at
unbind_taken line command e =
    let a = bind_ok (place_at line 1) (λ place. key_at line 2 >>= λ key. if_ended line 3 (commands.Unbind place.0 place.1 key)) command e in
    let b = bind_ok (key_at line 2) (λ key. if_ended line 3 (commands.Unbind a.0.0 a.0.1 key)) command a.2 in
    let z = ended_taken line 3 (commands.Unbind a.0.0 a.0.1 b.0) command b.2 in
    let s0 = place_slot line 1 a.0 a.1 in
    let s1 = key_slot line 2 b.0 b.1 in
    subst (IsSpelledAs (codes "unbind" ∷ bare_at line 1)) z.1 (behind (codes "unbind") (then_is s0.0 (then_is s1.0 z.0)), (s0.1, s1.1))

index_taken : (line : PlacedLine) (command : Command) → index_at line ≡ Ok command → IsSpelledAs (codes "index" ∷ bare_at line 1) command
unfolding index_at
index_taken line command e =
    let a = bind_ok (place_at line 1) (λ place. says_at path_of line 2 >>= λ path. if_ended line 3 (commands.Index place.0 place.1 path)) command e in
    let b = bind_ok (says_at path_of line 2) (λ path. if_ended line 3 (commands.Index a.0.0 a.0.1 path)) command a.2 in
    let z = ended_taken line 3 (commands.Index a.0.0 a.0.1 b.0) command b.2 in
    let s0 = place_slot line 1 a.0 a.1 in
    let s1 = path_slot line 2 b.0 b.1 in
    subst (IsSpelledAs (codes "index" ∷ bare_at line 1)) z.1 (behind (codes "index") (then_is s0.0 (then_is s1.0 z.0)), (s0.1, s1.1))

unindex_taken : (line : PlacedLine) (command : Command) → unindex_at line ≡ Ok command → IsSpelledAs (codes "unindex" ∷ bare_at line 1) command
unfolding unindex_at
unindex_taken line command e =
    let a = bind_ok (place_at line 1) (λ place. says_at path_of line 2 >>= λ path. if_ended line 3 (commands.Unindex place.0 place.1 path)) command e in
    let b = bind_ok (says_at path_of line 2) (λ path. if_ended line 3 (commands.Unindex a.0.0 a.0.1 path)) command a.2 in
    let z = ended_taken line 3 (commands.Unindex a.0.0 a.0.1 b.0) command b.2 in
    let s0 = place_slot line 1 a.0 a.1 in
    let s1 = path_slot line 2 b.0 b.1 in
    subst (IsSpelledAs (codes "unindex" ∷ bare_at line 1)) z.1 (behind (codes "unindex") (then_is s0.0 (then_is s1.0 z.0)), (s0.1, s1.1))

query_taken : (line : PlacedLine) (command : Command) → query_at line ≡ Ok command → IsSpelledAs (codes "query" ∷ bare_at line 1) command
unfolding query_at
query_taken line command e =
    let a = bind_ok (place_at line 1) (λ place. says_at path_of line 2 >>= λ path. says_at op_of line 3 >>= λ op. key_at line 4 >>= λ key. if_ended line 5 (commands.Query place.0 place.1 path op key)) command e in
    let b = bind_ok (says_at path_of line 2) (λ path. says_at op_of line 3 >>= λ op. key_at line 4 >>= λ key. if_ended line 5 (commands.Query a.0.0 a.0.1 path op key)) command a.2 in
    let c = bind_ok (says_at op_of line 3) (λ op. key_at line 4 >>= λ key. if_ended line 5 (commands.Query a.0.0 a.0.1 b.0 op key)) command b.2 in
    let d = bind_ok (key_at line 4) (λ key. if_ended line 5 (commands.Query a.0.0 a.0.1 b.0 c.0 key)) command c.2 in
    let z = ended_taken line 5 (commands.Query a.0.0 a.0.1 b.0 c.0 d.0) command d.2 in
    let s0 = place_slot line 1 a.0 a.1 in
    let s1 = path_slot line 2 b.0 b.1 in
    let s2 = op_slot line 3 c.0 c.1 in
    let s3 = key_slot line 4 d.0 d.1 in
    subst (IsSpelledAs (codes "query" ∷ bare_at line 1)) z.1 (behind (codes "query") (then_is s0.0 (then_is s1.0 (then_is s2.0 (then_is s3.0 z.0)))), (s0.1, s1.1, s3.1))

collection_command_taken : (line : PlacedLine) (at : ℕ) (verb : List ℕ) (command : Command) → collection_command_at line at verb ≡ Ok command → IsSpelledAs (verb ∷ bare_at line 1) command
unfolding collection_command_at
collection_command_taken line at verb command e =
    let P = λ (b : List ℕ). IsSpelledAs (b ∷ bare_at line 1) command in
    choice verb (codes "at") (at_at line) _ (Ok command) P e (at_taken line command)
    (λ e. choice verb (codes "bind") (bind_at line) _ (Ok command) P e (bind_taken line command)
    (λ e. choice verb (codes "look") (look_at line) _ (Ok command) P e (look_taken line command)
    (λ e. choice verb (codes "unbind") (unbind_at line) _ (Ok command) P e (unbind_taken line command)
    (λ e. choice verb (codes "index") (index_at line) _ (Ok command) P e (index_taken line command)
    (λ e. choice verb (codes "unindex") (unindex_at line) _ (Ok command) P e (unindex_taken line command)
    (λ e. choice verb (codes "query") (query_at line) _ (Ok command) P e (query_taken line command)
    (λ e. fault_taken at command e)))))))

member_command_taken : (line : PlacedLine) (at : ℕ) (verb : List ℕ) (command : Command) → member_command_at line at verb ≡ Ok command → IsSpelledAs (verb ∷ bare_at line 1) command
unfolding member_command_at
member_command_taken line at verb command e =
    let P = λ (b : List ℕ). IsSpelledAs (b ∷ bare_at line 1) command in
    choice verb (codes "follow") (follow_at line) _ (Ok command) P e (follow_taken line command)
    (λ e. choice verb (codes "insert") (insert_at line) _ (Ok command) P e (insert_taken line command)
    (λ e. choice verb (codes "remove") (remove_at line) _ (Ok command) P e (remove_taken line command)
    (λ e. choice verb (codes "members") (members_at line) _ (Ok command) P e (members_taken line command)
    (λ e. choice verb (codes "size") (size_at line) _ (Ok command) P e (size_taken line command)
    (λ e. choice verb (codes "append") (append_at line) _ (Ok command) P e (append_taken line command)
    (λ e. choice verb (codes "put") (put_at line) _ (Ok command) P e (put_taken line command)
    (λ e. collection_command_taken line at verb command e)))))))

pub command_taken : (line : PlacedLine) (at : ℕ) (verb : List ℕ) (command : Command) → command_by line at verb ≡ Ok command → IsSpelledAs (verb ∷ bare_at line 1) command
unfolding command_by
command_taken line at verb command e =
    let P = λ (b : List ℕ). IsSpelledAs (b ∷ bare_at line 1) command in
    choice verb (codes "get") (get_at line) _ (Ok command) P e (get_taken line command)
    (λ e. choice verb (codes "set") (set_at line) _ (Ok command) P e (set_taken line command)
    (λ e. choice verb (codes "new") (new_at line) _ (Ok command) P e (new_taken line command)
    (λ e. choice verb (codes "find") (find_at line) _ (Ok command) P e (find_taken line command)
    (λ e. choice verb (codes "root") (root_at line) _ (Ok command) P e (root_taken line command)
    (λ e. choice verb (codes "setroot") (set_root_at line) _ (Ok command) P e (set_root_taken line command)
    (λ e. choice verb (codes "delete") (delete_at line) _ (Ok command) P e (delete_taken line command)
    (λ e. member_command_taken line at verb command e)))))))
