-- Commands: what is spelled is read.
use Rattle.std.proofs.Common.{◌≡◌, ℕ, List, [], ◌∷◌, decimal, Option, Ok}
use Rattle.ostore_text_words.specs.Lines.{PlacedLine}
use Rattle.ostore_text_words.proofs.LineWordLaws.{bare_at, identifier_again, ended_again}
use Rattle.ostore_graph_model.specs.declared.values.Name.{Name}
use Rattle.ostore_graph_model.specs.declared.commands.Command.{Command}
use Rattle.ostore_graph_model.specs.declared.commands.Command.TheVariants as commands
use Rattle.ostore_graph_model.specs.declared.commands.Operand.{Operand}
use Rattle.ostore_graph_model.specs.declared.commands.Key.{Key}
use Rattle.ostore_graph_model.specs.declared.commands.Op.{Op}
use Rattle.ostore_command_text.specs.CommandWords.{variable, place, name_word, path_word, operand_word, key_word, op_word, item_word, command_words}
use Rattle.ostore_command_text.specs.CommandsSaid.{new_at, find_at, root_at, set_root_at, get_at, set_at, follow_at, delete_at, insert_at, remove_at, members_at, size_at, append_at, put_at, at_at, bind_at, look_at, unbind_at, index_at, unindex_at, query_at, collection_command_at, member_command_at, command_by}
use Rattle.ostore_command_text.specs.LawfulCommands.{IsLawfulCommand}
use Rattle.ostore_command_text.proofs.WordAgain.{variable_again, place_again, segment_again, list_index_again, name_again, path_again, op_again, operand_again, key_again, item_again}

-- the words behind the verb
abbrev pub behind_verb : List (List ℕ) → List (List ℕ)
behind_verb [] = []
behind_verb (verb ∷ words) = words

-- the line has the command's words behind its first
abbrev pub AreBehind : PlacedLine → Command → Type 0
AreBehind line command = bare_at line 1 ≡ behind_verb (command_words command)

new_again : (line : PlacedLine) (to ty : List ℕ) (segment : ℕ) → AreBehind line (commands.New to ty segment) → IsLawfulCommand (commands.New to ty segment) → new_at line ≡ Ok (commands.New to ty segment)
unfolding new_at
new_again line to ty segment e h =
    let s0 = variable_again line 1 to (ty ∷ decimal segment ∷ []) e h.0 in
    let s1 = identifier_again line 2 ty (decimal segment ∷ []) s0.1 h.1 in
    let s2 = segment_again line 3 segment [] s1.3 h.2 h.3 in
    rw (s0.0, s1.1, s1.2, s2.0) (ended_again line 4 (commands.New to ty segment) s2.1)

find_again : (line : PlacedLine) (to : List ℕ) (name : Name) → AreBehind line (commands.Find to name) → IsLawfulCommand (commands.Find to name) → find_at line ≡ Ok (commands.Find to name)
unfolding find_at
find_again line to name e h =
    let s0 = variable_again line 1 to (name_word name ∷ []) e h.0 in
    let s1 = name_again line 2 name [] s0.1 h.1 in
    rw (s0.0, s1.0) (ended_again line 3 (commands.Find to name) s1.1)

root_again : (line : PlacedLine) (to root : List ℕ) → AreBehind line (commands.Root to root) → IsLawfulCommand (commands.Root to root) → root_at line ≡ Ok (commands.Root to root)
unfolding root_at
root_again line to root e h =
    let s0 = variable_again line 1 to (root ∷ []) e h.0 in
    let s1 = identifier_again line 2 root [] s0.1 h.1 in
    rw (s0.0, s1.1, s1.2) (ended_again line 3 (commands.Root to root) s1.3)

set_root_again : (line : PlacedLine) (root : List ℕ) (item : Option (List ℕ)) → AreBehind line (commands.SetRoot root item) → IsLawfulCommand (commands.SetRoot root item) → set_root_at line ≡ Ok (commands.SetRoot root item)
unfolding set_root_at
set_root_again line root item e h =
    let s0 = identifier_again line 1 root (item_word item ∷ []) e h.0 in
    let s1 = item_again line 2 item [] s0.3 h.1 in
    rw (s0.1, s0.2, s1.0) (ended_again line 3 (commands.SetRoot root item) s1.1)

get_again : (line : PlacedLine) (object member : List ℕ) → AreBehind line (commands.Get object member) → IsLawfulCommand (commands.Get object member) → get_at line ≡ Ok (commands.Get object member)
unfolding get_at
get_again line object member e h =
    let s0 = place_again line 1 object member [] e h in
    rw (s0.0) (ended_again line 2 (commands.Get object member) s0.1)

set_again : (line : PlacedLine) (object member : List ℕ) (value : Operand) → AreBehind line (commands.Set object member value) → IsLawfulCommand (commands.Set object member value) → set_at line ≡ Ok (commands.Set object member value)
unfolding set_at
set_again line object member value e h =
    let s0 = place_again line 1 object member (operand_word value ∷ []) e h.0 in
    let s1 = operand_again line 2 value [] s0.1 h.1 in
    rw (s0.0, s1.0) (ended_again line 3 (commands.Set object member value) s1.1)

follow_again : (line : PlacedLine) (to object member : List ℕ) → AreBehind line (commands.Follow to object member) → IsLawfulCommand (commands.Follow to object member) → follow_at line ≡ Ok (commands.Follow to object member)
unfolding follow_at
follow_again line to object member e h =
    let s0 = variable_again line 1 to (place object member ∷ []) e h.0 in
    let s1 = place_again line 2 object member [] s0.1 h.1 in
    rw (s0.0, s1.0) (ended_again line 3 (commands.Follow to object member) s1.1)

delete_again : (line : PlacedLine) (object : List ℕ) → AreBehind line (commands.Delete object) → IsLawfulCommand (commands.Delete object) → delete_at line ≡ Ok (commands.Delete object)
unfolding delete_at
delete_again line object e h =
    let s0 = variable_again line 1 object [] e h in
    rw (s0.0) (ended_again line 2 (commands.Delete object) s0.1)

insert_again : (line : PlacedLine) (object member item : List ℕ) → AreBehind line (commands.Insert object member item) → IsLawfulCommand (commands.Insert object member item) → insert_at line ≡ Ok (commands.Insert object member item)
unfolding insert_at
insert_again line object member item e h =
    let s0 = place_again line 1 object member (variable item ∷ []) e h.0 in
    let s1 = variable_again line 2 item [] s0.1 h.1 in
    rw (s0.0, s1.0) (ended_again line 3 (commands.Insert object member item) s1.1)

remove_again : (line : PlacedLine) (object member item : List ℕ) → AreBehind line (commands.Remove object member item) → IsLawfulCommand (commands.Remove object member item) → remove_at line ≡ Ok (commands.Remove object member item)
unfolding remove_at
remove_again line object member item e h =
    let s0 = place_again line 1 object member (variable item ∷ []) e h.0 in
    let s1 = variable_again line 2 item [] s0.1 h.1 in
    rw (s0.0, s1.0) (ended_again line 3 (commands.Remove object member item) s1.1)

members_again : (line : PlacedLine) (object member : List ℕ) → AreBehind line (commands.Members object member) → IsLawfulCommand (commands.Members object member) → members_at line ≡ Ok (commands.Members object member)
unfolding members_at
members_again line object member e h =
    let s0 = place_again line 1 object member [] e h in
    rw (s0.0) (ended_again line 2 (commands.Members object member) s0.1)

size_again : (line : PlacedLine) (object member : List ℕ) → AreBehind line (commands.Size object member) → IsLawfulCommand (commands.Size object member) → size_at line ≡ Ok (commands.Size object member)
unfolding size_at
size_again line object member e h =
    let s0 = place_again line 1 object member [] e h in
    rw (s0.0) (ended_again line 2 (commands.Size object member) s0.1)

append_again : (line : PlacedLine) (object member item : List ℕ) → AreBehind line (commands.Append object member item) → IsLawfulCommand (commands.Append object member item) → append_at line ≡ Ok (commands.Append object member item)
unfolding append_at
append_again line object member item e h =
    let s0 = place_again line 1 object member (variable item ∷ []) e h.0 in
    let s1 = variable_again line 2 item [] s0.1 h.1 in
    rw (s0.0, s1.0) (ended_again line 3 (commands.Append object member item) s1.1)

put_again : (line : PlacedLine) (object member : List ℕ) (index : ℕ) (item : List ℕ) → AreBehind line (commands.Put object member index item) → IsLawfulCommand (commands.Put object member index item) → put_at line ≡ Ok (commands.Put object member index item)
unfolding put_at
put_again line object member index item e h =
    let s0 = place_again line 1 object member (decimal index ∷ variable item ∷ []) e h.0 in
    let s1 = list_index_again line 2 index (variable item ∷ []) s0.1 h.1 in
    let s2 = variable_again line 3 item [] s1.1 h.2 in
    rw (s0.0, s1.0, s2.0) (ended_again line 4 (commands.Put object member index item) s2.1)

at_again : (line : PlacedLine) (to object member : List ℕ) (index : ℕ) → AreBehind line (commands.At to object member index) → IsLawfulCommand (commands.At to object member index) → at_at line ≡ Ok (commands.At to object member index)
unfolding at_at
at_again line to object member index e h =
    let s0 = variable_again line 1 to (place object member ∷ decimal index ∷ []) e h.0 in
    let s1 = place_again line 2 object member (decimal index ∷ []) s0.1 h.1 in
    let s2 = list_index_again line 3 index [] s1.1 h.2 in
    rw (s0.0, s1.0, s2.0) (ended_again line 4 (commands.At to object member index) s2.1)

bind_again : (line : PlacedLine) (object member : List ℕ) (key : Key) (item : List ℕ) → AreBehind line (commands.Bind object member key item) → IsLawfulCommand (commands.Bind object member key item) → bind_at line ≡ Ok (commands.Bind object member key item)
unfolding bind_at
bind_again line object member key item e h =
    let s0 = place_again line 1 object member (key_word key ∷ variable item ∷ []) e h.0 in
    let s1 = key_again line 2 key (variable item ∷ []) s0.1 h.1 in
    let s2 = variable_again line 3 item [] s1.1 h.2 in
    rw (s0.0, s1.0, s2.0) (ended_again line 4 (commands.Bind object member key item) s2.1)

look_again : (line : PlacedLine) (to object member : List ℕ) (key : Key) → AreBehind line (commands.Look to object member key) → IsLawfulCommand (commands.Look to object member key) → look_at line ≡ Ok (commands.Look to object member key)
unfolding look_at
look_again line to object member key e h =
    let s0 = variable_again line 1 to (place object member ∷ key_word key ∷ []) e h.0 in
    let s1 = place_again line 2 object member (key_word key ∷ []) s0.1 h.1 in
    let s2 = key_again line 3 key [] s1.1 h.2 in
    rw (s0.0, s1.0, s2.0) (ended_again line 4 (commands.Look to object member key) s2.1)

unbind_again : (line : PlacedLine) (object member : List ℕ) (key : Key) → AreBehind line (commands.Unbind object member key) → IsLawfulCommand (commands.Unbind object member key) → unbind_at line ≡ Ok (commands.Unbind object member key)
unfolding unbind_at
unbind_again line object member key e h =
    let s0 = place_again line 1 object member (key_word key ∷ []) e h.0 in
    let s1 = key_again line 2 key [] s0.1 h.1 in
    rw (s0.0, s1.0) (ended_again line 3 (commands.Unbind object member key) s1.1)

index_again : (line : PlacedLine) (object member : List ℕ) (path : List (List ℕ)) → AreBehind line (commands.Index object member path) → IsLawfulCommand (commands.Index object member path) → index_at line ≡ Ok (commands.Index object member path)
unfolding index_at
index_again line object member path e h =
    let s0 = place_again line 1 object member (path_word path ∷ []) e h.0 in
    let s1 = path_again line 2 path [] s0.1 h.1 in
    rw (s0.0, s1.0) (ended_again line 3 (commands.Index object member path) s1.1)

unindex_again : (line : PlacedLine) (object member : List ℕ) (path : List (List ℕ)) → AreBehind line (commands.Unindex object member path) → IsLawfulCommand (commands.Unindex object member path) → unindex_at line ≡ Ok (commands.Unindex object member path)
unfolding unindex_at
unindex_again line object member path e h =
    let s0 = place_again line 1 object member (path_word path ∷ []) e h.0 in
    let s1 = path_again line 2 path [] s0.1 h.1 in
    rw (s0.0, s1.0) (ended_again line 3 (commands.Unindex object member path) s1.1)

query_again : (line : PlacedLine) (object member : List ℕ) (path : List (List ℕ)) (op : Op) (key : Key) → AreBehind line (commands.Query object member path op key) → IsLawfulCommand (commands.Query object member path op key) → query_at line ≡ Ok (commands.Query object member path op key)
unfolding query_at
query_again line object member path op key e h =
    let s0 = place_again line 1 object member (path_word path ∷ op_word op ∷ key_word key ∷ []) e h.0 in
    let s1 = path_again line 2 path (op_word op ∷ key_word key ∷ []) s0.1 h.1 in
    let s2 = op_again line 3 op (key_word key ∷ []) s1.1 in
    let s3 = key_again line 4 key [] s2.1 h.2 in
    rw (s0.0, s1.0, s2.0, s3.0) (ended_again line 5 (commands.Query object member path op key) s3.1)

-- ---- by the verb

abbrev pub verb_of : List (List ℕ) → List ℕ
verb_of [] = []
verb_of (verb ∷ words) = verb

pub command_again : (line : PlacedLine) (at : ℕ) (command : Command) → AreBehind line command → IsLawfulCommand command → command_by line at (verb_of (command_words command)) ≡ Ok command
unfolding command_by member_command_at collection_command_at
command_again line at (commands.New to ty segment) e h = new_again line to ty segment e h
command_again line at (commands.Find to name) e h = find_again line to name e h
command_again line at (commands.Root to root) e h = root_again line to root e h
command_again line at (commands.SetRoot root item) e h = set_root_again line root item e h
command_again line at (commands.Get object member) e h = get_again line object member e h
command_again line at (commands.Set object member value) e h = set_again line object member value e h
command_again line at (commands.Follow to object member) e h = follow_again line to object member e h
command_again line at (commands.Delete object) e h = delete_again line object e h
command_again line at (commands.Insert object member item) e h = insert_again line object member item e h
command_again line at (commands.Remove object member item) e h = remove_again line object member item e h
command_again line at (commands.Members object member) e h = members_again line object member e h
command_again line at (commands.Size object member) e h = size_again line object member e h
command_again line at (commands.Append object member item) e h = append_again line object member item e h
command_again line at (commands.Put object member index item) e h = put_again line object member index item e h
command_again line at (commands.At to object member index) e h = at_again line to object member index e h
command_again line at (commands.Bind object member key item) e h = bind_again line object member key item e h
command_again line at (commands.Look to object member key) e h = look_again line to object member key e h
command_again line at (commands.Unbind object member key) e h = unbind_again line object member key e h
command_again line at (commands.Index object member path) e h = index_again line object member path e h
command_again line at (commands.Unindex object member path) e h = unindex_again line object member path e h
command_again line at (commands.Query object member path op key) e h = query_again line object member path op key e h
