-- The quoted texts of a job are UTF-8 where the words that spell it are.
use Rattle.std.proofs.Common.{◌≡◌, ℕ, List, [], ◌∷◌, ◌++◌, map, subst}
use Rattle.std.specs.List.{AllByRecursion, flat_map}
use Rattle.std.specs.Str.{IsUtf8}
use Rattle.ostore_text_words.specs.Lines.{word_lines}
use Rattle.ostore_text_words.proofs.WordsUtf8.{text_words_utf8, quoted_is_utf8}
use Rattle.ostore_graph_model.specs.declared.commands.Command.{Command}
use Rattle.ostore_graph_model.specs.declared.commands.Command.TheVariants as commands
use Rattle.ostore_graph_model.specs.declared.commands.Operand.{Operand}
use Rattle.ostore_graph_model.specs.declared.commands.Operand.TheVariants as operands
use Rattle.ostore_graph_model.specs.declared.commands.Key.{Key}
use Rattle.ostore_graph_model.specs.declared.commands.Key.TheVariants as keys
use Rattle.ostore_graph_model.specs.declared.commands.Txn.{Txn}
use Rattle.ostore_job_text.specs.declared.job.JobClient.{JobClient}
use Rattle.ostore_command_text.specs.CommandWords.{operand_word, key_word, command_words}
use Rattle.ostore_job_text.specs.Canonical.{end_line, txn_lines}
use Rattle.ostore_command_text.specs.LawfulCommands.{IsUtf8Operand, IsUtf8Key, IsUtf8Command}
use Rattle.ostore_job_text.specs.LawfulJob.{IsUtf8Txn, IsUtf8Client}
use Rattle.ostore_job_text.specs.JobSpelling.{AreClientLines}

abbrev AreUtf8Lines : List (List (List ℕ)) → Type 0
AreUtf8Lines lines = AllByRecursion (AllByRecursion IsUtf8) lines

all_parts : {X : Type 0} (P : X → Type 0) (xs ys : List X) → AllByRecursion P (xs ++ ys) → AllByRecursion P xs × AllByRecursion P ys
all_parts P [] ys h = (tt, h)
all_parts P (x ∷ xs) ys h =
    let later = all_parts P xs ys h.1 in
    ((h.0, later.0), later.1)

operand_from : (value : Operand) → IsUtf8 (operand_word value) → IsUtf8Operand value
operand_from (operands.Int value) h = tt
operand_from (operands.Text text) h = quoted_is_utf8 text h
operand_from (operands.Var name) h = tt
operand_from operands.Null h = tt

key_from : (key : Key) → IsUtf8 (key_word key) → IsUtf8Key key
key_from (keys.Int value) h = tt
key_from (keys.Text text) h = quoted_is_utf8 text h

command_from : (command : Command) → AllByRecursion IsUtf8 (command_words command) → IsUtf8Command command
command_from (commands.New to ty segment) h = tt
command_from (commands.Find to name) h = tt
command_from (commands.Root to root) h = tt
command_from (commands.SetRoot root item) h = tt
command_from (commands.Get object member) h = tt
command_from (commands.Set object member value) h = operand_from value h.1.1.0
command_from (commands.Follow to object member) h = tt
command_from (commands.Delete object) h = tt
command_from (commands.Insert object member item) h = tt
command_from (commands.Remove object member item) h = tt
command_from (commands.Members object member) h = tt
command_from (commands.Size object member) h = tt
command_from (commands.Append object member item) h = tt
command_from (commands.Put object member index item) h = tt
command_from (commands.At to object member index) h = tt
command_from (commands.Bind object member key item) h = key_from key h.1.1.0
command_from (commands.Look to object member key) h = key_from key h.1.1.1.0
command_from (commands.Unbind object member key) h = key_from key h.1.1.0
command_from (commands.Index object member path) h = tt
command_from (commands.Unindex object member path) h = tt
command_from (commands.Query object member path op key) h = key_from key h.1.1.1.1.0

commands_from : (own : List Command) → AreUtf8Lines (map command_words own) → AllByRecursion IsUtf8Command own
commands_from [] h = tt
commands_from (command ∷ own) h = (command_from command h.0, commands_from own h.1)

txns_from : (txns : List Txn) → AreUtf8Lines (flat_map txn_lines txns) → AllByRecursion IsUtf8Txn txns
txns_from [] h = tt
txns_from (txn ∷ txns) h =
    let parts = all_parts (AllByRecursion IsUtf8) (txn_lines txn) (flat_map txn_lines txns) h in
    let own = all_parts (AllByRecursion IsUtf8) (map command_words txn.commands) (end_line txn ∷ []) parts.0.1 in
    (commands_from txn.commands own.0, txns_from txns parts.1)

clients_from : (clients : List JobClient) (lines : List (List (List ℕ))) → AreClientLines clients lines → AreUtf8Lines lines → AllByRecursion IsUtf8Client clients
clients_from [] lines is h = tt
clients_from (client ∷ clients) lines is h =
    let whole = subst AreUtf8Lines is.2 h in
    let parts = all_parts (AllByRecursion IsUtf8) (flat_map txn_lines client.txns) is.1 whole.1 in
    (txns_from client.txns parts.0, clients_from clients is.1 is.4 parts.1)

-- the texts of the clients that a UTF-8 text spells
pub texts_utf8 : (text : List ℕ) (clients : List JobClient) (client_part turns_part : List (List (List ℕ))) → IsUtf8 text → word_lines text ≡ client_part ++ turns_part → AreClientLines clients client_part → AllByRecursion IsUtf8Client clients
texts_utf8 text clients client_part turns_part u parts is =
    let own = all_parts (AllByRecursion IsUtf8) client_part turns_part (subst AreUtf8Lines parts (text_words_utf8 text u)) in
    clients_from clients client_part is own.0
