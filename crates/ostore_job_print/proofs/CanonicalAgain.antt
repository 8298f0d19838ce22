-- Printing: the canonical text of a lawful job spells it.
use Rattle.std.proofs.Common.{◌≡◌, ◌≢◌, ℕ, ◌^◌, ◌<◌, ◌≤◌, Bool, true, false, ◌&&◌, eqb, cond, leb, List, [], ◌∷◌, ◌++◌, length, map, codes, decimal, Option, Some, None, refl, sym, ap, subst, ◌∙◌, arith, inl, inr}
use Rattle.std.specs.Prelude.{IfOk, Result, Ok, Err}
use Rattle.std.specs.Fmt.{signed_decimal}
use Rattle.std.specs.List.{AllByRecursion, flat_map, list_all}
use Rattle.std.specs.Str.{IsUtf8}
use Rattle.std.proofs.lemmas.Bool.{and_from, cases_Bool, eqb-true, leb-true}
use Rattle.std.proofs.lemmas.List.{append-nil, length-append}
use Rattle.std.proofs.lemmas.List.Folds.{list_all-append}
use Rattle.ostore_text_words.specs.Lines.{is_bare}
use Rattle.ostore_text_words.proofs.BareWords.{is_word_byte, is_ascii_byte, word_bytes_bare, word_bytes_ascii, identifier_bytes, decimal_bytes, signed_bytes}
use Rattle.ostore_text_words.proofs.PrintedLines.{StandsSo, bare_stands, quoted_stands, LineStands, written_lines}
use Rattle.ostore_text_words.proofs.Utf8Words.{ascii_utf8, quoted_utf8, text_utf8}
use Rattle.ostore_schema_layout.specs.Cells.{ArePairwise}
use Rattle.ostore_graph_model.specs.declared.values.Name.{Name}
use Rattle.ostore_graph_model.specs.declared.commands.Command.{Command}
use Rattle.ostore_graph_model.specs.declared.commands.Command.TheVariants as commands
use Rattle.ostore_graph_model.specs.declared.commands.Operand.{Operand}
use Rattle.ostore_graph_model.specs.declared.commands.Operand.TheVariants as operands
use Rattle.ostore_graph_model.specs.declared.commands.Key.{Key}
use Rattle.ostore_graph_model.specs.declared.commands.Key.TheVariants as keys
use Rattle.ostore_graph_model.specs.declared.commands.Op.{Op}
use Rattle.ostore_graph_model.specs.declared.commands.Op.TheVariants as ops
use Rattle.ostore_graph_model.specs.declared.commands.Txn.{Txn}
use Rattle.ostore_job_text.specs.declared.fault.JobFault.{JobFault}
use Rattle.ostore_job_text.specs.declared.fault.JobFault.TheVariants as faults
use Rattle.ostore_job_text.specs.declared.job.Job.{Job}
use Rattle.ostore_job_text.specs.declared.job.JobClient.{JobClient}
use Rattle.ostore_job_text.specs.declared.job.JobTurn.{JobTurn}
use Rattle.ostore_job_text.specs.Limits.{longest_text}
use Rattle.ostore_command_text.specs.CommandWords.{variable, place, name_word, path_word, operand_word, key_word, op_word, item_word, command_words}
use Rattle.ostore_job_text.specs.Canonical.{option_words, client_options, client_line, end_line, txn_lines, client_lines, name_of_client, client_name, turn_word, turns_line, turns_lines, canonical_lines, canonical_text}
use Rattle.ostore_command_text.specs.LawfulCommands.{IsIdent, IsLawfulName, IsLawfulOperand, IsLawfulKey, IsLawfulItem, IsLawfulPath, IsLawfulPlace, IsLawfulCommand, IsUtf8Operand, IsUtf8Key, IsUtf8Command}
use Rattle.ostore_job_text.specs.LawfulJob.{Setting, tries, cache, frames, setting_default, setting_of, IsUtf8Txn, IsUtf8Client, IsLawfulTxn, IsLawfulClient, IsLawfulTurn, IsLawfulJob}
use Rattle.ostore_job_text.specs.JobSpelling.{setting_words, IsClientLine, AreClientLines, IsEntryWord, AreEntryWords, IsTurnsLine, AreTurnsLines, SpellsJob}
use Rattle.ostore_job_text.specs.ParsedJob.{parsed_from, parsed_job}
use Rattle.ostore_job_print.specs.ReadBack.{IsReadBackIfLawful}
use Rattle.ostore_job_text.proofs.OptionTaken.{all_join}
use Rattle.ostore_job_text.proofs.TurnAgain.{at_place, there}
use Rattle.ostore_job_text.proofs.JobAgain.{spelled_again}

-- ---- words that are printed

-- the word stands in a text as it is, and is UTF-8
abbrev Prints : List ℕ → Type 0
Prints word = StandsSo word × IsUtf8 word

abbrev LinePrints : List (List ℕ) → Type 0
LinePrints line = (0 < length line) × AllByRecursion Prints line

words_stand : (line : List (List ℕ)) → AllByRecursion Prints line → AllByRecursion StandsSo line
words_stand [] h = tt
words_stand (word ∷ line) h = (h.0.0, words_stand line h.1)

words_utf8 : (line : List (List ℕ)) → AllByRecursion Prints line → AllByRecursion IsUtf8 line
words_utf8 [] h = tt
words_utf8 (word ∷ line) h = (h.0.1, words_utf8 line h.1)

lines_stand : (lines : List (List (List ℕ))) → AllByRecursion LinePrints lines → AllByRecursion LineStands lines
lines_stand [] h = tt
lines_stand (line ∷ lines) h = ((h.0.0, words_stand line h.0.1), lines_stand lines h.1)

lines_utf8 : (lines : List (List (List ℕ))) → AllByRecursion LinePrints lines → AllByRecursion (AllByRecursion IsUtf8) lines
lines_utf8 [] h = tt
lines_utf8 (line ∷ lines) h = (words_utf8 line h.0.1, lines_utf8 lines h.1)

keyword_prints : (word : List ℕ) → is_bare word ≡ true → list_all is_ascii_byte word ≡ true → Prints word
keyword_prints word bare ascii = (bare_stands word bare, ascii_utf8 word ascii)

-- ---- words of letters, digits and marks

abbrev AreWordBytes : List ℕ → Type 0
AreWordBytes word = (0 < length word) × (list_all is_word_byte word ≡ true)

bytes_prints : (word : List ℕ) → AreWordBytes word → Prints word
bytes_prints word h = (bare_stands word (word_bytes_bare word h.0 h.1), ascii_utf8 word (word_bytes_ascii word h.1))

parted_bytes : (front back : List ℕ) (mark : ℕ) → is_word_byte mark ≡ true → AreWordBytes front → AreWordBytes back → AreWordBytes (front ++ mark ∷ back)
parted_bytes front back mark m h k =
    let long = length-append front (mark ∷ back) in
    (omega (arith, long), list_all-append is_word_byte front (mark ∷ back) ∙ and_from (list_all is_word_byte front) (is_word_byte mark && list_all is_word_byte back) h.1 (and_from (is_word_byte mark) (list_all is_word_byte back) m k.1))

variable_bytes : (name : List ℕ) → AreWordBytes name → AreWordBytes (variable name)
variable_bytes name h = (omega arith, and_from (is_word_byte 36) (list_all is_word_byte name) refl h.1)

ident_prints : (name : List ℕ) → IsIdent name → Prints name
ident_prints name h = bytes_prints name (identifier_bytes name h)

variable_prints : (name : List ℕ) → IsIdent name → Prints (variable name)
variable_prints name h = bytes_prints (variable name) (variable_bytes name (identifier_bytes name h))

place_prints : (object member : List ℕ) → IsLawfulPlace object member → Prints (place object member)
place_prints object member h = bytes_prints (place object member) (parted_bytes (variable object) member 46 refl (variable_bytes object (identifier_bytes object h.0)) (identifier_bytes member h.1))

decimal_prints : (n : ℕ) → n < 2 ^ 64 → Prints (decimal n)
decimal_prints n fits = bytes_prints (decimal n) (decimal_bytes n fits)

name_prints : (name : Name) → IsLawfulName name → Prints (name_word name)
name_prints name h = bytes_prints (name_word name) (parted_bytes (decimal name.segment) (decimal name.serial) 46 refl (decimal_bytes name.segment (omega (arith, h.1))) (decimal_bytes name.serial (omega (arith, h.3))))

path_bytes : (path : List (List ℕ)) → 1 ≤ length path → AllByRecursion IsIdent path → AreWordBytes (path_word path)
path_bytes [] some h = absurd (omega (arith, some))
path_bytes (member ∷ []) some h = subst AreWordBytes (sym (append-nil member)) (identifier_bytes member h.0)
path_bytes (member ∷ next ∷ others) some h = parted_bytes member (path_word (next ∷ others)) 46 refl (identifier_bytes member h.0) (path_bytes (next ∷ others) (omega arith) h.1)

path_prints : (path : List (List ℕ)) → IsLawfulPath path → Prints (path_word path)
path_prints path h = bytes_prints (path_word path) (path_bytes path h.0 h.2)

op_prints : (op : Op) → Prints (op_word op)
op_prints ops.Equal = keyword_prints (codes "=") refl refl
op_prints ops.Less = keyword_prints (codes "<") refl refl
op_prints ops.LessEqual = keyword_prints (codes "<=") refl refl
op_prints ops.Greater = keyword_prints (codes ">") refl refl
op_prints ops.GreaterEqual = keyword_prints (codes ">=") refl refl

operand_prints : (value : Operand) → IsLawfulOperand value → IsUtf8Operand value → Prints (operand_word value)
operand_prints (operands.Int n) h u = bytes_prints (signed_decimal n) (signed_bytes n h)
operand_prints (operands.Text text) h u = (quoted_stands text h, quoted_utf8 text u)
operand_prints (operands.Var name) h u = variable_prints name h
operand_prints operands.Null h u = keyword_prints (codes "null") refl refl

key_prints : (key : Key) → IsLawfulKey key → IsUtf8Key key → Prints (key_word key)
key_prints (keys.Int n) h u = bytes_prints (signed_decimal n) (signed_bytes n h)
key_prints (keys.Text text) h u = (quoted_stands text h, quoted_utf8 text u)

item_prints : (item : Option (List ℕ)) → IsLawfulItem item → Prints (item_word item)
item_prints None h = keyword_prints (codes "null") refl refl
item_prints (Some name) h = variable_prints name h

command_prints : (command : Command) → IsLawfulCommand command → IsUtf8Command command → AllByRecursion Prints (command_words command)
command_prints (commands.New to ty segment) h u = (keyword_prints (codes "new") refl refl, (variable_prints to h.0, (ident_prints ty h.1, (decimal_prints segment (omega (arith, h.3)), tt))))
command_prints (commands.Find to name) h u = (keyword_prints (codes "find") refl refl, (variable_prints to h.0, (name_prints name h.1, tt)))
command_prints (commands.Root to root) h u = (keyword_prints (codes "root") refl refl, (variable_prints to h.0, (ident_prints root h.1, tt)))
command_prints (commands.SetRoot root item) h u = (keyword_prints (codes "setroot") refl refl, (ident_prints root h.0, (item_prints item h.1, tt)))
command_prints (commands.Get object member) h u = (keyword_prints (codes "get") refl refl, (place_prints object member h, tt))
command_prints (commands.Set object member value) h u = (keyword_prints (codes "set") refl refl, (place_prints object member h.0, (operand_prints value h.1 u, tt)))
command_prints (commands.Follow to object member) h u = (keyword_prints (codes "follow") refl refl, (variable_prints to h.0, (place_prints object member h.1, tt)))
command_prints (commands.Delete object) h u = (keyword_prints (codes "delete") refl refl, (variable_prints object h, tt))
command_prints (commands.Insert object member item) h u = (keyword_prints (codes "insert") refl refl, (place_prints object member h.0, (variable_prints item h.1, tt)))
command_prints (commands.Remove object member item) h u = (keyword_prints (codes "remove") refl refl, (place_prints object member h.0, (variable_prints item h.1, tt)))
command_prints (commands.Members object member) h u = (keyword_prints (codes "members") refl refl, (place_prints object member h, tt))
command_prints (commands.Size object member) h u = (keyword_prints (codes "size") refl refl, (place_prints object member h, tt))
command_prints (commands.Append object member item) h u = (keyword_prints (codes "append") refl refl, (place_prints object member h.0, (variable_prints item h.1, tt)))
command_prints (commands.Put object member index item) h u = (keyword_prints (codes "put") refl refl, (place_prints object member h.0, (decimal_prints index (omega (arith, h.1)), (variable_prints item h.2, tt))))
command_prints (commands.At to object member index) h u = (keyword_prints (codes "at") refl refl, (variable_prints to h.0, (place_prints object member h.1, (decimal_prints index (omega (arith, h.2)), tt))))
command_prints (commands.Bind object member key item) h u = (keyword_prints (codes "bind") refl refl, (place_prints object member h.0, (key_prints key h.1 u, (variable_prints item h.2, tt))))
command_prints (commands.Look to object member key) h u = (keyword_prints (codes "look") refl refl, (variable_prints to h.0, (place_prints object member h.1, (key_prints key h.2 u, tt))))
command_prints (commands.Unbind object member key) h u = (keyword_prints (codes "unbind") refl refl, (place_prints object member h.0, (key_prints key h.1 u, tt)))
command_prints (commands.Index object member path) h u = (keyword_prints (codes "index") refl refl, (place_prints object member h.0, (path_prints path h.1, tt)))
command_prints (commands.Unindex object member path) h u = (keyword_prints (codes "unindex") refl refl, (place_prints object member h.0, (path_prints path h.1, tt)))
command_prints (commands.Query object member path op key) h u = (keyword_prints (codes "query") refl refl, (place_prints object member h.0, (path_prints path h.1, (op_prints op, (key_prints key h.2 u, tt)))))

-- ---- lines

some_prints : (word : List ℕ) (words : List (List ℕ)) → AllByRecursion Prints (word ∷ words) → LinePrints (word ∷ words)
some_prints word words h = (omega arith, h)

line_prints : (line : List (List ℕ)) → line ≢ [] → AllByRecursion Prints line → LinePrints line
line_prints [] some h = absurd (some refl)
line_prints (word ∷ words) some h = some_prints word words h

no_words : (command : Command) → command_words command ≢ []
no_words (commands.New to ty segment) = λ e. cc
no_words (commands.Find to name) = λ e. cc
no_words (commands.Root to root) = λ e. cc
no_words (commands.SetRoot root item) = λ e. cc
no_words (commands.Get object member) = λ e. cc
no_words (commands.Set object member value) = λ e. cc
no_words (commands.Follow to object member) = λ e. cc
no_words (commands.Delete object) = λ e. cc
no_words (commands.Insert object member item) = λ e. cc
no_words (commands.Remove object member item) = λ e. cc
no_words (commands.Members object member) = λ e. cc
no_words (commands.Size object member) = λ e. cc
no_words (commands.Append object member item) = λ e. cc
no_words (commands.Put object member index item) = λ e. cc
no_words (commands.At to object member index) = λ e. cc
no_words (commands.Bind object member key item) = λ e. cc
no_words (commands.Look to object member key) = λ e. cc
no_words (commands.Unbind object member key) = λ e. cc
no_words (commands.Index object member path) = λ e. cc
no_words (commands.Unindex object member path) = λ e. cc
no_words (commands.Query object member path op key) = λ e. cc

commands_print : (own : List Command) → AllByRecursion IsLawfulCommand own → AllByRecursion IsUtf8Command own → AllByRecursion LinePrints (map command_words own)
commands_print [] h u = tt
commands_print (command ∷ own) h u = (line_prints (command_words command) (no_words command) (command_prints command h.0 u.0), commands_print own h.1 u.1)

begin_prints : (update : Bool) → LinePrints (cond update (codes "begin") (codes "read") ∷ [])
begin_prints true = some_prints (codes "begin") [] (keyword_prints (codes "begin") refl refl, tt)
begin_prints false = some_prints (codes "read") [] (keyword_prints (codes "read") refl refl, tt)

end_prints : (aborts : Bool) → LinePrints (cond aborts (codes "abort") (codes "commit") ∷ [])
end_prints true = some_prints (codes "abort") [] (keyword_prints (codes "abort") refl refl, tt)
end_prints false = some_prints (codes "commit") [] (keyword_prints (codes "commit") refl refl, tt)

txns_print : (txns : List Txn) → AllByRecursion IsLawfulTxn txns → AllByRecursion IsUtf8Txn txns → AllByRecursion LinePrints (flat_map txn_lines txns)
txns_print [] h u = tt
txns_print (txn ∷ txns) h u =
    (begin_prints txn.update, all_join LinePrints (map command_words txn.commands ++ end_line txn ∷ []) (flat_map txn_lines txns) (all_join LinePrints (map command_words txn.commands) (end_line txn ∷ []) (commands_print txn.commands h.0 u.0) (end_prints txn.aborts, tt)) (txns_print txns h.1 u.1))

option_prints : (name : List ℕ) (default value : ℕ) → Prints name → value < 2 ^ 64 → AllByRecursion Prints (option_words name default value)
option_prints name default value s fits =
    elim (cases_Bool (eqb value default)) [
      | inl same ↦ rw same tt
      | inr other ↦ rw other (s, (decimal_prints value fits, tt))
    ]

client_prints : (client : JobClient) → IsLawfulClient client → LinePrints (client_line client)
client_prints client h =
    let t = option_prints (codes "tries") 16 client.tries (keyword_prints (codes "tries") refl refl) (omega (arith, (h.settings tries).1)) in
    let c = option_prints (codes "cache") 256 client.cache (keyword_prints (codes "cache") refl refl) (omega (arith, (h.settings cache).1)) in
    let f = option_prints (codes "frames") 65536 client.frames (keyword_prints (codes "frames") refl refl) (omega (arith, (h.settings frames).1)) in
    let ts = option_words (codes "tries") 16 client.tries in
    let cs = option_words (codes "cache") 256 client.cache in
    let fs = option_words (codes "frames") 65536 client.frames in
    some_prints (codes "client") (client.name ∷ client_options client) (keyword_prints (codes "client") refl refl, (ident_prints client.name h.named, all_join Prints (ts ++ cs) fs (all_join Prints ts cs t c) f))

clients_print : (clients : List JobClient) → AllByRecursion IsLawfulClient clients → AllByRecursion IsUtf8Client clients → AllByRecursion LinePrints (flat_map client_lines clients)
clients_print [] h u = tt
clients_print (client ∷ clients) h u =
    (client_prints client h.0, all_join LinePrints (flat_map txn_lines client.txns) (flat_map client_lines clients) (txns_print client.txns h.0.lawful_txns u.0) (clients_print clients h.1 u.1))

turn_named : (clients : List JobClient) (turn : JobTurn) → AllByRecursion IsLawfulClient clients → IsLawfulTurn clients turn → IsIdent (client_name clients turn.client)
turn_named clients turn named h =
    let c = there clients turn.client.0 h.0 in
    let name : client_name clients turn.client ≡ c.0.name = ap name_of_client c.1 in
    subst IsIdent (sym name) (at_place IsLawfulClient clients turn.client.0 c.0 named c.1).named

turn_prints : (clients : List JobClient) (turn : JobTurn) → AllByRecursion IsLawfulClient clients → IsLawfulTurn clients turn → Prints (turn_word clients turn)
turn_prints clients turn named h =
    let name = turn_named clients turn named h in
    elim (cases_Bool (eqb turn.count 1)) [
      | inl same ↦ rw same (subst Prints (sym (append-nil (client_name clients turn.client))) (ident_prints (client_name clients turn.client) name))
      | inr other ↦ rw other (bytes_prints (client_name clients turn.client ++ 42 ∷ decimal turn.count) (parted_bytes (client_name clients turn.client) (decimal turn.count) 42 refl (identifier_bytes (client_name clients turn.client) name) (decimal_bytes turn.count (omega (arith, h.2)))))
    ]

entries_print : (clients : List JobClient) (turns : List JobTurn) → AllByRecursion IsLawfulClient clients → AllByRecursion (IsLawfulTurn clients) turns → AllByRecursion Prints (map (turn_word clients) turns)
entries_print clients [] named h = tt
entries_print clients (turn ∷ turns) named h = (turn_prints clients turn named h.0, entries_print clients turns named h.1)

turns_print : (clients : List JobClient) (turns : List JobTurn) → AllByRecursion IsLawfulClient clients → AllByRecursion (IsLawfulTurn clients) turns → AllByRecursion LinePrints (turns_lines clients turns)
turns_print clients [] named h = tt
turns_print clients (turn ∷ turns) named h = (some_prints (codes "turns") (map (turn_word clients) (turn ∷ turns)) (keyword_prints (codes "turns") refl refl, entries_print clients (turn ∷ turns) named h), tt)

-- ---- spelled

abbrev given_if : Bool → Setting → List Setting
given_if same setting = cond same [] (setting ∷ [])

-- the options that aren't at their defaults
abbrev given_of : JobClient → List Setting
given_of client = given_if (eqb client.tries 16) tries ++ given_if (eqb client.cache 256) cache ++ given_if (eqb client.frames 65536) frames

record Given (client : JobClient) (given : List Setting) : Type 0 where
  once : ArePairwise (λ one other. one ≢ other) given
  words : client_options client ≡ flat_map (setting_words client) given
  others : (setting : Setting) → AllByRecursion (λ other. other ≢ setting) given → setting_of client setting ≡ setting_default setting

-- an option that is there, or at its default
abbrev IsEither : JobClient → Setting → Bool → Type 0
IsEither client setting same = same ≡ true → setting_of client setting ≡ setting_default setting

by_setting : (P : Setting → Type 0) → P tries → P cache → P frames → (setting : Setting) → P setting
by_setting P t c f tries = t
by_setting P t c f cache = c
by_setting P t c f frames = f

abbrev IsDefault : JobClient → List Setting → Setting → Type 0
IsDefault client given setting = AllByRecursion (λ other. other ≢ setting) given → setting_of client setting ≡ setting_default setting

given_by : (client : JobClient) (t c f : Bool) → eqb client.tries 16 ≡ t → eqb client.cache 256 ≡ c → eqb client.frames 65536 ≡ f → Given client (given_if t tries ++ given_if c cache ++ given_if f frames)
given_by client true true true a b d =
    record {
      once = tt;
      words = rw (a, b, d) refl;
      others = by_setting (IsDefault client ([])) (λ none. eqb-true client.tries 16 a) (λ none. eqb-true client.cache 256 b) (λ none. eqb-true client.frames 65536 d);
    }
given_by client true true false a b d =
    record {
      once = (tt, tt);
      words = rw (a, b, d) refl;
      others = by_setting (IsDefault client (frames ∷ [])) (λ none. eqb-true client.tries 16 a) (λ none. eqb-true client.cache 256 b) (λ none. absurd (none.0 refl));
    }
given_by client true false true a b d =
    record {
      once = (tt, tt);
      words = rw (a, b, d) refl;
      others = by_setting (IsDefault client (cache ∷ [])) (λ none. eqb-true client.tries 16 a) (λ none. absurd (none.0 refl)) (λ none. eqb-true client.frames 65536 d);
    }
given_by client true false false a b d =
    record {
      once = ((λ e. cc, tt), (tt, tt));
      words = rw (a, b, d) refl;
      others = by_setting (IsDefault client (cache ∷ frames ∷ [])) (λ none. eqb-true client.tries 16 a) (λ none. absurd (none.0 refl)) (λ none. absurd (none.1.0 refl));
    }
given_by client false true true a b d =
    record {
      once = (tt, tt);
      words = rw (a, b, d) refl;
      others = by_setting (IsDefault client (tries ∷ [])) (λ none. absurd (none.0 refl)) (λ none. eqb-true client.cache 256 b) (λ none. eqb-true client.frames 65536 d);
    }
given_by client false true false a b d =
    record {
      once = ((λ e. cc, tt), (tt, tt));
      words = rw (a, b, d) refl;
      others = by_setting (IsDefault client (tries ∷ frames ∷ [])) (λ none. absurd (none.0 refl)) (λ none. eqb-true client.cache 256 b) (λ none. absurd (none.1.0 refl));
    }
given_by client false false true a b d =
    record {
      once = ((λ e. cc, tt), (tt, tt));
      words = rw (a, b, d) refl;
      others = by_setting (IsDefault client (tries ∷ cache ∷ [])) (λ none. absurd (none.0 refl)) (λ none. absurd (none.1.0 refl)) (λ none. eqb-true client.frames 65536 d);
    }
given_by client false false false a b d =
    record {
      once = ((λ e. cc, (λ e. cc, tt)), ((λ e. cc, tt), (tt, tt)));
      words = rw (a, b, d) refl;
      others = by_setting (IsDefault client (tries ∷ cache ∷ frames ∷ [])) (λ none. absurd (none.0 refl)) (λ none. absurd (none.1.0 refl)) (λ none. absurd (none.1.1.0 refl));
    }

canonical_client : (client : JobClient) → IsClientLine client (client_line client)
canonical_client client =
    let g = given_by client (eqb client.tries 16) (eqb client.cache 256) (eqb client.frames 65536) refl refl refl in
    record { given = given_of client; once = g.once; words = ap (λ (ws : List (List ℕ)). codes "client" ∷ client.name ∷ ws) g.words; others = g.others }

canonical_clients : (clients : List JobClient) → AreClientLines clients (flat_map client_lines clients)
canonical_clients [] = refl
canonical_clients (client ∷ clients) = (client_line client, flat_map client_lines clients, refl, canonical_client client, canonical_clients clients)

canonical_entry : (clients : List JobClient) (turn : JobTurn) → IsEntryWord clients turn (turn_word clients turn)
canonical_entry clients turn =
    elim (cases_Bool (eqb turn.count 1)) [
      | inl same ↦ inr (rw same (append-nil (client_name clients turn.client)), eqb-true turn.count 1 same)
      | inr other ↦ inl (rw other refl)
    ]

canonical_entries : (clients : List JobClient) (turns : List JobTurn) → AreEntryWords clients turns (map (turn_word clients) turns)
canonical_entries clients [] = refl
canonical_entries clients (turn ∷ turns) = (turn_word clients turn, map (turn_word clients) turns, refl, canonical_entry clients turn, canonical_entries clients turns)

canonical_turns : (clients : List JobClient) (turns : List JobTurn) → AreTurnsLines clients turns (turns_lines clients turns)
canonical_turns clients [] = refl
canonical_turns clients (turn ∷ turns) =
    let line : IsTurnsLine clients (turn ∷ turns) (turns_line clients (turn ∷ turns)) = record { some = omega arith; entries = map (turn_word clients) (turn ∷ turns); words = refl; named = canonical_entries clients (turn ∷ turns) } in
    (turn ∷ turns, [], sym (append-nil (turn ∷ turns)), line, refl)

lines_print : (job : Job) → IsLawfulJob job → AllByRecursion LinePrints (canonical_lines job)
lines_print job h =
    all_join LinePrints (flat_map client_lines job.clients) (turns_lines job.clients job.turns) (clients_print job.clients h.lawful_clients h.utf8_texts) (turns_print job.clients job.turns h.lawful_clients h.lawful_turns)

canonical_utf8 : (job : Job) → IsLawfulJob job → IsUtf8 (canonical_text job)
canonical_utf8 job lawful = text_utf8 (canonical_lines job) (lines_utf8 (canonical_lines job) (lines_print job lawful))

canonical_spells : (job : Job) → IsLawfulJob job → length (canonical_text job) ≤ longest_text → SpellsJob (canonical_text job) job
canonical_spells job lawful short =
    record {
      short = short;
      utf8 = canonical_utf8 job lawful;
      client_part = flat_map client_lines job.clients;
      turns_part = turns_lines job.clients job.turns;
      lines = written_lines (canonical_lines job) (lines_stand (canonical_lines job) (lines_print job lawful));
      client_lines = canonical_clients job.clients;
      turns_lines = canonical_turns job.clients job.turns;
      lawful = lawful;
    }

-- ---- read

too_long : (text : List ℕ) → leb (length text) longest_text ≡ false → parsed_job text ≡ Err (faults.TooLong longest_text)
unfolding parsed_from
too_long text long = rw long refl

job_or : (test : Bool) (read : Result Job JobFault) (job : Job) → (test ≡ true → read ≡ Ok job) → (test ≡ false → read ≡ Err (faults.TooLong longest_text)) → read ≡ cond test (Ok job) (Err (faults.TooLong longest_text))
job_or true read job short long = short refl
job_or false read job short long = long refl

canonical_back : (job : Job) → IsReadBackIfLawful (canonical_text job) job
canonical_back job lawful =
    let text = canonical_text job in
    record {
      utf8 = canonical_utf8 job lawful;
      spells = canonical_spells job lawful;
      read = job_or (leb (length text) longest_text) (parsed_job text) job (λ short. spelled_again text job (canonical_spells job lawful (leb-true (length text) longest_text short))) (too_long text);
    }

pub printed_back : {E : Type 0} (job : Job) (result : Result (List ℕ) E) → IfOk result (λ text. text ≡ canonical_text job) → IfOk result (λ text. IsReadBackIfLawful text job)
printed_back job (Ok text) is = subst (λ (t : List ℕ). IsReadBackIfLawful t job) (sym is) (canonical_back job)
printed_back job (Err fault) is = tt
