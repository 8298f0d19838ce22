-- Lines of transactions: what is spelled is read.
use Rattle.std.proofs.Common.{◌≡◌, ℕ, Bool, true, false, cond, List, [], ◌∷◌, ◌++◌, map, codes, Result, Ok, refl, sym, ap, ◌∙◌, append_assoc}
use Rattle.std.specs.List.{AllByRecursion, flat_map}
use Rattle.std.specs.Str.{bytes_eq}
use Rattle.std.proofs.lemmas.List.{append-nil}
use Rattle.ostore_text_words.specs.Lines.{PlacedLine, bare_words, bare_lines}
use Rattle.ostore_text_words.specs.LineWords.{word_at, if_ended}
use Rattle.ostore_text_words.proofs.LineWordLaws.{bind_again, bare_at, bare_from_first, word_again, ended_again}
use Rattle.ostore_graph_model.specs.declared.commands.Command.{Command}
use Rattle.ostore_graph_model.specs.declared.commands.Command.TheVariants as commands
use Rattle.ostore_graph_model.specs.declared.commands.Txn.{Txn}
use Rattle.ostore_job_text.specs.declared.job.JobClient.{JobClient}
use Rattle.ostore_job_text.specs.declared.job.JobTurn.{JobTurn}
use Rattle.ostore_job_text.specs.declared.said.LineSaid.{LineSaid}
use Rattle.ostore_job_text.specs.declared.said.LineSaid.TheVariants as kinds
use Rattle.ostore_job_text.specs.declared.said.Stand.{Stand}
use Rattle.ostore_job_text.specs.declared.said.Stand.TheVariants as stands
use Rattle.ostore_job_text.specs.declared.reading.draft.Draft.{Draft}
use Rattle.std.specs.Prelude.{Option, None}
use Rattle.ostore_command_text.specs.CommandWords.{command_words}
use Rattle.ostore_job_text.specs.Canonical.{begin_line, end_line, txn_lines}
use Rattle.ostore_command_text.specs.LawfulCommands.{IsLawfulCommand}
use Rattle.ostore_job_text.specs.LawfulJob.{IsLawfulTxn}
use Rattle.ostore_command_text.specs.CommandsSaid.{command_by}
use Rattle.ostore_job_text.specs.LinesSaid.{in_txn_at, in_client_at, said_by_verb, said_at, stand_after, said_from}
use Rattle.ostore_job_text.specs.Drafted.{put, put_begin, put_command, put_end}
use Rattle.ostore_job_text.specs.ParsedJob.{with_draft}
use Rattle.ostore_job_text.proofs.DraftLoops.{line_grouped}
use Rattle.ostore_command_text.proofs.CommandAgain.{behind_verb, verb_of, command_again}

-- ---- the first of lines

-- the first line, and those behind it
pub record First (lines : List PlacedLine) (words : List (List ℕ)) (rest : List (List (List ℕ))) : Type 0 where
  pub line : PlacedLine
  pub behind : List PlacedLine
  pub whole : lines ≡ line ∷ behind
  pub own : bare_at line 0 ≡ words
  pub later : bare_lines behind ≡ rest

pub first_line : (lines : List PlacedLine) (words : List (List ℕ)) (rest : List (List (List ℕ))) → bare_lines lines ≡ words ∷ rest → First lines words rest
first_line [] words rest e = absurd cc
first_line (line ∷ behind) words rest e =
    let here : bare_words line ≡ words = cc in
    let there : bare_lines behind ≡ rest = cc in
    record { line = line; behind = behind; whole = refl; own = bare_from_first line.words ∙ here; later = there }

pub by_verb : (stand : Stand) (line : PlacedLine) (verb : List ℕ) (others : List (List ℕ)) (r : Result LineSaid ℕ) → ((at : ℕ) → said_by_verb stand line at verb ≡ r) → bare_at line 0 ≡ verb ∷ others
    → (said_at stand line ≡ r) × (bare_at line 1 ≡ others)
unfolding said_at
by_verb stand line verb others r choice e =
    let w = word_again line 0 verb others e in
    (bind_again (word_at line 0) (λ word. said_by_verb stand line word.at word.bytes) w.0 r w.1 (ap (said_by_verb stand line w.0.at) w.2 ∙ choice w.0.at), w.3)

-- ---- commands

verb_first : (command : Command) → command_words command ≡ verb_of (command_words command) ∷ behind_verb (command_words command)
verb_first (commands.New to ty segment) = refl
verb_first (commands.Find to name) = refl
verb_first (commands.Root to root) = refl
verb_first (commands.SetRoot root item) = refl
verb_first (commands.Get object member) = refl
verb_first (commands.Set object member value) = refl
verb_first (commands.Follow to object member) = refl
verb_first (commands.Delete object) = refl
verb_first (commands.Insert object member item) = refl
verb_first (commands.Remove object member item) = refl
verb_first (commands.Members object member) = refl
verb_first (commands.Size object member) = refl
verb_first (commands.Append object member item) = refl
verb_first (commands.Put object member index item) = refl
verb_first (commands.At to object member index) = refl
verb_first (commands.Bind object member key item) = refl
verb_first (commands.Look to object member key) = refl
verb_first (commands.Unbind object member key) = refl
verb_first (commands.Index object member path) = refl
verb_first (commands.Unindex object member path) = refl
verb_first (commands.Query object member path op key) = refl

-- no verb ends a transaction
verb_apart : (command : Command) → (bytes_eq (verb_of (command_words command)) (codes "commit") ≡ false) × (bytes_eq (verb_of (command_words command)) (codes "abort") ≡ false)
verb_apart (commands.New to ty segment) = (refl, refl)
verb_apart (commands.Find to name) = (refl, refl)
verb_apart (commands.Root to root) = (refl, refl)
verb_apart (commands.SetRoot root item) = (refl, refl)
verb_apart (commands.Get object member) = (refl, refl)
verb_apart (commands.Set object member value) = (refl, refl)
verb_apart (commands.Follow to object member) = (refl, refl)
verb_apart (commands.Delete object) = (refl, refl)
verb_apart (commands.Insert object member item) = (refl, refl)
verb_apart (commands.Remove object member item) = (refl, refl)
verb_apart (commands.Members object member) = (refl, refl)
verb_apart (commands.Size object member) = (refl, refl)
verb_apart (commands.Append object member item) = (refl, refl)
verb_apart (commands.Put object member index item) = (refl, refl)
verb_apart (commands.At to object member index) = (refl, refl)
verb_apart (commands.Bind object member key item) = (refl, refl)
verb_apart (commands.Look to object member key) = (refl, refl)
verb_apart (commands.Unbind object member key) = (refl, refl)
verb_apart (commands.Index object member path) = (refl, refl)
verb_apart (commands.Unindex object member path) = (refl, refl)
verb_apart (commands.Query object member path op key) = (refl, refl)

in_txn_command : (line : PlacedLine) (at : ℕ) (command : Command) → command_by line at (verb_of (command_words command)) ≡ Ok command → in_txn_at line at (verb_of (command_words command)) ≡ Ok (kinds.Command command)
unfolding in_txn_at
in_txn_command line at command c =
    let v = verb_apart command in
    rw (v.0, v.1, c) refl

command_line : (line : PlacedLine) (command : Command) → bare_at line 0 ≡ command_words command → IsLawfulCommand command → said_at stands.InTxn line ≡ Ok (kinds.Command command)
unfolding said_at
command_line line command e h =
    let w = word_again line 0 (verb_of (command_words command)) (behind_verb (command_words command)) (e ∙ verb_first command) in
    bind_again (word_at line 0) (λ word. said_by_verb stands.InTxn line word.at word.bytes) w.0 (Ok (kinds.Command command)) w.1
    (ap (said_by_verb stands.InTxn line w.0.at) w.2 ∙ in_txn_command line w.0.at command (command_again line w.0.at command w.3 h))

-- ---- the first line of a transaction, and its last

begin_again : (line : PlacedLine) (update : Bool) → bare_at line 0 ≡ cond update (codes "begin") (codes "read") ∷ [] → said_at stands.InClient line ≡ Ok (kinds.Begin update)
unfolding in_client_at
begin_again line true e =
    let v = by_verb stands.InClient line (codes "begin") [] (if_ended line 1 (kinds.Begin true)) (λ at. refl) e in
    v.0 ∙ ended_again line 1 (kinds.Begin true) v.1
begin_again line false e =
    let v = by_verb stands.InClient line (codes "read") [] (if_ended line 1 (kinds.Begin false)) (λ at. refl) e in
    v.0 ∙ ended_again line 1 (kinds.Begin false) v.1

end_again : (line : PlacedLine) (aborts : Bool) → bare_at line 0 ≡ cond aborts (codes "abort") (codes "commit") ∷ [] → said_at stands.InTxn line ≡ Ok (kinds.End aborts)
unfolding in_txn_at
end_again line true e =
    let v = by_verb stands.InTxn line (codes "abort") [] (if_ended line 1 (kinds.End true)) (λ at. refl) e in
    v.0 ∙ ended_again line 1 (kinds.End true) v.1
end_again line false e =
    let v = by_verb stands.InTxn line (codes "commit") [] (if_ended line 1 (kinds.End false)) (λ at. refl) e in
    v.0 ∙ ended_again line 1 (kinds.End false) v.1

-- ---- drafts without a fault

-- what lines put together, behind a draft
abbrev pub after : ℕ → Draft → Stand → List PlacedLine → Result Draft ℕ
after end draft stand lines = with_draft draft (said_from end stand lines)

-- a line is put
pub line_step : (end : ℕ) (draft : Draft) (stand : Stand) (line : PlacedLine) (lines : List PlacedLine) (said : LineSaid) → said_at stand line ≡ Ok said
    → after end draft stand (line ∷ lines) ≡ after end (put draft said) (stand_after said) lines
unfolding said_from
line_step end draft stand line lines said h = rw h (line_grouped draft said (said_from end (stand_after said) lines))

abbrev pub faultless : List JobClient → Option JobClient → List Txn → Bool → List Command → List JobTurn → Draft
faultless clients client txns update own turns = record { clients = clients; client = client; txns = txns; update = update; commands = own; turns = turns; fault = None }

-- ---- transactions

-- what lines give, the rest of which is known
pub record Reads (end : ℕ) (before after_them : Draft) (stand later : Stand) (lines : List PlacedLine) (rest : List (List (List ℕ))) : Type 0 where
  pub behind : List PlacedLine
  pub left : bare_lines behind ≡ rest
  pub same : after end before stand lines ≡ after end after_them later behind

pub none_read : (end : ℕ) (before after_them : Draft) (stand : Stand) (lines : List PlacedLine) (rest : List (List (List ℕ))) → bare_lines lines ≡ rest → before ≡ after_them → Reads end before after_them stand stand lines rest
none_read end before after_them stand lines rest e d = record { behind = lines; left = e; same = ap (λ (x : Draft). after end x stand lines) d }

abbrev pub one_read : (end : ℕ) (before next : Draft) (stand later : Stand) (lines : List PlacedLine) (words : List (List ℕ)) (rest : List (List (List ℕ))) (said : LineSaid) (f : First lines words rest)
    → said_at stand f.line ≡ Ok said → put before said ≡ next → stand_after said ≡ later → Reads end before next stand later lines rest
one_read end before next stand later lines words rest said f h p s =
    record {
      behind = f.behind;
      left = f.later;
      same = ap (after end before stand) f.whole ∙ line_step end before stand f.line f.behind said h ∙ ap (λ (x : Draft). after end x (stand_after said) f.behind) p ∙ ap (λ (x : Stand). after end next x f.behind) s;
    }

pub then_read : (end : ℕ) (a b c : Draft) (s t u : Stand) (lines : List PlacedLine) (rest last : List (List (List ℕ))) (f : Reads end a b s t lines rest) → Reads end b c t u f.behind last → Reads end a c s u lines last
then_read end a b c s t u lines rest last f g = record { behind = g.behind; left = g.left; same = f.same ∙ g.same }

commands_again : (end : ℕ) (clients : List JobClient) (client : Option JobClient) (txns : List Txn) (update : Bool) (done more : List Command) (turns : List JobTurn) (lines : List PlacedLine) (rest : List (List (List ℕ)))
    → bare_lines lines ≡ map command_words more ++ rest → AllByRecursion IsLawfulCommand more
    → Reads end (faultless clients client txns update done turns) (faultless clients client txns update (done ++ more) turns) stands.InTxn stands.InTxn lines rest
unfolding put_command
commands_again end clients client txns update done [] turns lines rest e h =
    none_read end _ _ stands.InTxn lines rest e (ap (λ (own : List Command). faultless clients client txns update own turns) (sym (append-nil done)))
commands_again end clients client txns update done (command ∷ more) turns lines rest e h =
    let f = first_line lines (command_words command) (map command_words more ++ rest) e in
    let next = faultless clients client txns update (done ++ command ∷ []) turns in
    let one = one_read end (faultless clients client txns update done turns) next stands.InTxn stands.InTxn lines (command_words command) (map command_words more ++ rest) (kinds.Command command) f (command_line f.line command f.own h.0) refl refl in
    let others = commands_again end clients client txns update (done ++ command ∷ []) more turns f.behind rest f.later h.1 in
    record {
      behind = others.behind;
      left = others.left;
      same = one.same ∙ others.same ∙ ap (λ (own : List Command). after end (faultless clients client txns update own turns) stands.InTxn others.behind) (append_assoc done (command ∷ []) more);
    }

txn_again : (end : ℕ) (clients : List JobClient) (client : Option JobClient) (done : List Txn) (update : Bool) (txn : Txn) (turns : List JobTurn) (lines : List PlacedLine) (rest : List (List (List ℕ)))
    → bare_lines lines ≡ txn_lines txn ++ rest → IsLawfulTxn txn
    → Reads end (faultless clients client done update [] turns) (faultless clients client (done ++ txn ∷ []) txn.update [] turns) stands.InClient stands.InClient lines rest
unfolding put_begin put_end
txn_again end clients client done update txn turns lines rest e h =
    let behind = map command_words txn.commands ++ end_line txn ∷ [] in
    let f = first_line lines (begin_line txn) (behind ++ rest) e in
    let a = faultless clients client done update [] turns in
    let b = faultless clients client done txn.update [] turns in
    let c = faultless clients client done txn.update txn.commands turns in
    let d = faultless clients client (done ++ txn ∷ []) txn.update [] turns in
    let begun = one_read end a b stands.InClient stands.InTxn lines (begin_line txn) (behind ++ rest) (kinds.Begin txn.update) f (begin_again f.line txn.update f.own) refl refl in
    let own = commands_again end clients client done txn.update [] txn.commands turns f.behind (end_line txn ∷ rest) (f.later ∙ append_assoc (map command_words txn.commands) (end_line txn ∷ []) rest) h in
    let l = first_line own.behind (end_line txn) rest own.left in
    let ended = one_read end c d stands.InTxn stands.InClient own.behind (end_line txn) rest (kinds.End txn.aborts) l (end_again l.line txn.aborts l.own) refl refl in
    record { behind = ended.behind; left = ended.left; same = begun.same ∙ own.same ∙ ended.same }

-- whether the last of transactions updates, or that before them
abbrev pub last_update : Bool → List Txn → Bool
last_update update [] = update
last_update update (txn ∷ txns) = last_update txn.update txns

pub txns_again : (end : ℕ) (clients : List JobClient) (client : Option JobClient) (done more : List Txn) (update : Bool) (turns : List JobTurn) (lines : List PlacedLine) (rest : List (List (List ℕ)))
    → bare_lines lines ≡ flat_map txn_lines more ++ rest → AllByRecursion IsLawfulTxn more
    → Reads end (faultless clients client done update [] turns) (faultless clients client (done ++ more) (last_update update more) [] turns) stands.InClient stands.InClient lines rest
txns_again end clients client done [] update turns lines rest e h =
    none_read end _ _ stands.InClient lines rest e (ap (λ (txns : List Txn). faultless clients client txns update [] turns) (sym (append-nil done)))
txns_again end clients client done (txn ∷ more) update turns lines rest e h =
    let one = txn_again end clients client done update txn turns lines (flat_map txn_lines more ++ rest) (e ∙ append_assoc (txn_lines txn) (flat_map txn_lines more) rest) h.0 in
    let others = txns_again end clients client (done ++ txn ∷ []) more txn.update turns one.behind rest one.left h.1 in
    record {
      behind = others.behind;
      left = others.left;
      same = one.same ∙ others.same ∙ ap (λ (txns : List Txn). after end (faultless clients client txns (last_update txn.update more) [] turns) stands.InClient others.behind) (append_assoc done (txn ∷ []) more);
    }
