-- What lines say stands at places that rise, as the words of the lines do.
use Rattle.std.proofs.Common.{◌≡◌, ℕ, ◌+◌, ◌≤◌, true, false, eqb, leb, List, [], ◌∷◌, ◌++◌, length, map, filter, drop, slice_get, codes, Some, Ok, Err, sym, ap, subst, ◌∙◌, append_assoc, arith, inl, inr}
use Rattle.std.specs.List.{slice_split}
use Rattle.std.specs.Str.{bytes_eq}
use Rattle.std.proofs.lemmas.Bool.{cases_lt, cond-true, le-leb}
use Rattle.std.proofs.lemmas.List.{length-drop}
use Rattle.std.proofs.lemmas.Option.{same_Some}
use Rattle.ostore_text_words.specs.Words.{may_stand}
use Rattle.ostore_text_words.specs.Lines.{PlacedWord, PlacedLine, PlacedBytes, line_of, has_words, bytes_from, bytes_on, lines_on}
use Rattle.ostore_text_words.specs.LineWords.{◌>>=◌, or_at, word_at, identifier_at, if_ended}
use Rattle.ostore_text_words.proofs.LineReaders.{span_split, bytes_on_none}
use Rattle.ostore_text_words.proofs.LineWordLaws.{bind_ok, same_ok, or_at_ok, chosen, identifier_taken, ended_taken}
use Rattle.ostore_text_words.proofs.PlaceLaws.{RiseWithin, RiseWithin-later, places, lines_rise}
use Rattle.ostore_job_text.specs.declared.said.OptionSaid.{OptionSaid}
use Rattle.ostore_job_text.specs.declared.said.EntrySaid.{EntrySaid}
use Rattle.ostore_job_text.specs.declared.said.LineSaid.{LineSaid}
use Rattle.ostore_job_text.specs.declared.said.LineSaid.TheVariants as kinds
use Rattle.ostore_job_text.specs.declared.said.Stand.{Stand}
use Rattle.ostore_job_text.specs.declared.said.Stand.TheVariants as stands
use Rattle.ostore_job_text.specs.WordsSaid.{is_count, entry_of}
use Rattle.ostore_command_text.specs.CommandsSaid.{command_by}
use Rattle.ostore_job_text.specs.LinesSaid.{option_of, options_of, client_of, words_from, client_at, entry_said, entries_of, turns_at, in_txn_at, in_turns_at, at_start_at, in_client_at, said_by_verb, said_at, stand_after, ends_at, said_from}
use Rattle.ostore_command_text.proofs.CommandTaken.{fault_taken}
use Rattle.ostore_job_text.proofs.JobPart.{seen_from}
use Rattle.ostore_job_text.proofs.BadOptions.{OptionsRise}
use Rattle.ostore_job_text.proofs.NamedFaults.{EntriesRise, LinesRise}

abbrev at_of : PlacedWord → ℕ
at_of word = word.at

-- ---- from a later place on

options_later : (options : List OptionSaid) (from later until : ℕ) → from ≤ later → OptionsRise later until options → OptionsRise from until options
options_later [] from later until le rise = omega (arith, le, rise)
options_later (option ∷ options) from later until le rise = (omega (arith, le, rise.0), rise.1)

entries_later : (entries : List EntrySaid) (from later until : ℕ) → from ≤ later → EntriesRise later until entries → EntriesRise from until entries
entries_later [] from later until le rise = omega (arith, le, rise)
entries_later (entry ∷ entries) from later until le rise = (omega (arith, le, rise.0), rise.1)

lines_later : (lines : List LineSaid) (from later : ℕ) → from ≤ later → LinesRise later lines → LinesRise from lines
lines_later [] from later le rise = tt
lines_later (kinds.Client client ∷ lines) from later le rise = (omega (arith, le, rise.0), rise.1, rise.2, rise.3)
lines_later (kinds.Turns entries ∷ lines) from later le rise = (rise.0, entries_later entries from later rise.0 le rise.1, rise.2)
lines_later (kinds.Begin update ∷ lines) from later le rise = lines_later lines from later le rise
lines_later (kinds.Command command ∷ lines) from later le rise = lines_later lines from later le rise
lines_later (kinds.End aborts ∷ lines) from later le rise = lines_later lines from later le rise

-- ---- words

-- behind the words of a line stands its end
abbrev WordsRise : ℕ → ℕ → List PlacedWord → ℕ → List ℕ → Type 0
WordsRise from most words end rest = RiseWithin from most (map at_of words ++ end ∷ rest)

end_rises : (words : List PlacedWord) (from most end : ℕ) (rest : List ℕ) → WordsRise from most words end rest → (from ≤ end) × RiseWithin (end + 1) most rest
end_rises [] from most end rest h = (h.0, h.2)
end_rises (word ∷ words) from most end rest h =
    let k = end_rises words (word.at + 1) most end rest h.2 in
    (omega (arith, h.0, k.0), k.1)

-- the words behind the first
behind_first : (words : List PlacedWord) (from most end : ℕ) (rest : List ℕ) → WordsRise from most words end rest → WordsRise from most (drop 1 words) end rest
behind_first [] from most end rest h = h
behind_first (word ∷ words) from most end rest h = RiseWithin-later from (word.at + 1) most (map at_of words ++ end ∷ rest) (omega (arith, h.0)) h.2

-- the second word, and those behind it
second_word : (words : List PlacedWord) (name : PlacedWord) (from most end : ℕ) (rest : List ℕ) → slice_get words 1 ≡ Some name → WordsRise from most words end rest → (from ≤ name.at) × WordsRise (name.at + 1) most (drop 2 words) end rest
second_word [] name from most end rest e h = absurd cc
second_word (first ∷ []) name from most end rest e h = absurd cc
second_word (first ∷ second ∷ words) name from most end rest e h =
    subst (λ (w : PlacedWord). (from ≤ w.at) × WordsRise (w.at + 1) most words end rest) (same_Some second name e)
    (omega (arith, h.0, h.2.0), h.2.2)

-- ---- options and entries

options_rise : (end : ℕ) (words : List PlacedWord) (options : List OptionSaid) (from most : ℕ) (rest : List ℕ) → options_of end words ≡ Ok options → WordsRise from most words end rest → OptionsRise from (end + 1) options
options_rise end [] options from most rest e h = subst (OptionsRise from (end + 1)) (same_ok [] options e) (omega (arith, h.0))
options_rise end (option ∷ []) options from most rest e h =
    elim (chosen (may_stand option.bytes) (Err end) (Err option.at) (Ok options) e) [
      | inl g ↦ fault_taken end options g.1
      | inr g ↦ fault_taken option.at options g.1
    ]
options_rise end (option ∷ number ∷ others) options from most rest e h =
    elim (chosen (may_stand option.bytes) _ (Err option.at) (Ok options) e) [
      | inl g ↦ elim (chosen (is_count number.bytes) (options_of end others >>= λ later. Ok (option_of option number ∷ later)) (Err number.at) (Ok options) g.1) [
        | inl k ↦
            let o = bind_ok (options_of end others) (λ later. Ok (option_of option number ∷ later)) options k.1 in
            let more = options_rise end others o.0 (number.at + 1) most rest o.1 h.2.2 in
            subst (OptionsRise from (end + 1)) (same_ok _ options o.2)
            (h.0, options_later o.0 (option.at + 1) (number.at + 1) (end + 1) (omega (arith, h.2.0)) more)
        | inr k ↦ fault_taken number.at options k.1
      ]
      | inr g ↦ fault_taken option.at options g.1
    ]

entries_rise : (end : ℕ) (words : List PlacedWord) (entries : List EntrySaid) (from most : ℕ) (rest : List ℕ) → entries_of words ≡ Ok entries → WordsRise from most words end rest → EntriesRise from (end + 1) entries
entries_rise end [] entries from most rest e h = subst (EntriesRise from (end + 1)) (same_ok [] entries e) (omega (arith, h.0))
entries_rise end (word ∷ words) entries from most rest e h =
    let n = bind_ok (or_at word.at (entry_of word.bytes)) (λ entry. entries_of words >>= λ others. Ok (entry_said word.at entry ∷ others)) entries e in
    let o = bind_ok (entries_of words) (λ others. Ok (entry_said word.at n.0 ∷ others)) entries n.2 in
    subst (EntriesRise from (end + 1)) (same_ok _ entries o.2) (h.0, entries_rise end words o.0 (word.at + 1) most rest o.1 h.2)

-- ---- which line says it

abbrev SaidBy : PlacedLine → LineSaid → Type 0
SaidBy line (kinds.Client client) = client_at line ≡ Ok (kinds.Client client)
SaidBy line (kinds.Turns entries) = turns_at line ≡ Ok (kinds.Turns entries)
SaidBy line (kinds.Begin update) = Unit {0}
SaidBy line (kinds.Command command) = Unit {0}
SaidBy line (kinds.End aborts) = Unit {0}

by_end : (line : PlacedLine) (what said : LineSaid) → SaidBy line what → if_ended line 1 what ≡ Ok said → SaidBy line said
by_end line what said is e = subst (SaidBy line) (ended_taken line 1 what said e).1 is

by_client : (line : PlacedLine) (said : LineSaid) → client_at line ≡ Ok said → SaidBy line said
unfolding client_at
by_client line said e =
    let n = bind_ok (identifier_at line 1) (λ name. options_of line.end (words_from 2 line) >>= λ options. Ok (kinds.Client (client_of name options))) said e in
    let o = bind_ok (options_of line.end (words_from 2 line)) (λ options. Ok (kinds.Client (client_of n.0 options))) said n.2 in
    let is = same_ok (kinds.Client (client_of n.0 o.0)) said o.2 in
    subst (SaidBy line) is (e ∙ ap (λ (s : LineSaid). Ok s) (sym is))

by_turns : (line : PlacedLine) (said : LineSaid) → turns_at line ≡ Ok said → SaidBy line said
unfolding turns_at
by_turns line said e =
    let f = bind_ok (word_at line 1) (λ first. entries_of (words_from 1 line) >>= λ entries. Ok (kinds.Turns entries)) said e in
    let n = bind_ok (entries_of (words_from 1 line)) (λ entries. Ok (kinds.Turns entries)) said f.2 in
    let is = same_ok (kinds.Turns n.0) said n.2 in
    subst (SaidBy line) is (e ∙ ap (λ (s : LineSaid). Ok s) (sym is))

by_command : (line : PlacedLine) (at : ℕ) (verb : List ℕ) (said : LineSaid) → (command_by line at verb >>= λ command. Ok (kinds.Command command)) ≡ Ok said → SaidBy line said
by_command line at verb said e =
    let c = bind_ok (command_by line at verb) (λ command. Ok (kinds.Command command)) said e in
    subst (SaidBy line) (same_ok (kinds.Command c.0) said c.2) tt

in_txn_by : (line : PlacedLine) (at : ℕ) (verb : List ℕ) (said : LineSaid) → in_txn_at line at verb ≡ Ok said → SaidBy line said
unfolding in_txn_at
in_txn_by line at verb said e =
    elim (chosen (bytes_eq verb (codes "commit")) (if_ended line 1 (kinds.End false)) _ (Ok said) e) [
      | inl g ↦ by_end line (kinds.End false) said tt g.1
      | inr g ↦ elim (chosen (bytes_eq verb (codes "abort")) (if_ended line 1 (kinds.End true)) _ (Ok said) g.1) [
        | inl h ↦ by_end line (kinds.End true) said tt h.1
        | inr h ↦ by_command line at verb said h.1
      ]
    ]

in_turns_by : (line : PlacedLine) (at : ℕ) (verb : List ℕ) (said : LineSaid) → in_turns_at line at verb ≡ Ok said → SaidBy line said
unfolding in_turns_at
in_turns_by line at verb said e =
    elim (chosen (bytes_eq verb (codes "turns")) (turns_at line) (Err at) (Ok said) e) [
      | inl g ↦ by_turns line said g.1
      | inr g ↦ fault_taken at said g.1
    ]

at_start_by : (line : PlacedLine) (at : ℕ) (verb : List ℕ) (said : LineSaid) → at_start_at line at verb ≡ Ok said → SaidBy line said
unfolding at_start_at
at_start_by line at verb said e =
    elim (chosen (bytes_eq verb (codes "client")) (client_at line) (in_turns_at line at verb) (Ok said) e) [
      | inl g ↦ by_client line said g.1
      | inr g ↦ in_turns_by line at verb said g.1
    ]

in_client_by : (line : PlacedLine) (at : ℕ) (verb : List ℕ) (said : LineSaid) → in_client_at line at verb ≡ Ok said → SaidBy line said
unfolding in_client_at
in_client_by line at verb said e =
    elim (chosen (bytes_eq verb (codes "begin")) (if_ended line 1 (kinds.Begin true)) _ (Ok said) e) [
      | inl g ↦ by_end line (kinds.Begin true) said tt g.1
      | inr g ↦ elim (chosen (bytes_eq verb (codes "read")) (if_ended line 1 (kinds.Begin false)) _ (Ok said) g.1) [
        | inl h ↦ by_end line (kinds.Begin false) said tt h.1
        | inr h ↦ at_start_by line at verb said h.1
      ]
    ]

verb_by : (stand : Stand) (line : PlacedLine) (at : ℕ) (verb : List ℕ) (said : LineSaid) → said_by_verb stand line at verb ≡ Ok said → SaidBy line said
verb_by stands.Start line at verb said e = at_start_by line at verb said e
verb_by stands.InClient line at verb said e = in_client_by line at verb said e
verb_by stands.InTxn line at verb said e = in_txn_by line at verb said e
verb_by stands.InTurns line at verb said e = in_turns_by line at verb said e

said_by : (stand : Stand) (line : PlacedLine) (said : LineSaid) → said_at stand line ≡ Ok said → SaidBy line said
unfolding said_at
said_by stand line said e =
    let w = bind_ok (word_at line 0) (λ verb. said_by_verb stand line verb.at verb.bytes) said e in
    verb_by stand line w.0.at w.0.bytes said w.2

-- ---- lines

client_rises : (line : PlacedLine) (said : LineSaid) (lines : List LineSaid) (from most : ℕ) (rest : List ℕ) → client_at line ≡ Ok said → WordsRise from most line.words line.end rest → LinesRise (line.end + 1) lines → LinesRise from (said ∷ lines)
unfolding client_at
client_rises line said lines from most rest e h more =
    let n = bind_ok (identifier_at line 1) (λ name. options_of line.end (words_from 2 line) >>= λ options. Ok (kinds.Client (client_of name options))) said e in
    let o = bind_ok (options_of line.end (words_from 2 line)) (λ options. Ok (kinds.Client (client_of n.0 options))) said n.2 in
    let there : slice_get line.words 1 ≡ Some n.0 = or_at_ok line.end (slice_get line.words 1) n.0 (identifier_taken line 1 n.0 n.1).0 in
    let s = second_word line.words n.0 from most line.end rest there h in
    subst (λ (s : LineSaid). LinesRise from (s ∷ lines)) (same_ok (kinds.Client (client_of n.0 o.0)) said o.2)
    (s.0, line.end + 1, options_rise line.end (drop 2 line.words) o.0 (n.0.at + 1) most rest o.1 s.1, more)

turns_rise : (line : PlacedLine) (said : LineSaid) (lines : List LineSaid) (from most : ℕ) (rest : List ℕ) → turns_at line ≡ Ok said → WordsRise from most line.words line.end rest → LinesRise (line.end + 1) lines → LinesRise from (said ∷ lines)
unfolding turns_at
turns_rise line said lines from most rest e h more =
    let f = bind_ok (word_at line 1) (λ first. entries_of (words_from 1 line) >>= λ entries. Ok (kinds.Turns entries)) said e in
    let n = bind_ok (entries_of (words_from 1 line)) (λ entries. Ok (kinds.Turns entries)) said f.2 in
    subst (λ (s : LineSaid). LinesRise from (s ∷ lines)) (same_ok (kinds.Turns n.0) said n.2)
    (line.end + 1, entries_rise line.end (drop 1 line.words) n.0 from most rest n.1 (behind_first line.words from most line.end rest h), more)

line_rises : (line : PlacedLine) (said : LineSaid) (lines : List LineSaid) (from most : ℕ) (rest : List ℕ) → SaidBy line said → WordsRise from most line.words line.end rest → LinesRise (line.end + 1) lines → LinesRise from (said ∷ lines)
line_rises line (kinds.Client client) lines from most rest by h more = client_rises line (kinds.Client client) lines from most rest by h more
line_rises line (kinds.Turns entries) lines from most rest by h more = turns_rise line (kinds.Turns entries) lines from most rest by h more
line_rises line (kinds.Begin update) lines from most rest by h more = lines_later lines from (line.end + 1) (omega (arith, (end_rises line.words from most line.end rest h).0)) more
line_rises line (kinds.Command command) lines from most rest by h more = lines_later lines from (line.end + 1) (omega (arith, (end_rises line.words from most line.end rest h).0)) more
line_rises line (kinds.End aborts) lines from most rest by h more = lines_later lines from (line.end + 1) (omega (arith, (end_rises line.words from most line.end rest h).0)) more

said_rises : (end : ℕ) (stand : Stand) (lines : List PlacedLine) (said : List LineSaid) (from most : ℕ) → said_from end stand lines ≡ Ok said → RiseWithin from most (places lines) → LinesRise from said
unfolding said_from
said_rises end stand [] said from most e h =
    let n = bind_ok (ends_at end stand) (λ nothing. Ok []) said e in
    subst (LinesRise from) (same_ok [] said n.2) tt
said_rises end stand (line ∷ lines) said from most e h =
    let n = bind_ok (said_at stand line) (λ first. said_from end (stand_after first) lines >>= λ others. Ok (first ∷ others)) said e in
    let o = bind_ok (said_from end (stand_after n.0) lines) (λ others. Ok (n.0 ∷ others)) said n.2 in
    let words : WordsRise from most line.words line.end (places lines) = subst (RiseWithin from most) (append_assoc (map at_of line.words) (line.end ∷ []) (places lines)) h in
    subst (LinesRise from) (same_ok _ said o.2)
    (line_rises line n.0 o.0 from most (places lines) (said_by stand line n.0 n.1) words
    (said_rises end (stand_after n.0) lines o.0 (line.end + 1) most o.1 (end_rises line.words from most line.end (places lines) words).1))

-- ---- the lines of a text, from a place on

lines_inside : (start : ℕ) (text : List ℕ) → start ≤ length text → RiseWithin start (length text) (places (lines_on start text))
unfolding bytes_on
lines_inside start text le =
    let parts = slice_split (λ b. eqb b 10) (drop start text) in
    let shown = λ (bs : List PlacedBytes). RiseWithin start (length text) (places (filter has_words (map (λ line. line_of line.at line.bytes) bs))) in
    subst shown (sym (cond-true (leb start (length text)) (bytes_from start parts) [] (le-leb start (length text) le)))
    (subst (λ (ls : List PlacedLine). RiseWithin start (length text) (places (filter has_words ls))) (sym (seen_from start parts))
    (lines_rise start (length text) parts (omega (arith, le, span_split (λ b. eqb b 10) (drop start text), length-drop start text))))

pub on_rises : (start : ℕ) (text : List ℕ) → RiseWithin start (length text) (places (lines_on start text))
on_rises start text =
    elim (cases_lt (length text) start) [
      | inl past ↦ subst (λ (bs : List PlacedBytes). RiseWithin start (length text) (places (filter has_words (map (λ line. line_of line.at line.bytes) bs)))) (sym (bytes_on_none start text past)) tt
      | inr le ↦ lines_inside start text le
    ]

-- what the lines of a text say stands at places that rise
pub text_rises : (start : ℕ) (text : List ℕ) (said : List LineSaid) → said_from (length text) stands.Start (lines_on start text) ≡ Ok said → LinesRise start said
text_rises start text said e = said_rises (length text) stands.Start (lines_on start text) said start (length text) e (on_rises start text)
