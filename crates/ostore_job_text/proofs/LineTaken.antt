-- Lines: what is read is spelled so.
use Rattle.std.proofs.Common.{◌≡◌, ℕ, zero, suc, ◌≤◌, true, false, List, [], ◌∷◌, ◌++◌, length, map, drop, codes, decimal, Option, Some, None, Ok, Err, refl, sym, ap, subst, ◌∙◌, arith, inl, inr}
use Rattle.std.specs.List.{AllByRecursion, flat_map}
use Rattle.std.proofs.lemmas.List.{length-map}
use Rattle.std.proofs.lemmas.Option.{same_Some}
use Rattle.ostore_text_words.specs.Words.{◌>>=◌ as ◌>>?◌, around_byte, identifier_at as ident_at, count_at, may_stand}
use Rattle.ostore_text_words.specs.Lines.{PlacedWord, PlacedLine, bare_words, bare_lines}
use Rattle.ostore_text_words.specs.LineWords.{◌>>=◌, or_at, word_at, identifier_at, if_ended}
use Rattle.ostore_text_words.proofs.WordLaws.{bind_some, identifier_taken as ident_taken, around_byte_taken, count_taken}
use Rattle.ostore_text_words.proofs.LineWordLaws.{bind_ok, same_ok, or_at_ok, chosen, bare_from, bare_at, bare_from_first, word_taken, identifier_taken, ended_taken}
use Rattle.ostore_job_text.specs.declared.said.OptionSaid.{OptionSaid}
use Rattle.ostore_job_text.specs.declared.said.EntrySaid.{EntrySaid}
use Rattle.ostore_job_text.specs.declared.said.LineSaid.{LineSaid}
use Rattle.ostore_job_text.specs.declared.said.LineSaid.TheVariants as kinds
use Rattle.ostore_job_text.specs.declared.said.Stand.{Stand}
use Rattle.ostore_job_text.specs.declared.said.Stand.TheVariants as stands
use Rattle.ostore_job_text.specs.WordsSaid.{is_count, entry_by, entry_of}
use Rattle.ostore_command_text.specs.CommandsSaid.{command_by}
use Rattle.ostore_job_text.specs.LinesSaid.{option_of, options_of, client_of, words_from, client_at, entry_said, entries_of, turns_at, in_txn_at, in_turns_at, at_start_at, in_client_at, said_by_verb, said_at, stand_after, ends_at, said_from}
use Rattle.ostore_job_text.specs.inside.LinesSpelled.{option_words, IsLawfulOption, IsEntryWord, AreEntryWords, IsLineOf, MayStand, MayEnd, AreLinesOf}
use Rattle.ostore_command_text.proofs.CommandTaken.{choice, fault_taken, then_is, behind, command_taken}

-- the words of a line from one on, as a part of the list
pub bare_from_drop : (words : List PlacedWord) (i : ℕ) → bare_from words i ≡ map (λ word. word.bytes) (drop i words)
bare_from_drop [] zero = refl
bare_from_drop [] (suc i) = refl
bare_from_drop (word ∷ words) zero = refl
bare_from_drop (word ∷ words) (suc i) = bare_from_drop words i

-- ---- options

options_taken : (end : ℕ) (words : List PlacedWord) (options : List OptionSaid) → options_of end words ≡ Ok options → (map (λ word. word.bytes) words ≡ flat_map option_words options) × AllByRecursion IsLawfulOption options
options_taken end [] options e = subst (λ (os : List OptionSaid). ([] ≡ flat_map option_words os) × AllByRecursion IsLawfulOption os) (same_ok [] options e) (refl, tt)
options_taken end (option ∷ []) options e =
    elim (chosen (may_stand option.bytes) (Err end) (Err option.at) (Ok options) e) [
      | inl g ↦ fault_taken end options g.1
      | inr g ↦ fault_taken option.at options g.1
    ]
options_taken end (option ∷ number ∷ others) options e =
    elim (chosen (may_stand option.bytes) _ (Err option.at) (Ok options) e) [
      | inl g ↦ elim (chosen (is_count number.bytes) (options_of end others >>= λ later. Ok (option_of option number ∷ later)) (Err number.at) (Ok options) g.1) [
        | inl h ↦
            let o = bind_ok (options_of end others) (λ later. Ok (option_of option number ∷ later)) options h.1 in
            let rest = options_taken end others o.0 o.1 in
            subst (λ (os : List OptionSaid). (option.bytes ∷ number.bytes ∷ map (λ word. word.bytes) others ≡ flat_map option_words os) × AllByRecursion IsLawfulOption os) (same_ok _ options o.2)
            (ap (λ (ws : List (List ℕ)). option.bytes ∷ number.bytes ∷ ws) rest.0, ((g.0, h.0), rest.1))
        | inr h ↦ fault_taken number.at options h.1
      ]
      | inr g ↦ fault_taken option.at options g.1
    ]

abbrev IsClientLine : List (List ℕ) → LineSaid → Type 0
IsClientLine words said = IsLineOf said words

client_taken : (line : PlacedLine) (said : LineSaid) → client_at line ≡ Ok said → MayStand stands.Start said × MayStand stands.InClient said × IsLineOf said (codes "client" ∷ bare_at line 1)
unfolding client_at
client_taken line said e =
    let n = bind_ok (identifier_at line 1) (λ name. options_of line.end (words_from 2 line) >>= λ options. Ok (kinds.Client (client_of name options))) said e in
    let o = bind_ok (options_of line.end (words_from 2 line)) (λ options. Ok (kinds.Client (client_of n.0 options))) said n.2 in
    let t = identifier_taken line 1 n.0 n.1 in
    let u = options_taken line.end (words_from 2 line) o.0 o.1 in
    subst (λ (s : LineSaid). MayStand stands.Start s × MayStand stands.InClient s × IsLineOf s (codes "client" ∷ bare_at line 1)) (same_ok _ said o.2)
    (tt, tt, (behind (codes "client") (then_is t.1 (bare_from_drop line.words 2 ∙ u.0)), t.2, u.1))

-- ---- turns

single_law : (at : ℕ) (word : List ℕ) (entry : List ℕ × ℕ) → (ident_at word >>? λ name. Some (name, 1)) ≡ Some entry → IsEntryWord (entry_said at entry) word
single_law at word entry e =
    let n = bind_some (ident_at word) (λ name. Some (name, 1)) entry e in
    let i = ident_taken word n.0 n.1 in
    subst (λ (p : List ℕ × ℕ). IsEntryWord (entry_said at p) word) (same_Some _ _ n.2) (i.1, inl (i.0, refl))

entry_law : (at : ℕ) (word : List ℕ) (entry : List ℕ × ℕ) (parts : Option (List ℕ × List ℕ)) → around_byte 42 word ≡ parts → entry_by word parts ≡ Some entry → IsEntryWord (entry_said at entry) word
entry_law at word entry None is e = single_law at word entry e
entry_law at word entry (Some parts) is e =
    let n = bind_some (ident_at parts.0) (λ name. count_at 1 1000000 parts.1 >>? λ count. Some (name, count)) entry e in
    let c = bind_some (count_at 1 1000000 parts.1) (λ count. Some (n.0, count)) entry n.2 in
    let i = ident_taken parts.0 n.0 n.1 in
    let t = count_taken 1 1000000 parts.1 c.0 c.1 in
    let whole : word ≡ n.0 ++ 42 ∷ decimal c.0 = around_byte_taken 42 word parts.0 parts.1 is ∙ ap (λ (w : List ℕ). w ++ 42 ∷ parts.1) i.0 ∙ ap (λ (w : List ℕ). n.0 ++ 42 ∷ w) t.0 in
    subst (λ (p : List ℕ × ℕ). IsEntryWord (entry_said at p) word) (same_Some _ _ c.2) (i.1, inr (whole, t.1, t.2))

entries_taken : (words : List PlacedWord) (entries : List EntrySaid) → entries_of words ≡ Ok entries → (length entries ≡ length words) × AreEntryWords entries (map (λ word. word.bytes) words)
unfolding entry_of
entries_taken [] entries e = subst (λ (es : List EntrySaid). (length es ≡ 0) × AreEntryWords es []) (same_ok [] entries e) (refl, tt)
entries_taken (word ∷ words) entries e =
    let n = bind_ok (or_at word.at (entry_of word.bytes)) (λ entry. entries_of words >>= λ others. Ok (entry_said word.at entry ∷ others)) entries e in
    let o = bind_ok (entries_of words) (λ others. Ok (entry_said word.at n.0 ∷ others)) entries n.2 in
    let rest = entries_taken words o.0 o.1 in
    let first = entry_law word.at word.bytes n.0 (around_byte 42 word.bytes) refl (or_at_ok word.at (entry_of word.bytes) n.0 n.1) in
    subst (λ (es : List EntrySaid). (length es ≡ suc (length words)) × AreEntryWords es (word.bytes ∷ map (λ w. w.bytes) words)) (same_ok _ entries o.2) (ap suc rest.0, (first, rest.1))

turns_taken : (line : PlacedLine) (stand : Stand) (said : LineSaid) → ((entries : List EntrySaid) → MayStand stand (kinds.Turns entries)) → turns_at line ≡ Ok said → MayStand stand said × IsLineOf said (codes "turns" ∷ bare_at line 1)
unfolding turns_at
turns_taken line stand said may e =
    let f = bind_ok (word_at line 1) (λ first. entries_of (words_from 1 line) >>= λ entries. Ok (kinds.Turns entries)) said e in
    let n = bind_ok (entries_of (words_from 1 line)) (λ entries. Ok (kinds.Turns entries)) said f.2 in
    let t = entries_taken (words_from 1 line) n.0 n.1 in
    let here = bare_from_drop line.words 1 in
    let some : 1 ≤ length (bare_at line 1) = omega (arith, ap length (word_taken line 1 f.0 f.1)) in
    let count : 1 ≤ length n.0 = omega (arith, some, t.0, ap length here, length-map (words_from 1 line) (λ (w : PlacedWord). w.bytes)) in
    subst (λ (s : LineSaid). MayStand stand s × IsLineOf s (codes "turns" ∷ bare_at line 1)) (same_ok _ said n.2)
    (may n.0, (bare_at line 1, refl, count, subst (AreEntryWords n.0) (sym here) t.1))

-- ---- lines, by where they stand

-- the words are the line's, which may stand there
abbrev IsLineAt : Stand → List (List ℕ) → LineSaid → Type 0
IsLineAt stand words said = MayStand stand said × IsLineOf said words

alone_taken : (line : PlacedLine) (stand : Stand) (word : List ℕ) (what said : LineSaid) → MayStand stand what → IsLineOf what (word ∷ []) → if_ended line 1 what ≡ Ok said → IsLineAt stand (word ∷ bare_at line 1) said
alone_taken line stand word what said may is e =
    let z = ended_taken line 1 what said e in
    subst (IsLineAt stand (word ∷ bare_at line 1)) z.1 (may, subst (λ (ws : List (List ℕ)). IsLineOf what (word ∷ ws)) (sym z.0) is)

in_txn_taken : (line : PlacedLine) (at : ℕ) (verb : List ℕ) (said : LineSaid) → in_txn_at line at verb ≡ Ok said → IsLineAt stands.InTxn (verb ∷ bare_at line 1) said
unfolding in_txn_at
in_txn_taken line at verb said e =
    let P = λ (b : List ℕ). IsLineAt stands.InTxn (b ∷ bare_at line 1) said in
    choice verb (codes "commit") (if_ended line 1 (kinds.End false)) _ (Ok said) P e (alone_taken line stands.InTxn (codes "commit") (kinds.End false) said tt refl)
    (λ e. choice verb (codes "abort") (if_ended line 1 (kinds.End true)) _ (Ok said) P e (alone_taken line stands.InTxn (codes "abort") (kinds.End true) said tt refl)
    (λ e.
    let c = bind_ok (command_by line at verb) (λ command. Ok (kinds.Command command)) said e in
    subst (IsLineAt stands.InTxn (verb ∷ bare_at line 1)) (same_ok _ said c.2) (tt, command_taken line at verb c.0 c.1)))

in_turns_taken : (line : PlacedLine) (stand : Stand) (at : ℕ) (verb : List ℕ) (said : LineSaid) → ((entries : List EntrySaid) → MayStand stand (kinds.Turns entries)) → in_turns_at line at verb ≡ Ok said → IsLineAt stand (verb ∷ bare_at line 1) said
unfolding in_turns_at
in_turns_taken line stand at verb said may e =
    choice verb (codes "turns") (turns_at line) _ (Ok said) (λ (b : List ℕ). IsLineAt stand (b ∷ bare_at line 1) said) e (turns_taken line stand said may)
    (λ e. fault_taken at said e)

at_start_taken : (line : PlacedLine) (at : ℕ) (verb : List ℕ) (said : LineSaid) → at_start_at line at verb ≡ Ok said → IsLineAt stands.Start (verb ∷ bare_at line 1) said × MayStand stands.InClient said
unfolding at_start_at
at_start_taken line at verb said e =
    choice verb (codes "client") (client_at line) _ (Ok said) (λ (b : List ℕ). IsLineAt stands.Start (b ∷ bare_at line 1) said × MayStand stands.InClient said) e
    (λ e. let c = client_taken line said e in ((c.0, c.2), c.1))
    (λ e. (in_turns_taken line stands.Start at verb said (λ entries. tt) e, (in_turns_taken line stands.InClient at verb said (λ entries. tt) e).0))

in_client_taken : (line : PlacedLine) (at : ℕ) (verb : List ℕ) (said : LineSaid) → in_client_at line at verb ≡ Ok said → IsLineAt stands.InClient (verb ∷ bare_at line 1) said
unfolding in_client_at
in_client_taken line at verb said e =
    let P = λ (b : List ℕ). IsLineAt stands.InClient (b ∷ bare_at line 1) said in
    choice verb (codes "begin") (if_ended line 1 (kinds.Begin true)) _ (Ok said) P e (alone_taken line stands.InClient (codes "begin") (kinds.Begin true) said tt refl)
    (λ e. choice verb (codes "read") (if_ended line 1 (kinds.Begin false)) _ (Ok said) P e (alone_taken line stands.InClient (codes "read") (kinds.Begin false) said tt refl)
    (λ e. let s = at_start_taken line at verb said e in (s.1, s.0.1)))

verb_taken : (stand : Stand) (line : PlacedLine) (at : ℕ) (verb : List ℕ) (said : LineSaid) → said_by_verb stand line at verb ≡ Ok said → IsLineAt stand (verb ∷ bare_at line 1) said
verb_taken stands.Start line at verb said e = (at_start_taken line at verb said e).0
verb_taken stands.InClient line at verb said e = in_client_taken line at verb said e
verb_taken stands.InTxn line at verb said e = in_txn_taken line at verb said e
verb_taken stands.InTurns line at verb said e = in_turns_taken line stands.InTurns at verb said (λ entries. tt) e

line_taken : (stand : Stand) (line : PlacedLine) (said : LineSaid) → said_at stand line ≡ Ok said → IsLineAt stand (bare_words line) said
unfolding said_at
line_taken stand line said e =
    let w = bind_ok (word_at line 0) (λ verb. said_by_verb stand line verb.at verb.bytes) said e in
    subst (λ (ws : List (List ℕ)). IsLineAt stand ws said) (sym (word_taken line 0 w.0 w.1) ∙ bare_from_first line.words) (verb_taken stand line w.0.at w.0.bytes said w.2)

end_taken : (end : ℕ) (stand : Stand) → ends_at end stand ≡ Ok tt → MayEnd stand
end_taken end stands.InTxn e = fault_taken end tt e
end_taken end stands.Start e = tt
end_taken end stands.InClient e = tt
end_taken end stands.InTurns e = tt

-- what lines say is spelled in them
pub lines_taken : (end : ℕ) (stand : Stand) (lines : List PlacedLine) (said : List LineSaid) → said_from end stand lines ≡ Ok said → AreLinesOf stand said (bare_lines lines)
unfolding said_from
lines_taken end stand [] said e =
    let n = bind_ok (ends_at end stand) (λ nothing. Ok []) said e in
    subst (λ (s : List LineSaid). AreLinesOf stand s []) (same_ok [] said n.2) (end_taken end stand n.1)
lines_taken end stand (line ∷ lines) said e =
    let n = bind_ok (said_at stand line) (λ first. said_from end (stand_after first) lines >>= λ others. Ok (first ∷ others)) said e in
    let o = bind_ok (said_from end (stand_after n.0) lines) (λ others. Ok (n.0 ∷ others)) said n.2 in
    let first = line_taken stand line n.0 n.1 in
    subst (λ (s : List LineSaid). AreLinesOf stand s (bare_words line ∷ bare_lines lines)) (same_ok _ said o.2)
    (first.0, first.1, lines_taken end (stand_after n.0) lines o.0 o.1)
