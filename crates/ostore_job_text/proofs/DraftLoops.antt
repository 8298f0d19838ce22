-- Lines that are put together one after the other, as the loop of the reader does.
use Rattle.std.proofs.Common.{◌≡◌, ℕ, ◌+◌, ◌<◌, ◌≤◌, true, false, cond, List, [], ◌∷◌, ◌++◌, length, get_or, take, drop, Some, None, Result, Ok, Err, refl, sym, ap, ◌∙◌, arith}
use Rattle.std.proofs.lemmas.Bool.{false≢true}
use Rattle.std.proofs.lemmas.List.{drop_more, take_more}
use Rattle.std.proofs.Math.ListN.{drop_of_length-le}
use Rattle.ostore_text_words.specs.declared.fault.TextFault.{TextFault}
use Rattle.ostore_text_words.specs.Gives.{Fails}
use Rattle.ostore_text_words.specs.Lines.{PlacedLine, has_line}
use Rattle.ostore_text_words.specs.LineWords.{◌>>=◌, line_at}
use Rattle.ostore_job_text.specs.declared.said.LineSaid.{LineSaid}
use Rattle.ostore_job_text.specs.declared.said.EntrySaid.{EntrySaid}
use Rattle.ostore_job_text.specs.declared.said.OptionSaid.{OptionSaid}
use Rattle.ostore_job_text.specs.declared.said.Stand.{Stand}
use Rattle.ostore_job_text.specs.declared.reading.draft.Draft.{Draft}
use Rattle.ostore_job_text.specs.LinesSaid.{said_at, stand_after, ends_at, said_from}
use Rattle.ostore_job_text.specs.Drafted.{put, put_all, put_entry, put_entries, is_good_option, bad_option}
use Rattle.ostore_job_text.specs.ParsedJob.{with_draft}
use Rattle.ostore_job_text.proofs.WordLoops.{fails_so}

-- ---- lines

pub line_grouped : (draft : Draft) (said : LineSaid) (later : Result (List LineSaid) ℕ) → with_draft draft (later >>= λ others. Ok (said ∷ others)) ≡ with_draft (put draft said) later
unfolding put_all
line_grouped draft said (Err at) = refl
line_grouped draft said (Ok others) = refl

-- a line is put
pub line_put : (draft : Draft) (stand : Stand) (end from : ℕ) (lines rest : List PlacedLine) (said : LineSaid) → has_line lines ≡ true → (line_at (record { lines = lines; end = from }) >>= said_at stand) ≡ Ok said → rest ≡ drop 1 lines
    → (with_draft draft (said_from end stand lines) ≡ with_draft (put draft said) (said_from end (stand_after said) rest)) × (length rest < length lines)
unfolding said_from
line_put draft stand end from [] rest said more h left = absurd (false≢true more)
line_put draft stand end from (line ∷ lines) rest said more h left =
    let step : with_draft draft (said_from end stand (line ∷ lines)) ≡ with_draft (put draft said) (said_from end (stand_after said) lines) =
    rw h (line_grouped draft said (said_from end (stand_after said) lines)) in
    (rw left step, rw left (omega arith))

-- a line has a fault
pub line_fails : (fault : TextFault) (draft : Draft) (stand : Stand) (end from : ℕ) (lines : List PlacedLine) (total : Result Draft ℕ) → has_line lines ≡ true → Fails fault (line_at (record { lines = lines; end = from }) >>= said_at stand)
    → with_draft draft (said_from end stand lines) ≡ total → Fails fault total
unfolding said_from
line_fails fault draft stand end from [] total more h so_far = absurd (false≢true more)
line_fails fault draft stand end from (line ∷ lines) total more h so_far =
    fails_so fault (said_at stand line) total (λ at e. sym so_far ∙ (rw e refl)) h

-- no line is left
pub lines_end : (draft : Draft) (stand : Stand) (end : ℕ) (lines : List PlacedLine) (nothing : Unit {0}) → has_line lines ≡ false → ends_at end stand ≡ Ok nothing → with_draft draft (said_from end stand lines) ≡ Ok draft
unfolding said_from put_all
lines_end draft stand end [] nothing none h = rw h refl
lines_end draft stand end (line ∷ lines) nothing none h = absurd (false≢true (sym none))

pub lines_lack : (fault : TextFault) (draft : Draft) (stand : Stand) (end : ℕ) (lines : List PlacedLine) (total : Result Draft ℕ) → has_line lines ≡ false → Fails fault (ends_at end stand)
    → with_draft draft (said_from end stand lines) ≡ total → Fails fault total
unfolding said_from
lines_lack fault draft stand end [] total none h so_far = fails_so fault (ends_at end stand) total (λ at e. sym so_far ∙ (rw e refl)) h
lines_lack fault draft stand end (line ∷ lines) total none h so_far = absurd (false≢true (sym none))

-- ---- entries

pub entry_put : (draft : Draft) (entries : List EntrySaid) (i : ℕ) (entry : EntrySaid) → i < length entries → entry ≡ get_or entries i entry
    → put_entries draft (drop i entries) ≡ put_entries (put_entry draft entry) (drop (i + 1) entries)
unfolding put_entries
entry_put draft entries i entry lt is =
    ap (put_entries draft) (drop_more entries i entry lt ∙ ap (λ (e : EntrySaid). e ∷ drop (i + 1) entries) (sym is))

pub entries_put : (draft : Draft) (entries : List EntrySaid) (i : ℕ) → length entries ≤ i → put_entries draft (drop i entries) ≡ draft
unfolding put_entries
entries_put draft entries i le = ap (put_entries draft) (drop_of_length-le entries le)

-- ---- options

options_ahead : (options : List OptionSaid) (i : ℕ) (option : OptionSaid) → i < length options → option ≡ get_or options i option
    → bad_option (take i options) (drop i options) ≡ cond (is_good_option (take i options) option) (bad_option (take (i + 1) options) (drop (i + 1) options)) (Some option.at)
unfolding bad_option
options_ahead options i option lt is =
    ap (bad_option (take i options)) (drop_more options i option lt ∙ ap (λ (o : OptionSaid). o ∷ drop (i + 1) options) (sym is))
    ∙ ap (λ (os : List OptionSaid). cond (is_good_option (take i options) option) (bad_option os (drop (i + 1) options)) (Some option.at))
    (ap (λ (o : OptionSaid). take i options ++ o ∷ []) is ∙ sym (take_more options i option lt))

pub option_bad : (options : List OptionSaid) (i : ℕ) (option : OptionSaid) → i < length options → option ≡ get_or options i option → is_good_option (take i options) option ≡ false
    → bad_option (take i options) (drop i options) ≡ Some option.at
option_bad options i option lt is bad = options_ahead options i option lt is ∙ (rw bad refl)

pub option_good : (options : List OptionSaid) (i : ℕ) (option : OptionSaid) → i < length options → option ≡ get_or options i option → is_good_option (take i options) option ≡ true
    → bad_option (take i options) (drop i options) ≡ bad_option (take (i + 1) options) (drop (i + 1) options)
option_good options i option lt is good = options_ahead options i option lt is ∙ (rw good refl)

pub options_good : (options : List OptionSaid) (i : ℕ) → length options ≤ i → bad_option (take i options) (drop i options) ≡ None
unfolding bad_option
options_good options i le = ap (bad_option (take i options)) (drop_of_length-le options le)
