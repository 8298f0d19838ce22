-- Options and entries read one after the other, as the loops of the reader do.
use Rattle.std.proofs.Common.{◌≡◌, ℕ, zero, suc, ◌+◌, ◌<◌, ◌≤◌, Bool, true, false, cond, List, [], ◌∷◌, ◌++◌, length, drop, slice_get, Result, Ok, Err, refl, sym, ap, ◌∙◌, append_assoc, arith}
use Rattle.std.proofs.lemmas.List.{append-nil}
use Rattle.std.proofs.Math.ListN.{drop_of_length-le}
use Rattle.ostore_text_words.specs.declared.fault.TextFault.{TextFault}
use Rattle.ostore_text_words.specs.declared.fault.TextFault.TheVariants as texts
use Rattle.ostore_text_words.specs.Gives.{Fails}
use Rattle.ostore_text_words.specs.Words.{may_stand}
use Rattle.ostore_text_words.specs.Lines.{PlacedWord, PlacedLine}
use Rattle.ostore_text_words.specs.LineWords.{◌>>=◌, or_at, word_at, any_at}
use Rattle.ostore_job_text.specs.declared.said.OptionSaid.{OptionSaid}
use Rattle.ostore_job_text.specs.declared.said.EntrySaid.{EntrySaid}
use Rattle.ostore_job_text.specs.WordsSaid.{is_count, entry_of}
use Rattle.ostore_job_text.specs.LinesSaid.{option_of, options_of, entry_said, entries_of}
use Rattle.ostore_job_text.specs.inside.WordLoops.{count_at, option_at, entry_at}

-- ---- any list that is read

-- what was read before, and what is still read
abbrev pub with_front : {A : Type 0} → List A → Result (List A) ℕ → Result (List A) ℕ
with_front front later = later >>= λ others. Ok (front ++ others)

pub front_begins : {A : Type 0} (later : Result (List A) ℕ) → with_front [] later ≡ later
front_begins (Err at) = refl
front_begins (Ok others) = refl

pub front_grows : {A : Type 0} (front : List A) (x : A) (later : Result (List A) ℕ) → with_front front (later >>= λ others. Ok (x ∷ others)) ≡ with_front (front ++ x ∷ []) later
front_grows front x (Err at) = refl
front_grows {A = A} front x (Ok others) = ap (λ (xs : List A). Ok xs) (sym (append_assoc front (x ∷ []) others))

pub fails_so : {X Y : Type 0} (fault : TextFault) (part : Result X ℕ) (total : Result Y ℕ) → ((at : ℕ) → part ≡ Err at → total ≡ Err at) → Fails fault part → Fails fault total
fails_so (texts.Syntax at) part total so h = so at h
fails_so texts.OutOfMemory part total so h = tt

-- ---- options

abbrev pub options_on : PlacedLine → ℕ → Result (List OptionSaid) ℕ
options_on line i = options_of line.end (drop i line.words)

-- a name that may stand, and its count, as they are judged one after the other
abbrev if_stands : PlacedWord → Bool → Result PlacedWord ℕ
if_stands word test = cond test (Ok word) (Err word.at)

lone : (end : ℕ) (name : PlacedWord) (test : Bool)
    → cond {A = Result (List OptionSaid) ℕ} test (Err end) (Err name.at) ≡ (if_stands name test >>= λ o. Err end)
lone end name true = refl
lone end name false = refl

pair : (name number : PlacedWord) (test counts : Bool) (later : Result (List OptionSaid) ℕ)
    → cond {A = Result (List OptionSaid) ℕ} test (cond counts (later >>= λ options. Ok (option_of name number ∷ options)) (Err number.at)) (Err name.at)
    ≡ (if_stands name test >>= λ o. if_stands number counts >>= λ n. later >>= λ options. Ok (option_of o n ∷ options))
pair name number true true later = refl
pair name number true false later = refl
pair name number false counts later = refl

words_step : (end : ℕ) (words : List PlacedWord) (i : ℕ) → i < length words
    → options_of end (drop i words)
    ≡ ((or_at end (slice_get words i) >>= λ word. if_stands word (may_stand word.bytes)) >>= λ o. (or_at end (slice_get words (suc i)) >>= λ word. if_stands word (is_count word.bytes)) >>= λ n. options_of end (drop (suc (suc i)) words) >>= λ options. Ok (option_of o n ∷ options))
words_step end [] i lt = absurd (omega arith)
words_step end (name ∷ []) zero lt = lone end name (may_stand name.bytes)
words_step end (name ∷ number ∷ words) zero lt = pair name number (may_stand name.bytes) (is_count number.bytes) (options_of end words)
words_step end (word ∷ words) (suc i) lt = words_step end words i (omega arith)

options_step : (line : PlacedLine) (i n m : ℕ) → n ≡ suc i → m ≡ suc (suc i) → i < length line.words
    → options_on line i ≡ (any_at line i >>= λ o. count_at line n >>= λ c. options_on line m >>= λ options. Ok (option_of o c ∷ options))
unfolding any_at count_at
options_step line i n m a b lt = rw (a, b) (words_step line.end line.words i lt)

regrouped : {A B C D : Type 0} (a : Result A ℕ) (b : Result B ℕ) (f : A → B → C) (k : C → Result D ℕ) → ((a >>= λ x. b >>= λ y. Ok (f x y)) >>= k) ≡ (a >>= λ x. b >>= λ y. k (f x y))
regrouped (Err at) b f k = refl
regrouped (Ok x) (Err at) f k = refl
regrouped (Ok x) (Ok y) f k = refl

abbrev before_options : Result (List OptionSaid) ℕ → OptionSaid → Result (List OptionSaid) ℕ
before_options later option = later >>= λ options. Ok (option ∷ options)

option_first : (line : PlacedLine) (i : ℕ) → i < length line.words → options_on line i ≡ (option_at line i >>= before_options (options_on line (i + 2)))
unfolding option_at
option_first line i lt =
    options_step line i (i + 1) (i + 2) (omega arith) (omega arith) lt
    ∙ sym (regrouped (any_at line i) (count_at line (i + 1)) option_of (before_options (options_on line (i + 2))))

-- an option is read
pub option_read : (front : List OptionSaid) (line : PlacedLine) (i : ℕ) (option : OptionSaid) → i < length line.words → option_at line i ≡ Ok option
    → with_front front (options_on line i) ≡ with_front (front ++ option ∷ []) (options_on line (i + 2))
option_read front line i option lt e =
    ap (with_front front) (option_first line i lt ∙ ap (λ (r : Result OptionSaid ℕ). r >>= before_options (options_on line (i + 2))) e)
    ∙ front_grows front option (options_on line (i + 2))

-- an option has a fault
pub option_fails : (fault : TextFault) (front : List OptionSaid) (line : PlacedLine) (i : ℕ) (total : Result (List OptionSaid) ℕ) → i < length line.words → Fails fault (option_at line i)
    → with_front front (options_on line i) ≡ total → Fails fault total
option_fails fault front line i total lt h so_far =
    fails_so fault (option_at line i) total (λ at e. sym so_far ∙ ap (with_front front) (option_first line i lt ∙ ap (λ (r : Result OptionSaid ℕ). r >>= before_options (options_on line (i + 2))) e)) h

-- all options are read
pub options_end : (front : List OptionSaid) (line : PlacedLine) (i : ℕ) → length line.words ≤ i → with_front front (options_on line i) ≡ Ok front
options_end front line i le =
    ap (λ (words : List PlacedWord). with_front front (options_of line.end words)) (drop_of_length-le line.words le)
    ∙ ap (λ (options : List OptionSaid). Ok options) (append-nil front)

-- ---- entries

abbrev pub entries_on : PlacedLine → ℕ → Result (List EntrySaid) ℕ
entries_on line i = entries_of (drop i line.words)

entry_words : (end : ℕ) (words : List PlacedWord) (i : ℕ) → i < length words
    → entries_of (drop i words) ≡ (or_at end (slice_get words i) >>= λ word. or_at word.at (entry_of word.bytes) >>= λ entry. entries_of (drop (suc i) words) >>= λ others. Ok (entry_said word.at entry ∷ others))
entry_words end [] i lt = absurd (omega arith)
entry_words end (word ∷ words) zero lt = refl
entry_words end (word ∷ words) (suc i) lt = entry_words end words i (omega arith)

abbrev before_entries : Result (List EntrySaid) ℕ → EntrySaid → Result (List EntrySaid) ℕ
before_entries later entry = later >>= λ others. Ok (entry ∷ others)

entry_said_grouped : (at : ℕ) (entry : Result (List ℕ × ℕ) ℕ) (later : Result (List EntrySaid) ℕ)
    → ((entry >>= λ e. Ok (entry_said at e)) >>= before_entries later) ≡ (entry >>= λ e. later >>= λ others. Ok (entry_said at e ∷ others))
entry_said_grouped at (Err place) later = refl
entry_said_grouped at (Ok entry) later = refl

entry_grouped : (word : Result PlacedWord ℕ) (later : Result (List EntrySaid) ℕ)
    → ((word >>= λ w. or_at w.at (entry_of w.bytes) >>= λ e. Ok (entry_said w.at e)) >>= before_entries later) ≡ (word >>= λ w. or_at w.at (entry_of w.bytes) >>= λ e. later >>= λ others. Ok (entry_said w.at e ∷ others))
entry_grouped (Err at) later = refl
entry_grouped (Ok word) later = entry_said_grouped word.at (or_at word.at (entry_of word.bytes)) later

entry_first : (line : PlacedLine) (i n : ℕ) → n ≡ suc i → i < length line.words → entries_on line i ≡ (entry_at line i >>= before_entries (entries_on line n))
unfolding entry_at
entry_first line i n a lt = rw a (entry_words line.end line.words i lt ∙ sym (entry_grouped (word_at line i) (entries_on line (suc i))))

-- an entry is read
pub entry_read : (front : List EntrySaid) (line : PlacedLine) (i : ℕ) (entry : EntrySaid) → i < length line.words → entry_at line i ≡ Ok entry
    → with_front front (entries_on line i) ≡ with_front (front ++ entry ∷ []) (entries_on line (i + 1))
entry_read front line i entry lt e =
    ap (with_front front) (entry_first line i (i + 1) (omega arith) lt ∙ ap (λ (r : Result EntrySaid ℕ). r >>= before_entries (entries_on line (i + 1))) e)
    ∙ front_grows front entry (entries_on line (i + 1))

-- an entry has a fault
pub entry_fails : (fault : TextFault) (front : List EntrySaid) (line : PlacedLine) (i : ℕ) (total : Result (List EntrySaid) ℕ) → i < length line.words → Fails fault (entry_at line i)
    → with_front front (entries_on line i) ≡ total → Fails fault total
entry_fails fault front line i total lt h so_far =
    fails_so fault (entry_at line i) total (λ at e. sym so_far ∙ ap (with_front front) (entry_first line i (i + 1) (omega arith) lt ∙ ap (λ (r : Result EntrySaid ℕ). r >>= before_entries (entries_on line (i + 1))) e)) h

-- all entries are read
pub entries_end : (front : List EntrySaid) (line : PlacedLine) (i : ℕ) → length line.words ≤ i → with_front front (entries_on line i) ≡ Ok front
entries_end front line i le =
    ap (λ (words : List PlacedWord). with_front front (entries_of words)) (drop_of_length-le line.words le)
    ∙ ap (λ (entries : List EntrySaid). Ok entries) (append-nil front)
