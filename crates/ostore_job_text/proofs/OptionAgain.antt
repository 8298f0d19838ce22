-- The options of a client's line: what is spelled is read.
use Rattle.std.proofs.Common.{◌≡◌, ◌≢◌, ℕ, ◌+◌, ◌/◌, ◌%◌, ◌^◌, ◌<◌, ◌≤◌, ◌⊎◌, Bool, true, false, ◌&&◌, not, eqb, leb, ltb, List, [], ◌∷◌, ◌++◌, length, map, decimal, Some, None, Result, Ok, refl, sym, ap, subst, ◌∙◌, append_assoc, arith, inl, inr}
use Rattle.std.specs.Char.{is_ascii_digit}
use Rattle.std.specs.List.{AllByRecursion, flat_map, list_all, find}
use Rattle.std.specs.Str.{bytes_eq}
use Rattle.std.proofs.lemmas.Bool.{and_from, lt-ltb, le-leb, ne_eqb}
use Rattle.std.proofs.lemmas.Fmt.{decimal_by_steps}
use Rattle.std.proofs.lemmas.List.{length-append}
use Rattle.std.proofs.lemmas.List.Folds.{list_all-append}
use Rattle.ostore_text_words.specs.Words.{◌>>=◌ as ◌>>?◌, may_stand}
use Rattle.ostore_text_words.specs.Lines.{PlacedWord}
use Rattle.ostore_text_words.specs.LineWords.{◌>>=◌}
use Rattle.ostore_text_words.proofs.WordLaws.{count_again}
use Rattle.ostore_text_words.proofs.LineWordLaws.{bytes_same}
use Rattle.ostore_schema_layout.specs.Cells.{ArePairwise}
use Rattle.ostore_job_text.specs.declared.job.JobClient.{JobClient}
use Rattle.ostore_job_text.specs.declared.said.OptionSaid.{OptionSaid}
use Rattle.ostore_job_text.specs.WordsSaid.{has_leading_zero, is_count}
use Rattle.ostore_job_text.specs.LinesSaid.{option_of, options_of}
use Rattle.ostore_job_text.specs.Drafted.{option_limit, option_number, is_repeated, bad_option, or_default, number_given}
use Rattle.ostore_job_text.specs.LawfulJob.{Setting, tries, cache, frames, setting_name, setting_default, setting_most, setting_of, IsLawfulSetting}
use Rattle.ostore_job_text.specs.JobSpelling.{setting_words}

-- ---- counts

abbrev begins_zero : List ℕ → Bool
begins_zero [] = false
begins_zero (byte ∷ others) = eqb byte 48

abbrev IsCountOf : ℕ → List ℕ → Type 0
IsCountOf n digits = (0 < length digits) × (list_all is_ascii_digit digits ≡ true) × (1 ≤ n → begins_zero digits ≡ false)

digit_is : (n : ℕ) → n < 10 → is_ascii_digit (48 + n) ≡ true
digit_is n h = and_from (leb 48 (48 + n)) (leb (48 + n) 57) (le-leb 48 (48 + n) (omega arith)) (le-leb (48 + n) 57 (omega arith))

count_one : (n : ℕ) → n < 10 → IsCountOf n ((48 + n) ∷ [])
count_one n h = (omega arith, and_from (is_ascii_digit (48 + n)) true (digit_is n h) refl, λ some. ne_eqb (48 + n) 48 (λ e. absurd (omega arith)))

same_begin : (digits : List ℕ) (last : ℕ) → 0 < length digits → begins_zero digits ≡ false → begins_zero (digits ++ last ∷ []) ≡ false
same_begin [] last some h = absurd (omega arith)
same_begin (byte ∷ others) last some h = h

count_more : (n : ℕ) (digits : List ℕ) → 10 ≤ n → IsCountOf (n / 10) digits → IsCountOf n (digits ++ ((48 + n % 10) ∷ []))
count_more n digits h before =
    let last : n % 10 < 10 = omega arith in
    let long = length-append digits ((48 + n % 10) ∷ []) in
    let more : 1 ≤ n / 10 = omega arith in
    (omega arith, list_all-append is_ascii_digit digits ((48 + n % 10) ∷ []) ∙ and_from (list_all is_ascii_digit digits) (list_all is_ascii_digit ((48 + n % 10) ∷ [])) before.1 ((count_one (n % 10) last).1), λ some. same_begin digits (48 + n % 10) before.0 (before.2 more))

no_leading_zero : (digits : List ℕ) → begins_zero digits ≡ false → has_leading_zero digits ≡ false
no_leading_zero [] h = refl
no_leading_zero (byte ∷ others) h = rw h refl

pub decimal_count : (n : ℕ) → 1 ≤ n → n < 2 ^ 64 → is_count (decimal n) ≡ true
unfolding is_count
decimal_count n some fits =
    let p = decimal_by_steps IsCountOf count_one count_more n fits in
    let zero = no_leading_zero (decimal n) (p.2 some) in
    and_from (ltb 0 (length (decimal n)) && list_all is_ascii_digit (decimal n)) (not (has_leading_zero (decimal n)))
    (and_from (ltb 0 (length (decimal n))) (list_all is_ascii_digit (decimal n)) (lt-ltb 0 (length (decimal n)) p.0) p.1) (ap not zero)

-- ---- settings

pub setting_case : (one other : Setting) → (one ≡ other) ⊎ (one ≢ other)
setting_case tries tries = inl refl
setting_case tries cache = inr (λ e. cc)
setting_case tries frames = inr (λ e. cc)
setting_case cache tries = inr (λ e. cc)
setting_case cache cache = inl refl
setting_case cache frames = inr (λ e. cc)
setting_case frames tries = inr (λ e. cc)
setting_case frames cache = inr (λ e. cc)
setting_case frames frames = inl refl

pub names_apart : (one other : Setting) → one ≢ other → bytes_eq (setting_name one) (setting_name other) ≡ false
names_apart tries tries h = absurd (h refl)
names_apart tries cache h = refl
names_apart tries frames h = refl
names_apart cache tries h = refl
names_apart cache cache h = absurd (h refl)
names_apart cache frames h = refl
names_apart frames tries h = refl
names_apart frames cache h = refl
names_apart frames frames h = absurd (h refl)

setting_stands : (setting : Setting) → may_stand (setting_name setting) ≡ true
unfolding may_stand
setting_stands tries = refl
setting_stands cache = refl
setting_stands frames = refl

pub setting_limit : (setting : Setting) → (option_limit (setting_name setting) ≡ Some (setting_most setting)) × (setting_most setting < 2 ^ 64)
unfolding option_limit
setting_limit tries = (refl, omega arith)
setting_limit cache = (refl, omega arith)
setting_limit frames = (refl, omega arith)

-- an option says what a client has for a setting
abbrev pub SaysSetting : JobClient → Setting → OptionSaid → Type 0
SaysSetting client setting option = (option.name ≡ setting_name setting) × (option.number ≡ decimal (setting_of client setting))

abbrev pub SaySettings : JobClient → List Setting → List OptionSaid → Type 0
SaySettings client [] [] = Unit {0}
SaySettings client (setting ∷ settings) (option ∷ options) = SaysSetting client setting option × SaySettings client settings options
SaySettings client [] (option ∷ options) = ⊥
SaySettings client (setting ∷ settings) [] = ⊥

number_said : (client : JobClient) (setting : Setting) (option : OptionSaid) → SaysSetting client setting option → IsLawfulSetting client setting → option_number option ≡ Some (setting_of client setting)
number_said client setting option s h =
    let l = setting_limit setting in
    rw (s.0, s.1, l.0) (count_again 1 (setting_most setting) (setting_of client setting) h.0 h.1 (omega (arith, h.1, l.1)))

-- ---- the options of a line

abbrev before_options : Result (List OptionSaid) ℕ → OptionSaid → Result (List OptionSaid) ℕ
before_options later option = later >>= λ options. Ok (option ∷ options)

option_pair : (end : ℕ) (name number : PlacedWord) (others : List PlacedWord) (options : List OptionSaid) → may_stand name.bytes ≡ true → is_count number.bytes ≡ true → options_of end others ≡ Ok options
    → options_of end (name ∷ number ∷ others) ≡ Ok (option_of name number ∷ options)
option_pair end name number others options stands counts later = rw (stands, counts, later) refl

pub options_again : (end : ℕ) (client : JobClient) (given : List Setting) (words : List PlacedWord) → map (λ word. word.bytes) words ≡ flat_map (setting_words client) given → ((setting : Setting) → IsLawfulSetting client setting)
    → (options : List OptionSaid) × (options_of end words ≡ Ok options) × SaySettings client given options
options_again end client [] [] e h = ([], refl, tt)
options_again end client [] (word ∷ words) e h = absurd cc
options_again end client (setting ∷ given) [] e h = absurd cc
options_again end client (setting ∷ given) (name ∷ []) e h = absurd cc
options_again end client (setting ∷ given) (name ∷ number ∷ others) e h =
    let first : name.bytes ≡ setting_name setting = cc in
    let second : number.bytes ≡ decimal (setting_of client setting) = cc in
    let rest : map (λ word. word.bytes) others ≡ flat_map (setting_words client) given = cc in
    let later = options_again end client given others rest h in
    let high = setting_limit setting in
    let stands : may_stand name.bytes ≡ true = ap may_stand first ∙ setting_stands setting in
    let counts : is_count number.bytes ≡ true = ap is_count second ∙ decimal_count (setting_of client setting) (h setting).0 (omega (arith, (h setting).1, high.1)) in
    (option_of name number ∷ later.0, option_pair end name number others later.0 stands counts later.1, ((first, second), later.2))

-- ---- none of them is bad

pub all_middle : {X : Type 0} (P : X → Type 0) (before : List X) (x : X) (more : List X) → AllByRecursion P (before ++ x ∷ more) → P x
all_middle P [] x more h = h.0
all_middle P (y ∷ before) x more h = all_middle P before x more h.1

pub pairwise_before : {X : Type 0} (R : X → X → Type 0) (before : List X) (x : X) (more : List X) → ArePairwise R (before ++ x ∷ more) → AllByRecursion (λ y. R y x) before
pairwise_before R [] x more h = tt
pairwise_before R (y ∷ before) x more h = (all_middle (R y) before x more h.0, pairwise_before R before x more h.1)

not_repeated : (client : JobClient) (setting : Setting) (option : OptionSaid) (before : List Setting) (earlier : List OptionSaid) → SaySettings client before earlier → SaysSetting client setting option → AllByRecursion (λ other. other ≢ setting) before → is_repeated earlier option ≡ false
not_repeated client setting option [] [] said s apart = refl
not_repeated client setting option [] (other ∷ earlier) said s apart = absurd said
not_repeated client setting option (first ∷ before) [] said s apart = absurd said
not_repeated client setting option (first ∷ before) (other ∷ earlier) said s apart =
    let here : bytes_eq other.name option.name ≡ false = ap (λ (w : List ℕ). bytes_eq w option.name) said.0.0 ∙ ap (bytes_eq (setting_name first)) s.0 ∙ names_apart first setting apart.0 in
    rw here (not_repeated client setting option before earlier said.1 s apart.1)

say_more : (client : JobClient) (before : List Setting) (earlier : List OptionSaid) (setting : Setting) (option : OptionSaid) → SaySettings client before earlier → SaysSetting client setting option → SaySettings client (before ++ setting ∷ []) (earlier ++ option ∷ [])
say_more client [] [] setting option said s = (s, tt)
say_more client [] (other ∷ earlier) setting option said s = absurd said
say_more client (first ∷ before) [] setting option said s = absurd said
say_more client (first ∷ before) (other ∷ earlier) setting option said s = (said.0, say_more client before earlier setting option said.1 s)

pub none_bad : (client : JobClient) (before given : List Setting) (earlier options : List OptionSaid) → SaySettings client before earlier → SaySettings client given options → ((setting : Setting) → IsLawfulSetting client setting) → ArePairwise (λ one other. one ≢ other) (before ++ given) → bad_option earlier options ≡ None
unfolding bad_option
none_bad client before [] earlier [] b g h apart = refl
none_bad client before [] earlier (option ∷ options) b g h apart = absurd g
none_bad client before (setting ∷ given) earlier [] b g h apart = absurd g
none_bad client before (setting ∷ given) earlier (option ∷ options) b g h apart =
    let new = not_repeated client setting option before earlier b g.0 (pairwise_before (λ one other. one ≢ other) before setting given apart) in
    let number = number_said client setting option g.0 (h setting) in
    let later = none_bad client (before ++ setting ∷ []) given (earlier ++ option ∷ []) options (say_more client before earlier setting option b g.0) g.1 h (subst (ArePairwise (λ one other. one ≢ other)) (sym (append_assoc before (setting ∷ []) given)) apart) in
    rw (new, number) later

-- ---- the numbers that are given

abbrev Found : JobClient → Setting → List Setting → List OptionSaid → Type 0
Found client setting given options =
    (AllByRecursion (λ other. other ≢ setting) given × ((find (λ option. bytes_eq option.name (setting_name setting)) options >>? option_number) ≡ None))
    ⊎ ((find (λ option. bytes_eq option.name (setting_name setting)) options >>? option_number) ≡ Some (setting_of client setting))

found_more : (client : JobClient) (setting first : Setting) (given : List Setting) (option : OptionSaid) (options : List OptionSaid) → first ≢ setting → bytes_eq option.name (setting_name setting) ≡ false → Found client setting given options → Found client setting (first ∷ given) (option ∷ options)
found_more client setting first given option options apart other (inl none) = inl ((apart, none.0), rw other none.1)
found_more client setting first given option options apart other (inr some) = inr (rw other some)

found : (client : JobClient) (setting : Setting) (given : List Setting) (options : List OptionSaid) → SaySettings client given options → IsLawfulSetting client setting → Found client setting given options
found client setting [] [] s h = inl (tt, refl)
found client setting [] (option ∷ options) s h = absurd s
found client setting (first ∷ given) [] s h = absurd s
found client setting (first ∷ given) (option ∷ options) s h =
    elim (setting_case first setting) [
      | inl same ↦
          let here : SaysSetting client setting option = subst (λ (x : Setting). SaysSetting client x option) same s.0 in
          let hit : bytes_eq option.name (setting_name setting) ≡ true = ap (λ (w : List ℕ). bytes_eq w (setting_name setting)) here.0 ∙ bytes_same (setting_name setting) in
          inr (rw hit (number_said client setting option here h))
      | inr apart ↦
          let miss : bytes_eq option.name (setting_name setting) ≡ false = ap (λ (w : List ℕ). bytes_eq w (setting_name setting)) s.0.0 ∙ names_apart first setting apart in
          found_more client setting first given option options apart miss (found client setting given options s.1 h)
    ]

given_by : (client : JobClient) (setting : Setting) (given : List Setting) (options : List OptionSaid) → Found client setting given options → (AllByRecursion (λ other. other ≢ setting) given → setting_of client setting ≡ setting_default setting)
    → number_given options (setting_name setting) (setting_default setting) ≡ setting_of client setting
given_by client setting given options (inl none) others = ap (or_default (setting_default setting)) none.1 ∙ sym (others none.0)
given_by client setting given options (inr some) others = ap (or_default (setting_default setting)) some

-- the number that is given, or the default
pub number_again : (client : JobClient) (setting : Setting) (given : List Setting) (options : List OptionSaid) → SaySettings client given options → IsLawfulSetting client setting → (AllByRecursion (λ other. other ≢ setting) given → setting_of client setting ≡ setting_default setting)
    → number_given options (setting_name setting) (setting_default setting) ≡ setting_of client setting
number_again client setting given options s h others = given_by client setting given options (found client setting given options s h) others
