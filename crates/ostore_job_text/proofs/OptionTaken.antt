-- The options of a client's line: what is read is spelled so.
use Rattle.std.proofs.Common.{◌≡◌, ◌≢◌, ℕ, ◌≤◌, ◌⊎◌, Bool, true, false, ◌||◌, not, List, [], ◌∷◌, ◌++◌, codes, decimal, Option, Some, None, refl, sym, ap, subst, ◌∙◌, append_assoc, arith, inl, inr}
use Rattle.std.specs.List.{AllByRecursion, flat_map, find}
use Rattle.std.specs.Str.{bytes_eq}
use Rattle.std.proofs.lemmas.Bool.{and_parts, false≢true, not-true}
use Rattle.std.proofs.lemmas.List.{append-nil}
use Rattle.std.proofs.lemmas.Option.{same_Some}
use Rattle.ostore_text_words.specs.Words.{◌>>=◌ as ◌>>?◌, count_at}
use Rattle.ostore_text_words.proofs.WordLaws.{bind_some, count_taken}
use Rattle.ostore_text_words.proofs.LineWordLaws.{bytes_are, bytes_same, chosen}
use Rattle.ostore_schema_layout.specs.Cells.{ArePairwise}
use Rattle.ostore_job_text.specs.declared.said.OptionSaid.{OptionSaid}
use Rattle.ostore_job_text.specs.Limits.{most_tries, most_frames}
use Rattle.ostore_base.specs.Limits.{most_pages}
use Rattle.ostore_job_text.specs.Drafted.{option_limit, option_number, is_there, is_repeated, is_good_option, bad_option, or_default, number_given}
use Rattle.ostore_job_text.specs.LawfulJob.{Setting, tries, cache, frames, setting_name, setting_default, setting_most}
use Rattle.ostore_job_text.specs.inside.LinesSpelled.{option_words}
use Rattle.ostore_job_text.proofs.OptionAgain.{setting_case, names_apart, setting_limit, pairwise_before}

-- ---- which settings are named

-- an option names a setting, and its number is within the limits
abbrev Names : Setting → OptionSaid → Type 0
Names setting option = (option.name ≡ setting_name setting) × (n : ℕ) × (option_number option ≡ Some n)

abbrev pub NameAll : List Setting → List OptionSaid → Type 0
NameAll [] [] = Unit {0}
NameAll (setting ∷ settings) (option ∷ options) = Names setting option × NameAll settings options
NameAll [] (option ∷ options) = ⊥
NameAll (setting ∷ settings) [] = ⊥

none_some : {A P : Type 0} (x : A) → ◌≡◌ {A = Option A} None (Some x) → P
none_some x e = absurd cc

limit_names : (name : List ℕ) (most : ℕ) → option_limit name ≡ Some most → (setting : Setting) × (name ≡ setting_name setting)
unfolding option_limit
limit_names name most e =
    elim (chosen (bytes_eq name (codes "tries")) (Some most_tries) _ (Some most) e) [
      | inl g ↦ (tries, bytes_are name (codes "tries") g.0)
      | inr g ↦ elim (chosen (bytes_eq name (codes "cache")) (Some most_pages) _ (Some most) g.1) [
        | inl h ↦ (cache, bytes_are name (codes "cache") h.0)
        | inr h ↦ elim (chosen (bytes_eq name (codes "frames")) (Some most_frames) None (Some most) h.1) [
          | inl k ↦ (frames, bytes_are name (codes "frames") k.0)
          | inr k ↦ none_some most k.1
        ]
      ]
    ]

is_some : {A : Type 0} (o : Option A) → is_there o ≡ true → (x : A) × (o ≡ Some x)
is_some None h = absurd (false≢true h)
is_some (Some x) h = (x, refl)

named_setting : (option : OptionSaid) → is_there (option_number option) ≡ true → (setting : Setting) × Names setting option
named_setting option h =
    let n = is_some (option_number option) h in
    let b = bind_some (option_limit option.name) (λ most. count_at 1 most option.number) n.0 n.1 in
    let s = limit_names option.name b.0 b.1 in
    (s.0, (s.1, n.0, n.1))

-- a good option comes first
good_first : (earlier : List OptionSaid) (option : OptionSaid) (options : List OptionSaid) → bad_option earlier (option ∷ options) ≡ None → (is_repeated earlier option ≡ false) × (is_there (option_number option) ≡ true) × (bad_option (earlier ++ option ∷ []) options ≡ None)
unfolding bad_option
good_first earlier option options e =
    elim (chosen (is_good_option earlier option) (bad_option (earlier ++ option ∷ []) options) (Some option.at) None e) [
      | inl g ↦
          let p = and_parts (not (is_repeated earlier option)) (is_there (option_number option)) g.0 in
          (not-true (is_repeated earlier option) p.0, p.1, g.1)
      | inr g ↦ none_some option.at (sym g.1)
    ]

or_false : (a b : Bool) → (a || b) ≡ false → (a ≡ false) × (b ≡ false)
or_false true b h = absurd (false≢true (sym h))
or_false false b h = (refl, h)

true_false : {P : Type 0} (b : Bool) → b ≡ true → b ≡ false → P
true_false b t f = absurd (false≢true (sym f ∙ t))

-- an option that isn't repeated names another setting than those before it
not_before : (before : List Setting) (earlier : List OptionSaid) (setting : Setting) (option : OptionSaid) → NameAll before earlier → option.name ≡ setting_name setting → is_repeated earlier option ≡ false → AllByRecursion (λ other. other ≢ setting) before
not_before [] [] setting option n s h = tt
not_before [] (other ∷ earlier) setting option n s h = tt
not_before (first ∷ before) [] setting option n s h = absurd n
not_before (first ∷ before) (other ∷ earlier) setting option n s h =
    let p = or_false (bytes_eq other.name option.name) (is_repeated earlier option) h in
    let apart : first ≢ setting = λ same. true_false (bytes_eq other.name option.name) (ap (λ (w : List ℕ). bytes_eq w option.name) (n.0.0 ∙ ap setting_name same ∙ sym s) ∙ bytes_same option.name) p.0 in
    (apart, not_before before earlier setting option n.1 s p.1)

name_more : (before : List Setting) (earlier : List OptionSaid) (setting : Setting) (option : OptionSaid) → NameAll before earlier → Names setting option → NameAll (before ++ setting ∷ []) (earlier ++ option ∷ [])
name_more [] [] setting option n s = (s, tt)
name_more [] (other ∷ earlier) setting option n s = absurd n
name_more (first ∷ before) [] setting option n s = absurd n
name_more (first ∷ before) (other ∷ earlier) setting option n s = (n.0, name_more before earlier setting option n.1 s)

pub all_join : {X : Type 0} (P : X → Type 0) (xs ys : List X) → AllByRecursion P xs → AllByRecursion P ys → AllByRecursion P (xs ++ ys)
all_join P [] ys h k = k
all_join P (x ∷ xs) ys h k = (h.0, all_join P xs ys h.1 k)

apart_more : (before : List Setting) (setting : Setting) → ArePairwise (λ one other. one ≢ other) before → AllByRecursion (λ other. other ≢ setting) before → ArePairwise (λ one other. one ≢ other) (before ++ setting ∷ [])
apart_more [] setting apart h = (tt, tt)
apart_more (first ∷ before) setting apart h = (all_join (λ other. first ≢ other) before (setting ∷ []) apart.0 (h.0, tt), apart_more before setting apart.1 h.1)

pub record SettingsNamed (before : List Setting) (earlier options : List OptionSaid) : Type 0 where
  pub given : List Setting
  pub named : NameAll (before ++ given) (earlier ++ options)
  pub apart : ArePairwise (λ one other. one ≢ other) (before ++ given)

pub settings_named : (before : List Setting) (earlier options : List OptionSaid) → NameAll before earlier → ArePairwise (λ one other. one ≢ other) before → bad_option earlier options ≡ None → SettingsNamed before earlier options
settings_named before earlier [] n apart e =
    record {
      given = [];
      named = subst (λ (ss : List Setting). NameAll ss (earlier ++ [])) (sym (append-nil before)) (subst (NameAll before) (sym (append-nil earlier)) n);
      apart = subst (ArePairwise (λ one other. one ≢ other)) (sym (append-nil before)) apart;
    }
settings_named before earlier (option ∷ options) n apart e =
    let g = good_first earlier option options e in
    let s = named_setting option g.1 in
    let new = not_before before earlier s.0 option n s.1.0 g.0 in
    let later = settings_named (before ++ s.0 ∷ []) (earlier ++ option ∷ []) options (name_more before earlier s.0 option n s.1) (apart_more before s.0 apart new) g.2 in
    let joined = append_assoc before (s.0 ∷ []) later.given in
    record {
      given = s.0 ∷ later.given;
      named = subst (λ (ss : List Setting). NameAll ss (earlier ++ option ∷ options)) joined (subst (NameAll ((before ++ s.0 ∷ []) ++ later.given)) (append_assoc earlier (option ∷ []) options) later.named);
      apart = subst (ArePairwise (λ one other. one ≢ other)) joined later.apart;
    }

-- ---- the numbers that are given

-- the number that these options give
abbrev pub number_by : List OptionSaid → Setting → ℕ
number_by options setting = number_given options (setting_name setting) (setting_default setting)

skipped : (pre : List Setting) (prs rest : List OptionSaid) (setting : Setting) → NameAll pre prs → AllByRecursion (λ other. other ≢ setting) pre → find (λ option. bytes_eq option.name (setting_name setting)) (prs ++ rest) ≡ find (λ option. bytes_eq option.name (setting_name setting)) rest
skipped [] [] rest setting n h = refl
skipped [] (option ∷ prs) rest setting n h = absurd n
skipped (first ∷ pre) [] rest setting n h = absurd n
skipped (first ∷ pre) (option ∷ prs) rest setting n h =
    let miss : bytes_eq option.name (setting_name setting) ≡ false = ap (λ (w : List ℕ). bytes_eq w (setting_name setting)) n.0.0 ∙ names_apart first setting h.0 in
    rw miss (skipped pre prs rest setting n.1 h.1)

-- the default, where it isn't given
pub number_default : (given : List Setting) (options : List OptionSaid) (setting : Setting) → NameAll given options → AllByRecursion (λ other. other ≢ setting) given → number_by options setting ≡ setting_default setting
number_default given options setting n h =
    ap (λ (os : List OptionSaid). number_by os setting) (sym (append-nil options))
    ∙ ap (λ (o : Option OptionSaid). or_default (setting_default setting) (o >>? option_number)) (skipped given options [] setting n h)

-- the number within its limits, and its word
abbrev IsNumberOf : ℕ → Setting → OptionSaid → Type 0
IsNumberOf n setting option = (option.number ≡ decimal n) × (1 ≤ n) × (n ≤ setting_most setting)

number_here : (setting : Setting) (option : OptionSaid) (s : Names setting option) → IsNumberOf s.1 setting option
number_here setting option s =
    let b = bind_some (option_limit option.name) (λ most. count_at 1 most option.number) s.1 s.2 in
    let l = setting_limit setting in
    let most : b.0 ≡ setting_most setting = same_Some _ _ (sym b.1 ∙ ap option_limit s.0 ∙ l.0) in
    let t = count_taken 1 b.0 option.number s.1 b.2 in
    (t.0, t.1, subst (λ (m : ℕ). s.1 ≤ m) most t.2)

found_number : (pre : List Setting) (prs pos : List OptionSaid) (setting : Setting) (option : OptionSaid) (s : Names setting option) → NameAll pre prs → AllByRecursion (λ other. other ≢ setting) pre → number_by (prs ++ option ∷ pos) setting ≡ s.1
found_number pre prs pos setting option s n h =
    let hit : bytes_eq option.name (setting_name setting) ≡ true = ap (λ (w : List ℕ). bytes_eq w (setting_name setting)) s.0 ∙ bytes_same (setting_name setting) in
    let here : (find (λ o. bytes_eq o.name (setting_name setting)) (option ∷ pos) >>? option_number) ≡ Some s.1 = rw hit s.2 in
    ap (λ (o : Option OptionSaid). or_default (setting_default setting) (o >>? option_number)) (skipped pre prs (option ∷ pos) setting n h)
    ∙ ap (or_default (setting_default setting)) here

-- the words of options, by the settings' numbers, each within its limits
abbrev AreGiven : (Setting → ℕ) → List Setting → List OptionSaid → Type 0
AreGiven number settings options =
    (flat_map option_words options ≡ flat_map (λ setting. setting_name setting ∷ decimal (number setting) ∷ []) settings)
    × AllByRecursion (λ setting. (1 ≤ number setting) × (number setting ≤ setting_most setting)) settings

two_words : {a b c d : List ℕ} {xs ys : List (List ℕ)} → a ≡ c → b ≡ d → xs ≡ ys → a ∷ b ∷ xs ≡ c ∷ d ∷ ys
two_words e f g = cc

pub options_given : (number : Setting → ℕ) (pre post : List Setting) (prs pos : List OptionSaid) → NameAll pre prs → NameAll post pos → ArePairwise (λ one other. one ≢ other) (pre ++ post) → ((setting : Setting) → number setting ≡ number_by (prs ++ pos) setting)
    → AreGiven number post pos
options_given number pre [] prs [] n m apart same = (refl, tt)
options_given number pre [] prs (option ∷ pos) n m apart same = absurd m
options_given number pre (setting ∷ post) prs [] n m apart same = absurd m
options_given number pre (setting ∷ post) prs (option ∷ pos) n m apart same =
    let h = number_here setting option m.0 in
    let value : number setting ≡ m.0.1 = same setting ∙ found_number pre prs pos setting option m.0 n (pairwise_before (λ one other. one ≢ other) pre setting post apart) in
    let word : option.number ≡ decimal (number setting) = h.0 ∙ ap decimal (sym value) in
    let later = options_given number (pre ++ setting ∷ []) post (prs ++ option ∷ []) pos (name_more pre prs setting option n m.0) m.1 (subst (ArePairwise (λ one other. one ≢ other)) (sym (append_assoc pre (setting ∷ []) post)) apart)
    (λ s. same s ∙ ap (λ (os : List OptionSaid). number_by os s) (sym (append_assoc prs (option ∷ []) pos))) in
    let bounds : (1 ≤ number setting) × (number setting ≤ setting_most setting) = subst (λ (k : ℕ). (1 ≤ k) × (k ≤ setting_most setting)) (sym value) (h.1, h.2) in
    (two_words m.0.0 word later.0, (bounds, later.1))

-- ---- limits

in_given : (P : Setting → Type 0) (setting : Setting) (given : List Setting) → AllByRecursion P given → AllByRecursion (λ other. other ≢ setting) given ⊎ P setting
in_given P setting [] h = inl tt
in_given P setting (first ∷ given) h =
    elim (setting_case first setting) [
      | inl same ↦ inr (subst P same h.0)
      | inr apart ↦ elim (in_given P setting given h.1) [
        | inl none ↦ inl (apart, none)
        | inr some ↦ inr some
      ]
    ]

default_lawful : (setting : Setting) → (1 ≤ setting_default setting) × (setting_default setting ≤ setting_most setting)
default_lawful tries = (omega arith, omega arith)
default_lawful cache = (omega arith, omega arith)
default_lawful frames = (omega arith, omega arith)

-- each number is within its limits, given or not
pub all_lawful : (number : Setting → ℕ) (given : List Setting) → AllByRecursion (λ setting. (1 ≤ number setting) × (number setting ≤ setting_most setting)) given → ((setting : Setting) → AllByRecursion (λ other. other ≢ setting) given → number setting ≡ setting_default setting)
    → (setting : Setting) → (1 ≤ number setting) × (number setting ≤ setting_most setting)
all_lawful number given h others setting =
    elim (in_given (λ s. (1 ≤ number s) × (number s ≤ setting_most s)) setting given h) [
      | inl none ↦ subst (λ (k : ℕ). (1 ≤ k) × (k ≤ setting_most setting)) (sym (others setting none)) (default_lawful setting)
      | inr some ↦ some
    ]
