-- The first bad option of a client's line: that it is bad, and that no other bad one stands before it.
use Rattle.std.proofs.Common.{◌≡◌, ◌⊎◌, ℕ, ◌+◌, ◌≤◌, Bool, true, false, ◌&&◌, ◌||◌, not, cond, List, [], ◌∷◌, ◌++◌, codes, Option, Some, None, refl, sym, ap, subst, ◌∙◌, arith, inl, inr}
use Rattle.std.specs.Str.{bytes_eq}
use Rattle.std.proofs.lemmas.Bool.{and_parts, cases_Bool, false≢true, not-true}
use Rattle.std.proofs.lemmas.Option.{same_Some}
use Rattle.ostore_base.specs.Limits.{most_pages}
use Rattle.ostore_text_words.specs.Words.{◌>>=◌ as ◌>>?◌, count_at}
use Rattle.ostore_text_words.proofs.LineWordLaws.{bytes_are, bytes_same, chosen}
use Rattle.ostore_job_text.specs.declared.said.OptionSaid.{OptionSaid}
use Rattle.ostore_job_text.specs.Limits.{most_tries, most_frames}
use Rattle.ostore_job_text.specs.LawfulJob.{Setting, tries, cache, frames, setting_name, setting_most}
use Rattle.ostore_job_text.specs.Drafted.{option_limit, option_number, is_there, is_repeated, is_good_option, bad_option}
use Rattle.ostore_job_text.specs.FaultsOf.{IsUnknown, IsRepeated, IsOutOfLimits, IsBadOption, HasBadOption}
use Rattle.ostore_job_text.proofs.OptionAgain.{setting_limit}

pub true_false : {P : Type 0} (b : Bool) → b ≡ true → b ≡ false → P
true_false b t f = absurd (false≢true (sym f ∙ t))

none_some : {A P : Type 0} (x : A) → ◌≡◌ {A = Option A} None (Some x) → P
none_some x e = absurd cc

-- ---- names

pub is_name : (word other : List ℕ) → word ≡ other → bytes_eq word other ≡ true
is_name word other same = ap (λ (w : List ℕ). bytes_eq w other) same ∙ bytes_same other

repeated_is : (before : List OptionSaid) (option : OptionSaid) → is_repeated before option ≡ true → IsRepeated before option
repeated_is [] option h = absurd (false≢true h)
repeated_is (other ∷ before) option h =
    elim (cases_Bool (bytes_eq other.name option.name)) [
      | inl same ↦ inl (bytes_are other.name option.name same)
      | inr miss ↦ inr (repeated_is before option (ap (λ (b : Bool). b || is_repeated before option) (sym miss) ∙ h))
    ]

repeated_not : (before : List OptionSaid) (option : OptionSaid) → is_repeated before option ≡ false → IsRepeated before option → ⊥
repeated_not [] option h r = r
repeated_not (other ∷ before) option h (inl same) =
    true_false (is_repeated (other ∷ before) option) (ap (λ (b : Bool). b || is_repeated before option) (is_name other.name option.name same)) h
repeated_not (other ∷ before) option h (inr r) =
    elim (cases_Bool (bytes_eq other.name option.name)) [
      | inl same ↦ true_false (is_repeated (other ∷ before) option) (ap (λ (b : Bool). b || is_repeated before option) same) h
      | inr miss ↦ repeated_not before option (ap (λ (b : Bool). b || is_repeated before option) (sym miss) ∙ h) r
    ]

-- ---- limits

pub record LimitNamed (name : List ℕ) (most : ℕ) : Type 0 where
  pub setting : Setting
  pub named : name ≡ setting_name setting
  pub same : most ≡ setting_most setting

limit_named : (name : List ℕ) (most : ℕ) → option_limit name ≡ Some most → LimitNamed name most
unfolding option_limit
limit_named name most e =
    elim (chosen (bytes_eq name (codes "tries")) (Some most_tries) _ (Some most) e) [
      | inl g ↦ record { setting = tries; named = bytes_are name (codes "tries") g.0; same = sym (same_Some most_tries most g.1) }
      | inr g ↦ elim (chosen (bytes_eq name (codes "cache")) (Some most_pages) _ (Some most) g.1) [
        | inl h ↦ record { setting = cache; named = bytes_are name (codes "cache") h.0; same = sym (same_Some most_pages most h.1) }
        | inr h ↦ elim (chosen (bytes_eq name (codes "frames")) (Some most_frames) None (Some most) h.1) [
          | inl k ↦ record { setting = frames; named = bytes_are name (codes "frames") k.0; same = sym (same_Some most_frames most k.1) }
          | inr k ↦ none_some most k.1
        ]
      ]
    ]

limit_of : (name : List ℕ) (setting : Setting) → name ≡ setting_name setting → option_limit name ≡ Some (setting_most setting)
limit_of name setting same = ap option_limit same ∙ (setting_limit setting).0

no_count : (o : Option ℕ) → is_there o ≡ false → o ≡ None
no_count None h = refl
no_count (Some n) h = absurd (false≢true (sym h))

-- an option without a number is unknown or out of its limits
numberless : (option : OptionSaid) (limit : Option ℕ) → option_limit option.name ≡ limit → is_there (limit >>? λ most. count_at 1 most option.number) ≡ false → IsUnknown option ⊎ IsOutOfLimits option
numberless option None is h = inl (λ setting named. none_some (setting_most setting) (sym is ∙ limit_of option.name setting named))
numberless option (Some most) is h =
    let l = limit_named option.name most is in
    inr (l.setting, l.named, no_count (count_at 1 (setting_most l.setting) option.number) (ap (λ (n : ℕ). is_there (count_at 1 n option.number)) (sym l.same) ∙ h))

known : (option : OptionSaid) (limit : Option ℕ) → option_limit option.name ≡ limit → is_there (limit >>? λ most. count_at 1 most option.number) ≡ true → IsUnknown option → ⊥
known option None is h unknown = false≢true h
known option (Some most) is h unknown = let l = limit_named option.name most is in unknown l.setting l.named

-- one that is unknown or out of its limits has none
no_number : (option : OptionSaid) → is_there (option_number option) ≡ true → IsUnknown option ⊎ IsOutOfLimits option → ⊥
no_number option h (inl unknown) = known option (option_limit option.name) refl h unknown
no_number option h (inr out) =
    let none : option_number option ≡ None = ap (λ (o : Option ℕ). o >>? λ most. count_at 1 most option.number) (limit_of option.name out.0 out.1) ∙ out.2 in
    true_false (is_there (option_number option)) h (ap is_there none)

-- ---- one option

good_is : (before : List OptionSaid) (option : OptionSaid) → is_good_option before option ≡ true → IsBadOption before option → ⊥
good_is before option h bad =
    let p = and_parts (not (is_repeated before option)) (is_there (option_number option)) h in
    elim bad [
      | inl unknown ↦ no_number option p.1 (inl unknown)
      | inr other ↦ elim other [
        | inl repeated ↦ repeated_not before option (not-true (is_repeated before option) p.0) repeated
        | inr out ↦ no_number option p.1 (inr out)
      ]
    ]

bad_by : (before : List OptionSaid) (option : OptionSaid) (repeated : Bool) → is_repeated before option ≡ repeated → (not repeated && is_there (option_number option)) ≡ false → IsBadOption before option
bad_by before option true is h = inr (inl (repeated_is before option is))
bad_by before option false is h =
    elim (numberless option (option_limit option.name) refl h) [
      | inl unknown ↦ inl unknown
      | inr out ↦ inr (inr out)
    ]

bad_is : (before : List OptionSaid) (option : OptionSaid) → is_good_option before option ≡ false → IsBadOption before option
bad_is before option h = bad_by before option (is_repeated before option) refl h

-- ---- the options of a line, whose places rise

abbrev pub OptionsRise : ℕ → ℕ → List OptionSaid → Type 0
OptionsRise from until [] = from ≤ until
OptionsRise from until (option ∷ options) = (from ≤ option.at) × OptionsRise (option.at + 1) until options

pub options_until : (options : List OptionSaid) (from until : ℕ) → OptionsRise from until options → from ≤ until
options_until [] from until rise = rise
options_until (option ∷ options) from until rise = omega (arith, rise.0, options_until options (option.at + 1) until rise.1)

pub options_least : (before options : List OptionSaid) (from until at : ℕ) → OptionsRise from until options → HasBadOption before options at → (from ≤ at) × (at + 1 ≤ until)
options_least before [] from until at rise has = absurd has
options_least before (option ∷ options) from until at rise (inl here) = (omega (arith, here.1, rise.0), omega (arith, here.1, options_until options (option.at + 1) until rise.1))
options_least before (option ∷ options) from until at rise (inr later) =
    let more = options_least (before ++ option ∷ []) options (option.at + 1) until at rise.1 later in
    (omega (arith, more.0, rise.0), more.1)

-- what is found is the first bad one
abbrev pub TellsOption : List OptionSaid → List OptionSaid → Option ℕ → Type 0
TellsOption before options None = (at : ℕ) → HasBadOption before options at → ⊥
TellsOption before options (Some at) = HasBadOption before options at × ((other : ℕ) → HasBadOption before options other → at ≤ other)

later_option : (before : List OptionSaid) (option : OptionSaid) (options : List OptionSaid) (found : Option ℕ) → (IsBadOption before option → ⊥) → TellsOption (before ++ option ∷ []) options found → TellsOption before (option ∷ options) found
later_option before option options None good tells = λ at has. elim has [ inl here ↦ good here.0 | inr later ↦ tells at later ]
later_option before option options (Some at) good tells = (inr tells.0, λ other has. elim has [ inl here ↦ absurd (good here.0) | inr later ↦ tells.1 other later ])

first_option : (before : List OptionSaid) (option : OptionSaid) (options : List OptionSaid) (from until : ℕ) → OptionsRise from until (option ∷ options) → IsBadOption before option → TellsOption before (option ∷ options) (Some option.at)
first_option before option options from until rise bad = (
  inl (bad, refl),
  λ other has. elim has [
    | inl here ↦ omega (arith, here.1)
    | inr later ↦ omega (arith, (options_least (before ++ option ∷ []) options (option.at + 1) until other rise.1 later).0)
  ],
)

pub options_told : (before options : List OptionSaid) (from until : ℕ) → OptionsRise from until options → TellsOption before options (bad_option before options)
unfolding bad_option
options_told before [] from until rise = λ at has. has
options_told before (option ∷ options) from until rise =
    let later = bad_option (before ++ option ∷ []) options in
    elim (cases_Bool (is_good_option before option)) [
      | inl good ↦
          subst (TellsOption before (option ∷ options)) (sym (ap (λ (b : Bool). cond b later (Some option.at)) good))
          (later_option before option options later (good_is before option good) (options_told (before ++ option ∷ []) options (option.at + 1) until rise.1))
      | inr bad ↦
          subst (TellsOption before (option ∷ options)) (sym (ap (λ (b : Bool). cond b later (Some option.at)) bad))
          (first_option before option options from until rise (bad_is before option bad))
    ]
