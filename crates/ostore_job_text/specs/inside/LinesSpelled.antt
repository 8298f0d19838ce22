-- Lines by what they say: the words of each, and which may stand behind which, up to the end of the text.
use Rattle.std.specs.Prelude.{◌≡◌, ◌⊎◌, ℕ, ◌≤◌, IsTrue, if◌then◌else◌, List, [], ◌∷◌, ◌++◌, length, codes, decimal, Ok}
use Rattle.std.specs.List.{flat_map, AllByRecursion}
use Rattle.std.specs.Str.{IsUtf8}
use Rattle.ostore_text_words.specs.Words.{may_stand}
use Rattle.ostore_text_words.specs.Lines.{word_lines}
use Rattle.ostore_job_text.specs.declared.job.Job.{Job}
use Rattle.ostore_job_text.specs.declared.said.OptionSaid.{OptionSaid}
use Rattle.ostore_job_text.specs.declared.said.EntrySaid.{EntrySaid}
use Rattle.ostore_job_text.specs.declared.said.LineSaid.{LineSaid}
use Rattle.ostore_job_text.specs.declared.said.LineSaid.TheVariants as kinds
use Rattle.ostore_job_text.specs.declared.said.Stand.{Stand}
use Rattle.ostore_job_text.specs.declared.said.Stand.TheVariants as stands
use Rattle.ostore_job_text.specs.Limits.{longest_text, most_turns}
use Rattle.ostore_command_text.specs.CommandWords.{command_words}
use Rattle.ostore_job_text.specs.WordsSaid.{is_count}
use Rattle.ostore_job_text.specs.LinesSaid.{stand_after}
use Rattle.ostore_job_text.specs.Drafted.{empty_draft, put_all, finished}
use Rattle.ostore_command_text.specs.LawfulCommands.{IsIdent, IsLawfulCommand}

-- an option: any word that may stand, and a count
abbrev pub option_words : OptionSaid → List (List ℕ)
option_words option = option.name ∷ option.number ∷ []

abbrev pub IsLawfulOption : OptionSaid → Type 0
IsLawfulOption option = IsTrue (may_stand option.name) × IsTrue (is_count option.number)

-- `NAME*COUNT`; a count of 1 may be left out
abbrev pub IsEntryWord : EntrySaid → List ℕ → Type 0
IsEntryWord entry word =
    IsIdent entry.name × (((word ≡ entry.name) × (entry.count ≡ 1)) ⊎ ((word ≡ entry.name ++ 42 ∷ decimal entry.count) × (1 ≤ entry.count) × (entry.count ≤ most_turns)))

abbrev pub AreEntryWords : List EntrySaid → List (List ℕ) → Type 0
AreEntryWords [] [] = Unit {0}
AreEntryWords (entry ∷ entries) (word ∷ words) = IsEntryWord entry word × AreEntryWords entries words
AreEntryWords [] (word ∷ words) = ⊥
AreEntryWords (entry ∷ entries) [] = ⊥

-- the words say this, as a line of its kind does
abbrev pub IsLineOf : LineSaid → List (List ℕ) → Type 0
IsLineOf (kinds.Client client) words = (words ≡ codes "client" ∷ client.name ∷ flat_map option_words client.options) × IsIdent client.name × AllByRecursion IsLawfulOption client.options
IsLineOf (kinds.Begin update) words = words ≡ (if update then codes "begin" else codes "read") ∷ []
IsLineOf (kinds.Command command) words = (words ≡ command_words command) × IsLawfulCommand command
IsLineOf (kinds.End aborts) words = words ≡ (if aborts then codes "abort" else codes "commit") ∷ []
IsLineOf (kinds.Turns entries) words = (others : List (List ℕ)) × (words ≡ codes "turns" ∷ others) × (1 ≤ length entries) × AreEntryWords entries others

-- ---- the order of lines

-- a line of this kind may stand there
abbrev pub MayStand : Stand → LineSaid → Type 0
MayStand stands.Start (kinds.Client client) = Unit {0}
MayStand stands.Start (kinds.Turns entries) = Unit {0}
MayStand stands.InClient (kinds.Client client) = Unit {0}
MayStand stands.InClient (kinds.Begin update) = Unit {0}
MayStand stands.InClient (kinds.Turns entries) = Unit {0}
MayStand stands.InTxn (kinds.Command command) = Unit {0}
MayStand stands.InTxn (kinds.End aborts) = Unit {0}
MayStand stands.InTurns (kinds.Turns entries) = Unit {0}
MayStand stand said = ⊥

-- the text may end there
abbrev pub MayEnd : Stand → Type 0
MayEnd stands.InTxn = ⊥
MayEnd stand = Unit {0}

-- lines of words say this, one after the other, from there to the end of the text
abbrev pub AreLinesOf : Stand → List LineSaid → List (List (List ℕ)) → Type 0
AreLinesOf stand [] [] = MayEnd stand
AreLinesOf stand (said ∷ others) (words ∷ lines) = MayStand stand said × IsLineOf said words × AreLinesOf (stand_after said) others lines
AreLinesOf stand [] (words ∷ lines) = ⊥
AreLinesOf stand (said ∷ others) [] = ⊥

-- ---- the text

-- the lines of the text say what puts this job together, and name nothing wrong
pub record LinesSay (text : List ℕ) (job : Job) : Type 0 where
  pub short : length text ≤ longest_text
  pub utf8 : IsUtf8 text
  pub said : List LineSaid
  pub lines : AreLinesOf stands.Start said (word_lines text)
  pub put : finished (put_all empty_draft said) ≡ Ok job
