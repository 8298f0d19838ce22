-- Which faults a text of a job has, each with its place, and which of them is told. A text that is too long has no
-- other fault. Then comes the place where it stops being UTF-8, then the first word that can't stand. Where all words
-- stand, the lines may name several things wrongly, and of these faults the one with the least place is told, at one
-- place the one with the least number.
use Rattle.std.specs.Prelude.{◌≡◌, ◌≢◌, ◌⊎◌, ℕ, ◌+◌, ◌<◌, ◌≤◌, List, [], ◌∷◌, ◌++◌, length, map, drop, Some, None, Ok, Err}
use Rattle.ostore_base.specs.Limits.{most_clients}
use Rattle.ostore_text_words.specs.Words.{count_at}
use Rattle.ostore_text_words.specs.Lines.{lines_on, utf8_fault}
use Rattle.ostore_job_text.specs.declared.fault.JobFault.{JobFault}
use Rattle.ostore_job_text.specs.declared.fault.JobFault.TheVariants as faults
use Rattle.ostore_job_text.specs.declared.said.OptionSaid.{OptionSaid}
use Rattle.ostore_job_text.specs.declared.said.ClientSaid.{ClientSaid}
use Rattle.ostore_job_text.specs.declared.said.EntrySaid.{EntrySaid}
use Rattle.ostore_job_text.specs.declared.said.LineSaid.{LineSaid}
use Rattle.ostore_job_text.specs.declared.said.LineSaid.TheVariants as kinds
use Rattle.ostore_job_text.specs.declared.said.Stand.TheVariants as stands
use Rattle.ostore_job_text.specs.JobFaults.{fault_number, fault_place}
use Rattle.ostore_job_text.specs.LawfulJob.{Setting, setting_name, setting_most}
use Rattle.ostore_job_text.specs.Limits.{longest_text}
use Rattle.ostore_job_text.specs.LinesSaid.{said_from}

-- ---- what is wrong with an option, by those before it on its line

-- one of the words is this one
abbrev pub IsOneOf : List (List ℕ) → List ℕ → Type 0
IsOneOf [] word = ⊥
IsOneOf (other ∷ others) word = (other ≡ word) ⊎ IsOneOf others word

-- its name is that of no option
abbrev pub IsUnknown : OptionSaid → Type 0
IsUnknown option = (setting : Setting) → option.name ≢ setting_name setting

-- an option of its name stands before it
abbrev pub IsRepeated : List OptionSaid → OptionSaid → Type 0
IsRepeated before option = IsOneOf (map (λ other. other.name) before) option.name

-- its number isn't from 1 to the most of the option that it names
abbrev pub IsOutOfLimits : OptionSaid → Type 0
IsOutOfLimits option =
    (setting : Setting) × (option.name ≡ setting_name setting) × (count_at 1 (setting_most setting) option.number ≡ None)

abbrev pub IsBadOption : List OptionSaid → OptionSaid → Type 0
IsBadOption before option = IsUnknown option ⊎ IsRepeated before option ⊎ IsOutOfLimits option

-- one of the options is bad, and stands there
abbrev pub HasBadOption : List OptionSaid → List OptionSaid → ℕ → Type 0
HasBadOption before [] at = ⊥
HasBadOption before (option ∷ options) at =
    (IsBadOption before option × (at ≡ option.at)) ⊎ HasBadOption (before ++ option ∷ []) options at

-- ---- what is wrong with a line, by the clients of the lines before it

-- a client of that name is among these
abbrev pub IsNamed : List ClientSaid → List ℕ → Type 0
IsNamed clients name = IsOneOf (map (λ client. client.name) clients) name

-- the line of a client has the fault
abbrev pub HasClientFault : List ClientSaid → ClientSaid → JobFault → Type 0
HasClientFault before client (faults.DuplicateClient at) = IsNamed before client.name × (at ≡ client.at)
HasClientFault before client (faults.TooManyClients at) = (most_clients ≤ length before) × (at ≡ client.at)
HasClientFault before client (faults.BadOption at) = HasBadOption [] client.options at
HasClientFault before client other = ⊥

-- one of the entries has the fault
abbrev pub HasEntryFault : List ClientSaid → EntrySaid → JobFault → Type 0
HasEntryFault before entry (faults.UnknownTurn at) = (IsNamed before entry.name → ⊥) × (at ≡ entry.at)
HasEntryFault before entry other = ⊥

abbrev pub HasTurnsFault : List ClientSaid → List EntrySaid → JobFault → Type 0
HasTurnsFault before [] fault = ⊥
HasTurnsFault before (entry ∷ entries) fault =
    HasEntryFault before entry fault ⊎ HasTurnsFault before entries fault

-- one of the lines has the fault
abbrev pub HasFault : List ClientSaid → List LineSaid → JobFault → Type 0
HasFault before [] fault = ⊥
HasFault before (kinds.Client client ∷ lines) fault =
    HasClientFault before client fault ⊎ HasFault (before ++ client ∷ []) lines fault
HasFault before (kinds.Turns entries ∷ lines) fault =
    HasTurnsFault before entries fault ⊎ HasFault before lines fault
HasFault before (kinds.Begin update ∷ lines) fault = HasFault before lines fault
HasFault before (kinds.Command command ∷ lines) fault = HasFault before lines fault
HasFault before (kinds.End aborts ∷ lines) fault = HasFault before lines fault

-- ---- which of the faults of lines is told

-- a fault is told before another: it stands before it, or at its place with a lesser number
abbrev pub IsBefore : JobFault → JobFault → Type 0
IsBefore fault other =
    (fault_place fault < fault_place other)
    ⊎ ((fault_place fault ≡ fault_place other) × (fault_number fault < fault_number other))

-- the lines have the fault, and every other one that they have is told behind it
pub record IsFirstFault (before : List ClientSaid) (lines : List LineSaid) (fault : JobFault) : Type 0 where
  pub has : HasFault before lines fault
  pub first : (other : JobFault) → HasFault before lines other → (fault ≡ other) ⊎ IsBefore fault other

-- ---- the fault of a text, from a place on at which a line begins

-- the whole text is too long
pub record IsTooLong (text : List ℕ) (fault : JobFault) : Type 0 where
  pub long : longest_text < length text
  pub is : fault ≡ faults.TooLong longest_text

-- it isn't, but stops being UTF-8
pub record HasBadByte (start : ℕ) (text : List ℕ) (fault : JobFault) : Type 0 where
  pub short : length text ≤ longest_text
  pub at : ℕ
  pub bad : utf8_fault (drop start text) ≡ Some at
  pub is : fault ≡ faults.NotUtf8 (start + at)

-- it doesn't
pub record IsReadable (start : ℕ) (text : List ℕ) : Type 0 where
  pub short : length text ≤ longest_text
  pub utf8 : utf8_fault (drop start text) ≡ None

-- but a word can't stand, or a word or a line is missing
pub record HasBadWord (start : ℕ) (text : List ℕ) (fault : JobFault) : Type 0 where
  pub readable : IsReadable start text
  pub at : ℕ
  pub bad : said_from (length text) stands.Start (lines_on start text) ≡ Err at
  pub is : fault ≡ faults.Syntax at

-- all words stand, and what the lines say has the fault
pub record HasBadName (start : ℕ) (text : List ℕ) (fault : JobFault) : Type 0 where
  pub readable : IsReadable start text
  pub lines : List LineSaid
  pub said : said_from (length text) stands.Start (lines_on start text) ≡ Ok lines
  pub is : IsFirstFault [] lines fault

abbrev pub IsFaultFrom : ℕ → List ℕ → JobFault → Type 0
IsFaultFrom start text fault =
    IsTooLong text fault ⊎ HasBadByte start text fault ⊎ HasBadWord start text fault ⊎ HasBadName start text fault

-- the fault of a text that is a job alone
abbrev pub IsFaultOf : List ℕ → JobFault → Type 0
IsFaultOf text fault = IsFaultFrom 0 text fault

-- this is the text's fault, unless memory ran out
abbrev pub IsFaultOrMemory : List ℕ → JobFault → Type 0
IsFaultOrMemory text fault = (fault ≡ faults.OutOfMemory) ⊎ IsFaultOf text fault
