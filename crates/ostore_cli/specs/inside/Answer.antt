-- The answer to a command line, and what printing it comes to.
use Rattle.std.specs.Prelude.{◌≡◌, ◌≢◌, ◌⊎◌, ℕ, Bool, if◌then◌else◌, List, codes}
use Rattle.ostore_base.specs.Faults.{Rose}
use Rattle.ostore_try_input.specs.declared.reading.fault.TryFault.{TryFault}
use Rattle.ostore_try_input.specs.declared.reading.fault.TryFault.TheVariants as faults
use Rattle.ostore_try_input.specs.FaultLine.{refusal_line}
use Rattle.ostore_try_input.specs.TryFaults.{IsRefusedFor}
use Rattle.ostore_cli.specs.Commands.{IsRow}
use Rattle.ostore_cli.specs.Promise.{End, IsReportOf, IsReportFrom, IsRefusalOf, IsReadThrough, IsUntouched, Prints, PrintsFront, PrintsLine}
use Rattle.ostore_cli.specs.declared.answers.Answer.{Answer}
use Rattle.ostore_cli.specs.declared.answers.Answer.TheVariants.{Report, WordsRefused, TextRefused, SourceFault, OutOfMemory}

-- the answer is right by the words and by what the source had
abbrev pub IsAnswerTo : List (List ℕ) → End → End → Answer → Type 0
IsAnswerTo words source source_after (Report reported) =
    IsRow words × IsReadThrough source source_after × IsReportFrom source reported.text reported.given_up
IsAnswerTo words source source_after WordsRefused =
    (IsRow words → ⊥) × IsUntouched source source_after
IsAnswerTo words source source_after (TextRefused line) =
    IsRow words × IsReadThrough source source_after × IsRefusalOf source line
IsAnswerTo words source source_after SourceFault =
    IsRow words × Rose source.faults source_after.faults
IsAnswerTo words source source_after OutOfMemory =
    IsRow words × (source_after.faults ≡ source.faults)

-- what a text gets for an answer: its report, or the line of what it is refused for
abbrev pub IsRefusedText : List ℕ → List ℕ → Type 0
IsRefusedText text line = (fault : TryFault) × IsRefusedFor text fault × (line ≡ refusal_line fault)

abbrev pub IsTextAnswer : List ℕ → Answer → Type 0
IsTextAnswer text (Report reported) = IsReportOf text reported.text reported.given_up
IsTextAnswer text WordsRefused = ⊥
IsTextAnswer text (TextRefused line) = IsRefusedText text line
IsTextAnswer text SourceFault = ⊥
IsTextAnswer text OutOfMemory = Unit {0}

-- what a fault gets for an answer: its line, unless it is want of memory
abbrev pub IsFaultAnswer : TryFault → Answer → Type 0
IsFaultAnswer fault (Report reported) = ⊥
IsFaultAnswer fault WordsRefused = ⊥
IsFaultAnswer fault (TextRefused line) = (fault ≢ faults.OutOfMemory) × (line ≡ refusal_line fault)
IsFaultAnswer fault SourceFault = ⊥
IsFaultAnswer fault OutOfMemory = Unit {0}

-- a report is printed whole with its own status, or fails with status 7
abbrev pub IsReportPrint : List ℕ → ℕ → End → End → ℕ → Type 0
IsReportPrint output own sink sink_after status =
    ((status ≡ own) × Prints output sink sink_after)
    ⊎ ((status ≡ 7) × PrintsFront output sink sink_after)

-- the status of a report: 1 where a transaction was given up
abbrev pub status_of : Bool → ℕ
status_of given_up = if given_up then 1 else 0

-- a line is printed with its own status
abbrev pub IsLinePrint : List ℕ → ℕ → End → End → ℕ → Type 0
IsLinePrint line own sink sink_after status = (status ≡ own) × PrintsLine line sink sink_after

abbrev pub IsPrintOf : Answer → End → End → ℕ → Type 0
IsPrintOf (Report reported) sink sink_after status =
    IsReportPrint reported.text (status_of reported.given_up) sink sink_after status
IsPrintOf WordsRefused sink sink_after status =
    IsLinePrint (codes "words refused\n") 2 sink sink_after status
IsPrintOf (TextRefused line) sink sink_after status = IsLinePrint line 3 sink sink_after status
IsPrintOf SourceFault sink sink_after status =
    IsLinePrint (codes "source fault\n") 6 sink sink_after status
IsPrintOf OutOfMemory sink sink_after status =
    IsLinePrint (codes "out of memory\n") 8 sink sink_after status
