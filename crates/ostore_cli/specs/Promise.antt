-- What a top call promises: at each status what was the case, what was read and what was printed.
use Rattle.std.specs.Prelude.{◌≡◌, ◌≢◌, ◌⊎◌, ◌↔◌, ℕ, Bool, true, false, List, length, codes, Option, Some, None, IfSome}
use Rattle.ostore_base.specs.Faults.{Rose}
use Rattle.ostore_base.specs.Streams.{appended}
use Rattle.ostore_graph_model.specs.Graph.{Graph}
use Rattle.ostore_graph_model.specs.History.{AllCommitted, updates}
use Rattle.ostore_try_input.specs.declared.input.TryInput.{TryInput}
use Rattle.ostore_run_report.specs.declared.results.Tail.{Tail}
use Rattle.ostore_run_report.specs.declared.results.TxnResult.{TxnResult}
use Rattle.ostore_run_report.specs.Report.{report}
use Rattle.ostore_run_report.specs.Results.{committed_of}
use Rattle.ostore_try_input.specs.Scripts.{script_of}
use Rattle.ostore_try_input.specs.declared.reading.fault.TryFault.{TryFault}
use Rattle.ostore_try_input.specs.FaultLine.{refusal_line}
use Rattle.ostore_try_input.specs.Spelling.{Says, IsRefused}
use Rattle.ostore_try_input.specs.TryFaults.{IsRefusedFor}
use Rattle.ostore_cli.specs.Commands.{IsRow}
use Rattle.ostore_cli.specs.FreshRuns.{HasRun, HasRoom, any_given_up}
use Rattle.ostore_cli.specs.Streams.{IsWholeRead, AppendsFront}

-- a source or a sink: the bytes that it has left or that it holds, where it tells, and its count of
-- faults
pub record End : Type 0 where
  pub bytes : Option (List ℕ)
  pub faults : ℕ

-- what a source or a sink tells of itself
abbrev pub end_of : {T : Type 0} → (T → Option (List ℕ)) → (T → ℕ) → T → End
end_of bytes faults end = record { bytes = bytes end; faults = faults end }

-- a call: the words that it was given, and its source and its sink before and after
pub record Call : Type 0 where
  pub words : List (List ℕ)
  pub source : End
  pub source_after : End
  pub sink : End
  pub sink_after : End

-- ---- what was read

-- nothing was read
pub record IsUntouched (source source_after : End) : Type 0 where
  pub bytes : source_after.bytes ≡ source.bytes
  pub faults : source_after.faults ≡ source.faults

-- the source was read to its end, or up to the most that is read, without a fault
pub record IsReadThrough (source source_after : End) : Type 0 where
  pub text : List ℕ
  pub read : IsWholeRead source.bytes source_after.bytes text
  pub no_fault : source_after.faults ≡ source.faults

-- ---- the report of a run, and the line of a refusal

-- the last lines of the report of so many commits, without a disk
abbrev pub plain_tail : ℕ → Tail
plain_tail commits = record { disk_fault_after = None; commits = commits; fetches = None }

-- The output is the report of what a text asks for: of results of its job, which ran on a fresh database. Where none of its
-- transactions was given up, every one that its script doesn't abort has committed.
pub record IsReportOf (text output : List ℕ) (given_up : Bool) : Type 0 where
  pub input : TryInput
  pub says : Says text input
  pub results : List (List TxnResult)
  pub last : Graph
  pub ran : HasRun (script_of input) input.job.clients results last
  pub told : any_given_up results ≡ given_up
  pub everyone : given_up ≡ false → AllCommitted (script_of input) (committed_of results)
  pub printed : output
      ≡ report input.job results (plain_tail (length (updates (committed_of results))))

-- the source had this text, where it tells
abbrev pub HasText : Option (List ℕ) → List ℕ → Type 0
HasText None text = Unit {0}
HasText (Some bytes) text = bytes ≡ text

-- the output is the report of a text that the source had
pub record IsReportFrom (source : End) (output : List ℕ) (given_up : Bool) : Type 0 where
  pub text : List ℕ
  pub had : HasText source.bytes text
  pub report : IsReportOf text output given_up

-- the line says what a text that the source had is refused for
pub record IsRefusalOf (source : End) (line : List ℕ) : Type 0 where
  pub text : List ℕ
  pub had : HasText source.bytes text
  pub fault : TryFault
  pub refused : IsRefusedFor text fault
  pub named : line ≡ refusal_line fault

-- ---- what was printed

-- all of the output was printed, and no write failed
pub record Prints (output : List ℕ) (sink sink_after : End) : Type 0 where
  pub all : sink_after.bytes ≡ appended sink.bytes output
  pub no_fault : sink_after.faults ≡ sink.faults

-- a front of the output was printed, and then a write failed
pub record PrintsFront (output : List ℕ) (sink sink_after : End) : Type 0 where
  pub front : AppendsFront sink.bytes sink_after.bytes output
  pub fault : Rose sink.faults sink_after.faults

-- the line was printed, as far as the sink took it
abbrev pub PrintsLine : List ℕ → End → End → Type 0
PrintsLine line sink sink_after = Prints line sink sink_after ⊎ PrintsFront line sink sink_after

-- ---- the statuses

-- 0: the report was printed, of a job of which no transaction was given up, and nothing failed
pub record AtReport (call : Call) : Type 0 where
  pub row : IsRow call.words
  pub read : IsReadThrough call.source call.source_after
  pub output : List ℕ
  pub report : IsReportFrom call.source output false
  pub printed : Prints output call.sink call.sink_after

-- 1: the report was printed, of a job of which a transaction was given up, and nothing failed
pub record AtGivenUp (call : Call) : Type 0 where
  pub row : IsRow call.words
  pub read : IsReadThrough call.source call.source_after
  pub output : List ℕ
  pub report : IsReportFrom call.source output true
  pub printed : Prints output call.sink call.sink_after

-- 2: the words are no row of the command table
pub record AtWordsRefused (call : Call) : Type 0 where
  pub no_row : IsRow call.words → ⊥
  pub unread : IsUntouched call.source call.source_after
  pub printed : PrintsLine (codes "words refused\n") call.sink call.sink_after

-- 3: the text has a fault, or says no input that is built
pub record AtTextRefused (call : Call) : Type 0 where
  pub row : IsRow call.words
  pub read : IsReadThrough call.source call.source_after
  pub line : List ℕ
  pub refusal : IsRefusalOf call.source line
  pub printed : PrintsLine line call.sink call.sink_after

-- 6: a read failed
pub record AtSourceFault (call : Call) : Type 0 where
  pub row : IsRow call.words
  pub fault : Rose call.source.faults call.source_after.faults
  pub printed : PrintsLine (codes "source fault\n") call.sink call.sink_after

-- 7: a write of the report failed
pub record AtSinkFault (call : Call) : Type 0 where
  pub row : IsRow call.words
  pub read : IsReadThrough call.source call.source_after
  pub output : List ℕ
  pub given_up : Bool
  pub report : IsReportFrom call.source output given_up
  pub printed : PrintsFront output call.sink call.sink_after

-- 8: memory was wanted and refused
pub record AtOutOfMemory (call : Call) : Type 0 where
  pub row : IsRow call.words
  pub no_fault : call.source_after.faults ≡ call.source.faults
  pub printed : PrintsLine (codes "out of memory\n") call.sink call.sink_after

-- how a call ends, by its status
pub data EndsAt (call : Call) : ℕ → Type 0 where
  reported : AtReport call → EndsAt call 0
  gave_up : AtGivenUp call → EndsAt call 1
  words_refused : AtWordsRefused call → EndsAt call 2
  text_refused : AtTextRefused call → EndsAt call 3
  source_failed : AtSourceFault call → EndsAt call 6
  sink_failed : AtSinkFault call → EndsAt call 7
  memory_refused : AtOutOfMemory call → EndsAt call 8

-- a text that is refused is answered so, unless the source fails first or memory is wanted
abbrev pub IsRefusalStatus : ℕ → Type 0
IsRefusalStatus status = (status ≡ 3) ⊎ (status ≡ 6) ⊎ (status ≡ 8)

-- a text that is refused for something is answered so, and the line that says it was printed
pub record AnswersRefusal (call : Call) (status : ℕ) (fault : TryFault) : Type 0 where
  pub answered : IsRefusalStatus status
  pub line : status ≡ 3 → PrintsLine (refusal_line fault) call.sink call.sink_after

-- Everything that a top call promises: how it ends, and that three of the statuses come exactly
-- where they should: 2 by the words, 3 by the text, where the source tells it, with the line of what
-- the text is refused for, and 6 by the source's count of faults. Where a text's job has room, 1 doesn't come.
pub record KeepsPromise (call : Call) (status : ℕ) : Type 0 where
  pub ends : EndsAt call status
  pub by_words : (status ≡ 2) ↔ (IsRow call.words → ⊥)
  pub by_text : IsRow call.words
      → IfSome call.source.bytes (λ text. IsRefused text → IsRefusalStatus status)
  pub by_fault : IsRow call.words → IfSome call.source.bytes
      (λ text. (fault : TryFault) → IsRefusedFor text fault → AnswersRefusal call status fault)
  pub by_source : status ≢ 6 → call.source_after.faults ≡ call.source.faults
  pub by_room : IfSome call.source.bytes (λ text. (input : TryInput) → Says text input
      → HasRoom (script_of input) input.job.clients → status ≢ 1)
