-- A right answer, printed, keeps the promise.
use Rattle.std.proofs.Common.{◌≡◌, ℕ, ◌<◌, ◌≤◌, List, length, take, Option, Some, None, refl, sym, ap, subst, ◌∙◌, arith, inl, inr, eqb, Bool, true, false, eq-eqb}
use Rattle.std.specs.Prelude.{◌≢◌, IfSome}
use Rattle.std.proofs.lemmas.Bool.{false≢true, cases_lt}
use Rattle.std.proofs.lemmas.List.{take_all, length-take}
use Rattle.ostore_job_text.specs.declared.fault.JobFault.TheVariants as faults
use Rattle.ostore_try_input.specs.declared.reading.fault.TryFault.{TryFault}
use Rattle.ostore_try_input.specs.declared.reading.fault.TryFault.TheVariants as refusals
use Rattle.ostore_try_input.specs.FaultLine.{refusal_line}
use Rattle.ostore_try_input.specs.Spelling.{Says, IsRefused}
use Rattle.ostore_try_input.specs.TryFaults.{IsRefusedFor, IsRefusedOrMemory}
use Rattle.ostore_try_input.specs.declared.input.TryInput.{TryInput}
use Rattle.ostore_try_input.specs.Scripts.{script_of}
use Rattle.ostore_try_input.proofs.InputSaid.{refusal_says_nothing, one_refusal, says_one}
use Rattle.ostore_cli.specs.declared.answers.Answer.{Answer}
use Rattle.ostore_cli.specs.declared.answers.Answer.TheVariants.{Report, WordsRefused, TextRefused, SourceFault, OutOfMemory}
use Rattle.ostore_cli.specs.Streams.{longest_read, IsWholeRead}
use Rattle.ostore_cli.specs.Promise.{End, Call, HasText, IsReadThrough, IsReportOf, IsReportFrom, IsRefusalOf, EndsAt, Prints, reported, gave_up, words_refused, text_refused, source_failed, sink_failed, memory_refused, PrintsLine, IsRefusalStatus, AnswersRefusal, KeepsPromise}
use Rattle.ostore_cli.specs.Commands.{IsRow}
use Rattle.ostore_cli.specs.FreshRuns.{HasRoom}
use Rattle.ostore_cli.specs.inside.Answer.{IsAnswerTo, IsTextAnswer, IsFaultAnswer, IsLinePrint, IsPrintOf, status_of}
use Rattle.ostore_cli.proofs.ResultLaws.{none_given_up}

-- a text that isn't too long is all of what a source had
all_of_it : (bytes all : List ℕ) → all ≡ take longest_read bytes → length all ≤ 4194304 → all ≡ bytes
all_of_it bytes all front short =
    front ∙ take_all longest_read bytes (omega (arith, length-take longest_read bytes, ap length front))

-- a report of what was read is one of what the source had
pub report_from : (source : End) (now : Option (List ℕ)) (all output : List ℕ) (given_up : Bool) → IsWholeRead source.bytes now all → IsReportOf all output given_up → IsReportFrom source output given_up
report_from source now all output given_up read report =
    let had : (bytes : Option (List ℕ)) → IsWholeRead bytes now all → HasText bytes all =
    λ bytes. elim bytes as (λ o. IsWholeRead o now all → HasText o all) [
      | None ↦ λ h. tt
      | Some b ↦ λ h. sym (all_of_it b all h.1 report.says.short)
    ] in
    record { text = all; had = had source.bytes read; report = report }

-- a text that is too long is refused for that
abbrev too_long_fault : TryFault
too_long_fault = refusals.Job (faults.TooLong 4194304)

too_long : (text : List ℕ) → 4194304 < length text → IsRefusedFor text too_long_fault
too_long text long = inl (record { long = long; is = refl })

-- a refused text that a source had, and its line
abbrev Refusal : Option (List ℕ) → List ℕ → Type 0
Refusal bytes line =
    (text : List ℕ) × HasText bytes text × (fault : TryFault) × IsRefusedFor text fault × (line ≡ refusal_line fault)

-- what was read is refused as what the source had is
refusal_told : (bytes now : Option (List ℕ)) (all line : List ℕ) (fault : TryFault) → IsWholeRead bytes now all → IsRefusedFor all fault → line ≡ refusal_line fault → Refusal bytes line
refusal_told None now all line fault read refused named = (all, tt, fault, refused, named)
refusal_told (Some b) now all line fault read refused named =
    elim (cases_lt 4194304 (length all)) [
      | inl long ↦
          let same : fault ≡ too_long_fault = one_refusal all fault too_long_fault refused (too_long all long) in
          (b, refl, too_long_fault, too_long b (omega (arith, long, length-take longest_read b, ap length read.1)), named ∙ ap refusal_line same)
      | inr short ↦ (all, sym (all_of_it b all read.1 short), fault, refused, named)
    ]

pub refusal_from : (source : End) (now : Option (List ℕ)) (all line : List ℕ) (fault : TryFault) → IsWholeRead source.bytes now all → IsRefusedFor all fault → line ≡ refusal_line fault → IsRefusalOf source line
refusal_from source now all line fault read refused named =
    let told = refusal_told source.bytes now all line fault read refused named in
    record { text = told.0; had = told.1; fault = told.2; refused = told.3; named = told.4 }

-- a text with a report isn't refused
not_refused : (source : End) (output : List ℕ) (given_up : Bool) → IsReportFrom source output given_up → IfSome source.bytes (λ text. IsRefused text → ⊥)
not_refused source output given_up from =
    elim source.bytes as (λ o. HasText o from.text → IfSome o (λ text. IsRefused text → ⊥)) [
      | None ↦ λ had. tt
      | Some b ↦ λ had refused. refused from.report.input (subst (λ (t : List ℕ). Says t from.report.input) (sym had) from.report.says)
    ] from.had

-- what a source tells, it tells whatever follows from it
told_more : (bytes : Option (List ℕ)) (P Q : List ℕ → Type 0) → ((text : List ℕ) → P text → Q text) → IfSome bytes P → IfSome bytes Q
told_more None P Q more h = tt
told_more (Some b) P Q more h = more b h

-- whatever the text, it is so
always : (bytes : Option (List ℕ)) (P : List ℕ → Type 0) → ((text : List ℕ) → P text) → IfSome bytes P
always None P h = tt
always (Some b) P h = h b

-- two numbers that differ
differ : {P : Type 0} (status m n : ℕ) → status ≡ m → status ≡ n → eqb m n ≡ false → P
differ status m n is too apart = absurd (false≢true (sym apart ∙ eq-eqb m n (sym is ∙ too)))

-- what is said of a text that is refused, and of what it is refused for
abbrev ByText : Call → ℕ → Type 0
ByText call status = IfSome call.source.bytes (λ text. IsRefused text → IsRefusalStatus status)

abbrev ByFault : Call → ℕ → Type 0
ByFault call status =
    IfSome call.source.bytes (λ text. (fault : TryFault) → IsRefusedFor text fault → AnswersRefusal call status fault)

-- what is said of a text whose job has room
abbrev ByRoom : Call → ℕ → Type 0
ByRoom call status =
    IfSome call.source.bytes (λ text. (input : TryInput) → Says text input → HasRoom (script_of input) input.job.clients → status ≢ 1)

-- a status that isn't 1
other_by_room : (call : Call) (status n : ℕ) → status ≡ n → eqb n 1 ≡ false → ByRoom call status
other_by_room call status n is apart = always call.source.bytes _ (λ text input says room one. differ status n 1 is one apart)

-- what a promise is to a call whose words are a row, which ends at status n
served : (call : Call) (status n : ℕ) → status ≡ n → eqb n 2 ≡ false → IsRow call.words → EndsAt call n → ByText call status → ByFault call status
    → (status ≢ 6 → call.source_after.faults ≡ call.source.faults) → ByRoom call status → KeepsPromise call status
served call status n is apart row ends by_text by_fault by_source by_room = record {
  ends = subst (EndsAt call) (sym is) ends;
  by_words = (λ two. differ status n 2 is two apart, λ no_row. absurd (no_row row));
  by_text = λ _. by_text;
  by_fault = λ _. by_fault;
  by_source = by_source;
  by_room = by_room;
}

-- a report is of no text that is refused
report_by_text : (call : Call) (status : ℕ) (output : List ℕ) (given_up : Bool) → IsReportFrom call.source output given_up → ByText call status
report_by_text call status output given_up from =
    told_more call.source.bytes _ _ (λ text no refused. absurd (no refused)) (not_refused call.source output given_up from)

report_by_fault : (call : Call) (status : ℕ) (output : List ℕ) (given_up : Bool) → IsReportFrom call.source output given_up → ByFault call status
report_by_fault call status output given_up from =
    told_more call.source.bytes _ _ (λ text no fault h. absurd (no (refusal_says_nothing text fault h))) (not_refused call.source output given_up from)

-- a report of a job that has room is of one of which no transaction was given up
room_kept : (text output : List ℕ) (input : TryInput) → IsReportOf text output true → Says text input → HasRoom (script_of input) input.job.clients → ⊥
room_kept text output input report says room =
    let same : input ≡ report.input = says_one text input report.input says report.says in
    let also : HasRoom (script_of report.input) report.input.job.clients = subst (λ (i : TryInput). HasRoom (script_of i) i.job.clients) same room in
    let none = none_given_up (script_of report.input) report.input.job.clients report.results also report.ran.ends in
    false≢true (sym none ∙ report.told)

given_up_by_room : (call : Call) (status : ℕ) (output : List ℕ) → IsReportFrom call.source output true → ByRoom call status
given_up_by_room call status output from =
    elim call.source.bytes as (λ o. HasText o from.text → IfSome o (λ text. (input : TryInput) → Says text input → HasRoom (script_of input) input.job.clients → status ≢ 1)) [
      | None ↦ λ had. tt
      | Some b ↦ λ had input says room one. absurd (room_kept from.text output input from.report (subst (λ (t : List ℕ). Says t input) had says) room)
    ] from.had

-- a status that is that of a text which is refused
status_by_text : (call : Call) (status : ℕ) → IsRefusalStatus status → ByText call status
status_by_text call status is = always call.source.bytes _ (λ text refused. is)

-- and isn't 3
status_by_fault : (call : Call) (status n : ℕ) → status ≡ n → eqb n 3 ≡ false → IsRefusalStatus status → ByFault call status
status_by_fault call status n is apart answered =
    always call.source.bytes _ (λ text fault h. record { answered = answered; line = λ three. differ status n 3 is three apart })

-- the line of a refused text is that of all that it is refused for
line_by_fault : (call : Call) (status : ℕ) (line : List ℕ) → status ≡ 3 → IsRefusalOf call.source line → PrintsLine line call.sink call.sink_after → ByFault call status
line_by_fault call status line is from printed =
    elim call.source.bytes as (λ o. HasText o from.text → IfSome o (λ text. (fault : TryFault) → IsRefusedFor text fault → AnswersRefusal call status fault)) [
      | None ↦ λ had. tt
      | Some b ↦ λ had fault h.
          let also : IsRefusedFor b from.fault = subst (λ (t : List ℕ). IsRefusedFor t from.fault) (sym had) from.refused in
          let named : line ≡ refusal_line fault = from.named ∙ ap refusal_line (one_refusal b from.fault fault also h) in
          record { answered = inl is; line = λ _. subst (λ (l : List ℕ). PrintsLine l call.sink call.sink_after) named printed }
    ] from.had

-- the line of a refused text, printed
refused : (call : Call) (status : ℕ) (line : List ℕ)
    → IsRow call.words × IsReadThrough call.source call.source_after × IsRefusalOf call.source line
    → IsLinePrint line 3 call.sink call.sink_after status → KeepsPromise call status
refused call status line answers printed =
    served call status 3 printed.0 refl answers.0
    (text_refused (record {
      row = answers.0;
      read = answers.1;
      line = line;
      refusal = answers.2;
      printed = printed.1;
    }))
    (status_by_text call status (inl printed.0))
    (line_by_fault call status line printed.0 answers.2 printed.1)
    (λ _. answers.1.no_fault)
    (other_by_room call status 3 printed.0 refl)

-- a report, printed whole: status 1 where a transaction was given up, else 0
whole : (call : Call) (status : ℕ) (output : List ℕ) (given_up : Bool)
    → IsRow call.words × IsReadThrough call.source call.source_after × IsReportFrom call.source output given_up
    → status ≡ status_of given_up → Prints output call.sink call.sink_after → KeepsPromise call status
whole call status output false answers is printed =
    served call status 0 is refl answers.0
    (reported (record {
      row = answers.0;
      read = answers.1;
      output = output;
      report = answers.2;
      printed = printed;
    }))
    (report_by_text call status output false answers.2)
    (report_by_fault call status output false answers.2)
    (λ _. answers.1.no_fault)
    (other_by_room call status 0 is refl)
whole call status output true answers is printed =
    served call status 1 is refl answers.0
    (gave_up (record {
      row = answers.0;
      read = answers.1;
      output = output;
      report = answers.2;
      printed = printed;
    }))
    (report_by_text call status output true answers.2)
    (report_by_fault call status output true answers.2)
    (λ _. answers.1.no_fault)
    (given_up_by_room call status output answers.2)

-- a right answer, printed, keeps the promise
pub promise : (call : Call) (status : ℕ) (answer : Answer)
    → IsAnswerTo call.words call.source call.source_after answer
    → IsPrintOf answer call.sink call.sink_after status → KeepsPromise call status
promise call status (Report it) answers (inl printed) = whole call status it.text it.given_up answers printed.0 printed.1
promise call status (Report it) answers (inr printed) =
    served call status 7 printed.0 refl answers.0
    (sink_failed (record {
      row = answers.0;
      read = answers.1;
      output = it.text;
      given_up = it.given_up;
      report = answers.2;
      printed = printed.1;
    }))
    (report_by_text call status it.text it.given_up answers.2)
    (report_by_fault call status it.text it.given_up answers.2)
    (λ _. answers.1.no_fault)
    (other_by_room call status 7 printed.0 refl)
promise call status WordsRefused answers printed = record {
  ends = subst (EndsAt call) (sym printed.0)
      (words_refused (record { no_row = answers.0; unread = answers.1; printed = printed.1 }));
  by_words = (λ _. answers.0, λ _. printed.0);
  by_text = λ row. absurd (answers.0 row);
  by_fault = λ row. absurd (answers.0 row);
  by_source = λ _. answers.1.faults;
  by_room = other_by_room call status 2 printed.0 refl;
}
promise call status (TextRefused line) answers printed = refused call status line answers printed
promise call status SourceFault answers printed =
    served call status 6 printed.0 refl answers.0
    (source_failed (record { row = answers.0; fault = answers.1; printed = printed.1 }))
    (status_by_text call status (inr (inl printed.0)))
    (status_by_fault call status 6 printed.0 refl (inr (inl printed.0)))
    (λ other. absurd (other printed.0))
    (other_by_room call status 6 printed.0 refl)
promise call status OutOfMemory answers printed =
    served call status 8 printed.0 refl answers.0
    (memory_refused (record { row = answers.0; no_fault = answers.1; printed = printed.1 }))
    (status_by_text call status (inr (inr printed.0)))
    (status_by_fault call status 8 printed.0 refl (inr (inr printed.0)))
    (λ _. answers.1)
    (other_by_room call status 8 printed.0 refl)

-- the answer of what was read is right by what the source had
pub answer_from : (words : List (List ℕ)) (source source_after : End) (all : List ℕ) (answer : Answer) → IsRow words → IsWholeRead source.bytes source_after.bytes all → source_after.faults ≡ source.faults
    → IsTextAnswer all answer → IsAnswerTo words source source_after answer
answer_from words source source_after all (Report it) row read same right =
    (row, record { text = all; read = read; no_fault = same }, report_from source source_after.bytes all it.text it.given_up read right)
answer_from words source source_after all WordsRefused row read same right = absurd right
answer_from words source source_after all (TextRefused line) row read same right =
    (row, record { text = all; read = read; no_fault = same }, refusal_from source source_after.bytes all line right.0 read right.1 right.2)
answer_from words source source_after all SourceFault row read same right = absurd right
answer_from words source source_after all OutOfMemory row read same right = (row, same)

-- the answer to a fault of a text is that to the text
pub fault_answered : (text : List ℕ) (fault : TryFault) (answer : Answer) → IsRefusedOrMemory text fault → IsFaultAnswer fault answer → IsTextAnswer text answer
fault_answered text fault (Report it) refused right = absurd right
fault_answered text fault WordsRefused refused right = absurd right
fault_answered text fault (TextRefused line) (inl memory) right = absurd (right.0 memory)
fault_answered text fault (TextRefused line) (inr refused) right = (fault, refused, right.1)
fault_answered text fault SourceFault refused right = absurd right
fault_answered text fault OutOfMemory refused right = tt
