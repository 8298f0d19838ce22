-- What a text of a job is read as: the job that it spells, or its fault. The length is judged first, then UTF-8,
-- then the words, and then what they name. A job begins at a place of the text, and places count from the
-- text's start.
use Rattle.std.specs.Prelude.{◌≡◌, ◌⊎◌, ℕ, ◌+◌, if◌then◌else◌, nat_le, List, length, drop, Option, Some, None, Result, Ok, Err}
use Rattle.ostore_text_words.specs.Lines.{PlacedLine, lines_on, utf8_fault}
use Rattle.ostore_text_words.specs.LineWords.{◌>>=◌}
use Rattle.ostore_job_text.specs.declared.fault.JobFault.{JobFault}
use Rattle.ostore_job_text.specs.declared.fault.JobFault.TheVariants as faults
use Rattle.ostore_job_text.specs.declared.job.Job.{Job}
use Rattle.ostore_job_text.specs.declared.said.LineSaid.{LineSaid}
use Rattle.ostore_job_text.specs.declared.said.Stand.TheVariants as stands
use Rattle.ostore_job_text.specs.declared.reading.draft.Draft.{Draft}
use Rattle.ostore_job_text.specs.Limits.{longest_text}
use Rattle.ostore_job_text.specs.LinesSaid.{said_from}
use Rattle.ostore_job_text.specs.Drafted.{empty_draft, put_all, finished}

-- what lines put together, behind what was put before
abbrev pub with_draft : Draft → Result (List LineSaid) ℕ → Result Draft ℕ
with_draft draft said = said >>= λ lines. Ok (put_all draft lines)

abbrev pub drafted : ℕ → List PlacedLine → Result Draft ℕ
drafted end lines = with_draft empty_draft (said_from end stands.Start lines)

abbrev pub job_drafted : Result Draft ℕ → Result Job JobFault
job_drafted (Err at) = Err (faults.Syntax at)
job_drafted (Ok draft) = finished draft

abbrev pub if_utf8 : ℕ → Option ℕ → Result Job JobFault → Result Job JobFault
if_utf8 start None read = read
if_utf8 start (Some at) read = Err (faults.NotUtf8 (start + at))

-- the job from a place on, at which a line begins
unfoldable pub parsed_from : ℕ → List ℕ → Result Job JobFault
parsed_from start text =
    if nat_le (length text) longest_text then
    if_utf8 start (utf8_fault (drop start text)) (job_drafted (drafted (length text) (lines_on start text)))
    else Err (faults.TooLong longest_text)

-- the job that the whole text is
abbrev pub parsed_job : List ℕ → Result Job JobFault
parsed_job text = parsed_from 0 text

-- what a reader gave is what reading gives, unless memory ran out
abbrev pub IsOrMemory : {A : Type 0} → Result A JobFault → Result A JobFault → Type 0
IsOrMemory (Ok x) read = read ≡ Ok x
IsOrMemory (Err fault) read = (fault ≡ faults.OutOfMemory) ⊎ (read ≡ Err fault)

-- this job was given, unless memory ran out
abbrev pub IsOkOrMemory : {A : Type 0} → Result A JobFault → A → Type 0
IsOkOrMemory result x = (result ≡ Ok x) ⊎ (result ≡ Err faults.OutOfMemory)
