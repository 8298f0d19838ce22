-- The report of a run: the bytes that are printed for a job, what became of its transactions, and the
-- last lines. Every line ends with byte 10.
use Rattle.std.specs.Prelude.{if◌then◌else◌, ℕ, ◌*◌, ◌/◌, ◌%◌, ◌^◌, false, nat_lt, zero, suc, List, [], ◌∷◌, ◌++◌, codes, decimal, Some, None}
use Rattle.std.specs.declared.option.Option.{Option}
use Rattle.std.specs.Fmt.{signed_decimal, digit_glyph}
use Rattle.std.specs.List.{flat_map, zip, enumerate_from, join_by}
use Rattle.ostore_text_words.specs.Words.{quoted}
use Rattle.ostore_graph_model.specs.declared.values.Name.{Name}
use Rattle.ostore_graph_model.specs.declared.values.Listed.{Listed}
use Rattle.ostore_graph_model.specs.declared.values.Value.{Value}
use Rattle.ostore_graph_model.specs.declared.values.Value.TheVariants as values
use Rattle.ostore_graph_model.specs.declared.refusal.Refusal.{Refusal}
use Rattle.ostore_graph_model.specs.declared.values.Reply.{Reply}
use Rattle.ostore_graph_model.specs.declared.values.Reply.TheVariants as replies
use Rattle.ostore_graph_model.specs.Refusals.{refusal_number, refusal_name}
use Rattle.ostore_job_text.specs.declared.job.Job.{Job}
use Rattle.ostore_job_text.specs.declared.job.JobClient.{JobClient}
use Rattle.ostore_run_report.specs.declared.results.Cause.{Cause}
use Rattle.ostore_run_report.specs.declared.results.Cause.TheVariants as causes
use Rattle.ostore_run_report.specs.declared.results.TxnResult.{TxnResult}
use Rattle.ostore_run_report.specs.declared.results.TxnResult.TheVariants.{Commit, Read, Abort, GaveUp, NotRun}
use Rattle.ostore_run_report.specs.declared.results.Tail.{Tail}

-- ---- replies

-- `SEGMENT.SERIAL`
abbrev pub name_text : Name → List ℕ
name_text name = decimal name.segment ++ codes "." ++ decimal name.serial

-- a deleted object has `!` before its name
abbrev pub listed_text : Listed → List ℕ
listed_text listed = (if listed.dead then codes "!" else []) ++ name_text listed.name

-- names are parted by one space
abbrev pub names_text : List Listed → List ℕ
names_text [] = codes "empty"
names_text (first ∷ others) = join_by listed_text (codes " ") (first ∷ others)

abbrev pub value_text : Value → List ℕ
value_text (values.Int value) = signed_decimal value
value_text (values.Text text) = quoted text
value_text (values.Object name) = name_text name
value_text (values.Dead name) = codes "!" ++ name_text name
value_text values.Null = codes "null"

-- `refused NUMBER NAME`
abbrev pub refusal_text : Refusal → List ℕ
refusal_text refusal = codes "refused " ++ decimal (refusal_number refusal) ++ codes " " ++ refusal_name refusal

abbrev pub reply_text : Reply → List ℕ
reply_text replies.Done = codes "ok"
reply_text (replies.Named name) = name_text name
reply_text (replies.Value value) = value_text value
reply_text (replies.Count count) = decimal count
reply_text (replies.Names names) = names_text names
reply_text (replies.Refused refusal) = refusal_text refusal

-- a reply stands on a line of its own, behind two spaces
abbrev pub reply_line : Reply → List ℕ
reply_line reply = codes "  " ++ reply_text reply ++ codes "\n"

-- ---- outcomes

-- the lowest hexadecimal digits of a word, so many, the highest of them first
abbrev pub low_digits : ℕ → ℕ → List ℕ
low_digits zero word = []
low_digits (suc count) word = digit_glyph false (word / 2 ^ (4 * count) % 16) ∷ low_digits count word

-- a word of 64 bits as 16 hexadecimal digits
unfoldable pub word_text : ℕ → List ℕ
word_text word = low_digits 16 word

abbrev pub cause_text : Cause → List ℕ
cause_text (causes.Busy page seen found) = codes "busy " ++ decimal page.0 ++ codes " " ++ word_text seen ++ codes " " ++ word_text found
cause_text (causes.NoSpace segment need) = codes "nospace " ++ decimal segment ++ codes " " ++ decimal need
cause_text (causes.CacheFull used capacity) = codes "cachefull " ++ decimal used ++ codes " " ++ decimal capacity
cause_text (causes.SpaceFull frames) = codes "spacefull " ++ decimal frames
cause_text causes.Disk = codes "disk"
cause_text (causes.Stopped after) = codes "stopped " ++ decimal after

-- attempts are told where there was more than one
abbrev pub tries_text : ℕ → List ℕ
tries_text tries = if nat_lt 1 tries then codes " tries " ++ decimal tries else []

abbrev pub outcome_text : TxnResult → List ℕ
outcome_text (Commit number tries replies) = codes "commit " ++ decimal number ++ tries_text tries
outcome_text (Read number tries replies) = codes "read " ++ decimal number ++ tries_text tries
outcome_text (Abort tries) = codes "abort" ++ tries_text tries
outcome_text (GaveUp tries cause) = codes "gaveup " ++ decimal tries ++ codes " " ++ cause_text cause
outcome_text NotRun = codes "notrun"

-- the replies that are told
abbrev pub told_replies : TxnResult → List Reply
told_replies (Commit number tries replies) = replies
told_replies (Read number tries replies) = replies
told_replies (Abort tries) = []
told_replies (GaveUp tries cause) = []
told_replies NotRun = []

-- ---- the report

-- `NAME.ORDINAL OUTCOME`, and a line for each reply
abbrev pub result_text : List ℕ → ℕ → TxnResult → List ℕ
result_text name ordinal result = name ++ codes "." ++ decimal ordinal ++ codes " " ++ outcome_text result ++ codes "\n" ++ flat_map reply_line (told_replies result)

-- the results of one client, numbered from 1
abbrev pub client_text : List ℕ → List TxnResult → List ℕ
client_text name results = flat_map (λ numbered. result_text name numbered.0 numbered.1) (enumerate_from 1 results)

-- a line that tells a number, where it is told
abbrev pub told_line : List ℕ → Option ℕ → List ℕ
told_line words None = []
told_line words (Some number) = words ++ codes " " ++ decimal number ++ codes "\n"

-- the last lines
abbrev pub tail_text : Tail → List ℕ
tail_text tail = told_line (codes "disk fault after") tail.disk_fault_after ++ told_line (codes "commits") (Some tail.commits) ++ told_line (codes "fetches") tail.fetches

-- the clients in job order, each with the list of results at its place
abbrev pub clients_text : List JobClient → List (List TxnResult) → List ℕ
clients_text clients results = flat_map (λ paired. client_text paired.0.name paired.1) (zip clients results)

-- the clients, and then the last lines
abbrev pub report : Job → List (List TxnResult) → Tail → List ℕ
report job results tail = clients_text job.clients results ++ tail_text tail
