-- What a text is read as is a fault exactly where the text has it, first of all that it has.
use Rattle.std.proofs.Common.{◌≡◌, ◌⊎◌, ℕ, ◌+◌, ◌<◌, ◌≤◌, leb, List, [], length, drop, Option, Some, None, Result, Ok, Err, refl, sym, ap, subst, ◌∙◌, arith, inl, inr}
use Rattle.std.specs.Prelude.{◌↔◌, IfErr}
use Rattle.std.proofs.lemmas.Bool.{cases_lt, cond-true, cond-false, le-leb, lt-leb}
use Rattle.ostore_text_words.specs.Lines.{lines_on, utf8_fault}
use Rattle.ostore_job_text.specs.declared.fault.JobFault.{JobFault}
use Rattle.ostore_job_text.specs.declared.fault.JobFault.TheVariants as faults
use Rattle.ostore_job_text.specs.declared.job.Job.{Job}
use Rattle.ostore_job_text.specs.declared.said.LineSaid.{LineSaid}
use Rattle.ostore_job_text.specs.declared.said.Stand.TheVariants as stands
use Rattle.ostore_job_text.specs.declared.reading.draft.Draft.{Draft}
use Rattle.ostore_job_text.specs.Limits.{longest_text}
use Rattle.ostore_job_text.specs.LinesSaid.{said_from}
use Rattle.ostore_job_text.specs.Drafted.{empty_draft, closed, put_all, if_faultless, job_of, finished}
use Rattle.ostore_job_text.specs.ParsedJob.{with_draft, drafted, job_drafted, if_utf8, parsed_from, parsed_job, IsOrMemory}
use Rattle.ostore_job_text.specs.FaultsOf.{HasFault, IsBefore, IsFirstFault, IsReadable, IsFaultFrom, IsFaultOf, IsFaultOrMemory}
use Rattle.ostore_job_text.proofs.NamedFaults.{Tells, lines_told}
use Rattle.ostore_job_text.proofs.RisingLines.{text_rises}

no_ok : {E T P : Type 0} → (x : T) (fault : E) → ◌≡◌ {A = Result T E} (Ok x) (Err fault) → P
no_ok x fault e = absurd cc

same_err : {E T : Type 0} → (x y : E) → ◌≡◌ {A = Result T E} (Err x) (Err y) → x ≡ y
same_err x y e = cc

-- ---- what lines that say something come to

fault_finished : (draft : Draft) (found : Option JobFault) (fault : JobFault) → draft.fault ≡ found → finished draft ≡ Err fault → found ≡ Some fault
unfolding closed
fault_finished draft None fault h e = no_ok (job_of (closed draft)) fault (ap (if_faultless (job_of (closed draft))) (sym h) ∙ e)
fault_finished draft (Some found) fault h e = ap (λ (f : JobFault). Some f) (same_err {T = Job} found fault (ap (if_faultless (job_of (closed draft))) (sym h) ∙ e))

finished_fault : (draft : Draft) (fault : JobFault) → draft.fault ≡ Some fault → finished draft ≡ Err fault
unfolding closed
finished_fault draft fault h = ap (if_faultless (job_of (closed draft))) h

none_named : (lines : List LineSaid) (start : ℕ) (text : List ℕ) → said_from (length text) stands.Start (lines_on start text) ≡ Ok lines → Tells (HasFault [] lines) (put_all empty_draft lines).fault
none_named lines start text e = lines_told lines [] empty_draft start refl refl (text_rises start text lines e)

first_is : (lines : List LineSaid) (found : Option JobFault) (fault : JobFault) → Tells (HasFault [] lines) found → found ≡ Some fault → IsFirstFault [] lines fault
first_is lines None fault t e = absurd cc
first_is lines (Some found) fault t e = subst (λ (o : Option JobFault). Tells (HasFault [] lines) o → IsFirstFault [] lines fault) (sym e) (λ s. record { has = s.0; first = s.1 }) t

-- of two faults only one is told first
before_not : (one other : JobFault) → IsBefore one other → IsBefore other one → ⊥
before_not one other (inl a) (inl b) = omega (arith, a, b)
before_not one other (inl a) (inr b) = omega (arith, a, b.0)
before_not one other (inr a) (inl b) = omega (arith, a.0, b)
before_not one other (inr a) (inr b) = omega (arith, a.1, b.1)

one_first : (lines : List LineSaid) (one other : JobFault) → IsFirstFault [] lines one → IsFirstFault [] lines other → one ≡ other
one_first lines one other a b =
    elim (a.first other b.has) [
      | inl same ↦ same
      | inr before ↦ elim (b.first one a.has) [
        | inl same ↦ sym same
        | inr after ↦ absurd (before_not one other before after)
      ]
    ]

is_told : (lines : List LineSaid) (found : Option JobFault) (fault : JobFault) → Tells (HasFault [] lines) found → IsFirstFault [] lines fault → found ≡ Some fault
is_told lines None fault t first = absurd (t fault first.has)
is_told lines (Some found) fault t first = ap (λ (f : JobFault). Some f) (one_first lines found fault (record { has = t.0; first = t.1 }) first)

-- ---- the text

abbrev said_in : ℕ → List ℕ → Result (List LineSaid) ℕ
said_in start text = said_from (length text) stands.Start (lines_on start text)

words_told : (start : ℕ) (text : List ℕ) (fault : JobFault) (said : Result (List LineSaid) ℕ) → IsReadable start text → said_in start text ≡ said → job_drafted (with_draft empty_draft said) ≡ Err fault → IsFaultFrom start text fault
words_told start text fault (Err at) readable is e = inr (inr (inl (record { readable = readable; at = at; bad = is; is = same_err {T = Job} fault (faults.Syntax at) (sym e) })))
words_told start text fault (Ok lines) readable is e =
    let draft = put_all empty_draft lines in
    let found : draft.fault ≡ Some fault = fault_finished draft draft.fault fault refl e in
    inr (inr (inr (record { readable = readable; lines = lines; said = is; is = first_is lines draft.fault fault (none_named lines start text is) found })))

bytes_told : (start : ℕ) (text : List ℕ) (fault : JobFault) (bad : Option ℕ) → length text ≤ longest_text → utf8_fault (drop start text) ≡ bad → if_utf8 start bad (job_drafted (drafted (length text) (lines_on start text))) ≡ Err fault → IsFaultFrom start text fault
bytes_told start text fault None short is e = words_told start text fault (said_in start text) (record { short = short; utf8 = is }) refl e
bytes_told start text fault (Some at) short is e = inr (inl (record { short = short; at = at; bad = is; is = same_err {T = Job} fault (faults.NotUtf8 (start + at)) (sym e) }))

-- what a text is read as from a place on, by its length
abbrev read_bytes : ℕ → List ℕ → Result Job JobFault
read_bytes start text = if_utf8 start (utf8_fault (drop start text)) (job_drafted (drafted (length text) (lines_on start text)))

read_long : (start : ℕ) (text : List ℕ) → longest_text < length text → parsed_from start text ≡ Err (faults.TooLong longest_text)
unfolding parsed_from
read_long start text long = cond-false (leb (length text) longest_text) (read_bytes start text) (Err (faults.TooLong longest_text)) (lt-leb (length text) longest_text long)

read_short : (start : ℕ) (text : List ℕ) → length text ≤ longest_text → parsed_from start text ≡ read_bytes start text
unfolding parsed_from
read_short start text short = cond-true (leb (length text) longest_text) (read_bytes start text) (Err (faults.TooLong longest_text)) (le-leb (length text) longest_text short)

-- a fault that is read is that of the text
pub fault_told : (start : ℕ) (text : List ℕ) (fault : JobFault) → parsed_from start text ≡ Err fault → IsFaultFrom start text fault
fault_told start text fault e =
    elim (cases_lt longest_text (length text)) [
      | inl long ↦ inl (record { long = long; is = same_err {T = Job} fault (faults.TooLong longest_text) (sym e ∙ read_long start text long) })
      | inr short ↦ bytes_told start text fault (utf8_fault (drop start text)) short refl (sym (read_short start text short) ∙ e)
    ]

read_words : (start : ℕ) (text : List ℕ) → IsReadable start text → parsed_from start text ≡ job_drafted (with_draft empty_draft (said_in start text))
read_words start text readable = read_short start text readable.short ∙ ap (λ (bad : Option ℕ). if_utf8 start bad (job_drafted (drafted (length text) (lines_on start text)))) readable.utf8

-- the fault of a text is read
pub fault_read : (start : ℕ) (text : List ℕ) (fault : JobFault) → IsFaultFrom start text fault → parsed_from start text ≡ Err fault
fault_read start text fault (inl h) = read_long start text h.long ∙ ap (λ (f : JobFault). Err f) (sym h.is)
fault_read start text fault (inr (inl h)) =
    read_short start text h.short ∙ ap (λ (bad : Option ℕ). if_utf8 start bad (job_drafted (drafted (length text) (lines_on start text)))) h.bad ∙ ap (λ (f : JobFault). Err f) (sym h.is)
fault_read start text fault (inr (inr (inl h))) =
    read_words start text h.readable ∙ ap (λ (said : Result (List LineSaid) ℕ). job_drafted (with_draft empty_draft said)) h.bad ∙ ap (λ (f : JobFault). Err f) (sym h.is)
fault_read start text fault (inr (inr (inr h))) =
    let draft = put_all empty_draft h.lines in
    read_words start text h.readable ∙ ap (λ (said : Result (List LineSaid) ℕ). job_drafted (with_draft empty_draft said)) h.said
    ∙ finished_fault draft fault (is_told h.lines draft.fault fault (none_named h.lines start text h.said) h.is)

pub read_is_told : (text : List ℕ) (fault : JobFault) → (parsed_from 0 text ≡ Err fault) ↔ IsFaultFrom 0 text fault
read_is_told text fault = (fault_told 0 text fault, fault_read 0 text fault)

-- ---- what is answered

or_memory : (text : List ℕ) (fault : JobFault) → (fault ≡ faults.OutOfMemory) ⊎ (parsed_job text ≡ Err fault) → IsFaultOrMemory text fault
or_memory text fault (inl memory) = inl memory
or_memory text fault (inr read) = inr (fault_told 0 text fault read)

pub fault_given : (text : List ℕ) (result : Result Job JobFault) → IsOrMemory result (parsed_job text) → IfErr result (λ fault. IsFaultOrMemory text fault)
fault_given text (Ok job) given = tt
fault_given text (Err fault) given = or_memory text fault given

err_answered : (text : List ℕ) (found fault : JobFault) → (found ≡ faults.OutOfMemory) ⊎ (parsed_job text ≡ Err found) → parsed_job text ≡ Err fault
    → (◌≡◌ {A = Result Job JobFault} (Err found) (Err fault)) ⊎ (◌≡◌ {A = Result Job JobFault} (Err found) (Err faults.OutOfMemory))
err_answered text found fault (inl memory) e = inr (ap (λ (f : JobFault). Err f) memory)
err_answered text found fault (inr read) e = inl (sym read ∙ e)

pub fault_answered : (text : List ℕ) (result : Result Job JobFault) → IsOrMemory result (parsed_job text) → (fault : JobFault) → IsFaultOf text fault → (result ≡ Err fault) ⊎ (result ≡ Err faults.OutOfMemory)
fault_answered text (Ok job) given fault h = no_ok job fault (sym given ∙ fault_read 0 text fault h)
fault_answered text (Err found) given fault h = err_answered text found fault given (fault_read 0 text fault h)
