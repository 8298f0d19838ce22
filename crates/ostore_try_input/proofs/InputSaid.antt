-- What is read of a text for `try` is what the text says, and what is refused says nothing.
use Rattle.std.proofs.Common.{◌≡◌, ◌⊎◌, ℕ, ◌<◌, ◌≤◌, List, length, Result, Ok, Err, sym, ap, subst, ◌∙◌, arith, inl, inr}
use Rattle.std.specs.Prelude.{IfOk, IfErr}
use Rattle.std.specs.List.{AllByRecursion}
use Rattle.ostore_schema_layout.specs.declared.schema.Schema.{Schema}
use Rattle.ostore_schema_layout.specs.declared.fault.SchemaFault.{SchemaFault}
use Rattle.ostore_schema_layout.specs.Spells.{Spells}
use Rattle.ostore_schema_layout.specs.Parsed.{parsed}
use Rattle.ostore_schema_layout.proofs.parsed.ParsedLaws.{spells_parsed}
use Rattle.ostore_job_text.specs.declared.fault.JobFault.{JobFault}
use Rattle.ostore_job_text.specs.declared.fault.JobFault.TheVariants as faults
use Rattle.ostore_job_text.specs.declared.job.Job.{Job}
use Rattle.ostore_try_input.specs.declared.input.TryInput.{TryInput}
use Rattle.ostore_try_input.specs.declared.reading.fault.TryFault.{TryFault}
use Rattle.ostore_try_input.specs.declared.reading.fault.TryFault.TheVariants as answers
use Rattle.ostore_job_text.specs.Limits.{longest_text}
use Rattle.ostore_job_text.specs.ParsedJob.{parsed_from}
use Rattle.ostore_job_text.specs.JobSpelling.{SpellsJob}
use Rattle.ostore_job_text.specs.LawfulJob.{HasLawfulSettings}
use Rattle.ostore_job_text.specs.RunnableJobs.{CanRun}
use Rattle.ostore_try_input.specs.Spelling.{AreBuiltClients, Says, IsRefused, schema_part, job_start, job_part}
use Rattle.ostore_try_input.specs.Runnable.{CanBeRun}
use Rattle.ostore_object_ops.specs.Suits.{IsOfInts}
use Rattle.ostore_try_input.specs.TryFaults.{IsRefusedFor, IsRefusedOrMemory}
use Rattle.ostore_try_input.specs.inside.ReadFault.{IsReadAs, IsReadOrMemory}
use Rattle.ostore_job_text.proofs.JobAgain.{spelled_from}
use Rattle.ostore_job_text.proofs.DraftTaken.{read_spells}
use Rattle.ostore_job_text.proofs.FaultsTold.{fault_told, fault_read}

-- ---- the parts of a text, as they are read

pub said : (text part : List ℕ) (start : ℕ) (schema : Schema) (job : Job) → part ≡ schema_part text → start ≡ job_start text → length text ≤ longest_text → Spells part schema → parsed_from start text ≡ Ok job
    → IsOfInts schema → AreBuiltClients job.clients → Says text (record { schema = schema; job = job })
said text part start schema job p s short spelled read types clients = record {
  short = short;
  schema = subst (λ (t : List ℕ). Spells t schema) p spelled;
  types = types;
  job = record {
    spelled = read_spells (job_start text) text job (subst (λ (n : ℕ). parsed_from n text ≡ Ok job) s read);
    built = clients;
  };
}

-- what a text is read as is what it is refused for
refused_as : (text : List ℕ) (fault : TryFault) → IsReadAs text fault → IsRefusedFor text fault
refused_as text (answers.Schema fault) h = h
refused_as text (answers.Job fault) (inl h) = inl h
refused_as text (answers.Job fault) (inr h) = inr (record { schema = h.schema; has = h.has; told = fault_told (job_start text) text fault h.told })
refused_as text answers.Refused h = h
refused_as text answers.OutOfMemory h = absurd h

refused_or : (text : List ℕ) (fault : TryFault) → IsReadOrMemory text fault → IsRefusedOrMemory text fault
refused_or text fault (inl memory) = inl memory
refused_or text fault (inr read) = inr (refused_as text fault read)

pub refused_so : (text : List ℕ) (result : Result TryInput TryFault) → IfErr result (λ fault. IsReadOrMemory text fault) → IfErr result (λ fault. IsRefusedOrMemory text fault)
refused_so text (Ok input) read = tt
refused_so text (Err fault) read = refused_or text fault read

-- ---- what is read can be run

can_be_run : (text : List ℕ) (input : TryInput) → ((t : List ℕ) (job : Job) → SpellsJob t job → CanRun job)
    → ((t : List ℕ) (job : Job) → SpellsJob t job → AllByRecursion HasLawfulSettings job.clients) → Says text input → CanBeRun input
can_be_run text input runs settings says = record {
  lawful = says.schema.lawful;
  ints = says.types;
  job = runs (job_part text) input.job says.job.spelled;
  settings = settings (job_part text) input.job says.job.spelled;
  built = says.job.built;
}

pub runs_so : (text : List ℕ) (result : Result TryInput TryFault) → ((t : List ℕ) (job : Job) → SpellsJob t job → CanRun job)
    → ((t : List ℕ) (job : Job) → SpellsJob t job → AllByRecursion HasLawfulSettings job.clients)
    → IfOk result (λ input. Says text input) → IfOk result (λ input. CanBeRun input)
runs_so text (Ok input) runs settings says = can_be_run text input runs settings says
runs_so text (Err fault) runs settings says = tt

-- ---- a text says one input

same_ok : {E T : Type 0} → (x y : T) → ◌≡◌ {A = Result T E} (Ok x) (Ok y) → x ≡ y
same_ok x y e = cc

no_ok : {E T : Type 0} → (x : T) (fault : E) → ◌≡◌ {A = Result T E} (Ok x) (Err fault) → ⊥
no_ok x fault e = absurd cc

schema_read : (text : List ℕ) (input : TryInput) → Says text input → parsed (schema_part text) ≡ Ok input.schema
schema_read text input says = spells_parsed (schema_part text) input.schema says.schema

job_read : (text : List ℕ) (input : TryInput) → Says text input → parsed_from (job_start text) text ≡ Ok input.job
job_read text input says = spelled_from (job_start text) text input.job says.short says.job.spelled

pub says_one : (text : List ℕ) (one other : TryInput) → Says text one → Says text other → one ≡ other
says_one text one other a b =
    let schema : one.schema ≡ other.schema = same_ok one.schema other.schema (sym (schema_read text one a) ∙ schema_read text other b) in
    let job : one.job ≡ other.job = same_ok one.job other.job (sym (job_read text one a) ∙ job_read text other b) in
    λ i. record { schema = schema i; job = job i }

pub only_said : (text : List ℕ) (result : Result TryInput TryFault) → IfOk result (λ input. Says text input) → IfOk result (λ input. (other : TryInput) → Says text other → other ≡ input)
only_said text (Ok input) says = λ other also. says_one text other input also says
only_said text (Err fault) says = tt

-- ---- a text that is refused for something says nothing

pub refusal_says_nothing : (text : List ℕ) (fault : TryFault) → IsRefusedFor text fault → IsRefused text
refusal_says_nothing text (answers.Schema fault) h = λ input says. no_ok input.schema fault (sym (schema_read text input says) ∙ h.told)
refusal_says_nothing text (answers.Job fault) (inl h) = λ input says. absurd (omega (arith, h.long, says.short))
refusal_says_nothing text (answers.Job fault) (inr h) = λ input says. no_ok input.job fault (sym (job_read text input says) ∙ fault_read (job_start text) text fault h.told)
refusal_says_nothing text answers.Refused h = λ input says.
    let schema : input.schema ≡ h.schema = same_ok input.schema h.schema (sym (schema_read text input says) ∙ h.has.parsed_so) in
    let job : input.job ≡ h.job = same_ok input.job h.job (sym (job_read text input says) ∙ h.told) in
    h.unbuilt (subst IsOfInts schema says.types) (subst (λ (j : Job). AreBuiltClients j.clients) job says.job.built)
refusal_says_nothing text answers.OutOfMemory h = absurd h

-- ---- a text is refused for one thing

abbrev fault_of_parts : Result Schema SchemaFault → Result Job JobFault → TryFault
fault_of_parts (Err fault) job = answers.Schema fault
fault_of_parts (Ok schema) (Err fault) = answers.Job fault
fault_of_parts (Ok schema) (Ok job) = answers.Refused

abbrev Told : List ℕ → TryFault → Type 0
Told text fault =
    ((longest_text < length text) × (fault ≡ answers.Job (faults.TooLong longest_text)))
    ⊎ ((length text ≤ longest_text) × (fault ≡ fault_of_parts (parsed (schema_part text)) (parsed_from (job_start text) text)))

told : (text : List ℕ) (fault : TryFault) → IsRefusedFor text fault → Told text fault
told text (answers.Schema fault) h = inr (h.short, sym (ap (λ (r : Result Schema SchemaFault). fault_of_parts r (parsed_from (job_start text) text)) h.told))
told text (answers.Job fault) (inl h) = inl (h.long, ap (λ (f : JobFault). answers.Job f) h.is)
told text (answers.Job fault) (inr h) =
    let read = fault_read (job_start text) text fault h.told in inr (h.has.short, sym (λ i. fault_of_parts (h.has.parsed_so i) (read i)))
told text answers.Refused h = inr (h.has.short, sym (λ i. fault_of_parts (h.has.parsed_so i) (h.told i)))
told text answers.OutOfMemory h = absurd h

one_told : (text : List ℕ) (one other : TryFault) → Told text one → Told text other → one ≡ other
one_told text one other (inl a) (inl b) = a.1 ∙ sym b.1
one_told text one other (inl a) (inr b) = absurd (omega (arith, a.0, b.0))
one_told text one other (inr a) (inl b) = absurd (omega (arith, a.0, b.0))
one_told text one other (inr a) (inr b) = a.1 ∙ sym b.1

pub one_refusal : (text : List ℕ) (one other : TryFault) → IsRefusedFor text one → IsRefusedFor text other → one ≡ other
one_refusal text one other a b = one_told text one other (told text one a) (told text other b)

answered_err : (text : List ℕ) (found fault : TryFault) → IsRefusedOrMemory text found → IsRefusedFor text fault → (◌≡◌ {A = Result TryInput TryFault} (Err found) (Err fault)) ⊎ (◌≡◌ {A = Result TryInput TryFault} (Err found) (Err answers.OutOfMemory))
answered_err text found fault (inl memory) h = inr (ap (λ (f : TryFault). Err f) memory)
answered_err text found fault (inr also) h = inl (ap (λ (f : TryFault). Err f) (one_refusal text found fault also h))

-- a text that is refused for something is answered so
pub answered : (text : List ℕ) (result : Result TryInput TryFault) → IfOk result (λ input. Says text input) → IfErr result (λ fault. IsRefusedOrMemory text fault)
    → (fault : TryFault) → IsRefusedFor text fault → (result ≡ Err fault) ⊎ (result ≡ Err answers.OutOfMemory)
answered text (Ok input) says refused fault h = absurd (refusal_says_nothing text fault h input says)
answered text (Err found) says refused fault h = answered_err text found fault refused h
