-- Jobs: what is spelled is read.
use Rattle.std.proofs.Common.{◌≡◌, ℕ, ◌≤◌, false, List, [], ◌++◌, length, drop, Result, Ok, Err, refl, sym, ap, ◌∙◌, inl, inr}
use Rattle.std.specs.Str.{IsUtf8}
use Rattle.std.proofs.lemmas.Bool.{le-leb}
use Rattle.std.proofs.lemmas.Str.{is_utf8-from_IsUtf8}
use Rattle.ostore_text_words.specs.Lines.{PlacedLine, bare_lines, lines_on}
use Rattle.ostore_job_text.specs.declared.fault.JobFault.{JobFault}
use Rattle.ostore_job_text.specs.declared.job.Job.{Job}
use Rattle.ostore_job_text.specs.declared.said.Stand.{Stand}
use Rattle.ostore_job_text.specs.declared.said.Stand.TheVariants as stands
use Rattle.ostore_job_text.specs.Limits.{longest_text}
use Rattle.ostore_job_text.specs.LawfulJob.{IsLawfulJob}
use Rattle.ostore_job_text.specs.JobSpelling.{AreClientLines, AreTurnsLines, SpellsJob}
use Rattle.ostore_job_text.specs.Drafted.{empty_draft, closed, settled}
use Rattle.ostore_job_text.specs.ParsedJob.{drafted, job_drafted, parsed_from, parsed_job, IsOrMemory, IsOkOrMemory}
use Rattle.ostore_job_text.proofs.ClientAgain.{IsOpen, Holds, clients_again}
use Rattle.ostore_job_text.proofs.JobPart.{part_lines}
use Rattle.ostore_job_text.proofs.TurnAgain.{IsOutside, turns_again}

outside : (stand : Stand) → IsOpen stand → IsOutside stand
outside stands.Start is_open = tt
outside stands.InClient is_open = tt
outside stands.InTxn is_open = absurd is_open
outside stands.InTurns is_open = absurd is_open

nothing_held : Holds empty_draft [] false []
unfolding closed
nothing_held = (refl, refl)

-- lines that spell a lawful job give it
lines_again : (end : ℕ) (lines : List PlacedLine) (job : Job) (client_part turns_part : List (List (List ℕ))) → bare_lines lines ≡ client_part ++ turns_part → AreClientLines job.clients client_part → AreTurnsLines job.clients job.turns turns_part → IsLawfulJob job
    → job_drafted (drafted end lines) ≡ Ok job
lines_again end lines job client_part turns_part e clients turns h =
    let c = clients_again end [] job.clients stands.Start empty_draft false lines client_part turns_part tt nothing_held clients e h.lawful_clients h.own_names h.few in
    let t = turns_again end job.clients [] job.turns c.later c.next c.update c.behind turns_part (outside c.later c.open_later) c.holds turns c.left h.lawful_turns h.lawful_clients h.own_names h.few in
    ap job_drafted (c.same ∙ t.whole) ∙ ap settled t.holds.1

-- what a text spells from a place on is read there
pub parsed_again : (start : ℕ) (text : List ℕ) (job : Job) (client_part turns_part : List (List (List ℕ))) → length text ≤ longest_text → IsUtf8 (drop start text) → bare_lines (lines_on start text) ≡ client_part ++ turns_part → AreClientLines job.clients client_part → AreTurnsLines job.clients job.turns turns_part → IsLawfulJob job
    → parsed_from start text ≡ Ok job
unfolding parsed_from
parsed_again start text job client_part turns_part short utf8 e clients turns h =
    rw (le-leb (length text) longest_text short, is_utf8-from_IsUtf8 (drop start text) utf8) (lines_again (length text) (lines_on start text) job client_part turns_part e clients turns h)

-- what the part behind a place spells is read from there on
pub spelled_from : (start : ℕ) (text : List ℕ) (job : Job) → length text ≤ longest_text → SpellsJob (drop start text) job → parsed_from start text ≡ Ok job
spelled_from start text job short s = parsed_again start text job s.client_part s.turns_part short s.utf8 (part_lines start text ∙ s.lines) s.client_lines s.turns_lines s.lawful

pub spelled_again : (text : List ℕ) (job : Job) → SpellsJob text job → parsed_job text ≡ Ok job
spelled_again text job s = spelled_from 0 text job s.short s

same_job : (one other : Job) → ◌≡◌ {A = Result Job JobFault} (Ok one) (Ok other) → one ≡ other
same_job one other e = cc

no_fault : {P : Type 0} (job : Job) (fault : JobFault) → ◌≡◌ {A = Result Job JobFault} (Ok job) (Err fault) → P
no_fault job fault e = absurd cc

pub one_spelled : (text : List ℕ) (one other : Job) → SpellsJob text one → SpellsJob text other → one ≡ other
one_spelled text one other s t = same_job one other (sym (spelled_again text one s) ∙ spelled_again text other t)

is_read : (result read : Result Job JobFault) (job : Job) → IsOrMemory result read → read ≡ Ok job → IsOkOrMemory result job
is_read (Ok found) read job given e = inl (sym given ∙ e)
is_read (Err fault) read job (inl memory) e = inr (ap (λ (f : JobFault). Err f) memory)
is_read (Err fault) read job (inr given) e = no_fault job fault (sym e ∙ given)

pub is_read_again : (text : List ℕ) (result : Result Job JobFault) → IsOrMemory result (parsed_job text) → (job : Job) → SpellsJob text job → IsOkOrMemory result job
is_read_again text result given job s = is_read result (parsed_job text) job given (spelled_again text job s)
