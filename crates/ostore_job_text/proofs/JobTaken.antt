-- A job that is read is spelled so.
use Rattle.std.proofs.Common.{◌≡◌, ℕ, ◌≤◌, Bool, true, false, cond, leb, List, length, drop, Option, Some, None, Result, Ok, Err, refl, ap, subst, ◌∙◌, arith}
use Rattle.std.specs.Str.{IsUtf8, is_utf8}
use Rattle.std.proofs.lemmas.Bool.{leb-true}
use Rattle.std.proofs.lemmas.List.{length-drop}
use Rattle.std.proofs.lemmas.Str.{IsUtf8-from_is_utf8}
use Rattle.ostore_text_words.specs.Lines.{lines_on, utf8_fault}
use Rattle.ostore_text_words.proofs.LineWordLaws.{bind_ok, same_ok}
use Rattle.ostore_job_text.specs.declared.fault.JobFault.{JobFault}
use Rattle.ostore_job_text.specs.declared.fault.JobFault.TheVariants as faults
use Rattle.ostore_job_text.specs.declared.job.Job.{Job}
use Rattle.ostore_job_text.specs.declared.said.Stand.TheVariants as stands
use Rattle.ostore_job_text.specs.declared.reading.draft.Draft.{Draft}
use Rattle.ostore_job_text.specs.Limits.{longest_text}
use Rattle.ostore_job_text.specs.LinesSaid.{said_from}
use Rattle.ostore_job_text.specs.Drafted.{empty_draft, put_all, finished}
use Rattle.ostore_job_text.specs.ParsedJob.{drafted, job_drafted, if_utf8, parsed_from}
use Rattle.ostore_job_text.specs.inside.LinesSpelled.{AreLinesOf, LinesSay}
use Rattle.ostore_job_text.proofs.LineTaken.{lines_taken}
use Rattle.ostore_job_text.proofs.JobPart.{part_lines}

short_taken : (test : Bool) (p : Result Job JobFault) (job : Job) (fault : JobFault) → cond test p (Err fault) ≡ Ok job → (test ≡ true) × (p ≡ Ok job)
short_taken true p job fault e = (refl, e)
short_taken false p job fault e = absurd cc

utf8_taken : (start : ℕ) (fault : Option ℕ) (read : Result Job JobFault) (job : Job) → if_utf8 start fault read ≡ Ok job → (fault ≡ None) × (read ≡ Ok job)
utf8_taken start None read job e = (refl, e)
utf8_taken start (Some at) read job e = absurd cc

utf8_from : (text : List ℕ) (test : Bool) (n : ℕ) → is_utf8 text ≡ test → cond {A = Option ℕ} test None (Some n) ≡ None → IsUtf8 text
utf8_from text true n is e = IsUtf8-from_is_utf8 text is
utf8_from text false n is e = absurd cc

draft_taken : (drafted_so : Result Draft ℕ) (job : Job) → job_drafted drafted_so ≡ Ok job → (draft : Draft) × (drafted_so ≡ Ok draft) × (finished draft ≡ Ok job)
draft_taken (Ok draft) job e = (draft, refl, e)
draft_taken (Err at) job e = absurd cc

say : (start : ℕ) (text : List ℕ) (job : Job) (draft : Draft) → length text ≤ longest_text → IsUtf8 (drop start text) → drafted (length text) (lines_on start text) ≡ Ok draft → finished draft ≡ Ok job → LinesSay (drop start text) job
say start text job draft short utf8 e f =
    let s = bind_ok (said_from (length text) stands.Start (lines_on start text)) (λ said. Ok (put_all empty_draft said)) draft e in
    record {
      short = omega (arith, short, length-drop start text);
      utf8 = utf8;
      said = s.0;
      lines = subst (AreLinesOf stands.Start s.0) (part_lines start text) (lines_taken (length text) stands.Start (lines_on start text) s.0 s.1);
      put = ap finished (same_ok _ draft s.2) ∙ f;
    }

-- what is read from a place on is said by the lines there
pub parsed_says : (start : ℕ) (text : List ℕ) (job : Job) → parsed_from start text ≡ Ok job → LinesSay (drop start text) job
unfolding parsed_from
parsed_says start text job e =
    let a = short_taken (leb (length text) longest_text) (if_utf8 start (utf8_fault (drop start text)) (job_drafted (drafted (length text) (lines_on start text)))) job (faults.TooLong longest_text) e in
    let b = utf8_taken start (utf8_fault (drop start text)) (job_drafted (drafted (length text) (lines_on start text))) job a.1 in
    let c = draft_taken (drafted (length text) (lines_on start text)) job b.1 in
    say start text job c.0 (leb-true (length text) longest_text a.0) (utf8_from (drop start text) (is_utf8 (drop start text)) _ refl b.0) c.1 c.2
