use Rattle.std.proofs.Common.{◌<◌, length, sym, ap, ◌∙◌, arith}
use Rattle.std.proofs.lemmas.List.{length-map}
use Rattle.std.proofs.lemmas.Result.{err_from_is_err_and}
use Rattle.ostore_text_words.specs.Seen.{seen_word, seen_line}
use Rattle.ostore_job_text.proofs.WordLoops.{entries_on, entry_read, entry_fails}
use Rattle.ostore_job_text.proofs.reading.clients.entries.Goals as goal

pub returns-in_err-found : goal.returns-in_err-found
returns-in_err-found c =
    let p = err_from_is_err_and c.from_residual.result c.from_residual.ensures.1 in
    let line = seen_line c.args.line.now in
    let lt : c.loop-i.i < length line.words = omega (arith, c.loop-i-test.true, ap length c.items-i-end.ensures, length-map c.args.line.now.words seen_word) in
    rw (p.1, p.2) (entry_fails c.in_err-found.field-0.0 c.loop-i.entries line c.loop-i.i (entries_on line 1) lt c.in_err-found.ensures c.loop-i.invariant)

pub loop-i-preserved : goal.loop-i-preserved
loop-i-preserved c =
    let line = seen_line c.args.line.now in
    let lt : c.loop-i.i < length line.words = omega (arith, c.loop-i-test.true, ap length c.items-i-end.ensures, length-map c.args.line.now.words seen_word) in
    rw c.in_ok-push.ensures.ok (sym (entry_read c.loop-i.entries line c.loop-i.i c.in_ok-found.found lt c.in_ok-found.ensures) ∙ c.loop-i.invariant)
