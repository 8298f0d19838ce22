use Rattle.std.proofs.Common.{rules, ◌<◌, ◌++◌, List, ℕ, length, ap, ◌∙◌}
use Rattle.ostore_job_print.proofs.PrintWords.{path_printed}
use Rattle.ostore_job_print.proofs.print.words.push_members.Goals as goal

pub returns : goal.returns
returns c =
    let some : 0 < length c.args.path.now = search rules in
    path_printed c.args.path.now c.index-path-0.result _ c.args.out.now _ _ some c.loop-member-test.false
    (c.in_ok-push_first.ensures ∙ ap (λ (t : List ℕ). c.args.out.now ++ t) c.index-path-0.is) c.loop-member.invariant
