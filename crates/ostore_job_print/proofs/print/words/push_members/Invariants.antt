-- The members after the first, up to this one, are printed.
use Rattle.std.proofs.Common.{◌≡◌, ◌++◌, codes, take}
use Rattle.std.specs.List.{flat_map}
use Rattle.ostore_job_print.proofs.print.words.push_members.Given as goal

abbrev pub invariant-loop-member : goal.invariant-loop-member
invariant-loop-member l = l.out ≡ l.initial.out ++ flat_map (λ member. codes "." ++ member) (take l.member-index l.member-items)
