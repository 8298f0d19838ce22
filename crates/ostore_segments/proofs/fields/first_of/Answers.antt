use Rattle.std.proofs.Common.{◌∙◌, sym, arith}
use Rattle.ostore_segments.proofs.ListSteps.{Becomes-sees}
use Rattle.ostore_segments.proofs.SeenLaws.{seen_first}
use Rattle.ostore_segments.proofs.fields.first_of.Goals as goal

pub returns-clause-seen : goal.returns-clause-seen
returns-clause-seen g c =
    Becomes-sees c.requires.allocated
    (λ list fine there. let least = fine.least in sym (c.get_u32.ensures ∙ seen_first _ _ list c.args.segment c.first_place.result _ c.first_place.ensures (c.image.ensures there.0 list there.1 (omega arith))))
    c.in_ok-enter.ensures.lists
