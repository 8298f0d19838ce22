use Rattle.std.proofs.Common.{◌∙◌, sym}
use Rattle.ostore_segments.proofs.ListSteps.{Becomes-sees, Stands-weaker}
use Rattle.ostore_segments.proofs.SeenLaws.{headed_below, seen_header}
use Rattle.ostore_segments.proofs.fields.header_at.Goals as goal

pub enter-requires : goal.enter-requires
enter-requires g c = Stands-weaker (λ list it. headed_below list c.args.page.0 it) c.requires

pub returns-clause-seen : goal.returns-clause-seen
returns-clause-seen g c =
    Becomes-sees c.requires
    (λ list it there. sym (c.header.ensures ∙ seen_header _ _ list c.args.page.0 _ it (c.image.ensures there.0 list there.1 (headed_below list c.args.page.0 it))))
    c.in_ok-enter.ensures.lists
