use Rattle.std.proofs.Common.{ℕ, ◌<◌, sym, subst}
use Rattle.ostore_address_space.specs.Frames.{Frames, KeepsFrames}
use Rattle.ostore_address_space.proofs.PairLaws.{give_keeps}
use Rattle.ostore_address_space.proofs.space.Space.reserve.Goals as goal

pub returns-clause-kept : goal.returns-clause-kept
returns-clause-kept g c =
    subst (λ (s : Frames). KeepsFrames c.args.self.now.pages s.pages) (sym c.give.ensures.given)
    (give_keeps c.args.self.now.pages c.index_meant.result c.give.result.0 c.args.page (subst (λ (n : ℕ). c.index_meant.result < n) c.count_free-count.ensures c.index_meant.ensures.below) c.give.ensures.frame)
