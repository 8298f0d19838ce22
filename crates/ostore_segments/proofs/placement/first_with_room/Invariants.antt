use Rattle.std.proofs.Common.{◌≡◌}
use Rattle.ostore_segments.specs.Holdings.{Becomes, Sees, BringsOnEach, OwnsOnly}
use Rattle.ostore_segments.specs.Naming.{IsNamedIn}
use Rattle.ostore_segments.specs.inside.Walks.{HasWalked}
use Rattle.ostore_segments.proofs.placement.first_with_room.Given as goal

abbrev pub invariant-loop-walked : goal.invariant-loop-walked
invariant-loop-walked g l = record {
  seen : Becomes (g.P.Pages.held l.fn.pages) (g.P.Pages.held l.pages) (Sees (λ list. HasWalked list l.segment l.need l._walked l.page));
  brings : BringsOnEach (g.P.Pages.held l.fn.pages) (g.P.Pages.held l.pages) (λ list. IsNamedIn list l.segment);
  owns : OwnsOnly (g.P.Pages.held l.fn.pages) (g.P.Pages.held l.pages) (λ named. ⊥);
  passes : g.P.Pages.passes l.fn.pages l.pages;
  told : g.P.Pages.told l.pages ≡ g.P.Pages.told l.fn.pages;
}
