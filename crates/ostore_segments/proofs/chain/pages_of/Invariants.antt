use Rattle.std.proofs.Common.{◌≡◌, map}
use Rattle.ostore_segments.specs.Holdings.{Becomes, Sees, BringsOnEach, OwnsOnly}
use Rattle.ostore_segments.specs.Naming.{IsNamedIn}
use Rattle.ostore_segments.specs.inside.Walks.{HasListed}
use Rattle.ostore_segments.proofs.chain.pages_of.Given as goal

abbrev pub invariant-loop-walked : goal.invariant-loop-walked
invariant-loop-walked g l = record {
  seen : Becomes (g.P.Pages.held l.fn.pages) (g.P.Pages.held l.pages) (Sees (λ list. HasListed list l.segment l._walked l.page (map (λ p. p.0) l.found)));
  brings : BringsOnEach (g.P.Pages.held l.fn.pages) (g.P.Pages.held l.pages) (λ list. IsNamedIn list l.segment);
  owns : OwnsOnly (g.P.Pages.held l.fn.pages) (g.P.Pages.held l.pages) (λ named. ⊥);
  passes : g.P.Pages.passes l.fn.pages l.pages;
  told : g.P.Pages.told l.pages ≡ g.P.Pages.told l.fn.pages;
}
