use Rattle.std.proofs.Common.{◌∙◌, ◌+◌, ap, sym, subst}
use Rattle.std.proofs.lemmas.Bool.{false≢true}
use Rattle.ostore_page_tags.specs.Allocated.{IsAllocated}
use Rattle.ostore_segments.specs.Holdings.{PagesTold}
use Rattle.ostore_segments.specs.Serials.{AreSpent}
use Rattle.ostore_segments.proofs.ListSteps.{Becomes-alone, stands_alone}
use Rattle.ostore_segments.proofs.MakeLaws.{made_allocated}
use Rattle.ostore_segments.proofs.tests.new_object.Goals as goal

pub make-requires-clause-allocated : goal.make-requires-clause-allocated
make-requires-clause-allocated c = stands_alone c.are_spent.new.pages.pages (subst IsAllocated (sym c.are_spent.ensures.same) c.requires.allocated)

pub make-requires-clause-left : goal.make-requires-clause-left
make-requires-clause-left c =
    stands_alone c.are_spent.new.pages.pages
    (λ spent. false≢true (sym c.if-are_spent.false ∙ c.are_spent.ensures.spent.1 (subst (λ list. AreSpent list c.args.segment) c.are_spent.ensures.same spent)))

pub make-requires-clause-size : goal.make-requires-clause-size
make-requires-clause-size c = ap (λ (told : PagesTold). told.sizes c.args.code) (c.are_spent.ensures.told ∙ c.requires.told) ∙ c.in_ok-size.ensures.1

pub returns-clause-allocated : goal.returns-clause-allocated
returns-clause-allocated c =
    made_allocated c.in-Ok.made c.are_spent.new.pages.pages c.make.new.pages.pages c.args.segment (c.in_ok-size.size + 8) c.in_ok-size.size c.args.code
    (subst IsAllocated (sym c.are_spent.ensures.same) c.requires.allocated)
    (Becomes-alone c.are_spent.new.pages.pages c.make.new.pages.pages c.in-Ok.ensures.lists)
