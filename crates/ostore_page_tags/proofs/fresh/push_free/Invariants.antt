use Rattle.std.proofs.Common.{◌≡◌, ◌-◌, ◌++◌}
use Rattle.ostore_page_tags.specs.FreshPages.{free_images}
use Rattle.ostore_page_tags.proofs.fresh.push_free.Given as goal

abbrev pub invariant-loop-page : goal.invariant-loop-page
invariant-loop-page l = l.list ≡ l.initial.list ++ free_images l.pages (l.page - 10)
