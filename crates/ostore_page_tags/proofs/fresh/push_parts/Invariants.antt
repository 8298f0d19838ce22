use Rattle.std.proofs.Common.{◌≡◌, ◌++◌}
use Rattle.ostore_page_tags.specs.FreshPages.{part_images}
use Rattle.ostore_page_tags.proofs.fresh.push_parts.Given as goal

abbrev pub invariant-loop-i : goal.invariant-loop-i
invariant-loop-i l = l.list ≡ l.initial.list ++ part_images l.bytes l.i
