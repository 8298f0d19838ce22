use Rattle.std.proofs.Common.{◌≡◌}
use Rattle.ostore_page_tags.specs.Allocated.{IsAllocated}
use Rattle.ostore_segments.specs.SchemaCells.{told_of}
use Rattle.ostore_segments.proofs.tests.fill.Given as goal

abbrev pub invariant-loop-made : goal.invariant-loop-made
invariant-loop-made l = record {
  allocated : IsAllocated l.pages.pages;
  told : told_of l.pages.schema.now ≡ told_of l.schema;
}
