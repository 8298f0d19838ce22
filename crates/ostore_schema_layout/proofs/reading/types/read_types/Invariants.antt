use Rattle.std.proofs.Common.{◌≡◌, length}
use Rattle.ostore_schema_layout.specs.DeclaredBy.{declared_by}
use Rattle.ostore_schema_layout.proofs.parsed.ReaderLaws.{with_types}
use Rattle.ostore_schema_layout.proofs.reading.types.read_types.Given as goal

abbrev pub invariant-loop-alloc : goal.invariant-loop-alloc
invariant-loop-alloc l = with_types l.types (declared_by l.lines.lines) ≡ declared_by l.initial.lines.lines

abbrev pub decreases-loop-alloc : goal.decreases-loop-alloc
decreases-loop-alloc l = length l.lines.lines
