use Rattle.std.proofs.Common.{◌≡◌, ◌≤◌, length}
use Rattle.ostore_schema_layout.specs.DeclaredBy.{declared_behind}
use Rattle.ostore_schema_layout.proofs.parsed.ReaderLaws.{with_members}
use Rattle.ostore_schema_layout.proofs.reading.types.read_members.Given as goal

abbrev pub invariant-loop-alloc : goal.invariant-loop-alloc
invariant-loop-alloc l =
    (with_members l.members (declared_behind l.lines.lines) ≡ declared_behind l.initial.lines.lines) × (length l.lines.lines ≤ length l.initial.lines.lines)

abbrev pub decreases-loop-alloc : goal.decreases-loop-alloc
decreases-loop-alloc l = length l.lines.lines
