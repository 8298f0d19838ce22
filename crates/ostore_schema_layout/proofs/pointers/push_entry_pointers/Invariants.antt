-- The pointers of the entries before this one are added.
use Rattle.std.proofs.Common.{◌≡◌, ◌+◌, ◌*◌, ◌++◌, map}
use Rattle.std.specs.List.{range_with_len}
use Rattle.ostore_schema_layout.specs.Cells.{chunk_of}
use Rattle.ostore_schema_layout.proofs.pointers.push_entry_pointers.Given as goal

abbrev pub invariant-loop-i : goal.invariant-loop-i
invariant-loop-i l = l.places.items ≡ l.initial.places.items ++ map (λ i. 8 + (chunk_of l.code).pointer_at + (chunk_of l.code).entry_size * i) (range_with_len 0 l.i)
