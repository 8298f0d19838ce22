use Rattle.std.proofs.Common.{◌≡◌, [], replicate}
use Rattle.ostore_turns.specs.Places.{first_place}
use Rattle.ostore_turns.proofs.tests.Strict.new.Given as goal

abbrev pub invariant-loop-client : goal.invariant-loop-client
invariant-loop-client l = record {
  places : l.places.items ≡ replicate l._client-index first_place;
  records : l.records.items ≡ replicate l._client-index [];
}
