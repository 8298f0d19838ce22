-- Laws of a walk over pointers: what it has to give at its start, and after each step.
use Rattle.std.proofs.Common.{◌≡◌, ◌≢◌, ℕ, zero, suc, ◌+◌, ◌*◌, ◌≤◌, List, ◌∷◌, map, refl, sym, ap, arith, rules, tests}
use Rattle.std.specs.List.{range_with_len}
use Rattle.ostore_schema_layout.specs.declared.schema.Schema.{Schema}
use Rattle.ostore_schema_layout.specs.Cells.{chunk_of, chunk_pointers, pointers_of}
use Rattle.ostore_base.specs.declared.cell_codes.TheConstants.{INDEX_DESCRIPTOR}
use Rattle.ostore_schema_layout.specs.inside.PointersLeft.{pointers_from}
use Rattle.ostore_schema_layout.proofs.places.PointerLaws.{pointers_of_chunk}

-- the pointers of entries, one after the other
pub entries_from : (first size start count : ℕ) → map (λ i. first + size * i) (range_with_len start count) ≡ pointers_from (first + size * start) size count
entries_from first size start zero = refl
entries_from first size start (suc count) =
    let next : first + size * (start + 1) ≡ first + size * start + size = omega arith in
    ap (λ (places : List ℕ). (first + size * start) ∷ places) (rw next at (entries_from first size (start + 1) count))

chunk_pointers_of : (schema : Schema) (code : ℕ) → 240 ≤ code → pointers_of schema code ≡ chunk_pointers code
chunk_pointers_of schema code h = search (rules, tests)

-- what the walk over a chunk has to give at its start
pub chunk_walk : (schema : Schema) (code at size entries : ℕ) (given : List ℕ) → 240 ≤ code → code ≢ INDEX_DESCRIPTOR → at ≡ 8 + (chunk_of code).pointer_at → size ≡ (chunk_of code).entry_size → entries ≡ (chunk_of code).entries →
    given ≡ 0 ∷ pointers_from at size entries → given ≡ pointers_of schema code
chunk_walk schema code at size entries given high apart is_at is_size is_entries is_given =
    let form = chunk_of code in
    let start : 8 + form.pointer_at + form.entry_size * 0 ≡ 8 + form.pointer_at = omega arith in
    let all = rw start at (entries_from (8 + form.pointer_at) form.entry_size 0 form.entries) in
    rw (is_given, is_at, is_size, is_entries, chunk_pointers_of schema code high, pointers_of_chunk code apart) (ap (λ (places : List ℕ). 0 ∷ places) (sym all))
