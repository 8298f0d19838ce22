use Rattle.ostore_schema_layout.proofs.places.PointerLaws.{next_entry_missing, next_entry_there}
use Rattle.std.proofs.Common.{◌≡◌, ◌-◌, arith}
use Rattle.std.specs.Int.{div_ceil}
use Rattle.ostore_schema_layout.proofs.pointers.next_in_chunk.Goals as goal

pub returns-then-passed-form : goal.returns-then-passed-form
returns-then-passed-form c =
    let form = c.chunk_form-form.ensures in
    let passed : c.div_ceil-passed.result ≡ div_ceil (c.args.from - c.first-first.result) c.chunk_form-form.result.entry_size = rw c.saturating_sub.ensures at c.div_ceil-passed.ensures in
    next_entry_there c.args.code c.args.from _ _ _ _ c.requires (omega arith) form.entries form.entry_size (rw form.pointer_at at c.first-first.ensures) passed c.if-passed-form.true

pub returns-else-passed-form : goal.returns-else-passed-form
returns-else-passed-form c =
    let form = c.chunk_form-form.ensures in
    let passed : c.div_ceil-passed.result ≡ div_ceil (c.args.from - c.first-first.result) c.chunk_form-form.result.entry_size = rw c.saturating_sub.ensures at c.div_ceil-passed.ensures in
    next_entry_missing c.args.code c.args.from _ _ _ _ c.requires (omega arith) form.entries form.entry_size (rw form.pointer_at at c.first-first.ensures) passed c.if-passed-form.false
