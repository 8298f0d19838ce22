use Rattle.std.proofs.Common.{◌≢◌, arith}
use Rattle.ostore_base.specs.declared.cell_codes.TheConstants.{INDEX_DESCRIPTOR}
use Rattle.ostore_schema_layout.proofs.places.PointerLaws.{lawful_sizes}
use Rattle.ostore_schema_layout.proofs.places.WalkLaws.{chunk_walk}
use Rattle.ostore_schema_layout.proofs.pointers.walk.Pointers.new.Goals as goal

pub of_members-requires : goal.of_members-requires
of_members-requires c = rw c.members_of.ensures (lawful_sizes c.args.schema.now c.args.code c.requires.lawful c.requires.there c.if-code-lt-SET_CHUNK.true)

pub returns-else-code-eq-INDEX_DESCRIPTOR : goal.returns-else-code-eq-INDEX_DESCRIPTOR
returns-else-code-eq-INDEX_DESCRIPTOR c =
    let form = c.chunk_form-form.ensures in
    let apart : c.args.code ≢ INDEX_DESCRIPTOR = c.if-code-eq-INDEX_DESCRIPTOR.false in
    chunk_walk c.args.schema.now c.args.code _ _ _ _ (omega arith) apart (rw form.pointer_at at c.first.ensures) form.entry_size form.entries c.of_entries-else-code-eq-INDEX_DESCRIPTOR.ensures
