use Rattle.ostore_schema_layout.proofs.places.PointerLaws.{lawful_sizes}
use Rattle.ostore_schema_layout.proofs.pointers.next_pointer.Goals as goal

pub next_in_type-requires : goal.next_in_type-requires
next_in_type-requires c = rw c.members_of.ensures (lawful_sizes c.args.schema.now c.args.code c.requires.lawful c.requires.there c.if-code-lt-SET_CHUNK.true)
