use Rattle.std.proofs.Common.{◌≡◌, rules}
use Rattle.ostore_schema_layout.specs.Cells.{pointers_of}
use Rattle.ostore_schema_layout.proofs.places.PointerLaws.{ascending_pointers, lawful_sizes, pointers_within}
use Rattle.ostore_schema_layout.proofs.pointers.pointer_places.Goals as goal

pub push_type_pointers-requires : goal.push_type_pointers-requires
push_type_pointers-requires c = rw c.members_of.ensures (lawful_sizes c.args.schema.now c.args.code c.requires.lawful c.requires.there c.if-code-lt-SET_CHUNK.true)

pub returns-clause-ascending : goal.returns-clause-ascending
returns-clause-ascending c =
    let exact : c.if-code-lt-SET_CHUNK.places.items ≡ pointers_of c.args.schema.now c.args.code = search rules in
    rw exact (ascending_pointers c.args.schema.now c.args.code)

pub returns-clause-within : goal.returns-clause-within
returns-clause-within c =
    let exact : c.if-code-lt-SET_CHUNK.places.items ≡ pointers_of c.args.schema.now c.args.code = search rules in
    rw exact (pointers_within c.args.schema.now c.args.code)
