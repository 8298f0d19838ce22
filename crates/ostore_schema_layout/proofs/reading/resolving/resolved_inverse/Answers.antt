use Rattle.std.proofs.Common.{length, ap, arith}
use Rattle.ostore_schema_layout.proofs.parsed.Numbering.{members_named_few}
use Rattle.ostore_schema_layout.proofs.reading.resolving.resolved_inverse.Goals as goal

pub member_number-requires : goal.member_number-requires
member_number-requires c =
    let few = members_named_few c.args.types.now c.bytes.result.now c.requires in
    omega (arith, few, ap length c.members_named-members.ensures)
