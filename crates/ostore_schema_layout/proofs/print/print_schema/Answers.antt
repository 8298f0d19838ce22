use Rattle.std.proofs.Common.{◌≡◌, rules}
use Rattle.ostore_schema_layout.specs.Spells.{canonical_text}
use Rattle.ostore_schema_layout.proofs.spelled.PrintLaws.{spells_canonical}
use Rattle.ostore_schema_layout.proofs.print.print_schema.Goals as goal

pub returns-clause-spells : goal.returns-clause-spells
returns-clause-spells c =
    let exact : c.push_types.new.out ≡ canonical_text c.args.schema.now = search rules in
    rw exact (λ lawful short. spells_canonical c.args.schema.now lawful short)
