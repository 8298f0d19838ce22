use Rattle.std.proofs.Common.{ap}
use Rattle.std.specs.Str.{bytes_eq}
use Rattle.ostore_schema_layout.specs.declared.declarations.MemberDeclaration.{MemberDeclaration}
use Rattle.ostore_schema_layout.specs.Numbers.{place_named, member_of_place}
use Rattle.ostore_schema_layout.proofs.parsed.Numbering.{place_or_length}
use Rattle.ostore_schema_layout.proofs.reading.resolving.member_number.Goals as goal

pub returns : goal.returns
unfolding place_named
returns c = ap member_of_place (place_or_length (λ (member : MemberDeclaration). bytes_eq member.name.name c.args.name.now) c.args.members.now c.place_named.result c.unwrap_or-place.result c.place_named.ensures.place c.unwrap_or-place.ensures)
