use Rattle.std.proofs.Common.{ap, sym, subst, refl, arith, length, Option, IsSome}
use Rattle.ostore_schema_layout.specs.declared.schema.MemberDef.{MemberDef}
use Rattle.ostore_schema_layout.specs.Numbers.{members_of}
use Rattle.ostore_schema_layout.proofs.lawful.LawfulLawsPlaces.{members_few}
use Rattle.ostore_schema_layout.proofs.resolved.ResolveLawsLists.{item_at}
use Rattle.ostore_schema_layout.proofs.schema.Schema.member_named.Goals as goal

pub overflow_cast-result : goal.overflow_cast-result
overflow_cast-result c = omega (arith, c.in_ok-place.ensures.within, ap length c.members_of.ensures, members_few c.args.self.now c.requires.lawful c.args.ty.0)

pub returns-clause-there : goal.returns-clause-there
returns-clause-there c =
    let found = item_at (members_of c.args.self.now c.args.ty.0) c.in_ok-place.place (omega (arith, c.in_ok-place.ensures.within, ap length c.members_of.ensures)) in
    subst (λ (o : Option MemberDef). IsSome o) (sym found.1) refl
