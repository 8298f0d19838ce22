use Rattle.std.proofs.Common.{◌∙◌}
use Rattle.ostore_schema_layout.proofs.parsed.FirstFaults.{type_found, type_passed, types_passed}
use Rattle.ostore_schema_layout.proofs.reading.faults.first_fault.Goals as goal

pub returns-in-Some : goal.returns-in-Some
returns-in-Some c = type_found c.args.types.now c.args.types.now c.loop-i.i c.index-types-i.result c.in-Some.fault c.loop-i-test.true c.index-types-i.is c.in-Some.ensures ∙ c.loop-i.invariant

pub loop-i-preserved : goal.loop-i-preserved
loop-i-preserved c = type_passed c.args.types.now c.args.types.now c.loop-i.i c.index-types-i.result c.loop-i-test.true c.index-types-i.is c.in_default.ensures ∙ c.loop-i.invariant

pub returns : goal.returns
returns c = types_passed c.args.types.now c.args.types.now c.loop-i.i c.loop-i-test.false ∙ c.loop-i.invariant
