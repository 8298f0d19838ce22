use Rattle.std.proofs.Common.{◌≡◌, ap, ◌<◌, ◌≤◌, ◌∙◌, length, get_or, take, Some, None, arith}
use Rattle.ostore_schema_layout.specs.Faults.{member_faults, first_of}
use Rattle.ostore_schema_layout.proofs.parsed.FirstFaults.{member_found, member_passed, members_passed}
use Rattle.ostore_schema_layout.proofs.reading.faults.members_fault.Goals as goal

pub returns-in-Some : goal.returns-in-Some
returns-in-Some c =
    let types = c.args.types.now in
    let ty = c.args.ty.now.name.name in
    let members = c.args.ty.now.members in
    let i = c.loop-i.i in
    let member = c.index-members-i.result in
    let lt : i < length members = omega (arith, ap length c.items-members.ensures) in
    let is : member ≡ get_or members i member = cc (c.items-members.ensures, c.index-members-i.is) in
    let fault : Some c.in-Some.fault ≡ first_of (member_faults types ty (take i members) member) = cc in
    member_found types ty members i member c.in-Some.fault lt is fault ∙ c.loop-i.invariant

pub loop-i-preserved : goal.loop-i-preserved
loop-i-preserved c =
    let types = c.args.types.now in
    let ty = c.args.ty.now.name.name in
    let members = c.args.ty.now.members in
    let i = c.loop-i.i in
    let member = c.index-members-i.result in
    let lt : i < length members = omega (arith, ap length c.items-members.ensures) in
    let is : member ≡ get_or members i member = cc (c.items-members.ensures, c.index-members-i.is) in
    let fault : None ≡ first_of (member_faults types ty (take i members) member) = cc in
    member_passed types ty members i member lt is fault ∙ c.loop-i.invariant

pub returns : goal.returns
returns c =
    let past : length c.args.ty.now.members ≤ c.loop-i.i = omega (arith, ap length c.items-members.ensures) in
    members_passed c.args.types.now c.args.ty.now.name.name c.args.ty.now.members c.loop-i.i past ∙ c.loop-i.invariant
