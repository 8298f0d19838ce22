use Rattle.std.proofs.Common.{◌≡◌, ℕ, suc, ◌+◌, ◌-◌, ◌≤◌, List, ◌∷◌, length, drop, refl, sym, ap, ◌∙◌, arith}
use Rattle.std.specs.List.{slice_get}
use Rattle.std.proofs.lemmas.List.{drop_more}
use Rattle.ostore_schema_layout.specs.declared.schema.MemberDef.{MemberDef}
use Rattle.ostore_schema_layout.specs.Cells.{kind_size, places_from, sizes}
use Rattle.ostore_schema_layout.proofs.cells.place_among.Goals as goal

-- the place of a member behind the first one
later : (offset n m size : ℕ) (members : List MemberDef) (def : MemberDef) → drop n members ≡ def ∷ drop (n + 1) members → n + 1 ≤ m → size ≡ kind_size def.kind
    → slice_get (places_from (offset + size) (drop (n + 1) members)) (m - (n + 1)) ≡ slice_get (places_from offset (drop n members)) (m - n)
later offset n m size members def dropped more is =
    let next : suc (m - (n + 1)) ≡ m - n = omega arith in
    ap (λ (s : ℕ). slice_get (places_from (offset + s) (drop (n + 1) members)) (m - (n + 1))) is
    ∙ ap (λ (k : ℕ). slice_get (places_from offset (def ∷ drop (n + 1) members)) k) next
    ∙ ap (λ (l : List MemberDef). slice_get (places_from offset l) (m - n)) (sym dropped)

pub loop-number-preserved : goal.loop-number-preserved
loop-number-preserved c =
    let members = c.args.members.now in
    let n = c.loop-number.number in
    let def = c.index-members-number.result in
    let dropped : drop n members ≡ def ∷ drop (n + 1) members = drop_more members n def c.loop-number-test.true ∙ ap (λ (d : MemberDef). d ∷ drop (n + 1) members) (sym c.index-members-number.is) in
    let passed : n + 1 ≤ c.args.member.0 = omega arith in
    let sized : sizes (drop n members) ≡ kind_size def.kind + sizes (drop (n + 1) members) = ap sizes dropped in
    record {
      passed = passed;
      placed = later c.loop-number.offset n c.args.member.0 c.kind_size-offset.result members def dropped passed c.kind_size-offset.ensures ∙ c.loop-number.invariant.placed;
      sized = omega arith;
    }
