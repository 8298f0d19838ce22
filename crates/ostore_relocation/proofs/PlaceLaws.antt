-- Places of pointers: one behind the other, each of 4 bytes.
use Rattle.std.proofs.Common.{◌≡◌, ℕ, zero, suc, ◌+◌, ◌*◌, ◌≤◌, Bool, true, false, cond, ◌==◌, nat_le, List, [], ◌∷◌, ◌++◌, map, subst, arith}
use Rattle.std.specs.List.{flat_map, range_with_len}
use Rattle.std.proofs.lemmas.Bool.Decides.{nat_tests}
use Rattle.ostore_schema_layout.specs.declared.schema.Schema.{Schema}
use Rattle.ostore_schema_layout.specs.declared.schema.MemberDef.{MemberDef}
use Rattle.ostore_schema_layout.specs.declared.schema.MemberKind.{MemberKind}
use Rattle.ostore_schema_layout.specs.declared.schema.MemberKind.TheVariants as kinds
use Rattle.ostore_schema_layout.specs.Cells.{cell_size, chunk_of, chunk_pointers, chunk_size, code_size, in_fours, kind_size, places_from, pointers_of, pointers_of_kind, pointers_of_place, sizes, type_pointers}
use Rattle.ostore_base.specs.declared.cell_codes.TheConstants.{INDEX_DESCRIPTOR}
use Rattle.ostore_schema_layout.specs.Numbers.{members_of}
use Rattle.ostore_schema_layout.proofs.places.LayoutLaws.{sizes_in_cell}
use Rattle.ostore_relocation.specs.Places.{LieBetween}

pub lie_lower : (low least high : ℕ) (places : List ℕ) → low ≤ least → LieBetween least places high → LieBetween low places high
lie_lower low least high [] h lie = omega arith
lie_lower low least high (at ∷ places) h lie = (omega (arith, lie.0), lie.1)

pub lie_higher : (low high most : ℕ) (places : List ℕ) → high ≤ most → LieBetween low places high → LieBetween low places most
lie_higher low high most [] h lie = omega arith
lie_higher low high most (at ∷ places) h lie = (lie.0, lie_higher (at + 4) high most places h lie.1)

pub lie_append : (low mid high : ℕ) (first second : List ℕ) → LieBetween low first mid → LieBetween mid second high → LieBetween low (first ++ second) high
lie_append low mid high [] second lie also = lie_lower low mid high second lie also
lie_append low mid high (at ∷ first) second lie also = (lie.0, lie_append (at + 4) mid high first second lie.1 also)

pub lie_moved : (by low high : ℕ) (places : List ℕ) → LieBetween low places high → LieBetween (by + low) (map (λ at. by + at) places) (by + high)
lie_moved by low high [] lie = omega arith
lie_moved by low high (at ∷ places) lie =
    let behind : by + (at + 4) ≡ by + at + 4 = omega arith in
    (omega (arith, lie.0), subst (λ (n : ℕ). LieBetween n (map (λ a. by + a) places) (by + high)) behind (lie_moved by (at + 4) high places lie.1))

-- the order of the ends
pub lie_order : (low high : ℕ) (places : List ℕ) → LieBetween low places high → low ≤ high
lie_order low high [] lie = lie
lie_order low high (at ∷ places) lie = let order = lie_order (at + 4) high places lie.1 in omega (arith, lie.0)

-- ---- the pointers of a cell

lie_kind : (at end : ℕ) (kind : MemberKind) (others : List ℕ) → LieBetween (at + kind_size kind) others end → LieBetween at (pointers_of_kind at kind ++ others) end
lie_kind at end kinds.Int others lie = lie_lower at (at + 8) end others (omega arith) lie
lie_kind at end (kinds.Text max) others lie = lie_lower at (at + in_fours (1 + max)) end others (omega arith) lie
lie_kind at end (kinds.Ref target) others lie = (omega arith, lie)
lie_kind at end (kinds.Set target) others lie = (omega arith, (omega arith, lie_lower (at + 8 + 4) (at + 12) end others (omega arith) lie))
lie_kind at end (kinds.List target) others lie = (omega arith, lie_lower (at + 4) (at + 8) end others (omega arith) lie)
lie_kind at end (kinds.DictInt target) others lie = (omega arith, lie_lower (at + 4) (at + 8) end others (omega arith) lie)
lie_kind at end (kinds.DictText target) others lie = (omega arith, lie_lower (at + 4) (at + 8) end others (omega arith) lie)

lie_type : (at : ℕ) (members : List MemberDef) → LieBetween at (flat_map pointers_of_place (places_from at members)) (at + sizes members)
lie_type at [] = omega arith
lie_type at (member ∷ members) =
    let end : at + kind_size member.kind + sizes members ≡ at + (kind_size member.kind + sizes members) = omega arith in
    lie_kind at (at + (kind_size member.kind + sizes members)) member.kind _
    (subst (λ (n : ℕ). LieBetween (at + kind_size member.kind) (flat_map pointers_of_place (places_from (at + kind_size member.kind) members)) n) end (lie_type (at + kind_size member.kind) members))

lie_entries : (base before size start count low : ℕ) → before + 4 ≤ size → low ≤ base + size * start → LieBetween low (map (λ i. base + before + size * i) (range_with_len start count)) (base + size * (start + count))
lie_entries base before size start zero low some h = omega arith
lie_entries base before size start (suc count) low some h =
    let end : base + size * (start + 1 + count) ≡ base + size * (start + suc count) = omega arith in (
      omega arith,
      subst (λ (n : ℕ). LieBetween (base + before + size * start + 4) (map (λ i. base + before + size * i) (range_with_len (start + 1) count)) n) end
          (lie_entries base before size (start + 1) count (base + before + size * start + 4) some (omega arith)),
    )

-- an entry's size is at least that of its pointer and what stands before it
sound_form : (code : ℕ) → (chunk_of code).pointer_at + 4 ≤ (chunk_of code).entry_size
sound_form code = grind (arith, nat_tests)

some_entries : (code : ℕ) → 4 ≤ 8 + (chunk_of code).entry_size * 0
some_entries code = omega arith

lie_form : (entries size before : ℕ) → before + 4 ≤ size → LieBetween 0 (0 ∷ map (λ i. 8 + before + size * i) (range_with_len 0 entries)) (8 + entries * size)
lie_form entries size before h =
    let end : 8 + size * (0 + entries) ≡ 8 + entries * size = omega arith in
    (omega arith, subst (λ (n : ℕ). LieBetween 4 (map (λ i. 8 + before + size * i) (range_with_len 0 entries)) n) end (lie_entries 8 before size 0 entries 4 h (omega arith)))

both : {A B : Type 0} (R : A → B → Type 0) (b : Bool) (x y : A) (u v : B) → R x u → R y v → R (cond b x y) (cond b u v)
both R true x y u v h k = h
both R false x y u v h k = k

lie_chunk : (code : ℕ) → LieBetween 0 (chunk_pointers code) (chunk_size code)
lie_chunk code =
    let form = chunk_of code in
    both (LieBetween 0) (code == INDEX_DESCRIPTOR) _ _ _ _ (omega arith, (omega arith, omega arith)) (lie_form form.entries form.entry_size form.pointer_at (sound_form code))

-- the pointers of a cell lie one behind the other in the cell
pub lie_code : (schema : Schema) (code : ℕ) → LieBetween 0 (pointers_of schema code) (code_size schema code)
lie_code schema code =
    let members = members_of schema code in
    both (LieBetween 0) (nat_le 240 code) _ _ _ _ (lie_chunk code) (lie_higher 0 (0 + sizes members) (cell_size members) (type_pointers members) (omega (arith, sizes_in_cell members)) (lie_type 0 members))
