-- What a side of a link has: where the links are good, each side shows the link's pairs.
use Rattle.std.proofs.Common.{◌≡◌, ◌≢◌, ℕ, ◌+◌, true, false, cond, refl, sym, ap, subst, ◌∙◌, Option, Some, None, inl, inr, true≢false}
use Rattle.std.specs.List.{slice_get}
use Rattle.std.specs.Option.{option_map, option_and_then}
use Rattle.std.specs.declared.cmp.Ordering.{Ordering}
use Rattle.std.specs.declared.cmp.Ordering.TheVariants.{Less, Equal, Greater}
use Rattle.std.specs.Ordering.{is_lt, ordering_reverse}
use Rattle.ostore_graph_model.specs.Sets as sets
use Rattle.std.proofs.lemmas.Bool.{cases_Bool}
use Rattle.std.proofs.lemmas.Option.{same_Some, none-some}
use Rattle.ostore_schema_layout.specs.declared.schema.Schema.{Schema}
use Rattle.ostore_schema_layout.specs.declared.schema.TypeNo.{TypeNo}
use Rattle.ostore_schema_layout.specs.declared.schema.MemberNo.{MemberNo}
use Rattle.ostore_schema_layout.specs.declared.schema.MemberDef.{MemberDef}
use Rattle.ostore_schema_layout.specs.declared.schema.MemberKind.{MemberKind}
use Rattle.ostore_schema_layout.specs.declared.schema.MemberKind.TheVariants as kinds
use Rattle.ostore_schema_layout.specs.declared.schema.Inverse.{Inverse}
use Rattle.ostore_schema_layout.specs.Numbers.{members_of, member_at}
use Rattle.ostore_schema_layout.specs.Lawful.{link_target, inverse_of, IsTwoSided, IsLawfulInverse, IsLawfulMember, IsLawful}
use Rattle.ostore_schema_layout.proofs.lawful.LawfulLawsPlaces.{lawful_type, lawful_member, member_stands, stands}
use Rattle.ostore_graph_model.specs.declared.values.Name.{Name}
use Rattle.ostore_graph_model.specs.Orders.{TypeMember, type_member_cmp, Pair, pair_cmp}
use Rattle.ostore_graph_model.specs.Links.{member_of_inverse, comes_first, pair_from, inverse_at, IsLink}
use Rattle.ostore_graph_model.specs.Chains.{item_type}
use Rattle.ostore_graph_model.specs.Heap.{Heap, name_in}
use Rattle.ostore_graph_model.specs.HeapRules.{KeepsPointers, KeepsItems, KeepsLinks}
use Rattle.ostore_graph_model.specs.Records.{heap_of}
use Rattle.ostore_graph_model.specs.StandsFor.{Joins, ShowsPairs}
use Rattle.ostore_graph_model.specs.LawsOfLinks.{LawOfSides}
use Rattle.ostore_graph_model.proofs.OrderLaws.{type_member_cmp-IsTotalOrder, type_member_cmp-IsAntisymmetric}
use Rattle.ostore_graph_model.proofs.ObjectLaws.{tag_of_cell}
use Rattle.ostore_graph_model.proofs.HeapLaws.{code_of}
use Rattle.ostore_graph_model.proofs.ItemLaws.{leads_to_row}
use Rattle.ostore_graph_model.proofs.PartnerLaws.{side_contains}

-- ---- the inverse of a member

pub lawful_at : (schema : Schema) → IsLawful schema → (ty : TypeNo) (number : MemberNo) (def : MemberDef) → member_at schema ty number ≡ Some def → IsLawfulMember schema ty number def
lawful_at schema lawful ty number def e =
    let at = member_stands schema ty number def e in
    let s = stands schema ty at.ty at.type_there in
    subst (λ t. IsLawfulMember schema t number def) (sym s.number_is)
    (lawful_member schema (record { 0 = s.place + 1 }) at.ty.members (lawful_type schema lawful s.place at.ty s.there).members number.0 def at.there)

pub two_sided : (schema : Schema) → IsLawful schema → (ty : TypeNo) (number : MemberNo) (def : MemberDef) (inverse : Inverse) → member_at schema ty number ≡ Some def → def.inverse ≡ Some inverse → IsTwoSided schema ty number def.kind inverse
two_sided schema lawful ty number def inverse e sided = subst (λ i. IsLawfulInverse schema ty number def.kind i) sided (lawful_at schema lawful ty number def e).inverse

target_type : (kind : MemberKind) (ty : TypeNo) → link_target kind ≡ Some ty → item_type kind ≡ ty.0
target_type kinds.Int ty e = absurd (none-some ty e)
target_type (kinds.Text max) ty e = absurd (none-some ty e)
target_type (kinds.Ref target) ty e = ap (λ (t : TypeNo). t.0) (same_Some target ty e)
target_type (kinds.Set target) ty e = ap (λ (t : TypeNo). t.0) (same_Some target ty e)
target_type (kinds.List target) ty e = absurd (none-some ty e)
target_type (kinds.DictInt target) ty e = absurd (none-some ty e)
target_type (kinds.DictText target) ty e = absurd (none-some ty e)

-- the one of two sides that doesn't come first comes second
pub other_first : (one other : TypeMember) → is_lt (type_member_cmp one other) ≡ false → one ≢ other → is_lt (type_member_cmp other one) ≡ true
other_first one other later apart = by (type_member_cmp one other) refl
  where
    by : (order : Ordering) → type_member_cmp one other ≡ order → is_lt (type_member_cmp other one) ≡ true
    by Less e = absurd (true≢false (sym (ap is_lt e) ∙ later))
    by Equal e = absurd (apart (type_member_cmp-IsAntisymmetric one other e))
    by Greater e = ap is_lt (type_member_cmp-IsTotalOrder.antisymm other one ∙ ap ordering_reverse e)

module _ (schema : Schema) (heap : Heap) (pointers : (address : ℕ) → KeepsPointers schema heap address) (items : (address : ℕ) → KeepsItems heap address)
    (links : (address : ℕ) → KeepsLinks schema heap address) where
  -- what is joined at one side is joined at the other
  turned : (side : TypeMember) (def : MemberDef) (inverse : Inverse) → slice_get (members_of schema side.ty.0) side.member.0 ≡ Some def → def.inverse ≡ Some inverse → link_target def.kind ≡ Some inverse.ty
      → (x y : Name) → Joins schema heap side x y → Joins schema heap (member_of_inverse inverse) y x
  turned side def inverse defined sided leads x y j =
      let defs : j.def ≡ def = same_Some _ _ (sym j.has.defined ∙ ap (λ code. slice_get (members_of schema code) side.member.0) j.ty ∙ defined) in
      let back = links j.address side.member.0 j.tag j.def j.slot inverse j.pointer j.has (ap (λ (d : MemberDef). d.inverse) defs ∙ sided) j.leads in
      let code = leads_to_row schema heap pointers items j.address side.member.0 j.tag j.def j.slot j.has j.pointer j.leads in
      record {
        address = j.pointer;
        tag = back.tag;
        def = back.def;
        slot = back.slot;
        has = back.has;
        ty = same_Some _ _ (sym (code_of heap j.pointer _ back.has.object.there) ∙ code) ∙ ap (λ (d : MemberDef). item_type d.kind) defs ∙ target_type def.kind inverse.ty leads;
        from = same_Some _ _ (sym (ap (option_map name_in) (tag_of_cell heap j.pointer _ back.has.object.there)) ∙ j.to);
        pointer = j.address;
        leads = back.leads;
        to = ap (option_map name_in) (tag_of_cell heap j.address _ j.has.object.there) ∙ ap Some j.from;
      }

  module _ (lawful : IsLawful schema) (pairs : sets.FinSet pair_cmp) (shown : ShowsPairs schema heap pairs) (side : TypeMember) (def : MemberDef)
      (defined : slice_get (members_of schema side.ty.0) side.member.0 ≡ Some def) (linked : link_target def.kind ≢ None) (x y : Name) where
    abbrev own_pair : Pair
    own_pair = record { link = side; first = x; second = y }

    at_first : IsLink schema side → (Joins schema heap side x y → sets.contains pairs own_pair ≡ true) × (sets.contains pairs own_pair ≡ true → Joins schema heap side x y)
    at_first link = (λ j. (shown own_pair).1 (record { link = link; joins = j }), λ e. ((shown own_pair).0 e).joins)

    by_inverse : (inverse : Option Inverse) → def.inverse ≡ inverse → (Joins schema heap side x y → sets.contains pairs (pair_from side inverse x y) ≡ true) × (sets.contains pairs (pair_from side inverse x y) ≡ true → Joins schema heap side x y)
    by_inverse None e = at_first (record { def = def; defined = defined; sided = linked; first = ap (comes_first side) e })
    by_inverse (Some inverse) e = elim (cases_Bool (comes_first side (Some inverse))) [
      | inl first ↦
          subst (λ (p : Pair). (Joins schema heap side x y → sets.contains pairs p ≡ true) × (sets.contains pairs p ≡ true → Joins schema heap side x y))
          (sym (ap (λ b. cond b own_pair turned_pair) first))
          (at_first (record { def = def; defined = defined; sided = linked; first = ap (comes_first side) e ∙ first }))
      | inr second ↦
          subst (λ (p : Pair). (Joins schema heap side x y → sets.contains pairs p ≡ true) × (sets.contains pairs p ≡ true → Joins schema heap side x y))
          (sym (ap (λ b. cond b own_pair turned_pair) second)) (
            λ j. (shown turned_pair).1 (record { link = other_link second; joins = turned side def inverse defined e two.leads x y j }),
            λ c. turned (member_of_inverse inverse) two.named.other (inverse_of side.ty side.member) two.named.there two.named.back two.named.target y x ((shown turned_pair).0 c).joins,
          )
    ]
      where
        turned_pair : Pair
        turned_pair = record { link = member_of_inverse inverse; first = y; second = x }

        two : IsTwoSided schema side.ty side.member def.kind inverse
        two = two_sided schema lawful side.ty side.member def inverse defined e

        apart : side ≢ member_of_inverse inverse
        apart same = two.apart (λ i. record { ty = (sym same i).ty; member = (sym same i).member })

        other_link : comes_first side (Some inverse) ≡ false → IsLink schema (member_of_inverse inverse)
        other_link later = record {
          def = two.named.other;
          defined = two.named.there;
          sided = λ none. none-some side.ty (sym none ∙ two.named.target);
          first = ap (comes_first (member_of_inverse inverse)) two.named.back ∙ other_first side (member_of_inverse inverse) later apart;
        }

pub link_sides_law : LawOfSides
link_sides_law schema pages graph at def x y holds links defined linked =
    let cells = holds.cells_kept in
    let both = by_inverse schema (heap_of schema pages) cells.pointers cells.items links holds.pages_kept.spelled.lawful graph.pairs holds.stands.pairs at def defined linked x y def.inverse refl in
    let inverse : inverse_at schema at ≡ def.inverse = ap (option_and_then (λ (d : MemberDef). d.inverse)) defined in
    let paired = subst (λ (i : Option Inverse). (Joins schema (heap_of schema pages) at x y → sets.contains graph.pairs (pair_from at i x y) ≡ true) × (sets.contains graph.pairs (pair_from at i x y) ≡ true → Joins schema (heap_of schema pages) at x y)) (sym inverse) both in
    let shown = side_contains schema graph at x y in
    (λ j. shown.1 (paired.0 j), λ e. paired.1 (shown.0 e))
