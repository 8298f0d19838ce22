-- What the pairs come to at a member without inverse.
use Rattle.std.proofs.Common.{◌≡◌, ◌&&◌, ◌||◌, not, Bool, true, false, cond, refl, sym, ap, ap₂, ◌∙◌, Option, Some, None}
use Rattle.std.specs.Option.{option_map, option_and_then, option_map_or}
use Rattle.std.specs.Ordering.{eq_by_cmp}
use Rattle.std.proofs.lemmas.Option.{same_Some, none-some}
use Rattle.ostore_schema_layout.specs.declared.schema.Schema.{Schema}
use Rattle.ostore_schema_layout.specs.declared.schema.MemberDef.{MemberDef}
use Rattle.ostore_schema_layout.specs.declared.schema.Inverse.{Inverse}
use Rattle.ostore_graph_model.specs.declared.values.Name.{Name}
use Rattle.ostore_graph_model.specs.Sets as sets
use Rattle.ostore_graph_model.proofs.SetFacts as set_facts
use Rattle.ostore_graph_model.specs.Orders.{TypeMember, Pair, pair_cmp, name_cmp, type_member_cmp}
use Rattle.ostore_graph_model.specs.Kinds.{is_ref}
use Rattle.ostore_graph_model.specs.Links.{def_of, inverse_at, is_ref_member, member_of_inverse, comes_first, pair_from, pair_at, joined, parted}
use Rattle.ostore_graph_model.specs.Deeds.{LiveMember, member_at_type}
use Rattle.ostore_graph_model.proofs.OrderLaws.{pair_cmp-IsTotalOrder, pair_cmp-IsAntisymmetric}

-- a live member, by its parts
pub live_parts : (schema : Schema) (x : Name) (t : TypeMember) (at : LiveMember) → member_at_type schema x t ≡ Some at → (d : MemberDef) × (def_of schema t ≡ Some d) × (record { owner = x; at = t; def = d } ≡ at)
live_parts schema x t at e = found (def_of schema t) refl
  where
    found : (held : Option MemberDef) → def_of schema t ≡ held → (d : MemberDef) × (def_of schema t ≡ Some d) × (record { owner = x; at = t; def = d } ≡ at)
    found None f = absurd (none-some at (sym (ap (option_map (λ (d : MemberDef). record { owner = x; at = t; def = d })) f) ∙ e))
    found (Some d) f = (d, f, same_Some _ at (sym (ap (option_map (λ (d : MemberDef). record { owner = x; at = t; def = d })) f) ∙ e))

-- the pair joins x at a member without inverse
abbrev pub is_from : TypeMember → Name → Pair → Bool
is_from at x pair = eq_by_cmp type_member_cmp pair.link at && eq_by_cmp name_cmp pair.first x

-- x is joined there with nobody
abbrev pub parted_from : sets.FinSet pair_cmp → TypeMember → Name → sets.FinSet pair_cmp
parted_from pairs at x = sets.retain pairs (λ pair. not (is_from at x pair))

-- with y alone
abbrev pub joined_alone : sets.FinSet pair_cmp → TypeMember → Name → Name → sets.FinSet pair_cmp
joined_alone pairs at x y = sets.insert (parted_from pairs at x) (record { link = at; first = x; second = y })

or_false : (b : Bool) → (b || false) ≡ b
or_false true = refl
or_false false = refl

module _ (schema : Schema) (at : TypeMember) (x y : Name) (pairs : sets.FinSet pair_cmp) where
  -- the pairs that go, by what the schema says of the member
  abbrev near : Option Inverse → Name → Pair → Bool
  near inverse z pair = eq_by_cmp type_member_cmp pair.link (pair_from at inverse z z).link && eq_by_cmp name_cmp (cond (comes_first at inverse) pair.first pair.second) z

  abbrev far : Option Inverse → Name → Pair → Bool
  far inverse z pair = eq_by_cmp type_member_cmp pair.link (pair_from at inverse z z).link && eq_by_cmp name_cmp (cond (comes_first at inverse) pair.second pair.first) z

  abbrev goes : Bool → Option Inverse → Pair → Bool
  goes ref inverse pair = (ref && near inverse x pair) || (option_map_or (is_ref_member schema) (option_map member_of_inverse inverse) false && far inverse y pair)

  abbrev made : Bool → Option Inverse → sets.FinSet pair_cmp
  made ref inverse = sets.insert (sets.retain pairs (λ pair. not (goes ref inverse pair))) (pair_from at inverse x y)

  abbrev left : Option Inverse → sets.FinSet pair_cmp
  left inverse = sets.retain pairs (λ pair. not (near inverse x pair))

  module _ (def : MemberDef) (defined : def_of schema at ≡ Some def) (alone : def.inverse ≡ None) where
    no_inverse : inverse_at schema at ≡ None
    no_inverse = ap (option_and_then (λ (d : MemberDef). d.inverse)) defined ∙ alone

    ref_is : (b : Bool) → is_ref def.kind ≡ b → is_ref_member schema at ≡ b
    ref_is b e = ap (λ (d : Option MemberDef). option_map_or (λ (m : MemberDef). is_ref m.kind) d false) defined ∙ e

    pub own_pair : pair_at schema at x y ≡ record { link = at; first = x; second = y }
    own_pair = ap (λ (i : Option Inverse). pair_from at i x y) no_inverse

    pub parted_alone : parted schema at x pairs ≡ parted_from pairs at x
    parted_alone = ap left no_inverse

    pub joined_by_reference : is_ref def.kind ≡ true → joined schema at x y pairs ≡ joined_alone pairs at x y
    joined_by_reference ref =
        ap₂ made (ref_is true ref) no_inverse
        ∙ (λ i. sets.insert (sets.retain pairs (λ pair. not (or_false (is_from at x pair) i))) (record { link = at; first = x; second = y }))

    pub joined_by_set : is_ref def.kind ≡ false → joined schema at x y pairs ≡ sets.insert pairs (record { link = at; first = x; second = y })
    joined_by_set set =
        ap₂ made (ref_is false set) no_inverse
        ∙ ap (λ (s : sets.FinSet pair_cmp). sets.insert s (record { link = at; first = x; second = y })) all_stay
      where
        and_true : (b : Bool) → (b && true) ≡ b
        and_true true = refl
        and_true false = refl

        all_stay : sets.retain pairs (λ pair. true) ≡ pairs
        all_stay = set_facts.same_set pair_cmp-IsTotalOrder pair_cmp-IsAntisymmetric (sets.retain pairs (λ pair. true)) pairs
            (λ q. set_facts.contains-retain pairs (λ pair. true) q (λ z e. refl) ∙ and_true (sets.contains pairs q))
