-- References and roots: `set` to an object or to null, `setroot`. What joins two objects serves `insert` too.
use Rattle.std.proofs.Common.{◌≡◌, ◌≢◌, ℕ, ◌+◌, ◌≤◌, Bool, true, false, cond, List, [], Option, Some, None, refl, sym, ap, subst, ◌∙◌, arith}
use Rattle.std.specs.Prelude.{◌-◌, not, ◌&&◌, ◌==◌, is_none, is_some, nat_le, if◌then◌else◌, IsTrue}
use Rattle.std.specs.Option.{option_and_then}
use Rattle.std.specs.FinMap as maps
use Rattle.std.proofs.lemmas.Bool.{leb-false, eqb-true}
use Rattle.std.proofs.lemmas.Cmp.{nat_list_cmp_total}
use Rattle.std.proofs.lemmas.Option.{same_Some, none-some}
use Rattle.ostore_base.specs.Limits.{most_roots}
use Rattle.ostore_text_words.specs.Words.{is_identifier}
use Rattle.ostore_schema_layout.specs.declared.schema.Schema.{Schema}
use Rattle.ostore_schema_layout.specs.declared.schema.TypeNo.{TypeNo}
use Rattle.ostore_schema_layout.specs.declared.schema.MemberDef.{MemberDef}
use Rattle.ostore_schema_layout.specs.declared.schema.MemberKind.{MemberKind}
use Rattle.ostore_schema_layout.specs.declared.schema.MemberKind.TheVariants as kinds
use Rattle.ostore_schema_layout.specs.declared.schema.Inverse.{Inverse}
use Rattle.ostore_schema_layout.specs.Lawful.{link_target, inverse_of, IsLawful}
use Rattle.ostore_graph_model.specs.declared.values.Name.{Name}
use Rattle.ostore_graph_model.specs.declared.refusal.Refusal.TheVariants.{WrongType, RootsFull}
use Rattle.ostore_graph_model.specs.Sets as sets
use Rattle.ostore_graph_model.specs.Orders.{TypeMember, Pair}
use Rattle.ostore_graph_model.specs.Kinds.{is_ref, is_set, target_of}
use Rattle.ostore_graph_model.specs.Graph.{Graph}
use Rattle.ostore_graph_model.specs.Links.{def_of, member_of_inverse, comes_first, pair_from, pair_at, is_displaced, joined, joins_from, parted}
use Rattle.ostore_graph_model.specs.Deeds.{Vars, LiveMember, object_of, refused_where, first_refusal, of_other_type}
use Rattle.ostore_graph_model.specs.Deeds.References.{bind_root_deed}
use Rattle.ostore_graph_model.specs.LiveGraphs.{IsLive}
use Rattle.ostore_graph_model.specs.GraphRules.{IsNameOf, IsPairOf, IsRootOf, IsGraph}
use Rattle.ostore_graph_model.proofs.OrderLaws.{pair_cmp-IsTotalOrder, pair_cmp-IsAntisymmetric}
use Rattle.ostore_graph_model.proofs.SideLaws.{two_sided, other_first}
use Rattle.ostore_graph_model.proofs.PassedLaws.{split, passes, not_false, Finds}
use Rattle.ostore_graph_model.proofs.LiveLaws.{in_retained, value_removed, new_or_old, new_or_old_value}
use Rattle.ostore_graph_model.proofs.Kept.Parts.{own_name, KeepsTypes, with_pairs, with_roots}

-- ---- where a link leads

pub ref_leads : (kind : MemberKind) → is_ref kind ≡ true → link_target kind ≡ Some (target_of kind)
ref_leads kinds.Int is = absurd cc
ref_leads (kinds.Text max) is = absurd cc
ref_leads (kinds.Ref target) is = refl
ref_leads (kinds.Set target) is = absurd cc
ref_leads (kinds.List target) is = absurd cc
ref_leads (kinds.DictInt target) is = absurd cc
ref_leads (kinds.DictText target) is = absurd cc

pub set_leads : (kind : MemberKind) → is_set kind ≡ true → link_target kind ≡ Some (target_of kind)
set_leads kinds.Int is = absurd cc
set_leads (kinds.Text max) is = absurd cc
set_leads (kinds.Ref target) is = absurd cc
set_leads (kinds.Set target) is = refl
set_leads (kinds.List target) is = absurd cc
set_leads (kinds.DictInt target) is = absurd cc
set_leads (kinds.DictText target) is = absurd cc

target_is : (kind : MemberKind) (ty : TypeNo) → link_target kind ≡ Some ty → target_of kind ≡ ty
target_is kinds.Int ty e = absurd (none-some ty e)
target_is (kinds.Text max) ty e = absurd (none-some ty e)
target_is (kinds.Ref target) ty e = same_Some target ty e
target_is (kinds.Set target) ty e = same_Some target ty e
target_is (kinds.List target) ty e = absurd (none-some ty e)
target_is (kinds.DictInt target) ty e = absurd (none-some ty e)
target_is (kinds.DictText target) ty e = absurd (none-some ty e)

-- ---- a new pair

module _ (schema : Schema) (lawful : IsLawful schema) (graph : Graph) (member : TypeMember) (def : MemberDef) (defined : def_of schema member ≡ Some def)
    (leads : link_target def.kind ≡ Some (target_of def.kind)) (x y : Name) (from : IsNameOf graph member.ty x) (to : IsNameOf graph (target_of def.kind) y) where
  -- the pair goes by the member itself
  by_itself : (inverse : Option Inverse) → def.inverse ≡ inverse → comes_first member inverse ≡ true → IsPairOf schema graph (record { link = member; first = x; second = y })
  by_itself inverse sided first = record {
    link = record { def = def; defined = defined; sided = λ none. none-some (target_of def.kind) (sym none ∙ leads); first = ap (comes_first member) sided ∙ first };
    first = from;
    second = to;
  }

  -- the pair goes by the other member
  by_other : (inverse : Inverse) → def.inverse ≡ Some inverse → comes_first member (Some inverse) ≡ false → IsPairOf schema graph (record { link = member_of_inverse inverse; first = y; second = x })
  by_other inverse sided later =
      let two = two_sided schema lawful member.ty member.member def inverse defined sided in
      let apart : member ≢ member_of_inverse inverse = λ same. two.apart (ap (λ (m : TypeMember). inverse_of m.ty m.member) (sym same)) in
      record {
        link = record {
          def = two.named.other;
          defined = two.named.there;
          sided = λ none. none-some member.ty (sym none ∙ two.named.target);
          first = ap (comes_first (member_of_inverse inverse)) two.named.back ∙ other_first member (member_of_inverse inverse) later apart;
        };
        first = subst (λ ty. IsNameOf graph ty y) (same_Some (target_of def.kind) inverse.ty (sym leads ∙ two.leads)) to;
        second = subst (λ ty. IsNameOf graph ty x) (sym (target_is two.named.other.kind member.ty two.named.target)) from;
      }

  by_inverse : (inverse : Option Inverse) → def.inverse ≡ inverse → IsPairOf schema graph (pair_from member inverse x y)
  by_inverse None sided = by_itself None sided refl
  by_inverse (Some inverse) sided = by_order (comes_first member (Some inverse)) refl
    where
      by_order : (b : Bool) → comes_first member (Some inverse) ≡ b
          → IsPairOf schema graph (if b then record { link = member; first = x; second = y } else record { link = member_of_inverse inverse; first = y; second = x })
      by_order true first = by_itself (Some inverse) sided first
      by_order false later = by_other inverse sided later

  pair_right : IsPairOf schema graph (pair_at schema member x y)
  pair_right =
      subst (λ i. IsPairOf schema graph (pair_from member i x y)) (sym (ap (λ (o : Option MemberDef). option_and_then (λ d. d.inverse) o) defined))
      (by_inverse def.inverse refl)

-- ---- objects that commands name

module _ (schema : Schema) (graph : Graph) (was : IsGraph schema graph) where
  -- a live item that isn't of another type is of the type to which the member leads
  pub item_right : (at : LiveMember) (y : Name) → IsLive graph y → of_other_type graph at y ≡ None → IsNameOf graph (target_of at.def.kind) y
  item_right at y live passed =
      let same = not_false _ (passes (not ((object_of graph y).ty.0 == (target_of at.def.kind).0)) WrongType passed) in
      own_name schema graph was.live (target_of at.def.kind) y live (ap (λ (n : ℕ). record { 0 = n }) (sym (eqb-true (object_of graph y).ty.0 (target_of at.def.kind).0 same)))

  pub owner_right : (kind : MemberKind → Bool) (x : Name) (at : LiveMember) → Finds schema graph x kind at → IsLive graph at.owner → IsNameOf graph at.at.ty at.owner
  owner_right kind x at finds live = own_name schema graph was.live at.at.ty at.owner live finds.ty

  pub joined_right : IsLawful schema → (kind : MemberKind → Bool) (x y : Name) (at : LiveMember) → Finds schema graph x kind at → link_target at.def.kind ≡ Some (target_of at.def.kind)
      → IsLive graph at.owner → IsLive graph y → of_other_type graph at y ≡ None
      → KeepsTypes schema (record graph { pairs = joined schema at.at at.owner y graph.pairs })
  joined_right lawful kind x y at finds leads owner item passed =
      let test : Pair → Bool = λ pair. not (is_displaced schema at.at at.owner y pair) in
      with_pairs schema graph was (joined schema at.at at.owner y graph.pairs) (λ pair there.
      new_or_old pair_cmp-IsTotalOrder pair_cmp-IsAntisymmetric (λ p. IsPairOf schema graph p) (sets.retain graph.pairs test) (pair_at schema at.at at.owner y) tt pair
      (pair_right schema lawful graph at.at at.def finds.defined leads at.owner y (owner_right kind x at finds owner) (item_right at y item passed))
      (λ old. was.pairs pair (in_retained pair_cmp-IsTotalOrder pair_cmp-IsAntisymmetric graph.pairs test pair old).1) there)

  pub parted_right : (member : TypeMember) (x : Name) → KeepsTypes schema (record graph { pairs = parted schema member x graph.pairs })
  parted_right member x =
      with_pairs schema graph was (parted schema member x graph.pairs) (λ pair there.
      was.pairs pair (in_retained pair_cmp-IsTotalOrder pair_cmp-IsAntisymmetric graph.pairs (λ p. not (joins_from schema member x p)) pair there).1)

  -- ---- roots

  room_for : (o : Option Name) (n : ℕ) → n ≤ most_roots → (is_none o && nat_le most_roots n) ≡ false → cond (is_some o) n (n + 1) ≤ most_roots
  room_for None n few passed = let low = leb-false most_roots n passed in omega (arith, low)
  room_for (Some x) n few passed = few

  pub root_bound : (vars : Vars) (root : List ℕ) (x : Name) → IsTrue (is_identifier root) → IsLive graph x → first_refusal (bind_root_deed vars graph root x).tests ≡ None
      → KeepsTypes schema (record graph { roots = maps.insert graph.roots root x })
  root_bound vars root x named live passed =
      let full = is_none (maps.get graph.roots root) && nat_le most_roots (maps.len graph.roots) in
      let room = passes full RootsFull (split (refused_where full RootsFull) [] passed).0 in
      with_roots schema graph was (maps.insert graph.roots root x)
      (λ r y e. new_or_old_value nat_list_cmp_total (maps.slice_cmp-IsAntisymmetric maps.nat_cmp-IsAntisymmetric) (λ k z. IsRootOf graph k z) graph.roots root x r y
      (record { named = named; drawn = was.live.drawn x live }) (was.roots r y) e)
      (subst (λ n. n ≤ most_roots) (sym (maps.len-insert nat_list_cmp_total graph.roots root x)) (room_for (maps.get graph.roots root) (maps.len graph.roots) was.few_roots room))

  fewer : (b : Bool) (n : ℕ) → n ≤ most_roots → cond b (n - 1) n ≤ most_roots
  fewer true n few = omega (arith, few)
  fewer false n few = few

  pub root_unbound : (root : List ℕ) → KeepsTypes schema (record graph { roots = maps.remove graph.roots root })
  root_unbound root =
      with_roots schema graph was (maps.remove graph.roots root)
      (λ r y e. was.roots r y (value_removed nat_list_cmp_total (maps.slice_cmp-IsAntisymmetric maps.nat_cmp-IsAntisymmetric) graph.roots root r y e))
      (subst (λ n. n ≤ most_roots) (sym (maps.len-remove nat_list_cmp_total graph.roots root)) (fewer (maps.contains_key graph.roots root) (maps.len graph.roots) was.few_roots))
