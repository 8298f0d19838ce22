-- The pairs of links that pages hold: of which types they are, and that a reference has one partner at most.
use Rattle.std.proofs.Common.{◌≡◌, ◌≢◌, ℕ, true, false, List, refl, sym, ap, subst, ◌∙◌, true≢false, Option, Some, None}
use Rattle.std.specs.Prelude.{is_some}
use Rattle.std.specs.List.{slice_get}
use Rattle.std.specs.Option.{option_map, option_map_or, option_and_then}
use Rattle.std.proofs.lemmas.Option.{same_Some, none-some}
use Rattle.ostore_base.specs.declared.page.PageImage.{PageImage}
use Rattle.ostore_page_tags.specs.Rules.{is_type_code}
use Rattle.ostore_schema_layout.specs.declared.schema.Schema.{Schema}
use Rattle.ostore_schema_layout.specs.declared.schema.MemberDef.{MemberDef}
use Rattle.ostore_schema_layout.specs.declared.schema.MemberKind.{MemberKind}
use Rattle.ostore_schema_layout.specs.declared.schema.MemberKind.TheVariants as kinds
use Rattle.ostore_schema_layout.specs.declared.schema.Inverse.{Inverse}
use Rattle.ostore_schema_layout.specs.Lawful.{link_target}
use Rattle.ostore_schema_layout.specs.Numbers.{members_of}
use Rattle.ostore_graph_model.specs.declared.values.Name.{Name}
use Rattle.ostore_graph_model.specs.Sets as sets
use Rattle.ostore_graph_model.specs.Orders.{TypeMember, Pair}
use Rattle.ostore_graph_model.specs.Kinds.{is_scalar, is_ref, target_of}
use Rattle.ostore_graph_model.specs.Graph.{Graph}
use Rattle.ostore_graph_model.specs.GraphRules.{IsNameOf, IsPairOf}
use Rattle.ostore_graph_model.specs.Links.{def_of, is_two_sided, pair_at}
use Rattle.ostore_graph_model.specs.LiveGraphs.{IsLive, HasOnePartner}
use Rattle.ostore_graph_model.specs.Chains.{item_type, LeadsTo}
use Rattle.ostore_graph_model.specs.FixedPages.{serial_of}
use Rattle.ostore_graph_model.specs.Heap.{Heap, code_at, name_at, name_in, HasMember}
use Rattle.ostore_graph_model.specs.Records.{Slot, slot_of, heap_of}
use Rattle.ostore_graph_model.specs.StandsFor.{Joins}
use Rattle.ostore_graph_model.specs.Valid.{HasGoodLinks}
use Rattle.ostore_graph_model.specs.LawsOfMeaning.{HoldGraph}
use Rattle.ostore_graph_model.proofs.GraphLaws.{member_same}
use Rattle.ostore_graph_model.proofs.ItemLaws.{leads_to_row}
use Rattle.ostore_graph_model.proofs.ObjectLaws.{names_own, named_object, tag_of_cell}
use Rattle.ostore_graph_model.proofs.PartnerLaws.{side_contains}
use Rattle.ostore_graph_model.proofs.SideLaws.{link_sides_law}
use Rattle.ostore_graph_model.proofs.Meant.Rows.{row_named, pointer_named, object_lives, target_typed}
use Rattle.ostore_graph_model.proofs.Meant.Values.{stands_in}
use Rattle.ostore_graph_model.proofs.Meant.Collections.{member_kind}

-- a side of a link is no int and no text
pub side_leads : (kind : MemberKind) → link_target kind ≢ None → is_scalar kind ≡ false
side_leads kinds.Int some = absurd (some refl)
side_leads (kinds.Text max) some = absurd (some refl)
side_leads (kinds.Ref target) some = refl
side_leads (kinds.Set target) some = refl
side_leads (kinds.List target) some = refl
side_leads (kinds.DictInt target) some = refl
side_leads (kinds.DictText target) some = refl

-- a reference is a side of a link
ref_links : (kind : MemberKind) → is_ref kind ≡ true → link_target kind ≢ None
ref_links kinds.Int e = absurd cc
ref_links (kinds.Text max) e = absurd cc
ref_links (kinds.Ref target) e = λ none. none-some target (sym none)
ref_links (kinds.Set target) e = absurd cc
ref_links (kinds.List target) e = absurd cc
ref_links (kinds.DictInt target) e = absurd cc
ref_links (kinds.DictText target) e = absurd cc

-- and holds a pointer
refers : (kind : MemberKind) → is_ref kind ≡ true → (bytes : List ℕ) (at : ℕ) (slot : Slot) → slot_of bytes at kind ≡ slot → (pointer : ℕ) × (slot ≡ Slot.Refers pointer)
refers kinds.Int e bytes at slot is = absurd cc
refers (kinds.Text max) e bytes at slot is = absurd cc
refers (kinds.Ref target) e bytes at slot is = (_, sym is)
refers (kinds.Set target) e bytes at slot is = absurd cc
refers (kinds.List target) e bytes at slot is = absurd cc
refers (kinds.DictInt target) e bytes at slot is = absurd cc
refers (kinds.DictText target) e bytes at slot is = absurd cc

held_pointer : (heap : Heap) (segment : ℕ) (kind : MemberKind) (slot : Slot) (held pointer : ℕ) → slot ≡ Slot.Refers held → LeadsTo heap segment kind slot pointer → held ≡ pointer
held_pointer heap segment kind slot held pointer e leads = (subst (λ s. LeadsTo heap segment kind s pointer) e leads).0

module _ (schema : Schema) (pages : List PageImage) (graph : Graph) (holds : HoldGraph schema pages graph) where
  -- ---- of which types pairs are

  pub pair_is : (pair : Pair) → sets.contains graph.pairs pair ≡ true → IsPairOf schema graph pair
  pair_is pair there =
      let h = (holds.stands.pairs pair).0 there in
      let j = h.joins in
      let def : j.def ≡ h.link.def = same_Some _ _ (sym j.has.defined ∙ ap (λ code. slice_get (members_of schema code) pair.link.member.0) j.ty ∙ h.link.defined) in
      let row = leads_to_row schema (heap_of schema pages) holds.cells_kept.pointers holds.cells_kept.items j.address pair.link.member.0 j.tag j.def j.slot j.has j.pointer j.leads in
      let code : code_at (heap_of schema pages) j.pointer ≡ Some (item_type h.link.def.kind) = row ∙ ap (λ (d : MemberDef). Some (item_type d.kind)) def in
      let kind = member_kind schema pages graph holds j.address pair.link.member.0 j.tag j.def j.slot j.has in
      let leads : is_scalar j.def.kind ≡ false = side_leads j.def.kind (λ none. h.link.sided (ap (λ (d : MemberDef). link_target d.kind) (sym def) ∙ none)) in
      let typed : is_type_code (item_type h.link.def.kind) ≡ true = ap (λ (d : MemberDef). is_type_code (item_type d.kind)) (sym def) ∙ target_typed schema holds.pages_kept.spelled.lawful j.def.kind kind leads in
      record {
        link = h.link;
        first = subst (IsNameOf graph pair.link.ty) j.from (row_named schema pages graph holds pair.link.ty j.address _ j.has.object.there j.has.object.typed j.ty);
        second = pointer_named schema pages graph holds (target_of h.link.def.kind) j.pointer pair.second typed code j.to;
      }

  -- ---- which objects of pairs are live

  pub first_lives : (pair : Pair) → sets.contains graph.pairs pair ≡ true → IsLive graph pair.first
  first_lives pair there =
      let j = ((holds.stands.pairs pair).0 there).joins in
      object_lives schema pages graph holds j.address j.tag j.has.slots pair.first j.has.object j.from

  module _ (links : HasGoodLinks schema pages) where
    pub second_lives : (pair : Pair) → sets.contains graph.pairs pair ≡ true → is_two_sided schema pair.link ≡ true → IsLive graph pair.second
    second_lives pair there two = by j.def.inverse refl
      where
        j : Joins schema (heap_of schema pages) pair.link pair.first pair.second
        j = ((holds.stands.pairs pair).0 there).joins

        defined : def_of schema pair.link ≡ Some j.def
        defined = ap (λ code. slice_get (members_of schema code) pair.link.member.0) (sym j.ty) ∙ j.has.defined

        by : (found : Option Inverse) → j.def.inverse ≡ found → IsLive graph pair.second
        by None e = absurd (true≢false (sym two ∙ ap (λ (d : Option MemberDef). is_some (option_and_then (λ (m : MemberDef). m.inverse) d)) defined ∙ ap is_some e))
        by (Some inverse) e =
            let back = links j.address pair.link.member.0 j.tag j.def j.slot inverse j.pointer j.has e j.leads in
            let name = same_Some _ _ (sym (ap (option_map name_in) (tag_of_cell (heap_of schema pages) j.pointer _ back.has.object.there)) ∙ j.to) in
            object_lives schema pages graph holds j.pointer back.tag back.has.slots pair.second back.has.object name

    -- ---- a reference has one partner

    module _ (member : TypeMember) (def : MemberDef) (defined : def_of schema member ≡ Some def) (ref : is_ref def.kind ≡ true) where
      one_joined : (x y z : Name) → Joins schema (heap_of schema pages) member x y → Joins schema (heap_of schema pages) member x z → y ≡ z
      one_joined x y z j k =
          let own = names_own (heap_of schema pages) (serial_of pages) holds.cells_kept.serials in
          let at = named_object (heap_of schema pages) j.address k.address j.tag k.tag j.has.slots k.has.slots own j.has.object k.has.object (k.from ∙ sym j.from) in
          let here = subst (λ a. HasMember schema (heap_of schema pages) a member.member.0 k.tag k.def k.slot) at k.has in
          let same = member_same schema (heap_of schema pages) j.address member.member.0 j.tag k.tag j.def k.def j.slot k.slot j.has here in
          let is : j.def ≡ def = same_Some _ _ (sym j.has.defined ∙ ap (λ code. slice_get (members_of schema code) member.member.0) j.ty ∙ defined) in
          let stands = stands_in schema pages graph holds j.address member.member.0 j.tag j.def j.slot j.has in
          let held = refers j.def.kind (ap (λ (d : MemberDef). is_ref d.kind) is ∙ ref) stands.cell.bytes stands.at j.slot stands.is in
          let one = held_pointer (heap_of schema pages) j.tag.segment j.def.kind j.slot held.0 j.pointer held.1 j.leads in
          let other = held_pointer (heap_of schema pages) k.tag.segment k.def.kind k.slot held.0 k.pointer (sym same.2 ∙ held.1) k.leads in
          same_Some y z (sym j.to ∙ ap (name_at (heap_of schema pages)) (sym one ∙ other) ∙ k.to)

      joined_at : (x y : Name) → sets.contains graph.pairs (pair_at schema member x y) ≡ true → Joins schema (heap_of schema pages) member x y
      joined_at x y there = (link_sides_law schema pages graph member def x y holds links defined (ref_links def.kind ref)).1 ((side_contains schema graph member x y).1 there)

    pub one_partner : HasOnePartner schema graph
    one_partner member x y z ref one two = by (def_of schema member) refl
      where
        by : (found : Option MemberDef) → def_of schema member ≡ found → y ≡ z
        by None e = absurd (true≢false (sym ref ∙ ap (λ (d : Option MemberDef). option_map_or (λ (m : MemberDef). is_ref m.kind) d false) e))
        by (Some def) e =
            let is = sym (ap (λ (d : Option MemberDef). option_map_or (λ (m : MemberDef). is_ref m.kind) d false) e) ∙ ref in
            one_joined member def e is x y z (joined_at member def e is x y one) (joined_at member def e is x z two)
