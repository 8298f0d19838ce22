-- The graph of good pages: each of its parts is finite.
use Rattle.std.proofs.Common.{◌≡◌, ◌≢◌, ◌↔◌, ◌⊎◌, ℕ, ◌*◌, ◌<◌, Bool, true, false, cond, leb, List, length, map, refl, sym, ap, ap₂, subst, ◌∙◌, arith, Option, Some, None, inl, inr, true≢false}
use Rattle.std.specs.Prelude.{◌/◌, ◌%◌}
use Rattle.std.specs.List.{slice_get, Contains}
use Rattle.std.specs.Option.{option_map, option_and_then}
use Rattle.std.specs.FinMap as maps
use Rattle.ostore_graph_model.specs.Sets as sets
use Rattle.std.proofs.lemmas.Bool.{cases_Bool, cases_lt, cases_eq}
use Rattle.std.proofs.lemmas.Option.{same_Some, none-some, slice_get_within, slice_get_past}
use Rattle.ostore_base.specs.declared.page.PageImage.{PageImage}
use Rattle.ostore_page_tags.specs.Rules.{is_type_code}
use Rattle.ostore_schema_layout.specs.declared.schema.Schema.{Schema}
use Rattle.ostore_schema_layout.specs.declared.schema.MemberDef.{MemberDef}
use Rattle.ostore_schema_layout.specs.declared.schema.TypeNo.{TypeNo}
use Rattle.ostore_schema_layout.specs.Numbers.{members_of}
use Rattle.ostore_schema_layout.specs.Lawful.{link_target}
use Rattle.ostore_graph_model.specs.declared.values.Name.{Name}
use Rattle.ostore_graph_model.specs.declared.values.Scalar.{Scalar}
use Rattle.ostore_graph_model.specs.Orders.{TypeMember, Pair, name_cmp, pair_cmp}
use Rattle.ostore_graph_model.specs.Graph.{Object}
use Rattle.ostore_graph_model.specs.Addresses.{cell_at, cell_in}
use Rattle.ostore_graph_model.specs.Chains.{chunk_code, entries_of, LeadsTo}
use Rattle.ostore_graph_model.specs.Heap.{Heap, name_at, name_in, IsObject, HasMember}
use Rattle.ostore_graph_model.specs.HeapRules.{KeepsChains}
use Rattle.ostore_graph_model.specs.Chunks.{ChunkEntry}
use Rattle.ostore_graph_model.specs.Records.{Slot, Links, RowTag, HeapCell, heap_cell, heap_of}
use Rattle.ostore_graph_model.specs.Links.{comes_first, IsLink}
use Rattle.ostore_graph_model.specs.StandsFor.{HasPair, HasObject, ShowsObjects, ShowsPairs}
use Rattle.ostore_graph_model.proofs.OrderLaws.{name_cmp-IsTotalOrder, name_cmp-IsAntisymmetric, pair_cmp-IsTotalOrder, pair_cmp-IsAntisymmetric}
use Rattle.ostore_graph_model.proofs.ObjectLaws.{Values, AreNamesOwn, named_object, same_object}
use Rattle.ostore_graph_model.proofs.ReferenceLaws.{same_tags, same_slots}
use Rattle.ostore_graph_model.proofs.ChainLaws.{chain_unique}
use Rattle.ostore_graph_model.proofs.ExistsLaws.{IsEntry, map_of_entries, set_of_entries}
use Rattle.ostore_graph_model.proofs.FiniteLaws.{IsFinite, finite_none, finite_one, finite_iff, finite_below, finite_image, finite_list}

-- ---- a map or set of what is finite

pub finite_set : (P : Pair → Type 0) → IsFinite P → (pairs : sets.FinSet pair_cmp) × ((pair : Pair) → (sets.contains pairs pair ≡ true) ↔ P pair)
finite_set P finite = (
  sets.from_list finite.0,
  λ pair.
      let is = set_of_entries pair_cmp-IsTotalOrder pair_cmp-IsAntisymmetric finite.0 pair in
      (λ e. (finite.1 pair).0 (is.0 e), λ h. is.1 ((finite.1 pair).1 h)),
)

-- ---- the objects and members at one address

module _ (schema : Schema) (heap : Heap) where
  -- there is a live object at an address, or there is none
  pub object_or_not : (address : ℕ) → ((tag : RowTag) × (slots : List Slot) × IsObject heap address tag slots) ⊎ ((tag : RowTag) (slots : List Slot) → IsObject heap address tag slots → ⊥)
  object_or_not address = found (heap address) refl
    where
      no_links : (links : Links) (tag : RowTag) (live : Bool) → heap address ≡ Some (record { tag = tag; live = live; links = links }) → ((slots : List Slot) → links ≡ Links.Object slots → ⊥) → (t : RowTag) (slots : List Slot) → IsObject heap address t slots → ⊥
      no_links links tag live e apart t slots object = apart slots (ap (λ (c : HeapCell). c.links) (same_Some _ _ (sym e ∙ object.there)))

      by_live : (tag : RowTag) (slots : List Slot) (live : Bool) → heap address ≡ Some (record { tag = tag; live = live; links = Links.Object slots }) → ((tag : RowTag) × (slots : List Slot) × IsObject heap address tag slots) ⊎ ((tag : RowTag) (slots : List Slot) → IsObject heap address tag slots → ⊥)
      by_live tag slots true e = elim (cases_Bool (is_type_code tag.code)) [
        | inl typed ↦ inl (tag, slots, record { there = e; typed = typed })
        | inr miss ↦ inr (λ t s object. true≢false (sym object.typed ∙ ap (λ (c : HeapCell). is_type_code c.tag.code) (same_Some _ _ (sym object.there ∙ e)) ∙ miss))
      ]
      by_live tag slots false e = inr (λ t s object. true≢false (ap (λ (c : HeapCell). c.live) (same_Some _ _ (sym object.there ∙ e))))

      by_links : (tag : RowTag) (live : Bool) (links : Links) → heap address ≡ Some (record { tag = tag; live = live; links = links }) → ((tag : RowTag) × (slots : List Slot) × IsObject heap address tag slots) ⊎ ((tag : RowTag) (slots : List Slot) → IsObject heap address tag slots → ⊥)
      by_links tag live Links.Broken e = inr (no_links Links.Broken tag live e (λ slots is. cc))
      by_links tag live (Links.Object slots) e = by_live tag slots live e
      by_links tag live (Links.Chunk next entries) e = inr (no_links (Links.Chunk next entries) tag live e (λ slots is. cc))
      by_links tag live (Links.Index next index) e = inr (no_links (Links.Index next index) tag live e (λ slots is. cc))

      found : (cell : Option HeapCell) → heap address ≡ cell → ((tag : RowTag) × (slots : List Slot) × IsObject heap address tag slots) ⊎ ((tag : RowTag) (slots : List Slot) → IsObject heap address tag slots → ⊥)
      found None e = inr (λ tag slots object. none-some _ (sym e ∙ object.there))
      found (Some cell) e = by_links cell.tag cell.live cell.links e

  -- ---- objects

  module _ (values : Values) (count : ℕ) (bounded : (address : ℕ) (cell : HeapCell) → heap address ≡ Some cell → address < count) where
    -- an object at an address
    abbrev IsObjectAt : ℕ → (Name × Object) → Type 0
    IsObjectAt address entry = (tag : RowTag) × (slots : List Slot) × IsObject heap address tag slots × (name_in tag ≡ entry.0) × (tag.code ≡ entry.1.ty.0) × (values address ≡ Some entry.1.values)

    objects_at : (address : ℕ) → IsFinite (IsObjectAt address)
    objects_at address = elim (object_or_not address) [
      | inl object ↦ with_values object.0 object.1 object.2 (values address) refl
      | inr none ↦ finite_none (IsObjectAt address) (λ entry h. none h.0 h.1 h.2)
    ]
      where
        with_values : (tag : RowTag) (slots : List Slot) → IsObject heap address tag slots → (held : Option (List (Option Scalar))) → values address ≡ held → IsFinite (IsObjectAt address)
        with_values tag slots object None e = finite_none (IsObjectAt address) (λ entry h. none-some _ (sym e ∙ h.5))
        with_values tag slots object (Some held) e =
            finite_one (IsObjectAt address) (name_in tag, record { ty = record { 0 = tag.code }; values = held }) (tag, slots, object, refl, refl, e) (λ entry h.
            let tags = same_object heap address address h.0 tag h.1 slots refl h.2 object in
            let name = sym h.3 ∙ ap name_in tags in
            let ty = sym h.4 ∙ ap (λ (t : RowTag). t.code) tags in
            let values_are = same_Some _ _ (sym h.5 ∙ e) in
            λ i. (name i, record { ty = record { 0 = ty i }; values = values_are i }))

    objects_finite : IsFinite (λ (entry : Name × Object). HasObject heap values entry.0 entry.1)
    objects_finite =
        finite_iff (λ (entry : Name × Object). (address : ℕ) × (address < count) × IsObjectAt address entry) (λ (entry : Name × Object). HasObject heap values entry.0 entry.1)
        (λ entry. (
          λ h. let at = h.2 in record { address = h.0; tag = at.0; slots = at.1; stands = at.2; named = at.3; ty = at.4; held = at.5 },
          λ has. (has.address, bounded has.address _ has.stands.there, (has.tag, has.slots, has.stands, has.named, has.ty, has.held)),
        ))
        (finite_below IsObjectAt count objects_at)

    pub objects_exist : AreNamesOwn heap → (objects : maps.FinMap name_cmp Object) × ShowsObjects heap values objects
    objects_exist own = (
      maps.from_entries objects_finite.0,
      λ name object.
          let is = map_of_entries name_cmp-IsTotalOrder name_cmp-IsAntisymmetric objects_finite.0 one name object in
          (λ e. (objects_finite.1 (name, object)).0 (is.0 e), λ has. is.1 ((objects_finite.1 (name, object)).1 has)),
    )
      where
        one : (name : Name) (x y : Object) → IsEntry (name, x) objects_finite.0 → IsEntry (name, y) objects_finite.0 → x ≡ y
        one name x y first second =
            let a = (objects_finite.1 (name, x)).0 first in
            let b = (objects_finite.1 (name, y)).0 second in
            let at = named_object heap a.address b.address a.tag b.tag a.slots b.slots own a.stands b.stands (b.named ∙ sym a.named) in
            let tags = same_object heap b.address a.address b.tag a.tag b.slots a.slots at b.stands a.stands in
            let ty = sym a.ty ∙ ap (λ (t : RowTag). t.code) (sym tags) ∙ b.ty in
            let values_are = same_Some _ _ (sym a.held ∙ ap values (sym at) ∙ b.held) in
            ap₂ (λ (t : ℕ) (v : List (Option Scalar)). record { ty = record { 0 = t }; values = v }) ty values_are

  -- ---- pairs

  -- two members at one place are one
  pub member_same : (address m : ℕ) (tag also : RowTag) (def d : MemberDef) (slot held : Slot) → HasMember schema heap address m tag def slot → HasMember schema heap address m also d held → (tag ≡ also) × (def ≡ d) × (slot ≡ held)
  member_same address m tag also def d slot held one two =
      let tags = same_tags tag also one.slots two.slots (sym one.object.there ∙ two.object.there) in
      let lists = same_slots tag also one.slots two.slots (sym one.object.there ∙ two.object.there) in (
        tags,
        same_Some def d (sym one.defined ∙ ap (λ (t : RowTag). slice_get (members_of schema t.code) m) tags ∙ two.defined),
        same_Some slot held (sym one.held ∙ ap (λ (l : List Slot). slice_get l m) lists ∙ two.held),
      )

  -- what a member leads to
  leads_finite : ((address : ℕ) → KeepsChains schema heap address) → (address m : ℕ) (tag : RowTag) (def : MemberDef) (slot : Slot) → HasMember schema heap address m tag def slot → IsFinite (LeadsTo heap tag.segment def.kind slot)
  leads_finite chains address m tag def Slot.Plain has = finite_none (λ pointer. ⊥) (λ pointer h. h)
  leads_finite chains address m tag def (Slot.Refers held) has = elim (cases_eq held 0) [
    | inl none ↦ finite_none (λ pointer. (held ≡ pointer) × (pointer ≢ 0)) (λ pointer h. h.1 (sym h.0 ∙ none))
    | inr some ↦ finite_one (λ pointer. (held ≡ pointer) × (pointer ≢ 0)) held (refl, some) (λ pointer h. sym h.0)
  ]
  leads_finite chains address m tag def (Slot.Begins head) has =
      let good = (chains address).collections m tag def head has in
      finite_iff (λ pointer. Contains (map (λ (entry : ChunkEntry). entry.item) (entries_of good.chain)) pointer) (LeadsTo heap tag.segment def.kind (Slot.Begins head))
      (λ pointer. (
        λ there. record { entries = entries_of good.chain; has = record { chain = good.chain; linked = good.linked; all = refl }; there = there },
        λ h.
            let same = chain_unique heap (chunk_code def.kind) tag.segment head.first h.has.chain good.chain h.has.linked good.linked in
            subst (λ es. Contains (map (λ (entry : ChunkEntry). entry.item) es) pointer) (h.has.all ∙ ap entries_of same) h.there,
      ))
      (finite_list (map (λ (entry : ChunkEntry). entry.item) (entries_of good.chain)))

  link_or_not : (side : TypeMember) → IsLink schema side ⊎ (IsLink schema side → ⊥)
  link_or_not side = with_def (slice_get (members_of schema side.ty.0) side.member.0) refl
    where
      with_def : (found : Option MemberDef) → slice_get (members_of schema side.ty.0) side.member.0 ≡ found → IsLink schema side ⊎ (IsLink schema side → ⊥)
      with_def None e = inr (λ link. none-some link.def (sym e ∙ link.defined))
      with_def (Some def) e = with_target (link_target def.kind) refl
        where
          with_target : (target : Option TypeNo) → link_target def.kind ≡ target → IsLink schema side ⊎ (IsLink schema side → ⊥)
          with_target None t = inr (λ link. link.sided (ap (λ (d : MemberDef). link_target d.kind) (same_Some _ _ (sym link.defined ∙ e)) ∙ t))
          with_target (Some target) t = elim (cases_Bool (comes_first side def.inverse)) [
            | inl first ↦ inl (record { def = def; defined = e; sided = λ none. none-some target (sym none ∙ t); first = first })
            | inr later ↦ inr (λ link. true≢false (sym link.first ∙ ap (λ (d : MemberDef). comes_first side d.inverse) (same_Some _ _ (sym link.defined ∙ e)) ∙ later))
          ]

  -- a pair that a member of an object makes
  pub record IsPairAt (address m : ℕ) (pair : Pair) : Type 0 where
    pub tag : RowTag
    pub def : MemberDef
    pub slot : Slot
    pub has : HasMember schema heap address m tag def slot
    pub is_link : IsLink schema (record { ty = record { 0 = tag.code }; member = record { 0 = m } })
    pub pointer : ℕ
    pub leads : LeadsTo heap tag.segment def.kind slot pointer
    pub is : option_map (λ (y : Name). record { link = record { ty = record { 0 = tag.code }; member = record { 0 = m } }; first = name_in tag; second = y }) (name_at heap pointer) ≡ Some pair

  module _ (chains : (address : ℕ) → KeepsChains schema heap address) where
    member_pairs : (address m : ℕ) (tag : RowTag) (slots : List Slot) → IsObject heap address tag slots → IsFinite (IsPairAt address m)
    member_pairs address m tag slots object = with_def (slice_get (members_of schema tag.code) m) refl
      where
        none_such : ((also : RowTag) (def : MemberDef) (slot : Slot) → HasMember schema heap address m also def slot → ⊥) → IsFinite (IsPairAt address m)
        none_such none = finite_none (IsPairAt address m) (λ pair h. none h.tag h.def h.slot h.has)

        with_slot : (def : MemberDef) → slice_get (members_of schema tag.code) m ≡ Some def → (held : Option Slot) → slice_get slots m ≡ held → IsFinite (IsPairAt address m)
        with_slot def d None e = none_such (λ also other slot has. none-some slot (sym e ∙ ap (λ (l : List Slot). slice_get l m) (same_slots tag also slots has.slots (sym object.there ∙ has.object.there)) ∙ has.held))
        with_slot def d (Some slot) e =
            let has : HasMember schema heap address m tag def slot = record { slots = slots; object = object; defined = d; held = e } in
            elim (link_or_not (record { ty = record { 0 = tag.code }; member = record { 0 = m } })) [
              | inl link ↦
                  let pair_of : ℕ → Option Pair = λ pointer. option_map (λ (y : Name). record { link = record { ty = record { 0 = tag.code }; member = record { 0 = m } }; first = name_in tag; second = y }) (name_at heap pointer) in
                  finite_iff (λ pair. (pointer : ℕ) × LeadsTo heap tag.segment def.kind slot pointer × (pair_of pointer ≡ Some pair)) (IsPairAt address m)
                  (λ pair. (
                    λ h. record { tag = tag; def = def; slot = slot; has = has; is_link = link; pointer = h.0; leads = h.1; is = h.2 },
                    λ h.
                        let same = member_same address m h.tag tag h.def def h.slot slot h.has has in (
                          h.pointer,
                          subst (λ (t : RowTag). LeadsTo heap t.segment def.kind slot h.pointer) same.0 (subst (λ (x : MemberDef). LeadsTo heap h.tag.segment x.kind slot h.pointer) same.1 (subst (λ sl. LeadsTo heap h.tag.segment h.def.kind sl h.pointer) same.2 h.leads)),
                          subst (λ (t : RowTag). option_map (λ (y : Name). record { link = record { ty = record { 0 = t.code }; member = record { 0 = m } }; first = name_in t; second = y }) (name_at heap h.pointer) ≡ Some pair) same.0 h.is,
                        ),
                  ))
                  (finite_image pair_of (LeadsTo heap tag.segment def.kind slot) (leads_finite chains address m tag def slot has))
              | inr no_link ↦ finite_none (IsPairAt address m) (λ pair h. no_link (subst (λ (t : RowTag). IsLink schema (record { ty = record { 0 = t.code }; member = record { 0 = m } })) (member_same address m h.tag tag h.def def h.slot slot h.has has).0 h.is_link))
            ]

        with_def : (found : Option MemberDef) → slice_get (members_of schema tag.code) m ≡ found → IsFinite (IsPairAt address m)
        with_def None e = none_such (λ also other slot has. none-some other (sym e ∙ ap (λ (t : RowTag). slice_get (members_of schema t.code) m) (same_tags tag also slots has.slots (sym object.there ∙ has.object.there)) ∙ has.defined))
        with_def (Some def) e = with_slot def e (slice_get slots m) refl

    address_pairs : (address : ℕ) → IsFinite (λ pair. (m : ℕ) × IsPairAt address m pair)
    address_pairs address = elim (object_or_not address) [
      | inl object ↦
          finite_iff (λ pair. (m : ℕ) × (m < length object.1) × IsPairAt address m pair) (λ pair. (m : ℕ) × IsPairAt address m pair)
          (λ pair. (
            λ h. (h.0, h.2),
            λ h. (h.0, slice_get_within object.1 h.0 h.1.slot (ap (λ (l : List Slot). slice_get l h.0) (sym (same_slots h.1.tag object.0 h.1.has.slots object.1 (sym h.1.has.object.there ∙ object.2.there))) ∙ h.1.has.held), h.1),
          ))
          (finite_below (IsPairAt address) (length object.1) (λ m. member_pairs address m object.0 object.1 object.2))
      | inr none ↦ finite_none (λ pair. (m : ℕ) × IsPairAt address m pair) (λ pair h. none h.1.tag h.1.has.slots h.1.has.object)
    ]

    named_some : (pair : Pair) (address m : ℕ) (h : IsPairAt address m pair) (found : Option Name) → name_at heap h.pointer ≡ found
        → (pair.link ≡ record { ty = record { 0 = h.tag.code }; member = record { 0 = m } }) × (pair.first ≡ name_in h.tag) × (name_at heap h.pointer ≡ Some pair.second)
    named_some pair address m h None e =
        absurd (none-some pair (sym (ap (option_map (λ (y : Name). record { link = record { ty = record { 0 = h.tag.code }; member = record { 0 = m } }; first = name_in h.tag; second = y })) e) ∙ h.is))
    named_some pair address m h (Some y) e =
        let is : record { link = record { ty = record { 0 = h.tag.code }; member = record { 0 = m } }; first = name_in h.tag; second = y } ≡ pair = same_Some _ _ (sym (ap (option_map (λ (y : Name). record { link = record { ty = record { 0 = h.tag.code }; member = record { 0 = m } }; first = name_in h.tag; second = y })) e) ∙ h.is) in
        (sym (ap (λ (p : Pair). p.link) is), sym (ap (λ (p : Pair). p.first) is), e ∙ ap (λ (p : Pair). Some p.second) is)

    pub pairs_exist : (count : ℕ) → ((address : ℕ) (cell : HeapCell) → heap address ≡ Some cell → address < count) → (pairs : sets.FinSet pair_cmp) × ShowsPairs schema heap pairs
    pairs_exist count bounded = finite_set (HasPair schema heap)
        (finite_iff (λ pair. (address : ℕ) × (address < count) × ((m : ℕ) × IsPairAt address m pair)) (HasPair schema heap)
        (λ pair. (λ h. forth pair h.0 h.2.0 h.2.1, λ has. (has.joins.address, bounded has.joins.address _ has.joins.has.object.there, (pair.link.member.0, back pair has))))
        (finite_below (λ address pair. (m : ℕ) × IsPairAt address m pair) count address_pairs))
      where
        forth : (pair : Pair) (address m : ℕ) → IsPairAt address m pair → HasPair schema heap pair
        forth pair address m h =
            let parts = named_some pair address m h (name_at heap h.pointer) refl in
            record {
              link = subst (IsLink schema) (sym parts.0) h.is_link;
              joins = record {
                address = address;
                tag = h.tag;
                def = h.def;
                slot = h.slot;
                has = subst (λ (s : TypeMember). HasMember schema heap address s.member.0 h.tag h.def h.slot) (sym parts.0) h.has;
                ty = sym (ap (λ (s : TypeMember). s.ty.0) parts.0);
                from = sym parts.1;
                pointer = h.pointer;
                leads = h.leads;
                to = parts.2;
              };
            }

        back : (pair : Pair) (has : HasPair schema heap pair) → IsPairAt has.joins.address pair.link.member.0 pair
        back pair has =
            let j = has.joins in
            let side : pair.link ≡ record { ty = record { 0 = j.tag.code }; member = record { 0 = pair.link.member.0 } } = ap (λ (t : ℕ). record { ty = record { 0 = t }; member = record { 0 = pair.link.member.0 } }) (sym j.ty) in
            record {
              tag = j.tag;
              def = j.def;
              slot = j.slot;
              has = j.has;
              is_link = subst (IsLink schema) side has.link;
              pointer = j.pointer;
              leads = j.leads;
              is = ap (option_map (λ (y : Name). record { link = record { ty = record { 0 = j.tag.code }; member = record { 0 = pair.link.member.0 } }; first = name_in j.tag; second = y })) j.to
                  ∙ (λ i. Some (record { link = sym side i; first = j.from i; second = pair.second }));
            }

-- ---- an address with a cell is on a page

pub addresses_bounded : (schema : Schema) (pages : List PageImage) (address : ℕ) (cell : HeapCell) → heap_of schema pages address ≡ Some cell → address < 4096 * length pages
unfolding heap_of cell_at
addresses_bounded schema pages address cell there = elim (cases_lt (address / 4096) (length pages)) [
  | inl low ↦ omega arith
  | inr high ↦ absurd (none-some cell (sym (ap (λ (found : Option PageImage). option_map (heap_cell schema) (option_and_then (λ (image : PageImage). cell_in image.bytes (address % 4096)) (cond (leb 10 (address / 4096)) found None))) (slice_get_past pages (address / 4096) high) ∙ nothing (leb 10 (address / 4096))) ∙ there))
]
  where
    nothing : (b : Bool) → option_map (heap_cell schema) (option_and_then (λ (image : PageImage). cell_in image.bytes (address % 4096)) (cond b None None)) ≡ None
    nothing true = refl
    nothing false = refl
