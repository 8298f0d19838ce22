-- A one-sided reference of one object of a heap is another.
use Rattle.std.proofs.Common.{◌≡◌, ◌≢◌, ◌↔◌, ◌⊎◌, ℕ, ◌&&◌, ◌||◌, not, Bool, true, false, List, set, refl, sym, ap, ap₂, subst, ◌∙◌, Option, Some, None, inl, inr, true≢false}
use Rattle.std.specs.List.{slice_get}
use Rattle.std.specs.Option.{option_map}
use Rattle.std.specs.Ordering.{eq_by_cmp}
use Rattle.std.specs.FinMap as maps
use Rattle.ostore_graph_model.specs.Sets as sets
use Rattle.ostore_graph_model.proofs.SetFacts as set_facts
use Rattle.std.proofs.lemmas.Bool.{cases_eq, or_cases, and_parts, and_from, not-true, false_from_ne_true}
use Rattle.std.proofs.lemmas.Option.{same_Some, none-some, slice_get_within}
use Rattle.ostore_page_tags.specs.Rules.{is_type_code}
use Rattle.ostore_schema_layout.specs.declared.schema.Schema.{Schema}
use Rattle.ostore_schema_layout.specs.declared.schema.TypeNo.{TypeNo}
use Rattle.ostore_schema_layout.specs.declared.schema.MemberDef.{MemberDef}
use Rattle.ostore_schema_layout.specs.declared.schema.MemberKind.{MemberKind}
use Rattle.ostore_schema_layout.specs.declared.schema.MemberKind.TheVariants as kinds
use Rattle.ostore_schema_layout.specs.Numbers.{members_of}
use Rattle.ostore_schema_layout.specs.Lawful.{link_target}
use Rattle.ostore_graph_model.specs.declared.values.Name.{Name}
use Rattle.ostore_graph_model.specs.Orders.{TypeMember, type_member_cmp, Pair, pair_cmp, name_cmp}
use Rattle.ostore_graph_model.specs.Graph.{Object}
use Rattle.ostore_graph_model.specs.Chains.{item_type, LeadsTo}
use Rattle.ostore_graph_model.specs.Heap.{Heap, tag_at, code_at, name_at, name_in, live_cell, IsObject, HasMember}
use Rattle.ostore_graph_model.specs.HeapRules.{LeadsToChunk, HasGoodPointers, KeepsPointers}
use Rattle.ostore_graph_model.proofs.JoinedFacts.{is_from, parted_from, joined_alone}
use Rattle.ostore_graph_model.specs.Records.{Slot, Links, RowTag, HeapCell}
use Rattle.ostore_graph_model.specs.Links.{comes_first, IsLink}
use Rattle.ostore_graph_model.specs.StandsFor.{Joins, HasPair, HasObject, ShowsObjects, ShowsPairs}
use Rattle.ostore_graph_model.proofs.AddressLaws.{slice_get-set_same, slice_get-set_other}
use Rattle.ostore_graph_model.proofs.OrderLaws.{tied_same, same_tied, type_member_cmp-IsTotalOrder, type_member_cmp-IsAntisymmetric, name_cmp-IsTotalOrder, name_cmp-IsAntisymmetric, pair_cmp-IsTotalOrder, pair_cmp-IsAntisymmetric}
use Rattle.ostore_graph_model.proofs.ObjectLaws.{Values, AreNamesOwn, named_object, same_object}
use Rattle.ostore_graph_model.proofs.HeapLaws.{ChangesObject, member_elsewhere, leads_kept}

-- ---- what two cells have in common

pub same_tags : (tag also : RowTag) (slots held : List Slot) → ◌≡◌ {A = Option HeapCell} (Some (live_cell tag (Links.Object slots))) (Some (live_cell also (Links.Object held))) → tag ≡ also
same_tags tag also slots held e = ap (λ (c : HeapCell). c.tag) (same_Some _ _ e)

pub same_slots : (tag also : RowTag) (slots held : List Slot) → ◌≡◌ {A = Option HeapCell} (Some (live_cell tag (Links.Object slots))) (Some (live_cell also (Links.Object held))) → slots ≡ held
same_slots tag also slots held e = let links : Links.Object slots ≡ Links.Object held = ap (λ (c : HeapCell). c.links) (same_Some _ _ e) in cc

code_by_tag : (found : Option HeapCell) → option_map (λ (c : HeapCell). c.tag.code) found ≡ option_map (λ (t : RowTag). t.code) (option_map (λ (c : HeapCell). c.tag) found)
code_by_tag None = refl
code_by_tag (Some cell) = refl

pub codes_by_tags : (heap now : Heap) → tag_at now ≡ tag_at heap → (pointer : ℕ) → code_at now pointer ≡ code_at heap pointer
codes_by_tags heap now same pointer = code_by_tag (now pointer) ∙ ap (λ (f : ℕ → Option RowTag). option_map (λ (t : RowTag). t.code) (f pointer)) same ∙ sym (code_by_tag (heap pointer))

pub names_by_tags : (heap now : Heap) → tag_at now ≡ tag_at heap → (pointer : ℕ) → name_at now pointer ≡ name_at heap pointer
names_by_tags heap now same pointer = ap (λ (f : ℕ → Option RowTag). option_map name_in (f pointer)) same

pub good_by_codes : (schema : Schema) (heap now : Heap) → ((pointer code : ℕ) → code_at heap pointer ≡ Some code → code_at now pointer ≡ Some code) → (kind : MemberKind) (slot : Slot) → HasGoodPointers schema heap kind slot → HasGoodPointers schema now kind slot
good_by_codes schema heap now codes kind Slot.Plain good = tt
good_by_codes schema heap now codes kind (Slot.Refers pointer) good = λ some. codes pointer _ (good some)
good_by_codes schema heap now codes kind (Slot.Begins head) good = (λ some. codes head.first _ (good.0 some), λ some. codes head.descriptor _ (good.1 some))

-- ---- the change

-- the member of the object at an address is a reference, and leads to this pointer now
pub record ChangesReference (schema : Schema) (heap now : Heap) (address member : ℕ) (tag : RowTag) (slots : List Slot) (def : MemberDef) (pointer : ℕ) : Type 0 where
  pub was : IsObject heap address tag slots
  pub is : now address ≡ Some (live_cell tag (Links.Object (set slots member (Slot.Refers pointer))))
  pub others : (other : ℕ) → other ≢ address → now other ≡ heap other
  pub defined : slice_get (members_of schema tag.code) member ≡ Some def
  pub target : TypeNo
  pub kind : def.kind ≡ kinds.Ref target
  pub before : ℕ
  pub held : slice_get slots member ≡ Some (Slot.Refers before)

module _ (schema : Schema) (heap now : Heap) (address member : ℕ) (tag : RowTag) (slots : List Slot) (def : MemberDef) (pointer : ℕ) (change : ChangesReference schema heap now address member tag slots def pointer) where
  pub stands_now : IsObject now address tag (set slots member (Slot.Refers pointer))
  stands_now = record { there = change.is; typed = change.was.typed }

  pub tags_stay : tag_at now ≡ tag_at heap
  tags_stay = λ i other. (each other) i
    where
      each : (other : ℕ) → tag_at now other ≡ tag_at heap other
      each other = elim (cases_eq other address) [
        | inl same ↦ ap (tag_at now) same ∙ ap (option_map (λ (c : HeapCell). c.tag)) change.is ∙ sym (ap (option_map (λ (c : HeapCell). c.tag)) change.was.there) ∙ ap (tag_at heap) (sym same)
        | inr apart ↦ ap (option_map (λ (c : HeapCell). c.tag)) (change.others other apart)
      ]

  codes : (other code : ℕ) → code_at heap other ≡ Some code → code_at now other ≡ Some code
  codes other code there = codes_by_tags heap now tags_stay other ∙ there

  -- the slot of a member now
  slot_now : slice_get (set slots member (Slot.Refers pointer)) member ≡ Some (Slot.Refers pointer)
  slot_now = slice_get-set_same slots member (Slot.Refers pointer) (slice_get_within slots member (Slot.Refers change.before) change.held)

  -- a member now is the reference, or as it was
  pub member_now : (m : ℕ) (also : RowTag) (d : MemberDef) (slot : Slot) → HasMember schema now address m also d slot → ((m ≡ member) × (d ≡ def) × (slot ≡ Slot.Refers pointer)) ⊎ ((m ≢ member) × HasMember schema heap address m also d slot)
  member_now m also d slot has =
      let tags = same_tags tag also (set slots member (Slot.Refers pointer)) has.slots (sym change.is ∙ has.object.there) in
      let held = same_slots tag also (set slots member (Slot.Refers pointer)) has.slots (sym change.is ∙ has.object.there) in
      elim (cases_eq m member) [
        | inl same ↦
            let defs : d ≡ def = same_Some d def (sym has.defined ∙ ap₂ (λ (t : RowTag) (n : ℕ). slice_get (members_of schema t.code) n) (sym tags) same ∙ change.defined) in
            let slots_are : slot ≡ Slot.Refers pointer = same_Some _ _ (sym has.held ∙ ap₂ (λ (l : List Slot) (n : ℕ). slice_get l n) (sym held) same ∙ slot_now) in
            inl (same, defs, slots_are)
        | inr apart ↦ inr (
          apart,
          record {
            slots = slots;
            object = record { there = subst (λ (t : RowTag). heap address ≡ Some (live_cell t (Links.Object slots))) tags change.was.there; typed = has.object.typed };
            defined = has.defined;
            held = sym (slice_get-set_other slots member m (Slot.Refers pointer) apart) ∙ ap (λ (l : List Slot). slice_get l m) held ∙ has.held;
          },
        )
      ]

  -- a member that was is the reference, or stays
  pub member_was : (m : ℕ) (also : RowTag) (d : MemberDef) (slot : Slot) → HasMember schema heap address m also d slot → ((m ≡ member) × (d ≡ def) × (slot ≡ Slot.Refers change.before)) ⊎ HasMember schema now address m also d slot
  member_was m also d slot has =
      let tags = same_tags tag also slots has.slots (sym change.was.there ∙ has.object.there) in
      let held = same_slots tag also slots has.slots (sym change.was.there ∙ has.object.there) in
      elim (cases_eq m member) [
        | inl same ↦
            let defs : d ≡ def = same_Some d def (sym has.defined ∙ ap₂ (λ (t : RowTag) (n : ℕ). slice_get (members_of schema t.code) n) (sym tags) same ∙ change.defined) in
            let slots_are : slot ≡ Slot.Refers change.before = same_Some _ _ (sym has.held ∙ ap₂ (λ (l : List Slot) (n : ℕ). slice_get l n) (sym held) same ∙ change.held) in
            inl (same, defs, slots_are)
        | inr apart ↦ inr (record {
          slots = set slots member (Slot.Refers pointer);
          object = record { there = subst (λ (t : RowTag). now address ≡ Some (live_cell t (Links.Object (set slots member (Slot.Refers pointer))))) tags change.is; typed = has.object.typed };
          defined = has.defined;
          held = slice_get-set_other slots member m (Slot.Refers pointer) apart ∙ ap (λ (l : List Slot). slice_get l m) held ∙ has.held;
        })
      ]

  typed_code : (h : Heap) (held : List Slot) → h address ≡ Some (live_cell tag (Links.Object held)) → (code : ℕ) → code_at h address ≡ Some code → is_type_code code ≡ true
  typed_code h held there code e = subst (λ c. is_type_code c ≡ true) (same_Some _ _ (sym (ap (option_map (λ (c : HeapCell). c.tag.code)) there) ∙ e)) change.was.typed

  pub reference_changes : ((other : ℕ) → KeepsPointers schema heap other) → LeadsToChunk heap (item_type def.kind) pointer → ChangesObject schema heap now address
  reference_changes keeps leads = record {
    others = change.others;
    before = typed_code heap slots change.was.there;
    after = typed_code now (set slots member (Slot.Refers pointer)) change.is;
    object = λ links e. (set slots member (Slot.Refers pointer), sym (same_Some _ _ (sym (ap (option_map (λ (c : HeapCell). c.links)) change.is) ∙ e)));
    codes = codes;
    inverse = def.inverse;
    members = λ m also d slot has. elim (member_now m also d slot has) [
      | inl own ↦ inr (inr (record { sided = ap (λ (x : MemberDef). x.inverse) own.1; pointer = pointer; is = own.2 }))
      | inr was ↦ inl was.1
    ];
    kept = λ m also d slot has. elim (member_was m also d slot has) [
      | inl own ↦ inr (record { sided = ap (λ (x : MemberDef). x.inverse) own.1; pointer = change.before; is = own.2 })
      | inr stays ↦ inl stays
    ];
    pointers = λ m also d slot has. elim (member_now m also d slot has) [
      | inl own ↦ subst (λ s. HasGoodPointers schema now d.kind s) (sym own.2) (subst (λ (x : MemberDef). LeadsToChunk now (item_type x.kind) pointer) (sym own.1) (λ some. codes pointer _ (leads some)))
      | inr was ↦ good_by_codes schema heap now codes d.kind slot ((keeps address).members m also d slot was.1)
    ];
  }

  pub reference_sided : (keeps : (other : ℕ) → KeepsPointers schema heap other) (leads : LeadsToChunk heap (item_type def.kind) pointer) → (reference_changes keeps leads).inverse ≡ def.inverse
  unfolding reference_changes
  reference_sided keeps leads = refl

  -- ---- objects

  object_forth : (values : Values) (name : Name) (object : Object) → HasObject heap values name object → HasObject now values name object
  object_forth values name object has = elim (cases_eq has.address address) [
    | inl same ↦
        let tags = same_object heap has.address address has.tag tag has.slots slots same has.stands change.was in
        record { address = address; tag = tag; slots = set slots member (Slot.Refers pointer); stands = stands_now; named = ap name_in (sym tags) ∙ has.named; ty = ap (λ (t : RowTag). t.code) (sym tags) ∙ has.ty; held = ap values (sym same) ∙ has.held }
    | inr apart ↦ record { address = has.address; tag = has.tag; slots = has.slots; stands = record { there = change.others has.address apart ∙ has.stands.there; typed = has.stands.typed }; named = has.named; ty = has.ty; held = has.held }
  ]

  object_back : (values : Values) (name : Name) (object : Object) → HasObject now values name object → HasObject heap values name object
  object_back values name object has = elim (cases_eq has.address address) [
    | inl same ↦
        let tags = same_object now has.address address has.tag tag has.slots (set slots member (Slot.Refers pointer)) same has.stands stands_now in
        record { address = address; tag = tag; slots = slots; stands = change.was; named = ap name_in (sym tags) ∙ has.named; ty = ap (λ (t : RowTag). t.code) (sym tags) ∙ has.ty; held = ap values (sym same) ∙ has.held }
    | inr apart ↦ record { address = has.address; tag = has.tag; slots = has.slots; stands = record { there = sym (change.others has.address apart) ∙ has.stands.there; typed = has.stands.typed }; named = has.named; ty = has.ty; held = has.held }
  ]

  pub objects_stay : (values : Values) (objects : maps.FinMap name_cmp Object) → ShowsObjects heap values objects → ShowsObjects now values objects
  objects_stay values objects shown name object = (λ e. object_forth values name object ((shown name object).0 e), λ has. (shown name object).1 (object_back values name object has))

  -- ---- pairs

  abbrev side : TypeMember
  side = record { ty = record { 0 = tag.code }; member = record { 0 = member } }

  is_link : comes_first (record { ty = record { 0 = tag.code }; member = record { 0 = member } }) def.inverse ≡ true → IsLink schema (record { ty = record { 0 = tag.code }; member = record { 0 = member } })
  is_link first = record {
    def = def;
    defined = change.defined;
    sided = λ none. none-some change.target (sym none ∙ ap link_target change.kind);
    first = first;
  }

  -- a pair that is from the side of the object
  from_parts : (x : Name) (pair : Pair) → is_from (record { ty = record { 0 = tag.code }; member = record { 0 = member } }) x pair ≡ true → (pair.link ≡ record { ty = record { 0 = tag.code }; member = record { 0 = member } }) × (pair.first ≡ x)
  from_parts x pair e =
      let parts = and_parts (eq_by_cmp type_member_cmp pair.link (record { ty = record { 0 = tag.code }; member = record { 0 = member } })) (eq_by_cmp name_cmp pair.first x) e in
      (tied_same type_member_cmp-IsAntisymmetric pair.link (record { ty = record { 0 = tag.code }; member = record { 0 = member } }) parts.0, tied_same name_cmp-IsAntisymmetric pair.first x parts.1)

  is_from_side : (x : Name) (pair : Pair) → pair.link ≡ record { ty = record { 0 = tag.code }; member = record { 0 = member } } → pair.first ≡ x → is_from (record { ty = record { 0 = tag.code }; member = record { 0 = member } }) x pair ≡ true
  is_from_side x pair link first =
      and_from _ _ (same_tied type_member_cmp-IsTotalOrder pair.link (record { ty = record { 0 = tag.code }; member = record { 0 = member } }) link) (same_tied name_cmp-IsTotalOrder pair.first x first)

  before_code : (code : ℕ) → code_at heap address ≡ Some code → is_type_code code ≡ true
  before_code = typed_code heap slots change.was.there

  after_code : (code : ℕ) → code_at now address ≡ Some code → is_type_code code ≡ true
  after_code = typed_code now (set slots member (Slot.Refers pointer)) change.is

  joins_with : (link : TypeMember) (x z : Name) (j : Joins schema heap link x z) → HasMember schema now j.address link.member.0 j.tag j.def j.slot → Joins schema now link x z
  joins_with link x z j has = record {
    address = j.address;
    tag = j.tag;
    def = j.def;
    slot = j.slot;
    has = has;
    ty = j.ty;
    from = j.from;
    pointer = j.pointer;
    leads = leads_kept heap now address change.others before_code j.tag.segment j.def.kind j.slot j.pointer j.leads;
    to = names_by_tags heap now tags_stay j.pointer ∙ j.to;
  }

  joined_with : (link : TypeMember) (x z : Name) (j : Joins schema now link x z) → HasMember schema heap j.address link.member.0 j.tag j.def j.slot → Joins schema heap link x z
  joined_with link x z j has = record {
    address = j.address;
    tag = j.tag;
    def = j.def;
    slot = j.slot;
    has = has;
    ty = j.ty;
    from = j.from;
    pointer = j.pointer;
    leads = leads_kept now heap address (λ a apart. sym (change.others a apart)) after_code j.tag.segment j.def.kind j.slot j.pointer j.leads;
    to = sym (names_by_tags heap now tags_stay j.pointer) ∙ j.to;
  }

  old_pair : (pair : Pair) → not (is_from (record { ty = record { 0 = tag.code }; member = record { 0 = member } }) (name_in tag) pair) ≡ true → HasPair schema heap pair → HasPair schema now pair
  old_pair pair free has =
      let j = has.joins in
      record {
        link = has.link;
        joins = elim (cases_eq j.address address) [
          | inl same ↦ elim (member_was pair.link.member.0 j.tag j.def j.slot (subst (λ a. HasMember schema heap a pair.link.member.0 j.tag j.def j.slot) same j.has)) [
            | inl here ↦
                let tags = same_object heap j.address address j.tag tag j.has.slots slots same j.has.object change.was in
                let link : pair.link ≡ record { ty = record { 0 = tag.code }; member = record { 0 = member } } = ap₂ (λ (t n : ℕ). record { ty = record { 0 = t }; member = record { 0 = n } }) (sym j.ty ∙ ap (λ (t : RowTag). t.code) tags) here.0 in
                let first : pair.first ≡ name_in tag = sym j.from ∙ ap name_in tags in
                absurd (true≢false (sym (is_from_side (name_in tag) pair link first) ∙ not-true _ free))
            | inr stays ↦ joins_with pair.link pair.first pair.second j (subst (λ a. HasMember schema now a pair.link.member.0 j.tag j.def j.slot) (sym same) stays)
          ]
          | inr apart ↦ joins_with pair.link pair.first pair.second j (member_elsewhere schema heap now j.address pair.link.member.0 j.tag j.def j.slot (change.others j.address apart) j.has)
        ];
      }

  -- a pair now is from the side of the object, which leads somewhere, or was there
  back_pair : AreNamesOwn heap → (pair : Pair) → HasPair schema now pair
      → ((pair.link ≡ record { ty = record { 0 = tag.code }; member = record { 0 = member } }) × (pair.first ≡ name_in tag) × (pointer ≢ 0) × (name_at now pointer ≡ Some pair.second)) ⊎ ((is_from (record { ty = record { 0 = tag.code }; member = record { 0 = member } }) (name_in tag) pair ≡ true → ⊥) × HasPair schema heap pair)
  back_pair own pair has =
      let j = has.joins in
      elim (cases_eq j.address address) [
        | inl same ↦ elim (member_now pair.link.member.0 j.tag j.def j.slot (subst (λ a. HasMember schema now a pair.link.member.0 j.tag j.def j.slot) same j.has)) [
          | inl here ↦
              let tags = same_object now j.address address j.tag tag j.has.slots (set slots member (Slot.Refers pointer)) same j.has.object stands_now in
              let link : pair.link ≡ record { ty = record { 0 = tag.code }; member = record { 0 = member } } = ap₂ (λ (t n : ℕ). record { ty = record { 0 = t }; member = record { 0 = n } }) (sym j.ty ∙ ap (λ (t : RowTag). t.code) tags) here.0 in
              let leads : (pointer ≡ j.pointer) × (j.pointer ≢ 0) = subst (λ s. LeadsTo now j.tag.segment j.def.kind s j.pointer) here.2 j.leads in
              inl (link, sym j.from ∙ ap name_in tags, (λ none. leads.1 (sym leads.0 ∙ none)), ap (name_at now) leads.0 ∙ j.to)
          | inr was ↦ inr (
            λ e. was.0 (ap (λ (s : TypeMember). s.member.0) (from_parts (name_in tag) pair e).0),
            record { link = has.link; joins = joined_with pair.link pair.first pair.second j (subst (λ a. HasMember schema heap a pair.link.member.0 j.tag j.def j.slot) (sym same) was.1) },
          )
        ]
        | inr apart ↦
            let was = member_elsewhere schema now heap j.address pair.link.member.0 j.tag j.def j.slot (sym (change.others j.address apart)) j.has in
            inr (
              λ e. apart (named_object heap address j.address tag j.tag slots was.slots own change.was was.object (j.from ∙ (from_parts (name_in tag) pair e).1)),
              record { link = has.link; joins = joined_with pair.link pair.first pair.second j was },
            )
      ]

  -- what is joined at a side now: the object at the reference's side with what it leads to, or what was joined
  pub joins_edited : AreNamesOwn heap → (link : TypeMember) (x z : Name) → Joins schema now link x z
      ↔ (((link ≡ record { ty = record { 0 = tag.code }; member = record { 0 = member } }) × (x ≡ name_in tag) × (pointer ≢ 0) × (name_at heap pointer ≡ Some z))
      ⊎ ((link ≡ record { ty = record { 0 = tag.code }; member = record { 0 = member } } → x ≢ name_in tag) × Joins schema heap link x z))
  joins_edited own link x z = (λ j. forth j, λ h. elim h [ inl here ↦ back_here here.0 here.1 here.2 here.3 | inr was ↦ back_was was.0 was.1 ])
    where
      forth : Joins schema now link x z
          → ((link ≡ record { ty = record { 0 = tag.code }; member = record { 0 = member } }) × (x ≡ name_in tag) × (pointer ≢ 0) × (name_at heap pointer ≡ Some z))
          ⊎ ((link ≡ record { ty = record { 0 = tag.code }; member = record { 0 = member } } → x ≢ name_in tag) × Joins schema heap link x z)
      forth j = elim (cases_eq j.address address) [
        | inl same ↦ elim (member_now link.member.0 j.tag j.def j.slot (subst (λ a. HasMember schema now a link.member.0 j.tag j.def j.slot) same j.has)) [
          | inl here ↦
              let tags = same_object now j.address address j.tag tag j.has.slots (set slots member (Slot.Refers pointer)) same j.has.object stands_now in
              let leads : (pointer ≡ j.pointer) × (j.pointer ≢ 0) = subst (λ s. LeadsTo now j.tag.segment j.def.kind s j.pointer) here.2 j.leads in
              inl (
                ap₂ (λ (t n : ℕ). record { ty = record { 0 = t }; member = record { 0 = n } }) (sym j.ty ∙ ap (λ (t : RowTag). t.code) tags) here.0,
                sym j.from ∙ ap name_in tags,
                (λ none. leads.1 (sym leads.0 ∙ none)),
                sym (names_by_tags heap now tags_stay pointer) ∙ ap (name_at now) leads.0 ∙ j.to,
              )
          | inr was ↦ inr (
            λ e. absurd (was.0 (ap (λ (s : TypeMember). s.member.0) e)),
            joined_with link x z j (subst (λ a. HasMember schema heap a link.member.0 j.tag j.def j.slot) (sym same) was.1),
          )
        ]
        | inr apart ↦
            let was = member_elsewhere schema now heap j.address link.member.0 j.tag j.def j.slot (sym (change.others j.address apart)) j.has in
            inr (
              λ e first. apart (named_object heap address j.address tag j.tag slots was.slots own change.was was.object (j.from ∙ first)),
              joined_with link x z j was,
            )
      ]

      back_here : link ≡ record { ty = record { 0 = tag.code }; member = record { 0 = member } } → x ≡ name_in tag → pointer ≢ 0 → name_at heap pointer ≡ Some z → Joins schema now link x z
      back_here at first some named =
          subst (λ l. Joins schema now l x z) (sym at) (subst (λ y. Joins schema now (record { ty = record { 0 = tag.code }; member = record { 0 = member } }) y z) (sym first) (record {
            address = address;
            tag = tag;
            def = def;
            slot = Slot.Refers pointer;
            has = record { slots = set slots member (Slot.Refers pointer); object = stands_now; defined = change.defined; held = slot_now };
            ty = refl;
            from = refl;
            pointer = pointer;
            leads = (refl, some);
            to = names_by_tags heap now tags_stay pointer ∙ named;
          }))

      back_was : (link ≡ record { ty = record { 0 = tag.code }; member = record { 0 = member } } → x ≢ name_in tag) → Joins schema heap link x z → Joins schema now link x z
      back_was free j = elim (cases_eq j.address address) [
        | inl same ↦ elim (member_was link.member.0 j.tag j.def j.slot (subst (λ a. HasMember schema heap a link.member.0 j.tag j.def j.slot) same j.has)) [
          | inl here ↦
              let tags = same_object heap j.address address j.tag tag j.has.slots slots same j.has.object change.was in
              let at : link ≡ record { ty = record { 0 = tag.code }; member = record { 0 = member } } = ap₂ (λ (t n : ℕ). record { ty = record { 0 = t }; member = record { 0 = n } }) (sym j.ty ∙ ap (λ (t : RowTag). t.code) tags) here.0 in
              absurd (free at (sym j.from ∙ ap name_in tags))
          | inr stays ↦ joins_with link x z j (subst (λ a. HasMember schema now a link.member.0 j.tag j.def j.slot) (sym same) stays)
        ]
        | inr apart ↦ joins_with link x z j (member_elsewhere schema heap now j.address link.member.0 j.tag j.def j.slot (change.others j.address apart) j.has)
      ]

  -- at the second side of its link it shows no pair of its own
  module _ (second : comes_first (record { ty = record { 0 = tag.code }; member = record { 0 = member } }) def.inverse ≡ false) (own : AreNamesOwn heap) (pairs : sets.FinSet pair_cmp) (shown : ShowsPairs schema heap pairs) where
    no_link : IsLink schema (record { ty = record { 0 = tag.code }; member = record { 0 = member } }) → ⊥
    no_link link =
        let same : link.def ≡ def = same_Some link.def def (sym link.defined ∙ change.defined) in
        true≢false (sym link.first ∙ ap (λ (d : MemberDef). comes_first (record { ty = record { 0 = tag.code }; member = record { 0 = member } }) d.inverse) same ∙ second)

    pub pairs_stay : ShowsPairs schema now pairs
    pairs_stay pair = (
      λ e.
          let has = (shown pair).0 e in
          old_pair pair (ap not (false_from_ne_true (is_from (record { ty = record { 0 = tag.code }; member = record { 0 = member } }) (name_in tag) pair) (λ from. no_link (subst (IsLink schema) (from_parts (name_in tag) pair from).0 has.link)))) has,
      λ has. elim (back_pair own pair has) [
        | inl here ↦ absurd (no_link (subst (IsLink schema) here.0 has.link))
        | inr was ↦ (shown pair).1 was.1
      ],
    )

  -- the reference leads nowhere
  module _ (none : pointer ≡ 0) (own : AreNamesOwn heap) (pairs : sets.FinSet pair_cmp) (shown : ShowsPairs schema heap pairs) where
    left : (pair : Pair) → sets.contains (parted_from pairs (record { ty = record { 0 = tag.code }; member = record { 0 = member } }) (name_in tag)) pair ≡ (sets.contains pairs pair && not (is_from (record { ty = record { 0 = tag.code }; member = record { 0 = member } }) (name_in tag) pair))
    left pair = set_facts.contains-retain pairs (λ p. not (is_from (record { ty = record { 0 = tag.code }; member = record { 0 = member } }) (name_in tag) p)) pair (λ p e. ap (λ q. not (is_from (record { ty = record { 0 = tag.code }; member = record { 0 = member } }) (name_in tag) q)) (sym (pair_cmp-IsAntisymmetric pair p e)))

    pub pairs_parted : ShowsPairs schema now (parted_from pairs (record { ty = record { 0 = tag.code }; member = record { 0 = member } }) (name_in tag))
    pairs_parted pair = (
      λ e.
          let parts = and_parts (sets.contains pairs pair) (not (is_from (record { ty = record { 0 = tag.code }; member = record { 0 = member } }) (name_in tag) pair)) (sym (left pair) ∙ e) in
          old_pair pair parts.1 ((shown pair).0 parts.0),
      λ has. elim (back_pair own pair has) [
        | inl here ↦ absurd (here.2 none)
        | inr was ↦ left pair ∙ and_from (sets.contains pairs pair) _ ((shown pair).1 was.1) (ap not (false_from_ne_true (is_from (record { ty = record { 0 = tag.code }; member = record { 0 = member } }) (name_in tag) pair) was.0))
      ],
    )

  module _ (first : comes_first (record { ty = record { 0 = tag.code }; member = record { 0 = member } }) def.inverse ≡ true) (y : Name) (some : pointer ≢ 0) (named : name_at heap pointer ≡ Some y) (own : AreNamesOwn heap) (pairs : sets.FinSet pair_cmp) (shown : ShowsPairs schema heap pairs) where
    abbrev the_pair : Pair
    the_pair = record { link = record { ty = record { 0 = tag.code }; member = record { 0 = member } }; first = name_in tag; second = y }

    got : (pair : Pair) → sets.contains (joined_alone pairs (record { ty = record { 0 = tag.code }; member = record { 0 = member } }) (name_in tag) y) pair
        ≡ (eq_by_cmp pair_cmp pair the_pair || (sets.contains pairs pair && not (is_from (record { ty = record { 0 = tag.code }; member = record { 0 = member } }) (name_in tag) pair)))
    got pair =
        set_facts.contains-insert pair_cmp-IsTotalOrder (sets.retain pairs (λ p. not (is_from (record { ty = record { 0 = tag.code }; member = record { 0 = member } }) (name_in tag) p))) the_pair pair
        ∙ ap (λ b. eq_by_cmp pair_cmp pair the_pair || b)
        (set_facts.contains-retain pairs (λ p. not (is_from (record { ty = record { 0 = tag.code }; member = record { 0 = member } }) (name_in tag) p)) pair (λ p e. ap (λ q. not (is_from (record { ty = record { 0 = tag.code }; member = record { 0 = member } }) (name_in tag) q)) (sym (pair_cmp-IsAntisymmetric pair p e))))

    new_pair : HasPair schema now the_pair
    new_pair = record {
      link = is_link first;
      joins = record {
        address = address;
        tag = tag;
        def = def;
        slot = Slot.Refers pointer;
        has = record { slots = set slots member (Slot.Refers pointer); object = stands_now; defined = change.defined; held = slot_now };
        ty = refl;
        from = refl;
        pointer = pointer;
        leads = (refl, some);
        to = names_by_tags heap now tags_stay pointer ∙ named;
      };
    }

    forth : (pair : Pair) → sets.contains (joined_alone pairs (record { ty = record { 0 = tag.code }; member = record { 0 = member } }) (name_in tag) y) pair ≡ true → HasPair schema now pair
    forth pair e = elim (or_cases (eq_by_cmp pair_cmp pair the_pair) _ (sym (got pair) ∙ e)) [
      | inl tied ↦ subst (HasPair schema now) (sym (tied_same pair_cmp-IsAntisymmetric pair the_pair tied)) new_pair
      | inr both ↦
          let parts = and_parts (sets.contains pairs pair) (not (is_from (record { ty = record { 0 = tag.code }; member = record { 0 = member } }) (name_in tag) pair)) both in
          old_pair pair parts.1 ((shown pair).0 parts.0)
    ]

    -- a pair that was there and isn't from the side stays
    stays_there : (pair : Pair) → HasPair schema heap pair → (is_from (record { ty = record { 0 = tag.code }; member = record { 0 = member } }) (name_in tag) pair ≡ true → ⊥) → sets.contains (joined_alone pairs (record { ty = record { 0 = tag.code }; member = record { 0 = member } }) (name_in tag) y) pair ≡ true
    stays_there pair has free =
        got pair
        ∙ ap (λ b. eq_by_cmp pair_cmp pair the_pair || b) (and_from (sets.contains pairs pair) _ ((shown pair).1 has) (ap not (false_from_ne_true (is_from (record { ty = record { 0 = tag.code }; member = record { 0 = member } }) (name_in tag) pair) free)))
        ∙ or_true (eq_by_cmp pair_cmp pair the_pair)
      where
        or_true : (b : Bool) → (b || true) ≡ true
        or_true true = refl
        or_true false = refl

    back : (pair : Pair) → HasPair schema now pair → sets.contains (joined_alone pairs (record { ty = record { 0 = tag.code }; member = record { 0 = member } }) (name_in tag) y) pair ≡ true
    back pair has = elim (back_pair own pair has) [
      | inl here ↦
          let second : pair.second ≡ y = same_Some _ _ (sym here.3 ∙ names_by_tags heap now tags_stay pointer ∙ named) in
          let same : pair ≡ the_pair = λ i. record { link = here.0 i; first = here.1 i; second = second i } in
          got pair ∙ ap (λ b. b || (sets.contains pairs pair && not (is_from (record { ty = record { 0 = tag.code }; member = record { 0 = member } }) (name_in tag) pair))) (same_tied pair_cmp-IsTotalOrder pair the_pair same)
      | inr was ↦ stays_there pair was.1 was.0
    ]

    pub pairs_joined : ShowsPairs schema now (joined_alone pairs (record { ty = record { 0 = tag.code }; member = record { 0 = member } }) (name_in tag) y)
    pairs_joined pair = (forth pair, back pair)
