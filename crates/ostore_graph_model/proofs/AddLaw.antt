-- A cell of zeros is added with a name that no row has: the pages stay valid, and stand for the graph with that object.
use Rattle.std.proofs.Common.{◌≡◌, ◌≢◌, ℕ, ◌<◌, ◌≤◌, true, cond, List, [], ◌∷◌, length, map, get_or, refl, sym, ap, ap₂, subst, ◌∙◌, arith, Option, Some, None, inl, inr}
use Rattle.std.specs.List.{slice_get, Contains, All}
use Rattle.std.proofs.lemmas.List.{get_or-map}
use Rattle.std.specs.Option.{option_map}
use Rattle.std.specs.Ordering.{eq_by_cmp}
use Rattle.std.specs.FinMap as maps
use Rattle.ostore_graph_model.specs.Sets as sets
use Rattle.std.proofs.lemmas.Bool.{cases_eq, cases_Bool}
use Rattle.std.proofs.lemmas.Option.{same_Some, none-some}
use Rattle.ostore_page_tags.specs.Rules.{is_type_code}
use Rattle.ostore_schema_layout.specs.declared.schema.Schema.{Schema}
use Rattle.ostore_schema_layout.specs.declared.schema.MemberDef.{MemberDef}
use Rattle.ostore_schema_layout.specs.declared.schema.MemberKind.{MemberKind}
use Rattle.ostore_graph_model.specs.declared.values.Name.{Name}
use Rattle.ostore_graph_model.specs.declared.values.Scalar.{Scalar}
use Rattle.ostore_graph_model.specs.Orders.{Pair, name_cmp, pair_cmp}
use Rattle.ostore_graph_model.specs.Graph.{Object}
use Rattle.ostore_graph_model.specs.Chains.{item_type, LeadsTo}
use Rattle.ostore_graph_model.specs.Heap.{Heap, tag_at, code_at, name_at, name_in, live_cell, IsObject, HasMember}
use Rattle.ostore_graph_model.specs.HeapRules.{HasGoodPointers, KeepsPointers, KeepsSerials, KeepsItems}
use Rattle.ostore_graph_model.specs.Chunks.{ChunkEntry}
use Rattle.ostore_graph_model.specs.Records.{CollectionHead, Slot, Links, RowTag, HeapCell}
use Rattle.ostore_graph_model.specs.StandsFor.{HasPair, HasObject, ShowsObjects, ShowsPairs}
use Rattle.ostore_graph_model.proofs.OrderLaws.{tied_same, same_tied, apart_tied, name_cmp-IsTotalOrder, name_cmp-IsAntisymmetric}
use Rattle.ostore_graph_model.proofs.ObjectLaws.{Values, object_with, same_object, tag_of_cell}
use Rattle.ostore_graph_model.proofs.HeapLaws.{IsEmptySlot, ChangesObject, code_of, member_elsewhere, leads_kept, no_empty_leads}
use Rattle.ostore_graph_model.proofs.ItemLaws.{items_lead}

item_count : (entries : List ChunkEntry) → length (map (λ (e : ChunkEntry). e.item) entries) ≡ length entries
item_count [] = refl
item_count (entry ∷ entries) = let others = item_count entries in omega arith

-- a new object stands at an address where nothing was; its members hold nothing
pub record AddsObject (heap now : Heap) (address : ℕ) (tag : RowTag) (slots : List Slot) : Type 0 where
  pub free : heap address ≡ None
  pub stands : IsObject now address tag slots
  pub others : (other : ℕ) → other ≢ address → now other ≡ heap other
  pub empty : (m : ℕ) (slot : Slot) → slice_get slots m ≡ Some slot → IsEmptySlot slot
  -- no row has its name
  pub fresh : (other : ℕ) (also : RowTag) → tag_at heap other ≡ Some also → is_type_code also.code ≡ true → name_in also ≢ name_in tag

module _ (schema : Schema) (heap now : Heap) (address : ℕ) (tag : RowTag) (slots : List Slot) (adds : AddsObject heap now address tag slots) where
  code_free : (code : ℕ) → code_at heap address ≡ Some code → ⊥
  code_free code e = none-some code (sym (ap (option_map (λ (c : HeapCell). c.tag.code)) adds.free) ∙ e)

  -- where a row was, it is
  row_elsewhere : (other code : ℕ) → code_at heap other ≡ Some code → other ≢ address
  row_elsewhere other code there same = code_free code (ap (code_at heap) (sym same) ∙ there)

  pub added_codes : (other code : ℕ) → code_at heap other ≡ Some code → code_at now other ≡ Some code
  added_codes other code there = ap (option_map (λ (c : HeapCell). c.tag.code)) (adds.others other (row_elsewhere other code there)) ∙ there

  pub added_names : (other code : ℕ) → code_at heap other ≡ Some code → name_at now other ≡ name_at heap other
  added_names other code there = ap (λ (c : Option HeapCell). option_map name_in (option_map (λ (c : HeapCell). c.tag) c)) (adds.others other (row_elsewhere other code there))

  code_now : (code : ℕ) → code_at now address ≡ Some code → is_type_code code ≡ true
  code_now code e = subst (λ c. is_type_code c ≡ true) (same_Some _ _ (sym (code_of now address _ adds.stands.there) ∙ e)) adds.stands.typed

  slots_now : (also : RowTag) (held : List Slot) → IsObject now address also held → slots ≡ held
  slots_now also held object =
      let cells : live_cell tag (Links.Object slots) ≡ live_cell also (Links.Object held) = same_Some _ _ (sym adds.stands.there ∙ object.there) in
      let links : Links.Object slots ≡ Links.Object held = ap (λ (c : HeapCell). c.links) cells in
      cc

  -- its members hold nothing
  member_empty : (m : ℕ) (also : RowTag) (def : MemberDef) (slot : Slot) → HasMember schema now address m also def slot → IsEmptySlot slot
  member_empty m also def slot has = adds.empty m slot (ap (λ (l : List Slot). slice_get l m) (slots_now also has.slots has.object) ∙ has.held)

  member_was_not : (m : ℕ) (also : RowTag) (def : MemberDef) (slot : Slot) → HasMember schema heap address m also def slot → ⊥
  member_was_not m also def slot has = none-some _ (sym adds.free ∙ has.object.there)

  empty_good : (kind : MemberKind) (slot : Slot) → IsEmptySlot slot → HasGoodPointers schema now kind slot
  empty_good kind Slot.Plain none = tt
  empty_good kind (Slot.Refers pointer) none = λ some. absurd (some none)
  empty_good kind (Slot.Begins head) none = (λ some. absurd (some (ap (λ (h : CollectionHead). h.first) none)), λ some. absurd (some (ap (λ (h : CollectionHead). h.descriptor) none)))

  pub added_changes : ChangesObject schema heap now address
  added_changes = record {
    others = adds.others;
    before = λ code e. absurd (code_free code e);
    after = code_now;
    object = λ links e. (slots, sym (same_Some _ _ (sym (ap (option_map (λ (c : HeapCell). c.links)) adds.stands.there) ∙ e)));
    codes = added_codes;
    inverse = None;
    members = λ m also def slot has. inr (inl (member_empty m also def slot has));
    kept = λ m also def slot has. absurd (member_was_not m also def slot has);
    pointers = λ m also def slot has. empty_good def.kind slot (member_empty m also def slot has);
  }

  pub added_alone : added_changes.inverse ≡ None
  unfolding added_changes
  added_alone = refl

  -- ---- serials

  tag_here : tag_at now address ≡ Some tag
  tag_here = tag_of_cell now address _ adds.stands.there

  pub added_serials : (serials : ℕ → ℕ) → tag.serial ≤ serials tag.segment → ((other : ℕ) → KeepsSerials (tag_at heap) serials other) → (other : ℕ) → KeepsSerials (tag_at now) serials other
  added_serials serials low keeps other held there typed = elim (cases_eq other address) [
    | inl same ↦
        let is : tag ≡ held = same_Some _ _ (sym tag_here ∙ ap (tag_at now) (sym same) ∙ there) in
        record {
          own = λ next also found kind named. elim (cases_eq next address) [
            | inl here ↦ here ∙ sym same
            | inr apart ↦ absurd (adds.fresh next also (sym (ap (option_map (λ (c : HeapCell). c.tag)) (adds.others next apart)) ∙ found) kind (named ∙ ap name_in (sym is)))
          ];
          drawn = subst (λ (t : RowTag). t.serial ≤ serials t.segment) is low;
        }
    | inr away ↦
        let was = sym (ap (option_map (λ (c : HeapCell). c.tag)) (adds.others other away)) ∙ there in
        let kept = keeps other held was typed in
        record {
          own = λ next also found kind named. elim (cases_eq next address) [
            | inl here ↦
                let is : tag ≡ also = same_Some _ _ (sym tag_here ∙ ap (tag_at now) (sym here) ∙ found) in
                absurd (adds.fresh other held was typed (sym named ∙ ap name_in (sym is)))
            | inr apart ↦ kept.own next also (sym (ap (option_map (λ (c : HeapCell). c.tag)) (adds.others next apart)) ∙ found) kind named
          ];
          drawn = kept.drawn;
        }
  ]

  -- ---- objects

  module _ (values after : Values) (held : List (Option Scalar)) (objects : maps.FinMap name_cmp Object) (here : after address ≡ Some held) (elsewhere : (other : ℕ) → other ≢ address → after other ≡ values other) (shown : ShowsObjects heap values objects) where
    got : (name : Name) → maps.get (maps.insert objects (name_in tag) (object_with tag held)) name ≡ cond (eq_by_cmp name_cmp name (name_in tag)) (Some (object_with tag held)) (maps.get objects name)
    got name = maps.get-insert name_cmp-IsTotalOrder objects (name_in tag) (object_with tag held) name

    forth : (name : Name) (object : Object) → maps.get (maps.insert objects (name_in tag) (object_with tag held)) name ≡ Some object → HasObject now after name object
    forth name object e = elim (cases_Bool (eq_by_cmp name_cmp name (name_in tag))) [
      | inl tied ↦
          let same = tied_same name_cmp-IsAntisymmetric name (name_in tag) tied in
          let is : object_with tag held ≡ object = same_Some _ _ (sym (got name ∙ ap (λ b. cond b (Some (object_with tag held)) (maps.get objects name)) tied) ∙ e) in
          record { address = address; tag = tag; slots = slots; stands = adds.stands; named = sym same; ty = ap (λ (o : Object). o.ty.0) is; held = here ∙ ap (λ (o : Object). Some o.values) is }
      | inr free ↦
          let was : HasObject heap values name object = (shown name object).0 (sym (got name ∙ ap (λ b. cond b (Some (object_with tag held)) (maps.get objects name)) free) ∙ e) in
          let apart : was.address ≢ address = row_elsewhere was.address was.tag.code (code_of heap was.address _ was.stands.there) in
          record {
            address = was.address;
            tag = was.tag;
            slots = was.slots;
            stands = record { there = adds.others was.address apart ∙ was.stands.there; typed = was.stands.typed };
            named = was.named;
            ty = was.ty;
            held = elsewhere was.address apart ∙ was.held;
          }
    ]

    back : (name : Name) (object : Object) → HasObject now after name object → maps.get (maps.insert objects (name_in tag) (object_with tag held)) name ≡ Some object
    back name object has = elim (cases_eq has.address address) [
      | inl same ↦
          let tags = same_object now has.address address has.tag tag has.slots slots same has.stands adds.stands in
          let tied = same_tied name_cmp-IsTotalOrder name (name_in tag) (sym has.named ∙ ap name_in tags) in
          let ty : tag.code ≡ object.ty.0 = sym (ap (λ (t : RowTag). t.code) tags) ∙ has.ty in
          let values_are : held ≡ object.values = same_Some _ _ (sym here ∙ ap after (sym same) ∙ has.held) in
          got name
          ∙ ap (λ b. cond b (Some (object_with tag held)) (maps.get objects name)) tied
          ∙ ap₂ (λ (t : ℕ) (v : List (Option Scalar)). Some (record { ty = record { 0 = t }; values = v })) ty values_are
      | inr apart ↦
          let there : heap has.address ≡ Some (live_cell has.tag (Links.Object has.slots)) = sym (adds.others has.address apart) ∙ has.stands.there in
          let was = (shown name object).1 (record {
            address = has.address;
            tag = has.tag;
            slots = has.slots;
            stands = record { there = there; typed = has.stands.typed };
            named = has.named;
            ty = has.ty;
            held = sym (elsewhere has.address apart) ∙ has.held;
          }) in
          let free = apart_tied name_cmp-IsAntisymmetric name (name_in tag) (λ same. adds.fresh has.address has.tag (tag_of_cell heap has.address _ there) has.stands.typed (has.named ∙ same)) in
          got name ∙ ap (λ b. cond b (Some (object_with tag held)) (maps.get objects name)) free ∙ was
    ]

    pub objects_added : ShowsObjects now after (maps.insert objects (name_in tag) (object_with tag held))
    objects_added name object = (forth name object, back name object)

  -- ---- pairs

  module _ (pointers : (other : ℕ) → KeepsPointers schema heap other) (items : (other : ℕ) → KeepsItems heap other) where
    -- what a member leads to is a row
    leads_row : (other m : ℕ) (also : RowTag) (def : MemberDef) (slot : Slot) (pointer : ℕ) → HasMember schema heap other m also def slot → LeadsTo heap also.segment def.kind slot pointer → code_at heap pointer ≡ Some (item_type def.kind)
    leads_row other m also def Slot.Plain pointer has leads = absurd leads
    leads_row other m also def (Slot.Refers held) pointer has leads =
        ap (code_at heap) (sym leads.0) ∙ (pointers other).members m also def (Slot.Refers held) has (λ none. leads.1 (sym leads.0 ∙ none))
    leads_row other m also def (Slot.Begins head) pointer has leads =
        item_of leads.entries (items_lead schema heap pointers items other m also def head leads.entries has leads.has) leads.there
      where
        item_of : (entries : List ChunkEntry) → All (λ entry. code_at heap entry.item ≡ Some (item_type def.kind)) entries → Contains (map (λ entry. entry.item) entries) pointer → code_at heap pointer ≡ Some (item_type def.kind)
        item_of [] all there = absurd (omega (arith, there.1))
        item_of (entry ∷ entries) all there = found there.0 there.1 there.2
          where
            found : (k : ℕ) → k < length (map (λ (e : ChunkEntry). e.item) (entry ∷ entries)) → get_or (map (λ (e : ChunkEntry). e.item) (entry ∷ entries)) k pointer ≡ pointer → code_at heap pointer ≡ Some (item_type def.kind)
            found k below is =
                let within : k < length (entry ∷ entries) = subst (λ n. k < n) (item_count (entry ∷ entries)) below in
                ap (code_at heap) (sym is ∙ get_or-map (λ (e : ChunkEntry). e.item) (entry ∷ entries) k entry pointer within) ∙ all k entry within

    pairs_forth : (pair : Pair) → HasPair schema heap pair → HasPair schema now pair
    pairs_forth pair has =
        let j = has.joins in
        let row = leads_row j.address pair.link.member.0 j.tag j.def j.slot j.pointer j.has j.leads in
        record {
          link = has.link;
          joins = record {
            address = j.address;
            tag = j.tag;
            def = j.def;
            slot = j.slot;
            has = member_elsewhere schema heap now j.address pair.link.member.0 j.tag j.def j.slot (adds.others j.address (row_elsewhere j.address j.tag.code (code_of heap j.address _ j.has.object.there))) j.has;
            ty = j.ty;
            from = j.from;
            pointer = j.pointer;
            leads = leads_kept heap now address adds.others (λ code e. absurd (code_free code e)) j.tag.segment j.def.kind j.slot j.pointer j.leads;
            to = added_names j.pointer _ row ∙ j.to;
          };
        }

    pairs_back : (pair : Pair) → HasPair schema now pair → HasPair schema heap pair
    pairs_back pair has =
        let j = has.joins in
        elim (cases_eq j.address address) [
          | inl same ↦
              absurd (no_empty_leads schema heap now address added_changes j.tag.segment j.def.kind j.slot j.pointer
              (member_empty pair.link.member.0 j.tag j.def j.slot (subst (λ a. HasMember schema now a pair.link.member.0 j.tag j.def j.slot) same j.has)) j.leads)
          | inr apart ↦
              let was = member_elsewhere schema now heap j.address pair.link.member.0 j.tag j.def j.slot (sym (adds.others j.address apart)) j.has in
              let leads = leads_kept now heap address (λ a away. sym (adds.others a away)) code_now j.tag.segment j.def.kind j.slot j.pointer j.leads in
              let row = leads_row j.address pair.link.member.0 j.tag j.def j.slot j.pointer was leads in
              record {
                link = has.link;
                joins = record { address = j.address; tag = j.tag; def = j.def; slot = j.slot; has = was; ty = j.ty; from = j.from; pointer = j.pointer; leads = leads; to = sym (added_names j.pointer _ row) ∙ j.to };
              }
        ]

    pub pairs_added : (pairs : sets.FinSet pair_cmp) → ShowsPairs schema heap pairs → ShowsPairs schema now pairs
    pairs_added pairs shown pair = (λ e. pairs_forth pair ((shown pair).0 e), λ has. (shown pair).1 (pairs_back pair has))
