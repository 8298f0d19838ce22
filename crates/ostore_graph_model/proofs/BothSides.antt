-- What the sides of links show after an edit of one, and that the links are good where each side shows the graph's pairs.
use Rattle.std.proofs.Common.{◌≡◌, ◌≢◌, ◌↔◌, ◌⊎◌, ◌&&◌, ◌||◌, not, ℕ, Bool, true, false, cond, List, refl, sym, ap, ap₂, subst, ◌∙◌, Option, Some, None, inl, inr}
use Rattle.std.specs.List.{slice_get, Contains}
use Rattle.std.specs.Option.{option_map, option_map_or, option_and_then}
use Rattle.std.specs.declared.cmp.Ordering.{Ordering}
use Rattle.std.specs.declared.cmp.Ordering.TheVariants.{Less, Equal, Greater}
use Rattle.std.specs.Ordering.{is_lt, eq_by_cmp, ordering_reverse}
use Rattle.std.proofs.lemmas.Bool.{cases_Bool, cases_eq, true≢false}
use Rattle.std.proofs.lemmas.Option.{same_Some, none-some}
use Rattle.ostore_graph_model.specs.Sets as sets
use Rattle.ostore_base.specs.declared.page.PageImage.{PageImage}
use Rattle.ostore_page_tags.specs.Rules.{is_type_code}
use Rattle.ostore_schema_layout.specs.declared.schema.Schema.{Schema}
use Rattle.ostore_schema_layout.specs.declared.schema.MemberDef.{MemberDef}
use Rattle.ostore_schema_layout.specs.declared.schema.Inverse.{Inverse}
use Rattle.ostore_schema_layout.specs.Numbers.{members_of}
use Rattle.ostore_schema_layout.specs.Lawful.{inverse_of, link_target, IsTwoSided, IsLawful}
use Rattle.ostore_graph_model.specs.declared.values.Name.{Name}
use Rattle.ostore_graph_model.specs.Orders.{TypeMember, type_member_cmp, name_cmp, Pair, pair_cmp}
use Rattle.ostore_graph_model.specs.Graph.{Graph}
use Rattle.ostore_graph_model.specs.Links.{def_of, inverse_at, member_of_inverse, is_ref_member, comes_first, pair_from, pair_at, near_end, far_end, joins_from, joins_to, is_displaced, joined, parted, side}
use Rattle.ostore_graph_model.specs.Chains.{item_type, LeadsTo}
use Rattle.ostore_graph_model.specs.FixedPages.{serial_of}
use Rattle.ostore_graph_model.specs.Heap.{Heap, tag_at, code_at, name_at, name_in, HasMember}
use Rattle.ostore_graph_model.specs.HeapRules.{HasSideTo}
use Rattle.ostore_graph_model.specs.Records.{Slot, RowTag, HeapCell, tag_of, heap_of}
use Rattle.ostore_graph_model.specs.StandsFor.{Joins}
use Rattle.ostore_graph_model.specs.CollectionEdits.{entry_items}
use Rattle.ostore_graph_model.specs.LawsOfMeaning.{HoldGraph}
use Rattle.ostore_graph_model.specs.LawsOfBothSides.{LawOfReferenceSides, LawOfSetSides, LawOfGoodLinks, freed, LawOfJoining}
use Rattle.ostore_graph_model.proofs.OrderLaws.{type_member_cmp-IsTotalOrder, pair_cmp-IsTotalOrder, pair_cmp-IsAntisymmetric}
use Rattle.ostore_graph_model.proofs.SetFacts as set_facts
use Rattle.ostore_graph_model.proofs.ObjectLaws.{AreNamesOwn, names_own, tag_of_cell}
use Rattle.ostore_graph_model.proofs.ItemLaws.{leads_to_row}
use Rattle.ostore_graph_model.proofs.MemberEdits.{cell_sized, slots_in}
use Rattle.ostore_graph_model.proofs.PartnerLaws.{side_contains}
use Rattle.ostore_graph_model.proofs.ReferenceLaw.{change}
use Rattle.ostore_graph_model.proofs.ReferenceLaws.{joins_edited}
use Rattle.ostore_graph_model.proofs.SetLaws.{joins_changed}
use Rattle.ostore_graph_model.proofs.SideLaws.{two_sided, other_first}
use Rattle.ostore_graph_model.proofs.Meant.Rows.{target_typed}
use Rattle.ostore_graph_model.proofs.Meant.Collections.{member_kind}
use Rattle.ostore_graph_model.proofs.Meant.Pairs.{side_leads}

-- ---- edits

pub reference_sides : LawOfReferenceSides
reference_sides schema old new address member cell place target pointer graph holds write at x y =
    let sized = cell_sized schema old address cell holds.cells_kept write.has.there in
    let is = joins_edited schema (heap_of schema old) (heap_of schema new) address member (tag_of cell) (slots_in schema cell) write.def pointer
    (change schema old new address member cell place target pointer write sized)
    (names_own (heap_of schema old) (serial_of old) holds.cells_kept.serials) at x y in (
      λ j. elim (is.0 j) [ inl here ↦ inl (here.0, here.1, (here.2, here.3)) | inr was ↦ inr (was.0, was.1) ],
      λ h. is.1 (elim h [ inl here ↦ inl (here.0, here.1, here.2.0, here.2.1) | inr was ↦ inr (was.0, was.1) ]),
    )

pub set_sides : LawOfSetSides
set_sides schema old new address member tag def target before after graph holds write kind at x y =
    let cells = holds.cells_kept in
    let own = names_own (heap_of schema old) (serial_of old) cells.serials in
    let is = joins_changed schema (heap_of schema old) (heap_of schema new) address member tag def write.slots write.was write.is write.chain write.links write.changes cells.chains cells.pointers cells.items own at x y in
    subst (λ entries. Joins schema (heap_of schema new) at x y
    ↔ (((at ≡ record { ty = record { 0 = tag.code }; member = record { 0 = member } }) × (x ≡ name_in tag) × ((item : ℕ) × Contains (entry_items entries) item × (name_at (heap_of schema new) item ≡ Some y)))
    ⊎ ((at ≡ record { ty = record { 0 = tag.code }; member = record { 0 = member } } → x ≢ name_in tag) × Joins schema (heap_of schema old) at x y))) write.after_is is

-- ---- the pair of two sides

-- the pair of two objects is the same from either side
module _ (schema : Schema) (lawful : IsLawful schema) (at : TypeMember) (def : MemberDef) (inverse : Inverse) (defined : def_of schema at ≡ Some def) (sided : def.inverse ≡ Some inverse) where
  abbrev other : TypeMember
  other = member_of_inverse inverse

  two : IsTwoSided schema at.ty at.member def.kind inverse
  two = two_sided schema lawful at.ty at.member def inverse defined sided

  here : inverse_at schema at ≡ Some inverse
  here = ap (option_and_then (λ (d : MemberDef). d.inverse)) defined ∙ sided

  there : inverse_at schema (member_of_inverse inverse) ≡ Some (inverse_of at.ty at.member)
  there = ap (option_and_then (λ (d : MemberDef). d.inverse)) two.named.there ∙ two.named.back

  apart : at ≢ member_of_inverse inverse
  apart same = two.apart (λ i. record { ty = (sym same i).ty; member = (sym same i).member })

  not_both : is_lt (type_member_cmp at (member_of_inverse inverse)) ≡ true → is_lt (type_member_cmp (member_of_inverse inverse) at) ≡ false
  not_both first = by (type_member_cmp at (member_of_inverse inverse)) refl
    where
      by : (order : Ordering) → type_member_cmp at (member_of_inverse inverse) ≡ order → is_lt (type_member_cmp (member_of_inverse inverse) at) ≡ false
      by Less e = ap is_lt (type_member_cmp-IsTotalOrder.antisymm (member_of_inverse inverse) at ∙ ap ordering_reverse e)
      by Equal e = absurd (true≢false (sym first ∙ ap is_lt e))
      by Greater e = absurd (true≢false (sym first ∙ ap is_lt e))

  pub same_pair : (x y : Name) → pair_at schema at x y ≡ pair_at schema (member_of_inverse inverse) y x
  same_pair x y =
      ap (λ (i : Option Inverse). pair_from at i x y) here
      ∙ elim (cases_Bool (is_lt (type_member_cmp at (member_of_inverse inverse)))) [
        | inl first ↦
            ap (λ b. cond b one_way other_way) first
            ∙ sym (ap (λ b. cond b other_way one_way) (not_both first))
        | inr second ↦
            ap (λ b. cond b one_way other_way) second
            ∙ sym (ap (λ b. cond b other_way one_way) (other_first at (member_of_inverse inverse) second apart))
      ]
      ∙ sym (ap (λ (i : Option Inverse). pair_from (member_of_inverse inverse) i y x) there)
    where
      one_way : Pair
      one_way = record { link = at; first = x; second = y }

      other_way : Pair
      other_way = record { link = member_of_inverse inverse; first = y; second = x }

-- ---- links are good again

-- the tag of a row, by its code and its name
row_tag : (heap : Heap) (pointer code : ℕ) → code_at heap pointer ≡ Some code → (tag : RowTag) × (tag_at heap pointer ≡ Some tag) × (tag.code ≡ code)
row_tag heap pointer code there = by (heap pointer) refl
  where
    by : (found : Option HeapCell) → heap pointer ≡ found → (tag : RowTag) × (tag_at heap pointer ≡ Some tag) × (tag.code ≡ code)
    by None e = absurd (none-some code (sym (ap (option_map (λ (c : HeapCell). c.tag.code)) e) ∙ there))
    by (Some cell) e = (cell.tag, ap (option_map (λ (c : HeapCell). c.tag)) e, same_Some _ _ (sym (ap (option_map (λ (c : HeapCell). c.tag.code)) e) ∙ there))

pub good_links : LawOfGoodLinks
good_links schema pages graph holds shows address member tag def slot inverse target has sided leads =
    record {
      tag = k.tag;
      def = k.def;
      slot = k.slot;
      has = subst (λ a. HasMember schema (heap_of schema pages) a inverse.member.0 k.tag k.def k.slot) at_target k.has;
      sided = λ none. none-some _ (sym none ∙ ap (λ (d : MemberDef). d.inverse) (sym other_def) ∙ back.named.back);
      leads = subst (LeadsTo (heap_of schema pages) k.tag.segment k.def.kind k.slot) at_address k.leads;
    }
  where
    lawful : IsLawful schema
    lawful = holds.pages_kept.spelled.lawful

    at : TypeMember
    at = record { ty = record { 0 = tag.code }; member = record { 0 = member } }

    own : AreNamesOwn (heap_of schema pages)
    own = names_own (heap_of schema pages) (serial_of pages) holds.cells_kept.serials

    back : IsTwoSided schema (record { 0 = tag.code }) (record { 0 = member }) def.kind inverse
    back = two_sided schema lawful (record { 0 = tag.code }) (record { 0 = member }) def inverse has.defined sided

    -- the row at the target, and its name
    row : code_at (heap_of schema pages) target ≡ Some (item_type def.kind)
    row = leads_to_row schema (heap_of schema pages) holds.cells_kept.pointers holds.cells_kept.items address member tag def slot has target leads

    to : (t : RowTag) × (tag_at (heap_of schema pages) target ≡ Some t) × (t.code ≡ item_type def.kind)
    to = row_tag (heap_of schema pages) target (item_type def.kind) row

    -- the pair is in the graph, so the other side shows it
    j : Joins schema (heap_of schema pages) (record { ty = record { 0 = tag.code }; member = record { 0 = member } }) (name_in tag) (name_in to.0)
    j = record { address = address; tag = tag; def = def; slot = slot; has = has; ty = refl; from = refl; pointer = target; leads = leads; to = ap (option_map name_in) to.1 }

    in_graph : sets.contains graph.pairs (pair_at schema (member_of_inverse inverse) (name_in to.0) (name_in tag)) ≡ true
    in_graph =
        ap (sets.contains graph.pairs) (sym (same_pair schema lawful (record { ty = record { 0 = tag.code }; member = record { 0 = member } }) def inverse has.defined sided (name_in tag) (name_in to.0)))
        ∙ (side_contains schema graph (record { ty = record { 0 = tag.code }; member = record { 0 = member } }) (name_in tag) (name_in to.0)).0
        ((shows (record { ty = record { 0 = tag.code }; member = record { 0 = member } }) def (name_in tag) (name_in to.0) has.defined (λ none. none-some inverse (sym none ∙ sided))).0 j)

    k : Joins schema (heap_of schema pages) (member_of_inverse inverse) (name_in to.0) (name_in tag)
    k = (shows (member_of_inverse inverse) back.named.other (name_in to.0) (name_in tag) back.named.there (λ none. none-some _ (sym none ∙ back.named.back))).1
        ((side_contains schema graph (member_of_inverse inverse) (name_in to.0) (name_in tag)).1 in_graph)

    other_def : back.named.other ≡ k.def
    other_def = same_Some _ _ (sym back.named.there ∙ ap (λ code. slice_get (members_of schema code) inverse.member.0) (sym k.ty) ∙ k.has.defined)

    at_target : k.address ≡ target
    at_target =
        let typed : is_type_code (to.0).code ≡ true = ap is_type_code to.2 ∙ target_typed schema lawful def.kind (member_kind schema pages graph holds address member tag def slot has) (side_leads def.kind (λ none. none-some inverse.ty (sym none ∙ back.leads))) in
        own target k.address to.0 k.tag to.1 typed (tag_of_cell (heap_of schema pages) k.address _ k.has.object.there) k.has.object.typed k.from

    at_address : k.pointer ≡ address
    at_address =
        let code = leads_to_row schema (heap_of schema pages) holds.cells_kept.pointers holds.cells_kept.items k.address inverse.member.0 k.tag k.def k.slot k.has k.pointer k.leads in
        let row_k = row_tag (heap_of schema pages) k.pointer (item_type k.def.kind) code in
        let linked : link_target k.def.kind ≢ None = λ none. none-some _ (sym none ∙ ap (λ (d : MemberDef). link_target d.kind) (sym other_def) ∙ back.named.target) in
        let typed : is_type_code (row_k.0).code ≡ true = ap is_type_code row_k.2 ∙ target_typed schema lawful k.def.kind (member_kind schema pages graph holds k.address inverse.member.0 k.tag k.def k.slot k.has) (side_leads k.def.kind linked) in
        let named : name_in row_k.0 ≡ name_in tag = same_Some _ _ (sym (ap (option_map name_in) row_k.1) ∙ k.to) in
        own address k.pointer tag row_k.0 (tag_of_cell (heap_of schema pages) address _ has.object.there) has.object.typed row_k.1 typed named

-- ---- joining on the graph

module _ (schema : Schema) where
  freed_has : (member : TypeMember) (x : Name) (pairs : sets.FinSet pair_cmp) (pair : Pair) → sets.contains (freed schema member x pairs) pair ≡ (sets.contains pairs pair && not (is_ref_member schema member && joins_from schema member x pair))
  freed_has member x pairs pair = elim (cases_Bool (is_ref_member schema member)) [
    | inl ref ↦
        ap (λ b. sets.contains (cond b (parted schema member x pairs) pairs) pair) ref
        ∙ set_facts.contains-retain pairs (λ p. not (joins_from schema member x p)) pair (λ p e. ap (λ q. not (joins_from schema member x q)) (sym (pair_cmp-IsAntisymmetric pair p e)))
        ∙ ap (λ b. sets.contains pairs pair && not (b && joins_from schema member x pair)) (sym ref)
    | inr other ↦
        ap (λ b. sets.contains (cond b (parted schema member x pairs) pairs) pair) other
        ∙ with_true (sets.contains pairs pair)
        ∙ ap (λ b. sets.contains pairs pair && not (b && joins_from schema member x pair)) (sym other)
  ]
    where
      with_true : (b : Bool) → b ≡ (b && not false)
      with_true true = refl
      with_true false = refl

  module _ (lawful : IsLawful schema) (at : TypeMember) (def : MemberDef) (inverse : Inverse) (defined : def_of schema at ≡ Some def) (sided : def.inverse ≡ Some inverse) (x y : Name) (pairs : sets.FinSet pair_cmp) where
    far_is_near : (pair : Pair) → far_end schema at pair ≡ near_end schema (member_of_inverse inverse) pair
    far_is_near pair =
        ap (λ i. cond (comes_first at i) pair.second pair.first) (here schema lawful at def inverse defined sided)
        ∙ elim (cases_Bool (is_lt (type_member_cmp at (member_of_inverse inverse)))) [
          | inl first ↦
              ap (λ b. cond b pair.second pair.first) first
              ∙ sym (ap (λ b. cond b pair.first pair.second) (not_both schema lawful at def inverse defined sided first))
          | inr second ↦
              ap (λ b. cond b pair.second pair.first) second
              ∙ sym (ap (λ b. cond b pair.first pair.second) (other_first at (member_of_inverse inverse) second (apart schema lawful at def inverse defined sided)))
        ]
        ∙ sym (ap (λ i. cond (comes_first (member_of_inverse inverse) i) pair.first pair.second) (there schema lawful at def inverse defined sided))

    to_is_from : (pair : Pair) → joins_to schema at y pair ≡ joins_from schema (member_of_inverse inverse) y pair
    to_is_from pair =
        ap₂ (λ (link : TypeMember) (z : Name). eq_by_cmp type_member_cmp pair.link link && eq_by_cmp name_cmp z y)
        (ap (λ (p : Pair). p.link) (same_pair schema lawful at def inverse defined sided y y)) (far_is_near pair)

    displaced_is : (pair : Pair) → is_displaced schema at x y pair
        ≡ ((is_ref_member schema at && joins_from schema at x pair) || (is_ref_member schema (member_of_inverse inverse) && joins_from schema (member_of_inverse inverse) y pair))
    displaced_is pair =
        ap₂ (λ (r j : Bool). (is_ref_member schema at && joins_from schema at x pair) || (r && j))
        (ap (λ (i : Option Inverse). option_map_or (is_ref_member schema) (option_map member_of_inverse i) false) (here schema lawful at def inverse defined sided)) (to_is_from pair)

    both_left : (c a b : Bool) → (c && not (a || b)) ≡ ((c && not a) && not b)
    both_left true true b = refl
    both_left true false b = refl
    both_left false a b = refl

    left_is : sets.retain pairs (λ pair. not (is_displaced schema at x y pair)) ≡ freed schema (member_of_inverse inverse) y (freed schema at x pairs)
    left_is =
        set_facts.same_set pair_cmp-IsTotalOrder pair_cmp-IsAntisymmetric _ _ (λ pair.
        set_facts.contains-retain pairs (λ p. not (is_displaced schema at x y p)) pair (λ p e. ap (λ q. not (is_displaced schema at x y q)) (sym (pair_cmp-IsAntisymmetric pair p e)))
        ∙ ap (λ b. sets.contains pairs pair && not b) (displaced_is pair)
        ∙ both_left (sets.contains pairs pair) (is_ref_member schema at && joins_from schema at x pair) (is_ref_member schema (member_of_inverse inverse) && joins_from schema (member_of_inverse inverse) y pair)
        ∙ ap (λ b. b && not (is_ref_member schema (member_of_inverse inverse) && joins_from schema (member_of_inverse inverse) y pair)) (sym (freed_has at x pairs pair))
        ∙ sym (freed_has (member_of_inverse inverse) y (freed schema at x pairs) pair))

pub joining : LawOfJoining
joining schema lawful at inverse x y pairs sided = by (def_of schema at) refl
  where
    by : (found : Option MemberDef) → def_of schema at ≡ found → joined schema at x y pairs ≡ sets.insert (freed schema (member_of_inverse inverse) y (freed schema at x pairs)) (pair_at schema at x y)
    by None e = absurd (none-some inverse (sym (ap (option_and_then (λ (d : MemberDef). d.inverse)) e) ∙ sided))
    by (Some def) e =
        let own = sym (ap (option_and_then (λ (d : MemberDef). d.inverse)) e) ∙ sided in
        ap (λ s. sets.insert s (pair_at schema at x y)) (left_is schema lawful at def inverse e own x y pairs)
