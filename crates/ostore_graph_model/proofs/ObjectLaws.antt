-- What becomes of the objects of a graph where the values of one are changed, or where one is made.
use Rattle.std.proofs.Common.{◌≡◌, ◌≢◌, ℕ, true, cond, List, sym, ap, ap₂, ◌∙◌, Option, Some, inl, inr, true≢false}
use Rattle.std.specs.Ordering.{eq_by_cmp}
use Rattle.std.specs.FinMap as maps
use Rattle.std.specs.Option.{option_map}
use Rattle.std.proofs.lemmas.Bool.{cases_eq, cases_Bool}
use Rattle.std.proofs.lemmas.Option.{same_Some}
use Rattle.ostore_page_tags.specs.Rules.{is_type_code}
use Rattle.ostore_graph_model.specs.declared.values.Name.{Name}
use Rattle.ostore_graph_model.specs.declared.values.Scalar.{Scalar}
use Rattle.ostore_graph_model.specs.Orders.{name_cmp}
use Rattle.ostore_graph_model.specs.Graph.{Object}
use Rattle.ostore_graph_model.specs.Heap.{Heap, tag_at, name_in, IsObject}
use Rattle.ostore_graph_model.specs.HeapRules.{KeepsSerials}
use Rattle.ostore_graph_model.specs.Records.{Slot, RowTag, HeapCell}
use Rattle.ostore_graph_model.specs.StandsFor.{HasObject, ShowsObjects}
use Rattle.ostore_graph_model.proofs.OrderLaws.{name_cmp-IsTotalOrder, name_cmp-IsAntisymmetric, tied_same, same_tied, apart_tied}

abbrev pub Values : Type 0
Values = ℕ → Option (List (Option Scalar))

-- a name is that of one row
abbrev pub AreNamesOwn : Heap → Type 0
AreNamesOwn heap = (a b : ℕ) (tag also : RowTag) → tag_at heap a ≡ Some tag → is_type_code tag.code ≡ true → tag_at heap b ≡ Some also → is_type_code also.code ≡ true → name_in also ≡ name_in tag → b ≡ a

pub names_own : (heap : Heap) (serials : ℕ → ℕ) → ((address : ℕ) → KeepsSerials (tag_at heap) serials address) → AreNamesOwn heap
names_own heap serials keeps a b tag also at typed there kind same = (keeps a tag at typed).own b also there kind same

pub tag_of_cell : (heap : Heap) (address : ℕ) (cell : HeapCell) → heap address ≡ Some cell → tag_at heap address ≡ Some cell.tag
tag_of_cell heap address cell there = ap (option_map (λ (c : HeapCell). c.tag)) there

-- two objects at one address are one, and so are two of one name
pub same_object : (heap : Heap) (a b : ℕ) (tag also : RowTag) (slots held : List Slot) → a ≡ b → IsObject heap a tag slots → IsObject heap b also held → tag ≡ also
same_object heap a b tag also slots held same one two =
    same_Some tag also (sym (tag_of_cell heap a _ one.there) ∙ ap (tag_at heap) same ∙ tag_of_cell heap b _ two.there)

pub named_object : (heap : Heap) (a b : ℕ) (tag also : RowTag) (slots held : List Slot) → AreNamesOwn heap → IsObject heap a tag slots → IsObject heap b also held → name_in also ≡ name_in tag → b ≡ a
named_object heap a b tag also slots held own one two same =
    own a b tag also (tag_of_cell heap a _ one.there) one.typed (tag_of_cell heap b _ two.there) two.typed same

abbrev pub object_with : RowTag → List (Option Scalar) → Object
object_with tag values = record { ty = record { 0 = tag.code }; values = values }

-- ---- the values of one object are changed

module _ (heap : Heap) (values now : Values) (address : ℕ) (tag : RowTag) (slots : List Slot) (held : List (Option Scalar)) (objects : maps.FinMap name_cmp Object)
    (own : AreNamesOwn heap) (is : IsObject heap address tag slots)
    (here : now address ≡ Some held) (others : (other : ℕ) → other ≢ address → now other ≡ values other)
    (before : ShowsObjects heap values objects) where
  got : (name : Name) → maps.get (maps.insert objects (name_in tag) (object_with tag held)) name ≡ cond (eq_by_cmp name_cmp name (name_in tag)) (Some (object_with tag held)) (maps.get objects name)
  got name = maps.get-insert name_cmp-IsTotalOrder objects (name_in tag) (object_with tag held) name

  forth : (name : Name) (object : Object) → maps.get (maps.insert objects (name_in tag) (object_with tag held)) name ≡ Some object → HasObject heap now name object
  forth name object e = elim (cases_Bool (eq_by_cmp name_cmp name (name_in tag))) [
    | inl tied ↦
        let same = tied_same name_cmp-IsAntisymmetric name (name_in tag) tied in
        let is_object : object_with tag held ≡ object = same_Some _ _ (sym (got name ∙ ap (λ b. cond b (Some (object_with tag held)) (maps.get objects name)) tied) ∙ e) in
        record {
          address = address;
          tag = tag;
          slots = slots;
          stands = is;
          named = sym same;
          ty = ap (λ (o : Object). o.ty.0) is_object;
          held = here ∙ ap (λ (o : Object). Some o.values) is_object;
        }
    | inr free ↦
        let was : HasObject heap values name object = (before name object).0 (sym (got name ∙ ap (λ b. cond b (Some (object_with tag held)) (maps.get objects name)) free) ∙ e) in
        let apart : was.address ≢ address = λ same.
        let tags = same_object heap was.address address was.tag tag was.slots slots same was.stands is in
        true≢false (sym (same_tied name_cmp-IsTotalOrder name (name_in tag) (sym was.named ∙ ap name_in tags)) ∙ free) in
        record {
          address = was.address;
          tag = was.tag;
          slots = was.slots;
          stands = was.stands;
          named = was.named;
          ty = was.ty;
          held = others was.address apart ∙ was.held;
        }
  ]

  back : (name : Name) (object : Object) → HasObject heap now name object → maps.get (maps.insert objects (name_in tag) (object_with tag held)) name ≡ Some object
  back name object has = elim (cases_eq has.address address) [
    | inl same ↦
        let tags = same_object heap has.address address has.tag tag has.slots slots same has.stands is in
        let tied = same_tied name_cmp-IsTotalOrder name (name_in tag) (sym has.named ∙ ap name_in tags) in
        let ty : tag.code ≡ object.ty.0 = sym (ap (λ (t : RowTag). t.code) tags) ∙ has.ty in
        let values_are : held ≡ object.values = same_Some _ _ (sym here ∙ ap now (sym same) ∙ has.held) in
        got name
        ∙ ap (λ b. cond b (Some (object_with tag held)) (maps.get objects name)) tied
        ∙ ap₂ (λ (t : ℕ) (v : List (Option Scalar)). Some (record { ty = record { 0 = t }; values = v })) ty values_are
    | inr apart ↦
        let was = (before name object).1 (record {
          address = has.address;
          tag = has.tag;
          slots = has.slots;
          stands = has.stands;
          named = has.named;
          ty = has.ty;
          held = sym (others has.address apart) ∙ has.held;
        }) in
        let free = apart_tied name_cmp-IsAntisymmetric name (name_in tag) (λ same. apart (named_object heap address has.address tag has.tag slots has.slots own is has.stands (has.named ∙ same))) in
        got name ∙ ap (λ b. cond b (Some (object_with tag held)) (maps.get objects name)) free ∙ was
  ]

  pub objects_changed : ShowsObjects heap now (maps.insert objects (name_in tag) (object_with tag held))
  objects_changed name object = (forth name object, back name object)

-- ---- the object of a name

pub object_of_name : (heap : Heap) (values : Values) (address : ℕ) (tag : RowTag) (slots : List Slot) (held : List (Option Scalar)) (objects : maps.FinMap name_cmp Object) (object : Object) → AreNamesOwn heap → ShowsObjects heap values objects → IsObject heap address tag slots
    → values address ≡ Some held → maps.get objects (name_in tag) ≡ Some object → object ≡ object_with tag held
object_of_name heap values address tag slots held objects object own shown stands here got =
    let has = (shown (name_in tag) object).0 got in
    let same = named_object heap address has.address tag has.tag slots has.slots own stands has.stands has.named in
    let tags = same_object heap has.address address has.tag tag has.slots slots same has.stands stands in
    let ty : object.ty.0 ≡ tag.code = sym has.ty ∙ ap (λ (t : RowTag). t.code) tags in
    let values_are : object.values ≡ held = same_Some _ _ (sym has.held ∙ ap values same ∙ here) in
    ap₂ (λ (t : ℕ) (v : List (Option Scalar)). record { ty = record { 0 = t }; values = v }) ty values_are
