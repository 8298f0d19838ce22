-- What becomes of the members of an object where bytes of one of them are changed.
use Rattle.std.proofs.Common.{◌≡◌, ℕ, ◌+◌, ◌≤◌, zero, suc, List, [], ◌∷◌, length, map, set, take, refl, ap, ap₂, subst, ◌∙◌, arith, Some, w64}
use Rattle.std.specs.Int.{cast_signed}
use Rattle.std.specs.List.{slice_get}
use Rattle.std.proofs.lemmas.Option.{same_Some, none-some}
use Rattle.ostore_page_tags.proofs.bytes.ImageLaws.{SameOn, SameOn-within, number_at-same, between-same}
use Rattle.ostore_schema_layout.specs.declared.schema.MemberDef.{MemberDef}
use Rattle.ostore_schema_layout.specs.declared.schema.MemberKind.{MemberKind}
use Rattle.ostore_schema_layout.specs.declared.schema.MemberKind.TheVariants as kinds
use Rattle.ostore_schema_layout.specs.declared.layouts.Place.{Place}
use Rattle.ostore_schema_layout.specs.Cells.{in_fours, kind_size, place_end, places_from, sizes}
use Rattle.ostore_graph_model.specs.declared.values.Scalar.TheVariants as scalars
use Rattle.ostore_graph_model.specs.MemberValues.{text_at, held_at, value_in}
use Rattle.ostore_graph_model.specs.Chunks.{pointer_at}
use Rattle.ostore_graph_model.specs.Records.{Slot, head_at, slot_of, slot_in}

-- ---- what is read from a member's own bytes

-- what f reads of a member depends on the member's bytes alone
abbrev pub IsLocal : {X : Type 0} → (List ℕ → Place → X) → Type 0
IsLocal f = (new old : List ℕ) (place : Place) → length new ≡ length old → place_end place ≤ length old → SameOn place.offset (place_end place) new old → f new place ≡ f old place

pub text_at-same : (at max : ℕ) (new old : List ℕ) → length new ≡ length old → at + 1 + max ≤ length old → SameOn at (at + 1 + max) new old → text_at at max new ≡ text_at at max old
text_at-same at max new old whole within same =
    ap₂ take
    (number_at-same 1 at new old (SameOn-within at (at + 1 + max) at (at + 1) new old same (omega arith) (omega arith)))
    (between-same (at + 1) (at + 1 + max) new old (omega arith) within (SameOn-within at (at + 1 + max) (at + 1) (at + 1 + max) new old same (omega arith) (omega arith)))

pub text_room : (max : ℕ) → 1 + max ≤ in_fours (1 + max)
text_room max = omega arith

held_at-same : (new old : List ℕ) (at : ℕ) (kind : MemberKind) → length new ≡ length old → at + kind_size kind ≤ length old → SameOn at (at + kind_size kind) new old → held_at new at kind ≡ held_at old at kind
held_at-same new old at kinds.Int whole within same = ap (λ n. Some (scalars.Int (cast_signed w64 n))) (number_at-same 8 at new old same)
held_at-same new old at (kinds.Text max) whole within same =
    let room = text_room max in
    ap (λ t. Some (scalars.Text t)) (text_at-same at max new old whole (omega arith) (SameOn-within at (at + in_fours (1 + max)) at (at + 1 + max) new old same (omega arith) (omega arith)))
held_at-same new old at (kinds.Ref target) whole within same = refl
held_at-same new old at (kinds.Set target) whole within same = refl
held_at-same new old at (kinds.List target) whole within same = refl
held_at-same new old at (kinds.DictInt target) whole within same = refl
held_at-same new old at (kinds.DictText target) whole within same = refl

pub value_in-IsLocal : IsLocal value_in
value_in-IsLocal new old place whole within same = held_at-same new old place.offset place.kind whole within same

head_at-same : (at size descriptor : ℕ) (new old : List ℕ) → 8 ≤ size → SameOn at (at + size) new old → head_at at descriptor new ≡ head_at at descriptor old
head_at-same at size descriptor new old room same =
    ap₂ (λ (f c : ℕ). record { first = f; count = c; descriptor = descriptor })
    (number_at-same 4 at new old (SameOn-within at (at + size) at (at + 4) new old same (omega arith) (omega arith)))
    (number_at-same 4 (at + 4) new old (SameOn-within at (at + size) (at + 4) (at + 4 + 4) new old same (omega arith) (omega arith)))

slot_of-same : (new old : List ℕ) (at : ℕ) (kind : MemberKind) → SameOn at (at + kind_size kind) new old → slot_of new at kind ≡ slot_of old at kind
slot_of-same new old at kinds.Int same = refl
slot_of-same new old at (kinds.Text max) same = refl
slot_of-same new old at (kinds.Ref target) same = ap Slot.Refers (number_at-same 4 at new old same)
slot_of-same new old at (kinds.Set target) same =
    ap (λ (d : ℕ). Slot.Begins (head_at at d new)) (number_at-same 4 (at + 8) new old (SameOn-within at (at + 12) (at + 8) (at + 8 + 4) new old same (omega arith) (omega arith)))
    ∙ ap Slot.Begins (head_at-same at 12 (pointer_at (at + 8) old) new old (omega arith) same)
slot_of-same new old at (kinds.List target) same = ap Slot.Begins (head_at-same at 8 0 new old (omega arith) same)
slot_of-same new old at (kinds.DictInt target) same = ap Slot.Begins (head_at-same at 8 0 new old (omega arith) same)
slot_of-same new old at (kinds.DictText target) same = ap Slot.Begins (head_at-same at 8 0 new old (omega arith) same)

pub slot_in-IsLocal : IsLocal slot_in
slot_in-IsLocal new old place whole within same = slot_of-same new old place.offset place.kind same

-- ---- where members lie

pub place_range : (at : ℕ) (members : List MemberDef) (m : ℕ) (place : Place) → slice_get (places_from at members) m ≡ Some place → (at ≤ place.offset) × (place_end place ≤ at + sizes members)
place_range at [] m place e = absurd (none-some place e)
place_range at (member ∷ members) zero place e =
    let is = same_Some _ place e in
    subst (λ (p : Place). (at ≤ p.offset) × (place_end p ≤ at + sizes (member ∷ members))) is (omega arith, omega arith)
place_range at (member ∷ members) (suc m) place e =
    let range = place_range (at + kind_size member.kind) members m place e in
    let low = range.0 in
    let high = range.1 in
    (omega arith, omega arith)

-- ---- a member is changed

-- bytes were changed within one member, and nowhere else
pub record IsWithin (new old : List ℕ) (place : Place) : Type 0 where
  pub whole : length new ≡ length old
  pub before : SameOn 0 place.offset new old
  pub behind : SameOn (place_end place) (length old) new old

module _ {X : Type 0} (f : List ℕ → Place → X) (local : IsLocal f) where
  -- members that lie behind the change
  members_behind : (at : ℕ) (members : List MemberDef) (new old : List ℕ) → length new ≡ length old → at + sizes members ≤ length old → SameOn at (at + sizes members) new old → map (f new) (places_from at members) ≡ map (f old) (places_from at members)
  members_behind at [] new old whole within same = refl
  members_behind at (member ∷ members) new old whole within same =
      ap₂ (λ x xs. x ∷ xs)
      (local new old (record { offset = at; kind = member.kind }) whole (omega arith) (SameOn-within at (at + sizes (member ∷ members)) at (at + kind_size member.kind) new old same (omega arith) (omega arith)))
      (members_behind (at + kind_size member.kind) members new old whole (omega arith) (SameOn-within at (at + sizes (member ∷ members)) (at + kind_size member.kind) (at + kind_size member.kind + sizes members) new old same (omega arith) (omega arith)))

  -- the member itself reads as it does now, and all others as they did
  pub member_changed : (at : ℕ) (members : List MemberDef) (m : ℕ) (place : Place) (new old : List ℕ) → slice_get (places_from at members) m ≡ Some place → IsWithin new old place → at + sizes members ≤ length old
      → map (f new) (places_from at members) ≡ set (map (f old) (places_from at members)) m (f new place)
  member_changed at [] m place new old e edit within = absurd (none-some place e)
  member_changed at (member ∷ members) zero place new old e edit within =
      let is = same_Some (record { offset = at; kind = member.kind }) place e in
      ap₂ (λ x xs. x ∷ xs)
      (ap (f new) is)
      (members_behind (at + kind_size member.kind) members new old edit.whole (omega arith)
      (SameOn-within (place_end place) (length old) (at + kind_size member.kind) (at + kind_size member.kind + sizes members) new old edit.behind (subst (λ (p : Place). place_end p ≤ at + kind_size member.kind) is (omega arith)) (omega arith)))
  member_changed at (member ∷ members) (suc m) place new old e edit within =
      let range = place_range (at + kind_size member.kind) members m place e in
      let low = range.0 in
      ap₂ (λ x xs. x ∷ xs)
      (local new old (record { offset = at; kind = member.kind }) edit.whole (omega arith) (SameOn-within 0 place.offset at (at + kind_size member.kind) new old edit.before (omega arith) low))
      (member_changed (at + kind_size member.kind) members m place new old e edit (omega arith))
