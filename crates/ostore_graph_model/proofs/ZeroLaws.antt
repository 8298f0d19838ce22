-- What a cell of zeros holds: zeros, empty texts, and nothing that leads on.
use Rattle.std.proofs.Common.{◌≡◌, ℕ, ◌+◌, ◌-◌, ◌&&◌, true, leb, zero, suc, List, [], ◌∷◌, map, take, drop, replicate, get_or, refl, ap, ap₂, subst, ◌∙◌, arith, Some, w64}
use Rattle.std.specs.Int.{cast_signed}
use Rattle.std.specs.List.{slice_get, list_all}
use Rattle.std.specs.Str.{is_utf8, chars}
use Rattle.std.proofs.lemmas.Bool.{le-leb}
use Rattle.std.proofs.lemmas.Option.{none-some, same_Some}
use Rattle.byteorder.specs.Endian.{little_from}
use Rattle.ostore_page_tags.specs.Numbers.{number_at}
use Rattle.ostore_page_tags.specs.Cells.{between}
use Rattle.ostore_page_tags.specs.Rules.{are_zero}
use Rattle.ostore_schema_layout.specs.declared.schema.MemberDef.{MemberDef}
use Rattle.ostore_schema_layout.specs.declared.schema.MemberKind.{MemberKind}
use Rattle.ostore_schema_layout.specs.declared.schema.MemberKind.TheVariants as kinds
use Rattle.ostore_schema_layout.specs.Cells.{in_fours, kind_size, places_from}
use Rattle.ostore_graph_model.specs.declared.values.Scalar.TheVariants as scalars
use Rattle.ostore_graph_model.specs.Deeds.Objects.{first_value}
use Rattle.ostore_graph_model.specs.CellRules.{is_text_written, is_kind_written, is_member_written}
use Rattle.ostore_graph_model.specs.MemberValues.{text_at, held_at, value_in}
use Rattle.ostore_graph_model.specs.Records.{Slot, head_at, slot_of, slot_in}
use Rattle.ostore_graph_model.proofs.HeapLaws.{IsEmptySlot}

abbrev zeros : ℕ → List ℕ
zeros n = replicate n 0

zero_byte : (n k : ℕ) → get_or (zeros n) k 0 ≡ 0
zero_byte zero k = refl
zero_byte (suc n) zero = refl
zero_byte (suc n) (suc k) = zero_byte n k

pub little_zero : (bytes : List ℕ) → ((k : ℕ) → get_or bytes k 0 ≡ zero) → (i n : ℕ) → little_from i n bytes ≡ 0
little_zero bytes zeros i zero = refl
little_zero bytes zeros i (suc n) =
    let byte = zeros i in
    let others = little_zero bytes zeros (suc i) n in
    omega arith

drop_zero : (n at k : ℕ) → get_or (drop at (zeros n)) k 0 ≡ 0
drop_zero n zero k = zero_byte n k
drop_zero zero (suc at) k = refl
drop_zero (suc n) (suc at) k = drop_zero n at k

pub number_zero : (m at n : ℕ) → number_at m at (replicate n 0) ≡ 0
number_zero m at n = little_zero (drop at (replicate n 0)) (drop_zero n at) 0 m

all_zero : (n : ℕ) → are_zero (replicate n 0) ≡ true
all_zero zero = refl
all_zero (suc n) = all_zero n

drop_replicate : (n at : ℕ) → (rest : ℕ) × (drop at (zeros n) ≡ zeros rest)
drop_replicate n zero = (n, refl)
drop_replicate zero (suc at) = (0, refl)
drop_replicate (suc n) (suc at) = drop_replicate n at

take_replicate : (n m : ℕ) → (rest : ℕ) × (take m (zeros n) ≡ zeros rest)
take_replicate n zero = (0, refl)
take_replicate zero (suc m) = (0, refl)
take_replicate (suc n) (suc m) = let rest = take_replicate n m in (suc rest.0, ap (λ (l : List ℕ). 0 ∷ l) rest.1)

between_zero : (n start stop : ℕ) → are_zero (between start stop (replicate n 0)) ≡ true
between_zero n start stop =
    let dropped = drop_replicate n start in
    let taken = take_replicate dropped.0 (stop - start) in
    ap are_zero (ap (take (stop - start)) dropped.1 ∙ taken.1) ∙ all_zero taken.0

text_zero : (at max n : ℕ) → text_at at max (replicate n 0) ≡ []
text_zero at max n = ap (λ (c : ℕ). take c (between (at + 1) (at + 1 + max) (replicate n 0))) (number_zero 1 at n)

value_zero : (n at : ℕ) (kind : MemberKind) → held_at (replicate n 0) at kind ≡ first_value kind
value_zero n at kinds.Int = ap (λ (m : ℕ). Some (scalars.Int (cast_signed w64 m))) (number_zero 8 at n)
value_zero n at (kinds.Text max) = ap (λ t. Some (scalars.Text t)) (text_zero at max n)
value_zero n at (kinds.Ref target) = refl
value_zero n at (kinds.Set target) = refl
value_zero n at (kinds.List target) = refl
value_zero n at (kinds.DictInt target) = refl
value_zero n at (kinds.DictText target) = refl

pub values_zero : (n at : ℕ) (members : List MemberDef) → map (value_in (replicate n 0)) (places_from at members) ≡ map (λ member. first_value member.kind) members
values_zero n at [] = refl
values_zero n at (member ∷ members) = ap₂ (λ v vs. v ∷ vs) (value_zero n at member.kind) (values_zero n (at + kind_size member.kind) members)

head_zero : (n at d : ℕ) → d ≡ 0 → head_at at d (replicate n 0) ≡ record { first = 0; count = 0; descriptor = 0 }
head_zero n at d none = λ i. record { first = number_zero 4 at n i; count = number_zero 4 (at + 4) n i; descriptor = none i }

slot_zero : (n at : ℕ) (kind : MemberKind) → IsEmptySlot (slot_of (replicate n 0) at kind)
slot_zero n at kinds.Int = tt
slot_zero n at (kinds.Text max) = tt
slot_zero n at (kinds.Ref target) = number_zero 4 at n
slot_zero n at (kinds.Set target) = head_zero n at _ (number_zero 4 (at + 8) n)
slot_zero n at (kinds.List target) = head_zero n at 0 refl
slot_zero n at (kinds.DictInt target) = head_zero n at 0 refl
slot_zero n at (kinds.DictText target) = head_zero n at 0 refl

pub slots_zero : (n at : ℕ) (members : List MemberDef) (m : ℕ) (slot : Slot) → slice_get (map (slot_in (replicate n 0)) (places_from at members)) m ≡ Some slot → IsEmptySlot slot
slots_zero n at [] m slot e = absurd (none-some slot e)
slots_zero n at (member ∷ members) zero slot e = subst IsEmptySlot (same_Some _ slot e) (slot_zero n at member.kind)
slots_zero n at (member ∷ members) (suc m) slot e = slots_zero n (at + kind_size member.kind) members m slot e

utf8_empty : is_utf8 [] ≡ true
unfolding is_utf8 chars
utf8_empty = refl

text_written_zero : (n max at stop : ℕ) → is_text_written max at stop (replicate n 0) ≡ true
text_written_zero n max at stop =
    let count = number_zero 1 at n in
    ap₂ (λ a b. a && b)
    (ap₂ (λ a b. a && b) (ap (λ c. leb c max) count ∙ le-leb 0 max (omega arith)) (ap is_utf8 (text_zero at max n) ∙ utf8_empty))
    (between_zero n (at + 1 + number_at 1 at (replicate n 0)) stop)

kind_written_zero : (n at : ℕ) (kind : MemberKind) → is_kind_written (replicate n 0) at kind ≡ true
kind_written_zero n at kinds.Int = refl
kind_written_zero n at (kinds.Text max) = text_written_zero n max at (at + in_fours (1 + max))
kind_written_zero n at (kinds.Ref target) = refl
kind_written_zero n at (kinds.Set target) = refl
kind_written_zero n at (kinds.List target) = refl
kind_written_zero n at (kinds.DictInt target) = refl
kind_written_zero n at (kinds.DictText target) = refl

pub object_written_zero : (n at : ℕ) (members : List MemberDef) → list_all (is_member_written (replicate n 0)) (places_from at members) ≡ true
object_written_zero n at [] = refl
object_written_zero n at (member ∷ members) = ap₂ (λ a b. a && b) (kind_written_zero n at member.kind) (object_written_zero n (at + kind_size member.kind) members)
