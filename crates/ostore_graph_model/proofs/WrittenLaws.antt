-- A cell stays written as its code asks where bytes of one of its members are changed.
use Rattle.std.proofs.Common.{◌≡◌, ℕ, ◌+◌, ◌≤◌, ◌&&◌, Bool, true, false, cond, eqb, leb, List, length, map, refl, sym, ap, ap₂, ◌∙◌, arith, Some}
use Rattle.std.specs.List.{slice_get, list_all}
use Rattle.std.specs.Option.{option_map}
use Rattle.std.specs.Str.{is_utf8}
use Rattle.std.proofs.lemmas.Bool.{ne_eqb, lt-leb}
use Rattle.std.proofs.lemmas.Option.{slice_get-map}
use Rattle.std.proofs.lemmas.List.Folds.{list_all-map}
use Rattle.ostore_page_tags.specs.Numbers.{number_at}
use Rattle.ostore_page_tags.specs.Cells.{between}
use Rattle.ostore_page_tags.specs.Rules.{is_type_code, are_zero}
use Rattle.ostore_page_tags.proofs.bytes.ImageLaws.{SameOn, SameOn-within, number_at-same, between-same}
use Rattle.ostore_schema_layout.specs.declared.schema.Schema.{Schema}
use Rattle.ostore_schema_layout.specs.declared.schema.MemberKind.{MemberKind}
use Rattle.ostore_schema_layout.specs.declared.schema.MemberKind.TheVariants as kinds
use Rattle.ostore_schema_layout.specs.declared.layouts.Place.{Place}
use Rattle.ostore_schema_layout.specs.Cells.{in_fours, kind_size, places_from}
use Rattle.ostore_schema_layout.specs.Numbers.{members_of}
use Rattle.ostore_graph_model.specs.Addresses.{PlacedCell}
use Rattle.ostore_graph_model.specs.CellRules.{is_text_written, is_kind_written, is_member_written, is_object_written, is_code_written, is_written}
use Rattle.ostore_graph_model.specs.Records.{is_sized}
use Rattle.ostore_graph_model.proofs.AddressLaws.{placed_with}
use Rattle.ostore_graph_model.proofs.MemberLaws.{IsLocal, IsWithin, text_at-same, text_room, member_changed}
use Rattle.ostore_graph_model.proofs.RecordLaws.{type_code_most, is_sized-same, members_within, set-itself}

-- the zeros behind a text begin in its room, where it isn't too long; else nothing is asked of them
zeros-same : (at stop max : ℕ) (new old : List ℕ) → length new ≡ length old → stop ≤ length old → SameOn at stop new old → number_at 1 at new ≡ number_at 1 at old
    → are_zero (between (at + 1 + number_at 1 at new) stop new) ≡ are_zero (between (at + 1 + number_at 1 at old) stop old)
zeros-same at stop max new old whole within same count =
    ap (λ n. are_zero (between (at + 1 + n) stop new)) count
    ∙ ap are_zero (between-same (at + 1 + number_at 1 at old) stop new old (omega arith) within (SameOn-within at stop (at + 1 + number_at 1 at old) stop new old same (omega arith) (omega arith)))

is_text_written-same : (max at stop : ℕ) (new old : List ℕ) → length new ≡ length old → at + 1 + max ≤ stop → stop ≤ length old → SameOn at stop new old → is_text_written max at stop new ≡ is_text_written max at stop old
is_text_written-same max at stop new old whole room within same =
    let count = number_at-same 1 at new old (SameOn-within at stop at (at + 1) new old same (omega arith) (omega arith)) in
    let text = text_at-same at max new old whole (omega arith) (SameOn-within at stop at (at + 1 + max) new old same (omega arith) (omega arith)) in
    let zeros = zeros-same at stop max new old whole within same count in
    ap₂ (λ a b. a && b) (ap₂ (λ a b. a && b) (ap (λ n. leb n max) count) (ap is_utf8 text)) zeros

is_kind_written-same : (new old : List ℕ) (at : ℕ) (kind : MemberKind) → length new ≡ length old → at + kind_size kind ≤ length old → SameOn at (at + kind_size kind) new old → is_kind_written new at kind ≡ is_kind_written old at kind
is_kind_written-same new old at kinds.Int whole within same = refl
is_kind_written-same new old at (kinds.Text max) whole within same =
    let room = text_room max in
    is_text_written-same max at (at + in_fours (1 + max)) new old whole (omega arith) within same
is_kind_written-same new old at (kinds.Ref target) whole within same = refl
is_kind_written-same new old at (kinds.Set target) whole within same = refl
is_kind_written-same new old at (kinds.List target) whole within same = refl
is_kind_written-same new old at (kinds.DictInt target) whole within same = refl
is_kind_written-same new old at (kinds.DictText target) whole within same = refl

pub is_member_written-IsLocal : IsLocal is_member_written
is_member_written-IsLocal new old place whole within same = is_kind_written-same new old place.offset place.kind whole within same

pub object_code_written : (schema : Schema) (code : ℕ) (bytes : List ℕ) → is_type_code code ≡ true → is_code_written schema code bytes ≡ is_object_written schema code bytes
object_code_written schema code bytes typed =
    let most = (type_code_most code typed).1 in
    let other : eqb code 244 ≡ false = ne_eqb _ _ (λ e. omega arith) in
    let low : leb 240 code ≡ false = lt-leb _ _ (omega arith) in
    rw (other, low) refl

-- the changed member is written as it was
pub written_stays : (schema : Schema) (cell : PlacedCell) (member : ℕ) (place : Place) (bytes : List ℕ) → is_type_code cell.code ≡ true → is_sized schema cell.code cell.bytes ≡ true → cell.live ≡ true
    → slice_get (places_from 0 (members_of schema cell.code)) member ≡ Some place → IsWithin bytes cell.bytes place → is_member_written bytes place ≡ is_member_written cell.bytes place
    → is_written schema (placed_with bytes cell) ≡ is_written schema cell
written_stays schema cell member place bytes typed sized live lies within same =
    let places = places_from 0 (members_of schema cell.code) in
    let old : List Bool = map (is_member_written cell.bytes) places in
    let stands : slice_get old member ≡ Some (is_member_written bytes place) = slice_get-map (is_member_written cell.bytes) places member ∙ ap (option_map (is_member_written cell.bytes)) lies ∙ ap Some (sym same) in
    let all : map (is_member_written bytes) places ≡ old =
    member_changed is_member_written is_member_written-IsLocal 0 (members_of schema cell.code) member place bytes cell.bytes lies within (members_within schema cell.code cell.bytes typed sized)
    ∙ set-itself old member (is_member_written bytes place) stands in
    let object : is_object_written schema cell.code bytes ≡ is_object_written schema cell.code cell.bytes =
    sym (list_all-map (λ b. b) (is_member_written bytes) places) ∙ ap (list_all (λ b. b)) all ∙ list_all-map (λ b. b) (is_member_written cell.bytes) places in
    let code : is_code_written schema cell.code bytes ≡ is_code_written schema cell.code cell.bytes =
    object_code_written schema cell.code bytes typed ∙ object ∙ sym (object_code_written schema cell.code cell.bytes typed) in
    let size : is_sized schema cell.code bytes ≡ is_sized schema cell.code cell.bytes = is_sized-same schema cell.code bytes cell.bytes within.whole in
    let filled =
    ap (λ b. cond b (is_code_written schema cell.code bytes) (are_zero bytes)) live
    ∙ code
    ∙ sym (ap (λ b. cond b (is_code_written schema cell.code cell.bytes) (are_zero cell.bytes)) live) in
    ap₂ (λ a b. a && b) size filled
