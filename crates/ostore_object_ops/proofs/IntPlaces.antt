-- An int lies beside the pointers of its type.
use Rattle.std.proofs.Common.{◌≡◌, ℕ, true, zero, suc, ◌+◌, ◌≤◌, List, [], ◌∷◌, ◌++◌, sym, ap, subst, ◌∙◌, arith, Some, inl, inr}
use Rattle.std.specs.Prelude.{if◌then◌else◌}
use Rattle.std.specs.List.{slice_get, flat_map, AllByRecursion}
use Rattle.std.proofs.lemmas.Bool.{lt-leb}
use Rattle.std.proofs.lemmas.Option.{same_Some, none-some}
use Rattle.ostore_page_tags.specs.PagePointers.{IsBeside}
use Rattle.ostore_page_tags.specs.Rules.{is_type_code}
use Rattle.ostore_schema_layout.specs.declared.schema.Schema.{Schema}
use Rattle.ostore_schema_layout.specs.declared.schema.MemberDef.{MemberDef}
use Rattle.ostore_schema_layout.specs.declared.schema.MemberKind.{MemberKind}
use Rattle.ostore_schema_layout.specs.declared.schema.MemberKind.TheVariants as kinds
use Rattle.ostore_schema_layout.specs.declared.layouts.Place.{Place}
use Rattle.ostore_schema_layout.specs.Cells.{kind_size, places_from, chunk_pointers, pointers_of_kind, pointers_of_place, type_pointers, pointers_of}
use Rattle.ostore_schema_layout.specs.Numbers.{members_of}
use Rattle.ostore_graph_model.proofs.MemberLaws.{place_range}
use Rattle.ostore_graph_model.proofs.RecordLaws.{type_code_most}

all_joined : (P : ℕ → Type 0) (first second : List ℕ) → AllByRecursion P first → AllByRecursion P second → AllByRecursion P (first ++ second)
all_joined P [] second one two = two
all_joined P (at ∷ first) second one two = (one.0, all_joined P first second one.1 two)

-- the pointers of a member lie in it
kind_behind : (start n at : ℕ) (kind : MemberKind) → start + n ≤ at → AllByRecursion (IsBeside start n) (pointers_of_kind at kind)
kind_behind start n at kinds.Int behind = tt
kind_behind start n at (kinds.Text max) behind = tt
kind_behind start n at (kinds.Ref target) behind = (inr behind, tt)
kind_behind start n at (kinds.Set target) behind = (inr behind, (inr (omega arith), tt))
kind_behind start n at (kinds.List target) behind = (inr behind, tt)
kind_behind start n at (kinds.DictInt target) behind = (inr behind, tt)
kind_behind start n at (kinds.DictText target) behind = (inr behind, tt)

kind_before : (start n at : ℕ) (kind : MemberKind) → at + kind_size kind ≤ start → AllByRecursion (IsBeside start n) (pointers_of_kind at kind)
kind_before start n at kinds.Int before = tt
kind_before start n at (kinds.Text max) before = tt
kind_before start n at (kinds.Ref target) before = (inl before, tt)
kind_before start n at (kinds.Set target) before = (inl (omega arith), (inl (omega arith), tt))
kind_before start n at (kinds.List target) before = (inl (omega arith), tt)
kind_before start n at (kinds.DictInt target) before = (inl (omega arith), tt)
kind_before start n at (kinds.DictText target) before = (inl (omega arith), tt)

all_behind : (start n at : ℕ) (members : List MemberDef) → start + n ≤ at → AllByRecursion (IsBeside start n) (flat_map pointers_of_place (places_from at members))
all_behind start n at [] behind = tt
all_behind start n at (member ∷ members) behind =
    all_joined (IsBeside start n) (pointers_of_kind at member.kind) (flat_map pointers_of_place (places_from (at + kind_size member.kind) members)) (kind_behind start n at member.kind behind) (all_behind start n (at + kind_size member.kind) members (omega arith))

beside_members : (at : ℕ) (members : List MemberDef) (m : ℕ) (place : Place) → slice_get (places_from at members) m ≡ Some place → place.kind ≡ kinds.Int
    → AllByRecursion (IsBeside place.offset 8) (flat_map pointers_of_place (places_from at members))
beside_members at [] m place lies int = absurd (none-some place lies)
beside_members at (member ∷ members) zero place lies int =
    let same : record { offset = at; kind = member.kind } ≡ place = same_Some _ place lies in
    let offset : at ≡ place.offset = ap (λ (p : Place). p.offset) same in
    let kind : member.kind ≡ kinds.Int = ap (λ (p : Place). p.kind) same ∙ int in
    let size : kind_size member.kind ≡ 8 = ap kind_size kind in
    all_joined (IsBeside place.offset 8) (pointers_of_kind at member.kind) (flat_map pointers_of_place (places_from (at + kind_size member.kind) members))
    (subst (λ (k : MemberKind). AllByRecursion (IsBeside place.offset 8) (pointers_of_kind at k)) (sym kind) tt)
    (all_behind place.offset 8 (at + kind_size member.kind) members (omega arith))
beside_members at (member ∷ members) (suc m) place lies int =
    let range = place_range (at + kind_size member.kind) members m place lies in
    all_joined (IsBeside place.offset 8) (pointers_of_kind at member.kind) (flat_map pointers_of_place (places_from (at + kind_size member.kind) members))
    (kind_before place.offset 8 at member.kind range.0) (beside_members (at + kind_size member.kind) members m place lies int)

pub beside_int : (schema : Schema) (code m : ℕ) (place : Place) → is_type_code code ≡ true → slice_get (places_from 0 (members_of schema code)) m ≡ Some place → place.kind ≡ kinds.Int
    → AllByRecursion (IsBeside place.offset 8) (pointers_of schema code)
beside_int schema code m place typed lies int =
    let most = type_code_most code typed in
    subst (λ b. AllByRecursion (IsBeside place.offset 8) (if b then chunk_pointers code else type_pointers (members_of schema code))) (sym (lt-leb 240 code (omega arith)))
    (beside_members 0 (members_of schema code) m place lies int)
