-- Objects and their values: `new`, `set` to an int or a text, `delete`.
use Rattle.std.proofs.Common.{◌≡◌, ℕ, ◌+◌, ◌≤◌, Bool, true, false, List, [], ◌∷◌, length, map, Option, Some, None, refl, sym, ap, subst, ◌∙◌, arith, true≢false}
use Rattle.std.specs.Prelude.{not, is_none, nat_lt, unwrap_or, slice_get, slice_set, zero, suc, ℤ, ◌^◌, FitsSigned, option_map}
use Rattle.std.specs.Int.{w64}
use Rattle.std.specs.Str.{IsUtf8}
use Rattle.std.specs.FinMap as maps
use Rattle.std.proofs.lemmas.Bool.{ltb-true, ltb-false}
use Rattle.std.proofs.lemmas.Cmp.{nat_cmp_total}
use Rattle.std.proofs.lemmas.Option.{same_Some, none-some, cond_some}
use Rattle.ostore_schema_layout.specs.declared.schema.Schema.{Schema}
use Rattle.ostore_schema_layout.specs.declared.schema.TypeNo.{TypeNo}
use Rattle.ostore_schema_layout.specs.declared.schema.MemberDef.{MemberDef}
use Rattle.ostore_schema_layout.specs.declared.schema.MemberKind.{MemberKind}
use Rattle.ostore_schema_layout.specs.declared.schema.MemberKind.TheVariants as kinds
use Rattle.ostore_schema_layout.specs.Cells.{IsType}
use Rattle.ostore_schema_layout.specs.Numbers.{type_named, members_of, place_named, type_of_place}
use Rattle.ostore_graph_model.specs.declared.values.Name.{Name}
use Rattle.ostore_graph_model.specs.declared.values.Scalar.{Scalar}
use Rattle.ostore_graph_model.specs.declared.values.Scalar.TheVariants as scalars
use Rattle.ostore_graph_model.specs.declared.refusal.Refusal.TheVariants.{WrongType, SerialsSpent, TextTooLong}
use Rattle.ostore_graph_model.specs.declared.commands.Command.TheVariants.{New}
use Rattle.ostore_graph_model.specs.Kinds.{is_int, is_text, no_type, room_of}
use Rattle.ostore_graph_model.specs.Graph.{Graph, Object, is_drawn, last_serial}
use Rattle.ostore_graph_model.specs.Links.{same_name, goes_with}
use Rattle.ostore_graph_model.specs.Deeds.{Vars, LiveMember, object_of, refused_where, first_refusal}
use Rattle.ostore_graph_model.specs.Deeds.Objects.{greatest_serial, next_name, first_value, new_object, with_new, new_deed, with_value, with_held, set_text_deed, without_object}
use Rattle.ostore_graph_model.specs.LiveGraphs.{IsLive}
use Rattle.ostore_graph_model.specs.GraphRules.{IsValueOf, AreValuesOf, IsObjectOf, IsLastSerial, IsGraph}
use Rattle.ostore_graph_model.proofs.OrderLaws.{name_cmp-IsTotalOrder, name_cmp-IsAntisymmetric, pair_cmp-IsTotalOrder, pair_cmp-IsAntisymmetric, object_member_cmp-IsTotalOrder, object_member_cmp-IsAntisymmetric, index_cmp-IsTotalOrder, index_cmp-IsAntisymmetric}
use Rattle.ostore_graph_model.proofs.StepLaws.{task_keeps, names_new}
use Rattle.ostore_graph_model.proofs.PassedLaws.{split, passes, not_false, Finds}
use Rattle.ostore_graph_model.proofs.LiveLaws.{in_retained, value_retained, value_removed, new_or_old_value}
use Rattle.ostore_graph_model.proofs.Kept.Parts.{object_there, Follows, KeepsTypes, changed}

-- ---- values

-- numbers are 0 and texts empty
first_right : (kind : MemberKind) → IsValueOf kind (first_value kind)
first_right kinds.Int = record { sfits = ltb-true 0 (2 ^ 63) refl }
first_right (kinds.Text max) = (omega arith, ([], (refl, refl)))
first_right (kinds.Ref target) = tt
first_right (kinds.Set target) = tt
first_right (kinds.List target) = tt
first_right (kinds.DictInt target) = tt
first_right (kinds.DictText target) = tt

firsts_right : (defs : List MemberDef) → AreValuesOf defs (map (λ (def : MemberDef). first_value def.kind) defs)
firsts_right [] = tt
firsts_right (def ∷ defs) = (first_right def.kind, firsts_right defs)

one_set : (defs : List MemberDef) (values : List (Option Scalar)) (i : ℕ) (def : MemberDef) (value : Option Scalar)
    → AreValuesOf defs values → slice_get defs i ≡ Some def → IsValueOf def.kind value → AreValuesOf defs (slice_set values i value)
one_set [] [] i def value all there right = all
one_set [] (v ∷ values) i def value all there right = absurd all
one_set (d ∷ defs) [] i def value all there right = absurd all
one_set (d ∷ defs) (v ∷ values) zero def value all there right = (subst (λ (m : MemberDef). IsValueOf m.kind value) (sym (same_Some d def there)) right, all.1)
one_set (d ∷ defs) (v ∷ values) (suc i) def value all there right = (all.0, one_set defs values i def value all.1 there right)

-- an int fits an int member, and a text that isn't too long a text member
int_right : (kind : MemberKind) (value : ℤ) → is_int kind ≡ true → FitsSigned w64 value → IsValueOf kind (Some (scalars.Int value))
int_right kinds.Int value is fits = fits
int_right (kinds.Text max) value is fits = absurd cc
int_right (kinds.Ref target) value is fits = absurd cc
int_right (kinds.Set target) value is fits = absurd cc
int_right (kinds.List target) value is fits = absurd cc
int_right (kinds.DictInt target) value is fits = absurd cc
int_right (kinds.DictText target) value is fits = absurd cc

text_right : (kind : MemberKind) (text : List ℕ) → is_text kind ≡ true → nat_lt (room_of kind) (length text) ≡ false → IsUtf8 text → IsValueOf kind (Some (scalars.Text text))
text_right kinds.Int text is short valid = absurd cc
text_right (kinds.Text max) text is short valid = (ltb-false max (length text) short, valid)
text_right (kinds.Ref target) text is short valid = absurd cc
text_right (kinds.Set target) text is short valid = absurd cc
text_right (kinds.List target) text is short valid = absurd cc
text_right (kinds.DictInt target) text is short valid = absurd cc
text_right (kinds.DictText target) text is short valid = absurd cc

-- ---- types by their names

named_type : (schema : Schema) (name : List ℕ) (ty : TypeNo) → type_named schema name ≡ Some ty → IsType schema ty.0
unfolding place_named
named_type schema name ty e = by (place_named (λ t. t.name) schema.types name) refl
  where
    by : (found : Option ℕ) → place_named (λ t. t.name) schema.types name ≡ found → IsType schema ty.0
    by None f = absurd (none-some ty (sym (ap (λ (o : Option ℕ). option_map type_of_place o) f) ∙ e))
    by (Some place) f =
        let parts = cond_some _ _ place f in
        let low = ltb-true _ (length schema.types) parts.0 in
        let at = parts.1 in
        let is : place + 1 ≡ ty.0 = ap (λ (t : TypeNo). t.0) (same_Some (type_of_place place) ty (sym (ap (λ (o : Option ℕ). option_map type_of_place o) f) ∙ e)) in
        (omega arith, omega (arith, low, at, is))

-- what `new` makes is of a type of the schema
type_there : (found : Option TypeNo) → is_none found ≡ false → found ≡ Some (unwrap_or found no_type)
type_there None e = absurd cc
type_there (Some ty) e = refl

module _ (schema : Schema) (graph : Graph) (was : IsGraph schema graph) where
  -- ---- `new`

  pub made : (vars : Vars) (to ty : List ℕ) (segment : ℕ) → (1 ≤ segment) × (segment ≤ 255)
      → first_refusal (new_deed schema vars graph to segment (type_named schema ty)).tests ≡ None
      → KeepsTypes schema (with_new graph segment (new_object schema (unwrap_or (type_named schema ty) no_type)))
  made vars to ty segment within passed =
      let object = new_object schema (unwrap_or (type_named schema ty) no_type) in
      let after = with_new graph segment object in
      let spent = refused_where (not (nat_lt (last_serial graph segment) greatest_serial)) SerialsSpent in
      let first = split (refused_where (is_none (type_named schema ty)) WrongType) (spent ∷ []) passed in
      let named = named_type schema ty _ (type_there (type_named schema ty) (passes (is_none (type_named schema ty)) WrongType first.0)) in
      let low = ltb-true _ _ (not_false _ (passes (not (nat_lt (last_serial graph segment) greatest_serial)) SerialsSpent (split spent [] first.1).0)) in
      let apart = (names_new vars graph to segment object (next_name graph segment) refl).0 in
      let follows : Follows graph after = record {
        drawn = λ x d. task_keeps schema vars graph x (New to ty segment) d;
        typed = λ x o d e.
            new_or_old_value name_cmp-IsTotalOrder name_cmp-IsAntisymmetric
            (λ k y. is_drawn graph k ≡ true → (old : Object) × (maps.get graph.objects k ≡ Some old) × (old.ty ≡ y.ty))
            graph.objects (next_name graph segment) object x o
            (λ drawn. absurd (true≢false (sym drawn ∙ apart))) (λ there drawn. (o, there, refl)) e d;
      } in
      changed schema graph was after follows
      (λ x o e. new_or_old_value name_cmp-IsTotalOrder name_cmp-IsAntisymmetric (λ k y. IsObjectOf schema y) graph.objects (next_name graph segment) object x o
      (record { ty = named; values = firsts_right (members_of schema (unwrap_or (type_named schema ty) no_type).0) }) (was.objects x o) e)
      was.pairs was.lists was.dictionaries was.roots was.few_roots
      (λ s n e. new_or_old_value nat_cmp_total maps.nat_cmp-IsAntisymmetric (λ k y. IsLastSerial k y) graph.serials segment (last_serial graph segment + 1) s n
      (record { least = within.0; most = within.1; some = omega arith; fits = omega (arith, low) }) (was.serials s n) e)
      was.indexes

  -- ---- `set` to an int or a text

  held : (kind : MemberKind → Bool) (x : Name) (at : LiveMember) (value : Scalar) → Finds schema graph x kind at → IsLive graph at.owner
      → IsValueOf at.def.kind (Some value) → KeepsTypes schema (with_held graph at value)
  held kind x at value finds live right =
      let there = object_there graph at.owner live in
      let old = was.objects at.owner (object_of graph at.owner) there in
      let new = with_value (object_of graph at.owner) at.at.member value in
      let defined = ap (λ (ty : TypeNo). slice_get (members_of schema ty.0) at.at.member.0) (sym finds.ty) ∙ finds.defined in
      let follows : Follows graph (with_held graph at value) = record {
        drawn = λ y d. d;
        typed = λ y o d e.
            new_or_old_value name_cmp-IsTotalOrder name_cmp-IsAntisymmetric
            (λ k z. (before : Object) × (maps.get graph.objects k ≡ Some before) × (before.ty ≡ z.ty))
            graph.objects at.owner new y o (object_of graph at.owner, there, refl) (λ e. (o, e, refl)) e;
      } in
      changed schema graph was (with_held graph at value) follows
      (λ y o e. new_or_old_value name_cmp-IsTotalOrder name_cmp-IsAntisymmetric (λ k z. IsObjectOf schema z) graph.objects at.owner new y o
      (record { ty = old.ty; values = one_set (members_of schema (object_of graph at.owner).ty.0) (object_of graph at.owner).values at.at.member.0 at.def (Some value) old.values defined right })
      (was.objects y o) e)
      was.pairs was.lists was.dictionaries was.roots was.few_roots was.serials was.indexes

  pub int_held : (x : Name) (at : LiveMember) (value : ℤ) → Finds schema graph x is_int at → IsLive graph at.owner → FitsSigned w64 value
      → KeepsTypes schema (with_held graph at (scalars.Int value))
  int_held x at value finds live fits = held is_int x at (scalars.Int value) finds live (int_right at.def.kind value finds.of_kind fits)

  pub text_held : (vars : Vars) (x : Name) (at : LiveMember) (text : List ℕ) → Finds schema graph x is_text at → IsLive graph at.owner → IsUtf8 text
      → first_refusal (set_text_deed vars graph text at).tests ≡ None → KeepsTypes schema (with_held graph at (scalars.Text text))
  text_held vars x at text finds live valid passed =
      let short = passes (nat_lt (room_of at.def.kind) (length text)) TextTooLong (split (refused_where (nat_lt (room_of at.def.kind) (length text)) TextTooLong) [] passed).0 in
      held is_text x at (scalars.Text text) finds live (text_right at.def.kind text finds.of_kind short valid)

  -- ---- `delete`

  pub gone : (x : Name) → KeepsTypes schema (without_object schema graph x)
  gone x =
      changed schema graph was (without_object schema graph x)
      (record { drawn = λ y d. d; typed = λ y o d e. (o, value_removed name_cmp-IsTotalOrder name_cmp-IsAntisymmetric graph.objects x y o e, refl) })
      (λ y o e. was.objects y o (value_removed name_cmp-IsTotalOrder name_cmp-IsAntisymmetric graph.objects x y o e))
      (λ pair e. was.pairs pair (in_retained pair_cmp-IsTotalOrder pair_cmp-IsAntisymmetric graph.pairs (λ p. not (goes_with schema x p)) pair e).1)
      (λ at items e. was.lists at items (value_retained object_member_cmp-IsTotalOrder object_member_cmp-IsAntisymmetric graph.lists (λ k. not (same_name k.object x)) at items e).1)
      (λ at bindings e. was.dictionaries at bindings (value_retained object_member_cmp-IsTotalOrder object_member_cmp-IsAntisymmetric graph.dictionaries (λ k. not (same_name k.object x)) at bindings e).1)
      was.roots was.few_roots was.serials
      (λ index e. was.indexes index (in_retained index_cmp-IsTotalOrder index_cmp-IsAntisymmetric graph.indexes (λ i. not (same_name i.set.object x)) index e).1)
