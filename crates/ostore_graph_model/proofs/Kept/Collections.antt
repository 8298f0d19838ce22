-- Lists and dictionaries: `append`, `put`, `bind`, `unbind`.
use Rattle.std.proofs.Common.{◌≡◌, ℕ, Bool, true, false, List, [], ◌∷◌, ◌++◌, length, Option, Some, None, refl, sym, ap, subst, ◌∙◌}
use Rattle.std.specs.Prelude.{not, ◌==◌, nat_lt, unwrap_or, slice_set, if◌then◌else◌, FitsSigned}
use Rattle.std.specs.Int.{w64}
use Rattle.std.specs.List.{AllByRecursion}
use Rattle.std.specs.Str.{IsUtf8}
use Rattle.std.specs.FinMap as maps
use Rattle.std.proofs.lemmas.Bool.{ltb-false}
use Rattle.std.proofs.lemmas.Option.{same_Some, none-some}
use Rattle.ostore_schema_layout.specs.declared.schema.Schema.{Schema}
use Rattle.ostore_schema_layout.specs.declared.schema.TypeNo.{TypeNo}
use Rattle.ostore_schema_layout.specs.declared.schema.MemberDef.{MemberDef}
use Rattle.ostore_schema_layout.specs.declared.schema.MemberKind.{MemberKind}
use Rattle.ostore_schema_layout.specs.Limits.{longest_text}
use Rattle.ostore_graph_model.specs.declared.values.Name.{Name}
use Rattle.ostore_graph_model.specs.declared.refusal.Refusal.TheVariants.{TextTooLong, WrongKind}
use Rattle.ostore_graph_model.specs.declared.commands.Key.{Key}
use Rattle.ostore_graph_model.specs.declared.commands.Key.TheVariants as keys
use Rattle.ostore_graph_model.specs.Orders.{key_cmp}
use Rattle.ostore_graph_model.specs.Kinds.{is_list, is_dictionary, takes_key, target_of}
use Rattle.ostore_graph_model.specs.Graph.{Graph, Dictionary}
use Rattle.ostore_graph_model.specs.Links.{def_of}
use Rattle.ostore_graph_model.specs.Deeds.{Vars, LiveMember, own_member, first_refusal, of_other_type, key_too_long}
use Rattle.ostore_graph_model.specs.Deeds.Collections.{items_of, with_items, out_of_range, append_deed, put_deed, bindings_of, with_bindings, other_key, bind_deed}
use Rattle.ostore_graph_model.specs.LiveGraphs.{IsLive}
use Rattle.ostore_graph_model.specs.GraphRules.{IsNameOf, member_in, IsListOf, IsKey, IsDictionaryOf, IsGraph}
use Rattle.ostore_graph_model.proofs.KeyLaws.{key_cmp-IsTotalOrder, key_cmp-IsAntisymmetric}
use Rattle.ostore_graph_model.proofs.OrderLaws.{object_member_cmp-IsTotalOrder, object_member_cmp-IsAntisymmetric}
use Rattle.ostore_graph_model.proofs.PassedLaws.{split, passes, not_false, Finds}
use Rattle.ostore_graph_model.proofs.LiveLaws.{value_removed, new_or_old_value}
use Rattle.ostore_graph_model.proofs.Kept.Parts.{all_append, all_set, KeepsTypes, with_lists, with_dictionaries}
use Rattle.ostore_graph_model.proofs.Kept.References.{item_right}

-- a key of 64 bits, or of UTF-8 of any length
abbrev pub IsWritten : Key → Type 0
IsWritten (keys.Int value) = FitsSigned w64 value
IsWritten (keys.Text text) = IsUtf8 text

-- that isn't too long
key_right : (key : Key) → IsWritten key → key_too_long key ≡ None → IsKey key
key_right (keys.Int value) within short = within
key_right (keys.Text text) within short = (ltb-false longest_text (length text) (passes (nat_lt longest_text (length text)) TextTooLong short), within)

module _ (schema : Schema) (graph : Graph) (was : IsGraph schema graph) where
  module _ (kind : MemberKind → Bool) (x : Name) (at : LiveMember) (finds : Finds schema graph x kind at) where
    own_defined : def_of schema (member_in graph (own_member at)) ≡ Some at.def
    own_defined = ap (λ (ty : TypeNo). def_of schema (record { ty = ty; member = at.at.member })) (sym finds.ty) ∙ finds.defined

    same_def : (def : MemberDef) → def_of schema (member_in graph (own_member at)) ≡ Some def → def ≡ at.def
    same_def def e = same_Some def at.def (sym e ∙ own_defined)

    -- ---- lists

    items_right : AllByRecursion (IsNameOf graph (target_of at.def.kind)) (items_of graph at)
    items_right = by (maps.get graph.lists (own_member at)) refl
      where
        by : (found : Option (List Name)) → maps.get graph.lists (own_member at) ≡ found → AllByRecursion (IsNameOf graph (target_of at.def.kind)) (unwrap_or found [])
        by None e = tt
        by (Some items) e =
            let list = was.lists (own_member at) items e in
            subst (λ (def : MemberDef). AllByRecursion (IsNameOf graph (target_of def.kind)) items) (same_def list.def list.defined) list.typed

    list_put : is_list at.def.kind ≡ true → (items : List Name) → AllByRecursion (IsNameOf graph (target_of at.def.kind)) items → KeepsTypes schema (with_items graph at items)
    list_put is items typed =
        with_lists schema graph was (maps.insert graph.lists (own_member at) items) (λ q xs there.
        new_or_old_value object_member_cmp-IsTotalOrder object_member_cmp-IsAntisymmetric (λ k ys. IsListOf schema graph k ys)
        graph.lists (own_member at) items q xs (record { def = at.def; defined = own_defined; of_kind = is; typed = typed }) (was.lists q xs) there)

    -- ---- dictionaries

    -- a key with the item that it is bound to
    abbrev IsBinding : Key → Name → Type 0
    IsBinding key y = (takes_key at.def.kind key ≡ true) × IsKey key × IsNameOf graph (target_of at.def.kind) y

    bindings_right : (key : Key) (y : Name) → maps.get (bindings_of graph at) key ≡ Some y → IsBinding key y
    bindings_right = by (maps.get graph.dictionaries (own_member at)) refl
      where
        by : (found : Option Dictionary) → maps.get graph.dictionaries (own_member at) ≡ found → (key : Key) (y : Name) → maps.get (unwrap_or found maps.empty) key ≡ Some y → IsBinding key y
        by None e key y there = absurd (none-some y (sym (maps.get-empty key_cmp key) ∙ there))
        by (Some bindings) e key y there =
            let dictionary = was.dictionaries (own_member at) bindings e in
            let right = dictionary.typed key y there in
            let same = same_def dictionary.def dictionary.defined in
            (subst (λ (def : MemberDef). takes_key def.kind key ≡ true) same right.0, right.1, subst (λ (def : MemberDef). IsNameOf graph (target_of def.kind) y) same right.2)

    dictionary_put : is_dictionary at.def.kind ≡ true → (bindings : Dictionary) → ((key : Key) (y : Name) → maps.get bindings key ≡ Some y → IsBinding key y)
        → KeepsTypes schema (with_bindings graph at bindings)
    dictionary_put is bindings typed = by_length (maps.len bindings == 0)
      where
        by_length : (b : Bool) → KeepsTypes schema (record graph { dictionaries = if b then maps.remove graph.dictionaries (own_member at) else maps.insert graph.dictionaries (own_member at) bindings })
        by_length true =
            with_dictionaries schema graph was (maps.remove graph.dictionaries (own_member at)) (λ q ds there.
            was.dictionaries q ds (value_removed object_member_cmp-IsTotalOrder object_member_cmp-IsAntisymmetric graph.dictionaries (own_member at) q ds there))
        by_length false =
            with_dictionaries schema graph was (maps.insert graph.dictionaries (own_member at) bindings) (λ q ds there.
            new_or_old_value object_member_cmp-IsTotalOrder object_member_cmp-IsAntisymmetric (λ k es. IsDictionaryOf schema graph k es)
            graph.dictionaries (own_member at) bindings q ds (record { def = at.def; defined = own_defined; of_kind = is; typed = typed }) (was.dictionaries q ds) there)

  pub appended_right : (vars : Vars) (x y : Name) (at : LiveMember) → Finds schema graph x is_list at → IsLive graph y
      → first_refusal (append_deed vars graph y at).tests ≡ None → KeepsTypes schema (with_items graph at (items_of graph at ++ y ∷ []))
  appended_right vars x y at finds item passed =
      list_put is_list x at finds finds.of_kind (items_of graph at ++ y ∷ [])
      (all_append _ (items_of graph at) y (items_right is_list x at finds) (item_right schema graph was at y item (split (of_other_type graph at y) [] passed).0))

  pub put_right : (vars : Vars) (x y : Name) (index : ℕ) (at : LiveMember) → Finds schema graph x is_list at → IsLive graph y
      → first_refusal (put_deed vars graph index y at).tests ≡ None → KeepsTypes schema (with_items graph at (slice_set (items_of graph at) index y))
  put_right vars x y index at finds item passed =
      list_put is_list x at finds finds.of_kind (slice_set (items_of graph at) index y)
      (all_set _ (items_of graph at) index y (items_right is_list x at finds) (item_right schema graph was at y item (split (of_other_type graph at y) (out_of_range graph at index ∷ []) passed).0))

  pub bound_right : (vars : Vars) (x y : Name) (key : Key) (at : LiveMember) → Finds schema graph x is_dictionary at → IsWritten key → IsLive graph y
      → first_refusal (bind_deed vars graph key y at).tests ≡ None → KeepsTypes schema (with_bindings graph at (maps.insert (bindings_of graph at) key y))
  bound_right vars x y key at finds within item passed =
      let first = split (other_key at key) (key_too_long key ∷ of_other_type graph at y ∷ []) passed in
      let second = split (key_too_long key) (of_other_type graph at y ∷ []) first.1 in
      let takes = not_false _ (passes (not (takes_key at.def.kind key)) WrongKind first.0) in
      let typed = item_right schema graph was at y item (split (of_other_type graph at y) [] second.1).0 in
      dictionary_put is_dictionary x at finds finds.of_kind (maps.insert (bindings_of graph at) key y) (λ k z there.
      new_or_old_value key_cmp-IsTotalOrder key_cmp-IsAntisymmetric (λ q u. IsBinding is_dictionary x at finds q u) (bindings_of graph at) key y k z
      (takes, key_right key within second.0, typed) (bindings_right is_dictionary x at finds k z) there)

  pub unbound_right : (x : Name) (key : Key) (at : LiveMember) → Finds schema graph x is_dictionary at → KeepsTypes schema (with_bindings graph at (maps.remove (bindings_of graph at) key))
  unbound_right x key at finds =
      dictionary_put is_dictionary x at finds finds.of_kind (maps.remove (bindings_of graph at) key) (λ k z there.
      bindings_right is_dictionary x at finds k z (value_removed key_cmp-IsTotalOrder key_cmp-IsAntisymmetric (bindings_of graph at) key k z there))
