-- What a command on a member of a variable's object gives, from the look-ups one by one.
use Rattle.std.proofs.Common.{◌≡◌, ℕ, Bool, false, List, ◌∷◌, ap, ◌∙◌, Option, Some, None}
use Rattle.std.specs.Prelude.{not, ◌&&◌, ◌||◌, is_some, unwrap_or}
use Rattle.std.specs.List.{slice_get}
use Rattle.std.specs.Option.{option_map, option_and_then}
use Rattle.std.specs.FinMap as maps
use Rattle.ostore_schema_layout.specs.declared.schema.Schema.{Schema}
use Rattle.ostore_schema_layout.specs.declared.schema.MemberDef.{MemberDef}
use Rattle.ostore_schema_layout.specs.declared.schema.MemberNo.{MemberNo}
use Rattle.ostore_schema_layout.specs.declared.schema.MemberKind.{MemberKind}
use Rattle.ostore_schema_layout.specs.Numbers.{members_of, member_named}
use Rattle.ostore_graph_model.specs.declared.values.Name.{Name}
use Rattle.ostore_graph_model.specs.declared.refusal.Refusal.TheVariants.{NoMember, NoVariable, Dangling, ReadOnly}
use Rattle.ostore_graph_model.specs.Graph.{Graph, Object}
use Rattle.ostore_graph_model.specs.Deeds.{Vars, Stepped, Deed, LiveMember, refused, refused_where, first_refusal, refused_or, outcome, no_name, no_object, member_at_type}
use Rattle.ostore_graph_model.specs.Step.{member_tests, member_gives}
use Rattle.ostore_object_ops.specs.inside.Members.{on_member, member_deed}

module _ (schema : Schema) (vars : Vars) (graph : Graph) (variable member : List ℕ) (kind : MemberKind → Bool) (deed : LiveMember → Deed) where
  -- the member is looked for
  abbrev at_member : Option LiveMember → Stepped
  at_member found = refused_or (first_refusal (member_tests schema vars graph kind deed found)) vars graph (member_gives schema vars graph deed found)

  -- in an object that is looked for
  abbrev in_object : Name → Option Object → Option LiveMember
  in_object name o =
      option_and_then (λ number. member_at_type schema name (record { ty = (unwrap_or o no_object).ty; member = number })) (member_named schema (unwrap_or o no_object).ty member)

  abbrev at_object : Name → Option Object → Stepped
  at_object name o =
      refused_or (first_refusal (refused_where (not (is_some o) || false) Dangling ∷ member_tests schema vars graph kind deed (in_object name o))) vars graph
      (member_gives schema vars graph deed (in_object name o))

  -- of a name that is looked for
  abbrev at_name : Bool → Option Name → Stepped
  at_name read_only o =
      refused_or
      (first_refusal (refused_where read_only ReadOnly ∷ refused_where (not (is_some o) || false) NoVariable
      ∷ refused_where (not (is_some (maps.get graph.objects (unwrap_or o no_name))) || false) Dangling
      ∷ member_tests schema vars graph kind deed (in_object (unwrap_or o no_name) (maps.get graph.objects (unwrap_or o no_name))))) vars graph
      (member_gives schema vars graph deed (in_object (unwrap_or o no_name) (maps.get graph.objects (unwrap_or o no_name))))

  by_name : (writes update : Bool) (o : Option Name) → (writes && not update) ≡ false → maps.get vars variable ≡ o
      → on_member schema vars graph variable member kind deed writes update ≡ at_name false o
  by_name writes update o may found = ap (λ b. at_name b (maps.get vars variable)) may ∙ ap (at_name false) found

  pub unbound_gives : (writes update : Bool) → (writes && not update) ≡ false → maps.get vars variable ≡ None
      → on_member schema vars graph variable member kind deed writes update ≡ refused NoVariable vars graph
  unbound_gives writes update may none = by_name writes update None may none

  by_object : (writes update : Bool) (name : Name) (o : Option Object) → (writes && not update) ≡ false → maps.get vars variable ≡ Some name → maps.get graph.objects name ≡ o
      → on_member schema vars graph variable member kind deed writes update ≡ at_object name o
  by_object writes update name o may found there = by_name writes update (Some name) may found ∙ ap (at_object name) there

  pub dangling_gives : (writes update : Bool) (name : Name) → (writes && not update) ≡ false → maps.get vars variable ≡ Some name → maps.get graph.objects name ≡ None
      → on_member schema vars graph variable member kind deed writes update ≡ refused Dangling vars graph
  dangling_gives writes update name may found none = by_object writes update name None may found none

  abbrev at_number : Name → Object → Option MemberNo → Stepped
  at_number name object o = at_member (option_and_then (λ number. member_at_type schema name (record { ty = object.ty; member = number })) o)

  by_number : (writes update : Bool) (name : Name) (object : Object) (o : Option MemberNo) → (writes && not update) ≡ false → maps.get vars variable ≡ Some name
      → maps.get graph.objects name ≡ Some object → member_named schema object.ty member ≡ o
      → on_member schema vars graph variable member kind deed writes update ≡ at_number name object o
  by_number writes update name object o may found there named = by_object writes update name (Some object) may found there ∙ ap (at_number name object) named

  pub memberless_gives : (writes update : Bool) (name : Name) (object : Object) → (writes && not update) ≡ false → maps.get vars variable ≡ Some name
      → maps.get graph.objects name ≡ Some object → member_named schema object.ty member ≡ None
      → on_member schema vars graph variable member kind deed writes update ≡ refused NoMember vars graph
  memberless_gives writes update name object may found there none = by_number writes update name object None may found there none

  abbrev at_def : Name → Object → MemberNo → Option MemberDef → Stepped
  at_def name object number def =
      at_member (option_map (λ d. record { owner = name; at = record { ty = object.ty; member = number }; def = d }) def)

  pub member_gives_deed : (writes update : Bool) (name : Name) (object : Object) (number : MemberNo) (def : MemberDef) → (writes && not update) ≡ false → maps.get vars variable ≡ Some name
      → maps.get graph.objects name ≡ Some object → member_named schema object.ty member ≡ Some number
      → slice_get (members_of schema object.ty.0) number.0 ≡ Some def
      → on_member schema vars graph variable member kind deed writes update
      ≡ outcome vars graph (member_deed kind deed (record { owner = name; at = record { ty = object.ty; member = number }; def = def }))
  member_gives_deed writes update name object number def may found there named is =
      by_number writes update name object (Some number) may found there named ∙ ap (at_def name object number) is
