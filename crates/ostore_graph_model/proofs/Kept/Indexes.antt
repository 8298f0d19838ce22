-- Declared indexes: `index`, `unindex`.
use Rattle.std.proofs.Common.{◌≡◌, ◌≢◌, ◌⊎◌, inl, inr, ℕ, ◌+◌, ◌≤◌, true, false, List, [], ◌∷◌, length, map, Option, Some, None, refl, sym, ap, subst, ◌∙◌, arith, true≢false}
use Rattle.std.specs.Prelude.{not, ◌&&◌, ◌||◌, is_some, if◌then◌else◌, Ok, Err}
use Rattle.std.specs.List.{list_any}
use Rattle.std.specs.Option.{option_map_or, option_and_then}
use Rattle.std.proofs.lemmas.Bool.{cases_Bool, or_parts}
use Rattle.std.proofs.lemmas.List.{length-map}
use Rattle.ostore_schema_layout.specs.declared.schema.Schema.{Schema}
use Rattle.ostore_schema_layout.specs.declared.schema.TypeNo.{TypeNo}
use Rattle.ostore_schema_layout.specs.declared.schema.MemberNo.{MemberNo}
use Rattle.ostore_schema_layout.specs.declared.schema.MemberDef.{MemberDef}
use Rattle.ostore_schema_layout.specs.declared.schema.MemberKind.{MemberKind}
use Rattle.ostore_schema_layout.specs.declared.schema.MemberKind.TheVariants as kinds
use Rattle.ostore_schema_layout.specs.Numbers.{member_named, member_at}
use Rattle.ostore_graph_model.specs.declared.values.Name.{Name}
use Rattle.ostore_graph_model.specs.declared.refusal.Refusal.{Refusal}
use Rattle.ostore_graph_model.specs.declared.refusal.Refusal.TheVariants.{NoMember, WrongKind, NotIndexable, IndexThere}
use Rattle.ostore_graph_model.specs.Sets as sets
use Rattle.ostore_graph_model.specs.Orders.{TypeMember, PathIndex}
use Rattle.ostore_graph_model.specs.Limits.{most_steps}
use Rattle.ostore_graph_model.specs.Kinds.{is_ref, is_set, is_scalar, target_of}
use Rattle.ostore_graph_model.specs.Graph.{Graph}
use Rattle.ostore_graph_model.specs.Links.{def_of, is_two_sided}
use Rattle.ostore_graph_model.specs.Deeds.{Vars, LiveMember, refused_where, first_refusal}
use Rattle.ostore_graph_model.specs.Deeds.Indexes.{Path, first_step, last_step, through, kind_of, at_step, path_from, path_at, wrong_path, members_on, is_one_sided_ref, not_indexable, index_on, is_declared, index_by}
use Rattle.ostore_graph_model.specs.GraphRules.{LeadsOn, IsIndexOf, IsGraph}
use Rattle.ostore_graph_model.proofs.OrderLaws.{index_cmp-IsTotalOrder, index_cmp-IsAntisymmetric}
use Rattle.ostore_graph_model.proofs.PassedLaws.{split, passes, not_false, Finds}
use Rattle.ostore_graph_model.proofs.LiveLaws.{in_removed, new_or_old}
use Rattle.ostore_graph_model.proofs.Kept.Parts.{KeepsTypes, with_indexes}

-- ---- paths

same_path : (first second : List TypeMember) → ◌≡◌ {A = Path} (Ok first) (Ok second) → first ≡ second
same_path first second e = ap (λ (path : Path). members_on path) e

no_path : (refusal : Refusal) (members : List TypeMember) → ◌≡◌ {A = Path} (Err refusal) (Ok members) → ⊥
no_path refusal members e = cc

-- the numbers of a path's members
abbrev numbers : List TypeMember → List MemberNo
numbers members = map (λ (m : TypeMember). m.member) members

-- a path that leads on from a type, and has as many members as names
abbrev Leads : Schema → TypeNo → ℕ → List TypeMember → Type 0
Leads schema ty n members = LeadsOn schema ty (numbers members) × (length members ≡ n)

inverse_there : (schema : Schema) (member : TypeMember) (def : MemberDef) → def_of schema member ≡ Some def → is_ref def.kind ≡ true → is_one_sided_ref schema member ≡ false → def.inverse ≢ None
inverse_there schema member def defined ref sided none =
    let is_ref_here = ap (λ (o : Option MemberDef). option_map_or (λ (d : MemberDef). is_ref d.kind) o false) defined ∙ ref in
    let alone = ap (λ (o : Option MemberDef). is_some (option_and_then (λ (d : MemberDef). d.inverse) o)) defined ∙ ap is_some none in
    let both : is_one_sided_ref schema member ≡ true = ap (λ b. b && not (is_two_sided schema member)) is_ref_here ∙ ap not alone in
    true≢false (sym both ∙ sided)

module _ (schema : Schema) where
  last_leads : (ty : TypeNo) (member : MemberNo) (members : List TypeMember) → last_step schema (record { ty = ty; member = member }) ≡ Ok members → Leads schema ty 1 members
  last_leads ty member members e = by (member_at schema ty member) refl
    where
      by_kind : (def : MemberDef) → member_at schema ty member ≡ Some def → (is_scalar def.kind ≡ true) ⊎ (is_scalar def.kind ≡ false) → Leads schema ty 1 members
      by_kind def defined (inl is) =
          let same = same_path (record { ty = ty; member = member } ∷ []) members
          (sym (ap (λ b. if b then Ok (record { ty = ty; member = member } ∷ []) else Err WrongKind) (ap (λ (o : Option MemberDef). option_map_or (λ d. is_scalar d.kind) o false) defined ∙ is)) ∙ e) in
          subst (Leads schema ty 1) same ((def, defined, is), refl)
      by_kind def defined (inr other) =
          absurd (no_path WrongKind members (sym (ap (λ b. if b then Ok (record { ty = ty; member = member } ∷ []) else Err WrongKind) (ap (λ (o : Option MemberDef). option_map_or (λ d. is_scalar d.kind) o false) defined ∙ other)) ∙ e))

      by : (found : Option MemberDef) → member_at schema ty member ≡ found → Leads schema ty 1 members
      by None none =
          absurd (no_path WrongKind members (sym (ap (λ b. if b then Ok (record { ty = ty; member = member } ∷ []) else Err WrongKind) (ap (λ (o : Option MemberDef). option_map_or (λ d. is_scalar d.kind) o false) none)) ∙ e))
      by (Some def) defined = by_kind def defined (cases_Bool (is_scalar def.kind))

  -- a step through a reference with an inverse
  step_leads : (ty : TypeNo) (member : MemberNo) (def : MemberDef) (target : TypeNo) (n : ℕ) (members : List TypeMember)
      → member_at schema ty member ≡ Some def → def.kind ≡ kinds.Ref target → def.inverse ≢ None → Leads schema target n members
      → Leads schema ty (n + 1) (record { ty = ty; member = member } ∷ members)
  step_leads ty member def target n [] defined kind sided leads = absurd leads.0
  step_leads ty member def target n (next ∷ members) defined kind sided leads = ((def, target, defined, kind, sided, leads.0), let m = leads.1 in omega (arith, m))

  -- a path of more than one step
  module _ (ty : TypeNo) (n : ℕ) (rest : TypeNo → Path) (members : List TypeMember) (sided : list_any (is_one_sided_ref schema) members ≡ false)
      (later : (target : TypeNo) (others : List TypeMember) → rest target ≡ Ok others → list_any (is_one_sided_ref schema) others ≡ false → Leads schema target n others) where
    by_rest : (member : MemberNo) (def : MemberDef) (target : TypeNo) → member_at schema ty member ≡ Some def → def.kind ≡ kinds.Ref target
        → (path : Path) → rest target ≡ path → first_step (record { ty = ty; member = member }) path ≡ Ok members → Leads schema ty (n + 1) members
    by_rest member def target defined kind (Err refusal) r f = absurd (no_path refusal members f)
    by_rest member def target defined kind (Ok others) r f =
        let same = same_path (record { ty = ty; member = member } ∷ others) members f in
        let parts = or_parts (is_one_sided_ref schema (record { ty = ty; member = member })) (list_any (is_one_sided_ref schema) others) (ap (list_any (is_one_sided_ref schema)) same ∙ sided) in
        let inverse = inverse_there schema (record { ty = ty; member = member }) def defined (ap is_ref kind) parts.0 in
        subst (Leads schema ty (n + 1)) same (step_leads ty member def target n others defined kind inverse (later target others r parts.1))

    by_kind : (member : MemberNo) (def : MemberDef) → member_at schema ty member ≡ Some def → (kind : MemberKind) → def.kind ≡ kind
        → through (record { ty = ty; member = member }) (Some kind) rest ≡ Ok members → Leads schema ty (n + 1) members
    by_kind member def defined kinds.Int k f = absurd (no_path WrongKind members f)
    by_kind member def defined (kinds.Text max) k f = absurd (no_path WrongKind members f)
    by_kind member def defined (kinds.Ref target) k f = by_rest member def target defined k (rest target) refl f
    by_kind member def defined (kinds.Set target) k f = absurd (no_path WrongKind members f)
    by_kind member def defined (kinds.List target) k f = absurd (no_path WrongKind members f)
    by_kind member def defined (kinds.DictInt target) k f = absurd (no_path WrongKind members f)
    by_kind member def defined (kinds.DictText target) k f = absurd (no_path WrongKind members f)

    by_def : (member : MemberNo) (found : Option MemberDef) → member_at schema ty member ≡ found
        → through (record { ty = ty; member = member }) (option_map_or (λ (d : MemberDef). Some d.kind) found None) rest ≡ Ok members → Leads schema ty (n + 1) members
    by_def member None defined f = absurd (no_path WrongKind members f)
    by_def member (Some def) defined f = by_kind member def defined def.kind refl f

    further : (found : Option MemberNo) → at_step ty found (λ member. through member (kind_of schema member) rest) ≡ Ok members → Leads schema ty (n + 1) members
    further None f = absurd (no_path NoMember members f)
    further (Some member) f = by_def member (member_at schema ty member) refl f

  last_named : (ty : TypeNo) (members : List TypeMember) (found : Option MemberNo) → at_step ty found (last_step schema) ≡ Ok members → Leads schema ty 1 members
  last_named ty members None f = absurd (no_path NoMember members f)
  last_named ty members (Some member) f = last_leads ty member members f

  path_leads : (ty : TypeNo) (names : List (List ℕ)) (members : List TypeMember) → path_from schema ty names ≡ Ok members → list_any (is_one_sided_ref schema) members ≡ false
      → Leads schema ty (length names) members
  path_leads ty [] members e sided = absurd (no_path WrongKind members e)
  path_leads ty (name ∷ []) members e sided = last_named ty members (member_named schema ty name) e
  path_leads ty (name ∷ next ∷ names) members e sided =
      let whole = further ty (length (next ∷ names)) (λ target. path_from schema target (next ∷ names)) members sided (λ target others f one. path_leads target (next ∷ names) others f one) (member_named schema ty name) e in
      (whole.0, let m = whole.1 in omega (arith, m))

-- a path that isn't refused
path_there : (path : Path) → wrong_path path ≡ None → path ≡ Ok (members_on path)
path_there (Ok members) e = refl
path_there (Err refusal) e = absurd cc

two_sided_def : (schema : Schema) (member : TypeMember) (def : MemberDef) → def_of schema member ≡ Some def → is_two_sided schema member ≡ true → def.inverse ≢ None
two_sided_def schema member def defined is none =
    true≢false (sym is ∙ ap (λ (o : Option MemberDef). is_some (option_and_then (λ (d : MemberDef). d.inverse) o)) defined ∙ ap is_some none)

-- ---- declared indexes

module _ (schema : Schema) (graph : Graph) (was : IsGraph schema graph) where
  pub declared_right : (vars : Vars) (x : Name) (at : LiveMember) (names : List (List ℕ)) → Finds schema graph x is_set at → length names ≤ most_steps
      → first_refusal (index_by schema vars graph at (path_at schema at names)).tests ≡ None
      → KeepsTypes schema (record graph { indexes = sets.insert graph.indexes (index_on at (path_at schema at names)) })
  declared_right vars x at names finds few passed =
      let path = path_at schema at names in
      let there = refused_where (is_declared graph at path) IndexThere in
      let first = split (wrong_path path) (not_indexable schema at path ∷ there ∷ []) passed in
      let alone = passes (not (is_two_sided schema at.at) || list_any (is_one_sided_ref schema) (members_on path)) NotIndexable (split (not_indexable schema at path) (there ∷ []) first.1).0 in
      let parts = or_parts (not (is_two_sided schema at.at)) (list_any (is_one_sided_ref schema) (members_on path)) alone in
      let leads = path_leads schema (target_of at.def.kind) names (members_on path) (path_there path first.0) parts.1 in
      with_indexes schema graph was (sets.insert graph.indexes (index_on at path)) (λ q e.
      new_or_old index_cmp-IsTotalOrder index_cmp-IsAntisymmetric (λ k. IsIndexOf schema graph k) graph.indexes (index_on at path) tt q
      (record {
        def = at.def;
        defined = ap (λ (ty : TypeNo). def_of schema (record { ty = ty; member = at.at.member })) (sym finds.ty) ∙ finds.defined;
        of_kind = finds.of_kind;
        sided = two_sided_def schema at.at at.def finds.defined (not_false _ parts.0);
        leads = leads.0;
        few = let m = leads.1 in omega (arith, few, m, length-map (members_on path) (λ (k : TypeMember). k.member));
      }) (was.indexes q) e)

  pub undeclared_right : (index : PathIndex) → KeepsTypes schema (record graph { indexes = sets.remove graph.indexes index })
  undeclared_right index =
      with_indexes schema graph was (sets.remove graph.indexes index) (λ q e.
      was.indexes q (in_removed index_cmp-IsTotalOrder index_cmp-IsAntisymmetric graph.indexes index q e))
