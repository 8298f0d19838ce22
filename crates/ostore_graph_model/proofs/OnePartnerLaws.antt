-- Commands keep it that a reference has one partner at most.
use Rattle.std.proofs.Common.{◌≡◌, ◌⊎◌, inl, inr, Bool, true, false, Option, Some, None, refl, sym, ap, subst, ◌∙◌}
use Rattle.std.specs.Prelude.{not, ◌&&◌, ◌||◌, unwrap_or, if◌then◌else◌}
use Rattle.std.specs.Option.{option_map, option_map_or, option_and_then}
use Rattle.ostore_schema_layout.specs.declared.schema.Schema.{Schema}
use Rattle.ostore_schema_layout.specs.declared.schema.MemberDef.{MemberDef}
use Rattle.ostore_schema_layout.specs.declared.schema.Inverse.{Inverse}
use Rattle.ostore_schema_layout.specs.Lawful.{inverse_of, IsLawful}
use Rattle.ostore_graph_model.specs.declared.values.Name.{Name}
use Rattle.ostore_graph_model.specs.declared.commands.Command.{Command}
use Rattle.ostore_graph_model.specs.declared.commands.Command.TheVariants.{New, Find, Root, SetRoot, Get, Set, Follow, Delete, Insert, Remove, Members, Size, Append, Put, At, Bind, Look, Unbind, Index, Unindex, Query}
use Rattle.ostore_graph_model.specs.declared.commands.Operand.TheVariants as operands
use Rattle.ostore_graph_model.specs.Sets as sets
use Rattle.ostore_graph_model.specs.Orders.{TypeMember, Pair, pair_cmp}
use Rattle.ostore_graph_model.specs.Graph.{Graph}
use Rattle.ostore_graph_model.specs.Links.{comes_first, member_of_inverse, pair_from, pair_at, inverse_at, other_member, def_of, is_first, is_ref_member, far_end, joins_from, joins_to, is_displaced, joined, goes_with}
use Rattle.ostore_graph_model.specs.Deeds.{Vars, Stepped, bound_to}
use Rattle.ostore_graph_model.specs.Step.{line_of, step}
use Rattle.ostore_graph_model.specs.LiveGraphs.{HasOnePartner, LawOfOnePartner}
use Rattle.ostore_graph_model.proofs.PassedLaws.{TaskMay, step_may}
use Rattle.ostore_graph_model.proofs.LiveLaws.{in_retained, in_removed, new_or_old}
use Rattle.ostore_graph_model.proofs.SideLaws.{two_sided}
use Rattle.ostore_graph_model.proofs.OrderLaws.{same_tied, name_cmp-IsTotalOrder, type_member_cmp-IsTotalOrder, pair_cmp-IsTotalOrder, pair_cmp-IsAntisymmetric}

-- ---- a pair as it is seen from a member

-- the pair of x and y at a member that comes first, or whose other member does
abbrev oriented : TypeMember → TypeMember → Name → Name → Bool → Pair
oriented member other x y b = if b then record { link = member; first = x; second = y } else record { link = other; first = y; second = x }

near_of : (member : TypeMember) (i : Option Inverse) (x y : Name) → (if comes_first member i then (pair_from member i x y).first else (pair_from member i x y).second) ≡ x
near_of member None x y = refl
near_of member (Some inverse) x y =
    elim (comes_first member (Some inverse)) as (λ b. (if b then (oriented member (member_of_inverse inverse) x y b).first else (oriented member (member_of_inverse inverse) x y b).second) ≡ x) [ true ↦ refl | false ↦ refl ]

far_of : (member : TypeMember) (i : Option Inverse) (x y : Name) → (if comes_first member i then (pair_from member i x y).second else (pair_from member i x y).first) ≡ y
far_of member None x y = refl
far_of member (Some inverse) x y =
    elim (comes_first member (Some inverse)) as (λ b. (if b then (oriented member (member_of_inverse inverse) x y b).second else (oriented member (member_of_inverse inverse) x y b).first) ≡ y) [ true ↦ refl | false ↦ refl ]

link_of : (member : TypeMember) (i : Option Inverse) (x y u v : Name) → (pair_from member i x y).link ≡ (pair_from member i u v).link
link_of member None x y u v = refl
link_of member (Some inverse) x y u v =
    elim (comes_first member (Some inverse)) as (λ b. (oriented member (member_of_inverse inverse) x y b).link ≡ (oriented member (member_of_inverse inverse) u v b).link) [ true ↦ refl | false ↦ refl ]

and_true : (a b : Bool) → a ≡ true → b ≡ true → (a && b) ≡ true
and_true true b e f = f
and_true false b e f = absurd cc

or_first : (a b : Bool) → a ≡ true → (a || b) ≡ true
or_first true b e = refl
or_first false b e = absurd cc

or_second : (a b : Bool) → b ≡ true → (a || b) ≡ true
or_second true b e = refl
or_second false b e = e

module _ (schema : Schema) where
  far : (member : TypeMember) (x y : Name) → far_end schema member (pair_at schema member x y) ≡ y
  far member x y = far_of member (inverse_at schema member) x y

  from_here : (m : TypeMember) (a z : Name) → joins_from schema m a (pair_at schema m a z) ≡ true
  from_here m a z =
      and_true _ _ (same_tied type_member_cmp-IsTotalOrder _ _ (link_of m (inverse_at schema m) a z a a))
      (same_tied name_cmp-IsTotalOrder _ _ (near_of m (inverse_at schema m) a z))

  to_there : (m : TypeMember) (b : Name) (pair : Pair) → pair.link ≡ (pair_at schema m b b).link → far_end schema m pair ≡ b → joins_to schema m b pair ≡ true
  to_there m b pair link end = and_true _ _ (same_tied type_member_cmp-IsTotalOrder _ _ link) (same_tied name_cmp-IsTotalOrder _ _ end)

module _ (schema : Schema) (lawful : IsLawful schema) where
  -- the inverse of a member names it back
  agree_def : (member : TypeMember) (found : Option MemberDef) (inverse : Inverse) → def_of schema member ≡ found → option_and_then (λ def. def.inverse) found ≡ Some inverse
      → inverse_at schema (member_of_inverse inverse) ≡ Some (inverse_of member.ty member.member)
  agree_def member None inverse is sided = absurd cc
  agree_def member (Some def) inverse is sided =
      let two = two_sided schema lawful member.ty member.member def inverse is sided in
      ap (λ (o : Option MemberDef). option_and_then (λ d. d.inverse) o) two.named.there ∙ two.named.back

  agree : (member : TypeMember) (inverse : Inverse) → inverse_at schema member ≡ Some inverse → other_member schema (member_of_inverse inverse) ≡ Some member
  agree member inverse sided = ap (λ (o : Option Inverse). option_map member_of_inverse o) (agree_def member (def_of schema member) inverse refl sided)

  -- how the pairs of a member stand
  record Stands (member : TypeMember) : Type 0 where
    comes : Bool
    other : TypeMember
    pairs : (x y : Name) → pair_at schema member x y ≡ oriented member other x y comes
    first : is_first schema member ≡ comes
    sided : comes ≡ false → (other_member schema member ≡ Some other) × (other_member schema other ≡ Some member)

  stands_by : (member : TypeMember) (i : Option Inverse) → inverse_at schema member ≡ i → Stands member
  stands_by member None e = record {
    comes = true;
    other = member;
    pairs = λ x y. ap (λ (i : Option Inverse). pair_from member i x y) e;
    first = ap (λ (i : Option Inverse). comes_first member i) e;
    sided = λ no. absurd cc;
  }
  stands_by member (Some inverse) e = record {
    comes = comes_first member (Some inverse);
    other = member_of_inverse inverse;
    pairs = λ x y. ap (λ (i : Option Inverse). pair_from member i x y) e;
    first = ap (λ (i : Option Inverse). comes_first member i) e;
    sided = λ no. (ap (λ (o : Option Inverse). option_map member_of_inverse o) e, agree member inverse e);
  }

  stands : (member : TypeMember) → Stands member
  stands member = stands_by member (inverse_at schema member) refl

  same_some : (x y : TypeMember) → Some x ≡ Some y → x ≡ y
  same_some x y e = ap (λ o. unwrap_or o x) e

  -- a pair that x has beside the new one is displaced by it
  module _ (member m : TypeMember) (x y z a b : Name) (new : pair_at schema member x y ≡ pair_at schema m a b) (ref : is_ref_member schema member ≡ true) where
    abbrev s : Stands member
    s = stands member

    abbrev t : Stands m
    t = stands m

    here : member ≡ m → x ≡ a → is_displaced schema m a b (pair_at schema member x z) ≡ true
    here same end =
        or_first _ _ (and_true _ _ (subst (λ k. is_ref_member schema k ≡ true) same ref)
        (ap (λ (p : Pair). joins_from schema m a p) (ap (λ (k : TypeMember). pair_at schema k x z) same ∙ ap (λ (u : Name). pair_at schema m u z) end) ∙ from_here schema m a z))

    there : other_member schema m ≡ Some member → (pair_at schema member x z).link ≡ (pair_at schema m b b).link → far_end schema m (pair_at schema member x z) ≡ b
        → is_displaced schema m a b (pair_at schema member x z) ≡ true
    there other link end =
        or_second _ _ (and_true _ _ (ap (λ (o : Option TypeMember). option_map_or (is_ref_member schema) o false) other ∙ ref) (to_there schema m b (pair_at schema member x z) link end))

    by_order : (c d : Bool) → s.comes ≡ c → t.comes ≡ d → is_displaced schema m a b (pair_at schema member x z) ≡ true
    by_order true true sc td =
        let e : oriented member s.other x y true ≡ oriented m t.other a b true =
        sym (s.pairs x y ∙ ap (oriented member s.other x y) sc) ∙ new ∙ t.pairs a b ∙ ap (oriented m t.other a b) td in
        here (ap (λ (p : Pair). p.link) e) (ap (λ (p : Pair). p.first) e)
    by_order false false sc td =
        let e : oriented member s.other x y false ≡ oriented m t.other a b false =
        sym (s.pairs x y ∙ ap (oriented member s.other x y) sc) ∙ new ∙ t.pairs a b ∙ ap (oriented m t.other a b) td in
        let others : s.other ≡ t.other = ap (λ (p : Pair). p.link) e in
        here (same_some member m (sym (s.sided sc).1 ∙ ap (other_member schema) others ∙ (t.sided td).1)) (ap (λ (p : Pair). p.second) e)
    by_order true false sc td =
        let e : oriented member s.other x y true ≡ oriented m t.other a b false =
        sym (s.pairs x y ∙ ap (oriented member s.other x y) sc) ∙ new ∙ t.pairs a b ∙ ap (oriented m t.other a b) td in
        let link : member ≡ t.other = ap (λ (p : Pair). p.link) e in
        let end : x ≡ b = ap (λ (p : Pair). p.first) e in
        let seen : pair_at schema member x z ≡ oriented member s.other x z true = s.pairs x z ∙ ap (oriented member s.other x z) sc in
        there ((t.sided td).0 ∙ ap (λ (k : TypeMember). Some k) (sym link))
        (ap (λ (p : Pair). p.link) seen ∙ link ∙ sym (ap (λ (p : Pair). p.link) (t.pairs b b ∙ ap (oriented m t.other b b) td)))
        (ap (far_end schema m) seen ∙ ap (λ (c : Bool). if c then z else x) (t.first ∙ td) ∙ end)
    by_order false true sc td =
        let e : oriented member s.other x y false ≡ oriented m t.other a b true =
        sym (s.pairs x y ∙ ap (oriented member s.other x y) sc) ∙ new ∙ t.pairs a b ∙ ap (oriented m t.other a b) td in
        let link : s.other ≡ m = ap (λ (p : Pair). p.link) e in
        let end : x ≡ b = ap (λ (p : Pair). p.second) e in
        let seen : pair_at schema member x z ≡ oriented member s.other x z false = s.pairs x z ∙ ap (oriented member s.other x z) sc in
        there (ap (other_member schema) (sym link) ∙ (s.sided sc).1)
        (ap (λ (p : Pair). p.link) seen ∙ link ∙ sym (ap (λ (p : Pair). p.link) (t.pairs b b ∙ ap (oriented m t.other b b) td)))
        (ap (far_end schema m) seen ∙ ap (λ (c : Bool). if c then x else z) (t.first ∙ td) ∙ end)

    displaced : is_displaced schema m a b (pair_at schema member x z) ≡ true
    displaced = by_order s.comes t.comes refl refl

  -- ---- pairs that change

  abbrev OnePartner : sets.FinSet pair_cmp → Type 0
  OnePartner pairs =
      (member : TypeMember) (x y z : Name) → is_ref_member schema member ≡ true
      → sets.contains pairs (pair_at schema member x y) ≡ true → sets.contains pairs (pair_at schema member x z) ≡ true → y ≡ z

  fewer : (pairs after : sets.FinSet pair_cmp) → ((pair : Pair) → sets.contains after pair ≡ true → sets.contains pairs pair ≡ true) → OnePartner pairs → OnePartner after
  fewer pairs after less was = λ member x y z ref first second. was member x y z ref (less (pair_at schema member x y) first) (less (pair_at schema member x z) second)

  clash : (b : Bool) → not b ≡ true → b ≡ true → ⊥
  clash true e f = cc
  clash false e f = cc

  module _ (pairs : sets.FinSet pair_cmp) (was : OnePartner pairs) (m : TypeMember) (a b : Name) where
    abbrev stays : Pair → Bool
    stays pair = not (is_displaced schema m a b pair)

    abbrev IsOld : Pair → Type 0
    IsOld pair = (stays pair ≡ true) × (sets.contains pairs pair ≡ true)

    which : (pair : Pair) → sets.contains (joined schema m a b pairs) pair ≡ true → (pair ≡ pair_at schema m a b) ⊎ IsOld pair
    which pair there =
        new_or_old pair_cmp-IsTotalOrder pair_cmp-IsAntisymmetric (λ p. (p ≡ pair_at schema m a b) ⊎ IsOld p) (sets.retain pairs stays) (pair_at schema m a b) tt pair (inl refl)
        (λ old. inr (in_retained pair_cmp-IsTotalOrder pair_cmp-IsAntisymmetric pairs stays pair old)) there

    still_one : OnePartner (joined schema m a b pairs)
    still_one member x y z ref first second = both (which (pair_at schema member x y) first) (which (pair_at schema member x z) second)
      where
        both : (pair_at schema member x y ≡ pair_at schema m a b) ⊎ IsOld (pair_at schema member x y)
            → (pair_at schema member x z ≡ pair_at schema m a b) ⊎ IsOld (pair_at schema member x z) → y ≡ z
        both (inl e) (inl f) = sym (far schema member x y) ∙ ap (far_end schema member) (e ∙ sym f) ∙ far schema member x z
        both (inl e) (inr old) = absurd (clash _ old.0 (displaced member m x y z a b e ref))
        both (inr old) (inl f) = absurd (clash _ old.0 (displaced member m x z y a b f ref))
        both (inr old) (inr other) = was member x y z ref old.1 other.1

  -- ---- command by command

  module _ (vars : Vars) (graph : Graph) (was : HasOnePartner schema graph) where
    abbrev One : Stepped → Type 0
    One stepped = HasOnePartner schema stepped.graph

    some : (test : Pair → Bool) → OnePartner (sets.retain graph.pairs test)
    some test = fewer graph.pairs (sets.retain graph.pairs test) (λ pair there. (in_retained pair_cmp-IsTotalOrder pair_cmp-IsAntisymmetric graph.pairs test pair there).1) was

    may : (command : Command) → TaskMay One schema graph vars (line_of schema vars graph command).task
    may (New to ty segment) = λ passed. was
    may (Find to name) = λ passed. was
    may (Root to root) = λ passed. was
    may (SetRoot root (Some item)) = λ passed. was
    may (SetRoot root None) = λ passed. was
    may (Get object member) = λ at own passed. was
    may (Set object member (operands.Int value)) = λ at own passed. was
    may (Set object member (operands.Text value)) = λ at own passed. was
    may (Set object member (operands.Var item)) = λ at own passed. still_one graph.pairs was at.at at.owner (bound_to vars item)
    may (Set object member operands.Null) = λ at own passed. some (λ pair. not (joins_from schema at.at at.owner pair))
    may (Follow to object member) = λ at own passed. was
    may (Delete object) = λ passed. some (λ pair. not (goes_with schema (bound_to vars object) pair))
    may (Insert object member item) = λ at own passed. still_one graph.pairs was at.at at.owner (bound_to vars item)
    may (Remove object member item) = λ at own passed.
        fewer graph.pairs (sets.remove graph.pairs (pair_at schema at.at at.owner (bound_to vars item)))
        (λ pair there. in_removed pair_cmp-IsTotalOrder pair_cmp-IsAntisymmetric graph.pairs (pair_at schema at.at at.owner (bound_to vars item)) pair there) was
    may (Members object member) = λ at own passed. was
    may (Size object member) = λ at own passed. was
    may (Append object member item) = λ at own passed. was
    may (Put object member index item) = λ at own passed. was
    may (At to object member index) = λ at own passed. was
    may (Bind object member key item) = λ at own passed. was
    may (Look to object member key) = λ at own passed. was
    may (Unbind object member key) = λ at own passed. was
    may (Index object member path) = λ at own passed. was
    may (Unindex object member path) = λ at own passed. was
    may (Query object member path op key) = λ at own passed. was

    kept : (update : Bool) (command : Command) → HasOnePartner schema (step schema update vars graph command).graph
    kept update command = step_may One schema vars graph (λ refusal. was) update command (λ live. may command)

pub law_of_one_partner : LawOfOnePartner
law_of_one_partner schema lawful update vars vars_after graph graph_after command reply was gives =
    subst (HasOnePartner schema) (ap (λ (s : Stepped). s.graph) gives) (kept schema lawful vars graph was update command)
