-- Who is shown at a side: those with whom the object is joined by a pair of the link.
use Rattle.std.proofs.Common.{◌≡◌, ◌↔◌, ◌&&◌, ◌||◌, Bool, true, false, cond, List, [], ◌∷◌, map, refl, sym, ap, ◌∙◌, Option, Some, None, inl, inr}
use Rattle.std.specs.Prelude.{filter}
use Rattle.std.specs.List.{list_any}
use Rattle.std.specs.Ordering.{eq_by_cmp}
use Rattle.std.specs.FinMap as maps
use Rattle.std.proofs.lemmas.Bool.{cases_Bool, or_cases, and_parts, and_from}
use Rattle.ostore_schema_layout.specs.declared.schema.Schema.{Schema}
use Rattle.ostore_schema_layout.specs.declared.schema.Inverse.{Inverse}
use Rattle.ostore_graph_model.specs.declared.values.Name.{Name}
use Rattle.ostore_graph_model.specs.Sets as sets
use Rattle.ostore_graph_model.specs.Orders.{TypeMember, type_member_cmp, Pair, pair_cmp, name_cmp}
use Rattle.ostore_graph_model.specs.Graph.{Graph}
use Rattle.ostore_graph_model.specs.Links.{member_of_inverse, inverse_at, comes_first, pair_from, pair_at, side}
use Rattle.ostore_graph_model.proofs.SetFacts as set_facts
use Rattle.ostore_graph_model.proofs.OrderLaws.{type_member_cmp-IsTotalOrder, type_member_cmp-IsAntisymmetric, name_cmp-IsTotalOrder, name_cmp-IsAntisymmetric, pair_cmp-IsTotalOrder, pair_cmp-IsAntisymmetric, same_tied, tied_same}

-- the pair of a link that is seen from its first side, or from its second one
abbrev seen : Bool → TypeMember → TypeMember → Name → Name → Pair
seen b one other x y = cond b (record { link = one; first = x; second = y }) (record { link = other; first = y; second = x })

abbrev near : Bool → Pair → Name
near b pair = cond b pair.first pair.second

abbrev far : Bool → Pair → Name
far b pair = cond b pair.second pair.first

abbrev test : Bool → TypeMember → TypeMember → Name → Pair → Bool
test b one other x pair = eq_by_cmp type_member_cmp pair.link (seen b one other x x).link && eq_by_cmp name_cmp (near b pair) x

seen_test : (b : Bool) (one other : TypeMember) (x y : Name) → test b one other x (seen b one other x y) ≡ true
seen_test true one other x y = and_from _ _ (same_tied type_member_cmp-IsTotalOrder one one refl) (same_tied name_cmp-IsTotalOrder x x refl)
seen_test false one other x y = and_from _ _ (same_tied type_member_cmp-IsTotalOrder other other refl) (same_tied name_cmp-IsTotalOrder x x refl)

seen_far : (b : Bool) (one other : TypeMember) (x y : Name) → far b (seen b one other x y) ≡ y
seen_far true one other x y = refl
seen_far false one other x y = refl

seen_is : (b : Bool) (one other : TypeMember) (x y : Name) (pair : Pair) → test b one other x pair ≡ true → far b pair ≡ y → pair ≡ seen b one other x y
seen_is true one other x y pair passes at =
    let parts = and_parts (eq_by_cmp type_member_cmp pair.link one) (eq_by_cmp name_cmp pair.first x) passes in
    let link = tied_same type_member_cmp-IsAntisymmetric pair.link one parts.0 in
    let first = tied_same name_cmp-IsAntisymmetric pair.first x parts.1 in
    λ i. record { link = link i; first = first i; second = at i }
seen_is false one other x y pair passes at =
    let parts = and_parts (eq_by_cmp type_member_cmp pair.link other) (eq_by_cmp name_cmp pair.second x) passes in
    let link = tied_same type_member_cmp-IsAntisymmetric pair.link other parts.0 in
    let second = tied_same name_cmp-IsAntisymmetric pair.second x parts.1 in
    λ i. record { link = link i; first = at i; second = second i }

or_true : (b : Bool) → (b || true) ≡ true
or_true true = refl
or_true false = refl

module _ (b : Bool) (one other : TypeMember) (x y : Name) where
  abbrev shown : List Pair → List Name
  shown pairs = map (far b) (filter (test b one other x) pairs)

  shown_forth : (pairs : List Pair) → list_any (eq_by_cmp name_cmp y) (map (far b) (filter (test b one other x) pairs)) ≡ true → list_any (eq_by_cmp pair_cmp (seen b one other x y)) pairs ≡ true
  shown_forth [] e = e
  shown_forth (pair ∷ pairs) e = elim (cases_Bool (test b one other x pair)) [
    | inl passes ↦
        let in_rest = sym (ap (λ t. list_any (eq_by_cmp name_cmp y) (map (far b) (cond t (pair ∷ filter (test b one other x) pairs) (filter (test b one other x) pairs)))) passes) ∙ e in
        elim (or_cases (eq_by_cmp name_cmp y (far b pair)) (list_any (eq_by_cmp name_cmp y) (map (far b) (filter (test b one other x) pairs))) in_rest) [
          | inl tied ↦
              let is = seen_is b one other x y pair passes (sym (tied_same name_cmp-IsAntisymmetric y (far b pair) tied)) in
              ap (λ t. t || list_any (eq_by_cmp pair_cmp (seen b one other x y)) pairs) (same_tied pair_cmp-IsTotalOrder (seen b one other x y) pair (sym is))
          | inr more ↦ ap (λ t. eq_by_cmp pair_cmp (seen b one other x y) pair || t) (shown_forth pairs more) ∙ or_true (eq_by_cmp pair_cmp (seen b one other x y) pair)
        ]
    | inr fails ↦
        let rest = sym (ap (λ t. list_any (eq_by_cmp name_cmp y) (map (far b) (cond t (pair ∷ filter (test b one other x) pairs) (filter (test b one other x) pairs)))) fails) ∙ e in
        ap (λ t. eq_by_cmp pair_cmp (seen b one other x y) pair || t) (shown_forth pairs rest) ∙ or_true (eq_by_cmp pair_cmp (seen b one other x y) pair)
  ]

  shown_back : (pairs : List Pair) → list_any (eq_by_cmp pair_cmp (seen b one other x y)) pairs ≡ true → list_any (eq_by_cmp name_cmp y) (map (far b) (filter (test b one other x) pairs)) ≡ true
  shown_back [] e = e
  shown_back (pair ∷ pairs) e = elim (or_cases (eq_by_cmp pair_cmp (seen b one other x y) pair) (list_any (eq_by_cmp pair_cmp (seen b one other x y)) pairs) e) [
    | inl tied ↦
        let is = tied_same pair_cmp-IsAntisymmetric (seen b one other x y) pair tied in
        let passes = ap (test b one other x) (sym is) ∙ seen_test b one other x y in
        let at = sym (seen_far b one other x y) ∙ ap (far b) is in
        ap (λ t. list_any (eq_by_cmp name_cmp y) (map (far b) (cond t (pair ∷ filter (test b one other x) pairs) (filter (test b one other x) pairs)))) passes
        ∙ ap (λ t. t || list_any (eq_by_cmp name_cmp y) (map (far b) (filter (test b one other x) pairs))) (same_tied name_cmp-IsTotalOrder y (far b pair) at)
    | inr more ↦ elim (cases_Bool (test b one other x pair)) [
      | inl passes ↦
          ap (λ t. list_any (eq_by_cmp name_cmp y) (map (far b) (cond t (pair ∷ filter (test b one other x) pairs) (filter (test b one other x) pairs)))) passes
          ∙ ap (λ t. eq_by_cmp name_cmp y (far b pair) || t) (shown_back pairs more) ∙ or_true (eq_by_cmp name_cmp y (far b pair))
      | inr fails ↦
          ap (λ t. list_any (eq_by_cmp name_cmp y) (map (far b) (cond t (pair ∷ filter (test b one other x) pairs) (filter (test b one other x) pairs)))) fails
          ∙ shown_back pairs more
    ]
  ]

  partners_by : (pairs : sets.FinSet pair_cmp) → (sets.contains (sets.from_list {R = name_cmp} (map (far b) (filter (test b one other x) (sets.items pairs)))) y ≡ true) ↔ (sets.contains pairs (seen b one other x y) ≡ true)
  partners_by pairs = (
    λ e. maps.contains_key-keys pairs (seen b one other x y) ∙ shown_forth (sets.items pairs) (sym (set_facts.contains-from_list name_cmp-IsTotalOrder (map (far b) (filter (test b one other x) (sets.items pairs))) y) ∙ e),
    λ e. set_facts.contains-from_list name_cmp-IsTotalOrder (map (far b) (filter (test b one other x) (sets.items pairs))) y ∙ shown_back (sets.items pairs) (sym (maps.contains_key-keys pairs (seen b one other x y)) ∙ e),
  )

pub side_contains : (schema : Schema) (graph : Graph) (at : TypeMember) (x y : Name) → (sets.contains (side schema graph at x) y ≡ true) ↔ (sets.contains graph.pairs (pair_at schema at x y) ≡ true)
side_contains schema graph at x y = by (inverse_at schema at)
  where
    by : (inverse : Option Inverse) → (sets.contains (sets.from_list {R = name_cmp} (map (far (comes_first at inverse)) (filter (λ pair. eq_by_cmp type_member_cmp pair.link (pair_from at inverse x x).link && eq_by_cmp name_cmp (near (comes_first at inverse) pair) x) (sets.items graph.pairs)))) y ≡ true) ↔ (sets.contains graph.pairs (pair_from at inverse x y) ≡ true)
    by None = partners_by true at at x y graph.pairs
    by (Some inverse) = partners_by (comes_first at (Some inverse)) at (member_of_inverse inverse) x y graph.pairs
