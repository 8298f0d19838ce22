-- What variables are bound to.
use Rattle.std.specs.Prelude.{◌≡◌, ℕ, List, Option, Some, if◌then◌else◌}
use Rattle.std.specs.Option.{option_map}
use Rattle.std.specs.Ordering.{nat_cmp, eq_by_cmp}
use Rattle.std.specs.Cmp.Lexicographic.{slice_cmp}
use Rattle.std.specs.BTreeMap.{get_by}
use Rattle.ostore_segments.specs.Holdings.{PagesHeld}
use Rattle.ostore_graph_model.specs.Orders.{text_cmp}
use Rattle.ostore_object_ops.specs.declared.vars.Vars.{Vars}
use Rattle.ostore_object_ops.specs.Means.{Leads}

-- the resident pointer of each variable that is bound
abbrev pub bound_by : Vars → List ℕ → Option ℕ
bound_by vars variable = get_by (λ key. slice_cmp nat_cmp variable key.items) vars.bound

-- one variable is bound to a pointer, and the others as before
abbrev pub with_bound : (List ℕ → Option ℕ) → List ℕ → ℕ → List ℕ → Option ℕ
with_bound bound to pointer variable = if eq_by_cmp text_cmp variable to then Some pointer else bound variable

-- each variable is bound as before
abbrev pub SameBound : Vars → Vars → Type 0
SameBound old new = (variable : List ℕ) → bound_by new variable ≡ bound_by old variable

-- where the variables lead to, by the homes of resident pointers
abbrev pub leads_of : PagesHeld → Vars → Leads
leads_of holding vars variable = option_map holding.home (bound_by vars variable)
