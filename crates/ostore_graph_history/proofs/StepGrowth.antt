-- How many names, pairs and indexes commands add to a graph, at most.
use Rattle.std.proofs.Common.{◌≡◌, ℕ, ◌+◌, ◌-◌, ◌≤◌, Bool, true, false, cond, List, [], ◌∷◌, length, Option, Some, None, refl, ap, subst, ◌∙◌, arith}
use Rattle.std.specs.Prelude.{filter, not}
use Rattle.std.specs.FinMap as maps
use Rattle.std.specs.Cmp.{IsTotalOrder}
use Rattle.std.specs.declared.cmp.Ordering.{Ordering}
use Rattle.std.proofs.lemmas.List.Filters.{length-filter_both}
use Rattle.ostore_schema_layout.specs.declared.schema.Schema.{Schema}
use Rattle.ostore_graph_model.specs.declared.values.Name.{Name}
use Rattle.ostore_graph_model.specs.declared.values.Reply.{Reply}
use Rattle.ostore_graph_model.specs.declared.refusal.Refusal.{Refusal}
use Rattle.ostore_graph_model.specs.declared.commands.Command.{Command}
use Rattle.ostore_graph_model.specs.declared.commands.Command.TheVariants.{New, Find, Root, SetRoot, Get, Set, Follow, Delete, Insert, Remove, Members, Size, Append, Put, At, Bind, Look, Unbind, Index, Unindex, Query}
use Rattle.ostore_graph_model.specs.declared.commands.Operand.TheVariants as operands
use Rattle.ostore_graph_model.specs.declared.commands.Txn.{Txn}
use Rattle.ostore_graph_model.specs.Graph.{Graph}
use Rattle.ostore_graph_model.specs.Growth.{declares}
use Rattle.ostore_graph_model.specs.Deeds.{Vars, Stepped, Deed, LiveMember, refused, refused_or, live_member, bound_to}
use Rattle.ostore_graph_model.specs.Deeds.References.{with_joined}
use Rattle.ostore_graph_model.specs.Deeds.Indexes.{index_on, path_at}
use Rattle.ostore_graph_model.specs.Links.{same_name, pair_at, joins_from, is_displaced, goes_with}
use Rattle.ostore_graph_model.specs.Sets as sets
use Rattle.ostore_graph_model.specs.Step.{Task, line_of, member_gives, task_gives, refusal_of, step}
use Rattle.ostore_graph_model.specs.Transaction.{Ran, run_from, Runs}
use Rattle.ostore_graph_model.proofs.Computing.{entries-retain_keys}
use Rattle.ostore_graph_model.proofs.OrderLaws.{name_cmp-IsTotalOrder, name_cmp-IsAntisymmetric, pair_cmp-IsTotalOrder, pair_cmp-IsAntisymmetric, index_cmp-IsTotalOrder, index_cmp-IsAntisymmetric}

-- ---- sizes of maps

one_more : (b : Bool) (n m : ℕ) → m ≡ cond b n (n + 1) → m ≤ n + 1
one_more true n m is = omega (arith, is)
one_more false n m is = omega (arith, is)

no_more : (b : Bool) (n m : ℕ) → m ≡ cond b (n - 1) n → m ≤ n
no_more true n m is = omega (arith, is)
no_more false n m is = omega (arith, is)

module _ {K X : Type 0} {R : K → K → Ordering} (o : IsTotalOrder R) (same : maps.IsAntisymmetric R) where
  inserted : (m : maps.FinMap R X) (k : K) (v : X) → maps.len (maps.insert m k v) ≤ maps.len m + 1
  inserted m k v = one_more (maps.contains_key m k) (maps.len m) _ (maps.len-insert o m k v)

  removed : (m : maps.FinMap R X) (k : K) → maps.len (maps.remove m k) ≤ maps.len m
  removed m k = no_more (maps.contains_key m k) (maps.len m) _ (maps.len-remove o m k)

  retained : (m : maps.FinMap R X) (p : K → Bool) → maps.len (maps.retain_keys m p) ≤ maps.len m
  retained m p =
      let few : length (filter (λ (e : K × X). p e.0) (maps.entries m)) + length (filter (λ (e : K × X). not (p e.0)) (maps.entries m)) ≡ length (maps.entries m) =
      length-filter_both (λ (e : K × X). p e.0) (λ (e : K × X). not (p e.0)) (λ e. refl) (maps.entries m) in
      let left : maps.len (maps.retain_keys m p) ≡ length (filter (λ (e : K × X). p e.0) (maps.entries m)) =
      maps.len-entries (maps.retain_keys m p) ∙ ap (λ (es : List (K × X)). length es) (entries-retain_keys o same m p) in
      let all : maps.len m ≡ length (maps.entries m) = maps.len-entries m in
      omega (arith, few, left, all)

-- ---- one command

-- A graph has so many names and pairs more than another, at most, and so many indexes.
pub record IsGrown (commands declared : ℕ) (old new : Graph) : Type 0 where
  pub names : maps.len new.objects ≤ maps.len old.objects + commands
  pub pairs : maps.len new.pairs ≤ maps.len old.pairs + commands
  pub indexes : maps.len new.indexes ≤ maps.len old.indexes + declared

pub unchanged : (commands declared : ℕ) (graph : Graph) → IsGrown commands declared graph graph
unchanged commands declared graph = record { names = omega arith; pairs = omega arith; indexes = omega arith }

-- the effect of a task has P
abbrev TaskHas : (Stepped → Type 0) → Task → Type 0
TaskHas P (Task.on_graph deed) = P deed.gives
TaskHas P (Task.on_member object member kind deed) = (at : LiveMember) → P (deed at).gives

module _ (P : Stepped → Type 0) (schema : Schema) (vars : Vars) (graph : Graph) (no : (refusal : Refusal) → P (refused refusal vars graph)) where
  refused_or_has : (o : Option Refusal) (effect : Stepped) → P effect → P (refused_or o vars graph effect)
  refused_or_has None effect has = has
  refused_or_has (Some refusal) effect has = no refusal

  member_has : (deed : LiveMember → Deed) (found : Option LiveMember) → ((at : LiveMember) → P (deed at).gives) → P (member_gives schema vars graph deed found)
  member_has deed None has = no _
  member_has deed (Some at) has = has at

  task_has : (task : Task) → TaskHas P task → P (task_gives schema vars graph task)
  task_has (Task.on_graph deed) has = has
  task_has (Task.on_member object member kind deed) has = member_has deed (live_member schema graph (bound_to vars object) member) has

  step_has : (update : Bool) (command : Command) → TaskHas P (line_of schema vars graph command).task → P (step schema update vars graph command)
  step_has update command has =
      refused_or_has (refusal_of schema update vars graph command) (task_gives schema vars graph (line_of schema vars graph command).task)
      (task_has (line_of schema vars graph command).task has)

-- how many indexes a command declares
abbrev declared_by : Command → ℕ
declared_by command = cond (declares command) 1 0

abbrev Grows : Graph → Command → Stepped → Type 0
Grows graph command stepped = IsGrown 1 (declared_by command) graph stepped.graph

joins : (schema : Schema) (graph : Graph) (at : LiveMember) (y : Name) → IsGrown 1 0 graph (with_joined schema graph at y)
joins schema graph at y = record {
  names = omega arith;
  pairs = omega (
    arith,
    retained pair_cmp-IsTotalOrder pair_cmp-IsAntisymmetric graph.pairs (λ pair. not (is_displaced schema at.at at.owner y pair)),
    inserted pair_cmp-IsTotalOrder pair_cmp-IsAntisymmetric (sets.retain graph.pairs (λ pair. not (is_displaced schema at.at at.owner y pair))) (pair_at schema at.at at.owner y) tt,
  );
  indexes = omega arith;
}

task_grows : (schema : Schema) (vars : Vars) (graph : Graph) (command : Command) → TaskHas (Grows graph command) (line_of schema vars graph command).task
task_grows schema vars graph (New to ty segment) = record { names = inserted name_cmp-IsTotalOrder name_cmp-IsAntisymmetric graph.objects _ _; pairs = omega arith; indexes = omega arith }
task_grows schema vars graph (Find to name) = unchanged 1 0 graph
task_grows schema vars graph (Root to root) = unchanged 1 0 graph
task_grows schema vars graph (SetRoot root (Some item)) = record { names = omega arith; pairs = omega arith; indexes = omega arith }
task_grows schema vars graph (SetRoot root None) = record { names = omega arith; pairs = omega arith; indexes = omega arith }
task_grows schema vars graph (Get object member) = λ at. unchanged 1 0 graph
task_grows schema vars graph (Set object member (operands.Int value)) = λ at. record { names = inserted name_cmp-IsTotalOrder name_cmp-IsAntisymmetric graph.objects _ _; pairs = omega arith; indexes = omega arith }
task_grows schema vars graph (Set object member (operands.Text value)) = λ at. record { names = inserted name_cmp-IsTotalOrder name_cmp-IsAntisymmetric graph.objects _ _; pairs = omega arith; indexes = omega arith }
task_grows schema vars graph (Set object member (operands.Var item)) = λ at. joins schema graph at (bound_to vars item)
task_grows schema vars graph (Set object member operands.Null) = λ at. record { names = omega arith; pairs = omega (arith, retained pair_cmp-IsTotalOrder pair_cmp-IsAntisymmetric graph.pairs (λ pair. not (joins_from schema at.at at.owner pair))); indexes = omega arith }
task_grows schema vars graph (Follow to object member) = λ at. unchanged 1 0 graph
task_grows schema vars graph (Delete object) = record {
  names = omega (arith, removed name_cmp-IsTotalOrder name_cmp-IsAntisymmetric graph.objects (bound_to vars object));
  pairs = omega (arith, retained pair_cmp-IsTotalOrder pair_cmp-IsAntisymmetric graph.pairs (λ pair. not (goes_with schema (bound_to vars object) pair)));
  indexes = omega (arith, retained index_cmp-IsTotalOrder index_cmp-IsAntisymmetric graph.indexes (λ index. not (same_name index.set.object (bound_to vars object))));
}
task_grows schema vars graph (Insert object member item) = λ at. joins schema graph at (bound_to vars item)
task_grows schema vars graph (Remove object member item) = λ at. record { names = omega arith; pairs = omega (arith, removed pair_cmp-IsTotalOrder pair_cmp-IsAntisymmetric graph.pairs (pair_at schema at.at at.owner (bound_to vars item))); indexes = omega arith }
task_grows schema vars graph (Members object member) = λ at. unchanged 1 0 graph
task_grows schema vars graph (Size object member) = λ at. unchanged 1 0 graph
task_grows schema vars graph (Append object member item) = λ at. record { names = omega arith; pairs = omega arith; indexes = omega arith }
task_grows schema vars graph (Put object member index item) = λ at. record { names = omega arith; pairs = omega arith; indexes = omega arith }
task_grows schema vars graph (At to object member index) = λ at. unchanged 1 0 graph
task_grows schema vars graph (Bind object member key item) = λ at. record { names = omega arith; pairs = omega arith; indexes = omega arith }
task_grows schema vars graph (Look to object member key) = λ at. unchanged 1 0 graph
task_grows schema vars graph (Unbind object member key) = λ at. record { names = omega arith; pairs = omega arith; indexes = omega arith }
task_grows schema vars graph (Index object member path) = λ at. record { names = omega arith; pairs = omega arith; indexes = inserted index_cmp-IsTotalOrder index_cmp-IsAntisymmetric graph.indexes _ _ }
task_grows schema vars graph (Unindex object member path) = λ at. record { names = omega arith; pairs = omega arith; indexes = omega (arith, removed index_cmp-IsTotalOrder index_cmp-IsAntisymmetric graph.indexes (index_on at (path_at schema at path))) }
task_grows schema vars graph (Query object member path op key) = λ at. unchanged 1 0 graph

step_grows : (schema : Schema) (update : Bool) (vars : Vars) (graph : Graph) (command : Command) → IsGrown 1 (declared_by command) graph (step schema update vars graph command).graph
step_grows schema update vars graph command =
    step_has (Grows graph command) schema vars graph (λ refusal. unchanged 1 (declared_by command) graph) update command (task_grows schema vars graph command)

-- ---- commands

counted : (b : Bool) (command : Command) (commands : List Command) → length (cond b (command ∷ commands) commands) ≡ cond b 1 0 + length commands
counted true command commands = omega arith
counted false command commands = omega arith

run_grows : (schema : Schema) (update : Bool) (vars : Vars) (graph : Graph) (commands : List Command)
    → IsGrown (length commands) (length (filter declares commands)) graph (run_from schema update vars graph commands).graph
run_grows schema update vars graph [] = unchanged 0 0 graph
run_grows schema update vars graph (command ∷ commands) =
    let first = step_grows schema update vars graph command in
    let rest = run_grows schema update (step schema update vars graph command).vars (step schema update vars graph command).graph commands in
    let more = counted (declares command) command (filter declares commands) in
    record {
      names = omega (arith, first.names, rest.names);
      pairs = omega (arith, first.pairs, rest.pairs);
      indexes = omega (arith, first.indexes, rest.indexes, more);
    }

pub transaction_grows : (schema : Schema) (txn : Txn) (graph after : Graph) (replies : List Reply) → Runs schema txn graph replies after
    → IsGrown (length txn.commands) (length (filter declares txn.commands)) graph after
transaction_grows schema txn graph after replies runs =
    subst (λ (g : Graph). IsGrown (length txn.commands) (length (filter declares txn.commands)) graph g) (ap (λ (ran : Ran). ran.graph) runs)
    (run_grows schema txn.update maps.empty graph txn.commands)
