-- Every command leaves a graph of the schema, and a fresh database has one.
use Rattle.std.proofs.Common.{◌≡◌, ℕ, ◌≤◌, Bool, true, false, List, [], Option, Some, None, sym, ap, subst, ◌∙◌, arith}
use Rattle.std.specs.Prelude.{is_some}
use Rattle.std.specs.Ordering.{nat_cmp}
use Rattle.std.specs.List.{list_any}
use Rattle.std.specs.FinMap as maps
use Rattle.std.proofs.lemmas.Option.{none-some}
use Rattle.ostore_schema_layout.specs.declared.schema.Schema.{Schema}
use Rattle.ostore_schema_layout.specs.Lawful.{IsLawful}
use Rattle.ostore_graph_model.specs.declared.values.Name.{Name}
use Rattle.ostore_graph_model.specs.declared.commands.Command.{Command}
use Rattle.ostore_graph_model.specs.declared.commands.Command.TheVariants.{New, Find, Root, SetRoot, Get, Set, Follow, Delete, Insert, Remove, Members, Size, Append, Put, At, Bind, Look, Unbind, Index, Unindex, Query}
use Rattle.ostore_graph_model.specs.declared.commands.Operand.TheVariants as operands
use Rattle.ostore_graph_model.specs.declared.commands.Key.{Key}
use Rattle.ostore_graph_model.specs.declared.commands.Key.TheVariants as keys
use Rattle.ostore_graph_model.specs.Orders.{name_cmp, pair_cmp, object_member_cmp, index_cmp, text_cmp}
use Rattle.ostore_graph_model.specs.Graph.{Graph, is_live}
use Rattle.ostore_graph_model.specs.Links.{pair_at}
use Rattle.ostore_graph_model.specs.Deeds.{Vars, Stepped, bound_to, of_other_type}
use Rattle.ostore_graph_model.specs.Step.{line_of, is_dangling, step}
use Rattle.ostore_graph_model.specs.LiveGraphs.{IsLive}
use Rattle.ostore_graph_model.specs.GraphRules.{IsGraph, IsWithinLimits, LawOfGraphs, LawOfFirstGraph}
use Rattle.ostore_graph_model.proofs.PassedLaws.{split, one_live, two_live, TaskMay, step_may}
use Rattle.ostore_graph_model.proofs.LiveLaws.{law_of_live_graphs, empty_holds_live}
use Rattle.ostore_graph_model.proofs.OnePartnerLaws.{law_of_one_partner}
use Rattle.ostore_graph_model.proofs.Kept.Parts.{KeepsTypes, unchanged}
use Rattle.ostore_graph_model.proofs.Kept.Objects.{made, int_held, text_held, gone}
use Rattle.ostore_graph_model.proofs.Kept.References.{ref_leads, joined_right, parted_right, root_bound, root_unbound}
use Rattle.ostore_graph_model.proofs.Kept.SetMembers.{inserted, taken_out}
use Rattle.ostore_graph_model.proofs.Kept.Collections.{IsWritten, appended_right, put_right, bound_right, unbound_right}
use Rattle.ostore_graph_model.proofs.Kept.Indexes.{declared_right, undeclared_right}

key_written : (object member item : List ℕ) (key : Key) → IsWithinLimits (Bind object member key item) → IsWritten key
key_written object member item (keys.Int value) within = within
key_written object member item (keys.Text text) within = within

module _ (schema : Schema) (lawful : IsLawful schema) (vars : Vars) (graph : Graph) (was : IsGraph schema graph) where
  abbrev Typed : Stepped → Type 0
  Typed stepped = KeepsTypes schema stepped.graph

  abbrev bound_lives : List ℕ → Type 0
  bound_lives variable = IsLive graph (bound_to vars variable)

  owned : (x y : Name) → x ≡ y → IsLive graph x → IsLive graph y
  owned x y same live = subst (IsLive graph) same live

  may : (command : Command) → IsWithinLimits command → list_any (is_dangling schema vars graph) (line_of schema vars graph command).reads ≡ false
      → TaskMay Typed schema graph vars (line_of schema vars graph command).task
  may (New to ty segment) within live = λ passed. made schema graph was vars to ty segment within passed
  may (Find to name) within live = λ passed. unchanged schema graph was
  may (Root to root) within live = λ passed. unchanged schema graph was
  may (SetRoot root (Some item)) within live = λ passed. root_bound schema graph was vars root (bound_to vars item) within (one_live (is_live graph (bound_to vars item)) live) passed
  may (SetRoot root None) within live = λ passed. root_unbound schema graph was root
  may (Get object member) within live = λ at finds passed. unchanged schema graph was
  may (Set object member (operands.Int value)) within live = λ at finds passed.
      int_held schema graph was (bound_to vars object) at value finds (owned (bound_to vars object) at.owner finds.owner (one_live (is_live graph (bound_to vars object)) live)) within
  may (Set object member (operands.Text text)) within live = λ at finds passed.
      text_held schema graph was vars (bound_to vars object) at text finds (owned (bound_to vars object) at.owner finds.owner (one_live (is_live graph (bound_to vars object)) live)) within passed
  may (Set object member (operands.Var item)) within live = λ at finds passed.
      let both = two_live (is_live graph (bound_to vars object)) (is_live graph (bound_to vars item)) live in
      joined_right schema graph was lawful _ (bound_to vars object) (bound_to vars item) at finds (ref_leads at.def.kind finds.of_kind)
      (owned (bound_to vars object) at.owner finds.owner both.0) both.1 (split (of_other_type graph at (bound_to vars item)) [] passed).0
  may (Set object member operands.Null) within live = λ at finds passed. parted_right schema graph was at.at at.owner
  may (Follow to object member) within live = λ at finds passed. unchanged schema graph was
  may (Delete object) within live = λ passed. gone schema graph was (bound_to vars object)
  may (Insert object member item) within live = λ at finds passed.
      let both = two_live (is_live graph (bound_to vars object)) (is_live graph (bound_to vars item)) live in
      inserted schema graph was lawful vars (bound_to vars object) (bound_to vars item) at finds (owned (bound_to vars object) at.owner finds.owner both.0) both.1 passed
  may (Remove object member item) within live = λ at finds passed. taken_out schema graph was (pair_at schema at.at at.owner (bound_to vars item))
  may (Members object member) within live = λ at finds passed. unchanged schema graph was
  may (Size object member) within live = λ at finds passed. unchanged schema graph was
  may (Append object member item) within live = λ at finds passed.
      let both = two_live (is_live graph (bound_to vars object)) (is_live graph (bound_to vars item)) live in
      appended_right schema graph was vars (bound_to vars object) (bound_to vars item) at finds both.1 passed
  may (Put object member index item) within live = λ at finds passed.
      let both = two_live (is_live graph (bound_to vars object)) (is_live graph (bound_to vars item)) live in
      put_right schema graph was vars (bound_to vars object) (bound_to vars item) index at finds both.1 passed
  may (At to object member index) within live = λ at finds passed. unchanged schema graph was
  may (Bind object member key item) within live = λ at finds passed.
      let both = two_live (is_live graph (bound_to vars object)) (is_live graph (bound_to vars item)) live in
      bound_right schema graph was vars (bound_to vars object) (bound_to vars item) key at finds (key_written object member item key within) both.1 passed
  may (Look to object member key) within live = λ at finds passed. unchanged schema graph was
  may (Unbind object member key) within live = λ at finds passed. unbound_right schema graph was (bound_to vars object) key at finds
  may (Index object member path) within live = λ at finds passed. declared_right schema graph was vars (bound_to vars object) at path finds within passed
  may (Unindex object member path) within live = λ at finds passed. undeclared_right schema graph was _
  may (Query object member path op key) within live = λ at finds passed. unchanged schema graph was

  typed : (update : Bool) (command : Command) → IsWithinLimits command → KeepsTypes schema (step schema update vars graph command).graph
  typed update command within = step_may Typed schema vars graph (λ refusal. unchanged schema graph was) update command (may command within)

pub law_of_graphs : LawOfGraphs
law_of_graphs schema lawful update vars vars_after graph graph_after command reply within was gives =
    let live = law_of_live_graphs schema update vars vars_after graph graph_after command reply was.live gives in
    let types = subst (KeepsTypes schema) (ap (λ (s : Stepped). s.graph) gives) (typed schema lawful vars graph was update command within) live in
    record {
      live = live;
      partners = law_of_one_partner schema lawful update vars vars_after graph graph_after command reply was.partners gives;
      objects = types.objects;
      pairs = types.pairs;
      lists = types.lists;
      dictionaries = types.dictionaries;
      roots = types.roots;
      few_roots = types.few_roots;
      serials = types.serials;
      indexes = types.indexes;
    }

-- ---- the first graph

nowhere : {X : Type 0} (o : Option X) → o ≡ None → is_some o ≡ true → ⊥
nowhere None none there = cc
nowhere (Some y) none there = cc

pub law_of_first_graph : LawOfFirstGraph
law_of_first_graph schema = record {
  live = empty_holds_live schema;
  partners = λ member x y z ref first second. absurd (nowhere _ (maps.get-empty pair_cmp (pair_at schema member x y)) first);
  objects = λ x object e. absurd (none-some object (sym (maps.get-empty name_cmp x) ∙ e));
  pairs = λ pair e. absurd (nowhere _ (maps.get-empty pair_cmp pair) e);
  lists = λ at items e. absurd (none-some items (sym (maps.get-empty object_member_cmp at) ∙ e));
  dictionaries = λ at bindings e. absurd (none-some bindings (sym (maps.get-empty object_member_cmp at) ∙ e));
  roots = λ root x e. absurd (none-some x (sym (maps.get-empty text_cmp root) ∙ e));
  few_roots = subst (λ n. n ≤ 101) (sym (maps.len-empty text_cmp Name)) (omega arith);
  serials = λ segment serial e. absurd (none-some serial (sym (maps.get-empty nat_cmp segment) ∙ e));
  indexes = λ index e. absurd (nowhere _ (maps.get-empty index_cmp index) e);
}
