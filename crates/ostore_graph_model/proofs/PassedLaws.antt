-- What a command that isn't refused knows: its own tests passed, its variables' objects are live, and the member that it is
-- on is one of its object, of a kind that the command is for.
use Rattle.std.proofs.Common.{◌≡◌, ℕ, Bool, true, false, List, ◌∷◌, Option, Some, None, refl, sym, ap, ◌∙◌}
use Rattle.std.specs.Prelude.{not, ◌&&◌, ◌||◌}
use Rattle.std.specs.Option.{option_and_then}
use Rattle.std.specs.List.{list_any}
use Rattle.ostore_schema_layout.specs.declared.schema.Schema.{Schema}
use Rattle.ostore_schema_layout.specs.declared.schema.MemberKind.{MemberKind}
use Rattle.ostore_schema_layout.specs.declared.schema.MemberNo.{MemberNo}
use Rattle.ostore_schema_layout.specs.Numbers.{member_named}
use Rattle.ostore_graph_model.specs.declared.values.Name.{Name}
use Rattle.ostore_graph_model.specs.declared.refusal.Refusal.{Refusal}
use Rattle.ostore_graph_model.specs.declared.refusal.Refusal.TheVariants.{ReadOnly, NoVariable, Dangling, WrongKind}
use Rattle.ostore_graph_model.specs.declared.commands.Command.{Command}
use Rattle.ostore_graph_model.specs.Graph.{Graph}
use Rattle.ostore_graph_model.specs.Links.{def_of}
use Rattle.ostore_graph_model.specs.Deeds.{Vars, Stepped, Deed, Test, LiveMember, refused, refused_or, refused_where, first_refusal, live_member, member_at_type, bound_to, object_of}
use Rattle.ostore_graph_model.specs.Step.{Task, line_of, line_tests, member_tests, member_gives, task_tests, task_gives, is_dangling, is_unbound, step}
use Rattle.ostore_graph_model.proofs.JoinedFacts.{live_parts}

pub split : (test : Test) (tests : List Test) → first_refusal (test ∷ tests) ≡ None → (test ≡ None) × (first_refusal tests ≡ None)
split None tests e = (refl, e)
split (Some refusal) tests e = absurd cc

pub passes : (fails : Bool) (refusal : Refusal) → refused_where fails refusal ≡ None → fails ≡ false
passes true refusal e = absurd cc
passes false refusal e = refl

pub not_false : (b : Bool) → not b ≡ false → b ≡ true
not_false true e = refl
not_false false e = absurd cc

pub one_live : (a : Bool) → (not a || false) ≡ false → a ≡ true
one_live true e = refl
one_live false e = absurd cc

pub two_live : (a b : Bool) → (not a || (not b || false)) ≡ false → (a ≡ true) × (b ≡ true)
two_live true true e = (refl, refl)
two_live true false e = absurd cc
two_live false b e = absurd cc

-- what a command knows of the member that it is on
pub record Finds (schema : Schema) (graph : Graph) (x : Name) (kind : MemberKind → Bool) (at : LiveMember) : Type 0 where
  pub owner : x ≡ at.owner
  pub ty : at.at.ty ≡ (object_of graph at.owner).ty
  pub defined : def_of schema at.at ≡ Some at.def
  pub of_kind : kind at.def.kind ≡ true

-- where nothing of a task refuses it, its effect has P
abbrev pub TaskMay : (Stepped → Type 0) → Schema → Graph → Vars → Task → Type 0
TaskMay P schema graph vars (Task.on_graph deed) = first_refusal deed.tests ≡ None → P deed.gives
TaskMay P schema graph vars (Task.on_member object member kind deed) =
    (at : LiveMember) → Finds schema graph (bound_to vars object) kind at → first_refusal (deed at).tests ≡ None → P (deed at).gives

module _ (schema : Schema) (graph : Graph) (x : Name) (kind : MemberKind → Bool) where
  found_at : (number : MemberNo) (at : LiveMember) → member_at_type schema x (record { ty = (object_of graph x).ty; member = number }) ≡ Some at
      → kind at.def.kind ≡ true → Finds schema graph x kind at
  found_at number at e right =
      let parts = live_parts schema x (record { ty = (object_of graph x).ty; member = number }) at e in
      let owner : x ≡ at.owner = ap (λ (l : LiveMember). l.owner) parts.2 in
      record {
        owner = owner;
        ty = ap (λ (l : LiveMember). l.at.ty) (sym parts.2) ∙ ap (λ (y : Name). (object_of graph y).ty) owner;
        defined = ap (λ (l : LiveMember). def_of schema l.at) (sym parts.2) ∙ parts.1 ∙ ap (λ (l : LiveMember). Some l.def) parts.2;
        of_kind = right;
      }

  found_by : (number : Option MemberNo) (at : LiveMember)
      → option_and_then (λ n. member_at_type schema x (record { ty = (object_of graph x).ty; member = n })) number ≡ Some at
      → kind at.def.kind ≡ true → Finds schema graph x kind at
  found_by None at e right = absurd cc
  found_by (Some n) at e right = found_at n at e right

module _ (P : Stepped → Type 0) (schema : Schema) (vars : Vars) (graph : Graph) (no : (refusal : Refusal) → P (refused refusal vars graph)) where
  member_may : (object : List ℕ) (kind : MemberKind → Bool) (deed : LiveMember → Deed) (found : Option LiveMember)
      → ((at : LiveMember) → found ≡ Some at → kind at.def.kind ≡ true → Finds schema graph (bound_to vars object) kind at)
      → ((at : LiveMember) → Finds schema graph (bound_to vars object) kind at → first_refusal (deed at).tests ≡ None → P (deed at).gives)
      → first_refusal (member_tests schema vars graph kind deed found) ≡ None → P (member_gives schema vars graph deed found)
  member_may object kind deed None own has passed = absurd cc
  member_may object kind deed (Some at) own has passed =
      let parts = split (refused_where (not (kind at.def.kind)) WrongKind) (deed at).tests passed in
      has at (own at refl (not_false (kind at.def.kind) (passes (not (kind at.def.kind)) WrongKind parts.0))) parts.1

  task_may : (task : Task) → TaskMay P schema graph vars task → first_refusal (task_tests schema vars graph task) ≡ None → P (task_gives schema vars graph task)
  task_may (Task.on_graph deed) has passed = has passed
  task_may (Task.on_member object member kind deed) has passed =
      member_may object kind deed (live_member schema graph (bound_to vars object) member)
      (λ at found right. found_by schema graph (bound_to vars object) kind (member_named schema (object_of graph (bound_to vars object)).ty member) at found right)
      has passed

  unless : (o : Option Refusal) (effect : Stepped) → (o ≡ None → P effect) → P (refused_or o vars graph effect)
  unless None effect has = has refl
  unless (Some refusal) effect has = no refusal

  pub step_may : (update : Bool) (command : Command)
      → (list_any (is_dangling schema vars graph) (line_of schema vars graph command).reads ≡ false → TaskMay P schema graph vars (line_of schema vars graph command).task)
      → P (step schema update vars graph command)
  step_may update command may =
      let line = line_of schema vars graph command in
      let own = task_tests schema vars graph line.task in
      let dangling = refused_where (list_any (is_dangling schema vars graph) line.reads) Dangling in
      let unbound = refused_where (list_any (is_unbound schema vars graph) line.reads) NoVariable in
      unless (first_refusal (line_tests schema vars graph update line)) (task_gives schema vars graph line.task) (λ passed.
      let bound = split unbound (dangling ∷ own) (split (refused_where (line.writes && not update) ReadOnly) (unbound ∷ dangling ∷ own) passed).1 in
      let live = split dangling own bound.1 in
      task_may line.task (may (passes (list_any (is_dangling schema vars graph) line.reads) Dangling live.0)) live.1)
