-- What holds of a command's outcome, by what holds of its refusals and of its effect.
use Rattle.std.proofs.Common.{◌≡◌, ℕ, ◌+◌, ◌≤◌, Bool, true, false, List, [], ◌∷◌, Option, Some, None, refl, sym, ap, subst, ◌∙◌, arith, cond}
use Rattle.std.specs.Prelude.{not, ◌&&◌, is_some, nat_le, unwrap_or}
use Rattle.std.specs.FinMap as maps
use Rattle.std.specs.Ordering.{nat_cmp, eq_by_cmp}
use Rattle.std.specs.Cmp.{nat_cmp_total}
use Rattle.std.proofs.lemmas.Bool.{le-leb, leb-true, lt-leb}
use Rattle.ostore_schema_layout.specs.declared.schema.Schema.{Schema}
use Rattle.ostore_graph_model.specs.declared.values.Name.{Name}
use Rattle.ostore_graph_model.specs.declared.values.Reply.{Reply}
use Rattle.ostore_graph_model.specs.declared.values.Reply.TheVariants as replies
use Rattle.ostore_graph_model.specs.declared.refusal.Refusal.{Refusal}
use Rattle.ostore_graph_model.specs.declared.commands.Command.{Command}
use Rattle.ostore_graph_model.specs.declared.commands.Command.TheVariants.{New, Find, Root, SetRoot, Get, Set, Follow, Delete, Insert, Remove, Members, Size, Append, Put, At, Bind, Look, Unbind, Index, Unindex, Query}
use Rattle.ostore_graph_model.specs.declared.commands.Operand.TheVariants as operands
use Rattle.ostore_graph_model.specs.Graph.{Graph, Object, is_drawn, is_live, is_dead, last_serial}
use Rattle.ostore_graph_model.specs.Deeds.{Vars, Stepped, Deed, LiveMember, refused, refused_or, live_member, no_name, bound_to}
use Rattle.ostore_graph_model.specs.Deeds.Objects.{next_name, new_object, with_new, drawn, without_object}
use Rattle.ostore_graph_model.specs.Kinds.{no_type}
use Rattle.ostore_schema_layout.specs.Numbers.{type_named}
use Rattle.ostore_graph_model.proofs.OrderLaws.{tied_same, same_tied, name_cmp-IsTotalOrder}
use Rattle.ostore_graph_model.specs.Step.{Task, line_of, member_gives, task_gives, refusal_of, step}
use Rattle.ostore_graph_model.specs.Transaction.{Ran, run_from, Answers}
use Rattle.ostore_graph_model.specs.LawsOfSteps.{LawOfRefusals, LawOfReads, LawOfReadTransactions, LawOfNewNames, LawOfDrawnNames, LawOfDeletedNames, LawOfAnswers}

-- the effect of a task has P
abbrev pub TaskHas : (Stepped → Type 0) → Task → Type 0
TaskHas P (Task.on_graph deed) = P deed.gives
TaskHas P (Task.on_member object member kind deed) = (at : LiveMember) → P (deed at).gives

module _ (P : Stepped → Type 0) (schema : Schema) (vars : Vars) (graph : Graph) (no : (refusal : Refusal) → P (refused refusal vars graph)) where
  refused_or_has : (o : Option Refusal) (effect : Stepped) → P effect → P (refused_or o vars graph effect)
  refused_or_has None effect has = has
  refused_or_has (Some refusal) effect has = no refusal

  member_has : (deed : LiveMember → Deed) (found : Option LiveMember) → ((at : LiveMember) → P (deed at).gives) → P (member_gives schema vars graph deed found)
  member_has deed None has = no _
  member_has deed (Some at) has = has at

  task_has : (task : Task) → TaskHas P task → P (task_gives schema vars graph task)
  task_has (Task.on_graph deed) has = has
  task_has (Task.on_member object member kind deed) has = member_has deed (live_member schema graph (bound_to vars object) member) has

  step_has : (update : Bool) (command : Command) → TaskHas P (line_of schema vars graph command).task → P (step schema update vars graph command)
  step_has update command has =
      refused_or_has (refusal_of schema update vars graph command) (task_gives schema vars graph (line_of schema vars graph command).task)
      (task_has (line_of schema vars graph command).task has)

-- ---- refusals

-- a refusal has changed nothing
abbrev IsClean : Vars → Graph → Stepped → Type 0
IsClean vars graph stepped = (refusal : Refusal) → stepped.reply ≡ replies.Refused refusal → (stepped.vars ≡ vars) × (stepped.graph ≡ graph)

abbrev is_refusal : Reply → Bool
is_refusal (replies.Refused refusal) = true
is_refusal other = false

-- a reply that is no refusal
clean : (vars : Vars) (graph : Graph) (stepped : Stepped) → is_refusal stepped.reply ≡ false → IsClean vars graph stepped
clean vars graph stepped other = λ refusal is. absurd (let e : true ≡ false = sym (ap is_refusal is) ∙ other in cc)

task_clean : (schema : Schema) (vars : Vars) (graph : Graph) (command : Command) → TaskHas (IsClean vars graph) (line_of schema vars graph command).task
task_clean schema vars graph (New to ty segment) = clean vars graph _ refl
task_clean schema vars graph (Find to name) = clean vars graph _ refl
task_clean schema vars graph (Root to root) = clean vars graph _ refl
task_clean schema vars graph (SetRoot root (Some item)) = clean vars graph _ refl
task_clean schema vars graph (SetRoot root None) = clean vars graph _ refl
task_clean schema vars graph (Get object member) = λ at. clean vars graph _ refl
task_clean schema vars graph (Set object member (operands.Int value)) = λ at. clean vars graph _ refl
task_clean schema vars graph (Set object member (operands.Text value)) = λ at. clean vars graph _ refl
task_clean schema vars graph (Set object member (operands.Var item)) = λ at. clean vars graph _ refl
task_clean schema vars graph (Set object member operands.Null) = λ at. clean vars graph _ refl
task_clean schema vars graph (Follow to object member) = λ at. clean vars graph _ refl
task_clean schema vars graph (Delete object) = clean vars graph _ refl
task_clean schema vars graph (Insert object member item) = λ at. clean vars graph _ refl
task_clean schema vars graph (Remove object member item) = λ at. clean vars graph _ refl
task_clean schema vars graph (Members object member) = λ at. clean vars graph _ refl
task_clean schema vars graph (Size object member) = λ at. clean vars graph _ refl
task_clean schema vars graph (Append object member item) = λ at. clean vars graph _ refl
task_clean schema vars graph (Put object member index item) = λ at. clean vars graph _ refl
task_clean schema vars graph (At to object member index) = λ at. clean vars graph _ refl
task_clean schema vars graph (Bind object member key item) = λ at. clean vars graph _ refl
task_clean schema vars graph (Look to object member key) = λ at. clean vars graph _ refl
task_clean schema vars graph (Unbind object member key) = λ at. clean vars graph _ refl
task_clean schema vars graph (Index object member path) = λ at. clean vars graph _ refl
task_clean schema vars graph (Unindex object member path) = λ at. clean vars graph _ refl
task_clean schema vars graph (Query object member path op key) = λ at. clean vars graph _ refl

pub law_of_refusals : LawOfRefusals
law_of_refusals schema update vars vars_after graph graph_after command refusal gives =
    let is_clean = step_has (IsClean vars graph) schema vars graph (λ other refusal same. (refl, refl)) update command (task_clean schema vars graph command) in
    let same = is_clean refusal (ap (λ (s : Stepped). s.reply) gives) in
    (sym (ap (λ (s : Stepped). s.vars) gives) ∙ same.0, sym (ap (λ (s : Stepped). s.graph) gives) ∙ same.1)

-- ---- reads

abbrev Leaves : Graph → Stepped → Type 0
Leaves graph stepped = stepped.graph ≡ graph

task_leaves : (schema : Schema) (vars : Vars) (graph : Graph) (command : Command) → (line_of schema vars graph command).writes ≡ false → TaskHas (Leaves graph) (line_of schema vars graph command).task
task_leaves schema vars graph (New to ty segment) reads = absurd cc
task_leaves schema vars graph (Find to name) reads = refl
task_leaves schema vars graph (Root to root) reads = refl
task_leaves schema vars graph (SetRoot root (Some item)) reads = absurd cc
task_leaves schema vars graph (SetRoot root None) reads = absurd cc
task_leaves schema vars graph (Get object member) reads = λ at. refl
task_leaves schema vars graph (Set object member (operands.Int value)) reads = absurd cc
task_leaves schema vars graph (Set object member (operands.Text value)) reads = absurd cc
task_leaves schema vars graph (Set object member (operands.Var item)) reads = absurd cc
task_leaves schema vars graph (Set object member operands.Null) reads = absurd cc
task_leaves schema vars graph (Follow to object member) reads = λ at. refl
task_leaves schema vars graph (Delete object) reads = absurd cc
task_leaves schema vars graph (Insert object member item) reads = absurd cc
task_leaves schema vars graph (Remove object member item) reads = absurd cc
task_leaves schema vars graph (Members object member) reads = λ at. refl
task_leaves schema vars graph (Size object member) reads = λ at. refl
task_leaves schema vars graph (Append object member item) reads = absurd cc
task_leaves schema vars graph (Put object member index item) reads = absurd cc
task_leaves schema vars graph (At to object member index) reads = λ at. refl
task_leaves schema vars graph (Bind object member key item) reads = absurd cc
task_leaves schema vars graph (Look to object member key) reads = λ at. refl
task_leaves schema vars graph (Unbind object member key) reads = absurd cc
task_leaves schema vars graph (Index object member path) reads = absurd cc
task_leaves schema vars graph (Unindex object member path) reads = absurd cc
task_leaves schema vars graph (Query object member path op key) reads = λ at. refl

reading_leaves : (schema : Schema) (update : Bool) (vars : Vars) (graph : Graph) (command : Command) → (line_of schema vars graph command).writes ≡ false → (step schema update vars graph command).graph ≡ graph
reading_leaves schema update vars graph command reads =
    step_has (Leaves graph) schema vars graph (λ refusal. refl) update command (task_leaves schema vars graph command reads)

pub law_of_reads : LawOfReads
law_of_reads schema update vars vars_after graph graph_after command reply reads gives =
    sym (ap (λ (s : Stepped). s.graph) gives) ∙ reading_leaves schema update vars graph command reads

-- in a read a command that writes is refused, and another leaves the graph
in_read : (schema : Schema) (vars : Vars) (graph : Graph) (command : Command) → (step schema false vars graph command).graph ≡ graph
in_read schema vars graph (New to ty segment) = refl
in_read schema vars graph (SetRoot root (Some item)) = refl
in_read schema vars graph (SetRoot root None) = refl
in_read schema vars graph (Set object member (operands.Int value)) = refl
in_read schema vars graph (Set object member (operands.Text value)) = refl
in_read schema vars graph (Set object member (operands.Var item)) = refl
in_read schema vars graph (Set object member operands.Null) = refl
in_read schema vars graph (Delete object) = refl
in_read schema vars graph (Insert object member item) = refl
in_read schema vars graph (Remove object member item) = refl
in_read schema vars graph (Append object member item) = refl
in_read schema vars graph (Put object member index item) = refl
in_read schema vars graph (Bind object member key item) = refl
in_read schema vars graph (Unbind object member key) = refl
in_read schema vars graph (Index object member path) = refl
in_read schema vars graph (Unindex object member path) = refl
in_read schema vars graph (Find to name) = reading_leaves schema false vars graph (Find to name) refl
in_read schema vars graph (Root to root) = reading_leaves schema false vars graph (Root to root) refl
in_read schema vars graph (Get object member) = reading_leaves schema false vars graph (Get object member) refl
in_read schema vars graph (Follow to object member) = reading_leaves schema false vars graph (Follow to object member) refl
in_read schema vars graph (Members object member) = reading_leaves schema false vars graph (Members object member) refl
in_read schema vars graph (Size object member) = reading_leaves schema false vars graph (Size object member) refl
in_read schema vars graph (At to object member index) = reading_leaves schema false vars graph (At to object member index) refl
in_read schema vars graph (Look to object member key) = reading_leaves schema false vars graph (Look to object member key) refl
in_read schema vars graph (Query object member path op key) = reading_leaves schema false vars graph (Query object member path op key) refl

all_in_read : (schema : Schema) (vars : Vars) (graph : Graph) (commands : List Command) → (run_from schema false vars graph commands).graph ≡ graph
all_in_read schema vars graph [] = refl
all_in_read schema vars graph (command ∷ commands) =
    let first = step schema false vars graph command in
    all_in_read schema first.vars first.graph commands ∙ in_read schema vars graph command

pub law_of_read_transactions : LawOfReadTransactions
law_of_read_transactions schema txn graph graph_after replies read gives =
    sym (ap (λ (r : Ran). r.graph) gives)
    ∙ ap (λ (update : Bool). (run_from schema update maps.empty graph txn.commands).graph) read
    ∙ all_in_read schema maps.empty graph txn.commands

-- ---- names that are drawn

abbrev pub KeepsDrawn : Name → Stepped → Type 0
KeepsDrawn x stepped = is_drawn stepped.graph x ≡ true

still : (a : Bool) (s l m : ℕ) → (a && nat_le s l) ≡ true → l ≤ m → (a && nat_le s m) ≡ true
still true s l m e more = le-leb s m (omega (arith, leb-true s l e, more))
still false s l m e more = absurd cc

rises : (b : Bool) (was : Option ℕ) (last : ℕ) → (b ≡ true → unwrap_or was 0 ≡ last) → unwrap_or was 0 ≤ unwrap_or (cond b (Some (last + 1)) was) 0
rises true was last same = omega (arith, same refl)
rises false was last same = omega arith

-- the last serial of a segment that draws, and of any other
module _ (graph : Graph) (segment : ℕ) (object : Object) where
  last_drawn : (q : ℕ) → last_serial (with_new graph segment object) q ≡ unwrap_or (cond (eq_by_cmp nat_cmp q segment) (Some (last_serial graph segment + 1)) (maps.get graph.serials q)) 0
  last_drawn q = ap (λ (o : Option ℕ). unwrap_or o 0) (maps.get-insert nat_cmp_total graph.serials segment (last_serial graph segment + 1) q)

  serials_rise : (q : ℕ) → last_serial graph q ≤ last_serial (with_new graph segment object) q
  serials_rise q =
      subst (λ n. last_serial graph q ≤ n) (sym (last_drawn q))
      (rises (eq_by_cmp nat_cmp q segment) (maps.get graph.serials q) (last_serial graph segment) (λ e. ap (last_serial graph) (tied_same maps.nat_cmp-IsAntisymmetric q segment e)))

  last_is : last_serial (with_new graph segment object) segment ≡ last_serial graph segment + 1
  last_is = last_drawn segment ∙ ap (λ b. unwrap_or (cond b (Some (last_serial graph segment + 1)) (maps.get graph.serials segment)) 0) (same_tied nat_cmp_total segment segment refl)

pub task_keeps : (schema : Schema) (vars : Vars) (graph : Graph) (x : Name) (command : Command) → is_drawn graph x ≡ true → TaskHas (KeepsDrawn x) (line_of schema vars graph command).task
task_keeps schema vars graph x (New to ty segment) was =
    still (nat_le 1 x.serial) x.serial (last_serial graph x.segment) _ was (serials_rise graph segment (new_object schema (unwrap_or (type_named schema ty) no_type)) x.segment)
task_keeps schema vars graph x (Find to name) was = was
task_keeps schema vars graph x (Root to root) was = was
task_keeps schema vars graph x (SetRoot root (Some item)) was = was
task_keeps schema vars graph x (SetRoot root None) was = was
task_keeps schema vars graph x (Get object member) was = λ at. was
task_keeps schema vars graph x (Set object member (operands.Int value)) was = λ at. was
task_keeps schema vars graph x (Set object member (operands.Text value)) was = λ at. was
task_keeps schema vars graph x (Set object member (operands.Var item)) was = λ at. was
task_keeps schema vars graph x (Set object member operands.Null) was = λ at. was
task_keeps schema vars graph x (Follow to object member) was = λ at. was
task_keeps schema vars graph x (Delete object) was = was
task_keeps schema vars graph x (Insert object member item) was = λ at. was
task_keeps schema vars graph x (Remove object member item) was = λ at. was
task_keeps schema vars graph x (Members object member) was = λ at. was
task_keeps schema vars graph x (Size object member) was = λ at. was
task_keeps schema vars graph x (Append object member item) was = λ at. was
task_keeps schema vars graph x (Put object member index item) was = λ at. was
task_keeps schema vars graph x (At to object member index) was = λ at. was
task_keeps schema vars graph x (Bind object member key item) was = λ at. was
task_keeps schema vars graph x (Look to object member key) was = λ at. was
task_keeps schema vars graph x (Unbind object member key) was = λ at. was
task_keeps schema vars graph x (Index object member path) was = λ at. was
task_keeps schema vars graph x (Unindex object member path) was = λ at. was
task_keeps schema vars graph x (Query object member path op key) was = λ at. was

pub law_of_drawn_names : LawOfDrawnNames
law_of_drawn_names schema update vars vars_after graph graph_after command reply x gives was =
    sym (ap (λ (s : Stepped). is_drawn s.graph x) gives)
    ∙ step_has (KeepsDrawn x) schema vars graph (λ refusal. was) update command (task_keeps schema vars graph x command was)

-- ---- the name of a new object

abbrev pub NamesNew : Graph → Stepped → Type 0
NamesNew graph stepped = (x : Name) → stepped.reply ≡ replies.Named x → (is_drawn graph x ≡ false) × (is_drawn stepped.graph x ≡ true)

abbrev name_in : Name → Reply → Name
name_in other (replies.Named x) = x
name_in other reply = other

never : (a b : Bool) → b ≡ false → (a && b) ≡ false
never true b e = e
never false b e = refl

pub names_new : (vars : Vars) (graph : Graph) (to : List ℕ) (segment : ℕ) (object : Object) → NamesNew graph (drawn vars graph to segment object)
names_new vars graph to segment object x is =
    let last = last_serial graph segment in
    let named : next_name graph segment ≡ x = ap (name_in x) is in
    let before : is_drawn graph (next_name graph segment) ≡ false = never (nat_le 1 (last + 1)) (nat_le (last + 1) last) (lt-leb (last + 1) last (omega arith)) in
    let after : is_drawn (with_new graph segment object) (next_name graph segment) ≡ true =
    subst (λ n. (nat_le 1 (last + 1) && nat_le (last + 1) n) ≡ true) (sym (last_is graph segment object))
    (subst (λ b. (b && nat_le (last + 1) (last + 1)) ≡ true) (sym (le-leb 1 (last + 1) (omega arith))) (le-leb (last + 1) (last + 1) (omega arith))) in
    (subst (λ y. is_drawn graph y ≡ false) named before, subst (λ y. is_drawn (with_new graph segment object) y ≡ true) named after)

pub law_of_new_names : LawOfNewNames
law_of_new_names schema update vars vars_after graph graph_after to ty segment x gives =
    let all = step_has (NamesNew graph) schema vars graph (λ refusal y is. absurd (let e : true ≡ false = ap is_refusal is in cc)) update (New to ty segment)
    (names_new vars graph to segment (new_object schema (unwrap_or (type_named schema ty) no_type))) in
    let both = all x (ap (λ (s : Stepped). s.reply) gives) in
    (both.0, sym (ap (λ (s : Stepped). is_drawn s.graph x) gives) ∙ both.1)

-- ---- the name of a deleted object

abbrev IsDeleted : Name → Stepped → Type 0
IsDeleted x stepped = stepped.reply ≡ replies.Done → is_dead stepped.graph x ≡ true

abbrev is_done : Reply → Bool
is_done replies.Done = true
is_done other = false

drawn_and_gone : (a b : Bool) → a ≡ true → b ≡ false → (a && not b) ≡ true
drawn_and_gone true false e f = refl
drawn_and_gone true true e f = absurd cc
drawn_and_gone false b e f = absurd cc

not_live : (schema : Schema) (graph : Graph) (x : Name) → is_live (without_object schema graph x) x ≡ false
not_live schema graph x =
    ap (λ (o : Option Object). is_some o) (maps.get-remove name_cmp-IsTotalOrder graph.objects x x)
    ∙ ap (λ (b : Bool). is_some (cond b None (maps.get graph.objects x))) (same_tied name_cmp-IsTotalOrder x x refl)

pub law_of_deleted_names : LawOfDeletedNames
law_of_deleted_names schema update vars vars_after graph graph_after object x is was gives =
    let named : bound_to vars object ≡ x = ap (λ (o : Option Name). unwrap_or o no_name) is in
    let dead : is_dead (without_object schema graph (bound_to vars object)) x ≡ true =
    subst (λ y. is_dead (without_object schema graph y) x ≡ true) (sym named) (drawn_and_gone (is_drawn graph x) _ was (not_live schema graph x)) in
    let all = step_has (IsDeleted x) schema vars graph (λ refusal done. absurd (let e : false ≡ true = ap is_done done in cc)) update (Delete object) (λ done. dead) in
    sym (ap (λ (s : Stepped). is_dead s.graph x) gives) ∙ all (ap (λ (s : Stepped). s.reply) gives)

-- ---- runs

pub law_of_answers : LawOfAnswers
law_of_answers schema update vars graph [] replies answers = sym answers
law_of_answers schema update vars graph (command ∷ commands) [] answers = absurd answers
law_of_answers schema update vars graph (command ∷ commands) (reply ∷ others) answers =
    ap (λ (first : Stepped). first.reply ∷ (run_from schema update first.vars first.graph commands).replies) answers.2
    ∙ ap (λ (rs : List Reply). reply ∷ rs) (law_of_answers schema update answers.0 answers.1 commands others answers.3)

-- the graph on which the commands after those that are answered are made
abbrev pub last_graph : (schema : Schema) (update : Bool) (vars : Vars) (graph : Graph) (commands : List Command) (replies : List Reply) → Answers schema update vars graph commands replies → Graph
last_graph schema update vars graph [] replies answers = graph
last_graph schema update vars graph (command ∷ commands) [] answers = absurd answers
last_graph schema update vars graph (command ∷ commands) (reply ∷ replies) answers = last_graph schema update answers.0 answers.1 commands replies answers.3

pub graph_left : (schema : Schema) (update : Bool) (vars : Vars) (graph : Graph) (commands : List Command) (replies : List Reply) (answers : Answers schema update vars graph commands replies)
    → (run_from schema update vars graph commands).graph ≡ last_graph schema update vars graph commands replies answers
graph_left schema update vars graph [] replies answers = refl
graph_left schema update vars graph (command ∷ commands) [] answers = absurd answers
graph_left schema update vars graph (command ∷ commands) (reply ∷ replies) answers =
    ap (λ (first : Stepped). (run_from schema update first.vars first.graph commands).graph) answers.2 ∙ graph_left schema update answers.0 answers.1 commands replies answers.3
