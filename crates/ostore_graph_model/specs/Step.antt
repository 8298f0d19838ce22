-- *Step*: what one command answers, and what it does to the graph and to the variables of its transaction.
use Rattle.std.specs.Prelude.{◌≡◌, ℕ, Bool, true, false, not, ◌&&◌, List, [], ◌∷◌, Option, Some, None}
use Rattle.std.specs.List.{list_any}
use Rattle.std.specs.FinMap as maps
use Rattle.ostore_schema_layout.specs.declared.schema.Schema.{Schema}
use Rattle.ostore_schema_layout.specs.declared.schema.MemberKind.{MemberKind}
use Rattle.ostore_schema_layout.specs.Numbers.{type_named}
use Rattle.ostore_graph_model.specs.declared.values.Reply.{Reply}
use Rattle.ostore_graph_model.specs.declared.refusal.Refusal.{Refusal}
use Rattle.ostore_graph_model.specs.declared.refusal.Refusal.TheVariants.{ReadOnly, NoVariable, Dangling, NoMember, WrongKind}
use Rattle.ostore_graph_model.specs.declared.commands.Command.{Command}
use Rattle.ostore_graph_model.specs.declared.commands.Command.TheVariants.{New, Find, Root, SetRoot, Get, Set, Follow, Delete, Insert, Remove, Members, Size, Append, Put, At, Bind, Look, Unbind, Index, Unindex, Query}
use Rattle.ostore_graph_model.specs.declared.commands.Operand.{Operand}
use Rattle.ostore_graph_model.specs.declared.commands.Operand.TheVariants as operands
use Rattle.ostore_graph_model.specs.Graph.{Graph, is_live}
use Rattle.ostore_graph_model.specs.Kinds.{is_int, is_text, is_ref, is_set, is_list, is_dictionary, is_single, is_collection}
use Rattle.ostore_graph_model.specs.Deeds.{Vars, Stepped, Test, Deed, LiveMember, refused, bound_to, live_member, refused_where, first_refusal, outcome}
use Rattle.ostore_graph_model.specs.Deeds.Objects.{new_deed, find_deed, get_deed, set_int_deed, set_text_deed, delete_deed}
use Rattle.ostore_graph_model.specs.Deeds.References.{set_object_deed, set_null_deed, follow_deed, root_deed, bind_root_deed, unbind_root_deed}
use Rattle.ostore_graph_model.specs.Deeds.SetMembers.{insert_deed, remove_deed, members_deed}
use Rattle.ostore_graph_model.specs.Deeds.Collections.{append_deed, put_deed, at_deed, bind_deed, look_deed, unbind_deed, size_deed}
use Rattle.ostore_graph_model.specs.Deeds.Indexes.{index_deed, unindex_deed, query_deed}

-- what a command is on: nothing but the graph, or a member of a variable's object, of certain kinds
pub data Task : Type 0 where
  on_graph : Deed → Task
  on_member : List ℕ → List ℕ → (MemberKind → Bool) → (LiveMember → Deed) → Task

-- a command as its line says it: whether it writes, which variables it reads, from left to right, and its task
pub record Line : Type 0 where
  pub writes : Bool
  pub reads : List (List ℕ)
  pub task : Task

abbrev pub reading : List (List ℕ) → Task → Line
reading variables task = record { writes = false; reads = variables; task = task }

abbrev pub writing : List (List ℕ) → Task → Line
writing variables task = record { writes = true; reads = variables; task = task }

-- a command on a member of a variable's object reads that variable first, and then it may read others
abbrev pub reading_member : List ℕ → List ℕ → (MemberKind → Bool) → (LiveMember → Deed) → Line
reading_member object member kind deed = reading (object ∷ []) (Task.on_member object member kind deed)

abbrev pub writing_member : List ℕ → List ℕ → List (List ℕ) → (MemberKind → Bool) → (LiveMember → Deed) → Line
writing_member object member others kind deed = writing (object ∷ others) (Task.on_member object member kind deed)

-- ---- the commands, a row each

module _ (schema : Schema) (vars : Vars) (graph : Graph) where
  -- `set`, by the value that it is given
  abbrev pub set_line : List ℕ → List ℕ → Operand → Line
  set_line object member (operands.Int value) = writing_member object member [] is_int (set_int_deed vars graph value)
  set_line object member (operands.Text text) = writing_member object member [] is_text (set_text_deed vars graph text)
  set_line object member (operands.Var item) = writing_member object member (item ∷ []) is_ref (set_object_deed schema vars graph (bound_to vars item))
  set_line object member operands.Null = writing_member object member [] is_ref (set_null_deed schema vars graph)

  abbrev pub line_of : Command → Line
  line_of (New to ty segment) = writing [] (Task.on_graph (new_deed schema vars graph to segment (type_named schema ty)))
  line_of (Find to name) = reading [] (Task.on_graph (find_deed vars graph to name))
  line_of (Root to root) = reading [] (Task.on_graph (root_deed vars graph to root))
  line_of (SetRoot root (Some item)) = writing (item ∷ []) (Task.on_graph (bind_root_deed vars graph root (bound_to vars item)))
  line_of (SetRoot root None) = writing [] (Task.on_graph (unbind_root_deed vars graph root))
  line_of (Get object member) = reading_member object member is_single (get_deed schema vars graph)
  line_of (Set object member value) = set_line object member value
  line_of (Follow to object member) = reading_member object member is_ref (follow_deed schema vars graph to)
  line_of (Delete object) = writing (object ∷ []) (Task.on_graph (delete_deed schema vars graph (bound_to vars object)))
  line_of (Insert object member item) = writing_member object member (item ∷ []) is_set (insert_deed schema vars graph (bound_to vars item))
  line_of (Remove object member item) = writing_member object member (item ∷ []) is_set (remove_deed schema vars graph (bound_to vars item))
  line_of (Members object member) = reading_member object member is_set (members_deed schema vars graph)
  line_of (Size object member) = reading_member object member is_collection (size_deed schema vars graph)
  line_of (Append object member item) = writing_member object member (item ∷ []) is_list (append_deed vars graph (bound_to vars item))
  line_of (Put object member index item) = writing_member object member (item ∷ []) is_list (put_deed vars graph index (bound_to vars item))
  line_of (At to object member index) = reading_member object member is_list (at_deed vars graph to index)
  line_of (Bind object member key item) = writing_member object member (item ∷ []) is_dictionary (bind_deed vars graph key (bound_to vars item))
  line_of (Look to object member key) = reading_member object member is_dictionary (look_deed vars graph to key)
  line_of (Unbind object member key) = writing_member object member [] is_dictionary (unbind_deed vars graph key)
  line_of (Index object member path) = writing_member object member [] is_set (index_deed schema vars graph path)
  line_of (Unindex object member path) = writing_member object member [] is_set (unindex_deed schema vars graph path)
  line_of (Query object member path op key) = reading_member object member is_set (query_deed schema vars graph path op key)

  -- ---- refusals

  -- a variable isn't bound
  abbrev pub is_unbound : List ℕ → Bool
  is_unbound variable = not (maps.contains_key vars variable)

  -- a variable's object was deleted
  abbrev pub is_dangling : List ℕ → Bool
  is_dangling variable = not (is_live graph (bound_to vars variable))

  -- there is no such member, or it is of another kind; else what the command asks of it
  abbrev pub member_tests : (MemberKind → Bool) → (LiveMember → Deed) → Option LiveMember → List Test
  member_tests kind deed None = Some NoMember ∷ []
  member_tests kind deed (Some at) = refused_where (not (kind at.def.kind)) WrongKind ∷ (deed at).tests

  abbrev pub task_tests : Task → List Test
  task_tests (Task.on_graph deed) = deed.tests
  task_tests (Task.on_member object member kind deed) = member_tests kind deed (live_member schema graph (bound_to vars object) member)

  -- First comes a writing command in a read; then a variable that isn't bound and one whose object was deleted, each
  -- over all variables that the line reads; then the tests of the member, and of the command.
  abbrev pub line_tests : Bool → Line → List Test
  line_tests update line =
      refused_where (line.writes && not update) ReadOnly
      ∷ refused_where (list_any is_unbound line.reads) NoVariable
      ∷ refused_where (list_any is_dangling line.reads) Dangling
      ∷ task_tests line.task

  -- ---- effects

  abbrev pub member_gives : (LiveMember → Deed) → Option LiveMember → Stepped
  member_gives deed None = refused NoMember vars graph
  member_gives deed (Some at) = (deed at).gives

  -- what a command gives where nothing refuses it
  abbrev pub task_gives : Task → Stepped
  task_gives (Task.on_graph deed) = deed.gives
  task_gives (Task.on_member object member kind deed) = member_gives deed (live_member schema graph (bound_to vars object) member)

  -- all tests of a line, and its effect
  abbrev pub line_deed : Bool → Line → Deed
  line_deed update line = record { tests = line_tests update line; gives = task_gives line.task }

-- the refusal of a command, where it has one
abbrev pub refusal_of : Schema → Bool → Vars → Graph → Command → Option Refusal
refusal_of schema update vars graph command = first_refusal (line_tests schema vars graph update (line_of schema vars graph command))

-- a command is refused, and changes nothing, or has its effect
abbrev pub step : Schema → Bool → Vars → Graph → Command → Stepped
step schema update vars graph command = outcome vars graph (line_deed schema vars graph update (line_of schema vars graph command))

-- a command gives this reply, these variables and this graph
abbrev pub Steps : Schema → Bool → Vars → Graph → Command → Reply → Vars → Graph → Type 0
Steps schema update vars graph command reply vars_after graph_after =
    step schema update vars graph command ≡ record { reply = reply; vars = vars_after; graph = graph_after }
