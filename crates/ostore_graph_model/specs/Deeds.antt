-- What commands have in common: what a command gives, what the names of its line mean, and tests. What each command
-- is, beyond that, stands in a file for each group.
use Rattle.std.specs.Prelude.{ℕ, Bool, false, not, ◌==◌, if◌then◌else◌, List, [], ◌∷◌, length, map, nat_lt, Option, Some, None, unwrap_or}
use Rattle.std.specs.Option.{option_map, option_map_or, option_and_then, option_or}
use Rattle.std.specs.List.{list_any}
use Rattle.std.specs.FinMap as maps
use Rattle.ostore_schema_layout.specs.declared.schema.Schema.{Schema}
use Rattle.ostore_schema_layout.specs.declared.schema.TypeNo.{TypeNo}
use Rattle.ostore_schema_layout.specs.declared.schema.MemberDef.{MemberDef}
use Rattle.ostore_schema_layout.specs.declared.schema.MemberKind.{MemberKind}
use Rattle.ostore_schema_layout.specs.Limits.{longest_text}
use Rattle.ostore_schema_layout.specs.Numbers.{member_named}
use Rattle.ostore_graph_model.specs.declared.values.Name.{Name}
use Rattle.ostore_graph_model.specs.declared.values.Listed.{Listed}
use Rattle.ostore_graph_model.specs.declared.values.Reply.{Reply}
use Rattle.ostore_graph_model.specs.declared.values.Reply.TheVariants as replies
use Rattle.ostore_graph_model.specs.declared.refusal.Refusal.{Refusal}
use Rattle.ostore_graph_model.specs.declared.refusal.Refusal.TheVariants.{WrongType, Dangling, TextTooLong}
use Rattle.ostore_graph_model.specs.declared.commands.Key.{Key}
use Rattle.ostore_graph_model.specs.declared.commands.Key.TheVariants as keys
use Rattle.ostore_graph_model.specs.Orders.{text_cmp, TypeMember, ObjectMember}
use Rattle.ostore_graph_model.specs.Graph.{Graph, Object, is_live}
use Rattle.ostore_graph_model.specs.Kinds.{no_type, target_of}
use Rattle.ostore_graph_model.specs.Links.{def_of}
pub mod Objects
pub mod References
pub mod SetMembers
pub mod Collections
pub mod Indexes

-- ---- what a command gives

-- the variables of a transaction, each bound to the name of an object
abbrev pub Vars : Type 0
Vars = maps.FinMap text_cmp Name

-- a reply, and the variables and the graph after it
pub record Stepped : Type 0 where
  pub reply : Reply
  pub vars : Vars
  pub graph : Graph

-- a refusal changes nothing
abbrev pub refused : Refusal → Vars → Graph → Stepped
refused refusal vars graph = record { reply = replies.Refused refusal; vars = vars; graph = graph }

-- a reply, and nothing has changed
abbrev pub shown : Reply → Vars → Graph → Stepped
shown reply vars graph = record { reply = reply; vars = vars; graph = graph }

-- the command is done, and only the graph has changed
abbrev pub done : Vars → Graph → Stepped
done vars graph = record { reply = replies.Done; vars = vars; graph = graph }

-- a variable is bound to an object, whose name is the reply
abbrev pub bound : Vars → List ℕ → Name → Graph → Stepped
bound vars to x graph = record { reply = replies.Named x; vars = maps.insert vars to x; graph = graph }

-- ---- what the names of a line mean. What a look-up gives where there is nothing is never asked for.

-- no object has this name
abbrev pub no_name : Name
no_name = record { segment = 0; serial = 0 }

-- the object that a variable is bound to
abbrev pub bound_to : Vars → List ℕ → Name
bound_to vars variable = unwrap_or (maps.get vars variable) no_name

-- no object is like this
abbrev pub no_object : Object
no_object = record { ty = no_type; values = [] }

-- the object of a live name
abbrev pub object_of : Graph → Name → Object
object_of graph x = unwrap_or (maps.get graph.objects x) no_object

-- a member of a live object: whose it is, which member of its type, and what the schema says of it
pub record LiveMember : Type 0 where
  pub owner : Name
  pub at : TypeMember
  pub def : MemberDef

abbrev pub member_at_type : Schema → Name → TypeMember → Option LiveMember
member_at_type schema x at = option_map (λ def. record { owner = x; at = at; def = def }) (def_of schema at)

-- the member of this name
abbrev pub live_member : Schema → Graph → Name → List ℕ → Option LiveMember
live_member schema graph x name =
    option_and_then (λ number. member_at_type schema x (record { ty = (object_of graph x).ty; member = number }))
    (member_named schema (object_of graph x).ty name)

-- the member of that one object
abbrev pub own_member : LiveMember → ObjectMember
own_member at = record { object = at.owner; member = at.at.member }

-- ---- tests: each is the refusal of a command where it fails

abbrev pub Test : Type 0
Test = Option Refusal

abbrev pub refused_where : Bool → Refusal → Test
refused_where fails refusal = if fails then Some refusal else None

-- the first of some tests that fails
abbrev pub first_refusal : List Test → Test
first_refusal [] = None
first_refusal (test ∷ tests) = option_or test (first_refusal tests)

-- the item isn't of the type that the member leads to
abbrev pub of_other_type : Graph → LiveMember → Name → Test
of_other_type graph at y = refused_where (not ((object_of graph y).ty.0 == (target_of at.def.kind).0)) WrongType

-- what was found isn't live
abbrev pub deleted : Graph → Option Name → Test
deleted graph found = refused_where (option_map_or (λ x. not (is_live graph x)) found false) Dangling

-- a text key has more bytes than a text may have
abbrev pub key_too_long : Key → Test
key_too_long (keys.Int key) = None
key_too_long (keys.Text key) = refused_where (nat_lt longest_text (length key)) TextTooLong

-- ---- a command by itself

-- what a command asks beyond the tests that all commands have, in order, and what it does where nothing refuses it
pub record Deed : Type 0 where
  pub tests : List Test
  pub gives : Stepped

-- the first refusal of some tests, or else the effect
abbrev pub refused_or : Option Refusal → Vars → Graph → Stepped → Stepped
refused_or None vars graph effect = effect
refused_or (Some refusal) vars graph effect = refused refusal vars graph

abbrev pub outcome : Vars → Graph → Deed → Stepped
outcome vars graph deed = refused_or (first_refusal deed.tests) vars graph deed.gives

-- objects as they are listed: one that isn't live is shown as deleted
abbrev pub listed : Graph → List Name → List Listed
listed graph names = map (λ x. record { name = x; dead = not (is_live graph x) }) names
