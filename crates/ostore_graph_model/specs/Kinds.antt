-- The kinds of members, by what commands are for.
use Rattle.std.specs.Prelude.{ℕ, Bool, true, false}
use Rattle.ostore_schema_layout.specs.declared.schema.TypeNo.{TypeNo}
use Rattle.ostore_schema_layout.specs.declared.schema.MemberKind.{MemberKind}
use Rattle.ostore_schema_layout.specs.declared.schema.MemberKind.TheVariants as kinds
use Rattle.ostore_graph_model.specs.declared.commands.Key.{Key}
use Rattle.ostore_graph_model.specs.declared.commands.Key.TheVariants as keys

abbrev pub is_int : MemberKind → Bool
is_int kinds.Int = true
is_int other = false

abbrev pub is_text : MemberKind → Bool
is_text (kinds.Text max) = true
is_text other = false

-- an int or a text
abbrev pub is_scalar : MemberKind → Bool
is_scalar kinds.Int = true
is_scalar (kinds.Text max) = true
is_scalar other = false

abbrev pub is_ref : MemberKind → Bool
is_ref (kinds.Ref target) = true
is_ref other = false

abbrev pub is_set : MemberKind → Bool
is_set (kinds.Set target) = true
is_set other = false

abbrev pub is_list : MemberKind → Bool
is_list (kinds.List target) = true
is_list other = false

abbrev pub is_dictionary : MemberKind → Bool
is_dictionary (kinds.DictInt target) = true
is_dictionary (kinds.DictText target) = true
is_dictionary other = false

-- what `get` shows
abbrev pub is_single : MemberKind → Bool
is_single kinds.Int = true
is_single (kinds.Text max) = true
is_single (kinds.Ref target) = true
is_single other = false

-- what has a size
abbrev pub is_collection : MemberKind → Bool
is_collection (kinds.Set target) = true
is_collection (kinds.List target) = true
is_collection (kinds.DictInt target) = true
is_collection (kinds.DictText target) = true
is_collection other = false

-- a dictionary takes keys of its own kind
abbrev pub takes_key : MemberKind → Key → Bool
takes_key (kinds.DictInt target) (keys.Int key) = true
takes_key (kinds.DictText target) (keys.Text key) = true
takes_key other key = false

-- an int or a text is compared with keys of its own kind
abbrev pub compares_with : MemberKind → Key → Bool
compares_with kinds.Int (keys.Int key) = true
compares_with (kinds.Text max) (keys.Text key) = true
compares_with other key = false

-- the most bytes of a text member
abbrev pub room_of : MemberKind → ℕ
room_of (kinds.Text max) = max
room_of other = 0

-- no type has the number 0
abbrev pub no_type : TypeNo
no_type = record { 0 = 0 }

-- the type of the objects that a member leads to
abbrev pub target_of : MemberKind → TypeNo
target_of kinds.Int = no_type
target_of (kinds.Text max) = no_type
target_of (kinds.Ref target) = target
target_of (kinds.Set target) = target
target_of (kinds.List target) = target
target_of (kinds.DictInt target) = target
target_of (kinds.DictText target) = target
