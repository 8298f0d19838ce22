-- The orders under which the parts of a graph are kept as finite maps and sets.
use Rattle.std.specs.Prelude.{ℕ, List}
use Rattle.std.specs.declared.cmp.Ordering.{Ordering}
use Rattle.std.specs.declared.cmp.Ordering.TheVariants.{Less, Greater}
use Rattle.std.specs.Ordering.{nat_cmp, int_cmp, ordering_then}
use Rattle.std.specs.Cmp.Lexicographic.{slice_cmp}
use Rattle.ostore_schema_layout.specs.declared.schema.TypeNo.{TypeNo}
use Rattle.ostore_schema_layout.specs.declared.schema.MemberNo.{MemberNo}
use Rattle.ostore_graph_model.specs.declared.values.Name.{Name}
use Rattle.ostore_graph_model.specs.declared.commands.Key.{Key}
use Rattle.ostore_graph_model.specs.declared.commands.Key.TheVariants as keys

-- texts by their bytes
abbrev pub text_cmp : List ℕ → List ℕ → Ordering
text_cmp = slice_cmp nat_cmp

-- names by segment, then by serial
abbrev pub name_cmp : Name → Name → Ordering
name_cmp a b = ordering_then (nat_cmp a.segment b.segment) (nat_cmp a.serial b.serial)

-- whole numbers before texts
abbrev pub key_cmp : Key → Key → Ordering
key_cmp (keys.Int a) (keys.Int b) = int_cmp a b
key_cmp (keys.Int a) (keys.Text b) = Less
key_cmp (keys.Text a) (keys.Int b) = Greater
key_cmp (keys.Text a) (keys.Text b) = text_cmp a b

-- a member of a type
pub record TypeMember : Type 0 where
  pub ty : TypeNo
  pub member : MemberNo

abbrev pub member_cmp : MemberNo → MemberNo → Ordering
member_cmp a b = nat_cmp a.0 b.0

abbrev pub type_member_cmp : TypeMember → TypeMember → Ordering
type_member_cmp a b = ordering_then (nat_cmp a.ty.0 b.ty.0) (member_cmp a.member b.member)

-- Two objects that a link joins. The link goes by the member at its first side, or at its only one, and the first
-- of the two objects is the one on that side.
pub record Pair : Type 0 where
  pub link : TypeMember
  pub first : Name
  pub second : Name

abbrev pub pair_cmp : Pair → Pair → Ordering
pair_cmp a b = ordering_then (type_member_cmp a.link b.link) (ordering_then (name_cmp a.first b.first) (name_cmp a.second b.second))

-- the member of one object
pub record ObjectMember : Type 0 where
  pub object : Name
  pub member : MemberNo

abbrev pub object_member_cmp : ObjectMember → ObjectMember → Ordering
object_member_cmp a b = ordering_then (name_cmp a.object b.object) (member_cmp a.member b.member)

-- a declared index: the set that it is on, and the members of its path
pub record PathIndex : Type 0 where
  pub set : ObjectMember
  pub path : List MemberNo

abbrev pub index_cmp : PathIndex → PathIndex → Ordering
index_cmp a b = ordering_then (object_member_cmp a.set b.set) (slice_cmp member_cmp a.path b.path)
