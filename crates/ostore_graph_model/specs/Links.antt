-- Links and *Side*. A link is a reference or a set without inverse, or two that name each other as inverses; it
-- goes by the member that comes first in the schema's text. What a member of a link shows of an object are its
-- partners in the link's pairs.
use Rattle.std.specs.Prelude.{◌≡◌, ◌≢◌, Bool, true, false, IsTrue, not, ◌&&◌, ◌||◌, is_some, if◌then◌else◌, map, filter, Option, Some, None}
use Rattle.std.specs.Option.{option_map, option_and_then, option_map_or}
use Rattle.std.specs.Ordering.{eq_by_cmp, is_lt}
use Rattle.ostore_schema_layout.specs.declared.schema.Schema.{Schema}
use Rattle.ostore_schema_layout.specs.declared.schema.MemberDef.{MemberDef}
use Rattle.ostore_schema_layout.specs.declared.schema.Inverse.{Inverse}
use Rattle.ostore_schema_layout.specs.Numbers.{member_at}
use Rattle.ostore_schema_layout.specs.Lawful.{link_target}
use Rattle.ostore_graph_model.specs.declared.values.Name.{Name}
use Rattle.ostore_graph_model.specs.Sets as sets
use Rattle.ostore_graph_model.specs.Orders.{TypeMember, type_member_cmp, Pair, pair_cmp, name_cmp}
use Rattle.ostore_graph_model.specs.Kinds.{is_ref}
use Rattle.ostore_graph_model.specs.Graph.{Graph}

abbrev pub same_name : Name → Name → Bool
same_name = eq_by_cmp name_cmp

abbrev pub same_member : TypeMember → TypeMember → Bool
same_member = eq_by_cmp type_member_cmp

-- ---- the members of a link

-- what the schema says of a member
abbrev pub def_of : Schema → TypeMember → Option MemberDef
def_of schema member = member_at schema member.ty member.member

abbrev pub inverse_at : Schema → TypeMember → Option Inverse
inverse_at schema member = option_and_then (λ def. def.inverse) (def_of schema member)

abbrev pub member_of_inverse : Inverse → TypeMember
member_of_inverse inverse = record { ty = inverse.ty; member = inverse.member }

-- the member at the other side of a two-sided link
abbrev pub other_member : Schema → TypeMember → Option TypeMember
other_member schema member = option_map member_of_inverse (inverse_at schema member)

abbrev pub is_two_sided : Schema → TypeMember → Bool
is_two_sided schema member = is_some (inverse_at schema member)

-- the member is a reference, so it shows one partner at most
abbrev pub is_ref_member : Schema → TypeMember → Bool
is_ref_member schema member = option_map_or (λ def. is_ref def.kind) (def_of schema member) false

-- of the members of a link, the first in the schema's text; a one-sided link has no other
abbrev pub comes_first : TypeMember → Option Inverse → Bool
comes_first member None = true
comes_first member (Some inverse) = is_lt (type_member_cmp member (member_of_inverse inverse))

-- the link goes by this member
abbrev pub is_first : Schema → TypeMember → Bool
is_first schema member = comes_first member (inverse_at schema member)

-- a link goes by this member: a reference or a set, and the first of its link in the schema's text
pub record IsLink (schema : Schema) (at : TypeMember) : Type 0 where
  pub def : MemberDef
  pub defined : def_of schema at ≡ Some def
  pub sided : link_target def.kind ≢ None
  pub first : IsTrue (comes_first at def.inverse)

-- ---- pairs, as they are seen from a member of their link

-- the pair that joins x, on the member's side, with y
abbrev pub pair_from : TypeMember → Option Inverse → Name → Name → Pair
pair_from member None x y = record { link = member; first = x; second = y }
pair_from member (Some inverse) x y =
    if comes_first member (Some inverse) then record { link = member; first = x; second = y }
    else record { link = member_of_inverse inverse; first = y; second = x }

abbrev pub pair_at : Schema → TypeMember → Name → Name → Pair
pair_at schema member x y = pair_from member (inverse_at schema member) x y

-- the object of a pair on the member's side
abbrev pub near_end : Schema → TypeMember → Pair → Name
near_end schema member pair = if is_first schema member then pair.first else pair.second

-- and its partner
abbrev pub far_end : Schema → TypeMember → Pair → Name
far_end schema member pair = if is_first schema member then pair.second else pair.first

-- the pair joins x, on the member's side, with something
abbrev pub joins_from : Schema → TypeMember → Name → Pair → Bool
joins_from schema member x pair =
    same_member pair.link (pair_at schema member x x).link && same_name (near_end schema member pair) x

-- the pair joins something, on the member's side, with y
abbrev pub joins_to : Schema → TypeMember → Name → Pair → Bool
joins_to schema member y pair =
    same_member pair.link (pair_at schema member y y).link && same_name (far_end schema member pair) y

-- ---- *Side*

-- the partners of x in the pairs of a member's link, seen from that member
abbrev pub side : Schema → Graph → TypeMember → Name → sets.FinSet name_cmp
side schema graph member x =
    sets.from_list (map (far_end schema member) (filter (joins_from schema member x) (sets.items graph.pairs)))

-- ---- pairs that change

-- A reference shows one partner at most. So where x is joined with y, the pairs with x on the member's side go
-- where the member is a reference, and the pairs with y on the other side go where the member there is one.
abbrev pub is_displaced : Schema → TypeMember → Name → Name → Pair → Bool
is_displaced schema member x y pair =
    (is_ref_member schema member && joins_from schema member x pair)
    || (option_map_or (is_ref_member schema) (other_member schema member) false && joins_to schema member y pair)

-- x is joined with y, and with no one who is displaced
abbrev pub joined : Schema → TypeMember → Name → Name → sets.FinSet pair_cmp → sets.FinSet pair_cmp
joined schema member x y pairs =
    sets.insert (sets.retain pairs (λ pair. not (is_displaced schema member x y pair))) (pair_at schema member x y)

-- x has no partner at the member
abbrev pub parted : Schema → TypeMember → Name → sets.FinSet pair_cmp → sets.FinSet pair_cmp
parted schema member x pairs = sets.retain pairs (λ pair. not (joins_from schema member x pair))

-- The pairs that go with an object: of a two-sided link those that have it at either end, of a one-sided link its
-- own alone.
abbrev pub goes_with : Schema → Name → Pair → Bool
goes_with schema x pair = same_name pair.first x || (is_two_sided schema pair.link && same_name pair.second x)
