-- Laws of layouts: which types of a lawful schema there are, and that their layouts are sound.
use Rattle.std.proofs.Common.{◌≡◌, ℕ, zero, suc, ◌+◌, ◌%◌, ◌<◌, ◌≤◌, List, [], ◌∷◌, length, refl, arith}
use Rattle.std.specs.List.{slice_get, AllByRecursion}
use Rattle.ostore_schema_layout.specs.declared.schema.Schema.{Schema}
use Rattle.ostore_schema_layout.specs.declared.schema.TypeDef.{TypeDef}
use Rattle.ostore_schema_layout.specs.declared.schema.MemberDef.{MemberDef}
use Rattle.ostore_schema_layout.specs.declared.schema.MemberKind.{MemberKind}
use Rattle.ostore_schema_layout.specs.declared.schema.MemberKind.TheVariants as kinds
use Rattle.ostore_schema_layout.specs.declared.layouts.Place.{Place}
use Rattle.ostore_schema_layout.specs.Cells.{ArePairwise, IsType, IsSoundLayout, cell_size, in_fours, kind_size, layout_of, place_end, places_from, sizes}
use Rattle.ostore_schema_layout.specs.Numbers.{members_of, members_of_found}
use Rattle.ostore_schema_layout.specs.Lawful.{AreLawfulTypes, IsLawful}

-- ---- sizes

fours_in_fours : (n : ℕ) → in_fours n % 4 ≡ 0
fours_in_fours n = omega arith

fours_kind_size : (kind : MemberKind) → kind_size kind % 4 ≡ 0
fours_kind_size kinds.Int = refl
fours_kind_size (kinds.Text max) = fours_in_fours (1 + max)
fours_kind_size (kinds.Ref target) = refl
fours_kind_size (kinds.Set target) = refl
fours_kind_size (kinds.List target) = refl
fours_kind_size (kinds.DictInt target) = refl
fours_kind_size (kinds.DictText target) = refl

least_kind_size : (kind : MemberKind) → 4 ≤ kind_size kind
least_kind_size kinds.Int = omega arith
least_kind_size (kinds.Text max) = omega arith
least_kind_size (kinds.Ref target) = omega arith
least_kind_size (kinds.Set target) = omega arith
least_kind_size (kinds.List target) = omega arith
least_kind_size (kinds.DictInt target) = omega arith
least_kind_size (kinds.DictText target) = omega arith

fours_sum : (a b : ℕ) → a % 4 ≡ 0 → b % 4 ≡ 0 → (a + b) % 4 ≡ 0
fours_sum a b h k = omega arith

fours_sizes : (members : List MemberDef) → sizes members % 4 ≡ 0
fours_sizes [] = refl
fours_sizes (member ∷ members) = fours_sum (kind_size member.kind) (sizes members) (fours_kind_size member.kind) (fours_sizes members)

pub fours_cell_size : (members : List MemberDef) → cell_size members % 4 ≡ 0
fours_cell_size [] = refl
fours_cell_size (member ∷ members) = fours_sizes (member ∷ members)

pub least_cell_size : (members : List MemberDef) → 4 ≤ cell_size members
least_cell_size [] = omega arith
least_cell_size (member ∷ members) = let least = least_kind_size member.kind in omega arith

pub sizes_in_cell : (members : List MemberDef) → sizes members ≤ cell_size members
sizes_in_cell [] = omega arith
sizes_in_cell (member ∷ members) = omega arith

-- ---- places

-- the place lies from one byte to another, and begins at a multiple of 4
abbrev IsWithin : ℕ → Place → Type 0
IsWithin size place = (place.offset % 4 ≡ 0) × (place_end place ≤ size)

within_cons : (at here left size : ℕ) → at + (here + left) ≤ size → (at + here) + left ≤ size
within_cons at here left size h = omega arith

within_here : (at here left size : ℕ) → at + (here + left) ≤ size → at + here ≤ size
within_here at here left size h = omega arith

pub places_within : (at size : ℕ) (members : List MemberDef) → at % 4 ≡ 0 → at + sizes members ≤ size → AllByRecursion (IsWithin size) (places_from at members)
places_within at size [] fours room = tt
places_within at size (member ∷ members) fours room =
    let here = kind_size member.kind in
    ((fours, within_here at here (sizes members) size room), places_within (at + here) size members (fours_sum at here fours (fours_kind_size member.kind)) (within_cons at here (sizes members) size room))

-- places behind a byte
places_behind : (end at : ℕ) (members : List MemberDef) → end ≤ at → AllByRecursion (λ place. end ≤ place.offset) (places_from at members)
places_behind end at [] behind = tt
places_behind end at (member ∷ members) behind = (behind, places_behind end (at + kind_size member.kind) members (omega arith))

places_apart : (at : ℕ) (members : List MemberDef) → ArePairwise (λ earlier later. place_end earlier ≤ later.offset) (places_from at members)
places_apart at [] = tt
places_apart at (member ∷ members) = let end = at + kind_size member.kind in (places_behind end end members (omega arith), places_apart end members)

pub sound_layout : (members : List MemberDef) → cell_size members ≤ 1000 → IsSoundLayout (layout_of members)
sound_layout members most =
    let least = least_cell_size members in
    let room : 0 + sizes members ≤ cell_size members = omega (arith, sizes_in_cell members) in
    record {
      some = omega arith;
      fours = fours_cell_size members;
      most = most;
      within = places_within 0 (cell_size members) members refl room;
      apart = places_apart 0 members;
    }

-- ---- the types of a lawful schema

lawful_found : (schema : Schema) (start n : ℕ) (types : List TypeDef) → AreLawfulTypes schema start types → n < length types → cell_size (members_of_found (slice_get types n)) ≤ 1000
lawful_found schema start n [] lawful there = absurd (omega arith)
lawful_found schema start zero (ty ∷ types) lawful there = lawful.0.size
lawful_found schema start (suc n) (ty ∷ types) lawful there = lawful_found schema (suc start) n types lawful.1 (omega arith)

-- the cell of a type of a lawful schema has at most 1,000 bytes
pub lawful_cell_size : (schema : Schema) (number : ℕ) → IsLawful schema → IsType schema number → cell_size (members_of schema number) ≤ 1000
lawful_cell_size schema zero lawful there = absurd (omega arith)
lawful_cell_size schema (suc n) lawful there = lawful_found schema 1 n schema.types lawful.types (omega arith)
