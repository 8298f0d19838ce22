-- What a walk over the pointers of a cell has still to give.
use Rattle.std.specs.Prelude.{ℕ, zero, suc, ◌+◌, List, [], ◌∷◌, ◌++◌, Option, Some, None}
use Rattle.std.specs.List.{flat_map}
use Rattle.ostore_schema_layout.specs.declared.pointers.walk.Found.{Found}
use Rattle.ostore_schema_layout.specs.declared.schema.MemberDef.{MemberDef}
use Rattle.ostore_schema_layout.specs.Cells.{places_from, pointers_of_place}

-- the pointer that was found already
abbrev pub pointer_found : Option ℕ → List ℕ
pointer_found None = []
pointer_found (Some place) = place ∷ []

-- the pointers of members, of which the first begins at a place
abbrev pub member_pointers : ℕ → List MemberDef → List ℕ
member_pointers at members = flat_map pointers_of_place (places_from at members)

-- those of the first member that has any, and of the members behind it
abbrev pub found_pointers : Option Found → List ℕ
found_pointers None = []
found_pointers (Some found) = found.place ∷ (pointer_found found.second ++ member_pointers found.at found.members.now)

-- the pointers of some entries of a size, of which the first has its pointer at a place
abbrev pub pointers_from : ℕ → ℕ → ℕ → List ℕ
pointers_from at size zero = []
pointers_from at size (suc count) = at ∷ pointers_from (at + size) size count

-- the pointer found, then those of the members, then those of the entries
abbrev pub pointers_left : Option ℕ → ℕ → List MemberDef → ℕ → ℕ → ℕ → List ℕ
pointers_left found at members entry_at entry_size entries = pointer_found found ++ (member_pointers at members ++ pointers_from entry_at entry_size entries)
