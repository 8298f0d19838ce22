-- Laws of pointers: they ascend, each lies in its cell, and where the next one of a chunk is.
use Rattle.std.proofs.Common.{◌≡◌, ◌≢◌, ℕ, zero, suc, ◌+◌, ◌-◌, ◌*◌, ◌<◌, ◌≤◌, Bool, true, false, ◌==◌, cond, nat_le, nat_lt, List, [], ◌∷◌, ◌++◌, map, Option, Some, None, sym, ◌∙◌, append_assoc, arith, rules, tests}
use Rattle.std.specs.List.{AllByRecursion, find, flat_map, range_with_len}
use Rattle.std.specs.List.Sorted.{IsStrictlyIncreasing}
use Rattle.std.proofs.lemmas.Bool.{cases_lt}
use Rattle.std.proofs.lemmas.Bool.Decides.{nat_tests}
use mathlib.Core.Logic.{inl, inr}
use Rattle.std.specs.Int.{div_ceil}
use Rattle.std.proofs.lemmas.Grind.{div_ceil_times}
use Rattle.std.proofs.lemmas.List.FromFn.{map-range_with_len_more}
use Rattle.ostore_schema_layout.specs.declared.schema.Schema.{Schema}
use Rattle.ostore_schema_layout.specs.declared.schema.MemberDef.{MemberDef}
use Rattle.ostore_schema_layout.specs.declared.schema.MemberKind.{MemberKind}
use Rattle.ostore_schema_layout.specs.declared.schema.MemberKind.TheVariants as kinds
use Rattle.ostore_schema_layout.specs.Cells.{ChunkForm, HasCode, IsType, cell_size, chunk_of, chunk_pointers, chunk_size, code_size, entry_pointers, in_fours, kind_size, places_from, pointers_of, pointers_of_kind, pointers_of_place, sizes}
use Rattle.ostore_base.specs.declared.cell_codes.TheConstants.{INDEX_DESCRIPTOR}
use Rattle.ostore_schema_layout.specs.Numbers.{members_of}
use Rattle.ostore_schema_layout.specs.Limits.{largest_cell}
use Rattle.ostore_schema_layout.specs.Lawful.{IsLawful}
use Rattle.ostore_schema_layout.proofs.places.LayoutLaws.{lawful_cell_size, sizes_in_cell}

-- ---- numbers that ascend, the first of which is at least a number

abbrev Ascends : ℕ → List ℕ → Type 0
Ascends low [] = Unit {0}
Ascends low (x ∷ xs) = (low ≤ x) × Ascends (x + 1) xs

lower : (low high : ℕ) (xs : List ℕ) → low ≤ high → Ascends high xs → Ascends low xs
lower low high [] h up = tt
lower low high (x ∷ xs) h up = (omega arith, up.1)

increasing : (low : ℕ) (xs : List ℕ) → Ascends low xs → IsStrictlyIncreasing xs
increasing low [] up k there = absurd (omega arith)
increasing low (x ∷ []) up k there = absurd (omega arith)
increasing low (x ∷ y ∷ xs) up zero there = omega (arith, up.1.0)
increasing low (x ∷ y ∷ xs) up (suc k) there = let next : suc k + 1 ≡ suc (k + 1) = omega arith in rw next (increasing (x + 1) (y ∷ xs) up.1 k (omega arith))

-- ---- members

ascends_kind : (at : ℕ) (kind : MemberKind) (others : List ℕ) → Ascends (at + kind_size kind) others → Ascends at (pointers_of_kind at kind ++ others)
ascends_kind at kinds.Int others up = lower at (at + 8) others (omega arith) up
ascends_kind at (kinds.Text max) others up = lower at (at + in_fours (1 + max)) others (omega arith) up
ascends_kind at (kinds.Ref target) others up = (omega arith, lower (at + 1) (at + 4) others (omega arith) up)
ascends_kind at (kinds.Set target) others up = (omega arith, (omega arith, lower (at + 8 + 1) (at + 12) others (omega arith) up))
ascends_kind at (kinds.List target) others up = (omega arith, lower (at + 1) (at + 8) others (omega arith) up)
ascends_kind at (kinds.DictInt target) others up = (omega arith, lower (at + 1) (at + 8) others (omega arith) up)
ascends_kind at (kinds.DictText target) others up = (omega arith, lower (at + 1) (at + 8) others (omega arith) up)

ascends_type : (at : ℕ) (members : List MemberDef) → Ascends at (flat_map pointers_of_place (places_from at members))
ascends_type at [] = tt
ascends_type at (member ∷ members) = ascends_kind at member.kind _ (ascends_type (at + kind_size member.kind) members)

-- the pointer's 4 bytes lie in a cell of the size
abbrev LiesIn : ℕ → ℕ → Type 0
LiesIn size place = place + 4 ≤ size

within_kind : (at size : ℕ) (kind : MemberKind) (others : List ℕ) → at + kind_size kind ≤ size → AllByRecursion (LiesIn size) others → AllByRecursion (LiesIn size) (pointers_of_kind at kind ++ others)
within_kind at size kinds.Int others room all = all
within_kind at size (kinds.Text max) others room all = all
within_kind at size (kinds.Ref target) others room all = (omega arith, all)
within_kind at size (kinds.Set target) others room all = (omega arith, (omega arith, all))
within_kind at size (kinds.List target) others room all = (omega arith, all)
within_kind at size (kinds.DictInt target) others room all = (omega arith, all)
within_kind at size (kinds.DictText target) others room all = (omega arith, all)

room_here : (at here left size : ℕ) → at + (here + left) ≤ size → at + here ≤ size
room_here at here left size h = omega arith

room_left : (at here left size : ℕ) → at + (here + left) ≤ size → (at + here) + left ≤ size
room_left at here left size h = omega arith

within_type : (at size : ℕ) (members : List MemberDef) → at + sizes members ≤ size → AllByRecursion (LiesIn size) (flat_map pointers_of_place (places_from at members))
within_type at size [] room = tt
within_type at size (member ∷ members) room =
    let here = kind_size member.kind in
    within_kind at size member.kind _ (room_here at here (sizes members) size room) (within_type (at + here) size members (room_left at here (sizes members) size room))

-- ---- entries

abbrev places_of_entries : ℕ → ℕ → ℕ → ℕ → List ℕ
places_of_entries first size start count = map (λ i. first + size * i) (range_with_len start count)

ascends_entries : (first size start count low : ℕ) → 0 < size → low ≤ first + size * start → Ascends low (places_of_entries first size start count)
ascends_entries first size start zero low some h = tt
ascends_entries first size start (suc count) low some h = (h, ascends_entries first size (start + 1) count (first + size * start + 1) some (omega arith))

entry_room : (first size start count cell : ℕ) → first + size * (start + suc count) + 4 ≤ cell + size → first + size * start + 4 ≤ cell
entry_room first size start count cell h = omega arith

entry_room_left : (first size start count cell : ℕ) → first + size * (start + suc count) + 4 ≤ cell + size → first + size * ((start + 1) + count) + 4 ≤ cell + size
entry_room_left first size start count cell h = omega arith

within_entries : (first size start count cell : ℕ) → first + size * (start + count) + 4 ≤ cell + size → AllByRecursion (LiesIn cell) (places_of_entries first size start count)
within_entries first size start zero cell room = tt
within_entries first size start (suc count) cell room =
    (entry_room first size start count cell room, within_entries first size (start + 1) count cell (entry_room_left first size start count cell room))

-- ---- chunks

sound_form : (code : ℕ) → (0 < (chunk_of code).entry_size) × ((chunk_of code).pointer_at + 4 ≤ (chunk_of code).entry_size)
sound_form code = grind (arith, nat_tests)

-- ---- the next pointer of a chunk

none_left : (passed end at : ℕ) → end ≤ passed → None ≡ cond (nat_lt passed end) (Some at) None
none_left passed end at h = search (rules, tests)

found_here : (from here passed end : ℕ) (others : Option ℕ) → from ≤ here → passed < end → cond (nat_le from here) (Some here) others ≡ cond (nat_lt passed end) (Some here) None
found_here from here passed end others h there = search (rules, tests)

passed_over : (from here : ℕ) (others : Option ℕ) → here < from → cond (nat_le from here) (Some here) others ≡ others
passed_over from here others h = search (rules, tests)

before_next : (first size from start passed : ℕ) → start < passed → passed * size < (from - first) + size → first + size * start < from
before_next first size from start passed h less = grind arith

at_next : (first size from passed : ℕ) → from - first ≤ passed * size → from ≤ first + size * passed
at_next first size from passed h = omega arith

next_entry : (first size from start count passed : ℕ) → start ≤ passed → from - first ≤ passed * size → passed * size < (from - first) + size → find (λ place. nat_le from place) (places_of_entries first size start count) ≡ cond (nat_lt passed (start + count)) (Some (first + size * passed)) None
next_entry first size from start zero passed h enough less = none_left passed (start + 0) _ (omega arith)
next_entry first size from start (suc count) passed h enough less = elim (cases_lt start passed) [
  | inl before ↦
      let over : first + size * start < from = before_next first size from start passed before less in
      let left = next_entry first size from (start + 1) count passed (omega arith) enough less in
      let same : (start + 1) + count ≡ start + suc count = omega arith in
      passed_over from (first + size * start) _ over ∙ (rw same at left)
  | inr behind ↦
      let same : passed ≡ start = omega arith in
      let reached : from ≤ first + size * start = rw same at (at_next first size from passed enough) in
      rw same (found_here from (first + size * start) start (start + suc count) _ reached (omega arith))
]

pub pointers_of_chunk : (code : ℕ) → code ≢ INDEX_DESCRIPTOR → chunk_pointers code ≡ 0 ∷ entry_pointers (chunk_of code)
pointers_of_chunk code apart = search (rules, tests)

-- the next pointer of a chunk behind its first
next_of_chunk : (code from passed : ℕ) → code ≢ INDEX_DESCRIPTOR → from ≢ 0 →
    from - (8 + (chunk_of code).pointer_at) ≤ passed * (chunk_of code).entry_size →
    passed * (chunk_of code).entry_size < (from - (8 + (chunk_of code).pointer_at)) + (chunk_of code).entry_size →
    find (λ place. nat_le from place) (chunk_pointers code)
    ≡ cond (nat_lt passed (chunk_of code).entries) (Some (8 + (chunk_of code).pointer_at + (chunk_of code).entry_size * passed)) None
next_of_chunk code from passed apart some enough less =
    let form = chunk_of code in
    let next = next_entry (8 + form.pointer_at) form.entry_size from 0 form.entries passed (omega arith) enough less in
    let all : 0 + form.entries ≡ form.entries = omega arith in
    rw (pointers_of_chunk code apart) (passed_over from 0 _ (omega arith) ∙ (rw all at next))

-- the same with the names that a reader of the form has
next_of_form : (code from entries size first passed : ℕ) → code ≢ INDEX_DESCRIPTOR → from ≢ 0 →
    entries ≡ (chunk_of code).entries → size ≡ (chunk_of code).entry_size → first ≡ 8 + (chunk_of code).pointer_at →
    passed ≡ div_ceil (from - first) size →
    find (λ place. nat_le from place) (chunk_pointers code) ≡ cond (nat_lt passed entries) (Some (first + size * passed)) None
next_of_form code from entries size first passed apart some is_entries is_size is_first is_passed =
    let form = chunk_of code in
    let rounded = div_ceil_times (from - (8 + form.pointer_at)) form.entry_size (sound_form code).0 in
    let is_rounded : passed ≡ div_ceil (from - (8 + form.pointer_at)) form.entry_size = rw (is_size, is_first) at is_passed in
    rw (is_entries, is_size, is_first) (next_of_chunk code from passed apart some (rw is_rounded rounded.0) (rw is_rounded rounded.1))

there : (passed entries at : ℕ) → passed < entries → cond (nat_lt passed entries) (Some at) None ≡ Some at
there passed entries at h = search (rules, tests)

pub next_entry_there : (code from entries size first passed : ℕ) → code ≢ INDEX_DESCRIPTOR → from ≢ 0 →
    entries ≡ (chunk_of code).entries → size ≡ (chunk_of code).entry_size → first ≡ 8 + (chunk_of code).pointer_at →
    passed ≡ div_ceil (from - first) size → passed < entries →
    Some (first + size * passed) ≡ find (λ place. nat_le from place) (chunk_pointers code)
next_entry_there code from entries size first passed apart some is_entries is_size is_first is_passed h =
    sym (next_of_form code from entries size first passed apart some is_entries is_size is_first is_passed ∙ there passed entries _ h)

pub next_entry_missing : (code from entries size first passed : ℕ) → code ≢ INDEX_DESCRIPTOR → from ≢ 0 →
    entries ≡ (chunk_of code).entries → size ≡ (chunk_of code).entry_size → first ≡ 8 + (chunk_of code).pointer_at →
    passed ≡ div_ceil (from - first) size → entries ≤ passed →
    None ≡ find (λ place. nat_le from place) (chunk_pointers code)
next_entry_missing code from entries size first passed apart some is_entries is_size is_first is_passed h =
    none_left passed entries _ h ∙ sym (next_of_form code from entries size first passed apart some is_entries is_size is_first is_passed)

-- ---- entries, one after the other

pub one_more_entry : (form : ChunkForm) (i first size : ℕ) (old before after : List ℕ) → first ≡ 8 + form.pointer_at → size ≡ form.entry_size →
    before ≡ old ++ places_of_entries (8 + form.pointer_at) form.entry_size 0 i → after ≡ before ++ (first + size * i) ∷ [] →
    after ≡ old ++ places_of_entries (8 + form.pointer_at) form.entry_size 0 (i + 1)
one_more_entry form i first size old before after is_first is_size so_far added =
    let more = map-range_with_len_more (λ i. 8 + form.pointer_at + form.entry_size * i) 0 i i (omega arith) in
    rw (added, so_far, is_first, is_size, more) (append_assoc old _ _)

-- ---- all pointers of a cell

one_of : {A : Type 0} (P : A → Type 0) (b : Bool) (x y : A) → P x → P y → P (cond b x y)
one_of P true x y h k = h
one_of P false x y h k = k

both : {A B : Type 0} (R : A → B → Type 0) (b : Bool) (x y : A) (u v : B) → R x u → R y v → R (cond b x y) (cond b u v)
both R true x y u v h k = h
both R false x y u v h k = k

abbrev LieIn : ℕ → List ℕ → Type 0
LieIn size places = AllByRecursion (LiesIn size) places

ascends_form : (entries entry_size pointer_at : ℕ) → 0 < entry_size → Ascends 0 (0 ∷ places_of_entries (8 + pointer_at) entry_size 0 entries)
ascends_form entries entry_size pointer_at some = (omega arith, ascends_entries (8 + pointer_at) entry_size 0 entries 1 some (omega arith))

lie_in_form : (entries entry_size pointer_at : ℕ) → pointer_at + 4 ≤ entry_size → LieIn (8 + entries * entry_size) (0 ∷ places_of_entries (8 + pointer_at) entry_size 0 entries)
lie_in_form entries entry_size pointer_at h =
    (omega arith, within_entries (8 + pointer_at) entry_size 0 entries (8 + entries * entry_size) (omega arith))

ascends_chunk : (code : ℕ) → Ascends 0 (chunk_pointers code)
ascends_chunk code =
    let form = chunk_of code in
    one_of (Ascends 0) (code == INDEX_DESCRIPTOR) _ _ (omega arith, (omega arith, tt)) (ascends_form form.entries form.entry_size form.pointer_at (sound_form code).0)

lie_in_chunk : (code : ℕ) → LieIn (chunk_size code) (chunk_pointers code)
lie_in_chunk code =
    let form = chunk_of code in
    both LieIn (code == INDEX_DESCRIPTOR) _ _ _ _ (omega arith, (omega arith, tt)) (lie_in_form form.entries form.entry_size form.pointer_at (sound_form code).1)

pub ascending_pointers : (schema : Schema) (code : ℕ) → IsStrictlyIncreasing (pointers_of schema code)
ascending_pointers schema code = increasing 0 (pointers_of schema code) (one_of (Ascends 0) (nat_le 240 code) _ _ (ascends_chunk code) (ascends_type 0 (members_of schema code)))

pub pointers_within : (schema : Schema) (code : ℕ) → AllByRecursion (λ place. place + 4 ≤ code_size schema code) (pointers_of schema code)
pointers_within schema code =
    let members = members_of schema code in
    both LieIn (nat_le 240 code) _ _ _ _ (lie_in_chunk code) (within_type 0 (cell_size members) members (omega (arith, sizes_in_cell members)))

-- ---- types of a code

type_of_code : (schema : Schema) (code : ℕ) → HasCode schema code → code < 240 → IsType schema code
type_of_code schema code (inl ty) h = ty
type_of_code schema code (inr chunk) h = absurd (omega arith)

pub lawful_sizes : (schema : Schema) (code : ℕ) → IsLawful schema → HasCode schema code → code < 240 → sizes (members_of schema code) ≤ 1000
lawful_sizes schema code lawful there h =
    let members = members_of schema code in
    omega (arith, sizes_in_cell members, lawful_cell_size schema code lawful (type_of_code schema code there h))

pub lawful_cells : (schema : Schema) (code : ℕ) → IsLawful schema → HasCode schema code → code < 240 → cell_size (members_of schema code) ≤ largest_cell
lawful_cells schema code lawful there h = lawful_cell_size schema code lawful (type_of_code schema code there h)
