-- A root's row that is written into the resident page of roots is written, with the pointer stored, into the
-- page's stored form.
use Rattle.std.proofs.Common.{◌≡◌, ◌≢◌, ℕ, zero, suc, ◌+◌, ◌-◌, ◌<◌, ◌≤◌, cond, eqb, List, [], ◌∷◌, ◌++◌, length, get_or, drop, Option, None, refl, sym, ap, subst, ◌∙◌, arith, inl, inr}
use Rattle.std.specs.List.{AllByRecursion, flat_map, range_with_len}
use Rattle.std.proofs.lemmas.Bool.{cases_lt, cases_eq, eq-eqb, ne_eqb}
use Rattle.std.proofs.lemmas.List.{append_assoc, drop-drop, get_or_append_left, get_or_default, same_lists}
use Rattle.byteorder.specs.Endian.{little_bytes, little_number}
use Rattle.byteorder.specs.Numbers.{length-bytes_low_first}
use Rattle.ostore_base.specs.Disk.{replaced}
use Rattle.ostore_base.specs.declared.numbers.PageNo.{PageNo}
use Rattle.ostore_schema_layout.specs.declared.schema.Schema.{Schema}
use Rattle.ostore_page_tags.specs.Numbers.{number_at, with_number}
use Rattle.ostore_page_tags.proofs.bytes.ImageLaws.{drop-replaced_at, length-replaced_within, length-with_number, number_at-same, number_at-replaced_before, number_at-replaced_behind}
use Rattle.ostore_address_space.specs.Frames.{page_in}
use Rattle.ostore_relocation.specs.Places.{IsBeside, LieBetween, name_length, root_place, root_pointer, root_pointers}
use Rattle.ostore_relocation.specs.Pointers.{stored_pointer, target, with_pointers}
use Rattle.ostore_relocation.specs.Forms.{IsResidentPage, stored_form}
use Rattle.ostore_relocation.specs.Stores.{LeadsToFrame, StoresAs, stored_root}
use Rattle.ostore_relocation.proofs.PlaceLaws.{lie_higher, lie_order}
use Rattle.ostore_relocation.proofs.PageLaws.{changed_append, keeps}
use Rattle.ostore_relocation.proofs.RootLaws.{lie_root, lie_roots, lie_roots_from, roots_are, roots_split}
use Rattle.ostore_relocation.proofs.StoreLaws.{beside_all, in_new, out_kept}
use Rattle.ostore_relocation.proofs.ZeroLaws.{all_both}
use Rattle.ostore_relocation.proofs.BesideLaws.{Leads, leads_beside}

-- ---- bytes within bytes

-- bytes that are put into a run of bytes that was put somewhere
within_run : (at by : ℕ) (some run held : List ℕ) → by + length some ≤ length run → at + length run ≤ length held → replaced (at + by) some (replaced at run held) ≡ replaced at (replaced by some run) held
within_run at by some run held fits room =
    let whole = length-replaced_within at run held room in
    let part = length-replaced_within by some run fits in
    let first = length-replaced_within (at + by) some (replaced at run held) (omega arith) in
    let second = length-replaced_within at (replaced by some run) held (omega arith) in
    let one : List ℕ = replaced (at + by) some (replaced at run held) in
    let two : List ℕ = replaced at (replaced by some run) held in
    same_lists one two (omega arith) (λ k d below.
    get_or_default one k d 0 below
    ∙ (elim (cases_lt k at) as (λ _. get_or one k 0 ≡ get_or two k 0) [
      | inl before ↦
          out_kept (at + by) k some (replaced at run held) (omega arith) (inl (omega arith)) ∙ out_kept at k run held room (inl before)
          ∙ sym (out_kept at k (replaced by some run) held (omega arith) (inl before))
      | inr from ↦ elim (cases_lt k (at + length run)) as (λ _. get_or one k 0 ≡ get_or two k 0) [
        | inl inside ↦ within_at k from inside
        | inr behind ↦
            out_kept (at + by) k some (replaced at run held) (omega arith) (inr (omega arith)) ∙ out_kept at k run held room (inr behind)
            ∙ sym (out_kept at k (replaced by some run) held (omega arith) (inr (omega arith)))
      ]
    ])
    ∙ get_or_default two k 0 d (omega arith))
  where
    within_at : (k : ℕ) → at ≤ k → k < at + length run → get_or (replaced (at + by) some (replaced at run held)) k 0 ≡ get_or (replaced at (replaced by some run) held) k 0
    within_at k from inside =
        let whole = length-replaced_within at run held room in
        let part = length-replaced_within by some run fits in
        let new = in_new at k (replaced by some run) held (omega arith) from (omega arith) in
        elim (cases_lt k (at + by)) as (λ _. get_or (replaced (at + by) some (replaced at run held)) k 0 ≡ get_or (replaced at (replaced by some run) held) k 0) [
          | inl before ↦
              out_kept (at + by) k some (replaced at run held) (omega arith) (inl before) ∙ in_new at k run held room from inside
              ∙ sym (out_kept by (k - at) some run fits (inl (omega arith))) ∙ sym new
          | inr low ↦ elim (cases_lt k (at + by + length some)) as (λ _. get_or (replaced (at + by) some (replaced at run held)) k 0 ≡ get_or (replaced at (replaced by some run) held) k 0) [
            | inl here ↦
                let same : k - (at + by) ≡ k - at - by = omega arith in
                in_new (at + by) k some (replaced at run held) (omega arith) low here ∙ ap (λ (i : ℕ). get_or some i 0) same
                ∙ sym (in_new by (k - at) some run fits (omega arith) (omega arith)) ∙ sym new
            | inr past ↦
                out_kept (at + by) k some (replaced at run held) (omega arith) (inr past) ∙ in_new at k run held room from inside
                ∙ sym (out_kept by (k - at) some run fits (inr (omega arith))) ∙ sym new
          ]
        ]

-- a run of bytes that is put over others takes them away
over_run : (at by : ℕ) (some run held : List ℕ) → by + length some ≤ length run → at + length run ≤ length held → replaced at run (replaced (at + by) some held) ≡ replaced at run held
over_run at by some run held fits room =
    let whole = length-replaced_within (at + by) some held (omega arith) in
    let first = length-replaced_within at run (replaced (at + by) some held) (omega arith) in
    let second = length-replaced_within at run held room in
    let one : List ℕ = replaced at run (replaced (at + by) some held) in
    let two : List ℕ = replaced at run held in
    same_lists one two (omega arith) (λ k d below.
    get_or_default one k d 0 below
    ∙ (elim (cases_lt k at) as (λ _. get_or one k 0 ≡ get_or two k 0) [
      | inl before ↦
          out_kept at k run (replaced (at + by) some held) (omega arith) (inl before) ∙ out_kept (at + by) k some held (omega arith) (inl (omega arith))
          ∙ sym (out_kept at k run held room (inl before))
      | inr from ↦ elim (cases_lt k (at + length run)) as (λ _. get_or one k 0 ≡ get_or two k 0) [
        | inl inside ↦ in_new at k run (replaced (at + by) some held) (omega arith) from inside ∙ sym (in_new at k run held room from inside)
        | inr behind ↦
            out_kept at k run (replaced (at + by) some held) (omega arith) (inr behind) ∙ out_kept (at + by) k some held (omega arith) (inr (omega arith))
            ∙ sym (out_kept at k run held room (inr behind))
      ]
    ])
    ∙ get_or_default two k 0 d (omega arith))

-- a number that is read from a run of bytes where it was put
read_run : (n at by : ℕ) (run held : List ℕ) → by + n ≤ length run → at + length run ≤ length held → number_at n (at + by) (replaced at run held) ≡ number_at n by run
read_run n at by run held fits room =
    let new : List ℕ = run ++ drop (at + length run) held in
    ap (little_number n) (sym (drop-drop by at (replaced at run held)))
    ∙ ap (λ (l : List ℕ). number_at n by l) (drop-replaced_at at run held room)
    ∙ number_at-same n by new run (record { bytes = λ k low high. get_or_append_left run (drop (at + length run) held) 0 k (omega arith) })

-- ---- the rows round one

split_range : {X : Type 0} (g : ℕ → List X) (a n m : ℕ) → flat_map g (range_with_len a (n + m)) ≡ flat_map g (range_with_len a n) ++ flat_map g (range_with_len (a + n) m)
split_range {X = X} g a zero m =
    let none : zero + m ≡ m = omega arith in
    let start : a ≡ a + zero = omega arith in
    ap (λ (k : ℕ). flat_map g (range_with_len a k)) none ∙ ap (λ (k : ℕ). flat_map g (range_with_len k m)) start
split_range {X = X} g a (suc n) m =
    let more : suc n + m ≡ suc (n + m) = omega arith in
    let start : a + 1 + n ≡ a + suc n = omega arith in
    ap (λ (k : ℕ). flat_map g (range_with_len a k)) more
    ∙ ap (λ (l : List X). g a ++ l) (split_range g (a + 1) n m)
    ∙ ap (λ (k : ℕ). g a ++ (flat_map g (range_with_len (a + 1) n) ++ flat_map g (range_with_len k m))) start
    ∙ sym (append_assoc (g a) (flat_map g (range_with_len (a + 1) n)) (flat_map g (range_with_len (a + suc n) m)))

-- the pointers of some rows, from one on
abbrev rows_from : List ℕ → ℕ → ℕ → List ℕ
rows_from bytes a n = flat_map (root_pointer bytes) (range_with_len a n)

three_parts : (bytes : List ℕ) (i : ℕ) → i < 101 → root_pointers bytes ≡ rows_from bytes 0 i ++ (root_pointer bytes i ++ rows_from bytes (i + 1) (101 - (i + 1)))
three_parts bytes i below =
    let all : i + (101 - i) ≡ 101 = omega arith in
    let start : 0 + i ≡ i = omega arith in
    sym (roots_are bytes (i + (101 - i)) all) ∙ split_range (root_pointer bytes) 0 i (101 - i)
    ∙ ap (λ (k : ℕ). rows_from bytes 0 i ++ rows_from bytes k (101 - i)) start
    ∙ ap (λ (l : List ℕ). rows_from bytes 0 i ++ l) (roots_split bytes i below)

same_rows_from : (first second : List ℕ) (a n : ℕ) → ((j : ℕ) → a ≤ j → j < a + n → name_length first j ≡ name_length second j) → rows_from first a n ≡ rows_from second a n
same_rows_from first second a zero same = refl
same_rows_from first second a (suc n) same =
    ap (λ (k : ℕ). cond (eqb k 0) [] ((root_place a + 32) ∷ []) ++ rows_from first (a + 1) n) (same a (omega arith) (omega arith))
    ∙ ap (λ (l : List ℕ). root_pointer second a ++ l) (same_rows_from first second (a + 1) n (λ j low high. same j (omega arith) (omega arith)))

beside_front : (low high start n : ℕ) (places : List ℕ) → high ≤ start → LieBetween low places high → AllByRecursion (IsBeside start n) places
beside_front low high start n [] h lie = tt
beside_front low high start n (at ∷ places) h lie =
    let order = lie_order (at + 4) high places lie.1 in
    (inl (omega arith), beside_front (at + 4) high start n places h lie.1)

beside_back : (low high start n : ℕ) (places : List ℕ) → start + n ≤ low → LieBetween low places high → AllByRecursion (IsBeside start n) places
beside_back low high start n [] h lie = tt
beside_back low high start n (at ∷ places) h lie =
    let least = lie.0 in
    (inr (omega arith), beside_back (at + 4) high start n places (omega arith) lie.1)

all_front : (P : ℕ → Type 0) (first second : List ℕ) → AllByRecursion P (first ++ second) → AllByRecursion P first
all_front P [] second all = tt
all_front P (at ∷ first) second all = (all.0, all_front P first second all.1)

all_behind : (P : ℕ → Type 0) (first second : List ℕ) → AllByRecursion P (first ++ second) → AllByRecursion P second
all_behind P [] second all = all
all_behind P (at ∷ first) second all = all_behind P first second all.1

-- ---- one row

-- the pointer of a row, by the length of its name
abbrev pointer_if : ℕ → ℕ → List ℕ
pointer_if length place = cond (eqb length 0) [] ((place + 32) ∷ [])

long_row : (pages : List (Option PageNo)) (row : List ℕ) → length row ≡ 40 → length (stored_root pages row) ≡ 40
long_row pages row long = elim (cases_eq (number_at 1 0 row) 0) [
  | inl free ↦ rw (eq-eqb _ 0 free) long
  | inr used ↦ rw (ne_eqb _ 0 used) (length-with_number 4 32 (stored_pointer pages (number_at 4 32 row)) row (omega arith) ∙ long)
]

-- the pointer of the row that was written is stored where it stands
row_stored : (pages : List (Option PageNo)) (place : ℕ) (row held : List ℕ) → length row ≡ 40 → place + 40 ≤ length held
    → with_pointers (stored_pointer pages) (pointer_if (number_at 1 0 row) place) (replaced place row held) ≡ replaced place (stored_root pages row) held
row_stored pages place row held long room = elim (cases_eq (number_at 1 0 row) 0) [
  | inl free ↦ rw (eq-eqb _ 0 free) refl
  | inr used ↦
      let f : ℕ → ℕ = stored_pointer pages in
      let value : ℕ = number_at 4 32 row in
      let size = length-bytes_low_first 0 4 (f value) in
      rw (ne_eqb _ 0 used)
      (ap (λ (v : ℕ). with_number 4 (place + 32) (f v) (replaced place row held)) (read_run 4 place 32 row held (omega arith) (omega arith))
      ∙ within_run place 32 (little_bytes 4 (f value)) row held (omega arith) (omega arith))
]

-- what the pointer of the row before was is lost with it
row_over : (change : ℕ → ℕ) (n place : ℕ) (row held : List ℕ) → length row ≡ 40 → place + 40 ≤ length held → replaced place row (with_pointers change (pointer_if n place) held) ≡ replaced place row held
row_over change n place row held long room = elim (cases_eq n 0) [
  | inl free ↦ rw (eq-eqb n 0 free) refl
  | inr used ↦
      let size = length-bytes_low_first 0 4 (change (number_at 4 (place + 32) held)) in
      rw (ne_eqb n 0 used) (over_run place 32 (little_bytes 4 (change (number_at 4 (place + 32) held))) row held (omega arith) (omega arith))
]

row_leads : (pages : List (Option PageNo)) (n place : ℕ) (row held : List ℕ) → length row ≡ 40 → place + 40 ≤ length held → LeadsToFrame pages (number_at 4 32 row) → AllByRecursion (Leads pages (replaced place row held)) (pointer_if n place)
row_leads pages n place row held long room leads = elim (cases_eq n 0) [
  | inl free ↦ rw (eq-eqb n 0 free) tt
  | inr used ↦ rw (ne_eqb n 0 used) (subst (λ (v : ℕ). v ≢ 0 → page_in pages (target v) ≢ None) (sym (read_run 4 place 32 row held (omega arith) (omega arith))) leads, tt)
]

-- ---- the page

-- the rows before the one that was written, that one, and the rows behind it
record Parts (i : ℕ) (row held new : List ℕ) : Type 0 where
  before : rows_from new 0 i ≡ rows_from held 0 i
  here : root_pointer new i ≡ pointer_if (number_at 1 0 row) (root_place i)
  behind : rows_from new (i + 1) (101 - (i + 1)) ≡ rows_from held (i + 1) (101 - (i + 1))

parts_of : (i : ℕ) (row held : List ℕ) → i < 101 → length row ≡ 40 → length held ≡ 4096 → Parts i row held (replaced (root_place i) row held)
parts_of i row held below long whole =
    let new : List ℕ = replaced (root_place i) row held in
    let none : root_place i + 0 ≡ root_place i = omega arith in
    record {
      before = same_rows_from new held 0 i (λ j low high. number_at-replaced_before 1 (root_place j) (root_place i) row held (omega arith) (omega arith));
      here = ap (λ (n : ℕ). pointer_if n (root_place i)) (ap (λ (p : ℕ). number_at 1 p new) (sym none) ∙ read_run 1 (root_place i) 0 row held (omega arith) (omega arith));
      behind = same_rows_from new held (i + 1) (101 - (i + 1)) (λ j low high. number_at-replaced_behind 1 (root_place j) (root_place i) row held (omega arith) (omega arith));
    }

new_places : (i : ℕ) (row held new : List ℕ) → i < 101 → Parts i row held new → root_pointers new ≡ rows_from held 0 i ++ (pointer_if (number_at 1 0 row) (root_place i) ++ rows_from held (i + 1) (101 - (i + 1)))
new_places i row held new below parts =
    three_parts new i below
    ∙ ap (λ (l : List ℕ). l ++ (root_pointer new i ++ rows_from new (i + 1) (101 - (i + 1)))) parts.before
    ∙ ap (λ (l : List ℕ). rows_from held 0 i ++ (l ++ rows_from new (i + 1) (101 - (i + 1)))) parts.here
    ∙ ap (λ (l : List ℕ). rows_from held 0 i ++ (pointer_if (number_at 1 0 row) (root_place i) ++ l)) parts.behind

lie_before : (held : List ℕ) (i : ℕ) → LieBetween 32 (rows_from held 0 i) (root_place i)
lie_before held i =
    let end : root_place (0 + i) ≡ root_place i = omega arith in
    subst (λ (n : ℕ). LieBetween 32 (rows_from held 0 i) n) end (lie_roots_from held 0 i)

lie_behind : (held : List ℕ) (i : ℕ) → i < 101 → LieBetween (root_place (i + 1)) (rows_from held (i + 1) (101 - (i + 1))) 4072
lie_behind held i below =
    let end : root_place (i + 1 + (101 - (i + 1))) ≡ 4072 = omega arith in
    subst (λ (n : ℕ). LieBetween (root_place (i + 1)) (rows_from held (i + 1) (101 - (i + 1))) n) end (lie_roots_from held (i + 1) (101 - (i + 1)))

-- the stored form of the page with the new row, with all pointers but the row's changed first
form_with : (pages : List (Option PageNo)) (i : ℕ) (row held : List ℕ) → i < 101 → length row ≡ 40 → length held ≡ 4096
    → with_pointers (stored_pointer pages) (root_pointers (replaced (root_place i) row held)) (replaced (root_place i) row held)
    ≡ replaced (root_place i) (stored_root pages row) (with_pointers (stored_pointer pages) (root_pointers held) held)
form_with pages i row held below long whole =
    let f : ℕ → ℕ = stored_pointer pages in
    let place : ℕ = root_place i in
    let new : List ℕ = replaced place row held in
    let stored : List ℕ = stored_root pages row in
    let size : length stored ≡ 40 = long_row pages row long in
    let front : List ℕ = rows_from held 0 i in
    let back : List ℕ = rows_from held (i + 1) (101 - (i + 1)) in
    let here : List ℕ = pointer_if (number_at 1 0 row) place in
    let old : List ℕ = pointer_if (name_length held i) place in
    let lie_front : LieBetween 32 front place = lie_before held i in
    let lie_back : LieBetween (root_place (i + 1)) back 4072 = lie_behind held i below in
    let mid : List ℕ = with_pointers f front held in
    let kept = keeps f 32 place front held lie_front (omega arith) in
    let mid_long : length mid ≡ 4096 = kept.long ∙ whole in
    let lie_old : LieBetween place old (root_place (i + 1)) = lie_root held i in
    let kept_old = keeps f place (root_place (i + 1)) old mid lie_old (omega arith) in
    let old_long : length (with_pointers f old mid) ≡ 4096 = kept_old.long ∙ mid_long in
    let at_front : with_pointers f front new ≡ replaced place row mid =
    beside_all f 32 place place front row held lie_front (omega arith) (omega arith) (beside_front 32 place place (length row) front (omega arith) lie_front) in
    let at_back : (bytes : List ℕ) → length bytes ≡ 4096 → with_pointers f back (replaced place stored bytes) ≡ replaced place stored (with_pointers f back bytes) =
    λ bytes full. beside_all f (root_place (i + 1)) 4072 place back stored bytes lie_back (omega arith) (omega arith) (beside_back (root_place (i + 1)) 4072 place (length stored) back (omega arith) lie_back) in
    ap (λ (l : List ℕ). with_pointers f l new) (new_places i row held new below (parts_of i row held below long whole))
    ∙ changed_append f front (here ++ back) new
    ∙ ap (with_pointers f (here ++ back)) at_front
    ∙ changed_append f here back (replaced place row mid)
    ∙ ap (with_pointers f back) (row_stored pages place row mid long (omega arith) ∙ sym (row_over f (name_length held i) place stored mid size (omega arith)))
    ∙ at_back (with_pointers f old mid) old_long
    ∙ ap (replaced place stored) (sym (changed_append f old back mid) ∙ sym (changed_append f front (old ++ back) held) ∙ ap (λ (l : List ℕ). with_pointers f l held) (sym (three_parts held i below)))

leads_with : (pages : List (Option PageNo)) (i : ℕ) (row held : List ℕ) → i < 101 → length row ≡ 40 → length held ≡ 4096 → LeadsToFrame pages (number_at 4 32 row) → AllByRecursion (Leads pages held) (root_pointers held)
    → AllByRecursion (Leads pages (replaced (root_place i) row held)) (root_pointers (replaced (root_place i) row held))
leads_with pages i row held below long whole leads all =
    let place : ℕ = root_place i in
    let new : List ℕ = replaced place row held in
    let front : List ℕ = rows_from held 0 i in
    let back : List ℕ = rows_from held (i + 1) (101 - (i + 1)) in
    let here : List ℕ = pointer_if (number_at 1 0 row) place in
    let old : List ℕ = root_pointer held i in
    let parted : AllByRecursion (Leads pages held) (front ++ (old ++ back)) = subst (AllByRecursion (Leads pages held)) (three_parts held i below) all in
    let lie_front : LieBetween 32 front place = lie_before held i in
    let lie_back : LieBetween (root_place (i + 1)) back 4072 = lie_behind held i below in
    let first = leads_beside pages place 32 place row held front (omega arith) lie_front (omega arith) (beside_front 32 place place (length row) front (omega arith) lie_front) (all_front (Leads pages held) front (old ++ back) parted) in
    let last = leads_beside pages place (root_place (i + 1)) 4072 row held back (omega arith) lie_back (omega arith) (beside_back (root_place (i + 1)) 4072 place (length row) back (omega arith) lie_back)
    (all_behind (Leads pages held) old back (all_behind (Leads pages held) front (old ++ back) parted)) in
    subst (AllByRecursion (Leads pages new)) (sym (new_places i row held new below (parts_of i row held below long whole)))
    (all_both (Leads pages new) front (here ++ back) first (all_both (Leads pages new) here back (row_leads pages (number_at 1 0 row) place row held long (omega arith) leads) last))

pub puts_root : (pages : List (Option PageNo)) (schema : Schema) (i : ℕ) (row held : List ℕ) → IsResidentPage pages schema 9 held → i < 101 → length row ≡ 40 → LeadsToFrame pages (number_at 4 32 row)
    → StoresAs pages schema 9 (replaced (root_place i) row held) (replaced (root_place i) (stored_root pages row) (stored_form pages schema 9 held))
puts_root pages schema i row held is below long leads =
    let whole = is.whole in
    let new : List ℕ = replaced (root_place i) row held in
    let new_long = length-replaced_within (root_place i) row held (omega arith) in
    record {
      form = form_with pages i row held below long is.whole;
      resident = record {
        whole = new_long ∙ is.whole;
        lie = lie_higher 32 4072 4096 (root_pointers new) (omega arith) (lie_roots new);
        frames = leads_with pages i row held below long is.whole leads is.frames;
      };
    }
