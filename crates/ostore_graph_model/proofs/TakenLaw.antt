-- A segment gets a page from the free list: the pages stay valid, and stand for the same graph.
use Rattle.std.proofs.Common.{◌≡◌, ℕ, ◌/◌, ◌%◌, ◌<◌, ◌≤◌, Bool, true, false, cond, eqb, List, [], ◌∷◌, ◌++◌, length, refl, sym, ap, ap₂, subst, ◌∙◌, arith, Option, None, inl, inr}
use Rattle.std.specs.List.{slice_get, find, Contains}
use Rattle.std.specs.Option.{option_map, option_and_then}
use Rattle.std.proofs.lemmas.Bool.{cases_eq, cases_lt, ne_eqb, lt-leb, le-leb}
use Rattle.ostore_base.specs.declared.page.PageImage.{PageImage}
use Rattle.ostore_page_tags.specs.Header.{header_of}
use Rattle.ostore_page_tags.specs.Cells.{Cell, cells_of}
use Rattle.ostore_page_tags.specs.declared.page_header.PageHeader.{PageHeader}
use Rattle.ostore_graph_model.specs.Addresses.{PlacedCell, placed, begins_at, cell_in, cell_at}
use Rattle.ostore_page_tags.specs.PageLists.{bytes_at, header_at, first_of, schema_length, schema_text}
use Rattle.ostore_page_tags.specs.PageChains.{IsWalk, IsSegment, IsOpen}
use Rattle.ostore_page_tags.specs.Allocated.{IsAllocated}
use Rattle.ostore_graph_model.specs.FixedPages.{roots_of, first_page, serial_of}
use Rattle.ostore_graph_model.specs.PageEdits.{counter_of, HasChain, TakesPage}
use Rattle.std.proofs.lemmas.List.Elements.{All-contains, Contains-append_left}
use Rattle.std.proofs.Common.{zero, suc}
use Rattle.ostore_schema_layout.specs.Limits.{longest_schema}
use Rattle.ostore_schema_layout.specs.Spells.{Spells}
use Rattle.std.proofs.Common.{take, drop}
use Rattle.ostore_page_tags.specs.Numbers.{number_at}
use Rattle.ostore_graph_model.specs.LawsOfMeaning.{LawOfTakenPages}
use Rattle.ostore_graph_model.specs.PageEdits.{ReadsSame}
use Rattle.ostore_page_tags.proofs.allocation.ChainLaws.{here, later}
use Rattle.ostore_graph_model.proofs.AllocationLaws.{schema_bytes_same, free_page, no_cells}
use Rattle.ostore_graph_model.proofs.PageLaws.{first_is, first_within}
use Rattle.ostore_graph_model.proofs.SameLaws.{same_law}

-- a page without cells has none at any place
none_in : (bytes : List ℕ) (o : ℕ) → cells_of bytes ≡ [] → cell_in bytes o ≡ None
unfolding cell_in
none_in bytes o empty =
    ap (λ (cells : List Cell). cond (eqb (header_of bytes).kind 2) (option_map (placed (header_of bytes).segment) (find (begins_at o) cells)) None) empty
    ∙ by (eqb (header_of bytes).kind 2)
  where
    by : (b : Bool) → cond {A = Option PlacedCell} b None None ≡ None
    by true = refl
    by false = refl

-- where the kind, the segment and the cells are the same, so is the cell at each place
cell_in-same : (old new : List ℕ) (o : ℕ) → (header_of new).kind ≡ (header_of old).kind → (header_of new).segment ≡ (header_of old).segment → cells_of new ≡ cells_of old → cell_in new o ≡ cell_in old o
unfolding cell_in
cell_in-same old new o kind segment cells = λ i. cond (eqb (kind i) 2) (option_map (placed (segment i)) (find (begins_at o) (cells i))) None

pub read_page : (pages : List PageImage) (p o : ℕ) → p < length pages → option_and_then (λ (image : PageImage). cell_in image.bytes o) (slice_get pages p) ≡ cell_in (bytes_at pages p) o
read_page [] p o below = absurd (omega arith)
read_page (page ∷ pages) zero o below = refl
read_page (page ∷ pages) (suc p) o below = read_page pages p o (omega arith)

pub none_page : (pages : List PageImage) (p : ℕ) → length pages ≤ p → slice_get pages p ≡ None
none_page [] p high = refl
none_page (page ∷ pages) zero high = absurd (omega arith)
none_page (page ∷ pages) (suc p) high = none_page pages p (omega arith)

-- the cell at an address, where its page's bytes give the same at that place
pub cell_at-same : (old new : List PageImage) (address : ℕ) → length new ≡ length old
    → (10 ≤ address / 4096 → address / 4096 < length old → cell_in (bytes_at new (address / 4096)) (address % 4096) ≡ cell_in (bytes_at old (address / 4096)) (address % 4096))
    → cell_at new address ≡ cell_at old address
unfolding cell_at
cell_at-same old new address count same =
    let p : ℕ = address / 4096 in
    let o : ℕ = address % 4096 in
    elim (cases_lt p 10) [
      | inl low ↦ ap (λ b. option_and_then (λ (image : PageImage). cell_in image.bytes o) (cond b (slice_get new p) None)) (lt-leb 10 p low) ∙ ap (λ b. option_and_then (λ (image : PageImage). cell_in image.bytes o) (cond b (slice_get old p) None)) (sym (lt-leb 10 p low))
      | inr high ↦
          ap (λ b. option_and_then (λ (image : PageImage). cell_in image.bytes o) (cond b (slice_get new p) None)) (le-leb 10 p high)
          ∙ elim (cases_lt p (length old)) [
            | inl below ↦ read_page new p o (omega arith) ∙ same high below ∙ sym (read_page old p o below)
            | inr beyond ↦ ap (option_and_then (λ (image : PageImage). cell_in image.bytes o)) (none_page new p (omega arith) ∙ sym (none_page old p beyond))
          ]
          ∙ ap (λ b. option_and_then (λ (image : PageImage). cell_in image.bytes o) (cond b (slice_get old p) None)) (sym (le-leb 10 p high))
    ]

-- a walk is one list
same_walk : (header : ℕ → PageHeader) (from to : ℕ) (a b : List ℕ) → from ≡ to → IsWalk header from a → IsWalk header to b → ((p : ℕ) → Contains a p → 10 ≤ p) → ((p : ℕ) → Contains b p → 10 ≤ p) → a ≡ b
same_walk header from to [] [] same one two la lb = refl
same_walk header from to [] (q ∷ qs) same one two la lb = absurd (let low = lb q (here q qs) in let e = two.0 in omega arith)
same_walk header from to (p ∷ ps) [] same one two la lb = absurd (let low = la p (here p ps) in let e = one.0 in omega arith)
same_walk header from to (p ∷ ps) (q ∷ qs) same one two la lb =
    let pages : p ≡ q = sym one.0 ∙ same ∙ two.0 in
    let rest = same_walk header (header p).next (header q).next ps qs (ap (λ (n : ℕ). (header n).next) pages) one.1 two.1 (λ n there. la n (later n p ps there)) (λ n there. lb n (later n q qs there)) in
    ap₂ (λ (n : ℕ) (ns : List ℕ). n ∷ ns) pages rest

abbrev InPage : List PageImage → ℕ → ℕ → Type 0
InPage list segment p = (10 ≤ p) × (p < length list) × ((header_at list p).kind ≡ 2) × ((header_at list p).segment ≡ segment)

in_chain : (list : List PageImage) (segment p : ℕ) (chain : List ℕ) → HasChain list segment chain → Contains chain p → InPage list segment p
in_chain list segment p chain has there =
    let within = All-contains (IsOpen (length list)) chain p has.pages there in
    (within.0, within.1, All-contains (λ (q : ℕ). (header_at list q).kind ≡ 2) chain p has.kinds there, All-contains (λ (q : ℕ). (header_at list q).segment ≡ segment) chain p has.owner there)

module _ (old new : List PageImage) (segment page : ℕ) (grows : TakesPage old new segment page) (fine : IsAllocated old) where
  -- a page of a segment is one of it still
  page_kept : (s p : ℕ) → IsSegment s → Contains (fine.chains.1 s) p → InPage old s p × InPage new s p
  page_kept s p within there =
      let was = fine.chains.2.chains s within in
      let old_page : InPage old s p = in_chain old s p (fine.chains.1 s) was there in (
        old_page,
        elim (cases_eq s segment) [
          | inl same ↦
              let it = grows.chain in
              let known : HasChain old s it.0 = subst (λ (n : ℕ). HasChain old n it.0) (sym same) it.1 in
              let made : HasChain new s (it.0 ++ page ∷ []) = subst (λ (n : ℕ). HasChain new n (it.0 ++ page ∷ [])) (sym same) it.2 in
              let one : fine.chains.1 s ≡ it.0 = same_walk (header_at old) _ _ (fine.chains.1 s) it.0 refl was.walk known.walk
              (λ q in_. (in_chain old s q (fine.chains.1 s) was in_).0) (λ q in_. (in_chain old s q it.0 known in_).0) in
              in_chain new s p (it.0 ++ page ∷ []) made (Contains-append_left it.0 (page ∷ []) p (subst (λ (xs : List ℕ). Contains xs p) one there))
          | inr apart ↦ in_chain new s p (fine.chains.1 s) (grows.others s (fine.chains.1 s) within apart was) there
        ],
      )

  same_in : (p o : ℕ) → 10 ≤ p → p < length old → cell_in (bytes_at new p) o ≡ cell_in (bytes_at old p) o
  unfolding header_at
  same_in p o low below = elim (fine.chains.2.reached p (low, below)) [
    | inl free ↦
        let is = All-contains (λ (q : ℕ). (header_at old q).kind ≡ 1) fine.chains.0 p fine.chains.2.free_list.kinds free in
        let empty = no_cells (bytes_at old p) (free_page old p fine low below is).header.rows in
        none_in (bytes_at new p) o (grows.cells p ∙ empty) ∙ sym (none_in (bytes_at old p) o empty)
    | inr owned ↦
        let kept = page_kept owned.0 p owned.1 owned.2 in
        cell_in-same (bytes_at old p) (bytes_at new p) o (kept.1.2 ∙ sym kept.0.2) (kept.1.3 ∙ sym kept.0.3) (grows.cells p)
  ]

  same_cells : (address : ℕ) → cell_at new address ≡ cell_at old address
  same_cells address = cell_at-same old new address grows.count (λ low below. same_in (address / 4096) (address % 4096) low below)

-- the counter of a segment, in the words of the pages' layer
pub serial_is : (list : List PageImage) (s : ℕ) → IsAllocated list → IsSegment s → serial_of list s ≡ counter_of list s
unfolding serial_of
serial_is list s fine within = elim (cases_eq (first_page list s) 0) [
  | inl none ↦
      let at : first_of list s ≡ 0 = sym (first_is list s within) ∙ none in
      ap (λ (p : ℕ). cond (eqb p 0) 0 (header_at list p).last_serial) none
      ∙ sym (ap (λ (p : ℕ). (header_at list p).last_serial) at ∙ fine.chains.2.counters 0 (inl refl) (λ other in_ e. refl))
  | inr some ↦
      ap (λ b. cond b 0 (header_at list (first_page list s)).last_serial) (ne_eqb _ _ some)
      ∙ ap (λ (p : ℕ). (header_at list p).last_serial) (first_is list s within)
]

serial_none : (list : List PageImage) (s : ℕ) → (IsSegment s → ⊥) → serial_of list s ≡ 0
unfolding serial_of
serial_none list s never = elim (cases_eq (first_page list s) 0) [
  | inl none ↦ ap (λ (p : ℕ). cond (eqb p 0) 0 (header_at list p).last_serial) none
  | inr some ↦ absurd (never (first_within list s some))
]

pub serials_same : (old new : List PageImage) → IsAllocated old → IsAllocated new → ((s : ℕ) → IsSegment s → counter_of new s ≡ counter_of old s) → serial_of new ≡ serial_of old
serials_same old new fine now same = λ i s. at s i
  where
    at : (s : ℕ) → serial_of new s ≡ serial_of old s
    at s = elim (cases_lt s 1) [
      | inl low ↦ serial_none new s (λ within. let one = within.0 in omega arith) ∙ sym (serial_none old s (λ within. let one = within.0 in omega arith))
      | inr some ↦ elim (cases_lt 255 s) [
        | inl high ↦ serial_none new s (λ within. let most = within.1 in omega arith) ∙ sym (serial_none old s (λ within. let most = within.1 in omega arith))
        | inr most ↦ serial_is new s now (some, most) ∙ same s (some, most) ∙ sym (serial_is old s fine (some, most))
      ]
    ]

roots_same : (old new : List PageImage) → ((p : ℕ) → 1 ≤ p → p ≤ 9 → bytes_at new p ≡ bytes_at old p) → roots_of new ≡ roots_of old
unfolding roots_of
roots_same old new fixed = rw (fixed 9 (omega arith) (omega arith)) refl

schema_text_same : (old new : List PageImage) → ((p : ℕ) → 1 ≤ p → p ≤ 9 → bytes_at new p ≡ bytes_at old p) → schema_text new ≡ schema_text old
schema_text_same old new fixed = ap (λ (bytes : List ℕ). take (number_at 4 0 bytes) (drop 4 bytes)) (schema_bytes_same old new fixed)

-- the law: the same graph, and valid pages
pub taken_reads : (old new : List PageImage) (segment page : ℕ) → IsAllocated old → TakesPage old new segment page → ReadsSame old new
taken_reads old new segment page fine takes = record {
  cells = same_cells old new segment page takes fine;
  roots = roots_same old new takes.fixed;
  serials = serials_same old new fine takes.allocated takes.counters;
}

pub taken_law : LawOfTakenPages
taken_law schema old new segment page graph takes holds =
    same_law schema old new graph (taken_reads old new segment page holds.pages_kept.allocated takes)
    (record { allocated = takes.allocated; fits = subst (λ n. n ≤ longest_schema) (sym (ap schema_length (schema_bytes_same old new takes.fixed))) holds.pages_kept.fits; spelled = subst (λ text. Spells text schema) (sym (schema_text_same old new takes.fixed)) holds.pages_kept.spelled })
    holds
