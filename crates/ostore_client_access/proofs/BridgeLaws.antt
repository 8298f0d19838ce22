-- Bytes that are put beside the cells of a page are put beside its pointers.
use Rattle.std.proofs.Common.{◌≡◌, ◌≢◌, ◌⊎◌, ℕ, zero, suc, ◌+◌, ◌-◌, ◌*◌, ◌<◌, ◌≤◌, ◌&&◌, ◌||◌, Bool, true, false, eqb, leb, List, [], ◌∷◌, ◌++◌, length, get_or, Some, None, refl, sym, ap, subst, ◌∙◌, arith, inl, inr}
use Rattle.std.specs.List.{All, AllPairs, AllByRecursion}
use Rattle.std.proofs.lemmas.Bool.{ne_eqb, leb-true, and_parts, false≢true}
use Rattle.std.proofs.lemmas.List.{append-nil}
use Rattle.std.proofs.lemmas.List.Elements.{All-append}
use Rattle.ostore_base.specs.Disk.{replaced}
use Rattle.ostore_schema_layout.specs.declared.schema.Schema.{Schema}
use Rattle.ostore_schema_layout.specs.Cells.{HasCode, code_size}
use Rattle.ostore_page_tags.specs.Header.{header_of}
use Rattle.ostore_page_tags.specs.Cells.{Cell, cells_of}
use Rattle.ostore_page_tags.specs.Rules.{is_chunk_code}
use Rattle.ostore_relocation.specs.Places.{IsBeside, LieBetween, holds_objects, page_pointers}
use Rattle.ostore_relocation.specs.Forms.{pointers_end}
use Rattle.ostore_relocation.specs.Fitness.{IsCellOf}
use Rattle.ostore_relocation.specs.Stores.{AreZeros, PutsBeside}
use Rattle.ostore_relocation.proofs.FormLaws.{pages_of_cells, pages_of_none}
use Rattle.ostore_segments.specs.SchemaCells.{is_told, size_told}
use Rattle.ostore_segments.specs.Edits.{IsBesideCell, KeepsCells, KeepsKind, PutsBesideCells}
use Rattle.ostore_client_core.specs.Cells.{AreCellsOf, HasCellsOf}
use Rattle.ostore_client_access.proofs.CellPointers.{cells_counted, pointers_in, pointers_are, pointers_append, lie_cells, beside_cells, all_last, last_zeros}

-- ---- codes whose size is told

or_parts : (a b : Bool) → (a || b) ≡ true → (a ≡ true) ⊎ (b ≡ true)
or_parts true b is = inl refl
or_parts false b is = inr is

told_as : (schema : Schema) (code n : ℕ) (b : Bool) → is_told schema code ≡ b → size_told schema code ≡ Some n → HasCode schema code × (n ≡ code_size schema code)
told_as schema code n true is told =
    let some : size_told schema code ≡ Some (code_size schema code) = rw is refl in (
      elim (or_parts (leb 1 code && leb code (length schema.types)) (is_chunk_code code) is) [
        | inl types ↦ let parts = and_parts (leb 1 code) (leb code (length schema.types)) types in inl (leb-true 1 code parts.0, leb-true code (length schema.types) parts.1)
        | inr chunk ↦ let parts = and_parts (leb 240 code) (leb code 246) chunk in inr (leb-true 240 code parts.0, leb-true code 246 parts.1)
      ],
      (let same : Some n ≡ Some (code_size schema code) = sym told ∙ some in cc),
    )
told_as schema code n false is told = absurd (let none : size_told schema code ≡ None = rw is refl in let same : Some n ≡ None = sym told ∙ none in cc)

pub told_code : (schema : Schema) (code n : ℕ) → size_told schema code ≡ Some n → HasCode schema code × (n ≡ code_size schema code)
told_code schema code n told = told_as schema code n (is_told schema code) refl told

-- ---- the cells after a put

-- the cells that are added, whose pointers are 0
pub record Gains (schema : Schema) (old new : List ℕ) : Type 0 where
  pub extra : List Cell
  pub cells : cells_of new ≡ cells_of old ++ extra
  pub zeros : AreZeros new (pointers_in schema extra)
  pub are : AreCellsOf schema new

same_cells : (schema : Schema) (old new : List ℕ) → AreCellsOf schema old → cells_of new ≡ cells_of old → AreCellsOf schema new
same_cells schema old new are same =
    let rows : (header_of new).rows ≡ (header_of old).rows = sym (cells_counted new) ∙ ap (λ (l : List Cell). length l) same ∙ cells_counted old in
    record {
      sized = subst (All (IsCellOf schema)) (sym same) are.sized;
      behind = subst (All (λ (cell : Cell). 32 ≤ cell.row.offset)) (sym same) are.behind;
      before = subst (λ (n : ℕ). All (λ (cell : Cell). cell.row.offset + length cell.bytes ≤ 4096 - 8 * n) (cells_of new)) (sym rows)
          (subst (All (λ (cell : Cell). cell.row.offset + length cell.bytes ≤ 4096 - 8 * (header_of old).rows)) (sym same) are.before);
      apart = subst (AllPairs (λ (cell : Cell) (later : Cell). cell.row.offset + length cell.bytes ≤ later.row.offset)) (sym same) are.apart;
    }

one_of : (schema : Schema) (cell : Cell) → size_told schema cell.row.code ≡ Some (length cell.bytes) → IsCellOf schema cell
one_of schema cell told = λ live. told_code schema cell.row.code (length cell.bytes) told

only : (P : Cell → Type 0) (cell : Cell) → P cell → All P (cell ∷ [])
only P cell is = λ k d below. at k d below
  where
    at : (k : ℕ) (d : Cell) → k < 1 → P (get_or (cell ∷ []) k d)
    at zero d below = is
    at (suc k) d below = absurd (omega arith)

gains : (schema : Schema) (old new : List ℕ) → AreCellsOf schema old → KeepsCells (size_told schema) old new → Gains schema old new
gains schema old new are (inl same) = record { extra = []; cells = same ∙ sym (append-nil (cells_of old)); zeros = tt; are = same_cells schema old new are same }
gains schema old new are (inr (cell, adds)) =
    let within = all_last (λ (c : Cell). c.row.offset + length c.bytes ≤ (header_of new).end) (cells_of old) cell (subst (All (λ (c : Cell). c.row.offset + length c.bytes ≤ (header_of new).end)) adds.cells adds.apart.within) in
    let room = adds.room in
    record {
      extra = cell ∷ [];
      cells = adds.cells;
      zeros = last_zeros schema new (cells_of old) cell adds.cells (one_of schema cell adds.size) adds.zeros within;
      are = record {
        sized = subst (All (IsCellOf schema)) (sym adds.cells) (All-append (IsCellOf schema) (cells_of old) (cell ∷ []) are.sized (only (IsCellOf schema) cell (one_of schema cell adds.size)));
        behind = adds.apart.behind;
        before = λ k d below. (let end = adds.apart.within k d below in omega arith);
        apart = adds.apart.apart;
      };
    }

-- ---- where the pointers of a page lie

rows_room : (schema : Schema) (bytes : List ℕ) (cells : List Cell) → cells_of bytes ≡ cells → AreCellsOf schema bytes → 32 ≤ 4096 - 8 * (header_of bytes).rows
rows_room schema bytes [] same are = (let none : 0 ≡ (header_of bytes).rows = ap (λ (l : List Cell). length l) (sym same) ∙ cells_counted bytes in omega arith)
rows_room schema bytes (cell ∷ cells) same are =
    let low : 32 ≤ cell.row.offset = (subst (All (λ (c : Cell). 32 ≤ c.row.offset)) same are.behind) 0 cell (omega arith) in
    let high = (subst (All (λ (c : Cell). c.row.offset + length c.bytes ≤ 4096 - 8 * (header_of bytes).rows)) same are.before) 0 cell (omega arith) in
    omega arith

pub opened : (page : ℕ) (bytes : List ℕ) → holds_objects page bytes ≡ true → 10 ≤ page
opened page bytes is = leb-true 10 page (and_parts (leb 10 page) (eqb (header_of bytes).kind 2) is).0

lie_as : (schema : Schema) (page : ℕ) (bytes : List ℕ) (holds : Bool) → holds_objects page bytes ≡ holds → page ≢ 9 → HasCellsOf schema page bytes → LieBetween 32 (page_pointers schema page bytes) (pointers_end page bytes)
lie_as schema page bytes true is apart has =
    let are : AreCellsOf schema bytes = has (opened page bytes is) in
    let places : page_pointers schema page bytes ≡ pointers_in schema (cells_of bytes) = pages_of_cells schema page bytes (ne_eqb page 9 apart) is ∙ pointers_are schema bytes in
    let end : pointers_end page bytes ≡ 4096 - 8 * (header_of bytes).rows = rw is refl in
    subst (λ (n : ℕ). LieBetween 32 (page_pointers schema page bytes) n) (sym end) (subst (λ (l : List ℕ). LieBetween 32 l (4096 - 8 * (header_of bytes).rows)) (sym places)
    (lie_cells schema 32 (4096 - 8 * (header_of bytes).rows) (cells_of bytes) (rows_room schema bytes (cells_of bytes) refl are) are.sized are.behind are.before are.apart))
lie_as schema page bytes false is apart has =
    let none : page_pointers schema page bytes ≡ [] = pages_of_none schema page bytes (ne_eqb page 9 apart) is in
    let end : pointers_end page bytes ≡ 4096 = rw is refl in
    subst (λ (n : ℕ). LieBetween 32 (page_pointers schema page bytes) n) (sym end) (subst (λ (l : List ℕ). LieBetween 32 l 4096) (sym none) (omega arith))

pub lie_page : (schema : Schema) (page : ℕ) (bytes : List ℕ) → page ≢ 9 → HasCellsOf schema page bytes → LieBetween 32 (page_pointers schema page bytes) (pointers_end page bytes)
lie_page schema page bytes apart has = lie_as schema page bytes (holds_objects page bytes) refl apart has

-- ---- the pointers after a put

-- the pointers that are added are 0
record Adds (schema : Schema) (page : ℕ) (old new : List ℕ) : Type 0 where
  pub added : List ℕ
  pub places : page_pointers schema page new ≡ page_pointers schema page old ++ added
  pub zeros : AreZeros new added

holds_same : (page : ℕ) (old new : List ℕ) → (header_of new).kind ≡ (header_of old).kind → holds_objects page new ≡ holds_objects page old
holds_same page old new same = ap (λ (k : ℕ). leb 10 page && eqb k 2) same

adds_as : (schema : Schema) (page : ℕ) (old new : List ℕ) (before after : Bool) → holds_objects page old ≡ before → holds_objects page new ≡ after → page ≢ 9 → (10 ≤ page → Gains schema old new) → KeepsKind old new → Adds schema page old new
adds_as schema page old new false false was is apart gain kind = record {
  added = [];
  places = pages_of_none schema page new (ne_eqb page 9 apart) is ∙ sym (pages_of_none schema page old (ne_eqb page 9 apart) was) ∙ sym (append-nil (page_pointers schema page old));
  zeros = tt;
}
adds_as schema page old new true true was is apart gain kind =
    let g = gain (opened page new is) in
    record {
      added = pointers_in schema g.extra;
      places =
          pages_of_cells schema page new (ne_eqb page 9 apart) is ∙ pointers_are schema new ∙ ap (pointers_in schema) g.cells ∙ pointers_append schema (cells_of old) g.extra
          ∙ ap (λ (l : List ℕ). l ++ pointers_in schema g.extra) (sym (pages_of_cells schema page old (ne_eqb page 9 apart) was ∙ pointers_are schema old));
      zeros = g.zeros;
    }
adds_as schema page old new true false was is apart gain (inl same) = absurd (false≢true (sym is ∙ holds_same page old new same ∙ was))
adds_as schema page old new true false was is apart gain (inr none) = record {
  added = [];
  places =
      pages_of_none schema page new (ne_eqb page 9 apart) is
      ∙ sym (pages_of_cells schema page old (ne_eqb page 9 apart) was ∙ pointers_are schema old ∙ ap (pointers_in schema) none) ∙ sym (append-nil (page_pointers schema page old));
  zeros = tt;
}
adds_as schema page old new false true was is apart gain (inl same) = absurd (false≢true (sym was ∙ sym (holds_same page old new same) ∙ is))
adds_as schema page old new false true was is apart gain (inr none) =
    let g = gain (opened page new is) in
    record {
      added = pointers_in schema g.extra;
      places =
          pages_of_cells schema page new (ne_eqb page 9 apart) is ∙ pointers_are schema new ∙ ap (pointers_in schema) (g.cells ∙ ap (λ (l : List Cell). l ++ g.extra) none)
          ∙ ap (λ (l : List ℕ). l ++ pointers_in schema g.extra) (sym (pages_of_none schema page old (ne_eqb page 9 apart) was));
      zeros = g.zeros;
    }

beside_as : (schema : Schema) (page at n : ℕ) (bytes : List ℕ) (holds : Bool) → holds_objects page bytes ≡ holds → page ≢ 9 → HasCellsOf schema page bytes → All (IsBesideCell at n) (cells_of bytes) → AllByRecursion (IsBeside at n) (page_pointers schema page bytes)
beside_as schema page at n bytes true is apart has beside =
    subst (AllByRecursion (IsBeside at n)) (sym (pages_of_cells schema page bytes (ne_eqb page 9 apart) is ∙ pointers_are schema bytes)) (beside_cells schema at n (cells_of bytes) (has (opened page bytes is)).sized beside)
beside_as schema page at n bytes false is apart has beside = subst (AllByRecursion (IsBeside at n)) (sym (pages_of_none schema page bytes (ne_eqb page 9 apart) is)) tt

-- what a put beside the cells is: one beside the pointers, after which the cells are still the schema's
pub record IsPut (schema : Schema) (page at : ℕ) (bytes old : List ℕ) : Type 0 where
  pub puts : PutsBeside schema page at bytes old
  pub cells : HasCellsOf schema page (replaced at bytes old)

pub put_of_cells : (schema : Schema) (page at : ℕ) (bytes old : List ℕ) → page ≢ 9 → HasCellsOf schema page old → PutsBesideCells (size_told schema) at bytes old → IsPut schema page at bytes old
put_of_cells schema page at bytes old apart has put =
    let new : List ℕ = replaced at bytes old in
    let gain : 10 ≤ page → Gains schema old new = λ ten. gains schema old new (has ten) put.cells in
    let cells : HasCellsOf schema page new = λ ten. (gain ten).are in
    let adds = adds_as schema page old new (holds_objects page old) (holds_objects page new) refl refl apart gain put.kind in
    let rows = put.rows in
    record {
      puts = record {
        within = omega arith;
        beside = beside_as schema page at (length bytes) old (holds_objects page old) refl apart has put.beside;
        added = adds.added;
        places = adds.places;
        zeros = adds.zeros;
        lie = lie_page schema page new apart cells;
      };
      cells = cells;
    }
