-- The rules on pages, where some of them change.
use Rattle.std.proofs.Common.{◌≡◌, ◌≢◌, ℕ, ◌<◌, ◌≤◌, ◌⊎◌, List, [], length, refl, sym, subst, arith, inl, inr}
use Rattle.ostore_base.specs.declared.page.PageImage.{PageImage}
use Rattle.ostore_page_tags.specs.Header.{header_of}
use Rattle.ostore_page_tags.specs.Cells.{cells_of}
use Rattle.ostore_page_tags.specs.Rules.{IsPage}
use Rattle.ostore_page_tags.proofs.parts.CellLaws.{cells_are}
use Rattle.ostore_page_tags.proofs.shape.PageShape.{IsPage-shape, end_in}
use Rattle.ostore_page_tags.proofs.allocation.ChainLaws.{IsOwned, chain_first}
use Rattle.ostore_page_tags.specs.PageLists.{bytes_at, header_at, first_of, schema_bytes}
use Rattle.ostore_page_tags.specs.PageChains.{IsSegment, IsOpen, AreChained}
use Rattle.ostore_page_tags.specs.Allocated.{IsAllocated, IsFront, IsFreePage, IsRoots, EndsInZeros}

-- ---- lists of pages

pub first_of_chain : (list : List PageImage) (segment : ℕ) → IsAllocated list → IsSegment segment → first_of list segment ≢ 0 → IsOwned (length list) (header_at list) segment (first_of list segment)
first_of_chain list segment fine within some =
    let chains = fine.chains in
    chain_first (length list) (header_at list) (first_of list segment) segment (chains.1 segment) (chains.2.chains segment within) some

pub schema_bytes_same : (old new : List PageImage) → ((page : ℕ) → 1 ≤ page → page ≤ 9 → bytes_at new page ≡ bytes_at old page) → schema_bytes new ≡ schema_bytes old
unfolding schema_bytes
schema_bytes_same old new same =
    rw (same 1 (omega arith) (omega arith), same 2 (omega arith) (omega arith), same 3 (omega arith) (omega arith), same 4 (omega arith) (omega arith), same 5 (omega arith) (omega arith), same 6 (omega arith) (omega arith), same 7 (omega arith) (omega arith), same 8 (omega arith) (omega arith)) refl

pub allocated_kept : (old new : List PageImage) → IsAllocated old → ((page : ℕ) → 1 ≤ page → page ≤ 9 → bytes_at new page ≡ bytes_at old page) → length new ≡ length old → ((page : ℕ) → page < length old → length (bytes_at new page) ≡ 4096) → IsFront (bytes_at new 0)
    → ((page : ℕ) → IsOpen (length old) page → IsFreePage (bytes_at new page) ⊎ IsPage (bytes_at new page))
    → ((free : List ℕ) × (chain : ℕ → List ℕ) × AreChained (length old) (header_at new) (first_of new) free chain) → IsAllocated new
allocated_kept old new fine fixed count whole front others chains =
    let least = fine.least in
    let most = fine.most in
    record {
      least = omega arith;
      most = omega arith;
      whole = λ page below. whole page (omega arith);
      front = front;
      schema = subst EndsInZeros (sym (schema_bytes_same old new fixed)) fine.schema;
      roots = subst IsRoots (sym (fixed 9 (omega arith) (omega arith))) fine.roots;
      others = λ page within. others page (within.0, (let below = within.1 in omega arith));
      chains = (chains.0, chains.1, subst (λ (n : ℕ). AreChained n (header_at new) (first_of new) chains.0 chains.1) (sym count) chains.2);
    }

-- a page of kind 2 is a page of objects, and one of kind 1 is free
pub data_page : (list : List PageImage) (page : ℕ) → IsAllocated list → 10 ≤ page → page < length list → (header_at list page).kind ≡ 2 → IsPage (bytes_at list page)
unfolding header_at
data_page list page fine low high kind = elim (fine.others page (low, high)) [
  | inl free ↦ let other = free.header.kind in absurd (omega arith)
  | inr good ↦ good
]

pub free_page : (list : List PageImage) (page : ℕ) → IsAllocated list → 10 ≤ page → page < length list → (header_at list page).kind ≡ 1 → IsFreePage (bytes_at list page)
unfolding header_at
free_page list page fine low high kind = elim (fine.others page (low, high)) [
  | inl free ↦ free
  | inr good ↦ let other = (IsPage-shape (bytes_at list page) good).kind in absurd (omega arith)
]

-- a page without rows has no cells
pub no_cells : (bytes : List ℕ) → (header_of bytes).rows ≡ 0 → cells_of bytes ≡ []
no_cells bytes none = cells_are 0 (end_in bytes) bytes none refl
