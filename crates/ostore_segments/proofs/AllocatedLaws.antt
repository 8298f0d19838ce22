-- Page lists of which one page, or a few, were changed.
use Rattle.std.proofs.Common.{◌≡◌, ◌≢◌, ℕ, ◌-◌, ◌*◌, ◌<◌, ◌≤◌, ◌⊎◌, List, [], ◌∷◌, length, refl, sym, subst, ◌∙◌, arith, inl, inr}
use Rattle.ostore_base.specs.declared.page.PageImage.{PageImage}
use Rattle.ostore_page_tags.specs.declared.page_header.PageHeader.{PageHeader}
use Rattle.ostore_page_tags.specs.Cells.{free_bytes}
use Rattle.ostore_page_tags.specs.Rules.{IsPage}
use Rattle.ostore_page_tags.proofs.shape.PageShape.{IsPage-shape}
use Rattle.ostore_page_tags.specs.PageLists.{bytes_at, header_at, first_of, schema_bytes}
use Rattle.ostore_page_tags.specs.PageChains.{IsSegment, IsOpen, AreChained}
use Rattle.ostore_page_tags.specs.Allocated.{IsAllocated, IsFront, IsFreePage, IsRoots, EndsInZeros}
use Rattle.ostore_segments.specs.Serials.{SameElsewhere}
use Rattle.ostore_segments.specs.inside.Fields.{HasHeaderAt, BeginsWith}
use Rattle.ostore_page_tags.proofs.allocation.ChainLaws.{IsOwned, chain_first}

pub first_page : (list : List PageImage) (segment : ℕ) → IsAllocated list → IsSegment segment → first_of list segment ≢ 0 → IsOwned (length list) (header_at list) segment (first_of list segment)
first_page list segment fine within some =
    let linked = fine.chains in
    chain_first (length list) (header_at list) (first_of list segment) segment (linked.1 segment) (linked.2.chains segment within) some

schema_same : (old new : List PageImage) → ((page : ℕ) → 1 ≤ page → page ≤ 9 → bytes_at new page ≡ bytes_at old page) → schema_bytes new ≡ schema_bytes old
unfolding schema_bytes
schema_same old new same =
    rw (same 1 (omega arith) (omega arith), same 2 (omega arith) (omega arith), same 3 (omega arith) (omega arith), same 4 (omega arith) (omega arith), same 5 (omega arith) (omega arith), same 6 (omega arith) (omega arith), same 7 (omega arith) (omega arith), same 8 (omega arith) (omega arith)) refl

pub allocated_kept : (old new : List PageImage) → IsAllocated old → SameElsewhere old new → ((page : ℕ) → page < length old → length (bytes_at new page) ≡ 4096) → IsFront (bytes_at new 0)
    → ((page : ℕ) → IsOpen (length old) page → IsFreePage (bytes_at new page) ⊎ IsPage (bytes_at new page))
    → ((free : List ℕ) × (chain : ℕ → List ℕ) × AreChained (length old) (header_at new) (first_of new) free chain) → IsAllocated new
allocated_kept old new fine same whole front others linked =
    let count : length new ≡ length old = same.count in
    let least = fine.least in
    let most = fine.most in
    record {
      least = omega arith;
      most = omega arith;
      whole = λ page below. whole page (omega arith);
      front = front;
      schema = subst EndsInZeros (sym (schema_same old new same.fixed)) fine.schema;
      roots = subst IsRoots (sym (same.fixed 9 (omega arith) (omega arith))) fine.roots;
      others = λ page there_is. let low = there_is.0 in let high = there_is.1 in others page (omega arith, omega arith);
      chains = (linked.0, linked.1, subst (λ (n : ℕ). AreChained n (header_at new) (first_of new) linked.0 linked.1) (sym count) linked.2);
    }

-- a page of objects can be looked at
pub owned_headed : (list : List PageImage) (segment page : ℕ) → IsAllocated list → IsOwned (length list) (header_at list) segment page → HasHeaderAt list page
owned_headed list segment page fine its =
    let low = its.low in
    let high = its.high in
    record { allocated = fine; headed = inr (omega arith, omega arith) }

-- and so can the first page of a segment
pub first_headed : (list : List PageImage) (segment first : ℕ) → IsAllocated list → IsSegment segment → first_of list segment ≢ 0 → first_of list segment ≡ first → HasHeaderAt list first
first_headed list segment first fine within some at = subst (HasHeaderAt list) at (owned_headed list segment (first_of list segment) fine (first_page list segment fine within some))

-- the front can be looked at
pub front_headed : (list : List PageImage) → IsAllocated list → HasHeaderAt list 0
front_headed list fine = record { allocated = fine; headed = inl refl }

-- a page of kind 2 is a page of objects, and one of kind 1 is free
pub data_page : (list : List PageImage) (page : ℕ) → IsAllocated list → 10 ≤ page → page < length list → (header_at list page).kind ≡ 2 → IsPage (bytes_at list page)
unfolding header_at
data_page list page fine low high kind = elim (fine.others page (low, high)) [
  | inl free ↦ let other = free.header.kind in absurd (omega arith)
  | inr good ↦ good
]

pub free_page : (list : List PageImage) (page : ℕ) → IsAllocated list → 10 ≤ page → page < length list → (header_at list page).kind ≡ 1 → IsFreePage (bytes_at list page)
unfolding header_at
free_page list page fine low high kind = elim (fine.others page (low, high)) [
  | inl free ↦ free
  | inr good ↦ let other = (IsPage-shape (bytes_at list page) good).kind in absurd (omega arith)
]

-- the head of the free list
pub record IsHead (list : List PageImage) (page : ℕ) : Type 0 where
  pub low : 10 ≤ page
  pub high : page < length list
  pub kind : (header_at list page).kind ≡ 1
  pub rest : List ℕ
  pub chain : ℕ → List ℕ
  pub linked : AreChained (length list) (header_at list) (first_of list) (page ∷ rest) chain

head_from : (list : List PageImage) (page : ℕ) (free : List ℕ) (chain : ℕ → List ℕ) → (header_at list 0).next ≡ page → page ≢ 0 → AreChained (length list) (header_at list) (first_of list) free chain → IsHead list page
head_from list page [] chain at some linked = absurd (some (sym at ∙ linked.free_list.walk))
head_from list page (head ∷ rest) chain at some linked =
    let there_is = linked.free_list.pages 0 head (omega arith) in
    let kind = linked.free_list.kinds 0 head (omega arith) in
    let same : head ≡ page = sym linked.free_list.walk.0 ∙ at in
    record {
      low = subst (λ (p : ℕ). 10 ≤ p) same there_is.0;
      high = subst (λ (p : ℕ). p < length list) same there_is.1;
      kind = subst (λ (p : ℕ). (header_at list p).kind ≡ 1) same kind;
      rest = rest;
      chain = chain;
      linked = subst (λ (p : ℕ). AreChained (length list) (header_at list) (first_of list) (p ∷ rest) chain) same linked;
    }

pub head_page : (list : List PageImage) (page : ℕ) → BeginsWith list page → IsHead list page
head_page list page it = let chains = it.allocated.chains in head_from list page chains.0 chains.1 it.at it.some chains.2

-- it can be looked at
pub head_headed : (list : List PageImage) (page : ℕ) → BeginsWith list page → HasHeaderAt list page
head_headed list page it =
    let head = head_page list page it in
    let low = head.low in
    let high = head.high in
    record { allocated = it.allocated; headed = inr (omega arith, omega arith) }

-- the free bytes of a page by its header
abbrev pub room_in : PageHeader → ℕ
room_in header = 4096 - 8 * header.rows - header.end

pub room_at : (list : List PageImage) (page : ℕ) → free_bytes (bytes_at list page) ≡ room_in (header_at list page)
unfolding header_at
room_at list page = refl
