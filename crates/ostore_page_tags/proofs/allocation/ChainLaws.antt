-- The free list and the chains, by the headers.
use Rattle.std.proofs.Common.{◌≡◌, ◌≢◌, ℕ, suc, ◌<◌, ◌≤◌, List, [], ◌∷◌, refl, sym, subst, ◌∙◌, arith}
use Rattle.std.specs.List.{Contains}
use Rattle.std.proofs.lemmas.List.Elements.{All-contains}
use Rattle.ostore_page_tags.specs.declared.page_header.PageHeader.{PageHeader}
use Rattle.ostore_page_tags.specs.PageChains.{IsWalk, IsSegment, IsOpen, IsNoFirst, IsFreeList, IsChain, AreChained}

pub here : (page : ℕ) (pages : List ℕ) → Contains (page ∷ pages) page
here page pages = (0, omega arith, refl)

pub later : (page other : ℕ) (pages : List ℕ) → Contains pages page → Contains (other ∷ pages) page
later page other pages there = (suc there.0, (let below = there.1 in omega arith), there.2)

-- a walk goes on so where the pages lead on as before
pub walk_same : (old new : ℕ → PageHeader) (from : ℕ) (pages : List ℕ) → ((page : ℕ) → Contains pages page → (new page).next ≡ (old page).next) → IsWalk old from pages → IsWalk new from pages
walk_same old new from [] same walk = walk
walk_same old new from (page ∷ pages) same walk =
    (walk.0, subst (λ (next : ℕ). IsWalk new next pages) (sym (same page (here page pages))) (walk_same old new (old page).next pages (λ q there. same q (later q page pages there)) walk.1))

-- a page of objects of a segment
pub record IsOwned (n : ℕ) (header : ℕ → PageHeader) (owner page : ℕ) : Type 0 where
  pub low : 10 ≤ page
  pub high : page < n
  pub kind : (header page).kind ≡ 2
  pub segment : (header page).segment ≡ owner

-- the pages of a chain are those of the segment
pub chain_owned : (n : ℕ) (header : ℕ → PageHeader) (first segment page : ℕ) (chain : List ℕ) → IsChain n header first segment chain → Contains chain page → IsOwned n header segment page
chain_owned n header first segment page chain list there =
    let there_is = All-contains (IsOpen n) chain page list.pages there in record {
      low = there_is.0;
      high = there_is.1;
      kind = All-contains (λ (q : ℕ). (header q).kind ≡ 2) chain page list.kinds there;
      segment = All-contains (λ (q : ℕ). (header q).segment ≡ segment) chain page list.owner there;
    }

-- the first page of a chain that isn't empty is a page of the segment
pub chain_first : (n : ℕ) (header : ℕ → PageHeader) (first segment : ℕ) (chain : List ℕ) → IsChain n header first segment chain → first ≢ 0 → IsOwned n header segment first
chain_first n header first segment [] chain some = absurd (some chain.walk)
chain_first n header first segment (page ∷ pages) chain some =
    subst (IsOwned n header segment) (sym chain.walk.0) (chain_owned n header first segment page (page ∷ pages) chain (here page pages))

pub free_kept : (n : ℕ) (old new : ℕ → PageHeader) (free : List ℕ) → IsFreeList n old free → ((page : ℕ) → (new page).next ≡ (old page).next) → ((page : ℕ) → (new page).kind ≡ (old page).kind) → IsFreeList n new free
free_kept n old new free list next kind = record {
  walk = subst (λ (from : ℕ). IsWalk new from free) (sym (next 0)) (walk_same old new (old 0).next free (λ page there. next page) list.walk);
  pages = list.pages;
  kinds = λ k d below. kind _ ∙ list.kinds k d below;
  once = list.once;
}

pub chain_kept : (n : ℕ) (old new : ℕ → PageHeader) (from segment : ℕ) (chain : List ℕ) → IsChain n old from segment chain
    → ((page : ℕ) → (new page).next ≡ (old page).next) → ((page : ℕ) → (new page).kind ≡ (old page).kind) → ((page : ℕ) → (new page).segment ≡ (old page).segment) → ((page : ℕ) → (new page).last_page ≡ (old page).last_page)
    → IsChain n new from segment chain
chain_kept n old new from segment chain list next kind owner last = record {
  walk = walk_same old new from chain (λ page there. next page) list.walk;
  pages = list.pages;
  kinds = λ k d below. kind _ ∙ list.kinds k d below;
  owner = λ k d below. owner _ ∙ list.owner k d below;
  once = list.once;
  last = last from ∙ list.last;
}

-- where only last serials of first pages change, the lists stay
pub chains_kept : (n : ℕ) (old new : ℕ → PageHeader) (first begin : ℕ → ℕ) (free : List ℕ) (chain : ℕ → List ℕ) → AreChained n old first free chain
    → ((page : ℕ) → (new page).next ≡ (old page).next) → ((page : ℕ) → (new page).kind ≡ (old page).kind) → ((page : ℕ) → (new page).segment ≡ (old page).segment) → ((page : ℕ) → (new page).last_page ≡ (old page).last_page)
    → ((segment : ℕ) → IsSegment segment → begin segment ≡ first segment)
    → ((page : ℕ) → IsNoFirst first page → (new page).last_serial ≡ (old page).last_serial)
    → AreChained n new begin free chain
chains_kept n old new first begin free chain chained next kind owner last begins serial = record {
  free_list = free_kept n old new free chained.free_list next kind;
  chains = λ segment within. subst (λ (from : ℕ). IsChain n new from segment (chain segment)) (sym (begins segment within)) (chain_kept n old new (first segment) segment (chain segment) (chained.chains segment within) next kind owner last);
  reached = chained.reached;
  last_pages = λ page known none. last page ∙ chained.last_pages page known (early page none);
  counters = λ page known none. serial page (early page none) ∙ chained.counters page known (early page none);
}
  where
    early : (page : ℕ) → IsNoFirst begin page → IsNoFirst first page
    early page none segment within at = none segment within (begins segment within ∙ at)
