-- The pages that are named where a cell is placed.
use Rattle.std.proofs.Common.{◌≡◌, ◌≢◌, ◌+◌, ◌<◌, ◌≤◌, ◌⊎◌, ℕ, zero, suc, List, [], ◌∷◌, ◌++◌, length, get_or, sym, subst, ◌∙◌, arith, inl, inr}
use Rattle.std.specs.List.{Contains}
use Rattle.std.proofs.lemmas.Bool.{cases_eq}
use Rattle.std.proofs.lemmas.List.Elements.{Contains-append_left, Contains-append_right, Contains-append_cases}
use Rattle.ostore_base.specs.declared.page.PageImage.{PageImage}
use Rattle.ostore_page_tags.specs.declared.page_header.PageHeader.{PageHeader}
use Rattle.ostore_page_tags.specs.PageLists.{header_at, first_of}
use Rattle.ostore_page_tags.specs.PageChains.{IsSegment, IsWalk}
use Rattle.ostore_page_tags.specs.Allocated.{IsAllocated, HasChain, HasFree}
use Rattle.ostore_page_tags.proofs.allocation.ChainLaws.{here}
use Rattle.ostore_segments.specs.Holdings.{PagesHeld, Stands, Becomes, Sees}
use Rattle.ostore_segments.specs.Serials.{SameLists}
use Rattle.ostore_segments.specs.Growth.{Grows}
use Rattle.ostore_segments.specs.Naming.{IsPageOf, IsNamedIn, IsFirstFree, IsWantedIn}
use Rattle.ostore_segments.specs.Room.{IsPlaced}
use Rattle.ostore_segments.specs.Placing.{Places, last, grown, early}
use Rattle.ostore_segments.specs.Making.{Makes}
use Rattle.ostore_segments.specs.inside.Fields.{BeginsWith, BeginsBeside, IsFrontOr}
use Rattle.ostore_segments.specs.inside.Walks.{HasWalked, HasListed}
use Rattle.ostore_segments.proofs.ListSteps.{Stands-weaker, Stands-seen}
use Rattle.ostore_segments.proofs.MakeLaws.{placed_is}
use Rattle.ostore_segments.proofs.RoomLaws.{its_chain, chain_once, AtLast, last_is, last_there, some_chain}

-- ---- pages of a segment

first_in : (header : ℕ → PageHeader) (first : ℕ) (chain : List ℕ) → IsWalk header first chain → first ≢ 0 → Contains chain first
first_in header first [] walk some = absurd (some walk)
first_in header first (p ∷ pages) walk some = subst (Contains (p ∷ pages)) (sym walk.0) (here p pages)

pub first_named : (list : List PageImage) (segment first : ℕ) → IsAllocated list → IsSegment segment → first ≢ 0 → first_of list segment ≡ first → IsPageOf list segment first
first_named list segment first fine within some at =
    let its = its_chain list segment fine within in
    record { chain = its.0; has = its.1; there = first_in (header_at list) first its.0 (subst (λ (p : ℕ). IsWalk (header_at list) p its.0) at its.1.walk) some }

-- the last page, by the header of the first
pub last_named : (list : List PageImage) (segment first : ℕ) (header : PageHeader) → AtLast list segment first header → IsPageOf list segment header.last_page
last_named list segment first header it =
    let its = its_chain list segment it.fine it.within in
    record { chain = its.0; has = its.1; there = subst (Contains its.0) (sym (last_is list segment first header it)) (last_there its.0 (some_chain _ _ _ segment its.0 its.1 (λ none. it.some (sym it.at ∙ none)))) }

pub placed_named : (list : List PageImage) (segment need page : ℕ) → IsPlaced list segment need page → IsPageOf list segment page
placed_named list segment need page it = record { chain = it.chain; has = it.has; there = it.there }

-- ---- on a later list

pub kept_lists : (old new : List PageImage) (segment page : ℕ) → IsSegment segment → SameLists old new → IsPageOf old segment page → IsPageOf new segment page
kept_lists old new segment page within same it = record { chain = it.chain; has = same.chains segment it.chain within it.has; there = it.there }

pub kept_named : (old new : List PageImage) (segment page : ℕ) → IsSegment segment → SameLists old new → IsNamedIn old segment page → IsNamedIn new segment page
kept_named old new segment page within same (inl front) = inl front
kept_named old new segment page within same (inr it) = inr (kept_lists old new segment page within same it)

pub same_named : (old new : List PageImage) (segment page : ℕ) → new ≡ old → IsNamedIn old segment page → IsNamedIn new segment page
same_named old new segment page same it = subst (λ (list : List PageImage). IsNamedIn list segment page) (sym same) it

pub grown_page : (old new : List PageImage) (segment got : ℕ) → Grows old new segment got → IsPageOf new segment got
grown_page old new segment page it = record { chain = it.chain.0 ++ page ∷ []; has = it.chain.2; there = Contains-append_right it.chain.0 (page ∷ []) page (here page []) }

pub kept_grown : (old new : List PageImage) (segment got page : ℕ) → Grows old new segment got → IsPageOf old segment page → IsPageOf new segment page
kept_grown old new segment got page it was = record {
  chain = it.chain.0 ++ got ∷ [];
  has = it.chain.2;
  there = Contains-append_left it.chain.0 (got ∷ []) page (subst (λ (l : List ℕ). Contains l page) (chain_once old segment was.chain it.chain.0 was.has it.chain.1) was.there);
}

pub kept_grown_named : (old new : List PageImage) (segment got page : ℕ) → Grows old new segment got → IsNamedIn old segment page → IsNamedIn new segment page
kept_grown_named old new segment got page it (inl front) = inl front
kept_grown_named old new segment got page it (inr was) = inr (kept_grown old new segment got page it was)

-- what a segment wants where it gets a page, by the list before
head_free : (list : List PageImage) (page : ℕ) (free : List ℕ) → (header_at list 0).next ≡ page → page ≢ 0 → HasFree list free → IsFirstFree list page
head_free list page [] at some has = absurd (some (sym at ∙ has.walk))
head_free list page (head ∷ rest) at some has = (rest, subst (λ (p : ℕ). HasFree list (p ∷ rest)) (sym has.walk.0 ∙ at) has)

pub begins_free : (list : List PageImage) (page : ℕ) → BeginsWith list page → IsFirstFree list page
begins_free list page begins = let chains = begins.allocated.chains in head_free list page chains.0 begins.at begins.some chains.2.free_list

pub grown_wanted : (old : List PageImage) (segment page named : ℕ) → BeginsWith old page → IsFrontOr page named → IsWantedIn old segment named
grown_wanted old segment page named begins (inl front) = inl (inl front)
grown_wanted old segment page named begins (inr same) = inr (subst (IsFirstFree old) (sym same) (begins_free old page begins))

pub grown_named : (old new : List PageImage) (segment page named : ℕ) → Grows old new segment page → IsFrontOr page named → IsNamedIn new segment named
grown_named old new segment page named it (inl front) = inl front
grown_named old new segment page named it (inr same) = inr (subst (IsPageOf new segment) (sym same) (grown_page old new segment page it))

pub first_or_front : {segment first : ℕ} (list : List PageImage) (named : ℕ) → IsPageOf list segment first → IsFrontOr first named → IsNamedIn list segment named
first_or_front list named it (inl front) = inl front
first_or_front {segment} list named it (inr same) = inr (subst (IsPageOf list segment) (sym same) it)

-- page 0, or one of the ends of a chain
abbrev pub IsNear : ℕ → ℕ → ℕ → Type 0
IsNear first end named = IsFrontOr first named ⊎ (named ≡ end)

pub near_named : (list : List PageImage) (segment first end named : ℕ) → IsPageOf list segment first → IsPageOf list segment end → IsNear first end named → IsNamedIn list segment named
near_named list segment first end named one two (inl is) = first_or_front list named one is
near_named list segment first end named one two (inr same) = inr (subst (IsPageOf list segment) (sym same) two)

-- ---- a chain that gets a page

-- the ends of a segment's chain, and the head of the free list that it gets
pub record AreEnds (list : List PageImage) (segment page first end : ℕ) : Type 0 where
  pub begins : BeginsWith list page
  pub first_in : IsPageOf list segment first
  pub last_in : IsPageOf list segment end

abbrev pub IsEnd : ℕ → ℕ → ℕ → ℕ → Type 0
IsEnd page first end named = (IsFrontOr page named ⊎ (named ≡ first)) ⊎ (named ≡ end)

pub ends_seen : {a b : PagesHeld} (segment page first : ℕ) (header : PageHeader) → IsSegment segment → first ≢ 0 → Stands a (λ list. BeginsBeside list segment page first) → Becomes a b (Sees (λ list. header_at list first ≡ header)) → Stands b (λ list. AreEnds list segment page first header.last_page)
ends_seen segment page first header within some stands seen =
    Stands-weaker
    (λ list known. record {
      begins = known.0.begins;
      first_in = first_named list segment first known.0.begins.allocated within some known.0.first_is;
      last_in = last_named list segment first header (record { fine = known.0.begins.allocated; within = within; some = some; at = known.0.first_is; seen = known.1 });
    })
    (Stands-seen stands seen)

pub ends_wanted : (list : List PageImage) (segment page first end named : ℕ) → AreEnds list segment page first end → IsEnd page first end named → IsWantedIn list segment named
ends_wanted list segment page first end named it (inl (inl is)) = grown_wanted list segment page named it.begins is
ends_wanted list segment page first end named it (inl (inr same)) = inl (inr (subst (IsPageOf list segment) (sym same) it.first_in))
ends_wanted list segment page first end named it (inr same) = inl (inr (subst (IsPageOf list segment) (sym same) it.last_in))

pub ends_named : (old new : List PageImage) (segment page first end named : ℕ) → AreEnds old segment page first end → Grows old new segment page → IsEnd page first end named → IsNamedIn new segment named
ends_named old new segment page first end named it grows (inl (inl is)) = grown_named old new segment page named grows is
ends_named old new segment page first end named it grows (inl (inr same)) = inr (kept_grown old new segment page named grows (subst (IsPageOf old segment) (sym same) it.first_in))
ends_named old new segment page first end named it grows (inr same) = inr (kept_grown old new segment page named grows (subst (IsPageOf old segment) (sym same) it.last_in))

-- ---- on an earlier list

pub back_lists : (old new : List PageImage) (segment page : ℕ) → IsAllocated old → IsSegment segment → SameLists old new → IsPageOf new segment page → IsPageOf old segment page
back_lists old new segment page fine within same it =
    let its = its_chain old segment fine within in
    record { chain = its.0; has = its.1; there = subst (λ (l : List ℕ). Contains l page) (chain_once new segment it.chain its.0 it.has (same.chains segment its.0 within its.1)) it.there }

pub back_named : (old new : List PageImage) (segment page : ℕ) → IsAllocated old → IsSegment segment → SameLists old new → IsNamedIn new segment page → IsNamedIn old segment page
back_named old new segment page fine within same (inl front) = inl front
back_named old new segment page fine within same (inr it) = inr (back_lists old new segment page fine within same it)

pub back_grown : (old new : List PageImage) (segment got page : ℕ) → Grows old new segment got → IsNamedIn new segment page → IsWantedIn old segment page
back_grown old new segment got page it (inl front) = inl (inl front)
back_grown old new segment got page it (inr is) =
    elim (Contains-append_cases it.chain.0 (got ∷ []) page (subst (λ (l : List ℕ). Contains l page) (chain_once new segment is.chain (it.chain.0 ++ got ∷ []) is.has it.chain.2) is.there)) [
      | inl was ↦ inl (inr (record { chain = it.chain.0; has = it.chain.1; there = was }))
      | inr new_one ↦ inr (subst (IsFirstFree old) (sym (only got page new_one.0 new_one.1 new_one.2)) (it.free.0, it.free.1))
    ]
  where
    only : (got page k : ℕ) → k < length (got ∷ []) → get_or (got ∷ []) k page ≡ page → page ≡ got
    only got page zero below at = sym at
    only got page (suc k) below at = absurd (omega arith)

pub back_placed : (old new : List PageImage) (segment need placed page : ℕ) → Places old new segment need placed → IsNamedIn new segment page → IsWantedIn old segment page
back_placed old new segment need placed page (last it same) named = inl (subst (λ (list : List PageImage). IsNamedIn list segment page) same named)
back_placed old new segment need placed page (grown full it) named = back_grown old new segment placed page it named
back_placed old new segment need placed page (early full none it same) named = inl (subst (λ (list : List PageImage). IsNamedIn list segment page) same named)

-- ---- a made cell

pub made_named : (old new : List PageImage) (segment page size code serial offset : ℕ) → IsAllocated old → size ≤ 1000 → IsSegment segment → Makes old new segment page size code serial offset → IsPageOf new segment page
made_named old new segment page size code serial offset fine most within it =
    kept_lists it.made.middle new segment page within it.made.added.lists
    (kept_lists it.middle it.made.middle segment page within it.made.drawn.lists (placed_named it.middle segment (size + 8) page (placed_is old it.middle segment (size + 8) page fine (omega arith) it.placed)))

pub back_made : (old new : List PageImage) (segment page size code serial offset named : ℕ) → IsAllocated old → size ≤ 1000 → IsSegment segment → Makes old new segment page size code serial offset → IsNamedIn new segment named → IsWantedIn old segment named
back_made old new segment page size code serial offset named fine most within it is =
    let placed = placed_is old it.middle segment (size + 8) page fine (omega arith) it.placed in
    back_placed old it.middle segment (size + 8) page named it.placed
    (back_named it.middle it.made.middle segment named placed.allocated within it.made.drawn.lists (back_named it.made.middle new segment named it.made.drawn.allocated within it.made.added.lists is))

-- a page of any segment is one still
pub kept_placed : (old new : List PageImage) (segment need placed other page : ℕ) → IsSegment other → Places old new segment need placed → IsPageOf old other page → IsPageOf new other page
kept_placed old new segment need placed other page within (last it same) was = subst (λ (list : List PageImage). IsPageOf list other page) (sym same) was
kept_placed old new segment need placed other page within (grown full it) was = elim (cases_eq other segment) [
  | inl here ↦ subst (λ (s : ℕ). IsPageOf new s page) (sym here) (kept_grown old new segment placed page it (subst (λ (s : ℕ). IsPageOf old s page) here was))
  | inr apart ↦ record { chain = was.chain; has = it.others other was.chain within apart was.has; there = was.there }
]
kept_placed old new segment need placed other page within (early full none it same) was = subst (λ (list : List PageImage). IsPageOf list other page) (sym same) was

pub kept_made : (old new : List PageImage) (segment page size code serial offset other named : ℕ) → IsSegment other → Makes old new segment page size code serial offset → IsPageOf old other named → IsPageOf new other named
kept_made old new segment page size code serial offset other named within it was =
    kept_lists it.made.middle new other named within it.made.added.lists
    (kept_lists it.middle it.made.middle other named within it.made.drawn.lists (kept_placed old it.middle segment (size + 8) page other named within it.placed was))

-- ---- the walks

pub walked_named : (list : List PageImage) (segment need count at : ℕ) → at ≢ 0 → HasWalked list segment need count at → IsPageOf list segment at
walked_named list segment need count at some it = behind it.behind it.has it.walk
  where
    behind : (pages : List ℕ) → HasChain list segment (it.front ++ pages) → IsWalk (header_at list) at pages → IsPageOf list segment at
    behind [] has walk = absurd (some walk)
    behind (p ∷ pages) has walk = record { chain = it.front ++ p ∷ pages; has = has; there = subst (Contains (it.front ++ p ∷ pages)) (sym walk.0) (Contains-append_right it.front (p ∷ pages) p (here p pages)) }

pub listed_named : (list : List PageImage) (segment count at : ℕ) (listed : List ℕ) → at ≢ 0 → HasListed list segment count at listed → IsPageOf list segment at
listed_named list segment count at listed some it = behind it.left it.has it.walk
  where
    behind : (pages : List ℕ) → HasChain list segment (listed ++ pages) → IsWalk (header_at list) at pages → IsPageOf list segment at
    behind [] has walk = absurd (some walk)
    behind (p ∷ pages) has walk = record { chain = listed ++ p ∷ pages; has = has; there = subst (Contains (listed ++ p ∷ pages)) (sym walk.0) (Contains-append_right listed (p ∷ pages) p (here p pages)) }
