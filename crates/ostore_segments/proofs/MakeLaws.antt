-- A placed page, and what is drawn and added there.
use Rattle.std.proofs.Common.{◌≡◌, ◌≢◌, ℕ, ◌+◌, ◌<◌, ◌≤◌, Bool, true, false, eqb, not, ◌&&◌, ◌||◌, List, [], ◌∷◌, ◌++◌, length, Ok, Err, refl, sym, ap, subst, arith, inl, inr}
use Rattle.std.specs.Prelude.{Result, MatchResult}
use Rattle.std.specs.List.{Contains}
use Rattle.std.proofs.lemmas.Bool.{false≢true, cases_eq, ne_eqb}
use Rattle.std.proofs.lemmas.List.Elements.{Contains-append_right}
use Rattle.ostore_base.specs.declared.numbers.PageNo.{PageNo}
use Rattle.ostore_base.specs.declared.page.PageImage.{PageImage}
use Rattle.ostore_page_tags.specs.declared.page_header.PageHeader.{PageHeader}
use Rattle.ostore_page_tags.specs.Rules.{is_type_code, is_chunk_code}
use Rattle.ostore_page_tags.specs.Changes.{IsCellAsked}
use Rattle.ostore_page_tags.specs.PageLists.{header_at, first_of}
use Rattle.ostore_page_tags.specs.PageChains.{IsSegment, IsChain}
use Rattle.ostore_page_tags.specs.Allocated.{IsAllocated, HasChain}
use Rattle.ostore_segments.specs.Holdings.{PagesHeld, Becomes}
use Rattle.ostore_segments.specs.Serials.{counter_of, AreSpent, AreLeft, Draws}
use Rattle.ostore_segments.specs.Room.{HasRoom, HasRoomOn, IsPlaced}
use Rattle.ostore_segments.specs.Placing.{Places, last, grown, early, FindsNone}
use Rattle.ostore_segments.specs.Adding.{Adds}
use Rattle.ostore_segments.specs.Making.{IsObjectAsked, DrawsAndAdds, Makes}
use Rattle.ostore_segments.specs.declared.objects.NewCell.{NewCell}
use Rattle.ostore_segments.specs.declared.placement.NoSpace.{NoSpace}
use Rattle.ostore_segments.proofs.ListSteps.{Then}
use Rattle.ostore_page_tags.proofs.allocation.ChainLaws.{here, chain_owned}
use Rattle.ostore_segments.proofs.RoomLaws.{last_there}

-- ---- the page

begun : (n : ℕ) (header : ℕ → PageHeader) (first segment page : ℕ) (chain : List ℕ) → IsChain n header first segment chain → Contains chain page → first ≢ 0
begun n header first segment page [] list there = absurd (let below = there.1 in omega arith)
begun n header first segment page (p ∷ pages) list there = let fine = list.pages 0 p (omega arith) in let low = fine.0 in let at = list.walk.0 in λ none. omega arith

in_chain : (list : List PageImage) (segment need page : ℕ) (chain : List ℕ) → IsAllocated list → HasChain list segment chain → Contains chain page → HasRoom list need page → IsPlaced list segment need page
in_chain list segment need page chain fine has there room = record { allocated = fine; chain = chain; has = has; there = there; room = room }

pub placed_first : (list : List PageImage) (segment need page : ℕ) → IsPlaced list segment need page → first_of list segment ≢ 0
placed_first list segment need page it = begun (length list) (header_at list) (first_of list segment) segment page it.chain it.has it.there

pub placed_is : (old new : List PageImage) (segment need page : ℕ) → IsAllocated old → need ≤ 4064 → Places old new segment need page → IsPlaced new segment need page
placed_is old new segment need page fine most (last it same) =
    subst (λ list. IsPlaced list segment need page) (sym same) (in_chain old segment need page it.chain fine it.has (subst (Contains it.chain) (sym it.last) (last_there it.chain it.some)) it.room)
placed_is old new segment need page fine most (grown full it) =
    let room = it.room in
    in_chain new segment need page (it.chain.0 ++ page ∷ []) it.allocated it.chain.2 (Contains-append_right it.chain.0 (page ∷ []) page (here page [])) (omega arith)
placed_is old new segment need page fine most (early full none it same) =
    subst (λ list. IsPlaced list segment need page) (sym same) (in_chain old segment need page (it.front ++ page ∷ it.behind) fine it.has (Contains-append_right it.front (page ∷ it.behind) page (here page it.behind)) it.room)

-- ---- the serial

-- placing draws no serial
placed_counter : (old new : List PageImage) (segment need page : ℕ) → IsSegment segment → Places old new segment need page → counter_of new segment ≡ counter_of old segment
placed_counter old new segment need page within (last it same) = ap (λ list. counter_of list segment) same
placed_counter old new segment need page within (grown full it) = it.counters segment within
placed_counter old new segment need page within (early full none it same) = ap (λ list. counter_of list segment) same

-- a segment whose serials aren't spent has some left
pub unspent : (list : List PageImage) (segment : ℕ) → IsAllocated list → (AreSpent list segment → ⊥) → counter_of list segment < 4294967295
unspent list segment fine left = elim (cases_eq (first_of list segment) 0) [
  | inl none ↦
      let chains = fine.chains in
      let zero = chains.2.counters 0 (inl refl) (λ other also at. refl) in
      let same = ap (λ (p : ℕ). (header_at list p).last_serial) none in
      omega arith
  | inr some ↦
      let more : (4294967295 ≤ counter_of list segment) → ⊥ = λ all. left (record { some = some; all = all }) in
      omega (arith, more)
]

pub placed_left : (old new : List PageImage) (segment need page : ℕ) → IsSegment segment → need ≤ 4064 → IsAllocated old → (AreSpent old segment → ⊥) → Places old new segment need page → AreLeft new segment
placed_left old new segment need page within most fine left placed =
    let same = placed_counter old new segment need page within placed in
    let less = unspent old segment fine left in
    record { some = placed_first new segment need page (placed_is old new segment need page fine most placed); left = omega arith }

-- a page with room has it after a serial was drawn
pub drawn_room : (old new : List PageImage) (segment need page serial : ℕ) → IsSegment segment → IsPlaced old segment need page → Draws old new segment serial → HasRoomOn new need page
drawn_room old new segment need page serial within it drawn =
    let has = drawn.lists.chains segment it.chain within it.has in
    let owned = chain_owned (length new) (header_at new) (first_of new segment) segment page it.chain has it.there in
    let room = it.room in
    let same = drawn.room page in
    record { allocated = drawn.allocated; there = (owned.low, owned.high); kind = owned.kind; room = omega arith }

-- ---- the cell

-- the code of a type comes with a serial
pub object_asked : (size code serial : ℕ) → IsObjectAsked size code → serial ≢ 0 → IsCellAsked size code serial
object_asked size code serial asked some = record { some = asked.some; fours = asked.fours; most = asked.most; tag = tagged (is_type_code code) (is_chunk_code code) (eqb serial 0) asked.ty (ne_eqb serial 0 some) }
  where
    tagged : (a b c : Bool) → a ≡ true → c ≡ false → ((a && not c) || (b && c)) ≡ true
    tagged true b false yes_ none = refl
    tagged true b true yes_ none = absurd (false≢true (sym none))
    tagged false b c yes_ none = absurd (false≢true yes_)

pub some_serial : (old new : List PageImage) (segment serial : ℕ) → Draws old new segment serial → serial ≢ 0
some_serial old new segment serial drawn = let next = drawn.next in λ none. omega arith

-- ---- the steps joined

pub open_placed : {a b : PagesHeld} (segment need : ℕ) (answer known : Result PageNo NoSpace) → answer ≡ known → Becomes a b (λ old new. MatchResult answer (λ page. Places old new segment need page.0) (λ no. FindsNone old new segment need))
    → Becomes a b (λ old new. MatchResult known (λ page. Places old new segment need page.0) (λ no. FindsNone old new segment need))
open_placed {a} {b} segment need answer known same one = subst (λ (r : Result PageNo NoSpace). Becomes a b (λ old new. MatchResult r (λ page. Places old new segment need page.0) (λ no. FindsNone old new segment need))) same one

pub draws_and_adds : (old new : List PageImage) (segment page size code serial offset : ℕ)
    → Then (λ one two. Draws one two segment serial) (λ one two. (offset ≡ (header_at one page).end) × Adds one two page size code serial) old new → DrawsAndAdds old new segment page size code serial offset
draws_and_adds old new segment page size code serial offset step = record { middle = step.middle; drawn = step.first; at = step.second.0; added = step.second.1 }

pub makes : (old new : List PageImage) (segment page made size code serial offset : ℕ) → made ≡ page → Then (λ one two. Places one two segment (size + 8) page) (λ one two. DrawsAndAdds one two segment page size code serial offset) old new → Makes old new segment made size code serial offset
makes old new segment page made size code serial offset same step = subst (λ (p : ℕ). Makes old new segment p size code serial offset) (sym same) (record { middle = step.middle; placed = step.first; made = step.second })

-- either answer leaves an allocated list
pub made_allocated : (made : Result NewCell NoSpace) (old new : List PageImage) (segment need size code : ℕ) → IsAllocated old → MatchResult made (λ cell. Makes old new segment cell.page.0 size code cell.serial cell.offset) (λ no. FindsNone old new segment need) → IsAllocated new
made_allocated (Ok cell) old new segment need size code fine made = made.made.added.allocated
made_allocated (Err full) old new segment need size code fine made = subst IsAllocated (sym made.same) fine
