-- The walk over a segment's chain, and where it finds room.
use Rattle.std.proofs.Common.{◌≡◌, ◌≢◌, ℕ, suc, ◌+◌, ◌≤◌, Bool, true, false, List, [], ◌∷◌, ◌++◌, length, get_or, refl, sym, ap, subst, ◌∙◌, arith}
use Rattle.std.specs.Prelude.{IsTrue, ◌↔◌, Option, MatchOption}
use Rattle.std.specs.List.{All, Contains}
use Rattle.std.proofs.lemmas.Bool.{false≢true, eqb-true}
use Rattle.std.proofs.lemmas.Bool.Decides.{Decides-eqb}
use Rattle.std.proofs.lemmas.List.{append-nil, append_assoc, length-append}
use Rattle.std.proofs.lemmas.List.Elements.{All-contains, All-append, Contains-append_right}
use Rattle.std.proofs.lemmas.Map.Made.{IsDistinct-from_AllPairs}
use Rattle.std.proofs.lemmas.Map.Steps.{length-le_from_distinct_below}
use Rattle.std.proofs.lemmas.Map.Views.{Contains-from_any}
use Rattle.ostore_base.specs.declared.numbers.PageNo.{PageNo}
use Rattle.ostore_base.specs.declared.page.PageImage.{PageImage}
use Rattle.ostore_page_tags.specs.declared.page_header.PageHeader.{PageHeader}
use Rattle.ostore_page_tags.specs.Cells.{free_bytes}
use Rattle.ostore_page_tags.specs.PageLists.{bytes_at, header_at, first_of}
use Rattle.ostore_segments.specs.Holdings.{PagesHeld, Becomes, Sees}
use Rattle.ostore_page_tags.specs.PageChains.{IsWalk, last_of, IsSegment, IsChain}
use Rattle.ostore_page_tags.specs.Allocated.{IsAllocated, HasChain, HasFree}
use Rattle.ostore_segments.specs.Room.{HasRoom, LacksRoom, EndsWithRoom, EndsFull, IsFirstWithRoom, LacksRoomAll, IsFull}
use Rattle.ostore_segments.specs.Growth.{Grows}
use Rattle.ostore_segments.specs.Placing.{Places, last, grown, early, FindsNone}
use Rattle.ostore_segments.specs.inside.Walks.{HasWalked, HasListed}
use Rattle.ostore_segments.specs.inside.Fields.{HasHeaderAt}
use Rattle.ostore_segments.proofs.AllocatedLaws.{owned_headed, room_in}
use Rattle.ostore_page_tags.proofs.allocation.ChainLaws.{here, IsOwned, chain_owned}
use Rattle.ostore_segments.proofs.GrowLaws.{chain_last}
use Rattle.ostore_segments.proofs.GrowChains.{last_in}

-- ---- room

room_is : (list : List PageImage) (page : ℕ) (header : PageHeader) → header_at list page ≡ header → free_bytes (bytes_at list page) ≡ room_in header
unfolding header_at
room_is list page header seen = ap room_in seen

pub has_room : (list : List PageImage) (need page : ℕ) (header : PageHeader) (answer : Bool) → header_at list page ≡ header → (IsTrue answer ↔ (need ≤ room_in header)) → answer ≡ true → HasRoom list need page
has_room list need page header answer seen decides held = let is = room_is list page header seen in let fits = decides.0 held in omega arith

pub lacks_room : (list : List PageImage) (need page : ℕ) (header : PageHeader) (answer : Bool) → header_at list page ≡ header → (IsTrue answer ↔ (need ≤ room_in header)) → answer ≡ false → LacksRoom list need page
lacks_room list need page header answer seen decides fails =
    let is = room_is list page header seen in
    let none : (need ≤ room_in header) → ⊥ = λ fits. false≢true (sym fails ∙ decides.1 fits) in
    omega (arith, none)

-- ---- the chain

pub its_chain : (list : List PageImage) (segment : ℕ) → IsAllocated list → IsSegment segment → (chain : List ℕ) × HasChain list segment chain
its_chain list segment fine within = let linked = fine.chains in (linked.1 segment, linked.2.chains segment within)

empty_chain : (n : ℕ) (header : ℕ → PageHeader) (first segment : ℕ) (chain : List ℕ) → IsChain n header first segment chain → first ≡ 0 → chain ≡ []
empty_chain n header first segment [] list none = refl
empty_chain n header first segment (p ∷ pages) list none = let fine = list.pages 0 p (omega arith) in let low = fine.0 in let at = list.walk.0 in absurd (omega arith)

pub some_chain : (n : ℕ) (header : ℕ → PageHeader) (first segment : ℕ) (chain : List ℕ) → IsChain n header first segment chain → first ≢ 0 → chain ≢ []
some_chain n header first segment chain list some empty = some (subst (IsWalk header first) empty list.walk)

pub ends_none : (list : List PageImage) (segment need : ℕ) → IsAllocated list → IsSegment segment → first_of list segment ≡ 0 → EndsFull list segment need
ends_none list segment need fine within none =
    let its = its_chain list segment fine within in
    record { chain = its.0; has = its.1; lacks = λ some. absurd (some (empty_chain _ _ _ segment its.0 its.1 none)) }

-- the last page, by the header of the first
pub record AtLast (list : List PageImage) (segment first : ℕ) (header : PageHeader) : Type 0 where
  pub fine : IsAllocated list
  pub within : IsSegment segment
  pub some : first ≢ 0
  pub at : first_of list segment ≡ first
  pub seen : header_at list first ≡ header

pub last_is : (list : List PageImage) (segment first : ℕ) (header : PageHeader) (it : AtLast list segment first header) → header.last_page ≡ last_of (its_chain list segment it.fine it.within).0
last_is list segment first header it =
    ap (λ (h : PageHeader). h.last_page) (sym it.seen) ∙ ap (λ (p : ℕ). (header_at list p).last_page) (sym it.at) ∙ (its_chain list segment it.fine it.within).1.last

there : (list : List PageImage) (segment first : ℕ) (header : PageHeader) → AtLast list segment first header → first_of list segment ≢ 0
there list segment first header it none = it.some (sym it.at ∙ none)

pub last_headed : (list : List PageImage) (segment first : ℕ) (header : PageHeader) → AtLast list segment first header → HasHeaderAt list header.last_page
last_headed list segment first header it =
    let its = its_chain list segment it.fine it.within in
    let page = chain_last (length list) (header_at list) (first_of list segment) segment its.0 its.1 (there list segment first header it) in
    subst (HasHeaderAt list) (sym (last_is list segment first header it)) (owned_headed list segment _ it.fine page)

pub ends_with : (list : List PageImage) (segment need first : ℕ) (header : PageHeader) → AtLast list segment first header → HasRoom list need header.last_page → EndsWithRoom list segment need header.last_page
ends_with list segment need first header it room =
    let its = its_chain list segment it.fine it.within in
    record { chain = its.0; has = its.1; some = some_chain _ _ _ segment its.0 its.1 (there list segment first header it); last = last_is list segment first header it; room = room }

pub ends_full : (list : List PageImage) (segment need first : ℕ) (header : PageHeader) → AtLast list segment first header → LacksRoom list need header.last_page → EndsFull list segment need
ends_full list segment need first header it lacks =
    let its = its_chain list segment it.fine it.within in
    record { chain = its.0; has = its.1; lacks = λ some. subst (LacksRoom list need) (last_is list segment first header it) lacks }

-- ---- the walk

pub walk_starts : (list : List PageImage) (segment need page : ℕ) → IsAllocated list → IsSegment segment → first_of list segment ≡ page → HasWalked list segment need 0 page
walk_starts list segment need page fine within at =
    let its = its_chain list segment fine within in
    record { front = []; behind = its.0; has = its.1; walk = subst (λ (from : ℕ). IsWalk (header_at list) from its.0) at its.1.walk; lacks = λ k d below. absurd (omega arith); counted = refl }

-- the page at which a walk stands is a page of the segment
module _ (list : List PageImage) (segment need count at : ℕ) (some : at ≢ 0) where
  owned_at : (front behind : List ℕ) → HasChain list segment (front ++ behind) → IsWalk (header_at list) at behind → IsOwned (length list) (header_at list) segment at
  owned_at front [] has walk = absurd (some walk)
  owned_at front (p ∷ pages) has walk =
      subst (IsOwned (length list) (header_at list) segment) (sym walk.0)
      (chain_owned (length list) (header_at list) (first_of list segment) segment p (front ++ p ∷ pages) has (Contains-append_right front (p ∷ pages) p (here p pages)))

  pub walk_headed : IsAllocated list → HasWalked list segment need count at → HasHeaderAt list at
  walk_headed fine it = owned_headed list segment at fine (owned_at it.front it.behind it.has it.walk)

  found_at : (front behind : List ℕ) → HasChain list segment (front ++ behind) → IsWalk (header_at list) at behind → All (LacksRoom list need) front → HasRoom list need at → IsFirstWithRoom list segment need at
  found_at front [] has walk lacks room = absurd (some walk)
  found_at front (p ∷ pages) has walk lacks room = record { front = front; behind = pages; has = subst (λ (q : ℕ). HasChain list segment (front ++ q ∷ pages)) (sym walk.0) has; before = lacks; room = room }

  pub walk_finds : HasWalked list segment need count at → HasRoom list need at → IsFirstWithRoom list segment need at
  walk_finds it room = found_at it.front it.behind it.has it.walk it.lacks room

  next_at : (front behind : List ℕ) (next : ℕ) → HasChain list segment (front ++ behind) → IsWalk (header_at list) at behind → All (LacksRoom list need) front → length front ≡ count → LacksRoom list need at → (header_at list at).next ≡ next
      → HasWalked list segment need (count + 1) next
  next_at front [] next has walk lacks counted lack seen = absurd (some walk)
  next_at front (p ∷ pages) next has walk lacks counted lack seen = record {
    front = front ++ at ∷ [];
    behind = pages;
    has = subst (HasChain list segment) (sym (append_assoc front (at ∷ []) pages)) (subst (λ (q : ℕ). HasChain list segment (front ++ q ∷ pages)) (sym walk.0) has);
    walk = subst (λ (from : ℕ). IsWalk (header_at list) from pages) (ap (λ (q : ℕ). (header_at list q).next) (sym walk.0) ∙ seen) walk.1;
    lacks = All-append (LacksRoom list need) front (at ∷ []) lacks (λ k d below. let first : k ≡ 0 = omega arith in subst (LacksRoom list need) (ap (λ (i : ℕ). get_or (at ∷ []) i d) (sym first)) lack);
    counted = length-append front (at ∷ []) ∙ ap (λ n. n + 1) counted;
  }

  pub walk_goes_on : (header : PageHeader) → HasWalked list segment need count at → header_at list at ≡ header → LacksRoom list need at → HasWalked list segment need (count + 1) header.next
  walk_goes_on header it seen lack = next_at it.front it.behind header.next it.has it.walk it.lacks it.counted lack (ap (λ (h : PageHeader). h.next) seen)

whole_chain : (list : List PageImage) (segment need : ℕ) (front behind : List ℕ) → HasChain list segment (front ++ behind) → All (LacksRoom list need) front → behind ≡ [] → LacksRoomAll list segment need
whole_chain list segment need front behind has lacks none =
    record { chain = front; has = subst (HasChain list segment) (ap (λ (l : List ℕ). front ++ l) none ∙ append-nil front) has; lacks = lacks }

-- the walk is over
pub walk_ends : (list : List PageImage) (segment need count : ℕ) → HasWalked list segment need count 0 → LacksRoomAll list segment need
walk_ends list segment need count it = ended it.front it.behind it.has it.walk it.lacks
  where
    ended : (front behind : List ℕ) → HasChain list segment (front ++ behind) → IsWalk (header_at list) 0 behind → All (LacksRoom list need) front → LacksRoomAll list segment need
    ended front [] has walk lacks = whole_chain list segment need front [] has lacks refl
    ended front (p ∷ pages) has walk lacks =
        let its = chain_owned (length list) (header_at list) (first_of list segment) segment p (front ++ p ∷ pages) has (Contains-append_right front (p ∷ pages) p (here p pages)) in
        let low = its.low in
        let at = walk.0 in
        absurd (omega arith)

-- a chain is no longer than the list
chain_short : (n : ℕ) (header : ℕ → PageHeader) (first segment : ℕ) (chain : List ℕ) → IsChain n header first segment chain → length chain ≤ n
chain_short n header first segment chain list =
    length-le_from_distinct_below chain n (IsDistinct-from_AllPairs Decides-eqb chain list.once)
    (λ q found. (chain_owned n header first segment q chain list (Contains-from_any eqb-true q chain found)).high)

nothing_left : (l : List ℕ) → length l ≡ 0 → l ≡ []
nothing_left [] none = refl
nothing_left (p ∷ pages) none = absurd (omega arith)

-- a walk over as many pages as there can be is over
pub walk_long : (list : List PageImage) (segment need count at : ℕ) → IsAllocated list → 16384 ≤ count → HasWalked list segment need count at → LacksRoomAll list segment need
walk_long list segment need count at fine long it =
    let short = chain_short (length list) (header_at list) (first_of list segment) segment (it.front ++ it.behind) it.has in
    let most : length list ≤ 16384 = fine.most in
    let parts = length-append it.front it.behind in
    let counted = it.counted in
    whole_chain list segment need it.front it.behind it.has it.lacks (nothing_left it.behind (omega arith))

-- ---- answers that are opened

pub open_last : {a b : PagesHeld} (segment need : ℕ) (answer known : Option PageNo) → answer ≡ known → Becomes a b (Sees (λ list. MatchOption answer (EndsFull list segment need) (λ page. EndsWithRoom list segment need page.0)))
    → Becomes a b (Sees (λ list. MatchOption known (EndsFull list segment need) (λ page. EndsWithRoom list segment need page.0)))
open_last {a} {b} segment need answer known same one = subst (λ (o : Option PageNo). Becomes a b (Sees (λ list. MatchOption o (EndsFull list segment need) (λ page. EndsWithRoom list segment need page.0)))) same one

pub open_first : {a b : PagesHeld} (segment need : ℕ) (answer known : Option PageNo) → answer ≡ known → Becomes a b (Sees (λ list. MatchOption answer (LacksRoomAll list segment need) (λ page. IsFirstWithRoom list segment need page.0)))
    → Becomes a b (Sees (λ list. MatchOption known (LacksRoomAll list segment need) (λ page. IsFirstWithRoom list segment need page.0)))
open_first {a} {b} segment need answer known same one = subst (λ (o : Option PageNo). Becomes a b (Sees (λ list. MatchOption o (LacksRoomAll list segment need) (λ page. IsFirstWithRoom list segment need page.0)))) same one

pub open_grown : {a b : PagesHeld} (segment : ℕ) (answer known : Option PageNo) → answer ≡ known → Becomes a b (λ old new. MatchOption answer ((new ≡ old) × HasFree old []) (λ page. Grows old new segment page.0))
    → Becomes a b (λ old new. MatchOption known ((new ≡ old) × HasFree old []) (λ page. Grows old new segment page.0))
open_grown {a} {b} segment answer known same one = subst (λ (o : Option PageNo). Becomes a b (λ old new. MatchOption o ((new ≡ old) × HasFree old []) (λ page. Grows old new segment page.0))) same one

pub placed_last : (old new : List PageImage) (segment need page : ℕ) → Sees (λ list. EndsWithRoom list segment need page) old new → Places old new segment need page
placed_last old new segment need page seen = last seen.1 seen.0

pub placed_grown : (old new : List PageImage) (segment need page : ℕ) → EndsFull old segment need → Grows old new segment page → Places old new segment need page
placed_grown old new segment need page full grows = grown full grows

pub placed_early : (old new : List PageImage) (segment need page : ℕ) → Sees (λ list. (EndsFull list segment need × HasFree list []) × IsFirstWithRoom list segment need page) old new → Places old new segment need page
placed_early old new segment need page seen = early seen.1.0.0 seen.1.0.1 seen.1.1 seen.0

pub full_segment : (old new : List PageImage) (segment need : ℕ) → Sees (λ list. (EndsFull list segment need × HasFree list []) × LacksRoomAll list segment need) old new → FindsNone old new segment need
full_segment old new segment need seen = record { same = seen.0; full = record { none_free = seen.1.0.1; none_with_room = seen.1.1 } }

-- ---- the pages listed

pub list_starts : (list : List PageImage) (segment page : ℕ) (listed : List ℕ) → IsAllocated list → IsSegment segment → listed ≡ [] → first_of list segment ≡ page → HasListed list segment 0 page listed
list_starts list segment page listed fine within none at =
    let its = its_chain list segment fine within in
    record {
      left = its.0;
      has = subst (λ (l : List ℕ). HasChain list segment (l ++ its.0)) (sym none) its.1;
      walk = subst (λ (from : ℕ). IsWalk (header_at list) from its.0) at its.1.walk;
      counted = ap (λ (l : List ℕ). length l) none;
    }

pub list_headed : (list : List PageImage) (segment count at : ℕ) (listed : List ℕ) → at ≢ 0 → IsAllocated list → HasListed list segment count at listed → HasHeaderAt list at
list_headed list segment count at listed some fine it = owned_headed list segment at fine (owned_at list segment 0 count at some listed it.left it.has it.walk)

pub list_goes_on : (list : List PageImage) (segment count at : ℕ) (listed more : List ℕ) (header : PageHeader) → at ≢ 0 → HasListed list segment count at listed → header_at list at ≡ header → more ≡ listed ++ at ∷ [] → HasListed list segment (count + 1) header.next more
list_goes_on list segment count at listed more header some it seen pushed = subst (HasListed list segment (count + 1) header.next) (sym pushed) (next it.left it.has it.walk)
  where
    next : (left : List ℕ) → HasChain list segment (listed ++ left) → IsWalk (header_at list) at left → HasListed list segment (count + 1) header.next (listed ++ at ∷ [])
    next [] has walk = absurd (some walk)
    next (p ∷ pages) has walk = record {
      left = pages;
      has = subst (HasChain list segment) (sym (append_assoc listed (at ∷ []) pages)) (subst (λ (q : ℕ). HasChain list segment (listed ++ q ∷ pages)) (sym walk.0) has);
      walk = subst (λ (from : ℕ). IsWalk (header_at list) from pages) (ap (λ (q : ℕ). (header_at list q).next) (sym walk.0) ∙ ap (λ (h : PageHeader). h.next) seen) walk.1;
      counted = length-append listed (at ∷ []) ∙ ap (λ n. n + 1) it.counted;
    }

list_whole : (list : List PageImage) (segment : ℕ) (listed left : List ℕ) → HasChain list segment (listed ++ left) → left ≡ [] → HasChain list segment listed
list_whole list segment listed left has none = subst (HasChain list segment) (ap (λ (l : List ℕ). listed ++ l) none ∙ append-nil listed) has

pub list_ends : (list : List PageImage) (segment count at : ℕ) (listed : List ℕ) → at ≡ 0 → HasListed list segment count at listed → HasChain list segment listed
list_ends list segment count at listed none it = list_whole list segment listed it.left it.has (ended it.left it.has it.walk)
  where
    ended : (left : List ℕ) → HasChain list segment (listed ++ left) → IsWalk (header_at list) at left → left ≡ []
    ended [] has walk = refl
    ended (p ∷ pages) has walk =
        let its = chain_owned (length list) (header_at list) (first_of list segment) segment p (listed ++ p ∷ pages) has (Contains-append_right listed (p ∷ pages) p (here p pages)) in
        let low = its.low in
        let from = walk.0 in
        absurd (omega arith)

pub list_long : (list : List PageImage) (segment count at : ℕ) (listed : List ℕ) → IsAllocated list → 16384 ≤ count → HasListed list segment count at listed → HasChain list segment listed
list_long list segment count at listed fine long it =
    let short = chain_short (length list) (header_at list) (first_of list segment) segment (listed ++ it.left) it.has in
    let most : length list ≤ 16384 = fine.most in
    let parts = length-append listed it.left in
    let counted = it.counted in
    list_whole list segment listed it.left it.has (nothing_left it.left (omega arith))

-- ---- the free list and the chains are one each

-- two walks from one page, neither of which comes to page 0, are one
walk_once : (header : ℕ → PageHeader) (from : ℕ) (one two : List ℕ) → IsWalk header from one → IsWalk header from two → All (λ page. 1 ≤ page) one → All (λ page. 1 ≤ page) two → one ≡ two
walk_once header from [] [] here there some also = refl
walk_once header from [] (p ∷ pages) here there some also = let low = also 0 p (omega arith) in let at = there.0 in absurd (omega arith)
walk_once header from (p ∷ pages) [] here there some also = let low = some 0 p (omega arith) in let at = here.0 in absurd (omega arith)
walk_once header from (p ∷ pages) (q ∷ others) here there some also =
    let same : p ≡ q = sym here.0 ∙ there.0 in
    ap (λ (n : ℕ). n ∷ pages) same
    ∙ ap (λ (l : List ℕ). q ∷ l) (walk_once header (header p).next pages others here.1 (subst (λ (n : ℕ). IsWalk header (header n).next others) (sym same) there.1) (λ k d below. some (suc k) d (omega arith)) (λ k d below. also (suc k) d (omega arith)))

pub chain_once : (list : List PageImage) (segment : ℕ) (one two : List ℕ) → HasChain list segment one → HasChain list segment two → one ≡ two
chain_once list segment one two here there =
    walk_once (header_at list) (first_of list segment) one two here.walk there.walk (λ k d below. let there_is = here.pages k d below in let low = there_is.0 in omega arith) (λ k d below. let there_is = there.pages k d below in let low = there_is.0 in omega arith)

pub free_once : (list : List PageImage) (one two : List ℕ) → HasFree list one → HasFree list two → one ≡ two
free_once list one two here there =
    walk_once (header_at list) (header_at list 0).next one two here.walk there.walk (λ k d below. let there_is = here.pages k d below in let low = there_is.0 in omega arith) (λ k d below. let there_is = there.pages k d below in let low = there_is.0 in omega arith)

-- a page of the chain of a segment of which no page has room has none
lacks_there : (list : List PageImage) (segment need page : ℕ) (chain : List ℕ) → LacksRoomAll list segment need → HasChain list segment chain → Contains chain page → HasRoom list need page → ⊥
lacks_there list segment need page chain it has there room =
    let lack : LacksRoom list need page = All-contains (LacksRoom list need) it.chain page it.lacks (subst (λ (l : List ℕ). Contains l page) (chain_once list segment chain it.chain has it.has) there) in
    omega arith

pub last_there : (chain : List ℕ) → chain ≢ [] → Contains chain (last_of chain)
last_there [] some = absurd (some refl)
last_there (p ∷ pages) some = last_in p pages

none_grown : (page : ℕ) (rest : List ℕ) → page ∷ rest ≡ [] → ⊥
none_grown page rest same = let long = ap (λ (l : List ℕ). length l) same in omega arith

pub full_or_placed : (old new : List PageImage) (segment need page : ℕ) → IsFull old segment need → Places old new segment need page → ⊥
full_or_placed old new segment need page full (last it same) = lacks_there old segment need page it.chain full.none_with_room it.has (subst (Contains it.chain) (sym it.last) (last_there it.chain it.some)) it.room
full_or_placed old new segment need page full (grown lacks it) = none_grown page it.free.0 (free_once old (page ∷ it.free.0) [] it.free.1 full.none_free)
full_or_placed old new segment need page full (early lacks none it same) =
    lacks_there old segment need page (it.front ++ page ∷ it.behind) full.none_with_room it.has (Contains-append_right it.front (page ∷ it.behind) page (here page it.behind)) it.room
