-- The free list and the chains once the head of the free list has gone to the end of a chain.
use Rattle.std.proofs.Common.{◌≡◌, ◌≢◌, ℕ, zero, suc, ◌<◌, ◌≤◌, Bool, cond, eqb, List, [], ◌∷◌, ◌++◌, length, get_or, refl, sym, ap, subst, ◌∙◌, arith, inl, inr}
use Rattle.std.specs.List.{AllPairs, Contains}
use Rattle.std.proofs.lemmas.Bool.{cases_eq, eq-eqb, ne_eqb}
use Rattle.std.proofs.lemmas.List.Elements.{All-contains, All-append, Contains-append_left, Contains-append_right}
use Rattle.std.proofs.lemmas.List.Quantifiers.{all_pairs_push}
use Rattle.ostore_page_tags.specs.declared.page_header.PageHeader.{PageHeader}
use Rattle.ostore_page_tags.specs.PageChains.{IsWalk, last_of, IsSegment, IsOpen, HasHeader, IsNoFirst, IsReached, IsFreeList, IsChain, AreChained}
use Rattle.ostore_page_tags.proofs.allocation.ChainLaws.{here, later, walk_same, IsOwned, chain_owned, chain_first}

pub last_in : (page : ℕ) (pages : List ℕ) → Contains (page ∷ pages) (last_of (page ∷ pages))
last_in page [] = here page []
last_in page (next ∷ pages) = later (last_of (next ∷ pages)) page (next ∷ pages) (last_in next pages)

pub last_pushed : (pages : List ℕ) (page : ℕ) → last_of (pages ++ page ∷ []) ≡ page
last_pushed [] page = refl
last_pushed (first ∷ []) page = refl
last_pushed (first ∷ next ∷ pages) page = last_pushed (next ∷ pages) page

pairs_tail : (page : ℕ) (pages : List ℕ) → AllPairs (λ x y. x ≢ y) (page ∷ pages) → AllPairs (λ x y. x ≢ y) pages
pairs_tail page pages once = λ i j d before below. once (suc i) (suc j) d (omega arith) (omega arith)

pairs_head : (page other : ℕ) (pages : List ℕ) → AllPairs (λ x y. x ≢ y) (page ∷ pages) → Contains pages other → page ≢ other
pairs_head page other pages once there = λ same. let below = there.1 in once 0 (suc there.0) other (omega arith) (omega arith) (same ∙ sym there.2)

-- a walk goes one page further
walk_more : (old new : ℕ → PageHeader) (from page first : ℕ) (pages : List ℕ) → AllPairs (λ x y. x ≢ y) (first ∷ pages)
    → ((q : ℕ) → Contains (first ∷ pages) q → q ≢ last_of (first ∷ pages) → (new q).next ≡ (old q).next)
    → (new (last_of (first ∷ pages))).next ≡ page → (new page).next ≡ 0 → IsWalk old from (first ∷ pages) → IsWalk new from (first ∷ pages ++ page ∷ [])
walk_more old new from page first [] once same link end walk = (walk.0, (link, end))
walk_more old new from page first (next ∷ pages) once same link end walk =
    let apart = pairs_head first (last_of (next ∷ pages)) (next ∷ pages) once (last_in next pages) in (
      walk.0,
      subst (λ (to : ℕ). IsWalk new to (next ∷ pages ++ page ∷ [])) (sym (same first (here first (next ∷ pages)) apart))
          (walk_more old new (old first).next page next pages (pairs_tail first (next ∷ pages) once) (λ q there other. same q (later q first (next ∷ pages) there) other) link end walk.1),
    )

-- what the headers and first pages are before and after
pub record Growth (n : ℕ) (old new : ℕ → PageHeader) (first begin : ℕ → ℕ) (rest : List ℕ) (chain : ℕ → List ℕ) (owner page : ℕ) : Type 0 where
  pub linked : AreChained n old first (page ∷ rest) chain
  pub owned : IsSegment owner
  pub front : (new 0).next ≡ (old page).next
  pub front_last : (new 0).last_page ≡ (old 0).last_page
  pub kind : (new page).kind ≡ 2
  pub segment : (new page).segment ≡ owner
  pub next : (new page).next ≡ 0
  pub serial : (new page).last_serial ≡ 0
  pub mark : begin owner ≢ page → (new page).last_page ≡ 0
  pub kinds : (q : ℕ) → q ≢ page → (new q).kind ≡ (old q).kind
  pub segments : (q : ℕ) → q ≢ page → (new q).segment ≡ (old q).segment
  pub serials : (q : ℕ) → q ≢ page → (new q).last_serial ≡ (old q).last_serial
  pub nexts : (q : ℕ) → q ≢ 0 → q ≢ page → q ≢ last_of (chain owner) → (new q).next ≡ (old q).next
  pub link : first owner ≢ 0 → (new (last_of (chain owner))).next ≡ page
  pub lasts : (q : ℕ) → q ≢ 0 → q ≢ page → q ≢ first owner → (new q).last_page ≡ (old q).last_page
  pub last : (new (begin owner)).last_page ≡ page
  pub firsts : (other : ℕ) → IsSegment other → other ≢ owner → begin other ≡ first other
  pub stays : first owner ≢ 0 → begin owner ≡ first owner
  pub begins : first owner ≡ 0 → begin owner ≡ page

module _ (n : ℕ) (old new : ℕ → PageHeader) (first begin : ℕ → ℕ) (rest : List ℕ) (chain : ℕ → List ℕ) (owner page : ℕ) (it : Growth n old new first begin rest chain owner page) where
  pub record IsFreeHere (q : ℕ) : Type 0 where
    pub low : 10 ≤ q
    pub high : q < n
    pub kind : (old q).kind ≡ 1

  abbrev pub Owned : ℕ → ℕ → Type 0
  Owned segment q = IsOwned n old segment q

  free_here : (free : List ℕ) (q : ℕ) → IsFreeList n old free → Contains free q → IsFreeHere q
  free_here free q list there =
      let there_is = All-contains (IsOpen n) free q list.pages there in
      record { low = there_is.0; high = there_is.1; kind = All-contains (λ (p : ℕ). (old p).kind ≡ 1) free q list.kinds there }

  pub page_free : IsFreeHere page
  page_free = free_here (page ∷ rest) page it.linked.free_list (here page rest)

  rest_free : (q : ℕ) → Contains rest q → IsFreeHere q
  rest_free q there = free_here (page ∷ rest) q it.linked.free_list (later q page rest there)

  its_owned : (segment q : ℕ) (pages : List ℕ) → IsChain n old (first segment) segment pages → Contains pages q → Owned segment q
  its_owned segment q pages list there = chain_owned n old (first segment) segment q pages list there

  -- the chain of the segment
  old_chain : IsChain n old (first owner) owner (chain owner)
  old_chain = it.linked.chains owner it.owned

  last_owned : (pages : List ℕ) → IsChain n old (first owner) owner pages → first owner ≢ 0 → Owned owner (last_of pages)
  last_owned [] list some = absurd (some list.walk)
  last_owned (p ∷ pages) list some = its_owned owner (last_of (p ∷ pages)) (p ∷ pages) list (last_in p pages)

  -- a page that isn't of the segment isn't its last page
  not_last : (q : ℕ) → 10 ≤ q → (Owned owner q → ⊥) → q ≢ last_of (chain owner)
  not_last q low none same = elim (cases_eq (first owner) 0) [
    | inl empty ↦ let zero : last_of (chain owner) ≡ 0 = empty_last (chain owner) old_chain empty in omega arith
    | inr some ↦ none (subst (Owned owner) (sym same) (last_owned (chain owner) old_chain some))
  ]
    where
      empty_last : (pages : List ℕ) → IsChain n old (first owner) owner pages → first owner ≡ 0 → last_of pages ≡ 0
      empty_last [] list none = refl
      empty_last (p ∷ pages) list none = let fine = list.pages 0 p (omega arith) in let at = list.walk.0 in let low = fine.0 in absurd (omega arith)

  pub new_free : IsFreeList n new rest
  new_free = record {
    walk = subst (λ (from : ℕ). IsWalk new from rest) (sym it.front) (walk_same old new (old page).next rest
        (λ q there.
        let free = rest_free q there in
        let low = free.low in
        it.nexts q (λ zero. omega arith) (λ same. pairs_head page q rest it.linked.free_list.once there (sym same)) (not_last q low (λ owned. let a = free.kind in let b = owned.kind in omega arith)))
        it.linked.free_list.walk.1);
    pages = λ k d below. it.linked.free_list.pages (suc k) d (omega arith);
    kinds = λ k d below.
        let apart = it.linked.free_list.once 0 (suc k) d (omega arith) (omega arith) in
        it.kinds _ (λ same. apart (sym same)) ∙ it.linked.free_list.kinds (suc k) d (omega arith);
    once = pairs_tail page rest it.linked.free_list.once;
  }

  apart_page : (segment q : ℕ) → Owned segment q → q ≢ page
  apart_page segment q owned same = let a = owned.kind in let b = page_free.kind in let c = ap (λ (p : ℕ). (old p).kind) same in omega arith

  kind_after : (segment q : ℕ) → Owned segment q → (new q).kind ≡ 2
  kind_after segment q owned = it.kinds q (apart_page segment q owned) ∙ owned.kind

  owner_after : (segment q : ℕ) → Owned segment q → (new q).segment ≡ segment
  owner_after segment q owned = it.segments q (apart_page segment q owned) ∙ owned.segment

  -- the page at place k of a chain
  owned_at : (segment : ℕ) (pages : List ℕ) → IsChain n old (first segment) segment pages → (k d : ℕ) → k < length pages → Owned segment (get_or pages k d)
  owned_at segment pages list k d below =
      let there_is = list.pages k d below in
      record { low = there_is.0; high = there_is.1; kind = list.kinds k d below; segment = list.owner k d below }

  -- what holds of the chain's pages and of the page holds of all
  all_more : (P : ℕ → Type 0) → ((k d : ℕ) → k < length (chain owner) → P (get_or (chain owner) k d)) → P page → (k d : ℕ) → k < length (chain owner ++ page ∷ []) → P (get_or (chain owner ++ page ∷ []) k d)
  all_more P were now = All-append P (chain owner) (page ∷ []) were (λ k d below. let first : k ≡ 0 = omega arith in subst P (ap (λ (i : ℕ). get_or (page ∷ []) i d) (sym first)) now)

  -- ---- the chains

  -- the segment's chain and the page
  more_walk : (pages : List ℕ) → IsChain n old (first owner) owner pages → last_of pages ≡ last_of (chain owner) → IsWalk new (begin owner) (pages ++ page ∷ [])
  more_walk [] list same = (it.begins list.walk, it.next)
  more_walk (p ∷ pages) list same =
      let there_is = list.pages 0 p (omega arith) in
      let low = there_is.0 in
      let at = list.walk.0 in
      let some : first owner ≢ 0 = λ none. omega arith in
      subst (λ (from : ℕ). IsWalk new from (p ∷ pages ++ page ∷ [])) (sym (it.stays some))
      (walk_more old new (first owner) page p pages list.once
      (λ q there other. let its = its_owned owner q (p ∷ pages) list there in let above = its.low in it.nexts q (λ zero. omega arith) (apart_page owner q its) (λ late. other (late ∙ sym same)))
      (ap (λ (l : ℕ). (new l).next) same ∙ it.link some) it.next list.walk)

  pub more_chain : IsChain n new (begin owner) owner (chain owner ++ page ∷ [])
  more_chain =
      let list = old_chain in
      let free = page_free in
      record {
        walk = more_walk (chain owner) list refl;
        pages = all_more (IsOpen n) list.pages (free.low, free.high);
        kinds = all_more (λ (q : ℕ). (new q).kind ≡ 2) (λ k d below. kind_after owner _ (owned_at owner (chain owner) list k d below)) it.kind;
        owner = all_more (λ (q : ℕ). (new q).segment ≡ owner) (λ k d below. owner_after owner _ (owned_at owner (chain owner) list k d below)) it.segment;
        once = all_pairs_push (λ x y. x ≢ y) (chain owner) page list.once (λ k d below. apart_page owner _ (owned_at owner (chain owner) list k d below));
        last = it.last ∙ sym (last_pushed (chain owner) page);
      }

  -- another segment's chain
  pub other_chain : (other : ℕ) (pages : List ℕ) → IsSegment other → other ≢ owner → IsChain n old (first other) other pages → IsChain n new (begin other) other pages
  other_chain other pages within apart list =
      let none : (q : ℕ) → Owned other q → q ≢ last_of (chain owner) = λ q owned. not_last q owned.low (λ also. apart (sym owned.segment ∙ also.segment)) in
      subst (λ (from : ℕ). IsChain n new from other pages) (sym (it.firsts other within apart)) (record {
        walk = walk_same old new (first other) pages
            (λ q there. let owned = its_owned other q pages list there in let low = owned.low in it.nexts q (λ zero. omega arith) (apart_page other q owned) (none q owned)) list.walk;
        pages = list.pages;
        kinds = λ k d below. kind_after other _ (owned_at other pages list k d below);
        owner = λ k d below. owner_after other _ (owned_at other pages list k d below);
        once = list.once;
        last = last_kept ∙ list.last;
      })
    where
      first_apart : first other ≢ 0 → first other ≢ first owner
      first_apart some same =
          let mine = chain_first n old (first other) other pages list some in
          let theirs = chain_first n old (first owner) owner (chain owner) old_chain (λ zero. some (same ∙ zero)) in
          apart (sym mine.segment ∙ ap (λ (p : ℕ). (old p).segment) same ∙ theirs.segment)

      last_kept : (new (first other)).last_page ≡ (old (first other)).last_page
      last_kept = elim (cases_eq (first other) 0) [
        | inl empty ↦ ap (λ (p : ℕ). (new p).last_page) empty ∙ it.front_last ∙ ap (λ (p : ℕ). (old p).last_page) (sym empty)
        | inr some ↦
            let mine = chain_first n old (first other) other pages list some in
            it.lasts (first other) some (apart_page other (first other) mine) (first_apart some)
      ]

  -- ---- all of them

  abbrev pub grown_chain : ℕ → List ℕ
  grown_chain other = cond (eqb other owner) (chain owner ++ page ∷ []) (chain other)

  here_chain : grown_chain owner ≡ chain owner ++ page ∷ []
  here_chain = ap (λ (b : Bool). cond b (chain owner ++ page ∷ []) (chain owner)) (eq-eqb owner owner refl)

  there_chain : (other : ℕ) → other ≢ owner → grown_chain other ≡ chain other
  there_chain other apart = ap (λ (b : Bool). cond b (chain owner ++ page ∷ []) (chain other)) (ne_eqb other owner apart)

  grown_chains : (other : ℕ) → IsSegment other → IsChain n new (begin other) other (grown_chain other)
  grown_chains other within = elim (cases_eq other owner) [
    | inl same ↦ subst (λ (t : ℕ). IsChain n new (begin t) t (grown_chain t)) (sym same) (subst (IsChain n new (begin owner) owner) (sym here_chain) more_chain)
    | inr apart ↦ subst (IsChain n new (begin other) other) (sym (there_chain other apart)) (other_chain other (chain other) within apart (it.linked.chains other within))
  ]

  grown_reached : (q : ℕ) → IsOpen n q → IsReached rest grown_chain q
  grown_reached q there_is = elim (cases_eq q page) [
    | inl same ↦ inr (owner, it.owned, subst (λ (l : List ℕ). Contains l q) (sym here_chain) (subst (Contains (chain owner ++ page ∷ [])) (sym same) (Contains-append_right (chain owner) (page ∷ []) page (here page []))))
    | inr apart ↦ elim (it.linked.reached q there_is) [
      | inl free ↦ inl (without free apart)
      | inr (segment, within, there) ↦ elim (cases_eq segment owner) [
        | inl mine ↦ inr (owner, it.owned, subst (λ (l : List ℕ). Contains l q) (sym here_chain) (Contains-append_left (chain owner) (page ∷ []) q (subst (λ (t : ℕ). Contains (chain t) q) mine there)))
        | inr theirs ↦ inr (segment, within, subst (λ (l : List ℕ). Contains l q) (sym (there_chain segment theirs)) there)
      ]
    ]
  ]
    where
      tail : (k : ℕ) → k < length (page ∷ rest) → get_or (page ∷ rest) k q ≡ q → q ≢ page → Contains rest q
      tail zero below at apart = absurd (apart (sym at))
      tail (suc k) below at apart = (k, omega arith, at)

      without : Contains (page ∷ rest) q → q ≢ page → Contains rest q
      without there apart = tail there.0 there.1 there.2 apart

  early_first : (q : ℕ) → IsNoFirst begin q → IsNoFirst first q
  early_first q none segment within at = elim (cases_eq segment owner) [
    | inl mine ↦ elim (cases_eq (first owner) 0) [
      | inl empty ↦ sym at ∙ ap first mine ∙ empty
      | inr some ↦ none owner it.owned (it.stays some ∙ ap first (sym mine) ∙ at)
    ]
    | inr theirs ↦ none segment within (it.firsts segment within theirs ∙ at)
  ]

  -- what holds of the page, where it is no first page, and of the others holds of all
  mark_of : (f : PageHeader → ℕ) → ((q : ℕ) → HasHeader n q → IsNoFirst first q → f (old q) ≡ 0) → (begin owner ≢ page → f (new page) ≡ 0) → ((q : ℕ) → q ≢ page → IsNoFirst begin q → f (new q) ≡ f (old q))
      → (q : ℕ) → HasHeader n q → IsNoFirst begin q → f (new q) ≡ 0
  mark_of f were now kept q known none = elim (cases_eq q page) [
    | inl same ↦
        let low = page_free.low in
        let other : begin owner ≢ page = λ at. let zero = none owner it.owned (at ∙ sym same) in omega arith in
        ap (λ (p : ℕ). f (new p)) same ∙ now other
    | inr apart ↦ kept q apart none ∙ were q known (early_first q none)
  ]

  last_kept_at : (q : ℕ) → q ≢ page → IsNoFirst begin q → (new q).last_page ≡ (old q).last_page
  last_kept_at q apart none = elim (cases_eq q 0) [
    | inl front ↦ ap (λ (p : ℕ). (new p).last_page) front ∙ it.front_last ∙ ap (λ (p : ℕ). (old p).last_page) (sym front)
    | inr some ↦ it.lasts q some apart (λ at. some (early_first q none owner it.owned (sym at)))
  ]

  pub grown_linked : AreChained n new begin rest grown_chain
  grown_linked = record {
    free_list = new_free;
    chains = grown_chains;
    reached = grown_reached;
    last_pages = mark_of (λ h. h.last_page) it.linked.last_pages it.mark last_kept_at;
    counters = mark_of (λ h. h.last_serial) it.linked.counters (λ other. it.serial) (λ q apart none. it.serials q apart);
  }

  -- no serial is drawn by growth
  pub grown_counters : (other : ℕ) → IsSegment other → (new (begin other)).last_serial ≡ (old (first other)).last_serial
  grown_counters other within = elim (cases_eq other owner) [
    | inl same ↦ subst (λ (t : ℕ). (new (begin t)).last_serial ≡ (old (first t)).last_serial) (sym same) (elim (cases_eq (first owner) 0) [
      | inl empty ↦
          let none = it.linked.counters 0 (inl refl) (λ segment also at. refl) in
          ap (λ (p : ℕ). (new p).last_serial) (it.begins empty) ∙ it.serial ∙ sym none ∙ ap (λ (p : ℕ). (old p).last_serial) (sym empty)
      | inr some ↦
          let mine = chain_first n old (first owner) owner (chain owner) old_chain some in
          ap (λ (p : ℕ). (new p).last_serial) (it.stays some) ∙ it.serials (first owner) (apart_page owner (first owner) mine)
    ])
    | inr apart ↦ ap (λ (p : ℕ). (new p).last_serial) (it.firsts other within apart) ∙ it.serials (first other) (elim (cases_eq (first other) 0) [
      | inl empty ↦ λ at. let free = page_free in let low = free.low in omega arith
      | inr some ↦
          let mine = chain_first n old (first other) other (chain other) (it.linked.chains other within) some in
          apart_page other (first other) mine
    ])
  ]
