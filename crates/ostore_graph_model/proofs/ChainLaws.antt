-- Chains are determined by where they begin, and what is reached from there is what is in them.
use Rattle.std.proofs.Common.{◌≡◌, ◌≢◌, ◌⊎◌, ℕ, List, [], ◌∷◌, ◌++◌, refl, sym, ap, subst, ◌∙◌, Option, Some, inl, inr}
use Rattle.std.proofs.lemmas.Bool.{cases_eq}
use Rattle.std.proofs.lemmas.Option.{same_Some}
use Rattle.ostore_graph_model.specs.Chains.{IsIn, ChainLink, next_of, chunk_tag, IsChain}
use Rattle.ostore_graph_model.specs.Heap.{Heap, code_at, live_cell}
use Rattle.ostore_graph_model.specs.Owners.{ChainHead, IsWalk, Reaches}
use Rattle.ostore_graph_model.specs.Records.{Links, RowTag, HeapCell}
use Rattle.ostore_graph_model.proofs.HeapLaws.{code_of, links_are}
use Rattle.ostore_graph_model.proofs.ItemLaws.{walk_on}

pub in_or_not : (address : ℕ) (chain : List ChainLink) → IsIn address chain ⊎ (IsIn address chain → ⊥)
in_or_not address [] = inr (λ h. h)
in_or_not address (one ∷ others) = elim (cases_eq address one.address) [
  | inl same ↦ inl (inl same)
  | inr apart ↦ elim (in_or_not address others) [
    | inl there ↦ inl (inr there)
    | inr away ↦ inr (λ h. elim h [ inl same ↦ apart same | inr there ↦ away there ])
  ]
]

same_links : (tag : RowTag) (links held : Links) → ◌≡◌ {A = Option HeapCell} (Some (live_cell tag links)) (Some (live_cell tag held)) → links ≡ held
same_links tag links held e = ap (λ (c : HeapCell). c.links) (same_Some _ _ e)

pub chain_unique : (heap : Heap) (code segment pointer : ℕ) (one other : List ChainLink) → IsChain heap code segment pointer one → IsChain heap code segment pointer other → one ≡ other
chain_unique heap code segment pointer [] [] first second = refl
chain_unique heap code segment pointer [] (y ∷ ys) first second = absurd (second.0 first)
chain_unique heap code segment pointer (x ∷ xs) [] first second = absurd (first.0 second)
chain_unique heap code segment pointer (x ∷ xs) (y ∷ ys) first second =
    let links = same_links (chunk_tag code segment) x.links y.links (sym first.2 ∙ second.2) in
    let address = first.1 ∙ sym second.1 in
    let rest = chain_unique heap code segment (next_of y.links) xs ys (subst (λ l. IsChain heap code segment (next_of l) xs) links first.3) second.3 in
    λ i. record { address = address i; links = links i } ∷ rest i

-- what is in a chain stands in the heap
pub in_chain : (heap : Heap) (code segment pointer : ℕ) (chain : List ChainLink) (address : ℕ) → IsChain heap code segment pointer chain → IsIn address chain → (links : Links) × (heap address ≡ Some (live_cell (chunk_tag code segment) links))
in_chain heap code segment pointer [] address linked there = absurd there
in_chain heap code segment pointer (one ∷ others) address linked there = elim there [
  | inl same ↦ (one.links, ap heap (same ∙ linked.1) ∙ linked.2)
  | inr rest ↦ in_chain heap code segment (next_of one.links) others address linked.3 rest
]

pub in_some : (heap : Heap) (code segment pointer : ℕ) (chain : List ChainLink) (address : ℕ) → IsChain heap code segment pointer chain → IsIn address chain → address ≢ 0
in_some heap code segment pointer [] address linked there = absurd there
in_some heap code segment pointer (one ∷ others) address linked there = elim there [
  | inl same ↦ λ none. linked.0 (sym (same ∙ linked.1) ∙ none)
  | inr rest ↦ in_some heap code segment (next_of one.links) others address linked.3 rest
]

-- a chain whose cells are as they were is a chain
pub chain_moved : (heap now : Heap) (code segment pointer : ℕ) (chain : List ChainLink) → ((address : ℕ) → IsIn address chain → now address ≡ heap address) → IsChain heap code segment pointer chain → IsChain now code segment pointer chain
chain_moved heap now code segment pointer [] same linked = linked
chain_moved heap now code segment pointer (one ∷ others) same linked =
    (linked.0, linked.1, same pointer (inl (sym linked.1)) ∙ linked.2, chain_moved heap now code segment (next_of one.links) others (λ a there. same a (inr there)) linked.3)

-- from the beginning of a chain all in it is reached
in_reached : (heap : Heap) (head : ChainHead) (before : List ChainLink) (pointer : ℕ) (chain : List ChainLink) (address : ℕ) → IsWalk heap head.code head.first before pointer → IsChain heap head.code head.segment pointer chain → IsIn address chain → Reaches heap head address
in_reached heap head before pointer [] address walk linked there = absurd there
in_reached heap head before pointer (one ∷ others) address walk linked there = elim there [
  | inl same ↦
      let at : address ≡ pointer = same ∙ linked.1 in
      record {
        before = before;
        walk = subst (IsWalk heap head.code head.first before) (sym at) walk;
        some = λ none. linked.0 (sym at ∙ none);
        there = ap (code_at heap) at ∙ code_of heap pointer _ linked.2;
      }
  | inr rest ↦
      in_reached heap head (before ++ one ∷ []) (next_of one.links) others address
      (walk_on heap head.code head.first before pointer one walk linked.0 linked.1 (code_of heap pointer _ linked.2) (links_are heap pointer _ linked.2)) linked.3 rest
]

pub in_reaches : (heap : Heap) (head : ChainHead) (chain : List ChainLink) (address : ℕ) → IsChain heap head.code head.segment head.first chain → IsIn address chain → Reaches heap head address
in_reaches heap head chain address linked there = in_reached heap head [] head.first chain address refl linked there

-- and nothing else
walked_in : (heap : Heap) (code segment pointer : ℕ) (walk chain : List ChainLink) (address : ℕ) → IsWalk heap code pointer walk address → address ≢ 0 → IsChain heap code segment pointer chain → IsIn address chain
walked_in heap code segment pointer [] [] address walk some linked = absurd (some (sym walk ∙ linked))
walked_in heap code segment pointer [] (one ∷ others) address walk some linked = inl (sym walk ∙ sym linked.1)
walked_in heap code segment pointer (step ∷ walk) [] address is some linked = absurd (is.0 linked)
walked_in heap code segment pointer (step ∷ walk) (one ∷ others) address is some linked =
    let links : step.links ≡ one.links = same_Some _ _ (sym is.3 ∙ links_are heap pointer _ linked.2) in
    inr (walked_in heap code segment (next_of one.links) walk others address (subst (λ l. IsWalk heap code (next_of l) walk address) links is.4) some linked.3)

pub reaches_in : (heap : Heap) (head : ChainHead) (chain : List ChainLink) (address : ℕ) → IsChain heap head.code head.segment head.first chain → Reaches heap head address → IsIn address chain
reaches_in heap head chain address linked reaches = walked_in heap head.code head.segment head.first reaches.before chain address reaches.walk reaches.some linked
