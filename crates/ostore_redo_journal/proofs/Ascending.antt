-- Pages in ascending order.
use Rattle.std.proofs.Common.{◌≡◌, ◌⊎◌, ◌↔◌, inl, inr, ℕ, zero, suc, ◌+◌, ◌-◌, ◌<◌, ◌≤◌, ◌≢◌, List, [], ◌∷◌, ◌++◌, All, length, take, drop, sym, subst, arith, length-drop}
use Rattle.std.proofs.lemmas.List.{take_all}
use Rattle.std.proofs.lemmas.List.Elements.{All-append, All-cons, All-nil}
use Rattle.std.proofs.lemmas.List.Kept.{AllPairs-cons}
use Rattle.ostore_base.specs.declared.numbers.PageNo.{PageNo}
use Rattle.ostore_base.specs.declared.page.PageImage.{PageImage}
use Rattle.ostore_redo_journal.specs.Drafts.{Writes, Draft, Ascends, IsAbove}
use Rattle.ostore_redo_journal.specs.inside.Room.{IsFit}
use Rattle.ostore_redo_journal.specs.Records.{AreAscending, IsLawful, logged, pages_of, u32_at}

pub whole_rest : (n : ℕ) (bs : List ℕ) → n ≤ length bs → take (length bs - n) (drop n bs) ≡ drop n bs
whole_rest n bs le = take_all (length bs - n) (drop n bs) (omega (arith, length-drop n bs))

-- where the first is right, the others decide
pub goes_on : (low limit left less : ℕ) (bs : List ℕ) → left ≡ less + 1 → low ≤ u32_at bs 0 → u32_at bs 0 < limit → (AreAscending low limit (pages_of left bs) ↔ AreAscending (u32_at bs 0 + 1) limit (pages_of less (drop 4100 bs)))
goes_on low limit zero less bs one above below = absurd (omega arith)
goes_on low limit (suc k) less bs one above below =
    let same : k ≡ less = omega arith in
    let Rest = λ (n : ℕ). AreAscending (u32_at bs 0 + 1) limit (pages_of n (drop 4100 bs)) in
    (λ all. subst Rest same all.2, λ rest. (above, below, subst Rest (sym same) rest))

pub refuses : (low limit left page : ℕ) (bs : List ℕ) → 0 < left → page ≡ u32_at bs 0 → (page < low) ⊎ (limit ≤ page) → AreAscending low limit (pages_of left bs) → ⊥
refuses low limit zero page bs some is wrong all = absurd (omega arith)
refuses low limit (suc k) page bs some is (inl under) all = omega (arith, all.0)
refuses low limit (suc k) page bs some is (inr over) all = omega (arith, all.1)

-- pages that ascend, at low or above and below the limit
pub ascending_of : (low limit : ℕ) (ps : Writes) → Ascends ps → IsAbove ps limit → All (λ (p : PageNo × PageImage). low ≤ p.0.0) ps → AreAscending low limit ps
ascending_of low limit [] ascends above from = tt
ascending_of low limit (p ∷ ps) ascends above from = (
  from 0 p (omega arith),
  above 0 p (omega arith),
  ascending_of (p.0.0 + 1) limit ps (λ i j d lt within. ascends (suc i) (suc j) d (omega (arith, lt)) (omega (arith, within))) (λ k d within. above (suc k) d (omega (arith, within)))
      (λ k d within. let next = ascends 0 (suc k) d (omega arith) (omega (arith, within)) in omega (arith, next)),
)

-- so many there are at most
few : (low limit : ℕ) (ps : Writes) → low ≤ limit → AreAscending low limit ps → low + length ps ≤ limit
few low limit [] le ascending = omega (arith, le)
few low limit (p ∷ ps) le ascending =
    let rest = few (p.0.0 + 1) limit ps (omega (arith, ascending.1)) ascending.2 in
    omega (arith, rest, ascending.0)

pub few_pages : (limit : ℕ) (ps : Writes) → Ascends ps → IsAbove ps limit → length ps ≤ limit
few_pages limit ps ascends above = let all = few 0 limit ps (omega arith) (ascending_of 0 limit ps ascends above (λ k d within. omega arith)) in omega (arith, all)

-- what a record says that fits its bytes is lawful
pub lawful_of : (limit : ℕ) (draft : Draft) → IsFit draft → IsAbove draft.pages limit → draft.ordinal ≢ 0 → IsLawful limit (logged draft)
lawful_of limit draft fit above some = record {
  client = fit.client;
  ordinal = omega (arith, some);
  ordinal_fits = fit.ordinal;
  count = fit.count;
  whole = fit.whole;
  ascending = ascending_of 0 limit draft.pages fit.ascends above (λ k d within. omega arith);
}

-- one more that is above all
pub ascends_push : (ps : Writes) (page : PageNo) (image : PageImage) → Ascends ps → IsAbove ps page.0 → Ascends (ps ++ (page, image) ∷ [])
ascends_push [] page image ascends above = λ i j d lt within. absurd (omega (arith, lt, within))
ascends_push (p ∷ ps) page image ascends above =
    AllPairs-cons (λ (earlier later : PageNo × PageImage). earlier.0.0 < later.0.0) p (ps ++ (page, image) ∷ [])
    (All-append (λ (later : PageNo × PageImage). p.0.0 < later.0.0) ps ((page, image) ∷ []) (λ k d within. ascends 0 (suc k) d (omega arith) (omega (arith, within)))
    (All-cons (λ (later : PageNo × PageImage). p.0.0 < later.0.0) (page, image) [] (above 0 p (omega arith)) (All-nil (λ (later : PageNo × PageImage). p.0.0 < later.0.0))))
    (ascends_push ps page image (λ i j d lt within. ascends (suc i) (suc j) d (omega (arith, lt)) (omega (arith, within))) (λ k d within. above (suc k) d (omega (arith, within))))
