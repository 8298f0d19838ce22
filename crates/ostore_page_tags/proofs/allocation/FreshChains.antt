-- The free list of a fresh database: all pages from 10 on, ascending, and no chain.
use Rattle.std.proofs.Common.{◌≡◌, ℕ, zero, suc, ◌+◌, ◌-◌, ◌<◌, ◌≤◌, List, [], length, get_or, refl, sym, ap, subst, ◌∙◌, arith, inl}
use Rattle.std.specs.List.{range_with_len}
use Rattle.std.proofs.lemmas.List.FromFn.{length-range_with_len, get_or-range_with_len}
use Rattle.ostore_page_tags.specs.declared.page_header.PageHeader.{PageHeader}
use Rattle.ostore_page_tags.specs.PageChains.{IsWalk, IsSegment, HasHeader, AreChained}

-- each free page leads to the next one, and the last one to none
pub record IsFresh (n : ℕ) (header : ℕ → PageHeader) (first : ℕ → ℕ) : Type 0 where
  pub least : 11 ≤ n
  pub front : (header 0).next ≡ 10
  pub kinds : (page : ℕ) → 10 ≤ page → page < n → (header page).kind ≡ 1
  pub nexts : (page : ℕ) → 10 ≤ page → page + 1 < n → (header page).next ≡ page + 1
  pub ends : (page : ℕ) → 10 ≤ page → page + 1 ≡ n → (header page).next ≡ 0
  pub last_pages : (page : ℕ) → HasHeader n page → (header page).last_page ≡ 0
  pub counters : (page : ℕ) → HasHeader n page → (header page).last_serial ≡ 0
  pub none : (segment : ℕ) → IsSegment segment → first segment ≡ 0

module _ (n : ℕ) (header : ℕ → PageHeader) (first : ℕ → ℕ) (fresh : IsFresh n header first) where
  walk_from : (a k : ℕ) → 10 ≤ a → a + k + 1 ≡ n → IsWalk header a (range_with_len a (suc k))
  walk_from a zero low all = (refl, fresh.ends a low (omega arith))
  walk_from a (suc k) low all =
      (refl, subst (λ (from : ℕ). IsWalk header from (range_with_len (a + 1) (suc k))) (sym (fresh.nexts a low (omega arith))) (walk_from (a + 1) k (omega arith) (omega arith)))

  abbrev pub fresh_free : List ℕ
  fresh_free = range_with_len 10 (n - 10)

  free_at : (k d : ℕ) → k < length fresh_free → (get_or fresh_free k d ≡ 10 + k) × (k < n - 10)
  free_at k d below =
      let long : length fresh_free ≡ n - 10 = length-range_with_len 10 (n - 10) in
      (get_or-range_with_len 10 (n - 10) k d (omega arith), omega arith)

  pub fresh_chained : AreChained n header first fresh_free (λ segment. [])
  fresh_chained =
      let least = fresh.least in
      let count : suc (n - 11) ≡ n - 10 = omega arith in
      let long : length fresh_free ≡ n - 10 = length-range_with_len 10 (n - 10) in
      record {
        free_list = record {
          walk = subst (λ (from : ℕ). IsWalk header from fresh_free) (sym fresh.front) (subst (λ (m : ℕ). IsWalk header 10 (range_with_len 10 m)) count (walk_from 10 (n - 11) (omega arith) (omega arith)));
          pages = λ k d below. let at = free_at k d below in let here = at.0 in let high = at.1 in (omega arith, omega arith);
          kinds = λ k d below. let at = free_at k d below in let here = at.0 in let high = at.1 in fresh.kinds (get_or fresh_free k d) (omega arith) (omega arith);
          once = λ i j d before below same.
              let one = (free_at i d (omega arith)).0 in
              let two = (free_at j d below).0 in
              omega arith;
        };
        chains = λ segment within. record {
          walk = fresh.none segment within;
          pages = λ k d below. absurd (omega arith);
          kinds = λ k d below. absurd (omega arith);
          owner = λ k d below. absurd (omega arith);
          once = λ i j d before below. absurd (omega arith);
          last = ap (λ (p : ℕ). (header p).last_page) (fresh.none segment within) ∙ fresh.last_pages 0 (inl refl);
        };
        reached = λ page known.
            let low = known.0 in
            let high = known.1 in
            let at : 10 + (page - 10) ≡ page = omega arith in
            inl (page - 10, omega arith, get_or-range_with_len 10 (n - 10) (page - 10) page (omega arith) ∙ at);
        last_pages = λ page known other. fresh.last_pages page known;
        counters = λ page known other. fresh.counters page known;
      }
