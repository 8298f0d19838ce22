-- The pages so far were released, and their copies are kept as the service answered.
use Rattle.std.proofs.Common.{◌≡◌, ◌≢◌, ◌<◌, ◌+◌, ℕ, Bool, true, false, nat_eq, List, length, get_or, refl, sym, ap, subst, ◌∙◌, arith, inl, inr}
use Rattle.std.specs.Prelude.{◌&&◌, not, is_some, IsSome, Option}
use Rattle.ostore_base.specs.declared.page.PageImage.{PageImage}
use Rattle.std.specs.List.{AllPairs, Contains}
use Rattle.std.specs.Map.{lookup}
use Rattle.std.proofs.lemmas.Bool.{cases_lt}
use Rattle.std.proofs.lemmas.List.{get_or_default}
use Rattle.std.proofs.lemmas.List.Elements.{Contains-get_or}
use Rattle.ostore_page_service.specs.declared.answers.Released.{Released as Answer}
use Rattle.ostore_page_service.specs.declared.answers.Released.TheVariants as answers
use Rattle.ostore_page_service.specs.Told.{Side, Told, SameElsewhere, EndsUse, DropsCopy, KeptAs}
use Rattle.ostore_client_core.specs.declared.release.Ending.{Ending}
use Rattle.ostore_client_core.specs.Calls.{is_void, keeps}
use Rattle.ostore_client_core.specs.Retaining.{may_keep, IsReleased, KeepsCopies}
use Rattle.ostore_client_core.proofs.EntryLaws.{Pages}
use Rattle.ostore_client_core.proofs.ReleaseLaws.{keeps_elsewhere}

module _ {T E : Type 0} (releases : T → ℕ → Answer → T → Type 0) (ending : Ending) (old : Pages) where
  -- the first pages of a list
  abbrev pub AreReleased : Side E → ℕ → List ℕ → Type 0
  AreReleased mine i pages = (k d : ℕ) → k < i → k < length pages → IsReleased releases (is_void ending (lookup (nat_eq (get_or pages k d)) old)) mine (get_or pages k d)

  pub none_released : (mine : Side E) (pages : List ℕ) → AreReleased mine 0 pages
  none_released mine pages = λ k d low. absurd (omega arith)

  -- a page is as it was released, where another one is given back
  released_still : (void : Bool) (now then : Side E) (page other : ℕ) → SameElsewhere now then page → other ≢ page → IsReleased releases void now other → IsReleased releases void then other
  released_still void now then page other same apart r = record {
    before = r.before;
    after = r.after;
    answer = r.answer;
    called = r.called;
    kept = keeps_elsewhere now then page same other apart ∙ r.kept;
  }

  pub one_released : (now then : Side E) (i page : ℕ) (pages : List ℕ) (void : Bool) → AllPairs (λ page later. page < later) pages → i < length pages → page ≡ get_or pages i page → SameElsewhere now then page
      → void ≡ is_void ending (lookup (nat_eq page) old) → IsReleased releases void then page → AreReleased now i pages → AreReleased then (i + 1) pages
  one_released now then i page pages void ascends below read same void_is released so_far = λ k d low short. elim (cases_lt k i) [
    | inl less ↦ released_still (is_void ending (lookup (nat_eq (get_or pages k d)) old)) now then page (get_or pages k d) same (apart_before k d less) (so_far k d less short)
    | inr last ↦
        let at : k ≡ i = omega arith in
        let here : page ≡ get_or pages k d = read ∙ get_or_default pages i page d below ∙ ap (λ (n : ℕ). get_or pages n d) (sym at) in
        subst (λ (n : ℕ). IsReleased releases (is_void ending (lookup (nat_eq n) old)) then n) here
        (subst (λ (b : Bool). IsReleased releases b then page) void_is released)
  ]
    where
      apart_before : (k d : ℕ) → k < i → get_or pages k d ≢ page
      apart_before k d less = λ equal.
          (let more = ascends k i d less below in
          let here : page ≡ get_or pages i d = read ∙ get_or_default pages i page d below in
          omega arith)

-- the copies of pages that aren't released stay
pub copies_next : {E : Type 0} (was now then : Side E) (i page : ℕ) (pages : List ℕ) → i < length pages → page ≡ get_or pages i page → SameElsewhere now then page
    → KeepsCopies (λ other. Contains pages other → ⊥) was now → KeepsCopies (λ other. Contains pages other → ⊥) was then
copies_next was now then i page pages below read same so_far = λ other none.
    same.kept other (λ equal. none (subst (λ (n : ℕ). Contains pages n) (sym (equal ∙ read)) (Contains-get_or pages i page below))) ∙ so_far other none

-- ---- one page

and_false : (b : Bool) → false ≡ (b && false)
and_false true = refl
and_false false = refl

module _ {T E : Type 0} (releases : T → ℕ → Answer → T → Type 0) (before after : T) (was now : Told E) (page : ℕ) (answer : Answer) (called : releases before page answer after) (ends : EndsUse was now page answer) where
  -- it was given up
  pub given_up : (void : Bool) → answer ≡ answers.GivenUp → IsReleased releases void now.mine page
  given_up void is = record {
    before = before;
    after = after;
    answer = answer;
    called = called;
    kept = subst (λ (a : Answer). keeps now.mine page ≡ (may_keep a && not void)) (sym is) (ap (λ (o : Option PageImage). is_some o) (subst (λ (a : Answer). KeptAs a was now page) is ends.kept));
  }

  -- its copy is void, and was dropped
  pub dropped : (last : Told E) (void : Bool) → void ≡ true → DropsCopy now last page → IsReleased releases void last.mine page
  dropped last void is drops = record {
    before = before;
    after = after;
    answer = answer;
    called = called;
    kept = ap (λ (o : Option PageImage). is_some o) drops.kept ∙ subst (λ (b : Bool). false ≡ (may_keep answer && not b)) (sym is) (and_false (may_keep answer));
  }

  -- it is kept
  pub kept_on : (void : Bool) → void ≡ false → answer ≡ answers.Kept → IsSome (was.mine.held page) → IsReleased releases void now.mine page
  kept_on void is kept some = record {
    before = before;
    after = after;
    answer = answer;
    called = called;
    kept = ap (λ (o : Option PageImage). is_some o) (subst (λ (a : Answer). KeptAs a was now page) kept ends.kept).0 ∙ some
        ∙ subst (λ (b : Bool). true ≡ (may_keep answer && not b)) (sym is) (subst (λ (a : Answer). true ≡ (may_keep a && true)) (sym kept) refl);
  }
