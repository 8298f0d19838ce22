use Rattle.std.proofs.Common.{◌≡◌, ◌<◌, ◌≤◌, ℕ, List, Bool, length, get_or, refl, sym, ap, subst, ◌∙◌, arith}
use Rattle.std.specs.Prelude.{IsSome}
use Rattle.std.proofs.lemmas.List.{get_or-map, length-map}
use Rattle.ostore_base.specs.declared.numbers.PageNo.{PageNo}
use Rattle.ostore_client_cache.specs.Caches.{cached}
use Rattle.ostore_client_cache.specs.Releases.{numbers_of}
use Rattle.ostore_client_core.specs.Calls.{is_void}
use Rattle.ostore_client_core.proofs.ReleaseLaws.{after_page, next_released, still_there, started, taken_all, others_same}
use Rattle.ostore_client_core.proofs.RetainLaws.{none_released, one_released, copies_next}
use Rattle.ostore_client_core.proofs.release.release_all.Goals as goal
use Rattle.ostore_client_core.proofs.release.release_all.Goals.{then-give_back, else-give_back}

within : (pages : List PageNo) (i : ℕ) → i < length pages → i < length (numbers_of pages)
within pages i below = let long = length-map pages (λ (page : PageNo). page.0) in omega arith

read : (pages : List PageNo) (i e : ℕ) → i < length pages → get_or (numbers_of pages) i e ≡ (get_or pages i (record { 0 = 0 })).0
read pages i e below = get_or-map (λ (page : PageNo). page.0) pages i (record { 0 = 0 }) e below

pub give_back-requires-clause-range : goal.give_back-requires-clause-range
give_back-requires-clause-range g c =
    let pages : List PageNo = c.args.pages.now in
    let i : ℕ = c.loop-page.page-index in
    let page : PageNo = get_or pages i (record { 0 = 0 }) in
    let below = c.loop-page-test.true in
    let low = c.requires.range i 0 (within pages i below) in
    let same = read pages i 0 below in
    let opened = ap length c.loop-page.invariant.0.same.service.opened in
    omega arith

pub give_back-requires-clause-used : goal.give_back-requires-clause-used
give_back-requires-clause-used g c =
    let pages : List PageNo = c.args.pages.now in
    let i : ℕ = c.loop-page.page-index in
    let below = c.loop-page-test.true in
    let held = (g.S.PageClaims.tells c.loop-page.service).mine.held in
    subst (λ (n : ℕ). IsSome (held n)) (read pages i 0 below) (c.loop-page.invariant.0.used i 0 (omega arith) (within pages i below))

pub loop-page-init : goal.loop-page-init
loop-page-init g c = (
  started c.args.ending c.args.cache.now (g.S.PageClaims.tells c.args.service.now) (numbers_of c.args.pages.now) c.requires.used,
  λ s h. h,
  none_released g.S.PageClaims.releases c.args.ending c.args.cache.now.pages (g.S.PageClaims.tells c.args.service.now).mine (numbers_of c.args.pages.now),
  (λ page none. refl),
)

pub loop-page-preserved : goal.loop-page-preserved
loop-page-preserved g c =
    let pages : List PageNo = c.args.pages.now in
    let i : ℕ = c.loop-page.page-index in
    let page : PageNo = get_or pages i (record { 0 = 0 }) in
    let below = c.loop-page-test.true in (
      next_released c.args.ending c.args.cache.now c.loop-page.cache c.if-give_back.cache (g.S.PageClaims.tells c.args.service.now) (g.S.PageClaims.tells c.loop-page.service) (g.S.PageClaims.tells c.give_back.new.service) i page.0 (numbers_of pages) c.is_void-void.result c.give_back.result
          c.requires.ascending (within pages i below) (sym (read pages i page.0 below)) c.loop-page.invariant.0 c.pages_differ.ensures c.is_void-void.ensures c.give_back.ensures.gives c.give_back.ensures.void c.give_back.ensures.same c.give_back.ensures.calm
          (elim c.if-give_back.branch [
            | then-give_back w ↦ w.cache-is ∙ w.retain.ensures ∙ ap (λ (b : Bool). cached (after_page c.loop-page.cache.pages page.0 b) c.loop-page.cache.most) (sym w.if-give_back.true)
            | else-give_back w ↦ w.cache-is ∙ w.forget.ensures ∙ ap (λ (b : Bool). cached (after_page c.loop-page.cache.pages page.0 b) c.loop-page.cache.most) (sym w.if-give_back.false)
          ]),
      λ s h. c.give_back.ensures.served s (c.loop-page.invariant.1 s h),
      one_released g.S.PageClaims.releases c.args.ending c.args.cache.now.pages (g.S.PageClaims.tells c.loop-page.service).mine (g.S.PageClaims.tells c.give_back.new.service).mine i page.0 (numbers_of pages) c.is_void-void.result
          c.requires.ascending (within pages i below) (sym (read pages i page.0 below)) c.give_back.ensures.gives.others
          (c.is_void-void.ensures ∙ ap (is_void c.args.ending) (still_there c.args.ending c.args.cache.now c.loop-page.cache (g.S.PageClaims.tells c.args.service.now) (g.S.PageClaims.tells c.loop-page.service) i page.0 (numbers_of pages) c.requires.ascending (within pages i below) (sym (read pages i page.0 below)) c.loop-page.invariant.0))
          c.give_back.ensures.answered c.loop-page.invariant.2,
      copies_next (g.S.PageClaims.tells c.args.service.now).mine (g.S.PageClaims.tells c.loop-page.service).mine (g.S.PageClaims.tells c.give_back.new.service).mine i page.0 (numbers_of pages) (within pages i below) (sym (read pages i page.0 below)) c.give_back.ensures.gives.others c.loop-page.invariant.3,
    )

past : (pages : List PageNo) (i : ℕ) → length pages ≤ i → length (numbers_of pages) ≤ i
past pages i h = let long = length-map pages (λ (page : PageNo). page.0) in omega arith

pub returns-clause-pages : goal.returns-clause-pages
returns-clause-pages g c =
    taken_all c.args.ending c.args.cache.now c.loop-page.cache (g.S.PageClaims.tells c.args.service.now) (g.S.PageClaims.tells c.loop-page.service) c.loop-page.page-index (numbers_of c.args.pages.now) (past c.args.pages.now c.loop-page.page-index c.loop-page-test.false) c.loop-page.invariant.0

pub returns-clause-void : goal.returns-clause-void
returns-clause-void g c = λ k d below.
    (let long = past c.args.pages.now c.loop-page.page-index c.loop-page-test.false in
    c.loop-page.invariant.0.void k d (omega arith) below)

pub returns-clause-idle : goal.returns-clause-idle
returns-clause-idle g c = λ k d below.
    (let long = past c.args.pages.now c.loop-page.page-index c.loop-page-test.false in
    c.loop-page.invariant.0.idle k d (omega arith) below)

pub returns-clause-others : goal.returns-clause-others
returns-clause-others g c =
    others_same c.args.ending c.args.cache.now c.loop-page.cache (g.S.PageClaims.tells c.args.service.now) (g.S.PageClaims.tells c.loop-page.service) c.loop-page.page-index (numbers_of c.args.pages.now) (past c.args.pages.now c.loop-page.page-index c.loop-page-test.false) c.loop-page.invariant.0

pub returns-clause-ends : goal.returns-clause-ends
returns-clause-ends g c = c.loop-page.invariant.0.ends

pub returns-clause-same : goal.returns-clause-same
returns-clause-same g c = c.loop-page.invariant.0.same

pub returns-clause-served : goal.returns-clause-served
returns-clause-served g c = c.loop-page.invariant.1

pub returns-clause-calm : goal.returns-clause-calm
returns-clause-calm g c = c.loop-page.invariant.0.calm

pub returns-clause-images : goal.returns-clause-images
returns-clause-images g c = c.loop-page.invariant.0.images

pub returns-clause-long : goal.returns-clause-long
returns-clause-long g c = c.loop-page.invariant.0.long

pub returns-clause-answered : goal.returns-clause-answered
returns-clause-answered g c = λ k d below.
    (let long = past c.args.pages.now c.loop-page.page-index c.loop-page-test.false in
    c.loop-page.invariant.2 k d (omega arith) below)

pub returns-clause-copies : goal.returns-clause-copies
returns-clause-copies g c = c.loop-page.invariant.3
