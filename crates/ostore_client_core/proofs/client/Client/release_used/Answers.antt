use Rattle.std.proofs.Common.{◌≡◌, ◌↔◌, ◌<◌, ℕ, true, false, nat_eq, List, length, None, sym, ap, subst, ◌∙◌}
use Rattle.std.specs.Prelude.{IsSome}
use Rattle.std.specs.List.{AllPairs, Contains}
use Rattle.std.specs.Map.{lookup}
use Rattle.std.proofs.lemmas.Bool.{false≢true}
use Rattle.std.proofs.lemmas.List.Elements.{All-contains}
use Rattle.ostore_base.specs.declared.numbers.PageNo.{PageNo}
use Rattle.ostore_client_cache.specs.Entries.{is_in_use}
use Rattle.ostore_client_cache.specs.Caches.{Cached}
use Rattle.ostore_client_cache.specs.Releases.{numbers_of, released_all}
use Rattle.ostore_client_core.specs.Clients.{ClientView, with_pages, entry_of}
use Rattle.ostore_client_core.specs.Calls.{is_void, keeps}
use Rattle.ostore_client_core.specs.Retaining.{IsReleased}
use Rattle.ostore_client_core.proofs.EntryLaws.{none_used, none_first}
use Rattle.ostore_client_core.proofs.KeptLaws.{kept_idle, view_pages}
use Rattle.ostore_client_core.proofs.SortLaws.{ascends, each_listed, in_order, none_left, void_used}
use Rattle.ostore_client_core.proofs.client.Client.release_used.Given.{Over}
use Rattle.ostore_client_core.proofs.client.Client.release_used.Goals as goal

pub release_all-requires-clause-ascending : goal.release_all-requires-clause-ascending
release_all-requires-clause-ascending g c =
    subst (λ (l : List PageNo). AllPairs (λ page later. page < later) (numbers_of l)) (sym c.deref.ensures.value)
    (ascends c.self.inside.used.items c.sort_unstable.new.self.items c.sort_unstable.ensures.permutation c.sort_unstable.ensures.sorted c.self.invariant.listed.differ)

pub release_all-requires-clause-range : goal.release_all-requires-clause-range
release_all-requires-clause-range g c =
    let inside = c.self.inside in
    each_listed (λ (page : ℕ). page < length (g.S.PageClaims.tells c.args.service.now).opened) (numbers_of c.deref.result.now)
    (λ page has. c.requires.known page (sym (ap (λ (v : ClientView). is_in_use (entry_of v page)) c.self.view_is) ∙ (in_order inside.cache.pages inside.used.items c.sort_unstable.new.self.items c.deref.result.now c.sort_unstable.ensures.permutation c.self.invariant.listed c.deref.ensures.value page).0 has))

pub release_all-requires-clause-used : goal.release_all-requires-clause-used
release_all-requires-clause-used g c =
    let inside = c.self.inside in
    each_listed (λ (page : ℕ). IsSome ((g.S.PageClaims.tells c.args.service.now).mine.held page)) (numbers_of c.deref.result.now)
    (λ page has. c.requires.held page (sym (ap (λ (v : ClientView). is_in_use (entry_of v page)) c.self.view_is) ∙ (in_order inside.cache.pages inside.used.items c.sort_unstable.new.self.items c.deref.result.now c.sort_unstable.ensures.permutation c.self.invariant.listed c.deref.ensures.value page).0 has))

none_used_now : (g : Over) (c : goal.After-clear g) (page : ℕ) → is_in_use (lookup (nat_eq page) c.release_all.new.cache.pages) ≡ false
none_used_now g c =
    let inside = c.self.inside in
    none_left inside.cache.pages c.release_all.new.cache.pages (numbers_of c.deref.result.now)
    (in_order inside.cache.pages inside.used.items c.sort_unstable.new.self.items c.deref.result.now c.sort_unstable.ensures.permutation c.self.invariant.listed c.deref.ensures.value)
    c.release_all.ensures.idle c.release_all.ensures.others

pub invariant_of-self : goal.invariant_of-self
invariant_of-self g c =
    let inside = c.self.inside in
    kept_idle inside.schema.now inside.cache c.release_all.new.cache inside.used.items c.clear.new.self.items _ _ c.self.invariant c.pages_differ-2.ensures (none_used_now g c) c.clear.ensures.items (c.clear.ensures.capacity ∙ c.sort_unstable.ensures.capacity)
    (ap (λ (x : Cached). x.most) c.release_all.ensures.pages)

pub returns-clause-released : goal.returns-clause-released
returns-clause-released g c =
    let inside = c.self.inside in
    let used : List ℕ = numbers_of c.deref.result.now in
    let kept = keeps (g.S.PageClaims.tells c.release_all.new.service).mine in
    let listed = in_order inside.cache.pages inside.used.items c.sort_unstable.new.self.items c.deref.result.now c.sort_unstable.ensures.permutation c.self.invariant.listed c.deref.ensures.value in
    record {
      used = used;
      are = λ page. subst (λ (v : ClientView). Contains used page ↔ (is_in_use (entry_of v page) ≡ true)) c.self.view_is (listed page);
      ascend =
          subst (λ (l : List PageNo). AllPairs (λ page later. page < later) (numbers_of l)) (sym c.deref.ensures.value)
          (ascends inside.used.items c.sort_unstable.new.self.items c.sort_unstable.ensures.permutation c.sort_unstable.ensures.sorted c.self.invariant.listed.differ);
      pages =
          view_pages inside.schema.now inside.space inside.cache c.release_all.new.cache inside.fetches c.args.self.now (released_all inside.cache.pages kept used) c.self.view_is c.release_all.ensures.pages
          ∙ ap (λ (v : ClientView). with_pages (released_all v.pages kept used) c.args.self.now) c.self.view_is;
      void = λ page void.
          let was : is_void c.args.ending (lookup (nat_eq page) inside.cache.pages) ≡ true = ap (λ (v : ClientView). is_void c.args.ending (entry_of v page)) c.self.view_is ∙ void in
          All-contains (λ (p : ℕ). is_void c.args.ending (lookup (nat_eq p) inside.cache.pages) ≡ true → (g.S.PageClaims.tells c.release_all.new.service).mine.kept p ≡ None) used page c.release_all.ensures.void ((listed page).1 (void_used c.args.ending (lookup (nat_eq page) inside.cache.pages) was)) was;
    }

pub returns-clause-idle : goal.returns-clause-idle
returns-clause-idle g c = λ page. none_used_now g c page

pub returns-clause-first : goal.returns-clause-first
returns-clause-first g c = none_first c.release_all.new.cache.pages (none_used c.release_all.new.cache.pages c.pages_differ-2.ensures (none_used_now g c))

pub returns-clause-answered : goal.returns-clause-answered
returns-clause-answered g c = λ page used.
    (let inside = c.self.inside in
    let mine = (g.S.PageClaims.tells c.release_all.new.service).mine in
    let listed = in_order inside.cache.pages inside.used.items c.sort_unstable.new.self.items c.deref.result.now c.sort_unstable.ensures.permutation c.self.invariant.listed c.deref.ensures.value in
    let was : is_in_use (lookup (nat_eq page) inside.cache.pages) ≡ true = ap (λ (v : ClientView). is_in_use (entry_of v page)) c.self.view_is ∙ used in
    subst (λ (v : ClientView). IsReleased g.S.PageClaims.releases (is_void c.args.ending (entry_of v page)) mine page) c.self.view_is
    (All-contains (λ (p : ℕ). IsReleased g.S.PageClaims.releases (is_void c.args.ending (lookup (nat_eq p) inside.cache.pages)) mine p) (numbers_of c.deref.result.now) page c.release_all.ensures.answered ((listed page).1 was)))

pub returns-clause-copies : goal.returns-clause-copies
returns-clause-copies g c = λ page idle.
    (let inside = c.self.inside in
    let listed = in_order inside.cache.pages inside.used.items c.sort_unstable.new.self.items c.deref.result.now c.sort_unstable.ensures.permutation c.self.invariant.listed c.deref.ensures.value in
    let unused : is_in_use (lookup (nat_eq page) inside.cache.pages) ≡ false = ap (λ (v : ClientView). is_in_use (entry_of v page)) c.self.view_is ∙ idle in
    c.release_all.ensures.copies page (λ has. false≢true (sym unused ∙ (listed page).0 has)))
