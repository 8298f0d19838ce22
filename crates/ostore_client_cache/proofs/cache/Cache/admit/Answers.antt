use Rattle.std.proofs.Common.{◌≡◌, ◌∷◌, ◌+◌, ℕ, List, None, nat_eq, length, ap, ◌∙◌, arith}
use Rattle.std.specs.Map.{lookup}
use Rattle.lru.specs.LruCache.{LruCache}
use Rattle.ostore_client_cache.specs.declared.entries.CachedPage.{CachedPage}
use Rattle.ostore_client_cache.specs.declared.entries.Hold.TheVariants.{Retained}
use Rattle.ostore_client_cache.specs.Caches.{Cached, cached, fresh, used_pages}
use Rattle.ostore_client_cache.proofs.CountLaws.{admitted, used_more}
use Rattle.ostore_client_cache.proofs.CacheLaws.{fresh_is}
use Rattle.ostore_client_cache.proofs.cache.Cache.admit.Goals as goal

pub invariant_of-self-2 : goal.invariant_of-self-2
invariant_of-self-2 c =
    let entries : List (ℕ × CachedPage) = c.self.inside.entries.entries in
    let page : ℕ = c.args.page.0 in
    let value : CachedPage = record { image = c.in_ok-image.image; hold = Retained } in
    let pages : entries ≡ c.args.self.now.pages = ap (λ (v : Cached). v.pages) c.self.view_is in
    let most : c.self.inside.most ≡ c.args.self.now.most = ap (λ (v : Cached). v.most) c.self.view_is in
    let apart : lookup (nat_eq page) entries ≡ None = ap (lookup (nat_eq page)) pages ∙ c.requires.apart in
    let long : length entries ≡ length c.args.self.now.pages = ap (λ (l : List (ℕ × CachedPage)). length l) pages in
    let room = c.requires.room in
    let new : c.put.new.self.entries ≡ (page, value) ∷ entries =
    ap (λ (l : LruCache ℕ CachedPage). l.entries) c.in_ok-put.ensures.entries ∙ admitted entries c.self.inside.entries.cap c.self.inside.most page value c.self.invariant.room apart (omega arith) in
    let longer : length c.put.new.self.entries ≡ length entries + 1 = ap (λ (l : List (ℕ × CachedPage)). length l) new ∙ omega arith in
    let more : length (used_pages c.put.new.self.entries) ≡ length (used_pages entries) = ap (λ (l : List (ℕ × CachedPage)). length (used_pages l)) new ∙ used_more (page, value) entries ∙ (let z : 0 + length (used_pages entries) ≡ length (used_pages entries) = omega arith in z) in
    let counted = c.self.invariant.counted in
    record {
      room = ap (λ (l : LruCache ℕ CachedPage). l.cap) c.in_ok-put.ensures.entries ∙ c.self.invariant.room;
      few = c.self.invariant.few;
      short = omega arith;
      counted = omega arith;
    }

pub returns-clause-ok : goal.returns-clause-ok
returns-clause-ok c =
    let entries : List (ℕ × CachedPage) = c.self.inside.entries.entries in
    let page : ℕ = c.args.page.0 in
    let value : CachedPage = record { image = c.in_ok-image.image; hold = Retained } in
    let pages : entries ≡ c.args.self.now.pages = ap (λ (v : Cached). v.pages) c.self.view_is in
    let most : c.self.inside.most ≡ c.args.self.now.most = ap (λ (v : Cached). v.most) c.self.view_is in
    let apart : lookup (nat_eq page) entries ≡ None = ap (lookup (nat_eq page)) pages ∙ c.requires.apart in
    let long : length entries ≡ length c.args.self.now.pages = ap (λ (l : List (ℕ × CachedPage)). length l) pages in
    let room = c.requires.room in
    let new : c.put.new.self.entries ≡ (page, value) ∷ entries =
    ap (λ (l : LruCache ℕ CachedPage). l.entries) c.in_ok-put.ensures.entries ∙ admitted entries c.self.inside.entries.cap c.self.inside.most page value c.self.invariant.room apart (omega arith) in
    ap (λ (l : List (ℕ × CachedPage)). cached l c.self.inside.most) new
    ∙ ap (λ (e : CachedPage). cached ((page, e) ∷ entries) c.self.inside.most) (fresh_is c.in_ok-image.image c.in_ok-image.ensures)
    ∙ ap (λ (v : Cached). cached ((page, fresh) ∷ v.pages) v.most) c.self.view_is
