use Rattle.std.proofs.Common.{ℕ, sym, ap, ◌∙◌}
use Rattle.lru.specs.LruCache.{LruCache}
use Rattle.ostore_client_cache.specs.declared.entries.CachedPage.{CachedPage}
use Rattle.ostore_client_cache.proofs.CacheLaws.{forgets, forgets_still}
use Rattle.ostore_client_cache.proofs.cache.Cache.forget.Goals as goal

pub overflow_sub-self : goal.overflow_sub-self
overflow_sub-self c = (forgets c.self.inside.entries c.forget_entry.new.cache c.self.inside.used c.self.inside.most c.args.page.0 c.self.invariant (ap (λ (l : LruCache ℕ CachedPage). l.cap) c.forget_entry.ensures.entries) (ap (λ (l : LruCache ℕ CachedPage). l.entries) c.forget_entry.ensures.entries) (sym c.forget_entry.ensures.used ∙ c.if-forget_entry.true)).some

pub invariant_of-self : goal.invariant_of-self
invariant_of-self c = (forgets c.self.inside.entries c.forget_entry.new.cache c.self.inside.used c.self.inside.most c.args.page.0 c.self.invariant (ap (λ (l : LruCache ℕ CachedPage). l.cap) c.forget_entry.ensures.entries) (ap (λ (l : LruCache ℕ CachedPage). l.entries) c.forget_entry.ensures.entries) (sym c.forget_entry.ensures.used ∙ c.if-forget_entry.true)).kept

pub invariant_of-self-else-forget_entry : goal.invariant_of-self-else-forget_entry
invariant_of-self-else-forget_entry c = forgets_still c.self.inside.entries c.forget_entry.new.cache c.self.inside.used c.self.inside.most c.args.page.0 c.self.invariant (ap (λ (l : LruCache ℕ CachedPage). l.cap) c.forget_entry.ensures.entries) (ap (λ (l : LruCache ℕ CachedPage). l.entries) c.forget_entry.ensures.entries) (sym c.forget_entry.ensures.used ∙ c.if-forget_entry.false)
