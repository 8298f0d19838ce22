use Rattle.std.proofs.Common.{◌≡◌, nat_eq, sym, refl, subst}
use Rattle.std.specs.Prelude.{IsSome}
use Rattle.std.specs.Map.{lookup, set_value}
use Rattle.ostore_client_cache.specs.declared.entries.CachedPage.{CachedPage}
use Rattle.ostore_client_cache.specs.Entries.{with_bytes}
use Rattle.ostore_client_cache.specs.Caches.{Cached, cached}
use Rattle.ostore_client_cache.proofs.CacheLaws.{changes, there, if_some, view_as}
use Rattle.ostore_client_cache.proofs.cache.Cache.store.Goals as goal

pub invariant_of-self : goal.invariant_of-self
invariant_of-self c =
    let entries = c.self.inside.entries in
    let page = c.args.page.0 in
    let is = there (lookup (nat_eq page) entries.entries) (subst (λ (v : Cached). IsSome (lookup (nat_eq page) v.pages)) (sym c.self.view_is) c.requires.there) in
    changes entries c.store.new.cache c.self.inside.used c.self.inside.most page is.entry (with_bytes is.entry c.args.at c.args.bytes.now) c.self.invariant c.store.ensures.capacity is.is refl
    (if_some (λ entry. c.store.new.cache.entries ≡ set_value (nat_eq page) entries.entries (with_bytes entry c.args.at c.args.bytes.now)) (lookup (nat_eq page) entries.entries) is.entry is.is c.store.ensures.entry)

pub returns : goal.returns
returns c =
    view_as (cached c.self.inside.entries.entries c.self.inside.most) c.args.self.now c.store.new.cache.entries c.args.page.0 (λ (e : CachedPage). with_bytes e c.args.at c.args.bytes.now) c.self.view_is
    (there (lookup (nat_eq c.args.page.0) c.args.self.now.pages) c.requires.there) c.store.ensures.entry
