use Rattle.std.proofs.Common.{◌≡◌, nat_eq, sym, refl, subst}
use Rattle.std.specs.Prelude.{IsSome}
use Rattle.std.specs.Map.{lookup, set_value}
use Rattle.ostore_client_cache.specs.Entries.{imaged_as}
use Rattle.ostore_client_cache.specs.Caches.{Cached, cached}
use Rattle.ostore_client_cache.proofs.CacheLaws.{changes, there, if_some, view_as}
use Rattle.ostore_client_cache.proofs.cache.Cache.set_image.Goals as goal

pub invariant_of-self : goal.invariant_of-self
invariant_of-self c =
    let entries = c.self.inside.entries in
    let page = c.args.page.0 in
    let is = there (lookup (nat_eq page) entries.entries) (subst (λ (v : Cached). IsSome (lookup (nat_eq page) v.pages)) (sym c.self.view_is) c.requires) in
    changes entries c.set_image.new.cache c.self.inside.used c.self.inside.most page is.entry (imaged_as c.args.image.now is.entry) c.self.invariant c.set_image.ensures.capacity is.is refl
    (if_some (λ entry. c.set_image.new.cache.entries ≡ set_value (nat_eq page) entries.entries (imaged_as c.args.image.now entry)) (lookup (nat_eq page) entries.entries) is.entry is.is c.set_image.ensures.entry)

pub returns : goal.returns
returns c =
    view_as (cached c.self.inside.entries.entries c.self.inside.most) c.args.self.now c.set_image.new.cache.entries c.args.page.0 (imaged_as c.args.image.now) c.self.view_is
    (there (lookup (nat_eq c.args.page.0) c.args.self.now.pages) c.requires) c.set_image.ensures.entry
