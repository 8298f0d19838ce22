use Rattle.std.proofs.Common.{◌≡◌, true, nat_eq, sym, ap, ◌∙◌}
use Rattle.std.specs.Map.{lookup, set_value}
use Rattle.ostore_client_cache.specs.declared.entries.Hold.TheVariants.{Owned}
use Rattle.ostore_client_cache.specs.Entries.{held_as, is_in_use}
use Rattle.ostore_client_cache.specs.Caches.{Cached, cached}
use Rattle.ostore_client_cache.proofs.CacheLaws.{changes, used_there, if_some, view_as}
use Rattle.ostore_client_cache.proofs.cache.Cache.own.Goals as goal

pub invariant_of-self : goal.invariant_of-self
invariant_of-self c =
    let entries = c.self.inside.entries in
    let page = c.args.page.0 in
    let used : is_in_use (lookup (nat_eq page) entries.entries) ≡ true = ap (λ (v : Cached). is_in_use (lookup (nat_eq page) v.pages)) c.self.view_is ∙ c.requires in
    let is = used_there (lookup (nat_eq page) entries.entries) used in
    changes entries c.own_page.new.cache c.self.inside.used c.self.inside.most page is.entry (held_as Owned is.entry) c.self.invariant c.own_page.ensures.capacity is.is
    (sym (sym (ap is_in_use is.is) ∙ used))
    (if_some (λ entry. c.own_page.new.cache.entries ≡ set_value (nat_eq page) entries.entries (held_as Owned entry)) (lookup (nat_eq page) entries.entries) is.entry is.is c.own_page.ensures.entry)

pub returns : goal.returns
returns c =
    view_as (cached c.self.inside.entries.entries c.self.inside.most) c.args.self.now c.own_page.new.cache.entries c.args.page.0 (held_as Owned) c.self.view_is
    (used_there (lookup (nat_eq c.args.page.0) c.args.self.now.pages) c.requires) c.own_page.ensures.entry
