use Rattle.std.proofs.Common.{◌≡◌, true, nat_eq, Some, sym, ap, ◌∙◌}
use Rattle.std.specs.Map.{lookup, set_value}
use Rattle.ostore_client_cache.specs.declared.entries.CachedPage.{CachedPage}
use Rattle.ostore_client_cache.specs.declared.entries.Hold.TheVariants.{Owned}
use Rattle.ostore_client_cache.specs.Entries.{is_in_use, is_owned, held_as}
use Rattle.ostore_client_cache.specs.Caches.{cached}
use Rattle.ostore_client_core.specs.Clients.{ClientView, client_view, with_pages, entry_of}
use Rattle.ostore_client_core.specs.Calls.{OwnsPage}
use Rattle.ostore_client_core.proofs.EntryLaws.{used_there, if_some, set_here, some_of}
use Rattle.ostore_client_core.proofs.KeptLaws.{kept_set, view_pages}
use Rattle.ostore_client_core.proofs.GoesLaws.{own_still}
use Rattle.ostore_client_core.proofs.OwnLaws.{owns, same_with}
use Rattle.ostore_client_core.proofs.client.Client.own_page.Goals as goal

pub invariant_of-self : goal.invariant_of-self
invariant_of-self g c =
    let inside = c.self.inside in
    let page = c.args.page.0 in
    let used : is_in_use (lookup (nat_eq page) inside.cache.pages) ≡ true = ap (λ (v : ClientView). is_in_use (lookup (nat_eq page) v.pages)) c.self.view_is ∙ c.requires.used in
    let is = used_there (lookup (nat_eq page) inside.cache.pages) used in
    kept_set inside.schema.now inside.cache c.own.new.self inside.used.items _ page is.entry (held_as Owned is.entry) is.is (sym (sym (ap is_in_use is.is) ∙ used))
    (if_some (λ (e : CachedPage). c.own.new.self ≡ cached (set_value (nat_eq page) inside.cache.pages (held_as Owned e)) inside.cache.most) (lookup (nat_eq page) inside.cache.pages) is.entry is.is c.own.ensures) c.self.invariant

pub returns-clause-owned : goal.returns-clause-owned
returns-clause-owned g c =
    let inside = c.self.inside in
    let page = c.args.page.0 in
    let is = used_there (entry_of c.args.self.now page) c.requires.used in
    let same : lookup (nat_eq page) inside.cache.pages ≡ Some is.entry = ap (λ (v : ClientView). lookup (nat_eq page) v.pages) c.self.view_is ∙ is.is in
    let set : c.own.new.self ≡ cached (set_value (nat_eq page) inside.cache.pages (held_as Owned is.entry)) inside.cache.most =
    if_some (λ (e : CachedPage). c.own.new.self ≡ cached (set_value (nat_eq page) inside.cache.pages (held_as Owned e)) inside.cache.most) (lookup (nat_eq page) inside.cache.pages) is.entry same c.own.ensures in
    let client =
    view_pages inside.schema.now inside.space inside.cache c.own.new.self inside.fetches c.args.self.now (set_value (nat_eq page) inside.cache.pages (held_as Owned is.entry)) c.self.view_is set
    ∙ ap (λ (v : ClientView). with_pages (set_value (nat_eq page) v.pages (held_as Owned is.entry)) c.args.self.now) c.self.view_is in
    record {
      entry = is.entry;
      there = is.is;
      client = client;
      owned =
          ap (λ (v : ClientView). is_owned (entry_of v page)) client
          ∙ ap is_owned (set_here page (held_as Owned is.entry) c.args.self.now.pages (some_of (entry_of c.args.self.now page) is.entry is.is));
    }

pub returns-clause-same_client : goal.returns-clause-same_client
returns-clause-same_client g c =
    let o : OwnsPage c.args.self.now (client_view c.self.inside.schema.now c.self.inside.space c.own.new.self.pages c.own.new.self.most c.self.inside.fetches) c.args.page.0 = returns-clause-owned g c in
    same_with o.client

narrowed : goal.returns-clause-narrows
narrowed g c =
    let o : OwnsPage c.args.self.now (client_view c.self.inside.schema.now c.self.inside.space c.own.new.self.pages c.own.new.self.most c.self.inside.fetches) c.args.page.0 = returns-clause-owned g c in
    owns (g.S.PageClaims.serves c.args.service.now) (g.S.PageClaims.serves c.claim_own.new.self) (g.S.PageClaims.tells c.args.service.now) (g.S.PageClaims.tells c.claim_own.new.self) c.args.self.now _ c.args.page.0
    o c.requires.runs c.in_default.ensures.served c.in_default.ensures.same.service c.in_default.ensures.claimed (sym (ap is_in_use o.there) ∙ c.requires.used)

pub returns-clause-narrows : goal.returns-clause-narrows
returns-clause-narrows g c = narrowed g c

pub returns-clause-own : goal.returns-clause-own
returns-clause-own g c = (narrowed g c).runs.own

pub returns-in-Err-clause-own : goal.returns-in-Err-clause-own
returns-in-Err-clause-own g c =
    own_still (g.S.PageClaims.serves c.args.service.now) (g.S.PageClaims.serves c.claim_own.new.self) (g.S.PageClaims.tells c.args.service.now) (g.S.PageClaims.tells c.claim_own.new.self) c.args.self.now c.requires.runs.own c.in-Err.ensures.served c.in-Err.ensures.same.service c.in-Err.ensures.refused.pages

pub returns-clause-copies : goal.returns-clause-copies
returns-clause-copies g c = λ page any. c.in_default.ensures.claimed.kept page

pub returns-in-Err-clause-copies : goal.returns-in-Err-clause-copies
returns-in-Err-clause-copies g c = λ page any. c.in-Err.ensures.refused.pages.kept page
