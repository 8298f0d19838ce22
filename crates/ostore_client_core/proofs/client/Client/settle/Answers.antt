use Rattle.std.proofs.Common.{◌≡◌, nat_eq, refl, sym, subst}
use Rattle.std.specs.Prelude.{IsSome}
use Rattle.std.specs.Map.{lookup, set_value}
use Rattle.ostore_client_cache.specs.declared.entries.CachedPage.{CachedPage}
use Rattle.ostore_client_cache.specs.Entries.{imaged_as}
use Rattle.ostore_client_cache.specs.Caches.{cached}
use Rattle.ostore_client_core.specs.Clients.{ClientView, client_view, entry_of}
use Rattle.ostore_client_core.specs.Calls.{Settles, FindsNoFrame}
use Rattle.ostore_client_core.proofs.EntryLaws.{there, if_some}
use Rattle.ostore_client_core.proofs.KeptLaws.{kept_set}
use Rattle.ostore_client_core.proofs.SettleLaws.{settles_of, finds_none}
use Rattle.ostore_client_core.proofs.client.Client.settle.Goals as goal

pub returns-in-Err-clause-full : goal.returns-in-Err-clause-full
returns-in-Err-clause-full g c =
    let inside = c.self.inside in
    let e = c.in-Err.ensures in
    subst (λ (v : ClientView). FindsNoFrame v (client_view inside.schema.now c.relocate_in.new.space inside.cache.pages inside.cache.most c.saturating_add-self-inside.result) c.args.page c.args.image.now c.in-Err.full.frames) c.self.view_is
    (finds_none (g.M.Mapper.choice inside.mapper.now) inside.schema.now inside.space c.relocate_in.new.space inside.cache inside.fetches c.saturating_add-self-inside.result c.args.page c.args.image.now c.in-Err.full _
    e.reserved refl e.reserved.why e.kept c.frames_are_paired.ensures c.saturating_add-self-inside.ensures)

pub invariant_of-self-2 : goal.invariant_of-self-2
invariant_of-self-2 g c =
    let inside = c.self.inside in
    let page = c.args.page.0 in
    let some : IsSome (lookup (nat_eq page) inside.cache.pages) = subst (λ (v : ClientView). IsSome (entry_of v page)) (sym c.self.view_is) c.requires.there in
    let is = there (lookup (nat_eq page) inside.cache.pages) some in
    kept_set inside.schema.now inside.cache c.set_image.new.self inside.used.items _ page is.entry (imaged_as c.relocate_in.new.image is.entry) is.is refl
    (if_some (λ (entry : CachedPage). c.set_image.new.self ≡ cached (set_value (nat_eq page) inside.cache.pages (imaged_as c.relocate_in.new.image entry)) inside.cache.most) (lookup (nat_eq page) inside.cache.pages) is.entry is.is c.set_image.ensures)
    c.self.invariant

pub returns-clause-ok : goal.returns-clause-ok
returns-clause-ok g c =
    let inside = c.self.inside in
    let some : IsSome (lookup (nat_eq c.args.page.0) inside.cache.pages) = subst (λ (v : ClientView). IsSome (entry_of v c.args.page.0)) (sym c.self.view_is) c.requires.there in
    subst (λ (v : ClientView). Settles v (client_view inside.schema.now c.relocate_in.new.space c.set_image.new.self.pages c.set_image.new.self.most c.saturating_add-self-inside.result) c.args.page.0 c.args.image.now) c.self.view_is
    (settles_of (g.M.Mapper.choice inside.mapper.now) inside.schema.now inside.space c.relocate_in.new.space inside.cache c.set_image.new.self inside.fetches c.saturating_add-self-inside.result c.args.page c.args.image.now c.relocate_in.new.image _
    some c.in_default.ensures.reserved refl c.in_default.ensures.kept c.frames_are_paired-2.ensures c.in_default.ensures.comes c.set_image.ensures c.saturating_add-self-inside.ensures)
