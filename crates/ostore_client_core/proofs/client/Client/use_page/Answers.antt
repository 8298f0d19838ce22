use Rattle.std.proofs.Common.{◌≡◌, nat_eq, Some, ap, ◌∙◌}
use Rattle.std.specs.Map.{lookup}
use Rattle.ostore_client_cache.specs.declared.entries.Hold.TheVariants.{Retained}
use Rattle.ostore_client_cache.specs.Entries.{hold_of}
use Rattle.ostore_client_core.specs.Clients.{ClientView}
use Rattle.ostore_client_core.proofs.KeptLaws.{kept_more}
use Rattle.ostore_client_core.proofs.client.Client.use_page.Goals as goal

pub invariant_of-self : goal.invariant_of-self
invariant_of-self g c =
    let inside = c.self.inside in
    let held : hold_of (lookup (nat_eq c.args.page.0) inside.cache.pages) ≡ Some Retained = ap (λ (v : ClientView). hold_of (lookup (nat_eq c.args.page.0) v.pages)) c.self.view_is ∙ c.requires.there in
    kept_more inside.schema.now inside.cache c.use_again.new.self inside.used.items c.push_reserved.new.self.items _ _ c.args.page held c.push_reserved.ensures.items c.push_reserved.ensures.capacity c.use_again.ensures c.self.invariant
