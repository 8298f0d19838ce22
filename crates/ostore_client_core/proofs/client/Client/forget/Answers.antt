use Rattle.std.proofs.Common.{◌≡◌, false, nat_eq, ap, ◌∙◌}
use Rattle.std.specs.Map.{lookup}
use Rattle.ostore_client_cache.specs.Entries.{is_in_use}
use Rattle.ostore_client_core.specs.Clients.{ClientView}
use Rattle.ostore_client_core.proofs.KeptLaws.{kept_removed}
use Rattle.ostore_client_core.proofs.client.Client.forget.Goals as goal

pub invariant_of-self : goal.invariant_of-self
invariant_of-self g c =
    let inside = c.self.inside in
    let idle : is_in_use (lookup (nat_eq c.args.page.0) inside.cache.pages) ≡ false = ap (λ (v : ClientView). is_in_use (lookup (nat_eq c.args.page.0) v.pages)) c.self.view_is ∙ c.requires in
    kept_removed inside.schema.now inside.cache c.forget.new.self inside.used.items _ c.args.page.0 c.pages_differ.ensures idle c.forget.ensures c.self.invariant
