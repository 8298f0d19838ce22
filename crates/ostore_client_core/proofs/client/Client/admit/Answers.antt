use Rattle.std.proofs.Common.{◌≡◌, nat_eq, None, ap, ◌∙◌}
use Rattle.std.specs.Map.{lookup}
use Rattle.ostore_client_core.specs.Clients.{ClientView}
use Rattle.ostore_client_core.proofs.KeptLaws.{ok_or_err, kept_admitted, kept_same}
use Rattle.ostore_client_core.proofs.client.Client.admit.Goals as goal

pub invariant_of-self : goal.invariant_of-self
invariant_of-self g c =
    let inside = c.self.inside in
    let absent : lookup (nat_eq c.args.page.0) inside.cache.pages ≡ None = ap (λ (v : ClientView). lookup (nat_eq c.args.page.0) v.pages) c.self.view_is ∙ c.requires.apart in
    ok_or_err _ _ _ c.admit.result c.admit.ensures.ok c.admit.ensures.err
    (λ ok. kept_admitted inside.schema.now inside.cache c.admit.new.self inside.used.items _ c.args.page.0 absent ok c.self.invariant)
    (λ err. kept_same inside.schema.now inside.cache c.admit.new.self inside.used.items _ err c.self.invariant)
