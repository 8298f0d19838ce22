use Rattle.std.proofs.Common.{◌≡◌, false, nat_eq, Some, sym, ap, ◌∙◌}
use Rattle.std.specs.Map.{lookup}
use Rattle.ostore_base.specs.declared.numbers.PageNo.{PageNo}
use Rattle.ostore_client_cache.specs.Entries.{is_in_use}
use Rattle.ostore_client_cache.specs.Caches.{surplus}
use Rattle.ostore_client_core.specs.Clients.{ClientView}
use Rattle.ostore_client_core.proofs.KeptLaws.{kept_trimmed}
use Rattle.ostore_client_core.proofs.client.Client.trim.Goals as goal

pub drop_kept-requires-clause-range : goal.drop_kept-requires-clause-range
drop_kept-requires-clause-range g c =
    (c.requires.oldest c.in-Some.oldest (sym (ap (λ (v : ClientView). surplus v.pages v.most) c.self.view_is) ∙ sym c.in-Some.ensures.dropped)).1

pub invariant_of-self : goal.invariant_of-self
invariant_of-self g c =
    let inside = c.self.inside in
    let idle : (q : PageNo) → c.drop_oldest.result ≡ Some q → is_in_use (lookup (nat_eq q.0) inside.cache.pages) ≡ false = λ q is.
    ap (λ (v : ClientView). is_in_use (lookup (nat_eq q.0) v.pages)) c.self.view_is
    ∙ (c.requires.oldest q (sym (ap (λ (v : ClientView). surplus v.pages v.most) c.self.view_is) ∙ sym c.drop_oldest.ensures.dropped ∙ is)).0 in
    kept_trimmed inside.schema.now inside.cache c.drop_oldest.new.self inside.used.items _ c.drop_oldest.result c.pages_differ.ensures idle c.drop_oldest.ensures.pages c.self.invariant
