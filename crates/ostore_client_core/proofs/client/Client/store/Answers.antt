use Rattle.std.proofs.Common.{◌≡◌, ◌/◌, true, Option, Some, rules, sym, ap, subst, ◌∙◌}
use Rattle.std.specs.Prelude.{IfSome}
use Rattle.ostore_base.specs.declared.numbers.PageNo.{PageNo}
use Rattle.ostore_address_space.specs.Frames.{page_in}
use Rattle.ostore_client_cache.specs.Entries.{is_owned}
use Rattle.ostore_client_core.specs.Clients.{ClientView, entry_of}
use Rattle.ostore_client_core.proofs.KeptLaws.{kept_stored}
use Rattle.ostore_client_core.proofs.client.Client.store.Goals as goal

pub invariant_of-self : goal.invariant_of-self
invariant_of-self g c =
    let inside = c.self.inside in
    let page = c.in-Some.page.0 in
    let here : Some c.in-Some.page ≡ page_in c.args.self.now.frames.pages (c.args.address / 4096) = search rules in
    let owned : is_owned (entry_of c.args.self.now page) ≡ true = subst (λ (o : Option PageNo). IfSome o (λ p. is_owned (entry_of c.args.self.now p.0) ≡ true)) (sym here) c.requires.owned in
    kept_stored inside.schema.now inside.cache c.store.new.self inside.used.items _ page _ c.args.bytes.now c.store.ensures (ap (λ (v : ClientView). is_owned (entry_of v page)) c.self.view_is ∙ owned) c.self.invariant
