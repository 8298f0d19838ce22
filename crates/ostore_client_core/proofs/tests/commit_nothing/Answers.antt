use Rattle.std.proofs.Common.{sym, ap, ◌∙◌}
use Rattle.ostore_client_cache.specs.Entries.{is_in_use}
use Rattle.ostore_client_core.specs.Clients.{ClientView, entry_of}
use Rattle.ostore_client_core.proofs.TestLaws.{nothing_fits}
use Rattle.ostore_client_core.proofs.tests.commit_nothing.Goals as goal

pub finish-requires-clause-fits : goal.finish-requires-clause-fits
finish-requires-clause-fits g c =
    let b = c.begin.ensures in
    nothing_fits (g.S.PageClaims.serves c.begin.new.service) (g.S.PageClaims.tells c.begin.new.service) c.begin.new.self c.requires.script.0 c.args.entry (b.served c.requires.script.0 c.requires.script.1) (c.requires.script.2 ∙ sym (ap (λ (v : ClientView). v.schema) b.client))
    (c.requires.mine ∙ sym b.same.service.client) (b.same.records ∙ c.requires.first) c.requires.none c.requires.script.3 (λ page. ap (λ (v : ClientView). is_in_use (entry_of v page)) b.client ∙ c.requires.idle page)
