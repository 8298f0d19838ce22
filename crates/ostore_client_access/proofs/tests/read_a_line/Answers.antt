use Rattle.std.proofs.Common.{sym, ap, ◌∙◌}
use Rattle.ostore_client_core.specs.Clients.{ClientView}
use Rattle.ostore_client_access.proofs.TestLaws.{rises_first}
use Rattle.ostore_client_access.proofs.tests.read_a_line.Goals as goal

pub made_fits-requires-clause-entry : goal.made_fits-requires-clause-entry
made_fits-requires-clause-entry g c =
    let b = c.begin.ensures in
    let passed = c.in-Ok.ensures.passes in
    record {
      script = c.requires.script.0;
      served = passed.served c.requires.script.0 (b.served c.requires.script.0 c.requires.script.1);
      schema = c.requires.script.2 ∙ sym (passed.client.schema ∙ ap (λ (v : ClientView). v.schema) b.client);
      names = record { named = c.requires.script.3; kept = c.requires.kept; kind = sym c.requires.reads };
      mine = sym (passed.same.service.client ∙ b.same.service.client ∙ c.requires.mine);
      rises = rises_first _ 1 (passed.same.records ∙ b.same.records ∙ c.requires.first);
    }
