use Rattle.std.proofs.Common.{◌≡◌, ℕ, false, ap, ◌∙◌}
use Rattle.ostore_client_cache.specs.Entries.{is_in_use}
use Rattle.ostore_client_core.specs.Clients.{ClientView, entry_of}
use Rattle.ostore_client_core.proofs.RecordLaws.{records_then}
use Rattle.ostore_client_core.proofs.SeenLaws.{nothing_made}
use Rattle.ostore_client_core.proofs.StayLaws.{narrows_nothing}
use Rattle.ostore_client_core.proofs.TestLaws.{ok_then}
use Rattle.ostore_client_core.proofs.tests.own_alone.Goals as goal

pub returns-clause-nothing : goal.returns-clause-nothing
returns-clause-nothing g c =
    let idle : (page : ℕ) → is_in_use (entry_of c.begin.new.self page) ≡ false = λ page. ap (λ (v : ClientView). is_in_use (entry_of v page)) c.begin.ensures.client ∙ c.requires.idle page in
    ok_then c.own.result
    (λ n. narrows_nothing _ _ _ _ _ _ n (narrows_nothing _ _ _ _ _ _ c.in-Ok.ensures.narrows (λ base list may. may.made ∙ nothing_made c.begin.new.self base idle)))
    c.own.ensures.narrows

pub returns-clause-same : goal.returns-clause-same
returns-clause-same g c = records_then _ _ _ c.begin.ensures.same (records_then _ _ _ c.in-Ok.ensures.same c.own.ensures.same)
