use Rattle.ostore_client_core.specs.Clients.{entry_of}
use Rattle.ostore_client_core.proofs.EntryLaws.{used_there}
use Rattle.ostore_client_core.proofs.client.Client.enter.Goals as goal

pub address_of-requires : goal.address_of-requires
address_of-requires g c =
    let is = used_there (entry_of c.bring.new.self c.args.page.0) c.in_default.ensures.used in
    (c.in_default.ensures.own.resident c.args.page.0 is.entry is.is).framed
