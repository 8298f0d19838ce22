use Rattle.std.proofs.Common.{sym}
use Rattle.ostore_client_cache.specs.declared.entries.Hold.TheVariants.{Retained}
use Rattle.ostore_client_cache.proofs.OrderLaws.{first_none, first_some}
use Rattle.ostore_client_cache.proofs.entries.retain_entry.Goals as goal

pub returns-clause-entries : goal.returns-clause-entries
returns-clause-entries c = first_some Retained c.args.cache.now.entries c.args.page c.in-Some.entry.now (sym c.in-Some.ensures.value)

pub returns-in_default-clause-entries : goal.returns-in_default-clause-entries
returns-in_default-clause-entries c = first_none Retained c.args.cache.now.entries c.args.page (sym c.in_default.ensures.value)
