-- Transactions without commands, for tests.
use Rattle.std.specs.Prelude.{◌≡◌, false, List, []}
use Rattle.ostore_base.specs.declared.page.PageImage.{PageImage}
use Rattle.ostore_page_service.specs.Told.{Told}
use Rattle.ostore_graph_model.specs.declared.commands.Script.{Script}
use Rattle.ostore_graph_model.specs.declared.commands.Txn.{Txn}
use Rattle.ostore_graph_model.specs.declared.history.Entry.{Entry}
use Rattle.ostore_client_core.specs.Kinds.{Names}
use Rattle.ostore_client_core.specs.Clients.{ClientView}
use Rattle.ostore_client_core.specs.Attempts.{MayBe}

-- of the entry's kind, without commands
abbrev pub nothing : Entry → Txn
nothing entry = record { update = entry.update; commands = []; aborts = false }

-- the script's transaction that the entry names has no commands
abbrev pub NamesNothing : Script → Entry → Type 0
NamesNothing script entry = Names script entry (nothing entry)

-- whatever list the attempt began on, it has made nothing of it
abbrev pub MakesNothing : (Script → Type 0) → Told Entry → ClientView → Type 0
MakesNothing serves told client = (base list : List PageImage) → MayBe serves told client base list → list ≡ base
