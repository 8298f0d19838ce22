use Rattle.ostore_client_core.proofs.TakeLaws.{settled_there, settled_room}
use Rattle.ostore_client_core.proofs.client.Client.take.Goals as goal

pub use_page-requires-clause-there : goal.use_page-requires-clause-there
use_page-requires-clause-there g c = settled_there c.args.self.now c.settle.new.self c.args.page.0 c.args.image.now c.in_default.ensures.ok c.requires.there

pub use_page-requires-clause-room : goal.use_page-requires-clause-room
use_page-requires-clause-room g c = settled_room c.args.self.now c.settle.new.self c.args.page.0 c.args.image.now c.in_default.ensures.ok c.requires.room
