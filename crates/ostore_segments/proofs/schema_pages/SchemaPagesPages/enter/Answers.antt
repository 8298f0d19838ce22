use Rattle.std.proofs.Common.{refl}
use Rattle.ostore_segments.proofs.ListSteps.{alone_becomes, alone_stands}
use Rattle.ostore_segments.proofs.ViewLaws.{alone_brings}
use Rattle.ostore_segments.proofs.OwnLaws.{alone_owns}
use Rattle.ostore_segments.proofs.schema_pages.SchemaPagesPages.enter.Goals as goal

pub returns-clause-lists : goal.returns-clause-lists
returns-clause-lists c = alone_becomes c.args.self.now.pages c.args.self.now.pages refl refl

pub returns-clause-view : goal.returns-clause-view
returns-clause-view c = alone_stands c.args.self.now.pages c.requires

pub returns-clause-brings : goal.returns-clause-brings
returns-clause-brings c = alone_brings c.args.self.now.pages c.args.self.now.pages refl

pub returns-clause-owns : goal.returns-clause-owns
returns-clause-owns c = alone_owns c.args.self.now.pages c.args.self.now.pages refl
