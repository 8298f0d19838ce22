use Rattle.std.proofs.Common.{rules}
use Rattle.std.specs.Prelude.{⊤}
use Rattle.ostore_segments.proofs.ViewLaws.{brings_nothing, alone_stays}
use Rattle.ostore_segments.proofs.OwnLaws.{owns_nothing}
use Rattle.ostore_object_ops.proofs.claims.WatchedPagesPages.enter.Goals as goal

pub returns-in_err-note-clause-stays : goal.returns-in_err-note-clause-stays
returns-in_err-note-clause-stays c =
    let failed = alone_stays {S = ⊤} c.args.self.now.held.pages in
    search rules

pub returns-clause-brings : goal.returns-clause-brings
returns-clause-brings c = brings_nothing

pub returns-clause-owns : goal.returns-clause-owns
returns-clause-owns c = owns_nothing
