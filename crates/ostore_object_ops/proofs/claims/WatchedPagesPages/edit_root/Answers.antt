use Rattle.std.proofs.Common.{rules}
use Rattle.std.specs.Prelude.{⊤}
use Rattle.ostore_segments.proofs.ViewLaws.{alone_stays}
use Rattle.ostore_object_ops.proofs.claims.WatchedPagesPages.edit_root.Goals as goal

pub returns-in_err-note-clause-stays : goal.returns-in_err-note-clause-stays
returns-in_err-note-clause-stays c =
    let failed = alone_stays {S = ⊤} c.args.self.now.held.pages in
    search rules
