use Rattle.std.proofs.Common.{rules}
use Rattle.std.specs.Prelude.{⊤}
use Rattle.ostore_segments.proofs.ViewLaws.{alone_stays}
use Rattle.ostore_segments.proofs.refusals.RefusingPagesPages.edit.Goals as goal

pub returns-in_err-ask-clause-stays : goal.returns-in_err-ask-clause-stays
returns-in_err-ask-clause-stays c =
    let failed = alone_stays {S = ⊤} c.args.self.now.held.pages in
    search rules
