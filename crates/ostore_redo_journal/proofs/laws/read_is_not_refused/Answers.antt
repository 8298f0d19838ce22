use Rattle.std.proofs.Common.{length, take}
use Rattle.ostore_redo_journal.proofs.Refused.{header_stands, not_refused}
use Rattle.ostore_redo_journal.proofs.laws.read_is_not_refused.Goals as goal

pub returns : goal.returns
returns c held h rs reads =
    let has = header_stands held h rs reads in
    not_refused (take 4096 held) (length held) h has.0 has.1
