use Rattle.std.proofs.Common.{◌<◌, ℕ, List}
use Rattle.ostore_redo_journal.specs.Headers.{HasHeader, IsNotDatabase, IsNewer, IsBadBase, journal_at}
use Rattle.ostore_redo_journal.specs.declared.header.Header.{Header}
use Rattle.ostore_redo_journal.proofs.Slots.{told_front, told_ok}
use Rattle.ostore_redo_journal.proofs.header.read_header.Goals as goal

pub returns-clause-header : goal.returns-clause-header
returns-clause-header g c =
    told_ok c.judge.result (g.D.Disk.content c.args.disk.now) (g.D.Disk.content c.length.new.self) c.read.new.into c.in_ok-size.size (λ (h : Header) (f : List ℕ) (n : ℕ). HasHeader f h × (journal_at h < n))
    c.length.ensures.content c.judge.ensures.whole c.in_ok-read.ensures.bytes c.in_ok-size.ensures.value c.judge.ensures.header

pub returns-clause-not_database : goal.returns-clause-not_database
returns-clause-not_database g c is =
    told_front (g.D.Disk.content c.args.disk.now) (g.D.Disk.content c.length.new.self) c.read.new.into c.in_ok-size.size IsNotDatabase
    c.length.ensures.content c.judge.ensures.whole c.in_ok-read.ensures.bytes c.in_ok-size.ensures.value (c.judge.ensures.not_database is)

pub returns-clause-newer : goal.returns-clause-newer
returns-clause-newer g c is =
    told_front (g.D.Disk.content c.args.disk.now) (g.D.Disk.content c.length.new.self) c.read.new.into c.in_ok-size.size IsNewer
    c.length.ensures.content c.judge.ensures.whole c.in_ok-read.ensures.bytes c.in_ok-size.ensures.value (c.judge.ensures.newer is)

pub returns-clause-bad : goal.returns-clause-bad
returns-clause-bad g c at is =
    told_front (g.D.Disk.content c.args.disk.now) (g.D.Disk.content c.length.new.self) c.read.new.into c.in_ok-size.size (λ (f : List ℕ) (n : ℕ). IsBadBase f n at)
    c.length.ensures.content c.judge.ensures.whole c.in_ok-read.ensures.bytes c.in_ok-size.ensures.value (c.judge.ensures.bad at is)
