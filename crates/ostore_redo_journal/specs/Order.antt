-- When a journal is in order.
use Rattle.std.specs.Prelude.{◌≡◌, ℕ, ◌+◌, ◌≤◌, ◌<◌, List, length, Option, IfSome, None}
use Rattle.ostore_base.specs.Limits.{least_pages, most_pages, longest_disk}
use Rattle.ostore_base.specs.Images.{IsSure, OfTold}
use Rattle.ostore_redo_journal.specs.Limits.{greatest_base}
use Rattle.ostore_redo_journal.specs.Records.{Logged}
use Rattle.ostore_redo_journal.specs.OnDisk.{IsOpened, ReadsAs}
use Rattle.ostore_redo_journal.specs.declared.journal.Journal.{Journal}

-- the number of the last commit that was acknowledged
abbrev pub last_number : {D : Type 0} → Journal D → ℕ
last_number journal = journal.header.base + journal.scan.records

-- what its disk reads as has these records, where the disk tells
abbrev pub Reads : {D : Type 0} → (D → Option (List ℕ)) → Journal D → List Logged → Type 0
Reads content journal rs =
    IfSome (content journal.disk) (λ held. IsOpened held journal.header journal.scan rs)

-- whatever a crash leaves of its disk now reads as its header and these records, where the disk tells
abbrev pub LeavesRecords : {D : Type 0} → (D → Option (List ℕ)) → (D → List ℕ → Type 0) → Journal D → List Logged → Type 0
LeavesRecords content may_leave journal rs =
    (image : List ℕ) → may_leave journal.disk image
    → OfTold (content journal.disk) (λ _ bytes. ReadsAs bytes journal.header rs) image

-- Its numbers are within the limits. Where it hasn't stopped, its disk has its header and records and
-- is sure of them; where it has, it stopped after the last acknowledged number.
pub record IsInOrder {D : Type 0} (content : D → Option (List ℕ)) (may_leave : D → List ℕ → Type 0) (journal : Journal D) : Type 0 where
  pub least : least_pages ≤ journal.header.pages
  pub most : journal.header.pages ≤ most_pages
  pub base : journal.header.base ≤ greatest_base
  pub records : journal.scan.records ≤ journal.scan.end
  pub end : journal.scan.end ≤ longest_disk
  pub inside : IfSome (content journal.disk) (λ held. journal.scan.end < length held)
  pub reads : journal.stopped ≡ None → (rs : List Logged) × Reads content journal rs
  pub sure : journal.stopped ≡ None → IsSure (content journal.disk) (may_leave journal.disk)
  pub stopped : IfSome journal.stopped (λ after. after ≡ last_number journal)
