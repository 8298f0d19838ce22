-- What an addition changes for its client, and why there may be none.
use Rattle.std.specs.Prelude.{◌≡◌, ◌⊎◌, ℕ, ◌+◌, ◌%◌, true, ◌∷◌, [], ◌++◌, Result, Ok, Err, slice_index}
use Rattle.std.specs.Option.{option_map}
use Rattle.ostore_base.specs.declared.page.PageImage.{PageImage}
use Rattle.ostore_page_service.specs.declared.answers.Busy.{Busy}
use Rattle.ostore_page_service.specs.declared.answers.CommitFault.{CommitFault}
use Rattle.ostore_page_service.specs.Told.{Told, NoBusy, Numbers, OwnedByAnother, UsedByAnother, DiskCounts, faults_after}
use Rattle.ostore_service_callers.specs.declared.sums.Addition.{Addition}
use Rattle.ostore_service_callers.specs.declared.sums.AddFault.{AddFault}
use Rattle.ostore_service_callers.specs.declared.sums.AddFault.TheVariants as fault
use Rattle.ostore_service_callers.specs.Claimed.{IsCounted}

module _ (t u : Told Addition) where
  -- no disk failed, and no commit
  pub record NoFault : Type 0 where
    pub faults : u.faults ≡ t.faults
    pub disk_faults : u.disk_faults ≡ t.disk_faults

  -- nothing was recorded
  pub record AddsNothing : Type 0 where
    pub records : u.mine.records ≡ t.mine.records
    pub number : u.number ≡ t.number
    pub writes : u.writes ≡ t.writes

  module _ (given at more : ℕ) where
    -- the entry was recorded at the number n, and the image written, which holds the sum
    pub record Adds (n : ℕ) (entry : Addition) (image : PageImage) : Type 0 where
      pub client : entry.client ≡ t.client
      pub ordinal : entry.ordinal ≡ given
      pub page : entry.page ≡ at
      pub amount : entry.amount ≡ more
      pub updates : entry.updates ≡ true
      pub sum : slice_index image.bytes 0 ≡ (entry.seen + more) % 256
      pub records : u.mine.records ≡ t.mine.records ++ (entry, n) ∷ []
      pub numbers : Numbers true t u n
      pub writes : u.writes
          ≡ option_map (λ all. all ++ ((record { 0 = at }, image) ∷ []) ∷ []) t.writes
      pub calm : NoBusy t u
      pub sound : NoFault

    -- the page was Busy: another client owns it, or uses it
    pub record IsBusy (busy : Busy) : Type 0 where
      pub page : busy.page.0 ≡ at
      pub met : OwnedByAnother t at ⊎ UsedByAnother t at
      pub counted : IsCounted t u busy
      pub sound : NoFault

    -- the commit failed, which is told where faults are
    pub record CommitFails (f : CommitFault) : Type 0 where
      pub calm : NoBusy t u
      pub faults : u.faults ≡ faults_after f t.faults
      pub disk_faults : DiskCounts f t.disk_faults u.disk_faults

    abbrev pub IsWhy : AddFault → Type 0
    IsWhy (fault.Busy busy) = IsBusy busy
    IsWhy (fault.Commit f) = CommitFails f
    IsWhy fault.OutOfMemory = NoBusy t u × NoFault

    -- an Ok adds, and a fault has its cause and adds nothing
    abbrev pub AddsOrFails : Result ℕ AddFault → Type 0
    AddsOrFails (Ok n) = (entry : Addition) × (image : PageImage) × Adds n entry image
    AddsOrFails (Err f) = AddsNothing × IsWhy f
