-- Why an attempt fails.
use Rattle.std.specs.Prelude.{◌≡◌, ◌+◌, ◌<◌, ◌≤◌, ◌++◌, ◌∷◌, [], ℕ, true, false, List, length}
use Rattle.std.specs.Option.{option_map}
use Rattle.ostore_base.specs.Faults.{Rose}
use Rattle.ostore_base.specs.declared.page.PageImage.{PageImage}
use Rattle.ostore_schema_layout.specs.declared.schema.Schema.{Schema}
use Rattle.ostore_segments.specs.declared.placement.NoSpace.{NoSpace as Lack}
use Rattle.ostore_page_service.specs.declared.answers.Busy.{Busy as BusyPage}
use Rattle.ostore_page_service.specs.declared.answers.CommitFault.{CommitFault}
use Rattle.ostore_page_service.specs.History.{IsReached}
use Rattle.ostore_page_service.specs.Told.{Told, SameService, NoBusy, DiskCounts, MayCome, faults_after}
use Rattle.ostore_graph_model.specs.declared.values.Reply.{Reply}
use Rattle.ostore_graph_model.specs.declared.commands.Txn.{Txn}
use Rattle.ostore_graph_model.specs.declared.commands.Script.{Script}
use Rattle.ostore_graph_model.specs.declared.history.Entry.{Entry}
use Rattle.ostore_client_core.specs.declared.fault.AttemptFault.{AttemptFault}
use Rattle.ostore_client_core.specs.declared.fault.AttemptFault.TheVariants.{Busy, NoSpace, CacheFull, SpaceFull, Commit, OutOfMemory}
use Rattle.ostore_client_core.specs.Kinds.{graph_meaning}
use Rattle.ostore_client_core.specs.Clients.{ClientView}
use Rattle.ostore_client_access.specs.Accesses.{MeetsAnother}
use Rattle.ostore_client_access.specs.Attempts.{FoundNoPlace}
use Rattle.ostore_object_ops.specs.Lines.{LacksLine, LacksGrowth}
use Rattle.ostore_object_ops.specs.Claiming.{IsBelowGrowth}
use Rattle.ostore_transactions.specs.Attempts.{last_line}

-- ---- the line at which a fault comes

abbrev pub IsCommandLine : Txn → ℕ → Type 0
IsCommandLine txn line = (1 ≤ line) × (line < last_line txn)

-- a commit fails at the last line, and pages and space are wanted by commands; memory may be refused at each line
abbrev pub ComesAt : AttemptFault → Txn → ℕ → Type 0
ComesAt (Busy busy) txn line = IsCommandLine txn line
ComesAt (NoSpace segment need) txn line = IsCommandLine txn line
ComesAt (CacheFull used capacity) txn line = IsCommandLine txn line
ComesAt (SpaceFull frames) txn line = IsCommandLine txn line
ComesAt (Commit fault) txn line = line ≡ last_line txn
ComesAt OutOfMemory txn line = Unit {0}

-- ---- why it comes

-- the service refused a page, once: another client is at it
pub record WasRefused (told now : Told Entry) (txn : Txn) (busy : BusyPage) : Type 0 where
  pub met : MeetsAnother txn.update told busy.page.0
  pub rose : Rose told.busy now.busy
  pub busies : now.busies ≡ option_map (λ earlier. earlier ++ busy ∷ []) told.busies

-- a legal history of the script leads to a list of which fewer pages are free than the transaction may take
pub record LacksPages (script : Script) (told : Told Entry) (txn : Txn) : Type 0 where
  pub number : ℕ
  pub list : List PageImage
  pub reached : IsReached graph_meaning script told.first told.opened told.client told.mine.records number list
  pub lacks : LacksGrowth txn list

-- A legal history of the script leads to a list on which the transaction may use more pages than so many: these are fewer
-- than 2, the list's data pages and the transaction's growth together.
pub record CrowdsPages (script : Script) (told : Told Entry) (txn : Txn) (capacity : ℕ) : Type 0 where
  pub number : ℕ
  pub list : List PageImage
  pub reached : IsReached graph_meaning script told.first told.opened told.client told.mine.records number list
  pub below : IsBelowGrowth txn list capacity

-- a command of the transaction makes an object that finds no place on some list of pages
abbrev pub FindsNoPlace : Schema → Txn → Lack → Type 0
FindsNoPlace schema txn lack = (replies : List Reply) × (list : List PageImage) × LacksLine schema txn replies lack list

-- The command's line of this number finds no place for its object on one of the lists of pages that the attempt may have made
-- before it. The line behind so many replies has the number one above theirs.
pub record LacksPlace (serves : Script → Type 0) (told : Told Entry) (client : ClientView) (txn : Txn) (line : ℕ)
    (lack : Lack) : Type 0 where
  pub replies : List Reply
  pub next : line ≡ length replies + 1
  pub found : FoundNoPlace serves told client txn replies lack

-- where a fault is want of space, what is wanted
abbrev pub IfNoSpace : (Lack → Type 0) → AttemptFault → Type 0
IfNoSpace P (NoSpace segment need) = P (record { segment = segment; need = need })
IfNoSpace P (Busy busy) = Unit {0}
IfNoSpace P (CacheFull used capacity) = Unit {0}
IfNoSpace P (SpaceFull frames) = Unit {0}
IfNoSpace P (Commit fault) = Unit {0}
IfNoSpace P OutOfMemory = Unit {0}

-- the commit of an update failed
pub record FailsToCommit (told now : Told Entry) (txn : Txn) (fault : CommitFault) : Type 0 where
  pub update : txn.update ≡ true
  pub kept : txn.aborts ≡ false
  pub may : MayCome fault told.may_fail
  pub faults : now.faults ≡ faults_after fault told.faults
  pub disk_faults : DiskCounts fault told.disk_faults now.disk_faults

-- nothing of a commit's was otherwise
pub record NoFaults (told now : Told Entry) : Type 0 where
  pub faults : now.faults ≡ told.faults
  pub disk_faults : now.disk_faults ≡ told.disk_faults

-- what no attempt changes but one that commits
pub record SameHistory (told now : Told Entry) : Type 0 where
  pub service : SameService told now
  pub records : now.mine.records ≡ told.mine.records
  pub room : told.mine.room ≤ now.mine.room
  pub number : now.number ≡ told.number
  pub writes : now.writes ≡ told.writes

module _ (serves : Script → Type 0) (told now : Told Entry) (client : ClientView) (txn : Txn) where
  -- Busy was answered by the service, once; with every other fault none came. All pages that the cache may have are in use,
  -- or all frames reserved, only where these are fewer than the pages of the database; and all pages of the cache only where
  -- the transaction may use more.
  abbrev pub IsCause : AttemptFault → Type 0
  IsCause (Busy busy) = WasRefused told now txn busy × NoFaults told now
  IsCause (NoSpace segment need) =
      (txn.update ≡ true)
      × ((script : Script) → serves script → script.schema ≡ client.schema → LacksPages script told txn)
      × NoBusy told now × NoFaults told now
      × FindsNoPlace client.schema txn (record { segment = segment; need = need })
  IsCause (CacheFull used capacity) =
      (used ≡ capacity) × (capacity ≡ client.most) × (capacity < length told.opened)
      × ((script : Script) → serves script → script.schema ≡ client.schema → CrowdsPages script told txn capacity)
      × NoBusy told now × NoFaults told now
  IsCause (SpaceFull frames) =
      (frames ≡ length client.frames.pages) × (frames < length told.opened) × NoBusy told now × NoFaults told now
  IsCause (Commit fault) = FailsToCommit told now txn fault × NoBusy told now
  IsCause OutOfMemory = NoBusy told now × NoFaults told now
