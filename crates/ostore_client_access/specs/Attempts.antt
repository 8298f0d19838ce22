-- A transaction whose commands an attempt executes.
use Rattle.std.specs.Prelude.{◌≡◌, ◌<◌, ℕ, false, List, [], ◌∷◌, ◌++◌, All}
use Rattle.ostore_base.specs.declared.page.PageImage.{PageImage}
use Rattle.ostore_segments.specs.declared.placement.NoSpace.{NoSpace}
use Rattle.ostore_page_service.specs.Told.{Told}
use Rattle.ostore_graph_model.specs.declared.values.Reply.{Reply}
use Rattle.ostore_graph_model.specs.declared.commands.Script.{Script}
use Rattle.ostore_graph_model.specs.declared.commands.Txn.{Txn}
use Rattle.ostore_graph_model.specs.declared.history.Entry.{Entry}
use Rattle.ostore_client_core.specs.declared.fault.AttemptFault.{AttemptFault}
use Rattle.ostore_client_core.specs.declared.fault.AttemptFault.TheVariants as faults
use Rattle.ostore_client_core.specs.Kinds.{Names}
use Rattle.ostore_client_core.specs.Clients.{ClientView}
use Rattle.ostore_client_core.specs.Attempts.{IsBase, Attempts, MayBe}
use Rattle.ostore_client_core.specs.Commits.{FitsFor}
use Rattle.ostore_object_ops.specs.declared.progress.Progress.{Progress}
use Rattle.ostore_object_ops.specs.declared.stop.Stop.{Stop}
use Rattle.ostore_object_ops.specs.Stops.{Stopped}
use Rattle.ostore_object_ops.specs.Claiming.{SeesLinePages, IsBelowGrowth}
use Rattle.ostore_object_ops.specs.Progresses.{replies_of, leads_by}
use Rattle.ostore_object_ops.specs.Lines.{LacksLine, HasRun, Transacts, LacksGrowth}
use Rattle.ostore_client_access.specs.Accesses.{access_held, OwnsNothing}

-- ---- lines

-- The lines that have a reply have run on whatever list the attempt may have begun on, and have made of it what the
-- attempt has made. Where the transaction only reads, the attempt owns no page. Each page in use is one that its lines see.
pub record HasRunLines (serves : Script → Type 0) (told : Told Entry) (client : ClientView) (txn : Txn)
    (progress : Progress) : Type 0 where
  pub runs : Attempts serves told client
  pub ran : (base list : List PageImage) → MayBe serves told client base list
      → HasRun client.schema txn (replies_of progress) (leads_by (access_held serves told client) progress) base list
  pub reads : txn.update ≡ false → OwnsNothing client
  pub sees : SeesLinePages txn.update (access_held serves told client)

-- there is one reply more, the last one
abbrev pub AddsReply : List Reply → List Reply → Type 0
AddsReply replies more = (reply : Reply) × (more ≡ replies ++ reply ∷ [])

-- the line behind these replies finds no place for its object, on whatever list the attempt has made
abbrev pub FindsNoPlace : (Script → Type 0) → Told Entry → ClientView → Txn → List Reply → NoSpace → Type 0
FindsNoPlace serves told client txn replies lack =
    (base list : List PageImage) → MayBe serves told client base list → LacksLine client.schema txn replies lack list

-- the line behind these replies finds no place for its object, on one of the lists that the attempt may have made
pub record FoundNoPlace (serves : Script → Type 0) (told : Told Entry) (client : ClientView) (txn : Txn)
    (replies : List Reply) (lack : NoSpace) : Type 0 where
  pub base : List PageImage
  pub list : List PageImage
  pub may : MayBe serves told client base list
  pub lacks : LacksLine client.schema txn replies lack list

-- on each list on which the attempt may have begun, fewer pages were free than the transaction may take
pub record LacksOnEach (serves : Script → Type 0) (told : Told Entry) (client : ClientView) (txn : Txn) : Type 0 where
  pub runs : Attempts serves told client
  pub lacks : (base : List PageImage) → IsBase client.schema told base → LacksGrowth txn base

-- ---- a full cache

-- where a fault is that the cache is full, by how many pages it may have
abbrev pub IfFull : (ℕ → Type 0) → AttemptFault → Type 0
IfFull P (faults.CacheFull used capacity) = P capacity
IfFull P (faults.Busy busy) = Unit {0}
IfFull P (faults.SpaceFull frames) = Unit {0}
IfFull P faults.OutOfMemory = Unit {0}
IfFull P (faults.NoSpace segment need) = Unit {0}
IfFull P (faults.Commit fault) = Unit {0}

-- where commands stopped for it
abbrev pub IfCacheFull : (ℕ → Type 0) → Stop AttemptFault → Type 0
IfCacheFull P stop = Stopped stop (IfFull P) (Unit {0})

-- on each list on which the attempt may have begun, so many pages are fewer than 2, its data pages, and those that the
-- transaction may take, together
pub record CrowdsOnEach (serves : Script → Type 0) (told : Told Entry) (client : ClientView) (txn : Txn) (capacity : ℕ)
    : Type 0 where
  pub runs : Attempts serves told client
  pub below : (base : List PageImage) → IsBase client.schema told base → IsBelowGrowth txn base capacity

-- ---- all lines

-- The replies are the transaction's, whatever list the attempt may have begun on, and what it has made of that list is
-- what the transaction leaves. Where the transaction only reads, the attempt owns no page.
pub record HasMade (serves : Script → Type 0) (told : Told Entry) (client : ClientView) (txn : Txn)
    (replies : List Reply) : Type 0 where
  pub runs : Attempts serves told client
  pub made : (base list : List PageImage) → MayBe serves told client base list
      → Transacts client.schema txn replies base list
  pub reads : txn.update ≡ false → OwnsNothing client

-- an entry of the client's that names the transaction in a script that is served, with a later ordinal than all before it
pub record IsEntryOf (serves : Script → Type 0) (told : Told Entry) (client : ClientView) (txn : Txn) (entry : Entry)
    : Type 0 where
  pub script : Script
  pub served : serves script
  pub schema : script.schema ≡ client.schema
  pub names : Names script entry txn
  pub mine : entry.client.0 ≡ told.client
  pub rises : All (λ (earlier : Entry × ℕ). earlier.0.ordinal < entry.ordinal) told.mine.records

-- the entry fits for every script that is served, with the client's schema, in which it names the transaction
abbrev pub FitsNamed : (Script → Type 0) → Told Entry → ClientView → Txn → Entry → Type 0
FitsNamed serves told client txn entry =
    (script : Script) → serves script → script.schema ≡ client.schema → Names script entry txn
    → FitsFor serves told client script entry
