-- What a whole attempt at a transaction gives.
use Rattle.std.specs.Prelude.{◌≡◌, ◌++◌, ◌∷◌, [], ℕ, true, false, List}
use Rattle.ostore_segments.specs.declared.placement.NoSpace.{NoSpace}
use Rattle.ostore_page_service.specs.Told.{Told, SameService, SameRecords, StillServes, NoBusy, Numbers}
use Rattle.ostore_graph_model.specs.declared.values.Reply.{Reply}
use Rattle.ostore_graph_model.specs.declared.commands.Txn.{Txn}
use Rattle.ostore_graph_model.specs.declared.commands.Script.{Script}
use Rattle.ostore_graph_model.specs.declared.history.Entry.{Entry}
use Rattle.ostore_client_core.specs.declared.fault.AttemptFault.{AttemptFault}
use Rattle.ostore_client_core.specs.Clients.{ClientView}
use Rattle.ostore_client_core.specs.Calls.{SameClient}
use Rattle.ostore_client_access.specs.Attempts.{HasMade}
use Rattle.ostore_transactions.specs.declared.whole.Ended.{Ended}
use Rattle.ostore_transactions.specs.declared.whole.Ended.TheVariants.{Committed, Aborted}
use Rattle.ostore_transactions.specs.Causes.{SameHistory, NoFaults, IsCause, LacksPlace, IfNoSpace}
use Rattle.ostore_transactions.specs.Lines.{entry_by, ServesNamed}

-- what the service told, and the client, at a moment of an attempt
pub record IsMoment (told then : Told Entry) (old between : ClientView) : Type 0 where
  pub same : SameRecords told then
  pub client : SameClient old between

-- at a moment of the attempt all commands had run, and they have these replies
pub record HasRunAll (serves : Script → Type 0) (told : Told Entry) (old : ClientView) (txn : Txn) : Type 0 where
  pub then : Told Entry
  pub between : ClientView
  pub moment : IsMoment told then old between
  pub replies : List Reply
  pub made : HasMade serves then between txn replies

-- at a moment of the attempt the next line's object found no place
pub record LackedPlace (serves : Script → Type 0) (told : Told Entry) (old : ClientView) (txn : Txn) (lack : NoSpace)
    : Type 0 where
  pub then : Told Entry
  pub between : ClientView
  pub moment : IsMoment told then old between
  pub line : ℕ
  pub place : LacksPlace serves then between txn line lack

module _ (serves later : Script → Type 0) (told now : Told Entry) (old : ClientView) (txn : Txn) where
  -- the transaction is committed with this number, and its entry is the client's last record
  pub record HasCommitted (ordinal number : ℕ) (replies : List Reply) : Type 0 where
    pub kept : txn.aborts ≡ false
    pub records : now.mine.records ≡ told.mine.records ++ (entry_by told.client ordinal txn replies, number) ∷ []
    pub numbers : Numbers txn.update told now number
    pub service : SameService told now
    pub served : ServesNamed serves later told old txn ordinal
    pub calm : NoBusy told now
    pub faults : NoFaults told now

  -- the script aborts the transaction, of which each command had run
  pub record HasAborted : Type 0 where
    pub aborts : txn.aborts ≡ true
    pub same : SameRecords told now
    pub served : StillServes serves later
    pub calm : NoBusy told now
    pub ran : HasRunAll serves told old txn

  -- the attempt failed, and was aborted
  pub record HasGivenUp (fault : AttemptFault) : Type 0 where
    pub cause : IsCause serves told now old txn fault
    pub same : SameHistory told now
    pub served : StillServes serves later
    pub place : IfNoSpace (LackedPlace serves told old txn) fault

  abbrev pub IsEnd : ℕ → Ended → Type 0
  IsEnd ordinal (Committed number replies) = HasCommitted ordinal number replies
  IsEnd ordinal Aborted = HasAborted
