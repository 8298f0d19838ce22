-- What a line of a transaction gives.
use Rattle.std.specs.Prelude.{◌≡◌, ◌+◌, ◌<◌, ℕ, true, false, List, [], Option, Some, None}
use Rattle.ostore_page_service.specs.Told.{Told, SameRecords, StillServes, NoBusy}
use Rattle.ostore_graph_model.specs.declared.values.Reply.{Reply}
use Rattle.ostore_graph_model.specs.declared.commands.Txn.{Txn}
use Rattle.ostore_graph_model.specs.declared.commands.Script.{Script}
use Rattle.ostore_graph_model.specs.declared.history.Entry.{Entry}
use Rattle.ostore_graph_model.specs.History.{txn_at}
use Rattle.ostore_client_core.specs.declared.fault.AttemptFault.{AttemptFault}
use Rattle.ostore_client_core.specs.declared.release.Ending.TheVariants as endings
use Rattle.ostore_client_core.specs.Clients.{ClientView}
use Rattle.ostore_client_core.specs.Calls.{Releases}
use Rattle.ostore_client_core.specs.Commits.{Finishes}
use Rattle.ostore_client_access.specs.Attempts.{AddsReply, HasMade}
use Rattle.ostore_object_ops.specs.declared.progress.Progress.{Progress}
use Rattle.ostore_object_ops.specs.Progresses.{replies_of}
use Rattle.ostore_transactions.specs.declared.attempt.Attempt.{Attempt}
use Rattle.ostore_transactions.specs.declared.line.Line.{Line}
use Rattle.ostore_transactions.specs.declared.line.Line.TheVariants.{Going, Committed, Aborted}
use Rattle.ostore_transactions.specs.Attempts.{last_line, line_at, replies_in, IsOver}
use Rattle.ostore_transactions.specs.Causes.{SameHistory, IsCause, ComesAt, LacksPlace, IfNoSpace}

-- the entry of the client's transaction with these replies
abbrev pub entry_by : ℕ → ℕ → Txn → List Reply → Entry
entry_by client ordinal txn replies = record {
  client = record { 0 = client };
  ordinal = ordinal;
  update = txn.update;
  replies = replies;
}

-- a script in which the transaction is the client's with this ordinal is served still
abbrev pub ServesNamed : (Script → Type 0) → (Script → Type 0) → Told Entry → ClientView → Txn → ℕ → Type 0
ServesNamed serves later told client txn ordinal =
    (script : Script) → serves script → script.schema ≡ client.schema
    → txn_at script told.client ordinal ≡ Some txn → later script

-- ---- the replies

-- a line that goes on: behind the first one there are no replies, and a command adds its own to those before it
abbrev pub AddsOwnReply : Option Progress → List Reply → Type 0
AddsOwnReply None replies = replies ≡ []
AddsOwnReply (Some before) replies = AddsReply (replies_of before) replies

-- from before a line to after it: the replies of the attempt go on so, and those that are committed are the attempt's
abbrev pub RepliesGoOn : (before after : Option Progress) → Line → Type 0
RepliesGoOn before after Going = AddsOwnReply before (replies_in after)
RepliesGoOn before after (Committed number replies) = replies ≡ replies_in before
RepliesGoOn before after Aborted = Unit {0}

-- ---- what else it gives

-- From before a line of this number to after it: the scripts that are served, what the service tells, and the client; and
-- where the attempt is then.
module _ (serves later : Script → Type 0) (told now : Told Entry) (old new : ClientView) (txn : Txn) (line : ℕ)
    (attempt : Attempt) where
  -- the line wasn't the last one, and the attempt stands at the next one
  pub record IsGoing : Type 0 where
    pub left : line < last_line txn
    pub next : line_at attempt ≡ line + 1
    pub same : SameRecords told now
    pub served : StillServes serves later
    pub calm : NoBusy told now

  -- It was the last line, and the transaction is committed with this number: its entry is the client's last record, with the
  -- replies to its commands, and what it owned is written. All pages were given back.
  pub record IsCommitted (ordinal number : ℕ) (replies : List Reply) : Type 0 where
    pub last : line ≡ last_line txn
    pub kept : txn.aborts ≡ false
    pub made : HasMade serves told old txn replies
    pub done : Finishes told now old (entry_by told.client ordinal txn replies) number
    pub released : Releases endings.Committed old new now.mine
    pub served : ServesNamed serves later told old txn ordinal
    pub over : IsOver new attempt

  -- It was the last line, and the script aborts the transaction, of which each command had run and has one of these replies.
  -- All pages were given back, those that it owned void.
  pub record IsAborted : Type 0 where
    pub last : line ≡ last_line txn
    pub aborts : txn.aborts ≡ true
    pub released : Releases endings.Aborted old new now.mine
    pub same : SameRecords told now
    pub served : StillServes serves later
    pub calm : NoBusy told now
    pub over : IsOver new attempt
    pub replies : List Reply
    pub made : HasMade serves told old txn replies

  -- the line failed, and the attempt was aborted
  pub record HasFailed (fault : AttemptFault) : Type 0 where
    pub cause : IsCause serves told now old txn fault
    pub at : ComesAt fault txn line
    pub same : SameHistory told now
    pub served : StillServes serves later
    pub over : IsOver new attempt
    pub place : IfNoSpace (LacksPlace serves told old txn line) fault

  abbrev pub IsLine : ℕ → Line → Type 0
  IsLine ordinal Going = IsGoing
  IsLine ordinal (Committed number replies) = IsCommitted ordinal number replies
  IsLine ordinal Aborted = IsAborted
