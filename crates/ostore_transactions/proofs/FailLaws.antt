-- A line that failed, and the attempt that was aborted then.
use Rattle.std.proofs.Common.{◌≡◌, ◌+◌, ℕ, List, length, true, None, refl, sym, subst, ◌∙◌}
use Rattle.ostore_base.specs.Faults.{Rose}
use Rattle.ostore_base.specs.declared.page.PageImage.{PageImage}
use Rattle.ostore_schema_layout.specs.declared.schema.Schema.{Schema}
use Rattle.ostore_segments.specs.declared.placement.NoSpace.{NoSpace as Lack}
use Rattle.ostore_page_service.specs.History.{IsReached, Agrees}
use Rattle.ostore_page_service.specs.Told.{Told, SameRecords, StillServes, NoBusy, HoldsReached}
use Rattle.ostore_graph_model.specs.declared.values.Reply.{Reply}
use Rattle.ostore_graph_model.specs.declared.commands.Txn.{Txn}
use Rattle.ostore_graph_model.specs.declared.commands.Script.{Script}
use Rattle.ostore_graph_model.specs.declared.history.Entry.{Entry}
use Rattle.ostore_graph_model.specs.Valid.{IsValid}
use Rattle.ostore_client_core.specs.declared.fault.AttemptFault.{AttemptFault}
use Rattle.ostore_client_core.specs.declared.fault.AttemptFault.TheVariants.{Busy, NoSpace, CacheFull, SpaceFull, Commit, OutOfMemory}
use Rattle.ostore_client_core.specs.Kinds.{graph_meaning}
use Rattle.ostore_client_core.specs.Clients.{ClientView, IsIdle}
use Rattle.ostore_client_core.specs.Attempts.{seen_list, IsBase, Attempts}
use Rattle.ostore_client_core.specs.Calls.{SameClient}
use Rattle.ostore_client_core.proofs.RecordLaws.{records_then, calm_then}
use Rattle.ostore_object_ops.specs.declared.stop.Stop.{Stop}
use Rattle.ostore_object_ops.specs.declared.stop.Stop.TheVariants as stops
use Rattle.ostore_object_ops.specs.Lines.{LacksLine}
use Rattle.ostore_object_ops.specs.Stops.{Stopped, IfNoSpace}
use Rattle.ostore_client_access.specs.Accesses.{Causes, Passes, Fails}
use Rattle.ostore_client_access.specs.Attempts.{FindsNoPlace, FoundNoPlace, LacksOnEach, IfFull, IfCacheFull, CrowdsOnEach}
use Rattle.ostore_transactions.specs.declared.attempt.Attempt.{Attempt}
use Rattle.ostore_transactions.specs.Attempts.{IsOver}
use Rattle.ostore_transactions.specs.Causes.{IsCommandLine, ComesAt, IsCause, LacksPages, CrowdsPages, FindsNoPlace as MayLackPlace, LacksPlace, IfNoSpace as IfLacking, NoFaults, SameHistory}
use Rattle.ostore_transactions.specs.Lines.{HasFailed}
use Rattle.ostore_transactions.specs.inside.Stopping.{fault_by}

pub same_history : (t u : Told Entry) → SameRecords t u → SameHistory t u
same_history t u same = record { service = same.service; records = same.records; room = same.room; number = same.number; writes = same.writes }

pub no_faults : (t u : Told Entry) → SameRecords t u → NoFaults t u
no_faults t u same = record { faults = same.faults; disk_faults = same.disk_faults }

-- ---- what a legal history leads to

-- the history that is reached where a service tells the one, where it tells the same of it
pub reached_as : (script : Script) (t u : Told Entry) (number : ℕ) (list : List PageImage) → SameRecords t u
    → IsReached graph_meaning script u.first u.opened u.client u.mine.records number list
    → IsReached graph_meaning script t.first t.opened t.client t.mine.records number list
reached_as script t u number list same reached =
    subst (λ (n : ℕ). IsReached graph_meaning script n t.opened t.client t.mine.records number list) same.service.first
    (subst (λ (l : List PageImage). IsReached graph_meaning script u.first l t.client t.mine.records number list) same.service.opened
    (subst (λ (n : ℕ). IsReached graph_meaning script u.first u.opened n t.mine.records number list) same.service.client
    (subst (λ (l : List (Entry × ℕ)). IsReached graph_meaning script u.first u.opened u.client l number list) same.records reached)))

-- the attempt may have begun on a list that has all images which the service holds
base_at : (u : Told Entry) (x y : ClientView) (script : Script) (number : ℕ) (list : List PageImage) → y.schema ≡ x.schema → script.schema ≡ x.schema
    → IsReached graph_meaning script u.first u.opened u.client u.mine.records number list → Agrees u.mine.held list → IsBase y.schema u list
base_at u x y script number list schema is reached agrees =
    let legal = reached.legal in
    record {
      long = legal.long;
      valid = subst (λ (s : Schema). IsValid s list) (is ∙ sym schema) legal.valid;
      agrees = agrees;
    }

lacks_pages : (b : Script → Type 0) (t u : Told Entry) (x y : ClientView) (txn : Txn) (script : Script)
    → SameRecords t u → y.schema ≡ x.schema → HoldsReached graph_meaning b u → LacksOnEach b u y txn
    → b script → script.schema ≡ x.schema → LacksPages script t txn
lacks_pages b t u x y txn script same schema reached lacks served is =
    let found = reached script served in
    record {
      number = found.0;
      list = found.1;
      reached = reached_as script t u found.0 found.1 same found.2;
      lacks = lacks.lacks found.1 (base_at u x y script found.0 found.1 schema is found.2 found.3);
    }

crowds_pages : (b : Script → Type 0) (t u : Told Entry) (x y : ClientView) (txn : Txn) (capacity : ℕ) (script : Script)
    → SameRecords t u → y.schema ≡ x.schema → HoldsReached graph_meaning b u → CrowdsOnEach b u y txn capacity
    → b script → script.schema ≡ x.schema → CrowdsPages script t txn capacity
crowds_pages b t u x y txn capacity script same schema reached crowds served is =
    let found = reached script served in
    record {
      number = found.0;
      list = found.1;
      reached = reached_as script t u found.0 found.1 same found.2;
      below = crowds.below found.1 (base_at u x y script found.0 found.1 schema is found.2 found.3);
    }

-- ---- why a command's line failed

-- after it the attempt was aborted
fault_cause : (a b : Script → Type 0) (t u v : Told Entry) (x y : ClientView) (txn : Txn) (fault : AttemptFault)
    → SameRecords t u → SameRecords u v → StillServes a b → NoBusy u v → SameClient x y → HoldsReached graph_meaning b u
    → Causes txn.update fault t u y → IfFull (CrowdsOnEach b u y txn) fault → IsCause a t v x txn fault
fault_cause a b t u v x y txn (Busy busy) before same served calm client reached why crowds = (
  record {
    met = why.2;
    rose = subst (λ (n : ℕ). Rose t.busy n) (sym calm.busy) why.0;
    busies = calm.busies ∙ why.1;
  },
  no_faults t v (records_then t u v before same),
)
fault_cause a b t u v x y txn (NoSpace segment need) before same served calm client reached why crowds = absurd why
fault_cause a b t u v x y txn (CacheFull used capacity) before same served calm client reached why crowds = (
  why.3,
  why.2 ∙ client.most,
  why.4,
  λ script serving is. crowds_pages b t u x y txn capacity script before client.schema reached crowds (served script serving) is,
  calm_then t u v why.0 calm,
  no_faults t v (records_then t u v before same),
)
fault_cause a b t u v x y txn (SpaceFull frames) before same served calm client reached why crowds =
    (why.2 ∙ client.frames, why.3, calm_then t u v why.0 calm, no_faults t v (records_then t u v before same))
fault_cause a b t u v x y txn (Commit fault) before same served calm client reached why crowds = absurd why
fault_cause a b t u v x y txn OutOfMemory before same served calm client reached why crowds =
    (calm_then t u v why calm, no_faults t v (records_then t u v before same))

fault_line : (t u : Told Entry) (y : ClientView) (txn : Txn) (line : ℕ) (fault : AttemptFault)
    → IsCommandLine txn line → Causes txn.update fault t u y → ComesAt fault txn line
fault_line t u y txn line (Busy busy) at why = at
fault_line t u y txn line (NoSpace segment need) at why = at
fault_line t u y txn line (CacheFull used capacity) at why = at
fault_line t u y txn line (SpaceFull frames) at why = at
fault_line t u y txn line (Commit fault) at why = absurd why
fault_line t u y txn line OutOfMemory at why = tt

no_place : (b : Script → Type 0) (u : Told Entry) (x y : ClientView) (txn : Txn) (replies : List Reply) (lack : Lack)
    → y.schema ≡ x.schema → Attempts b u y → FindsNoPlace b u y txn replies lack → MayLackPlace x.schema txn lack
no_place b u x y txn replies lack schema runs place =
    let base : List PageImage = runs.some.0 in
    let line = place base (seen_list y base) (record { runs = runs; began = runs.some.1; made = refl }) in
    (replies, seen_list y base, subst (λ (s : Schema). LacksLine s txn replies lack (seen_list y base)) schema line)

-- a fault of the client's isn't want of space
no_lack : (P : Lack → Type 0) (t u : Told Entry) (y : ClientView) (txn : Txn) (fault : AttemptFault) → Causes txn.update fault t u y → IfLacking P fault
no_lack P t u y txn (Busy busy) why = tt
no_lack P t u y txn (NoSpace segment need) why = absurd why
no_lack P t u y txn (CacheFull used capacity) why = tt
no_lack P t u y txn (SpaceFull frames) why = tt
no_lack P t u y txn (Commit fault) why = tt
no_lack P t u y txn OutOfMemory why = tt

over : (z : ClientView) (attempt : Attempt) → attempt.progress ≡ None → IsIdle z → IsOver z attempt
over z attempt none idle = record { idle = idle; first = none }

pub line_failed : (a b c : Script → Type 0) (t u v : Told Entry) (x y z : ClientView) (txn : Txn) (replies : List Reply) (line : ℕ) (attempt : Attempt) (stop : Stop AttemptFault)
    → attempt.progress ≡ None → IsCommandLine txn line
    → Stopped stop (λ fault. Fails txn.update fault a b t u x y) (Passes txn.update a b t u x y) → IfNoSpace (λ lack. LacksOnEach b u y txn) stop → IfCacheFull (CrowdsOnEach b u y txn) stop
    → IfNoSpace (λ lack. txn.update ≡ true) stop → IfNoSpace (FindsNoPlace b u y txn replies) stop
    → IfNoSpace (FoundNoPlace a t x txn replies) stop → line ≡ length replies + 1
    → HoldsReached graph_meaning b u → IsIdle z → SameRecords u v → StillServes b c → NoBusy u v
    → HasFailed a c t v x z txn line attempt (fault_by stop)
line_failed a b c t u v x y z txn replies line attempt (stops.Fault fault) none at stopped space crowds updates place found next reached idle same served calm =
    let both = records_then t u v stopped.same same in
    record {
      cause = fault_cause a b t u v x y txn fault stopped.same same stopped.served calm stopped.client reached stopped.cause crowds;
      at = fault_line t u y txn line fault at stopped.cause;
      same = same_history t v both;
      served = λ script serving. served script (stopped.served script serving);
      over = over z attempt none idle;
      place = no_lack (LacksPlace a t x txn line) t u y txn fault stopped.cause;
    }
line_failed a b c t u v x y z txn replies line attempt (stops.NoSpace lack) none at stopped space crowds updates place found next reached idle same served calm =
    let both = records_then t u v stopped.same same in
    record {
      cause = (
        updates,
        λ script serving is. lacks_pages b t u x y txn script stopped.same stopped.client.schema reached space (stopped.served script serving) is,
        calm_then t u v stopped.calm calm,
        no_faults t v both,
        no_place b u x y txn replies lack stopped.client.schema space.runs place,
      );
      at = at;
      same = same_history t v both;
      served = λ script serving. served script (stopped.served script serving);
      over = over z attempt none idle;
      place = record { replies = replies; next = next; found = found };
    }
line_failed a b c t u v x y z txn replies line attempt stops.OutOfMemory none at stopped space crowds updates place found next reached idle same served calm =
    let both = records_then t u v stopped.same same in
    record {
      cause = (calm_then t u v stopped.calm calm, no_faults t v both);
      at = tt;
      same = same_history t v both;
      served = λ script serving. served script (stopped.served script serving);
      over = over z attempt none idle;
      place = tt;
    }
