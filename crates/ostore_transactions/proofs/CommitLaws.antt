-- The last line of a transaction that its script doesn't abort.
use Rattle.std.proofs.Common.{◌≡◌, ℕ, List, false, None, Some, refl, sym, ap, subst, ◌∙◌, arith}
use Rattle.ostore_base.specs.declared.numbers.ClientNo.{ClientNo}
use Rattle.ostore_page_service.specs.Told.{Told, SameRecords, StillServes, NoBusy, DiskCounts}
use Rattle.ostore_graph_model.specs.declared.values.Reply.{Reply}
use Rattle.ostore_graph_model.specs.declared.commands.Txn.{Txn}
use Rattle.ostore_graph_model.specs.declared.commands.Script.{Script}
use Rattle.ostore_graph_model.specs.declared.history.Entry.{Entry}
use Rattle.ostore_graph_model.specs.History.{txn_at}
use Rattle.ostore_client_core.specs.declared.fault.AttemptFault.{AttemptFault}
use Rattle.ostore_client_core.specs.declared.fault.AttemptFault.TheVariants.{Busy, NoSpace, CacheFull, SpaceFull, Commit, OutOfMemory}
use Rattle.ostore_client_core.specs.declared.release.Ending.TheVariants as endings
use Rattle.ostore_client_core.specs.Clients.{ClientView, IsIdle}
use Rattle.ostore_client_core.specs.Calls.{Releases}
use Rattle.ostore_client_core.specs.Commits.{Finishes, ServesStill, FailsToCommit as WasRefused}
use Rattle.ostore_client_core.proofs.RecordLaws.{service_then, calm_then}
use Rattle.ostore_client_access.specs.Attempts.{HasMade, FitsNamed}
use Rattle.ostore_transactions.specs.declared.attempt.Attempt.{Attempt}
use Rattle.ostore_transactions.specs.Attempts.{last_line}
use Rattle.ostore_transactions.specs.Lines.{entry_by, HasFailed, IsCommitted}
use Rattle.ostore_transactions.proofs.FailLaws.{same_history, no_faults}

entry_of : ClientNo → ℕ → Txn → List Reply → Entry
entry_of client ordinal txn replies = record { client = client; ordinal = ordinal; update = txn.update; replies = replies }

same_entry : (client : ClientNo) (number ordinal : ℕ) (txn : Txn) (copy replies : List Reply) → client.0 ≡ number → copy ≡ replies → entry_of client ordinal txn copy ≡ entry_by number ordinal txn replies
unfolding entry_of
same_entry client number ordinal txn copy replies is same =
    ap (λ (n : ℕ). entry_by n ordinal txn copy) is ∙ ap (entry_by number ordinal txn) same

pub committed : (a b : Script → Type 0) (t u : Told Entry) (x y : ClientView) (txn : Txn) (attempt : Attempt) (ordinal number : ℕ) (client : ClientNo) (copy replies all : List Reply)
    → attempt.progress ≡ None → txn.aborts ≡ false → client.0 ≡ t.client → copy ≡ replies → replies ≡ all
    → HasMade a t x txn all → FitsNamed a t x txn (record { client = client; ordinal = ordinal; update = txn.update; replies = copy })
    → Finishes t u x (record { client = client; ordinal = ordinal; update = txn.update; replies = copy }) number → Releases endings.Committed x y u.mine → IsIdle y
    → ServesStill a b t x (record { client = client; ordinal = ordinal; update = txn.update; replies = copy })
    → IsCommitted a b t u x y txn (last_line txn) attempt ordinal number replies
unfolding entry_of
committed a b t u x y txn attempt ordinal number client copy replies all none kept is same given made fits done released idle still = record {
  last = refl;
  kept = kept;
  made = subst (HasMade a t x txn) (sym given) made;
  done = subst (λ (e : Entry). Finishes t u x e number) (same_entry client t.client ordinal txn copy replies is same) done;
  released = released;
  served = λ script serving schema named. still script serving schema
      (fits script serving schema (record { named = subst (λ (n : ℕ). txn_at script n ordinal ≡ Some txn) (sym is) named; kept = kept; kind = refl }));
  over = record { idle = idle; first = none };
}

pub commit_failed : (a b c : Script → Type 0) (t u v : Told Entry) (x z : ClientView) (txn : Txn) (attempt : Attempt) (entry : Entry) (fault : AttemptFault)
    → attempt.progress ≡ None → txn.aborts ≡ false → entry.update ≡ txn.update → WasRefused fault t u entry → StillServes a b
    → IsIdle z → SameRecords u v → StillServes b c → NoBusy u v
    → HasFailed a c t v x z txn (last_line txn) attempt fault
commit_failed a b c t u v x z txn attempt entry (Commit fault) none kept kind refused still idle same served calm =
    let why = refused.1 in
    let less = why.room in
    let fewer = same.room in
    record {
      cause = (
        record {
          update = sym kind ∙ refused.0;
          kept = kept;
          may = why.may;
          faults = same.faults ∙ why.faults;
          disk_faults = subst (DiskCounts fault t.disk_faults) (sym same.disk_faults) why.disk_faults;
        },
        calm_then t u v why.calm calm,
      );
      at = refl;
      same = record {
        service = service_then t u v why.service same.service;
        records = same.records ∙ why.records;
        room = omega arith;
        number = same.number ∙ why.number;
        writes = same.writes ∙ why.writes;
      };
      served = λ script serving. served script (still script serving);
      over = record { idle = idle; first = none };
      place = tt;
    }
commit_failed a b c t u v x z txn attempt entry OutOfMemory none kept kind refused still idle same served calm =
    let both = subst (λ (w : Told Entry). SameRecords w v) refused same in
    record {
      cause = (subst (λ (w : Told Entry). NoBusy w v) refused calm, no_faults t v both);
      at = tt;
      same = same_history t v both;
      served = λ script serving. served script (still script serving);
      over = record { idle = idle; first = none };
      place = tt;
    }
commit_failed a b c t u v x z txn attempt entry (Busy busy) none kept kind refused still idle same served calm = absurd refused
commit_failed a b c t u v x z txn attempt entry (NoSpace segment need) none kept kind refused still idle same served calm = absurd refused
commit_failed a b c t u v x z txn attempt entry (CacheFull used capacity) none kept kind refused still idle same served calm = absurd refused
commit_failed a b c t u v x z txn attempt entry (SpaceFull frames) none kept kind refused still idle same served calm = absurd refused
