-- The pages of a client where its attempt failed.
use Rattle.std.proofs.Common.{◌≡◌, ◌<◌, ℕ, false, true, [], Bool, Option, None, Some, refl, sym, subst, ◌∙◌, arith}
use Rattle.std.specs.List.{Contains}
use Rattle.std.proofs.lemmas.Bool.{false≢true}
use Rattle.ostore_page_service.specs.declared.answers.Released.{Released}
use Rattle.ostore_page_service.specs.Told.{Told}
use Rattle.ostore_graph_model.specs.declared.commands.Script.{Script}
use Rattle.ostore_graph_model.specs.declared.commands.Txn.{Txn}
use Rattle.ostore_graph_model.specs.declared.history.Entry.{Entry}
use Rattle.ostore_client_cache.specs.declared.entries.CachedPage.{CachedPage}
use Rattle.ostore_client_cache.specs.declared.entries.Hold.{Hold}
use Rattle.ostore_client_cache.specs.declared.entries.Hold.TheVariants.{Retained, InUse, Owned}
use Rattle.ostore_client_cache.specs.Entries.{is_used, is_owner, is_in_use, is_owned}
use Rattle.ostore_client_core.specs.declared.fault.AttemptFault.{AttemptFault}
use Rattle.ostore_client_core.specs.declared.fault.AttemptFault.TheVariants.{Busy, NoSpace, CacheFull, SpaceFull, Commit, OutOfMemory}
use Rattle.ostore_client_core.specs.Clients.{ClientView, IsIdle, entry_of}
use Rattle.ostore_client_core.specs.Commits.{FailsToCommit}
use Rattle.ostore_client_core.specs.Retaining.{KeepsCopies, any_page}
use Rattle.ostore_object_ops.specs.declared.stop.Stop.{Stop}
use Rattle.ostore_object_ops.specs.declared.stop.Stop.TheVariants as stops
use Rattle.ostore_object_ops.specs.Stops.{Stopped}
use Rattle.ostore_client_access.specs.Accesses.{Passes, Fails}
use Rattle.ostore_client_access.specs.inside.Passing.{client_refl}
use Rattle.ostore_transactions.specs.Retained.{KeepsOthers, IsMetBy, WasAborted}
use Rattle.ostore_transactions.specs.inside.Stopping.{fault_by}

owner_uses : (hold : Hold) → is_owner hold ≡ true → is_used hold ≡ true
owner_uses Retained is = is
owner_uses InUse is = refl
owner_uses Owned is = refl

owned_is_used : (found : Option CachedPage) → is_owned found ≡ true → is_in_use found ≡ true
owned_is_used None is = is
owned_is_used (Some entry) is = owner_uses entry.hold is

none_in : (page : ℕ) → Contains [] page → ⊥
none_in page has = (let below : has.0 < 0 = has.1 in omega arith)

-- ---- an attempt that failed

-- where no page is in use, none is given back
pub idle_aborted : {T : Type 0} (releases : T → ℕ → Released → T → Type 0) (told now : Told Entry) (x : ClientView) (txn : Txn) → IsIdle x
    → KeepsCopies any_page told.mine now.mine → WasAborted releases told now x x txn 0 OutOfMemory
idle_aborted releases told now x txn idle copies = record {
  met = x;
  same = client_refl x;
  is = tt;
  others = λ no. (refl, λ page unused. copies page tt);
  released = record {
    used = [];
    are = λ page. (λ has. absurd (none_in page has), λ used. absurd (false≢true (sym (idle page) ∙ used)));
    ascend = λ i j d before below. absurd (omega arith);
    pages = refl;
    void = λ page owned. absurd (false≢true (sym (idle page) ∙ owned_is_used (entry_of x page) owned));
  };
  answered = λ page used. absurd (false≢true (sym (idle page) ∙ used));
}

pub others_then : (t u v : Told Entry) (x y : ClientView) → y ≡ x → KeepsOthers t u x → KeepsOthers u v y → KeepsOthers t v x
others_then t u v x y same before after = λ page unused. after page (subst (λ (z : ClientView). is_in_use (entry_of z page) ≡ false) (sym same) unused) ∙ before page unused

-- how the client stood when a commit failed
pub commit_met : (t u : Told Entry) (y : ClientView) (entry : Entry) (fault : AttemptFault) → FailsToCommit fault t u entry → IsMetBy fault y
commit_met t u y entry (Commit fault) why = tt
commit_met t u y entry OutOfMemory why = tt
commit_met t u y entry (Busy busy) why = absurd why
commit_met t u y entry (NoSpace segment need) why = absurd why
commit_met t u y entry (CacheFull used capacity) why = absurd why
commit_met t u y entry (SpaceFull frames) why = absurd why

-- and when a command's line did
pub stop_met : (a b : Script → Type 0) (t u : Told Entry) (x y : ClientView) (updates : Bool) (stop : Stop AttemptFault)
    → Stopped stop (λ fault. Fails updates fault a b t u x y) (Passes updates a b t u x y) → IsMetBy (fault_by stop) y
stop_met a b t u x y updates (stops.Fault (Busy busy)) stopped = tt
stop_met a b t u x y updates (stops.Fault (NoSpace segment need)) stopped = tt
stop_met a b t u x y updates (stops.Fault (CacheFull used capacity)) stopped = stopped.cause.1
stop_met a b t u x y updates (stops.Fault (SpaceFull frames)) stopped = stopped.cause.1.full
stop_met a b t u x y updates (stops.Fault (Commit fault)) stopped = tt
stop_met a b t u x y updates (stops.Fault OutOfMemory) stopped = tt
stop_met a b t u x y updates (stops.NoSpace lack) stopped = tt
stop_met a b t u x y updates stops.OutOfMemory stopped = tt
