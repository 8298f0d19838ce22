-- The laws of calls that were Ok, or failed, one after the other.
use Rattle.std.proofs.Common.{◌≡◌, ◌≢◌, ◌<◌, ℕ, Bool, List, [], ◌∷◌, ◌++◌, inl, inr, refl, subst, sym, ap, ◌∙◌}
use Rattle.std.specs.Prelude.{length, IsSome}
use Rattle.std.specs.Option.{option_map}
use Rattle.ostore_base.specs.Faults.{Rose}
use Rattle.ostore_base.specs.declared.page.PageImage.{PageImage}
use Rattle.ostore_page_service.specs.Told.{Told, SameRecords, NoBusy, OwnedByAnother, UsedByAnother}
use Rattle.ostore_graph_model.specs.declared.commands.Script.{Script}
use Rattle.ostore_graph_model.specs.declared.history.Entry.{Entry}
use Rattle.ostore_client_core.specs.declared.fault.AttemptFault.{AttemptFault}
use Rattle.ostore_client_core.specs.declared.fault.AttemptFault.TheVariants.{Busy, NoSpace, CacheFull, SpaceFull, Commit, OutOfMemory}
use Rattle.ostore_client_core.specs.Clients.{ClientView}
use Rattle.ostore_client_core.specs.Calls.{SameClient}
use Rattle.ostore_client_core.proofs.RecordLaws.{records_refl, records_then, calm_refl, calm_then}
use Rattle.ostore_client_access.specs.Accesses.{Passes, Fails, Causes, MeetsAnother}

pub client_refl : (client : ClientView) → SameClient client client
client_refl client = record { schema = refl; most = refl; client = refl; frames = refl }

pub client_then : (x y z : ClientView) → SameClient x y → SameClient y z → SameClient x z
client_then x y z one two = record {
  schema = two.schema ∙ one.schema;
  most = two.most ∙ one.most;
  client = two.client ∙ one.client;
  frames = two.frames ∙ one.frames;
}

pub passes_refl : (updates : Bool) (serves : Script → Type 0) (told : Told Entry) (client : ClientView) → Passes updates serves serves told told client client
passes_refl updates serves told client = record { same = records_refl told; served = λ s serving. serving; calm = calm_refl told; client = client_refl client; owned = λ reads page owned. owned }

pub passes_then : (updates : Bool) (a b c : Script → Type 0) (t u v : Told Entry) (x y z : ClientView) → Passes updates a b t u x y → Passes updates b c u v y z → Passes updates a c t v x z
passes_then updates a b c t u v x y z one two = record {
  same = records_then t u v one.same two.same;
  served = λ s serving. two.served s (one.served s serving);
  calm = calm_then t u v one.calm two.calm;
  client = client_then x y z one.client two.client;
  owned = λ reads page owned. one.owned reads page (two.owned reads page owned);
}

-- ---- who was met

owned_then : (t u : Told Entry) (page : ℕ) → SameRecords t u → OwnedByAnother u page → OwnedByAnother t page
owned_then t u page same met = λ tells.
    let other = met (same.service.tells_others ∙ tells) in
    let apart : other.0 ≢ t.client = λ e. other.2 (e ∙ sym same.service.client) in
    (other.0, other.1, apart, sym ((same.service.others other.0 other.1 apart).owned page) ∙ other.3)

used_then : (t u : Told Entry) (page : ℕ) → SameRecords t u → UsedByAnother u page → UsedByAnother t page
used_then t u page same met = λ tells.
    let other = met (same.service.tells_others ∙ tells) in
    let apart : other.0 ≢ t.client = λ e. other.2 (e ∙ sym same.service.client) in
    (other.0, other.1, apart, subst IsSome ((same.service.others other.0 other.1 apart).held page) other.3)

pub meets_then : (updates : Bool) (t u : Told Entry) (page : ℕ) → SameRecords t u → MeetsAnother updates u page → MeetsAnother updates t page
meets_then updates t u page same (inl owned) = inl (owned_then t u page same owned)
meets_then updates t u page same (inr used) = inr (used.0, used_then t u page same used.1)

-- ---- a fault after calls that were Ok

causes_then : (updates : Bool) (fault : AttemptFault) (t u v : Told Entry) (client : ClientView) → SameRecords t u → NoBusy t u → Causes updates fault u v client → Causes updates fault t v client
causes_then updates (Busy busy) t u v client same calm why = (
  subst (λ (n : ℕ). Rose n v.busy) calm.busy why.0,
  why.1 ∙ ap (option_map (λ earlier. earlier ++ busy ∷ [])) calm.busies,
  meets_then updates t u busy.page.0 same why.2,
)
causes_then updates (NoSpace segment need) t u v client same calm why = why
causes_then updates (CacheFull used capacity) t u v client same calm why = (calm_then t u v calm why.0, why.1, why.2, why.3, subst (λ (l : List PageImage). capacity < length l) same.service.opened why.4)
causes_then updates (SpaceFull frames) t u v client same calm why = (calm_then t u v calm why.0, why.1, why.2, subst (λ (l : List PageImage). frames < length l) same.service.opened why.3)
causes_then updates (Commit fault) t u v client same calm why = why
causes_then updates OutOfMemory t u v client same calm why = calm_then t u v calm why

pub fails_then : (updates : Bool) (a b c : Script → Type 0) (t u v : Told Entry) (x y z : ClientView) (fault : AttemptFault) → Passes updates a b t u x y → Fails updates fault b c u v y z → Fails updates fault a c t v x z
fails_then updates a b c t u v x y z fault one two = record {
  own = two.own;
  same = records_then t u v one.same two.same;
  served = λ s serving. two.served s (one.served s serving);
  client = client_then x y z one.client two.client;
  owned = λ reads page owned. one.owned reads page (two.owned reads page owned);
  cause = causes_then updates fault t u v z one.same one.calm two.cause;
}

-- ---- the same of a holder, whose kind stays

-- whether the attempt updates didn't change, and calls were Ok
abbrev pub HasPassed : Bool → Bool → (Script → Type 0) → (Script → Type 0) → Told Entry → Told Entry → ClientView → ClientView → Type 0
HasPassed updates later a b t u x y = (later ≡ updates) × Passes updates a b t u x y

abbrev pub HasFailed : Bool → Bool → AttemptFault → (Script → Type 0) → (Script → Type 0) → Told Entry → Told Entry → ClientView → ClientView → Type 0
HasFailed updates later fault a b t u x y = (later ≡ updates) × Fails updates fault a b t u x y

pub passed_refl : (updates : Bool) (serves : Script → Type 0) (told : Told Entry) (client : ClientView) → HasPassed updates updates serves serves told told client client
passed_refl updates serves told client = (refl, passes_refl updates serves told client)

pub passed_then : (k l m : Bool) (a b c : Script → Type 0) (t u v : Told Entry) (x y z : ClientView) → HasPassed k l a b t u x y → HasPassed l m b c u v y z → HasPassed k m a c t v x z
passed_then k l m a b c t u v x y z one two = (
  two.0 ∙ one.0,
  passes_then k a b c t u v x y z one.1 (subst (λ (n : Bool). Passes n b c u v y z) one.0 two.1),
)

pub failed_then : (k l m : Bool) (a b c : Script → Type 0) (t u v : Told Entry) (x y z : ClientView) (fault : AttemptFault) → HasPassed k l a b t u x y → HasFailed l m fault b c u v y z → HasFailed k m fault a c t v x z
failed_then k l m a b c t u v x y z fault one two = (
  two.0 ∙ one.0,
  fails_then k a b c t u v x y z fault one.1 (subst (λ (n : Bool). Fails n fault b c u v y z) one.0 two.1),
)
