-- A client of a fresh server, and transactions without commands.
use Rattle.std.proofs.Common.{◌≡◌, ◌<◌, ◌≤◌, ◌+◌, ℕ, true, false, List, [], ◌∷◌, length, Option, Some, None, refl, sym, ap, subst, ◌∙◌, arith}
use Rattle.std.specs.Prelude.{All, Result, Ok, Err, OnOk}
use Rattle.std.proofs.lemmas.Bool.{false≢true}
use Rattle.std.proofs.lemmas.List.Elements.{All-nil}
use Rattle.ostore_base.specs.declared.page.PageImage.{PageImage}
use Rattle.ostore_schema_layout.specs.declared.schema.Schema.{Schema}
use Rattle.ostore_base.specs.Limits.{most_clients}
use Rattle.ostore_page_service.specs.declared.kind.Kind as kind
use Rattle.ostore_page_service.specs.declared.server.SeqServer.{SeqServer}
use Rattle.ostore_page_service.specs.Servers.{side_of}
use Rattle.ostore_page_service.specs.Told.{Side, Told, Undisturbed}
use Rattle.ostore_page_service.specs.Holding.{IsEmpty}
use Rattle.ostore_graph_model.specs.declared.commands.Script.{Script}
use Rattle.ostore_graph_model.specs.declared.history.Entry.{Entry}
use Rattle.ostore_graph_model.specs.Graph.{Graph}
use Rattle.ostore_graph_model.specs.History.{txn_at}
use Rattle.ostore_graph_model.specs.Transaction.{Runs}
use Rattle.ostore_graph_model.specs.Growth.{growth}
use Rattle.ostore_graph_model.specs.Valid.{IsValid}
use Rattle.ostore_client_cache.specs.declared.entries.CachedPage.{CachedPage}
use Rattle.ostore_client_cache.specs.declared.entries.Hold.{Hold}
use Rattle.ostore_client_cache.specs.declared.entries.Hold.TheVariants.{Retained, InUse, Owned}
use Rattle.ostore_client_cache.specs.Entries.{is_in_use, is_owned, is_owner, is_used}
use Rattle.ostore_client_core.specs.Kinds.{HasReplies, Follows}
use Rattle.ostore_client_core.specs.Clients.{ClientView, entry_of, IsAbsent, IsIdle, IsOwn}
use Rattle.ostore_client_core.specs.Attempts.{Attempts}
use Rattle.ostore_client_core.specs.Commits.{FitsClient}
use Rattle.ostore_client_core.specs.inside.Nothing.{MakesNothing, NamesNothing, nothing}
use Rattle.ostore_client_core.proofs.SeenLaws.{nothing_made}
use Rattle.ostore_client_core.proofs.StayLaws.{makes_nothing_still, stays_own, stays_running}

pub nothing_held : {side : Side Entry} → IsEmpty side → (page : ℕ) → IsAbsent side page
nothing_held empty page = record { held = empty.held page; owned = empty.owned page; kept = empty.kept page }

-- a script of the schema is served
pub fresh_script : {P : Script → Type 0} {schema now : Schema} → ((s : Script) → s.schema ≡ schema → P s) → now ≡ schema → (script : Script) × P script × (script.schema ≡ now)
fresh_script {P} {schema} {now} served is = (record { schema = schema; clients = [] }, served (record { schema = schema; clients = [] }) refl, sym is)

-- and one whose first client has such a transaction
with_nothing : Schema → Entry → Script
with_nothing schema entry = record { schema = schema; clients = (nothing entry ∷ []) ∷ [] }

pub fresh_named : {P : Script → Type 0} {schema now : Schema} (entry : Entry) → entry.client.0 ≡ 0 → entry.ordinal ≡ 1 → ((s : Script) → s.schema ≡ schema → P s) → now ≡ schema
    → (script : Script) × P script × (script.schema ≡ now) × NamesNothing script entry
unfolding with_nothing
fresh_named {P} {schema} {now} entry client ordinal served is = (
  with_nothing schema entry,
  served (with_nothing schema entry) refl,
  sym is,
  record {
    named = ap (λ (c : ℕ). txn_at (with_nothing schema entry) c entry.ordinal) client ∙ ap (λ (o : ℕ). txn_at (with_nothing schema entry) 0 o) ordinal;
    kept = refl;
    kind = refl;
  },
)

-- what holds of an Ok
pub ok_then : {T F : Type 0} {P Q : Type 0} (r : Result T F) → (P → Q) → OnOk r P → OnOk r Q
ok_then (Ok x) f p = f p
ok_then (Err e) f p = tt

-- ---- what makes nothing fits

unowned_by : (hold : Hold) → is_used hold ≡ false → is_owner hold ≡ false
unowned_by Retained idle = refl
unowned_by InUse idle = refl
unowned_by Owned idle = absurd (false≢true (sym idle))

unowned : (found : Option CachedPage) → is_in_use found ≡ false → is_owned found ≡ false
unowned None idle = refl
unowned (Some entry) idle = unowned_by entry.hold idle

runs_nothing : (script : Script) (entry : Entry) (graph : Graph) → entry.replies ≡ [] → Runs script.schema (nothing entry) graph entry.replies graph
runs_nothing script entry graph none = ap (λ replies. record { replies = replies; graph = graph }) (sym none)

follows_nothing : (script : Script) (entry : Entry) (base : List PageImage) → entry.replies ≡ [] → NamesNothing script entry → IsValid script.schema base → Follows script entry base base
follows_nothing script entry base none names valid =
    let graph : Graph = valid.indexes_kept.graph in
    let free = valid.pages_kept.allocated.chains in
    let more : ℕ = growth graph [] in
    record {
      txn = nothing entry;
      names = names;
      graph = graph;
      stands = valid.indexes_kept.stands;
      after = graph;
      runs = runs_nothing script entry graph none;
      valid = valid;
      stands_after = valid.indexes_kept.stands;
      free = free.0;
      has_free = free.2.free_list;
      free_after = free.0;
      has_free_after = free.2.free_list;
      growth = less (length free.0) more;
    }
  where
    less : (a b : ℕ) → a ≤ a + b
    less a b = omega arith

right_nothing : (script : Script) (entry : Entry) (base : List PageImage) → entry.replies ≡ [] → NamesNothing script entry → IsValid script.schema base → HasReplies script entry base
right_nothing script entry base none names valid = record {
  txn = nothing entry;
  names = names;
  graph = valid.indexes_kept.graph;
  stands = valid.indexes_kept.stands;
  after = valid.indexes_kept.graph;
  runs = runs_nothing script entry valid.indexes_kept.graph none;
}

pub nothing_fits : (serves : Script → Type 0) (told : Told Entry) (client : ClientView) (script : Script) (entry : Entry) → serves script → script.schema ≡ client.schema → entry.client.0 ≡ told.client → told.mine.records ≡ [] → entry.replies ≡ [] → NamesNothing script entry → IsIdle client
    → FitsClient serves told client entry
nothing_fits serves told client script entry served schema mine first none names idle = record {
  script = script;
  served = served;
  schema = schema;
  fits = record {
    mine = mine;
    named = (nothing entry, names);
    rises = subst (λ (l : List (Entry × ℕ)). All (λ (earlier : Entry × ℕ). earlier.0.ordinal < entry.ordinal) l) (sym first) (All-nil (λ (earlier : Entry × ℕ). earlier.0.ordinal < entry.ordinal));
    reads = λ is page. unowned (entry_of client page) (idle page);
    right = λ base list may. right_nothing script entry base none names (valid_of base may.began.valid);
    next = λ updates base list may.
        subst (λ (l : List PageImage). Follows script entry base l) (sym (may.made ∙ nothing_made client base idle)) (follows_nothing script entry base none names (valid_of base may.began.valid));
  };
}
  where
    valid_of : (base : List PageImage) → IsValid client.schema base → IsValid script.schema base
    valid_of base valid = subst (λ (s : Schema). IsValid s base) (sym schema) valid

-- and so does what owns pages and has written nothing
pub owned_fits : (serves : Script → Type 0) (told : Told Entry) (client : ClientView) (script : Script) (entry : Entry) → serves script → script.schema ≡ client.schema → entry.client.0 ≡ told.client → told.mine.records ≡ [] → entry.replies ≡ [] → entry.update ≡ true → NamesNothing script entry
    → MakesNothing serves told client → FitsClient serves told client entry
owned_fits serves told client script entry served schema mine first none updates names made = record {
  script = script;
  served = served;
  schema = schema;
  fits = record {
    mine = mine;
    named = (nothing entry, names);
    rises = subst (λ (l : List (Entry × ℕ)). All (λ (earlier : Entry × ℕ). earlier.0.ordinal < entry.ordinal) l) (sym first) (All-nil (λ (earlier : Entry × ℕ). earlier.0.ordinal < entry.ordinal));
    reads = λ is page. absurd (false≢true (sym is ∙ updates));
    right = λ base list may. right_nothing script entry base none names (valid_in base may.began.valid);
    next = λ is base list may. subst (λ (l : List PageImage). Follows script entry base l) (sym (made base list may)) (follows_nothing script entry base none names (valid_in base may.began.valid));
  };
}
  where
    valid_in : (base : List PageImage) → IsValid client.schema base → IsValid script.schema base
    valid_in base valid = subst (λ (s : Schema). IsValid s base) (sym schema) valid

-- ---- two clients of one server

-- what the server holds for one client, before and after a call for another one
pub undisturbed_at : {K D S : Type 0} {g : kind.Ghosts K Entry S} (before was now after : SeqServer K D Entry S g) → was ≡ before → after ≡ now → {n m k : ℕ} (c d : ℕ) → n ≡ c → m ≡ c → k ≡ d → c < most_clients → (c ≡ d → ⊥)
    → ((e : ℕ) → e < most_clients → (e ≡ k → ⊥) → Undisturbed (side_of was e) (side_of now e)) → Undisturbed (side_of before n) (side_of after m)
undisturbed_at before was now after first last {n = n} {m = m} c d n_is m_is k_is low apart others =
    subst (λ (i : ℕ). Undisturbed (side_of before i) (side_of after m)) (sym n_is)
    (subst (λ (i : ℕ). Undisturbed (side_of before c) (side_of after i)) (sym m_is)
    (subst (λ s. Undisturbed (side_of s c) (side_of after c)) first
    (subst (λ s. Undisturbed (side_of was c) (side_of s c)) (sym last) (others c low (λ e. apart (e ∙ k_is))))))

pub own_there : {serves later : Script → Type 0} {told now : Told Entry} {client : ClientView} → IsOwn serves told client → now.client ≡ told.client → now.opened ≡ told.opened → Undisturbed told.mine now.mine → (script : Script) × later script × (script.schema ≡ client.schema)
    → IsOwn later now client
own_there {serves} {later} {told} {now} {client} own same opened mine script = stays_own serves later told now client (record { client = same; opened = opened; mine = mine }) script own

pub running_there : {serves later : Script → Type 0} {told now : Told Entry} {client : ClientView} → Attempts serves told client → now.client ≡ told.client → now.opened ≡ told.opened → Undisturbed told.mine now.mine → (script : Script) × later script × (script.schema ≡ client.schema)
    → Attempts later now client
running_there {serves} {later} {told} {now} {client} runs same opened mine script = stays_running serves later told now client (record { client = same; opened = opened; mine = mine }) script runs

pub nothing_there : {serves later : Script → Type 0} {told now : Told Entry} {client : ClientView} → Attempts serves told client → MakesNothing serves told client → now.client ≡ told.client → now.opened ≡ told.opened → Undisturbed told.mine now.mine
    → (script : Script) × later script × (script.schema ≡ client.schema) → MakesNothing later now client
nothing_there {serves} {later} {told} {now} {client} runs made same opened mine script = makes_nothing_still serves later told now client (record { client = same; opened = opened; mine = mine }) script runs made
