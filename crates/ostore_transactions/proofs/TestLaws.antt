-- A script whose first client has two transactions.
use Rattle.std.proofs.Common.{◌≡◌, ◌<◌, ℕ, List, [], ◌∷◌, Some, refl, sym, subst, ◌∙◌}
use Rattle.std.specs.Prelude.{All}
use Rattle.std.proofs.lemmas.List.Elements.{All-nil}
use Rattle.ostore_schema_layout.specs.declared.schema.Schema.{Schema}
use Rattle.ostore_graph_model.specs.declared.commands.Script.{Script}
use Rattle.ostore_graph_model.specs.declared.commands.Txn.{Txn}
use Rattle.ostore_graph_model.specs.declared.history.Entry.{Entry}
use Rattle.ostore_graph_model.specs.History.{txn_at}
use Rattle.ostore_page_service.specs.Told.{Told}
use Rattle.ostore_client_core.specs.Clients.{ClientView}
use Rattle.ostore_client_core.specs.Calls.{SameClient}
use Rattle.ostore_transactions.specs.declared.whole.Ended.{Ended}
use Rattle.ostore_transactions.specs.declared.whole.Ended.TheVariants.{Aborted}
use Rattle.ostore_transactions.specs.Attempts.{HasTxn}
use Rattle.ostore_transactions.specs.Ends.{HasAborted, IsEnd}

with_two : Schema → Txn → Txn → Script
with_two schema first second = record { schema = schema; clients = (first ∷ second ∷ []) ∷ [] }

pub fresh_two : {P : Script → Type 0} {schema now : Schema} (first second : Txn) → ((s : Script) → s.schema ≡ schema → P s) → now ≡ schema
    → (script : Script) × P script × (script.schema ≡ now) × (txn_at script 0 1 ≡ Some first) × (txn_at script 0 2 ≡ Some second)
unfolding with_two
fresh_two {P} {schema} {now} first second served is = (with_two schema first second, served (with_two schema first second) refl, sym is, refl, refl)

-- the client's second transaction may be attempted where the first one was aborted
pub second_txn : (serves later : Script → Type 0) (told now : Told Entry) (old new : ClientView) (first second : Txn) (ended : Ended) → ended ≡ Aborted → IsEnd serves later told now old first 1 ended → SameClient old new
    → told.client ≡ 0 → told.mine.records ≡ [] → (script : Script) → serves script → script.schema ≡ old.schema → txn_at script 0 2 ≡ Some second
    → HasTxn later now new second 2
second_txn serves later told now old new first second ended is end same mine none script served schema named =
    let aborted : HasAborted serves later told now old first = subst (IsEnd serves later told now old first 1) is end in
    record {
      script = script;
      served = aborted.served script served;
      schema = schema ∙ sym same.schema;
      named = subst (λ (n : ℕ). txn_at script n 2 ≡ Some second) (sym (aborted.same.service.client ∙ mine)) named;
      rises = subst (λ (l : List (Entry × ℕ)). All (λ (earlier : Entry × ℕ). earlier.0.ordinal < 2) l) (sym (aborted.same.records ∙ none)) (All-nil (λ (earlier : Entry × ℕ). earlier.0.ordinal < 2));
    }
