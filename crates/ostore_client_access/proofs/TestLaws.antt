-- A script whose first client has one transaction.
use Rattle.std.proofs.Common.{◌≡◌, ℕ, List, [], ◌∷◌, Some, refl, sym, subst}
use Rattle.std.specs.Prelude.{◌<◌, All}
use Rattle.std.proofs.lemmas.List.Elements.{All-nil}
use Rattle.ostore_schema_layout.specs.declared.schema.Schema.{Schema}
use Rattle.ostore_graph_model.specs.declared.commands.Script.{Script}
use Rattle.ostore_graph_model.specs.declared.commands.Txn.{Txn}
use Rattle.ostore_graph_model.specs.declared.history.Entry.{Entry}
use Rattle.ostore_graph_model.specs.History.{txn_at}

with_txn : Schema → Txn → Script
with_txn schema txn = record { schema = schema; clients = (txn ∷ []) ∷ [] }

pub fresh_first : {P : Script → Type 0} {schema now : Schema} (txn : Txn) → ((s : Script) → s.schema ≡ schema → P s) → now ≡ schema → (script : Script) × P script × (script.schema ≡ now) × (txn_at script 0 1 ≡ Some txn)
unfolding with_txn
fresh_first {P} {schema} {now} txn served is = (with_txn schema txn, served (with_txn schema txn) refl, sym is, refl)

-- no entry was before
pub rises_first : (records : List (Entry × ℕ)) (ordinal : ℕ) → records ≡ [] → All (λ (earlier : Entry × ℕ). earlier.0.ordinal < ordinal) records
rises_first records ordinal none = subst (λ (l : List (Entry × ℕ)). All (λ (earlier : Entry × ℕ). earlier.0.ordinal < ordinal) l) (sym none) (All-nil (λ (earlier : Entry × ℕ). earlier.0.ordinal < ordinal))
