-- What a text for `try` asks to be run.
use Rattle.std.specs.Prelude.{map}
use Rattle.ostore_graph_model.specs.declared.commands.Script.{Script}
use Rattle.ostore_try_input.specs.declared.input.TryInput.{TryInput}

-- the schema and each client's transactions
abbrev pub script_of : TryInput → Script
script_of input = record { schema = input.schema; clients = map (λ client. client.txns) input.job.clients }
