-- What pages and entries mean as a graph: the kind of the graph database.
use Rattle.std.specs.Prelude.{◌≡◌, ℕ, ◌+◌, ◌≤◌, false, List, length, Some}
use Rattle.ostore_base.specs.declared.page.PageImage.{PageImage}
use Rattle.ostore_page_tags.specs.Allocated.{HasFree}
use Rattle.ostore_page_service.specs.History.{Meaning}
use Rattle.ostore_graph_model.specs.declared.commands.Txn.{Txn}
use Rattle.ostore_graph_model.specs.declared.commands.Script.{Script}
use Rattle.ostore_graph_model.specs.declared.history.Entry.{Entry}
use Rattle.ostore_graph_model.specs.Graph.{Graph}
use Rattle.ostore_graph_model.specs.History.{txn_at}
use Rattle.ostore_graph_model.specs.Transaction.{Runs}
use Rattle.ostore_graph_model.specs.Growth.{growth}
use Rattle.ostore_graph_model.specs.StandsFor.{StandsFor}
use Rattle.ostore_graph_model.specs.Valid.{IsValid}

-- the entry names a transaction of the script that doesn't abort, and has its kind
pub record Names (script : Script) (entry : Entry) (txn : Txn) : Type 0 where
  pub named : txn_at script entry.client.0 entry.ordinal ≡ Some txn
  pub kept : txn.aborts ≡ false
  pub kind : entry.update ≡ txn.update

-- the entry's replies are the transaction's on the graph that the list stands for
pub record HasReplies (script : Script) (entry : Entry) (list : List PageImage) : Type 0 where
  pub txn : Txn
  pub names : Names script entry txn
  pub graph : Graph
  pub stands : StandsFor script.schema list graph
  pub after : Graph
  pub runs : Runs script.schema txn graph entry.replies after

-- The later list is valid with the same schema and stands for the transaction's graph on the graph of the earlier
-- one. Its free list is shorter by at most the growth of the transaction's commands.
pub record Follows (script : Script) (entry : Entry) (earlier later : List PageImage) : Type 0 where
  pub txn : Txn
  pub names : Names script entry txn
  pub graph : Graph
  pub stands : StandsFor script.schema earlier graph
  pub after : Graph
  pub runs : Runs script.schema txn graph entry.replies after
  pub valid : IsValid script.schema later
  pub stands_after : StandsFor script.schema later after
  pub free : List ℕ
  pub has_free : HasFree earlier free
  pub free_after : List ℕ
  pub has_free_after : HasFree later free_after
  pub growth : length free ≤ length free_after + growth graph txn.commands

abbrev pub graph_meaning : Meaning Entry Script
graph_meaning = record {
  client = λ entry. entry.client.0;
  ordinal = λ entry. entry.ordinal;
  updates = λ entry. entry.update;
  named = λ script entry. (txn : Txn) × Names script entry txn;
  valid = λ script list. IsValid script.schema list;
  right = HasReplies;
  next = Follows;
}
