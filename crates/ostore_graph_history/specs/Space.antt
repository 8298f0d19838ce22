-- Why a transaction lacks space or room for its pages, and how much space commands on ints take.
use Rattle.std.specs.Prelude.{◌≡◌, ◌<◌, ◌+◌, ◌*◌, ℕ, true, List, [], length, filter, All, Some}
use Rattle.ostore_base.specs.declared.page.PageImage.{PageImage}
use Rattle.ostore_page_tags.specs.declared.layout.TheConstants.{FIRST_OPEN_PAGE}
use Rattle.ostore_page_tags.specs.Allocated.{HasFree}
use Rattle.ostore_schema_layout.specs.declared.schema.Schema.{Schema}
use Rattle.ostore_graph_model.specs.declared.commands.Command.{Command}
use Rattle.ostore_graph_model.specs.declared.commands.Txn.{Txn}
use Rattle.ostore_graph_model.specs.declared.commands.Script.{Script}
use Rattle.ostore_graph_model.specs.declared.history.Entry.{Entry}
use Rattle.ostore_graph_model.specs.Sets as sets
use Rattle.ostore_graph_model.specs.Graph.{Graph}
use Rattle.ostore_graph_model.specs.Growth.{declares, growth, script_growth}
use Rattle.ostore_graph_model.specs.History.{txn_at}
use Rattle.ostore_graph_model.specs.StandsFor.{StandsFor}
use Rattle.ostore_graph_model.specs.Valid.{IsValid}
use Rattle.ostore_object_ops.specs.Suits.{IsOfInts}
use Rattle.ostore_object_ops.specs.Lines.{LacksGrowth}
use Rattle.ostore_object_ops.specs.Claiming.{IsBelowGrowth}
use Rattle.ostore_page_service.specs.History.{IsReached}
use Rattle.ostore_client_core.specs.Kinds.{graph_meaning}

-- ---- lack of space

-- Of the opened list fewer pages are free than the script may take.
pub record LacksPages (script : Script) (opened : List PageImage) : Type 0 where
  pub graph : Graph
  pub stands : StandsFor script.schema opened graph
  pub free : List ℕ
  pub has_free : HasFree opened free
  pub lacks : length free < script_growth graph script

-- a transaction of the script that a client with these records may still commit: its ordinal is above theirs
pub record IsAhead (script : Script) (client ordinal : ℕ) (txn : Txn) (records : List (Entry × ℕ)) : Type 0 where
  pub named : txn_at script client ordinal ≡ Some txn
  pub rises : All (λ (r : Entry × ℕ). r.0.ordinal < ordinal) records

-- An update that lacks its growth, on a list that a history of the script reaches from the opened one, says that the
-- opened list lacked the growth of the script: what the updates before it took are the script's commands too.
abbrev pub LawOfLackedSpace : Type 0
LawOfLackedSpace =
    (script : Script) (first n client ordinal : ℕ) (opened list : List PageImage) (records : List (Entry × ℕ))
    → IsReached graph_meaning script first opened client records n list
    → (txn : Txn) → IsAhead script client ordinal txn records → txn.update ≡ true → LacksGrowth txn list
    → LacksPages script opened

-- ---- lack of room

-- So many pages are fewer than 2, the data pages of the opened list, and what the script may take, together. The data
-- pages are those from page 10 on that aren't free.
pub record IsBelowScript (script : Script) (opened : List PageImage) (pages : ℕ) : Type 0 where
  pub graph : Graph
  pub stands : StandsFor script.schema opened graph
  pub free : List ℕ
  pub has_free : HasFree opened free
  pub below : pages + FIRST_OPEN_PAGE + length free < 2 + length opened + script_growth graph script

-- Where so many pages are too few for a transaction, on a list that a history of the script reaches from the opened one,
-- they are too few for the script on the opened list: each data page that came since was taken by a command of the script.
abbrev pub LawOfFewPages : Type 0
LawOfFewPages =
    (script : Script) (first n client ordinal : ℕ) (opened list : List PageImage) (records : List (Entry × ℕ))
    → IsReached graph_meaning script first opened client records n list
    → (txn : Txn) → IsAhead script client ordinal txn records → (pages : ℕ) → IsBelowGrowth txn list pages
    → IsBelowScript script opened pages

-- ---- ints

-- A valid list of a schema of ints stands for a graph without indexes, and commands of which none declares one may take
-- two pages each.
pub record GrowsByTwo (graph : Graph) : Type 0 where
  pub indexes : graph.indexes ≡ sets.empty
  pub growth : (commands : List Command) → filter declares commands ≡ []
      → growth graph commands ≡ 2 * length commands

abbrev pub LawOfSchemasOfInts : Type 0
LawOfSchemasOfInts =
    (schema : Schema) (pages : List PageImage) (graph : Graph)
    → IsOfInts schema → IsValid schema pages → StandsFor schema pages graph → GrowsByTwo graph
