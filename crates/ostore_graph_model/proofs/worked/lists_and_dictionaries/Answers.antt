use Rattle.ostore_graph_model.proofs.Rows.ListsAndDictionaries.{lists_and_dictionaries}
use Rattle.ostore_graph_model.proofs.worked.lists_and_dictionaries.Goals as goal

pub returns : goal.returns
returns c = lists_and_dictionaries
