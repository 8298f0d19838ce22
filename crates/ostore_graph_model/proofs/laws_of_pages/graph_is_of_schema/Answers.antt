use Rattle.ostore_graph_model.proofs.Meant.Graphs.{graphs_of_schema}
use Rattle.ostore_graph_model.proofs.laws_of_pages.graph_is_of_schema.Goals as goal

pub returns : goal.returns
returns c = graphs_of_schema
