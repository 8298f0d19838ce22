use Rattle.ostore_graph_model.proofs.Rows.PathQueries.{path_queries}
use Rattle.ostore_graph_model.proofs.worked.path_queries.Goals as goal

pub returns : goal.returns
returns c = path_queries
