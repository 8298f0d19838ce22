use Rattle.ostore_graph_model.proofs.Rows.PartnersOfBoth.{partners_of_both}
use Rattle.ostore_graph_model.proofs.worked.partners_of_both.Goals as goal

pub returns : goal.returns
returns c = partners_of_both
