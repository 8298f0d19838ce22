use Rattle.ostore_graph_model.proofs.Rows.DisplacedPartners.{displaced_partners}
use Rattle.ostore_graph_model.proofs.worked.displaced_partners.Goals as goal

pub returns : goal.returns
returns c = displaced_partners
