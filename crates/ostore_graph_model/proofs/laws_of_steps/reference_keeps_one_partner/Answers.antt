use Rattle.ostore_graph_model.proofs.OnePartnerLaws.{law_of_one_partner}
use Rattle.ostore_graph_model.proofs.laws_of_steps.reference_keeps_one_partner.Goals as goal

pub returns : goal.returns
returns c = law_of_one_partner
