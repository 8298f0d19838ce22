use Rattle.ostore_graph_model.proofs.TextLaw.{text_law}
use Rattle.ostore_graph_model.proofs.laws_of_pages.text_is_written.Goals as goal

pub returns : goal.returns
returns c = text_law
