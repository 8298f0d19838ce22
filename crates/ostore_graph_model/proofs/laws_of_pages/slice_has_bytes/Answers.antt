use Rattle.ostore_graph_model.proofs.laws_of_pages.slice_has_bytes.Goals as goal

pub returns : goal.returns
returns c = λ k. (c.type_inv.bytes k).fits
