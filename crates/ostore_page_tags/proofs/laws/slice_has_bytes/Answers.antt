use Rattle.ostore_page_tags.proofs.laws.slice_has_bytes.Goals as goal

pub returns : goal.returns
returns c = record { each = λ k. (c.type_inv.bytes k).fits }
