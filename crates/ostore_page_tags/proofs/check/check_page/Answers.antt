use Rattle.std.proofs.Common.{sym, refl, ◌∙◌}
use Rattle.ostore_page_tags.proofs.shape.PageShape.{lawful_from}
use Rattle.ostore_page_tags.proofs.check.check_page.Goals as goal

pub returns-clause-good : goal.returns-clause-good
returns-clause-good c =
    let lawful = lawful_from c.args.image.now.bytes
    (sym c.has_good_header.ensures ∙ c.if-not-has_good_header.false)
    (sym c.have_rows_room.ensures ∙ c.if-not-have_rows_room.false)
    (sym c.are_rows_in_order.ensures ∙ c.if-not-are_rows_in_order.false)
    (sym c.have_rows_types.ensures ∙ c.if-not-have_rows_types.false)
    (sym c.is_end_behind_cells.ensures ∙ c.if-not-is_end_behind_cells.false) in
    (λ _. record { whole = c.image_is_whole.ensures; lawful = lawful }, λ _. refl)
