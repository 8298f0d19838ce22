use Rattle.ostore_page_tags.proofs.parts.SamePages.{same_pages}
use Rattle.ostore_page_tags.proofs.laws.same_parts_are_one_page.Goals as goal

pub returns : goal.returns
returns c =
    same_pages c.args.first.now.bytes c.args.second.now.bytes c.requires.first_good c.requires.second_good
    c.slice_has_bytes.ensures c.slice_has_bytes-2.ensures c.requires.same_header c.requires.same_cells
