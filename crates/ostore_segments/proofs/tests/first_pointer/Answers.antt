use Rattle.std.proofs.Common.{rules, ◌≡◌, ◌+◌, sym, subst}
use Rattle.ostore_schema_layout.specs.Cells.{pointers_of}
use Rattle.ostore_page_tags.specs.PagePointers.{IsOneOf, page_pointers}
use Rattle.ostore_segments.proofs.TestLaws.{first_pointer_is}
use Rattle.ostore_segments.proofs.tests.first_pointer.Goals as goal

pub returns-clause-there : goal.returns-clause-there
returns-clause-there c =
    let is : c.in_ok-at-2.at ≡ c.nth_row-row.result.offset + c.in_ok-at.at = search rules in
    subst (λ n. IsOneOf n (page_pointers (pointers_of c.args.schema.now) c.args.page.0 c.args.image.now.bytes)) (sym is)
    (first_pointer_is (pointers_of c.args.schema.now) c.args.page.0 c.args.image.now.bytes c.nth_row-row.result c.in_ok-at.at (search rules) (search rules) c.nth_row-row.ensures (search rules) (search rules))
