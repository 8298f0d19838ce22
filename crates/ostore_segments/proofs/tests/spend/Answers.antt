use Rattle.std.proofs.Common.{◌∙◌, List, sym, subst, arith}
use Rattle.byteorder.specs.Endian.{little_bytes}
use Rattle.ostore_base.specs.declared.page.PageImage.{PageImage}
use Rattle.ostore_page_tags.specs.PageLists.{with_bytes}
use Rattle.ostore_page_tags.specs.Allocated.{IsAllocated}
use Rattle.ostore_segments.specs.Edits.{CanPut}
use Rattle.ostore_segments.specs.SchemaCells.{told_of}
use Rattle.ostore_segments.proofs.ListSteps.{Becomes-alone, stands_alone}
use Rattle.ostore_segments.proofs.SerialLaws.{serial_edit, serial_allocated}
use Rattle.ostore_segments.proofs.tests.spend.Goals as goal

pub put_number-requires-clause-puts : goal.put_number-requires-clause-puts
put_number-requires-clause-puts c =
    let look = Becomes-alone c.args.pages.now.pages c.first_of.new.pages.pages c.in-Ok.ensures.seen in
    stands_alone c.first_of.new.pages.pages (subst (CanPut (told_of c.first_of.new.pages.schema.now) c.in-Ok.first 12 (little_bytes 4 4294967295)) (sym look.0)
    (serial_edit (told_of c.first_of.new.pages.schema.now) c.args.pages.now.pages c.args.segment c.in-Ok.first 4294967295 c.requires.allocated c.requires.segment (λ none. c.if-first-eq0.false (sym look.1 ∙ none)) look.1 (omega arith)))

pub returns-then-first-eq0 : goal.returns-then-first-eq0
returns-then-first-eq0 c =
    let look = Becomes-alone c.args.pages.now.pages c.first_of.new.pages.pages c.in-Ok.ensures.seen in
    subst IsAllocated (sym look.0) c.requires.allocated

pub returns : goal.returns
returns c =
    let look = Becomes-alone c.args.pages.now.pages c.first_of.new.pages.pages c.in-Ok.ensures.seen in
    let wrote = Becomes-alone c.first_of.new.pages.pages c.put_number.new.pages.pages c.in-Ok-put_number.ensures.lists in
    subst IsAllocated (sym wrote) (subst (λ (list : List PageImage). IsAllocated (with_bytes list c.in-Ok.first 12 (little_bytes 4 4294967295))) (sym look.0)
    (serial_allocated c.args.pages.now.pages c.args.segment c.in-Ok.first 4294967295 c.requires.allocated c.requires.segment (λ none. c.if-first-eq0.false (sym look.1 ∙ none)) look.1 (omega arith)))
