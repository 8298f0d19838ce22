use Rattle.std.proofs.Common.{◌≡◌, ◌∙◌, ◌+◌, ◌*◌, List, ap, length}
use Rattle.ostore_base.specs.declared.page.PageImage.{PageImage}
use Rattle.ostore_page_tags.specs.PageLists.{with_bytes}
use Rattle.ostore_segments.specs.Edits.{root_row, with_root}
use Rattle.ostore_segments.proofs.ListSteps.{alone_becomes, alone_stands}
use Rattle.ostore_segments.proofs.PutLaws.{edited_length}
use Rattle.ostore_segments.proofs.ViewLaws.{alone_brings}
use Rattle.ostore_segments.proofs.OwnLaws.{alone_owns}
use Rattle.ostore_segments.proofs.schema_pages.SchemaPagesPages.edit_root.Goals as goal

pub put_bytes-requires-clause-there : goal.put_bytes-requires-clause-there
put_bytes-requires-clause-there c = alone_stands c.args.self.now.pages c.requires.some

pub returns-clause-lists : goal.returns-clause-lists
returns-clause-lists c =
    let is : c.put_bytes.new.pages ≡ with_root c.args.i c.args.name.now c.args.pointer c.args.self.now.pages =
    c.put_bytes.ensures ∙ ap (with_bytes c.args.self.now.pages 9 (32 + 40 * c.args.i)) c.root_row-row.ensures in
    alone_becomes c.args.self.now.pages _ (ap (λ (list : List PageImage). length list) is ∙ edited_length c.args.self.now.pages 9 (32 + 40 * c.args.i) (root_row c.args.name.now c.args.pointer)) is

pub returns-clause-brings : goal.returns-clause-brings
returns-clause-brings c =
    let is : c.put_bytes.new.pages ≡ with_root c.args.i c.args.name.now c.args.pointer c.args.self.now.pages =
    c.put_bytes.ensures ∙ ap (with_bytes c.args.self.now.pages 9 (32 + 40 * c.args.i)) c.root_row-row.ensures in
    alone_brings c.args.self.now.pages _ (ap (λ (list : List PageImage). length list) is ∙ edited_length c.args.self.now.pages 9 (32 + 40 * c.args.i) (root_row c.args.name.now c.args.pointer))

pub returns-clause-owns : goal.returns-clause-owns
returns-clause-owns c =
    let is : c.put_bytes.new.pages ≡ with_root c.args.i c.args.name.now c.args.pointer c.args.self.now.pages =
    c.put_bytes.ensures ∙ ap (with_bytes c.args.self.now.pages 9 (32 + 40 * c.args.i)) c.root_row-row.ensures in
    alone_owns c.args.self.now.pages _ (ap (λ (list : List PageImage). length list) is ∙ edited_length c.args.self.now.pages 9 (32 + 40 * c.args.i) (root_row c.args.name.now c.args.pointer))
