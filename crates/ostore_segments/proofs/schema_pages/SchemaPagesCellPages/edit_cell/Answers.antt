use Rattle.std.proofs.Common.{◌∙◌, ◌+◌, ap, arith, length}
use Rattle.ostore_segments.proofs.ListSteps.{alone_becomes, alone_stands}
use Rattle.ostore_segments.proofs.PutLaws.{edited_length}
use Rattle.ostore_segments.proofs.CellPlaceLaws.{in_page}
use Rattle.ostore_segments.proofs.ViewLaws.{alone_brings}
use Rattle.ostore_segments.proofs.OwnLaws.{alone_owns}
use Rattle.ostore_segments.proofs.schema_pages.SchemaPagesCellPages.edit_cell.Goals as goal

pub put_bytes-requires-clause-there : goal.put_bytes-requires-clause-there
put_bytes-requires-clause-there c = let has = alone_stands c.args.self.now.pages c.requires.there in has.lies.1

pub put_bytes-requires-clause-within : goal.put_bytes-requires-clause-within
put_bytes-requires-clause-within c = in_page _ c.args.page.0 c.args.offset c.args.at (length c.args.bytes.now) c.args.self.now.pages (alone_stands c.args.self.now.pages c.requires.there)

pub returns-clause-lists : goal.returns-clause-lists
returns-clause-lists c = alone_becomes c.args.self.now.pages _ (ap (λ list. length list) c.put_bytes.ensures ∙ edited_length c.args.self.now.pages c.args.page.0 (c.args.offset + c.args.at) c.args.bytes.now) c.put_bytes.ensures

pub overflow_add-offset : goal.overflow_add-offset
overflow_add-offset c =
    let low = in_page _ c.args.page.0 c.args.offset c.args.at (length c.args.bytes.now) c.args.self.now.pages (alone_stands c.args.self.now.pages c.requires.there) in
    omega arith

pub returns-clause-brings : goal.returns-clause-brings
returns-clause-brings c = alone_brings c.args.self.now.pages _ (ap (λ list. length list) c.put_bytes.ensures ∙ edited_length c.args.self.now.pages c.args.page.0 (c.args.offset + c.args.at) c.args.bytes.now)

pub returns-clause-owns : goal.returns-clause-owns
returns-clause-owns c = alone_owns c.args.self.now.pages _ (ap (λ list. length list) c.put_bytes.ensures ∙ edited_length c.args.self.now.pages c.args.page.0 (c.args.offset + c.args.at) c.args.bytes.now)
