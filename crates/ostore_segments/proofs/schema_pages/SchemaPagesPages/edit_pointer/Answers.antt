use Rattle.std.proofs.Common.{◌∙◌, ap, arith, length}
use Rattle.byteorder.specs.Numbers.{length-bytes_low_first}
use Rattle.ostore_segments.proofs.ListSteps.{alone_stands}
use Rattle.ostore_segments.proofs.PutLaws.{edited_length}
use Rattle.ostore_segments.proofs.ViewLaws.{alone_brings}
use Rattle.ostore_segments.proofs.OwnLaws.{alone_owns}
use Rattle.ostore_segments.proofs.schema_pages.SchemaPagesPages.edit_pointer.Goals as goal

pub put_bytes-requires-clause-there : goal.put_bytes-requires-clause-there
put_bytes-requires-clause-there c = (alone_stands c.args.self.now.pages c.requires.there).there

pub put_bytes-requires-clause-within : goal.put_bytes-requires-clause-within
put_bytes-requires-clause-within c =
    let within = (alone_stands c.args.self.now.pages c.requires.there).within in
    let long = ap (λ bytes. length bytes) c.to_le_bytes.ensures ∙ length-bytes_low_first 0 4 c.args.pointer in
    omega arith

pub returns-clause-brings : goal.returns-clause-brings
returns-clause-brings c = alone_brings c.args.self.now.pages _ (ap (λ list. length list) c.put_bytes.ensures ∙ edited_length c.args.self.now.pages c.args.page.0 c.args.at _)

pub returns-clause-owns : goal.returns-clause-owns
returns-clause-owns c = alone_owns c.args.self.now.pages _ (ap (λ list. length list) c.put_bytes.ensures ∙ edited_length c.args.self.now.pages c.args.page.0 c.args.at _)
