use Rattle.std.proofs.Common.{◌≡◌, eqb, arith}
use Rattle.ostore_text_words.proofs.WordPlaces.{place_or_length, plain_length_le}
use Rattle.ostore_text_words.specs.Lines.{plain_length}
use Rattle.ostore_text_words.proofs.lines.words.plain_length.Goals as goal

pub returns : goal.returns
returns c =
    let is : c.unwrap_or.result ≡ plain_length c.args.bytes.now = place_or_length (λ b. eqb b 32) c.args.bytes.now c.space_of.result c.unwrap_or.result c.space_of.ensures c.unwrap_or.ensures in
    let most = plain_length_le c.args.bytes.now in
    record { length = is; within = omega arith }
