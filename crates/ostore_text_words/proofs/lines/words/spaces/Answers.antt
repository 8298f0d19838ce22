use Rattle.std.proofs.Common.{◌≡◌, ◌∙◌, eqb, not, arith}
use Rattle.ostore_text_words.proofs.WordPlaces.{place_or_length, spaces, spaces_is, spaces_le}
use Rattle.ostore_text_words.proofs.lines.words.spaces.Goals as goal

pub returns : goal.returns
returns c =
    let is : c.unwrap_or.result ≡ spaces c.args.bytes.now = place_or_length (λ b. not (eqb b 32)) c.args.bytes.now c.past_spaces_of.result c.unwrap_or.result c.past_spaces_of.ensures c.unwrap_or.ensures ∙ spaces_is c.args.bytes.now in
    let most = spaces_le c.args.bytes.now in
    record { length = is; within = omega arith }
