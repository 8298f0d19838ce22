use Rattle.std.proofs.Common.{◌≡◌, ◌+◌, arith}
use Rattle.std.proofs.lemmas.List.{take_rest}
use Rattle.ostore_text_words.specs.Lines.{quoted_length}
use Rattle.ostore_text_words.proofs.WordPlaces.{quoted_closed, quoted_escape, quoted_plain, quoted_last, quoted_length_le}
use Rattle.ostore_text_words.proofs.lines.words.quoted_length.Goals as goal
use Rattle.ostore_text_words.proofs.lines.words.quoted_length.Goals.{then-bytes-at-eq92, else-bytes-at-eq92}

pub returns-then-bytes-at-eq34 : goal.returns-then-bytes-at-eq34
returns-then-bytes-at-eq34 c =
    let bytes = c.args.bytes.now in
    let at = c.loop-at.at in
    let step = quoted_closed bytes _ at c.loop-at-test.true c.if-bytes-at-eq34.true (take_rest bytes (at + 1)) in
    let is : at + 1 + c.plain_length.result ≡ quoted_length bytes = omega arith in
    let most = quoted_length_le bytes in
    record { length = is; within = omega arith }

pub loop-at-preserved : goal.loop-at-preserved
loop-at-preserved c =
    let bytes = c.args.bytes.now in
    let at = c.loop-at.at in
    elim c.if-bytes-at-eq92.branch [
      | then-bytes-at-eq92 w ↦ quoted_escape bytes at _ _ c.loop-at-test.true c.if-bytes-at-eq34.false w.if-bytes-at-eq92.true w.at-is c.loop-at.invariant.1
      | else-bytes-at-eq92 w ↦ quoted_plain bytes at _ _ c.loop-at-test.true c.if-bytes-at-eq34.false w.if-bytes-at-eq92.false w.at-is c.loop-at.invariant.1
    ]

pub returns : goal.returns
returns c =
    let last = quoted_last c.args.bytes.now c.loop-at.at c.loop-at-test.false in
    record { length = omega arith; within = omega arith }
