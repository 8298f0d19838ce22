use Rattle.std.proofs.Common.{◌≡◌, ◌++◌, drop, false}
use Rattle.ostore_text_words.specs.Words.{unescaped}
use Rattle.ostore_text_words.proofs.quoted.unescaped.Given as goal

abbrev pub invariant-loop-byte : goal.invariant-loop-byte
invariant-loop-byte l = l.text ++ unescaped l.taken (drop l.byte-index l.bytes) ≡ unescaped false l.bytes
