-- The replies before this one are copied.
use Rattle.std.proofs.Common.{◌≡◌, take}
use Rattle.ostore_transactions.proofs.copies.copied_replies.Given as goal

abbrev pub invariant-loop-reply : goal.invariant-loop-reply
invariant-loop-reply l = l.copies ≡ take l.reply-index l.reply-items
