use Rattle.std.proofs.Common.{refl}
use Rattle.ostore_transactions.proofs.CommitLaws.{committed, commit_failed}
use Rattle.ostore_transactions.proofs.RetainLaws.{commit_met, others_then}
use Rattle.ostore_transactions.proofs.steps.commit_attempt.Goals as goal

pub returns-in-Ok-finish-clause-line : goal.returns-in-Ok-finish-clause-line
returns-in-Ok-finish-clause-line g c = committed (g.S.PageClaims.serves c.args.service.now) (g.S.PageClaims.serves c.finish.new.service) (g.S.PageClaims.tells c.args.service.now) (g.S.PageClaims.tells c.finish.new.service)
    c.args.client.now c.finish.new.self c.args.txn.now c.args.attempt.now c.args.ordinal c.in-Ok-finish.number c.client.result c.in-Ok.copy c.into_replies-replies.result c.args.progress.replies.items
    c.requires.first c.requires.kept c.client.ensures.number c.in-Ok.ensures c.into_replies-replies.ensures c.lines_have_made.ensures c.made_fits.ensures.named c.in-Ok-finish.ensures.done c.in-Ok-finish.ensures.released c.in-Ok-finish.ensures.idle
    c.in-Ok-finish.ensures.served

pub returns-in-Err-finish-clause-failed : goal.returns-in-Err-finish-clause-failed
returns-in-Err-finish-clause-failed g c = commit_failed (g.S.PageClaims.serves c.args.service.now) (g.S.PageClaims.serves c.finish.new.service) (g.S.PageClaims.serves c.abort-in-Err-finish.new.service) (g.S.PageClaims.tells c.args.service.now)
    (g.S.PageClaims.tells c.finish.new.service) (g.S.PageClaims.tells c.abort-in-Err-finish.new.service) c.args.client.now c.abort-in-Err-finish.new.self c.args.txn.now c.args.attempt.now
    (record { client = c.client.result; ordinal = c.args.ordinal; update = c.args.txn.now.update; replies = c.in-Ok.copy }) c.in-Err-finish.fault c.requires.first c.requires.kept refl c.in-Err-finish.ensures.failed c.in-Err-finish.ensures.still
    c.abort-in-Err-finish.ensures.idle c.abort-in-Err-finish.ensures.same c.abort-in-Err-finish.ensures.served c.abort-in-Err-finish.ensures.calm

pub returns-in-Err-finish-clause-aborted : goal.returns-in-Err-finish-clause-aborted
returns-in-Err-finish-clause-aborted g c =
    let failed = c.in-Err-finish.ensures in
    let aborted = c.abort-in-Err-finish.ensures in
    record {
      met = c.finish.new.self;
      same = failed.same_client;
      is = commit_met (g.S.PageClaims.tells c.args.service.now) (g.S.PageClaims.tells c.finish.new.service) c.finish.new.self
          (record { client = c.client.result; ordinal = c.args.ordinal; update = c.args.txn.now.update; replies = c.in-Ok.copy }) c.in-Err-finish.fault failed.failed;
      others = λ no. (failed.client, others_then (g.S.PageClaims.tells c.args.service.now) (g.S.PageClaims.tells c.finish.new.service) (g.S.PageClaims.tells c.abort-in-Err-finish.new.service) c.args.client.now c.finish.new.self failed.client failed.copies aborted.copies);
      released = aborted.released;
      answered = aborted.answered;
    }
