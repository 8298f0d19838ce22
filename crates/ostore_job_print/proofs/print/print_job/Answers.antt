use Rattle.ostore_job_print.proofs.CanonicalAgain.{printed_back}
use Rattle.ostore_job_print.proofs.print.print_job.Goals as goal

pub returns-clause-read_back : goal.returns-clause-read_back
returns-clause-read_back c = printed_back c.args.job.now c.printed.result c.printed.ensures
