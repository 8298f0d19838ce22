use Rattle.ostore_job_text.proofs.DraftTaken.{is_spelled}
use Rattle.ostore_job_text.proofs.JobAgain.{is_read_again}
use Rattle.ostore_job_text.proofs.FaultsTold.{fault_given, fault_answered}
use Rattle.ostore_job_text.proofs.reading.jobs.parse_job.Goals as goal

pub returns-clause-read : goal.returns-clause-read
returns-clause-read c = is_spelled c.args.bytes.now c.read_job_from.result c.read_job_from.ensures

pub returns-clause-spelled : goal.returns-clause-spelled
returns-clause-spelled c = is_read_again c.args.bytes.now c.read_job_from.result c.read_job_from.ensures

pub returns-clause-faulty : goal.returns-clause-faulty
returns-clause-faulty c = fault_given c.args.bytes.now c.read_job_from.result c.read_job_from.ensures

pub returns-clause-told : goal.returns-clause-told
returns-clause-told c = fault_answered c.args.bytes.now c.read_job_from.result c.read_job_from.ensures
