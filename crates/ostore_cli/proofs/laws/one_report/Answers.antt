use Rattle.ostore_cli.proofs.OneReport.{one_report as same_report}
use Rattle.ostore_cli.proofs.laws.one_report.Goals as goal

pub returns : goal.returns
returns c = same_report
