use Rattle.std.proofs.Common.{refl, ap, ◌∙◌}
use Rattle.ostore_cli.specs.FreshRuns.{any_given_up}
use Rattle.ostore_cli.proofs.ReportLaws.{report_of}
use Rattle.ostore_cli.proofs.trying.report_on.Goals as goal

pub returns : goal.returns
returns g c =
    report_of c.args.text.now c.args.input c.in_ok-turns.turns c.in_ok-run.run' _ c.in_ok-report.report c.is_any_given_up-given_up.result c.requires.says c.in_ok-run.ensures
    refl c.in_ok-report.ensures (c.is_any_given_up-given_up.ensures ∙ ap any_given_up c.items.ensures)
