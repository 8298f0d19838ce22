use Rattle.ostore_cli.proofs.RunLaws.{run_ran_alone}
use Rattle.ostore_cli.proofs.trying.running.run_alone.Goals as goal

pub returns : goal.returns
returns g c =
    run_ran_alone c.args.text.now c.args.schema.now c.args.job.now c.run_fresh.result c.fresh_pages_are_empty.ensures c.graph_is_one.ensures c.results_are_right.ensures
    c.clients_run_alone.ensures c.requires.spelled c.requires.job c.requires.alone c.run_fresh.ensures
