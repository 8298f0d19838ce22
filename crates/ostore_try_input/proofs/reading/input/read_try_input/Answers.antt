use Rattle.ostore_try_input.proofs.InputSaid.{only_said, refused_so, answered, runs_so}
use Rattle.ostore_try_input.proofs.reading.input.read_try_input.Goals as goal

pub returns-clause-only : goal.returns-clause-only
returns-clause-only c = only_said c.args.text.now c.read_parts.result c.read_parts.ensures.read

pub returns-clause-refused : goal.returns-clause-refused
returns-clause-refused c = refused_so c.args.text.now c.read_parts.result c.read_parts.ensures.refused

pub returns-clause-exact : goal.returns-clause-exact
returns-clause-exact c =
    answered c.args.text.now c.read_parts.result c.read_parts.ensures.read (refused_so c.args.text.now c.read_parts.result c.read_parts.ensures.refused)

pub returns-clause-runs : goal.returns-clause-runs
returns-clause-runs c =
    runs_so c.args.text.now c.read_parts.result c.spelled_can_run.ensures c.spelled_settings_are_lawful.ensures c.read_parts.ensures.read
