use Rattle.ostore_schema_layout.proofs.parsed.ParsedLaws.{is_spelled, is_read_again, is_least}
use Rattle.ostore_schema_layout.proofs.reading.parse_schema.Goals as goal

pub returns-clause-read : goal.returns-clause-read
returns-clause-read c = is_spelled c.args.bytes.now c.read_schema.result c.read_schema.ensures

pub returns-clause-spelled : goal.returns-clause-spelled
returns-clause-spelled c = is_read_again c.args.bytes.now c.read_schema.result c.read_schema.ensures

pub returns-clause-least : goal.returns-clause-least
returns-clause-least c = is_least c.args.bytes.now c.read_schema.result c.read_schema.ensures
