use Rattle.ostore_job_text.proofs.DraftTaken.{read_spells}
use Rattle.ostore_job_text.proofs.laws.read_is_spelled.Goals as goal

pub returns : goal.returns
returns c = read_spells 0
