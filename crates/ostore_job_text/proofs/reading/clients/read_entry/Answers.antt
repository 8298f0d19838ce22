use Rattle.std.proofs.Common.{sym}
use Rattle.ostore_text_words.proofs.WordLaws.{count_taken}
use Rattle.ostore_job_text.proofs.reading.clients.read_entry.Goals as goal

pub returns-clause-within : goal.returns-clause-within
returns-clause-within c = (count_taken 1 1000000 _ c.in_ok-count.count (sym c.in_ok-count.ensures)).2
