-- A job that a text spells can be run: each line of its transactions is a line of the text, and each line of the text
-- that has words has a byte.
use Rattle.std.proofs.Common.{◌≡◌, ◌+◌, ◌≤◌, ℕ, Bool, true, false, ltb, eqb, cond, List, [], ◌∷◌, length, map, filter, refl, ap, arith}
use Rattle.std.specs.List.{AllByRecursion, slice_split, sum_by, flat_map}
use Rattle.std.proofs.lemmas.List.{length-map, length-append}
use Rattle.std.proofs.lemmas.List.Sums.{sum_by-cons}
use Rattle.std.proofs.lemmas.List.Splits.{length-slice_split}
use Rattle.ostore_text_words.specs.Lines.{PlacedWord, PlacedLine, line_of, lines_from, has_words, lines_of, bare_words, word_lines}
use Rattle.ostore_text_words.proofs.WordPlaces.{behind_none}
use Rattle.ostore_text_words.proofs.LineReaders.{span, span_split}
use Rattle.ostore_graph_model.specs.declared.commands.Txn.{Txn}
use Rattle.ostore_command_text.specs.CommandWords.{command_words}
use Rattle.ostore_job_text.specs.declared.job.Job.{Job}
use Rattle.ostore_job_text.specs.declared.job.JobClient.{JobClient}
use Rattle.ostore_job_text.specs.Canonical.{end_line, txn_lines}
use Rattle.ostore_job_text.specs.LawfulJob.{tries, HasLawfulSettings, IsLawfulClient}
use Rattle.ostore_job_text.specs.JobSpelling.{AreClientLines, SpellsJob}
use Rattle.ostore_job_text.specs.RunnableJobs.{lines_of as lines_of_txn, all_lines, job_lines, most_lines, IsWithinLimits, CanRun}

-- ---- lines and bytes

one_more : (test : Bool) (line : PlacedLine) (lines : List PlacedLine) → length (cond test (line ∷ lines) lines) ≤ length lines + 1
one_more true line lines = omega arith
one_more false line lines = omega arith

-- a line with words has a byte
line_more : (at : ℕ) (line : List ℕ) (lines : List PlacedLine) → length (cond (has_words (line_of at line)) (line_of at line ∷ lines) lines) ≤ length line + length lines
line_more at [] lines =
    let none = ap (λ (words : List PlacedWord). length (cond (ltb 0 (length words)) (line_of at [] ∷ lines) lines)) (behind_none at) in
    omega (arith, none)
line_more at (byte ∷ others) lines =
    let more = one_more (has_words (line_of at (byte ∷ others))) (line_of at (byte ∷ others)) lines in
    omega (arith, more)

kept_few : (at : ℕ) (parts : List (List ℕ)) → length (filter has_words (lines_from at parts)) + length parts ≤ span parts
kept_few at [] = omega arith
kept_few at (line ∷ others) =
    let first = line_more at line (filter has_words (lines_from (at + length line + 1) others)) in
    let more = kept_few (at + length line + 1) others in
    omega (arith, first, more)

lines_few : (text : List ℕ) → length (lines_of text) ≤ length text
unfolding lines_of
lines_few text =
    let few = kept_few 0 (slice_split (λ byte. eqb byte 10) text) in
    let bytes = span_split (λ byte. eqb byte 10) text in
    let parts = length-slice_split (λ byte. eqb byte 10) text in
    omega (arith, few, bytes, parts)

-- a text has no more lines with words than bytes
word_lines_few : (text : List ℕ) → length (word_lines text) ≤ length text
word_lines_few text =
    let same = length-map (lines_of text) bare_words in
    let few = lines_few text in
    omega (arith, same, few)

-- ---- the lines of clients

txn_long : (txn : Txn) → length (txn_lines txn) ≡ lines_of_txn txn
txn_long txn =
    let own = length-append (map command_words txn.commands) (end_line txn ∷ []) in
    let commands = length-map txn.commands command_words in
    omega (arith, own, commands)

txns_long : (txns : List Txn) → length (flat_map txn_lines txns) ≡ sum_by lines_of_txn txns
txns_long [] = refl
txns_long (txn ∷ txns) =
    let both = length-append (txn_lines txn) (flat_map txn_lines txns) in
    let first = txn_long txn in
    let more = txns_long txns in
    let all : sum_by lines_of_txn (txn ∷ txns) ≡ lines_of_txn txn + sum_by lines_of_txn txns = sum_by-cons lines_of_txn txn txns in
    omega (arith, both, first, more, all)

clients_few : (clients : List JobClient) (lines : List (List (List ℕ))) → AreClientLines clients lines → sum_by all_lines clients ≤ length lines
clients_few [] lines is = omega arith
clients_few (client ∷ clients) lines is =
    let whole = ap length is.2 in
    let both = length-append (flat_map txn_lines client.txns) is.1 in
    let own = txns_long client.txns in
    let more = clients_few clients is.1 is.4 in
    let all : sum_by all_lines (client ∷ clients) ≡ all_lines client + sum_by all_lines clients = sum_by-cons all_lines client clients in
    omega (arith, whole, both, own, more, all)

pub spelled_few : (text : List ℕ) (job : Job) → SpellsJob text job → job_lines job ≤ length text
spelled_few text job spells =
    let own = clients_few job.clients spells.client_part spells.client_lines in
    let whole = ap length spells.lines in
    let both = length-append spells.client_part spells.turns_part in
    let few = word_lines_few text in
    omega (arith, own, whole, both, few)

-- ---- the limits

settings_lawful : (clients : List JobClient) → AllByRecursion IsLawfulClient clients → AllByRecursion HasLawfulSettings clients
settings_lawful [] h = tt
settings_lawful (client ∷ clients) h = (h.0.settings, settings_lawful clients h.1)

pub spelled_settings : (text : List ℕ) (job : Job) → SpellsJob text job → AllByRecursion HasLawfulSettings job.clients
spelled_settings text job spells = settings_lawful job.clients spells.lawful.lawful_clients

clients_within : (clients : List JobClient) → AllByRecursion HasLawfulSettings clients → sum_by all_lines clients ≤ most_lines → AllByRecursion IsWithinLimits clients
clients_within [] h few = tt
clients_within (client ∷ clients) h few =
    let all : sum_by all_lines (client ∷ clients) ≡ all_lines client + sum_by all_lines clients = sum_by-cons all_lines client clients in
    (record { some = (h.0 tries).0; tries = (h.0 tries).1; lines = omega (arith, few, all) }, clients_within clients h.1 (omega (arith, few, all)))

pub spelled_runs : (text : List ℕ) (job : Job) → SpellsJob text job → CanRun job
spelled_runs text job spells =
    let few = spelled_few text job spells in
    let short = spells.short in
    record {
      few = spells.lawful.few;
      clients = clients_within job.clients (spelled_settings text job spells) (omega (arith, few, short));
      entries = spells.lawful.lawful_turns;
    }
