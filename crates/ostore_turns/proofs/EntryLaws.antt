-- Entries that give clients their turns one after the other.
use Rattle.std.proofs.Common.{◌≡◌, ◌+◌, ◌-◌, ◌≤◌, ℕ, List, [], ◌∷◌, ◌++◌, drop, replicate, append-nil, append_assoc, sym, ap, ◌∙◌, arith, Some}
use Rattle.std.specs.List.{slice_get}
use Rattle.std.proofs.lemmas.Grind.{flat_map-append}
use Rattle.std.proofs.lemmas.List.{replicate-append-replicate}
use Rattle.ostore_graph_model.proofs.Kept.Parts.{all_append}
use Rattle.ostore_job_text.specs.declared.job.JobClient.{JobClient}
use Rattle.ostore_job_text.specs.declared.job.JobTurn.{JobTurn}
use Rattle.ostore_job_text.specs.LawfulJob.{IsLawfulTurn}
use Rattle.ostore_job_text.specs.RunnableJobs.{all_lines}
use Rattle.ostore_turns.specs.Alone.{line_by_line}
use Rattle.ostore_turns.specs.Schedules.{entry_clients}
use Rattle.ostore_turns.specs.inside.Entries.{KeepsLawful}
use Rattle.ostore_turns.proofs.WalkLaws.{drop_there}

-- an entry more gives its client some of the turns that are left
pub entries_more : (entries : List JobTurn) (entry : JobTurn) (left : ℕ) → entry.count ≤ left
    → entry_clients (entries ++ entry ∷ []) ++ replicate (left - entry.count) entry.client.0 ≡ entry_clients entries ++ replicate left entry.client.0
entries_more entries entry left low =
    let so_far : List ℕ = entry_clients entries in
    let own : List ℕ = replicate entry.count entry.client.0 in
    let rest : List ℕ = replicate (left - entry.count) entry.client.0 in
    let all : entry.count + (left - entry.count) ≡ left = omega (arith, low) in
    ap (λ (l : List ℕ). l ++ rest) (flat_map-append (λ (e : JobTurn). replicate e.count e.client.0) entries (entry ∷ []) ∙ ap (λ (l : List ℕ). so_far ++ l) (append-nil own))
    ∙ append_assoc so_far own rest
    ∙ ap (λ (l : List ℕ). so_far ++ l) (replicate-append-replicate entry.count (left - entry.count) entry.client.0 ∙ ap (λ (n : ℕ). replicate n entry.client.0) all)

pub lawful_more : (old entries : List JobTurn) (entry : JobTurn) → 1 ≤ entry.count → entry.count ≤ 1000000 → KeepsLawful entry.client.0 old entries → KeepsLawful entry.client.0 old (entries ++ entry ∷ [])
lawful_more old entries entry some most keeps clients low lawful = all_append (IsLawfulTurn clients) entries entry (keeps clients low lawful) (low, some, most)

-- the clients from one on, of which this is the first
pub client_more : (clients : List JobClient) (number : ℕ) (client : JobClient) (old new : List JobTurn) → slice_get clients number ≡ Some client → entry_clients new ≡ entry_clients old ++ replicate (all_lines client) number
    → entry_clients new ++ line_by_line (number + 1) (drop (number + 1) clients) ≡ entry_clients old ++ line_by_line number (drop number clients)
client_more clients number client old new there more =
    let own : List ℕ = replicate (all_lines client) number in
    let rest : List ℕ = line_by_line (number + 1) (drop (number + 1) clients) in
    ap (λ (l : List ℕ). l ++ rest) more ∙ append_assoc (entry_clients old) own rest
    ∙ ap (λ (l : List JobClient). entry_clients old ++ line_by_line number l) (sym (drop_there clients number client there))
