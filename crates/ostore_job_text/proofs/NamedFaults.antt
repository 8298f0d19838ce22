-- The first fault of what lines name: that they have it, and that every other one is told behind it.
use Rattle.std.proofs.Common.{◌≡◌, ◌≢◌, ◌⊎◌, ℕ, zero, suc, ◌+◌, ◌<◌, ◌≤◌, Bool, true, false, leb, cond, List, [], ◌∷◌, ◌++◌, length, map, slice_get, Option, Some, None, refl, sym, ap, subst, ◌∙◌, arith, inl, inr}
use Rattle.std.specs.Prelude.{option_map}
use Rattle.std.specs.List.{AllByRecursion}
use Rattle.std.proofs.lemmas.Bool.{cases_Bool, cases_lt, false≢true, leb-true, le-leb}
use Rattle.std.proofs.lemmas.List.{length-map, map-append}
use Rattle.std.proofs.lemmas.Option.{same_Some}
use Rattle.ostore_base.specs.Limits.{most_clients}
use Rattle.ostore_graph_model.specs.declared.commands.Command.{Command}
use Rattle.ostore_graph_model.specs.declared.commands.Txn.{Txn}
use Rattle.ostore_job_text.specs.declared.fault.JobFault.{JobFault}
use Rattle.ostore_job_text.specs.declared.fault.JobFault.TheVariants as faults
use Rattle.ostore_job_text.specs.declared.job.JobClient.{JobClient}
use Rattle.ostore_job_text.specs.declared.said.ClientSaid.{ClientSaid}
use Rattle.ostore_job_text.specs.declared.said.EntrySaid.{EntrySaid}
use Rattle.ostore_job_text.specs.declared.said.LineSaid.{LineSaid}
use Rattle.ostore_job_text.specs.declared.said.LineSaid.TheVariants as kinds
use Rattle.ostore_job_text.specs.declared.reading.draft.Draft.{Draft}
use Rattle.ostore_job_text.specs.JobFaults.{fault_place}
use Rattle.ostore_job_text.specs.Drafted.{is_there, bad_option, opened, with_txns, place_of_client, client_fault, entry_fault, unless_there, first_fault, closed_clients, closed, put_client, put_begin, put_command, put_end, unless_fault, with_entry, put_entry, put_entries, put_line, put_all}
use Rattle.ostore_job_text.specs.FaultsOf.{IsOneOf, IsNamed, HasBadOption, HasClientFault, HasEntryFault, HasTurnsFault, HasFault, IsBefore}
use Rattle.ostore_job_text.proofs.BadOptions.{true_false, OptionsRise, options_least, options_until, TellsOption, options_told}
use Rattle.ostore_job_text.proofs.ClientAgain.{put_faultless}
use Rattle.ostore_job_text.proofs.DraftTaken.{all_stuck, named_client, new_client}

-- ---- what has no fault, and what has a first one

abbrev pub Tells : (JobFault → Type 0) → Option JobFault → Type 0
Tells Has None = (fault : JobFault) → Has fault → ⊥
Tells Has (Some fault) = Has fault × ((other : JobFault) → Has other → (fault ≡ other) ⊎ IsBefore fault other)

-- all faults of one part stand before those of the next
abbrev Within : ℕ → ℕ → (JobFault → Type 0) → Type 0
Within from until Has = (fault : JobFault) → Has fault → (from ≤ fault_place fault) × (fault_place fault < until)

abbrev From : ℕ → (JobFault → Type 0) → Type 0
From from Has = (fault : JobFault) → Has fault → from ≤ fault_place fault

-- of two parts the first one's fault is told
here_told : (Here There : JobFault → Type 0) (from until : ℕ) (fault : JobFault) → Within from until Here → From until There → Tells Here (Some fault) → Tells (λ fault. Here fault ⊎ There fault) (Some fault)
here_told Here There from until fault w f h =
    (inl h.0, λ other has. elim has [ inl a ↦ h.1 other a | inr b ↦ inr (inl (omega (arith, (w fault h.0).1, f other b))) ])

-- and the second one's where the first has none
there_told : (Here There : JobFault → Type 0) (there : Option JobFault) → ((fault : JobFault) → Here fault → ⊥) → Tells There there → Tells (λ fault. Here fault ⊎ There fault) there
there_told Here There None none t = λ fault has. elim has [ inl a ↦ none fault a | inr b ↦ t fault b ]
there_told Here There (Some there) none t =
    (inr t.0, λ other has. elim has [ inl a ↦ absurd (none other a) | inr b ↦ t.1 other b ])

-- ---- names

-- the clients of a draft have the names of those that were said
abbrev pub names_of : List JobClient → List (List ℕ)
names_of clients = map (λ client. client.name) clients

abbrev pub names_said : List ClientSaid → List (List ℕ)
names_said clients = map (λ client. client.name) clients

none_is : (clients : List JobClient) (name : List ℕ) → AllByRecursion (λ client. client.name ≢ name) clients → IsOneOf (names_of clients) name → ⊥
none_is [] name all is = is
none_is (client ∷ clients) name all (inl same) = all.0 same
none_is (client ∷ clients) name all (inr more) = none_is clients name all.1 more

is_one : (clients : List JobClient) (k : ℕ) (client : JobClient) (name : List ℕ) → slice_get clients k ≡ Some client → client.name ≡ name → IsOneOf (names_of clients) name
is_one [] k client name there named = absurd cc
is_one (first ∷ clients) zero client name there named = inl (ap (λ (c : JobClient). c.name) (same_Some first client there) ∙ named)
is_one (first ∷ clients) (suc k) client name there named = inr (is_one clients k client name there named)

-- a name is found exactly where a client has it
named_by : (clients : List JobClient) (before : List ClientSaid) (name : List ℕ) (place : Option ℕ) → names_of clients ≡ names_said before → place_of_client clients name ≡ place → is_there place ≡ true → IsNamed before name
named_by clients before name None same is h = absurd (false≢true h)
named_by clients before name (Some k) same is h =
    let n = named_client clients name k is in
    subst (λ (names : List (List ℕ)). IsOneOf names name) same (is_one clients k n.1 name n.2 n.3)

unnamed_by : (clients : List JobClient) (before : List ClientSaid) (name : List ℕ) (place : Option ℕ) → names_of clients ≡ names_said before → place_of_client clients name ≡ place → is_there place ≡ false → IsNamed before name → ⊥
unnamed_by clients before name None same is h named = none_is clients name (new_client clients name is) (subst (λ (names : List (List ℕ)). IsOneOf names name) (sym same) named)
unnamed_by clients before name (Some k) same is h named = false≢true (sym h)

same_count : (clients : List JobClient) (before : List ClientSaid) → names_of clients ≡ names_said before → length clients ≡ length before
same_count clients before same =
    sym (length-map clients (λ (client : JobClient). client.name)) ∙ ap length same ∙ length-map before (λ (client : ClientSaid). client.name)

-- ---- a client's line

leb-false : (a b : ℕ) → leb a b ≡ false → b < a
leb-false a b h =
    elim (cases_lt b a) [
      | inl lt ↦ lt
      | inr le ↦ true_false (leb a b) (le-leb a b le) h
    ]

client_within : (before : List ClientSaid) (client : ClientSaid) (from until : ℕ) → from ≤ client.at → OptionsRise (client.at + 1) until client.options → Within from until (HasClientFault before client)
client_within before client from until low rise (faults.DuplicateClient at) has = (omega (arith, has.1, low), omega (arith, has.1, options_until client.options (client.at + 1) until rise))
client_within before client from until low rise (faults.TooManyClients at) has = (omega (arith, has.1, low), omega (arith, has.1, options_until client.options (client.at + 1) until rise))
client_within before client from until low rise (faults.BadOption at) has =
    let w = options_least [] client.options (client.at + 1) until at rise has in
    (omega (arith, w.0, low), omega (arith, w.1))
client_within before client from until low rise (faults.NotUtf8 at) has = absurd has
client_within before client from until low rise (faults.Syntax at) has = absurd has
client_within before client from until low rise (faults.UnknownTurn at) has = absurd has
client_within before client from until low rise (faults.TooLong at) has = absurd has
client_within before client from until low rise faults.OutOfMemory has = absurd has

duplicate_first : (before : List ClientSaid) (client : ClientSaid) (until : ℕ) → OptionsRise (client.at + 1) until client.options → (other : JobFault) → HasClientFault before client other → (faults.DuplicateClient client.at ≡ other) ⊎ IsBefore (faults.DuplicateClient client.at) other
duplicate_first before client until rise (faults.DuplicateClient at) has = inl (ap (λ (n : ℕ). faults.DuplicateClient n) (sym has.1))
duplicate_first before client until rise (faults.TooManyClients at) has = inr (inr (sym has.1, omega arith))
duplicate_first before client until rise (faults.BadOption at) has = inr (inl (omega (arith, (options_least [] client.options (client.at + 1) until at rise has).0)))
duplicate_first before client until rise (faults.NotUtf8 at) has = absurd has
duplicate_first before client until rise (faults.Syntax at) has = absurd has
duplicate_first before client until rise (faults.UnknownTurn at) has = absurd has
duplicate_first before client until rise (faults.TooLong at) has = absurd has
duplicate_first before client until rise faults.OutOfMemory has = absurd has

-- the name is told first
duplicate_told : (before : List ClientSaid) (client : ClientSaid) (until : ℕ) → OptionsRise (client.at + 1) until client.options → IsNamed before client.name → Tells (HasClientFault before client) (Some (faults.DuplicateClient client.at))
duplicate_told before client until rise named = ((named, refl), duplicate_first before client until rise)

-- then that there are too many
many_first : (before : List ClientSaid) (client : ClientSaid) (until : ℕ) → OptionsRise (client.at + 1) until client.options → (IsNamed before client.name → ⊥) → (other : JobFault) → HasClientFault before client other → (faults.TooManyClients client.at ≡ other) ⊎ IsBefore (faults.TooManyClients client.at) other
many_first before client until rise new (faults.DuplicateClient at) has = absurd (new has.0)
many_first before client until rise new (faults.TooManyClients at) has = inl (ap (λ (n : ℕ). faults.TooManyClients n) (sym has.1))
many_first before client until rise new (faults.BadOption at) has = inr (inl (omega (arith, (options_least [] client.options (client.at + 1) until at rise has).0)))
many_first before client until rise new (faults.NotUtf8 at) has = absurd has
many_first before client until rise new (faults.Syntax at) has = absurd has
many_first before client until rise new (faults.UnknownTurn at) has = absurd has
many_first before client until rise new (faults.TooLong at) has = absurd has
many_first before client until rise new faults.OutOfMemory has = absurd has

at_least : (found at : ℕ) → found ≤ at → (faults.BadOption found ≡ faults.BadOption at) ⊎ IsBefore (faults.BadOption found) (faults.BadOption at)
at_least found at le =
    elim (cases_lt found at) [
      | inl lt ↦ inr (inl lt)
      | inr ge ↦ let same : found ≡ at = omega (arith, le, ge) in inl (ap (λ (n : ℕ). faults.BadOption n) same)
    ]

-- then the first bad option
option_first : (before : List ClientSaid) (client : ClientSaid) (found : ℕ) → (IsNamed before client.name → ⊥) → length before < most_clients → ((other : ℕ) → HasBadOption [] client.options other → found ≤ other) → (other : JobFault) → HasClientFault before client other → (faults.BadOption found ≡ other) ⊎ IsBefore (faults.BadOption found) other
option_first before client found new few first (faults.DuplicateClient at) has = absurd (new has.0)
option_first before client found new few first (faults.TooManyClients at) has = absurd (omega (arith, few, has.0))
option_first before client found new few first (faults.BadOption at) has = at_least found at (first at has)
option_first before client found new few first (faults.NotUtf8 at) has = absurd has
option_first before client found new few first (faults.Syntax at) has = absurd has
option_first before client found new few first (faults.UnknownTurn at) has = absurd has
option_first before client found new few first (faults.TooLong at) has = absurd has
option_first before client found new few first faults.OutOfMemory has = absurd has

option_none : (before : List ClientSaid) (client : ClientSaid) → (IsNamed before client.name → ⊥) → length before < most_clients → ((at : ℕ) → HasBadOption [] client.options at → ⊥) → (fault : JobFault) → HasClientFault before client fault → ⊥
option_none before client new few good (faults.DuplicateClient at) has = new has.0
option_none before client new few good (faults.TooManyClients at) has = omega (arith, few, has.0)
option_none before client new few good (faults.BadOption at) has = good at has
option_none before client new few good (faults.NotUtf8 at) has = has
option_none before client new few good (faults.Syntax at) has = has
option_none before client new few good (faults.UnknownTurn at) has = has
option_none before client new few good (faults.TooLong at) has = has
option_none before client new few good faults.OutOfMemory has = has

options_tell : (before : List ClientSaid) (client : ClientSaid) (found : Option ℕ) → (IsNamed before client.name → ⊥) → length before < most_clients → TellsOption [] client.options found → Tells (HasClientFault before client) (option_map (λ at. faults.BadOption at) found)
options_tell before client None new few tells = option_none before client new few tells
options_tell before client (Some at) new few tells = (tells.0, option_first before client at new few tells.1)

client_told : (clients : List JobClient) (before : List ClientSaid) (client : ClientSaid) (until : ℕ) → names_of clients ≡ names_said before → OptionsRise (client.at + 1) until client.options → Tells (HasClientFault before client) (client_fault clients client)
unfolding client_fault
client_told clients before client until same rise =
    let there = is_there (place_of_client clients client.name) in
    let count = same_count clients before same in
    let options = option_map (λ (at : ℕ). faults.BadOption at) (bad_option [] client.options) in
    let few = cond (leb most_clients (length clients)) (Some (faults.TooManyClients client.at)) options in
    let Told = Tells (HasClientFault before client) in
    elim (cases_Bool there) [
      | inl named ↦
          subst Told (sym (ap (λ (b : Bool). cond b (Some (faults.DuplicateClient client.at)) few) named))
          (duplicate_told before client until rise (named_by clients before client.name (place_of_client clients client.name) same refl named))
      | inr new ↦
          let unnamed = unnamed_by clients before client.name (place_of_client clients client.name) same refl new in
          subst Told (sym (ap (λ (b : Bool). cond b (Some (faults.DuplicateClient client.at)) few) new))
          (elim (cases_Bool (leb most_clients (length clients))) [
            | inl many ↦
                subst Told (sym (ap (λ (b : Bool). cond b (Some (faults.TooManyClients client.at)) options) many))
                ((omega (arith, leb-true most_clients (length clients) many, count), refl), many_first before client until rise unnamed)
            | inr some ↦
                subst Told (sym (ap (λ (b : Bool). cond b (Some (faults.TooManyClients client.at)) options) some))
                (options_tell before client (bad_option [] client.options) unnamed (omega (arith, leb-false most_clients (length clients) some, count)) (options_told [] client.options (client.at + 1) until rise))
          ])
    ]

-- ---- the entries of a line `turns`

abbrev pub EntriesRise : ℕ → ℕ → List EntrySaid → Type 0
EntriesRise from until [] = from ≤ until
EntriesRise from until (entry ∷ entries) = (from ≤ entry.at) × EntriesRise (entry.at + 1) until entries

entries_until : (entries : List EntrySaid) (from until : ℕ) → EntriesRise from until entries → from ≤ until
entries_until [] from until rise = rise
entries_until (entry ∷ entries) from until rise = omega (arith, rise.0, entries_until entries (entry.at + 1) until rise.1)

entry_within : (before : List ClientSaid) (entry : EntrySaid) (from : ℕ) → from ≤ entry.at → Within from (entry.at + 1) (HasEntryFault before entry)
entry_within before entry from low (faults.UnknownTurn at) has = (omega (arith, has.1, low), omega (arith, has.1))
entry_within before entry from low (faults.DuplicateClient at) has = absurd has
entry_within before entry from low (faults.TooManyClients at) has = absurd has
entry_within before entry from low (faults.BadOption at) has = absurd has
entry_within before entry from low (faults.NotUtf8 at) has = absurd has
entry_within before entry from low (faults.Syntax at) has = absurd has
entry_within before entry from low (faults.TooLong at) has = absurd has
entry_within before entry from low faults.OutOfMemory has = absurd has

turns_within : (before : List ClientSaid) (entries : List EntrySaid) (from until : ℕ) → EntriesRise from until entries → Within from until (HasTurnsFault before entries)
turns_within before [] from until rise fault has = absurd has
turns_within before (entry ∷ entries) from until rise fault (inl here) =
    let w = entry_within before entry from rise.0 fault here in
    (w.0, omega (arith, w.1, entries_until entries (entry.at + 1) until rise.1))
turns_within before (entry ∷ entries) from until rise fault (inr later) =
    let w = turns_within before entries (entry.at + 1) until rise.1 fault later in
    (omega (arith, w.0, rise.0), w.1)

entry_first : (before : List ClientSaid) (entry : EntrySaid) (other : JobFault) → HasEntryFault before entry other → (faults.UnknownTurn entry.at ≡ other) ⊎ IsBefore (faults.UnknownTurn entry.at) other
entry_first before entry (faults.UnknownTurn at) has = inl (ap (λ (n : ℕ). faults.UnknownTurn n) (sym has.1))
entry_first before entry (faults.DuplicateClient at) has = absurd has
entry_first before entry (faults.TooManyClients at) has = absurd has
entry_first before entry (faults.BadOption at) has = absurd has
entry_first before entry (faults.NotUtf8 at) has = absurd has
entry_first before entry (faults.Syntax at) has = absurd has
entry_first before entry (faults.TooLong at) has = absurd has
entry_first before entry faults.OutOfMemory has = absurd has

entry_none : (before : List ClientSaid) (entry : EntrySaid) → IsNamed before entry.name → (fault : JobFault) → HasEntryFault before entry fault → ⊥
entry_none before entry named (faults.UnknownTurn at) has = has.0 named
entry_none before entry named (faults.DuplicateClient at) has = has
entry_none before entry named (faults.TooManyClients at) has = has
entry_none before entry named (faults.BadOption at) has = has
entry_none before entry named (faults.NotUtf8 at) has = has
entry_none before entry named (faults.Syntax at) has = has
entry_none before entry named (faults.TooLong at) has = has
entry_none before entry named faults.OutOfMemory has = has

entry_told : (clients : List JobClient) (before : List ClientSaid) (entry : EntrySaid) (place : Option ℕ) → names_of clients ≡ names_said before → place_of_client clients entry.name ≡ place → Tells (HasEntryFault before entry) (unless_there place (faults.UnknownTurn entry.at))
entry_told clients before entry None same is = ((unnamed_by clients before entry.name None same is refl, refl), entry_first before entry)
entry_told clients before entry (Some k) same is = entry_none before entry (named_by clients before entry.name (Some k) same is refl)

-- ---- what is put behind a fault

entry_put : (draft : Draft) (entry : EntrySaid) (fault : Option JobFault) → draft.fault ≡ fault → put_entry draft entry ≡ unless_fault fault (with_entry draft entry) draft
unfolding put_entry
entry_put draft entry fault h = ap (λ (f : Option JobFault). unless_fault f (with_entry draft entry) draft) h

entries_stuck : (entries : List EntrySaid) (draft : Draft) (fault : JobFault) → draft.fault ≡ Some fault → put_entries draft entries ≡ draft
unfolding put_entries
entries_stuck [] draft fault h = refl
entries_stuck (entry ∷ entries) draft fault h = ap (λ (d : Draft). put_entries d entries) (entry_put draft entry (Some fault) h) ∙ entries_stuck entries draft fault h

-- entries leave the clients as they are
record KeepsClients (draft later : Draft) : Type 0 where
  clients : later.clients ≡ draft.clients
  client : later.client ≡ draft.client

entry_keeps : (draft : Draft) (entry : EntrySaid) (fault : Option JobFault) → KeepsClients draft (unless_fault fault (with_entry draft entry) draft)
entry_keeps draft entry None = record { clients = refl; client = refl }
entry_keeps draft entry (Some fault) = record { clients = refl; client = refl }

entries_keep : (entries : List EntrySaid) (draft : Draft) → KeepsClients draft (put_entries draft entries)
unfolding put_entries
entries_keep [] draft = record { clients = refl; client = refl }
entries_keep (entry ∷ entries) draft =
    let one : KeepsClients draft (put_entry draft entry) = subst (KeepsClients draft) (sym (entry_put draft entry draft.fault refl)) (entry_keeps draft entry draft.fault) in
    let more = entries_keep entries (put_entry draft entry) in
    record { clients = more.clients ∙ one.clients; client = more.client ∙ one.client }

-- the next part of lines, or of entries, is judged where the part before it has no fault
then_told : (Here There : JobFault → Type 0) (from until : ℕ) (here : Option JobFault) (now later : Draft) → now.fault ≡ here → Within from until Here → From until There → Tells Here here
    → (now.fault ≡ None → Tells There later.fault) → ((fault : JobFault) → now.fault ≡ Some fault → later ≡ now) → Tells (λ fault. Here fault ⊎ There fault) later.fault
then_told Here There from until None now later is w f h next stuck = there_told Here There later.fault h (next is)
then_told Here There from until (Some fault) now later is w f h next stuck =
    subst (Tells (λ fault. Here fault ⊎ There fault)) (sym (ap (λ (d : Draft). d.fault) (stuck fault is) ∙ is)) (here_told Here There from until fault w f h)

entry_fault_is : (draft : Draft) (entry : EntrySaid) → draft.fault ≡ None → (with_entry draft entry).fault ≡ entry_fault draft.clients entry
entry_fault_is draft entry h = ap (λ (f : Option JobFault). first_fault f (entry_fault draft.clients entry)) h

entries_told : (entries : List EntrySaid) (draft : Draft) (before : List ClientSaid) (from until : ℕ) → draft.fault ≡ None → names_of draft.clients ≡ names_said before → EntriesRise from until entries → Tells (HasTurnsFault before entries) (put_entries draft entries).fault
unfolding put_entries
entries_told [] draft before from until none same rise = subst (Tells (HasTurnsFault before [])) (sym none) (λ fault has. has)
entries_told (entry ∷ entries) draft before from until none same rise =
    let now = with_entry draft entry in
    subst (λ (d : Draft). Tells (HasTurnsFault before (entry ∷ entries)) (put_entries d entries).fault) (sym (entry_put draft entry None none))
    (then_told (HasEntryFault before entry) (HasTurnsFault before entries) from (entry.at + 1) (entry_fault draft.clients entry) now (put_entries now entries) (entry_fault_is draft entry none)
    (entry_within before entry from rise.0)
    (λ fault has. (turns_within before entries (entry.at + 1) until rise.1 fault has).0)
    (entry_told draft.clients before entry (place_of_client draft.clients entry.name) same refl)
    (λ still. entries_told entries now before (entry.at + 1) until still same rise.1)
    (λ fault h. entries_stuck entries now fault h))

-- ---- lines, whose places rise

abbrev pub LinesRise : ℕ → List LineSaid → Type 0
LinesRise from [] = Unit {0}
LinesRise from (kinds.Client client ∷ lines) = (from ≤ client.at) × (next : ℕ) × OptionsRise (client.at + 1) next client.options × LinesRise next lines
LinesRise from (kinds.Turns entries ∷ lines) = (next : ℕ) × EntriesRise from next entries × LinesRise next lines
LinesRise from (kinds.Begin update ∷ lines) = LinesRise from lines
LinesRise from (kinds.Command command ∷ lines) = LinesRise from lines
LinesRise from (kinds.End aborts ∷ lines) = LinesRise from lines

lines_from : (before : List ClientSaid) (lines : List LineSaid) (from : ℕ) → LinesRise from lines → From from (HasFault before lines)
lines_from before [] from rise fault has = absurd has
lines_from before (kinds.Client client ∷ lines) from rise fault (inl here) = (client_within before client from rise.1 rise.0 rise.2 fault here).0
lines_from before (kinds.Client client ∷ lines) from rise fault (inr later) =
    omega (arith, rise.0, options_until client.options (client.at + 1) rise.1 rise.2, lines_from (before ++ client ∷ []) lines rise.1 rise.3 fault later)
lines_from before (kinds.Turns entries ∷ lines) from rise fault (inl here) = (turns_within before entries from rise.0 rise.1 fault here).0
lines_from before (kinds.Turns entries ∷ lines) from rise fault (inr later) =
    omega (arith, entries_until entries from rise.0 rise.1, lines_from before lines rise.0 rise.2 fault later)
lines_from before (kinds.Begin update ∷ lines) from rise fault has = lines_from before lines from rise fault has
lines_from before (kinds.Command command ∷ lines) from rise fault has = lines_from before lines from rise fault has
lines_from before (kinds.End aborts ∷ lines) from rise fault has = lines_from before lines from rise fault has

-- ---- the clients of a draft

-- the names of all clients, with the one whose transactions are put
abbrev pub Named : Draft → List ClientSaid → Type 0
Named draft before = names_of (closed_clients draft.clients draft.client draft.txns) ≡ names_said before

names_closed : (clients : List JobClient) (client : Option JobClient) (txns other : List Txn) → names_of (closed_clients clients client txns) ≡ names_of (closed_clients clients client other)
names_closed clients None txns other = refl
names_closed clients (Some client) txns other =
    map-append (λ (c : JobClient). c.name) clients (with_txns client txns ∷ []) ∙ sym (map-append (λ (c : JobClient). c.name) clients (with_txns client other ∷ []))

names_opened : (clients : List JobClient) (before : List ClientSaid) (client : ClientSaid) → names_of clients ≡ names_said before → names_of (closed_clients clients (Some (opened client)) []) ≡ names_said (before ++ client ∷ [])
names_opened clients before client same =
    map-append (λ (c : JobClient). c.name) clients (with_txns (opened client) [] ∷ [])
    ∙ ap (λ (names : List (List ℕ)). names ++ client.name ∷ []) same
    ∙ sym (map-append (λ (c : ClientSaid). c.name) before (client ∷ []))

-- ---- all lines

client_fault_is : (draft : Draft) (client : ClientSaid) → draft.fault ≡ None → (put_client (closed draft) client).fault ≡ client_fault (closed draft).clients client
unfolding closed put_client
client_fault_is draft client none = ap (λ (f : Option JobFault). first_fault f (client_fault (closed draft).clients client)) none

named_closed : (draft : Draft) (before : List ClientSaid) → Named draft before → names_of (closed draft).clients ≡ names_said before
unfolding closed
named_closed draft before same = same

faultless_closed : (draft : Draft) → draft.fault ≡ None → (closed draft).fault ≡ None
unfolding closed
faultless_closed draft none = none

named_client_put : (draft : Draft) (before : List ClientSaid) (client : ClientSaid) → Named draft before → Named (put_client (closed draft) client) (before ++ client ∷ [])
unfolding closed put_client
named_client_put draft before client same = names_opened (closed_clients draft.clients draft.client draft.txns) before client same

closed_client : (draft : Draft) → (closed draft).client ≡ None
unfolding closed
closed_client draft = refl

named_turns_put : (draft : Draft) (before : List ClientSaid) (entries : List EntrySaid) → Named draft before → Named (put_entries (closed draft) entries) before
named_turns_put draft before entries same =
    let now = put_entries (closed draft) entries in
    let kept = entries_keep entries (closed draft) in
    let none : now.client ≡ None = kept.client ∙ closed_client draft in
    ap (λ (c : Option JobClient). names_of (closed_clients now.clients c now.txns)) none
    ∙ ap names_of kept.clients
    ∙ named_closed draft before same

named_begin : (draft : Draft) (before : List ClientSaid) (update : Bool) → draft.fault ≡ None → Named draft before → ((put_begin draft update).fault ≡ None) × Named (put_begin draft update) before
unfolding put_begin
named_begin draft before update none same = (none, same)

named_command : (draft : Draft) (before : List ClientSaid) (command : Command) → draft.fault ≡ None → Named draft before → ((put_command draft command).fault ≡ None) × Named (put_command draft command) before
unfolding put_command
named_command draft before command none same = (none, same)

named_end : (draft : Draft) (before : List ClientSaid) (aborts : Bool) → draft.fault ≡ None → Named draft before → ((put_end draft aborts).fault ≡ None) × Named (put_end draft aborts) before
unfolding put_end
named_end draft before aborts none same = (none, names_closed draft.clients draft.client _ draft.txns ∙ same)

-- what is told of lines that are put
abbrev pub LinesTold : List ClientSaid → List LineSaid → Draft → Type 0
LinesTold before lines draft = Tells (HasFault before lines) (put_all draft lines).fault

put_first : (before : List ClientSaid) (line : LineSaid) (lines : List LineSaid) (draft : Draft) → draft.fault ≡ None → Tells (HasFault before (line ∷ lines)) (put_all (put_line draft line) lines).fault → LinesTold before (line ∷ lines) draft
unfolding put_all
put_first before line lines draft none told =
    subst (λ (d : Draft). Tells (HasFault before (line ∷ lines)) (put_all d lines).fault) (sym (put_faultless draft line none)) told

no_lines : (before : List ClientSaid) (draft : Draft) → draft.fault ≡ None → LinesTold before [] draft
unfolding put_all
no_lines before draft none = subst (Tells (HasFault before [])) (sym none) (λ fault has. has)

pub lines_told : (lines : List LineSaid) (before : List ClientSaid) (draft : Draft) (from : ℕ) → draft.fault ≡ None → Named draft before → LinesRise from lines → LinesTold before lines draft
lines_told [] before draft from none same rise = no_lines before draft none
lines_told (kinds.Client client ∷ lines) before draft from none same rise =
    let now = put_client (closed draft) client in
    put_first before (kinds.Client client) lines draft none
    (then_told (HasClientFault before client) (HasFault (before ++ client ∷ []) lines) from rise.1 (client_fault (closed draft).clients client) now (put_all now lines) (client_fault_is draft client none)
    (client_within before client from rise.1 rise.0 rise.2)
    (lines_from (before ++ client ∷ []) lines rise.1 rise.3)
    (client_told (closed draft).clients before client rise.1 (named_closed draft before same) rise.2)
    (λ still. lines_told lines (before ++ client ∷ []) now rise.1 still (named_client_put draft before client same) rise.3)
    (λ fault h. all_stuck lines now fault h))
lines_told (kinds.Turns entries ∷ lines) before draft from none same rise =
    let now = put_entries (closed draft) entries in
    put_first before (kinds.Turns entries) lines draft none
    (then_told (HasTurnsFault before entries) (HasFault before lines) from rise.0 now.fault now (put_all now lines) refl
    (turns_within before entries from rise.0 rise.1)
    (lines_from before lines rise.0 rise.2)
    (entries_told entries (closed draft) before from rise.0 (faultless_closed draft none) (named_closed draft before same) rise.1)
    (λ still. lines_told lines before now rise.0 still (named_turns_put draft before entries same) rise.2)
    (λ fault h. all_stuck lines now fault h))
lines_told (kinds.Begin update ∷ lines) before draft from none same rise =
    let n = named_begin draft before update none same in
    put_first before (kinds.Begin update) lines draft none (lines_told lines before (put_begin draft update) from n.0 n.1 rise)
lines_told (kinds.Command command ∷ lines) before draft from none same rise =
    let n = named_command draft before command none same in
    put_first before (kinds.Command command) lines draft none (lines_told lines before (put_command draft command) from n.0 n.1 rise)
lines_told (kinds.End aborts ∷ lines) before draft from none same rise =
    let n = named_end draft before aborts none same in
    put_first before (kinds.End aborts) lines draft none (lines_told lines before (put_end draft aborts) from n.0 n.1 rise)
