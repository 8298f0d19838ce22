-- The job that lines put together, one after the other, and the fault of what they name that is met first. That it is
-- the one which comes first of all that they have (FaultsOf) is a law.
use Rattle.std.specs.Prelude.{ℕ, Bool, false, true, not, ◌&&◌, if◌then◌else◌, nat_le, min, List, [], ◌∷◌, ◌++◌, length, codes, Option, Some, None, Result, Ok, Err, option_map}
use Rattle.std.specs.List.{find, position, list_any}
use Rattle.std.specs.Str.{bytes_eq}
use Rattle.ostore_base.specs.Limits.{most_clients, most_pages}
use Rattle.ostore_base.specs.declared.numbers.ClientNo.{ClientNo}
use Rattle.ostore_text_words.specs.Words.{◌>>=◌, count_at}
use Rattle.ostore_graph_model.specs.declared.commands.Command.{Command}
use Rattle.ostore_graph_model.specs.declared.commands.Txn.{Txn}
use Rattle.ostore_job_text.specs.declared.fault.JobFault.{JobFault}
use Rattle.ostore_job_text.specs.declared.fault.JobFault.TheVariants as faults
use Rattle.ostore_job_text.specs.declared.job.Job.{Job}
use Rattle.ostore_job_text.specs.declared.job.JobClient.{JobClient}
use Rattle.ostore_job_text.specs.declared.job.JobTurn.{JobTurn}
use Rattle.ostore_job_text.specs.declared.said.OptionSaid.{OptionSaid}
use Rattle.ostore_job_text.specs.declared.said.ClientSaid.{ClientSaid}
use Rattle.ostore_job_text.specs.declared.said.EntrySaid.{EntrySaid}
use Rattle.ostore_job_text.specs.declared.said.LineSaid.{LineSaid}
use Rattle.ostore_job_text.specs.declared.said.LineSaid.TheVariants as kinds
use Rattle.ostore_job_text.specs.declared.reading.draft.Draft.{Draft}
use Rattle.ostore_job_text.specs.Limits.{default_tries, default_cache, default_frames, most_tries, most_frames}

-- ---- options

-- the greatest number of an option; there are three
unfoldable pub option_limit : List ℕ → Option ℕ
option_limit name =
    if bytes_eq name (codes "tries") then Some most_tries
    else if bytes_eq name (codes "cache") then Some most_pages
    else if bytes_eq name (codes "frames") then Some most_frames
    else None

-- the number of an option, where it is one of the three and within its limits
abbrev pub option_number : OptionSaid → Option ℕ
option_number option = option_limit option.name >>= λ most. count_at 1 most option.number

abbrev pub is_there : {X : Type 0} → Option X → Bool
is_there None = false
is_there (Some x) = true

-- an option was given before
abbrev pub is_repeated : List OptionSaid → OptionSaid → Bool
is_repeated earlier option = list_any (λ other. bytes_eq other.name option.name) earlier

abbrev pub is_good_option : List OptionSaid → OptionSaid → Bool
is_good_option earlier option = not (is_repeated earlier option) && is_there (option_number option)

-- where the first option stands that is unknown, was given before, or is out of its limits
unfoldable pub bad_option : List OptionSaid → List OptionSaid → Option ℕ
bad_option earlier [] = None
bad_option earlier (option ∷ options) =
    if is_good_option earlier option then bad_option (earlier ++ option ∷ []) options else Some option.at

abbrev pub or_default : ℕ → Option ℕ → ℕ
or_default default None = default
or_default default (Some number) = number

-- the number that is given for an option, or its default
abbrev pub number_given : List OptionSaid → List ℕ → ℕ → ℕ
number_given options name default = or_default default (find (λ option. bytes_eq option.name name) options >>= option_number)

-- ---- clients

abbrev pub opened : ClientSaid → JobClient
opened said = record {
  name = said.name;
  tries = number_given said.options (codes "tries") default_tries;
  cache = number_given said.options (codes "cache") default_cache;
  frames = number_given said.options (codes "frames") default_frames;
  txns = [];
}

abbrev pub place_of_client : List JobClient → List ℕ → Option ℕ
place_of_client clients name = position (λ client. bytes_eq client.name name) clients

-- the first fault of a client's line, behind these clients
unfoldable pub client_fault : List JobClient → ClientSaid → Option JobFault
client_fault clients said =
    if is_there (place_of_client clients said.name) then Some (faults.DuplicateClient said.at)
    else if nat_le most_clients (length clients) then Some (faults.TooManyClients said.at)
    else option_map (λ at. faults.BadOption at) (bad_option [] said.options)

-- ---- turns

-- the number of the client that an entry names; it is read only where there are few clients
abbrev pub client_of_place : Option ℕ → ClientNo
client_of_place None = record { 0 = 0 }
client_of_place (Some place) = record { 0 = min place 65535 }

abbrev pub turn_of : List JobClient → EntrySaid → JobTurn
turn_of clients said = record { client = client_of_place (place_of_client clients said.name); count = said.count }

abbrev pub unless_there : Option ℕ → JobFault → Option JobFault
unless_there None fault = Some fault
unless_there (Some place) fault = None

abbrev pub entry_fault : List JobClient → EntrySaid → Option JobFault
entry_fault clients said = unless_there (place_of_client clients said.name) (faults.UnknownTurn said.at)

-- ---- the draft of a job

-- the first of two faults
abbrev pub first_fault : Option JobFault → Option JobFault → Option JobFault
first_fault None later = later
first_fault (Some fault) later = Some fault

abbrev pub empty_draft : Draft
empty_draft = record { clients = []; client = None; txns = []; update = false; commands = []; turns = []; fault = None }

-- the client has all of its transactions
abbrev pub with_txns : JobClient → List Txn → JobClient
with_txns client txns = record { name = client.name; tries = client.tries; cache = client.cache; frames = client.frames; txns = txns }

abbrev pub closed_clients : List JobClient → Option JobClient → List Txn → List JobClient
closed_clients clients None txns = clients
closed_clients clients (Some client) txns = clients ++ with_txns client txns ∷ []

-- the client whose transactions were put is put
unfoldable pub closed : Draft → Draft
closed draft = record {
  clients = closed_clients draft.clients draft.client draft.txns;
  client = None;
  txns = [];
  update = draft.update;
  commands = draft.commands;
  turns = draft.turns;
  fault = draft.fault;
}

unfoldable pub put_client : Draft → ClientSaid → Draft
put_client draft said = record {
  clients = draft.clients;
  client = Some (opened said);
  txns = [];
  update = draft.update;
  commands = draft.commands;
  turns = draft.turns;
  fault = first_fault draft.fault (client_fault draft.clients said);
}

unfoldable pub put_begin : Draft → Bool → Draft
put_begin draft update = record {
  clients = draft.clients;
  client = draft.client;
  txns = draft.txns;
  update = update;
  commands = draft.commands;
  turns = draft.turns;
  fault = draft.fault;
}

unfoldable pub put_command : Draft → Command → Draft
put_command draft command = record {
  clients = draft.clients;
  client = draft.client;
  txns = draft.txns;
  update = draft.update;
  commands = draft.commands ++ command ∷ [];
  turns = draft.turns;
  fault = draft.fault;
}

abbrev pub txn_of : Draft → Bool → Txn
txn_of draft aborts = record { update = draft.update; commands = draft.commands; aborts = aborts }

unfoldable pub put_end : Draft → Bool → Draft
put_end draft aborts = record {
  clients = draft.clients;
  client = draft.client;
  txns = draft.txns ++ txn_of draft aborts ∷ [];
  update = draft.update;
  commands = [];
  turns = draft.turns;
  fault = draft.fault;
}

-- what is behind a fault isn't put
abbrev pub unless_fault : Option JobFault → Draft → Draft → Draft
unless_fault None put draft = put
unless_fault (Some fault) put draft = draft

abbrev pub with_entry : Draft → EntrySaid → Draft
with_entry draft said = record {
  clients = draft.clients;
  client = draft.client;
  txns = draft.txns;
  update = draft.update;
  commands = draft.commands;
  turns = draft.turns ++ turn_of draft.clients said ∷ [];
  fault = first_fault draft.fault (entry_fault draft.clients said);
}

unfoldable pub put_entry : Draft → EntrySaid → Draft
put_entry draft said = unless_fault draft.fault (with_entry draft said) draft

unfoldable pub put_entries : Draft → List EntrySaid → Draft
put_entries draft [] = draft
put_entries draft (entry ∷ entries) = put_entries (put_entry draft entry) entries

abbrev pub put_line : Draft → LineSaid → Draft
put_line draft (kinds.Client said) = put_client (closed draft) said
put_line draft (kinds.Begin update) = put_begin draft update
put_line draft (kinds.Command command) = put_command draft command
put_line draft (kinds.End aborts) = put_end draft aborts
put_line draft (kinds.Turns entries) = put_entries (closed draft) entries

abbrev pub put : Draft → LineSaid → Draft
put draft said = unless_fault draft.fault (put_line draft said) draft

unfoldable pub put_all : Draft → List LineSaid → Draft
put_all draft [] = draft
put_all draft (said ∷ others) = put_all (put draft said) others

-- the job of a draft, or its first fault
abbrev pub if_faultless : Job → Option JobFault → Result Job JobFault
if_faultless job None = Ok job
if_faultless job (Some fault) = Err fault

abbrev pub job_of : Draft → Job
job_of draft = record { clients = draft.clients; turns = draft.turns }

abbrev pub settled : Draft → Result Job JobFault
settled draft = if_faultless (job_of draft) draft.fault

-- the same where the last client's transactions were put
abbrev pub finished : Draft → Result Job JobFault
finished draft = settled (closed draft)
