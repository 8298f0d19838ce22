-- The clients of a job at a server: where each of them is, and what its service holds for it.
use Rattle.std.specs.Prelude.{◌≡◌, ◌<◌, ◌≤◌, ◌+◌, ℕ, true, false, nat_lt, if◌then◌else◌, List, [], length, map, Option, Some, None, All}
use Rattle.std.specs.List.{slice_get}
use Rattle.std.specs.Borrow.{GName}
use Rattle.ostore_base.specs.Limits.{most_clients}
use Rattle.ostore_base.specs.declared.page.PageImage.{PageImage}
use Rattle.ostore_schema_layout.specs.declared.schema.Schema.{Schema}
use Rattle.ostore_schema_layout.specs.Lawful.{IsLawful}
use Rattle.ostore_page_service.specs.Told.{Told}
use Rattle.ostore_graph_model.specs.declared.commands.Script.{Script}
use Rattle.ostore_graph_model.specs.declared.commands.Txn.{Txn}
use Rattle.ostore_graph_model.specs.declared.history.Entry.{Entry}
use Rattle.ostore_graph_model.specs.declared.history.Committed.{Committed}
use Rattle.ostore_object_ops.specs.Suits.{IsOfInts}
use Rattle.ostore_job_text.specs.declared.job.Job.{Job}
use Rattle.ostore_job_text.specs.declared.job.JobClient.{JobClient}
use Rattle.ostore_client_core.specs.Clients.{ClientView, IsIdle, IsOwn}
use Rattle.ostore_transactions.specs.declared.attempt.Attempt.{Attempt}
use Rattle.ostore_transactions.specs.Attempts.{line_at, IsAt}
use Rattle.ostore_turns.specs.declared.place.Place.{Place}
use Rattle.ostore_turns.specs.Places.{Moment, first_place, moment_of}
use Rattle.ostore_graph_history.specs.Histories.{committed_entry}
use Rattle.ostore_client_turns.specs.Runs.{AreBuilt, script_of}

-- ---- one client

-- a client's pages, how far its attempt has come, and its place in its script
pub record SeatView : Type 0 where
  pub client : ClientView
  pub attempt : Attempt
  pub place : Place

-- where a client is
abbrev pub place_of : Option SeatView → Place
place_of None = first_place
place_of (Some seat) = seat.place

-- It has as many pages and frames as its options say; its service is its own; its attempt is at its place, and where it has no
-- line left, no page is in use. What it has committed comes before its place.
pub record IsSeated (serves : Script → Type 0) (told : Told Entry) (schema : Schema) (client : JobClient) (seat : SeatView)
    : Type 0 where
  pub own : IsOwn serves told seat.client
  pub of_schema : seat.client.schema ≡ schema
  pub most : seat.client.most ≡ client.cache
  pub frames : length seat.client.frames.pages ≡ client.frames
  pub line : seat.place.line ≡ line_at seat.attempt
  pub at : (txn : Txn) → slice_get client.txns seat.place.txn ≡ Some txn → IsAt serves told seat.client txn seat.attempt
  pub over : slice_get client.txns seat.place.txn ≡ None → IsIdle seat.client
  pub earlier : All (λ (earlier : Entry × ℕ). earlier.0.ordinal < seat.place.txn + 1) told.mine.records

-- a client number of which the job has none: the service holds nothing for it
pub record IsVacant (told : Told Entry) : Type 0 where
  pub held : (page : ℕ) → told.mine.held page ≡ None
  pub owned : (page : ℕ) → told.mine.owned page ≡ false

-- ---- all clients

pub record AreSeated (serves : Script → Type 0) (told : ℕ → Told Entry) (schema : Schema) (clients : List JobClient)
    (seats : ℕ → Option SeatView) : Type 0 where
  pub each : (number : ℕ) (client : JobClient) → slice_get clients number ≡ Some client
      → (seat : SeatView) × (seats number ≡ Some seat) × IsSeated serves (told number) schema client seat
  pub vacant : (number : ℕ) → length clients ≤ number → number < most_clients → IsVacant (told number)

-- at the first line of its script
pub record IsFreshSeat (serves : Script → Type 0) (told : Told Entry) (schema : Schema) (client : JobClient) (seat : SeatView)
    : Type 0 where
  pub seated : IsSeated serves told schema client seat
  pub first : seat.place ≡ first_place

-- what one server tells as the services of all its clients
pub record AreTold (told : ℕ → Told Entry) (opened : List PageImage) (commits : ℕ) : Type 0 where
  pub client : (number : ℕ) → (told number).client ≡ number
  pub opens : (number : ℕ) → (told number).opened ≡ opened
  pub tells : (number : ℕ) → (told number).tells_others ≡ true
  pub others : (number other : ℕ) → (told number).others other ≡ (told other).mine
  pub reached : (number : ℕ) → (told number).number ≡ Some commits
  pub sound : (number : ℕ) → (told number).may_fail ≡ false

-- a job that can be executed on pages of the schema
pub record IsExecutable (schema : Schema) (job : Job) : Type 0 where
  pub few : length job.clients ≤ most_clients
  pub lawful : IsLawful schema
  pub ints : IsOfInts schema
  pub built : AreBuilt job

-- The clients of a job that can be executed are all seated, and the server serves the job's script.
pub record IsReady (serves : Script → Type 0) (told : ℕ → Told Entry) (schema : Schema) (job : Job)
    (seats : ℕ → Option SeatView) : Type 0 where
  pub executable : IsExecutable schema job
  pub served : serves (script_of schema job)
  pub seated : AreSeated serves told schema job.clients seats

-- ---- what a run by turns sees of them

-- what a client has committed, where the server serves so many
abbrev pub recorded : (ℕ → Told Entry) → ℕ → List Committed
recorded told client = if nat_lt client most_clients then map committed_entry (told client).mine.records else []

-- where each client is, and what it has committed
abbrev pub moment_in : (ℕ → Told Entry) → ℕ → (ℕ → Option SeatView) → Moment
moment_in told number seats = moment_of (λ client. place_of (seats client)) (recorded told) number

-- what no turn changes: the references to the server and to the seats, what the server opened, and what is run on it
pub record StoreConstants : Type 0 where
  pub behind : GName
  pub sits : GName
  pub first : ℕ
  pub opened : List PageImage
  pub schema : Schema
  pub job : Job
