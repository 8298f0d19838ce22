-- How a run begins: each client at the first line of its script, without a page.
use Rattle.std.proofs.Common.{◌≡◌, ◌<◌, ◌+◌, ℕ, Bool, true, false, cond, List, [], ◌∷◌, ◌++◌, length, map, get_or, replicate, Option, Some, None, refl, sym, ap, subst, ◌∙◌, inl, inr, arith}
use Rattle.std.specs.Prelude.{All}
use Rattle.std.specs.Borrow.{GName}
use Rattle.std.specs.Option.{option_map}
use Rattle.std.specs.List.{slice_get, AllByRecursion}
use Rattle.std.proofs.lemmas.List.{get_or_append_left, length-append, length-replicate}
use Rattle.std.proofs.lemmas.Bool.{cases_lt}
use Rattle.std.proofs.lemmas.List.Elements.{All-nil}
use Rattle.std.proofs.Math.Dec.{ltb}
use Rattle.std.proofs.lemmas.Option.{same_Some, slice_get-get_or, slice_get_cases, slice_get_past, slice_get_read, slice_get_within}
use Rattle.ostore_base.specs.Limits.{most_clients}
use Rattle.ostore_base.specs.declared.numbers.ClientNo.{ClientNo}
use Rattle.ostore_schema_layout.specs.declared.schema.Schema.{Schema}
use Rattle.ostore_address_space.specs.Frames.{frames_of}
use Rattle.ostore_page_service.specs.declared.kind.Kind as kind
use Rattle.ostore_page_service.specs.declared.server.SeqServer.{SeqServer}
use Rattle.ostore_page_service.specs.Holding.{IsEmpty}
use Rattle.ostore_page_service.specs.Servers.{journal_of, side_of, told_of, Serves}
use Rattle.ostore_page_service.specs.Told.{Told}
use Rattle.ostore_graph_model.specs.declared.commands.Script.{Script}
use Rattle.ostore_graph_model.specs.declared.history.Entry.{Entry}
use Rattle.ostore_job_text.specs.LawfulJob.{HasLawfulSettings}
use Rattle.ostore_job_text.specs.declared.job.Job.{Job}
use Rattle.ostore_job_text.specs.declared.job.JobClient.{JobClient}
use Rattle.ostore_client_cache.specs.Entries.{is_in_use}
use Rattle.ostore_client_core.specs.Clients.{ClientView, IsIdle, IsOwn, client_view, entry_of}
use Rattle.ostore_transactions.specs.Attempts.{IsWith, line_in}
use Rattle.ostore_turns.specs.declared.place.Place.{Place}
use Rattle.ostore_turns.specs.Places.{first_place}
use Rattle.ostore_turns.specs.Runs.{IsFirst}
use Rattle.ostore_graph_history.specs.Histories.{committed_entry}
use Rattle.ostore_client_turns.specs.declared.seat.Seat.{Seat}
use Rattle.ostore_client_turns.specs.Runs.{first_moment, script_of}
use Rattle.ostore_client_turns.specs.inside.AtServer.{AreAllFreshAt, IsFreshAt, IsReadyAt, moment_at}
use Rattle.ostore_client_turns.specs.inside.Seats.{seats_in, view_of}
use Rattle.ostore_client_turns.specs.inside.Stores.{IsExecutable, IsFreshSeat, SeatView, place_of, recorded}
use Rattle.ostore_client_turns.proofs.StoreLaws.{all_at}

-- ---- one client

fresh_idle : (client : ClientView) (schema : Schema) (number : ClientNo) (frames cache : ℕ) → client ≡ client_view schema (frames_of number (replicate frames None)) [] cache 0 → IsIdle client
fresh_idle client schema number frames cache is page = ap (λ (v : ClientView). is_in_use (entry_of v page)) is

pub fresh_seat : (serves : Script → Type 0) (told : Told Entry) (schema : Schema) (client : JobClient) (number : ClientNo) (seat : SeatView) → IsOwn serves told seat.client
    → seat.client ≡ client_view schema (frames_of number (replicate client.frames None)) [] client.cache 0 → seat.attempt.progress ≡ None → seat.place ≡ first_place → IsEmpty told.mine → IsFreshSeat serves told schema client seat
fresh_seat serves told schema client number seat own is none place empty =
    let idle = fresh_idle seat.client schema number client.frames client.cache is in
    record {
      seated = record {
        own = own;
        of_schema = ap (λ (v : ClientView). v.schema) is;
        most = ap (λ (v : ClientView). v.most) is;
        frames = ap (λ (v : ClientView). length v.frames.pages) is ∙ length-replicate client.frames None;
        line = ap (λ (p : Place). p.line) place ∙ sym (ap line_in none);
        at = λ txn there. subst (IsWith serves told seat.client txn) (sym none) idle;
        over = λ past. idle;
        earlier = subst (All (λ (earlier : Entry × ℕ). earlier.0.ordinal < seat.place.txn + 1)) (sym empty.records) (All-nil (λ (earlier : Entry × ℕ). earlier.0.ordinal < seat.place.txn + 1));
      };
      first = place;
    }

-- ---- all clients

-- the client at a place of the list
pub client_there : (clients items : List JobClient) (number : ℕ) (client : JobClient) → items ≡ clients → number < length items → client ≡ get_or items number client → slice_get clients number ≡ Some client
client_there clients items number client same within is = subst (λ (xs : List JobClient). slice_get xs number ≡ Some client) same (slice_get_read items (length items) number client refl within is)

pub settings_there : (clients : List JobClient) (number : ℕ) (client : JobClient) → AllByRecursion HasLawfulSettings clients → slice_get clients number ≡ Some client → HasLawfulSettings client
settings_there clients number client all there = all_at HasLawfulSettings clients number client all there

push_here : {M : Type 0} (items : List (Seat M)) (seat : Seat M) (number : ℕ) → length items ≡ number → slice_get (items ++ seat ∷ []) number ≡ Some seat
push_here [] seat number is = ap (slice_get (seat ∷ [])) (sym is)
push_here (first ∷ items) seat number is =
    ap (slice_get ((first ∷ items) ++ seat ∷ [])) (sym is) ∙ push_here items seat (length items) refl

push_before : {M : Type 0} (items : List (Seat M)) (seat : Seat M) (number : ℕ) → number < length items → slice_get (items ++ seat ∷ []) number ≡ slice_get items number
push_before items seat number less =
    let within : number < length (items ++ seat ∷ []) = omega (arith, length-append items (seat ∷ [])) in
    slice_get-get_or (items ++ seat ∷ []) number seat within ∙ ap Some (get_or_append_left items (seat ∷ []) seat number less) ∙ sym (slice_get-get_or items number seat less)

module _ {K D M : Type 0} {g : kind.Ghosts K Entry Script} (disk_faults : D → ℕ) (server : SeqServer K D Entry Script g) (schema : Schema) (clients : List JobClient) where
  -- so many clients have their seats
  pub record AreFreshUpTo (count : ℕ) (items : List (Seat M)) : Type 0 where
    pub long : length items ≡ count
    pub each : (number : ℕ) (client : JobClient) → slice_get clients number ≡ Some client → number < count
        → (seat : SeatView) × (seats_in items number ≡ Some seat) × IsFreshAt disk_faults server number schema client seat

  pub fresh_none : AreFreshUpTo 0 []
  fresh_none = record { long = refl; each = λ number client there less. absurd (omega arith) }

  pub fresh_more : (count : ℕ) (items : List (Seat M)) (seat : Seat M) (client : JobClient) → slice_get clients count ≡ Some client → AreFreshUpTo count items → IsFreshAt disk_faults server count schema client (view_of seat)
      → AreFreshUpTo (count + 1) (items ++ seat ∷ [])
  fresh_more count items seat client here fresh one = record {
    long = (let more = length-append items (seat ∷ []) in let old = fresh.long in omega arith);
    each = λ number its there less. elim (cases_lt number count) [
      | inl before ↦ (let found = fresh.each number its there before in
          let low : number < length items = (let old = fresh.long in omega arith) in
          (found.0, ap (option_map view_of) (push_before items seat number low) ∙ found.1, found.2))
      | inr after ↦ (let is : number ≡ count = omega arith in
          let mine : its ≡ client = same_Some its client (sym there ∙ ap (slice_get clients) is ∙ here) in (
            view_of seat,
            ap (option_map view_of) (push_here items seat number (fresh.long ∙ sym is)),
            subst (λ (n : ℕ). IsFreshAt disk_faults server n schema its (view_of seat)) (sym is) (subst (λ (c : JobClient). IsFreshAt disk_faults server count schema c (view_of seat)) (sym mine) one),
          ))
    ];
  }

  pub all_fresh : (items : List (Seat M)) → AreFreshUpTo (length clients) items → AreAllFreshAt disk_faults server schema clients (seats_in items)
  all_fresh items fresh = record {
    each = λ number client there. fresh.each number client there (slice_get_within clients number client there);
    none = λ number high. ap (option_map view_of) (slice_get_past items number (let long = fresh.long in omega arith));
  }

-- ---- what a run by turns begins with

module _ {K D : Type 0} {g : kind.Ghosts K Entry Script} (disk_faults : D → ℕ) (server : SeqServer K D Entry Script g) (schema : Schema) (job : Job) (seats : ℕ → Option SeatView)
    (fresh : AreAllFreshAt disk_faults server schema job.clients seats) (empty : (client : ℕ) → IsEmpty (side_of server client)) where
  pub ready_first : IsExecutable schema job → Serves server (script_of schema job) → IsReadyAt disk_faults server schema job seats
  ready_first executable served behind = record {
    executable = executable;
    served = served;
    seated = record {
      each = λ number client there. (let found = fresh.each number client there in (found.0, found.1, (found.2 behind).seated));
      vacant = λ number high low. record { held = (empty number).held; owned = (empty number).owned };
    };
  }

  place_first : (behind : GName) (client : ℕ) → place_of (seats client) ≡ first_place
  place_first behind client = elim (slice_get_cases job.clients client).1 [
    | inl there ↦ (let found = fresh.each client there.0 there.2 in ap place_of found.1 ∙ (found.2 behind).first)
    | inr past ↦ ap place_of (fresh.none client past.0)
  ]

  none_recorded : (low : Bool) (records : List (Entry × ℕ)) → records ≡ [] → cond low (map committed_entry records) [] ≡ []
  none_recorded true records is = ap (map committed_entry) is
  none_recorded false records is = refl

  record_first : (behind : GName) (client : ℕ) → recorded (λ n. told_of behind disk_faults n server) client ≡ []
  record_first behind client = none_recorded (ltb client most_clients) (side_of server client).records (empty client).records

  pub is_first : (behind : GName) → IsFirst (moment_at disk_faults server behind seats)
  is_first behind client = (place_first behind client, record_first behind client)

  pub moment_first : (behind : GName) (first : ℕ) → (journal_of server).number ≡ first → moment_at disk_faults server behind seats ≡ first_moment first
  moment_first behind first is = λ i. record {
    places = λ client. place_first behind client i;
    records = λ client. record_first behind client i;
    commits = is i;
  }
