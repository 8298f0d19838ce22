-- Jobs: what lines put together is spelled by them.
use Rattle.std.proofs.Common.{◌≡◌, ◌≢◌, ℕ, zero, suc, ◌+◌, ◌<◌, ◌≤◌, Bool, true, false, leb, ltb, cond, List, [], ◌∷◌, ◌++◌, length, map, drop, slice_get, codes, decimal, Option, Some, None, Result, Ok, Err, refl, sym, ap, subst, ◌∙◌, append_assoc, arith, inl, inr}
use Rattle.std.specs.Prelude.{min, option_map, IfOk}
use Rattle.std.specs.List.{AllByRecursion, flat_map, position_or_len}
use Rattle.std.specs.Str.{bytes_eq}
use Rattle.std.proofs.lemmas.Bool.{cases_Bool, cases_lt, ltb-true, lt-ltb, le-leb, false≢true}
use Rattle.std.proofs.lemmas.List.{append-nil, length-append}
use Rattle.std.proofs.lemmas.Option.{same_Some}
use Rattle.ostore_text_words.proofs.LineWordLaws.{bytes_are, bytes_same, chosen}
use Rattle.ostore_graph_model.specs.declared.commands.Command.{Command}
use Rattle.ostore_graph_model.specs.declared.commands.Txn.{Txn}
use Rattle.ostore_job_text.specs.declared.fault.JobFault.{JobFault}
use Rattle.ostore_job_text.specs.declared.fault.JobFault.TheVariants as faults
use Rattle.ostore_job_text.specs.declared.job.Job.{Job}
use Rattle.ostore_job_text.specs.declared.job.JobClient.{JobClient}
use Rattle.ostore_job_text.specs.declared.job.JobTurn.{JobTurn}
use Rattle.ostore_job_text.specs.declared.said.ClientSaid.{ClientSaid}
use Rattle.ostore_job_text.specs.declared.said.EntrySaid.{EntrySaid}
use Rattle.ostore_job_text.specs.declared.said.LineSaid.{LineSaid}
use Rattle.ostore_job_text.specs.declared.said.LineSaid.TheVariants as kinds
use Rattle.ostore_job_text.specs.declared.said.Stand.{Stand}
use Rattle.ostore_job_text.specs.declared.said.Stand.TheVariants as stands
use Rattle.ostore_job_text.specs.declared.reading.draft.Draft.{Draft}
use Rattle.ostore_command_text.specs.CommandWords.{command_words}
use Rattle.ostore_job_text.specs.Canonical.{client_name, name_of_client, end_line, txn_lines}
use Rattle.ostore_command_text.specs.LawfulCommands.{IsLawfulCommand}
use Rattle.ostore_job_text.specs.LawfulJob.{Setting, tries, cache, frames, setting_of, IsLawfulTxn, IsLawfulClient, IsLawfulTurn}
use Rattle.ostore_job_text.specs.JobSpelling.{IsClientLine, AreClientLines, IsEntryWord, AreEntryWords, IsTurnsLine, AreTurnsLines, SpellsJob}
use Rattle.ostore_job_text.specs.inside.LinesSpelled.{IsEntryWord as SaysEntry, AreEntryWords as SayEntries, IsLineOf, AreLinesOf, LinesSay}
use Rattle.ostore_job_text.specs.Drafted.{is_there, bad_option, opened, place_of_client, client_fault, client_of_place, turn_of, entry_fault, unless_there, with_txns, closed, put_client, put_begin, put_command, put_end, unless_fault, with_entry, put_entry, put_entries, put_line, put, put_all, if_faultless, job_of, finished}
use Rattle.ostore_job_text.specs.ParsedJob.{parsed_from, parsed_job, IsOrMemory}
use Rattle.ostore_job_text.proofs.JobTaken.{parsed_says}
use Rattle.ostore_job_text.proofs.LineAgain.{faultless}
use Rattle.ostore_job_text.proofs.ClientAgain.{AreApart, put_faultless}
use Rattle.ostore_job_text.proofs.TextsUtf8.{texts_utf8}
use Rattle.ostore_job_text.proofs.OptionTaken.{all_join, settings_named, number_by, number_default, options_given, all_lawful}

-- ---- a fault stays

stuck : (draft : Draft) (said : LineSaid) (fault : JobFault) → draft.fault ≡ Some fault → put draft said ≡ draft
stuck draft said fault h = ap (λ (f : Option JobFault). unless_fault f (put_line draft said) draft) h

pub all_stuck : (said : List LineSaid) (draft : Draft) (fault : JobFault) → draft.fault ≡ Some fault → put_all draft said ≡ draft
unfolding put_all
all_stuck [] draft fault h = refl
all_stuck (first ∷ said) draft fault h = ap (λ (d : Draft). put_all d said) (stuck draft first fault h) ∙ all_stuck said draft fault h

without_fault : (fault : Option JobFault) (made job : Job) → if_faultless made fault ≡ Ok job → fault ≡ None
without_fault None made job e = refl
without_fault (Some fault) made job e = absurd cc

finished_faultless : (draft : Draft) (job : Job) → finished draft ≡ Ok job → draft.fault ≡ None
unfolding closed
finished_faultless draft job e = without_fault draft.fault (job_of (closed draft)) job e

faultless_by : (fault : Option JobFault) (draft : Draft) (said : List LineSaid) (job : Job) → draft.fault ≡ fault → finished (put_all draft said) ≡ Ok job → draft.fault ≡ None
faultless_by None draft said job h e = h
faultless_by (Some fault) draft said job h e = finished_faultless draft job (sym (ap finished (all_stuck said draft fault h)) ∙ e)

still_faultless : (draft : Draft) (said : List LineSaid) (job : Job) → finished (put_all draft said) ≡ Ok job → draft.fault ≡ None
still_faultless draft said job e = faultless_by draft.fault draft said job refl e

next_job : (draft : Draft) (first : LineSaid) (said : List LineSaid) (job : Job) → draft.fault ≡ None → finished (put_all draft (first ∷ said)) ≡ Ok job → finished (put_all (put_line draft first) said) ≡ Ok job
unfolding put_all
next_job draft first said job h e = ap (λ (d : Draft). finished (put_all d said)) (sym (put_faultless draft first h)) ∙ e

-- ---- what lines behind others spell

record Behind (clients : List JobClient) (lines : List (List (List ℕ))) (job : Job) : Type 0 where
  more : List JobClient
  joined : job.clients ≡ clients ++ more
  client_part : List (List (List ℕ))
  turns_part : List (List (List ℕ))
  parts : lines ≡ client_part ++ turns_part
  client_lines : AreClientLines more client_part
  turns_lines : AreTurnsLines job.clients job.turns turns_part
  lawful_more : AllByRecursion IsLawfulClient more
  lawful_turns : AllByRecursion (IsLawfulTurn job.clients) job.turns
  apart : AreApart job.clients
  few : length job.clients ≤ 16

record BehindClient (clients : List JobClient) (client : JobClient) (txns : List Txn) (lines : List (List (List ℕ))) (job : Job) : Type 0 where
  own : List Txn
  rest : List (List (List ℕ))
  parts : lines ≡ flat_map txn_lines own ++ rest
  lawful : AllByRecursion IsLawfulTxn own
  later : Behind (clients ++ with_txns client (txns ++ own) ∷ []) rest job

abbrev made_txn : Bool → List Command → Bool → Txn
made_txn update own aborts = record { update = update; commands = own; aborts = aborts }

record BehindTxn (clients : List JobClient) (client : JobClient) (txns : List Txn) (update : Bool) (done : List Command) (lines : List (List (List ℕ))) (job : Job) : Type 0 where
  own : List Command
  aborts : Bool
  rest : List (List (List ℕ))
  parts : lines ≡ map command_words own ++ (cond aborts (codes "abort") (codes "commit") ∷ []) ∷ rest
  lawful : AllByRecursion IsLawfulCommand own
  later : BehindClient clients client (txns ++ made_txn update (done ++ own) aborts ∷ []) rest job

record BehindTurns (clients : List JobClient) (turns : List JobTurn) (lines : List (List (List ℕ))) (job : Job) : Type 0 where
  more : List JobTurn
  same_clients : job.clients ≡ clients
  joined : job.turns ≡ turns ++ more
  turns_lines : AreTurnsLines clients more lines
  lawful : AllByRecursion (IsLawfulTurn clients) more

-- ---- the end of the text

same_job : (one other : Job) → ◌≡◌ {A = Result Job JobFault} (Ok one) (Ok other) → one ≡ other
same_job one other e = cc

outside_ended : (clients : List JobClient) (update : Bool) (turns : List JobTurn) (job : Job) → finished (put_all (faultless clients None [] update [] turns) []) ≡ Ok job → (job.clients ≡ clients) × (job.turns ≡ turns)
unfolding put_all closed
outside_ended clients update turns job e =
    let s = same_job (record { clients = clients; turns = turns }) job e in
    (ap (λ (j : Job). j.clients) (sym s), ap (λ (j : Job). j.turns) (sym s))

client_ended : (clients : List JobClient) (client : JobClient) (txns : List Txn) (update : Bool) (job : Job) → finished (put_all (faultless clients (Some client) txns update [] []) []) ≡ Ok job → (job.clients ≡ clients ++ with_txns client txns ∷ []) × (job.turns ≡ [])
unfolding put_all closed
client_ended clients client txns update job e =
    let s = same_job (record { clients = clients ++ with_txns client txns ∷ []; turns = [] }) job e in
    (ap (λ (j : Job). j.clients) (sym s), ap (λ (j : Job). j.turns) (sym s))

nothing_behind : (clients : List JobClient) (job : Job) → job.clients ≡ clients → job.turns ≡ [] → AreApart clients → length clients ≤ 16 → Behind clients [] job
nothing_behind clients job c t apart few =
    record {
      more = [];
      joined = c ∙ sym (append-nil clients);
      client_part = [];
      turns_part = [];
      parts = refl;
      client_lines = refl;
      turns_lines = t;
      lawful_more = tt;
      lawful_turns = subst (AllByRecursion (IsLawfulTurn job.clients)) (sym t) tt;
      apart = subst AreApart (sym c) apart;
      few = omega (arith, few, ap length c);
    }

-- ---- names

client_apart : (clients : List JobClient) (client : JobClient) → AreApart clients → AllByRecursion (λ other. other.name ≢ client.name) clients → AreApart (clients ++ client ∷ [])
client_apart [] client apart h = (tt, tt)
client_apart (first ∷ clients) client apart h = (all_join (λ other. first.name ≢ other.name) clients (client ∷ []) apart.0 (h.0, tt), client_apart clients client apart.1 h.1)

client_few : (clients : List JobClient) (client : JobClient) → length clients < 16 → length (clients ++ client ∷ []) ≤ 16
client_few clients client few = omega (arith, few, length-append clients (client ∷ []))

true_false : {P : Type 0} (b : Bool) → b ≡ true → b ≡ false → P
true_false b t f = absurd (false≢true (sym f ∙ t))

not_there : {A : Type 0} (o : Option A) → is_there o ≡ false → o ≡ None
not_there None h = refl
not_there (Some x) h = absurd (false≢true (sym h))

-- a name that no client has
none_named : (clients : List JobClient) (name : List ℕ) → length clients ≤ position_or_len (λ client. bytes_eq client.name name) clients → AllByRecursion (λ client. client.name ≢ name) clients
none_named [] name h = tt
none_named (client ∷ clients) name h =
    elim (cases_Bool (bytes_eq client.name name)) [
      | inl hit ↦
          let zero_there : position_or_len (λ c. bytes_eq c.name name) (client ∷ clients) ≡ 0 = rw hit refl in
          absurd (omega (arith, h, zero_there))
      | inr miss ↦
          let more : position_or_len (λ c. bytes_eq c.name name) (client ∷ clients) ≡ 1 + position_or_len (λ c. bytes_eq c.name name) clients = rw miss refl in
          (λ same. true_false (bytes_eq client.name name) (ap (λ (w : List ℕ). bytes_eq w name) same ∙ bytes_same name) miss, none_named clients name (omega (arith, h, more)))
    ]

none_some : {A P : Type 0} (x : A) → ◌≡◌ {A = Option A} None (Some x) → P
none_some x e = absurd cc

ltb-false : (a b : ℕ) → ltb a b ≡ false → b ≤ a
ltb-false a b h =
    elim (cases_lt a b) [
      | inl lt ↦ true_false (ltb a b) (lt-ltb a b lt) h
      | inr le ↦ le
    ]

leb-false : (a b : ℕ) → leb a b ≡ false → b < a
leb-false a b h =
    elim (cases_lt b a) [
      | inl lt ↦ lt
      | inr le ↦ true_false (leb a b) (le-leb a b le) h
    ]

pub new_client : (clients : List JobClient) (name : List ℕ) → place_of_client clients name ≡ None → AllByRecursion (λ client. client.name ≢ name) clients
new_client clients name e =
    let p = position_or_len (λ (client : JobClient). bytes_eq client.name name) clients in
    elim (chosen (ltb p (length clients)) (Some p) None None e) [
      | inl g ↦ none_some p (sym g.1)
      | inr g ↦ none_named clients name (ltb-false p (length clients) g.0)
    ]

-- ---- a client's line

record GoodClient (clients : List JobClient) (said : ClientSaid) : Type 0 where
  new : AllByRecursion (λ client. client.name ≢ said.name) clients
  few : length clients < 16
  good : bad_option [] said.options ≡ None

bad_none : (bad : Option ℕ) → option_map (λ at. faults.BadOption at) bad ≡ None → bad ≡ None
bad_none None e = refl
bad_none (Some at) e = absurd cc

good_client : (clients : List JobClient) (said : ClientSaid) → client_fault clients said ≡ None → GoodClient clients said
unfolding client_fault
good_client clients said e =
    elim (chosen (is_there (place_of_client clients said.name)) (Some (faults.DuplicateClient said.at)) _ None e) [
      | inl g ↦ none_some (faults.DuplicateClient said.at) (sym g.1)
      | inr g ↦ elim (chosen (leb 16 (length clients)) (Some (faults.TooManyClients said.at)) _ None g.1) [
        | inl h ↦ none_some (faults.TooManyClients said.at) (sym h.1)
        | inr h ↦ record { new = new_client clients said.name (not_there (place_of_client clients said.name) g.0); few = leb-false 16 (length clients) h.0; good = bad_none (bad_option [] said.options) h.1 }
      ]
    ]

record ClientTaken (draft : Draft) (clients : List JobClient) (update : Bool) (said : ClientSaid) (others : List LineSaid) (job : Job) : Type 0 where
  good : GoodClient clients said
  next : finished (put_all (faultless clients (Some (opened said)) [] update [] []) others) ≡ Ok job

client_put : (clients : List JobClient) (update : Bool) (said : ClientSaid) → client_fault clients said ≡ None → put_client (faultless clients None [] update [] []) said ≡ faultless clients (Some (opened said)) [] update [] []
unfolding put_client
client_put clients update said h = rw h refl

client_put_fault : (clients : List JobClient) (update : Bool) (said : ClientSaid) → (put_client (faultless clients None [] update [] []) said).fault ≡ client_fault clients said
unfolding put_client
client_put_fault clients update said = refl

client_taken : (draft : Draft) (clients : List JobClient) (update : Bool) (said : ClientSaid) (others : List LineSaid) (job : Job) → draft.fault ≡ None → closed draft ≡ faultless clients None [] update [] []
    → finished (put_all draft (kinds.Client said ∷ others)) ≡ Ok job → ClientTaken draft clients update said others job
client_taken draft clients update said others job h c e =
    let n = next_job draft (kinds.Client said) others job h e in
    let now = ap (λ (d : Draft). finished (put_all (put_client d said) others)) (sym c) ∙ n in
    let fault = sym (client_put_fault clients update said) ∙ still_faultless (put_client (faultless clients None [] update [] []) said) others job now in
    record { good = good_client clients said fault; next = ap (λ (d : Draft). finished (put_all d others)) (sym (client_put clients update said fault)) ∙ now }

opened_setting : (said : ClientSaid) (own : List Txn) (setting : Setting) → setting_of (with_txns (opened said) own) setting ≡ number_by said.options setting
opened_setting said own tries = refl
opened_setting said own cache = refl
opened_setting said own frames = refl

client_behind : (clients : List JobClient) (said : ClientSaid) (words : List (List ℕ)) (lines : List (List (List ℕ))) (job : Job) → IsLineOf (kinds.Client said) words → GoodClient clients said → BehindClient clients (opened said) [] lines job → Behind clients (words ∷ lines) job
client_behind clients said words lines job is good b =
    let client = with_txns (opened said) b.own in
    let s = settings_named [] [] said.options tt tt good.good in
    let number = setting_of client in
    let g = options_given number [] s.given [] said.options tt s.named s.apart (opened_setting said b.own) in
    let others = λ (setting : Setting) (none : AllByRecursion (λ other. other ≢ setting) s.given). opened_setting said b.own setting ∙ number_default s.given said.options setting s.named none in
    let line : IsClientLine client words = record { given = s.given; once = s.apart; words = is.0 ∙ ap (λ (ws : List (List ℕ)). codes "client" ∷ said.name ∷ ws) g.0; others = others } in
    let lawful : IsLawfulClient client = record { named = is.1; settings = all_lawful number s.given g.1 others; lawful_txns = b.lawful } in
    let l = b.later in
    record {
      more = client ∷ l.more;
      joined = l.joined ∙ append_assoc clients (client ∷ []) l.more;
      client_part = words ∷ flat_map txn_lines b.own ++ l.client_part;
      turns_part = l.turns_part;
      parts = ap (λ (ls : List (List (List ℕ))). words ∷ ls) (b.parts ∙ ap (λ (ls : List (List (List ℕ))). flat_map txn_lines b.own ++ ls) l.parts ∙ sym (append_assoc (flat_map txn_lines b.own) l.client_part l.turns_part));
      client_lines = (words, l.client_part, refl, line, l.client_lines);
      turns_lines = l.turns_lines;
      lawful_more = (lawful, l.lawful_more);
      lawful_turns = l.lawful_turns;
      apart = l.apart;
      few = l.few;
    }

-- ---- a line `turns`

entry_ok : (found : Option ℕ) (fault : JobFault) → unless_there found fault ≡ None → (k : ℕ) × (found ≡ Some k)
entry_ok None fault e = none_some fault (sym e)
entry_ok (Some k) fault e = (k, refl)

-- the client at the place that was found
found_client : (clients : List JobClient) (name : List ℕ) (k : ℕ) → position_or_len (λ client. bytes_eq client.name name) clients ≡ k → k < length clients → (client : JobClient) × (slice_get clients k ≡ Some client) × (client.name ≡ name)
found_client [] name k e lt = absurd (omega (arith, lt))
found_client (client ∷ clients) name zero e lt =
    elim (cases_Bool (bytes_eq client.name name)) [
      | inl hit ↦ (client, refl, bytes_are client.name name hit)
      | inr miss ↦
          let more : position_or_len (λ c. bytes_eq c.name name) (client ∷ clients) ≡ 1 + position_or_len (λ c. bytes_eq c.name name) clients = rw miss refl in
          absurd (omega (arith, e, more))
    ]
found_client (client ∷ clients) name (suc k) e lt =
    elim (cases_Bool (bytes_eq client.name name)) [
      | inl hit ↦
          let none : position_or_len (λ c. bytes_eq c.name name) (client ∷ clients) ≡ 0 = rw hit refl in
          absurd (omega (arith, e, none))
      | inr miss ↦
          let more : position_or_len (λ c. bytes_eq c.name name) (client ∷ clients) ≡ 1 + position_or_len (λ c. bytes_eq c.name name) clients = rw miss refl in
          found_client clients name k (omega (arith, e, more)) (omega (arith, lt))
    ]

pub named_client : (clients : List JobClient) (name : List ℕ) (k : ℕ) → place_of_client clients name ≡ Some k → (k < length clients) × (client : JobClient) × (slice_get clients k ≡ Some client) × (client.name ≡ name)
named_client clients name k e =
    let p = position_or_len (λ (client : JobClient). bytes_eq client.name name) clients in
    elim (chosen (ltb p (length clients)) (Some p) None (Some k) e) [
      | inl g ↦
          let same : p ≡ k = same_Some p k g.1 in
          let lt : k < length clients = subst (λ (n : ℕ). n < length clients) same (ltb-true p (length clients) g.0) in
          let f = found_client clients name k same lt in
          (lt, f.0, f.1, f.2)
      | inr g ↦ none_some k g.1
    ]

abbrev made_turn : ℕ → ℕ → JobTurn
made_turn place count = record { client = record { 0 = place }; count = count }

count_within : (entry : EntrySaid) (word : List ℕ) → SaysEntry entry word → (1 ≤ entry.count) × (entry.count ≤ 1000000)
count_within entry word (h, inl short) = (omega (arith, short.1), omega (arith, short.1))
count_within entry word (h, inr long) = (long.1, long.2)

entry_word : (clients : List JobClient) (entry : EntrySaid) (k : ℕ) (word : List ℕ) → client_name clients (record { 0 = k }) ≡ entry.name → SaysEntry entry word → IsEntryWord clients (made_turn k entry.count) word
entry_word clients entry k word name (h, inl short) = inr (short.0 ∙ sym name, short.1)
entry_word clients entry k word name (h, inr long) = inl (long.0 ∙ ap (λ (n : List ℕ). n ++ 42 ∷ decimal entry.count) (sym name))

record EntryTaken (clients : List JobClient) (entry : EntrySaid) (word : List ℕ) : Type 0 where
  turn : JobTurn
  same : turn_of clients entry ≡ turn
  is : IsEntryWord clients turn word
  lawful : IsLawfulTurn clients turn

entry_taken : (clients : List JobClient) (entry : EntrySaid) (word : List ℕ) → length clients ≤ 16 → SaysEntry entry word → entry_fault clients entry ≡ None → EntryTaken clients entry word
entry_taken clients entry word few is h =
    let p = entry_ok (place_of_client clients entry.name) (faults.UnknownTurn entry.at) h in
    let n = named_client clients entry.name p.0 p.1 in
    let small : min p.0 65535 ≡ p.0 = omega (arith, n.0, few) in
    let name : client_name clients (record { 0 = p.0 }) ≡ entry.name = ap name_of_client n.2 ∙ n.3 in
    record {
      turn = made_turn p.0 entry.count;
      same = ap (λ (o : Option ℕ). made_turn (client_of_place o).0 entry.count) p.1 ∙ ap (λ (k : ℕ). made_turn k entry.count) small;
      is = entry_word clients entry p.0 word name is;
      lawful = (n.0, (count_within entry word is).0, (count_within entry word is).1);
    }

entry_put_fault : (clients : List JobClient) (update : Bool) (turns : List JobTurn) (entry : EntrySaid) → (put_entry (faultless clients None [] update [] turns) entry).fault ≡ entry_fault clients entry
unfolding put_entry
entry_put_fault clients update turns entry = refl

entry_put : (clients : List JobClient) (update : Bool) (turns : List JobTurn) (entry : EntrySaid) (turn : JobTurn) → turn_of clients entry ≡ turn → entry_fault clients entry ≡ None → put_entry (faultless clients None [] update [] turns) entry ≡ faultless clients None [] update [] (turns ++ turn ∷ [])
unfolding put_entry
entry_put clients update turns entry turn t h = rw (h, t) refl

entries_stuck : (entries : List EntrySaid) (draft : Draft) (fault : JobFault) → draft.fault ≡ Some fault → put_entries draft entries ≡ draft
unfolding put_entries put_entry
entries_stuck [] draft fault h = refl
entries_stuck (entry ∷ entries) draft fault h =
    ap (λ (d : Draft). put_entries d entries) (ap (λ (f : Option JobFault). unless_fault f (with_entry draft entry) draft) h) ∙ entries_stuck entries draft fault h

entries_faultless : (fault : Option JobFault) (entries : List EntrySaid) (draft : Draft) → draft.fault ≡ fault → (put_entries draft entries).fault ≡ None → draft.fault ≡ None
entries_faultless None entries draft h e = h
entries_faultless (Some fault) entries draft h e = ap (λ (d : Draft). d.fault) (sym (entries_stuck entries draft fault h)) ∙ e

record EntriesTaken (clients : List JobClient) (update : Bool) (turns : List JobTurn) (entries : List EntrySaid) (words : List (List ℕ)) : Type 0 where
  own : List JobTurn
  same : put_entries (faultless clients None [] update [] turns) entries ≡ faultless clients None [] update [] (turns ++ own)
  are : AreEntryWords clients own words
  many : length own ≡ length entries
  lawful : AllByRecursion (IsLawfulTurn clients) own

entries_taken : (clients : List JobClient) (update : Bool) (turns : List JobTurn) (entries : List EntrySaid) (words : List (List ℕ)) → length clients ≤ 16 → SayEntries entries words → (put_entries (faultless clients None [] update [] turns) entries).fault ≡ None → EntriesTaken clients update turns entries words
unfolding put_entries
entries_taken clients update turns [] [] few say h = record { own = []; same = ap (faultless clients None [] update []) (sym (append-nil turns)); are = refl; many = refl; lawful = tt }
entries_taken clients update turns [] (word ∷ words) few say h = absurd say
entries_taken clients update turns (entry ∷ entries) [] few say h = absurd say
entries_taken clients update turns (entry ∷ entries) (word ∷ words) few say h =
    let first = put_entry (faultless clients None [] update [] turns) entry in
    let none = sym (entry_put_fault clients update turns entry) ∙ entries_faultless first.fault entries first refl h in
    let t = entry_taken clients entry word few say.0 none in
    let put_so = entry_put clients update turns entry t.turn t.same none in
    let later = entries_taken clients update (turns ++ t.turn ∷ []) entries words few say.1 (ap (λ (d : Draft). (put_entries d entries).fault) (sym put_so) ∙ h) in
    record {
      own = t.turn ∷ later.own;
      same = ap (λ (d : Draft). put_entries d entries) put_so ∙ later.same ∙ ap (faultless clients None [] update []) (append_assoc turns (t.turn ∷ []) later.own);
      are = (word, words, refl, t.is, later.are);
      many = ap suc later.many;
      lawful = (t.lawful, later.lawful);
    }

record TurnsTaken (clients : List JobClient) (update : Bool) (turns : List JobTurn) (words : List (List ℕ)) (others : List LineSaid) (job : Job) : Type 0 where
  own : List JobTurn
  is : IsTurnsLine clients own words
  lawful : AllByRecursion (IsLawfulTurn clients) own
  next : finished (put_all (faultless clients None [] update [] (turns ++ own)) others) ≡ Ok job

turns_taken : (draft : Draft) (clients : List JobClient) (update : Bool) (turns : List JobTurn) (entries : List EntrySaid) (words : List (List ℕ)) (others : List LineSaid) (job : Job) → length clients ≤ 16 → IsLineOf (kinds.Turns entries) words → draft.fault ≡ None → closed draft ≡ faultless clients None [] update [] turns
    → finished (put_all draft (kinds.Turns entries ∷ others)) ≡ Ok job → TurnsTaken clients update turns words others job
turns_taken draft clients update turns entries words others job few is h c e =
    let n = next_job draft (kinds.Turns entries) others job h e in
    let now = ap (λ (d : Draft). finished (put_all (put_entries d entries) others)) (sym c) ∙ n in
    let none = still_faultless (put_entries (faultless clients None [] update [] turns) entries) others job now in
    let t = entries_taken clients update turns entries is.0 few is.3 none in
    record {
      own = t.own;
      is = record { some = omega (arith, is.2, t.many); entries = is.0; words = is.1; named = t.are };
      lawful = t.lawful;
      next = ap (λ (d : Draft). finished (put_all d others)) (sym t.same) ∙ now;
    }

turns_behind : (clients : List JobClient) (own : List JobTurn) (words : List (List ℕ)) (lines : List (List (List ℕ))) (job : Job) → AreApart clients → length clients ≤ 16 → IsTurnsLine clients own words → AllByRecursion (IsLawfulTurn clients) own → BehindTurns clients own lines job → Behind clients (words ∷ lines) job
turns_behind clients own words lines job apart few is lawful b =
    let lines_so : AreTurnsLines clients job.turns (words ∷ lines) = (own, b.more, b.joined, is, b.turns_lines) in
    let lawful_so : AllByRecursion (IsLawfulTurn clients) job.turns = subst (AllByRecursion (IsLawfulTurn clients)) (sym b.joined) (all_join (IsLawfulTurn clients) own b.more lawful b.lawful) in
    record {
      more = [];
      joined = b.same_clients ∙ sym (append-nil clients);
      client_part = [];
      turns_part = words ∷ lines;
      parts = refl;
      client_lines = refl;
      turns_lines = subst (λ (cs : List JobClient). AreTurnsLines cs job.turns (words ∷ lines)) (sym b.same_clients) lines_so;
      lawful_more = tt;
      lawful_turns = subst (λ (cs : List JobClient). AllByRecursion (IsLawfulTurn cs) job.turns) (sym b.same_clients) lawful_so;
      apart = subst AreApart (sym b.same_clients) apart;
      few = omega (arith, few, ap length b.same_clients);
    }

more_turns : (clients : List JobClient) (turns own : List JobTurn) (words : List (List ℕ)) (lines : List (List (List ℕ))) (job : Job) → IsTurnsLine clients own words → AllByRecursion (IsLawfulTurn clients) own → BehindTurns clients (turns ++ own) lines job → BehindTurns clients turns (words ∷ lines) job
more_turns clients turns own words lines job is lawful b =
    record {
      more = own ++ b.more;
      same_clients = b.same_clients;
      joined = b.joined ∙ append_assoc turns own b.more;
      turns_lines = (own, b.more, refl, is, b.turns_lines);
      lawful = all_join (IsLawfulTurn clients) own b.more lawful b.lawful;
    }

-- ---- transactions

line_and : {a b : List (List ℕ)} {xs ys : List (List (List ℕ))} → a ≡ b → xs ≡ ys → a ∷ xs ≡ b ∷ ys
line_and e f = cc

-- behind a client all of whose transactions are known
no_more_txns : (clients : List JobClient) (client : JobClient) (txns : List Txn) (lines : List (List (List ℕ))) (job : Job) → Behind (clients ++ with_txns client txns ∷ []) lines job → BehindClient clients client txns lines job
no_more_txns clients client txns lines job b =
    record { own = []; rest = lines; parts = refl; lawful = tt; later = subst (λ (ts : List Txn). Behind (clients ++ with_txns client ts ∷ []) lines job) (sym (append-nil txns)) b }

one_more_txn : (clients : List JobClient) (client : JobClient) (txns : List Txn) (update : Bool) (words : List (List ℕ)) (lines : List (List (List ℕ))) (job : Job) → words ≡ cond update (codes "begin") (codes "read") ∷ [] → BehindTxn clients client txns update [] lines job → BehindClient clients client txns (words ∷ lines) job
one_more_txn clients client txns update words lines job is b =
    let txn = made_txn update b.own b.aborts in
    let l = b.later in
    let commands = map command_words b.own in
    let last : List (List (List ℕ)) = end_line txn ∷ [] in
    let parts : lines ≡ ((commands ++ last) ++ flat_map txn_lines l.own) ++ l.rest =
    b.parts ∙ ap (λ (ls : List (List (List ℕ))). commands ++ end_line txn ∷ ls) l.parts
    ∙ sym (append_assoc commands last (flat_map txn_lines l.own ++ l.rest))
    ∙ sym (append_assoc (commands ++ last) (flat_map txn_lines l.own) l.rest) in
    record {
      own = txn ∷ l.own;
      rest = l.rest;
      parts = line_and is parts;
      lawful = (b.lawful, l.lawful);
      later = subst (λ (ts : List Txn). Behind (clients ++ with_txns client ts ∷ []) l.rest job) (append_assoc txns (txn ∷ []) l.own) l.later;
    }

one_more_command : (clients : List JobClient) (client : JobClient) (txns : List Txn) (update : Bool) (done : List Command) (command : Command) (words : List (List ℕ)) (lines : List (List (List ℕ))) (job : Job) → words ≡ command_words command → IsLawfulCommand command
    → BehindTxn clients client txns update (done ++ command ∷ []) lines job → BehindTxn clients client txns update done (words ∷ lines) job
one_more_command clients client txns update done command words lines job is h b =
    record {
      own = command ∷ b.own;
      aborts = b.aborts;
      rest = b.rest;
      parts = line_and is b.parts;
      lawful = (h, b.lawful);
      later = subst (λ (cs : List Command). BehindClient clients client (txns ++ made_txn update cs b.aborts ∷ []) b.rest job) (append_assoc done (command ∷ []) b.own) b.later;
    }

no_more_commands : (clients : List JobClient) (client : JobClient) (txns : List Txn) (update : Bool) (done : List Command) (aborts : Bool) (words : List (List ℕ)) (lines : List (List (List ℕ))) (job : Job) → words ≡ cond aborts (codes "abort") (codes "commit") ∷ []
    → BehindClient clients client (txns ++ made_txn update done aborts ∷ []) lines job → BehindTxn clients client txns update done (words ∷ lines) job
no_more_commands clients client txns update done aborts words lines job is b =
    record {
      own = [];
      aborts = aborts;
      rest = lines;
      parts = line_and is refl;
      lawful = tt;
      later = subst (λ (cs : List Command). BehindClient clients client (txns ++ made_txn update cs aborts ∷ []) lines job) (sym (append-nil done)) b;
    }

-- ---- all lines

-- the draft where a line stands
abbrev draft_at : Stand → List JobClient → JobClient → List Txn → Bool → List Command → List JobTurn → Draft
draft_at stands.Start clients client txns update done turns = faultless clients None [] update [] []
draft_at stands.InClient clients client txns update done turns = faultless clients (Some client) txns update [] []
draft_at stands.InTxn clients client txns update done turns = faultless clients (Some client) txns update done []
draft_at stands.InTurns clients client txns update done turns = faultless clients None [] update [] turns

abbrev Fits : Stand → List JobClient → JobClient → Type 0
Fits stands.Start clients client = AreApart clients × (length clients ≤ 16)
Fits stands.InClient clients client = AreApart clients × (length clients < 16) × AllByRecursion (λ other. other.name ≢ client.name) clients
Fits stands.InTxn clients client = AreApart clients × (length clients < 16) × AllByRecursion (λ other. other.name ≢ client.name) clients
Fits stands.InTurns clients client = AreApart clients × (length clients ≤ 16)

abbrev Rest : Stand → List JobClient → JobClient → List Txn → Bool → List Command → List JobTurn → List (List (List ℕ)) → Job → Type 0
Rest stands.Start clients client txns update done turns lines job = Behind clients lines job
Rest stands.InClient clients client txns update done turns lines job = BehindClient clients client txns lines job
Rest stands.InTxn clients client txns update done turns lines job = BehindTxn clients client txns update done lines job
Rest stands.InTurns clients client txns update done turns lines job = BehindTurns clients turns lines job

closed_start : (clients : List JobClient) (update : Bool) (turns : List JobTurn) → closed (faultless clients None [] update [] turns) ≡ faultless clients None [] update [] turns
unfolding closed
closed_start clients update turns = refl

closed_client : (clients : List JobClient) (client : JobClient) (txns : List Txn) (update : Bool) → closed (faultless clients (Some client) txns update [] []) ≡ faultless (clients ++ with_txns client txns ∷ []) None [] update [] []
unfolding closed
closed_client clients client txns update = refl

begin_put : (clients : List JobClient) (client : JobClient) (txns : List Txn) (update next : Bool) (others : List LineSaid) (job : Job) → finished (put_all (faultless clients (Some client) txns update [] []) (kinds.Begin next ∷ others)) ≡ Ok job → finished (put_all (faultless clients (Some client) txns next [] []) others) ≡ Ok job
unfolding put_begin
begin_put clients client txns update next others job e = next_job (faultless clients (Some client) txns update [] []) (kinds.Begin next) others job refl e

command_put : (clients : List JobClient) (client : JobClient) (txns : List Txn) (update : Bool) (done : List Command) (command : Command) (others : List LineSaid) (job : Job) → finished (put_all (faultless clients (Some client) txns update done []) (kinds.Command command ∷ others)) ≡ Ok job → finished (put_all (faultless clients (Some client) txns update (done ++ command ∷ []) []) others) ≡ Ok job
unfolding put_command
command_put clients client txns update done command others job e = next_job (faultless clients (Some client) txns update done []) (kinds.Command command) others job refl e

end_put : (clients : List JobClient) (client : JobClient) (txns : List Txn) (update : Bool) (done : List Command) (aborts : Bool) (others : List LineSaid) (job : Job) → finished (put_all (faultless clients (Some client) txns update done []) (kinds.End aborts ∷ others)) ≡ Ok job → finished (put_all (faultless clients (Some client) (txns ++ made_txn update done aborts ∷ []) update [] []) others) ≡ Ok job
unfolding put_end
end_put clients client txns update done aborts others job e = next_job (faultless clients (Some client) txns update done []) (kinds.End aborts) others job refl e

rest_taken : (said : List LineSaid) (stand : Stand) (clients : List JobClient) (client : JobClient) (txns : List Txn) (update : Bool) (done : List Command) (turns : List JobTurn) (lines : List (List (List ℕ))) (job : Job)
    → Fits stand clients client → AreLinesOf stand said lines → finished (put_all (draft_at stand clients client txns update done turns) said) ≡ Ok job → Rest stand clients client txns update done turns lines job
rest_taken [] stand clients client txns update done turns (words ∷ lines) job fits is e = absurd is
rest_taken [] stands.Start clients client txns update done turns [] job fits is e =
    let s = outside_ended clients update [] job e in
    nothing_behind clients job s.0 s.1 fits.0 fits.1
rest_taken [] stands.InClient clients client txns update done turns [] job fits is e =
    let s = client_ended clients client txns update job e in
    no_more_txns clients client txns [] job (nothing_behind (clients ++ with_txns client txns ∷ []) job s.0 s.1 (client_apart clients (with_txns client txns) fits.0 fits.2) (client_few clients (with_txns client txns) fits.1))
rest_taken [] stands.InTxn clients client txns update done turns [] job fits is e = absurd is
rest_taken [] stands.InTurns clients client txns update done turns [] job fits is e =
    let s = outside_ended clients update turns job e in
    record { more = []; same_clients = s.0; joined = s.1 ∙ sym (append-nil turns); turns_lines = refl; lawful = tt }
rest_taken (first ∷ others) stand clients client txns update done turns [] job fits is e = absurd is
rest_taken (kinds.Client said ∷ others) stands.Start clients client txns update done turns (words ∷ lines) job fits is e =
    let t = client_taken (faultless clients None [] update [] []) clients update said others job refl (closed_start clients update []) e in
    client_behind clients said words lines job is.1 t.good (rest_taken others stands.InClient clients (opened said) [] update [] [] lines job (fits.0, t.good.few, t.good.new) is.2 t.next)
rest_taken (kinds.Turns entries ∷ others) stands.Start clients client txns update done turns (words ∷ lines) job fits is e =
    let t = turns_taken (faultless clients None [] update [] []) clients update [] entries words others job fits.1 is.1 refl (closed_start clients update []) e in
    turns_behind clients t.own words lines job fits.0 fits.1 t.is t.lawful (rest_taken others stands.InTurns clients client [] update [] t.own lines job fits is.2 t.next)
rest_taken (kinds.Begin next ∷ others) stands.Start clients client txns update done turns (words ∷ lines) job fits is e = absurd is.0
rest_taken (kinds.Command command ∷ others) stands.Start clients client txns update done turns (words ∷ lines) job fits is e = absurd is.0
rest_taken (kinds.End aborts ∷ others) stands.Start clients client txns update done turns (words ∷ lines) job fits is e = absurd is.0
rest_taken (kinds.Client said ∷ others) stands.InClient clients client txns update done turns (words ∷ lines) job fits is e =
    let own = with_txns client txns in
    let now = clients ++ own ∷ [] in
    let apart = client_apart clients own fits.0 fits.2 in
    let t = client_taken (faultless clients (Some client) txns update [] []) now update said others job refl (closed_client clients client txns update) e in
    no_more_txns clients client txns (words ∷ lines) job (client_behind now said words lines job is.1 t.good (rest_taken others stands.InClient now (opened said) [] update [] [] lines job (apart, t.good.few, t.good.new) is.2 t.next))
rest_taken (kinds.Begin next ∷ others) stands.InClient clients client txns update done turns (words ∷ lines) job fits is e =
    one_more_txn clients client txns next words lines job is.1 (rest_taken others stands.InTxn clients client txns next [] [] lines job fits is.2 (begin_put clients client txns update next others job e))
rest_taken (kinds.Turns entries ∷ others) stands.InClient clients client txns update done turns (words ∷ lines) job fits is e =
    let own = with_txns client txns in
    let now = clients ++ own ∷ [] in
    let apart = client_apart clients own fits.0 fits.2 in
    let few = client_few clients own fits.1 in
    let t = turns_taken (faultless clients (Some client) txns update [] []) now update [] entries words others job few is.1 refl (closed_client clients client txns update) e in
    no_more_txns clients client txns (words ∷ lines) job (turns_behind now t.own words lines job apart few t.is t.lawful (rest_taken others stands.InTurns now client [] update [] t.own lines job (apart, few) is.2 t.next))
rest_taken (kinds.Command command ∷ others) stands.InClient clients client txns update done turns (words ∷ lines) job fits is e = absurd is.0
rest_taken (kinds.End aborts ∷ others) stands.InClient clients client txns update done turns (words ∷ lines) job fits is e = absurd is.0
rest_taken (kinds.Command command ∷ others) stands.InTxn clients client txns update done turns (words ∷ lines) job fits is e =
    one_more_command clients client txns update done command words lines job is.1.0 is.1.1 (rest_taken others stands.InTxn clients client txns update (done ++ command ∷ []) [] lines job fits is.2 (command_put clients client txns update done command others job e))
rest_taken (kinds.End aborts ∷ others) stands.InTxn clients client txns update done turns (words ∷ lines) job fits is e =
    no_more_commands clients client txns update done aborts words lines job is.1 (rest_taken others stands.InClient clients client (txns ++ made_txn update done aborts ∷ []) update [] [] lines job fits is.2 (end_put clients client txns update done aborts others job e))
rest_taken (kinds.Client said ∷ others) stands.InTxn clients client txns update done turns (words ∷ lines) job fits is e = absurd is.0
rest_taken (kinds.Begin next ∷ others) stands.InTxn clients client txns update done turns (words ∷ lines) job fits is e = absurd is.0
rest_taken (kinds.Turns entries ∷ others) stands.InTxn clients client txns update done turns (words ∷ lines) job fits is e = absurd is.0
rest_taken (kinds.Turns entries ∷ others) stands.InTurns clients client txns update done turns (words ∷ lines) job fits is e =
    let t = turns_taken (faultless clients None [] update [] turns) clients update turns entries words others job fits.1 is.1 refl (closed_start clients update turns) e in
    more_turns clients turns t.own words lines job t.is t.lawful (rest_taken others stands.InTurns clients client [] update [] (turns ++ t.own) lines job fits is.2 t.next)
rest_taken (kinds.Client said ∷ others) stands.InTurns clients client txns update done turns (words ∷ lines) job fits is e = absurd is.0
rest_taken (kinds.Begin next ∷ others) stands.InTurns clients client txns update done turns (words ∷ lines) job fits is e = absurd is.0
rest_taken (kinds.Command command ∷ others) stands.InTurns clients client txns update done turns (words ∷ lines) job fits is e = absurd is.0
rest_taken (kinds.End aborts ∷ others) stands.InTurns clients client txns update done turns (words ∷ lines) job fits is e = absurd is.0

-- ---- the text

abbrev no_client : JobClient
no_client = record { name = []; tries = 0; cache = 0; frames = 0; txns = [] }

-- what lines say, which puts a job together, is that job's spelling
pub lines_spell : (text : List ℕ) (job : Job) → LinesSay text job → SpellsJob text job
lines_spell text job s =
    let b = rest_taken s.said stands.Start [] no_client [] false [] [] _ job (tt, omega arith) s.lines s.put in
    let client_lines : AreClientLines job.clients b.client_part = subst (λ (cs : List JobClient). AreClientLines cs b.client_part) (sym b.joined) b.client_lines in
    record {
      short = s.short;
      utf8 = s.utf8;
      client_part = b.client_part;
      turns_part = b.turns_part;
      lines = b.parts;
      client_lines = client_lines;
      turns_lines = b.turns_lines;
      lawful = record {
        few = b.few;
        own_names = b.apart;
        lawful_clients = subst (AllByRecursion IsLawfulClient) (sym b.joined) b.lawful_more;
        lawful_turns = b.lawful_turns;
        utf8_texts = texts_utf8 text job.clients b.client_part b.turns_part s.utf8 b.parts client_lines;
      };
    }

-- what is read from a place on is spelled there
pub read_spells : (start : ℕ) (text : List ℕ) (job : Job) → parsed_from start text ≡ Ok job → SpellsJob (drop start text) job
read_spells start text job e = lines_spell (drop start text) job (parsed_says start text job e)

pub is_spelled : (text : List ℕ) (result : Result Job JobFault) → IsOrMemory result (parsed_job text) → IfOk result (λ job. SpellsJob text job)
is_spelled text (Ok job) given = read_spells 0 text job given
is_spelled text (Err fault) given = tt
