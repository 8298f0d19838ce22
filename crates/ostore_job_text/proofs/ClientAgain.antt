-- Clients: what is spelled is read.
use Rattle.std.proofs.Common.{◌≡◌, ◌≢◌, ℕ, ◌<◌, ◌≤◌, Bool, false, ltb, cond, List, [], ◌∷◌, ◌++◌, length, codes, Option, Some, None, Ok, refl, sym, ap, subst, ◌∙◌, append_assoc, arith, inl, inr}
use Rattle.std.specs.List.{AllByRecursion, flat_map, position_or_len}
use Rattle.std.specs.Str.{bytes_eq}
use Rattle.std.proofs.lemmas.Bool.{cases_Bool, le-ltb, lt-leb, cond-false}
use Rattle.std.proofs.lemmas.List.{append-nil, length-append}
use Rattle.ostore_text_words.specs.Lines.{PlacedLine, bare_lines}
use Rattle.ostore_text_words.proofs.LineWordLaws.{bare_at, bytes_are, identifier_again}
use Rattle.ostore_schema_layout.specs.Cells.{ArePairwise}
use Rattle.ostore_job_text.specs.declared.job.JobClient.{JobClient}
use Rattle.ostore_job_text.specs.declared.job.JobTurn.{JobTurn}
use Rattle.ostore_job_text.specs.declared.said.ClientSaid.{ClientSaid}
use Rattle.ostore_job_text.specs.declared.said.LineSaid.{LineSaid}
use Rattle.ostore_job_text.specs.declared.said.LineSaid.TheVariants as kinds
use Rattle.ostore_job_text.specs.declared.said.Stand.{Stand}
use Rattle.ostore_job_text.specs.declared.said.Stand.TheVariants as stands
use Rattle.ostore_job_text.specs.declared.reading.draft.Draft.{Draft}
use Rattle.ostore_job_text.specs.Canonical.{txn_lines}
use Rattle.ostore_job_text.specs.LawfulJob.{Setting, tries, cache, frames, setting_name, setting_default, IsLawfulClient}
use Rattle.ostore_job_text.specs.JobSpelling.{setting_words, IsClientLine, AreClientLines}
use Rattle.ostore_job_text.specs.LinesSaid.{client_of, words_from, client_at, at_start_at, in_client_at, said_at}
use Rattle.ostore_job_text.specs.Drafted.{bad_option, number_given, opened, place_of_client, client_fault, with_txns, closed, put_client, unless_fault, put_line, put}
use Rattle.ostore_job_text.proofs.LineTaken.{bare_from_drop}
use Rattle.ostore_job_text.proofs.LineAgain.{first_line, by_verb, after, line_step, faultless, txns_again, last_update}
use Rattle.ostore_job_text.proofs.OptionAgain.{SaySettings, options_again, pairwise_before, none_bad, number_again}

-- ---- the first line

abbrev made_client : List ℕ → ℕ → ℕ → ℕ → JobClient
made_client name t c f = record { name = name; tries = t; cache = c; frames = f; txns = [] }

opened_again : (client : JobClient) (line : List (List ℕ)) (is : IsClientLine client line) (said : ClientSaid) → said.name ≡ client.name → SaySettings client is.given said.options → IsLawfulClient client → opened said ≡ with_txns client []
opened_again client line is said named s h =
    let number = λ (setting : Setting). number_again client setting is.given said.options s (h.settings setting) (is.others setting) in
    let t = number tries in
    let c = number cache in
    let f = number frames in
    ap (λ (n : List ℕ). made_client n (number_given said.options (setting_name tries) (setting_default tries)) (number_given said.options (setting_name cache) (setting_default cache)) (number_given said.options (setting_name frames) (setting_default frames))) named
    ∙ ap (λ (n : ℕ). made_client client.name n (number_given said.options (setting_name cache) (setting_default cache)) (number_given said.options (setting_name frames) (setting_default frames))) t
    ∙ ap (λ (n : ℕ). made_client client.name client.tries n (number_given said.options (setting_name frames) (setting_default frames))) c
    ∙ ap (made_client client.name client.tries client.cache) f

-- the line says the client, without its transactions
record ClientRead (line : PlacedLine) (client : JobClient) : Type 0 where
  said : ClientSaid
  read : client_at line ≡ Ok (kinds.Client said)
  named : said.name ≡ client.name
  good : bad_option [] said.options ≡ None
  opens : opened said ≡ with_txns client []

client_again : (line : PlacedLine) (client : JobClient) (words : List (List ℕ)) (is : IsClientLine client words) → bare_at line 1 ≡ client.name ∷ flat_map (setting_words client) is.given → IsLawfulClient client → ClientRead line client
unfolding client_at
client_again line client words is e h =
    let w = identifier_again line 1 client.name (flat_map (setting_words client) is.given) e h.named in
    let o = options_again line.end client is.given (words_from 2 line) (sym (bare_from_drop line.words 2) ∙ w.3) h.settings in
    let found : ClientSaid = client_of w.0 o.0 in
    record {
      said = found;
      read = rw (w.1, o.1) refl;
      named = w.2;
      good = none_bad client [] is.given [] o.0 tt o.2 h.settings is.once;
      opens = opened_again client words is found w.2 o.2 h;
    }

-- ---- where it stands

-- a client's line may stand there
abbrev pub IsOpen : Stand → Type 0
IsOpen stands.Start = Unit {0}
IsOpen stands.InClient = Unit {0}
IsOpen stands.InTxn = ⊥
IsOpen stands.InTurns = ⊥

client_line_said : (stand : Stand) → IsOpen stand → (line : PlacedLine) (others : List (List ℕ)) → bare_at line 0 ≡ codes "client" ∷ others → (said_at stand line ≡ client_at line) × (bare_at line 1 ≡ others)
unfolding at_start_at in_client_at
client_line_said stands.Start is_open line others e = by_verb stands.Start line (codes "client") others (client_at line) (λ at. refl) e
client_line_said stands.InClient is_open line others e = by_verb stands.InClient line (codes "client") others (client_at line) (λ at. refl) e
client_line_said stands.InTxn is_open line others e = absurd is_open
client_line_said stands.InTurns is_open line others e = absurd is_open

-- ---- names

pub other_name : (name other : List ℕ) → name ≢ other → bytes_eq name other ≡ false
other_name name other apart =
    elim (cases_Bool (bytes_eq name other)) [
      | inl hit ↦ absurd (apart (bytes_are name other hit))
      | inr miss ↦ miss
    ]

none_there : (clients : List JobClient) (name : List ℕ) → AllByRecursion (λ client. client.name ≢ name) clients → position_or_len (λ client. bytes_eq client.name name) clients ≡ length clients
none_there [] name h = refl
none_there (client ∷ clients) name h =
    let later = none_there clients name h.1 in
    rw (other_name client.name name h.0) (omega (arith, later))

new_name : (clients : List JobClient) (name : List ℕ) → AllByRecursion (λ client. client.name ≢ name) clients → place_of_client clients name ≡ None
new_name clients name h =
    ap (λ (n : ℕ). cond {A = Option ℕ} (ltb n (length clients)) (Some n) None) (none_there clients name h)
    ∙ cond-false (ltb (length clients) (length clients)) (Some (length clients)) None (le-ltb (length clients) (length clients) (omega arith))

faultless_client : (done : List JobClient) (said : ClientSaid) (client : JobClient) → said.name ≡ client.name → bad_option [] said.options ≡ None → AllByRecursion (λ other. other.name ≢ client.name) done → length done < 16 → client_fault done said ≡ None
unfolding client_fault
faultless_client done said client named good apart few =
    rw (named, new_name done client.name apart, lt-leb 16 (length done) few, good) refl

-- ---- clients

-- names are apart
abbrev pub AreApart : List JobClient → Type 0
AreApart clients = ArePairwise (λ earlier later. earlier.name ≢ later.name) clients

-- a draft of these clients and turns, all of whose lines were put
abbrev pub Holds : Draft → List JobClient → Bool → List JobTurn → Type 0
Holds draft clients update turns = (draft.fault ≡ None) × (closed draft ≡ faultless clients None [] update [] turns)

pub put_faultless : (draft : Draft) (said : LineSaid) → draft.fault ≡ None → put draft said ≡ put_line draft said
put_faultless draft said h = ap (λ (f : Option _). unless_fault f (put_line draft said) draft) h

put_opened : (draft : Draft) (done : List JobClient) (client : JobClient) (update : Bool) (line : PlacedLine) (r : ClientRead line client) → Holds draft done update [] → AllByRecursion (λ other. other.name ≢ client.name) done → length done < 16
    → put draft (kinds.Client r.said) ≡ faultless done (Some (with_txns client [])) [] update [] []
unfolding put_client
put_opened draft done client update line r holds apart few =
    put_faultless draft (kinds.Client r.said) holds.0
    ∙ ap (λ (x : Draft). put_client x r.said) holds.1
    ∙ (rw (faultless_client done r.said client r.named r.good apart few, r.opens) refl)

pub record ClientsRead (end : ℕ) (draft : Draft) (stand : Stand) (lines : List PlacedLine) (clients : List JobClient) (rest : List (List (List ℕ))) : Type 0 where
  pub later : Stand
  pub open_later : IsOpen later
  pub next : Draft
  pub update : Bool
  pub holds : Holds next clients update []
  pub behind : List PlacedLine
  pub left : bare_lines behind ≡ rest
  pub same : after end draft stand lines ≡ after end next later behind

closed_client : (done : List JobClient) (client : JobClient) (update : Bool) → closed (faultless done (Some (with_txns client [])) client.txns update [] []) ≡ faultless (done ++ client ∷ []) None [] update [] []
unfolding closed
closed_client done client update = refl

few_before : (done : List JobClient) (client : JobClient) (more : List JobClient) → length (done ++ client ∷ more) ≤ 16 → length done < 16
few_before done client more few = omega (arith, few, length-append done (client ∷ more))

pub clients_again : (end : ℕ) (done more : List JobClient) (stand : Stand) (draft : Draft) (update : Bool) (lines : List PlacedLine) (own rest : List (List (List ℕ))) → IsOpen stand → Holds draft done update [] → AreClientLines more own → bare_lines lines ≡ own ++ rest
    → AllByRecursion IsLawfulClient more → AreApart (done ++ more) → length (done ++ more) ≤ 16 → ClientsRead end draft stand lines (done ++ more) rest
clients_again end done [] stand draft update lines own rest is_open holds is e lawful apart few =
    record {
      later = stand;
      open_later = is_open;
      next = draft;
      update = update;
      holds = (holds.0, holds.1 ∙ ap (λ (cs : List JobClient). faultless cs None [] update [] []) (sym (append-nil done)));
      behind = lines;
      left = e ∙ ap (λ (ls : List (List (List ℕ))). ls ++ rest) is;
      same = refl;
    }
clients_again end done (client ∷ more) stand draft update lines own rest is_open holds is e lawful apart few =
    let txns = flat_map txn_lines client.txns in
    let whole : bare_lines lines ≡ is.0 ∷ (txns ++ is.1) ++ rest = e ∙ ap (λ (ls : List (List (List ℕ))). ls ++ rest) is.2 in
    let f = first_line lines is.0 ((txns ++ is.1) ++ rest) whole in
    let there = client_line_said stand is_open f.line (client.name ∷ flat_map (setting_words client) is.3.given) (f.own ∙ is.3.words) in
    let r = client_again f.line client is.0 is.3 there.1 lawful.0 in
    let opened_draft = faultless done (Some (with_txns client [])) [] update [] [] in
    let put_so = put_opened draft done client update f.line r holds (pairwise_before (λ earlier later. earlier.name ≢ later.name) done client more apart) (few_before done client more few) in
    let t = txns_again end done (Some (with_txns client [])) [] client.txns update [] f.behind (is.1 ++ rest) (f.later ∙ append_assoc txns is.1 rest) lawful.0.lawful_txns in
    let now = last_update update client.txns in
    let full = faultless done (Some (with_txns client [])) client.txns now [] [] in
    let joined = append_assoc done (client ∷ []) more in
    let later = clients_again end (done ++ client ∷ []) more stands.InClient full now t.behind is.1 rest tt (refl, closed_client done client now) is.4 t.left lawful.1 (subst AreApart (sym joined) apart) (omega (arith, few, ap length joined)) in
    record {
      later = later.later;
      open_later = later.open_later;
      next = later.next;
      update = later.update;
      holds = subst (λ (cs : List JobClient). Holds later.next cs later.update []) joined later.holds;
      behind = later.behind;
      left = later.left;
      same =
          ap (after end draft stand) f.whole
          ∙ line_step end draft stand f.line f.behind (kinds.Client r.said) (there.0 ∙ r.read)
          ∙ ap (λ (x : Draft). after end x stands.InClient f.behind) put_so
          ∙ t.same
          ∙ later.same;
    }
