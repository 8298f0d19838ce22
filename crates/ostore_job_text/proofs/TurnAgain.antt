-- Lines `turns`: what is spelled is read.
use Rattle.std.proofs.Common.{◌≡◌, ◌≢◌, ◌⊎◌, ℕ, zero, suc, ◌<◌, ◌≤◌, Bool, ltb, cond, List, [], ◌∷◌, ◌++◌, length, map, slice_get, codes, decimal, Option, Some, None, Ok, refl, sym, ap, subst, ◌∙◌, append_assoc, arith, inl, inr}
use Rattle.std.specs.Prelude.{min}
use Rattle.std.specs.List.{AllByRecursion, position_or_len}
use Rattle.std.specs.Str.{bytes_eq}
use Rattle.std.proofs.lemmas.Bool.{lt-ltb, cond-true}
use Rattle.std.proofs.lemmas.List.{append-nil}
use Rattle.ostore_text_words.specs.Lines.{PlacedWord, PlacedLine, bare_lines}
use Rattle.ostore_text_words.proofs.WordLaws.{count_again}
use Rattle.ostore_text_words.proofs.LineWordLaws.{bare_at, bytes_same, word_again}
use Rattle.ostore_job_text.specs.declared.job.JobClient.{JobClient}
use Rattle.ostore_job_text.specs.declared.job.JobTurn.{JobTurn}
use Rattle.ostore_job_text.specs.declared.said.EntrySaid.{EntrySaid}
use Rattle.ostore_job_text.specs.declared.said.LineSaid.TheVariants as kinds
use Rattle.ostore_job_text.specs.declared.said.Stand.{Stand}
use Rattle.ostore_job_text.specs.declared.said.Stand.TheVariants as stands
use Rattle.ostore_job_text.specs.declared.reading.draft.Draft.{Draft}
use Rattle.ostore_job_text.specs.Canonical.{name_of_client, client_name}
use Rattle.ostore_command_text.specs.LawfulCommands.{IsIdent}
use Rattle.ostore_job_text.specs.LawfulJob.{IsLawfulClient, IsLawfulTurn}
use Rattle.ostore_job_text.specs.JobSpelling.{IsEntryWord, AreEntryWords, IsTurnsLine, AreTurnsLines}
use Rattle.ostore_job_text.specs.WordsSaid.{entry_of}
use Rattle.ostore_job_text.specs.LinesSaid.{words_from, entry_said, entries_of, turns_at, in_turns_at, at_start_at, in_client_at, said_at, said_from}
use Rattle.ostore_job_text.specs.Drafted.{place_of_client, client_of_place, turn_of, closed, put_entry, put_entries, put, put_all}
use Rattle.ostore_job_text.proofs.LineTaken.{bare_from_drop}
use Rattle.ostore_command_text.proofs.WordAgain.{no_mark, at_star}
use Rattle.ostore_job_text.proofs.LineAgain.{first_line, by_verb, after, line_step, faultless}
use Rattle.ostore_job_text.proofs.ClientAgain.{AreApart, Holds, other_name, put_faultless}

-- ---- the client that an entry names

pub at_place : {X : Type 0} (P : X → Type 0) (xs : List X) (k : ℕ) (x : X) → AllByRecursion P xs → slice_get xs k ≡ Some x → P x
at_place P [] k x h e = absurd cc
at_place P (y ∷ ys) zero x h e =
    let same : y ≡ x = cc in
    subst P same h.0
at_place P (y ∷ ys) (suc k) x h e = at_place P ys k x h.1 e

pub there : {X : Type 0} (xs : List X) (k : ℕ) → k < length xs → (x : X) × (slice_get xs k ≡ Some x)
there [] k h = absurd (omega arith)
there (x ∷ xs) zero h = (x, refl)
there (x ∷ xs) (suc k) h = there xs k (omega arith)

named_place : (clients : List JobClient) (k : ℕ) (client : JobClient) → slice_get clients k ≡ Some client → AreApart clients → position_or_len (λ other. bytes_eq other.name client.name) clients ≡ k
named_place [] k client e apart = absurd cc
named_place (first ∷ clients) zero client e apart =
    let same : first ≡ client = cc in
    rw (same, bytes_same client.name) refl
named_place (first ∷ clients) (suc k) client e apart =
    let differs = at_place (λ later. first.name ≢ later.name) clients k client apart.0 e in
    let later = named_place clients k client e apart.1 in
    rw (other_name first.name client.name differs) (omega (arith, later))

pub place_again : (clients : List JobClient) (k : ℕ) (client : JobClient) → k < length clients → slice_get clients k ≡ Some client → AreApart clients → place_of_client clients client.name ≡ Some k
place_again clients k client lt e apart =
    ap (λ (n : ℕ). cond {A = Option ℕ} (ltb n (length clients)) (Some n) None) (named_place clients k client e apart)
    ∙ cond-true (ltb k (length clients)) (Some k) None (lt-ltb k (length clients) lt)

-- ---- entries

nil_cons : {X : Type 0} {x : X} {xs : List X} → ◌≡◌ {A = List X} [] (x ∷ xs) → ⊥
nil_cons e = cc

cons_parts : {X : Type 0} {x y : X} {xs ys : List X} → x ∷ xs ≡ y ∷ ys → (x ≡ y) × (xs ≡ ys)
cons_parts e = (cc, cc)

-- what is said names a client, and says how many turns it takes
abbrev SaysTurn : List JobClient → JobTurn → EntrySaid → Type 0
SaysTurn clients turn said = (place_of_client clients said.name ≡ Some turn.client.0) × (said.count ≡ turn.count)

abbrev SayTurns : List JobClient → List JobTurn → List EntrySaid → Type 0
SayTurns clients [] [] = Unit {0}
SayTurns clients (turn ∷ turns) (said ∷ others) = SaysTurn clients turn said × SayTurns clients turns others
SayTurns clients [] (said ∷ others) = ⊥
SayTurns clients (turn ∷ turns) [] = ⊥

entry_again : (name word : List ℕ) (count : ℕ) → IsIdent name → 1 ≤ count → count ≤ 1000000 → (word ≡ name ++ 42 ∷ decimal count) ⊎ ((word ≡ name) × (count ≡ 1)) → entry_of word ≡ Some (name, count)
unfolding entry_of
entry_again name word count h low high (inl long) = rw (long, at_star name (decimal count) h, h, count_again 1 1000000 count low high (omega arith)) refl
entry_again name word count h low high (inr short) = rw (short.0, short.1, no_mark 42 name refl refl h, h) refl

pub record EntriesRead (clients : List JobClient) (turns : List JobTurn) (words : List PlacedWord) : Type 0 where
  pub said : List EntrySaid
  pub read : entries_of words ≡ Ok said
  pub say : SayTurns clients turns said

one_entry : (clients : List JobClient) (turn : JobTurn) (turns : List JobTurn) (word : PlacedWord) (words : List PlacedWord) → IsEntryWord clients turn word.bytes → IsLawfulTurn clients turn → AllByRecursion IsLawfulClient clients → AreApart clients → EntriesRead clients turns words → EntriesRead clients (turn ∷ turns) (word ∷ words)
one_entry clients turn turns word words is lawful named apart later =
    let c = there clients turn.client.0 lawful.0 in
    let name : client_name clients turn.client ≡ c.0.name = ap name_of_client c.1 in
    let ident : IsIdent (client_name clients turn.client) = subst IsIdent (sym name) (at_place IsLawfulClient clients turn.client.0 c.0 named c.1).named in
    let e = entry_again (client_name clients turn.client) word.bytes turn.count ident lawful.1 lawful.2 is in
    let place : place_of_client clients (client_name clients turn.client) ≡ Some turn.client.0 = ap (place_of_client clients) name ∙ place_again clients turn.client.0 c.0 lawful.0 c.1 apart in
    record {
      said = entry_said word.at (client_name clients turn.client, turn.count) ∷ later.said;
      read = rw (e, later.read) refl;
      say = ((place, refl), later.say);
    }

entries_again : (clients : List JobClient) (turns : List JobTurn) (words : List PlacedWord) → AreEntryWords clients turns (map (λ word. word.bytes) words) → AllByRecursion (IsLawfulTurn clients) turns → AllByRecursion IsLawfulClient clients → AreApart clients → EntriesRead clients turns words
entries_again clients [] [] is lawful named apart = record { said = []; read = refl; say = tt }
entries_again clients [] (word ∷ words) is lawful named apart = absurd cc
entries_again clients (turn ∷ turns) [] is lawful named apart = absurd (nil_cons is.2)
entries_again clients (turn ∷ turns) (word ∷ words) is lawful named apart =
    let first : word.bytes ≡ is.0 = (cons_parts is.2).0 in
    let rest : map (λ w. w.bytes) words ≡ is.1 = (cons_parts is.2).1 in
    one_entry clients turn turns word words (subst (IsEntryWord clients turn) (sym first) is.3) lawful.0 named apart
    (entries_again clients turns words (subst (AreEntryWords clients turns) (sym rest) is.4) lawful.1 named apart)

-- ---- a line is put

abbrev made_turn : ℕ → ℕ → JobTurn
made_turn place count = record { client = record { 0 = place }; count = count }

turn_is : (clients : List JobClient) (turn : JobTurn) (said : EntrySaid) → SaysTurn clients turn said → turn.client.0 < 16 → turn_of clients said ≡ turn
turn_is clients turn said s few =
    let small : min turn.client.0 65535 ≡ turn.client.0 = omega arith in
    ap (λ (o : Option ℕ). made_turn (client_of_place o).0 said.count) s.0 ∙ ap (made_turn (min turn.client.0 65535)) s.1 ∙ ap (λ (k : ℕ). made_turn k turn.count) small

entry_put : (clients : List JobClient) (update : Bool) (done : List JobTurn) (turn : JobTurn) (said : EntrySaid) → SaysTurn clients turn said → turn.client.0 < 16
    → put_entry (faultless clients None [] update [] done) said ≡ faultless clients None [] update [] (done ++ turn ∷ [])
unfolding put_entry
entry_put clients update done turn said s few = rw (turn_is clients turn said s few, s.0) refl

turns_put : (clients : List JobClient) (update : Bool) (done turns : List JobTurn) (said : List EntrySaid) → SayTurns clients turns said → AllByRecursion (IsLawfulTurn clients) turns → length clients ≤ 16
    → put_entries (faultless clients None [] update [] done) said ≡ faultless clients None [] update [] (done ++ turns)
unfolding put_entries
turns_put clients update done [] [] s lawful few = ap (faultless clients None [] update []) (sym (append-nil done))
turns_put clients update done [] (said ∷ others) s lawful few = absurd s
turns_put clients update done (turn ∷ turns) [] s lawful few = absurd s
turns_put clients update done (turn ∷ turns) (said ∷ others) s lawful few =
    ap (λ (d : Draft). put_entries d others) (entry_put clients update done turn said s.0 (omega (arith, lawful.0.0, few)))
    ∙ turns_put clients update (done ++ turn ∷ []) turns others s.1 lawful.1 few
    ∙ ap (faultless clients None [] update []) (append_assoc done (turn ∷ []) turns)

-- ---- lines

-- a line `turns` may stand there, and the text may end there
abbrev pub IsOutside : Stand → Type 0
IsOutside stands.Start = Unit {0}
IsOutside stands.InClient = Unit {0}
IsOutside stands.InTxn = ⊥
IsOutside stands.InTurns = Unit {0}

turns_line_said : (stand : Stand) → IsOutside stand → (line : PlacedLine) (others : List (List ℕ)) → bare_at line 0 ≡ codes "turns" ∷ others → (said_at stand line ≡ turns_at line) × (bare_at line 1 ≡ others)
unfolding at_start_at in_client_at in_turns_at
turns_line_said stands.Start out line others e = by_verb stands.Start line (codes "turns") others (turns_at line) (λ at. refl) e
turns_line_said stands.InClient out line others e = by_verb stands.InClient line (codes "turns") others (turns_at line) (λ at. refl) e
turns_line_said stands.InTxn out line others e = absurd out
turns_line_said stands.InTurns out line others e = by_verb stands.InTurns line (codes "turns") others (turns_at line) (λ at. refl) e

-- a line of some entries has a word behind its first
some_word : (clients : List JobClient) (turns : List JobTurn) (entries : List (List ℕ)) → 1 ≤ length turns → AreEntryWords clients turns entries → (word : List ℕ) × (behind : List (List ℕ)) × (entries ≡ word ∷ behind)
some_word clients [] entries some is = absurd (omega arith)
some_word clients (turn ∷ turns) entries some is = (is.0, is.1, is.2)

turns_said : (line : PlacedLine) (clients : List JobClient) (turns : List JobTurn) (words : List (List ℕ)) (is : IsTurnsLine clients turns words) → bare_at line 1 ≡ is.entries → (r : EntriesRead clients turns (words_from 1 line)) → turns_at line ≡ Ok (kinds.Turns r.said)
unfolding turns_at
turns_said line clients turns words is e r =
    let s = some_word clients turns is.entries is.some is.named in
    let w = word_again line 1 s.0 s.1 (e ∙ s.2) in
    rw (w.1, r.read) refl

text_ends : (end : ℕ) (draft : Draft) (stand : Stand) → IsOutside stand → after end draft stand [] ≡ Ok draft
unfolding said_from put_all
text_ends end draft stands.Start out = refl
text_ends end draft stands.InClient out = refl
text_ends end draft stands.InTxn out = absurd out
text_ends end draft stands.InTurns out = refl

no_lines : (lines : List PlacedLine) → bare_lines lines ≡ [] → lines ≡ []
no_lines [] e = refl
no_lines (line ∷ lines) e = absurd cc

all_front : {X : Type 0} (P : X → Type 0) (xs ys : List X) → AllByRecursion P (xs ++ ys) → AllByRecursion P xs × AllByRecursion P ys
all_front P [] ys h = (tt, h)
all_front P (x ∷ xs) ys h =
    let later = all_front P xs ys h.1 in
    ((h.0, later.0), later.1)

pub record TurnsRead (end : ℕ) (draft : Draft) (stand : Stand) (lines : List PlacedLine) (clients : List JobClient) (turns : List JobTurn) : Type 0 where
  pub last : Draft
  pub update : Bool
  pub holds : Holds last clients update turns
  pub whole : after end draft stand lines ≡ Ok last

closed_turns : (clients : List JobClient) (update : Bool) (turns : List JobTurn) → closed (faultless clients None [] update [] turns) ≡ faultless clients None [] update [] turns
unfolding closed
closed_turns clients update turns = refl

pub turns_again : (end : ℕ) (clients : List JobClient) (done more : List JobTurn) (stand : Stand) (draft : Draft) (update : Bool) (lines : List PlacedLine) (part : List (List (List ℕ))) → IsOutside stand → Holds draft clients update done → AreTurnsLines clients more part → bare_lines lines ≡ part
    → AllByRecursion (IsLawfulTurn clients) more → AllByRecursion IsLawfulClient clients → AreApart clients → length clients ≤ 16 → TurnsRead end draft stand lines clients (done ++ more)
turns_again end clients done more stand draft update lines [] out holds is e lawful named apart few =
    let none = ap (λ (ts : List JobTurn). done ++ ts) is ∙ append-nil done in
    record {
      last = draft;
      update = update;
      holds = subst (λ (ts : List JobTurn). Holds draft clients update ts) (sym none) holds;
      whole = ap (after end draft stand) (no_lines lines e) ∙ text_ends end draft stand out;
    }
turns_again end clients done more stand draft update lines (words ∷ part) out holds is e lawful named apart few =
    let f = first_line lines words part e in
    let l = is.3 in
    let both = all_front (IsLawfulTurn clients) is.0 is.1 (subst (AllByRecursion (IsLawfulTurn clients)) is.2 lawful) in
    let there_so = turns_line_said stand out f.line l.entries (f.own ∙ l.words) in
    let r = entries_again clients is.0 (words_from 1 f.line) (subst (AreEntryWords clients is.0) (sym there_so.1 ∙ bare_from_drop f.line.words 1) l.named) both.0 named apart in
    let next = faultless clients None [] update [] (done ++ is.0) in
    let put_so : put draft (kinds.Turns r.said) ≡ next =
    put_faultless draft (kinds.Turns r.said) holds.0 ∙ ap (λ (d : Draft). put_entries d r.said) holds.1 ∙ turns_put clients update done is.0 r.said r.say both.0 few in
    let later = turns_again end clients (done ++ is.0) is.1 stands.InTurns next update f.behind part tt (refl, closed_turns clients update (done ++ is.0)) is.4 f.later both.1 named apart few in
    record {
      last = later.last;
      update = later.update;
      holds = subst (λ (ts : List JobTurn). Holds later.last clients later.update ts) (append_assoc done is.0 is.1 ∙ ap (λ (ts : List JobTurn). done ++ ts) (sym is.2)) later.holds;
      whole =
          ap (after end draft stand) f.whole
          ∙ line_step end draft stand f.line f.behind (kinds.Turns r.said) (there_so.0 ∙ turns_said f.line clients is.0 words l there_so.1 r)
          ∙ ap (λ (d : Draft). after end d stands.InTurns f.behind) put_so
          ∙ later.whole;
    }
