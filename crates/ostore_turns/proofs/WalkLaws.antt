-- Where clients are along a list of turns.
use Rattle.std.proofs.Common.{◌≡◌, ◌≢◌, ◌+◌, ◌<◌, ◌≤◌, inl, inr, ℕ, zero, suc, List, [], ◌∷◌, length, drop, refl, sym, ap, subst, ◌∙◌, arith, Some}
use Rattle.std.specs.List.{slice_get, AllByRecursion}
use Rattle.std.proofs.lemmas.Bool.{cases_eq, cases_lt}
use Rattle.std.proofs.Math.Seq.{drop-cons, drop-nil}
use Rattle.std.proofs.lemmas.Option.{same_Some, slice_get_within, get_or_from_slice_get}
use Rattle.ostore_graph_model.specs.declared.commands.Txn.{Txn}
use Rattle.ostore_job_text.specs.declared.job.JobClient.{JobClient}
use Rattle.ostore_job_text.specs.RunnableJobs.{IsWithinLimits}
use Rattle.ostore_turns.specs.declared.attempts.Gave.{Gave}
use Rattle.ostore_turns.specs.Places.{Moment, HasLine, moved}
use Rattle.ostore_turns.specs.LawfulTurns.{Turns}
use Rattle.ostore_turns.specs.Runs.{IsFirst}
use Rattle.ostore_turns.specs.inside.Steps.{IsFitPlace}
use Rattle.ostore_turns.proofs.PlaceLaws.{moved_fits}
use Rattle.ostore_turns.proofs.TakeLaws.{moved_here, moved_other}
use Rattle.ostore_turns.proofs.RunLaws.{first_fits, limits_at}

-- ---- one turn

-- what a turn says of its own client
pub record IsMine (client : JobClient) (before after : Moment) (number : ℕ) (gave : Gave) (txn : Txn) : Type 0 where
  pub there : slice_get client.txns (before.places number).txn ≡ Some txn
  pub place : after.places number ≡ moved client.tries (before.places number) gave

pub mine : (clients : List JobClient) (before after : Moment) (number : ℕ) (gave : Gave) (client : JobClient) (turns : Turns clients before number gave after) → slice_get clients number ≡ Some client
    → IsMine client before after number gave turns.txn
mine clients before after number gave client turns there =
    let same : turns.is_in.client ≡ client = same_Some turns.is_in.client client (sym turns.is_in.there ∙ there) in
    record {
      there = ap (λ (c : JobClient). slice_get c.txns (before.places number).txn) (sym same) ∙ turns.is_in.next;
      place = turns.places number ∙ moved_here number turns.is_in.client.tries gave before.places ∙ ap (λ (c : JobClient). moved c.tries (before.places number) gave) same;
    }

-- the others are where they were
pub other : (clients : List JobClient) (before after : Moment) (number : ℕ) (gave : Gave) (turns : Turns clients before number gave after) (i : ℕ) → i ≢ number → after.places i ≡ before.places i
other clients before after number gave turns i apart = turns.places i ∙ moved_other number turns.is_in.client.tries i gave before.places apart

-- ---- places where clients can be

abbrev pub AreFit : List JobClient → Moment → Type 0
AreFit clients now = (i : ℕ) (client : JobClient) → slice_get clients i ≡ Some client → IsFitPlace client (now.places i)

pub first_fit : (clients : List JobClient) (now : Moment) → IsFirst now → AllByRecursion IsWithinLimits clients → AreFit clients now
first_fit clients now first limits i client there = first_fits client (now.places i) (first i).0 (limits_at clients i client limits there)

pub turn_fits : (clients : List JobClient) (before after : Moment) (number : ℕ) (gave : Gave) → AllByRecursion IsWithinLimits clients → Turns clients before number gave after → AreFit clients before → AreFit clients after
turn_fits clients before after number gave limits turns fit i client there = elim (cases_eq i number) [
  | inl same ↦
      (let here : slice_get clients number ≡ Some client = ap (slice_get clients) (sym same) ∙ there in
      let own = mine clients before after number gave client turns here in
      let fits = moved_fits clients before number client turns.txn (before.places number) gave (limits_at clients number client limits here) (fit number client here) refl own.there turns.may in
      subst (IsFitPlace client) (sym own.place ∙ ap after.places (sym same)) fits.0)
  | inr apart ↦ subst (IsFitPlace client) (sym (other clients before after number gave turns i apart)) (fit i client there)
]

pub txn_there : (txns : List Txn) (i : ℕ) → i < length txns → (txn : Txn) × (slice_get txns i ≡ Some txn)
txn_there [] i low = absurd (omega arith)
txn_there (txn ∷ txns) zero low = (txn, refl)
txn_there (txn ∷ txns) (suc i) low = txn_there txns i (omega arith)

-- a client that has no line left is behind its last transaction
pub all_ended : (clients : List JobClient) (now : Moment) (number : ℕ) (client : JobClient) → slice_get clients number ≡ Some client → IsFitPlace client (now.places number) → (HasLine clients now number → ⊥)
    → length client.txns ≤ (now.places number).txn
all_ended clients now number client there fits none = elim (cases_lt (now.places number).txn (length client.txns)) [
  | inl low ↦
      (let found = txn_there client.txns (now.places number).txn low in
      absurd (none (found.0, record { client = client; there = there; next = found.1; line = fits.line found.0 found.1 })))
  | inr past ↦ omega (arith, past)
]

-- ---- what is left of a list

pub drop_there : {X : Type 0} (xs : List X) (i : ℕ) (x : X) → slice_get xs i ≡ Some x → drop i xs ≡ x ∷ drop (i + 1) xs
drop_there {X = X} xs i x there =
    let e : suc i ≡ i + 1 = omega arith in
    drop-cons xs i x (slice_get_within xs i x there) ∙ ap (λ (y : X). y ∷ drop (suc i) xs) (get_or_from_slice_get xs i x x there) ∙ ap (λ (n : ℕ). x ∷ drop n xs) e

pub drop_past : {X : Type 0} (xs : List X) (i : ℕ) → length xs ≤ i → drop i xs ≡ []
drop_past [] i past = drop-nil i
drop_past (x ∷ xs) zero past = absurd (omega arith)
drop_past (x ∷ xs) (suc i) past = drop_past xs i (omega arith)
