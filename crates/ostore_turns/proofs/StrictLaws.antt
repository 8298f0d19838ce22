-- A turn of attempts that are busy wherever they may be.
use Rattle.std.proofs.Common.{◌≡◌, ◌<◌, inl, inr, ℕ, List, [], length, set, sym, ap, ◌∙◌, Option, Some}
use Rattle.std.specs.List.{slice_get}
use Rattle.std.specs.Option.{unwrap_or}
use Rattle.std.proofs.lemmas.Bool.{cases_eq}
use Rattle.std.proofs.lemmas.Option.{same_Some, slice_get_within}
use Rattle.ostore_graph_model.proofs.AddressLaws.{slice_get-set_same, slice_get-set_other}
use Rattle.ostore_graph_model.specs.declared.commands.Txn.{Txn}
use Rattle.ostore_graph_model.specs.declared.history.Committed.{Committed as Recorded}
use Rattle.ostore_job_text.specs.declared.job.JobClient.{JobClient}
use Rattle.ostore_turns.specs.declared.attempts.Gave.{Gave}
use Rattle.ostore_turns.specs.declared.place.Place.{Place}
use Rattle.ostore_turns.specs.Places.{Moment, IsIn, first_place, moment_of, moved}
use Rattle.ostore_turns.specs.LawfulTurns.{MayGive, Turns, commits_then, moved_one, records_then, recorded_one}
use Rattle.ostore_turns.specs.inside.Strict.{place_in, records_in}
use Rattle.ostore_turns.proofs.TakeLaws.{moved_here, moved_other}
use Rattle.ostore_turns.proofs.RecordedLaws.{recorded_here, recorded_other}

module _ (clients : List JobClient) (places : List Place) (records : List (List Recorded)) (commits number : ℕ) where
  abbrev before : Moment
  before = moment_of (place_in places) (records_in records) commits

  places_then : (client : JobClient) (at next : Place) (gave : Gave) → number < length places → at ≡ place_in places number → next ≡ moved client.tries at gave
      → (other : ℕ) → place_in (set places number next) other ≡ moved_one number client.tries gave (place_in places) other
  places_then client at next gave low here is other = elim (cases_eq other number) [
    | inl same ↦
        ap (place_in (set places number next)) same
        ∙ ap (λ (o : Option Place). unwrap_or o first_place) (slice_get-set_same places number next low)
        ∙ is ∙ ap (λ (p : Place). moved client.tries p gave) here ∙ sym (moved_here number client.tries gave (place_in places))
        ∙ ap (moved_one number client.tries gave (place_in places)) (sym same)
    | inr apart ↦
        ap (λ (o : Option Place). unwrap_or o first_place) (slice_get-set_other places number other next apart)
        ∙ sym (moved_other number client.tries other gave (place_in places) apart)
  ]

  records_now : (at : Place) (txn : Txn) (gave : Gave) (old new : List Recorded) → slice_get records number ≡ Some old → new ≡ records_then number at txn.update gave old
      → (other : ℕ) → records_in (set records number new) other ≡ recorded_one number at txn.update gave (records_in records) other
  records_now at txn gave old new there is other = elim (cases_eq other number) [
    | inl same ↦
        ap (records_in (set records number new)) same
        ∙ ap (λ (o : Option (List Recorded)). unwrap_or o []) (slice_get-set_same records number new (slice_get_within records number old there))
        ∙ is ∙ ap (λ (o : Option (List Recorded)). records_then number at txn.update gave (unwrap_or o [])) (sym there)
        ∙ sym (recorded_here number at txn.update gave (records_in records))
        ∙ ap (recorded_one number at txn.update gave (records_in records)) (sym same)
    | inr apart ↦
        ap (λ (o : Option (List Recorded)). unwrap_or o []) (slice_get-set_other records number other new apart)
        ∙ sym (recorded_other number at txn.update gave (records_in records) other apart)
  ]

  pub turned : (client : JobClient) (txn : Txn) (at next : Place) (gave : Gave) (old new : List Recorded) (later n : ℕ) → n ≡ number → number < length places → IsIn clients before number txn → at ≡ place_in places number
      → MayGive clients before number txn gave → slice_get clients number ≡ Some client → next ≡ moved client.tries at gave → slice_get records number ≡ Some old → new ≡ records_then number at txn.update gave old
      → later ≡ commits_then gave commits → Turns clients before number gave (moment_of (place_in (set places n next)) (records_in (set records n new)) later)
  turned client txn at next gave old new later n is low is_in here may there moves sits records_are commits_are =
      let own : client ≡ is_in.client = same_Some client is_in.client (sym there ∙ is_in.there) in
      record {
        txn = txn;
        is_in = is_in;
        may = may;
        places = λ other. ap (λ (k : ℕ). place_in (set places k next) other) is ∙ places_then client at next gave low here moves other
            ∙ ap (λ (c : JobClient). moved_one number c.tries gave (place_in places) other) own;
        records = λ other. ap (λ (k : ℕ). records_in (set records k new) other) is ∙ records_now at txn gave old new sits records_are other
            ∙ ap (λ (p : Place). recorded_one number p txn.update gave (records_in records) other) here;
        commits = commits_are;
      }
