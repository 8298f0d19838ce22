-- What an addition does, with calls before and behind its commit.
use Rattle.std.proofs.Common.{◌≡◌, ℕ, ◌+◌, ◌%◌, ◌<◌, ◌⊎◌, inl, inr, true, length, slice_set, List, [], ◌∷◌, ◌++◌, Result, Ok, Err, refl, sym, ap, subst, ◌∙◌, arith}
use Rattle.std.specs.Prelude.{slice_index}
use Rattle.std.specs.Option.{option_map}
use Rattle.ostore_base.specs.declared.page.PageImage.{PageImage}
use Rattle.ostore_redo_journal.specs.Drafts.{Writes}
use Rattle.ostore_page_service.specs.Told.{Told, SameRecords, NoBusy, Numbers, Commits, DiskCounts, OwnedByAnother, UsedByAnother, faults_after}
use Rattle.ostore_service_callers.specs.declared.sums.Addition.{Addition}
use Rattle.ostore_service_callers.specs.declared.sums.AddFault.{AddFault}
use Rattle.ostore_service_callers.specs.declared.sums.AddFault.TheVariants as fault
use Rattle.ostore_service_callers.specs.Adding.{NoFault, AddsNothing, Adds, AddsOrFails}
use Rattle.ostore_service_callers.proofs.ServiceLaws.{calm_then, counted_between, owned_before, used_before}

pub sound : {t u : Told Addition} → SameRecords t u → NoFault t u
sound x = record { faults = x.faults; disk_faults = x.disk_faults }

pub nothing : {t u : Told Addition} → SameRecords t u → AddsNothing t u
nothing x = record { records = x.records; number = x.number; writes = x.writes }

pub first_set : (bytes : List ℕ) (value : ℕ) → 0 < length bytes → slice_index (slice_set bytes 0 value) 0 ≡ value
first_set [] value some = absurd (omega arith)
first_set (byte ∷ bytes) value some = refl

pub adds : (t u : Told Addition) (given at more n : ℕ) (entry : Addition) (image : PageImage) (writes : Writes) → entry.client ≡ t.client → entry.ordinal ≡ given → entry.page ≡ at → entry.amount ≡ more → entry.updates ≡ true
    → slice_index image.bytes 0 ≡ (entry.seen + more) % 256 → writes ≡ (record { 0 = at }, image) ∷ [] → Numbers true t u n → Commits t u entry writes n → Adds t u given at more n entry image
adds t u given at more n entry image writes client ordinal page amount updates sum written numbers commits = record {
  client = client;
  ordinal = ordinal;
  page = page;
  amount = amount;
  updates = updates;
  sum = sum;
  records = commits.records;
  numbers = numbers;
  writes = commits.told_writes ∙ ap (λ (ws : Writes). option_map (λ all. all ++ ws ∷ []) t.writes) written;
  calm = commits.calm;
  sound = record { faults = commits.faults; disk_faults = commits.disk_faults };
}

pub moved : {t u v w : Told Addition} (given at more : ℕ) (r : Result ℕ AddFault) → SameRecords t u → NoBusy t u → SameRecords v w → NoBusy v w → AddsOrFails u v given at more r → AddsOrFails t w given at more r
moved {t} {u} {v} {w} given at more r x calm y still done = by_answer r done
  where
    met_before : OwnedByAnother u at ⊎ UsedByAnother u at → OwnedByAnother t at ⊎ UsedByAnother t at
    met_before (inl owned) = inl (owned_before at x.service owned)
    met_before (inr used) = inr (used_before at x.service used)

    sound_between : NoFault u v → NoFault t w
    sound_between it = record { faults = y.faults ∙ it.faults ∙ x.faults; disk_faults = y.disk_faults ∙ it.disk_faults ∙ x.disk_faults }

    nothing_between : AddsNothing u v → AddsNothing t w
    nothing_between it = record { records = y.records ∙ it.records ∙ x.records; number = y.number ∙ it.number ∙ x.number; writes = y.writes ∙ it.writes ∙ x.writes }

    calm_between : NoBusy u v → NoBusy t w
    calm_between it = calm_then (calm_then calm it) still

    by_answer : (r : Result ℕ AddFault) → AddsOrFails u v given at more r → AddsOrFails t w given at more r
    by_answer (Ok n) one = (
      one.0,
      one.1,
      record {
        client = one.2.client ∙ x.service.client;
        ordinal = one.2.ordinal;
        page = one.2.page;
        amount = one.2.amount;
        updates = one.2.updates;
        sum = one.2.sum;
        records = y.records ∙ one.2.records ∙ ap (λ (l : List (Addition × ℕ)). l ++ (one.0, n) ∷ []) x.records;
        numbers = λ b is. let m = one.2.numbers b (x.number ∙ is) in (m.0, y.number ∙ m.1);
        writes = y.writes ∙ one.2.writes ∙ ap (option_map (λ (all : List Writes). all ++ ((record { 0 = at }, one.1) ∷ []) ∷ [])) x.writes;
        calm = calm_between one.2.calm;
        sound = sound_between one.2.sound;
      },
    )
    by_answer (Err (fault.Busy busy)) one = (
      nothing_between one.0,
      record {
        page = one.1.page;
        met = met_before one.1.met;
        counted = counted_between calm one.1.counted still;
        sound = sound_between one.1.sound;
      },
    )
    by_answer (Err (fault.Commit f)) one = (
      nothing_between one.0,
      record {
        calm = calm_between one.1.calm;
        faults = y.faults ∙ one.1.faults ∙ ap (faults_after f) x.faults;
        disk_faults = subst (λ before. DiskCounts f before w.disk_faults) x.disk_faults (subst (DiskCounts f u.disk_faults) (sym y.disk_faults) one.1.disk_faults);
      },
    )
    by_answer (Err fault.OutOfMemory) one = (nothing_between one.0, (calm_between one.1.0, sound_between one.1.1))
