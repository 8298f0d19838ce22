-- Calls of a service, one after the other.
use Rattle.std.proofs.Common.{refl, ◌∙◌, arith}
use Rattle.ostore_page_service.specs.Told.{Side, Told, SameService, SameRecords, NoBusy, Undisturbed}

same_side : {E : Type 0} (a : Side E) → Undisturbed a a
same_side a = record { held = λ q. refl; owned = λ q. refl; kept = λ q i h. h; droppable = λ q. refl; records = refl; room = refl }

pub service_refl : {E : Type 0} (told : Told E) → SameService told told
service_refl told = record { behind = refl; client = refl; may_write = refl; may_fail = refl; first = refl; opened = refl; tells_others = refl; others = λ d low a. same_side (told.others d) }

pub service_then : {E : Type 0} (t u v : Told E) → SameService t u → SameService u v → SameService t v
service_then t u v one two = record {
  behind = two.behind ∙ one.behind;
  client = two.client ∙ one.client;
  may_write = two.may_write ∙ one.may_write;
  may_fail = two.may_fail ∙ one.may_fail;
  first = two.first ∙ one.first;
  opened = two.opened ∙ one.opened;
  tells_others = two.tells_others ∙ one.tells_others;
  others = λ d low apart.
      let a = one.others d low apart in
      let b = two.others d low (λ e. apart (e ∙ one.client)) in
      record {
        held = λ q. b.held q ∙ a.held q;
        owned = λ q. b.owned q ∙ a.owned q;
        kept = λ q i h. a.kept q i (b.kept q i h);
        droppable = λ q. b.droppable q ∙ a.droppable q;
        records = b.records ∙ a.records;
        room = b.room ∙ a.room;
      };
}

pub records_refl : {E : Type 0} (told : Told E) → SameRecords told told
records_refl told = record { service = service_refl told; records = refl; room = omega arith; faults = refl; number = refl; disk_faults = refl; writes = refl }

pub records_then : {E : Type 0} (t u v : Told E) → SameRecords t u → SameRecords u v → SameRecords t v
records_then t u v one two =
    let a = one.room in
    let b = two.room in
    record {
      service = service_then t u v one.service two.service;
      records = two.records ∙ one.records;
      room = omega arith;
      faults = two.faults ∙ one.faults;
      number = two.number ∙ one.number;
      disk_faults = two.disk_faults ∙ one.disk_faults;
      writes = two.writes ∙ one.writes;
    }

pub calm_refl : {E : Type 0} (told : Told E) → NoBusy told told
calm_refl told = record { busy = refl; busies = refl }

pub calm_then : {E : Type 0} (t u v : Told E) → NoBusy t u → NoBusy u v → NoBusy t v
calm_then t u v one two = record { busy = two.busy ∙ one.busy; busies = two.busies ∙ one.busies }
