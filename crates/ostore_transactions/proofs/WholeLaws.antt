-- The lines of an attempt, one after the other.
use Rattle.std.proofs.Common.{◌≡◌, ℕ, ◌+◌, ◌<◌, ◌++◌, ◌∷◌, [], List, Bool, true, false, length, Option, None, Some, refl, sym, ap, subst, ◌∙◌, arith}
use Rattle.std.specs.Prelude.{All}
use Rattle.std.specs.Option.{option_map}
use Rattle.ostore_base.specs.Faults.{Rose}
use Rattle.ostore_base.specs.declared.page.PageImage.{PageImage}
use Rattle.ostore_schema_layout.specs.declared.schema.Schema.{Schema}
use Rattle.ostore_page_service.specs.Told.{Told, SameRecords, Numbers, DiskCounts, MayCome, faults_after}
use Rattle.ostore_graph_model.specs.declared.values.Reply.{Reply}
use Rattle.ostore_graph_model.specs.declared.commands.Txn.{Txn}
use Rattle.ostore_graph_model.specs.declared.commands.Script.{Script}
use Rattle.ostore_graph_model.specs.declared.history.Entry.{Entry}
use Rattle.ostore_graph_model.specs.History.{txn_at}
use Rattle.ostore_client_core.specs.declared.fault.AttemptFault.{AttemptFault}
use Rattle.ostore_client_core.specs.declared.fault.AttemptFault.TheVariants.{Busy, NoSpace, CacheFull, SpaceFull, Commit, OutOfMemory}
use Rattle.ostore_client_core.specs.Clients.{ClientView, IsIdle, IsOwn}
use Rattle.ostore_client_core.specs.Attempts.{MayBe}
use Rattle.ostore_client_core.specs.Calls.{SameClient}
use Rattle.ostore_client_core.proofs.StayLaws.{Stays, ServesOne, stays_running}
use Rattle.ostore_client_core.proofs.RecordLaws.{service_then, records_refl, records_then, calm_refl, calm_then}
use Rattle.ostore_client_access.specs.Attempts.{HasMade}
use Rattle.ostore_client_access.specs.inside.Passing.{client_refl, client_then, meets_then}
use Rattle.ostore_transactions.specs.declared.attempt.Attempt.{Attempt}
use Rattle.ostore_transactions.specs.Attempts.{line_at, line_in, HasTxn, IsAt, IsWith}
use Rattle.ostore_transactions.specs.Causes.{IsCause, LacksPages, CrowdsPages, FindsNoPlace, LacksPlace, IfNoSpace, NoFaults}
use Rattle.ostore_transactions.specs.Lines.{entry_by, IsGoing, IsCommitted, IsAborted, HasFailed}
use Rattle.ostore_transactions.specs.Ends.{LackedPlace, HasCommitted, HasAborted, HasGivenUp}
use Rattle.ostore_transactions.specs.inside.Going.{GoesOn, HasGone}
use Rattle.ostore_transactions.proofs.FailLaws.{reached_as}

-- ---- the lines that went on

goes_refl : (a : Script → Type 0) (t : Told Entry) (x : ClientView) → GoesOn a a t t x x
goes_refl a t x = record { same = records_refl t; served = λ script serving. serving; calm = calm_refl t; client = client_refl x }

-- before the first line
pub none_gone : (a : Script → Type 0) (t : Told Entry) (x : ClientView) (txn : Txn) (attempt : Attempt) → attempt.progress ≡ None → IsOwn a t x → IsIdle x → HasGone a a t t x x txn attempt 0
none_gone a t x txn attempt none own idle = record {
  goes = goes_refl a t x;
  own = own;
  at = subst (IsWith a t x txn) (sym none) idle;
  next = ap line_in none;
  left = omega arith;
}

-- behind a line more
pub one_gone : (a b c : Script → Type 0) (t u v : Told Entry) (x y z : ClientView) (txn : Txn) (before attempt : Attempt) (lines : ℕ) → HasGone a b t u x y txn before lines
    → IsGoing b c u v y z txn (line_at before) attempt → IsOwn c v z → IsAt c v z txn attempt → SameClient y z → HasGone a c t v x z txn attempt (lines + 1)
one_gone a b c t u v x y z txn before attempt lines gone going own at client =
    let here = gone.next in
    let less = going.left in
    record {
      goes = record {
        same = records_then t u v gone.goes.same going.same;
        served = λ script serving. going.served script (gone.goes.served script serving);
        calm = calm_then t u v gone.goes.calm going.calm;
        client = client_then x y z gone.goes.client client;
      };
      own = own;
      at = at;
      next = going.next ∙ ap (λ (n : ℕ). n + 1) here;
      left = omega arith;
    }

named_still : (t u : Told Entry) (txn : Txn) (script : Script) (ordinal : ℕ) → SameRecords t u → txn_at script t.client ordinal ≡ Some txn → txn_at script u.client ordinal ≡ Some txn
named_still t u txn script ordinal same named = subst (λ (n : ℕ). txn_at script n ordinal ≡ Some txn) (sym same.service.client) named

-- the transaction is the same one at each line
pub txn_still : (a b : Script → Type 0) (t u : Told Entry) (x y : ClientView) (txn : Txn) (ordinal : ℕ) → GoesOn a b t u x y → HasTxn a t x txn ordinal → HasTxn b u y txn ordinal
txn_still a b t u x y txn ordinal goes has = record {
  script = has.script;
  served = goes.served has.script has.served;
  schema = has.schema ∙ sym goes.client.schema;
  named = named_still t u txn has.script ordinal goes.same has.named;
  rises = subst (λ (l : List (Entry × ℕ)). All (λ (earlier : Entry × ℕ). earlier.0.ordinal < ordinal) l) (sym goes.same.records) has.rises;
}

-- ---- what was known of a moment between its lines

stays_refl : (t : Told Entry) → Stays t t
stays_refl t = record {
  client = refl;
  opened = refl;
  mine = record { held = λ q. refl; owned = λ q. refl; kept = λ q image is. is; droppable = λ q. refl; records = refl; room = refl };
}

one_served : (a b : Script → Type 0) (t u : Told Entry) (x y : ClientView) → GoesOn a b t u x y → IsOwn a t x → ServesOne a y.schema
one_served a b t u x y goes own = (own.script.0, own.script.1, own.script.2 ∙ sym goes.client.schema)

-- what the attempt may stand for then, it may stand for where the scripts are counted that were served at its beginning
earlier_may : (a b : Script → Type 0) (u : Told Entry) (y : ClientView) (base list : List PageImage) → ServesOne a y.schema → MayBe b u y base list → MayBe a u y base list
earlier_may a b u y base list one may = record { runs = stays_running b a u u y (stays_refl u) one may.runs; began = may.began; made = may.made }

earlier_made : (a b : Script → Type 0) (u : Told Entry) (y : ClientView) (txn : Txn) (replies : List Reply) → ServesOne a y.schema → HasMade b u y txn replies → HasMade a u y txn replies
earlier_made a b u y txn replies one made = record {
  runs = stays_running b a u u y (stays_refl u) one made.runs;
  made = λ base list may. made.made base list (record { runs = made.runs; began = may.began; made = may.made });
  reads = made.reads;
}

lacked_then : (a b : Script → Type 0) (t u : Told Entry) (x y : ClientView) (txn : Txn) (line : ℕ) (fault : AttemptFault) → GoesOn a b t u x y → IsOwn a t x → IfNoSpace (LacksPlace b u y txn line) fault
    → IfNoSpace (LackedPlace a t x txn) fault
lacked_then a b t u x y txn line (NoSpace segment need) goes own lacks =
    let found = lacks.found in
    record {
      then = u;
      between = y;
      moment = record { same = goes.same; client = goes.client };
      line = line;
      place = record {
        replies = lacks.replies;
        next = lacks.next;
        found = record { base = found.base; list = found.list; may = earlier_may a b u y found.base found.list (one_served a b t u x y goes own) found.may; lacks = found.lacks };
      };
    }
lacked_then a b t u x y txn line (Busy busy) goes own lacks = tt
lacked_then a b t u x y txn line (CacheFull used capacity) goes own lacks = tt
lacked_then a b t u x y txn line (SpaceFull frames) goes own lacks = tt
lacked_then a b t u x y txn line (Commit fault) goes own lacks = tt
lacked_then a b t u x y txn line OutOfMemory goes own lacks = tt

-- ---- the line that ends the attempt

numbers_then : (update : Bool) (t u v : Told Entry) (number : ℕ) → u.number ≡ t.number → Numbers update u v number → Numbers update t v number
numbers_then true t u v number same numbers = λ before is. numbers before (same ∙ is)
numbers_then false t u v number same numbers = λ before is. numbers before (same ∙ is)

pub whole_committed : (a b c : Script → Type 0) (t u v : Told Entry) (x y z : ClientView) (txn : Txn) (line : ℕ) (attempt : Attempt) (ordinal number : ℕ) (replies : List Reply) → GoesOn a b t u x y
    → IsCommitted b c u v y z txn line attempt ordinal number replies → HasCommitted a c t v x txn ordinal number replies
whole_committed a b c t u v x y z txn line attempt ordinal number replies goes one = record {
  kept = one.kept;
  records =
      one.done.records
      ∙ ap (λ (l : List (Entry × ℕ)). l ++ (entry_by u.client ordinal txn replies, number) ∷ []) goes.same.records
      ∙ ap (λ (n : ℕ). t.mine.records ++ (entry_by n ordinal txn replies, number) ∷ []) goes.same.service.client;
  numbers = numbers_then txn.update t u v number goes.same.number one.done.numbers;
  service = service_then t u v goes.same.service one.done.service;
  served = λ script serving schema named. one.served script (goes.served script serving) (schema ∙ sym goes.client.schema) (named_still t u txn script ordinal goes.same named);
  calm = calm_then t u v goes.calm one.done.calm;
  faults = record { faults = one.done.faults ∙ goes.same.faults; disk_faults = one.done.disk_faults ∙ goes.same.disk_faults };
}

pub whole_aborted : (a b c : Script → Type 0) (t u v : Told Entry) (x y z : ClientView) (txn : Txn) (line : ℕ) (attempt : Attempt) → GoesOn a b t u x y → IsOwn a t x → IsAborted b c u v y z txn line attempt → HasAborted a c t v x txn
whole_aborted a b c t u v x y z txn line attempt goes own one = record {
  aborts = one.aborts;
  same = records_then t u v goes.same one.same;
  served = λ script serving. one.served script (goes.served script serving);
  calm = calm_then t u v goes.calm one.calm;
  ran = record {
    then = u;
    between = y;
    moment = record { same = goes.same; client = goes.client };
    replies = one.replies;
    made = earlier_made a b u y txn one.replies (one_served a b t u x y goes own) one.made;
  };
}

-- ---- the line that fails

faults_then : (t u v : Told Entry) → SameRecords t u → NoFaults u v → NoFaults t v
faults_then t u v same one = record { faults = one.faults ∙ same.faults; disk_faults = one.disk_faults ∙ same.disk_faults }

lacks_then : (script : Script) (t u : Told Entry) (txn : Txn) → SameRecords t u → LacksPages script u txn → LacksPages script t txn
lacks_then script t u txn same one = record { number = one.number; list = one.list; reached = reached_as script t u one.number one.list same one.reached; lacks = one.lacks }

crowds_then : (script : Script) (t u : Told Entry) (txn : Txn) (capacity : ℕ) → SameRecords t u → CrowdsPages script u txn capacity → CrowdsPages script t txn capacity
crowds_then script t u txn capacity same one = record { number = one.number; list = one.list; reached = reached_as script t u one.number one.list same one.reached; below = one.below }

below_then : (t u : Told Entry) (n : ℕ) → SameRecords t u → n < length u.opened → n < length t.opened
below_then t u n same less = subst (λ (l : List PageImage). n < length l) same.service.opened less

cause_then : (a b : Script → Type 0) (t u v : Told Entry) (x y : ClientView) (txn : Txn) (fault : AttemptFault) → GoesOn a b t u x y → IsCause b u v y txn fault → IsCause a t v x txn fault
cause_then a b t u v x y txn (Busy busy) goes why = (
  record {
    met = meets_then txn.update t u busy.page.0 goes.same why.0.met;
    rose = subst (λ (n : ℕ). Rose n v.busy) goes.calm.busy why.0.rose;
    busies = why.0.busies ∙ ap (option_map (λ earlier. earlier ++ busy ∷ [])) goes.calm.busies;
  },
  faults_then t u v goes.same why.1,
)
cause_then a b t u v x y txn (NoSpace segment need) goes why = (
  why.0,
  λ script serving schema. lacks_then script t u txn goes.same (why.1 script (goes.served script serving) (schema ∙ sym goes.client.schema)),
  calm_then t u v goes.calm why.2,
  faults_then t u v goes.same why.3,
  subst (λ (s : Schema). FindsNoPlace s txn (record { segment = segment; need = need })) goes.client.schema why.4,
)
cause_then a b t u v x y txn (CacheFull used capacity) goes why = (
  why.0,
  why.1 ∙ goes.client.most,
  below_then t u capacity goes.same why.2,
  λ script serving schema. crowds_then script t u txn capacity goes.same (why.3 script (goes.served script serving) (schema ∙ sym goes.client.schema)),
  calm_then t u v goes.calm why.4,
  faults_then t u v goes.same why.5,
)
cause_then a b t u v x y txn (SpaceFull frames) goes why = (why.0 ∙ goes.client.frames, below_then t u frames goes.same why.1, calm_then t u v goes.calm why.2, faults_then t u v goes.same why.3)
cause_then a b t u v x y txn (Commit fault) goes why = (
  record {
    update = why.0.update;
    kept = why.0.kept;
    may = subst (MayCome fault) goes.same.service.may_fail why.0.may;
    faults = why.0.faults ∙ ap (faults_after fault) goes.same.faults;
    disk_faults = subst (λ (n : Option ℕ). DiskCounts fault n v.disk_faults) goes.same.disk_faults why.0.disk_faults;
  },
  calm_then t u v goes.calm why.1,
)
cause_then a b t u v x y txn OutOfMemory goes why = (calm_then t u v goes.calm why.0, faults_then t u v goes.same why.1)

pub whole_failed : (a b c : Script → Type 0) (t u v : Told Entry) (x y z : ClientView) (txn : Txn) (line : ℕ) (attempt : Attempt) (fault : AttemptFault) → GoesOn a b t u x y → IsOwn a t x → HasFailed b c u v y z txn line attempt fault
    → HasGivenUp a c t v x txn fault
whole_failed a b c t u v x y z txn line attempt fault goes own one =
    let less = goes.same.room in
    let fewer = one.same.room in
    record {
      cause = cause_then a b t u v x y txn fault goes one.cause;
      same = record {
        service = service_then t u v goes.same.service one.same.service;
        records = one.same.records ∙ goes.same.records;
        room = omega arith;
        number = one.same.number ∙ goes.same.number;
        writes = one.same.writes ∙ goes.same.writes;
      };
      served = λ script serving. one.served script (goes.served script serving);
      place = lacked_then a b t u x y txn line fault goes own one.place;
    }
