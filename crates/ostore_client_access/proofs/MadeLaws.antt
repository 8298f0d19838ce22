-- What a transaction has made in an attempt, and that its entry fits.
use Rattle.std.proofs.Common.{◌≡◌, Bool, true, false, List, refl, sym, subst, ◌∙◌}
use Rattle.std.specs.Prelude.{◌&&◌, Option, Some, None, Result, Ok, Err, OnOk, IfOk, IfErr}
use Rattle.std.specs.Cmp.Derive.{both_true}
use Rattle.std.proofs.lemmas.Bool.{false≢true}
use Rattle.ostore_base.specs.declared.page.PageImage.{PageImage}
use Rattle.ostore_schema_layout.specs.declared.schema.Schema.{Schema}
use Rattle.ostore_segments.specs.declared.placement.NoSpace.{NoSpace}
use Rattle.ostore_segments.specs.Holdings.{Stands, Becomes}
use Rattle.ostore_page_service.specs.Told.{Told}
use Rattle.ostore_graph_model.specs.declared.values.Reply.{Reply}
use Rattle.ostore_graph_model.specs.declared.commands.Script.{Script}
use Rattle.ostore_graph_model.specs.declared.commands.Txn.{Txn}
use Rattle.ostore_graph_model.specs.declared.history.Entry.{Entry}
use Rattle.ostore_graph_model.specs.Graph.{Graph}
use Rattle.ostore_graph_model.specs.Valid.{IsValid}
use Rattle.ostore_client_cache.specs.declared.entries.CachedPage.{CachedPage}
use Rattle.ostore_client_cache.specs.declared.entries.Hold.{Hold}
use Rattle.ostore_client_cache.specs.declared.entries.Hold.TheVariants.{Retained, InUse, Owned}
use Rattle.ostore_client_cache.specs.Entries.{is_used, is_in_use, is_owner, is_owned}
use Rattle.ostore_client_core.specs.declared.fault.AttemptFault.{AttemptFault}
use Rattle.ostore_client_core.specs.Kinds.{Names, HasReplies, Follows}
use Rattle.ostore_client_core.specs.Clients.{ClientView, entry_of, IsIdle, IsOwn}
use Rattle.ostore_client_core.specs.Calls.{SameClient}
use Rattle.ostore_client_core.specs.Attempts.{seen_list, Attempts, MayBe}
use Rattle.ostore_client_core.specs.Commits.{FitsClient}
use Rattle.ostore_client_core.proofs.SeenLaws.{nothing_made}
use Rattle.ostore_object_ops.specs.declared.stop.Stop.{Stop}
use Rattle.ostore_object_ops.specs.declared.stop.Stop.TheVariants as stops
use Rattle.ostore_object_ops.specs.Stops.{Stopped, IfNoSpace, IfOutOfMemory}
use Rattle.ostore_object_ops.specs.Lines.{Transacts, LacksGrowth}
use Rattle.ostore_object_ops.proofs.StepFacts.{no_space_map, stopped_map}
use Rattle.ostore_client_access.specs.Accesses.{access_held, OwnsNothing, Passes, Fails}
use Rattle.ostore_client_access.specs.Attempts.{HasMade, IsEntryOf, FitsNamed, LacksOnEach}
use Rattle.ostore_client_access.specs.inside.Passing.{HasPassed, HasFailed}

-- at the beginning of an attempt each list is the one on which it may have begun, and valid
pub begins_valid : (a : Script → Type 0) (t : Told Entry) (x : ClientView) → Attempts a t x → IsIdle x → Stands (access_held a t x) (IsValid x.schema)
begins_valid a t x runs idle = record {
  some = (runs.some.0, seen_list x runs.some.0, record { runs = runs; began = runs.some.1; made = refl });
  each = λ base list may. subst (IsValid x.schema) (sym (may.made ∙ nothing_made x base idle)) may.began.valid;
}

-- ---- what reads own

not_owner : (hold : Hold) → is_used hold ≡ false → is_owner hold ≡ false
not_owner Retained idle = refl
not_owner InUse idle = refl
not_owner Owned idle = absurd (false≢true (sym idle))

none_owned : (entry : Option CachedPage) → is_in_use entry ≡ false → is_owned entry ≡ false
none_owned None idle = refl
none_owned (Some entry) idle = not_owner entry.hold idle

pub idle_owns : (x : ClientView) → IsIdle x → OwnsNothing x
idle_owns x idle page = none_owned (entry_of x page) (idle page)

still_none : (now was : Bool) → (now ≡ true → was ≡ true) → was ≡ false → now ≡ false
still_none true was more none = absurd (false≢true (sym none ∙ more refl))
still_none false was more none = refl

pub owns_nothing : (updates : Bool) (a b : Script → Type 0) (t u : Told Entry) (x y : ClientView) → Passes updates a b t u x y → updates ≡ false → OwnsNothing x → OwnsNothing y
owns_nothing updates a b t u x y one reads nothing page = still_none (is_owned (entry_of y page)) (is_owned (entry_of x page)) (one.owned reads page) (nothing page)

-- ---- a transaction that was executed

pub has_made : (a b : Script → Type 0) (t u : Told Entry) (x y : ClientView) (schema : Schema) (txn : Txn) (replies : List Reply) → IsIdle x → y.schema ≡ schema → Passes txn.update a b t u x y → Becomes (access_held a t x) (access_held b u y) (Transacts schema txn replies) → HasMade b u y txn replies
has_made a b t u x y schema txn replies idle same passed one = record {
  runs = one.some.2.runs;
  made = λ base list may.
      let early = one.from base list may in
      subst (λ (s : Schema). Transacts s txn replies base list) (sym same) (subst (λ (l : List PageImage). Transacts schema txn replies l list) (early.1.made ∙ nothing_made x base idle) early.2);
  reads = λ reads. owns_nothing txn.update a b t u x y passed reads (idle_owns x idle);
}

pub made_ok : {F : Type 0} (a b : Script → Type 0) (t u : Told Entry) (x y : ClientView) (schema : Schema) (txn : Txn) (r : Result (List Reply) F) → IsIdle x → y.schema ≡ schema → OnOk r (Passes txn.update a b t u x y)
    → IfOk r (λ replies. Becomes (access_held a t x) (access_held b u y) (Transacts schema txn replies)) → IfOk r (HasMade b u y txn)
made_ok a b t u x y schema txn (Ok replies) idle same passed one = has_made a b t u x y schema txn replies idle same passed one
made_ok a b t u x y schema txn (Err fault) idle same passed one = one

-- no place was found, though nothing was made before
pub lacks_begun : (a b : Script → Type 0) (t u : Told Entry) (x y : ClientView) (txn : Txn) → IsIdle x → Becomes (access_held a t x) (access_held b u y) (λ old new. LacksGrowth txn old) → LacksOnEach b u y txn
lacks_begun a b t u x y txn idle one = record {
  runs = one.some.2.runs;
  lacks = λ base began.
      let early = one.from base (seen_list y base) (record { runs = one.some.2.runs; began = began; made = refl }) in
      subst (LacksGrowth txn) (early.1.made ∙ nothing_made x base idle) early.2;
}

-- ---- calls of a holder whose kind is the transaction's

pub kind_passed : {T F : Type 0} (k l updates : Bool) (a b : Script → Type 0) (t u : Told Entry) (x y : ClientView) (r : Result T F) → k ≡ updates → OnOk r (HasPassed k l a b t u x y) → OnOk r (Passes updates a b t u x y)
kind_passed k l updates a b t u x y (Ok value) kind one = subst (λ (m : Bool). Passes m a b t u x y) kind one.1
kind_passed k l updates a b t u x y (Err fault) kind one = one

stop_kind : (k l updates : Bool) (a b : Script → Type 0) (t u : Told Entry) (x y : ClientView) (stop : Stop AttemptFault) → k ≡ updates → Stopped stop (λ fault. HasFailed k l fault a b t u x y) (HasPassed k l a b t u x y)
    → Stopped stop (λ fault. Fails updates fault a b t u x y) (Passes updates a b t u x y)
stop_kind k l updates a b t u x y stop kind one = stopped_map _ _ _ _ stop
    (λ fault failed. subst (λ (m : Bool). Fails m fault a b t u x y) kind failed.1)
    (λ passed. subst (λ (m : Bool). Passes m a b t u x y) kind passed.1)
    one

pub kind_stopped : {T : Type 0} (k l updates : Bool) (a b : Script → Type 0) (t u : Told Entry) (x y : ClientView) (r : Result T (Stop AttemptFault)) → k ≡ updates → IfErr r (λ stop. Stopped stop (λ fault. HasFailed k l fault a b t u x y) (HasPassed k l a b t u x y))
    → IfErr r (λ stop. Stopped stop (λ fault. Fails updates fault a b t u x y) (Passes updates a b t u x y))
kind_stopped k l updates a b t u x y (Ok value) kind one = one
kind_stopped k l updates a b t u x y (Err stop) kind one = stop_kind k l updates a b t u x y stop kind one

-- whatever came, what no call changes is the same
pub client_kept : {T : Type 0} (k l : Bool) (a b : Script → Type 0) (t u : Told Entry) (x y : ClientView) (r : Result T (Stop AttemptFault)) → OnOk r (HasPassed k l a b t u x y) → IfErr r (λ stop. Stopped stop (λ fault. HasFailed k l fault a b t u x y) (HasPassed k l a b t u x y)) → SameClient x y
client_kept k l a b t u x y (Ok value) passes stopped = passes.1.client
client_kept k l a b t u x y (Err (stops.Fault fault)) passes stopped = stopped.1.client
client_kept k l a b t u x y (Err (stops.NoSpace lack)) passes stopped = stopped.1.client
client_kept k l a b t u x y (Err stops.OutOfMemory) passes stopped = stopped.1.client

-- whatever came, the service is the client's own
pub own_kept : {T : Type 0} (P : T → List PageImage → List PageImage → Type 0) (Q : NoSpace → List PageImage → List PageImage → Type 0) (R : List PageImage → List PageImage → Type 0) (k l : Bool) (a b : Script → Type 0) (t u : Told Entry) (x y : ClientView) (r : Result T (Stop AttemptFault))
    → IfOk r (λ value. Becomes (access_held a t x) (access_held b u y) (P value))
    → IfErr r (λ stop. Stopped stop (λ fault. HasFailed k l fault a b t u x y) (HasPassed k l a b t u x y))
    → IfErr r (IfNoSpace (λ no. Becomes (access_held a t x) (access_held b u y) (Q no)))
    → IfErr r (IfOutOfMemory (Becomes (access_held a t x) (access_held b u y) R))
    → IsOwn b u y
own_kept P Q R k l a b t u x y (Ok value) lists stopped space memory = lists.some.2.runs.own
own_kept P Q R k l a b t u x y (Err (stops.Fault fault)) lists stopped space memory = stopped.1.own
own_kept P Q R k l a b t u x y (Err (stops.NoSpace lack)) lists stopped space memory = space.some.2.runs.own
own_kept P Q R k l a b t u x y (Err stops.OutOfMemory) lists stopped space memory = memory.some.2.runs.own

-- the same for one line, whose lists are known where it was Ok
pub own_line : {T : Type 0} (P : List PageImage → List PageImage → Type 0) (Q : NoSpace → List PageImage → List PageImage → Type 0) (R : List PageImage → List PageImage → Type 0) (k l : Bool) (a b : Script → Type 0) (t u : Told Entry) (x y : ClientView) (r : Result T (Stop AttemptFault))
    → OnOk r (Becomes (access_held a t x) (access_held b u y) P)
    → IfErr r (λ stop. Stopped stop (λ fault. HasFailed k l fault a b t u x y) (HasPassed k l a b t u x y))
    → IfErr r (IfNoSpace (λ no. Becomes (access_held a t x) (access_held b u y) (Q no)))
    → IfErr r (IfOutOfMemory (Becomes (access_held a t x) (access_held b u y) R))
    → IsOwn b u y
own_line P Q R k l a b t u x y (Ok value) lists stopped space memory = lists.some.2.runs.own
own_line P Q R k l a b t u x y (Err (stops.Fault fault)) lists stopped space memory = stopped.1.own
own_line P Q R k l a b t u x y (Err (stops.NoSpace lack)) lists stopped space memory = space.some.2.runs.own
own_line P Q R k l a b t u x y (Err stops.OutOfMemory) lists stopped space memory = memory.some.2.runs.own

pub space_map : {T : Type 0} (P Q : NoSpace → Type 0) (r : Result T (Stop AttemptFault)) → ((lack : NoSpace) → P lack → Q lack) → IfErr r (IfNoSpace P) → IfErr r (IfNoSpace Q)
space_map P Q (Ok value) more one = one
space_map P Q (Err stop) more one = no_space_map P Q stop more one

pub space_lacks : {T : Type 0} (P : NoSpace → List PageImage → List PageImage → Type 0) (a b : Script → Type 0) (t u : Told Entry) (x y : ClientView) (txn : Txn) (r : Result T (Stop AttemptFault)) → ((no : NoSpace) → Becomes (access_held a t x) (access_held b u y) (P no) → LacksOnEach b u y txn)
    → IfErr r (IfNoSpace (λ no. Becomes (access_held a t x) (access_held b u y) (P no))) → IfErr r (IfNoSpace (λ no. LacksOnEach b u y txn))
space_lacks P a b t u x y txn (Ok value) more one = one
space_lacks P a b t u x y txn (Err stop) more one = no_space_map _ _ stop more one

-- a transaction that updates may change the holder's pages
pub may_change : (k updates may : Bool) → k ≡ updates → (updates ≡ true → may ≡ true) → updates ≡ true → (k && may) ≡ true
may_change k updates may kind writes is = both_true (kind ∙ is) (writes is)

-- ---- the entry fits

made_right : (schema : Schema) (script : Script) (txn : Txn) (entry : Entry) (base list : List PageImage) → script.schema ≡ schema → Names script entry txn → IsValid script.schema base → Transacts script.schema txn entry.replies base list → HasReplies script entry base
made_right schema script txn entry base list same names valid made =
    let graph : Graph = valid.indexes_kept.graph in
    let done = made.does graph valid.indexes_kept.stands in
    record { txn = txn; names = names; graph = graph; stands = valid.indexes_kept.stands; after = done.0; runs = done.1 }

made_next : (schema : Schema) (script : Script) (txn : Txn) (entry : Entry) (base list : List PageImage) → script.schema ≡ schema → Names script entry txn → IsValid script.schema base → Transacts script.schema txn entry.replies base list → Follows script entry base list
made_next schema script txn entry base list same names valid made =
    let graph : Graph = valid.indexes_kept.graph in
    let done = made.does graph valid.indexes_kept.stands in
    let free = valid.pages_kept.allocated.chains in
    let taken = made.taken graph free.0 free.2.free_list in
    record {
      txn = txn;
      names = names;
      graph = graph;
      stands = valid.indexes_kept.stands;
      after = done.0;
      runs = done.1;
      valid = made.valid;
      stands_after = done.2;
      free = free.0;
      has_free = free.2.free_list;
      free_after = taken.0;
      has_free_after = taken.1;
      growth = taken.2;
    }

pub fits_named : (a : Script → Type 0) (t : Told Entry) (x : ClientView) (txn : Txn) (entry : Entry) → HasMade a t x txn entry.replies → IsEntryOf a t x txn entry → FitsNamed a t x txn entry
fits_named a t x txn entry has is script served schema names = record {
  mine = is.mine;
  named = (txn, names);
  rises = is.rises;
  reads = λ reads page. has.reads (sym names.kind ∙ reads) page;
  right = λ base list may. made_right x.schema script txn entry base list schema names (valid_of base may.began.valid) (made_of base list may);
  next = λ updates base list may. made_next x.schema script txn entry base list schema names (valid_of base may.began.valid) (made_of base list may);
}
  where
    valid_of : (base : List PageImage) → IsValid x.schema base → IsValid script.schema base
    valid_of base valid = subst (λ (s : Schema). IsValid s base) (sym schema) valid

    made_of : (base list : List PageImage) → MayBe a t x base list → Transacts script.schema txn entry.replies base list
    made_of base list may = subst (λ (s : Schema). Transacts s txn entry.replies base list) (sym schema) (has.made base list may)

pub fits : (a : Script → Type 0) (t : Told Entry) (x : ClientView) (txn : Txn) (entry : Entry) → HasMade a t x txn entry.replies → IsEntryOf a t x txn entry → FitsClient a t x entry
fits a t x txn entry has is = record {
  script = is.script;
  served = is.served;
  schema = is.schema;
  fits = fits_named a t x txn entry has is is.script is.served is.schema is.names;
}
