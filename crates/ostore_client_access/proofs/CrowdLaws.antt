-- A cache that is full: its pages in use are fewer than what the transaction sees and takes.
use Rattle.std.proofs.Common.{◌≡◌, ℕ, Bool, nat_eq, List, length, refl, sym, subst, ◌∙◌}
use Rattle.std.specs.Prelude.{Result, Ok, Err, IfErr, ⊤}
use Rattle.std.specs.List.{IsDistinct}
use Rattle.std.specs.Map.{keys_of}
use Rattle.std.proofs.lemmas.List.{length-map}
use Rattle.std.proofs.lemmas.Bool.{false≢true}
use Rattle.ostore_base.specs.declared.page.PageImage.{PageImage}
use Rattle.ostore_segments.specs.Holdings.{Becomes}
use Rattle.ostore_page_service.specs.Told.{Told}
use Rattle.ostore_graph_model.specs.declared.commands.Script.{Script}
use Rattle.ostore_graph_model.specs.declared.commands.Txn.{Txn}
use Rattle.ostore_graph_model.specs.declared.history.Entry.{Entry}
use Rattle.ostore_client_cache.specs.declared.entries.CachedPage.{CachedPage}
use Rattle.ostore_client_cache.specs.Caches.{used_pages}
use Rattle.ostore_client_core.specs.declared.fault.AttemptFault.{AttemptFault}
use Rattle.ostore_client_core.specs.declared.fault.AttemptFault.TheVariants.{Busy, NoSpace, CacheFull, SpaceFull, Commit, OutOfMemory}
use Rattle.ostore_client_core.specs.Clients.{ClientView, IsIdle}
use Rattle.ostore_client_core.specs.Attempts.{seen_list, MayBe}
use Rattle.ostore_client_core.proofs.SeenLaws.{nothing_made}
use Rattle.ostore_client_core.proofs.RoomLaws.{key_used, keys_apart}
use Rattle.ostore_object_ops.specs.declared.stop.Stop.{Stop}
use Rattle.ostore_object_ops.specs.declared.stop.Stop.TheVariants as stops
use Rattle.ostore_object_ops.specs.Stops.{Stopped}
use Rattle.ostore_object_ops.specs.Claiming.{SeesLinePages, HasFewInView, IsBelowGrowth}
use Rattle.ostore_client_access.specs.Accesses.{access_held, Fails, Stays}
use Rattle.ostore_client_access.specs.Attempts.{IfFull, IfCacheFull, CrowdsOnEach}
use Rattle.ostore_client_access.specs.inside.Passing.{HasPassed, HasFailed}
use Rattle.ostore_client_access.proofs.ViewLaws.{view_of}

-- a client without a page in use sees none
pub idle_sees : (a : Script → Type 0) (t : Told Entry) (x : ClientView) (updates : Bool) → IsIdle x → SeesLinePages updates (access_held a t x)
idle_sees a t x updates idle = λ base list may page view. absurd (false≢true (sym (idle page) ∙ view.used))

-- as few as are in view are those in use
few_used : (b : Script → Type 0) (u : Told Entry) (y : ClientView) (txn : Txn) (base list : List PageImage) (capacity : ℕ) → MayBe b u y base list → IsDistinct nat_eq (keys_of y.pages) → length (used_pages y.pages) ≡ capacity → HasFewInView (access_held b u y) txn base → IsBelowGrowth txn base capacity
few_used b u y txn base list capacity may distinct count few =
    let keys : List ℕ = keys_of (used_pages y.pages) in
    subst (IsBelowGrowth txn base) (length-map (used_pages y.pages) (λ (e : ℕ × CachedPage). e.0) ∙ count)
    (few keys (keys_apart y.pages distinct) (λ page there. view_of b u y page may.runs.own (key_used y.pages distinct page there)))

-- where few pages are in view on each list on which the attempt may have begun
pub few_crowd : (a b : Script → Type 0) (t u : Told Entry) (x y : ClientView) (txn : Txn) (capacity : ℕ) → IsDistinct nat_eq (keys_of y.pages) → length (used_pages y.pages) ≡ capacity
    → (R : List PageImage → List PageImage → Type 0) → ((base old list : List PageImage) → MayBe a t x base old → R old list → HasFewInView (access_held b u y) txn base) → Becomes (access_held a t x) (access_held b u y) R → CrowdsOnEach b u y txn capacity
few_crowd a b t u x y txn capacity distinct count R few one = record {
  runs = one.some.2.runs;
  below = λ base began.
      let may : MayBe b u y base (seen_list y base) = record { runs = one.some.2.runs; began = began; made = refl } in
      let early = one.from base (seen_list y base) may in
      few_used b u y txn base (seen_list y base) capacity may distinct count (few base early.0 (seen_list y base) early.1 early.2);
}

-- the same, where the client was idle
pub begun_crowds : (a b : Script → Type 0) (t u : Told Entry) (x y : ClientView) (txn : Txn) (capacity : ℕ) → IsIdle x → IsDistinct nat_eq (keys_of y.pages) → length (used_pages y.pages) ≡ capacity
    → Becomes (access_held a t x) (access_held b u y) (λ old new. HasFewInView (access_held b u y) txn old) → CrowdsOnEach b u y txn capacity
begun_crowds a b t u x y txn capacity idle distinct count one = few_crowd a b t u x y txn capacity distinct count (λ old new. HasFewInView (access_held b u y) txn old)
    (λ base old list may few. subst (HasFewInView (access_held b u y) txn) (may.made ∙ nothing_made x base idle) few)
    one

-- ---- where commands stopped

fault_crowds : (updates : Bool) (a b : Script → Type 0) (t u : Told Entry) (x y : ClientView) (txn : Txn) (P : Type 0) (fault : AttemptFault) → ((capacity : ℕ) → length (used_pages y.pages) ≡ capacity → P → CrowdsOnEach b u y txn capacity)
    → Fails updates fault a b t u x y → (Stays fault → P) → IfFull (CrowdsOnEach b u y txn) fault
fault_crowds updates a b t u x y txn P (Busy busy) more failed broken = tt
fault_crowds updates a b t u x y txn P (NoSpace segment need) more failed broken = tt
fault_crowds updates a b t u x y txn P (CacheFull used capacity) more failed broken = more capacity (sym failed.cause.1 ∙ failed.cause.3) (broken tt)
fault_crowds updates a b t u x y txn P (SpaceFull frames) more failed broken = tt
fault_crowds updates a b t u x y txn P (Commit fault) more failed broken = tt
fault_crowds updates a b t u x y txn P OutOfMemory more failed broken = tt

pub stop_crowds : {T : Type 0} (k l : Bool) (a b : Script → Type 0) (t u : Told Entry) (x y : ClientView) (txn : Txn) (saw P : Type 0) (r : Result T (Stop AttemptFault)) → ((capacity : ℕ) → length (used_pages y.pages) ≡ capacity → P → CrowdsOnEach b u y txn capacity)
    → IfErr r (λ stop. Stopped stop (λ fault. HasFailed k l fault a b t u x y) (HasPassed k l a b t u x y)) → saw → IfErr r (λ stop. Stopped stop (λ fault. Stays fault → saw → P) ⊤)
    → IfErr r (IfCacheFull (CrowdsOnEach b u y txn))
stop_crowds k l a b t u x y txn saw P (Ok value) more stopped sees broken = broken
stop_crowds k l a b t u x y txn saw P (Err (stops.Fault fault)) more stopped sees broken = fault_crowds k a b t u x y txn P fault more stopped.1 (λ stays. broken stays sees)
stop_crowds k l a b t u x y txn saw P (Err (stops.NoSpace lack)) more stopped sees broken = tt
stop_crowds k l a b t u x y txn saw P (Err stops.OutOfMemory) more stopped sees broken = tt
