-- Steps of a holder of pages, and what they make of a command.
use Rattle.std.proofs.Common.{◌≡◌, ℕ, Bool, true, false, List, refl, sym, subst, Ok, Err, Result, IfOk, IfErr, IsErrAnd, Option}
use Rattle.std.specs.Prelude.{not, MatchResult}
use Rattle.std.specs.Option.{option_map}
use Rattle.ostore_base.specs.declared.page.PageImage.{PageImage}
use Rattle.ostore_segments.specs.Holdings.{PagesHeld, KeepsHomes, Stands, Becomes, Sees}
use Rattle.ostore_segments.proofs.ListSteps.{Becomes-known}
use Rattle.ostore_segments.specs.declared.placement.NoSpace.{NoSpace}
use Rattle.ostore_object_ops.specs.declared.stop.Stop.{Stop}
use Rattle.ostore_object_ops.specs.declared.stop.Stop.TheVariants as stops
use Rattle.ostore_object_ops.specs.Stops.{IfNoSpace, Stopped, IfOutOfMemory}
use Rattle.ostore_object_ops.proofs.LeadFacts.{KeepsLeads, leads_kept}

-- an answer that is opened
pub opened : {a b : PagesHeld} {T E : Type 0} (P : T → List PageImage → Type 0) (Q : E → List PageImage → Type 0) (answer known : Result T E) → answer ≡ known
    → Becomes a b (Sees (λ list. MatchResult answer (λ t. P t list) (λ e. Q e list))) → Becomes a b (Sees (λ list. MatchResult known (λ t. P t list) (λ e. Q e list)))
opened {a} {b} P Q answer known same one = subst (λ (r : Result _ _). Becomes a b (Sees (λ list. MatchResult r (λ t. P t list) (λ e. Q e list)))) same one

-- an answer that is opened, of a change
pub opened_change : {a b : PagesHeld} {T E : Type 0} (P : T → List PageImage → List PageImage → Type 0) (Q : E → List PageImage → List PageImage → Type 0) (answer known : Result T E) → answer ≡ known
    → Becomes a b (λ old new. MatchResult answer (λ t. P t old new) (λ e. Q e old new)) → Becomes a b (λ old new. MatchResult known (λ t. P t old new) (λ e. Q e old new))
opened_change {a} {b} P Q answer known same one = subst (λ (r : Result _ _). Becomes a b (λ old new. MatchResult r (λ t. P t old new) (λ e. Q e old new))) same one

-- a step that leaves each list as it is
pub Becomes-stay : {a : PagesHeld} {P : List PageImage → Type 0} {R : List PageImage → List PageImage → Type 0} → Stands a P → ((list : List PageImage) → P list → R list list) → Becomes a a R
Becomes-stay stands more = record {
  some = stands.some;
  from = λ begun list there. (list, there, more list (stands.each begun list there));
  views = λ page seen. seen;
  homes = λ pointer stored at. at;
}

-- a look, after which all that was asked is known
pub looked : {a b : PagesHeld} {K Q : List PageImage → Type 0} {R : List PageImage → List PageImage → Type 0} → Stands a K → ((list : List PageImage) → K list → Q list → R list list) → Becomes a b (Sees Q) → Becomes a b R
looked {R = R} stands more one = Becomes-known stands (λ old new known seen. subst (λ list. R old list) (sym seen.0) (more old known seen.1)) one

-- the homes of resident pointers stay, so variables lead to where they led
pub keeps_homes : (home later : ℕ → Option ℕ) (bound : List ℕ → Option ℕ) → KeepsHomes home later → KeepsLeads (λ variable. option_map home (bound variable)) (λ variable. option_map later (bound variable))
keeps_homes = leads_kept

pub homes_stay : (home : ℕ → Option ℕ) → KeepsHomes home home
homes_stay home pointer stored at = at

pub homes_then : (first second third : ℕ → Option ℕ) → KeepsHomes first second → KeepsHomes second third → KeepsHomes first third
homes_then first second third one two pointer stored at = two pointer stored (one pointer stored at)

pub ok_map : {T E : Type 0} (P Q : T → Type 0) (r : Result T E) → ((t : T) → P t → Q t) → IfOk r P → IfOk r Q
ok_map P Q (Ok t) more p = more t p
ok_map P Q (Err e) more p = p

pub not_true : (b : Bool) → not b ≡ true → b ≡ false
not_true true e = sym e
not_true false e = refl

pub not_false : (b : Bool) → not b ≡ false → b ≡ true
not_false true e = refl
not_false false e = sym e

-- the same, where something is known of each list that is left
pub looked_at : {a b : PagesHeld} {K Q : List PageImage → Type 0} {R : List PageImage → List PageImage → Type 0} → Stands a K
    → ((list : List PageImage) → K list → Q list → (begun : List PageImage) × b.may_be begun list → R list list) → Becomes a b (Sees Q) → Becomes a b R
looked_at {a} {b} {K} {Q} {R} stands more one = record {
  some = one.some;
  views = one.views;
  homes = one.homes;
  from = λ begun new there.
      let early = one.from begun new there in
      (early.0, early.1, subst (R early.0) (sym early.2.0) (more early.0 (stands.each begun early.0 early.1) early.2.1 (begun, subst (b.may_be begun) early.2.0 there)));
}

pub no_space_map : {F : Type 0} (P Q : NoSpace → Type 0) (stop : Stop F) → ((lack : NoSpace) → P lack → Q lack) → IfNoSpace P stop → IfNoSpace Q stop
no_space_map P Q (stops.NoSpace lack) more p = more lack p
no_space_map P Q (stops.Fault fault) more p = tt
no_space_map P Q stops.OutOfMemory more p = tt

pub stopped_map : {F : Type 0} (P Q : F → Type 0) (R S : Type 0) (stop : Stop F) → ((fault : F) → P fault → Q fault) → (R → S) → Stopped stop P R → Stopped stop Q S
stopped_map P Q R S (stops.Fault fault) more then p = more fault p
stopped_map P Q R S (stops.NoSpace lack) more then p = then p
stopped_map P Q R S stops.OutOfMemory more then p = then p

pub out_of_memory_map : {F : Type 0} (P Q : Type 0) (stop : Stop F) → (P → Q) → IfOutOfMemory P stop → IfOutOfMemory Q stop
out_of_memory_map P Q stops.OutOfMemory more p = more p
out_of_memory_map P Q (stops.Fault fault) more p = tt
out_of_memory_map P Q (stops.NoSpace lack) more p = tt

-- a fault that is handed on
pub handed_on : {T E : Type 0} (Q : E → Type 0) (r : Result T E) (fault : E) → IsErrAnd r (λ it. it ≡ fault) → Q fault → IfErr r Q
handed_on Q (Ok made) fault none is = absurd none
handed_on Q (Err it) fault same is = subst Q (sym same) is
