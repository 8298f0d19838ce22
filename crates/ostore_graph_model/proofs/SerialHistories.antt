-- Transactions that ran one after the other, in a known order, have one history.
use Rattle.std.proofs.Common.{◌≡◌, ℕ, suc, ◌+◌, ◌<◌, ◌≤◌, Bool, true, false, cond, List, [], ◌∷◌, map, length, get_or, refl, sym, ap, subst, ◌∙◌, arith}
use Rattle.std.specs.Prelude.{All}
use Rattle.std.proofs.lemmas.List.Elements.{All-head, All-tail}
use Rattle.ostore_graph_model.specs.declared.commands.Script.{Script}
use Rattle.ostore_graph_model.specs.declared.history.Committed.{Committed}
use Rattle.ostore_graph_model.specs.Graph.{Graph}
use Rattle.ostore_graph_model.specs.History.{updates, last_number, number_before, IsRight, IsLegalHistory, IsSerial}
use Rattle.ostore_graph_model.specs.LawsOfHistories.{named_by, LawOfSerialHistories}
use Rattle.ostore_graph_model.proofs.HistoryJoins.{update_numbers}
use Rattle.ostore_graph_model.proofs.HistoryGraphs.{same_kind, same_run}

-- how much further a transaction's number is than that of the graph before it
abbrev step_of : Committed → ℕ
step_of one = cond one.entry.update 1 0

length-updates_cons : (one : Committed) (others : List Committed) → length (updates (one ∷ others)) ≡ step_of one + length (updates others)
length-updates_cons one others = go one.entry.update
  where
    go : (b : Bool) → length (cond b (one ∷ updates others) (updates others)) ≡ cond b 1 0 + length (updates others)
    go true = omega arith
    go false = omega arith

-- no update has the number 0
abbrev IsNumberedUpdate : Committed → Type 0
IsNumberedUpdate one = one.entry.update ≡ true → 0 < one.number

after_before : (update : Bool) (number : ℕ) → (update ≡ true → 0 < number) → number ≡ number_before update number + cond update 1 0
after_before true number real = omega (arith, real refl)
after_before false number real = omega arith

-- ---- the rest of a serial history

-- transactions that began at the number n or after it, with no number above top
pub record IsRest (n top : ℕ) (rest : List Committed) : Type 0 where
  pub within : n ≤ top
  pub low : All (λ one. n ≤ number_before one.entry.update one.number) rest
  pub high : All (λ one. one.number ≤ top) rest
  pub real : All IsNumberedUpdate rest
  pub serial : IsSerial rest

rest_tail : (n top : ℕ) (one : Committed) (rest : List Committed) → IsRest n top (one ∷ rest) → IsRest one.number top rest
rest_tail n top one rest is = record {
  within = All-head (λ (c : Committed). c.number ≤ top) one rest is.high;
  low = λ k d lt. is.serial 0 (suc k) d (omega arith) (omega (arith, lt));
  high = All-tail (λ (c : Committed). c.number ≤ top) one rest is.high;
  real = All-tail IsNumberedUpdate one rest is.real;
  serial = λ i j d lt within. is.serial (suc i) (suc j) d (omega (arith, lt)) (omega (arith, within));
}

-- the first of them comes after its step
first_number : (n top : ℕ) (one : Committed) (rest : List Committed) → IsRest n top (one ∷ rest) → n + step_of one ≤ one.number
first_number n top one rest is =
    omega (arith, after_before one.entry.update one.number (All-head IsNumberedUpdate one rest is.real), All-head (λ (c : Committed). n ≤ number_before c.entry.update c.number) one rest is.low)

-- there is room for all of their updates
room : (n top : ℕ) (rest : List Committed) → IsRest n top rest → n + length (updates rest) ≤ top
room n top [] is = omega (arith, is.within)
room n top (one ∷ rest) is =
    omega (arith, room one.number top rest (rest_tail n top one rest is), first_number n top one rest is, length-updates_cons one rest)

-- where they have all numbers up to top, the first has the next
exact : (n top : ℕ) (one : Committed) (rest : List Committed) → IsRest n top (one ∷ rest) → n + length (updates (one ∷ rest)) ≡ top → one.number ≡ n + step_of one
exact n top one rest is full =
    omega (arith, room one.number top rest (rest_tail n top one rest is), first_number n top one rest is, length-updates_cons one rest, full)

exact_rest : (n top : ℕ) (one : Committed) (rest : List Committed) → IsRest n top (one ∷ rest) → n + length (updates (one ∷ rest)) ≡ top → one.number + length (updates rest) ≡ top
exact_rest n top one rest is full = omega (arith, exact n top one rest is full, length-updates_cons one rest, full)

exact_before : (n top : ℕ) (one : Committed) (rest : List Committed) → IsRest n top (one ∷ rest) → n + length (updates (one ∷ rest)) ≡ top → number_before one.entry.update one.number ≡ n
exact_before n top one rest is full =
    omega (arith, exact n top one rest is full, after_before one.entry.update one.number (All-head IsNumberedUpdate one rest is.real))

-- ---- two serial histories of the same transactions

same_head : {X : Type 0} (x y : X) (xs ys : List X) → x ∷ xs ≡ y ∷ ys → x ≡ y
same_head x y xs ys e = cc

same_tail : {X : Type 0} (x y : X) (xs ys : List X) → x ∷ xs ≡ y ∷ ys → xs ≡ ys
same_tail x y xs ys e = cc

same_committed : (one two : Committed) → named_by one ≡ named_by two → one.entry.update ≡ two.entry.update → one.entry.replies ≡ two.entry.replies → one.number ≡ two.number → one ≡ two
same_committed one two named kind replies number = λ i. record {
  entry = record { client = (named i).0; ordinal = (named i).1; update = kind i; replies = replies i };
  number = number i;
}

module _ (script : Script) (first last low high : ℕ) (graphs others : ℕ → Graph) where
  same_lists : (n top end : ℕ) (es fs : List Committed) → IsRest n top es → IsRest n end fs → n + length (updates es) ≡ top → n + length (updates fs) ≡ end
      → map named_by es ≡ map named_by fs → All (IsRight script first last graphs) es → All (IsRight script low high others) fs → graphs n ≡ others n
      → (es ≡ fs) × (graphs top ≡ others end)
  same_lists n top end [] [] is also full filled named right rights same =
      let a : n ≡ top = omega (arith, full) in
      let b : n ≡ end = omega (arith, filled) in
      (refl, ap graphs (sym a) ∙ same ∙ ap others b)
  same_lists n top end [] (f ∷ fs) is also full filled named right rights same = absurd cc
  same_lists n top end (e ∷ es) [] is also full filled named right rights same = absurd cc
  same_lists n top end (e ∷ es) (f ∷ fs) is also full filled named right rights same =
      let a = All-head (IsRight script first last graphs) e es right in
      let b = All-head (IsRight script low high others) f fs rights in
      let whose : named_by e ≡ named_by f = same_head _ _ _ _ named in
      let kind = same_kind a b whose in
      let number : e.number ≡ f.number = exact n top e es is full ∙ ap (λ (u : Bool). n + cond u 1 0) kind ∙ sym (exact n end f fs also filled) in
      let run = same_run a b whose (ap graphs (exact_before n top e es is full) ∙ same ∙ ap others (sym (exact_before n end f fs also filled))) in
      let rest = same_lists e.number top end es fs (rest_tail n top e es is)
      (subst_rest (sym number) (rest_tail n end f fs also))
      (exact_rest n top e es is full) (ap (λ (m : ℕ). m + length (updates fs)) number ∙ exact_rest n end f fs also filled)
      (same_tail _ _ _ _ named) (All-tail (IsRight script first last graphs) e es right) (All-tail (IsRight script low high others) f fs rights)
      (run.graph ∙ ap others (sym number)) in
      ((λ i. same_committed e f whose kind run.replies number i ∷ rest.0 i), rest.1)
    where
      subst_rest : {m n top : ℕ} {rest : List Committed} → m ≡ n → IsRest m top rest → IsRest n top rest
      subst_rest {top = top} {rest = rest} e is = subst (λ (k : ℕ). IsRest k top rest) e is

-- the whole of a serial history
whole : (script : Script) (first : ℕ) (graph last : Graph) (committed : List Committed) → IsLegalHistory script first graph committed last → IsSerial committed → IsRest first (last_number first committed) committed
whole script first graph last committed history serial = record {
  within = omega arith;
  low = λ k d lt. from ((get_or committed k d).entry.update) (get_or committed k d).number (history.right k d lt).from (λ e. (update_numbers history k d lt e).0);
  high = λ k d lt. (history.right k d lt).to;
  real = λ k d lt e. omega (arith, (update_numbers history k d lt e).0);
  serial = serial;
}
  where
    from : (update : Bool) (number : ℕ) → first ≤ number → (update ≡ true → first + 1 ≤ number) → first ≤ number_before update number
    from true number low numbered = omega (arith, numbered refl)
    from false number low numbered = low

pub serial_is_one : LawOfSerialHistories
serial_is_one script first graph last end committed others h k serial also named =
    let found = same_lists script first (last_number first committed) first (last_number first others) h.graphs k.graphs first (last_number first committed) (last_number first others) committed others
    (whole script first graph last committed h serial) (whole script first graph end others k also) refl refl named h.right k.right (h.begins ∙ sym k.begins) in
    (found.0, sym h.ends ∙ found.1 ∙ k.ends)
