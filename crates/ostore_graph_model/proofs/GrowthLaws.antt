-- A transaction's commands are among its script's, so they count for no more.
use Rattle.std.proofs.Common.{◌≡◌, ℕ, zero, suc, ◌+◌, ◌-◌, ◌*◌, ◌≤◌, Bool, true, false, List, [], ◌∷◌, ◌++◌, length, filter, Option, Some, None, refl, ap, subst, ◌∙◌, arith}
use Rattle.std.specs.Prelude.{flat_map, slice_get, unwrap_or, if◌then◌else◌, ◌==◌}
use Rattle.std.specs.Option.{option_and_then}
use Rattle.std.proofs.lemmas.Nat.{mul-le}
use Rattle.std.proofs.lemmas.List.{length-append}
use Rattle.std.proofs.lemmas.List.Elements.{filter-append}
use Rattle.ostore_graph_model.specs.declared.commands.Command.{Command}
use Rattle.ostore_graph_model.specs.declared.commands.Txn.{Txn}
use Rattle.ostore_graph_model.specs.declared.commands.Script.{Script}
use Rattle.ostore_graph_model.specs.Growth.{growth_by, declares, update_commands, LawOfGrowth}

growth_rises : (c p i n d q j m : ℕ) → c ≤ d → p ≤ q → i ≤ j → n ≤ m → growth_by c p i n ≤ growth_by d q j m
growth_rises c p i n d q j m cs ps is ns =
    let first : 8 * c * (1 + p) ≤ 8 * d * (1 + q) = mul-le (8 * c) (1 + p) (8 * d) (1 + q) (mul-le 8 c 8 d (omega arith) cs) (omega (arith, ps)) in
    let all : 8 * c * (1 + p) * i * n ≤ 8 * d * (1 + q) * j * m = mul-le _ n _ m (mul-le _ i _ j first is) ns in
    let own : 2 * c ≤ 2 * d = omega (arith, cs) in
    adds_up (2 * c) (2 * d) _ _ own all
  where
    adds_up : (a b x y : ℕ) → a ≤ b → x ≤ y → a + x ≤ b + y
    adds_up a b x y h k = omega (arith, h, k)

-- a count of commands that adds up over lists
module _ (count : List Command → ℕ) (adds : (xs ys : List Command) → count (xs ++ ys) ≡ count xs + count ys) where
  within : {A : Type 0} (f : A → List Command) (xs : List A) (i : ℕ) (x : A) → slice_get xs i ≡ Some x → count (f x) ≤ count (flat_map f xs)
  within f [] i x e = absurd cc
  within f (y ∷ ys) zero x e =
      let same : y ≡ x = ap (λ o. unwrap_or o x) e in
      subst (λ z. count (f z) ≤ count (f y ++ flat_map f ys)) same (omega (arith, adds (f y) (flat_map f ys)))
  within f (y ∷ ys) (suc i) x e = omega (arith, within f ys i x e, adds (f y) (flat_map f ys))

  of_update : (txn : Txn) → txn.update ≡ true → count (update_commands txn) ≡ count txn.commands
  of_update txn update = ap (λ (b : Bool). count (if b then txn.commands else [])) update

  in_client : (found : Option (List Txn)) (clients : List (List Txn)) (client place : ℕ) (txn : Txn) → slice_get clients client ≡ found
      → option_and_then (λ txns. slice_get txns place) found ≡ Some txn → txn.update ≡ true
      → count txn.commands ≤ count (flat_map (flat_map update_commands) clients)
  in_client None clients client place txn is e update = absurd cc
  in_client (Some txns) clients client place txn is e update =
      let inner = within update_commands txns place txn e in
      let outer = within (flat_map update_commands) clients client txns is in
      omega (arith, inner, outer, of_update txn update)

  in_script : (none : Bool) (script : Script) (client place : ℕ) (txn : Txn)
      → (if none then None else option_and_then (λ txns. slice_get txns place) (slice_get script.clients client)) ≡ Some txn → txn.update ≡ true
      → count txn.commands ≤ count (flat_map (flat_map update_commands) script.clients)
  in_script true script client place txn e update = absurd cc
  in_script false script client place txn e update = in_client (slice_get script.clients client) script.clients client place txn refl e update

counts_add : (xs ys : List Command) → length (filter declares (xs ++ ys)) ≡ length (filter declares xs) + length (filter declares ys)
counts_add xs ys = ap length (filter-append declares xs ys) ∙ length-append (filter declares xs) (filter declares ys)

pub law_of_growth : LawOfGrowth
law_of_growth graph script client ordinal txn named update =
    let few = in_script (λ xs. length xs) (λ xs ys. length-append xs ys) (ordinal == 0) script client (ordinal - 1) txn named update in
    let indexes = in_script (λ xs. length (filter declares xs)) counts_add (ordinal == 0) script client (ordinal - 1) txn named update in
    growth_rises _ _ _ _ _ _ _ _ few (omega (arith, few)) (omega (arith, indexes)) (omega (arith, few))
