-- What the operations of sets answer.
use Rattle.std.proofs.Common.{◌≡◌, ◌&&◌, ◌||◌, not, Bool, true, false, cond, List, [], ◌∷◌, refl, ap, ◌∙◌, Option, Some, None}
use Rattle.std.specs.Prelude.{is_some}
use Rattle.std.specs.List.{list_any}
use Rattle.std.specs.declared.cmp.Ordering.{Ordering}
use Rattle.std.specs.declared.cmp.Ordering.TheVariants.{Equal}
use Rattle.std.specs.Ordering.{eq_by_cmp}
use Rattle.std.specs.Cmp.{IsTotalOrder}
use Rattle.std.specs.FinMap as maps
use Rattle.std.specs.FinMap.{IsAntisymmetric}
use Rattle.ostore_graph_model.specs.Sets.{FinSet, empty, contains, insert, remove, retain, from_list}

put_or : (b : Bool) (x : Option (Unit {0})) → is_some (cond b (Some tt) x) ≡ (b || is_some x)
put_or true x = refl
put_or false x = refl

none_or : (b : Bool) (x : Option (Unit {0})) → is_some (cond b None x) ≡ (not b && is_some x)
none_or true x = refl
none_or false x = refl

some_and : (b : Bool) (x : Option (Unit {0})) → is_some (cond b x None) ≡ (is_some x && b)
some_and true None = refl
some_and true (Some u) = refl
some_and false None = refl
some_and false (Some u) = refl

same_unit : (x y : Option (Unit {0})) → is_some x ≡ is_some y → x ≡ y
same_unit None None e = refl
same_unit None (Some v) e = cc
same_unit (Some u) None e = cc
same_unit (Some u) (Some v) e = refl

pub contains-empty : {K : Type 0} (R : K → K → Ordering) (q : K) → contains (empty {R = R}) q ≡ false
contains-empty R q = ap is_some (maps.get-empty R q)

module _ {K : Type 0} {R : K → K → Ordering} where
  pub contains-retain : (s : FinSet R) (p : K → Bool) (q : K) → ((x : K) → R q x ≡ Equal → p x ≡ p q) → contains (retain s p) q ≡ (contains s q && p q)
  contains-retain s p q same = ap is_some (maps.get-retain_keys s p q same) ∙ some_and (p q) (maps.get s q)

module _ {K : Type 0} {R : K → K → Ordering} (o : IsTotalOrder R) where
  pub contains-insert : (s : FinSet R) (k q : K) → contains (insert s k) q ≡ (eq_by_cmp R q k || contains s q)
  contains-insert s k q = ap is_some (maps.get-insert o s k tt q) ∙ put_or (eq_by_cmp R q k) (maps.get s q)

  pub contains-remove : (s : FinSet R) (k q : K) → contains (remove s k) q ≡ (not (eq_by_cmp R q k) && contains s q)
  contains-remove s k q = ap is_some (maps.get-remove o s k q) ∙ none_or (eq_by_cmp R q k) (maps.get s q)

  pub contains-from_list : (ks : List K) (q : K) → contains (from_list {R = R} ks) q ≡ list_any (eq_by_cmp R q) ks
  contains-from_list [] q = contains-empty R q
  contains-from_list (k ∷ ks) q = contains-insert (from_list ks) k q ∙ ap (λ b. eq_by_cmp R q k || b) (contains-from_list ks q)

  pub same_set : IsAntisymmetric R → (s t : FinSet R) → ((q : K) → contains s q ≡ contains t q) → s ≡ t
  same_set same s t alike = maps.same_map o same s t (λ q. same_unit (maps.get s q) (maps.get t q) (alike q))
