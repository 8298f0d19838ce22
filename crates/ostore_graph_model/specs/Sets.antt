-- Finite sets as finite maps with nothing at each key, so that all that is known of the entries of a map is known
-- of the items of a set: they ascend, each stands once, and two sets with the same items are equal.
use Rattle.std.specs.Prelude.{Bool, List, [], ◌∷◌}
use Rattle.std.specs.declared.cmp.Ordering.{Ordering}
use Rattle.std.specs.FinMap as maps

abbrev pub FinSet : {K : Type 0} → (K → K → Ordering) → Type 0
FinSet R = maps.FinMap R (Unit {0})

module _ {K : Type 0} {R : K → K → Ordering} where
  abbrev pub empty : FinSet R
  empty = maps.empty

  abbrev pub contains : FinSet R → K → Bool
  contains set key = maps.contains_key set key

  abbrev pub insert : FinSet R → K → FinSet R
  insert set key = maps.insert set key tt

  abbrev pub remove : FinSet R → K → FinSet R
  remove set key = maps.remove set key

  -- the items that pass a test
  abbrev pub retain : FinSet R → (K → Bool) → FinSet R
  retain set test = maps.retain_keys set test

  -- in the order of the keys
  abbrev pub items : FinSet R → List K
  items set = maps.keys set

  abbrev pub from_list : List K → FinSet R
  from_list [] = empty
  from_list (key ∷ keys) = insert (from_list keys) key
