-- What makes a command compute on a graph that is written out: the entries of a map, as each operation leaves them.
use Rattle.std.proofs.Common.{◌≡◌, ℕ, Bool, true, false, not, List, [], ◌∷◌, length, cond, Option, Some, None, refl, sym, ap, ◌∙◌, arith}
use Rattle.std.specs.Prelude.{pos}
use Rattle.std.specs.declared.cmp.Ordering.{Ordering}
use Rattle.std.specs.declared.cmp.Ordering.TheVariants.{Equal}
use Rattle.std.specs.Ordering.{nat_cmp, eq_by_cmp}
use Rattle.std.specs.Cmp.{IsTotalOrder, eq_by_cmp_equiv}
use Rattle.std.proofs.lemmas.Cmp.{nat_cmp_total, nat_list_cmp_total}
use Rattle.std.specs.FinMap as maps
use Rattle.std.specs.FinMap.Entries.{where_key, is_sorted-where_key, find-where_key, put}
use Rattle.ostore_graph_model.specs.declared.values.Name.{Name}
use Rattle.ostore_graph_model.specs.declared.values.Scalar.{Scalar}
use Rattle.ostore_graph_model.specs.declared.values.Scalar.TheVariants as scalars
use Rattle.ostore_graph_model.specs.declared.values.Reply.TheVariants.{Done}
use Rattle.ostore_graph_model.specs.declared.commands.Key.{Key}
use Rattle.ostore_graph_model.specs.Orders.{text_cmp, name_cmp, key_cmp, TypeMember, Pair, pair_cmp, ObjectMember, object_member_cmp, PathIndex, index_cmp}
use Rattle.ostore_graph_model.specs.Graph.{Object, empty_graph}
use Rattle.ostore_graph_model.specs.Deeds.{Stepped}
use Rattle.ostore_graph_model.proofs.KeyLaws.{key_cmp-IsTotalOrder, key_cmp-IsAntisymmetric}
use Rattle.ostore_graph_model.proofs.OrderLaws.{name_cmp-IsTotalOrder, name_cmp-IsAntisymmetric, pair_cmp-IsTotalOrder, pair_cmp-IsAntisymmetric, object_member_cmp-IsTotalOrder, object_member_cmp-IsAntisymmetric, index_cmp-IsTotalOrder, index_cmp-IsAntisymmetric}

no_items : {A : Type 0} (xs : List A) → length xs ≡ 0 → xs ≡ []
no_items [] e = refl
no_items (x ∷ xs) e = absurd (omega (arith, e))

pub entries-empty : {K : Type 0} (R : K → K → Ordering) (X : Type 0) → maps.entries (maps.empty {X = X} {R = R}) ≡ []
entries-empty R X = no_items _ (sym (maps.len-entries (maps.empty {X = X} {R = R})) ∙ maps.len-empty R X)

module _ {K X : Type 0} {R : K → K → Ordering} (o : IsTotalOrder R) (same : maps.IsAntisymmetric R) where
  -- a map has these entries where it answers as they do
  entries_are : (m : maps.FinMap R X) (old : maps.FinMap R X) (p : K → Bool) → ((q : K) → maps.get m q ≡ cond (p q) (maps.get old q) None)
      → maps.entries m ≡ where_key R p (maps.entries old)
  entries_are m old p gets =
      let sorted = is_sorted-where_key R p (maps.entries old) (maps.entries_sorted old) in
      let alike : (q x : K) → R q x ≡ Equal → p x ≡ p q = λ q x e. ap p (sym (same q x e)) in
      ap maps.entries (maps.same_map o same m (maps.from_sorted {R = R} (where_key R p (maps.entries old))) (λ q.
      gets q ∙ ap (λ g. cond (p q) g None) (maps.get-entries old q)
      ∙ sym (maps.get-from_sorted R _ q sorted ∙ find-where_key R p q (alike q) (maps.entries old))))
      ∙ maps.entries-from_sorted R _ sorted

  pub entries-retain_keys : (m : maps.FinMap R X) (p : K → Bool) → maps.entries (maps.retain_keys m p) ≡ where_key R p (maps.entries m)
  entries-retain_keys m p = entries_are (maps.retain_keys m p) m p (λ q. maps.get-retain_keys m p q (λ x e. ap p (sym (same q x e))))

  turned : (b : Bool) (x y : Option X) → cond b x y ≡ cond (not b) y x
  turned true x y = refl
  turned false x y = refl

  pub entries-remove : (m : maps.FinMap R X) (k : K) → maps.entries (maps.remove m k) ≡ where_key R (λ x. not (eq_by_cmp R k x)) (maps.entries m)
  entries-remove m k = entries_are (maps.remove m k) m (λ x. not (eq_by_cmp R k x)) (λ q.
      maps.get-remove o m k q
      ∙ ap (λ b. cond b None (maps.get m q)) ((eq_by_cmp_equiv o).symm q k)
      ∙ turned (eq_by_cmp R k q) None (maps.get m q))

-- ---- the same at the orders of a graph

pub inserted_nat : {X : Type 0} (m : maps.FinMap nat_cmp X) (k : ℕ) (v : X) → maps.entries (maps.insert m k v) ≡ put nat_cmp k v (maps.entries m)
inserted_nat m k v = maps.entries-insert nat_cmp_total m k v

pub inserted_text : {X : Type 0} (m : maps.FinMap text_cmp X) (k : List ℕ) (v : X) → maps.entries (maps.insert m k v) ≡ put text_cmp k v (maps.entries m)
inserted_text m k v = maps.entries-insert nat_list_cmp_total m k v

pub removed_text : {X : Type 0} (m : maps.FinMap text_cmp X) (k : List ℕ) → maps.entries (maps.remove m k) ≡ where_key text_cmp (λ x. not (eq_by_cmp text_cmp k x)) (maps.entries m)
removed_text m k = entries-remove nat_list_cmp_total (maps.slice_cmp-IsAntisymmetric maps.nat_cmp-IsAntisymmetric) m k

pub inserted_name : {X : Type 0} (m : maps.FinMap name_cmp X) (k : Name) (v : X) → maps.entries (maps.insert m k v) ≡ put name_cmp k v (maps.entries m)
inserted_name m k v = maps.entries-insert name_cmp-IsTotalOrder m k v

pub removed_name : {X : Type 0} (m : maps.FinMap name_cmp X) (k : Name) → maps.entries (maps.remove m k) ≡ where_key name_cmp (λ x. not (eq_by_cmp name_cmp k x)) (maps.entries m)
removed_name m k = entries-remove name_cmp-IsTotalOrder name_cmp-IsAntisymmetric m k

pub inserted_key : {X : Type 0} (m : maps.FinMap key_cmp X) (k : Key) (v : X) → maps.entries (maps.insert m k v) ≡ put key_cmp k v (maps.entries m)
inserted_key m k v = maps.entries-insert key_cmp-IsTotalOrder m k v

pub removed_key : {X : Type 0} (m : maps.FinMap key_cmp X) (k : Key) → maps.entries (maps.remove m k) ≡ where_key key_cmp (λ x. not (eq_by_cmp key_cmp k x)) (maps.entries m)
removed_key m k = entries-remove key_cmp-IsTotalOrder key_cmp-IsAntisymmetric m k

pub inserted_pair : {X : Type 0} (m : maps.FinMap pair_cmp X) (k : Pair) (v : X) → maps.entries (maps.insert m k v) ≡ put pair_cmp k v (maps.entries m)
inserted_pair m k v = maps.entries-insert pair_cmp-IsTotalOrder m k v

pub removed_pair : {X : Type 0} (m : maps.FinMap pair_cmp X) (k : Pair) → maps.entries (maps.remove m k) ≡ where_key pair_cmp (λ x. not (eq_by_cmp pair_cmp k x)) (maps.entries m)
removed_pair m k = entries-remove pair_cmp-IsTotalOrder pair_cmp-IsAntisymmetric m k

pub retained_pair : {X : Type 0} (m : maps.FinMap pair_cmp X) (p : Pair → Bool) → maps.entries (maps.retain_keys m p) ≡ where_key pair_cmp p (maps.entries m)
retained_pair m p = entries-retain_keys pair_cmp-IsTotalOrder pair_cmp-IsAntisymmetric m p

pub inserted_member : {X : Type 0} (m : maps.FinMap object_member_cmp X) (k : ObjectMember) (v : X) → maps.entries (maps.insert m k v) ≡ put object_member_cmp k v (maps.entries m)
inserted_member m k v = maps.entries-insert object_member_cmp-IsTotalOrder m k v

pub removed_member : {X : Type 0} (m : maps.FinMap object_member_cmp X) (k : ObjectMember) → maps.entries (maps.remove m k) ≡ where_key object_member_cmp (λ x. not (eq_by_cmp object_member_cmp k x)) (maps.entries m)
removed_member m k = entries-remove object_member_cmp-IsTotalOrder object_member_cmp-IsAntisymmetric m k

pub retained_member : {X : Type 0} (m : maps.FinMap object_member_cmp X) (p : ObjectMember → Bool) → maps.entries (maps.retain_keys m p) ≡ where_key object_member_cmp p (maps.entries m)
retained_member m p = entries-retain_keys object_member_cmp-IsTotalOrder object_member_cmp-IsAntisymmetric m p

pub inserted_index : {X : Type 0} (m : maps.FinMap index_cmp X) (k : PathIndex) (v : X) → maps.entries (maps.insert m k v) ≡ put index_cmp k v (maps.entries m)
inserted_index m k v = maps.entries-insert index_cmp-IsTotalOrder m k v

pub removed_index : {X : Type 0} (m : maps.FinMap index_cmp X) (k : PathIndex) → maps.entries (maps.remove m k) ≡ where_key index_cmp (λ x. not (eq_by_cmp index_cmp k x)) (maps.entries m)
removed_index m k = entries-remove index_cmp-IsTotalOrder index_cmp-IsAntisymmetric m k

pub ruleset computes = (
  maps.get-entries,
  maps.len-entries,
  entries-empty,
  inserted_nat,
  inserted_text,
  inserted_name,
  inserted_key,
  inserted_pair,
  inserted_member,
  inserted_index,
  removed_text,
  removed_name,
  removed_key,
  removed_pair,
  removed_member,
  removed_index,
  retained_pair,
  retained_member,
)

-- ---- the examples' members and objects

-- before the first command
abbrev pub start : Stepped
start = record { reply = Done; vars = maps.empty; graph = empty_graph }

abbrev pub tm : ℕ → ℕ → TypeMember
tm ty member = record { ty = record { 0 = ty }; member = record { 0 = member } }

abbrev pub om : Name → ℕ → ObjectMember
om x member = record { object = x; member = record { 0 = member } }

-- an object of a type with the values of its members
abbrev bare : ℕ → List (Option Scalar) → Object
bare ty values = record { ty = record { 0 = ty }; values = values }

abbrev pub link : Object
link = bare 1 (Some (scalars.Int (pos 0)) ∷ None ∷ [])

abbrev pub sack : Object
sack = bare 1 (Some (scalars.Int (pos 0)) ∷ None ∷ [])

abbrev pub box : Object
box = bare 1 (None ∷ [])

abbrev pub part : Object
part = bare 2 (Some (scalars.Int (pos 0)) ∷ None ∷ None ∷ None ∷ None ∷ [])

abbrev pub store : Object
store = bare 1 (None ∷ [])

abbrev pub piece : Object
piece = bare 2 (None ∷ None ∷ [])

abbrev pub crate : Object
crate = bare 3 (None ∷ None ∷ [])

abbrev pub shelf_with : List ℕ → Object
shelf_with code = bare 4 (None ∷ Some (scalars.Text code) ∷ [])

abbrev pub shelf : Object
shelf = shelf_with []

abbrev pub bag : Object
bag = bare 1 (None ∷ None ∷ [])

abbrev pub the_index : PathIndex
the_index = record { set = om (record { segment = 1; serial = 1 }) 0; path = record { 0 = 1 } ∷ record { 0 = 1 } ∷ record { 0 = 1 } ∷ [] }
