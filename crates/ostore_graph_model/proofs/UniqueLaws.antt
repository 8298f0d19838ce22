-- Pages stand for one graph at most.
use Rattle.std.proofs.Common.{◌≡◌, ◌≢◌, ◌↔◌, true, refl, sym, ◌∙◌, Option, Some, None, inl, inr}
use Rattle.std.specs.declared.cmp.Ordering.{Ordering}
use Rattle.std.specs.Cmp.{IsTotalOrder}
use Rattle.std.specs.FinMap as maps
use Rattle.ostore_graph_model.specs.Sets as sets
use Rattle.ostore_graph_model.proofs.SetFacts as set_facts
use Rattle.std.specs.FinMap.{IsAntisymmetric, nat_cmp-IsAntisymmetric, slice_cmp-IsAntisymmetric}
use Rattle.std.proofs.lemmas.Bool.{false_from_ne_true, cases_Bool, true≢false}
use Rattle.std.proofs.lemmas.Cmp.{nat_cmp_total, nat_list_cmp_total}
use Rattle.std.proofs.lemmas.Option.{none-some}
use Rattle.ostore_graph_model.specs.FixedPages.{roots_of, serial_of}
use Rattle.ostore_graph_model.specs.LawsOfMeaning.{LawOfOneGraph}
use Rattle.ostore_graph_model.specs.MemberValues.{values_of}
use Rattle.ostore_graph_model.specs.Records.{heap_of}
use Rattle.ostore_graph_model.specs.StandsFor.{HasObject, HasPair, HasList, HasDictionary, HasRoot, HasIndex}
use Rattle.ostore_graph_model.proofs.OrderLaws.{name_cmp-IsTotalOrder, name_cmp-IsAntisymmetric, pair_cmp-IsTotalOrder, pair_cmp-IsAntisymmetric, object_member_cmp-IsTotalOrder, object_member_cmp-IsAntisymmetric, index_cmp-IsTotalOrder, index_cmp-IsAntisymmetric}

-- maps that answer a relation alike are one
module _ {K X : Type 0} {R : K → K → Ordering} (o : IsTotalOrder R) (same : IsAntisymmetric R) where
  pub one_map : (m n : maps.FinMap R X) (has : K → X → Type 0) → ((k : K) (x : X) → (maps.get m k ≡ Some x) ↔ has k x) → ((k : K) (x : X) → (maps.get n k ≡ Some x) ↔ has k x) → m ≡ n
  one_map m n has first second = maps.same_map o same m n (λ k. alike k (maps.get m k) (maps.get n k) refl refl)
    where
      alike : (k : K) (x y : Option X) → maps.get m k ≡ x → maps.get n k ≡ y → x ≡ y
      alike k None None e f = refl
      alike k None (Some y) e f = absurd (none-some y (sym e ∙ (first k y).1 ((second k y).0 f)))
      alike k (Some x) y e f = sym ((second k x).1 ((first k x).0 e)) ∙ f

module _ {K : Type 0} {R : K → K → Ordering} (o : IsTotalOrder R) (same : IsAntisymmetric R) where
  pub one_set : (s t : sets.FinSet R) (has : K → Type 0) → ((k : K) → (sets.contains s k ≡ true) ↔ has k) → ((k : K) → (sets.contains t k ≡ true) ↔ has k) → s ≡ t
  one_set s t has first second = set_facts.same_set o same s t (λ k. alike k)
    where
      alike : (k : K) → sets.contains s k ≡ sets.contains t k
      alike k = elim (cases_Bool (sets.contains s k)) [
        | inl hit ↦ hit ∙ sym ((second k).1 ((first k).0 hit))
        | inr miss ↦ miss ∙ sym (false_from_ne_true (sets.contains t k) (λ e. true≢false (sym ((first k).1 ((second k).0 e)) ∙ miss)))
      ]

-- ---- the graph

pub one_graph : LawOfOneGraph
one_graph schema pages graph other first second = λ i. record {
  objects = one_map name_cmp-IsTotalOrder name_cmp-IsAntisymmetric graph.objects other.objects (HasObject (heap_of schema pages) (values_of schema pages)) first.objects second.objects i;
  pairs = one_set pair_cmp-IsTotalOrder pair_cmp-IsAntisymmetric graph.pairs other.pairs (HasPair schema (heap_of schema pages)) first.pairs second.pairs i;
  lists = one_map object_member_cmp-IsTotalOrder object_member_cmp-IsAntisymmetric graph.lists other.lists (HasList schema (heap_of schema pages)) first.lists second.lists i;
  dictionaries = one_map object_member_cmp-IsTotalOrder object_member_cmp-IsAntisymmetric graph.dictionaries other.dictionaries (HasDictionary schema (heap_of schema pages)) first.dictionaries second.dictionaries i;
  roots = one_map nat_list_cmp_total (slice_cmp-IsAntisymmetric nat_cmp-IsAntisymmetric) graph.roots other.roots (HasRoot (heap_of schema pages) (roots_of pages)) first.roots second.roots i;
  serials = one_map nat_cmp_total nat_cmp-IsAntisymmetric graph.serials other.serials (λ segment serial. (serial_of pages segment ≡ serial) × (serial ≢ 0)) first.serials second.serials i;
  indexes = one_set index_cmp-IsTotalOrder index_cmp-IsAntisymmetric graph.indexes other.indexes (HasIndex schema (heap_of schema pages)) first.indexes second.indexes i;
}
