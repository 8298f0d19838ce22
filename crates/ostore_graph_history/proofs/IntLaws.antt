-- Schemas of ints: no index, and two pages for each command.
use Rattle.std.proofs.Common.{◌≡◌, ℕ, ◌+◌, ◌*◌, true, false, length, sym, ap, ◌∙◌, arith}
use Rattle.std.specs.Prelude.{filter}
use Rattle.std.specs.FinMap as maps
use Rattle.std.proofs.Math.Nat.{mul-zero, zero-mul}
use Rattle.ostore_schema_layout.specs.declared.schema.Schema.{Schema}
use Rattle.ostore_graph_model.specs.Growth.{declares, growth_by}
use Rattle.ostore_graph_model.specs.Kinds.{is_collection}
use Rattle.ostore_graph_model.specs.LawsOfIndexes.{HasNoIndexable}
use Rattle.ostore_graph_model.specs.Orders.{index_cmp}
use Rattle.ostore_graph_model.specs.Sets as sets
use Rattle.ostore_graph_model.proofs.UndeclaredLaw.{undeclared_law}
use Rattle.ostore_object_ops.specs.Suits.{IsOfInts}
use Rattle.ostore_object_ops.proofs.IntSchemas.{ints_here}
use Rattle.ostore_graph_history.specs.Space.{LawOfSchemasOfInts}

not_indexable : (schema : Schema) → IsOfInts schema → HasNoIndexable schema
not_indexable schema ints ty member def there collection =
    let none : false ≡ true = sym (ap is_collection (ints_here schema ints ty member def there)) ∙ collection in
    absurd cc

two_each : (n p m : ℕ) → growth_by n p 0 m ≡ 2 * n
two_each n p m =
    let none : 8 * n * (1 + p) * 0 * m ≡ 0 = ap (λ (x : ℕ). x * m) (mul-zero (8 * n * (1 + p))) ∙ zero-mul m in
    adds_up n _ none
  where
    adds_up : (n x : ℕ) → x ≡ 0 → 2 * n + x ≡ 2 * n
    adds_up n x is = omega (arith, is)

pub int_law : LawOfSchemasOfInts
int_law schema pages graph ints valid stands =
    let none : graph.indexes ≡ sets.empty = undeclared_law schema pages graph (not_indexable schema ints) valid stands in
    record {
      indexes = none;
      growth = λ commands undeclared.
          let long : maps.len graph.indexes + length (filter declares commands) ≡ 0 =
          (λ i. maps.len (none i) + length (undeclared i)) ∙ ap (λ (n : ℕ). n + 0) (maps.len-empty index_cmp (Unit {0})) in
          ap (λ (x : ℕ). growth_by (length commands) (maps.len graph.pairs + length commands) x (maps.len graph.objects + length commands)) long
          ∙ two_each (length commands) (maps.len graph.pairs + length commands) (maps.len graph.objects + length commands);
    }
