-- Members of a schema of ints.
use Rattle.std.proofs.Common.{◌≡◌, ℕ, zero, suc, List, [], ◌∷◌, refl, subst, Option, Some, None}
use Rattle.std.specs.List.{slice_get, AllByRecursion}
use Rattle.std.proofs.lemmas.Option.{same_Some, none-some}
use Rattle.ostore_schema_layout.specs.declared.schema.Schema.{Schema}
use Rattle.ostore_schema_layout.specs.declared.schema.TypeDef.{TypeDef}
use Rattle.ostore_schema_layout.specs.declared.schema.MemberDef.{MemberDef}
use Rattle.ostore_schema_layout.specs.declared.schema.MemberKind.TheVariants as kinds
use Rattle.ostore_schema_layout.specs.Numbers.{members_of, members_of_found}
use Rattle.ostore_object_ops.specs.Suits.{AreInts, IsOfInts}

all_get : {X : Type 0} (P : X → Type 0) (xs : List X) (i : ℕ) (x : X) → AllByRecursion P xs → slice_get xs i ≡ Some x → P x
all_get P [] i x all there = absurd (none-some x there)
all_get P (first ∷ xs) zero x all there = subst P (same_Some first x there) all.0
all_get P (first ∷ xs) (suc i) x all there = all_get P xs i x all.1 there

pub ints_here : (schema : Schema) → IsOfInts schema → (ty member : ℕ) (def : MemberDef) → slice_get (members_of schema ty) member ≡ Some def → def.kind ≡ kinds.Int
ints_here schema ints zero member def there = absurd (none-some def there)
ints_here schema ints (suc n) member def there = by (slice_get schema.types n) (λ ty is. all_get (λ (t : TypeDef). AreInts t.members) schema.types n ty ints is) there
  where
    by : (found : Option TypeDef) → ((ty : TypeDef) → found ≡ Some ty → AreInts ty.members) → slice_get (members_of_found found) member ≡ Some def → def.kind ≡ kinds.Int
    by None each there = absurd (none-some def there)
    by (Some ty) each there = all_get (λ (m : MemberDef). m.kind ≡ kinds.Int) ty.members member def (each ty refl) there
