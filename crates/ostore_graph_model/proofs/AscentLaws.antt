-- What goes first: by which of its two sides a link goes, and the order of an index.
use Rattle.std.proofs.Common.{◌≡◌, ℕ, ◌<◌, ◌⊎◌, ℤ, ◌<ℤ◌, inl, inr, List, [], ◌∷◌, refl, sym, ap, subst, ◌∙◌, Some, true≢false}
use Rattle.std.specs.Prelude.{IsTrue}
use Rattle.std.specs.List.{AllByRecursion}
use Rattle.std.specs.declared.cmp.Ordering.{Ordering}
use Rattle.std.specs.declared.cmp.Ordering.TheVariants.{Less, Equal, Greater}
use Rattle.std.specs.Ordering.{nat_cmp, int_cmp, ordering_then, is_lt}
use Rattle.std.proofs.lemmas.Cmp.{ranked, int_ranked}
use Rattle.std.proofs.lemmas.Option.{same_Some}
use Rattle.ostore_schema_layout.specs.declared.schema.MemberDef.{MemberDef}
use Rattle.ostore_schema_layout.specs.Cells.{ArePairwise}
use Rattle.ostore_graph_model.specs.declared.commands.Key.TheVariants as keys
use Rattle.ostore_graph_model.specs.Orders.{name_cmp}
use Rattle.ostore_graph_model.specs.Links.{comes_first}
use Rattle.ostore_graph_model.specs.IndexRules.{AreInOrder}
use Rattle.ostore_graph_model.specs.LawsOfLinks.{LawOfFirstSides}
use Rattle.ostore_graph_model.specs.LawsOfIndexes.{AscendByInt, LawOfIndexOrder}

less_by_two : (a b c d : ℕ) → IsTrue (is_lt (ordering_then (nat_cmp a b) (nat_cmp c d))) → (a < b) ⊎ ((a ≡ b) × (c < d))
less_by_two a b c d less = by (nat_cmp a b) refl (nat_cmp c d) refl less
  where
    by : (first : Ordering) → first ≡ nat_cmp a b → (second : Ordering) → second ≡ nat_cmp c d → IsTrue (is_lt (ordering_then first second)) → (a < b) ⊎ ((a ≡ b) × (c < d))
    by Less e second f is = inl (ranked a b Less e)
    by Equal e Less f is = inr (ranked a b Equal e, ranked c d Less f)
    by Equal e Equal f is = absurd (true≢false (sym is))
    by Equal e Greater f is = absurd (true≢false (sym is))
    by Greater e second f is = absurd (true≢false (sym is))

pub sides_law : LawOfFirstSides
sides_law schema pages graph pair def inverse stands paired defined sided =
    let link = ((stands.pairs pair).0 paired).link in
    let same : link.def ≡ def = same_Some _ _ (sym link.defined ∙ defined) in
    let first : IsTrue (comes_first pair.link (Some inverse)) = subst (λ other. IsTrue (comes_first pair.link other)) (ap (λ (d : MemberDef). d.inverse) same ∙ sided) link.first in
    less_by_two pair.link.ty.0 inverse.ty.0 pair.link.member.0 inverse.member.0 first

ascend : (first second : ℤ) (names : Ordering) → ordering_then (int_cmp first second) names ≡ Less → (first ≡ second) ⊎ (first <ℤ second)
ascend first second names less = by (int_cmp first second) refl less
  where
    by : (ints : Ordering) → ints ≡ int_cmp first second → ordering_then ints names ≡ Less → (first ≡ second) ⊎ (first <ℤ second)
    by Less e is = inr (int_ranked first second Less e)
    by Equal e is = inl (int_ranked first second Equal e)
    by Greater e is = cc

all_so : {X : Type 0} (P Q : X → Type 0) → ((x : X) → P x → Q x) → (xs : List X) → AllByRecursion P xs → AllByRecursion Q xs
all_so P Q so [] all = tt
all_so P Q so (x ∷ xs) all = (so x all.0, all_so P Q so xs all.1)

pairs_so : {X : Type 0} (P Q : X → X → Type 0) → ((x y : X) → P x y → Q x y) → (xs : List X) → ArePairwise P xs → ArePairwise Q xs
pairs_so P Q so [] all = tt
pairs_so P Q so (x ∷ xs) all = (all_so (P x) (Q x) (so x) xs all.0, pairs_so P Q so xs all.1)

pub index_order_law : LawOfIndexOrder
index_order_law schema heap graph set owner path entries index =
    pairs_so AreInOrder AscendByInt
    (λ earlier later in_order first second one two. ascend first second (name_cmp earlier.name later.name) (in_order (keys.Int first) (keys.Int second) one two))
    entries index.order
