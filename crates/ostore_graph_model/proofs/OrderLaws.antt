-- The orders of the graph's keys are total, and only equal keys tie.
use Rattle.std.proofs.Common.{◌≡◌, ℕ, true, false, refl, sym, ap, ap₂, ◌∙◌, List}
use Rattle.std.specs.declared.cmp.Ordering.{Ordering}
use Rattle.std.specs.declared.cmp.Ordering.TheVariants.{Less, Equal, Greater}
use Rattle.std.specs.Ordering.{nat_cmp, ordering_then, eq_by_cmp, is_eq}
use Rattle.std.specs.Cmp.{IsTotalOrder, Equal-is}
use Rattle.std.specs.Cmp.Lexicographic.{slice_cmp}
use Rattle.std.specs.FinMap.{IsAntisymmetric, nat_cmp-IsAntisymmetric, slice_cmp-IsAntisymmetric}
use Rattle.std.proofs.lemmas.Bool.{false_from_ne_true}
use Rattle.std.proofs.lemmas.Cmp.{nat_cmp_total, on_total, then_total, lists_total, tied_itself}
use Rattle.ostore_schema_layout.specs.declared.schema.MemberNo.{MemberNo}
use Rattle.ostore_graph_model.specs.declared.values.Name.{Name}
use Rattle.ostore_graph_model.specs.Orders.{name_cmp, TypeMember, type_member_cmp, Pair, pair_cmp, ObjectMember, object_member_cmp, member_cmp, PathIndex, index_cmp}

pub member_cmp-IsTotalOrder : IsTotalOrder member_cmp
member_cmp-IsTotalOrder = on_total (λ (m : MemberNo). m.0) nat_cmp_total

pub member_cmp-IsAntisymmetric : IsAntisymmetric member_cmp
member_cmp-IsAntisymmetric a b e = ap (λ (n : ℕ). record { 0 = n }) (nat_cmp-IsAntisymmetric a.0 b.0 e)

both_tie : (a b : Ordering) → ordering_then a b ≡ Equal → (a ≡ Equal) × (b ≡ Equal)
both_tie Less b e = cc
both_tie Equal b e = (refl, e)
both_tie Greater b e = cc

pub name_cmp-IsTotalOrder : IsTotalOrder name_cmp
name_cmp-IsTotalOrder = then_total (on_total (λ (n : Name). n.segment) nat_cmp_total) (on_total (λ (n : Name). n.serial) nat_cmp_total)

pub name_cmp-IsAntisymmetric : IsAntisymmetric name_cmp
name_cmp-IsAntisymmetric a b e =
    let both = both_tie (nat_cmp a.segment b.segment) (nat_cmp a.serial b.serial) e in
    ap₂ (λ (s n : ℕ). record { segment = s; serial = n }) (nat_cmp-IsAntisymmetric _ _ both.0) (nat_cmp-IsAntisymmetric _ _ both.1)

pub type_member_cmp-IsTotalOrder : IsTotalOrder type_member_cmp
type_member_cmp-IsTotalOrder = then_total (on_total (λ (s : TypeMember). s.ty.0) nat_cmp_total) (on_total (λ (s : TypeMember). s.member.0) nat_cmp_total)

pub type_member_cmp-IsAntisymmetric : IsAntisymmetric type_member_cmp
type_member_cmp-IsAntisymmetric a b e =
    let both = both_tie (nat_cmp a.ty.0 b.ty.0) (member_cmp a.member b.member) e in
    ap₂ (λ (s n : ℕ). record { ty = record { 0 = s }; member = record { 0 = n } }) (nat_cmp-IsAntisymmetric _ _ both.0) (nat_cmp-IsAntisymmetric _ _ both.1)

pub pair_cmp-IsTotalOrder : IsTotalOrder pair_cmp
pair_cmp-IsTotalOrder =
    then_total (on_total (λ (p : Pair). p.link) type_member_cmp-IsTotalOrder) (then_total (on_total (λ (p : Pair). p.first) name_cmp-IsTotalOrder) (on_total (λ (p : Pair). p.second) name_cmp-IsTotalOrder))

pub pair_cmp-IsAntisymmetric : IsAntisymmetric pair_cmp
pair_cmp-IsAntisymmetric a b e =
    let outer = both_tie (type_member_cmp a.link b.link) (ordering_then (name_cmp a.first b.first) (name_cmp a.second b.second)) e in
    let inner = both_tie (name_cmp a.first b.first) (name_cmp a.second b.second) outer.1 in
    let link = type_member_cmp-IsAntisymmetric _ _ outer.0 in
    let first = name_cmp-IsAntisymmetric _ _ inner.0 in
    let second = name_cmp-IsAntisymmetric _ _ inner.1 in
    λ i. record { link = link i; first = first i; second = second i }

pub object_member_cmp-IsTotalOrder : IsTotalOrder object_member_cmp
object_member_cmp-IsTotalOrder = then_total (on_total (λ (p : ObjectMember). p.object) name_cmp-IsTotalOrder) (on_total (λ (p : ObjectMember). p.member.0) nat_cmp_total)

pub object_member_cmp-IsAntisymmetric : IsAntisymmetric object_member_cmp
object_member_cmp-IsAntisymmetric a b e =
    let both = both_tie (name_cmp a.object b.object) (member_cmp a.member b.member) e in
    ap₂ (λ (o : Name) (m : ℕ). record { object = o; member = record { 0 = m } }) (name_cmp-IsAntisymmetric _ _ both.0) (nat_cmp-IsAntisymmetric _ _ both.1)

pub index_cmp-IsTotalOrder : IsTotalOrder index_cmp
index_cmp-IsTotalOrder = then_total (on_total (λ (x : PathIndex). x.set) object_member_cmp-IsTotalOrder) (on_total (λ (x : PathIndex). x.path) (lists_total member_cmp-IsTotalOrder))

pub index_cmp-IsAntisymmetric : IsAntisymmetric index_cmp
index_cmp-IsAntisymmetric a b e =
    let both = both_tie (object_member_cmp a.set b.set) (slice_cmp member_cmp a.path b.path) e in
    ap₂ (λ (s : ObjectMember) (p : List MemberNo). record { set = s; path = p }) (object_member_cmp-IsAntisymmetric _ _ both.0) (slice_cmp-IsAntisymmetric member_cmp-IsAntisymmetric _ _ both.1)

module _ {K : Type 0} {R : K → K → Ordering} where
  pub tied_same : IsAntisymmetric R → (x y : K) → eq_by_cmp R x y ≡ true → x ≡ y
  tied_same same x y e = same x y ((Equal-is (R x y)).0 e)

  pub same_tied : IsTotalOrder R → (x y : K) → x ≡ y → eq_by_cmp R x y ≡ true
  same_tied o x y e = ap is_eq (ap (R x) (sym e) ∙ tied_itself o x)

  pub apart_tied : IsAntisymmetric R → (x y : K) → (x ≡ y → ⊥) → eq_by_cmp R x y ≡ false
  apart_tied same x y apart = false_from_ne_true _ (λ e. apart (tied_same same x y e))
