-- Which slot counts.
use Rattle.std.proofs.Common.{◌≡◌, ◌⊎◌, ◌↔◌, inl, inr, ℕ, ◌+◌, ◌*◌, ◌/◌, ◌%◌, ◌<◌, ◌≤◌, List, length, get_or, take, drop, Option, Some, None, IfSome, Result, Ok, Err, IfOk, subst, sym, ◌∙◌, ap, arith}
use Rattle.std.proofs.Math.Nat.{div-add-mod}
use Rattle.ostore_redo_journal.specs.Records.{u32_at, u64_at}
use Rattle.ostore_redo_journal.specs.Headers.{SlotCounts, IsCurrent, IsOurs, IsPlaced, IsNotDatabase, IsBadBase, HasHeader, journal_at}
use Rattle.ostore_redo_journal.specs.declared.header.Header.{Header}
use Rattle.ostore_redo_journal.specs.Limits.{greatest_base}

-- a number with this remainder by 2
pub half_of : (n parity : ℕ) → n % 2 ≡ parity → (half : ℕ) × (n ≡ 2 * half + parity)
half_of n parity is = (n / 2, sym (div-add-mod n 2) ∙ ap (λ (k : ℕ). 2 * (n / 2) + k) is)

pub remainder_of : (n half parity : ℕ) → parity < 2 → n ≡ 2 * half + parity → n % 2 ≡ parity
remainder_of n half parity small is = omega (arith, small, is)

-- slot A is the current one
pub first_current : (front : List ℕ) → SlotCounts front 64 1 → (SlotCounts front 128 0 → u32_at front 129 ≤ u32_at front 65) → IsCurrent front 64
first_current front counts least = inl (
  Rattle.std.proofs.Common.refl,
  record {
    counts = counts;
    newer = λ other. let le = least other in omega (arith, le, counts.right.1, other.right.1);
  },
)

-- slot B is
pub second_current : (front : List ℕ) → SlotCounts front 128 0 → (SlotCounts front 64 1 → u32_at front 65 < u32_at front 129) → IsCurrent front 128
second_current front counts newer = inr (Rattle.std.proofs.Common.refl, record { counts = counts; newer = newer })

-- the format is 1
format_one : (front : List ℕ) (size : ℕ) → IsOurs front size → u32_at front 8 ≤ 1 → u32_at front 8 ≡ 1
format_one front size ours small = omega (arith, small, ours.some)

-- where the pages don't fit or no slot counts
pub not_placed : (front : List ℕ) (size : ℕ) → IsOurs front size → u32_at front 8 ≤ 1 → (IsPlaced front size → ⊥) → IsNotDatabase front size
not_placed front size ours small none = inr (ours, format_one front size ours small, none)

-- where the base is too great
pub bad_base : (front : List ℕ) (size at : ℕ) → IsOurs front size → u32_at front 8 ≤ 1 → IsPlaced front size → IsCurrent front at → greatest_base < u64_at front (at + 5) → IsBadBase front size at
bad_base front size at ours small placed current great = record {
  ours = ours;
  format = format_one front size ours small;
  placed = placed;
  current = current;
  great = great;
}

-- where it isn't
pub has_header : (front : List ℕ) (size at : ℕ) (h : Header) → IsOurs front size → u32_at front 8 ≤ 1 → IsPlaced front size → IsCurrent front at → h.pages ≡ u32_at front 12 → h.generation ≡ u32_at front (at + 1) → h.base ≡ u64_at front (at + 5) → h.base ≤ greatest_base → HasHeader front h × (journal_at h < size)
has_header front size at h ours small placed current pages generation base fits = (
  record {
    name = ours.name;
    format = format_one front size ours small;
    pages = pages;
    least = omega (arith, pages, placed.least);
    most = omega (arith, pages, placed.most);
    at = at;
    current = current;
    generation = generation;
    base = base;
    small = fits;
  },
  omega (arith, pages, placed.long),
)

-- what holds of the first bytes that were read holds of the disk's, where it tells
pub told_front : (told mid : Option (List ℕ)) (front : List ℕ) (size : ℕ) (P : List ℕ → ℕ → Type 0) → mid ≡ told → length front ≡ 4096 → IfSome mid (λ held. front ≡ take (length front) (drop 0 held)) → IfSome told (λ held. size ≡ length held) → P front size → IfSome told (λ held. P (take 4096 held) (length held))
told_front None mid front size P same long stands whole right = tt
told_front (Some held) mid front size P same long stands whole right =
    let here : front ≡ take (length front) held = subst (λ (o : Option (List ℕ)). IfSome o (λ b. front ≡ take (length front) (drop 0 b))) same stands in
    let is : front ≡ take 4096 held = here ∙ ap (λ (n : ℕ). take n held) long in
    subst (λ (f : List ℕ). P f (length held)) is (subst (P front) whole right)

pub told_ok : {H E : Type 0} (result : Result H E) (told mid : Option (List ℕ)) (front : List ℕ) (size : ℕ) (P : H → List ℕ → ℕ → Type 0) → mid ≡ told → length front ≡ 4096 → IfSome mid (λ held. front ≡ take (length front) (drop 0 held)) → IfSome told (λ held. size ≡ length held) → IfOk result (λ h. P h front size) → IfOk result (λ h. IfSome told (λ held. P h (take 4096 held) (length held)))
told_ok (Ok h) told mid front size P same long stands whole right = told_front told mid front size (P h) same long stands whole right
told_ok (Err e) told mid front size P same long stands whole right = tt
