-- Growth by commands in one place or in several.
use Rattle.std.proofs.Common.{◌≡◌, ℕ, ◌+◌, ◌*◌, ◌≤◌, List, ap, ◌∙◌, arith}
use Rattle.std.proofs.lemmas.Nat.{mul-le}
use Rattle.std.proofs.Math.Nat.{add-mul}
use Rattle.ostore_base.specs.declared.page.PageImage.{PageImage}
use Rattle.ostore_graph_model.specs.Growth.{growth_by}
use Rattle.ostore_object_ops.specs.Executes.{TakesAtMost}

-- more commands, pairs, indexes and names make no less
pub growth_rises : (c p i n d q j m : ℕ) → c ≤ d → p ≤ q → i ≤ j → n ≤ m → growth_by c p i n ≤ growth_by d q j m
growth_rises c p i n d q j m cs ps is ns =
    let first : 8 * c * (1 + p) ≤ 8 * d * (1 + q) = mul-le (8 * c) (1 + p) (8 * d) (1 + q) (mul-le 8 c 8 d (omega arith) cs) (omega (arith, ps)) in
    let all : 8 * c * (1 + p) * i * n ≤ 8 * d * (1 + q) * j * m = mul-le _ n _ m (mul-le _ i _ j first is) ns in
    let own : 2 * c ≤ 2 * d = omega (arith, cs) in
    adds_up (2 * c) (2 * d) _ _ own all
  where
    adds_up : (a b x y : ℕ) → a ≤ b → x ≤ y → a + x ≤ b + y
    adds_up a b x y h k = omega (arith, h, k)

-- the growth by two lots of commands is that by each
pub growth_adds : (a b p i n : ℕ) → growth_by (a + b) p i n ≡ growth_by a p i n + growth_by b p i n
growth_adds a b p i n =
    let eight : 8 * (a + b) ≡ 8 * a + 8 * b = omega arith in
    let pairs : 8 * (a + b) * (1 + p) ≡ 8 * a * (1 + p) + 8 * b * (1 + p) = ap (λ (x : ℕ). x * (1 + p)) eight ∙ add-mul (8 * a) (8 * b) (1 + p) in
    let indexes : 8 * (a + b) * (1 + p) * i ≡ 8 * a * (1 + p) * i + 8 * b * (1 + p) * i = ap (λ (x : ℕ). x * i) pairs ∙ add-mul (8 * a * (1 + p)) (8 * b * (1 + p)) i in
    let names : 8 * (a + b) * (1 + p) * i * n ≡ 8 * a * (1 + p) * i * n + 8 * b * (1 + p) * i * n = ap (λ (x : ℕ). x * n) indexes ∙ add-mul (8 * a * (1 + p) * i) (8 * b * (1 + p) * i) n in
    adds_up a b (8 * (a + b) * (1 + p) * i * n) (8 * a * (1 + p) * i * n) (8 * b * (1 + p) * i * n) names
  where
    adds_up : (a b x y z : ℕ) → x ≡ y + z → 2 * (a + b) + x ≡ 2 * a + y + (2 * b + z)
    adds_up a b x y z is = omega (arith, is)

-- ---- pages taken

pub takes_more : (m n : ℕ) (old middle new : List PageImage) → TakesAtMost m old middle → TakesAtMost n middle new → TakesAtMost (m + n) old new
takes_more m n old middle new first second free has =
    let one = first free has in
    let two = second one.0 one.1 in
    let less = one.2 in
    let fewer = two.2 in
    (two.0, two.1, omega (arith, less, fewer))

pub takes_within : (m n : ℕ) (old new : List PageImage) → m ≤ n → TakesAtMost m old new → TakesAtMost n old new
takes_within m n old new more takes free has =
    let one = takes free has in
    let less = one.2 in
    (one.0, one.1, omega (arith, less, more))
