-- Lowest terms are unique: two points at one position are one triple, and two fractions of one value are one pair.
use Rattle.std.proofs.Common.{◌≡◌, ℕ, zero, suc, ◌*◌, ◌%◌, ◌≤◌, ℤ, pos, ◌*ℤ◌, ◌≤ℤ◌, ◌↔◌, unsigned_abs, refl, sym, ap, subst, ◌∙◌, arith}
use Rattle.std.specs.Int.{IsGcd, ◌∣◌}
use Rattle.std.specs.declared.cmp.Ordering.{Ordering}
use Rattle.std.specs.declared.cmp.Ordering.TheVariants.{Equal}
use Rattle.std.proofs.lemmas.Int.{ints, unsigned_abs-mul}
use Rattle.std.proofs.lemmas.Nat.Gcd.{IsGcd-from_zero, IsGcd-from_mod, dvd_trans, dvd_antisymm}
use Rattle.std.proofs.Math.Nat.{dvd-mul_left}
use Rattle.plan_exact.proofs.Laws.{linear, zero_mul}
use Rattle.plan_exact.proofs.RingVectors.{vector_path}
use Rattle.plan_exact.proofs.Signs.{eq_of_mul}
use Rattle.plan_spec.specs.Vector.{Vector, SameX, SameY, Same}
use Rattle.plan_grid.specs.Bounds.{IsLowest, IsInRange}
use Rattle.plan_grid.specs.Fraction.{Fraction, SameValue, IsRatio}
use Rattle.plan_grid.specs.FractionOrder.{order_is_cmp}
use Rattle.plan_grid.specs.Order.{IsOrder}
use Rattle.plan_grid.proofs.Lowest.{on_axis}
use Rattle.plan_grid.proofs.Multiples.{gcd_of_multiples}

-- two numbers have a greatest common divisor, by induction on a bound of the second
pub gcd_exists : (n a b : ℕ) → b ≤ n → (g : ℕ) × IsGcd a b g
gcd_exists n a zero h = (a, IsGcd-from_zero a 0 refl)
gcd_exists zero a (suc b) h = absurd (omega arith)
gcd_exists (suc n) a (suc b) h =
    let below : a % suc b ≤ n = omega arith in
    let rest = gcd_exists n (suc b) (a % suc b) below in
    (rest.0, IsGcd-from_mod a (suc b) rest.0 rest.1)

-- what divides m times each of three numbers in lowest terms divides m
lowest_multiples : (p : Vector) (m d : ℕ) → IsLowest p → d ∣ m * unsigned_abs p.x → d ∣ m * unsigned_abs p.y → d ∣ m * unsigned_abs p.w → d ∣ m
lowest_multiples p m d lowest x y w =
    let xy = gcd_exists (unsigned_abs p.y) (unsigned_abs p.x) (unsigned_abs p.y) (omega arith) in
    let all = gcd_exists (unsigned_abs p.w) xy.0 (unsigned_abs p.w) (omega arith) in
    let one = lowest all.0 (dvd_trans all.0 all.1.0 xy.1.0) (dvd_trans all.0 all.1.0 xy.1.1) all.1.1 in
    let h = gcd_of_multiples xy.0 (unsigned_abs p.w) all.0 m d all.1 (gcd_of_multiples (unsigned_abs p.x) (unsigned_abs p.y) xy.0 m d xy.1 x y) w in
    let e : m * all.0 ≡ m = omega (arith, ap (λ g. m * g) one) in
    subst (λ n. d ∣ n) e h

-- a cross product, in absolute values
cross_size : (a q b p : ℤ) → a *ℤ q ≡ b *ℤ p → unsigned_abs q * unsigned_abs a ≡ unsigned_abs b * unsigned_abs p
cross_size a q b p e = omega (arith, unsigned_abs-mul a q, unsigned_abs-mul b p, ap unsigned_abs e)

pub weight_divides : (p q : Vector) → IsLowest p → Same p q → unsigned_abs p.w ∣ unsigned_abs q.w
weight_divides p q lowest same =
    let x = subst (λ n. unsigned_abs p.w ∣ n) (sym (cross_size p.x q.w q.x p.w same.0)) (dvd-mul_left (unsigned_abs p.w) (unsigned_abs q.x)) in
    let y = subst (λ n. unsigned_abs p.w ∣ n) (sym (cross_size p.y q.w q.y p.w same.1)) (dvd-mul_left (unsigned_abs p.w) (unsigned_abs q.y)) in
    lowest_multiples p (unsigned_abs q.w) (unsigned_abs p.w) lowest x y (dvd-mul_left (unsigned_abs p.w) (unsigned_abs q.w))

same_size : (a b : ℤ) → pos 1 ≤ℤ a → pos 1 ≤ℤ b → unsigned_abs a ≡ unsigned_abs b → a ≡ b
same_size a b h k e = omega (arith, ints)

-- points in lowest terms at one position are equal
pub equal_from_same : (p q : Vector) → pos 1 ≤ℤ p.w → pos 1 ≤ℤ q.w → IsLowest p → IsLowest q → Same p q → p ≡ q
equal_from_same p q p_weight q_weight p_lowest q_lowest same =
    let back : Same q p = (sym same.0, sym same.1) in
    let w = same_size p.w q.w p_weight q_weight (dvd_antisymm (weight_divides p q p_lowest same) (weight_divides q p q_lowest back)) in
    let nonzero : ¬ (p.w ≡ pos 0) = λ e. omega (arith, linear) in
    vector_path (eq_of_mul p.x q.x p.w nonzero (ap (λ z. p.x *ℤ z) w ∙ same.0)) (eq_of_mul p.y q.y p.w nonzero (ap (λ z. p.y *ℤ z) w ∙ same.1)) w

pub equal_points : (p q : Vector) → IsInRange p → IsInRange q → Same p q → p ≡ q
equal_points p q h k same = equal_from_same p q h.weight k.weight h.lowest k.lowest same

-- the denominator in lowest terms divides that of each fraction of that value
pub den_divides : (p q : Fraction) → IsRatio p → SameValue p q → unsigned_abs p.den ∣ unsigned_abs q.den
den_divides p q h same = weight_divides (on_axis p) (on_axis q) (λ d n z m. h.lowest d n m) (same, zero_mul q.den ∙ sym (zero_mul p.den))

-- two points level in x are equal exactly where they are level in y
pub equal_from_order : (o : Ordering) (p q : Vector) → IsInRange p → IsInRange q → SameX p q → IsOrder o (p.y *ℤ q.w) (q.y *ℤ p.w) → (o ≡ Equal) ↔ (p ≡ q)
equal_from_order o p q h k x order = (
  λ e. equal_points p q h k (x, subst (λ r. IsOrder r (p.y *ℤ q.w) (q.y *ℤ p.w)) e order),
  λ e. order_is_cmp o _ _ order ∙ sym (order_is_cmp Equal (p.y *ℤ q.w) (q.y *ℤ p.w) (subst (λ z. SameY p z) e refl)),
)
