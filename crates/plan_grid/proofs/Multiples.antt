-- The greatest common divisor of two multiples, and with it the least common multiple.
use Rattle.std.proofs.Common.{◌≡◌, ℕ, zero, suc, ◌+◌, ◌*◌, ◌/◌, ◌%◌, ◌<◌, ◌≤◌, sym, subst, ap, ◌∙◌, arith}
use Rattle.std.specs.Int.{IsGcd, ◌∣◌}
use Rattle.std.proofs.lemmas.Nat.Gcd.{dvd_refl, dvd-zero, dvd_trans, le_of_dvd}
use Rattle.std.proofs.Math.Nat.{mul_comm, dvd-add, dvd-add_iff_right, dvd-mul_left, dvd-mul_right, dvd-mul_right_of_dvd, mul-dvd-mul_left, dvd_of_mul-dvd-mul_left}
use Rattle.plan_grid.specs.Fraction.{IsLcm}
use Rattle.plan_grid.proofs.Lowest.{divisor_is_positive}

-- a step of Euclid's algorithm, backwards
step : (a b q r g : ℕ) → b * q + r ≡ a → IsGcd a b g → IsGcd b r g
step a b q r g e (ga, gb, most) =
    let left = dvd-mul_right_of_dvd g gb q in
    let right = (dvd-add_iff_right g left).1 (subst (λ n. g ∣ n) (sym e) ga) in
    (gb, right, λ d db dr. most d (subst (λ n. d ∣ n) e (dvd-add d (dvd-mul_right_of_dvd d db q) dr)) db)

-- what divides m * a and m * b divides m * g, by induction on a bound of b
scaled : (n a b g m d : ℕ) → b ≤ n → IsGcd a b g → d ∣ m * a → d ∣ m * b → d ∣ m * g
scaled n a zero g m d h (ga, gb, most) da db = dvd_trans d da (mul-dvd-mul_left a m (most a (dvd_refl a) (dvd-zero a)))
scaled zero a (suc b) g m d h i da db = absurd (omega arith)
scaled (suc n) a (suc b) g m d h i da db =
    let q = a / suc b in
    let r = a % suc b in
    let e : suc b * q + r ≡ a = omega arith in
    let below : r ≤ n = omega arith in
    let f : m * a ≡ m * suc b * q + m * r = omega (arith, ap (λ x. m * x) e) in
    let left = dvd-mul_right_of_dvd d db q in
    let dr = (dvd-add_iff_right d left).1 (subst (λ k. d ∣ k) f da) in
    scaled n (suc b) r g m d below (step a (suc b) q r g e i) db dr

pub gcd_of_multiples : (a b g m d : ℕ) → IsGcd a b g → d ∣ m * a → d ∣ m * b → d ∣ m * g
gcd_of_multiples a b g m d i da db = scaled b a b g m d (omega arith) i da db

-- a / g * b is the least common multiple of a and b, where g is their greatest common divisor
pub lcm_from_gcd : (a b g q : ℕ) → 0 < g → g * q ≡ a → IsGcd a b g → IsLcm a b (q * b)
lcm_from_gcd a b g q positive e i = (a_divides, dvd-mul_left b q, least)
  where
    both : g * (q * b) ≡ a * b
    both = omega (arith, ap (λ x. x * b) e)

    a_divides : a ∣ q * b
    a_divides = subst (λ n. n ∣ q * b) (mul_comm q g ∙ e) (mul-dvd-mul_left g q i.1)

    least : (m : ℕ) → a ∣ m → b ∣ m → q * b ∣ m
    least m am bm =
        let of_a = subst (λ n. a * b ∣ n) (mul_comm a m) (mul-dvd-mul_left b a bm) in
        let of_b = subst (λ n. n ∣ m * b) (mul_comm b a) (subst (λ n. b * a ∣ n) (mul_comm b m) (mul-dvd-mul_left a b am)) in
        let of_g = subst (λ n. a * b ∣ n) (mul_comm m g) (gcd_of_multiples a b g m (a * b) i of_a of_b) in
        dvd_of_mul-dvd-mul_left (q * b) positive (subst (λ n. n ∣ g * m) (sym both) of_g)

pub lcm_is_positive : (a b l : ℕ) → 0 < a → 0 < b → IsLcm a b l → 0 < l
lcm_is_positive (suc a) (suc b) l h k i = divisor_is_positive l (suc a * suc b) (omega arith) (i.2 (suc a * suc b) (dvd-mul_right (suc a) (suc b)) (dvd-mul_left (suc b) (suc a)))
lcm_is_positive zero b l h k i = absurd (omega arith)
lcm_is_positive (suc a) zero l h k i = absurd (omega arith)

-- no common multiple is less
pub lcm_at_most : (a b l m : ℕ) → IsLcm a b l → 0 < m → a ∣ m → b ∣ m → l ≤ m
lcm_at_most a b l m i h am bm = le_of_dvd h (i.2 m am bm)
