-- Factors of two in a pair of numbers, and their greatest common divisor.
use Rattle.std.proofs.Common.{◌≡◌, ◌⊎◌, inl, inr, ⊎_elim, ℕ, zero, suc, ◌+◌, ◌-◌, ◌*◌, ◌/◌, ◌%◌, ◌^◌, ◌<◌, ◌≤◌, sym, subst, ap, ◌∙◌, arith}
use Rattle.std.specs.Int.{IsGcd, ◌∣◌, bit_at}
use Rattle.std.proofs.lemmas.Nat.Bits.{bit_at-suc, bit_at_lowest}
use Rattle.std.proofs.lemmas.Nat.Gcd.{IsGcd-from_mod, IsGcd-from_zero, IsGcd-swap, IsGcd-from_sub, dvd_trans, le_of_dvd}
use Rattle.std.proofs.Math.Nat.{mul_comm, mul_assoc, pow-suc, div-div-eq-div-mul, dvd-mul_left, mul-dvd-mul_left}
use Rattle.plan_grid.proofs.Multiples.{gcd_of_multiples}

-- ---- n with k factors of two more
pub doubled : ℕ → ℕ → ℕ
doubled zero n = n
doubled (suc k) n = 2 * doubled k n

pub doubled_pow : (k n : ℕ) → n * 2 ^ k ≡ doubled k n
unfolding doubled
doubled_pow zero n = omega arith
doubled_pow (suc k) n = ap (λ p. n * p) (pow-suc 2 k) ∙ sym (mul_assoc n (2 ^ k) 2) ∙ mul_comm (n * 2 ^ k) 2 ∙ ap (λ m. 2 * m) (doubled_pow k n)

-- a number whose lowest k bits are 0
pub halves : (k n : ℕ) → ((i : ℕ) → i < k → bit_at n i ≡ 0) → n ≡ doubled k (n / 2 ^ k)
unfolding doubled
halves zero n h = omega arith
halves (suc k) n h =
    let even : n % 2 ≡ 0 = sym (bit_at_lowest n) ∙ h 0 (omega arith) in
    let rest = halves k (n / 2) (λ i less. sym (bit_at-suc n i) ∙ h (suc i) (omega (arith, less))) in
    let e : n / 2 / 2 ^ k ≡ n / 2 ^ suc k = div-div-eq-div-mul n 2 (2 ^ k) ∙ ap (λ p. n / p) (mul_comm 2 (2 ^ k) ∙ sym (pow-suc 2 k)) in
    let half : n ≡ 2 * (n / 2) = omega (arith, even) in
    half ∙ ap (λ m. 2 * m) (rest ∙ ap (doubled k) e)

-- ---- an odd number has no factor of two in common with another
two_apart : (y : ℕ) → y % 2 ≡ 1 → IsGcd 2 y 1
two_apart y odd = IsGcd-swap y 2 1 (IsGcd-from_mod y 2 1 (subst (λ r. IsGcd 2 r 1) (sym odd) (IsGcd-from_mod 2 1 1 (IsGcd-from_zero 1 (2 % 1) (omega arith)))))

one_more : (u y g : ℕ) → y % 2 ≡ 1 → IsGcd u y g → IsGcd (2 * u) y g
one_more u y g odd (gu, gy, most) = (
  dvd_trans g gu (dvd-mul_left u 2),
  gy,
  λ d dt dy.
      let e : u * 1 ≡ u = omega arith in
      most d (subst (λ n. d ∣ n) e (gcd_of_multiples 2 y 1 u d (two_apart y odd) (subst (λ n. d ∣ n) (mul_comm 2 u) dt) (dvd_trans d dy (dvd-mul_left y u)))) dy,
)

pub more : (k u y g : ℕ) → y % 2 ≡ 1 → IsGcd u y g → IsGcd (doubled k u) y g
unfolding doubled
more zero u y g odd h = h
more (suc k) u y g odd h = one_more (doubled k u) y g odd (more k u y g odd h)

-- ---- factors of two that both have
both : (a b g : ℕ) → IsGcd a b g → IsGcd (2 * a) (2 * b) (2 * g)
both a b g h = (mul-dvd-mul_left g 2 h.0, mul-dvd-mul_left g 2 h.1, λ d p q. gcd_of_multiples a b g 2 d h p q)

pub in_common : (m s t u v g : ℕ) → m ≤ s → m ≤ t → (m ≡ s) ⊎ (m ≡ t) → u % 2 ≡ 1 → v % 2 ≡ 1 → IsGcd u v g → IsGcd (doubled s u) (doubled t v) (doubled m g)
unfolding doubled
in_common zero s t u v g hs ht one hu hv h = ⊎_elim
    (λ e. subst (λ s. IsGcd (doubled s u) (doubled t v) g) e (IsGcd-swap (doubled t v) u g (more t v u g hu (IsGcd-swap u v g h))))
    (λ e. subst (λ t. IsGcd (doubled s u) (doubled t v) g) e (more s u v g hv h))
    one
in_common (suc m) zero t u v g hs ht one hu hv h = absurd (omega (arith, hs))
in_common (suc m) (suc s) zero u v g hs ht one hu hv h = absurd (omega (arith, ht))
in_common (suc m) (suc s) (suc t) u v g hs ht one hu hv h = both (doubled s u) (doubled t v) (doubled m g) (in_common m s t u v g (omega (arith, hs)) (omega (arith, ht)) (same one) hu hv h)
  where
    same : (suc m ≡ suc s) ⊎ (suc m ≡ suc t) → (m ≡ s) ⊎ (m ≡ t)
    same (inl e) = inl (omega (arith, e))
    same (inr e) = inr (omega (arith, e))

-- ---- steps with the pair at hand
pub from_parts : (a b u v s t m g : ℕ) → a ≡ u * 2 ^ s → b ≡ v * 2 ^ t → m ≤ s → m ≤ t → (m ≡ s) ⊎ (m ≡ t) → u % 2 ≡ 1 → v % 2 ≡ 1 → IsGcd u v g → IsGcd a b (doubled m g)
from_parts a b u v s t m g ea eb hs ht one hu hv h =
    subst (λ a. IsGcd a b (doubled m g)) (sym (ea ∙ doubled_pow s u)) (subst (λ b. IsGcd (doubled s u) b (doubled m g)) (sym (eb ∙ doubled_pow t v)) (in_common m s t u v g hs ht one hu hv h))

pub from_difference : (x y r k g : ℕ) → y ≤ x → x - y ≡ r * 2 ^ k → y % 2 ≡ 1 → IsGcd r y g → IsGcd x y g
from_difference x y r k g le e odd h = IsGcd-from_sub x y g le (subst (λ d. IsGcd d y g) (sym (e ∙ doubled_pow k r)) (more k r y g odd h))

-- the greater less the lesser, without its factors of two, and the lesser
pub next_pair : (x y d z r k : ℕ) → x % 2 ≡ 1 → y % 2 ≡ 1 → d ≡ (x - y) + (y - x) → d ≡ r * 2 ^ k → ((x < y) × (z ≡ x)) ⊎ ((y ≤ x) × (z ≡ y)) → (z % 2 ≡ 1) × ((g : ℕ) → IsGcd r z g → IsGcd x y g)
next_pair x y d z r k hx hy ed e (inl (less, is)) = (
  subst (λ n. n % 2 ≡ 1) (sym is) hx,
  λ g h. IsGcd-swap y x g (from_difference y x r k g (omega (arith, less)) (let f : y - x ≡ d = omega (arith, less, ed) in f ∙ e) hx (subst (λ n. IsGcd r n g) is h)),
)
next_pair x y d z r k hx hy ed e (inr (le, is)) = (
  subst (λ n. n % 2 ≡ 1) (sym is) hy,
  λ g h. from_difference x y r k g le (let f : x - y ≡ d = omega (arith, le, ed) in f ∙ e) hy (subst (λ n. IsGcd r n g) is h),
)

-- a pair of equals
pub shifted : (a b x m : ℕ) → 0 < a → a < 2 ^ 64 → IsGcd a b (doubled m x) → IsGcd a b (x * 2 ^ m % 2 ^ 64)
shifted a b x m some within h =
    let bound = le_of_dvd some h.0 in
    let e : x * 2 ^ m % 2 ^ 64 ≡ doubled m x = omega (arith, doubled_pow m x, bound, within) in
    subst (IsGcd a b) (sym e) h
