-- A row of numbers that falls through 0 once: where it does, and that it does nowhere else.
use Rattle.std.proofs.Common.{◌≡◌, ◌⊎◌, inl, inr, ℕ, zero, suc, ◌<◌, ◌≤◌, ℤ, pos, ◌≤ℤ◌, ◌<ℤ◌, sym, subst, arith}
use Rattle.std.proofs.lemmas.Bool.{cases_order}
use Rattle.plan_exact.specs.Sign.{Sign, is_negative, is_zero, is_positive}
use Rattle.plan_exact.proofs.Laws.{linear}
use Rattle.plan_exact.proofs.Signs.{sign_of, le_of_lt}

-- what comes before a number that is not negative is positive
abbrev pub Falls : ℕ → (ℕ → ℤ) → Type 0
Falls n v = (i j : ℕ) → i < j → j < n → pos 0 ≤ℤ v j → pos 0 <ℤ v i

-- the k-th is positive and the next one negative
pub record DropsAt (n : ℕ) (v : ℕ → ℤ) (k : ℕ) : Type 0 where
  pub within : suc k < n
  pub above : pos 0 <ℤ v k
  pub below : v (suc k) <ℤ pos 0

-- it drops somewhere, or some number is 0
abbrev pub DropsOrZero : ℕ → (ℕ → ℤ) → Type 0
DropsOrZero n v = ((k : ℕ) × DropsAt n v k) ⊎ ((k : ℕ) × (k < n) × (v k ≡ pos 0))

-- ---- where it drops
before_positive : (n : ℕ) (v : ℕ → ℤ) → Falls n v → (i j : ℕ) → i ≤ j → j < n → pos 0 <ℤ v j → pos 0 <ℤ v i
before_positive n v falls i j le within h = elim (cases_order i j) [
  | inl e ↦ subst (λ k. pos 0 <ℤ v k) (sym e) h
  | inr t ↦ elim t [
    | inl lt ↦ falls i j lt within (le_of_lt h)
    | inr gt ↦ absurd (omega arith)
  ]
]

pub positive_first : (n : ℕ) (v : ℕ → ℤ) → Falls n v → (i j : ℕ) → i < n → pos 0 ≤ℤ v i → v j <ℤ pos 0 → i < j
positive_first n v falls i j within h k = elim (cases_order i j) [
  | inl e ↦ absurd (omega (arith, linear, subst (λ n. v n <ℤ pos 0) (sym e) k))
  | inr t ↦ elim t [
    | inl lt ↦ lt
    | inr gt ↦ absurd (omega (arith, linear, falls j i gt within h))
  ]
]

search : (n : ℕ) (v : ℕ → ℤ) (i j : ℕ) → i < j → j < n → pos 0 <ℤ v i → v j <ℤ pos 0 → DropsOrZero n v
search n v i zero lt within h k = absurd (omega arith)
search n v i (suc j) lt within h k = by (sign_of (v j)) (λ l m. search n v i j l (omega arith) h m)
  where
    by : Sign (v j) → (i < j → v j <ℤ pos 0 → DropsOrZero n v) → DropsOrZero n v
    by (is_positive p) on = inl (j, record { within = within; above = p; below = k })
    by (is_zero e) on = inr (j, omega arith, e)
    by (is_negative m) on = elim (cases_order i j) [
      | inl e ↦ absurd (omega (arith, linear, h, subst (λ n. v n <ℤ pos 0) (sym e) m))
      | inr t ↦ elim t [
        | inl l ↦ on l m
        | inr g ↦ absurd (omega arith)
      ]
    ]

pub drops : (n : ℕ) (v : ℕ → ℤ) → Falls n v → (i j : ℕ) → i < n → j < n → pos 0 ≤ℤ v i → v j ≤ℤ pos 0 → DropsOrZero n v
drops n v falls i j hi hj h k = by (sign_of (v i)) (sign_of (v j))
  where
    by : Sign (v i) → Sign (v j) → DropsOrZero n v
    by (is_zero e) t = inr (i, hi, e)
    by (is_negative m) t = absurd (omega (arith, linear))
    by (is_positive p) (is_zero e) = inr (j, hj, e)
    by (is_positive p) (is_positive q) = absurd (omega (arith, linear))
    by (is_positive p) (is_negative m) = search n v i j (positive_first n v falls i j hi h m) hj p m

-- ---- and nowhere else
-- what is not negative is not beyond the drop, what is not positive not before it
pub not_beyond : {n : ℕ} {v : ℕ → ℤ} {k : ℕ} → Falls n v → DropsAt n v k → (j : ℕ) → j < n → pos 0 ≤ℤ v j → j ≤ k
not_beyond {n} {v} {k} falls d j within h = let lt = positive_first n v falls j (suc k) within h d.below in omega arith

pub not_before : {n : ℕ} {v : ℕ → ℤ} {k : ℕ} → Falls n v → DropsAt n v k → (j : ℕ) → v j ≤ℤ pos 0 → k < j
not_before {n} {v} {k} falls d j h = elim (cases_order k j) [
  | inl e ↦ absurd (omega (arith, linear, d.above, subst (λ n. v n ≤ℤ pos 0) (sym e) h))
  | inr t ↦ elim t [
    | inl lt ↦ lt
    | inr gt ↦ absurd (let p = falls j k gt (omega (arith, d.within)) (le_of_lt d.above) in omega (arith, linear))
  ]
]

pub drop_apart : {n : ℕ} {v : ℕ → ℤ} {k : ℕ} → Falls n v → DropsAt n v k → (j : ℕ) → j < n → ¬ (v j ≡ pos 0)
drop_apart falls d j within e =
    let le = not_beyond falls d j within (omega (arith, linear)) in
    let lt = not_before falls d j (omega (arith, linear)) in
    omega arith

pub drops_once : {n : ℕ} {v : ℕ → ℤ} {k h : ℕ} → Falls n v → DropsAt n v k → DropsAt n v h → k ≡ h
drops_once {n} {v} {k} {h} falls d e =
    let p = not_beyond falls d h (let w = e.within in omega arith) (le_of_lt e.above) in
    let q = not_beyond falls e k (let w = d.within in omega arith) (le_of_lt d.above) in
    omega arith

pub zero_once : {n : ℕ} {v : ℕ → ℤ} (k h : ℕ) → Falls n v → k < n → h < n → v k ≡ pos 0 → v h ≡ pos 0 → k ≡ h
zero_once {n} {v} k h falls hk hh e f = elim (cases_order k h) [
  | inl same ↦ same
  | inr t ↦ elim t [
    | inl lt ↦ absurd (omega (arith, linear, e, falls k h lt hh (omega (arith, linear))))
    | inr gt ↦ absurd (omega (arith, linear, f, falls h k gt hk (omega (arith, linear))))
  ]
]

-- the sign up to the drop, and from it on
pub up_to : {n : ℕ} {v : ℕ → ℤ} {k : ℕ} → Falls n v → DropsAt n v k → (j : ℕ) → j ≤ k → pos 0 <ℤ v j
up_to {n} {v} {k} falls d j le = before_positive n v falls j k le (let w = d.within in omega arith) d.above

pub from_on : {n : ℕ} {v : ℕ → ℤ} {k : ℕ} → Falls n v → DropsAt n v k → (j : ℕ) → j < n → k < j → v j <ℤ pos 0
from_on {n} {v} {k} falls d j within lt = by (sign_of (v j))
  where
    low : pos 0 ≤ℤ v j → ⊥
    low h = let le = not_beyond falls d j within h in omega arith

    by : Sign (v j) → v j <ℤ pos 0
    by (is_negative m) = m
    by (is_zero e) = absurd (low (omega (arith, linear)))
    by (is_positive p) = absurd (low (omega (arith, linear)))
