-- The signs of products over ℤ. `omega (arith, linear)` takes a product for an unknown: hand it these lemmas' facts.
use Rattle.std.proofs.Common.{◌≡◌, ◌⊎◌, inl, inr, ℕ, zero, suc, ℤ, pos, negsuc, ◌*◌, ◌<◌, ◌-ℤ◌, ◌+ℤ◌, ◌*ℤ◌, neg_ℤ, ◌≤ℤ◌, ◌<ℤ◌, refl, ap, ◌∙◌, arith}
use Rattle.std.proofs.lemmas.Int.{ints}
use Rattle.plan_exact.specs.Sign.{Sign, is_negative, is_zero, is_positive, Order, is_less, is_equal, is_greater}
use Rattle.plan_exact.proofs.Laws.{mul_comm, mul_add, neg_mul, one_mul, zero_mul, linear}

-- ---- cases
pub sign_of : (a : ℤ) → Sign a
sign_of (pos zero) = is_zero refl
sign_of (pos (suc n)) = is_positive (omega (arith, ints))
sign_of (negsuc n) = is_negative (omega (arith, ints))

pub order_of : (a b : ℤ) → Order a b
order_of a b = by (sign_of (a -ℤ b))
  where
    by : Sign (a -ℤ b) → Order a b
    by (is_negative h) = is_less (omega (arith, linear))
    by (is_zero h) = is_equal (omega (arith, linear))
    by (is_positive h) = is_greater (omega (arith, linear))

pub le_or_lt : (a b : ℤ) → (a ≤ℤ b) ⊎ (b <ℤ a)
le_or_lt a b = by (order_of a b)
  where
    by : Order a b → (a ≤ℤ b) ⊎ (b <ℤ a)
    by (is_less h) = inl (omega (arith, linear))
    by (is_equal h) = inl (omega (arith, linear))
    by (is_greater h) = inr h

pub lt_of_not_le : (a b : ℤ) → ¬ (a ≤ℤ b) → b <ℤ a
lt_of_not_le a b off = elim (le_or_lt a b) [
  | inl h ↦ absurd (off h)
  | inr h ↦ h
]

pub le_or_ge : (a b : ℤ) → (a ≤ℤ b) ⊎ (b ≤ℤ a)
le_or_ge a b = by (order_of a b)
  where
    by : Order a b → (a ≤ℤ b) ⊎ (b ≤ℤ a)
    by (is_less h) = inl (omega (arith, linear))
    by (is_equal h) = inl (omega (arith, linear))
    by (is_greater h) = inr (omega (arith, linear))

pub le_of_lt : {a b : ℤ} → a <ℤ b → a ≤ℤ b
le_of_lt h = omega (arith, linear)

pub le_of_eq : {a b : ℤ} → a ≡ b → a ≤ℤ b
le_of_eq e = omega (arith, linear)

-- what is not negative and not 0 is positive
pub pos_of_nonneg : {a : ℤ} → pos 0 ≤ℤ a → ¬ (a ≡ pos 0) → pos 0 <ℤ a
pos_of_nonneg {a} h apart = by (sign_of a)
  where
    by : Sign a → pos 0 <ℤ a
    by (is_positive p) = p
    by (is_zero e) = absurd (apart e)
    by (is_negative n) = absurd (omega (arith, linear))

pub not_zero_of_pos : {a : ℤ} → pos 0 <ℤ a → ¬ (a ≡ pos 0)
not_zero_of_pos h e = omega (arith, linear)

pub not_zero_of_neg : {a : ℤ} → a <ℤ pos 0 → ¬ (a ≡ pos 0)
not_zero_of_neg h e = omega (arith, linear)

-- ---- signs of a product
pub mul_nonneg : {a b : ℤ} → pos 0 ≤ℤ a → pos 0 ≤ℤ b → pos 0 ≤ℤ (a *ℤ b)
mul_nonneg {a = pos m} {b = pos n} h k = omega (arith, ints)
mul_nonneg {a = pos m} {b = negsuc n} h k = absurd (omega (arith, ints))
mul_nonneg {a = negsuc m} {b} h k = absurd (omega (arith, ints))

positive_product : (m n : ℕ) → 0 < suc m * suc n
positive_product m n = omega arith

pub mul_pos : {a b : ℤ} → pos 0 <ℤ a → pos 0 <ℤ b → pos 0 <ℤ (a *ℤ b)
mul_pos {a = pos zero} {b} h k = absurd (omega (arith, ints))
mul_pos {a = pos (suc m)} {b = pos zero} h k = absurd (omega (arith, ints))
mul_pos {a = pos (suc m)} {b = pos (suc n)} h k = omega (arith, ints, positive_product m n)
mul_pos {a = pos (suc m)} {b = negsuc n} h k = absurd (omega (arith, ints))
mul_pos {a = negsuc m} {b} h k = absurd (omega (arith, ints))

pub mul_neg : (a b : ℤ) → a *ℤ neg_ℤ b ≡ neg_ℤ (a *ℤ b)
mul_neg a b = mul_comm a (neg_ℤ b) ∙ neg_mul b a ∙ ap neg_ℤ (mul_comm b a)

pub mul_zero : (a : ℤ) → a *ℤ pos 0 ≡ pos 0
mul_zero a = mul_comm a (pos 0) ∙ zero_mul a

pub mul_one : (a : ℤ) → a *ℤ pos 1 ≡ a
mul_one a = mul_comm a (pos 1) ∙ one_mul a

pub mul_nonneg_nonpos : {a b : ℤ} → pos 0 ≤ℤ a → b ≤ℤ pos 0 → (a *ℤ b) ≤ℤ pos 0
mul_nonneg_nonpos {a} {b} h k =
    let q : pos 0 ≤ℤ (neg_ℤ b) = omega (arith, linear) in
    omega (arith, linear, mul_nonneg h q, mul_neg a b)

pub mul_nonpos_nonneg : {a b : ℤ} → a ≤ℤ pos 0 → pos 0 ≤ℤ b → (a *ℤ b) ≤ℤ pos 0
mul_nonpos_nonneg {a} {b} h k = omega (arith, linear, mul_nonneg_nonpos k h, mul_comm a b)

pub mul_nonpos : {a b : ℤ} → a ≤ℤ pos 0 → b ≤ℤ pos 0 → pos 0 ≤ℤ (a *ℤ b)
mul_nonpos {a} {b} h k =
    let p : pos 0 ≤ℤ (neg_ℤ a) = omega (arith, linear) in
    omega (arith, linear, mul_nonneg_nonpos p k, neg_mul a b)

pub mul_pos_neg : {a b : ℤ} → pos 0 <ℤ a → b <ℤ pos 0 → (a *ℤ b) <ℤ pos 0
mul_pos_neg {a} {b} h k =
    let q : pos 0 <ℤ (neg_ℤ b) = omega (arith, linear) in
    omega (arith, linear, mul_pos h q, mul_neg a b)

pub mul_neg_pos : {a b : ℤ} → a <ℤ pos 0 → pos 0 <ℤ b → (a *ℤ b) <ℤ pos 0
mul_neg_pos {a} {b} h k = omega (arith, linear, mul_pos_neg k h, mul_comm a b)

pub mul_neg_neg : {a b : ℤ} → a <ℤ pos 0 → b <ℤ pos 0 → pos 0 <ℤ (a *ℤ b)
mul_neg_neg {a} {b} h k =
    let p : pos 0 <ℤ (neg_ℤ a) = omega (arith, linear) in
    omega (arith, linear, mul_pos_neg p k, neg_mul a b)

-- ---- the sign of a factor, from that of the product and of the other factor
pub nonneg_of_mul : {a b : ℤ} → pos 0 <ℤ a → pos 0 ≤ℤ (a *ℤ b) → pos 0 ≤ℤ b
nonneg_of_mul {a} {b} h k = by (le_or_lt (pos 0) b)
  where
    by : (pos 0 ≤ℤ b) ⊎ (b <ℤ pos 0) → pos 0 ≤ℤ b
    by (inl p) = p
    by (inr n) = absurd (omega (arith, linear, mul_pos_neg h n))

pub pos_of_mul : {a b : ℤ} → pos 0 <ℤ a → pos 0 <ℤ (a *ℤ b) → pos 0 <ℤ b
pos_of_mul {a} {b} h k = by (sign_of b)
  where
    by : Sign b → pos 0 <ℤ b
    by (is_positive p) = p
    by (is_zero e) = absurd (omega (arith, linear, ap (λ y. a *ℤ y) e, mul_zero a))
    by (is_negative n) = absurd (omega (arith, linear, mul_pos_neg h n))

-- the factor that is known is not negative, and so it is positive
pub pos_of_pos_mul : (a b : ℤ) → pos 0 ≤ℤ a → pos 0 <ℤ (a *ℤ b) → pos 0 <ℤ a
pos_of_pos_mul a b h k = pos_of_nonneg h (λ e. omega (arith, linear, ap (λ y. y *ℤ b) e, zero_mul b))

pub nonpos_of_mul : {a b : ℤ} → pos 0 <ℤ a → (a *ℤ b) ≤ℤ pos 0 → b ≤ℤ pos 0
nonpos_of_mul {a} {b} h k =
    let q : pos 0 ≤ℤ (a *ℤ neg_ℤ b) = omega (arith, linear, mul_neg a b) in
    omega (arith, linear, nonneg_of_mul h q)

pub neg_of_mul : {a b : ℤ} → pos 0 <ℤ a → (a *ℤ b) <ℤ pos 0 → b <ℤ pos 0
neg_of_mul {a} {b} h k =
    let q : pos 0 <ℤ (a *ℤ neg_ℤ b) = omega (arith, linear, mul_neg a b) in
    omega (arith, linear, pos_of_mul h q)

pub zero_or_zero : (a b : ℤ) → a *ℤ b ≡ pos 0 → (a ≡ pos 0) ⊎ (b ≡ pos 0)
zero_or_zero a b e = by (sign_of a) (sign_of b)
  where
    by : Sign a → Sign b → (a ≡ pos 0) ⊎ (b ≡ pos 0)
    by (is_zero p) q = inl p
    by (is_negative p) (is_zero q) = inr q
    by (is_positive p) (is_zero q) = inr q
    by (is_negative p) (is_negative q) = absurd (omega (arith, linear, mul_neg_neg p q))
    by (is_negative p) (is_positive q) = absurd (omega (arith, linear, mul_neg_pos p q))
    by (is_positive p) (is_negative q) = absurd (omega (arith, linear, mul_pos_neg p q))
    by (is_positive p) (is_positive q) = absurd (omega (arith, linear, mul_pos p q))

pub zero_of_mul : (a b : ℤ) → pos 0 <ℤ a → a *ℤ b ≡ pos 0 → b ≡ pos 0
zero_of_mul a b h e = by (zero_or_zero a b e)
  where
    by : (a ≡ pos 0) ⊎ (b ≡ pos 0) → b ≡ pos 0
    by (inl p) = absurd (omega (arith, linear))
    by (inr q) = q

-- ---- a common factor
sub_mul : (a b c : ℤ) → c *ℤ (b -ℤ a) ≡ b *ℤ c -ℤ a *ℤ c
sub_mul a b c = mul_add c b (neg_ℤ a) ∙ omega (arith, linear, mul_neg c a, mul_comm c a, mul_comm c b)

pub mul_le_mul : {a b : ℤ} (c : ℤ) → pos 0 ≤ℤ c → a ≤ℤ b → (a *ℤ c) ≤ℤ (b *ℤ c)
mul_le_mul {a} {b} c h k =
    let d : pos 0 ≤ℤ (b -ℤ a) = omega (arith, linear) in
    omega (arith, linear, mul_nonneg h d, sub_mul a b c)

pub mul_lt_mul : {a b : ℤ} (c : ℤ) → pos 0 <ℤ c → a <ℤ b → (a *ℤ c) <ℤ (b *ℤ c)
mul_lt_mul {a} {b} c h k =
    let d : pos 0 <ℤ (b -ℤ a) = omega (arith, linear) in
    omega (arith, linear, mul_pos h d, sub_mul a b c)

pub le_of_mul : (a b c : ℤ) → pos 0 <ℤ c → (a *ℤ c) ≤ℤ (b *ℤ c) → a ≤ℤ b
le_of_mul a b c h k =
    let d : pos 0 ≤ℤ (c *ℤ (b -ℤ a)) = omega (arith, linear, sub_mul a b c) in
    omega (arith, linear, nonneg_of_mul h d)

pub lt_of_mul : (a b c : ℤ) → pos 0 <ℤ c → (a *ℤ c) <ℤ (b *ℤ c) → a <ℤ b
lt_of_mul a b c h k =
    let d : pos 0 <ℤ (c *ℤ (b -ℤ a)) = omega (arith, linear, sub_mul a b c) in
    omega (arith, linear, pos_of_mul h d)

pub eq_of_mul : (a b c : ℤ) → ¬ (c ≡ pos 0) → a *ℤ c ≡ b *ℤ c → a ≡ b
eq_of_mul a b c h e = by (zero_or_zero c (b -ℤ a) (sub_mul a b c ∙ omega (arith, linear)))
  where
    by : (c ≡ pos 0) ⊎ (b -ℤ a ≡ pos 0) → a ≡ b
    by (inl z) = absurd (h z)
    by (inr z) = omega (arith, linear)

-- ---- squares
pub square_nonneg : (a : ℤ) → pos 0 ≤ℤ (a *ℤ a)
square_nonneg (pos n) = omega (arith, ints)
square_nonneg (negsuc n) = omega (arith, ints)

pub square_pos : (a : ℤ) → ¬ (a ≡ pos 0) → pos 0 <ℤ (a *ℤ a)
square_pos a h = by (sign_of a)
  where
    by : Sign a → pos 0 <ℤ (a *ℤ a)
    by (is_zero e) = absurd (h e)
    by (is_negative n) = mul_neg_neg n n
    by (is_positive p) = mul_pos p p

-- ---- sums and negations, and what `search signs` needs to show that an integer made of such parts is not negative, or positive

pub add_nonneg : {a b : ℤ} → pos 0 ≤ℤ a → pos 0 ≤ℤ b → pos 0 ≤ℤ (a +ℤ b)
add_nonneg h k = omega (arith, linear)

pub add_pos : {a b : ℤ} → pos 0 <ℤ a → pos 0 ≤ℤ b → pos 0 <ℤ (a +ℤ b)
add_pos h k = omega (arith, linear)

pub add_nonneg_pos : {a b : ℤ} → pos 0 ≤ℤ a → pos 0 <ℤ b → pos 0 <ℤ (a +ℤ b)
add_nonneg_pos h k = omega (arith, linear)

pub neg_nonneg : {a : ℤ} → a ≤ℤ pos 0 → pos 0 ≤ℤ neg_ℤ a
neg_nonneg h = omega (arith, linear)

pub neg_pos : {a : ℤ} → a <ℤ pos 0 → pos 0 <ℤ neg_ℤ a
neg_pos h = omega (arith, linear)

pub sub_nonneg : {a b : ℤ} → a ≤ℤ b → pos 0 ≤ℤ (b -ℤ a)
sub_nonneg h = omega (arith, linear)

pub sub_pos : {a b : ℤ} → a <ℤ b → pos 0 <ℤ (b -ℤ a)
sub_pos h = omega (arith, linear)

pub ruleset signs = (sub_pos, sub_nonneg, add_pos, add_nonneg_pos, mul_pos, neg_pos, add_nonneg, mul_nonneg, neg_nonneg, square_nonneg, le_of_lt)

-- ---- what `search zeros` needs to show that an integer is 0, from such parts
pub add_zeros : (a b : ℤ) → a ≡ pos 0 → b ≡ pos 0 → a +ℤ b ≡ pos 0
add_zeros a b h k = omega (arith, linear)

pub mul_of_zero : (a b : ℤ) → b ≡ pos 0 → a *ℤ b ≡ pos 0
mul_of_zero a b h = ap (λ y. a *ℤ y) h ∙ mul_zero a

pub zero_of_mul_left : (a b : ℤ) → a ≡ pos 0 → a *ℤ b ≡ pos 0
zero_of_mul_left a b h = mul_comm a b ∙ mul_of_zero b a h

pub ruleset zeros = (add_zeros, mul_of_zero, zero_of_mul_left)
