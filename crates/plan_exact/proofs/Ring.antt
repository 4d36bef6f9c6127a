-- Two expressions that are one polynomial have the same value, at any integers.
use Rattle.std.proofs.Common.{◌≡◌, ℕ, zero, suc, ℤ, pos, negsuc, ◌+◌, ◌*◌, ◌/◌, ◌%◌, ◌^◌, ◌≤◌, ◌<◌, max, ◌+ℤ◌, ◌-ℤ◌, ◌*ℤ◌, neg_ℤ, Bool, true, false, T, ltb, eqb, ◌&&◌, List, [], ◌∷◌, refl, sym, ap, ap₂, ◌∙◌, subst, arith, eqb→eq, ltb→lt}
use Rattle.std.proofs.lemmas.Int.{ints}
use Rattle.plan_exact.specs.Expr.{Expr, var, con, ◌⊕◌, ◌⊖◌, ◌⊗◌, neg, at_index, eval, degree, Poly, nil, term, keep, merge, plus, scale, times, count, product, negate, norm, is_nil, same}
use Rattle.plan_exact.proofs.Laws.{mul_comm, mul_add, mul_assoc, neg_mul, one_mul, zero_mul, add_mul, linear}

-- ---- what a monomial and a polynomial are worth
abbrev power : ℤ → ℕ → ℤ
power x zero = pos 1
power x (suc n) = x *ℤ power x n

pub mono : List ℤ → ℕ → ℤ
mono [] m = pos 1
mono (x ∷ xs) m = power x (m % 64) *ℤ mono xs (m / 64)

-- its degree
abbrev weight : List ℤ → ℕ → ℕ
weight [] m = 0
weight (x ∷ xs) m = m % 64 + weight xs (m / 64)

abbrev pub value : List ℤ → Poly → ℤ
value xs nil = pos 0
value xs (term m c p) = c *ℤ mono xs m +ℤ value xs p

abbrev Bounded : List ℤ → ℕ → Poly → Type 0
Bounded xs k nil = Unit {0}
Bounded xs k (term m c p) = (weight xs m ≤ k) × Bounded xs k p

-- ---- monomials
power_add : (x : ℤ) (m n : ℕ) → power x (m + n) ≡ power x m *ℤ power x n
power_add x zero n = ap (power x) (omega arith) ∙ sym (one_mul (power x n))
power_add x (suc m) n = ap (power x) (shift m n) ∙ ap (λ y. x *ℤ y) (power_add x m n) ∙ sym (mul_assoc x (power x m) (power x n))
  where
    shift : (m n : ℕ) → suc m + n ≡ suc (m + n)
    shift m n = omega arith

swap_middle : (a b c d : ℤ) → (a *ℤ b) *ℤ (c *ℤ d) ≡ (a *ℤ c) *ℤ (b *ℤ d)
swap_middle a b c d =
    mul_assoc a b (c *ℤ d) ∙ ap (λ y. a *ℤ y) (sym (mul_assoc b c d) ∙ ap (λ y. y *ℤ d) (mul_comm b c) ∙ mul_assoc c b d) ∙ sym (mul_assoc a c (b *ℤ d))

digit : (m n : ℕ) → m % 64 + n % 64 < 64 → ((m + n) % 64 ≡ m % 64 + n % 64) × ((m + n) / 64 ≡ m / 64 + n / 64)
digit m n h = omega arith

mono_add : (xs : List ℤ) (m n : ℕ) → weight xs m + weight xs n < 64 → mono xs (m + n) ≡ mono xs m *ℤ mono xs n
unfolding mono
mono_add [] m n h = sym (one_mul (pos 1))
mono_add (x ∷ xs) m n h =
    let d = digit m n (omega arith) in
    ap₂ (λ i j. power x i *ℤ mono xs j) d.0 d.1
    ∙ ap₂ (λ y z. y *ℤ z) (power_add x (m % 64) (n % 64)) (mono_add xs (m / 64) (n / 64) (omega arith))
    ∙ swap_middle (power x (m % 64)) (power x (n % 64)) (mono xs (m / 64)) (mono xs (n / 64))

weight_add : (xs : List ℤ) (m n : ℕ) → weight xs m + weight xs n < 64 → weight xs (m + n) ≡ weight xs m + weight xs n
weight_add [] m n h = refl
weight_add (x ∷ xs) m n h =
    let d = digit m n (omega arith) in
    ap₂ (λ i j. i + weight xs j) d.0 d.1 ∙ ap (λ j. m % 64 + n % 64 + j) (weight_add xs (m / 64) (n / 64) (omega arith)) ∙ omega arith

-- ---- a test, by its cases
split : (t : Bool) (x y : Poly) (P : Poly → Type 0) → (t ≡ true → P x) → (t ≡ false → P y) → P (elim t [ true ↦ x | false ↦ y ])
split true x y P f g = f refl
split false x y P f g = g refl

same_number : (m n : ℕ) → eqb m n ≡ true → m ≡ n
same_number m n e = eqb→eq m n (subst T (sym e) tt)

-- ---- polynomials: their values
keep_value : (xs : List ℤ) (m : ℕ) (c : ℤ) (p : Poly) → value xs (keep m c p) ≡ c *ℤ mono xs m +ℤ value xs p
keep_value xs m (pos zero) p = omega (arith, linear, zero_mul (mono xs m))
keep_value xs m (pos (suc n)) p = refl
keep_value xs m (negsuc n) p = refl

merge_value : (xs : List ℤ) (m : ℕ) (c : ℤ) (rest : Poly → Poly) (r : ℤ) → ((q : Poly) → value xs (rest q) ≡ r +ℤ value xs q) → (q : Poly) → value xs (merge m c rest q) ≡ c *ℤ mono xs m +ℤ r +ℤ value xs q
merge_value xs m c rest r h nil = omega (arith, linear, h nil)
merge_value xs m c rest r h (term n d q) =
    let again = merge_value xs m c rest r h q in
    split (ltb m n) (term m c (rest (term n d q))) (elim (eqb m n) [ true ↦ keep m (c +ℤ d) (rest q) | false ↦ term n d (merge m c rest q) ])
    (λ p. value xs p ≡ c *ℤ mono xs m +ℤ r +ℤ (d *ℤ mono xs n +ℤ value xs q))
    (λ t. omega (arith, linear, h (term n d q)))
    (λ t. split (eqb m n) (keep m (c +ℤ d) (rest q)) (term n d (merge m c rest q))
    (λ p. value xs p ≡ c *ℤ mono xs m +ℤ r +ℤ (d *ℤ mono xs n +ℤ value xs q))
    (λ e. let k = ap (mono xs) (same_number m n e) in
    let f = ap (λ y. d *ℤ y) k in
    omega (arith, linear, keep_value xs m (c +ℤ d) (rest q), add_mul c d (mono xs m), h q))
    (λ e. omega (arith, linear)))

plus_value : (xs : List ℤ) (p q : Poly) → value xs (plus p q) ≡ value xs p +ℤ value xs q
plus_value xs nil q = omega (arith, linear)
plus_value xs (term m c p) q = merge_value xs m c (plus p) (value xs p) (plus_value xs p) q

negate_value : (xs : List ℤ) (p : Poly) → value xs (negate p) ≡ neg_ℤ (value xs p)
negate_value xs nil = refl
negate_value xs (term m c p) = omega (arith, linear, negate_value xs p, neg_mul c (mono xs m))

scale_value : (xs : List ℤ) (m : ℕ) (c : ℤ) (j k : ℕ) → weight xs m ≤ j → j + k < 64 → (p : Poly) → Bounded xs k p → value xs (scale m c p) ≡ (c *ℤ mono xs m) *ℤ value xs p
scale_value xs m c j k w s nil b = omega (arith, linear, zero_mul (c *ℤ mono xs m), mul_comm (c *ℤ mono xs m) (pos 0))
scale_value xs m c j k w s (term n d p) b =
    let e = ap (λ y. (c *ℤ d) *ℤ y) (mono_add xs m n (omega arith)) ∙ swap_middle c d (mono xs m) (mono xs n) in
    omega (arith, linear, scale_value xs m c j k w s p b.1, mul_add (c *ℤ mono xs m) (d *ℤ mono xs n) (value xs p))

times_value : (xs : List ℤ) (j k : ℕ) → j + k < 64 → (p q : Poly) → Bounded xs j p → Bounded xs k q → value xs (times p q) ≡ value xs p *ℤ value xs q
times_value xs j k s nil q a b = sym (zero_mul (value xs q))
times_value xs j k s (term m c p) q a b =
    omega (arith, linear, plus_value xs (scale m c q) (times p q), scale_value xs m c j k a.0 s q b, times_value xs j k s p q a.1 b, add_mul (c *ℤ mono xs m) (value xs p) (value xs q))

product_value : (xs : List ℤ) (j k : ℕ) → j + k < 64 → (p q : Poly) → Bounded xs j p → Bounded xs k q → value xs (product p q) ≡ value xs p *ℤ value xs q
product_value xs j k s p q a b =
    split (ltb (count q) (count p)) (times q p) (times p q) (λ r. value xs r ≡ value xs p *ℤ value xs q)
    (λ t. times_value xs k j (omega arith) q p b a ∙ mul_comm (value xs q) (value xs p))
    (λ t. times_value xs j k s p q a b)

-- ---- polynomials: their degrees
Bounded-more : (xs : List ℤ) (j k : ℕ) → j ≤ k → (p : Poly) → Bounded xs j p → Bounded xs k p
Bounded-more xs j k h nil b = tt
Bounded-more xs j k h (term m c p) b = (omega arith, Bounded-more xs j k h p b.1)

Bounded-keep : (xs : List ℤ) (k m : ℕ) (c : ℤ) (p : Poly) → weight xs m ≤ k → Bounded xs k p → Bounded xs k (keep m c p)
Bounded-keep xs k m (pos zero) p w b = b
Bounded-keep xs k m (pos (suc n)) p w b = (w, b)
Bounded-keep xs k m (negsuc n) p w b = (w, b)

Bounded-merge : (xs : List ℤ) (k m : ℕ) (c : ℤ) (rest : Poly → Poly) → weight xs m ≤ k → ((q : Poly) → Bounded xs k q → Bounded xs k (rest q)) → (q : Poly) → Bounded xs k q → Bounded xs k (merge m c rest q)
Bounded-merge xs k m c rest w h nil b = (w, h nil tt)
Bounded-merge xs k m c rest w h (term n d q) b =
    let again = Bounded-merge xs k m c rest w h q b.1 in
    split (ltb m n) (term m c (rest (term n d q))) (elim (eqb m n) [ true ↦ keep m (c +ℤ d) (rest q) | false ↦ term n d (merge m c rest q) ])
    (Bounded xs k)
    (λ t. (w, h (term n d q) b))
    (λ t. split (eqb m n) (keep m (c +ℤ d) (rest q)) (term n d (merge m c rest q)) (Bounded xs k)
    (λ e. Bounded-keep xs k m (c +ℤ d) (rest q) w (h q b.1))
    (λ e. (b.0, again)))

Bounded-plus : (xs : List ℤ) (k : ℕ) (p q : Poly) → Bounded xs k p → Bounded xs k q → Bounded xs k (plus p q)
Bounded-plus xs k nil q a b = b
Bounded-plus xs k (term m c p) q a b = Bounded-merge xs k m c (plus p) a.0 (λ r. Bounded-plus xs k p r a.1) q b

Bounded-negate : (xs : List ℤ) (k : ℕ) (p : Poly) → Bounded xs k p → Bounded xs k (negate p)
Bounded-negate xs k nil b = tt
Bounded-negate xs k (term m c p) b = (b.0, Bounded-negate xs k p b.1)

Bounded-scale : (xs : List ℤ) (m : ℕ) (c : ℤ) (j k : ℕ) → weight xs m ≤ j → j + k < 64 → (p : Poly) → Bounded xs k p → Bounded xs (j + k) (scale m c p)
Bounded-scale xs m c j k w s nil b = tt
Bounded-scale xs m c j k w s (term n d p) b = (omega (arith, weight_add xs m n (omega arith)), Bounded-scale xs m c j k w s p b.1)

Bounded-times : (xs : List ℤ) (j k : ℕ) → j + k < 64 → (p q : Poly) → Bounded xs j p → Bounded xs k q → Bounded xs (j + k) (times p q)
Bounded-times xs j k s nil q a b = tt
Bounded-times xs j k s (term m c p) q a b =
    Bounded-plus xs (j + k) (scale m c q) (times p q) (Bounded-scale xs m c j k a.0 s q b) (Bounded-times xs j k s p q a.1 b)

Bounded-product : (xs : List ℤ) (j k : ℕ) → j + k < 64 → (p q : Poly) → Bounded xs j p → Bounded xs k q → Bounded xs (j + k) (product p q)
Bounded-product xs j k s p q a b =
    split (ltb (count q) (count p)) (times q p) (times p q) (Bounded xs (j + k))
    (λ t. Bounded-more xs (k + j) (j + k) (omega arith) (times q p) (Bounded-times xs k j (omega arith) q p b a))
    (λ t. Bounded-times xs j k s p q a b)

-- ---- the monomial of one variable
mono_zero : (xs : List ℤ) → mono xs 0 ≡ pos 1
unfolding mono
mono_zero [] = refl
mono_zero (x ∷ xs) = one_mul (mono xs 0) ∙ mono_zero xs

weight_zero : (xs : List ℤ) → weight xs 0 ≡ 0
weight_zero [] = refl
weight_zero (x ∷ xs) = omega (arith, weight_zero xs)

above : (i : ℕ) → (64 ^ suc i % 64 ≡ 0) × (64 ^ suc i / 64 ≡ 64 ^ i)
above i = let e : 64 ^ suc i ≡ 64 * 64 ^ i = omega arith in omega arith

mono_var : (xs : List ℤ) (i : ℕ) → mono xs (64 ^ i) ≡ at_index xs i
unfolding mono
mono_var [] i = refl
mono_var (x ∷ xs) zero = ap (λ y. power x 1 *ℤ y) (mono_zero xs) ∙ omega (arith, ints)
mono_var (x ∷ xs) (suc i) = let a = above i in ap₂ (λ j k. power x j *ℤ mono xs k) a.0 a.1 ∙ one_mul (mono xs (64 ^ i)) ∙ mono_var xs i

weight_var : (xs : List ℤ) (i : ℕ) → weight xs (64 ^ i) ≤ 1
weight_var [] i = omega arith
weight_var (x ∷ xs) zero = omega (arith, weight_zero xs)
weight_var (x ∷ xs) (suc i) = let a = above i in let s = ap₂ (λ j k. j + weight xs k) a.0 a.1 in omega (arith, weight_var xs i)

-- ---- expressions
Meets : List ℤ → Expr → Type 0
Meets xs e = (value xs (norm e) ≡ eval xs e) × Bounded xs (degree e) (norm e)

meets : (xs : List ℤ) (e : Expr) → degree e < 64 → Meets xs e
unfolding Meets
meets xs (var i) h = (omega (arith, linear, one_mul (mono xs (64 ^ i)), mono_var xs i), (weight_var xs i, tt))
meets xs (con c) h = (keep_value xs 0 c nil ∙ ap (λ y. c *ℤ y +ℤ pos 0) (mono_zero xs) ∙ omega (arith, ints), Bounded-keep xs 0 0 c nil (omega (arith, weight_zero xs)) tt)
meets xs (a ⊕ b) h =
    let p = meets xs a (omega arith) in
    let q = meets xs b (omega arith) in (
      plus_value xs (norm a) (norm b) ∙ ap₂ (λ y z. y +ℤ z) p.0 q.0,
      Bounded-plus xs (max (degree a) (degree b)) (norm a) (norm b) (Bounded-more xs (degree a) _ (omega arith) (norm a) p.1) (Bounded-more xs (degree b) _ (omega arith) (norm b) q.1),
    )
meets xs (a ⊖ b) h =
    let p = meets xs a (omega arith) in
    let q = meets xs b (omega arith) in (
      plus_value xs (norm a) (negate (norm b)) ∙ ap₂ (λ y z. y +ℤ z) p.0 (negate_value xs (norm b) ∙ ap neg_ℤ q.0),
      Bounded-plus xs (max (degree a) (degree b)) (norm a) (negate (norm b)) (Bounded-more xs (degree a) _ (omega arith) (norm a) p.1) (Bounded-negate xs _ (norm b) (Bounded-more xs (degree b) _ (omega arith) (norm b) q.1)),
    )
meets xs (a ⊗ b) h =
    let p = meets xs a (omega arith) in
    let q = meets xs b (omega arith) in
    (product_value xs (degree a) (degree b) h (norm a) (norm b) p.1 q.1 ∙ ap₂ (λ y z. y *ℤ z) p.0 q.0, Bounded-product xs (degree a) (degree b) h (norm a) (norm b) p.1 q.1)
meets xs (neg a) h =
    let p = meets xs a h in
    (negate_value xs (norm a) ∙ ap neg_ℤ p.0, Bounded-negate xs (degree a) (norm a) p.1)

zero_of : (xs : List ℤ) (p : Poly) → T (is_nil p) → value xs p ≡ pos 0
zero_of xs nil t = refl
zero_of xs (term m c p) t = absurd t

both : (a b : Bool) → T (a && b) → T a × T b
both true b t = (tt, t)
both false b t = absurd t

pub ring : (xs : List ℤ) (a b : Expr) → T (same a b) → eval xs a ≡ eval xs b
unfolding Meets
ring xs a b t =
    let s = both (ltb (degree (a ⊖ b)) 64) (is_nil (norm (a ⊖ b))) t in
    let m = meets xs (a ⊖ b) (ltb→lt (degree (a ⊖ b)) 64 s.0) in
    let e : eval xs a -ℤ eval xs b ≡ pos 0 = sym m.0 ∙ zero_of xs (norm (a ⊖ b)) s.1 in
    omega (arith, linear, e)
