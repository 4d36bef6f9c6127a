-- The point of an edge at a parameter is a mean of its ends, so it is no farther than they are; and in lowest terms its weight divides the denominator.
use Rattle.std.proofs.Common.{◌≡◌, ◌↔◌, inl, inr, ℕ, ◌+◌, ◌*◌, ◌<◌, ◌≤◌, ◌^◌, ℤ, pos, ◌+ℤ◌, ◌-ℤ◌, ◌*ℤ◌, ◌≤ℤ◌, ◌<ℤ◌, unsigned_abs, Option, None, Some, IsNone, IsSome, IfSome, SFits, w64, to_z, of_z, to_z-of_z, refl, subst, arith}
use Rattle.std.specs.Int.{w128}
use Rattle.std.proofs.lemmas.Int.{ints, unsigned_abs-mul, fits_signed_from_abs}
use Rattle.std.proofs.lemmas.Nat.Gcd.{le_of_dvd}
use Rattle.plan_exact.proofs.Laws.{linear}
use Rattle.plan_exact.proofs.Sizes.{product_at_most}
use Rattle.plan_spec.specs.Vector.{Vector, Same}
use Rattle.plan_grid.specs.Bounds.{IsInRange, IsBeyond}
use Rattle.plan_grid.proofs.Unique.{weight_divides}

sum_size : (m n : ℤ) → unsigned_abs (m +ℤ n) ≤ unsigned_abs m + unsigned_abs n
sum_size m n = omega (arith, ints)

parts_size : (d n : ℤ) → pos 0 ≤ℤ n → n ≤ℤ d → unsigned_abs (d -ℤ n) + unsigned_abs n ≡ unsigned_abs d
parts_size d n h k = omega (arith, ints)

pub mean_size : (d n a b : ℤ) → pos 0 ≤ℤ n → n ≤ℤ d → unsigned_abs a ≤ 2046 → unsigned_abs b ≤ 2046 → unsigned_abs ((d -ℤ n) *ℤ a +ℤ n *ℤ b) ≤ 2046 * unsigned_abs d
mean_size d n a b h k ha hb =
    let p = product_at_most (unsigned_abs (d -ℤ n)) (unsigned_abs a) (unsigned_abs (d -ℤ n)) 2046 (omega arith) ha in
    let q = product_at_most (unsigned_abs n) (unsigned_abs b) (unsigned_abs n) 2046 (omega arith) hb in
    omega (arith, p, q, unsigned_abs-mul (d -ℤ n) a, unsigned_abs-mul n b, sum_size ((d -ℤ n) *ℤ a) (n *ℤ b), parts_size d n h k)

pub small_weight : (w : ℤ) → pos 0 <ℤ w → w <ℤ pos 33554432 → unsigned_abs w < 33554432
small_weight w h k = omega (arith, ints)

least_size : (w : ℤ) (n : ℕ) → pos 1 ≤ℤ w → unsigned_abs w ≤ n → n < 33554432 → w <ℤ pos 33554432
least_size w n h k l = omega (arith, ints)

pub positive_size : (w : ℤ) → pos 0 <ℤ w → 0 < unsigned_abs w
positive_size w h = omega (arith, ints)

pub weight_bounded : (p q : Vector) → IsInRange p → Same p q → pos 0 <ℤ q.w → q.w <ℤ pos 33554432 → p.w <ℤ pos 33554432
weight_bounded p q h same hq k = least_size p.w (unsigned_abs q.w) h.weight (le_of_dvd (positive_size q.w hq) (weight_divides p q h.lowest same)) (small_weight q.w hq k)

-- ---- in the code
pub abs_small : (x d : ℤ) → pos 0 ≤ℤ x → x ≤ℤ d → d <ℤ pos 33554432 → unsigned_abs x < 33554432
abs_small x d h k l = omega (arith, ints)

pub two_products : (r f n g s t : ℤ) → unsigned_abs r ≤ 67108864 → unsigned_abs n ≤ 67108864 → unsigned_abs f ≤ 2147483648 → unsigned_abs g ≤ 2147483648 → unsigned_abs s ≤ unsigned_abs r * unsigned_abs f → unsigned_abs t ≤ unsigned_abs n * unsigned_abs g → unsigned_abs s + unsigned_abs t < 2 ^ 127
two_products r f n g s t hr hn hf hg hs ht = omega (arith, product_at_most (unsigned_abs r) (unsigned_abs f) 67108864 2147483648 hr hf, product_at_most (unsigned_abs n) (unsigned_abs g) 67108864 2147483648 hn hg)

pub below_62 : (m d : ℤ) → pos 0 <ℤ d → d <ℤ pos 33554432 → unsigned_abs m ≤ 2046 * unsigned_abs d → unsigned_abs m < 2 ^ 62
below_62 m d h k l = omega (arith, small_weight d h k, l)

-- a number that is taken out, and narrowed to 64 bits
abbrev pub narrowed : ℤ → ℤ
narrowed n = to_z w64 (of_z w64 (to_z w128 (of_z w128 n)))

narrowed_is : (n m d : ℤ) → n ≡ m → pos 0 <ℤ d → d <ℤ pos 33554432 → unsigned_abs m ≤ 2046 * unsigned_abs d → narrowed n ≡ m
narrowed_is n m d e h k l =
    let b = below_62 m d h k l in
    let wide : SFits w128 m = fits_signed_from_abs w128 m (omega (arith, b)) in
    let narrow : SFits w64 m = fits_signed_from_abs w64 m (omega (arith, b)) in
    rw (e, to_z-of_z wide, to_z-of_z narrow) refl

pub fits_narrow : (n m d : ℤ) → n ≡ m → pos 0 <ℤ d → d <ℤ pos 33554432 → unsigned_abs m ≤ 2046 * unsigned_abs d → SFits w64 (to_z w128 (of_z w128 n))
fits_narrow n m d e h k l =
    let b = below_62 m d h k l in
    let wide : SFits w128 m = fits_signed_from_abs w128 m (omega (arith, b)) in
    rw (e, to_z-of_z wide) (fits_signed_from_abs w64 m (omega (arith, b)))

-- what is within the bounds is not beyond them
within_bounds : (x y w : ℤ) → pos 0 <ℤ w → w <ℤ pos 33554432 → unsigned_abs x ≤ 2046 * unsigned_abs w → unsigned_abs y ≤ 2046 * unsigned_abs w → ¬ (IsBeyond x y w)
within_bounds x y w h k a b (inl least) = omega (arith, linear)
within_bounds x y w h k a b (inr (inl most)) = omega (arith, linear)
within_bounds x y w h k a b (inr (inr (inl far))) = omega (arith, a, far)
within_bounds x y w h k a b (inr (inr (inr far))) = omega (arith, b, far)

some_unless : {X : Type 0} (o : Option X) → ¬ (IsNone o) → IsSome o
some_unless None h = absurd (h refl)
some_unless (Some x) h = refl

-- so there is a point, and it is the one that was asked for
pub made : (o : Option Vector) (l m n x y w : ℤ) → l ≡ x → m ≡ y → n ≡ w → pos 0 <ℤ w → w <ℤ pos 33554432 → unsigned_abs x ≤ 2046 * unsigned_abs w → unsigned_abs y ≤ 2046 * unsigned_abs w
    → IsNone o ↔ IsBeyond (narrowed l) (narrowed m) (narrowed n) → IfSome o (λ p. Same p (record { x = narrowed l; y = narrowed m; w = narrowed n })) → IsSome o × IfSome o (λ p. Same p (record { x = x; y = y; w = w }))
made o l m n x y w e f g h k a b none same =
    let ex = narrowed_is l x w e h k a in
    let ey = narrowed_is m y w f h k b in
    let ew = narrowed_is n w w g h k (omega arith) in
    (some_unless o (λ beyond. within_bounds x y w h k a b (rw (ex, ey, ew) at (none.0 beyond))), rw (ex, ey, ew) at same)

pub same_weight : (d n x y : ℤ) (p : Vector) → Same p (record { x = x; y = y; w = d }) → Same p (record { x = x; y = y; w = (d -ℤ n) *ℤ pos 1 +ℤ n *ℤ pos 1 })
same_weight d n x y p h = let e : d ≡ (d -ℤ n) *ℤ pos 1 +ℤ n *ℤ pos 1 = omega (arith, linear) in subst (λ w. Same p (record { x = x; y = y; w = w })) e h
