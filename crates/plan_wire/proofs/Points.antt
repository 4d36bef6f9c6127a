-- The point of three numbers, where one is made of them, is that of the definition: both are in lowest terms and at one position.
use Rattle.std.proofs.Common.{◌≡◌, ℕ, zero, suc, ◌*◌, ◌%◌, ◌<◌, ◌^◌, ℤ, pos, unsigned_abs, int_le, nat_le, Bool, true, false, ◌&&◌, Option, Some, None, IsNone, IfSome, ◌⊎◌, inl, inr, ◌↔◌, rules, cond, refl, sym, ap, arith}
use Rattle.std.specs.Int.{IsGcd}
use Rattle.std.proofs.lemmas.Int.{ints}
use Rattle.std.proofs.lemmas.Bool.{leb-true, leb-false, and_parts}
use Rattle.std.proofs.lemmas.Bool.Decides.{nat_tests}
use Rattle.std.proofs.lemmas.Option.{cond_some}
use Rattle.std.proofs.lemmas.Nat.Gcd.{IsGcd-from_zero, IsGcd-from_mod}
use Rattle.plan_exact.proofs.Tests.{le_from_true, lt_from_false}
use Rattle.plan_spec.specs.Vector.{Vector, Same}
use Rattle.plan_plane.proofs.Segment.Same.{Same-trans, Same-swapped}
use Rattle.plan_grid.specs.Bounds.{IsBeyond, IsBounded, IsInRange}
use Rattle.plan_grid.proofs.Divisors.{quotient_is_exact}
use Rattle.plan_grid.proofs.Lowest.{IsReduced, divisor_of_gcds, reduced_is_same, reduced_is_in_range}
use Rattle.plan_grid.proofs.Unique.{equal_points}
use Rattle.plan_wire.specs.Documents.{is_point, gcd_by, gcd, lowest, point_at}

-- ---- lowest terms

euclid : (n a b : ℕ) → b < n → IsGcd a b (gcd_by n a b)
euclid zero a b h = absurd (omega arith)
euclid (suc n) a zero h = IsGcd-from_zero a 0 refl
euclid (suc n) a (suc b) h =
    let less : a % suc b < n = omega arith in
    let is : gcd_by (suc n) a (suc b) ≡ gcd_by n (suc b) (a % suc b) = search (rules, nat_tests) in
    rw is (IsGcd-from_mod a (suc b) (gcd_by n (suc b) (a % suc b)) (euclid n (suc b) (a % suc b) less))

is_gcd : (a b : ℕ) → IsGcd a b (gcd a b)
unfolding gcd
is_gcd a b = euclid (suc b) a b (omega arith)

reduced : (p : Vector) → IsBounded (2 ^ 51) p → (g : ℕ) × IsReduced p (lowest p) g
unfolding lowest
reduced p b =
    let h = gcd (unsigned_abs p.x) (unsigned_abs p.y) in
    let g = gcd h (unsigned_abs p.w) in
    let d = divisor_of_gcds p.x p.y p.w h g b.weight (omega (arith, b.weight_bounded)) (is_gcd (unsigned_abs p.x) (unsigned_abs p.y)) (is_gcd h (unsigned_abs p.w)) in
    (g, record { x = quotient_is_exact p.x g d.x; y = quotient_is_exact p.y g d.y; w = quotient_is_exact p.w g d.w; divisor = d })

-- ---- the test

where_point : (p : Vector) → is_point p ≡ true → IsBounded (2 ^ 51) p
where_point p h =
    let both = and_parts (int_le (pos 1) p.w && int_le p.w (pos (2 ^ 51))) (nat_le (unsigned_abs p.x) (2046 * unsigned_abs p.w) && nat_le (unsigned_abs p.y) (2046 * unsigned_abs p.w)) h in
    let weight = and_parts (int_le (pos 1) p.w) (int_le p.w (pos (2 ^ 51))) both.0 in
    let coordinates = and_parts (nat_le (unsigned_abs p.x) (2046 * unsigned_abs p.w)) (nat_le (unsigned_abs p.y) (2046 * unsigned_abs p.w)) both.1 in
    record {
      weight = le_from_true (pos 1) p.w weight.0;
      weight_bounded = omega (arith, ints, le_from_true (pos 1) p.w weight.0, le_from_true p.w (pos (2 ^ 51)) weight.1);
      x_bounded = leb-true _ _ coordinates.0;
      y_bounded = leb-true _ _ coordinates.1;
    }

-- a false test of four
one_false : (a b c d : Bool) → ((a && b) && (c && d)) ≡ false → (a ≡ false) ⊎ ((b ≡ false) ⊎ ((c ≡ false) ⊎ (d ≡ false)))
one_false false b c d h = inl refl
one_false true false c d h = inr (inl refl)
one_false true true false d h = inr (inr (inl refl))
one_false true true true d h = inr (inr (inr h))

where_beyond : (p : Vector) → is_point p ≡ false → IsBeyond p.x p.y p.w
where_beyond p h = first (one_false (int_le (pos 1) p.w) (int_le p.w (pos (2 ^ 51))) (nat_le (unsigned_abs p.x) (2046 * unsigned_abs p.w)) (nat_le (unsigned_abs p.y) (2046 * unsigned_abs p.w)) h)
  where
    first : (int_le (pos 1) p.w ≡ false) ⊎ ((int_le p.w (pos (2 ^ 51)) ≡ false) ⊎ ((nat_le (unsigned_abs p.x) (2046 * unsigned_abs p.w) ≡ false) ⊎ (nat_le (unsigned_abs p.y) (2046 * unsigned_abs p.w) ≡ false))) → IsBeyond p.x p.y p.w
    first (inl e) = inl (lt_from_false (pos 1) p.w e)
    first (inr (inl e)) = inr (inl (lt_from_false p.w (pos (2 ^ 51)) e))
    first (inr (inr (inl e))) = inr (inr (inl (leb-false _ _ e)))
    first (inr (inr (inr e))) = inr (inr (inr (leb-false _ _ e)))

beyond_is_none : (p : Vector) → IsBounded (2 ^ 51) p → ¬ (IsBeyond p.x p.y p.w)
beyond_is_none p b (inl h) = omega (arith, ints, b.weight)
beyond_is_none p b (inr (inl h)) = omega (arith, ints, b.weight_bounded)
beyond_is_none p b (inr (inr (inl h))) = omega (arith, b.x_bounded)
beyond_is_none p b (inr (inr (inr h))) = omega (arith, b.y_bounded)

module _ (p : Vector) where
  at_true : is_point p ≡ true → (r : Option Vector) → IsNone r ↔ IsBeyond p.x p.y p.w → IfSome r (λ q. Same q p) → IfSome r IsInRange → r ≡ Some (lowest p)
  at_true h None none same in_range = absurd (beyond_is_none p (where_point p h) (none.0 refl))
  at_true h (Some q) none same in_range =
      let b = where_point p h in
      let r = reduced p b in
      let low_same = reduced_is_same p (lowest p) r.0 r.1 in
      ap Some (equal_points q (lowest p) in_range (reduced_is_in_range p (lowest p) r.0 r.1 b) (Same-trans q p (lowest p) (omega (arith, ints, b.weight)) same (Same-swapped (lowest p) p low_same)))

  at_false : is_point p ≡ false → (r : Option Vector) → IsNone r ↔ IsBeyond p.x p.y p.w → r ≡ None
  at_false h None none = refl
  at_false h (Some q) none = let e : true ≡ false = none.1 (where_beyond p h) in cc

by_test : (b : Bool) (r o : Option Vector) → (b ≡ true → r ≡ o) → (b ≡ false → r ≡ None) → r ≡ cond b o None
by_test true r o f g = f refl
by_test false r o f g = g refl

pub is_point_at : (x y w : ℤ) (r : Option Vector) → IsNone r ↔ IsBeyond x y w → IfSome r (λ p. Same p (record { x = x; y = y; w = w })) → IfSome r IsInRange → r ≡ point_at x y w
unfolding point_at
is_point_at x y w r none same in_range =
    let p : Vector = record { x = x; y = y; w = w } in
    by_test (is_point p) r (Some (lowest p)) (λ h. at_true p h r none same in_range) (λ h. at_false p h r none)

-- a point that is made of three numbers is in range
pub point_in_range : (x y w : ℤ) (p : Vector) → point_at x y w ≡ Some p → IsInRange p
unfolding point_at
point_in_range x y w p h =
    let q : Vector = record { x = x; y = y; w = w } in
    let c = cond_some (is_point q) (lowest q) p h in
    let b = where_point q c.0 in
    let r = reduced q b in
    rw (← c.1) (reduced_is_in_range q (lowest q) r.0 r.1 b)

-- a point in range is made of its own numbers
pub point_at_itself : (p : Vector) → IsInRange p → point_at p.x p.y p.w ≡ Some p
point_at_itself p h =
    let b : IsBounded (2 ^ 51) p = record { weight = h.weight; weight_bounded = h.weight_bounded; x_bounded = h.x_bounded; y_bounded = h.y_bounded } in
    sym (is_point_at p.x p.y p.w (Some p) (λ none. absurd cc, λ beyond. absurd (beyond_is_none p b beyond)) (refl, refl) h)
