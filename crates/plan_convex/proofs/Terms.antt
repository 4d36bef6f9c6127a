-- A parameter in lowest terms is a parameter: its denominator divides that of each fraction of its value.
use Rattle.std.proofs.Common.{◌≡◌, ◌*◌, ◌<◌, ◌≤◌, rules, ℤ, pos, negsuc, ◌≤ℤ◌, ◌<ℤ◌, unsigned_abs, SFits, to_z, of_z, to_z-of_z, Fits, w32, refl, arith}
use Rattle.std.specs.Int.{w128}
use lib.Dec.{T}
use lib.Signed.{non_neg}
use Rattle.std.proofs.lemmas.Int.{ints}
use Rattle.std.proofs.lemmas.Nat.Gcd.{le_of_dvd}
use Rattle.plan_exact.proofs.Laws.{linear, mul_comm}
use Rattle.plan_exact.proofs.Signs.{mul_nonneg, mul_le_mul, nonneg_of_mul, le_of_lt, le_of_mul}
use Rattle.plan_grid.specs.declared.bounds.TheConstants.{MOST_DENOMINATOR}
use Rattle.plan_grid.specs.Fraction.{Fraction, SameValue, IsRatio}
use Rattle.plan_grid.proofs.Unique.{den_divides}
use Rattle.plan_convex.specs.Parameter.{IsParameter}
use Rattle.plan_convex.proofs.Means.{positive_size, small_weight}

pub record InTerms (r : Fraction) : Type 0 where
  pub nonneg : pos 0 ≤ℤ r.num
  pub upto : r.num ≤ℤ r.den
  pub positive : pos 0 <ℤ r.den
  pub bounded : r.den <ℤ pos 33554432
  pub num_bounded : r.num <ℤ pos 33554432

small : (d m : ℤ) → pos 0 <ℤ d → pos 0 <ℤ m → unsigned_abs d ≤ unsigned_abs m → d ≤ℤ m
small d m hd hm h = omega (arith, ints)

pub in_terms : (r p : Fraction) → IsRatio r → SameValue r p → IsParameter p → InTerms r
in_terms r p hr same hp =
    let rd : pos 0 <ℤ r.den = omega (arith, linear, hr.positive) in
    let pd = hp.share.positive in
    let n = mul_nonneg hp.share.nonneg (le_of_lt rd) in
    let u = mul_le_mul r.den (le_of_lt rd) hp.share.upto in
    let upto = le_of_mul r.num r.den p.den pd (omega (arith, linear, u, same, mul_comm p.den r.den)) in
    let s = small r.den p.den rd pd (le_of_dvd (positive_size p.den pd) (den_divides r p hr same)) in
    record {
      nonneg = nonneg_of_mul pd (omega (arith, linear, n, same, mul_comm p.den r.num));
      upto = upto;
      positive = rd;
      bounded = omega (arith, linear, s, hp.bounded);
      num_bounded = omega (arith, linear, upto, s, hp.bounded);
    }

-- ---- the two numbers, as the code has them
pub as_value : (r p : Fraction) (n d : ℤ) → SFits w128 n → SFits w128 d → n ≡ p.num → d ≡ p.den → SameValue r (record { num = to_z w128 (of_z w128 n); den = to_z w128 (of_z w128 d) }) → SameValue r p
as_value r p n d hn hd en ed same = rw (en, ed) at (simp to_z-of_z at same)

pub fits_32 : (x : ℤ) → pos 0 ≤ℤ x → x <ℤ pos 33554432 → T (non_neg x) × Fits w32 (unsigned_abs x)
fits_32 (pos n) h k = let less : n < 33554432 = omega (arith, ints) in (tt, search rules)
fits_32 (negsuc n) h k = absurd (omega (arith, ints))

pub size_is : (x : ℤ) → pos 0 ≤ℤ x → x <ℤ pos 33554432 → unsigned_abs x < 33554432
size_is x h k = omega (arith, ints)

pub size_upto : (x y : ℤ) → pos 0 ≤ℤ x → x ≤ℤ y → unsigned_abs x ≤ unsigned_abs y
size_upto x y h k = omega (arith, ints)

-- what is not negative is its own size
size_of : (x : ℤ) → pos 0 ≤ℤ x → pos (unsigned_abs x) ≡ x
size_of (pos n) h = refl
size_of (negsuc n) h = absurd (omega (arith, ints))

pub sizes_value : (r p : Fraction) → InTerms r → SameValue r p → SameValue (record { num = pos (unsigned_abs r.num); den = pos (unsigned_abs r.den) }) p
sizes_value r p t same = rw (size_of r.num t.nonneg, size_of r.den (le_of_lt t.positive)) same

-- a parameter is within the bounds of a ratio
pub record IsReady (p : Fraction) : Type 0 where
  pub positive : pos 1 ≤ℤ p.den
  pub den_bounded : unsigned_abs p.den ≤ MOST_DENOMINATOR
  pub num_bounded : unsigned_abs p.num ≤ 2046 * unsigned_abs p.den

pub ready : (p : Fraction) → IsParameter p → IsReady p
ready p h =
    let num = size_upto p.num p.den h.share.nonneg h.share.upto in
    let den = small_weight p.den h.share.positive h.bounded in
    record {
      positive = omega (arith, linear, h.share.positive);
      den_bounded = omega (arith, den);
      num_bounded = omega (arith, num);
    }
