-- A step keeps the greatest common divisor.
use Rattle.std.proofs.Common.{◌≡◌, ◌⊎◌, inl, inr, ◌<◌, ◌≤◌, w64, subst, arith}
use Rattle.std.specs.Int.{IsGcd, trailing_zeros}
use Rattle.std.proofs.lemmas.Bool.{cases_lt}
use Rattle.std.proofs.lemmas.Nat.Gcd.{dvd_refl}
use Rattle.plan_grid.proofs.OddParts.{from_parts, next_pair, shifted}
use Rattle.plan_grid.proofs.gcd.gcd.Goals as goal

pub loop-x-init : goal.loop-x-init
loop-x-init c =
    let a = c.args.a in
    let b = c.args.b in
    let s = trailing_zeros w64 a in
    let t = trailing_zeros w64 b in
    let u = c.odd_part-x.ensures in
    let v = c.odd_part-y.ensures in
    let m = c.min-twos.result in
    let is = c.min-twos.ensures in
    let one : (m ≡ s) ⊎ (m ≡ t) = elim (cases_lt s t) [ inl less ↦ inl (omega (arith, is, less)) | inr le ↦ inr (omega (arith, is, le)) ] in
    (u.odd, v.odd, λ g h. from_parts a b c.odd_part-x.result c.odd_part-y.result s t m g u.of v.of (omega (arith, is)) (omega (arith, is)) one u.odd v.odd h)

pub loop-x-preserved : goal.loop-x-preserved
loop-x-preserved c =
    let x = c.loop-x.x in
    let y = c.loop-x.y in
    let z = c.min-y.result in
    let is = c.min-y.ensures in
    let rest = c.odd_part-rest.ensures in
    let lesser : ((x < y) × (z ≡ x)) ⊎ ((y ≤ x) × (z ≡ y)) = elim (cases_lt x y) [ inl less ↦ inl (less, omega (arith, is, less)) | inr le ↦ inr (le, omega (arith, is, le)) ] in
    let next = next_pair x y c.abs_diff.result z c.odd_part-rest.result (trailing_zeros w64 c.abs_diff.result) c.loop-x.invariant.0 c.loop-x.invariant.1 c.abs_diff.ensures rest.of lesser in
    (rest.odd, next.0, λ g h. c.loop-x.invariant.2 g (next.1 g h))

pub returns : goal.returns
returns c =
    let a = c.args.a in
    let b = c.args.b in
    let x = c.loop-x.x in
    shifted a b x c.min-twos.result (omega (arith, c.if-a-eq0.false)) (omega (arith, c.ranges.a.fits)) (c.loop-x.invariant.2 x (subst (λ y. IsGcd x y x) c.loop-x-test.false (dvd_refl x, dvd_refl x, λ d p q. p)))
