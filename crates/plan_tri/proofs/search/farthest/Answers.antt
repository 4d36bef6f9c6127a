-- Each spot is passed by, or compared with the farthest one behind it.
use Rattle.std.proofs.Common.{◌≡◌, ℕ, suc, ◌-◌, ◌<◌, ◌≤◌, length, sym, subst, arith}
use Rattle.plan_grid.specs.Spot.{spot_seen, spots_seen}
use Rattle.plan_spec.specs.Triangulation.{in_triangle, farther}
use Rattle.plan_poly.proofs.FromLeast.Search.{Behind}
use Rattle.plan_tri.proofs.Region.Search.{FarthestBehind, passed_by, compared, number_within, searched}
use Rattle.plan_tri.proofs.search.farthest.Goals as goal

before : (i : ℕ) → 0 < i → i ≡ suc (i - 1)
before i h = omega (arith, h)

pub loop-i-preserved-then-is_in_triangle : goal.loop-i-preserved-then-is_in_triangle
loop-i-preserved-then-is_in_triangle c =
    let v = spot_seen c.args.v in let w = spot_seen c.args.w in let u = spot_seen c.args.u in
    let spots = c.args.spots.now in
    let i = c.loop-i.i - 1 in
    let most = c.loop-i.auto.i in
    let some = c.loop-i-test.true in
    let within : i < length spots = omega (arith, most, some) in
    let behind = subst (λ (n : ℕ). FarthestBehind v w u spots n c.loop-i.found) (before c.loop-i.i some) c.loop-i.invariant.best in
    record {
      within = subst (λ (n : ℕ). n < length spots) (sym c.farther_one.ensures) (number_within w u spots i c.loop-i.found within c.loop-i.invariant.within);
      best = subst (Behind (in_triangle v w u) (farther w u) (spots_seen spots) i) (sym c.farther_one.ensures) (compared v w u spots i c.loop-i.found within (sym c.if-is_in_triangle.ensures) behind);
    }

pub loop-i-preserved : goal.loop-i-preserved
loop-i-preserved c =
    let v = spot_seen c.args.v in let w = spot_seen c.args.w in let u = spot_seen c.args.u in
    let spots = c.args.spots.now in
    let most = c.loop-i.auto.i in
    let some = c.loop-i-test.true in
    record {
      within = c.loop-i.invariant.within;
      best = passed_by v w u spots (c.loop-i.i - 1) c.loop-i.found (omega (arith, most, some)) (sym c.if-is_in_triangle.ensures) (subst (λ (n : ℕ). FarthestBehind v w u spots n c.loop-i.found) (before c.loop-i.i some) c.loop-i.invariant.best);
    }

pub returns-clause-best : goal.returns-clause-best
returns-clause-best c =
    searched (spot_seen c.args.v) (spot_seen c.args.w) (spot_seen c.args.u) c.args.spots.now c.loop-i.found (subst (λ (n : ℕ). FarthestBehind (spot_seen c.args.v) (spot_seen c.args.w) (spot_seen c.args.u) c.args.spots.now n c.loop-i.found) (none c.loop-i.i c.loop-i-test.false) c.loop-i.invariant.best)
  where
    none : (i : ℕ) → i ≤ 0 → i ≡ 0
    none i h = omega (arith, h)
