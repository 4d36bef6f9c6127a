-- How large the cross product of two ways between spots is, and how little it changes from spot to spot.
use Rattle.std.proofs.Common.{◌≡◌, ◌≤◌, ◌<◌, ◌^◌, ℤ, ◌-ℤ◌, ◌*ℤ◌, [], ◌∷◌, ap, arith}
use Rattle.std.proofs.lemmas.Int.{ints, unsigned_abs-mul}
use Rattle.std.specs.Int.RustNames.{unsigned_abs}
use Rattle.plan_exact.specs.Expr.{◌⊖◌}
use Rattle.plan_exact.specs.Formal as F
use Rattle.plan_exact.proofs.Ring.{ring}
use Rattle.plan_exact.proofs.Sizes.{product_at_most}
use Rattle.plan_spec.specs.Vector.{turn}
use Rattle.plan_grid.specs.declared.spot.Spot.{Spot}
use Rattle.plan_grid.specs.Spot.{spot_seen, IsWithin, way, cross}
use Rattle.plan_grid.proofs.FormalSpots as S
use Rattle.plan_grid.proofs.FormalSpots.{coordinates, P}
use Rattle.plan_grid.proofs.Turns.{turn_cross}

-- the cross product of two ways of at most 4092 along each axis
crossed_size : (ux uy vx vy : ℤ) → unsigned_abs ux ≤ 4092 → unsigned_abs uy ≤ 4092 → unsigned_abs vx ≤ 4092 → unsigned_abs vy ≤ 4092 → unsigned_abs (ux *ℤ vy -ℤ uy *ℤ vx) ≤ 33488928
crossed_size ux uy vx vy a b c d =
    let p = product_at_most (unsigned_abs ux) (unsigned_abs vy) 4092 4092 a d in
    let q = product_at_most (unsigned_abs uy) (unsigned_abs vx) 4092 4092 b c in
    let e = unsigned_abs-mul ux vy in
    let f = unsigned_abs-mul uy vx in
    apart (ux *ℤ vy) (uy *ℤ vx) (omega (arith, e, p)) (omega (arith, f, q))
  where
    apart : (m n : ℤ) → unsigned_abs m ≤ 16744464 → unsigned_abs n ≤ 16744464 → unsigned_abs (m -ℤ n) ≤ 33488928
    apart m n h k = omega (arith, ints)

-- how far apart two coordinates are
pub run_bounded : (a b : ℤ) → unsigned_abs a ≤ 2046 → unsigned_abs b ≤ 2046 → unsigned_abs (b -ℤ a) ≤ 4092
run_bounded a b h k = omega (arith, ints)

pub turn_size : (a b c : Spot) → IsWithin 2046 a → IsWithin 2046 b → IsWithin 2046 c → unsigned_abs (turn (spot_seen a) (spot_seen b) (spot_seen c)) ≤ 33488928
turn_size a b c ha hb hc =
    let s = crossed_size (b.x -ℤ a.x) (b.y -ℤ a.y) (c.x -ℤ a.x) (c.y -ℤ a.y) (run_bounded a.x b.x ha.x hb.x) (run_bounded a.y b.y ha.y hb.y) (run_bounded a.x c.x ha.x hc.x) (run_bounded a.y c.y ha.y hc.y) in
    omega (arith, s, ap unsigned_abs (turn_cross a b c))

-- from one spot to another it changes by the cross product with the way between them
difference_is : (p q a b : Spot) → turn (spot_seen p) (spot_seen q) (spot_seen b) -ℤ turn (spot_seen p) (spot_seen q) (spot_seen a) ≡ cross (way p q) (way a b)
difference_is p q a b =
    ring (coordinates (p ∷ q ∷ a ∷ b ∷ [])) (F.det (S.seen (P 0)) (S.seen (P 1)) (S.seen (P 3)) ⊖ F.det (S.seen (P 0)) (S.seen (P 1)) (S.seen (P 2))) (S.cross (S.way (P 0) (P 1)) (S.way (P 2) (P 3))) tt

pub change_size : (p q a b : Spot) → IsWithin 2046 p → IsWithin 2046 q → IsWithin 2046 a → IsWithin 2046 b → unsigned_abs (turn (spot_seen p) (spot_seen q) (spot_seen b) -ℤ turn (spot_seen p) (spot_seen q) (spot_seen a)) < 2 ^ 25
change_size p q a b hp hq ha hb =
    let s = crossed_size (q.x -ℤ p.x) (q.y -ℤ p.y) (b.x -ℤ a.x) (b.y -ℤ a.y) (run_bounded p.x q.x hp.x hq.x) (run_bounded p.y q.y hp.y hq.y) (run_bounded a.x b.x ha.x hb.x) (run_bounded a.y b.y ha.y hb.y) in
    omega (arith, s, ap unsigned_abs (difference_is p q a b))
