-- A spot is taken where the best one behind it does not come before it.
use Rattle.std.proofs.Common.{◌≡◌, ℕ, suc, ◌-◌, ◌<◌, ◌≤◌, length, refl, sym, subst, arith}
use Rattle.plan_poly.proofs.FromLeast.LeastSpot.{LeastBehind, least_kept, least_taken}
use Rattle.plan_poly.proofs.FromLeast.Search.{at_end}
use Rattle.plan_poly.proofs.least.least.Goals as goal

before : (i : ℕ) → 0 < i → suc (i - 1) ≡ i
before i h = omega (arith, h)

pub loop-i-preserved-then-not-is_before : goal.loop-i-preserved-then-not-is_before
loop-i-preserved-then-not-is_before c =
    let spots = c.args.spots.now in
    let i = c.loop-i.i - 1 in
    let most = c.loop-i.auto.i in
    let within : i < length spots = omega (arith, most, c.requires) in
    record {
      within = within;
      best = least_taken spots i c.loop-i.least within (λ b. let e = c.if-not-is_before.ensures.1 b in cc) (subst (λ (n : ℕ). LeastBehind spots n c.loop-i.least) (sym (before c.loop-i.i c.loop-i-test.true)) c.loop-i.invariant.best);
    }

pub loop-i-preserved : goal.loop-i-preserved
loop-i-preserved c =
    let spots = c.args.spots.now in
    let i = c.loop-i.i - 1 in
    let most = c.loop-i.auto.i in
    record {
      within = c.loop-i.invariant.within;
      best = least_kept spots i c.loop-i.least (omega (arith, most, c.requires)) (c.if-not-is_before.ensures.0 refl) (subst (λ (n : ℕ). LeastBehind spots n c.loop-i.least) (sym (before c.loop-i.i c.loop-i-test.true)) c.loop-i.invariant.best);
    }

pub returns-clause-best : goal.returns-clause-best
returns-clause-best c = at_end (subst (λ (n : ℕ). LeastBehind c.args.spots.now n c.loop-i.least) (none c.loop-i.i c.loop-i-test.false) c.loop-i.invariant.best)
  where
    none : (i : ℕ) → i ≤ 0 → i ≡ 0
    none i h = omega (arith, h)
