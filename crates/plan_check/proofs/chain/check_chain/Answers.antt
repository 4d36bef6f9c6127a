-- Each return tells what the tests so far have found; a chain that passes all of them blocks.
use Rattle.std.proofs.Common.{◌≡◌, Option, None, Some, MatchOption, All, refl, sym, arith}
use Rattle.plan_exact.proofs.Laws.{linear}
use Rattle.plan_spec.specs.Chain.{IsClosed}
use Rattle.plan_grid.specs.Frame.{frame_seen}
use Rattle.plan_grid.specs.Spot.{spot_seen}
use Rattle.plan_convex.specs.Piece.{sums_seen}
use Rattle.plan_check.specs.Touching.{IsProperAndTight}
use Rattle.plan_check.proofs.ChainFaults.{Passed, sound, accepted, blocks}
use Rattle.plan_check.proofs.chain.check_chain.Goals as goal
use Rattle.plan_check.proofs.chain.check_chain.Goals.{Else-parity}

-- what is said where there is none
none_is : {X : Type 0} (P : X → Type 0) (C : Type 0) (o : Option X) → ((x : X) → o ≡ Some x → ⊥) → MatchOption o C P → C
none_is P C None other h = h
none_is P C (Some x) other h = absurd (other x refl)

pub returns-in-Some-clause-verdict : goal.returns-in-Some-clause-verdict
returns-in-Some-clause-verdict c = rw (c.as_slice.ensures.value, c.chain.view_is) at (c.in-Some.ensures (spot_seen c.args.query.start) (spot_seen c.args.query.goal))

pub returns-in-Some-unclosed-clause-verdict : goal.returns-in-Some-unclosed-clause-verdict
returns-in-Some-unclosed-clause-verdict c =
    let S = sums_seen c.args.sums.now in
    let R = frame_seen c.args.room in
    let s = spot_seen c.args.query.start in
    let g = spot_seen c.args.query.goal in
    let chain = c.args.chain.now in
    let tight : All (IsProperAndTight S R) chain = rw (c.as_slice.ensures.value, c.chain.view_is) at (c.in_default.ensures s g) in
    (sound S R s g chain tight, rw c.in-Some-unclosed.is at c.in_ok-unclosed.ensures.first)

pub returns-then-not-parity-clause-verdict : goal.returns-then-not-parity-clause-verdict
returns-then-not-parity-clause-verdict c =
    let S = sums_seen c.args.sums.now in
    let R = frame_seen c.args.room in
    let s = spot_seen c.args.query.start in
    let g = spot_seen c.args.query.goal in
    let chain = c.args.chain.now in
    let tight : All (IsProperAndTight S R) chain = rw (c.as_slice.ensures.value, c.chain.view_is) at (c.in_default.ensures s g) in
    let closed : IsClosed chain = none_is _ (IsClosed chain) c.in_ok-unclosed.unclosed c.in_default-unclosed.not-Some c.in_ok-unclosed.ensures.first in
    (sound S R s g chain tight, closed, sym (rw (c.as_slice-2.ensures.value, c.chain.view_is) at c.if-not-parity.ensures))

pub returns-then-parity-clause-verdict : goal.returns-then-parity-clause-verdict
returns-then-parity-clause-verdict c =
    let S = sums_seen c.args.sums.now in
    let R = frame_seen c.args.room in
    let s = spot_seen c.args.query.start in
    let g = spot_seen c.args.query.goal in
    let chain = c.args.chain.now in
    let tight : All (IsProperAndTight S R) chain = rw (c.as_slice.ensures.value, c.chain.view_is) at (c.in_default.ensures s g) in
    let closed : IsClosed chain = none_is _ (IsClosed chain) c.in_ok-unclosed.unclosed c.in_default-unclosed.not-Some c.in_ok-unclosed.ensures.first in
    (sound S R s g chain tight, closed, sym (rw (c.as_slice-2.ensures.value, c.chain.view_is) at c.if-not-parity.ensures), sym (rw (c.as_slice-3.ensures.value, c.chain.view_is) at c.if-parity.ensures))

passed : (c : Else-parity) → Passed (sums_seen c.args.sums.now) (frame_seen c.args.room) (spot_seen c.args.query.start) (spot_seen c.args.query.goal) c.args.chain.now
passed c =
    let S = sums_seen c.args.sums.now in
    let R = frame_seen c.args.room in
    let s = spot_seen c.args.query.start in
    let g = spot_seen c.args.query.goal in
    let chain = c.args.chain.now in
    let tight : All (IsProperAndTight S R) chain = rw (c.as_slice.ensures.value, c.chain.view_is) at (c.in_default.ensures s g) in
    let closed : IsClosed chain = none_is _ (IsClosed chain) c.in_ok-unclosed.unclosed c.in_default-unclosed.not-Some c.in_ok-unclosed.ensures.first in
    record {
      tight = tight;
      closed = closed;
      odd = sym (rw (c.as_slice-2.ensures.value, c.chain.view_is) at c.if-not-parity.ensures);
      even = sym (rw (c.as_slice-3.ensures.value, c.chain.view_is) at c.if-parity.ensures);
    }

pub returns-clause-verdict : goal.returns-clause-verdict
returns-clause-verdict c = accepted (sums_seen c.args.sums.now) (frame_seen c.args.room) (spot_seen c.args.query.start) (spot_seen c.args.query.goal) c.args.chain.now (passed c)

pub returns-clause-blocks : goal.returns-clause-blocks
returns-clause-blocks c scene told =
    blocks (sums_seen c.args.sums.now) (frame_seen c.args.room) (spot_seen c.args.query.start) (spot_seen c.args.query.goal) c.args.chain.now scene told (omega (arith, linear)) (omega (arith, linear)) (passed c)
