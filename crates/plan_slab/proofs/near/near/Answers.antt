-- The box at hand has the x of z, and its number is one more, or it has not.
use Rattle.std.proofs.Common.{◌≡◌, ℕ, Bool, true, false, List, length, subst, arith}
use Rattle.std.proofs.lemmas.List.{get_or_default}
use Rattle.plan_spec.specs.Vector.{Vector}
use Rattle.plan_grid.specs.declared.frame.Frame.{Frame}
use Rattle.plan_slab.specs.Near.{HasX, AreNear}
use Rattle.plan_slab.proofs.Boxes.{AreNearSoFar, near_more, near_less}
use Rattle.plan_slab.proofs.near.near.Goals as goal
use Rattle.plan_slab.proofs.near.near.Goals.{then-has_x+in_ok-push, else-has_x}

-- a test is not both
not_both : {b : Bool} → b ≡ true → ¬ (b ≡ false)
not_both t f = cc

all_near : {boxes : List Frame} {z : Vector} {near : List ℕ} {n : ℕ} → AreNearSoFar boxes z near n → n ≡ length boxes → AreNear boxes z near
all_near {boxes} {z} {near} h e = let g = subst (AreNearSoFar boxes z near) e h in record { within = g.within; all = g.all }

pub loop-i-preserved : goal.loop-i-preserved
loop-i-preserved c = elim c.if-has_x.branch [
  | then-has_x+in_ok-push w ↦ rw (w.numbers-is, w.in_ok-push.ensures.items) (near_more c.args.boxes.now c.args.z c.loop-i.numbers.items c.loop-i.i c.loop-i.invariant)
  | else-has_x w ↦ rw w.numbers-is (near_less c.args.boxes.now c.args.z c.loop-i.numbers.items c.loop-i.i c.loop-i.invariant (λ f has. not_both (c.has_x.ensures.1 (subst (λ b. HasX b c.args.z) (get_or_default c.args.boxes.now c.loop-i.i f _ c.loop-i-test.true) has)) w.if-has_x.false))
]

pub returns : goal.returns
returns c = all_near c.loop-i.invariant (omega (arith, c.loop-i-test.false, c.loop-i.auto.i-end))
