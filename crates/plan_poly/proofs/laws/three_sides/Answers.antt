use Rattle.plan_poly.proofs.EvenOdd.ThreeSides.{held_by_three}
use Rattle.plan_poly.proofs.laws.three_sides.Goals as goal

pub returns : goal.returns
returns c = held_by_three
