-- By the two ends.
use Rattle.std.proofs.Common.{arith, refl}
use Rattle.std.proofs.lemmas.Int.{ints}
use Rattle.plan_svg.proofs.Sides.{difference}
use Rattle.plan_svg.proofs.page.height.Goals as goal

pub returns : goal.returns
returns c =
    let box = c.args.frame in
    rw (difference box.high.y box.low.y c.from.result c.from-2.result c.from.ensures c.from-2.ensures c.requires.below c.requires.tall c.requires.above)
    (record {
      value = refl;
      least = omega (arith, ints, c.requires.tall);
      most = omega (arith, ints, c.requires.below, c.requires.above);
    })
