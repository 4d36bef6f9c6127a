-- By the two ends.
use Rattle.std.proofs.Common.{arith, refl}
use Rattle.std.proofs.lemmas.Int.{ints}
use Rattle.plan_svg.proofs.Sides.{difference}
use Rattle.plan_svg.proofs.page.width.Goals as goal

pub returns : goal.returns
returns c =
    let box = c.args.frame in
    rw (difference box.high.x box.low.x c.from.result c.from-2.result c.from.ensures c.from-2.ensures c.requires.left c.requires.wide c.requires.right)
    (record {
      value = refl;
      least = omega (arith, ints, c.requires.wide);
      most = omega (arith, ints, c.requires.left, c.requires.right);
    })
