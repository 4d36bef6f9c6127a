-- By the two ends.
use Rattle.std.proofs.Common.{arith, refl}
use Rattle.std.proofs.lemmas.Int.{ints}
use Rattle.plan_svg.proofs.Sides.{sum}
use Rattle.plan_svg.proofs.page.across.Goals as goal

pub returns : goal.returns
returns c =
    let box = c.args.frame in
    rw (sum box.low.x box.high.x c.from.result c.from-2.result c.from.ensures c.from-2.ensures c.requires.left c.requires.wide c.requires.right)
    (record {
      value = refl;
      least = omega (arith, ints, c.requires.left, c.requires.wide);
      most = omega (arith, ints, c.requires.wide, c.requires.right);
    })
