-- The frame of a document is a page's box, and it grows.
use Rattle.std.proofs.Common.{arith}
use Rattle.std.proofs.lemmas.Int.{ints}
use Rattle.plan_picture.proofs.picture.box_of.Goals as goal

pub returns-clause-fits : goal.returns-clause-fits
returns-clause-fits c =
    let f = c.requires.floor.frame in
    c.with_spots.ensures.fits (c.with_spots-started.ensures.fits (c.with_obstacles-standing.ensures.fits (record {
      left = omega (arith, ints, f.low.x);
      right = omega (arith, ints, f.high.x);
      below = omega (arith, ints, f.low.y);
      above = omega (arith, ints, f.high.y);
      wide = f.wide;
      tall = f.tall;
    })))
