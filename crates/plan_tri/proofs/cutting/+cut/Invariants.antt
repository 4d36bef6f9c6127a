-- Each part has fewer spots.
use Rattle.std.proofs.Common.{length}
use Rattle.plan_tri.proofs.cutting.+cut.Given as goal

abbrev pub decreases-cut : goal.decreases-cut
decreases-cut a = length a.spots.items
