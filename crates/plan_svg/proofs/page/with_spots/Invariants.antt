-- The box so far, with the spots that are left, is the whole box.
use Rattle.std.proofs.Common.{◌≡◌, drop}
use Rattle.plan_svg.specs.Page.{IsPageBox, with_spots}
use Rattle.plan_svg.proofs.page.with_spots.Given as goal

abbrev pub invariant-loop-spot : goal.invariant-loop-spot
invariant-loop-spot l = (with_spots l.frame l.at (drop l.spot-index l.spots) ≡ with_spots l.initial.frame l.at l.spots) × (IsPageBox l.initial.frame → IsPageBox l.frame)
