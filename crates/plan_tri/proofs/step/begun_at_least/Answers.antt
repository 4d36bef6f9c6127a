-- The list is as long as before, so the vector has all that is turned.
use Rattle.std.proofs.Common.{◌≡◌, length, ap, ◌∙◌, arith}
use Rattle.std.proofs.Math.Seq.{take-append_seam}
use Rattle.plan_spec.specs.Triangulation.{from_least}
use Rattle.plan_grid.specs.Spot.{spots_seen}
use Rattle.plan_tri.proofs.step.begun_at_least.Goals as goal

pub returns : goal.returns
returns c =
    let size : c.args.spots.len ≡ length c.turn_to_least.new.spots = omega arith in
    let count : length c.turn_to_least.new.spots ≡ length c.args.spots.items = omega arith in
    rw (size, take-append_seam) (record { value = c.turn_to_least.ensures.least ∙ ap (λ l. from_least (spots_seen l)) c.deref_mut.ensures.value; count = count })
