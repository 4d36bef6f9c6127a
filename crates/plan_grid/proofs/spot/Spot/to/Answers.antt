-- No coordinate overflows, so both are as computed.
use Rattle.std.proofs.Common.{rules, refl, ◌-ℤ◌, w32, SFits, to_z-of_z, arith}
use Rattle.std.proofs.lemmas.Int.{fits_signed_from_abs}
use Rattle.plan_grid.proofs.spot.Spot.to.Goals as goal

pub returns : goal.returns
returns c =
    let x : SFits w32 (c.args.other.x -ℤ c.args.self.x) = fits_signed_from_abs w32 _ (omega arith) in
    let y : SFits w32 (c.args.other.y -ℤ c.args.self.y) = fits_signed_from_abs w32 _ (omega arith) in
    let ax : SFits w32 c.args.self.x = search rules in
    let ay : SFits w32 c.args.self.y = search rules in
    let bx : SFits w32 c.args.other.x = search rules in
    let by : SFits w32 c.args.other.y = search rules in
    simp to_z-of_z refl
