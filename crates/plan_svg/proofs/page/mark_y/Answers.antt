-- By the value of each number.
use Rattle.std.proofs.Common.{arith, ◌≡◌, pos, ◌-ℤ◌, ◌*ℤ◌, SFits, to_z-of_z, w32, w64, ap₂}
use Rattle.std.proofs.lemmas.Int.{ints}
use Rattle.plan_svg.specs.Page.{mark_y}
use Rattle.plan_svg.proofs.page.mark_y.Goals as goal

pub returns : goal.returns
unfolding mark_y
returns c =
    let given : SFits w32 c.args.spot.y = omega (arith, ints, c.requires.spot.y) in
    let is : c.from.result ≡ c.args.spot.y = simp to_z-of_z at c.from.ensures in
    let y : SFits w64 c.from.result = omega (arith, ints, is, c.requires.spot.y) in
    let s : SFits w64 c.size.result = omega (arith, ints, c.size.ensures.least, c.size.ensures.most) in
    let ys : SFits w64 (pos 32 *ℤ c.from.result) = omega (arith, ints, is, c.requires.spot.y) in
    let all : SFits w64 (pos 32 *ℤ c.from.result -ℤ c.size.result) = omega (arith, ints, is, c.requires.spot.y, c.size.ensures.least, c.size.ensures.most) in
    rw (to_z-of_z y, to_z-of_z s, to_z-of_z ys, to_z-of_z all)
    (record {
      value = ap₂ (λ a b. pos 32 *ℤ a -ℤ b) is c.size.ensures.value;
      least = omega (arith, ints, is, c.requires.spot.y, c.size.ensures.least, c.size.ensures.most);
      most = omega (arith, ints, is, c.requires.spot.y, c.size.ensures.least, c.size.ensures.most);
    })
