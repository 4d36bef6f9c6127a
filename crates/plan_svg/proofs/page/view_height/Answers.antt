-- By the value of each number.
use Rattle.std.proofs.Common.{arith, pos, ◌+ℤ◌, ◌*ℤ◌, SFits, to_z-of_z, w64, ap₂}
use Rattle.std.proofs.lemmas.Int.{ints}
use Rattle.plan_svg.specs.Page.{view_height}
use Rattle.plan_svg.proofs.page.view_height.Goals as goal

pub returns : goal.returns
unfolding view_height
returns c =
    let y : SFits w64 c.height.result = omega (arith, ints, c.height.ensures.least, c.height.ensures.most) in
    let s : SFits w64 c.size.result = omega (arith, ints, c.size.ensures.least, c.size.ensures.most) in
    let ys : SFits w64 (pos 40 *ℤ c.height.result) = omega (arith, ints, c.height.ensures.least, c.height.ensures.most) in
    let ss : SFits w64 (pos 5 *ℤ c.size.result) = omega (arith, ints, c.size.ensures.least, c.size.ensures.most) in
    let all : SFits w64 (pos 40 *ℤ c.height.result +ℤ pos 5 *ℤ c.size.result) = omega (arith, ints, c.height.ensures.least, c.height.ensures.most, c.size.ensures.least, c.size.ensures.most) in
    rw (to_z-of_z y, to_z-of_z s, to_z-of_z ys, to_z-of_z ss, to_z-of_z all)
    (record {
      value = ap₂ (λ a b. pos 40 *ℤ a +ℤ pos 5 *ℤ b) c.height.ensures.value c.size.ensures.value;
      least = omega (arith, ints, c.height.ensures.least, c.height.ensures.most, c.size.ensures.least, c.size.ensures.most);
      most = omega (arith, ints, c.height.ensures.least, c.height.ensures.most, c.size.ensures.least, c.size.ensures.most);
    })
