-- By the value of each number.
use Rattle.std.proofs.Common.{arith, pos, ◌+ℤ◌, ◌*ℤ◌, SFits, to_z-of_z, w64, ap₂}
use Rattle.std.proofs.lemmas.Int.{ints}
use Rattle.plan_svg.specs.Page.{caption_y}
use Rattle.plan_svg.proofs.page.caption_y.Goals as goal

pub returns : goal.returns
unfolding caption_y
returns c =
    let y : SFits w64 c.top.result = omega (arith, ints, c.top.ensures.least, c.top.ensures.most) in
    let s : SFits w64 c.size.result = omega (arith, ints, c.size.ensures.least, c.size.ensures.most) in
    let ys : SFits w64 (pos 40 *ℤ c.top.result) = omega (arith, ints, c.top.ensures.least, c.top.ensures.most) in
    let ss : SFits w64 (pos 2 *ℤ c.size.result) = omega (arith, ints, c.size.ensures.least, c.size.ensures.most) in
    let all : SFits w64 (pos 40 *ℤ c.top.result +ℤ pos 2 *ℤ c.size.result) = omega (arith, ints, c.top.ensures.least, c.top.ensures.most, c.size.ensures.least, c.size.ensures.most) in
    rw (to_z-of_z y, to_z-of_z s, to_z-of_z ys, to_z-of_z ss, to_z-of_z all)
    (record {
      value = ap₂ (λ a b. pos 40 *ℤ a +ℤ pos 2 *ℤ b) c.top.ensures.value c.size.ensures.value;
      least = omega (arith, ints, c.top.ensures.least, c.size.ensures.least);
      most = omega (arith, ints, c.top.ensures.most, c.size.ensures.most);
    })
