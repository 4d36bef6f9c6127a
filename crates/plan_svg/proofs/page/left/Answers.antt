-- By the value of each number.
use Rattle.std.proofs.Common.{arith, pos, ◌-ℤ◌, ◌*ℤ◌, SFits, to_z-of_z, w64, ap₂}
use Rattle.std.proofs.lemmas.Int.{ints}
use Rattle.plan_svg.specs.Page.{left}
use Rattle.plan_svg.proofs.page.left.Goals as goal

pub returns : goal.returns
unfolding left
returns c =
    let x : SFits w64 c.across.result = omega (arith, ints, c.across.ensures.least, c.across.ensures.most) in
    let s : SFits w64 c.size.result = omega (arith, ints, c.size.ensures.least, c.size.ensures.most) in
    let xs : SFits w64 (pos 20 *ℤ c.across.result) = omega (arith, ints, c.across.ensures.least, c.across.ensures.most) in
    let ss : SFits w64 (pos 22 *ℤ c.size.result) = omega (arith, ints, c.size.ensures.least, c.size.ensures.most) in
    let all : SFits w64 (pos 20 *ℤ c.across.result -ℤ pos 22 *ℤ c.size.result) = omega (arith, ints, c.across.ensures.least, c.across.ensures.most, c.size.ensures.least, c.size.ensures.most) in
    rw (to_z-of_z x, to_z-of_z s, to_z-of_z xs, to_z-of_z ss, to_z-of_z all)
    (record {
      value = ap₂ (λ a b. pos 20 *ℤ a -ℤ pos 22 *ℤ b) c.across.ensures.value c.size.ensures.value;
      least = omega (arith, ints, c.across.ensures.least, c.across.ensures.most, c.size.ensures.least, c.size.ensures.most);
      most = omega (arith, ints, c.across.ensures.least, c.across.ensures.most, c.size.ensures.least, c.size.ensures.most);
    })
