-- By the two sides.
use Rattle.std.proofs.Common.{arith, ◌≡◌, SFits, to_z-of_z, w64, ap₂, ◌∙◌}
use Rattle.std.specs.Int.{int_max}
use Rattle.std.proofs.lemmas.Int.{ints, int_max_is}
use Rattle.plan_svg.proofs.page.size.Goals as goal

pub returns : goal.returns
returns c =
    let wide : SFits w64 c.width.result = omega (arith, ints, c.width.ensures.least, c.width.ensures.most) in
    let tall : SFits w64 c.height.result = omega (arith, ints, c.height.ensures.least, c.height.ensures.most) in
    let is : c.max.result ≡ int_max c.width.result c.height.result = simp to_z-of_z at c.max.ensures.value in
    let one = int_max_is c.width.result c.height.result in
    let fits : SFits w64 c.max.result = omega (arith, ints, is, one, c.width.ensures.least, c.width.ensures.most, c.height.ensures.least, c.height.ensures.most) in
    rw (to_z-of_z fits)
    (record {
      value = is ∙ ap₂ int_max c.width.ensures.value c.height.ensures.value;
      least = omega (arith, ints, is, one, c.width.ensures.least, c.height.ensures.least);
      most = omega (arith, ints, is, one, c.width.ensures.most, c.height.ensures.most);
    })
