-- By the value of each number.
use Rattle.std.proofs.Common.{arith, ◌≡◌, ◌++◌, pos, neg_ℤ, ◌*ℤ◌, SFits, to_z-of_z, w32, w64, ap, ap₂, ◌∙◌}
use Rattle.std.proofs.lemmas.Int.{ints}
use Rattle.plan_svg.proofs.page.caption_at.Goals as goal

pub returns : goal.returns
returns c =
    let x : SFits w64 c.across.result = omega (arith, ints, c.across.ensures.least, c.across.ensures.most) in
    let most : SFits w64 (pos 20 *ℤ c.across.result) = omega (arith, ints, c.across.ensures.least, c.across.ensures.most) in
    let y : SFits w64 c.caption_y.result = omega (arith, ints, c.caption_y.ensures.least, c.caption_y.ensures.most) in
    simp to_z-of_z at c.new.ensures ∙ ap₂ (λ a b. record { x = pos 20 *ℤ a; y = b; w = pos 40 }) c.across.ensures.value c.caption_y.ensures.value
