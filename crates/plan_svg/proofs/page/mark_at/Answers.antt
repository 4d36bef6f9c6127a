-- By the value of each number.
use Rattle.std.proofs.Common.{arith, ◌≡◌, ◌++◌, pos, neg_ℤ, ◌*ℤ◌, SFits, to_z-of_z, w32, w64, ap, ap₂, ◌∙◌}
use Rattle.std.proofs.lemmas.Int.{ints}
use Rattle.plan_svg.proofs.page.mark_at.Goals as goal

pub returns : goal.returns
returns c =
    let given : SFits w32 c.args.spot.x = omega (arith, ints, c.requires.spot.x) in
    let value : c.from.result ≡ c.args.spot.x = simp to_z-of_z at c.from.ensures in
    let x : SFits w64 c.from.result = omega (arith, ints, value, c.requires.spot.x) in
    let most : SFits w64 (pos 32 *ℤ c.from.result) = omega (arith, ints, value, c.requires.spot.x) in
    let y : SFits w64 c.mark_y.result = omega (arith, ints, c.mark_y.ensures.least, c.mark_y.ensures.most) in
    simp to_z-of_z at c.new.ensures ∙ ap₂ (λ a b. record { x = pos 32 *ℤ a; y = b; w = pos 32 }) value c.mark_y.ensures.value
