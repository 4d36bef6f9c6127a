-- By the value of each number.
use Rattle.std.proofs.Common.{arith, ◌≡◌, ◌++◌, pos, neg_ℤ, ◌*ℤ◌, SFits, to_z-of_z, w32, w64, ap, ap₂, ◌∙◌}
use Rattle.std.proofs.lemmas.Int.{ints}
use Rattle.std.specs.Prelude.{codes, OnOk}
use Rattle.std.proofs.lemmas.Result.{on_ok_weaker}
use Rattle.plan_svg.specs.Decimal.{decimal_text}
use Rattle.plan_svg.specs.Page.{corner_text, left, upper}
use Rattle.plan_svg.proofs.Puts.{put_three}
use Rattle.plan_svg.proofs.page.put_corner.Goals as goal

pub returns : goal.returns
unfolding corner_text
returns c =
    let out = c.args.out.now.items in
    let box = c.args.frame in
    let f : SFits w64 c.left.result = omega (arith, ints, c.left.ensures.least, c.left.ensures.most) in
    let g : SFits w64 c.upper.result = omega (arith, ints, c.upper.ensures.least, c.upper.ensures.most) in
    let first : c.put_decimal.new.out.items ≡ out ++ decimal_text c.left.result (pos 40) = simp to_z-of_z at c.in_ok-put_decimal.ensures in
    let last : OnOk c.put_decimal-2.result (c.put_decimal-2.new.out.items ≡ c.put.new.out.items ++ decimal_text (c.upper.result) (pos 40)) = simp to_z-of_z at c.put_decimal-2.ensures in
    on_ok_weaker c.put_decimal-2.result
    (λ e. put_three out (decimal_text (left box) (pos 40)) (codes " ") (decimal_text (upper box) (pos 40)) c.put_decimal.new.out.items c.put.new.out.items c.put_decimal-2.new.out.items
    (first ∙ ap (λ n. out ++ decimal_text n (pos 40)) c.left.ensures.value) c.in_ok-put.ensures (e ∙ ap (λ n. c.put.new.out.items ++ decimal_text n (pos 40)) c.upper.ensures.value))
    last
