-- By the value of each number.
use Rattle.std.proofs.Common.{arith, ◌≡◌, ◌++◌, pos, neg_ℤ, ◌*ℤ◌, SFits, to_z-of_z, w32, w64, ap, ap₂, ◌∙◌}
use Rattle.std.proofs.lemmas.Int.{ints}
use Rattle.std.specs.Prelude.{codes, OnOk}
use Rattle.std.proofs.lemmas.Result.{on_ok_weaker}
use Rattle.plan_svg.specs.Decimal.{decimal_text}
use Rattle.plan_svg.specs.Page.{measures_text, view_height, size}
use Rattle.plan_svg.proofs.Puts.{put_four}
use Rattle.plan_svg.proofs.page.put_measures.Goals as goal

pub returns : goal.returns
unfolding measures_text
returns c =
    let out = c.args.out.now.items in
    let box = c.args.frame in
    let f : SFits w64 c.view_height.result = omega (arith, ints, c.view_height.ensures.least, c.view_height.ensures.most) in
    let g : SFits w64 (pos 20 *ℤ c.view_height.result) = omega (arith, ints, c.view_height.ensures.least, c.view_height.ensures.most) in
    let h : SFits w64 c.size.result = omega (arith, ints, c.size.ensures.least, c.size.ensures.most) in
    let i : SFits w64 c.size-2.result = omega (arith, ints, c.size-2.ensures.least, c.size-2.ensures.most) in
    let tall : c.put_decimal.new.out.items ≡ c.put.new.out.items ++ decimal_text (pos 20 *ℤ c.view_height.result) c.size.result = simp to_z-of_z at c.in_ok-put_decimal.ensures in
    let last : OnOk c.put_decimal-2.result (c.put_decimal-2.new.out.items ≡ c.put-2.new.out.items ++ decimal_text c.size-2.result (pos 40)) = simp to_z-of_z at c.put_decimal-2.ensures in
    on_ok_weaker c.put_decimal-2.result
    (λ e. put_four out (codes "\" width=\"880\" height=\"") (decimal_text (pos 20 *ℤ view_height box) (size box)) (codes "\" font-size=\"") (decimal_text (size box) (pos 40))
    c.put.new.out.items c.put_decimal.new.out.items c.put-2.new.out.items c.put_decimal-2.new.out.items c.in_ok-put.ensures
    (tall ∙ ap₂ (λ n s. c.put.new.out.items ++ decimal_text (pos 20 *ℤ n) s) c.view_height.ensures.value c.size.ensures.value) c.in_ok-put-2.ensures
    (e ∙ ap (λ n. c.put-2.new.out.items ++ decimal_text n (pos 40)) c.size-2.ensures.value))
    last
