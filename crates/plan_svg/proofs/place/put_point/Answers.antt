-- By the value of each number.
use Rattle.std.proofs.Common.{◌≡◌, ◌++◌, SFits, to_z-of_z, w64, rules, ap, ap₂, ◌∙◌}
use Rattle.std.proofs.lemmas.Result.{on_ok_weaker}
use Rattle.std.specs.Prelude.{codes}
use Rattle.std.specs.Fmt.{signed_decimal}
use Rattle.plan_svg.specs.Shapes.{pair_text, triple_text}
use Rattle.plan_svg.proofs.Puts.{put_four}
use Rattle.plan_svg.proofs.place.put_point.Goals as goal

pub returns : goal.returns
unfolding triple_text
returns c =
    let out = c.args.out.now.items in
    let p = c.args.point.now in
    let x : SFits w64 c.x.result = search rules in
    let y : SFits w64 c.y.result = search rules in
    let w : SFits w64 c.w.result = search rules in
    let first : c.put_pair.new.out.items ≡ out ++ pair_text c.x.result c.y.result = simp to_z-of_z at c.in_ok-put_pair.ensures in
    let third : c.put_signed.new.out.items ≡ c.put.new.out.items ++ signed_decimal c.w.result = simp to_z-of_z at c.in_ok-put_signed.ensures in
    on_ok_weaker c.put-2.result
    (put_four out (pair_text p.x p.y) (codes ",") (signed_decimal p.w) (codes "]") c.put_pair.new.out.items c.put.new.out.items c.put_signed.new.out.items c.put-2.new.out.items
    (first ∙ ap₂ (λ a b. out ++ pair_text a b) c.x.ensures.value c.y.ensures.value) c.in_ok-put.ensures (third ∙ ap (λ a. c.put.new.out.items ++ signed_decimal a) c.w.ensures.value))
    c.put-2.ensures
