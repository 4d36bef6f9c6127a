-- By the value of each number.
use Rattle.std.proofs.Common.{◌≡◌, ◌++◌, pos, SFits, to_z-of_z, w32, w64, rules, ap, ◌∙◌}
use Rattle.std.specs.Prelude.{codes, OnOk}
use Rattle.std.proofs.lemmas.Result.{on_ok_weaker}
use Rattle.plan_svg.specs.Decimal.{decimal_text}
use Rattle.plan_svg.specs.Shapes.{place_text}
use Rattle.plan_svg.proofs.Puts.{put_three}
use Rattle.plan_svg.proofs.place.SpotPlaced.put_place.Goals as goal

pub returns : goal.returns
unfolding place_text
returns c =
    let out = c.args.out.now.items in
    let s = c.args.self.now in
    let x32 : SFits w32 s.x = search rules in
    let y32 : SFits w32 s.y = search rules in
    let x : SFits w64 c.from.result = search rules in
    let y : SFits w64 c.from-2.result = search rules in
    let first : c.put_decimal.new.out.items ≡ out ++ decimal_text c.from.result (pos 1) = simp to_z-of_z at c.in_ok-put_decimal.ensures in
    let last : OnOk c.put_decimal-2.result (c.put_decimal-2.new.out.items ≡ c.put.new.out.items ++ decimal_text c.from-2.result (pos 1)) = simp to_z-of_z at c.put_decimal-2.ensures in
    let is_x : c.from.result ≡ s.x = simp to_z-of_z at c.from.ensures in
    let is_y : c.from-2.result ≡ s.y = simp to_z-of_z at c.from-2.ensures in
    on_ok_weaker c.put_decimal-2.result
    (λ e. put_three out (decimal_text s.x (pos 1)) (codes ",") (decimal_text s.y (pos 1)) c.put_decimal.new.out.items c.put.new.out.items c.put_decimal-2.new.out.items
    (first ∙ ap (λ n. out ++ decimal_text n (pos 1)) is_x) c.in_ok-put.ensures (e ∙ ap (λ n. c.put.new.out.items ++ decimal_text n (pos 1)) is_y))
    last
