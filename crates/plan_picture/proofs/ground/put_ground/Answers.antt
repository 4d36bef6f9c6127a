-- Each sum is put behind those before it, and all behind the floor and the room.
use Rattle.std.proofs.Common.{List, ◌++◌, map, ap, sym, ◌∙◌, append_assoc}
use Rattle.std.specs.List.{flat_map}
use Rattle.std.proofs.lemmas.Grind.{flat_map-append}
use Rattle.plan_grid.specs.declared.spot.Spot.{Spot}
use Rattle.plan_grid.specs.Spot.{spots_seen}
use Rattle.plan_svg.specs.Shapes.{Shape, polygon, shape_text, shapes_text}
use Rattle.plan_svg.specs.declared.class.Class.TheVariants.{Sum, Floor}
use Rattle.plan_svg.proofs.Puts.{put_next, all_put, of_seen}
use Rattle.plan_picture.specs.Floor.{rectangle, room_shapes}
use Rattle.plan_picture.proofs.ground.put_ground.Goals as goal

abbrev sum_shape : List Spot → Shape
sum_shape s = polygon Sum (spots_seen s)

pub loop-sum-preserved : goal.loop-sum-preserved
loop-sum-preserved c =
    put_next (λ s. shape_text (sum_shape s)) _ c.loop-sum.out.items c.put_polygon.new.out.items c.args.sums.now c.loop-sum.sum-index c.sum-item.result c.loop-sum-test.true c.sum-item.is
    (c.in_ok-put_polygon.ensures ∙ ap (λ (s : List Spot). c.loop-sum.out.items ++ shape_text (sum_shape s)) c.spots.ensures.value) c.loop-sum.invariant

pub returns : goal.returns
returns c =
    let out = c.args.out.now.items in
    let sums = c.args.sums.now in
    let floor = shape_text (rectangle Floor c.args.frame) in
    let rooms = room_shapes c.args.room in
    let texts = flat_map (λ s. shape_text (sum_shape s)) sums in
    all_put (λ s. shape_text (sum_shape s)) _ c.loop-sum.out.items sums c.loop-sum.sum-index c.loop-sum-test.false c.loop-sum.invariant
    ∙ ap (λ l. l ++ texts) (c.in_ok-put_room.ensures ∙ ap (λ l. l ++ shapes_text rooms) c.in_ok-put_rectangle.ensures)
    ∙ append_assoc (out ++ floor) (shapes_text rooms) texts ∙ append_assoc out floor (shapes_text rooms ++ texts)
    ∙ ap (λ l. out ++ (floor ++ l)) (ap (λ l. shapes_text rooms ++ l) (of_seen shape_text sum_shape sums) ∙ sym (flat_map-append shape_text rooms (map sum_shape sums)))
