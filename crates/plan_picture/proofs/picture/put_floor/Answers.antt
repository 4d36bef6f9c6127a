-- The ground, the obstacles and the frame are put one behind another; the room and the sums are those of the first scene.
use Rattle.std.proofs.Common.{◌++◌, map, refl, ap, subst, ◌∙◌}
use Rattle.std.proofs.lemmas.Result.{on_ok_weaker}
use Rattle.plan_spec.specs.Room.{IsRoom}
use Rattle.plan_spec.specs.Sums.{AreSums}
use Rattle.plan_grid.specs.Frame.{frame_seen}
use Rattle.plan_convex.specs.Piece.{sums_seen}
use Rattle.plan_scene.specs.Scene.{Scene, scene_seen}
use Rattle.plan_svg.specs.Shapes.{shape_text, shapes_text}
use Rattle.plan_svg.proofs.Puts.{put_three}
use Rattle.plan_top.specs.First.{obstacle_of}
use Rattle.plan_picture.specs.Floor.{ground_shapes, obstacle_shape, frame_shape}
use Rattle.plan_picture.specs.Picture.{Drawn}
use Rattle.plan_picture.specs.Seen.{given_seen}
use Rattle.plan_picture.proofs.Texts.{two_and_one}
use Rattle.plan_picture.proofs.picture.put_floor.Goals as goal

pub returns : goal.returns
returns c =
    let f = c.args.floor.now in
    let touched = c.args.touched in
    let before = c.args.out.now.items in
    let put_first = c.put_ground.new.out.items in
    let room = c.room.result in
    let sums = c.sums.result.now in
    let drawn : Drawn = record { room = room; sums = sums; names = f.names.items } in
    let ground = ground_shapes f.frame room sums in
    let obstacles = map (obstacle_shape touched) (given_seen f).obstacles in
    let frame = frame_shape touched f.frame in
    on_ok_weaker c.put_frame.result
    (λ put. record {
      drawn = drawn;
      is_drawn = record {
        is_room = subst (λ (s : Scene). IsRoom (scene_seen s).robot (scene_seen s).frame (frame_seen room)) c.scene-scene.ensures c.room.ensures.room;
        are_sums = subst (λ (s : Scene). AreSums (scene_seen s) (sums_seen sums)) c.scene-scene.ensures c.sums.ensures.sums;
        are_names = c.requires.names;
      };
      names = refl;
      is_text =
          put_three before (shapes_text ground) (shapes_text obstacles) (shape_text frame) put_first c.put_obstacles.new.out.items c.put_frame.new.out.items
          c.in_ok-put_ground.ensures (c.in_ok-put_obstacles.ensures ∙ ap (λ os. put_first ++ shapes_text (map (obstacle_shape touched) (map obstacle_of os))) c.as_slice.ensures.value) put
          ∙ ap (λ l. before ++ l) (two_and_one ground obstacles frame);
    })
    c.put_frame.ensures
