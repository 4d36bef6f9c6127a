-- All is put one behind another, between the head and the tail of the page.
use Rattle.std.proofs.Common.{◌++◌, length, map, ap, sym, ◌∙◌}
use Rattle.std.proofs.lemmas.List.{length-map}
use Rattle.std.proofs.lemmas.Slice.Zip.{AllZip-long}
use Rattle.plan_svg.specs.Page.{head_text, tail_text}
use Rattle.plan_svg.specs.Shapes.{shape_text, shapes_text}
use Rattle.plan_top.specs.First.{obstacle_of}
use Rattle.plan_picture.specs.Floor.{IsNamePlace, name_shapes}
use Rattle.plan_picture.specs.Picture.{box_of, caption_shape, end_shapes, floor_shapes}
use Rattle.plan_picture.specs.Seen.{given_seen, shown_seen}
use Rattle.plan_picture.specs.Shown.{shown_shapes}
use Rattle.plan_picture.proofs.Texts.{page_put}
use Rattle.plan_picture.proofs.picture.picture.Goals as goal

pub put_names-requires : goal.put_names-requires
put_names-requires c =
    let f = c.args.floor.now in
    ap length c.as_slice-2.ensures.value ∙ sym (length-map f.obstacles.items obstacle_of) ∙ sym (AllZip-long IsNamePlace (given_seen f).obstacles f.names.items c.requires.floor.names) ∙ ap length (sym c.as_slice-3.ensures.value)

pub returns : goal.returns
returns c =
    let f = c.args.floor.now in
    let given = given_seen f in
    let q = c.args.query in
    let shown = shown_seen c.args.shown.now in
    let page = c.box_of-page.result in
    let box = box_of given q in
    let is_page = c.box_of-page.ensures.value in
    let floor = c.in_ok-put_floor.ensures in
    let headed = c.put_head.new.out.items in
    let shown_put = c.put_shown.new.out.items in
    let ends_put = c.put_ends.new.out.items in
    let names_put = c.put_names.new.out.items in
    let caption_put = c.put_caption.new.out.items in
    record {
      drawn = floor.drawn;
      is_drawn = floor.is_drawn;
      is_text =
          page_put (head_text box f.robot.items shown.words) tail_text (floor_shapes given floor.drawn shown.touched) (shown_shapes shown) (end_shapes box q) (name_shapes given.obstacles floor.drawn.names) (caption_shape box shown.words)
          headed c.put_floor.new.out.items shown_put ends_put names_put caption_put c.put_tail.new.out.items
          (c.in_ok-put_head.ensures ∙ ap (λ l. l ++ head_text page c.as_slice.result.now c.as_str.result.now) c.new-out.ensures.items ∙ ap (λ r. head_text page r c.as_str.result.now) c.as_slice.ensures.value ∙ ap (head_text page f.robot.items) c.as_str.ensures.value ∙ ap (λ b. head_text b f.robot.items shown.words) is_page)
          floor.is_text
          c.in_ok-put_shown.ensures
          (c.in_ok-put_ends.ensures ∙ ap (λ b. shown_put ++ shapes_text (end_shapes b q)) is_page)
          (c.in_ok-put_names.ensures ∙ ap (λ os. ends_put ++ shapes_text (name_shapes (map obstacle_of os) c.as_slice-3.result.now)) c.as_slice-2.ensures.value
          ∙ ap (λ ps. ends_put ++ shapes_text (name_shapes given.obstacles ps)) (c.as_slice-3.ensures.value ∙ sym floor.names))
          (c.in_ok-put_caption.ensures ∙ ap (λ w. names_put ++ shape_text (caption_shape page w)) c.as_str-2.ensures.value ∙ ap (λ b. names_put ++ shape_text (caption_shape b shown.words)) is_page)
          c.in_ok-put_tail.ensures;
    }
