-- The page of a drawing: its box, its head with the robot, the shapes with y upwards, and its tail.
use Rattle.std.specs.Prelude.{ℕ, ℤ, pos, ◌+ℤ◌, ◌-ℤ◌, ◌*ℤ◌, ◌<ℤ◌, ◌≤ℤ◌, neg_ℤ, List, [], ◌∷◌, ◌++◌, codes}
use Rattle.std.specs.Int.{int_min, int_max}
use Rattle.plan_spec.specs.Vector.{Vector}
use Rattle.plan_grid.specs.declared.frame.Frame.{Frame}
use Rattle.plan_grid.specs.declared.spot.Spot.{Spot}
use Rattle.plan_grid.specs.Spot.{spots_seen, plus, least, greatest}
use Rattle.plan_svg.specs.Decimal.{decimal_text}
use Rattle.plan_svg.specs.Shapes.{Shape, points_text, escaped, shapes_text}
use Rattle.plan_svg.specs.declared.page.TheConstants.{STYLE}

-- ---- boxes
-- the least box round the box and the spot
abbrev pub with_spot : Frame → Spot → Frame
with_spot box s = record { low = least box.low s; high = greatest box.high s }

-- round the box and the spots, moved by `at`
abbrev pub with_spots : Frame → Spot → List Spot → Frame
with_spots box at [] = box
with_spots box at (s ∷ ss) = with_spots (with_spot box (plus s at)) at ss

-- ---- measures, in units of the document
abbrev pub width : Frame → ℤ
width box = box.high.x -ℤ box.low.x

abbrev pub height : Frame → ℤ
height box = box.high.y -ℤ box.low.y

-- a picture is as wide as the longer side of its box, and letters are a fortieth of that high
abbrev pub size : Frame → ℤ
size box = int_max (width box) (height box)

-- the view in fortieths: two letters' height left and right of the box, and below it; above it is room for the caption. Its
-- upper side is told with y downwards, as SVG has it
unfoldable pub left : Frame → ℤ
left box = pos 20 *ℤ (box.low.x +ℤ box.high.x) -ℤ pos 22 *ℤ size box

unfoldable pub upper : Frame → ℤ
upper box = pos 0 -ℤ (pos 40 *ℤ box.high.y +ℤ pos 3 *ℤ size box)

unfoldable pub view_width : Frame → ℤ
view_width box = pos 44 *ℤ size box

unfoldable pub view_height : Frame → ℤ
view_height box = pos 40 *ℤ height box +ℤ pos 5 *ℤ size box

-- the middle of the caption: above the middle of the box
unfoldable pub caption_y : Frame → ℤ
caption_y box = pos 40 *ℤ box.high.y +ℤ pos 2 *ℤ size box

abbrev pub caption_at : Frame → Vector
caption_at box = record { x = pos 20 *ℤ (box.low.x +ℤ box.high.x); y = caption_y box; w = pos 40 }

-- a little below a spot
unfoldable pub mark_y : Frame → Spot → ℤ
mark_y box s = pos 32 *ℤ s.y -ℤ size box

abbrev pub mark_at : Frame → Spot → Vector
mark_at box s = record { x = pos 32 *ℤ s.x; y = mark_y box s; w = pos 32 }

-- coordinates of at most 3069 in absolute value, and width and height
pub record IsPageBox (box : Frame) : Type 0 where
  pub left : neg_ℤ (pos 3069) ≤ℤ box.low.x
  pub right : box.high.x ≤ℤ pos 3069
  pub below : neg_ℤ (pos 3069) ≤ℤ box.low.y
  pub above : box.high.y ≤ℤ pos 3069
  pub wide : box.low.x <ℤ box.high.x
  pub tall : box.low.y <ℤ box.high.y

-- ---- the text
unfoldable pub corner_text : Frame → List ℕ
corner_text box = decimal_text (left box) (pos 40) ++ codes " " ++ decimal_text (upper box) (pos 40)

unfoldable pub extent_text : Frame → List ℕ
extent_text box = decimal_text (view_width box) (pos 40) ++ codes " " ++ decimal_text (view_height box) (pos 40)

unfoldable pub view_text : Frame → List ℕ
view_text box = codes "<svg xmlns=\"http://www.w3.org/2000/svg\" viewBox=\"" ++ corner_text box ++ codes " " ++ extent_text box

-- 20 pixels to a letter
unfoldable pub measures_text : Frame → List ℕ
measures_text box =
    codes "\" width=\"880\" height=\"" ++ decimal_text (pos 20 *ℤ view_height box) (size box) ++ codes "\" font-size=\"" ++ decimal_text (size box) (pos 40)

unfoldable pub title_text : List ℕ → List ℕ
title_text title = codes "\">\n<title>" ++ escaped title ++ codes "</title>\n"

unfoldable pub robot_text : List Spot → List ℕ
robot_text robot = codes "<defs><g id=\"robot\"><polygon" ++ points_text (spots_seen robot) ++ codes "/><circle r=\".2em\"/></g></defs>\n"

-- y goes up
unfoldable pub front_text : Frame → List ℕ → List ℕ
front_text box title = view_text box ++ measures_text box ++ title_text title

unfoldable pub head_text : Frame → List Spot → List ℕ → List ℕ
head_text box robot title = front_text box title ++ STYLE.now ++ robot_text robot ++ codes "<g transform=\"scale(1,-1)\">\n"

abbrev pub tail_text : List ℕ
tail_text = codes "</g>\n</svg>\n"

abbrev pub page_text : Frame → List Spot → List ℕ → List Shape → List ℕ
page_text box robot title shapes = head_text box robot title ++ (shapes_text shapes ++ tail_text)
