-- What is shown, and a floor, as the definitions see them.
use Rattle.std.specs.List.{AllZip}
use Rattle.std.specs.Prelude.{◌≡◌, ◌++◌, ℕ, List, Option, option_map, string_bytes}
use Rattle.plan_scene.specs.Scene.{Scene}
use Rattle.plan_cross.specs.declared.certificate.Query.{Query}
use Rattle.plan_svg.specs.Shapes.{shapes_text}
use Rattle.plan_wire.specs.Bounds.{AtMost, FrameFits, ShapeFits, SpotsFit}
use Rattle.plan_wire.specs.Documents.{most_bytes}
use Rattle.plan_wire.specs.Seen.{certificate_seen}
use Rattle.plan_reply.specs.First.{IsFirst}
use Rattle.plan_top.specs.First.{given_of}
use Rattle.plan_picture.specs.Floor.{IsNamePlace}
use Rattle.plan_picture.specs.Picture.{Drawn, IsDrawn, floor_shapes, picture_text}
use Rattle.plan_picture.specs.Shown as definition
use Rattle.plan_picture.specs.declared.floor.Floor.{Floor}
use Rattle.plan_picture.specs.declared.shown.Shown.{Shown}

abbrev pub shown_seen : Shown → definition.Shown
shown_seen s = record { way = option_map certificate_seen s.way; wrong = option_map certificate_seen s.wrong; touched = s.touched; words = string_bytes s.words }

-- the scene as it is given
abbrev pub given_seen : Floor → Scene
given_seen f = given_of f.frame f.robot.items f.obstacles.items

-- it is in range, its stand is that of its first scene, and each id has its place
pub record IsFloor (f : Floor) : Type 0 where
  pub frame : FrameFits f.frame
  pub robot : SpotsFit 16 f.robot.items
  pub obstacles : AtMost most_bytes ShapeFits f.obstacles.items
  pub is_first : IsFirst (given_seen f) f.stand
  pub names : AllZip IsNamePlace (given_seen f).obstacles f.names.items

-- a floor is put behind the bytes before
pub record IsFloorPut (f : Floor) (touched : Option ℕ) (before after : List ℕ) : Type 0 where
  pub drawn : Drawn
  pub is_drawn : IsDrawn (given_seen f) f.stand drawn
  pub names : drawn.names ≡ f.names.items
  pub is_text : after ≡ before ++ shapes_text (floor_shapes (given_seen f) drawn touched)

-- the text is the picture of a floor and a query, with what is shown
pub record IsPictureOf (f : Floor) (q : Query) (shown : definition.Shown) (text : List ℕ) : Type 0 where
  pub drawn : Drawn
  pub is_drawn : IsDrawn (given_seen f) f.stand drawn
  pub is_text : text ≡ picture_text (given_seen f) drawn q shown

-- of this scene
abbrev pub IsFloorOf : Scene → Floor → Type 0
IsFloorOf given f = IsFloor f × (given_seen f ≡ given)
