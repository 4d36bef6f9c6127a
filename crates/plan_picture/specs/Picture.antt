-- The picture of a query with its reply, and of a certificate with its verdict.
use Rattle.std.specs.Prelude.{◌≡◌, ℕ, zero, suc, pos, List, [], ◌∷◌, ◌++◌, map, codes, Option, Some, None}
use Rattle.std.specs.List.{AllZip}
use Rattle.plan_spec.specs.Answers.{Answer}
use Rattle.plan_spec.specs.Room.{IsRoom}
use Rattle.plan_spec.specs.Sums.{AreSums}
use Rattle.plan_spec.specs.Vector.{Vector}
use Rattle.plan_grid.specs.declared.frame.Frame.{Frame}
use Rattle.plan_grid.specs.declared.spot.Spot.{Spot}
use Rattle.plan_grid.specs.Frame.{frame_seen}
use Rattle.plan_grid.specs.Spot.{spot_seen}
use Rattle.plan_convex.specs.Piece.{sums_seen}
use Rattle.plan_cross.specs.declared.certificate.Query.{Query}
use Rattle.plan_cross.specs.declared.certificate.Certificate as cross
use Rattle.plan_wire.specs.Documents as wire
use Rattle.plan_wire.specs.Documents.{Document, proof}
use Rattle.plan_wire.specs.Seen.{query_seen, certificate_seen}
use Rattle.plan_scene.specs.Scene.{Scene, Obstacle, scene_seen}
use Rattle.plan_check.specs.declared.verdict.Verdict.{Verdict}
use Rattle.plan_reply.specs.First.{IsFirst}
use Rattle.plan_top.specs.Outcome.{IsVerdictOn}
use Rattle.plan_top.specs.Plan.{IsAnswered, OnQueries}
use Rattle.plan_svg.specs.Shapes.{Shape, robot, label}
use Rattle.plan_svg.specs.Page.{with_spots, caption_at, mark_at, page_text}
use Rattle.plan_picture.specs.Floor.{at, IsNamePlace, ground_shapes, obstacle_shape, name_shapes, frame_shape}
use Rattle.plan_picture.specs.Shown.{Shown, reply_shown, verdict_shown, shown_shapes}
use Rattle.plan_svg.specs.declared.class.Class.TheVariants as class

-- ---- the box of what is drawn: round the frame, the obstacles, and the robot at start and goal
abbrev pub with_obstacles : Frame → List Obstacle → Frame
with_obstacles box [] = box
with_obstacles box (o ∷ os) = with_obstacles (with_spots box (at (pos 0) (pos 0)) o.spots) os

abbrev pub box_of : Scene → Query → Frame
box_of s q = with_spots (with_spots (with_obstacles s.frame s.obstacles) q.start s.robot) q.goal s.robot

-- ---- the shapes
-- the robot at the goal and at the start, and their names
abbrev pub end_shapes : Frame → Query → List Shape
end_shapes box q =
    robot class.Goal (spot_seen q.goal) ∷ robot class.Start (spot_seen q.start)
    ∷ label class.Mark (mark_at box q.goal) (codes "goal") ∷ label class.Mark (mark_at box q.start) (codes "start") ∷ []

abbrev pub caption_shape : Frame → List ℕ → Shape
caption_shape box words = label class.Caption (caption_at box) words

-- what is drawn of a floor beside what its document says: the room, the sums, and where the ids stand
pub record Drawn : Type 0 where
  pub room : Frame
  pub sums : List (List Spot)
  pub names : List Vector

-- of the scene as it is given, with the room and the sums of its first scene
pub record IsDrawn (given first : Scene) (drawn : Drawn) : Type 0 where
  pub is_room : IsRoom (scene_seen first).robot (scene_seen first).frame (frame_seen drawn.room)
  pub are_sums : AreSums (scene_seen first) (sums_seen drawn.sums)
  pub are_names : AllZip IsNamePlace given.obstacles drawn.names

-- the ground, what stands on it, and the frame
abbrev pub floor_shapes : Scene → Drawn → Option ℕ → List Shape
floor_shapes s drawn touched = ground_shapes s.frame drawn.room drawn.sums ++ map (obstacle_shape touched) s.obstacles ++ frame_shape touched s.frame ∷ []

-- the floor, what is shown on it, start and goal, the ids, and the words above it all
abbrev pub shapes : Scene → Drawn → Query → Shown → List Shape
shapes s drawn q shown =
    floor_shapes s drawn shown.touched ++ shown_shapes shown ++ end_shapes (box_of s q) q
    ++ name_shapes s.obstacles drawn.names ++ caption_shape (box_of s q) shown.words ∷ []

abbrev pub picture_text : Scene → Drawn → Query → Shown → List ℕ
picture_text s drawn q shown = page_text (box_of s q) s.robot shown.words (shapes s drawn q shown)

-- ---- the picture of a document
-- the query of this number, counted from 1
abbrev pub query_at : List wire.Query → ℕ → Option wire.Query
query_at [] k = None
query_at (q ∷ qs) zero = None
query_at (q ∷ qs) (suc zero) = Some q
query_at (q ∷ qs) (suc (suc k)) = query_at qs (suc k)

-- the text is the picture of its query of the number k with the reply, which is right in the scene as it is given
pub record IsQueryPicture (k : ℕ) (d : Document) (text : List ℕ) : Type 0 where
  pub given : Scene
  pub is_given : scene_seen given ≡ d.scene
  pub first : Scene
  pub is_first : IsFirst given first
  pub query : Query
  pub is_query : OnQueries d.task (λ qs. query_at qs k ≡ Some (query_seen query))
  pub answer : Answer
  pub is_answer : IsAnswered d.scene first (query_seen query) answer
  pub drawn : Drawn
  pub is_drawn : IsDrawn given first drawn
  pub is_text : text ≡ picture_text given drawn query (reply_shown k answer)

-- the text is the picture of its certificate with the verdict
pub record IsCheckPicture (verdict : Verdict) (d : Document) (text : List ℕ) : Type 0 where
  pub given : Scene
  pub is_given : scene_seen given ≡ d.scene
  pub first : Scene
  pub is_first : IsFirst given first
  pub query : Query
  pub certificate : cross.Certificate
  pub is_asked : d.task ≡ proof (query_seen query) (certificate_seen certificate)
  pub is_verdict : IsVerdictOn d.scene first (query_seen query) (certificate_seen certificate) verdict
  pub drawn : Drawn
  pub is_drawn : IsDrawn given first drawn
  pub is_text : text ≡ picture_text given drawn query (verdict_shown (certificate_seen certificate) verdict)
