-- What is shown on a floor: of the reply to a query, and of a certificate with its verdict.
use Rattle.std.specs.Prelude.{ℕ, List, [], ◌∷◌, ◌++◌, map, take, drop, Option, Some, None}
use Rattle.plan_spec.specs.Answers.{Answer, start_touches, goal_touches, by_path, by_chain}
use Rattle.plan_wire.specs.Documents.{Certificate, path, chain}
use Rattle.plan_check.specs.declared.fault.CheckFault.{CheckFault}
use Rattle.plan_check.specs.declared.fault.CheckFault.TheVariants.{Touches, Flat, Loose, Unclosed}
use Rattle.plan_check.specs.declared.verdict.Verdict.{Verdict}
use Rattle.plan_check.specs.declared.verdict.Verdict.TheVariants.{Valid, Invalid}
use Rattle.plan_svg.specs.Shapes.{Shape, line, robot}
use Rattle.plan_picture.specs.Words.{query_words, verdict_words}
use Rattle.plan_svg.specs.declared.class.Class.TheVariants as class

-- a path or a chain, what of it is wrong, what start or goal touches (0 is the frame), and the words for it all
pub record Shown : Type 0 where
  pub way : Option Certificate
  pub wrong : Option Certificate
  pub touched : Option ℕ
  pub words : List ℕ

-- ---- of a reply
abbrev pub way_of : Answer → Option Certificate
way_of (by_path points) = Some (path points)
way_of (by_chain segments) = Some (chain segments)
way_of (start_touches who) = None
way_of (goal_touches who) = None

abbrev pub touched_by : Answer → Option ℕ
touched_by (by_path points) = None
touched_by (by_chain segments) = None
touched_by (start_touches who) = Some who
touched_by (goal_touches who) = Some who

-- to the query of the number k
abbrev pub reply_shown : ℕ → Answer → Shown
reply_shown k answer = record { way = way_of answer; wrong = None; touched = touched_by answer; words = query_words k answer }

-- ---- of a verdict
-- the segment of the number k by itself
abbrev pub segment_of : Certificate → ℕ → Certificate
segment_of (path points) k = path (take 2 (drop k points))
segment_of (chain segments) k = chain (take 1 (drop k segments))

-- the segment that the fault names, if it names one
abbrev pub wrong_by : Certificate → CheckFault → Option Certificate
wrong_by certificate (Touches k) = Some (segment_of certificate k)
wrong_by certificate (Flat k) = Some (segment_of certificate k)
wrong_by certificate (Loose k) = Some (segment_of certificate k)
wrong_by certificate (Unclosed k) = Some (segment_of certificate k)
wrong_by certificate _ = None

abbrev pub wrong_of : Certificate → Verdict → Option Certificate
wrong_of certificate Valid = None
wrong_of certificate (Invalid fault) = wrong_by certificate fault

abbrev pub verdict_shown : Certificate → Verdict → Shown
verdict_shown certificate verdict =
    record { way = Some certificate; wrong = wrong_of certificate verdict; touched = None; words = verdict_words certificate verdict }

-- ---- shapes
-- a path with the robot at each vertex, or a chain
abbrev pub way_shapes : Certificate → List Shape
way_shapes (path points) = map (robot class.Step) points ++ line class.Path (path points) ∷ []
way_shapes (chain segments) = line class.Chain (chain segments) ∷ []

abbrev pub wrong_shapes : Certificate → List Shape
wrong_shapes certificate = line class.Fault certificate ∷ []

-- the shapes of what is there
abbrev pub of_some : (Certificate → List Shape) → Option Certificate → List Shape
of_some shapes None = []
of_some shapes (Some certificate) = shapes certificate

abbrev pub shown_shapes : Shown → List Shape
shown_shapes s = of_some way_shapes s.way ++ of_some wrong_shapes s.wrong
