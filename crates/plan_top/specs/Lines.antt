-- The lines that the program writes, each with the line feed that ends it.
use Rattle.std.specs.Prelude.{ℕ, List, [], ◌∷◌, ◌++◌, codes, decimal, string_bytes}
use Rattle.plan_scene.specs.declared.fault.EditFault.{EditFault}
use Rattle.plan_scene.specs.declared.fault.EditFault.TheVariants as edit
use Rattle.plan_check.specs.Fault.{fault_text}
use Rattle.plan_top.specs.declared.status.Refusal.{Refusal}
use Rattle.plan_top.specs.declared.status.Refusal.TheVariants.{TooLong, Json, Form, Range, RobotNotSimple, Obstacle, TooManyRegions}
use Rattle.plan_top.specs.declared.status.Status.{Status}
use Rattle.plan_top.specs.declared.status.Status.TheVariants.{Done, Usage, Refused, ReadFault, WriteFault, NoMemory, Invalid}

-- the text and a line feed
abbrev pub line : List ℕ → List ℕ
line text = text ++ 10 ∷ []

-- why an edit is refused; want of memory is told by no line of an edit
abbrev pub edit_text : EditFault → List ℕ
edit_text (edit.Duplicate id) = codes "duplicate " ++ decimal id
edit_text (edit.Unknown id) = codes "unknown " ++ decimal id
edit_text (edit.NotSimple i j) = codes "not simple " ++ decimal i ++ codes " " ++ decimal j
edit_text edit.TooManyObstacles = codes "too many obstacles"
edit_text (edit.TooManySums n) = codes "too many sums " ++ decimal n
edit_text edit.NoMemory = codes "no memory"

abbrev pub obstacle_line : ℕ → EditFault → List ℕ
obstacle_line at fault = line (codes "refused: obstacles[" ++ decimal at ++ codes "] " ++ edit_text fault)

abbrev pub refusal_line : Refusal → List ℕ
refusal_line TooLong = line (codes "refused: too long")
refusal_line Json = line (codes "refused: json")
refusal_line (Form place) = line (codes "refused: form " ++ string_bytes place)
refusal_line (Range place) = line (codes "refused: range " ++ string_bytes place)
refusal_line (RobotNotSimple i j) = line (codes "refused: robot not simple " ++ decimal i ++ codes " " ++ decimal j)
refusal_line (Obstacle at fault) = obstacle_line at fault
refusal_line TooManyRegions = line (codes "refused: too many regions")

-- the line that comes with a status; the last three have none
abbrev pub line_of : Status → List ℕ
line_of Done = line (codes "valid")
line_of (Invalid fault) = line (codes "invalid: " ++ fault_text fault)
line_of (Refused refusal) = refusal_line refusal
line_of Usage = line (codes "usage: planner plan N | session N | check | demo K N")
line_of ReadFault = []
line_of WriteFault = []
line_of NoMemory = []
