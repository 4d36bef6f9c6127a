-- The floor, the edits and the queries of a demonstration, by its number: all of them are drawn, one after another.
use Rattle.std.specs.Prelude.{ℕ, zero, suc, ◌+◌, pos, List, [], ◌∷◌, if◌then◌else◌, nat_eq}
use Rattle.plan_spec.specs.Frame.{Frame}
use Rattle.plan_spec.specs.Placement.{Obstacle, Scene}
use Rattle.plan_spec.specs.Vector.{Vector, spot}
use Rattle.plan_wire.specs.Documents.{Edit, add, remove, Query}
use Rattle.plan_demo.specs.Draws.{after, draw}

-- ---- corners, rectangles, obstacles
abbrev pub corner : ℕ → ℕ → Vector
corner x y = spot (pos x) (pos y)

-- from its lower left corner on, counterclockwise
abbrev pub box : ℕ → ℕ → ℕ → ℕ → List Vector
box x y w h = corner x y ∷ corner (x + w) y ∷ corner (x + w) (y + h) ∷ corner x (y + h) ∷ []

-- four draws
unfoldable pub rectangle : ℕ → List Vector
rectangle s = box (20 + draw 900 s) (20 + draw 900 (after 1 s)) (10 + draw 60 (after 2 s)) (10 + draw 60 (after 3 s))

-- n obstacles with ids from this one on
abbrev pub obstacles : ℕ → ℕ → ℕ → List Obstacle
obstacles zero id s = []
obstacles (suc n) id s = record { id = id; shape = rectangle s } ∷ obstacles n (suc id) (after 4 s)

abbrev pub after_obstacles : ℕ → ℕ → ℕ
after_obstacles zero s = s
after_obstacles (suc n) s = after_obstacles n (after 4 s)

-- ---- edits: the id, and whether it is removed or added, with the next rectangle
unfoldable pub edit : ℕ → Edit
edit s =
    let id = 1 + draw 60 s in
    if nat_eq (draw 2 (after 1 s)) 0 then remove id else add (record { id = id; shape = rectangle (after 2 s) })

unfoldable pub after_edit : ℕ → ℕ
after_edit s = if nat_eq (draw 2 (after 1 s)) 0 then after 2 s else after 6 s

-- n edits
abbrev pub edits : ℕ → ℕ → List Edit
edits zero s = []
edits (suc n) s = edit s ∷ edits n (after_edit s)

abbrev pub after_edits : ℕ → ℕ → ℕ
after_edits zero s = s
after_edits (suc n) s = after_edits n (after_edit s)

-- ---- queries: x and y of the start, x and y of the goal
abbrev pub place : ℕ → Vector
place s = corner (1 + draw 990 s) (1 + draw 990 (after 1 s))

unfoldable pub query : ℕ → Query
query s = record { start = place s; goal = place (after 2 s) }

-- n queries
abbrev pub queries : ℕ → ℕ → List Query
queries zero s = []
queries (suc n) s = query s ∷ queries n (after 4 s)

abbrev pub after_queries : ℕ → ℕ → ℕ
after_queries zero s = s
after_queries (suc n) s = after_queries n (after 4 s)

-- ---- rounds: eight edits, then 64 queries
pub record Turn : Type 0 where
  pub edits : List Edit
  pub queries : List Query

unfoldable pub turn : ℕ → Turn
turn s = record { edits = edits 8 s; queries = queries 64 (after_edits 8 s) }

unfoldable pub after_turn : ℕ → ℕ
after_turn s = after_queries 64 (after_edits 8 s)

-- n rounds
abbrev pub turns : ℕ → ℕ → List Turn
turns zero s = []
turns (suc n) s = turn s ∷ turns n (after_turn s)

abbrev pub after_turns : ℕ → ℕ → ℕ
after_turns zero s = s
after_turns (suc n) s = after_turns n (after_turn s)

-- ---- of a number
abbrev pub frame : Frame
frame = record { low = corner 0 0; high = corner 1000 1000 }

abbrev pub robot : List Vector
robot = box 0 0 8 8

-- the floor as it is given, with obstacles 1 to 40
unfoldable pub floor : ℕ → Scene
floor number = record { frame = frame; robot = robot; obstacles = obstacles 40 1 number }

-- four rounds
unfoldable pub rounds : ℕ → List Turn
rounds number = turns 4 (after_obstacles 40 number)
