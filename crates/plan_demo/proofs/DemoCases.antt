-- What demonstration 1 draws first, and last, by numbers that were computed elsewhere.
use Rattle.std.specs.Prelude.{◌≡◌, ℕ, [], ◌∷◌, refl}
use Rattle.plan_wire.specs.Documents.{add, remove}
use Rattle.plan_demo.specs.Draws.{next}
use Rattle.plan_demo.specs.Demo.{corner, rectangle, edit, after_edit, edits, after_edits, query, queries, after_queries, after_turn, after_obstacles, after_turns}

first_state : next 1 ≡ 1103527590
unfolding next
first_state = refl

first_obstacle : rectangle 1 ≡ corner 658 378 ∷ corner 701 378 ∷ corner 701 443 ∷ corner 658 443 ∷ []
unfolding next rectangle
first_obstacle = refl

second_obstacle : rectangle (after_obstacles 1 1) ≡ corner 471 247 ∷ corner 511 247 ∷ corner 511 296 ∷ corner 471 296 ∷ []
unfolding next rectangle
second_obstacle = refl

-- the first round's edits and queries begin behind 40 obstacles
abbrev start : ℕ
start = after_obstacles 40 1

first_edits : edits 3 start ≡ add (record { id = 60; shape = corner 833 618 ∷ corner 889 618 ∷ corner 889 659 ∷ corner 833 659 ∷ [] }) ∷ remove 27 ∷ remove 57 ∷ []
unfolding next rectangle edit after_edit
first_edits = refl

first_queries : queries 2 (after_edits 8 start) ≡ record { start = corner 672 847; goal = corner 726 527 } ∷ record { start = corner 964 331; goal = corner 11 640 } ∷ []
unfolding next edit after_edit query
first_queries = refl

-- the last round
last_edits : edits 2 (after_turns 3 start) ≡ remove 47 ∷ remove 44 ∷ []
unfolding next edit after_edit after_turn rectangle
last_edits = refl

last_query : query (after_queries 63 (after_edits 8 (after_turns 3 start))) ≡ record { start = corner 636 896; goal = corner 798 187 }
unfolding next edit after_edit after_turn query
last_query = refl
