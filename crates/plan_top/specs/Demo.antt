-- The two lines of `demo`: what its rounds counted, and the last version.
use Rattle.std.specs.Prelude.{◌≡◌, ℕ, ◌+◌, List, [], ◌∷◌, ◌++◌, Ok, Err, length, codes, decimal}
use Rattle.std.specs.List.{AllZip, concat}
use Rattle.plan_spec.specs.Answers.{Answer, start_touches, goal_touches, by_path, by_chain}
use Rattle.plan_demo.specs.Demo.{Turn, floor, rounds}
use Rattle.plan_scene.specs.Scene.{Scene, scene_seen}
use Rattle.plan_reply.specs.First.{IsFirst}
use Rattle.plan_top.specs.First.{IsRefusedBy}
use Rattle.plan_top.specs.Plan.{IsReplied}
use Rattle.plan_top.specs.Session.{Line, End, AreEnds, scene_after, end_line}
use Rattle.plan_top.specs.declared.counts.EditCount.{EditCount}
use Rattle.plan_top.specs.declared.counts.ReplyCount.{ReplyCount}
use Rattle.plan_top.specs.declared.status.Refusal.{Refusal}

-- ---- rounds
-- how the edits of a round ended, and the replies to its queries
pub record Played : Type 0 where
  pub ends : List End
  pub answers : List Answer

-- the scene after edits that ended so
abbrev pub scene_after_all : Scene → List End → Scene
scene_after_all s [] = s
scene_after_all s (end ∷ ends) = scene_after_all (scene_after s end) ends

-- the edits one after another, and then the queries, in the scene after them
pub record IsTurn (s : Scene) (turn : Turn) (played : Played) : Type 0 where
  pub are_ends : AreEnds s turn.edits played.ends
  pub are_answers : AllZip (IsReplied (scene_after_all s played.ends)) turn.queries played.answers

-- one round after another
abbrev pub AreTurns : Scene → List Turn → List Played → Type 0
AreTurns s [] [] = Unit {0}
AreTurns s [] (p ∷ played) = ⊥
AreTurns s (t ∷ turns) [] = ⊥
AreTurns s (t ∷ turns) (p ∷ played) = IsTurn s t p × AreTurns (scene_after_all s p.ends) turns played

-- ---- counts
abbrev pub no_edits : EditCount
no_edits = record { accepted = 0; refused = 0 }

abbrev pub count_end : EditCount → End → EditCount
count_end c (Ok scene) = record { accepted = c.accepted + 1; refused = c.refused }
count_end c (Err fault) = record { accepted = c.accepted; refused = c.refused + 1 }

abbrev pub count_ends : EditCount → List End → EditCount
count_ends c [] = c
count_ends c (end ∷ ends) = count_ends (count_end c end) ends

abbrev pub no_replies : ReplyCount
no_replies = record { paths = 0; chains = 0; touching = 0; points = 0; segments = 0 }

-- the points of each path, and the segments of each chain, count as well
abbrev pub count_answer : ReplyCount → Answer → ReplyCount
count_answer c (by_path path) = record { paths = c.paths + 1; chains = c.chains; touching = c.touching; points = c.points + length path; segments = c.segments }
count_answer c (by_chain chain) = record { paths = c.paths; chains = c.chains + 1; touching = c.touching; points = c.points; segments = c.segments + length chain }
count_answer c (start_touches who) = record { paths = c.paths; chains = c.chains; touching = c.touching + 1; points = c.points; segments = c.segments }
count_answer c (goal_touches who) = record { paths = c.paths; chains = c.chains; touching = c.touching + 1; points = c.points; segments = c.segments }

abbrev pub count_answers : ReplyCount → List Answer → ReplyCount
count_answers c [] = c
count_answers c (answer ∷ answers) = count_answers (count_answer c answer) answers

-- of all rounds
abbrev pub count_edits : EditCount → List Played → EditCount
count_edits c [] = c
count_edits c (p ∷ played) = count_edits (count_ends c p.ends) played

abbrev pub count_replies : ReplyCount → List Played → ReplyCount
count_replies c [] = c
count_replies c (p ∷ played) = count_replies (count_answers c p.answers) played

-- ---- texts
abbrev pub edits_text : ℕ → EditCount → List ℕ
edits_text number e = concat (codes "demo " ∷ decimal number ∷ codes ": accepted " ∷ decimal e.accepted ∷ codes " refused " ∷ decimal e.refused ∷ codes " " ∷ [])

abbrev pub replies_text : ReplyCount → List ℕ
replies_text r = concat (
    codes "paths " ∷ decimal r.paths ∷ codes " chains " ∷ decimal r.chains ∷ codes " touching " ∷ decimal r.touching
    ∷ codes " points " ∷ decimal r.points ∷ codes " segments " ∷ decimal r.segments ∷ codes "\n" ∷ []
    )

abbrev pub count_line : ℕ → EditCount → ReplyCount → Line
count_line number e r = edits_text number e ++ replies_text r

-- ---- of a number
-- its first scene is made, and this is what its rounds count
pub record AreCounts (number : ℕ) (e : EditCount) (r : ReplyCount) : Type 0 where
  pub given : Scene
  pub is_given : scene_seen given ≡ floor number
  pub first : Scene
  pub is_first : IsFirst given first
  pub played : List Played
  pub are_turns : AreTurns first (rounds number) played
  pub edits : e ≡ count_edits no_edits played
  pub replies : r ≡ count_replies no_replies played

-- the first line; both
abbrev pub IsDemoBegun : ℕ → List ℕ → Type 0
IsDemoBegun number text = (e : EditCount) × (r : ReplyCount) × AreCounts number e r × (text ≡ count_line number e r)

abbrev pub IsDemo : ℕ → List ℕ → Type 0
IsDemo number text = (e : EditCount) × (r : ReplyCount) × AreCounts number e r × (text ≡ count_line number e r ++ end_line e.accepted)

-- the first scene is refused
pub record IsDemoRefused (number : ℕ) (refusal : Refusal) : Type 0 where
  pub given : Scene
  pub is_given : scene_seen given ≡ floor number
  pub is_refused : IsRefusedBy given refusal
