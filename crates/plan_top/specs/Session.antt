-- The lines of `session`: of each round its number, how its edits end and what its lanes are answered; then the last version.
use Rattle.std.specs.Prelude.{◌≡◌, ◌≤◌, ◌-◌, ℕ, suc, List, [], ◌∷◌, ◌++◌, Result, Ok, Err, Some, length, take, slice_get, codes, decimal}
use Rattle.std.specs.List.{AllZip, concat}
use Rattle.plan_spec.specs.Answers.{Answer}
use Rattle.plan_grid.specs.Spot.{spots_seen}
use Rattle.plan_wire.specs.Documents as document
use Rattle.plan_wire.specs.Documents.{Document, Query, Round, Task, queries, rounds, proof}
use Rattle.plan_scene.specs.Scene.{Scene, scene_seen}
use Rattle.plan_scene.specs.declared.edit.Edit.{Edit}
use Rattle.plan_scene.specs.declared.edit.Edit.TheVariants.{Add, Remove}
use Rattle.plan_reply.specs.First.{IsFirst}
use Rattle.plan_reply.specs.Step.{IsStep, IsRefusedStep}
use Rattle.plan_reply.specs.declared.fault.StepFault.{StepFault}
use Rattle.plan_reply.specs.declared.fault.StepFault.TheVariants.{TooManyRegions, NoMemory, Edit as EditRefused}
use Rattle.plan_top.specs.Lines.{line, edit_text}
use Rattle.plan_top.specs.Plan.{IsReplied, answer_text}
use Rattle.plan_top.specs.Watching.{Pair, pairs_of}

-- ---- texts
abbrev pub Line : Type 0
Line = List ℕ

-- the scene that an edit makes, or why it is refused
abbrev pub End : Type 0
End = Result Scene StepFault

-- a version, and the answer in the scene of that version
abbrev pub Said : Type 0
Said = ℕ × Answer

-- why an edit is refused; want of memory is told by no line
abbrev pub step_text : StepFault → List ℕ
step_text (EditRefused fault) = edit_text fault
step_text TooManyRegions = codes "too many regions"
step_text NoMemory = codes "no memory"

abbrev pub round_line : ℕ → Line
round_line r = line (codes "round " ++ decimal r)

abbrev pub accepted_line : ℕ → ℕ → Line
accepted_line k version = line (codes "edit " ++ decimal k ++ codes " version " ++ decimal version)

abbrev pub refused_line : ℕ → StepFault → Line
refused_line k fault = line (codes "edit " ++ decimal k ++ codes " refused " ++ step_text fault)

abbrev pub lane_line : ℕ → ℕ → Said → Line
lane_line l k said = line (codes "lane " ++ decimal l ++ codes " query " ++ decimal k ++ codes " version " ++ decimal said.0 ++ codes " " ++ answer_text said.1)

abbrev pub end_line : ℕ → Line
end_line version = line (codes "end version " ++ decimal version)

-- the lines of edits from number k on, after this version: each that is accepted has the next one
abbrev pub edit_lines : ℕ → ℕ → List End → List Line
edit_lines k version [] = []
edit_lines k version (Ok scene ∷ ends) = accepted_line k (suc version) ∷ edit_lines (suc k) (suc version) ends
edit_lines k version (Err fault ∷ ends) = refused_line k fault ∷ edit_lines (suc k) version ends

-- the lines of the replies of lane l from number k on
abbrev pub lane_lines : ℕ → ℕ → List Said → List Line
lane_lines l k [] = []
lane_lines l k (s ∷ said) = lane_line l k s ∷ lane_lines l (suc k) said

-- the lines of lanes from number l on
abbrev pub lanes_lines : ℕ → List (List Said) → List Line
lanes_lines l [] = []
lanes_lines l (said ∷ lanes) = lane_lines l 1 said ++ lanes_lines (suc l) lanes

-- the lines of round r, which begins at this version
abbrev pub round_lines : ℕ → ℕ → List End → List (List Said) → List Line
round_lines r version ends lanes = round_line r ∷ (edit_lines 1 version ends ++ lanes_lines 1 lanes)

-- ---- scenes
-- an edit as the document tells it
abbrev pub edit_seen : Edit → document.Edit
edit_seen (Add id spots) = document.add (record { id = id; shape = spots_seen spots.items })
edit_seen (Remove id) = document.remove id

-- a fault that a line tells
abbrev pub IsTold : StepFault → Type 0
IsTold NoMemory = ⊥
IsTold _ = Unit {0}

abbrev pub IsEndOf : Scene → Edit → End → Type 0
IsEndOf s e (Ok t) = IsStep s e t
IsEndOf s e (Err fault) = IsRefusedStep s e fault × IsTold fault

-- what the edit makes of the scene s
pub record IsEnd (s : Scene) (e : document.Edit) (end : End) : Type 0 where
  pub edit : Edit
  pub is_edit : edit_seen edit ≡ e
  pub is_end : IsEndOf s edit end

-- a refused edit keeps the scene
abbrev pub scene_after : Scene → End → Scene
scene_after s (Ok t) = t
scene_after s (Err fault) = s

-- one end for each edit, one edit after another
abbrev pub AreEnds : Scene → List document.Edit → List End → Type 0
AreEnds s [] [] = Unit {0}
AreEnds s [] (end ∷ ends) = ⊥
AreEnds s (e ∷ edits) [] = ⊥
AreEnds s (e ∷ edits) (end ∷ ends) = IsEnd s e end × AreEnds (scene_after s end) edits ends

-- the scenes that are made
abbrev pub made_of : List End → List Scene
made_of [] = []
made_of (Ok t ∷ ends) = t ∷ made_of ends
made_of (Err fault ∷ ends) = made_of ends

-- ---- a round. A history is the list of all scenes by their versions, from version 0 on
-- the last version: how many edits were accepted
abbrev pub version_of : List Scene → ℕ
version_of history = length history - 1

-- the reply to the query in the scene of its version
pub record IsSaid (history : List Scene) (q : Query) (said : Said) : Type 0 where
  pub scene : Scene
  pub is_scene : slice_get history said.0 ≡ Some scene
  pub is_reply : IsReplied scene q said.1

-- one reply for each query, in order. No version is less than this one, nor than that of the reply before
abbrev pub AreSaid : List Scene → ℕ → List Query → List Said → Type 0
AreSaid history least [] [] = Unit {0}
AreSaid history least [] (s ∷ said) = ⊥
AreSaid history least (q ∷ qs) [] = ⊥
AreSaid history least (q ∷ qs) (s ∷ said) = (least ≤ s.0) × IsSaid history q s × AreSaid history s.0 qs said

-- a round from the history before to the one after. Each reply names a version from the one at the start to the one at the end
pub record IsRound (before : List Scene) (round : Round) (after : List Scene) (ends : List End) (lanes : List (List Said)) : Type 0 where
  pub start : Scene
  pub is_start : slice_get before (version_of before) ≡ Some start
  pub are_ends : AreEnds start round.edits ends
  pub is_after : after ≡ before ++ made_of ends
  pub are_said : AllZip (AreSaid after (version_of before)) round.lanes lanes

-- rounds from number r on, one after another, and their lines
abbrev pub AreRounds : ℕ → List Scene → List Round → List Scene → List Line → Type 0
AreRounds r before [] after lines = (after ≡ before) × (lines ≡ [])
AreRounds r before (round ∷ rest) after lines =
    (between : List Scene) × (ends : List End) × (lanes : List (List Said)) × (more : List Line)
    × IsRound before round between ends lanes × AreRounds (suc r) between rest after more × (lines ≡ round_lines r (version_of before) ends lanes ++ more)

-- ---- of a document
-- P of the rounds
abbrev pub OnRounds : Task → (List Round → Type 0) → Type 0
OnRounds (rounds rs) P = P rs
OnRounds (queries _) P = ⊥
OnRounds (proof _ _) P = ⊥

-- its first scene is made, and these are the lines of its first rounds, each of them whole, and the pairs that they tell
pub record IsSessionBegun (d : Document) (lines : List Line) (pairs : List Pair) : Type 0 where
  pub given : Scene
  pub is_given : scene_seen given ≡ d.scene
  pub first : Scene
  pub is_first : IsFirst given first
  pub count : ℕ
  pub history : List Scene
  pub are_rounds : OnRounds d.task (λ rs. AreRounds 1 (first ∷ []) (take count rs) history lines)
  pub are_pairs : pairs ≡ pairs_of history

-- the text has the lines of all its rounds, then the last line; and the pairs that they tell
pub record IsSession (d : Document) (text : List ℕ) (pairs : List Pair) : Type 0 where
  pub given : Scene
  pub is_given : scene_seen given ≡ d.scene
  pub first : Scene
  pub is_first : IsFirst given first
  pub history : List Scene
  pub lines : List Line
  pub are_rounds : OnRounds d.task (λ rs. AreRounds 1 (first ∷ []) rs history lines)
  pub is_text : text ≡ concat lines ++ end_line (version_of history)
  pub are_pairs : pairs ≡ pairs_of history
