-- What a session did on the way: rounds as they are played, and lines as they are written.
use Rattle.std.specs.Prelude.{◌≡◌, ◌⊎◌, ℕ, suc, List, [], ◌∷◌, ◌++◌, Option, Result, Ok, Err, map, take}
use Rattle.std.specs.List.{concat}
use Rattle.plan_wire.specs.Bounds.{AtMost, QueryFits}
use Rattle.plan_wire.specs.Documents as document
use Rattle.plan_wire.specs.Documents.{Document}
use Rattle.plan_wire.specs.Seen.{query_seen}
use Rattle.plan_wire.specs.Stream.{Appends, AppendsPart}
use Rattle.plan_scene.specs.Scene.{Scene, scene_seen}
use Rattle.plan_scene.specs.Edits.{IsEdit}
use Rattle.plan_reply.specs.First.{IsFirst}
use Rattle.plan_reply.specs.Seen.{answer_seen}
use Rattle.plan_reply.specs.declared.fault.StepFault.{StepFault}
use Rattle.plan_reply.specs.declared.reply.Reply.{Reply}
use Rattle.plan_top.specs.Session.{Line, Said, AreRounds, edit_seen, accepted_line, refused_line, end_line, version_of}
use Rattle.plan_top.specs.Watching.{Pair, pairs_of}
use Rattle.plan_top.specs.declared.halt.Halt.{Halt}
use Rattle.plan_top.specs.declared.halt.Halt.TheVariants as halt
use Rattle.plan_top.specs.declared.session.Round.{Round}
use Rattle.plan_top.specs.declared.status.Status.{Status}
use Rattle.plan_top.specs.declared.status.Status.TheVariants.{Done, WriteFault, NoMemory}

-- ---- lines
-- what lines did to the bytes of the sink: all are written; or a front of their text, where the sink failed; or the first of them
abbrev pub LinesOutcome : {U : Type 0} → List Line → Option (List ℕ) → Option (List ℕ) → Result U Halt → Type 0
LinesOutcome lines before after (Ok _) = Appends before after (concat lines)
LinesOutcome lines before after (Err halt.WriteFault) = AppendsPart before after (concat lines)
LinesOutcome lines before after (Err halt.NoMemory) = (k : ℕ) × Appends before after (concat (take k lines))

-- the sink's count of faults rises where it failed, and stays else
abbrev pub LinesCount : {U : Type 0} → (ℕ → ℕ → Type 0) → ℕ → ℕ → Result U Halt → Type 0
LinesCount rises before after (Err halt.WriteFault) = rises before after
LinesCount rises before after _ = after ≡ before

-- the line of an edit, by the version or the fault that it ended with; the lines of edits from number k on
abbrev pub ended_line : ℕ → Result ℕ StepFault → Line
ended_line k (Ok version) = accepted_line k version
ended_line k (Err fault) = refused_line k fault

abbrev pub ended_lines : ℕ → List (Result ℕ StepFault) → List Line
ended_lines k [] = []
ended_lines k (end ∷ ends) = ended_line k end ∷ ended_lines (suc k) ends

-- a version and its reply as the definitions see them
abbrev pub said_seen : ℕ × Reply → Said
said_seen s = (s.0, answer_seen s.1)

-- ---- rounds
-- a round as the document tells it
abbrev pub round_seen : Round → document.Round
round_seen r = record { edits = map edit_seen r.edits.items; lanes = map (λ lane. map query_seen lane.items) r.lanes.items }

-- at most 32 edits, and at most 8 lanes of at most 16 queries
pub record RoundFits (r : Round) : Type 0 where
  pub edits : AtMost 32 IsEdit r.edits.items
  pub lanes : AtMost 8 (λ lane. AtMost 16 QueryFits lane.items) r.lanes.items

-- the document's first scene is made, and these are its rounds
pub record IsOpened (d : Document) (first : Scene) (rounds : List Round) : Type 0 where
  pub given : Scene
  pub is_given : scene_seen given ≡ d.scene
  pub is_first : IsFirst given first
  pub are_rounds : d.task ≡ document.rounds (map round_seen rounds)

-- the lines of the first of these rounds, each of them whole, and the pairs of their versions; the text of all of them and of the last line, and all pairs
pub record AreFirstRounds (first : Scene) (rounds : List document.Round) (lines : List Line) (pairs : List Pair) : Type 0 where
  pub count : ℕ
  pub history : List Scene
  pub are_rounds : AreRounds 1 (first ∷ []) (take count rounds) history lines
  pub are_pairs : pairs ≡ pairs_of history

pub record AreAllRounds (first : Scene) (rounds : List document.Round) (text : List ℕ) (pairs : List Pair) : Type 0 where
  pub history : List Scene
  pub lines : List Line
  pub are_rounds : AreRounds 1 (first ∷ []) rounds history lines
  pub is_text : text ≡ concat lines ++ end_line (version_of history)
  pub are_pairs : pairs ≡ pairs_of history

-- what the rounds did, by status: to the bytes of the sink before and after, and which pairs were told
abbrev pub RoundsOutcome : Scene → List document.Round → Option (List ℕ) → Option (List ℕ) → (List Pair → Type 0) → Status → Type 0
RoundsOutcome first rounds before after AreTold Done = (text : List ℕ) × (pairs : List Pair) × AreAllRounds first rounds text pairs × Appends before after text × AreTold pairs
RoundsOutcome first rounds before after AreTold WriteFault =
    ((text : List ℕ) × (pairs : List Pair) × AreAllRounds first rounds text pairs × AppendsPart before after text × AreTold pairs)
    ⊎ ((lines : List Line) × (pairs : List Pair) × AreFirstRounds first rounds lines pairs × AppendsPart before after (concat lines) × AreTold pairs)
RoundsOutcome first rounds before after AreTold NoMemory = (lines : List Line) × (pairs : List Pair) × AreFirstRounds first rounds lines pairs × (k : ℕ) × Appends before after (concat (take k lines)) × AreTold pairs
RoundsOutcome first rounds before after AreTold _ = ⊥

-- what the last line did, by status: to the bytes of the sink before and after
abbrev pub EndOutcome : Line → Option (List ℕ) → Option (List ℕ) → Status → Type 0
EndOutcome text before after Done = Appends before after text
EndOutcome text before after WriteFault = AppendsPart before after text
EndOutcome text before after NoMemory = after ≡ before
EndOutcome text before after _ = ⊥
