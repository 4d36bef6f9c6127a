-- What `check` and `plan` answer and write, by the bytes that their source tells; what a line did; and which of the two counts of faults rises.
use Rattle.std.specs.Prelude.{◌≡◌, ℕ, ◌⊎◌, List, [], Option, Some, IfSome, Err, IsOkAnd, string_bytes}
use Rattle.plan_spec.specs.Frame.{Frame}
use Rattle.plan_spec.specs.Room.{IsRoom}
use Rattle.plan_spec.specs.Placement as placement
use Rattle.plan_wire.specs.Stream.{Appends, AppendsPart}
use Rattle.plan_wire.specs.Reading.{too_long, json, form, range}
use Rattle.plan_wire.specs.Documents.{Document, Query, Certificate, path, chain, Task, queries, rounds, proof, document_of}
use Rattle.plan_wire.specs.declared.documents.Want.{Want}
use Rattle.plan_wire.specs.declared.documents.Want.TheVariants as want
use Rattle.plan_wire.specs.declared.documents.Task as wire_task
use Rattle.plan_wire.specs.declared.documents.Task.TheVariants as task
use Rattle.plan_scene.specs.Scene.{Scene, scene_seen}
use Rattle.plan_check.specs.Verdict.{IsPathVerdict, IsChainVerdict, IsTightIn, BlocksWhereValid}
use Rattle.plan_check.specs.declared.verdict.Verdict.{Verdict}
use Rattle.plan_check.specs.declared.verdict.Verdict.TheVariants as verdict
use Rattle.plan_check.specs.declared.verdict.Verdict.TheVariants.{Valid}
use Rattle.plan_reply.specs.First.{IsFirst}
use Rattle.plan_top.specs.First.{IsRefusedBy}
use Rattle.plan_top.specs.Lines.{line_of, refusal_line}
use Rattle.plan_top.specs.Plan.{IsPlanned, IsBegun}
use Rattle.plan_top.specs.declared.status.Refusal.{Refusal}
use Rattle.plan_top.specs.declared.status.Refusal.TheVariants.{TooLong, Json, Form, Range}
use Rattle.plan_top.specs.declared.status.Status.{Status}
use Rattle.plan_top.specs.declared.status.Status.TheVariants.{Done, Usage, Refused, ReadFault, WriteFault, NoMemory, Invalid}

-- bytes, where they are told
abbrev pub Told : Type 0
Told = Option (List ℕ)

-- ---- what a document is answered
-- P of the query and of the certificate
abbrev pub OnProof : Task → (Query → Certificate → Type 0) → Type 0
OnProof (proof query certificate) P = P query certificate
OnProof (queries _) P = ⊥
OnProof (rounds _) P = ⊥

-- the verdict on a certificate from s to g: a path is judged by what touches in the scene as it is given; a chain by the sums and the
-- room of the first scene, and a valid one blocks s from g in the scene as it is given
abbrev pub IsVerdictOn : placement.Scene → Scene → Query → Certificate → Verdict → Type 0
IsVerdictOn given first query (path points) verdict = IsPathVerdict given query.start query.goal points verdict
IsVerdictOn given first query (chain segments) verdict =
    ((room : Frame) × IsRoom (scene_seen first).robot (scene_seen first).frame room × IsChainVerdict (IsTightIn (scene_seen first) room) query.start query.goal segments verdict)
    × BlocksWhereValid given query.start query.goal segments verdict

-- the scene as it is given, by spots; the first scene that it makes; and the verdict on the certificate
pub record IsJudged (d : Document) (verdict : Verdict) : Type 0 where
  pub given : Scene
  pub is_given : scene_seen given ≡ d.scene
  pub first : Scene
  pub is_first : IsFirst given first
  pub is_verdict : OnProof d.task (λ query certificate. IsVerdictOn d.scene first query certificate verdict)

-- the first scene is refused
pub record IsRefusedScene (d : Document) (refusal : Refusal) : Type 0 where
  pub given : Scene
  pub is_given : scene_seen given ≡ d.scene
  pub is_refused : IsRefusedBy given refusal

-- what is asked is a plan
abbrev pub IsOfPlan : wire_task.Task → Type 0
IsOfPlan (task.Queries _) = Unit {0}
IsOfPlan (task.Proof _ _) = ⊥
IsOfPlan (task.Rounds _) = ⊥

-- what is asked is a check
abbrev pub IsOfCheck : wire_task.Task → Type 0
IsOfCheck (task.Proof query certificate) = Unit {0}
IsOfCheck (task.Queries _) = ⊥
IsOfCheck (task.Rounds _) = ⊥

abbrev pub IsAnswerTo : Document → Status → Type 0
IsAnswerTo d Done = IsJudged d Valid
IsAnswerTo d (Invalid fault) = IsJudged d (verdict.Invalid fault)
IsAnswerTo d (Refused refusal) = IsRefusedScene d refusal
IsAnswerTo d _ = ⊥

-- ---- what bytes are answered
-- P of the document of the wanted kind that the bytes are
abbrev pub OnDocument : Want → List ℕ → (Document → Type 0) → Type 0
OnDocument want bytes P = IsOkAnd (document_of bytes want) P

abbrev pub IsRefusal : Want → List ℕ → Refusal → Type 0
IsRefusal want bytes TooLong = document_of bytes want ≡ Err too_long
IsRefusal want bytes Json = document_of bytes want ≡ Err json
IsRefusal want bytes (Form place) = document_of bytes want ≡ Err (form (string_bytes place))
IsRefusal want bytes (Range place) = document_of bytes want ≡ Err (range (string_bytes place))
IsRefusal want bytes refusal = OnDocument want bytes (λ d. IsRefusedScene d refusal)

-- a lawful answer of `check` to the bytes, where they are told
abbrev pub IsAnswer : Told → Status → Type 0
IsAnswer told Done = IfSome told (λ bytes. OnDocument want.Check bytes (λ d. IsJudged d Valid))
IsAnswer told (Invalid fault) = IfSome told (λ bytes. OnDocument want.Check bytes (λ d. IsJudged d (verdict.Invalid fault)))
IsAnswer told (Refused refusal) = IfSome told (λ bytes. IsRefusal want.Check bytes refusal)
IsAnswer told Usage = ⊥
IsAnswer told ReadFault = ⊥
IsAnswer told WriteFault = ⊥
IsAnswer told NoMemory = ⊥

-- the source is read to its end, where it tells its bytes
abbrev pub IsReadToEnd : Told → Told → Type 0
IsReadToEnd told left = IfSome told (λ _. left ≡ Some [])

-- what `check` did, by its status: to the bytes of the source and what is left of them, and to the bytes of the sink before and after
abbrev pub CheckOutcome : Told → Told → Told → Told → Status → Type 0
CheckOutcome told left before after Done =
    IsAnswer told Done × IsReadToEnd told left × Appends before after (line_of Done)
CheckOutcome told left before after (Invalid fault) =
    IsAnswer told (Invalid fault) × IsReadToEnd told left × Appends before after (line_of (Invalid fault))
CheckOutcome told left before after (Refused refusal) =
    IsAnswer told (Refused refusal) × Appends before after (line_of (Refused refusal))
CheckOutcome told left before after ReadFault = after ≡ before
CheckOutcome told left before after WriteFault =
    (answer : Status) × IsAnswer told answer × AppendsPart before after (line_of answer)
CheckOutcome told left before after NoMemory = after ≡ before
CheckOutcome told left before after Usage = ⊥

-- ---- what `plan` did
-- a document of `plan` whose lines are the text; or whose first lines are
abbrev pub IsPlanOf : Told → List ℕ → Type 0
IsPlanOf told text = IfSome told (λ bytes. OnDocument want.Plan bytes (λ d. IsPlanned d text))

abbrev pub IsBegunOf : Told → List ℕ → Type 0
IsBegunOf told text = IfSome told (λ bytes. OnDocument want.Plan bytes (λ d. IsBegun d text))

abbrev pub IsRefusalOf : Told → Refusal → Type 0
IsRefusalOf told refusal = IfSome told (λ bytes. IsRefusal want.Plan bytes refusal)

-- by its status: to the bytes of the source and what is left of them, and to the bytes of the sink before and after. Where the sink fails, a front of lawful lines is written; where there is no memory, nothing or whole lines of the first queries
abbrev pub PlanOutcome : Told → Told → Told → Told → Status → Type 0
PlanOutcome told left before after Done =
    (text : List ℕ) × IsPlanOf told text × IsReadToEnd told left × Appends before after text
PlanOutcome told left before after (Refused refusal) =
    IsRefusalOf told refusal × Appends before after (refusal_line refusal)
PlanOutcome told left before after ReadFault = after ≡ before
PlanOutcome told left before after WriteFault =
    ((text : List ℕ) × (IsPlanOf told text ⊎ IsBegunOf told text) × AppendsPart before after text)
    ⊎ ((refusal : Refusal) × IsRefusalOf told refusal × AppendsPart before after (refusal_line refusal))
PlanOutcome told left before after NoMemory =
    (after ≡ before) ⊎ ((text : List ℕ) × IsBegunOf told text × Appends before after text)
PlanOutcome told left before after Usage = ⊥
PlanOutcome told left before after (Invalid _) = ⊥

-- ---- what a line did
-- the line of the answer is written, and the status is the answer; or a front of it is written, perhaps none of it, and the sink failed
abbrev pub LineOutcome : Status → Told → Told → Status → Type 0
LineOutcome answer before after status =
    ((status ≡ answer) × Appends before after (line_of answer))
    ⊎ ((status ≡ WriteFault) × AppendsPart before after (line_of answer))

-- the same; or nothing is written, and there was no memory for the line
abbrev pub AnswerOutcome : Status → Told → Told → Status → Type 0
AnswerOutcome answer before after status = LineOutcome answer before after status ⊎ ((status ≡ NoMemory) × (after ≡ before))

-- the source's count of faults rises where the status is a read fault, as a failure of the source raises it, and stays under every other status
abbrev pub SourceCount : (ℕ → ℕ → Type 0) → ℕ → ℕ → Status → Type 0
SourceCount rises before after ReadFault = rises before after
SourceCount rises before after _ = after ≡ before

-- the sink's count rises where the status is a write fault, and stays under every other status
abbrev pub SinkCount : (ℕ → ℕ → Type 0) → ℕ → ℕ → Status → Type 0
SinkCount rises before after WriteFault = rises before after
SinkCount rises before after _ = after ≡ before
