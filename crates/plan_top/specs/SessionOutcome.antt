-- What `session` did, by its status.
use Rattle.std.specs.Prelude.{◌≡◌, ◌⊎◌, ℕ, List, [], IfSome, take}
use Rattle.std.specs.List.{concat}
use Rattle.plan_wire.specs.Stream.{Appends, AppendsPart}
use Rattle.plan_wire.specs.declared.documents.Want.TheVariants as want
use Rattle.plan_wire.specs.declared.documents.Task as wire_task
use Rattle.plan_wire.specs.declared.documents.Task.TheVariants as task
use Rattle.plan_top.specs.Lines.{refusal_line}
use Rattle.plan_top.specs.Outcome.{Told, OnDocument, IsRefusal, IsReadToEnd}
use Rattle.plan_top.specs.Session.{Line, IsSession, IsSessionBegun}
use Rattle.plan_top.specs.Watching.{Pair}
use Rattle.plan_top.specs.declared.status.Refusal.{Refusal}
use Rattle.plan_top.specs.declared.status.Status.{Status}
use Rattle.plan_top.specs.declared.status.Status.TheVariants.{Done, Usage, Refused, ReadFault, WriteFault, NoMemory, Invalid}

-- what is asked is a session
abbrev pub IsOfSession : wire_task.Task → Type 0
IsOfSession (task.Rounds _) = Unit {0}
IsOfSession (task.Queries _) = ⊥
IsOfSession (task.Proof _ _) = ⊥

-- a document of `session` whose lines are the text, and which tells these pairs; or of whose first rounds these are the lines and the pairs
abbrev pub IsSessionOf : Told → List ℕ → List Pair → Type 0
IsSessionOf told text pairs = IfSome told (λ bytes. OnDocument want.Session bytes (λ d. IsSession d text pairs))

abbrev pub IsSessionBegunOf : Told → List Line → List Pair → Type 0
IsSessionBegunOf told lines pairs = IfSome told (λ bytes. OnDocument want.Session bytes (λ d. IsSessionBegun d lines pairs))

abbrev pub IsSessionRefusalOf : Told → Refusal → Type 0
IsSessionRefusalOf told refusal = IfSome told (λ bytes. IsRefusal want.Session bytes refusal)

-- to the bytes of the source and what is left of them, to the bytes of the sink before and after, and which pairs the watchers were told. Where the sink fails, a front of lawful lines is written; where there is no memory, nothing, or whole lines of rounds that have ended
abbrev pub SessionOutcome : Told → Told → Told → Told → (List Pair → Type 0) → Status → Type 0
SessionOutcome told left before after AreTold Done =
    (text : List ℕ) × (pairs : List Pair) × IsSessionOf told text pairs × IsReadToEnd told left × Appends before after text × AreTold pairs
SessionOutcome told left before after AreTold (Refused refusal) =
    IsSessionRefusalOf told refusal × Appends before after (refusal_line refusal) × AreTold []
SessionOutcome told left before after AreTold ReadFault = (after ≡ before) × AreTold []
SessionOutcome told left before after AreTold WriteFault =
    ((text : List ℕ) × (pairs : List Pair) × IsSessionOf told text pairs × AppendsPart before after text × AreTold pairs)
    ⊎ ((lines : List Line) × (pairs : List Pair) × IsSessionBegunOf told lines pairs × AppendsPart before after (concat lines) × AreTold pairs)
    ⊎ ((refusal : Refusal) × IsSessionRefusalOf told refusal × AppendsPart before after (refusal_line refusal) × AreTold [])
SessionOutcome told left before after AreTold NoMemory =
    ((after ≡ before) × AreTold [])
    ⊎ ((lines : List Line) × (pairs : List Pair) × IsSessionBegunOf told lines pairs × (k : ℕ) × Appends before after (concat (take k lines)) × AreTold pairs)
SessionOutcome told left before after AreTold Usage = ⊥
SessionOutcome told left before after AreTold (Invalid _) = ⊥
