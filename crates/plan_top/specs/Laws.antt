-- The answers of `check` exclude each other, the lines of `plan` and of `demo` are one, and a session begins only in a first scene.
use Rattle.std.specs.Prelude.{◌≡◌, ◌⊎◌, ℕ, List, Some, All}
use Rattle.plan_spec.specs.Segment.{HasPoints}
use Rattle.plan_wire.specs.Documents.{Document, Certificate, path, chain}
use Rattle.plan_check.specs.declared.fault.CheckFault.{CheckFault}
use Rattle.plan_check.specs.declared.verdict.Verdict.TheVariants.{Valid, Invalid}
use Rattle.plan_top.specs.Demo.{IsDemo}
use Rattle.plan_top.specs.Lines.{line_of, refusal_line}
use Rattle.plan_top.specs.Outcome.{OnProof, IsJudged, IsAnswer, IsPlanOf, IsRefusalOf, IsRefusedScene}
use Rattle.plan_top.specs.Session.{IsSession, IsSessionBegun, Line}
use Rattle.plan_top.specs.Status.{code_of}
use Rattle.plan_top.specs.Watching.{Pair}
use Rattle.plan_top.specs.declared.status.Refusal.{Refusal}
use Rattle.plan_top.specs.declared.status.Status.{Status}

-- the ends of the segments of a chain are points
abbrev pub HasEnds : Certificate → Type 0
HasEnds (path points) = Unit {0}
HasEnds (chain segments) = All HasPoints segments

-- such a certificate is there
abbrev pub IsOfPoints : Document → Type 0
IsOfPoints d = OnProof d.task (λ query certificate. HasEnds certificate)

-- no document is valid, and invalid by some fault
abbrev pub ValidOrInvalid : Type 0
ValidOrInvalid = (d : Document) (fault : CheckFault) → IsOfPoints d → ¬ (IsJudged d Valid × IsJudged d (Invalid fault))

-- two faults by which a document is invalid are one
abbrev pub OneFirstFault : Type 0
OneFirstFault = (d : Document) (f g : CheckFault) → IsOfPoints d → IsJudged d (Invalid f) → IsJudged d (Invalid g) → f ≡ g

-- one exit code, and one line
abbrev pub SameAnswer : Status → Status → Type 0
SameAnswer s t = (code_of s ≡ code_of t) × (line_of s ≡ line_of t)

-- two lawful answers to bytes that are told have one code and one line
abbrev pub OneAnswer : Type 0
OneAnswer = (bytes : List ℕ) (s t : Status) → IsAnswer (Some bytes) s → IsAnswer (Some bytes) t → SameAnswer s t

-- a whole text of `plan` to bytes that are told, or the line of their refusal
abbrev pub IsPlanText : List ℕ → List ℕ → Type 0
IsPlanText bytes text = IsPlanOf (Some bytes) text ⊎ ((refusal : Refusal) × IsRefusalOf (Some bytes) refusal × (text ≡ refusal_line refusal))

-- two such texts are one
abbrev pub OnePlan : Type 0
OnePlan = (bytes t u : List ℕ) → IsPlanText bytes t → IsPlanText bytes u → t ≡ u

-- of a document whose first scene is refused no rounds are played
abbrev pub RefusedOrBegun : Type 0
RefusedOrBegun = (d : Document) (refusal : Refusal) (pairs : List Pair) → IsRefusedScene d refusal → ((text : List ℕ) → ¬ (IsSession d text pairs)) × ((lines : List Line) → ¬ (IsSessionBegun d lines pairs))

-- of one number the two lines are one
abbrev pub OneDemo : Type 0
OneDemo = (number : ℕ) (t u : List ℕ) → IsDemo number t → IsDemo number u → t ≡ u
