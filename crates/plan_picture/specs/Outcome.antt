-- What the program answers and writes, by its words and by the bytes that its source tells.
use Rattle.std.specs.Prelude.{◌≡◌, ◌⊎◌, ℕ, List, [], ◌∷◌, codes, Option, Some, None, IfSome, option_map, if◌then◌else◌}
use Rattle.std.specs.Str.{bytes_eq}
use Rattle.plan_wire.specs.Documents.{Document}
use Rattle.plan_wire.specs.Stream.{Appends, AppendsPart}
use Rattle.plan_wire.specs.declared.documents.Task as wire_task
use Rattle.plan_wire.specs.declared.documents.Want.{Want}
use Rattle.plan_wire.specs.declared.documents.Want.TheVariants as want
use Rattle.plan_check.specs.declared.verdict.Verdict.{Verdict}
use Rattle.plan_check.specs.declared.verdict.Verdict.TheVariants as verdict
use Rattle.plan_top.specs.Command.{number_up_to}
use Rattle.plan_top.specs.Lines.{line, refusal_line}
use Rattle.plan_top.specs.Outcome.{Told, OnDocument, IsRefusal, IsReadToEnd, IsRefusedScene, IsOfPlan, IsOfCheck}
use Rattle.plan_top.specs.Plan.{OnQueries}
use Rattle.plan_top.specs.declared.status.Status.{Status}
use Rattle.plan_top.specs.declared.status.Status.TheVariants.{Done, Usage, Refused, ReadFault, WriteFault, NoMemory, Invalid}
use Rattle.plan_picture.specs.Picture.{IsQueryPicture, IsCheckPicture, query_at}
use Rattle.plan_picture.specs.declared.command.Command.{Command}
use Rattle.plan_picture.specs.declared.command.Command.TheVariants.{Query, Check}

-- ---- words
-- the command of the words after the program's name: K, from 1 to 64, or check
abbrev pub command_of : List (List ℕ) → Option Command
command_of (word ∷ []) = if bytes_eq word (codes "check") then Some Check else option_map Query (number_up_to 64 word)
command_of _ = None

abbrev pub want_of : Command → Want
want_of (Query k) = want.Plan
want_of Check = want.Check

abbrev pub usage_line : List ℕ
usage_line = line (codes "usage: picture K | check, where K is the number of a query")

-- ---- answers
abbrev pub status_of : Verdict → Status
status_of verdict.Valid = Done
status_of (verdict.Invalid fault) = Invalid fault

-- the document has no query of this number
abbrev pub HasNoQuery : ℕ → Document → Type 0
HasNoQuery k d = OnQueries d.task (λ qs. query_at qs k ≡ None)

abbrev pub OnTold : Command → Told → (Document → Type 0) → Type 0
OnTold command told P = IfSome told (λ bytes. OnDocument (want_of command) bytes P)

-- a lawful answer to the document: a status with the text that comes with it
abbrev pub IsAnswerTo : Command → Document → Status → List ℕ → Type 0
IsAnswerTo command d (Refused refusal) text = IsRefusedScene d refusal × (text ≡ refusal_line refusal)
IsAnswerTo (Query k) d Done text = IsQueryPicture k d text
IsAnswerTo (Query k) d Usage text = HasNoQuery k d × (text ≡ usage_line)
IsAnswerTo Check d Done text = IsCheckPicture verdict.Valid d text
IsAnswerTo Check d (Invalid fault) text = IsCheckPicture (verdict.Invalid fault) d text
IsAnswerTo _ d _ text = ⊥

abbrev pub IsTaskOf : Command → wire_task.Task → Type 0
IsTaskOf (Query k) task = IsOfPlan task
IsTaskOf Check task = IsOfCheck task

-- the same, to the bytes, where they are told, where they are told: a status with the text that comes with it
abbrev pub IsAnswer : Command → Told → Status → List ℕ → Type 0
IsAnswer command told (Refused refusal) text = IfSome told (λ bytes. IsRefusal (want_of command) bytes refusal) × (text ≡ refusal_line refusal)
IsAnswer (Query k) told Done text = OnTold (Query k) told (λ d. IsQueryPicture k d text)
IsAnswer (Query k) told Usage text = OnTold (Query k) told (HasNoQuery k) × (text ≡ usage_line)
IsAnswer Check told Done text = OnTold Check told (λ d. IsCheckPicture verdict.Valid d text)
IsAnswer Check told (Invalid fault) text = OnTold Check told (λ d. IsCheckPicture (verdict.Invalid fault) d text)
IsAnswer _ told _ text = ⊥

-- the source is read to its end where a picture is drawn
abbrev pub IsReadFor : Status → Told → Told → Type 0
IsReadFor Done told left = IsReadToEnd told left
IsReadFor (Invalid _) told left = IsReadToEnd told left
IsReadFor _ told left = Unit {0}

-- what writing did with a status and a text: it is written, and the status is this one; or a front of it is, and the sink failed
abbrev pub IsWritten : Status → List ℕ → Told → Told → Status → Type 0
IsWritten status text before after result =
    ((result ≡ status) × Appends before after text) ⊎ ((result ≡ WriteFault) × AppendsPart before after text)

-- what is written, whole or, where the sink fails, a front of it
abbrev pub AnswerOutcome : (Status → List ℕ → Type 0) → Told → Told → Status → Type 0
AnswerOutcome P before after ReadFault = after ≡ before
AnswerOutcome P before after NoMemory = after ≡ before
AnswerOutcome P before after WriteFault = (status : Status) × (text : List ℕ) × P status text × AppendsPart before after text
AnswerOutcome P before after status = (text : List ℕ) × P status text × Appends before after text

abbrev pub IsUsage : Status → List ℕ → Type 0
IsUsage status text = (status ≡ Usage) × (text ≡ usage_line)

-- what a call did, by the command of its words
abbrev pub Outcome : Option Command → Told → Told → Told → Told → Status → Type 0
Outcome None told left before after status = AnswerOutcome IsUsage before after status
Outcome (Some command) told left before after status = AnswerOutcome (IsAnswer command told) before after status × IsReadFor status told left
