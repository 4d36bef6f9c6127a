-- What a call did, by the command of its words.
use Rattle.std.specs.Prelude.{List, Option, Some, None}
use Rattle.plan_top.specs.DemoOutcome.{DemoOutcome}
use Rattle.plan_top.specs.Outcome.{Told, CheckOutcome, LineOutcome, PlanOutcome}
use Rattle.plan_top.specs.SessionOutcome.{SessionOutcome}
use Rattle.plan_top.specs.Watching.{Pair}
use Rattle.plan_top.specs.declared.command.Command.{Command}
use Rattle.plan_top.specs.declared.command.Command.TheVariants.{Plan, Session, Check, Demo}
use Rattle.plan_top.specs.declared.status.Status.{Status}
use Rattle.plan_top.specs.declared.status.Status.TheVariants.{Usage}

-- to the bytes of the source and what is left of them, to the bytes of the sink before and after, and which pairs the watchers were told, by its status
abbrev pub Outcome : Option Command → Told → Told → Told → Told → (List Pair → Type 0) → Status → Type 0
Outcome None told left before after AreTold status = LineOutcome Usage before after status
Outcome (Some Check) told left before after AreTold status = CheckOutcome told left before after status
Outcome (Some (Plan _)) told left before after AreTold status = PlanOutcome told left before after status
Outcome (Some (Session _)) told left before after AreTold status = SessionOutcome told left before after AreTold status
Outcome (Some (Demo number _)) told left before after AreTold status = DemoOutcome number before after status
