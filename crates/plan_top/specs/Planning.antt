-- The job of a session's rounds: what an edit makes of a version, and what a version answers.
use Rattle.std.specs.Prelude.{◌≡◌, ◌+◌}
use Rattle.plan_wire.specs.Seen.{query_seen}
use Rattle.plan_cross.specs.declared.certificate.Query.{Query}
use Rattle.plan_scene.specs.declared.edit.Edit.{Edit}
use Rattle.plan_reply.specs.Seen.{answer_seen}
use Rattle.plan_reply.specs.Step.{IsStep, IsRefusedStep}
use Rattle.plan_reply.specs.declared.fault.StepFault.{StepFault}
use Rattle.plan_reply.specs.declared.reply.Reply.{Reply}
use Rattle.plan_crew.specs.declared.job.Outcome.{Outcome}
use Rattle.plan_crew.specs.declared.job.Outcome.TheVariants.{Taken, Refused}
use Rattle.plan_top.specs.Plan.{IsReplied}
use Rattle.plan_top.specs.Session.{IsTold}
use Rattle.plan_top.specs.declared.planning.Version.{Version}

-- the next version has the edited scene; or the edit is refused
abbrev pub Makes : Version → Edit → Outcome Version StepFault → Type 0
Makes v e (Taken next) = IsStep v.stand e next.stand × (next.number ≡ v.number + 1)
Makes v e (Refused fault) = IsRefusedStep v.stand e fault × IsTold fault

-- the reply is that in the version's scene
abbrev pub Gives : Version → Query → Reply → Type 0
Gives v q reply = IsReplied v.stand (query_seen q) (answer_seen reply)
