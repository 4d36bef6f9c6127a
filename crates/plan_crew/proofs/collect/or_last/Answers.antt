-- The answers for the last entry will do.
use Rattle.plan_shelf.specs.Told.{told_list}
use Rattle.plan_crew.proofs.Working.{last_or}
use Rattle.plan_crew.proofs.collect.or_last.Goals as goal

pub returns-in-None : goal.returns-in-None
returns-in-None g c = record { said = last_or g.J.Job.version_of (g.J.Job.gives c.args.job.now) (told_list c.args.last.now) c.args.questions.now c.args.said c.answer_last.result c.answer_last.ensures.said }
