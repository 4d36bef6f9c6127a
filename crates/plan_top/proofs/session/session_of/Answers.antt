-- The first scene is made of what is given, or refused.
use Rattle.std.proofs.Common.{ap, sym, ◌∙◌}
use Rattle.plan_wire.specs.Documents as document
use Rattle.plan_wire.specs.Seen.{task_seen}
use Rattle.plan_top.specs.First.{given_of}
use Rattle.plan_top.proofs.Judged.{given_seen}
use Rattle.plan_top.proofs.session.session_of.Goals as goal

pub returns-in-Err-clause-session : goal.returns-in-Err-clause-session
returns-in-Err-clause-session g c =
    let d = c.args.document in record {
      given = given_of d.frame d.robot.items d.obstacles.items;
      is_given = given_seen d.frame d.robot.items d.obstacles.items;
      is_refused = rw c.in-Err.is at c.in_ok-stand.ensures;
    }

pub returns-clause-session : goal.returns-clause-session
returns-clause-session g c =
    let d = c.args.document in record {
      given = given_of d.frame d.robot.items d.obstacles.items;
      is_given = given_seen d.frame d.robot.items d.obstacles.items;
      is_first = rw c.in-Ok.is at c.in_ok-stand.ensures;
      are_rounds = ap task_seen c.in-Rounds.is ∙ ap (λ l. document.rounds l) (sym c.in_ok-rounds-in-Rounds.ensures.seen);
    }
