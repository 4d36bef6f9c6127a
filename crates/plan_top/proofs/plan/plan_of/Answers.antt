-- The first scene is made of what is given, or refused.
use Rattle.std.proofs.Common.{ap}
use Rattle.plan_wire.specs.Seen.{task_seen}
use Rattle.plan_top.specs.First.{given_of}
use Rattle.plan_top.proofs.Judged.{given_seen}
use Rattle.plan_top.proofs.plan.plan_of.Goals as goal

pub returns-in-Err-clause-plan : goal.returns-in-Err-clause-plan
returns-in-Err-clause-plan g c =
    let d = c.args.document in record {
      given = given_of d.frame d.robot.items d.obstacles.items;
      is_given = given_seen d.frame d.robot.items d.obstacles.items;
      is_refused = rw c.in-Err.is at c.in_ok-stand.ensures;
    }

pub returns-clause-plan : goal.returns-clause-plan
returns-clause-plan g c =
    let d = c.args.document in record {
      given = given_of d.frame d.robot.items d.obstacles.items;
      is_given = given_seen d.frame d.robot.items d.obstacles.items;
      is_first = rw c.in-Ok.is at c.in_ok-stand.ensures;
      are_queries = ap task_seen c.in-Queries.is;
    }
