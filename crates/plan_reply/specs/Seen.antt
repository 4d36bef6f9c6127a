-- Replies as the definitions see them.
use Rattle.plan_spec.specs.Answers.{Answer, start_touches, goal_touches, by_path, by_chain}
use Rattle.plan_reply.specs.declared.reply.Reply.{Reply}
use Rattle.plan_reply.specs.declared.reply.Reply.TheVariants.{Path, Blocked, StartTouches, GoalTouches}

abbrev pub answer_seen : Reply → Answer
answer_seen (Path points) = by_path points
answer_seen (Blocked segments) = by_chain segments
answer_seen (StartTouches who) = start_touches who
answer_seen (GoalTouches who) = goal_touches who
