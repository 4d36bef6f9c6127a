-- The signs at the two ends of the edge tell which of the four cases it is.
use Rattle.std.proofs.Common.{refl}
use Rattle.plan_convex.proofs.Narrowing.{rises_positive, falls_positive, always_positive, never_positive, not_positive, not_negative}
use Rattle.plan_convex.proofs.part.Part.where_positive.Goals as goal

pub returns-then-is_negative : goal.returns-then-is_negative
returns-then-is_negative c = rw (c.ending_at.ensures.value, c.balance.ensures.value, c.negated.ensures.value) (falls_positive c.args.self c.args.at_a c.args.at_b c.ending_at.ensures.to_in_range.share.positive (c.if-is_positive.ensures.0 refl) (c.if-is_negative.ensures.0 refl))

pub returns-then-is_positive : goal.returns-then-is_positive
returns-then-is_positive c = always_positive c.args.self c.args.at_a c.args.at_b (c.if-is_positive.ensures.0 refl) (not_negative c.args.at_b c.if-is_negative.ensures.1)

pub returns-then-is_positive-2 : goal.returns-then-is_positive-2
returns-then-is_positive-2 c = rw (c.starting_at.ensures.value, c.balance-then-is_positive-2.ensures.value, c.negated-then-is_positive-2.ensures.value) (rises_positive c.args.self c.args.at_a c.args.at_b c.starting_at.ensures.from_in_range.share.positive (not_positive c.args.at_a c.if-is_positive.ensures.1) (c.if-is_positive-2.ensures.0 refl))

pub returns : goal.returns
returns c = never_positive c.args.self c.args.at_a c.args.at_b (not_positive c.args.at_a c.if-is_positive.ensures.1) (not_positive c.args.at_b c.if-is_positive-2.ensures.1)
