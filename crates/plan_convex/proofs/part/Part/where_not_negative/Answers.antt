-- The signs at the two ends of the edge tell which of the four cases it is.
use Rattle.std.proofs.Common.{refl}
use Rattle.plan_convex.proofs.Narrowing.{rises_not_negative, falls_not_negative, never_not_negative, not_negative}
use Rattle.plan_convex.proofs.part.Part.where_not_negative.Goals as goal

pub returns-then-is_negative-2-clause-value : goal.returns-then-is_negative-2-clause-value
returns-then-is_negative-2-clause-value c = rw c.nowhere.ensures (never_not_negative c.args.self c.args.at_a c.args.at_b (c.if-is_negative.ensures.0 refl) (c.if-is_negative-2.ensures.0 refl))

pub returns-then-is_negative-clause-value : goal.returns-then-is_negative-clause-value
returns-then-is_negative-clause-value c =
    rw (c.starting_at.ensures.value, c.balance.ensures.value, c.negated.ensures.value)
    (rises_not_negative c.args.self c.args.at_a c.args.at_b c.starting_at.ensures.from_in_range.share.positive (c.if-is_negative.ensures.0 refl) (not_negative c.args.at_b c.if-is_negative-2.ensures.1))

pub returns-then-is_negative-3-clause-value : goal.returns-then-is_negative-3-clause-value
returns-then-is_negative-3-clause-value c =
    rw (c.ending_at.ensures.value, c.balance-then-is_negative-3.ensures.value, c.negated-then-is_negative-3.ensures.value)
    (falls_not_negative c.args.self c.args.at_a c.args.at_b c.ending_at.ensures.to_in_range.share.positive (not_negative c.args.at_a c.if-is_negative.ensures.1) (c.if-is_negative-3.ensures.0 refl))
