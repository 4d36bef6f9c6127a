-- Of the clauses on the two ends, and of what is required of the part.
use Rattle.plan_convex.proofs.Spans.{less_numbers}
use Rattle.plan_convex.proofs.clip.Span.of.Goals as goal

pub returns-clause-proper : goal.returns-clause-proper
returns-clause-proper c =
    let e = c.lowest-n0.ensures in
    let f = c.lowest-n1.ensures in
    record {
      start_lowest = e.lowest;
      start_positive = e.positive;
      start_bounded = e.bounded;
      end_lowest = f.lowest;
      end_positive = f.positive;
      end_bounded = f.bounded;
      end_upto = f.upto;
      less = less_numbers c.lowest-n0.result.0 c.lowest-n0.result.1 c.lowest-n1.result.0 c.lowest-n1.result.1 c.args.part e.positive f.positive e.in_range.share.positive f.in_range.share.positive e.value f.value c.requires;
    }
