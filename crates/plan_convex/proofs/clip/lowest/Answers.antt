-- The ratio of a parameter is a parameter, so its two numbers fit.
use Rattle.std.proofs.Common.{rules, ◌∙◌, SFits, to_z-of_z}
use Rattle.std.specs.Int.{w128}
use Rattle.plan_exact.proofs.Signs.{le_of_lt}
use Rattle.plan_grid.specs.Fraction.{SameValue}
use Rattle.plan_convex.proofs.Means.{positive_size}
use Rattle.plan_convex.proofs.Terms.{InTerms, in_terms, as_value, fits_32, size_is, size_upto, sizes_value, ready}
use Rattle.plan_convex.proofs.clip.lowest.Goals as goal
use Rattle.plan_convex.proofs.clip.lowest.Goals.{After-new-ratio}

same : (c : After-new-ratio) → SameValue c.new-ratio.result c.args.p
same c =
    let n : SFits w128 c.get.result = search rules in
    let d : SFits w128 c.get-2.result = search rules in
    as_value c.new-ratio.result c.args.p c.get.result c.get-2.result n d (c.get.ensures ∙ c.num.ensures.value) (c.get-2.ensures ∙ c.den.ensures.value) c.new-ratio.ensures.value

terms : (c : After-new-ratio) → InTerms c.new-ratio.result
terms c = in_terms c.new-ratio.result c.args.p c.new-ratio.ensures.in_range (same c) c.num.ensures.in_range

pub new-ratio-requires : goal.new-ratio-requires
new-ratio-requires c =
    let n : SFits w128 c.get.result = search rules in
    let d : SFits w128 c.get-2.result = search rules in
    let r = ready c.args.p c.num.ensures.in_range in
    rw (to_z-of_z n, to_z-of_z d, c.get.ensures, c.get-2.ensures, c.num.ensures.value, c.den.ensures.value) (record { positive = r.positive; den_bounded = r.den_bounded; num_bounded = r.num_bounded })

pub overflow_cast-result : goal.overflow_cast-result
overflow_cast-result c =
    let t = terms (goal.at.overflow_cast-result c).After-new-ratio in
    let fits : SFits w128 c.num-2.result = search rules in
    rw (to_z-of_z fits, c.num-2.ensures.value) (fits_32 c.new-ratio.result.num t.nonneg t.num_bounded)

pub overflow_cast-result-2 : goal.overflow_cast-result-2
overflow_cast-result-2 c =
    let t = terms (goal.at.overflow_cast-result-2 c).After-new-ratio in
    let fits : SFits w128 c.den-2.result = search rules in
    rw (to_z-of_z fits, c.den-2.ensures.value) (fits_32 c.new-ratio.result.den (le_of_lt t.positive) t.bounded)

pub returns : goal.returns
returns c =
    let r = c.new-ratio.result in
    let before = (goal.at.returns c).After-new-ratio in
    let t = terms before in
    let n : SFits w128 c.num-2.result = search rules in
    let d : SFits w128 c.den-2.result = search rules in
    rw (to_z-of_z n, to_z-of_z d, c.num-2.ensures.value, c.den-2.ensures.value) (record {
      value = sizes_value r c.args.p t (same before);
      lowest = c.new-ratio.ensures.in_range.lowest;
      positive = positive_size r.den t.positive;
      bounded = size_is r.den (le_of_lt t.positive) t.bounded;
      upto = size_upto r.num r.den t.nonneg t.upto;
      in_range = c.num.ensures.in_range;
    })
