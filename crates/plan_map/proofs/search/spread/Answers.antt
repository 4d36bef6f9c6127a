use Rattle.std.proofs.Common.{◌-◌, ◌+◌, ap, sym, ◌∙◌}
use Rattle.std.specs.List.{range_with_len}
use Rattle.plan_map.specs.Search.{state, visits}
use Rattle.plan_map.proofs.Graph.Numbers.{first_number}
use Rattle.plan_map.proofs.search.spread.Goals as goal

pub loop-region-preserved : goal.loop-region-preserved
loop-region-preserved c =
    let r = c.loop-region.region in
    record {
      size = c.in_ok-visit.ensures.size ∙ c.loop-region.invariant.size;
      left =
          ap (visits (range_with_len (r + 1) (c.args.to - (r + 1))) c.args.steps) c.in_ok-visit.ensures.value
          ∙ sym (ap (λ ns. visits ns c.args.steps (state c.loop-region.seen.items c.loop-region.distances.items)) (first_number r c.args.to c.loop-region-test.true))
          ∙ c.loop-region.invariant.left;
    }
