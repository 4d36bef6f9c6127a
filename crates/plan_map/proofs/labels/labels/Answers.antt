use Rattle.std.proofs.Common.{◌≡◌, length, subst, arith}
use Rattle.plan_map.specs.Labels.{IsFlood, HasLabels}
use Rattle.plan_map.specs.Row.{in_row}
use Rattle.plan_map.proofs.Graph.Floods.{labels_found}
use Rattle.plan_map.proofs.labels.labels.Goals as goal

pub returns : goal.returns
returns c =
    let rows = c.args.rows.now in
    let l = c.loop-region in
    let all : l.region ≡ length rows = omega (arith, c.loop-region-test.false, l.auto.region-end) in
    let flooded = subst (λ k. IsFlood (in_row rows) (length rows) k l.seen.items (length l.seen.items) l.labels.items) all l.invariant in
    labels_found flooded c.requires.rows.both_ways c.requires.rows.within c.in_ok-found.found.items (subst (λ ls. HasLabels ls c.in_ok-found.found.items) c.deref.ensures.value c.in_ok-found.ensures)
