-- By the map of the stand: what is in no region touches, and labels tell the part of what is in one.
use Rattle.std.proofs.Common.{◌∙◌, arith}
use Rattle.std.proofs.lemmas.List.{get_or_default}
use Rattle.plan_exact.proofs.Laws.{linear}
use Rattle.plan_grid.specs.Spot.{spot_seen}
use Rattle.plan_reply.proofs.Parts.{part_here, touched_here}
use Rattle.plan_reply.proofs.Replies.{decomposed}
use Rattle.plan_reply.proofs.stand.Stand.part_of.Goals as goal

pub returns-in_err-region : goal.returns-in_err-region
returns-in_err-region c =
    let stand = c.self.invariant in
    let m = stand.is_map in
    let z = spot_seen c.args.spot in
    rw (c.from_residual.ensures, ← c.self.view_is)
    (touched_here c.self.inside.scene c.count.ensures.scene c.self.inside.map c.self.inside.labels.items stand z (omega (arith, linear)) (c.in_err-region.ensures.located m.sums m.room (decomposed c.self.inside.scene c.count.ensures.scene m)))

pub returns : goal.returns
returns c =
    let stand = c.self.invariant in
    let m = stand.is_map in
    let z = spot_seen c.args.spot in
    let scene = c.self.inside.scene in
    let labels = c.self.inside.labels.items in
    let r = c.in_ok-region.region.number in
    let is = c.in_ok-region.ensures.located m.sums m.room (decomposed scene c.count.ensures.scene m) in
    let inside = is.is_region in
    let long = stand.are_labels.size in
    let e = c.index.ensures ∙ get_or_default labels r c.index.result.now 0 (omega (arith, inside, long)) in
    rw (e, ← c.self.view_is) (part_here scene c.count.ensures.scene c.self.inside.map labels stand z (omega (arith, linear)) r is)
