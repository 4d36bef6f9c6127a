-- Marks rise, so a binary search finds where they pass the spot.
use Rattle.std.proofs.Common.{length, refl, sym, ap, ◌∙◌}
use Rattle.plan_spec.specs.Slabs.{marks_of}
use Rattle.plan_grid.specs.Spot.{spot_seen}
use Rattle.plan_slab.specs.Subdivision.{slabs_of}
use Rattle.plan_slab.proofs.Counts.{mark_count}
use Rattle.plan_map.proofs.Location.ByNumber.{mark_found}
use Rattle.plan_map.proofs.Location.Sinking.{there}
use Rattle.plan_map.proofs.locate.mark_below.Goals as goal

pub returns-clause-there : goal.returns-clause-there
returns-clause-there c =
    let s = c.args.slabs.now in
    let marks = c.marks-marks in
    there (length (marks_of (slabs_of s) c.args.line)) (length marks.result.now) c.binary_search.result c.between.result (mark_count s c.args.line c.requires.line ∙ sym (ap length marks.ensures.value)) c.between.ensures

pub returns-clause-below : goal.returns-clause-below
returns-clause-below c =
    let s = c.args.slabs.now in
    let marks = c.marks-marks in
    let search = c.binary_search in
    mark_found s (spot_seen c.args.spot) refl c.args.line marks.result.now c.y_of.result search.result c.between.result c.requires.line marks.ensures.value marks.ensures.on_line c.y_of.ensures.in_range c.y_of.ensures.value search.ensures.bound search.ensures.position c.between.ensures
