-- Each region of the component adds what is kept of it.
use Rattle.std.proofs.Common.{◌<◌, ◌≤◌, [], length, get_or, map, take, ap, subst, ◌∙◌, arith}
use Rattle.std.proofs.lemmas.List.{take_all}
use Rattle.std.proofs.lemmas.List.Elements.{Contains-get_or}
use Rattle.plan_spec.specs.Rings.{ring}
use Rattle.plan_cross.specs.Segment.{segment_seen}
use Rattle.plan_slab.specs.Subdivision.{slabs_of, regions_of}
use Rattle.plan_ring.specs.Grown.{AreAlike}
use Rattle.plan_ring.proofs.Added.{alike_positions, alike_lowest}
use Rattle.plan_ring.proofs.Component.{joined_in}
use Rattle.plan_ring.proofs.outline.ring.Goals as goal

pub keep-requires : goal.keep-requires
keep-requires c =
    let s = c.args.map.now in
    let ns = c.in_ok-component.component.items in
    let k = c.loop-number.number-index in
    let n = get_or ns k 0 in
    let within : k < length ns = omega (arith, c.loop-number-test.true, ap length c.deref-number-items.ensures.value) in
    let less = joined_in (slabs_of s) (regions_of s) c.args.region.number n c.requires ((c.in_ok-component.ensures.members n).0 (Contains-get_or ns k 0 within)) in
    omega (arith, less, ap (λ xs. get_or xs k 0) c.deref-number-items.ensures.value, ap (λ s. length (regions_of s)) c.slabs.ensures)

pub returns-clause-ring : goal.returns-clause-ring
returns-clause-ring c =
    let s = c.args.map.now in
    let ns = c.in_ok-component.component.items in
    let k = c.loop-number.number-index in
    let xs = c.deref-number-items.result.now in
    let past : length xs ≤ k = omega (arith, c.loop-number-test.false) in
    record {
      component = ns;
      is_component = c.in_ok-component.ensures;
      is_ring = alike_positions (map segment_seen c.loop-number.segments.items) (ring (slabs_of s) (regions_of s) ns) (subst (λ ns. AreAlike (map segment_seen c.loop-number.segments.items) (ring (slabs_of s) (regions_of s) ns)) (take_all k xs past ∙ c.deref-number-items.ensures.value) (c.loop-number.invariant [] tt));
    }

pub returns-clause-in_range : goal.returns-clause-in_range
returns-clause-in_range c =
    let s = c.args.map.now in
    alike_lowest (map segment_seen c.loop-number.segments.items) (ring (slabs_of s) (regions_of s) (take c.loop-number.number-index c.deref-number-items.result.now)) (c.loop-number.invariant [] tt)
