-- The spans and marks that are read are those of the region.
use Rattle.std.proofs.Common.{◌≡◌, suc, ◌+◌, ◌<◌, length, get_or, [], ap, ap₂, ◌∙◌, sym, subst, arith, pos}
use Rattle.plan_spec.specs.Vector.{Same}
use Rattle.plan_spec.specs.Slabs.{line_at}
use Rattle.plan_spec.specs.Regions.{mediant, spot_of, region_at}
use Rattle.plan_slab.specs.declared.strand.Strand.{Strand}
use Rattle.plan_slab.specs.Heights.{IsOver, IsHeightOn}
use Rattle.plan_slab.specs.Seen.{line_seen}
use Rattle.plan_slab.specs.Subdivision.{slabs_of, regions_of}
use Rattle.plan_map.proofs.RegionSpots.{read_at, left_line, right_line, cell_spot_is, wall_spot_is}
use Rattle.plan_map.proofs.map.Map.spot_of.Goals as goal

pub cell_point-requires-clause-low : goal.cell_point-requires-clause-low
cell_point-requires-clause-low c =
    let s = c.slabs-slabs.result.now in
    let k = c.in-Cell.slab in
    let i = c.in-Cell.at in
    let lot = c.in-Cell.ensures.lot in
    let there = c.in-Cell.ensures.there in
    let a = c.index-lines-slab.result in
    let b = c.index-lines-slab-in-Cell.result in
    let left : a ≡ get_or s.lines k a = c.index-lines-slab.is ∙ ap (λ xs. get_or xs k a) c.lines-lines.ensures.value in
    let right : b ≡ get_or s.lines (k + 1) b = c.index-lines-slab-in-Cell.is ∙ ap (λ xs. get_or xs (k + 1) b) c.lines-lines.ensures.value in
    let x : mediant (line_seen a) (line_seen b) ≡ mediant (line_at (slabs_of s) k) (line_at (slabs_of s) (suc k)) = ap₂ mediant (left_line s k i lot there a left) (right_line s k i lot there b right) in
    let here : i < length c.spans-spans.result.now = omega (arith, there.1, ap length c.spans-spans.ensures.value) in
    let u = get_or c.spans-spans.result.now i (record { a = record { x = pos 0; y = pos 0 }; b = record { x = pos 0; y = pos 0 } }) in
    subst (IsOver u) (sym x) (c.spans-spans.ensures.across i (record { a = record { x = pos 0; y = pos 0 }; b = record { x = pos 0; y = pos 0 } }) here)

pub cell_point-requires-clause-high : goal.cell_point-requires-clause-high
cell_point-requires-clause-high c =
    let s = c.slabs-slabs.result.now in
    let k = c.in-Cell.slab in
    let i = c.in-Cell.at in
    let lot = c.in-Cell.ensures.lot in
    let there = c.in-Cell.ensures.there in
    let a = c.index-lines-slab.result in
    let b = c.index-lines-slab-in-Cell.result in
    let left : a ≡ get_or s.lines k a = c.index-lines-slab.is ∙ ap (λ xs. get_or xs k a) c.lines-lines.ensures.value in
    let right : b ≡ get_or s.lines (k + 1) b = c.index-lines-slab-in-Cell.is ∙ ap (λ xs. get_or xs (k + 1) b) c.lines-lines.ensures.value in
    let x : mediant (line_seen a) (line_seen b) ≡ mediant (line_at (slabs_of s) k) (line_at (slabs_of s) (suc k)) = ap₂ mediant (left_line s k i lot there a left) (right_line s k i lot there b right) in
    let here : i + 1 < length c.spans-spans.result.now = omega (arith, there.1, ap length c.spans-spans.ensures.value) in
    let u = get_or c.spans-spans.result.now (i + 1) (record { a = record { x = pos 0; y = pos 0 }; b = record { x = pos 0; y = pos 0 } }) in
    subst (IsOver u) (sym x) (c.spans-spans.ensures.across (i + 1) (record { a = record { x = pos 0; y = pos 0 }; b = record { x = pos 0; y = pos 0 } }) here)

pub wall_point-requires-clause-low : goal.wall_point-requires-clause-low
wall_point-requires-clause-low c =
    let s = c.slabs-slabs.result.now in
    let k = c.in-Wall.line in
    let j = c.in-Wall.at in
    let there = c.in-Wall.ensures.there in
    let l = c.index-lines-line.result in
    let on : l ≡ get_or s.lines k l = c.index-lines-line.is ∙ ap (λ xs. get_or xs k l) c.lines-lines.ensures.value in
    let f = c.index-marks-at.result in
    let here : j < length c.marks-marks.result.now = omega (arith, there.1, ap length c.marks-marks.ensures.value) in
    subst (λ x. IsHeightOn x f) (sym on) (subst (IsHeightOn (get_or s.lines k l)) (sym c.index-marks-at.is) (c.marks-marks.ensures.on_line l j f here))

pub wall_point-requires-clause-high : goal.wall_point-requires-clause-high
wall_point-requires-clause-high c =
    let s = c.slabs-slabs.result.now in
    let k = c.in-Wall.line in
    let j = c.in-Wall.at in
    let there = c.in-Wall.ensures.there in
    let l = c.index-lines-line.result in
    let on : l ≡ get_or s.lines k l = c.index-lines-line.is ∙ ap (λ xs. get_or xs k l) c.lines-lines.ensures.value in
    let f = c.index-marks-at-in-Wall.result in
    let here : j + 1 < length c.marks-marks.result.now = omega (arith, there.1, ap length c.marks-marks.ensures.value) in
    subst (λ x. IsHeightOn x f) (sym on) (subst (IsHeightOn (get_or s.lines k l)) (sym c.index-marks-at-in-Wall.is) (c.marks-marks.ensures.on_line l (j + 1) f here))

pub returns-in-Cell-clause-same : goal.returns-in-Cell-clause-same
returns-in-Cell-clause-same c =
    let s = c.slabs-slabs.result.now in
    let k = c.in-Cell.slab in
    let i = c.in-Cell.at in
    let lot = c.in-Cell.ensures.lot in
    let there = c.in-Cell.ensures.there in
    let a = c.index-lines-slab.result in
    let b = c.index-lines-slab-in-Cell.result in
    let left : a ≡ get_or s.lines k a = c.index-lines-slab.is ∙ ap (λ xs. get_or xs k a) c.lines-lines.ensures.value in
    let right : b ≡ get_or s.lines (k + 1) b = c.index-lines-slab-in-Cell.is ∙ ap (λ xs. get_or xs (k + 1) b) c.lines-lines.ensures.value in
    let ss = c.spans-spans.result.now in
    let d : Strand = record { a = record { x = pos 0; y = pos 0 }; b = record { x = pos 0; y = pos 0 } } in
    let low = read_at ss (get_or s.spans k []) i d c.spans-spans.ensures.value (omega (arith, there.1)) in
    let high = read_at ss (get_or s.spans k []) (i + 1) d c.spans-spans.ensures.value there.1 in
    let r = c.cell_point.result in
    let here = subst (Same r) (cell_spot_is s k i lot there a b (get_or ss i d) (get_or ss (i + 1) d) left right low high) c.cell_point.ensures.same in
    subst (λ m. Same r (spot_of (slabs_of m) (region_at (regions_of m) c.args.region.number))) c.slabs-slabs.ensures (subst (λ lot. Same r (spot_of (slabs_of s) lot)) c.in-Cell.ensures.value here)

pub returns-in-Wall-clause-same : goal.returns-in-Wall-clause-same
returns-in-Wall-clause-same c =
    let s = c.slabs-slabs.result.now in
    let k = c.in-Wall.line in
    let j = c.in-Wall.at in
    let there = c.in-Wall.ensures.there in
    let l = c.index-lines-line.result in
    let on : l ≡ get_or s.lines k l = c.index-lines-line.is ∙ ap (λ xs. get_or xs k l) c.lines-lines.ensures.value in
    let f = c.index-marks-at.result in
    let g = c.index-marks-at-in-Wall.result in
    let low : f ≡ get_or (get_or s.marks k []) j f = c.index-marks-at.is ∙ ap (λ xs. get_or xs j f) c.marks-marks.ensures.value in
    let high : g ≡ get_or (get_or s.marks k []) (j + 1) g = c.index-marks-at-in-Wall.is ∙ ap (λ xs. get_or xs (j + 1) g) c.marks-marks.ensures.value in
    let r = c.wall_point.result in
    let here = subst (Same r) (wall_spot_is s k j there l f g on low high) c.wall_point.ensures.same in
    subst (λ m. Same r (spot_of (slabs_of m) (region_at (regions_of m) c.args.region.number))) c.slabs-slabs.ensures (subst (λ lot. Same r (spot_of (slabs_of s) lot)) c.in-Wall.ensures.value here)
