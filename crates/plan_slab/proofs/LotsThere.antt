-- The spans and marks of a lot are there.
use Rattle.std.proofs.Common.{◌<◌, [], map, length, get_or, refl, ap, arith}
use Rattle.std.proofs.lemmas.List.{length-map}
use Rattle.plan_spec.specs.Regions.{Lot, cell, wall, IsLot}
use Rattle.plan_grid.specs.Fraction.{Fraction, point_at}
use Rattle.plan_slab.specs.LotsThere.{IsThere}
use Rattle.plan_slab.specs.Seen.{strand_seen}
use Rattle.plan_slab.specs.Subdivision.{Subdivision, IsSubdivision, slabs_of}
use Rattle.plan_slab.proofs.SlabsSeen.{spans_seen_at, rows_at}
use Rattle.plan_slab.proofs.SweptRows.{rows_count}

pub lot_there : (s : Subdivision) (d : Fraction) → IsSubdivision s → (lot : Lot) → IsLot (slabs_of s) lot → IsThere s lot
lot_there s d h (cell k i) (slab, span) =
    let below : k < length s.spans = omega (arith, slab, length-map s.spans (map strand_seen)) in
    let ss = get_or s.spans k [] in
    let e = ap length (spans_seen_at s.lines s.spans s.marks k ss below refl) in
    (omega (arith, below, h.rows.slab_count), omega (arith, span, e, length-map ss strand_seen))
lot_there s d h (wall k j) (line, mark) =
    let below : k < length s.lines = omega (arith, line, rows_count s.lines s.marks (omega (arith, h.rows.line_count)), h.rows.line_count) in
    let ms = get_or s.marks k [] in
    let e = ap length (rows_at s.lines s.marks k d below (omega (arith, below, h.rows.line_count))) in
    (below, omega (arith, mark, e, length-map ms (point_at (get_or s.lines k d))))
