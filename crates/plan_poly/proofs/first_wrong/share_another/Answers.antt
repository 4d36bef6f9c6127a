-- Neighbours share another point exactly where they fold back at their common vertex.
use Rattle.std.proofs.Common.{ℕ, ◌<◌, ◌≤◌, ◌≡◌, List, Some, length, ◌∙◌, sym, arith}
use Rattle.std.proofs.lemmas.Int.{ints}
use Rattle.std.specs.Prelude.{slice_get}
use Rattle.plan_spec.specs.Polygon.{edges}
use Rattle.plan_grid.specs.declared.spot.Spot.{Spot}
use Rattle.plan_grid.specs.Spot.{spots_seen}
use Rattle.plan_poly.specs.declared.edge.Edge.{Edge}
use Rattle.plan_poly.specs.Edge.{segment_seen}
use Rattle.plan_poly.proofs.Meets.Wrongly.{EdgePair, next_fold, round_fold}
use Rattle.plan_poly.proofs.Spots.{count_seen}
use Rattle.plan_poly.proofs.first_wrong.share_another.Goals as goal

pair : (spots : List Spot) (i j : ℕ) (first second : Edge) → 3 ≤ length spots → i < j → j < length spots
    → slice_get (edges (spots_seen spots)) i ≡ Some (segment_seen first) → slice_get (edges (spots_seen spots)) j ≡ Some (segment_seen second) → EdgePair (spots_seen spots) i j (segment_seen first) (segment_seen second)
pair spots i j first second three ordered within e f = record {
  three = omega (arith, three, count_seen spots);
  ordered = ordered;
  within = omega (arith, within, count_seen spots);
  first = e;
  second = f;
  first_points = (omega (arith, ints), omega (arith, ints));
  second_points = (omega (arith, ints), omega (arith, ints));
}

pub returns-then-j-i : goal.returns-then-j-i
returns-then-j-i c =
    let k = pair c.args.spots.now c.args.i c.args.j c.of-first.result c.of-second.result c.requires.three c.requires.ordered c.requires.within c.of-first.ensures c.of-second.ensures in
    let e = next_fold k c.if-j-i.true in
    (λ t. e.1 (c.folds_back.ensures.0 t), λ h. c.folds_back.ensures.1 (e.0 h))

pub returns-then-j-spots : goal.returns-then-j-spots
returns-then-j-spots c =
    let k = pair c.args.spots.now c.args.i c.args.j c.of-first.result c.of-second.result c.requires.three c.requires.ordered c.requires.within c.of-first.ensures c.of-second.ensures in
    let e = round_fold k c.if-i-eq0.true (c.if-j-spots.true ∙ sym (count_seen c.args.spots.now)) in
    (λ t. e.1 (c.folds_back-then-j-spots.ensures.0 t), λ h. c.folds_back-then-j-spots.ensures.1 (e.0 h))
