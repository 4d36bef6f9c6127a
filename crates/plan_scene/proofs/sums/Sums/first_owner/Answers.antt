-- The box of the sum at the index is at that index; the loop leaves at the first sum that holds the point.
use Rattle.std.proofs.Common.{◌<◌, length, get_or, subst, sym, arith}
use Rattle.plan_convex.specs.Boxes.{IsBox}
use Rattle.plan_scene.proofs.Number.{zip_length, zip_at}
use Rattle.plan_scene.proofs.sums.Sums.first_owner.Goals as goal

pub index-requires-in-loop-i : goal.index-requires-in-loop-i
index-requires-in-loop-i c =
    let s = c.args.self.now in
    omega (arith, zip_length IsBox s.list.items s.bounds.items c.requires.boxes, s.bounds.ok, s.list.ok, c.len-i-end.ensures, c.loop-i-test.true)

pub holds-requires : goal.holds-requires
holds-requires c =
    let s = c.args.self.now in
    let within : c.loop-i.i < length s.list.items = omega (arith, s.list.ok, c.len-i-end.ensures, c.loop-i-test.true) in
    subst (λ p. IsBox p c.index-in-loop-i.result.now) (sym c.index.ensures) (subst (IsBox (get_or s.list.items c.loop-i.i c.index.result.now)) (sym c.index-in-loop-i.ensures)
    (zip_at IsBox s.list.items s.bounds.items c.requires.boxes c.loop-i.i c.index.result.now c.index-in-loop-i.result.now within))
