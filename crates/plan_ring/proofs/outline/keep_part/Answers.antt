-- A free wall is passed over; any other part is added.
use Rattle.std.proofs.Common.{◌≡◌, suc, ◌+◌, [], ◌∷◌, sym, subst, arith, if◌then◌else◌}
use Rattle.plan_spec.specs.Vector.{Same}
use Rattle.plan_spec.specs.Rings.{part}
use Rattle.plan_spec.specs.Slabs.{mark_at}
use Rattle.plan_slab.specs.Subdivision.{slabs_of, regions_of}
use Rattle.plan_slab.proofs.Decomposition.{number_wall}
use Rattle.plan_ring.specs.Grown.{HasAdded}
use Rattle.plan_ring.proofs.Added.{added_none, added_one}
use Rattle.plan_ring.proofs.Outlining.{is_closed}
use Rattle.plan_ring.proofs.outline.keep_part.Goals as goal

pub returns-in-Some : goal.returns-in-Some
returns-in-Some c =
    let s = c.args.slabs.now in
    let xs = c.args.segments.now.items in
    let free = number_wall c.args.line c.args.at (regions_of s) c.in-Some.field-0 c.in-Some.ensures.0 c.in-Some.ensures.1 in
    subst (λ b. HasAdded xs xs (if b then [] else part (slabs_of s) c.args.line c.args.at ∷ [])) (sym free) (added_none xs)

pub returns : goal.returns
returns c =
    let s = c.args.slabs.now in
    let xs = c.args.segments.now.items in
    let ys = c.push.new.self.items in
    let next : c.args.at + 1 ≡ suc c.args.at = omega arith in
    let upper : Same c.mark-b.result (mark_at (slabs_of s) c.args.line (suc c.args.at)) = subst (λ j. Same c.mark-b.result (mark_at (slabs_of s) c.args.line j)) next c.mark-b.ensures.same in
    let closed = is_closed (regions_of s) c.args.line c.args.at c.in_default.ensures in
    subst (λ b. HasAdded xs ys (if b then [] else part (slabs_of s) c.args.line c.args.at ∷ [])) (sym closed)
    (added_one xs ys (record { a = c.mark-a.result; b = c.mark-b.result }) (part (slabs_of s) c.args.line c.args.at) c.in_ok-push.ensures.items (record { a = c.mark-a.ensures.same; b = upper; a_lowest = c.mark-a.ensures.in_range; b_lowest = c.mark-b.ensures.in_range }))
