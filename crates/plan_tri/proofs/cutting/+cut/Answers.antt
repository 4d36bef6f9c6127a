-- Each step gives the ear, or the parts, of which the calls put the triangles behind.
use Rattle.std.proofs.Common.{rules, ◌≡◌, ◌++◌, ◌∷◌, [], List, length, sym, ap, subst, ◌∙◌, arith}
use Rattle.std.proofs.lemmas.List.{append-nil, map-append, length-map}
use Rattle.plan_spec.specs.Vector.{Vector}
use Rattle.plan_spec.specs.Triangulation as spec
use Rattle.plan_spec.specs.Triangulation.{from_corner, from_least}
use Rattle.plan_grid.specs.Spot.{spot_seen, spots_seen}
use Rattle.plan_tri.specs.Triangle.{triangle_seen, triangles_seen}
use Rattle.plan_tri.specs.Step.{after, IsSmaller}
use Rattle.plan_tri.proofs.Region.Cuts.{few_none, Adds, ear_adds, parts_add, ok_more}
use Rattle.plan_tri.proofs.cutting.+cut.Goals as goal

pub returns-then-len-lt3 : goal.returns-then-len-lt3
returns-then-len-lt3 t c k size =
    let few = c.if-len-lt3.true in
    let count : length c.args.spots.items ≡ c.len.result = search rules in
    sym (append-nil (triangles_seen c.args.list.now.items)) ∙ ap (λ ts. triangles_seen c.args.list.now.items ++ ts) (sym (few_none k (spots_seen c.args.spots.items) (omega (arith, count, length-map c.args.spots.items spot_seen))))

pub returns-in_ok-push-in-Ear : goal.returns-in_ok-push-in-Ear
returns-in_ok-push-in-Ear t c =
    let old = c.args.list.now.items in
    let vs = spots_seen c.args.spots.items in
    let many = c.if-len-lt3.false in
    let count : length c.args.spots.items ≡ c.len.result = search rules in
    let smaller = subst (IsSmaller (length c.args.spots.items)) c.in-Ear.is c.in_ok-ear.ensures.smaller in
    let value : (f : List Vector → List spec.Triangle) → from_corner f (from_least vs) ≡ triangle_seen c.in-Ear.ear ∷ f (spots_seen c.in-Ear.rest.items) = λ f. c.in_ok-ear.ensures.value f ∙ ap (after f) c.in-Ear.is in
    let pushed = ap triangles_seen c.in_ok-push-in-Ear.ensures.items ∙ map-append triangle_seen old (c.in-Ear.ear ∷ []) in
    ok_more c.cut.result _ _ (λ u h. ear_adds (triangles_seen old) (triangles_seen c.cut.new.list.items) (length c.args.spots.items) (length c.in-Ear.rest.items) vs (spots_seen c.in-Ear.rest.items) (triangle_seen c.in-Ear.ear) (omega (arith, count, many)) smaller value
    (subst (λ l. Adds l (triangles_seen c.cut.new.list.items) (length c.in-Ear.rest.items) (spots_seen c.in-Ear.rest.items)) pushed h)) c.cut.ensures

pub returns-in_ok-cut-in-Parts : goal.returns-in_ok-cut-in-Parts
returns-in_ok-cut-in-Parts t c =
    let many = c.if-len-lt3.false in
    let count : length c.args.spots.items ≡ c.len.result = search rules in
    let smaller = subst (IsSmaller (length c.args.spots.items)) c.in-Parts.is c.in_ok-ear.ensures.smaller in
    let value : (f : List Vector → List spec.Triangle) → from_corner f (from_least (spots_seen c.args.spots.items)) ≡ f (spots_seen c.in-Parts.first.items) ++ f (spots_seen c.in-Parts.second.items) = λ f. c.in_ok-ear.ensures.value f ∙ ap (after f) c.in-Parts.is in
    ok_more c.cut-in-Parts-2.result _ _
    (λ u h. parts_add (triangles_seen c.args.list.now.items) (triangles_seen c.cut-in-Parts.new.list.items) (triangles_seen c.cut-in-Parts-2.new.list.items) (length c.args.spots.items) (length c.in-Parts.first.items) (length c.in-Parts.second.items) (spots_seen c.args.spots.items) (spots_seen c.in-Parts.first.items) (spots_seen c.in-Parts.second.items) (omega (arith, count, many)) smaller.0 smaller.1 value c.in_ok-cut-in-Parts.ensures h)
    c.cut-in-Parts-2.ensures
