-- The third corner of a triangle that has a given side is left of the side.
use Rattle.std.proofs.Common.{pos, ◌<ℤ◌, inl, inr, sym, subst, arith}
use Rattle.plan_exact.proofs.Laws.{linear}
use Rattle.plan_exact.proofs.Vectors.{det_turned}
use Rattle.plan_spec.specs.Polygon.{Inside}
use Rattle.plan_spec.specs.Segment.{Segment, segment}
use Rattle.plan_spec.specs.Triangulation.{Triangle, corners}
use Rattle.plan_spec.specs.Vector.{Vector, IsPoint, turn}
use Rattle.plan_plane.proofs.Polygon.Sides.{first_inside, second_inside, third_inside}
use Rattle.plan_tri.proofs.Region.Triangulated.{HasSide}

-- ---- the triangle with a given side
pub record Third (t : Triangle) (v x : Vector) : Type 0 where
  pub s : Vector
  pub point : IsPoint s
  pub left : pos 0 <ℤ turn v x s
  pub at_v : Inside (corners t) v
  pub at_x : Inside (corners t) x
  pub at_s : Inside (corners t) s

pub third : (t : Triangle) (v x : Vector) → IsPoint t.a → IsPoint t.b → IsPoint t.c → pos 0 <ℤ turn t.a t.b t.c → HasSide (segment v x) t → Third t v x
third t v x ha hb hc h side = by side
  where
    ia : Inside (corners t) t.a
    ia = first_inside t.a t.b t.c h

    ib : Inside (corners t) t.b
    ib = second_inside t.a t.b t.c h

    ic : Inside (corners t) t.c
    ic = third_inside t.a t.b t.c h

    ab : Third t t.a t.b
    ab = record { s = t.c; point = hc; left = h; at_v = ia; at_x = ib; at_s = ic }

    bc : Third t t.b t.c
    bc = record { s = t.a; point = ha; left = omega (arith, linear, det_turned t.a t.b t.c); at_v = ib; at_x = ic; at_s = ia }

    ca : Third t t.c t.a
    ca = record { s = t.b; point = hb; left = omega (arith, linear, det_turned t.a t.b t.c, det_turned t.b t.c t.a); at_v = ic; at_x = ia; at_s = ib }

    by : HasSide (segment v x) t → Third t v x
    by (inl e) = subst (λ (g : Segment). Third t g.a g.b) (sym e) ab
    by (inr (inl e)) = subst (λ (g : Segment). Third t g.a g.b) (sym e) bc
    by (inr (inr e)) = subst (λ (g : Segment). Third t g.a g.b) (sym e) ca
