-- On an event line, what is uncovered of an edge that is not upright is a mark: it is on a piece of that edge, which is one point or meets the line there.
use Rattle.std.proofs.Common.{◌≡◌, inl, inr, ℕ, suc, pos, ◌-ℤ◌, ◌*ℤ◌, List, [], ◌∷◌, map, Any, sym, subst, arith}
use Rattle.std.specs.List.{AllZip}
use Rattle.plan_exact.proofs.Laws.{linear}
use Rattle.plan_exact.proofs.Signs.{zero_or_zero, mul_of_zero}
use Rattle.plan_spec.specs.Vector.{Vector, IsPoint, Same, SameX, SameY, turn}
use Rattle.plan_spec.specs.Segment.{Segment, HasPoints, On}
use Rattle.plan_spec.specs.Frame.{Frame}
use Rattle.plan_spec.specs.Boundary.{IsUncovered, boundary}
use Rattle.plan_spec.specs.Pieces.{IsPartOf, ArePieces, Piece, piece, numbered, IsBoundaryOf}
use Rattle.plan_spec.specs.Slabs.{IsMark}
use Rattle.plan_plane.proofs.Lists.{any_none, any_cases, any_with, any_left, any_right, any_to_map}
use Rattle.plan_plane.proofs.Segment.Between.{flip}
use Rattle.plan_plane.proofs.Segment.ByX.{between_one}
use Rattle.plan_slab.specs.Levels.{run}
use Rattle.plan_slab.specs.Meets.{IsSloped}
use Rattle.plan_slab.proofs.Regions.SpanLines.{height}
use Rattle.plan_slab.proofs.Regions.Upright.{rises, upright, shape}

-- an upright part of an edge that is not upright is one point
one_height : (e p : Segment) → IsSloped e → IsPartOf e p → SameX p.a p.b → SameY p.a p.b
one_height e p sloped part x = elim (zero_or_zero (run e) (p.b.y *ℤ p.a.w -ℤ p.a.y *ℤ p.b.w) zero) [
  | inl f ↦ absurd (sloped (omega (arith, linear, f)))
  | inr f ↦ omega (arith, linear, f)
]
  where
    zero : run e *ℤ (p.b.y *ℤ p.a.w -ℤ p.a.y *ℤ p.b.w) ≡ pos 0
    zero = omega (arith, linear, height e p.a p.b x, mul_of_zero p.a.w (turn e.a e.b p.b) part.to.in_line, mul_of_zero p.b.w (turn e.a e.b p.a) part.from.in_line)

one_point : (p : Segment) (z : Vector) → HasPoints p → IsPoint z → Same p.a p.b → On p z → Same z p.a
one_point p z hp hz same on = (sym (between_one p.a p.b z hp.0 hp.1 hz same.0 on.within_x), sym (between_one (flip p.a) (flip p.b) (flip z) hp.0 hp.1 hz same.1 on.within_y))

marked : (e : Segment) (p : Piece) (z : Vector) → IsSloped e → IsPartOf e p.part → IsPoint z → On p.part z → IsMark z p
marked e p z sloped part hz on = elim (shape p.part part.onward) [
  | rises lt ↦ inr (inr (lt, on))
  | upright x le ↦ inl (one_point p.part z part.points hz (x, one_height e p.part sloped part x) on)
]

marked_among : {sums : List (List Vector)} {room : Frame} (k : ℕ) (es : List Segment) (parts : List (List Segment)) → AllZip (ArePieces sums room) es parts → (z : Vector) → IsPoint z → IsUncovered sums room z → Any (λ e. IsSloped e × On e z) es → Any (IsMark z) (numbered k parts)
marked_among k [] parts h z hz bare some = absurd (any_none (λ e. IsSloped e × On e z) some)
marked_among k (e ∷ es) [] h z hz bare some = absurd h
marked_among k (e ∷ es) (ps ∷ parts) h z hz bare some = elim (any_cases (λ e. IsSloped e × On e z) e es some) [
  | inl here ↦ any_left (IsMark z) (map (piece k) ps) (numbered (suc k) parts) (any_to_map (IsMark z) (piece k) ps
      (any_with (IsPartOf e) (λ p. On p z) (λ p. IsMark z (piece k p)) (λ p part on. marked e (piece k p) z here.0 part hz on) ps h.0.along ((h.0.exact z hz here.1).0 bare)))
  | inr rest ↦ any_right (IsMark z) (map (piece k) ps) (numbered (suc k) parts) (marked_among (suc k) es parts h.1 z hz bare rest)
]

pub sloped_marks : {sums : List (List Vector)} {room : Frame} {pieces : List Piece} → IsBoundaryOf sums room pieces → (z : Vector) → IsPoint z → IsUncovered sums room z → Any (λ e. IsSloped e × On e z) (boundary sums room) → Any (IsMark z) pieces
sloped_marks {sums} {room} {pieces} h z hz bare some = subst (Any (IsMark z)) (sym h.in_order) (marked_among 0 (boundary sums room) h.parts h.each z hz bare some)
