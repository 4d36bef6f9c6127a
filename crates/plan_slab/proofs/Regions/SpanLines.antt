-- A span is on the line of a piece that goes across its slab; and what is straight above or below a point of a line is on a side of it.
use Rattle.std.proofs.Common.{◌≡◌, pos, ◌-ℤ◌, ◌*ℤ◌, ◌<ℤ◌, List, [], ◌∷◌, Contains, sym, subst, arith}
use Rattle.std.proofs.lemmas.List.{get_or_default}
use Rattle.plan_exact.specs.Expr.{con, ◌⊖◌, ◌⊗◌}
use Rattle.plan_exact.specs.Vectors.{env}
use Rattle.plan_exact.specs.Formal as F
use Rattle.plan_exact.specs.Formal.{A, B, C, D}
use Rattle.plan_exact.proofs.Certificates.{eq_from}
use Rattle.plan_exact.proofs.Laws.{linear}
use Rattle.plan_exact.proofs.Signs.{signs, zeros, mul_pos, mul_pos_neg, mul_of_zero, pos_of_mul, neg_of_mul}
use Rattle.plan_spec.specs.Vector.{Vector, IsPoint, LtX, LtY, SameX, turn}
use Rattle.plan_spec.specs.Segment.{Segment}
use Rattle.plan_spec.specs.Frame.{Frame}
use Rattle.plan_spec.specs.Pieces.{Piece, piece}
use Rattle.plan_spec.specs.Slabs.{nothing, piece_at, IsSpan}
use Rattle.plan_plane.proofs.Segment.Line.{formal_right}
use Rattle.plan_slab.specs.Levels.{run}
use Rattle.plan_slab.proofs.Order.Across.{IsSlab}
use Rattle.plan_slab.proofs.Order.OneOrder.{IsStrand, is_strand}
use Rattle.plan_slab.proofs.Pieces.{HasPieces}
use Rattle.plan_slab.proofs.Regions.OnPieces.{piece_of}

pub record HasPiece (pieces : List Piece) (l r : Vector) (s : Segment) : Type 0 where
  pub piece : Piece
  pub has : Contains pieces piece
  pub strand : IsStrand l r s piece

pub has_piece : {sums : List (List Vector)} {room : Frame} {pieces : List Piece} (l r : Vector) (s : Segment) → HasPieces sums room pieces → IsSlab l r → IsSpan sums room pieces l r s → HasPiece pieces l r s
has_piece {sums} {room} {pieces} l r s h slab span =
    let p = piece_at pieces span.number in
    let has : Contains pieces p = (span.number, span.within, get_or_default pieces span.number p (piece 0 nothing) span.within) in
    record { piece = p; has = has; strand = subst (λ s. IsStrand l r s p) (sym span.is) (is_strand slab (piece_of h has) span.reaches) }

-- ---- of two points of one x, how much higher the one is by the line
pub height : (s : Segment) (u z : Vector) → SameX u z → u.w *ℤ turn s.a s.b z -ℤ z.w *ℤ turn s.a s.b u ≡ run s *ℤ (z.y *ℤ u.w -ℤ u.y *ℤ z.w)
height s u z same =
    let f : z.x *ℤ u.w -ℤ u.x *ℤ z.w ≡ pos 0 = omega (arith, linear) in
    eq_from (env [] (s.a ∷ s.b ∷ u ∷ z ∷ [])) (con (pos 1)) ((A.y ⊗ B.w ⊖ A.w ⊗ B.y) ⊗ (D.x ⊗ C.w ⊖ C.x ⊗ D.w)) (C.w ⊗ F.det A B D ⊖ D.w ⊗ F.det A B C) (formal_right A B ⊗ (D.y ⊗ C.w ⊖ C.y ⊗ D.w)) tt (search signs) (search zeros)

-- straight above a point of the line is left of it
pub above_line : (s : Segment) (v z : Vector) → LtX s.a s.b → IsPoint v → turn s.a s.b v ≡ pos 0 → SameX z v → LtY v z → pos 0 <ℤ turn s.a s.b z
above_line s v z rises hv e same lt =
    let r : pos 0 <ℤ run s = omega (arith, linear) in
    let d : pos 0 <ℤ (z.y *ℤ v.w -ℤ v.y *ℤ z.w) = omega (arith, linear) in
    pos_of_mul hv (omega (arith, linear, height s v z (sym same), mul_pos r d, mul_of_zero z.w (turn s.a s.b v) e))

pub below_line : (s : Segment) (v z : Vector) → LtX s.a s.b → IsPoint v → turn s.a s.b v ≡ pos 0 → SameX z v → LtY z v → turn s.a s.b z <ℤ pos 0
below_line s v z rises hv e same lt =
    let r : pos 0 <ℤ run s = omega (arith, linear) in
    let d : (z.y *ℤ v.w -ℤ v.y *ℤ z.w) <ℤ pos 0 = omega (arith, linear) in
    neg_of_mul hv (omega (arith, linear, height s v z (sym same), mul_pos_neg r d, mul_of_zero z.w (turn s.a s.b v) e))
