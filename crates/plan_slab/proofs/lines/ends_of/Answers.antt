-- The weights of the ends of a piece are below 2^25.
use Rattle.std.proofs.Common.{◌<◌, ◌≤◌, ◌^◌, ℕ, ℤ, pos, ◌<ℤ◌, ◌≤ℤ◌, subst, ap, arith}
use Rattle.std.specs.Int.RustNames.{unsigned_abs}
use Rattle.std.proofs.lemmas.Int.{ints}
use Rattle.plan_spec.specs.Pieces.{Piece}
use Rattle.plan_convex.specs.Piece.{IsPieceInRange}
use Rattle.plan_slab.specs.EventLines.{IsXOf}
use Rattle.plan_slab.proofs.lines.ends_of.Goals as goal

-- a denominator that is at most a weight below 2 ^ 25
bounded : (w : ℤ) (n : ℕ) → n ≤ unsigned_abs w → pos 1 ≤ℤ w → w <ℤ pos (2 ^ 25) → n < 2 ^ 25
bounded w n h low high = omega (arith, ints)

pub returns : goal.returns
returns c =
    let a = ap (λ (p : Piece). p.part.a) c.piece.view_is in
    let b = ap (λ (p : Piece). p.part.b) c.piece.view_is in
    let i = c.piece.invariant in
    record {
      first = subst (λ p. IsXOf p c.x_of.result) a c.x_of.ensures.x;
      last = subst (λ p. IsXOf p c.x_of-2.result) b c.x_of-2.ensures.x;
      first_line = record { ratio = c.x_of.ensures.in_range; bounded = bounded c.piece.inside.a.w _ c.x_of.ensures.bounded c.x_of.ensures.weight i.from_bounded };
      last_line = record { ratio = c.x_of-2.ensures.in_range; bounded = bounded c.piece.inside.b.w _ c.x_of-2.ensures.bounded c.x_of-2.ensures.weight i.to_bounded };
      in_range = subst IsPieceInRange c.piece.view_is i;
    }
