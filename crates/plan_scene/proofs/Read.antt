-- A polygon that is read has as many vertices as were given.
use Rattle.std.proofs.Common.{◌≡◌, ◌⊎◌, inl, inr, List, length, length-append, reverse, ap, arith}
use Rattle.std.proofs.lemmas.List.{length-reverse}
use Rattle.plan_grid.specs.declared.spot.Spot.{Spot}
use Rattle.plan_poly.specs.Polygon.{IsRead, IsRotation}

pub same_count : (given kept : List Spot) → IsRead given kept → length kept ≡ length given
same_count given kept r = by r.order
  where
    by : IsRotation given kept ⊎ IsRotation (reverse given) kept → length kept ≡ length given
    by (inl (pre, post, e, f)) = omega (arith, ap length e, ap length f, length-append pre post, length-append post pre)
    by (inr (pre, post, e, f)) = omega (arith, ap length e, ap length f, length-append pre post, length-append post pre, length-reverse given)
