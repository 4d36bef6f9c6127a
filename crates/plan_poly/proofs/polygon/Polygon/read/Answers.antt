-- Where none of the tests before answered, the list is simple.
use Rattle.std.proofs.Common.{◌≡◌, length, All, sym, ap, subst, ◌∙◌, arith}
use Rattle.plan_spec.specs.SimplePolygon.{IsSimple}
use Rattle.plan_grid.specs.declared.bounds.TheConstants.{MOST_CORNER}
use Rattle.plan_grid.specs.Spot.{spots_seen, IsWithin}
use Rattle.plan_poly.proofs.polygon.Polygon.read.Goals as goal

pub of-requires : goal.of-requires
of-requires c =
    let count : length c.args.spots.items ≡ c.len-count.result = ap length (sym c.deref.ensures.value) ∙ c.deref.ensures.len ∙ sym c.len-count.ensures in
    let few = c.if-count-lt3.false in
    let many = c.if-count-gt32.false in
    record {
      at_least_three = omega (arith, count);
      at_most_32 = omega (arith, count);
      bounded = subst (All (IsWithin MOST_CORNER)) c.deref.ensures.value c.in_default.ensures;
      simple = subst (λ l. IsSimple (spots_seen l)) c.deref-2.ensures.value c.in_default-first_wrong.ensures;
    }
