-- A simple list has no fault, and a polygon has a first triangle.
use Rattle.std.proofs.Common.{arith, pos, List, subst, sym, ◌∙◌}
use Rattle.plan_grid.specs.declared.spot.Spot.{Spot}
use Rattle.plan_poly.specs.Polygon.{IsSimpleList, IsFault}
use Rattle.plan_poly.specs.declared.fault.PolyFault.{PolyFault}
use Rattle.plan_poly.specs.declared.fault.PolyFault.TheVariants.{Few, Many, Range, NotSimple}
use Rattle.plan_picture.proofs.names.name_place.Goals as goal

has_none : (spots : List Spot) (fault : PolyFault) → IsSimpleList spots → ¬ (IsFault spots fault)
has_none spots (Few n) h f = let least = h.at_least_three in let few = f.1 in omega arith
has_none spots (Many n) h f = let most = h.at_most_32 in let many = f.1 in omega arith
has_none spots (Range i) h f = f.1.out (record { x = pos 0; y = pos 0 }) (h.bounded i (record { x = pos 0; y = pos 0 }) f.1.within)
has_none spots (NotSimple i j) h f = h.simple i j f.2.ordered f.2.within f.2.wrong

pub unreachable-requires : goal.unreachable-requires
unreachable-requires c = has_none c.in_ok-spots.spots.items c.in_default.field-0 (subst IsSimpleList (sym (c.in_ok-spots.ensures.items ∙ c.as_slice.ensures.value)) c.requires) c.in_default.ensures
