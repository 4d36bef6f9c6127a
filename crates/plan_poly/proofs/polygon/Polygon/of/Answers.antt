-- The list is as long as before, so the vector has all that is arranged.
use Rattle.std.proofs.Common.{◌≡◌, length, sym, subst, arith}
use Rattle.std.proofs.Math.Seq.{take-append_seam}
use Rattle.plan_poly.specs.Polygon.{IsSimpleList, IsRead}
use Rattle.plan_poly.proofs.polygon.Polygon.of.Goals as goal

pub arrange-requires : goal.arrange-requires
arrange-requires c = subst IsSimpleList (sym c.deref_mut.ensures.value) c.requires

pub returns : goal.returns
returns c =
    let kept = c.arrange.new.spots in
    let size : c.args.spots.len ≡ length kept = omega arith in
    rw (size, take-append_seam) (subst (λ given. IsRead given kept) c.deref_mut.ensures.value c.arrange.ensures)
