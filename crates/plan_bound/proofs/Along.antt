-- A gap as a piece: from its lesser end, since the points of an edge come in the order of their parameters. And what is told by positions holds of the pieces.
use Rattle.plan_exact.specs.Vectors.{Vector}
use Rattle.plan_spec.specs.Vector.{IsPoint, Same, Before}
use Rattle.plan_convex.specs.declared.part.Part.{Part}
use Rattle.plan_convex.specs.Parameter.{AtMost, IsShare, along}
use Rattle.plan_bound.proofs.PiecesOfEdge.{not_before_at}
use Rattle.plan_bound.proofs.Maximal.{before_same}
use Rattle.plan_bound.proofs.Parts.{share_point}

pub piece_onward : (a b p q : Vector) (g : Part) → IsPoint a → IsPoint b → Before a b → IsShare g.from → IsShare g.to → AtMost g.from g.to → IsPoint p → IsPoint q → Same p (along a b g.from) → Same q (along a b g.to) → ¬ (Before q p)
piece_onward a b p q g ha hb onward hf ht le hp hq e f h =
    not_before_at a b g.from g.to onward le (before_same q p (along a b g.to) (along a b g.from) hq hp (share_point a b g.to ha hb ht) (share_point a b g.from ha hb hf) f e h)
