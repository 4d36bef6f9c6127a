-- Two segments have a common point exactly where they part each other or an end is on the other.
use Rattle.std.proofs.Common.{◌⊎◌, ◌↔◌, inl, inr, ⊎_elim, refl, arith}
use Rattle.std.proofs.lemmas.Int.{ints}
use Rattle.plan_spec.specs.Segment.{Common}
use Rattle.plan_poly.specs.declared.edge.Edge.{Edge}
use Rattle.plan_poly.specs.Edge.{segment_seen, PartEachOther, HaveEndOnOther}
use Rattle.plan_poly.proofs.Meets.Shares.{common_by_ends}
use Rattle.plan_poly.proofs.edge.Edge.meets.Goals as goal

by_ends : (s t : Edge) → Common (segment_seen s) (segment_seen t) ↔ (PartEachOther (segment_seen s) (segment_seen t) ⊎ HaveEndOnOther (segment_seen s) (segment_seen t))
by_ends s t = common_by_ends (segment_seen s) (segment_seen t) (omega (arith, ints), omega (arith, ints)) (omega (arith, ints), omega (arith, ints))

pub returns-then-part_each_other : goal.returns-then-part_each_other
returns-then-part_each_other c = (λ t. (by_ends c.args.self c.args.other).1 (inl (c.if-part_each_other.ensures.0 refl)), λ m. c.if-part_each_other.true)

pub returns-else-part_each_other : goal.returns-else-part_each_other
returns-else-part_each_other c = (
  λ t. (by_ends c.args.self c.args.other).1 (inr (c.have_end_on_other.ensures.0 t)),
  λ m. ⊎_elim (λ p. let e = c.if-part_each_other.ensures.1 p in absurd (cc)) c.have_end_on_other.ensures.1 ((by_ends c.args.self c.args.other).0 m),
)
