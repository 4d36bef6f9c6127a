-- Three rows that fall: how far a point is right of the lines, above the marks of a line, and above the spans of a slab.
use Rattle.std.proofs.Common.{ℕ, suc, ◌<◌, ℤ, pos, ◌-ℤ◌, ◌*ℤ◌, ◌≤ℤ◌, ◌<ℤ◌, List, length, get_or, All, AllPairs, arith}
use Rattle.plan_exact.proofs.Laws.{linear}
use Rattle.plan_spec.specs.Vector.{Vector, IsPoint, LtX, LtY, turn}
use Rattle.plan_spec.specs.Segment.{Segment}
use Rattle.plan_spec.specs.Slabs.{nowhere, nothing, InSlab, Below}
use Rattle.plan_plane.proofs.Segment.Between.{flip}
use Rattle.plan_plane.proofs.Segment.ByX.{ltX_leX}
use Rattle.plan_slab.proofs.Regions.Falling.{Falls, DropsAt}

abbrev pub right_of : List Vector → Vector → ℕ → ℤ
right_of ls z k = z.x *ℤ (get_or ls k nowhere).w -ℤ (get_or ls k nowhere).x *ℤ z.w

abbrev pub above_mark : List Vector → Vector → ℕ → ℤ
above_mark ms z j = z.y *ℤ (get_or ms j nowhere).w -ℤ (get_or ms j nowhere).y *ℤ z.w

abbrev pub above_span : List Segment → Vector → ℕ → ℤ
above_span ss z i = turn (get_or ss i nothing).a (get_or ss i nothing).b z

falls_x : (a b z : Vector) → IsPoint a → IsPoint b → IsPoint z → LtX a b → pos 0 ≤ℤ (z.x *ℤ b.w -ℤ b.x *ℤ z.w) → pos 0 <ℤ (z.x *ℤ a.w -ℤ a.x *ℤ z.w)
falls_x a b z ha hb hz lt h = omega (arith, linear, ltX_leX a b z ha hb hz lt (omega (arith, linear)))

pub lines_fall : (ls : List Vector) (z : Vector) → All IsPoint ls → AllPairs LtX ls → IsPoint z → Falls (length ls) (right_of ls z)
lines_fall ls z pts rising hz i j lt within h = falls_x (get_or ls i nowhere) (get_or ls j nowhere) z (pts i nowhere (omega arith)) (pts j nowhere within) hz (rising i j nowhere lt within) h

pub marks_fall : (ms : List Vector) (z : Vector) → All IsPoint ms → AllPairs LtY ms → IsPoint z → Falls (length ms) (above_mark ms z)
marks_fall ms z pts rising hz i j lt within h = falls_x (flip (get_or ms i nowhere)) (flip (get_or ms j nowhere)) (flip z) (pts i nowhere (omega arith)) (pts j nowhere within) hz (rising i j nowhere lt within) h

pub spans_fall : (l r : Vector) (ss : List Segment) (z : Vector) → AllPairs (Below l r) ss → IsPoint z → InSlab l r z → Falls (length ss) (above_span ss z)
spans_fall l r ss z order hz inside i j lt within h = order i j nothing lt within z hz inside h

-- ---- a drop of the first row is a slab
pub slab_drop : (ls : List Vector) (z : Vector) (k : ℕ) → suc k < length ls → InSlab (get_or ls k nowhere) (get_or ls (suc k) nowhere) z → DropsAt (length ls) (right_of ls z) k
slab_drop ls z k within h = record { within = within; above = omega (arith, linear, h.0); below = omega (arith, linear, h.1) }

pub drop_slab : (ls : List Vector) (z : Vector) (k : ℕ) → DropsAt (length ls) (right_of ls z) k → InSlab (get_or ls k nowhere) (get_or ls (suc k) nowhere) z
drop_slab ls z k d = (omega (arith, linear, d.above), omega (arith, linear, d.below))
