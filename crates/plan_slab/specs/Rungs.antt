-- Pieces that go across a slab, by their heights at one x.
use Rattle.std.specs.Prelude.{◌≡◌, ◌≤◌, List, All, Any, AllPairs, Contains}
use Rattle.plan_spec.specs.Vector.{Vector}
use Rattle.plan_spec.specs.Segment.{Segment}
use Rattle.plan_spec.specs.Regions.{foot}
use Rattle.plan_grid.specs.Fraction.{Fraction, SameValue}
use Rattle.plan_convex.specs.Parameter.{Less}
use Rattle.plan_slab.specs.declared.bar.Bar.{Bar}
use Rattle.plan_slab.specs.declared.rungs.Rung.{Rung}
use Rattle.plan_slab.specs.Heights.{IsLevel}
use Rattle.plan_slab.specs.Seen.{strand_seen}

-- the height of the line through the ends of s at the x of m
abbrev pub level_at : Vector → Segment → Fraction
level_at m s = record { num = (foot s m).y; den = (foot s m).w }

-- the bar with the height of its strand at the x of m
pub record IsRungOf (m : Vector) (g : Rung) (b : Bar) : Type 0 where
  pub number : g.number ≡ b.number
  pub strand : g.strand ≡ b.strand
  pub level : g.level ≡ level_at m (strand_seen b.strand)
  pub in_range : IsLevel g.level

-- hs has of gs the one of the least number of each level, by rising levels
pub record AreLeastOf (gs hs : List Rung) : Type 0 where
  pub each : (h : Rung) → Contains hs h → Contains gs h
  pub rising : AllPairs (λ g h. Less g.level h.level) hs
  pub all : All (λ g. Any (λ h. (h.number ≤ g.number) × SameValue h.level g.level) hs) gs

-- of the bars the one of the least number of each height at the x of m, by rising heights
pub record AreFirstOf (m : Vector) (bars : List Bar) (hs : List Rung) : Type 0 where
  pub each : All (λ h. Any (IsRungOf m h) bars) hs
  pub rising : AllPairs (λ g h. Less g.level h.level) hs
  pub all : All (λ b. Any (λ h. (h.number ≤ b.number) × SameValue h.level (level_at m (strand_seen b.strand))) hs) bars
