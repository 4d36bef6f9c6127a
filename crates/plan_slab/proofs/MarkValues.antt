-- Heights of ends and of edges on a line, as points of the line and in lowest terms.
use Rattle.std.proofs.Common.{◌≡◌, ◌<◌, ◌≤◌, ◌^◌, ℤ, pos, ◌-ℤ◌, ◌*ℤ◌, ◌≤ℤ◌, ◌<ℤ◌, ap, ◌∙◌, sym, arith}
use Rattle.std.specs.Int.RustNames.{unsigned_abs}
use Rattle.std.proofs.lemmas.Int.{ints, unsigned_abs-mul}
use Rattle.std.proofs.lemmas.Nat.Gcd.{le_of_dvd}
use Rattle.plan_exact.proofs.Laws.{mul_comm, mul_assoc}
use Rattle.plan_exact.proofs.Sizes.{product_at_most}
use Rattle.plan_spec.specs.Vector.{Vector, Same, SameX}
use Rattle.plan_grid.specs.Fraction.{Fraction, SameValue, IsRatio, point_at, height_of}
use Rattle.plan_grid.specs.Spot.{spot_seen}
use Rattle.plan_grid.proofs.Unique.{den_divides}
use Rattle.plan_slab.specs.declared.strand.Strand.{Strand}
use Rattle.plan_slab.specs.EventLines.{IsLine}
use Rattle.plan_slab.specs.Heights.{IsOver, IsHeight}
use Rattle.plan_slab.specs.Seen.{line_seen}

swap : (a b c : ℤ) → (a *ℤ b) *ℤ c ≡ (a *ℤ c) *ℤ b
swap a b c = mul_assoc a b c ∙ ap (λ z. a *ℤ z) (mul_comm b c) ∙ sym (mul_assoc a c b)

pub at_end : (l f : Fraction) (p : Vector) → SameX (line_seen l) p → f.num *ℤ p.w ≡ p.y *ℤ f.den → Same (point_at l f) p
at_end l f p x y = (
  swap l.num f.den p.w ∙ ap (λ z. z *ℤ f.den) x ∙ mul_assoc p.x l.den f.den,
  swap f.num l.den p.w ∙ ap (λ z. z *ℤ l.den) y ∙ mul_assoc p.y f.den l.den ∙ ap (λ z. p.y *ℤ z) (mul_comm f.den l.den),
)

wide : (a b w : ℤ) → unsigned_abs a ≤ 2046 → unsigned_abs b ≤ 2046 → a <ℤ b → pos 1 ≤ℤ w → unsigned_abs w < 2 ^ 25 → (0 < unsigned_abs ((b -ℤ a) *ℤ w)) × (unsigned_abs ((b -ℤ a) *ℤ w) ≤ 2 ^ 37)
wide a b w ha hb less hw bw =
    let d : unsigned_abs (b -ℤ a) ≤ 4092 = omega (arith, ints) in
    let e : 1 ≤ unsigned_abs (b -ℤ a) = omega (arith, ints) in
    let f : 1 ≤ unsigned_abs w = omega (arith, ints) in
    let m = unsigned_abs-mul (b -ℤ a) w in
    (omega (arith, m, product_at_most 1 1 (unsigned_abs (b -ℤ a)) (unsigned_abs w) e f), omega (arith, m, product_at_most (unsigned_abs (b -ℤ a)) (unsigned_abs w) 4092 (2 ^ 25) d (omega arith)))

pub height_bounded : (s : Strand) (l f : Fraction) → IsLine l → IsOver s (line_seen l) → IsRatio f → SameValue f (height_of (spot_seen s.a) (spot_seen s.b) l) → IsHeight f
height_bounded s l f hl over hf same =
    let w = wide s.a.x s.b.x l.den over.a_bounded.x over.b_bounded.x over.rising hl.ratio.positive hl.bounded in
    let d = le_of_dvd w.0 (den_divides f (height_of (spot_seen s.a) (spot_seen s.b) l) hf same) in
    record { ratio = hf; bounded = omega (arith, d, w.1) }
