-- The parity law of closed chains: along a way that has no point of the chain, parity does not change. By steps it changes by the counted ends, and every end occurs an even number of times.
use Rattle.std.proofs.Common.{◌≡◌, ◌⊎◌, inl, inr, ◌*ℤ◌, List, [], ◌∷◌, All, refl, sym, ap, ap₂, ◌∙◌}
use Rattle.std.proofs.lemmas.List.Elements.{All-head, All-tail, All-cons, All-nil, All-weaker}
use Rattle.plan_spec.specs.Vector.{Vector, IsPoint, LeX, same}
use Rattle.plan_spec.specs.Segment.{Segment, segment, HasPoints, Common, Misses}
use Rattle.plan_spec.specs.Parity.{over, parity, xor, counted}
use Rattle.plan_spec.specs.Chain.{odd_end, IsClosed}
use Rattle.plan_plane.proofs.Segment.Reversed.{common_first}
use Rattle.plan_exact.proofs.Signs.{le_or_ge}
use Rattle.plan_cross.specs.Ends.{ends}
use Rattle.plan_cross.proofs.ParityLaw.Xor.{xor_assoc, xor_middle, same_from_xor}
use Rattle.plan_cross.proofs.ParityLaw.Position.{counted_same}
use Rattle.plan_cross.proofs.ParityLaw.Step.{parity_step}
use Rattle.plan_cross.proofs.ParityLaw.Tally.{tally, odd_in, even_tally}

points : (chain : List Segment) → All HasPoints chain → All IsPoint (ends chain)
points [] h = All-nil IsPoint
points (s ∷ ss) h =
    let k = All-head HasPoints s ss h in
    All-cons IsPoint s.a (s.b ∷ ends ss) k.0 (All-cons IsPoint s.b (ends ss) k.1 (points ss (All-tail HasPoints s ss h)))

pub odd_end_is : (chain : List Segment) (z : Vector) → odd_in (ends chain) z ≡ odd_end chain z
odd_end_is [] z = refl
odd_end_is (s ∷ ss) z = ap (λ t. xor (same s.a z) (xor (same s.b z) t)) (odd_end_is ss z) ∙ sym (xor_assoc (same s.a z) (same s.b z) (odd_end ss z))

-- the steps, summed over the chain
steps : (p q : Vector) → IsPoint p → IsPoint q → LeX p q → (chain : List Segment) → All HasPoints chain → Misses (segment p q) chain → xor (parity chain p) (parity chain q) ≡ tally (counted p q) (ends chain)
steps p q hp hq onward [] h m = refl
steps p q hp hq onward (s ∷ ss) h m =
    let apart = All-head (λ s. ¬ (Common (segment p q) s)) s ss m in
    let rest = steps p q hp hq onward ss (All-tail HasPoints s ss h) (All-tail (λ s. ¬ (Common (segment p q) s)) s ss m) in
    xor_middle (over s p) (parity ss p) (over s q) (parity ss q)
    ∙ ap₂ xor (parity_step s p q (All-head HasPoints s ss h) hp hq onward apart) rest
    ∙ xor_assoc (counted p q s.a) (counted p q s.b) (tally (counted p q) (ends ss))

onward_constant : (chain : List Segment) (p q : Vector) → All HasPoints chain → IsClosed chain → IsPoint p → IsPoint q → LeX p q → Misses (segment p q) chain → parity chain p ≡ parity chain q
onward_constant chain p q h closed hp hq onward m =
    let even = even_tally (ends chain) (points chain h) (counted p q) (counted_same p q) (λ z hz k. odd_end_is chain z ∙ closed z hz) in
    same_from_xor (parity chain p) (parity chain q) (steps p q hp hq onward chain h m ∙ even)

pub parity_constant : (chain : List Segment) (p q : Vector) → All HasPoints chain → IsClosed chain → IsPoint p → IsPoint q → Misses (segment p q) chain → parity chain p ≡ parity chain q
parity_constant chain p q h closed hp hq m = by (le_or_ge (p.x *ℤ q.w) (q.x *ℤ p.w))
  where
    by : LeX p q ⊎ LeX q p → parity chain p ≡ parity chain q
    by (inl onward) = onward_constant chain p q h closed hp hq onward m
    by (inr back) =
        let turned = All-weaker (λ s. ¬ (Common (segment p q) s)) (λ s. ¬ (Common (segment q p) s)) (λ s apart c. apart (common_first p q c)) chain m in
        sym (onward_constant chain q p h closed hq hp back turned)
