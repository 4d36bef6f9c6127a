-- A walk over the edges one by one: on none so far, and under an odd number of them or not.
use Rattle.std.proofs.Common.{◌≡◌, ℕ, ◌+◌, ◌<◌, ◌≤◌, Bool, List, [], ◌∷◌, ◌++◌, take, length, Some, All, Any, sym, ap, ap₂, subst, ◌∙◌}
use Rattle.std.specs.Prelude.{slice_get}
use Rattle.std.proofs.lemmas.List.{take_more, take_all}
use Rattle.std.proofs.lemmas.List.Elements.{All-push}
use Rattle.std.proofs.lemmas.Option.{get_or_from_slice_get, slice_get_within}
use Rattle.plan_spec.specs.Vector.{Vector}
use Rattle.plan_spec.specs.Segment.{Segment, On}
use Rattle.plan_spec.specs.Parity.{over, parity, xor}
use Rattle.plan_cross.proofs.ParityLaw.Xor.{xor_false}
use Rattle.plan_poly.proofs.EvenOdd.Chains.{parity_append}

pub record Walked (ss : List Segment) (i : ℕ) (odd : Bool) (z : Vector) : Type 0 where
  pub off : All (λ s. ¬ (On s z)) (take i ss)
  pub count : odd ≡ parity (take i ss) z

next : (ss : List Segment) (i : ℕ) (s : Segment) → i < length ss → slice_get ss i ≡ Some s → take (i + 1) ss ≡ take i ss ++ s ∷ []
next ss i s within e = take_more ss i s within ∙ ap (λ t. take i ss ++ t ∷ []) (get_or_from_slice_get ss i s s e)

pub walked_more : {ss : List Segment} {i : ℕ} {odd : Bool} {z : Vector} (s : Segment) (over_s : Bool) → Walked ss i odd z → i < length ss → slice_get ss i ≡ Some s → ¬ (On s z) → over_s ≡ over s z → Walked ss (i + 1) (xor odd over_s) z
walked_more {ss} {i} {odd} {z} s over_s w within e off f = record {
  off = subst (All (λ s. ¬ (On s z))) (sym (next ss i s within e)) (All-push (λ s. ¬ (On s z)) (take i ss) s w.off off);
  count = ap₂ xor w.count f ∙ ap (xor (parity (take i ss) z)) (sym (xor_false (over s z))) ∙ sym (parity_append (take i ss) (s ∷ []) z) ∙ ap (λ ts. parity ts z) (sym (next ss i s within e));
}

pub walked_all : {ss : List Segment} {i : ℕ} {odd : Bool} {z : Vector} → Walked ss i odd z → length ss ≤ i → All (λ s. ¬ (On s z)) ss × (odd ≡ parity ss z)
walked_all {ss} {i} {odd} {z} w past = (subst (All (λ s. ¬ (On s z))) (take_all i ss past) w.off, w.count ∙ ap (λ ts. parity ts z) (take_all i ss past))

-- the walk ends at an edge that has z
pub has_one : (ss : List Segment) (i : ℕ) (s : Segment) (z : Vector) → slice_get ss i ≡ Some s → On s z → Any (λ s. On s z) ss
has_one ss i s z e on = (i, s, slice_get_within ss i s e, get_or_from_slice_get ss i s s e, on)
