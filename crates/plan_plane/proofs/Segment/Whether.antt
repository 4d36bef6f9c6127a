-- Whether two points are one, and whether a point is on some segment of a list: both are decided.
use Rattle.std.proofs.Common.{◌⊎◌, inl, inr, List, [], ◌∷◌, All, Any, ◌≡◌, Bool, true, false, refl, sym, ◌∙◌}
use Rattle.std.proofs.lemmas.Bool.{true≢false}
use Rattle.std.proofs.lemmas.List.Elements.{All-nil, All-cons}
use Rattle.plan_spec.specs.Segment.{Segment, On}
use Rattle.plan_spec.specs.Vector.{Vector, same, Same}
use Rattle.plan_plane.proofs.Lists.{any_here, any_there}
use Rattle.plan_plane.proofs.Segment.Decided.{Decided, on_decided}
use Rattle.plan_plane.proofs.Segment.Same.{same_true, same_from}

pub any_on : (chain : List Segment) (z : Vector) → Any (λ s. On s z) chain ⊎ All (λ s. ¬ (On s z)) chain
any_on [] z = inr (All-nil (λ s. ¬ (On s z)))
any_on (s ∷ ss) z = by (on_decided s z) (any_on ss z)
  where
    by : Decided (On s z) → Any (λ s. On s z) ss ⊎ All (λ s. ¬ (On s z)) ss → Any (λ s. On s z) (s ∷ ss) ⊎ All (λ s. ¬ (On s z)) (s ∷ ss)
    by (inl o) r = inl (any_here (λ s. On s z) s ss o)
    by (inr n) (inl m) = inl (any_there (λ s. On s z) s ss m)
    by (inr n) (inr m) = inr (All-cons (λ s. ¬ (On s z)) s ss n m)

pub same_or_not : (z u : Vector) → Same z u ⊎ ¬ (Same z u)
same_or_not z u = by (same z u) refl
  where
    by : (t : Bool) → same z u ≡ t → Same z u ⊎ ¬ (Same z u)
    by true e = inl (same_true z u e)
    by false e = inr (λ s. true≢false (sym (same_from z u s) ∙ e))
