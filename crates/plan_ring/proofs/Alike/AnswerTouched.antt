-- What a placement touches has one number, and where it has one it is not clear.
use Rattle.std.proofs.Common.{◌≡◌, inl, inr, ℕ, ◌≤◌, sym, ◌∙◌, arith}
use Rattle.std.proofs.lemmas.List.Elements.{All-contains}
use Rattle.plan_spec.specs.Vector.{Vector}
use Rattle.plan_spec.specs.Placement.{Scene, Meets, IsClear, IsLeastMet, IsTouched}
use Rattle.plan_plane.proofs.Lists.{any_weaker}

at_most : (scene : Scene) (p : Vector) (m n : ℕ) → IsLeastMet scene p m → IsLeastMet scene p n → m ≤ n
at_most scene p m n h k =
    let (i, o, within, is, (e, meets)) = k.met in
    let f = All-contains (λ o. Meets scene.robot o.shape p → m ≤ o.id) scene.obstacles o h.least (i, within, is) meets in
    omega (arith, e, f)

pub one_touched : (scene : Scene) (p : Vector) (m n : ℕ) → IsTouched scene p m → IsTouched scene p n → m ≡ n
one_touched scene p m n (inl h) (inl k) = h.0 ∙ sym k.0
one_touched scene p m n (inl h) (inr k) = absurd (k.0 h.1)
one_touched scene p m n (inr h) (inl k) = absurd (h.0 k.1)
one_touched scene p m n (inr h) (inr k) = let f = at_most scene p m n h.1 k.1 in let g = at_most scene p n m k.1 h.1 in omega arith

pub not_clear : (scene : Scene) (p : Vector) (n : ℕ) → IsTouched scene p n → ¬ (IsClear scene p)
not_clear scene p n (inl h) clear = clear (inl h.1)
not_clear scene p n (inr h) clear = clear (inr (any_weaker (λ o. (o.id ≡ n) × Meets scene.robot o.shape p) (λ o. Meets scene.robot o.shape p) (λ o k. k.1) scene.obstacles h.1.met))
