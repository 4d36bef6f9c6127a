-- Near a point its strict order against another point stays, by x and by y, and so it stays clear: there are finitely many tests.
use Rattle.std.proofs.Common.{◌≡◌, ◌⊎◌, inl, inr, pos, ◌-ℤ◌, ◌*ℤ◌, neg_ℤ, ◌≤ℤ◌, ◌<ℤ◌, List, [], ◌∷◌, All, Any, get_or, subst, arith}
use Rattle.std.proofs.lemmas.List.Elements.{All-nil, All-cons}
use Rattle.plan_exact.specs.Expr.{con, ◌⊖◌, ◌⊗◌, neg}
use Rattle.plan_exact.specs.Vectors.{dot, cross, opposite, env}
use Rattle.plan_exact.specs.Formal as F
use Rattle.plan_exact.specs.Formal.{A, B}
use Rattle.plan_exact.proofs.Laws.{linear}
use Rattle.plan_exact.proofs.Ring.{ring}
use Rattle.plan_exact.proofs.Signs.{le_or_lt, lt_of_not_le}
use Rattle.plan_exact.proofs.Vectors.{dot_opposite}
use Rattle.plan_spec.specs.Vector.{Vector, LeX, LtX, LtY, turn}
use Rattle.plan_spec.specs.Polygon.{OnOrLeft, Inside, edges}
use Rattle.plan_spec.specs.Frame.{Frame, OnOrBeyond}
use Rattle.plan_spec.specs.Boundary.{IsClearOf}
use Rattle.plan_plane.proofs.Near.{Near, Grows, near_pos, near_both, near_weaker, near_all}
use Rattle.plan_plane.proofs.Lists.{any_here, any_there}
use Rattle.plan_plane.proofs.Segment.Between.{right_of, right_of_is}

-- positive at what is above r
abbrev pub above_of : Vector → Vector
above_of r = record { x = pos 0; y = r.w; w = neg_ℤ r.y }

pub above_of_is : (r p : Vector) → dot (above_of r) p ≡ p.y *ℤ r.w -ℤ r.y *ℤ p.w
above_of_is r p = ring (env [] (r ∷ p ∷ [])) (F.dot (record { x = con (pos 0); y = A.w; w = neg A.y }) B) (B.y ⊗ A.w ⊖ A.y ⊗ B.w) tt

-- negative at z, or 0 there and negative at d: so near z
pub near_neg : (z d l : Vector) → (dot l z <ℤ pos 0) ⊎ ((dot l z ≤ℤ pos 0) × (dot l d <ℤ pos 0)) → Near z d (λ p. dot l p <ℤ pos 0)
near_neg z d l h = near_weaker (λ p. pos 0 <ℤ dot (opposite l) p) (λ p. dot l p <ℤ pos 0) (λ p f. omega (arith, linear, dot_opposite l p)) (near_pos z d (opposite l) (by h))
  where
    by : (dot l z <ℤ pos 0) ⊎ ((dot l z ≤ℤ pos 0) × (dot l d <ℤ pos 0)) → Grows z d (opposite l)
    by (inl k) = inl (omega (arith, linear, dot_opposite l z))
    by (inr (k, m)) = inr (omega (arith, linear, dot_opposite l z), omega (arith, linear, dot_opposite l d))

module _ (r z d : Vector) where
  pub near_right : LtX r z ⊎ (LeX r z × LtX r d) → Near z d (LtX r)
  near_right h = near_weaker (λ p. pos 0 <ℤ dot (right_of r) p) (LtX r) (λ p f. omega (arith, linear, right_of_is r p)) (near_pos z d (right_of r) (by h))
    where
      by : LtX r z ⊎ (LeX r z × LtX r d) → Grows z d (right_of r)
      by (inl k) = inl (omega (arith, linear, right_of_is r z))
      by (inr (k, m)) = inr (omega (arith, linear, right_of_is r z), omega (arith, linear, right_of_is r d))

  pub near_left : LtX z r ⊎ (LeX z r × LtX d r) → Near z d (λ p. LtX p r)
  near_left h = near_weaker (λ p. dot (right_of r) p <ℤ pos 0) (λ p. LtX p r) (λ p f. omega (arith, linear, right_of_is r p)) (near_neg z d (right_of r) (by h))
    where
      by : LtX z r ⊎ (LeX z r × LtX d r) → (dot (right_of r) z <ℤ pos 0) ⊎ ((dot (right_of r) z ≤ℤ pos 0) × (dot (right_of r) d <ℤ pos 0))
      by (inl k) = inl (omega (arith, linear, right_of_is r z))
      by (inr (k, m)) = inr (omega (arith, linear, right_of_is r z), omega (arith, linear, right_of_is r d))

  pub near_over : LtY r z → Near z d (LtY r)
  near_over h = near_weaker (λ p. pos 0 <ℤ dot (above_of r) p) (LtY r) (λ p f. omega (arith, linear, above_of_is r p)) (near_pos z d (above_of r) (inl (omega (arith, linear, above_of_is r z))))

  pub near_under : LtY z r → Near z d (λ p. LtY p r)
  near_under h = near_weaker (λ p. dot (above_of r) p <ℤ pos 0) (λ p. LtY p r) (λ p f. omega (arith, linear, above_of_is r p)) (near_neg z d (above_of r) (inl (omega (arith, linear, above_of_is r z))))

-- ---- clear is open
within : (room : Frame) (p : Vector) → (LtX room.low p × LtX p room.high) × (LtY room.low p × LtY p room.high) → ¬ (OnOrBeyond room p)
within room p ((l, r), (b, a)) (inl h) = omega (arith, linear)
within room p ((l, r), (b, a)) (inr (inl h)) = omega (arith, linear)
within room p ((l, r), (b, a)) (inr (inr (inl h))) = omega (arith, linear)
within room p ((l, r), (b, a)) (inr (inr (inr h))) = omega (arith, linear)

clear_of_room : (room : Frame) (z d : Vector) → ¬ (OnOrBeyond room z) → Near z d (λ p. ¬ (OnOrBeyond room p))
clear_of_room room z d clear =
    near_weaker _ (λ p. ¬ (OnOrBeyond room p)) (within room)
    (near_both _ _ (near_both (LtX room.low) (λ p. LtX p room.high) (near_right room.low z d (inl (lt_of_not_le _ _ (λ h. clear (inl h))))) (near_left room.high z d (inl (lt_of_not_le _ _ (λ h. clear (inr (inl h)))))))
    (near_both (LtY room.low) (λ p. LtY p room.high) (near_over room.low z d (lt_of_not_le _ _ (λ h. clear (inr (inr (inl h)))))) (near_under room.high z d (lt_of_not_le _ _ (λ h. clear (inr (inr (inr h))))))))

-- what not all have, one lacks
one_lacks : {X : Type 0} (P Q : X → Type 0) → ((x : X) → P x ⊎ Q x) → (xs : List X) → ¬ (All P xs) → Any Q xs
one_lacks P Q decide [] none = absurd (none (All-nil P))
one_lacks P Q decide (x ∷ xs) none = elim (decide x) [
  | inr q ↦ any_here Q x xs q
  | inl p ↦ any_there Q x xs (one_lacks P Q decide xs (λ h. none (All-cons P x xs p h)))
]

clear_of_sum : (vs : List Vector) (z d : Vector) → ¬ (Inside vs z) → Near z d (λ p. ¬ (Inside vs p))
clear_of_sum vs z d clear = by (one_lacks (OnOrLeft z) (λ s. turn s.a s.b z <ℤ pos 0) (λ s. le_or_lt (pos 0) (turn s.a s.b z)) (edges vs) clear)
  where
    by : Any (λ s. turn s.a s.b z <ℤ pos 0) (edges vs) → Near z d (λ p. ¬ (Inside vs p))
    by (k, s, within, e, h) =
        near_weaker (λ p. turn s.a s.b p <ℤ pos 0) (λ p. ¬ (Inside vs p)) (λ p f inside. let at : OnOrLeft p s = subst (OnOrLeft p) e (inside k s within) in omega (arith, linear))
        (near_neg z d (cross s.a s.b) (inl h))

pub clear_near : (sums : List (List Vector)) (room : Frame) (z d : Vector) → IsClearOf sums room z → Near z d (IsClearOf sums room)
clear_near sums room z d clear =
    near_weaker (λ p. (¬ (OnOrBeyond room p)) × All (λ vs. ¬ (Inside vs p)) sums) (IsClearOf sums room) (λ p f. record { in_room = f.0; in_none = f.1 })
    (near_both (λ p. ¬ (OnOrBeyond room p)) (λ p. All (λ vs. ¬ (Inside vs p)) sums) (clear_of_room room z d clear.in_room) (near_all (λ vs p. ¬ (Inside vs p)) sums (λ k vs within. clear_of_sum (get_or sums k vs) z d (clear.in_none k vs within))))
