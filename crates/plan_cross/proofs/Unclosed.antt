-- A chain is closed exactly where no end of its segments is an end an odd number of times; so the first segment with such an end tells.
use Rattle.std.proofs.Common.{◌≡◌, ◌⊎◌, inl, inr, ⊎_elim, ℕ, true, false, List, [], ◌∷◌, length, All, Any, Option, None, Some, MatchOption, ◌↔◌, refl, sym, ◌∙◌, arith}
use Rattle.std.proofs.lemmas.Bool.{true≢false, cases_Bool}
use Rattle.plan_spec.specs.Vector.{Vector, IsPoint, Same, same}
use Rattle.plan_spec.specs.Segment.{Segment}
use Rattle.plan_spec.specs.Chain.{odd_end, IsClosed}
use Rattle.plan_spec.specs.Reply.{HasOddEnd, IsFirst}
use Rattle.plan_plane.proofs.Lists.{any_here, any_there, any_none, any_weaker, no_one}
use Rattle.plan_plane.proofs.Segment.Same.{same_true, Same-swapped, Same-trans}
use Rattle.plan_cross.specs.Ends.{AreOddEnds, EndsIn}
use Rattle.plan_cross.proofs.First.{first_weaker}

-- a point is no end, or one
none_or_some : (ss : List Segment) (z : Vector) → (odd_end ss z ≡ false) ⊎ Any (λ s. Same s.a z ⊎ Same s.b z) ss
none_or_some [] z = inl refl
none_or_some (s ∷ ss) z = by (none_or_some ss z) (cases_Bool (same s.a z)) (cases_Bool (same s.b z))
  where
    by : (odd_end ss z ≡ false) ⊎ Any (λ s. Same s.a z ⊎ Same s.b z) ss → (same s.a z ≡ true) ⊎ (same s.a z ≡ false) → (same s.b z ≡ true) ⊎ (same s.b z ≡ false) → (odd_end (s ∷ ss) z ≡ false) ⊎ Any (λ s. Same s.a z ⊎ Same s.b z) (s ∷ ss)
    by (inr m) a b = inr (any_there (λ s. Same s.a z ⊎ Same s.b z) s ss m)
    by (inl m) (inl a) b = inr (any_here (λ s. Same s.a z ⊎ Same s.b z) s ss (inl (same_true s.a z a)))
    by (inl m) (inr a) (inl b) = inr (any_here (λ s. Same s.a z ⊎ Same s.b z) s ss (inr (same_true s.b z b)))
    by (inl m) (inr a) (inr b) = inl (rw (a, b) m)

-- an odd end is an end of some segment
ends_some : (ss : List Segment) (ps : List Vector) → AreOddEnds ss ps → (z : Vector) → IsPoint z → odd_end ss z ≡ true → Any (EndsIn ps) ss
ends_some ss ps h z hz odd = by (none_or_some ss z)
  where
    here : (e : Vector) → Same e z → Any (λ p. Same p e) ps
    here e s = any_weaker (λ p. Same p z) (λ p. Same p e) (λ p t. Same-trans p z e hz t (Same-swapped e z s)) ps ((h.odd z hz).0 odd)

    by : (odd_end ss z ≡ false) ⊎ Any (λ s. Same s.a z ⊎ Same s.b z) ss → Any (EndsIn ps) ss
    by (inl e) = absurd (true≢false (sym odd ∙ e))
    by (inr m) = any_weaker (λ s. Same s.a z ⊎ Same s.b z) (EndsIn ps) (λ s. ⊎_elim (λ e. inl (here s.a e)) (λ e. inr (here s.b e))) ss m

closed_without : (ss : List Segment) (ps : List Vector) → AreOddEnds ss ps → All (λ s. ¬ (EndsIn ps s)) ss → IsClosed ss
closed_without ss ps h none z hz = by (cases_Bool (odd_end ss z))
  where
    by : (odd_end ss z ≡ true) ⊎ (odd_end ss z ≡ false) → odd_end ss z ≡ false
    by (inl odd) = absurd (no_one (EndsIn ps) ss none (ends_some ss ps h z hz odd))
    by (inr even) = even

pub closed_is_empty : (ss : List Segment) (ps : List Vector) → AreOddEnds ss ps → IsClosed ss ↔ (length ps ≡ 0)
closed_is_empty ss [] h = (λ c. refl, λ e. closed_without ss [] h (λ k d w. ⊎_elim (any_none _) (any_none _)))
closed_is_empty ss (p ∷ ps) h = (λ closed. absurd (true≢false (sym odd ∙ closed p hp)), λ e. absurd (omega arith))
  where
    hp : IsPoint p
    hp = h.points 0 p (omega arith)

    odd : odd_end ss p ≡ true
    odd = (h.odd p hp).1 (any_here (λ q. Same q p) p ps (refl, refl))

pub first_unclosed : (ss : List Segment) (ps : List Vector) (r : Option ℕ) → AreOddEnds ss ps
    → MatchOption r (All (λ s. ¬ (EndsIn ps s)) ss) (IsFirst (EndsIn ps) (λ s. ¬ (EndsIn ps s)) ss)
    → MatchOption r (IsClosed ss) (IsFirst (HasOddEnd ss) (λ s. ¬ (HasOddEnd ss s)) ss)
first_unclosed ss ps None h none = closed_without ss ps h none
first_unclosed ss ps (Some k) h first =
    first_weaker (EndsIn ps) (λ s. ¬ (EndsIn ps s)) (HasOddEnd ss) (λ s. ¬ (HasOddEnd ss s)) ss k
    (λ i d w. ⊎_elim (λ a. inl ((h.odd _ (h.of_points i d w).0).1 a)) (λ b. inr ((h.odd _ (h.of_points i d w).1).1 b)))
    (λ i d w none. ⊎_elim (λ a. none (inl ((h.odd _ (h.of_points i d w).0).0 a))) (λ b. none (inr ((h.odd _ (h.of_points i d w).1).0 b))))
    first
