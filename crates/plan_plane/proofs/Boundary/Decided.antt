-- Whether a point is held, uncovered or clear is decided, since all tests are signs.
use Rattle.std.proofs.Common.{inl, inr, pos, List, [], ◌∷◌, All}
use Rattle.std.proofs.lemmas.List.Elements.{All-nil, All-cons, All-head, All-tail}
use Rattle.plan_spec.specs.Vector.{Vector, turn}
use Rattle.plan_spec.specs.Polygon.{OnOrLeft, Inside, edges}
use Rattle.plan_spec.specs.Frame.{Frame, OnOrBeyond}
use Rattle.plan_plane.proofs.Segment.Decided.{Decided, decided_by, both_decided, either_decided, le_decided}
use Rattle.plan_spec.specs.Boundary.{IsClearOf}

not_decided : {P : Type 0} → Decided P → Decided (¬ P)
not_decided (inl p) = inr (λ n. n p)
not_decided (inr n) = inl n

pub all_decided : {X : Type 0} (P : X → Type 0) → ((x : X) → Decided (P x)) → (xs : List X) → Decided (All P xs)
all_decided P decide [] = inl (All-nil P)
all_decided P decide (x ∷ xs) = decided_by (λ h. All-cons P x xs h.0 h.1) (λ h. (All-head P x xs h, All-tail P x xs h)) (both_decided (decide x) (all_decided P decide xs))

pub inside_decided : (vs : List Vector) (z : Vector) → Decided (Inside vs z)
inside_decided vs z = all_decided (OnOrLeft z) (λ s. le_decided (pos 0) (turn s.a s.b z)) (edges vs)

pub clear_decided : (sums : List (List Vector)) (room : Frame) (z : Vector) → Decided (IsClearOf sums room z)
clear_decided sums room z =
    decided_by (λ h. record { in_room = h.0; in_none = h.1 }) (λ h. (h.in_room, h.in_none))
    (both_decided (not_decided beyond) (all_decided (λ vs. ¬ (Inside vs z)) (λ vs. not_decided (inside_decided vs z)) sums))
  where
    beyond : Decided (OnOrBeyond room z)
    beyond = either_decided (le_decided _ _) (either_decided (le_decided _ _) (either_decided (le_decided _ _) (le_decided _ _)))
