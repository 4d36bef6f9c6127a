-- A box for each of the first sums, and one for the next.
use Rattle.std.proofs.Common.{◌≡◌, ◌⊎◌, inl, inr, ℕ, ◌+◌, ◌<◌, ◌≤◌, List, [], ◌∷◌, ◌++◌, length, get_or, All, sym, subst, ◌∙◌, ap, arith}
use Rattle.std.proofs.lemmas.List.{length_push, get_or_push, get_or_append_left, get_or_default}
use Rattle.std.proofs.lemmas.Bool.{cases_lt}
use Rattle.plan_grid.specs.declared.frame.Frame.{Frame}
use Rattle.plan_grid.specs.declared.spot.Spot.{Spot}
use Rattle.plan_convex.specs.Boxes.{Encloses}
use Rattle.plan_check.specs.Boxes.{AreBoxes}

-- boxes of the first i sums
pub record AreBoxesUpTo (sums : List (List Spot)) (i : ℕ) (boxes : List Frame) : Type 0 where
  pub as_many : length boxes ≡ i
  pub each : (k : ℕ) (vs : List Spot) (box : Frame) → k < i → k < length sums → All (Encloses (get_or boxes k box)) (get_or sums k vs)

pub one_more : (sums : List (List Spot)) (i : ℕ) (boxes : List Frame) (sum : List Spot) (box : Frame) → i < length sums → sum ≡ get_or sums i sum → All (Encloses box) sum → AreBoxesUpTo sums i boxes → AreBoxesUpTo sums (i + 1) (boxes ++ box ∷ [])
one_more sums i boxes sum box within is encloses h = record {
  as_many = let long = length_push boxes box in omega (arith, h.as_many);
  each = λ k vs d below lt. by k vs d lt (cases_lt k i) (omega arith);
}
  where
    by : (k : ℕ) (vs : List Spot) (d : Frame) → k < length sums → (k < i) ⊎ (i ≤ k) → k < i + 1 → All (Encloses (get_or (boxes ++ box ∷ []) k d)) (get_or sums k vs)
    by k vs d lt (inl l) below = subst (λ b. All (Encloses b) (get_or sums k vs)) (sym (get_or_append_left boxes (box ∷ []) d k (omega (arith, h.as_many)))) (h.each k vs d l lt)
    by k vs d lt (inr l) below =
        let place : k ≡ i = omega arith in
        let last : get_or (boxes ++ box ∷ []) k d ≡ box = get_or_push boxes box d k (omega (arith, h.as_many)) in
        let here : sum ≡ get_or sums k vs = is ∙ get_or_default sums i sum vs within ∙ ap (λ n. get_or sums n vs) (sym place) in
        subst (λ b. All (Encloses b) (get_or sums k vs)) (sym last) (subst (All (Encloses box)) here encloses)

pub all_boxes : (sums : List (List Spot)) (i : ℕ) (boxes : List Frame) → i ≡ length sums → AreBoxesUpTo sums i boxes → AreBoxes sums boxes
all_boxes sums i boxes e h = record { as_many = h.as_many ∙ e; each = λ k vs d lt. h.each k vs d (omega arith) lt }
