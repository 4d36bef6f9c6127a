-- A box for each sum: one more sum has one more box.
use Rattle.std.proofs.Common.{◌≡◌, ◌⊎◌, ⊎_elim, ℕ, ◌+◌, ◌<◌, List, [], ◌∷◌, ◌++◌, take, length, get_or, All, refl, sym, subst, eq-or-lt_of_le, arith}
use Rattle.std.proofs.lemmas.List.{get_or_append_left, take_more, length-append}
use Rattle.std.proofs.Math.Seq.{get_or-append_seam}
use Rattle.plan_grid.specs.declared.frame.Frame.{Frame}
use Rattle.plan_grid.specs.declared.spot.Spot.{Spot}
use Rattle.plan_convex.specs.Boxes.{Encloses}
use Rattle.plan_bound.specs.Cover.{AreBoxes}

pub no_boxes : AreBoxes [] []
no_boxes = record { same_length = refl; enclose = λ k v f within. absurd (omega arith) }

one_more : (sums : List (List Spot)) (boxes : List Frame) (v : List Spot) (b : Frame) → AreBoxes sums boxes → All (Encloses b) v → AreBoxes (sums ++ v ∷ []) (boxes ++ b ∷ [])
one_more sums boxes v b h new = record {
  same_length = omega (arith, length-append boxes (b ∷ []), length-append sums (v ∷ []), h.same_length);
  enclose = λ k w f within. ⊎_elim
      (λ e. subst (λ i. All (Encloses (get_or (boxes ++ b ∷ []) i f)) (get_or (sums ++ v ∷ []) i w)) (sym e)
      (subst (λ s. All (Encloses (get_or (boxes ++ b ∷ []) (length sums) f)) s) (sym (get_or-append_seam sums v [] w))
      (subst (λ x. All (Encloses x) v) (sym (subst (λ i. get_or (boxes ++ b ∷ []) i f ≡ b) h.same_length (get_or-append_seam boxes b [] f))) new)))
      (λ less. rw (get_or_append_left boxes (b ∷ []) f k (omega (arith, less, h.same_length)), get_or_append_left sums (v ∷ []) w k less) (h.enclose k w f less))
      (last k within);
}
  where
    last : (k : ℕ) → k < length (sums ++ v ∷ []) → (k ≡ length sums) ⊎ (k < length sums)
    last k within = eq-or-lt_of_le (omega (arith, within, length-append sums (v ∷ [])))

pub box_more : (sums : List (List Spot)) (boxes : List Frame) (i : ℕ) (v : List Spot) (b : Frame) → i < length sums → v ≡ get_or sums i v → AreBoxes (take i sums) boxes → All (Encloses b) v → AreBoxes (take (i + 1) sums) (boxes ++ b ∷ [])
box_more sums boxes i v b within is h new =
    subst (λ l. AreBoxes l (boxes ++ b ∷ [])) (sym (take_more sums i v within)) (subst (λ s. AreBoxes (take i sums ++ s ∷ []) (boxes ++ b ∷ [])) is (one_more (take i sums) boxes v b h new))
