-- A box for each sum: one more sum has one more box. And the numbers of those that have an x: one more box may give one more number.
use Rattle.std.proofs.Common.{◌≡◌, ◌⊎◌, ⊎_elim, ℕ, ◌+◌, ◌<◌, ◌≤◌, ℤ, List, [], ◌∷◌, ◌++◌, take, length, get_or, All, Any, Contains, sym, ◌∙◌, subst, eq-or-lt_of_le, arith}
use Rattle.std.specs.Int.RustNames.{unsigned_abs}
use Rattle.std.proofs.lemmas.List.{get_or_default, get_or_append_left, take_more, length-append}
use Rattle.std.proofs.lemmas.List.Elements.{All-append, All-cons, All-nil, Contains-append_left, Contains-push}
use Rattle.std.proofs.Math.Seq.{get_or-append_seam}
use Rattle.plan_plane.proofs.Lists.{any_with}
use Rattle.plan_grid.specs.declared.bounds.TheConstants.{MOST_COORDINATE}
use Rattle.plan_grid.specs.declared.frame.Frame.{Frame}
use Rattle.plan_grid.specs.declared.spot.Spot.{Spot}
use Rattle.plan_grid.specs.Spot.{IsWithin, spots_seen}
use Rattle.plan_convex.specs.Boxes.{Encloses, IsBox}
use Rattle.plan_convex.specs.Convex.{IsPolygon}
use Rattle.plan_spec.specs.Polygon.{Inside}
use Rattle.plan_spec.specs.Vector.{Vector, IsPoint, SameX}
use Rattle.plan_slab.specs.Near.{AreBoxes, AreWithin, AreNear, HasX, HasY, IsHeldAt}
use Rattle.plan_slab.proofs.Regions.NearSums.{same_range}

-- ---- boxes
one : {X : Type 0} (P : X → Type 0) (x : X) → P x → All P (x ∷ [])
one P x p = All-cons P x [] p (All-nil P)

box_within : (spots : List Spot) (box : Frame) → All (IsWithin MOST_COORDINATE) spots → IsBox spots box → AreWithin box
box_within spots box within is = record {
  low = record { x = of box.low.x (λ s. s.x) (λ s h. h.x) is.leftmost; y = of box.low.y (λ s. s.y) (λ s h. h.y) is.lowest };
  high = record { x = of box.high.x (λ s. s.x) (λ s h. h.x) is.rightmost; y = of box.high.y (λ s. s.y) (λ s h. h.y) is.highest };
}
  where
    of : (c : ℤ) (at : Spot → ℤ) → ((s : Spot) → IsWithin MOST_COORDINATE s → unsigned_abs (at s) ≤ MOST_COORDINATE) → Any (λ s. at s ≡ c) spots → unsigned_abs c ≤ MOST_COORDINATE
    of c at h any = (any_with (IsWithin MOST_COORDINATE) (λ s. at s ≡ c) (λ s. unsigned_abs c ≤ MOST_COORDINATE) (λ s w e. subst (λ n. unsigned_abs n ≤ MOST_COORDINATE) e (h s w)) spots within any).4

one_more : (sums : List (List Spot)) (boxes : List Frame) (v : List Spot) (b : Frame) → AreBoxes sums boxes → IsPolygon v → IsBox v b → AreBoxes (sums ++ v ∷ []) (boxes ++ b ∷ [])
one_more sums boxes v b h is new = record {
  polygons = All-append IsPolygon sums (v ∷ []) h.polygons (one IsPolygon v is);
  bounded = All-append AreWithin boxes (b ∷ []) h.bounded (one AreWithin b (box_within v b is.bounded new));
  same_length = omega (arith, length-append boxes (b ∷ []), length-append sums (v ∷ []), h.same_length);
  enclose = λ k w f within. ⊎_elim
      (λ e. subst (λ i. All (Encloses (get_or (boxes ++ b ∷ []) i f)) (get_or (sums ++ v ∷ []) i w)) (sym e)
      (subst (λ s. All (Encloses (get_or (boxes ++ b ∷ []) (length sums) f)) s) (sym (get_or-append_seam sums v [] w))
      (subst (λ x. All (Encloses x) v) (sym (subst (λ i. get_or (boxes ++ b ∷ []) i f ≡ b) h.same_length (get_or-append_seam boxes b [] f))) new.encloses)))
      (λ less. rw (get_or_append_left boxes (b ∷ []) f k (omega (arith, less, h.same_length)), get_or_append_left sums (v ∷ []) w k less) (h.enclose k w f less))
      (last k within);
}
  where
    last : (k : ℕ) → k < length (sums ++ v ∷ []) → (k ≡ length sums) ⊎ (k < length sums)
    last k within = eq-or-lt_of_le (omega (arith, within, length-append sums (v ∷ [])))

pub box_more : (sums : List (List Spot)) (boxes : List Frame) (i : ℕ) (v : List Spot) (b : Frame) → i < length sums → v ≡ get_or sums i v → AreBoxes (take i sums) boxes → IsPolygon v → IsBox v b → AreBoxes (take (i + 1) sums) (boxes ++ b ∷ [])
box_more sums boxes i v b within e h is new =
    subst (λ l. AreBoxes l (boxes ++ b ∷ [])) (sym (take_more sums i v within)) (subst (λ s. AreBoxes (take i sums ++ s ∷ []) (boxes ++ b ∷ [])) e (one_more (take i sums) boxes v b h is new))

-- ---- numbers
-- those of the first boxes
pub record AreNearSoFar (boxes : List Frame) (z : Vector) (near : List ℕ) (n : ℕ) : Type 0 where
  pub within : All (λ k. k < n) near
  pub all : (k : ℕ) (f : Frame) → k < n → HasX (get_or boxes k f) z → Contains near k

below : (near : List ℕ) (n : ℕ) → All (λ k. k < n) near → All (λ k. k < n + 1) near
below near n h k d within = omega (arith, h k d within)

pub near_more : (boxes : List Frame) (z : Vector) (near : List ℕ) (n : ℕ) → AreNearSoFar boxes z near n → AreNearSoFar boxes z (near ++ n ∷ []) (n + 1)
near_more boxes z near n h = record {
  within = All-append (λ k. k < n + 1) near (n ∷ []) (below near n h.within) (one (λ k. k < n + 1) n (omega arith));
  all = λ k f less has. ⊎_elim (λ e. subst (Contains (near ++ n ∷ [])) (sym e) (Contains-push near n)) (λ lt. Contains-append_left near (n ∷ []) k (h.all k f lt has)) (eq-or-lt_of_le (omega (arith, less)));
}

pub near_less : (boxes : List Frame) (z : Vector) (near : List ℕ) (n : ℕ) → AreNearSoFar boxes z near n → ((f : Frame) → ¬ (HasX (get_or boxes n f) z)) → AreNearSoFar boxes z near (n + 1)
near_less boxes z near n h off = record {
  within = below near n h.within;
  all = λ k f less has. ⊎_elim (λ e. absurd (off f (subst (λ i. HasX (get_or boxes i f) z) e has))) (λ lt. h.all k f lt has) (eq-or-lt_of_le (omega (arith, less)));
}

-- those of one x are those of any point with it
pub near_at : (boxes : List Frame) (x z : Vector) (near : List ℕ) → IsPoint x → IsPoint z → SameX x z → AreNear boxes x near → AreNear boxes z near
near_at boxes x z near hx hz same h = record { within = h.within; all = λ k f less has. h.all k f less (same_range (get_or boxes k f) x z hx hz same has) }

-- ---- a near sum
pub held_at : (sums : List (List Spot)) (boxes : List Frame) (z : Vector) (i : ℕ) (v : List Spot) (f : Frame) → i < length sums → i < length boxes → HasY (get_or boxes i f) z × Inside (spots_seen v) z → v ≡ get_or sums i v → IsHeldAt sums boxes z i
held_at sums boxes z i v f here there h e = λ w g. (subst (λ b. HasY b z) (get_or_default boxes i f g there) h.0, subst (λ vs. Inside (spots_seen vs) z) (e ∙ get_or_default sums i v w here) h.1)
