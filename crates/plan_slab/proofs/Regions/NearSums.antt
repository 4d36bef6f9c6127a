-- A sum holds only points that its box has, so at a given x only sums whose closed range of x has it can hold one: it is enough to test these.
use Rattle.std.proofs.Common.{◌≡◌, ◌↔◌, inl, inr, ⊎_elim, ℕ, ◌<◌, pos, List, [], length, All, get_or, subst, arith}
use Rattle.std.proofs.lemmas.List.{get_or_default}
use Rattle.std.proofs.lemmas.List.Elements.{All-map, All-contains}
use Rattle.plan_exact.proofs.Laws.{linear}
use Rattle.plan_exact.proofs.Signs.{lt_of_not_le}
use Rattle.plan_spec.specs.Vector.{Vector, IsPoint, LeX, SameX, spot}
use Rattle.plan_spec.specs.Polygon.{Inside}
use Rattle.plan_spec.specs.Frame.{OnOrBeyond}
use Rattle.plan_spec.specs.Boundary.{IsClearOf}
use Rattle.plan_plane.proofs.Lists.{all_map}
use Rattle.plan_plane.proofs.Segment.ByX.{leX_trans}
use Rattle.plan_grid.specs.declared.frame.Frame.{Frame}
use Rattle.plan_grid.specs.declared.spot.Spot.{Spot}
use Rattle.plan_grid.specs.Frame.{frame_seen}
use Rattle.plan_grid.specs.Spot.{spots_seen}
use Rattle.plan_convex.specs.Boxes.{Encloses}
use Rattle.plan_convex.specs.Convex.{IsPolygon}
use Rattle.plan_convex.specs.Piece.{sums_seen}
use Rattle.plan_convex.proofs.InBox.{inside_is_in}
use Rattle.plan_slab.specs.Near.{HasX, HasY, AreNear, IsWithinRoom, IsHeldAt}

in_box : (polygon : List Spot) (box : Frame) (z : Vector) → IsPolygon polygon → All (Encloses box) polygon → Inside (spots_seen polygon) z → HasX box z × HasY box z
in_box polygon box z is boxed inside = let i = inside_is_in polygon box z is.convex is.at_least_three boxed inside in ((i.left, i.right), (i.below, i.above))

-- the range is that of any point with the x
pub same_range : (box : Frame) (x z : Vector) → IsPoint x → IsPoint z → SameX x z → HasX box z → HasX box x
same_range box x z hx hz e h =
    let low : Vector = spot box.low.x (pos 0) in
    let high : Vector = spot box.high.x (pos 0) in
    let one : IsPoint low = omega (arith, linear) in
    let two : IsPoint high = omega (arith, linear) in
    let a : LeX low z = omega (arith, linear, h.0) in
    let b : LeX z high = omega (arith, linear, h.1) in
    let zx : LeX z x = omega (arith, linear) in
    let xz : LeX x z = omega (arith, linear) in
    (omega (arith, linear, leX_trans low z x one hz hx a zx), omega (arith, linear, leX_trans x z high hx hz two xz b))

-- ---- the test: strictly within the room, and held by none of the near sums
within_room : (room : Frame) (z : Vector) → ¬ (OnOrBeyond (frame_seen room) z) ↔ IsWithinRoom room z
within_room room z = (
  λ off. record {
    left = let h = lt_of_not_le _ _ (λ h. off (inl h)) in omega (arith, linear, h);
    right = let h = lt_of_not_le _ _ (λ h. off (inr (inl h))) in omega (arith, linear, h);
    below = let h = lt_of_not_le _ _ (λ h. off (inr (inr (inl h)))) in omega (arith, linear, h);
    above = let h = lt_of_not_le _ _ (λ h. off (inr (inr (inr h)))) in omega (arith, linear, h);
  },
  λ w. ⊎_elim (λ h. omega (arith, linear, h, w.left)) (⊎_elim (λ h. omega (arith, linear, h, w.right)) (⊎_elim (λ h. omega (arith, linear, h, w.below)) (λ h. omega (arith, linear, h, w.above)))),
)

module _ (sums : List (List Spot)) (boxes : List Frame) (room : Frame) (x z : Vector) (near : List ℕ) where
  pub clear_near : All IsPolygon sums → length boxes ≡ length sums → ((k : ℕ) (v : List Spot) (f : Frame) → k < length sums → All (Encloses (get_or boxes k f)) (get_or sums k v)) → IsPoint x → IsPoint z → SameX x z → AreNear boxes x near
      → IsClearOf (sums_seen sums) (frame_seen room) z ↔ (IsWithinRoom room z × All (λ i. ¬ (IsHeldAt sums boxes z i)) near)
  clear_near are long boxed hx hz same found = (into, out)
    where
      into : IsClearOf (sums_seen sums) (frame_seen room) z → IsWithinRoom room z × All (λ i. ¬ (IsHeldAt sums boxes z i)) near
      into clear = ((within_room room z).0 clear.in_room, λ j d less held. all_map (λ vs. ¬ (Inside vs z)) spots_seen sums clear.in_none (get_or near j d) [] (omega (arith, found.within j d less, long)) (held [] room).1)

      out : IsWithinRoom room z × All (λ i. ¬ (IsHeldAt sums boxes z i)) near → IsClearOf (sums_seen sums) (frame_seen room) z
      out (within, none) = record { in_room = (within_room room z).1 within; in_none = All-map (λ vs. ¬ (Inside vs z)) spots_seen sums (λ k v below inside. All-contains (λ i. ¬ (IsHeldAt sums boxes z i)) near k none (found.all k room (omega (arith, below, long)) (same_range (get_or boxes k room) x z hx hz same (boxed_at k v below inside).0)) (held k v below inside)) }
        where
          boxed_at : (k : ℕ) (v : List Spot) → k < length sums → Inside (spots_seen (get_or sums k v)) z → HasX (get_or boxes k room) z × HasY (get_or boxes k room) z
          boxed_at k v below inside = in_box (get_or sums k v) (get_or boxes k room) z (are k v below) (boxed k v room below) inside

          held : (k : ℕ) (v : List Spot) → k < length sums → Inside (spots_seen (get_or sums k v)) z → IsHeldAt sums boxes z k
          held k v below inside = λ w f. (
            subst (λ b. HasY b z) (get_or_default boxes k room f (omega (arith, below, long))) (boxed_at k v below inside).1,
            subst (λ vs. Inside (spots_seen vs) z) (get_or_default sums k v w below) inside,
          )
