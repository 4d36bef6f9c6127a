-- The box of the spots so far, made larger for one more, is the box of the spots with it.
use Rattle.std.proofs.Common.{◌≡◌, ◌⊎◌, inl, inr, ℕ, ℤ, ◌+◌, ◌<◌, ◌≤◌, Bool, true, false, cond, int_lt, List, length, Any, below_more, refl, sym, ◌∙◌, subst, arith}
use Rattle.std.specs.Int.{int_min, int_max}
use Rattle.std.proofs.lemmas.List.{get_or_default}
use Rattle.plan_plane.proofs.Lists.{any_weaker}
use Rattle.plan_grid.specs.declared.frame.Frame.{Frame}
use Rattle.plan_grid.specs.declared.spot.Spot.{Spot}
use Rattle.plan_grid.proofs.Spots.{origin, corner}
use Rattle.plan_convex.specs.Boxes.{Encloses, IsBox}
use Rattle.plan_convex.proofs.Apart.{grown, still_enclosed, now_enclosed}

min_of_two : (a b : ℤ) → (a ≡ int_min a b) ⊎ (b ≡ int_min a b)
min_of_two a b = by (int_lt b a)
  where
    by : (t : Bool) → (a ≡ cond t b a) ⊎ (b ≡ cond t b a)
    by true = inr refl
    by false = inl refl

max_of_two : (a b : ℤ) → (a ≡ int_max a b) ⊎ (b ≡ int_max a b)
max_of_two a b = by (int_lt b a)
  where
    by : (t : Bool) → (a ≡ cond t a b) ⊎ (b ≡ cond t a b)
    by true = inl refl
    by false = inr refl

-- ---- spot by spot
-- a box of all spots before the i-th, with a spot of the list on each side
pub record IsBoxBefore (spots : List Spot) (i : ℕ) (box : Frame) : Type 0 where
  pub encloses : (k : ℕ) → k < i → Encloses box (corner spots k)
  pub leftmost : Any (λ s. s.x ≡ box.low.x) spots
  pub rightmost : Any (λ s. s.x ≡ box.high.x) spots
  pub lowest : Any (λ s. s.y ≡ box.low.y) spots
  pub highest : Any (λ s. s.y ≡ box.high.y) spots

has : (spots : List Spot) (i : ℕ) → i < length spots → (f : Spot → ℤ) (m : ℤ) → f (corner spots i) ≡ m → Any (λ s. f s ≡ m) spots
has spots i within f m e = (i, corner spots i, within, get_or_default spots i (corner spots i) origin within, e)

pub first_box : (spots : List Spot) → 0 < length spots → IsBoxBefore spots 0 (record { low = corner spots 0; high = corner spots 0 })
first_box spots some = record {
  encloses = λ k below. absurd (omega arith);
  leftmost = has spots 0 some (λ s. s.x) (corner spots 0).x refl;
  rightmost = has spots 0 some (λ s. s.x) (corner spots 0).x refl;
  lowest = has spots 0 some (λ s. s.y) (corner spots 0).y refl;
  highest = has spots 0 some (λ s. s.y) (corner spots 0).y refl;
}

pub next_box : (spots : List Spot) (i : ℕ) (low high : Spot) → i < length spots → IsBoxBefore spots i (record { low = low; high = high })
    → IsBoxBefore spots (i + 1) (grown low high (corner spots i))
next_box spots i low high within b =
    let s = corner spots i in
    record {
      encloses = below_more (λ k. Encloses (grown low high s) (corner spots k)) i (λ k below. still_enclosed low high s (corner spots k) (b.encloses k below)) (now_enclosed low high s);
      leftmost = by (λ r. r.x) low.x (int_min low.x s.x) b.leftmost (min_of_two low.x s.x);
      rightmost = by (λ r. r.x) high.x (int_max high.x s.x) b.rightmost (max_of_two high.x s.x);
      lowest = by (λ r. r.y) low.y (int_min low.y s.y) b.lowest (min_of_two low.y s.y);
      highest = by (λ r. r.y) high.y (int_max high.y s.y) b.highest (max_of_two high.y s.y);
    }
  where
    by : (f : Spot → ℤ) (m n : ℤ) → Any (λ r. f r ≡ m) spots → (m ≡ n) ⊎ (f (corner spots i) ≡ n) → Any (λ r. f r ≡ n) spots
    by f m n before (inl e) = any_weaker (λ r. f r ≡ m) (λ r. f r ≡ n) (λ r same. same ∙ e) spots before
    by f m n before (inr e) = has spots i within f n e

pub whole_box : (spots : List Spot) (i : ℕ) (box : Frame) → length spots ≤ i → IsBoxBefore spots i box → IsBox spots box
whole_box spots i box all b = record {
  encloses = λ k d within. subst (Encloses box) (sym (get_or_default spots k d origin within)) (b.encloses k (omega arith));
  leftmost = b.leftmost;
  rightmost = b.rightmost;
  lowest = b.lowest;
  highest = b.highest;
}
