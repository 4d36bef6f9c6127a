-- A free wall has a free cell on each side: a little to the right of a clear point of the wall points are clear, and the region that holds one is the cell in whose left side the wall lies; on the left likewise.
use Rattle.std.proofs.Common.{◌≡◌, ◌⊎◌, inl, inr, ℕ, zero, suc, ◌<◌, ◌≤◌, pos, negsuc, ◌≤ℤ◌, ◌<ℤ◌, List, length, refl, sym, subst, arith}
use Rattle.std.proofs.lemmas.Bool.{cases_lt, cases_eq}
use Rattle.plan_exact.specs.Sign.{Sign, is_negative, is_zero, is_positive}
use Rattle.plan_exact.specs.Vectors.{cross}
use Rattle.plan_exact.proofs.Laws.{linear}
use Rattle.plan_exact.proofs.Signs.{sign_of, le_of_lt}
use Rattle.plan_spec.specs.Vector.{Vector, IsPoint, LeX, LtX, turn}
use Rattle.plan_spec.specs.Segment.{Segment}
use Rattle.plan_spec.specs.Frame.{Frame}
use Rattle.plan_spec.specs.Boundary.{IsClearOf}
use Rattle.plan_spec.specs.Slabs.{Slabs, line_at, spans_of, span_at, marks_of, mark_at}
use Rattle.plan_spec.specs.Regions.{Lot, cell, wall, InCell, InWall, Holds, spot_of, region_at}
use Rattle.plan_plane.proofs.Near.{Near, near_pos, near_both, near_weaker, near_always, near_point, near_at}
use Rattle.plan_plane.proofs.Rising.ByCoordinate.{order_x}
use Rattle.plan_plane.proofs.Segment.ByX.{leX_trans}
use Rattle.plan_slab.specs.Decomposition.{IsDecomposition}
use Rattle.plan_ring.proofs.NearOrder.{near_neg, near_right, near_left, clear_near}
use Rattle.plan_map.proofs.Path.Places.{IsLineOf, meets_at, lines_le, above_from, below_from}

-- a cell of slab k in whose side on line h wall j lies, by its number
pub record SideCell (σ : Slabs) (found : List Lot) (k h j : ℕ) : Type 0 where
  pub at : ℕ
  pub number : ℕ
  pub is_region : number < length found
  pub is_cell : region_at found number ≡ cell k at
  pub from_below : meets_at σ k h at ≤ j
  pub to_above : j < meets_at σ k h (suc at)

-- each free wall has such a cell on each side
pub record AreWalled (σ : Slabs) (found : List Lot) : Type 0 where
  pub on_right_of : (n h j : ℕ) → n < length found → region_at found n ≡ wall h j → SideCell σ found h h j
  pub on_left_of : (n h j : ℕ) → n < length found → region_at found n ≡ wall h j → (k : ℕ) × (h ≡ suc k) × SideCell σ found k h j

-- ---- near z, points are on the side of a line on which z is
record KeepsSide (z p : Vector) (s : Segment) : Type 0 where
  below : turn s.a s.b z <ℤ pos 0 → turn s.a s.b p <ℤ pos 0
  above : pos 0 <ℤ turn s.a s.b z → pos 0 <ℤ turn s.a s.b p

side_near : (s : Segment) (z d : Vector) → Near z d (λ p. KeepsSide z p s)
side_near s z d = by (sign_of (turn s.a s.b z))
  where
    by : Sign (turn s.a s.b z) → Near z d (λ p. KeepsSide z p s)
    by (is_positive h) = near_weaker (λ p. pos 0 <ℤ turn s.a s.b p) (λ p. KeepsSide z p s) (λ p f. record { below = λ b. absurd (omega (arith, linear)); above = λ a. f }) (near_pos z d (cross s.a s.b) (inl h))
    by (is_negative h) = near_weaker (λ p. turn s.a s.b p <ℤ pos 0) (λ p. KeepsSide z p s) (λ p f. record { below = λ b. f; above = λ a. absurd (omega (arith, linear)) }) (near_neg z d (cross s.a s.b) (inl h))
    by (is_zero h) = near_always (λ p. KeepsSide z p s) (λ p. record { below = λ b. absurd (omega (arith, linear)); above = λ a. absurd (omega (arith, linear)) })

near_below : {z d : Vector} (P : ℕ → Vector → Type 0) (n : ℕ) → ((i : ℕ) → i < n → Near z d (P i)) → Near z d (λ p. (i : ℕ) → i < n → P i p)
near_below P zero h = near_always (λ p. (i : ℕ) → i < zero → P i p) (λ p i l. absurd (omega arith))
near_below P (suc n) h =
    near_weaker (λ p. ((i : ℕ) → i < n → P i p) × P n p) (λ p. (i : ℕ) → i < suc n → P i p) (λ p f i l. elim (cases_eq i n) [
      | inl e ↦ subst (λ i. P i p) (sym e) f.1
      | inr o ↦ f.0 i (omega arith)
    ]) (near_both (λ p. (i : ℕ) → i < n → P i p) (P n) (near_below P n (λ i l. h i (omega arith))) (h n (omega arith)))

-- one step to the right, and to the left
abbrev eastward : Vector
eastward = record { x = pos 1; y = pos 0; w = pos 0 }

abbrev westward : Vector
westward = record { x = negsuc 0; y = pos 0; w = pos 0 }

-- the lines of the lot and its spans or marks are there
abbrev pub Fits : Slabs → Lot → Type 0
Fits σ (cell k i) = (suc k < length σ.lines) × (suc i < length (spans_of σ k))
Fits σ (wall h j) = (h < length σ.lines) × (suc j < length (marks_of σ h))

module _ {sums : List (List Vector)} {room : Frame} {σ : Slabs} {found : List Lot} (d : IsDecomposition sums room σ found) where
  pub fits : (n : ℕ) → n < length found → Fits σ (region_at found n)
  fits n hn = by (region_at found n) refl
    where
      by : (x : Lot) → region_at found n ≡ x → Fits σ x
      by (cell k i) e = d.once.cells n k i hn e
      by (wall h j) e = d.once.walls n h j hn e

  -- ---- the region that holds a point, by the lines beside the point
  abbrev IsHeld : Vector → Type 0
  IsHeld p = (n : ℕ) × (n < length found) × Holds σ (region_at found n) p

  -- from which line on the lot is, and up to which
  abbrev first_line : Lot → ℕ
  first_line (cell k i) = k
  first_line (wall h j) = h

  abbrev last_line : Lot → ℕ
  last_line (cell k i) = suc k
  last_line (wall h j) = h

  region_from : (n : ℕ) (p : Vector) → n < length found → IsPoint p → Holds σ (region_at found n) p → LeX (line_at σ (first_line (region_at found n))) p × (LeX p (line_at σ (last_line (region_at found n))) × (last_line (region_at found n) < length σ.lines))
  region_from n p hn hp = by (region_at found n) (fits n hn)
    where
      by : (x : Lot) → Fits σ x → Holds σ x p → LeX (line_at σ (first_line x)) p × (LeX p (line_at σ (last_line x)) × (last_line x < length σ.lines))
      by (cell k i) is inside = (le_of_lt inside.after, (le_of_lt inside.before, is.0))
      by (wall h j) is inside = let e = inside.at in (omega (arith, linear), (omega (arith, linear), is.0))

  held_by : (p : Vector) → IsPoint p → IsClearOf sums room p → IsHeld p
  held_by p hp clear = let (n, is) = d.covers p hp clear in (n, is.is_region, is.holds)

  -- right of line k no region is that ends on a line up to it; left of it none that begins on it or later
  after_line : (k : ℕ) (p : Vector) → k < length σ.lines → IsPoint p → LtX (line_at σ k) p → (held : IsHeld p) → k < last_line (region_at found held.0)
  after_line k p hk hp right held = elim (cases_lt k (last_line (region_at found held.0))) [
    | inl h ↦ h
    | inr h ↦
        let r = (region_from held.0 p held.1 hp held.2).1 in
        absurd (omega (arith, linear, leX_trans p (line_at σ (last_line (region_at found held.0))) (line_at σ k) hp (d.placed.line_points (last_line (region_at found held.0)) r.1) (d.placed.line_points k hk) r.0 (lines_le d.placed (last_line (region_at found held.0)) k h hk)))
  ]

  before_line : (k : ℕ) (p : Vector) → k < length σ.lines → IsPoint p → LtX p (line_at σ k) → (held : IsHeld p) → first_line (region_at found held.0) < k
  before_line k p hk hp left held = elim (cases_lt (first_line (region_at found held.0)) k) [
    | inl h ↦ h
    | inr h ↦
        let r = region_from held.0 p held.1 hp held.2 in
        let hf = first_within (region_at found held.0) r.1.1 in
        absurd (omega (arith, linear, leX_trans (line_at σ k) (line_at σ (first_line (region_at found held.0))) p (d.placed.line_points k hk) (d.placed.line_points (first_line (region_at found held.0)) hf) hp (lines_le d.placed k (first_line (region_at found held.0)) h hf) r.0))
  ]
    where
      first_within : (x : Lot) → last_line x < length σ.lines → first_line x < length σ.lines
      first_within (cell k i) h = omega arith
      first_within (wall k j) h = h

  -- strictly between two lines it is a cell of their slab
  record Found (k : ℕ) (p : Vector) : Type 0 where
    at : ℕ
    number : ℕ
    is_region : number < length found
    is_cell : region_at found number ≡ cell k at
    is_slab : (suc k < length σ.lines) × (suc at < length (spans_of σ k))
    holds : InCell (line_at σ k) (line_at σ (suc k)) (span_at σ k at) (span_at σ k (suc at)) p

  found_in_slab : (k : ℕ) (p : Vector) → suc k < length σ.lines → IsPoint p → LtX (line_at σ k) p → LtX p (line_at σ (suc k)) → IsHeld p → Found k p
  found_in_slab k p hk hp right left held = by (region_at found held.0) refl (after_line k p (omega (arith, hk)) hp right held) (before_line (suc k) p hk hp left held) (fits held.0 held.1) held.2
    where
      by : (x : Lot) → region_at found held.0 ≡ x → k < last_line x → first_line x < suc k → Fits σ x → Holds σ x p → Found k p
      by (wall h j) e after before is inside = absurd (omega arith)
      by (cell m i) e after before is inside = at m (omega arith) e is inside
        where
          at : (m : ℕ) → m ≡ k → region_at found held.0 ≡ cell m i → Fits σ (cell m i) → Holds σ (cell m i) p → Found k p
          at m same = subst (λ m. region_at found held.0 ≡ cell m i → Fits σ (cell m i) → Holds σ (cell m i) p → Found k p) (sym same) (λ e is inside. record { at = i; number = held.0; is_region = held.1; is_cell = e; is_slab = is; holds = inside })

  -- ---- from a point z of wall j of line h, in whose direction v slab k is
  side_cell : (k h j : ℕ) (z v : Vector) → suc k < length σ.lines → IsLineOf k h → suc j < length (marks_of σ h) → IsPoint z → InWall (line_at σ h) (mark_at σ h j) (mark_at σ h (suc j)) z → IsClearOf sums room z → pos 0 ≤ℤ v.w
      → Near z v (LtX (line_at σ k)) → Near z v (λ p. LtX p (line_at σ (suc k))) → SideCell σ found k h j
  side_cell k h j z v hk b hj hz inside clear hv right left =
      let f = near_at (near_both _ _ (near_both _ _ (near_point hz hv) (clear_near sums room z v clear)) (near_both _ _ (near_both _ _ right left) (near_below (λ i p. KeepsSide z p (span_at σ k i)) (length (spans_of σ k)) (λ i less. side_near (span_at σ k i) z v)))) in
      on (found_in_slab k _ hk f.0.0 f.1.0.0 f.1.0.1 (held_by _ f.0.0 f.0.1)) f.1.1
    where
      on : {p : Vector} → Found k p → ((i : ℕ) → i < length (spans_of σ k) → KeepsSide z p (span_at σ k i)) → SideCell σ found k h j
      on f keeps =
          let hk = f.is_slab.0 in
          let h1 = f.is_slab.1 in
          let h0 : f.at < length (spans_of σ k) = omega (arith, h1) in
          record {
            at = f.at;
            number = f.number;
            is_region = f.is_region;
            is_cell = f.is_cell;
            from_below = elim (cases_lt j (meets_at σ k h f.at)) [
              | inr l ↦ l
              | inl l ↦ absurd (omega (arith, linear, f.holds.above, (keeps f.at h0).below (below_from d.placed k h f.at hk b h0 z hz inside.at j hj inside.below l)))
            ];
            to_above = elim (cases_lt j (meets_at σ k h (suc f.at))) [
              | inl l ↦ l
              | inr l ↦ absurd (omega (arith, linear, f.holds.below, (keeps (suc f.at) h1).above (above_from d.placed k h (suc f.at) hk b h1 z hz inside.at j hj inside.above l)))
            ];
          }

  -- ---- the law
  record FreeWall (h j : ℕ) : Type 0 where
    is_line : h < length σ.lines
    is_wall : suc j < length (marks_of σ h)
    point : Vector
    is_point : IsPoint point
    holds : InWall (line_at σ h) (mark_at σ h j) (mark_at σ h (suc j)) point
    clear : IsClearOf sums room point

  free_wall : (n h j : ℕ) → n < length found → region_at found n ≡ wall h j → FreeWall h j
  free_wall n h j hn e =
      let is : Fits σ (wall h j) = subst (Fits σ) e (fits n hn) in
      let (hz, inside) = d.spots n hn in
      let z = spot_of σ (region_at found n) in
      record { is_line = is.0; is_wall = is.1; point = z; is_point = hz; holds = subst (λ x. Holds σ x z) e inside; clear = d.clear n z hn hz inside }

  east : (h : ℕ) → h < length σ.lines → LtX (line_at σ h) eastward
  east h hh = let p = d.placed.line_points h hh in omega (arith, linear)

  west : (h : ℕ) → h < length σ.lines → LtX westward (line_at σ h)
  west h hh = let p = d.placed.line_points h hh in omega (arith, linear)

  right_cell : (h j : ℕ) → FreeWall h j → SideCell σ found h h j
  right_cell h j f = by (cases_lt (suc h) (length σ.lines))
    where
      z : Vector
      z = f.point

      right : Near z eastward (LtX (line_at σ h))
      right = let e = f.holds.at in near_right (line_at σ h) z eastward (inr (omega (arith, linear), east h f.is_line))

      by : (suc h < length σ.lines) ⊎ (length σ.lines ≤ suc h) → SideCell σ found h h j
      by (inl hs) =
          let zl : LtX z (line_at σ (suc h)) = order_x.equal_less z (line_at σ h) (line_at σ (suc h)) f.is_point (d.placed.line_points h f.is_line) (d.placed.line_points (suc h) hs) f.holds.at (d.placed.lines_rise h (suc h) (omega arith) hs) in
          side_cell h h j z eastward hs (inl refl) f.is_wall f.is_point f.holds f.clear (omega (arith, linear)) right (near_left (line_at σ (suc h)) z eastward (inl zl))
      by (inr last) =
          let g = near_at (near_both _ _ (near_both _ _ (near_point f.is_point (omega (arith, linear))) (clear_near sums room z eastward f.clear)) right) in
          let held = held_by _ g.0.0 g.0.1 in
          let l = after_line h _ f.is_line g.0.0 g.1 held in
          let m = (region_from held.0 _ held.1 g.0.0 held.2).1.1 in
          absurd (omega arith)

  left_cell : (h j : ℕ) → FreeWall h j → (k : ℕ) × (h ≡ suc k) × SideCell σ found k h j
  left_cell h j f = by h refl
    where
      z : Vector
      z = f.point

      left : Near z westward (λ p. LtX p (line_at σ h))
      left = let e = f.holds.at in near_left (line_at σ h) z westward (inr (omega (arith, linear), west h f.is_line))

      by : (x : ℕ) → h ≡ x → (k : ℕ) × (h ≡ suc k) × SideCell σ found k h j
      by zero e =
          let g = near_at (near_both _ _ (near_both _ _ (near_point f.is_point (omega (arith, linear))) (clear_near sums room z westward f.clear)) left) in
          let l = before_line h _ f.is_line g.0.0 g.1 (held_by _ g.0.0 g.0.1) in
          absurd (omega arith)
      by (suc k) e =
          let hk : k < length σ.lines = omega (arith, f.is_line) in
          let hs : suc k < length σ.lines = omega (arith, f.is_line) in
          let lz : LtX (line_at σ k) z = order_x.less_equal (line_at σ k) (line_at σ h) z (d.placed.line_points k hk) (d.placed.line_points h f.is_line) f.is_point (d.placed.lines_rise k h (omega arith) f.is_line) (sym f.holds.at) in
          (k, e, side_cell k h j z westward hs (inr e) f.is_wall f.is_point f.holds f.clear (omega (arith, linear)) (near_right (line_at σ k) z westward (inl lz)) (subst (λ x. Near z westward (λ p. LtX p (line_at σ x))) e left))

  pub walled : AreWalled σ found
  walled = record { on_right_of = λ n h j hn e. right_cell h j (free_wall n h j hn e); on_left_of = λ n h j hn e. left_cell h j (free_wall n h j hn e) }
