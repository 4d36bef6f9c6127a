-- The paths along one walk through slabs that are alike have the same positions, and so have rings.
use Rattle.std.proofs.Common.{◌≡◌, ℕ, zero, suc, ◌+◌, ◌-◌, Bool, true, false, List, [], ◌∷◌, ◌++◌, get_or, map, All, if◌then◌else◌, refl, ap₂, subst}
use Rattle.std.specs.List.{AllZip}
use Rattle.std.proofs.lemmas.Bool.Decides.{same_from_decides}
use Rattle.std.proofs.lemmas.List.Elements.{All-nil, All-cons, All-head, All-tail, All-append}
use Rattle.plan_spec.specs.Vector.{Vector, IsPoint, Same, same}
use Rattle.plan_spec.specs.Segment.{HasPoints}
use Rattle.plan_spec.specs.Slabs.{Slabs, mark_at}
use Rattle.plan_spec.specs.Regions.{Lot, cell, wall, spot_of, region_at}
use Rattle.plan_spec.specs.Neighbours.{on_left, on_right}
use Rattle.plan_spec.specs.Paths.{without_repeats, stops, path_along}
use Rattle.plan_spec.specs.Rings.{has_wall, side, part, closed_parts, left_parts, right_parts, kept, ring}
use Rattle.plan_plane.proofs.Lists.{zip_push, all_flat}
use Rattle.plan_plane.proofs.Segment.Same.{same_true, same_from, Same-swapped, Same-trans}
use Rattle.plan_ring.specs.Alike.{AlikePoints, AlikeSegment}
use Rattle.plan_ring.proofs.Alike.Slabs.{AlikeSlabs, mark_alike}
use Rattle.plan_ring.proofs.Alike.RegionsSame.{spot_alike, on_left_same, on_right_same}
use Rattle.plan_ring.proofs.Alike.SlabsLists.{zip_append, zip_flat, zip_map}

-- ---- repeats
same_alike : (p q u v : Vector) → IsPoint p → IsPoint q → IsPoint u → IsPoint v → Same p u → Same q v → same p q ≡ same u v
same_alike p q u v hp hq hu hv e f = same_from_decides (same p q) (same u v) (same_true p q, same_from p q) ((λ k. over u v p q hu hv (Same-swapped p u e) (Same-swapped q v f) (same_true u v k)), λ k. same_from u v (over p q u v hp hq e f k))
  where
    over : (p q u v : Vector) → IsPoint p → IsPoint q → Same p u → Same q v → Same p q → Same u v
    over p q u v hp hq e f k = Same-trans u p v hp (Same-swapped p u e) (Same-trans p q v hq k f)

pub left_alike : (p u : Vector) (qs vs : List Vector) → IsPoint p → IsPoint u → All IsPoint qs → All IsPoint vs → Same p u → AllZip Same qs vs → AllZip Same (without_repeats p qs) (without_repeats u vs)
left_alike p u [] [] hp hu hq hv e h = tt
left_alike p u [] (v ∷ vs) hp hu hq hv e h = absurd h
left_alike p u (q ∷ qs) [] hp hu hq hv e h = absurd h
left_alike p u (q ∷ qs) (v ∷ vs) hp hu hq hv e h =
    subst (λ t. AllZip Same (without_repeats p (q ∷ qs)) (if t then without_repeats u vs else v ∷ without_repeats v vs)) (same_alike p q u v hp pq hu pv e h.0)
    (by (same p q) (left_alike p u qs vs hp hu rq rv e h.1) (left_alike q v qs vs pq pv rq rv h.0 h.1))
  where
    pq : IsPoint q
    pq = All-head IsPoint q qs hq

    pv : IsPoint v
    pv = All-head IsPoint v vs hv

    rq : All IsPoint qs
    rq = All-tail IsPoint q qs hq

    rv : All IsPoint vs
    rv = All-tail IsPoint v vs hv

    by : (t : Bool) → AllZip Same (without_repeats p qs) (without_repeats u vs) → AllZip Same (without_repeats q qs) (without_repeats v vs) → AllZip Same (if t then without_repeats p qs else q ∷ without_repeats q qs) (if t then without_repeats u vs else v ∷ without_repeats v vs)
    by true drop stay = drop
    by false drop stay = (h.0, stay)

left_points : (p : Vector) (qs : List Vector) → All IsPoint qs → All IsPoint (without_repeats p qs)
left_points p [] h = All-nil IsPoint
left_points p (q ∷ qs) h = by (same p q) (left_points p qs (All-tail IsPoint q qs h)) (left_points q qs (All-tail IsPoint q qs h))
  where
    by : (t : Bool) → All IsPoint (without_repeats p qs) → All IsPoint (without_repeats q qs) → All IsPoint (if t then without_repeats p qs else q ∷ without_repeats q qs)
    by true drop stay = drop
    by false drop stay = All-cons IsPoint q (without_repeats q qs) (All-head IsPoint q qs h) stay

-- ---- the path along a walk
pub stops_points : (spot : ℕ → Vector) (walk : List ℕ) → All (λ n. IsPoint (spot n)) walk → All IsPoint (stops spot walk)
stops_points spot [] h = All-nil IsPoint
stops_points spot (n ∷ []) h = All-nil IsPoint
stops_points spot (m ∷ (n ∷ ns)) h = mapped (m ∷ (n ∷ ns)) h
  where
    mapped : (ns : List ℕ) → All (λ n. IsPoint (spot n)) ns → All IsPoint (map spot ns)
    mapped [] h = All-nil IsPoint
    mapped (n ∷ ns) h = All-cons IsPoint (spot n) (map spot ns) (All-head (λ n. IsPoint (spot n)) n ns h) (mapped ns (All-tail (λ n. IsPoint (spot n)) n ns h))

stops_alike : (spot other : ℕ → Vector) → ((n : ℕ) → Same (spot n) (other n)) → (walk : List ℕ) → AllZip Same (stops spot walk) (stops other walk)
stops_alike spot other h [] = tt
stops_alike spot other h (n ∷ []) = tt
stops_alike spot other h (m ∷ (n ∷ ns)) = zip_map Same spot other h (m ∷ (n ∷ ns))

with_goal : (qs : List Vector) (g : Vector) → All IsPoint qs → IsPoint g → All IsPoint (qs ++ g ∷ [])
with_goal qs g h hg = All-append IsPoint qs (g ∷ []) h (All-cons IsPoint g [] hg (All-nil IsPoint))

pub path_points : (σ : Slabs) (found : List Lot) (s g : Vector) (walk : List ℕ) → IsPoint s → IsPoint g → All (λ n. IsPoint (spot_of σ (region_at found n))) walk → All IsPoint (path_along σ found s g walk)
path_points σ found s g walk hs hg h =
    let spot : ℕ → Vector = λ n. spot_of σ (region_at found n) in
    All-cons IsPoint s (without_repeats s (stops spot walk ++ g ∷ [])) hs (left_points s (stops spot walk ++ g ∷ []) (with_goal (stops spot walk) g (stops_points spot walk h) hg))

module _ {σ τ : Slabs} (a : AlikeSlabs σ τ) (found : List Lot) where
  pub path_alike : (s g : Vector) (walk : List ℕ) → IsPoint s → IsPoint g → All (λ n. IsPoint (spot_of σ (region_at found n))) walk → All (λ n. IsPoint (spot_of τ (region_at found n))) walk → AlikePoints (path_along σ found s g walk) (path_along τ found s g walk)
  path_alike s g walk hs hg h k =
      let p : ℕ → Vector = λ n. spot_of σ (region_at found n) in
      let q : ℕ → Vector = λ n. spot_of τ (region_at found n) in (
        (refl, refl),
        left_alike s s (stops p walk ++ g ∷ []) (stops q walk ++ g ∷ []) hs hs (with_goal (stops p walk) g (stops_points p walk h) hg) (with_goal (stops q walk) g (stops_points q walk k) hg) (refl, refl)
            (zip_push Same (stops p walk) (stops q walk) g g (stops_alike p q (λ n. spot_alike a (region_at found n)) walk) (refl, refl)),
      )

  -- ---- rings
  side_alike : (k i : ℕ) → AlikeSegment (side σ k i) (side τ k i)
  side_alike k i =
      subst (λ j. AlikeSegment (side σ k i) (record { a = mark_at τ k j; b = mark_at τ (suc k) (on_right τ k i) })) (on_left_same a k i)
      (subst (λ j. AlikeSegment (side σ k i) (record { a = mark_at τ k (on_left σ k i); b = mark_at τ (suc k) j })) (on_right_same a k i) (mark_alike a k (on_left σ k i), mark_alike a (suc k) (on_right σ k i)))

  parts_alike : (k b n : ℕ) → AllZip AlikeSegment (closed_parts σ found k b n) (closed_parts τ found k b n)
  parts_alike k b zero = tt
  parts_alike k b (suc n) = zip_append AlikeSegment (closed_parts σ found k b n) (closed_parts τ found k b n) _ _ (parts_alike k b n) (by (has_wall found k (b + n)))
    where
      by : (t : Bool) → AllZip AlikeSegment (if t then [] else part σ k (b + n) ∷ []) (if t then [] else part τ k (b + n) ∷ [])
      by true = tt
      by false = ((mark_alike a k (b + n), mark_alike a k (suc (b + n))), tt)

  -- from marks with the same numbers
  parts_from : (k b c m n : ℕ) → b ≡ c → m ≡ n → AllZip AlikeSegment (closed_parts σ found k b m) (closed_parts τ found k c n)
  parts_from k b c m n e f = subst (λ c. AllZip AlikeSegment (closed_parts σ found k b m) (closed_parts τ found k c n)) e (subst (λ n. AllZip AlikeSegment (closed_parts σ found k b m) (closed_parts τ found k b n)) f (parts_alike k b m))

  left_alike_parts : (k i : ℕ) → AllZip AlikeSegment (left_parts σ found k i) (left_parts τ found k i)
  left_alike_parts k i = parts_from k (on_left σ k i) (on_left τ k i) _ _ (on_left_same a k i) (ap₂ (λ m n. m - n) (on_left_same a k (suc i)) (on_left_same a k i))

  right_alike_parts : (k i : ℕ) → AllZip AlikeSegment (right_parts σ found k i) (right_parts τ found k i)
  right_alike_parts k i = parts_from (suc k) (on_right σ k i) (on_right τ k i) _ _ (on_right_same a k i) (ap₂ (λ m n. m - n) (on_right_same a k (suc i)) (on_right_same a k i))

  kept_alike : (lot : Lot) → AllZip AlikeSegment (kept σ found lot) (kept τ found lot)
  kept_alike (wall k j) = tt
  kept_alike (cell k i) =
      (side_alike k i, zip_append AlikeSegment (right_parts σ found k i) (right_parts τ found k i) (side σ k (suc i) ∷ left_parts σ found k i) (side τ k (suc i) ∷ left_parts τ found k i) (right_alike_parts k i) (side_alike k (suc i), left_alike_parts k i))

  pub ring_alike : (ns : List ℕ) → AllZip AlikeSegment (ring σ found ns) (ring τ found ns)
  ring_alike ns = zip_flat AlikeSegment (λ n. kept σ found (region_at found n)) (λ n. kept τ found (region_at found n)) (λ n. kept_alike (region_at found n)) ns

-- ---- the ends of a ring are points, where marks are
module _ (σ : Slabs) (found : List Lot) (marks : (k j : ℕ) → IsPoint (mark_at σ k j)) where
  parts_points : (k b n : ℕ) → All HasPoints (closed_parts σ found k b n)
  parts_points k b zero = All-nil HasPoints
  parts_points k b (suc n) = All-append HasPoints (closed_parts σ found k b n) _ (parts_points k b n) (by (has_wall found k (b + n)))
    where
      by : (t : Bool) → All HasPoints (if t then [] else part σ k (b + n) ∷ [])
      by true = All-nil HasPoints
      by false = All-cons HasPoints (part σ k (b + n)) [] (marks k (b + n), marks k (suc (b + n))) (All-nil HasPoints)

  kept_points : (lot : Lot) → All HasPoints (kept σ found lot)
  kept_points (wall k j) = All-nil HasPoints
  kept_points (cell k i) =
      All-cons HasPoints (side σ k i) _ (side_points k i)
      (All-append HasPoints (right_parts σ found k i) (side σ k (suc i) ∷ left_parts σ found k i) (parts_points (suc k) (on_right σ k i) (on_right σ k (suc i) - on_right σ k i))
      (All-cons HasPoints (side σ k (suc i)) (left_parts σ found k i) (side_points k (suc i)) (parts_points k (on_left σ k i) (on_left σ k (suc i) - on_left σ k i))))
    where
      side_points : (k i : ℕ) → HasPoints (side σ k i)
      side_points k i = (marks k (on_left σ k i), marks (suc k) (on_right σ k i))

  pub ring_points : (ns : List ℕ) → All HasPoints (ring σ found ns)
  ring_points ns = all_flat HasPoints (λ n. kept σ found (region_at found n)) ns (λ k d within. kept_points (region_at found (get_or ns k d)))
