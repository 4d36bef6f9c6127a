-- The first cut of a list of spots that begins with its least one: an ear and what it leaves, or two parts.
use Rattle.std.proofs.Common.{◌≡◌, ℕ, suc, ◌+◌, ◌-◌, ◌<◌, ◌≤◌, List, [], ◌∷◌, ◌++◌, append_assoc, Some, None, take, drop, length, get_or, add-one, refl, sym, ap, ap₂, ◌∙◌, arith}
use Rattle.std.specs.Prelude.{slice_range}
use Rattle.std.proofs.Math.Seq.{drop-cons}
use Rattle.std.proofs.lemmas.List.{get_or_default, take_more, take_all, take-append-le, drop-append-le, map-append, take-map, drop-map, length-map}
use Rattle.plan_spec.specs.Vector.{Vector}
use Rattle.plan_spec.specs.Triangulation as spec
use Rattle.plan_spec.specs.Triangulation.{part_at_best, in_triangle, farther, ear_or_cut, from_corner}
use Rattle.plan_grid.specs.declared.spot.Spot.{Spot}
use Rattle.plan_grid.specs.Spot.{spot_seen, spots_seen}
use Rattle.plan_grid.proofs.Spots.{origin, corner}
use Rattle.plan_plane.proofs.Polygon.Corner.{polygon}
use Rattle.plan_poly.specs.Part.{part_at}
use Rattle.plan_poly.proofs.FromLeast.Search.{beyond}
use Rattle.plan_tri.proofs.Region.Steps.{corner_is}

-- ---- the spots of the corner, and those between
last_apart : (xs : List Spot) (m : ℕ) → suc m ≡ length xs → xs ≡ take m xs ++ corner xs m ∷ []
last_apart xs m e = sym (take_all (m + 1) xs (omega (arith, e))) ∙ take_more xs m origin (omega (arith, e))

pub listed : (s : List Spot) → 3 ≤ length s → spots_seen s ≡ polygon (spot_seen (corner s 0)) (spot_seen (corner s 1)) (spots_seen (slice_range s 2 (length s - 1))) (spot_seen (corner s (length s - 1)))
listed [] three = absurd (omega (arith, three))
listed (a ∷ []) three = absurd (omega (arith, three))
listed (a ∷ b ∷ []) three = absurd (omega (arith, three))
listed (a ∷ b ∷ c ∷ rest) three =
    let m = length rest in
    let n : suc (suc m) ≡ length (a ∷ b ∷ c ∷ rest) - 1 = omega arith in
    let between : m ≡ length (a ∷ b ∷ c ∷ rest) - 1 - 2 = omega arith in
    ap (λ zs. spot_seen a ∷ (spot_seen b ∷ zs)) (ap spots_seen (last_apart (c ∷ rest) m refl) ∙ map-append spot_seen (take m (c ∷ rest)) (corner (c ∷ rest) m ∷ []))
    ∙ (λ i. polygon (spot_seen a) (spot_seen b) (spots_seen (take (between i) (c ∷ rest))) (spot_seen (corner (a ∷ b ∷ c ∷ rest) (n i))))

-- the same with the spots as the code takes them
pub corner_of : (s : List Spot) (n : ℕ) (v w u : Spot) (mid : List Spot) → 3 ≤ length s → length s ≡ n → v ≡ get_or s 0 v → w ≡ get_or s 1 w → u ≡ get_or s (n - 1) u → mid ≡ slice_range s 2 (n - 1)
    → spots_seen s ≡ polygon (spot_seen v) (spot_seen w) (spots_seen mid) (spot_seen u)
corner_of s n v w u mid three size ev ew eu em =
    listed s three
    ∙ (λ i. polygon (spot_seen (at 0 v ev (omega (arith, three)) i)) (spot_seen (at 1 w ew (omega (arith, three)) i)) (spots_seen (slice_range s 2 (size i - 1))) (spot_seen (corner s (size i - 1))))
    ∙ (λ i. polygon (spot_seen v) (spot_seen w) (spots_seen (sym em i)) (spot_seen (at (n - 1) u eu (omega (arith, three, size)) i)))
  where
    at : (k : ℕ) (x : Spot) → x ≡ get_or s k x → k < length s → corner s k ≡ x
    at k x e within = get_or_default s k origin x within ∙ sym e

-- ---- the two parts of a cut at place k of those between
take_part : (v w : Vector) (mid : List Vector) (u : Vector) (k : ℕ) → k < length mid → take (k + 3) (polygon v w mid u) ≡ v ∷ (w ∷ (take k mid ++ get_or mid k beyond ∷ []))
take_part v w mid u k within =
    let n : k + 3 ≡ suc (suc (suc k)) = omega arith in
    ap (λ (n : ℕ). take n (polygon v w mid u)) n
    ∙ ap (λ zs. v ∷ (w ∷ zs)) (take-append-le (suc k) mid (u ∷ []) (omega (arith, within)) ∙ ap (λ (n : ℕ). take n mid) (sym (add-one k)) ∙ take_more mid k beyond within)

drop_part : (v w : Vector) (mid : List Vector) (u : Vector) (k : ℕ) → k < length mid → drop (k + 2) (polygon v w mid u) ++ v ∷ [] ≡ get_or mid k beyond ∷ (drop (suc k) mid ++ u ∷ v ∷ [])
drop_part v w mid u k within =
    let n : k + 2 ≡ suc (suc k) = omega arith in
    ap (λ (n : ℕ). drop n (polygon v w mid u) ++ v ∷ []) n
    ∙ ap (λ zs. zs ++ v ∷ []) (drop-append-le k mid (u ∷ []) (omega (arith, within)) ∙ ap (λ zs. zs ++ u ∷ []) (drop-cons mid k beyond within))
    ∙ ap (λ zs. get_or mid k beyond ∷ zs) (append_assoc (drop (suc k) mid) (u ∷ []) (v ∷ []))

-- ---- of spots
pub ear_is : (s : List Spot) (v w u : Spot) (mid : List Spot) → spots_seen s ≡ polygon (spot_seen v) (spot_seen w) (spots_seen mid) (spot_seen u)
    → part_at_best (in_triangle (spot_seen v) (spot_seen w) (spot_seen u)) (farther (spot_seen w) (spot_seen u)) (spots_seen mid) ≡ None
    → (f : List Vector → List spec.Triangle) → from_corner f (spots_seen s) ≡ record { a = spot_seen v; b = spot_seen w; c = spot_seen u } ∷ f (spots_seen (drop 1 s))
ear_is s v w u mid list none f =
    ap (from_corner f) list
    ∙ corner_is f (spot_seen v) (spot_seen w) (spots_seen mid) (spot_seen u)
    ∙ ap (ear_or_cut f (spot_seen v) (spot_seen w) (spots_seen mid) (spot_seen u)) none
    ∙ ap (λ zs. record { a = spot_seen v; b = spot_seen w; c = spot_seen u } ∷ f zs) (sym (ap (drop 1) list) ∙ drop-map spot_seen 1 s)

pub parts_are : (s : List Spot) (v w u : Spot) (mid : List Spot) (k : ℕ) → spots_seen s ≡ polygon (spot_seen v) (spot_seen w) (spots_seen mid) (spot_seen u) → k < length mid
    → part_at_best (in_triangle (spot_seen v) (spot_seen w) (spot_seen u)) (farther (spot_seen w) (spot_seen u)) (spots_seen mid) ≡ Some (part_at (spots_seen mid) k)
    → (f : List Vector → List spec.Triangle) → from_corner f (spots_seen s) ≡ f (spots_seen (take (k + 3) s)) ++ f (spots_seen (drop (k + 2) s ++ v ∷ []))
parts_are s v w u mid k list within found f =
    ap (from_corner f) list
    ∙ corner_is f (spot_seen v) (spot_seen w) (spots_seen mid) (spot_seen u)
    ∙ ap (ear_or_cut f (spot_seen v) (spot_seen w) (spots_seen mid) (spot_seen u)) found
    ∙ ap₂ (λ xs ys. f xs ++ f ys) (sym first) (sym second)
  where
    below : k < length (spots_seen mid)
    below = omega (arith, within, length-map mid spot_seen)

    first : spots_seen (take (k + 3) s) ≡ spot_seen v ∷ (spot_seen w ∷ (take k (spots_seen mid) ++ get_or (spots_seen mid) k beyond ∷ []))
    first = sym (take-map spot_seen (k + 3) s) ∙ ap (take (k + 3)) list ∙ take_part (spot_seen v) (spot_seen w) (spots_seen mid) (spot_seen u) k below

    second : spots_seen (drop (k + 2) s ++ v ∷ []) ≡ get_or (spots_seen mid) k beyond ∷ (drop (suc k) (spots_seen mid) ++ spot_seen u ∷ spot_seen v ∷ [])
    second = map-append spot_seen (drop (k + 2) s) (v ∷ []) ∙ ap (λ zs. zs ++ spot_seen v ∷ []) (sym (drop-map spot_seen (k + 2) s) ∙ ap (drop (k + 2)) list) ∙ drop_part (spot_seen v) (spot_seen w) (spots_seen mid) (spot_seen u) k below
