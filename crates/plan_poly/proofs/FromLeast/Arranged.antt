-- A simple list of spots, begun at its least one and turned the other way where it runs clockwise, is a polygon in the same cyclic order.
use Rattle.std.proofs.Common.{◌≡◌, inl, inr, suc, ◌-◌, ◌≤◌, pos, ◌<ℤ◌, List, [], ◌∷◌, ◌++◌, reverse, take, drop, length, All, refl, sym, ap, ap₂, subst, ◌∙◌, arith}
use Rattle.std.proofs.Math.Seq.{drop-append_seam, take-append_seam}
use Rattle.std.proofs.lemmas.Grind.{reverse_onto}
use Rattle.std.proofs.lemmas.List.{append-nil, reverse-append, length-reverse, length-append}
use Rattle.std.proofs.lemmas.List.Elements.{All-cons, All-append}
use Rattle.plan_spec.specs.Vector.{turn}
use Rattle.plan_spec.specs.Polygon.{IsFromLeast}
use Rattle.plan_spec.specs.SimplePolygon.{last}
use Rattle.plan_spec.specs.Triangulation.{from_least}
use Rattle.plan_grid.specs.declared.bounds.TheConstants.{MOST_CORNER}
use Rattle.plan_grid.specs.declared.spot.Spot.{Spot}
use Rattle.plan_grid.specs.Spot.{spot_seen, spots_seen, IsWithin}
use Rattle.plan_grid.proofs.Spots.{corner}
use Rattle.plan_plane.proofs.Backwards.{all_back, back_is}
use Rattle.plan_plane.proofs.Lists.{all_left, all_right}
use Rattle.plan_poly.specs.Polygon.{IsSimpleList, IsPolygon, IsRotation, IsRead}
use Rattle.plan_poly.proofs.EvenOdd.Orders.{reverse_seen, same_points}
use Rattle.plan_poly.proofs.FromLeast.Kept.{Left, as_it_is, the_other_way, from_least_is}
use Rattle.plan_poly.proofs.Loop.Loop.{Loop}
use Rattle.plan_poly.proofs.Loop.Simple.{simple_loop, loop_simple}
use Rattle.plan_poly.proofs.Spots.{count_seen, points_seen}

-- ---- the other way round, from the same first spot
abbrev pub flip : List Spot → List Spot
flip [] = []
flip (v ∷ vs) = v ∷ reverse vs

reverse_is : (v : Spot) (vs : List Spot) → reverse (v ∷ vs) ≡ reverse vs ++ v ∷ []
reverse_is v vs = reverse_onto vs v []

pub flipped : (s : List Spot) → drop (length (reverse s) - 1) (reverse s) ++ take (length (reverse s) - 1) (reverse s) ≡ flip s
flipped [] = refl
flipped (v ∷ vs) =
    let n : length (reverse (v ∷ vs)) - 1 ≡ length (reverse vs) = omega (arith, length-reverse (v ∷ vs), length-reverse vs) in
    (λ i. drop (n i) (reverse_is v vs i) ++ take (n i) (reverse_is v vs i)) ∙ ap₂ (λ xs ys. xs ++ ys) (drop-append_seam (reverse vs) (v ∷ [])) (take-append_seam (reverse vs) (v ∷ []))

-- ---- rotations
pub all_rotated : (P : Spot → Type 0) (xs ys : List Spot) → IsRotation xs ys → All P xs → All P ys
all_rotated P xs ys (pre, post, e, f) h =
    let k = subst (All P) e h in
    subst (All P) (sym f) (All-append P post pre (all_right P pre post k) (all_left P pre post k))

pub length_rotated : (xs ys : List Spot) → IsRotation xs ys → length ys ≡ length xs
length_rotated xs ys (pre, post, e, f) = omega (arith, ap length e, ap length f, length-append pre post, length-append post pre)

flip_rotation : (pre post : List Spot) → IsRotation (reverse (pre ++ post)) (flip (post ++ pre))
flip_rotation [] [] = ([], [], refl, refl)
flip_rotation (v ∷ vs) [] = (reverse vs, v ∷ [], ap reverse (append-nil (v ∷ vs)) ∙ reverse_is v vs, refl)
flip_rotation pre (p ∷ post) = (reverse post, p ∷ reverse pre, reverse-append pre (p ∷ post) ∙ ap (λ zs. zs ++ reverse pre) (reverse_is p post) ∙ moved (reverse post), ap (λ zs. p ∷ zs) (reverse-append post pre))
  where
    moved : (xs : List Spot) → (xs ++ p ∷ []) ++ reverse pre ≡ xs ++ p ∷ reverse pre
    moved [] = refl
    moved (x ∷ xs) = ap (λ zs. x ∷ zs) (moved xs)

pub rotation_flipped : (given s : List Spot) → IsRotation given s → IsRotation (reverse given) (flip s)
rotation_flipped given s (pre, post, e, f) = subst (λ g. IsRotation (reverse g) (flip s)) (sym e) (subst (λ t. IsRotation (reverse (pre ++ post)) (flip t)) (sym f) (flip_rotation pre post))

all_flipped : (P : Spot → Type 0) (s : List Spot) → All P s → All P (flip s)
all_flipped P [] h = h
all_flipped P (v ∷ vs) h = All-cons P v (reverse vs) (h 0 v (omega arith)) (subst (All P) (back_is vs) (all_back P vs (λ k d within. h (suc k) d (omega (arith, within)))))

length_flip : (s : List Spot) → length (flip s) ≡ length s
length_flip [] = refl
length_flip (v ∷ vs) = ap suc (length-reverse vs)

flip_seen : (v : Spot) (vs : List Spot) → spots_seen (flip (v ∷ vs)) ≡ spot_seen v ∷ reverse (spots_seen vs)
flip_seen v vs = ap (λ zs. spot_seen v ∷ zs) (reverse_seen vs)

-- ---- the turn at the first spot
last_seen : (c : Spot) (rest : List Spot) → spot_seen (corner (c ∷ rest) (length rest)) ≡ last (spot_seen c) (spots_seen rest)
last_seen c [] = refl
last_seen c (d ∷ rest) = last_seen d rest

abbrev pub turn_at_first : List Spot → Type 0
turn_at_first s = turn (spot_seen (corner s (length s - 1))) (spot_seen (corner s 0)) (spot_seen (corner s 1)) <ℤ pos 0

turn_seen : (a b c : Spot) (rest : List Spot) → turn (spot_seen (corner (a ∷ b ∷ c ∷ rest) (length (a ∷ b ∷ c ∷ rest) - 1))) (spot_seen a) (spot_seen b) ≡ turn (last (spot_seen c) (spots_seen rest)) (spot_seen a) (spot_seen b)
turn_seen a b c rest =
    let n : length (a ∷ b ∷ c ∷ rest) - 1 ≡ suc (suc (length rest)) = omega arith in
    (λ i. turn (spot_seen (corner (a ∷ b ∷ c ∷ rest) (n i))) (spot_seen a) (spot_seen b)) ∙ ap (λ u. turn u (spot_seen a) (spot_seen b)) (last_seen c rest)

-- ---- as a loop
pub loop_of : {given : List Spot} → IsSimpleList given → Loop (spots_seen given)
loop_of {given} h = simple_loop (spots_seen given) (omega (arith, h.at_least_three, count_seen given)) (points_seen given) h.simple

begun : (given s : List Spot) → IsSimpleList given → spots_seen s ≡ from_least (spots_seen given) → Loop (spots_seen s) × IsFromLeast (spots_seen s)
begun given s h e =
    let k = from_least_is (spots_seen given) (loop_of h) (omega (arith, h.at_least_three, count_seen given)) in
    (subst Loop (sym e) k.0, subst IsFromLeast (sym e) k.1)

polygon_of : (s : List Spot) → 3 ≤ length s → length s ≤ 32 → All (IsWithin MOST_CORNER) s → Left (spots_seen s) → IsPolygon s
polygon_of s three most bounded l = record {
  simple_list = record { at_least_three = three; at_most_32 = most; bounded = bounded; simple = loop_simple (spots_seen s) (omega (arith, three, count_seen s)) l.loop };
  least = l.least;
  left = l.turns;
}

left_as_is : (s : List Spot) → 3 ≤ length s → Loop (spots_seen s) → IsFromLeast (spots_seen s) → ¬ (turn_at_first s) → Left (spots_seen s)
left_as_is [] three l f n = absurd (omega (arith, three))
left_as_is (a ∷ []) three l f n = absurd (omega (arith, three))
left_as_is (a ∷ b ∷ []) three l f n = absurd (omega (arith, three))
left_as_is (a ∷ b ∷ c ∷ rest) three l f n = as_it_is (spot_seen a) (spot_seen b) (spot_seen c) (spots_seen rest) l f (λ h. n (subst (λ t. t <ℤ pos 0) (sym (turn_seen a b c rest)) h))

left_other_way : (s : List Spot) → 3 ≤ length s → Loop (spots_seen s) → IsFromLeast (spots_seen s) → turn_at_first s → Left (spots_seen (flip s))
left_other_way [] three l f h = absurd (omega (arith, three))
left_other_way (a ∷ []) three l f h = absurd (omega (arith, three))
left_other_way (a ∷ b ∷ []) three l f h = absurd (omega (arith, three))
left_other_way (a ∷ b ∷ c ∷ rest) three l f h =
    subst Left (sym (flip_seen a (b ∷ c ∷ rest))) (the_other_way (spot_seen a) (spot_seen b) (spot_seen c) (spots_seen rest) l f (subst (λ t. t <ℤ pos 0) (turn_seen a b c rest) h))

-- ---- read
pub read_as_is : (given s : List Spot) → IsSimpleList given → spots_seen s ≡ from_least (spots_seen given) → IsRotation given s → ¬ (turn_at_first s) → IsRead given s
read_as_is given s h e r n =
    let size = length_rotated given s r in
    let three : 3 ≤ length s = omega (arith, size, h.at_least_three) in
    let k = begun given s h e in
    record {
      given_simple = h;
      polygon = polygon_of s three (omega (arith, size, h.at_most_32)) (all_rotated (IsWithin MOST_CORNER) given s r h.bounded) (left_as_is s three k.0 k.1 n);
      order = inl r;
      same_points = same_points given s (inl r);
    }

pub read_other_way : (given s : List Spot) → IsSimpleList given → spots_seen s ≡ from_least (spots_seen given) → IsRotation given s → turn_at_first s → IsRead given (flip s)
read_other_way given s h e r right =
    let size = length_rotated given s r in
    let three : 3 ≤ length s = omega (arith, size, h.at_least_three) in
    let k = begun given s h e in
    record {
      given_simple = h;
      polygon = polygon_of (flip s) (omega (arith, three, length_flip s)) (omega (arith, size, h.at_most_32, length_flip s)) (all_flipped (IsWithin MOST_CORNER) s (all_rotated (IsWithin MOST_CORNER) given s r h.bounded)) (left_other_way s three k.0 k.1 right);
      order = inr (rotation_flipped given s r);
      same_points = same_points given (flip s) (inr (rotation_flipped given s r));
    }
