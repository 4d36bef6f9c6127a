-- What an ear leaves is a loop, and beside the ear it is even.
use Rattle.std.proofs.Common.{List, [], ◌∷◌, All, inl, inr, subst, sym, pos, ◌≤ℤ◌, ◌<ℤ◌, ◌≡◌, false}
use Rattle.std.proofs.lemmas.List.Elements.{All-append, All-nil, All-cons}
use Rattle.plan_exact.specs.Vectors.{cross}
use Rattle.plan_exact.proofs.Vectors.{cross_on_left, cross_on_right}
use Rattle.plan_spec.specs.Parity.{parity}
use Rattle.plan_spec.specs.Polygon.{edges}
use Rattle.plan_spec.specs.Segment.{HasPoints, segment, On}
use Rattle.plan_spec.specs.Vector.{Vector, IsPoint, LeX, turn}
use Rattle.plan_plane.proofs.Lists.{all_right, all_left}
use Rattle.plan_plane.proofs.Polygon.Cut.{whole, part_one, all_two, chain, edges_part}
use Rattle.plan_plane.proofs.Polygon.Edges.{ends_of_edges}
use Rattle.plan_poly.proofs.EvenOdd.Chains.{closed}
use Rattle.plan_poly.proofs.Loop.Corner.{right_of_v}
use Rattle.plan_poly.proofs.Loop.Loop.{Loop, meet_reversed}
use Rattle.plan_poly.proofs.Loop.Parts.{rotated, loop_part}
use Rattle.plan_tri.proofs.Corner.Beside.{off_chain, beside_ahead}
use Rattle.plan_tri.proofs.Corner.Corner.{OutOfWay}
use Rattle.plan_tri.proofs.Ear.Diagonal.{ear_meets_path}
use Rattle.plan_tri.proofs.Ear.Ear.{AtEar, nonpos, ear_clean, ahead_v, ear_corner}

-- ---- the rest is a loop
pub rest_loop : {v w : Vector} {b : Vector} {bs : List Vector} {u : Vector} → AtEar v w (b ∷ bs) u → Loop (part_one w (b ∷ bs) u)
rest_loop {v} {w} {b} {bs} {u} k =
    let l : Loop (whole u (v ∷ []) w (b ∷ bs)) = rotated v (w ∷ b ∷ bs) u [] k.at.loop in
    loop_part w (b ∷ bs) u (v ∷ []) (rotated u (v ∷ []) w (b ∷ bs) l) (λ i d within. meet_reversed u w (ear_meets_path k i d within))

-- ---- beside the triangle the rest is even
abbrev pub rest : Vector → List Vector → Vector → List Vector
rest w mid u = part_one w mid u

-- the corner's list from u on
abbrev pub from_u : Vector → Vector → List Vector → Vector → List Vector
from_u v w mid u = whole u (v ∷ []) w mid

pub points_u : {v w : Vector} {mid : List Vector} {u : Vector} → AtEar v w mid u → All IsPoint (from_u v w mid u)
points_u {v} {w} {mid} {u} k = (rotated v (w ∷ mid) u [] k.at.loop).points

right_u : {v w : Vector} {mid : List Vector} {u : Vector} → AtEar v w mid u → All (LeX v) (from_u v w mid u)
right_u {v} {w} {mid} {u} k =
    let h = right_of_v k.at in
    All-append (LeX v) (u ∷ []) (v ∷ w ∷ mid) (all_right (LeX v) (v ∷ w ∷ mid) (u ∷ []) h) (all_left (LeX v) (v ∷ w ∷ mid) (u ∷ []) h)

rest_points : {v w : Vector} {mid : List Vector} {u : Vector} → AtEar v w mid u → All HasPoints (edges (rest w mid u))
rest_points {v} {w} {mid} {u} k = ends_of_edges IsPoint (rest w mid u) (all_two IsPoint u (v ∷ []) w mid (points_u k))

rest_clear : {v w : Vector} {mid : List Vector} {u : Vector} → AtEar v w mid u → All (OutOfWay v w u (cross w u) (cross w u)) (edges (rest w mid u))
rest_clear {v} {w} {mid} {u} k =
    let P = OutOfWay v w u (cross w u) (cross w u) in
    subst (All P) (sym (edges_part w mid u)) (All-append P (chain w mid u) (segment u w ∷ []) (λ i d within. inl (ear_clean k i d within)) (All-cons P (segment u w) [] (inr (record { first = nonpos (cross_on_right w u); second = nonpos (cross_on_left w u) })) (All-nil P)))

pub rest_off : {v w : Vector} {mid : List Vector} {u : Vector} → AtEar v w mid u → (z : Vector) → IsPoint z → pos 0 ≤ℤ turn v w z → pos 0 ≤ℤ turn u v z → pos 0 <ℤ turn w u z → All (λ s. ¬ (On s z)) (edges (rest w mid u))
rest_off {v} {w} {mid} {u} k z hz a b f = off_chain (cross w u) (edges (rest w mid u)) (rest_points k) (rest_clear k) z hz (record { after = a; before = b; within = f }) f

pub rest_even : {v w : Vector} {mid : List Vector} {u : Vector} → AtEar v w mid u → (z : Vector) → IsPoint z → pos 0 ≤ℤ turn v w z → pos 0 ≤ℤ turn u v z → pos 0 <ℤ turn w u z → parity (edges (rest w mid u)) z ≡ false
rest_even {v} {w} {mid} {u} k z hz a b f =
    beside_ahead (ear_corner k) (cross w u) (ahead_v k) (edges (rest w mid u)) (rest_points k) (closed (rest w mid u)) (ends_of_edges (LeX v) (rest w mid u) (all_two (LeX v) u (v ∷ []) w mid (right_u k))) (rest_clear k) z hz (record { after = a; before = b; within = f }) f
