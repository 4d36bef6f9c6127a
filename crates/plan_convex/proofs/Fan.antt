-- What a convex polygon of spots holds is held by a triangle of three of its vertices: the fan of the polygon, as spots.
use Rattle.std.proofs.Common.{◌≡◌, pos, ◌≤◌, ◌<ℤ◌, List, [], ◌∷◌, length, All, Contains, refl, sym, subst}
use Rattle.std.proofs.lemmas.List.{length-map}
use Rattle.std.proofs.lemmas.List.Elements.{All-map, All-weaker, All-contains}
use Rattle.plan_spec.specs.Vector.{Vector, turn}
use Rattle.plan_spec.specs.Polygon.{IsConvex, Inside}
use Rattle.plan_plane.proofs.Polygon.Fan as fan
use Rattle.plan_grid.specs.declared.spot.Spot.{Spot}
use Rattle.plan_grid.specs.Spot.{spot_seen, spots_seen, way, cross}
use Rattle.plan_grid.proofs.Turns.{turn_cross}

-- a triangle of spots with the property H that holds p
pub record HoldingTriangle (H : Spot → Type 0) (p : Vector) : Type 0 where
  pub a : Spot
  pub b : Spot
  pub c : Spot
  pub has_a : H a
  pub has_b : H b
  pub has_c : H c
  pub turns : pos 0 <ℤ cross (way a b) (way a c)
  pub holds : Inside (spots_seen (a ∷ b ∷ c ∷ [])) p

-- the vector of a spot with the property
abbrev Has : (Spot → Type 0) → Vector → Type 0
Has H v = (s : Spot) × H s × (spot_seen s ≡ v)

of_spots : (H : Spot → Type 0) (p a b c : Vector) → Has H a → Has H b → Has H c → pos 0 <ℤ turn a b c → Inside (a ∷ b ∷ c ∷ []) p → HoldingTriangle H p
of_spots H p a b c x y z turns inside =
    let here : pos 0 <ℤ turn (spot_seen x.0) (spot_seen y.0) (spot_seen z.0) = rw (← x.2, ← y.2, ← z.2) at turns in
    let first = subst (λ (v : Vector). Inside (v ∷ b ∷ c ∷ []) p) (sym x.2) inside in
    let second = subst (λ (v : Vector). Inside (spot_seen x.0 ∷ v ∷ c ∷ []) p) (sym y.2) first in
    let held = subst (λ (v : Vector). Inside (spot_seen x.0 ∷ spot_seen y.0 ∷ v ∷ []) p) (sym z.2) second in
    record { a = x.0; b = y.0; c = z.0; has_a = x.1; has_b = y.1; has_c = z.1; turns = rw (← turn_cross x.0 y.0 z.0) here; holds = held }

pub held_by_triangle : (H : Spot → Type 0) (p : Vector) (vs : List Spot) → 3 ≤ length vs → IsConvex (spots_seen vs) → All H vs → Inside (spots_seen vs) p → HoldingTriangle H p
held_by_triangle H p vs long convex hs inside =
    let t = fan.fan (spots_seen vs) p convex (rw length-map long) inside in
    let all : All (Has H) (spots_seen vs) = All-map (Has H) spot_seen vs (All-weaker H (λ s. Has H (spot_seen s)) (λ s h. (s, h, refl)) vs hs) in
    let at = λ (v : Vector) (i : Contains (spots_seen vs) v). All-contains (Has H) (spots_seen vs) v all i in
    of_spots H p t.a t.b t.c (at t.a t.a_has) (at t.b t.b_has) (at t.c t.c_has) t.turns_left t.inside
